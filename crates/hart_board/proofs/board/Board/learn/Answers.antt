use Rattle.std.proofs.Common.{ap, ◌∙◌, refl, false, ℕ, List}
use Rattle.atomic_table.specs.Table.{Me}
use Rattle.hart_board.specs.declared.views.View.{View}
use Rattle.hart_board.specs.declared.views.View.TheVariants.{Seated}
use Rattle.hart_board.specs.BoardRule.{met, with_seen}
use Rattle.hart_board.specs.CoreTurns.{RunsIn}
use Rattle.hart_board.proofs.Meetings.{learns}
use Rattle.hart_board.proofs.board.Board.learn.Goals as goal

pub meet-requires-clause-seats : goal.meet-requires-clause-seats
meet-requires-clause-seats g c κs within = let h = c.requires.seat.seat in let o = c.requires.note in
    (h.known, o.known, ap (λ m. m.0) h.represents.me, o.me, h.represents.out, o.out)

pub see-requires-clause-seated : goal.see-requires-clause-seated
see-requires-clause-seated g c κs within = let h = c.requires.seat.seat in let o = c.requires.note in
    (met h.known o.known, ap (λ m. m.0) (c.meet.ensures.met h.known o.known (ap (λ m. m.0) h.represents.me) o.me), h.represents.out)

pub returns : goal.returns
returns g c = let h = c.requires.seat.seat in let o = c.requires.note in let s = c.args.seat.now in
    let met_is = c.meet.ensures.met h.known o.known (ap (λ m. m.0) h.represents.me) o.me in
    let x = c.see.ensures.saw.1 (met h.known o.known) (ap (λ m. m.0) met_is) h.represents.out in
    let all = learns g.C.Core.behaviour g.C.Core.opening g.C.Core.history g.C.Core.hart_count g.C.Core.space
    (RunsIn g.C.Core.opening g.C.Core.hart_count g.C.Core.is_local g.C.Core.ahead_by) c.args.self.now s
    record { place = c.see.new.place; number = s.number; turns = s.turns; ceiling = s.ceiling; made = s.made; ticket = s.ticket; local = s.local } c.args.note
    c.requires.seat o x.0 x.1
    (x.2 ∙ ap (λ (cs : List (ℕ × g.row.C.Denot)). (Seated (with_seen (met h.known o.known) x.0 false), cs))
    (ap (λ (m : Me g.row.C.Denot (View g.row.C.Denot)). m.1) met_is ∙ ap (λ (m : Me g.row.C.Denot (View g.row.C.Denot)). m.1) h.represents.me))
    (c.see.ensures.same.0 ∙ c.meet.ensures.same.0) refl refl refl refl refl c.requires.seat.ahead in
    record { seat = all.0; same = (refl, refl); sees = all.1; told = all.2 }
