use Rattle.std.proofs.Common.{arith, ap, sym, ◌∙◌, suc, ◌-◌, ◌≡◌, ℕ, [], Option, subst}
use Rattle.hart_board.specs.declared.core_turn.Ahead.{Ahead}
use Rattle.hart_board.specs.declared.seat.Seat.{Seat}
use Rattle.hart_board.specs.declared.views.View.TheVariants.{Seated}
use Rattle.hart_board.specs.BoardRule.{numbers_from, dealt}
use Rattle.hart_board.specs.CoreTurns.{RunsIn}
use Rattle.hart_board.proofs.Dealing.{new_seat, row_more, row_length}
use Rattle.hart_board.proofs.board.Board.deal.Goals as goal

pub deal_first-first-requires-clause-me : goal.deal_first-first-requires-clause-me
deal_first-first-requires-clause-me g c κs within = let i = c.loop-number.number in let m = c.args.count - i in
    (i, m, c.loop-number.invariant.me (suc m) (omega arith))

pub push_reserved-requires : goal.push_reserved-requires
push_reserved-requires g c = let n = row_length c.loop-number.row.items c.loop-number.number c.loop-number.invariant.numbers in
    let r = c.loop-number.invariant.room in let q = c.requires.row.1 in omega (arith, n, r, q)

pub loop-number-preserved : goal.loop-number-preserved
loop-number-preserved g c = let i = c.loop-number.number in let inv = c.loop-number.invariant in let dealt = c.deal_first-first.ensures.dealt in
    let m = c.args.count - i in
    let d = dealt i m (inv.me (suc m) (omega arith)) in
    let s = c.seated.result in let is = c.seated.ensures in let key = c.requires.key in
    let new = new_seat g.C.Core.history g.C.Core.space (RunsIn g.C.Core.opening g.C.Core.hart_count g.C.Core.is_local g.C.Core.ahead_by) c.args.self.now s i
    (ap (λ (z : Seat _ _). z.place.table_id) is ∙ c.deal_first-first.ensures.table.1) (ap (λ (z : Seat _ _). z.place.me) is ∙ d.1)
    (ap (λ (z : Seat _ _). z.number) is)
    (ap (λ (z : Seat _ _). z.turns) is ∙ sym key.0) (ap (λ (z : Seat _ _). z.ceiling) is ∙ sym key.1) (ap (λ (z : Seat _ _). z.made) is)
    (ap (λ (z : Seat _ _). z.ticket) is) (let small = c.ranges.count.fits in omega (arith, small)) (let all = key.2 in omega (arith, all)) key.3
    (subst (λ (z : ℕ × Option (Ahead g.row.C-Local.Denot)).
    RunsIn g.C.Core.opening g.C.Core.hart_count g.C.Core.is_local g.C.Core.ahead_by c.args.self.now.table.shared.key.opening.value z.0 z.1)
    (λ j. (sym (ap (λ (z : Seat _ _). z.number) is) j, sym (ap (λ (z : Seat _ _). z.local) is ∙ c.take_at-own.ensures.taken) j))
    (inv.ahead i (omega arith) (omega arith))) in
    let row = row_more g.C.Core.history g.C.Core.space (RunsIn g.C.Core.opening g.C.Core.hart_count g.C.Core.is_local g.C.Core.ahead_by) c.args.self.now
    c.loop-number.row.items c.push_reserved.new.self.items s i c.push_reserved.ensures.items inv.numbers inv.seats (ap (λ (z : Seat _ _). z.number) is) new in
    record {
      table = c.deal_first-first.ensures.table.0;
      me = λ n e. (dealt i n (inv.me (suc n) (omega (arith, e)))).0;
      numbers = row.0;
      seats = row.1;
      room = c.push_reserved.ensures.capacity ∙ inv.room;
      ahead = λ n from below.
          subst (λ (z : Option (Ahead g.row.C-Local.Denot)).
          RunsIn g.C.Core.opening g.C.Core.hart_count g.C.Core.is_local g.C.Core.ahead_by c.args.self.now.table.shared.key.opening.value n z)
          (sym (c.take_at-own.ensures.others n (λ e. omega (arith, e, from)))) (inv.ahead n (omega (arith, from)) below);
    }

pub returns-clause-place : goal.returns-clause-place
returns-clause-place g c = let i = c.loop-number.invariant in let last : c.loop-number.number ≡ c.args.count = omega arith in
    (i.table, i.me 1 (omega arith) ∙ ap (λ (n : ℕ). (Seated (dealt c.args.self.now.table.shared.key (numbers_from n 1)), [])) last)
