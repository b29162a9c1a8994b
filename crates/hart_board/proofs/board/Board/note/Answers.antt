use Rattle.std.proofs.Common.{ap, sym, ◌∙◌, refl}
use Rattle.hart_board.specs.Seats.{seen_in}
use Rattle.hart_board.specs.CoreTurns.{RunsIn}
use Rattle.hart_board.proofs.Meetings.{noting}
use Rattle.hart_board.proofs.board.Board.note.Goals as goal

pub split_note-requires-clause-seated : goal.split_note-requires-clause-seated
split_note-requires-clause-seated g c κs within = let h = c.requires.seat.seat in (h.known, ap (λ m. m.0) h.represents.me, h.represents.out)

pub returns-clause-seat : goal.returns-clause-seat
returns-clause-seat g c = let s = c.args.seat.now in
    noting g.C.Core.history g.C.Core.space (RunsIn g.C.Core.opening g.C.Core.hart_count g.C.Core.is_local g.C.Core.ahead_by) c.args.self.now s record {
      place = c.split_note.new.place;
      number = s.number;
      turns = s.turns;
      ceiling = s.ceiling;
      made = s.made;
      ticket = s.ticket;
      local = s.local;
    } c.requires.seat
    c.split_note.ensures.same.2 c.split_note.ensures.same.0 refl refl refl refl refl c.requires.seat.ahead

pub returns-clause-note : goal.returns-clause-note
returns-clause-note g c = let h = c.requires.seat.seat in let n = c.split_note.ensures.new h.known (ap (λ m. m.0) h.represents.me) in (
  record { known = _; table = n.0 ∙ h.table; me = n.1; out = refl; numbers = refl; drawn = refl },
  ap (λ (m : _). seen_in m.0) n.1 ∙ sym (ap (λ (m : _). seen_in m.0) h.represents.me),
)
