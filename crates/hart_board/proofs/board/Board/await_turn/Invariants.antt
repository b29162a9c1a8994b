use Rattle.std.proofs.Common.{◌≡◌}
use mathlib.Core.List.{IsPrefix}
use Rattle.hart_board.specs.CoreTurns.{RunsIn, RunsOn}
use Rattle.hart_board.specs.Journals.{entries_by}
use Rattle.hart_board.specs.Seats.{IsSeatOf, seen, number, quota_of, turn_limit}
use Rattle.hart_board.proofs.board.Board.await_turn.Given as goal

abbrev pub invariant-loop : goal.invariant-loop
invariant-loop g l = record {
  seat : IsSeatOf g.C.Core.history g.C.Core.space (RunsIn g.C.Core.opening g.C.Core.hart_count g.C.Core.is_local g.C.Core.ahead_by) l.self l.seat;
  same : number l.seat ≡ number l.fn.seat;
  begins : IsPrefix (seen l.fn.seat) (seen l.seat);
  own : entries_by (number l.fn.seat) (seen l.seat) ≡ entries_by (number l.fn.seat) (seen l.fn.seat);
  on : RunsOn g.C.Core.is_at_beginning (turn_limit l.most l.fn.seat) l.fn.seat.local l.seat.local;
  quota : quota_of l.seat ≡ quota_of l.fn.seat;
}
