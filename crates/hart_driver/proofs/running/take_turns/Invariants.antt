use Rattle.std.proofs.Common.{◌≡◌, ◌<◌}
use Rattle.hart_board.specs.CoreTurns.{RunsIn}
use Rattle.hart_board.specs.Seats.{IsSeatOf, number}
use Rattle.hart_driver.proofs.running.take_turns.Given as goal

abbrev pub invariant-loop-turn : goal.invariant-loop-turn
invariant-loop-turn g l = record {
  seat : IsSeatOf g.C.Core.history g.C.Core.space (RunsIn g.C.Core.opening g.C.Core.hart_count g.C.Core.is_local g.C.Core.ahead_by) l.board l.seat;
  same : number l.seat ≡ number l.fn.seat;
  some : 0 < l.most;
}
