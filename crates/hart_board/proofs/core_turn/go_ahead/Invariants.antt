use Rattle.std.proofs.Common.{◌-◌, ℕ, Some}
use Rattle.hart_board.specs.CoreTurns.{RunsIn, RunsOn}
use Rattle.hart_board.proofs.core_turn.go_ahead.Given as goal

abbrev pub invariant-loop-ahead : goal.invariant-loop-ahead
invariant-loop-ahead g l = record {
  runs : (core : g.row.C.Denot) (seat : ℕ) →
      RunsIn g.C.Core.opening g.C.Core.hart_count g.C.Core.is_local g.C.Core.ahead_by core seat (Some l.fn.ahead) →
      RunsIn g.C.Core.opening g.C.Core.hart_count g.C.Core.is_local g.C.Core.ahead_by core seat (Some l.ahead);
  on : RunsOn g.C.Core.is_at_beginning l.most (Some l.fn.ahead) (Some l.ahead);
}

abbrev pub decreases-loop-ahead : goal.decreases-loop-ahead
decreases-loop-ahead g l = l.most - l.ahead.steps
