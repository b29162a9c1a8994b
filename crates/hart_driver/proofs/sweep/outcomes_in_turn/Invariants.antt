use Rattle.std.proofs.Common.{◌-◌, ◌≤◌}
use Rattle.hart_driver.specs.Outcomes.{AreOutcomes}
use Rattle.hart_driver.proofs.sweep.outcomes_in_turn.Given as goal

abbrev pub invariant-loop-k : goal.invariant-loop-k
invariant-loop-k g l = (l.first ≤ l.k) × AreOutcomes (g.P.Replay.is_outcome l.replay) l.first (l.k - l.first) l.outcomes.items
