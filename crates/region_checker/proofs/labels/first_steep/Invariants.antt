use Rattle.std.proofs.Common.{ℕ, ◌≤◌}
use Rattle.region_checker.specs.links.LabelSearch.{IsSteepTo}
use Rattle.region_checker.proofs.labels.first_steep.Given as goal

abbrev pub invariant-loop-before : goal.invariant-loop-before
invariant-loop-before l = (to : ℕ) → to ≤ l.before → ¬ (IsSteepTo l.fn.first l.labels l.fn.from l.fn.limit to)
