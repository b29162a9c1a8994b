use Rattle.std.proofs.Common.{ℕ, ◌<◌, ◌≤◌, []}
use Rattle.std.specs.Prelude.{slice_index_or}
use Rattle.c_tree.specs.LockNames.{count_held}
use Rattle.lock_discipline.proofs.held.are_small.Given as goal

abbrev pub invariant-loop-set : goal.invariant-loop-set
invariant-loop-set l = (step : ℕ) → step < l.set-index → count_held (slice_index_or l.sets step []) ≤ l.most
