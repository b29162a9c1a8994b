use Rattle.std.proofs.Common.{ℕ, ◌<◌, ◌≤◌, []}
use Rattle.std.specs.Prelude.{slice_index_or}
use Rattle.c_tree.specs.LockNames.{count_held}
use Rattle.lock_discipline.proofs.held.Held.are_at_most.Given as goal

abbrev pub invariant-loop-sets : goal.invariant-loop-sets
invariant-loop-sets l =
    (thread : ℕ) → thread < l.sets-index → (step : ℕ) → count_held (slice_index_or (slice_index_or l.self thread []) step []) ≤ l.most
