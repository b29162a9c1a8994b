use Rattle.std.proofs.Common.{ℕ, ◌<◌, ◌≤◌}
use Rattle.image_checks.specs.Logs.{HoldsLock, logs_of}
use Rattle.image_checks.proofs.mutexes.holder_from.Given as goal

abbrev pub invariant-loop-thread : goal.invariant-loop-thread
invariant-loop-thread l = (k : ℕ) → l.from ≤ k → k < l.thread → ¬ (HoldsLock (logs_of l.log l.logs) k l.lock)
