use Rattle.std.proofs.Common.{ℕ, ◌<◌}
use Rattle.image_checks.specs.Checks.{IsUnshared}
use Rattle.image_checks.specs.Logs.{logs_of}
use Rattle.image_checks.proofs.mutexes.check_mutexes.Given as goal

abbrev pub invariant-loop-lock : goal.invariant-loop-lock
invariant-loop-lock l = (less : ℕ) → less < l.lock → IsUnshared (logs_of l.log l.logs) l.threads less
