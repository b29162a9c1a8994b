use Rattle.std.proofs.Common.{◌≡◌, ℕ}
use Rattle.image_checks.specs.Logs.{home_in, locals_by, logs_of}
use Rattle.image_checks.proofs.bank.locals_by.Given as goal

abbrev pub invariant-loop-local : goal.invariant-loop-local
invariant-loop-local l = l.numbers.items ≡ locals_by (λ (colour : ℕ). home_in (logs_of l.log l.logs) l.thread l.bank colour) l.live l.local
