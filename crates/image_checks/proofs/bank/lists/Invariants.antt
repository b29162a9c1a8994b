use Rattle.std.proofs.Common.{◌↔◌, ℕ, drop}
use Rattle.log_schemes.specs.Schemes.{lock_slot}
use Rattle.image_checks.specs.Logs.{AreFrom, logs_of, slot_in}
use Rattle.image_checks.proofs.bank.lists.Given as goal

abbrev pub invariant-loop-index : goal.invariant-loop-index
invariant-loop-index l =
    AreFrom (λ (index : ℕ). slot_in (logs_of l.log l.logs) l.thread l.bank (lock_slot l.log index)) l.index (drop l.index l.locks)
    ↔ AreFrom (λ (index : ℕ). slot_in (logs_of l.log l.logs) l.thread l.bank (lock_slot l.log index)) 0 l.locks
