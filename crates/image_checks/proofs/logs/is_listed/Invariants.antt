use Rattle.std.proofs.Common.{◌≡◌, ◌-◌, map}
use Rattle.log_schemes.specs.declared.keeping.Keeping.TheVariants.{Listed}
use Rattle.ido_base.specs.Locks.{has_lock}
use Rattle.log_schemes.specs.Schemes.{lock_slot, numbers_from, read_as}
use Rattle.image_checks.specs.Logs.{logs_of, slot_in}
use Rattle.image_checks.proofs.logs.is_listed.Given as goal

abbrev pub invariant-loop-index : goal.invariant-loop-index
invariant-loop-index l =
    has_lock (map (λ index. slot_in (logs_of l.log l.logs) l.thread l.bank (lock_slot l.log index)) (numbers_from l.index (l.count - l.index))) l.lock
    ≡ has_lock (read_as Listed l.log (λ slot. slot_in (logs_of l.log l.logs) l.thread l.bank slot)) l.lock
