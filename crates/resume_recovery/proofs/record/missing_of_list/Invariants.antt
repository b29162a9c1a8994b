use Rattle.std.proofs.Common.{◌≡◌, ◌-◌, ◌<◌, ℕ, List, length, map}
use Rattle.std.specs.Prelude.{IfSome}
use Rattle.log_schemes.specs.declared.keeping.Keeping.TheVariants.{Listed}
use Rattle.log_schemes.specs.Layout.{slot_at}
use Rattle.log_schemes.specs.Schemes.{lock_slot, numbers_from, read_as}
use Rattle.ido_base.specs.Locks.{least_missing}
use Rattle.ido_base.specs.Words.{Word}
use Rattle.line_memory.specs.links.MemoryRepresentation.{Represents}
use Rattle.machine_model.specs.Machine.{durable_at}
use Rattle.resume_recovery.proofs.Lists.{least_of}
use Rattle.resume_recovery.proofs.record.missing_of_list.Given as goal

abbrev pub invariant-loop-index : goal.invariant-loop-index
invariant-loop-index l = record {
  least : (words : List Word) → Represents l.memory words →
      least_of l.least
      (least_missing l.locks
      (map (λ index. durable_at words (slot_at l.memory.log l.hart l.bank (lock_slot l.memory.log index))) (numbers_from l.index (l.count - l.index))) l.hart) ≡
      least_missing l.locks (read_as Listed l.memory.log (λ slot. durable_at words (slot_at l.memory.log l.hart l.bank slot))) l.hart;
  within : IfSome l.least (λ lock. lock < length l.locks);
}
