use Rattle.std.proofs.Common.{◌≡◌, ℕ, ◌<◌, List, get_or, length}
use Rattle.ido_base.specs.Words.{Word}
use Rattle.line_memory.specs.links.MemoryRepresentation.{Represents}
use Rattle.machine_model.specs.Machine.{resumed_register}
use Rattle.resume_recovery.proofs.record.resumed_registers.Given as goal

abbrev pub invariant-loop-register : goal.invariant-loop-register
invariant-loop-register l = record {
  size : length l.registers ≡ 32;
  set : (words : List Word) → Represents l.memory words → (i : ℕ) → i < l.register → get_or l.registers i 0 ≡ resumed_register l.memory.log words l.hart i;
}
