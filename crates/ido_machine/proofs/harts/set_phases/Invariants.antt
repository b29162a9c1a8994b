use Rattle.std.proofs.Common.{◌≡◌, ℕ, ◌<◌, List, get_or, length}
use Rattle.ido_base.specs.Words.{Word}
use Rattle.line_memory.specs.links.MemoryRepresentation.{Represents}
use Rattle.machine_model.specs.declared.phase.Phase.TheVariants.{Done}
use Rattle.machine_model.specs.Machine.{phase_after_crash, durable_point}
use Rattle.ido_machine.proofs.harts.set_phases.Given as goal

abbrev pub invariant-loop-thread : goal.invariant-loop-thread
invariant-loop-thread l = record {
  size : length l.phases ≡ length l.initial.phases;
  set : (words : List Word) → Represents l.memory words → (i : ℕ) → i < l.thread →
      get_or l.phases i Done ≡ phase_after_crash (durable_point l.memory.log words i);
}
