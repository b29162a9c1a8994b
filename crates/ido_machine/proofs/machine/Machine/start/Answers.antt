use Rattle.std.proofs.Common.{◌≡◌, ℕ, List, false, length, map, replicate, rules, refl, sym, ap, subst, ◌∙◌}
use Rattle.log_schemes.specs.declared.log.Log.{Log}
use Rattle.ido_base.specs.Words.{word_of}
use Rattle.log_schemes.specs.Layout.{initial_words}
use Rattle.line_memory.specs.links.MemoryRepresentation.{Represents, log_in}
use Rattle.rv64_isa.specs.declared.object.Slot.{Slot}
use Rattle.machine_model.specs.declared.phase.Phase.TheVariants.{Run}
use Rattle.machine_model.specs.Machine.{start_of}
use Rattle.ido_machine.specs.Machines.{MachineState, RepresentsMachineState}
use Rattle.ido_machine.proofs.Starts.{start_simulates}
use Rattle.ido_machine.proofs.machine.Machine.start.Goals as goal

pub returns-clause-stands : goal.returns-clause-stands
returns-clause-stands c =
    let object = c.args.object.now in
    let program = c.in_ok-program.program in
    let state : MachineState =
    record {
      phases = c.in_ok-phases.phases.items;
      harts = c.in_ok-harts.harts.items;
      memory = c.in_ok-memory.memory;
      locks = c.in_ok-locks.locks;
      recovering = false;
    } in
    let stands : Represents c.in_ok-memory.memory (map word_of (initial_words (log_in c.in_ok-memory.memory) (length program) object.initial.items)) =
    subst (λ (n : ℕ). Represents c.in_ok-memory.memory (map word_of (initial_words (log_in c.in_ok-memory.memory) n object.initial.items)))
    c.threads.ensures.count
    (subst (λ (bytes : List ℕ). Represents c.in_ok-memory.memory (map word_of (initial_words (log_in c.in_ok-memory.memory) c.threads.result bytes)))
    c.deref.ensures.value
    (subst (λ (log : Log). Represents c.in_ok-memory.memory (map word_of (initial_words log c.threads.result c.deref.result.now)))
    (sym c.in_ok-memory.ensures.log) c.in_ok-memory.ensures.stands)) in
    let runs : c.in_ok-phases.phases.items ≡ replicate c.threads-2.result Run = search rules in
    let phases : c.in_ok-phases.phases.items ≡ replicate (length program) Run = runs ∙ ap (λ (n : ℕ). replicate n Run) c.threads-2.ensures.count in
    subst (λ (p : List (List Slot)). RepresentsMachineState state (start_of object.log p object.mutexes object.initial.items)) c.in_ok-program.ensures
    (subst (λ (log : Log). RepresentsMachineState state (start_of log program object.mutexes object.initial.items)) c.in_ok-memory.ensures.log
    (start_simulates program object.mutexes object.initial.items state c.in_ok-harts.ensures phases stands c.in_ok-locks.ensures refl))
