-- What a machine in the code represents.
use Rattle.std.specs.Prelude.{◌≡◌, ℕ, List, Option, Bool}
use Rattle.machine_events.specs.declared.event.Reply.{Reply}
use Rattle.log_schemes.specs.declared.log.Log.{Log}
use Rattle.line_memory.specs.declared.memory.LineMemory.{LineMemory}
use Rattle.line_memory.specs.links.MemoryRepresentation.{Represents, log_in}
use Rattle.rv64_isa.specs.declared.object.Slot.{Slot}
use Rattle.machine_model.specs.declared.phase.Phase.{Phase}
use Rattle.machine_model.specs.Machine.{World, Outcome}
use Rattle.hart_core.specs.declared.hart.Hart.{Hart}
use Rattle.resume_recovery.specs.RecoverySteps.{phases_of}
use Rattle.ido_machine.specs.declared.machine.Machine.{Machine}
use Rattle.ido_machine.specs.Harts.{HartsStand}

-- what it runs
abbrev pub program_in : Machine → List (List Slot)
program_in machine = machine.program

-- how its threads log
abbrev pub log_by : Machine → Log
log_by machine = log_in machine.memory

-- how many events it has made
abbrev pub events_of : Machine → ℕ
events_of machine = machine.events

-- what changes of a machine: phases and harts, memory and locks, and whether it is in recovery
pub record MachineState : Type 0 where
  pub phases : List Phase
  pub harts : List Hart
  pub memory : LineMemory
  pub locks : List (Option ℕ)
  pub recovering : Bool

abbrev pub state_of : Machine → MachineState
state_of machine = record {
  phases = machine.phases.items;
  harts = machine.harts.items;
  memory = machine.memory;
  locks = machine.locks;
  recovering = machine.recovering;
}

-- all of the machine's state is that of the world
pub record RepresentsMachineState (state : MachineState) (w : World) : Type 0 where
  pub words : Represents state.memory w.words
  pub holders : w.holders ≡ state.locks
  pub phases : phases_of w ≡ state.phases
  pub standing : HartsStand state.harts w.harts w.words
  pub recovering : w.recovering ≡ state.recovering
  pub log : w.log ≡ log_in state.memory

-- the machine's harts with their phases and queues, its memory and its locks are those of the world
abbrev pub RepresentsMachine : Machine → World → Type 0
RepresentsMachine machine w = RepresentsMachineState (state_of machine) w

-- the state is that of the world of an outcome, and the reply is its
pub record StateEnds (state : MachineState) (reply : Reply) (outcome : Outcome) : Type 0 where
  pub replied : reply ≡ outcome.1
  pub stands : RepresentsMachineState state outcome.0

-- the machine is at the world of an outcome, and the reply is its
abbrev pub IsAfter : Machine → Reply → Outcome → Type 0
IsAfter machine reply outcome = StateEnds (state_of machine) reply outcome
