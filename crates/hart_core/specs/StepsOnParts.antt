-- What a step does to the parts of a machine, by what it does to the world that they represent.
-- Which world the parts represent begins with a clause of `Machine::start` and goes on with each step.
use Rattle.std.specs.Prelude.{◌≡◌, ℕ, List, length, slice_get, slice_set, Option, Some}
use Rattle.machine_events.specs.declared.event.Reply.{Reply}
use Rattle.ido_base.specs.Words.{Entry}
use Rattle.line_memory.specs.declared.memory.LineMemory.{LineMemory}
use Rattle.line_memory.specs.declared.queue.Queue.{Queue}
use Rattle.line_memory.specs.links.Queues.{RepresentsQueue}
use Rattle.line_memory.specs.links.MemoryRepresentation.{Represents, Logs, logs_of}
use Rattle.machine_model.specs.declared.phase.Phase.{Phase}
use Rattle.machine_model.specs.Machine.{Hart as HartModel, World, Outcome}
use Rattle.hart_core.specs.declared.hart.Hart.{Hart}
use Rattle.hart_core.specs.links.Harts.{RepresentsHart}

-- what one hart can reach of a machine: its phase, itself, the memory and the holders of locks
pub record Parts : Type 0 where
  pub phase : Phase
  pub hart : Hart
  pub memory : LineMemory
  pub locks : List (Option ℕ)

-- how many threads of a world have logs, and how these log
abbrev pub logs_in : World → Logs
logs_in w = record { log = w.log; threads = length w.harts }

-- the parts represent this world, in which the hart of that number is this one
pub record PartsStand (parts : Parts) (number : ℕ) (w : World) (model : HartModel) : Type 0 where
  pub words : Represents parts.memory w.words
  pub holders : w.holders ≡ parts.locks
  pub logs : logs_in w ≡ logs_of parts.memory
  pub found : slice_get w.harts number ≡ Some model
  pub phase : model.phase ≡ parts.phase
  pub hart : RepresentsHart parts.hart model w.words

-- the parts represent the world of an outcome, and the reply is its; of the harts only that one has changed, and every
-- queue represents the entries that it represented
pub record PartsEnd (parts : Parts) (reply : Reply) (number : ℕ) (w : World) (outcome : Outcome) : Type 0 where
  pub replied : reply ≡ outcome.1
  pub model : HartModel
  pub stand : PartsStand parts number outcome.0 model
  pub harts : outcome.0.harts ≡ slice_set w.harts number model
  pub recovering : outcome.0.recovering ≡ w.recovering
  pub queues : (any : Queue) (entries : List Entry) → RepresentsQueue any entries w.words → RepresentsQueue any entries outcome.0.words

-- a step of the hart of that number, from these parts to those
pub record IsStep (step : World → HartModel → Outcome) (number : ℕ) (before after : Parts) (reply : Reply) : Type 0 where
  pub each : (w : World) (model : HartModel) → PartsStand before number w model → PartsEnd after reply number w (step w model)
