-- What the machine's events are to a thread's log.
use Rattle.std.specs.List.{Contains}
use Rattle.std.specs.Prelude.{◌≡◌, ◌≢◌, ◌⊎◌, ℕ, ◌+◌, ◌*◌, ◌/◌, ◌%◌, ◌<◌, List, ◌∷◌, slice_get, Some, Bool, true, false, ◌==◌, if◌then◌else◌}
use Rattle.log_schemes.specs.declared.log.Log.{Log}
use Rattle.machine_events.specs.declared.event.Event.TheVariants.{Step, Evict, Crash}
use Rattle.machine_events.specs.declared.event.Reply.TheVariants.{Moved, Drained}
use Rattle.ido_base.specs.Words.{crashed}
use Rattle.ido_base.specs.Layout.{variables_base, variable_lines, line_bytes, byte_number}
use Rattle.log_schemes.specs.Layout.{frame_at, log_words, log_of}
use Rattle.rv64_isa.specs.declared.object.Slot.{Slot}
use Rattle.rv64_isa.specs.Rows.{Effect, Continues, Loads, Stores, Cleans, Fences, Calls}
use Rattle.machine_model.specs.Machine.{Hart, World, after_event, reply_to}
use Rattle.machine_model.specs.Frames.{IsWellFormedWorld}
use Rattle.machine_model.specs.Schedule.{has_moved, is_running, effect_at}
use Rattle.log_states.specs.Logs.{Record, IsFrameWord, IsUnnamed, log_word}
use Rattle.log_states.specs.Stages.{LogConfig, Moves, LogIs, is_store}

abbrev pub config_of : World → Hart → (rest : List Effect) → LogConfig
config_of w hart rest = record { words = w.words; queue = hart.queue; rest = rest }

-- hart h is there after an event, and the event is a move of its log
pub record MovesTo (h : ℕ) (named : List ℕ) (w : World) (hart : Hart) (rest : List Effect) (after : World) (rest_after : List Effect) : Type 0 where
  pub next : Hart
  pub there : slice_get after.harts h ≡ Some next
  pub log : after.log ≡ w.log
  pub moves : Moves w.log h named (config_of w hart rest) (config_of after next rest_after)

-- an effect such as a boundary has
abbrev pub is_boundary_effect : Effect → Bool
is_boundary_effect (Continues registers pc) = false
is_boundary_effect (Loads address bytes signed register) = false
is_boundary_effect (Stores address bytes value) = bytes == 8
is_boundary_effect (Cleans address) = true
is_boundary_effect Fences = true
is_boundary_effect Calls = false

-- the hart runs, and this is the effect of its next instruction
pub record IsNext (program : List (List Slot)) (w : World) (h : ℕ) (hart : Hart) (effect : Effect) : Type 0 where
  pub here : slice_get w.harts h ≡ Some hart
  pub runs : is_running hart.phase ≡ true
  pub is : effect_at program h hart ≡ Some effect

-- the step of hart g stores nothing to the thread's log, but the thread's own may store to a whole word of its frame that isn't named
abbrev pub IsElsewhere : List (List Slot) → World → (named : List ℕ) → (g thread : ℕ) → Type 0
IsElsewhere program w named g thread = (hart : Hart) (address bytes value : ℕ) → IsNext program w g hart (Stores address bytes value) →
    (i : ℕ) → i < log_words w.log → byte_number address / 8 ≡ log_word w.log thread i →
    (g ≡ thread) × IsUnnamed w.log named i × (byte_number address % 8 ≡ 0) × (bytes ≡ 8)

-- ---- Laws

-- where the next instruction is the boundary's next effect, that is made as soon as the step completes the instruction
abbrev pub OwnStepsMove : Type 0
OwnStepsMove = (program : List (List Slot)) (named : List ℕ) (w : World) (h : ℕ) (hart : Hart) (effect : Effect) (later : List Effect) →
    IsNext program w h hart effect →
    is_boundary_effect effect ≡ true →
    MovesTo h named w hart (effect ∷ later) (after_event program w (Step h)) (if has_moved (reply_to program w (Step h)) then later else effect ∷ later)

-- a step of any hart, this one or another, that stores elsewhere
abbrev pub StepsMove : Type 0
StepsMove = (program : List (List Slot)) (named : List ℕ) (w : World) (g h : ℕ) (hart : Hart) (rest : List Effect) → IsWellFormedWorld w →
    slice_get w.harts h ≡ Some hart →
    IsElsewhere program w named g h →
    MovesTo h named w hart rest (after_event program w (Step g)) rest

abbrev pub EvictionsMove : Type 0
EvictionsMove = (program : List (List Slot)) (named : List ℕ) (w : World) (line mask h : ℕ) (hart : Hart) (rest : List Effect) →
    slice_get w.harts h ≡ Some hart →
    MovesTo h named w hart rest (after_event program w (Evict line mask)) rest

-- a crash
abbrev pub CrashesCrash : Type 0
CrashesCrash = (program : List (List Slot)) (w : World) → (after_event program w Crash).words ≡ crashed w.words

-- a store of a word of the thread's log, the clean of one of its lines, or a fence
pub data IsLogEffect (log : Log) (thread : ℕ) (effect : Effect) : Type 0 where
  StoresWord : (i value : ℕ) → i < log_words log → effect ≡ Stores (log_of log thread + 8 * i) 8 value → IsLogEffect log thread effect
  CleansLine : (i : ℕ) → i < log_words log → effect ≡ Cleans (log_of log thread + 8 * i) → IsLogEffect log thread effect
  PassesFence : effect ≡ Fences → IsLogEffect log thread effect

-- a boundary has no other effects
abbrev pub BoundariesStayIn : Type 0
BoundariesStayIn = (log : Log) (thread : ℕ) (old new : Record) (m : LogConfig) (effect : Effect) (later : List Effect) → LogIs log thread old new m →
    m.rest ≡ effect ∷ later → IsLogEffect log thread effect × (is_boundary_effect effect ≡ true)

-- a hart with an effect of its log ahead is never stuck: its next instruction is completed, or an entry written back first
abbrev pub LogEffectsGo : Type 0
LogEffectsGo = (program : List (List Slot)) (w : World) (h : ℕ) (hart : Hart) (effect : Effect) → IsNext program w h hart effect →
    IsLogEffect w.log h effect → (reply_to program w (Step h) ≡ Moved) ⊎ (reply_to program w (Step h) ≡ Drained)

-- a step elsewhere: one that stores nothing, one that stores to a variable, a boundary of another thread, and one that stores to a word of the own frame
abbrev pub StoresNothing : Type 0
StoresNothing = (program : List (List Slot)) (named : List ℕ) (w : World) (g thread : ℕ) (hart : Hart) (effect : Effect) → IsNext program w g hart effect →
    is_store effect ≡ false → IsElsewhere program w named g thread

abbrev pub StoresToVariable : Type 0
StoresToVariable = (program : List (List Slot)) (named : List ℕ) (w : World) (g thread : ℕ) (hart : Hart) (address bytes value : ℕ) →
    IsNext program w g hart (Stores address bytes value) → address < variables_base + line_bytes * variable_lines → IsElsewhere program w named g thread

abbrev pub StoresToOtherLog : Type 0
StoresToOtherLog = (program : List (List Slot)) (named : List ℕ) (w : World) (g thread : ℕ) (hart : Hart) (effect : Effect) → g ≢ thread →
    IsNext program w g hart effect →
    IsLogEffect w.log g effect → IsElsewhere program w named g thread

abbrev pub StoresToFrame : Type 0
StoresToFrame = (program : List (List Slot)) (named : List ℕ) (w : World) (thread : ℕ) (hart : Hart) (word value : ℕ) →
    IsNext program w thread hart (Stores (frame_at w.log thread word) 8 value) → IsFrameWord w.log word → (Contains named word → ⊥) →
    IsElsewhere program w named thread thread
