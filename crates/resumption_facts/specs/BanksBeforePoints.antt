-- Bank before point: when a point is stored, the bank that it names is durable, and so is all else that the hart has stored.
use Rattle.std.specs.Prelude.{◌≡◌, ℕ, ◌<◌, ◌≤◌, List, Some, true}
use Rattle.machine_events.specs.declared.event.Event.{Event}
use Rattle.log_schemes.specs.Layout.{point_at}
use Rattle.ido_base.specs.Words.{word_at}
use Rattle.ido_base.specs.Locks.{has_lock}
use Rattle.rv64_isa.specs.Rows.{Effect, Stores}
use Rattle.machine_model.specs.Executables.{first_world}
use Rattle.machine_model.specs.Machine.{Hart}
use Rattle.machine_model.specs.Schedule.{all_lives, harts_of, is_point_store, schedules}
use Rattle.crash_simulation.specs.StorePositions.{last_store}
use Rattle.source_machine.specs.StepExchanges.{steps_of}
use Rattle.flow_graph.specs.Actions.{FlowState}
use Rattle.flow_graph.specs.Lockstep.{Matches}
use Rattle.log_states.specs.Logs.{HasBank, HasFrame, Record}
use Rattle.log_states.specs.Machines.{IsNext}
use Rattle.recovery_semantics.specs.Attempts.{Writes}
use Rattle.recovery_semantics.specs.ElementHistories.{IsStable, history_at, number_at}
use Rattle.recovery_semantics.specs.VariableSpots.{memory_in}
use Rattle.recovered_threads.specs.RecordDescriptions.{Describes, locks_of}
use Rattle.crash_simulation.specs.Systems.{System, IsSystem, places_of, thread_count}
use Rattle.compiler_correctness.specs.Compilation.{HartHolds}
use Rattle.compiler_correctness.specs.Laws.{translation_of}
use Rattle.compiler_correctness.specs.Translations.{Translation, now, source, steps, world}

-- one of the thread's steps that are begun and not kept stores the element
abbrev pub IsUnkeptStore : Translation → List Event → (thread variable number : ℕ) → Type 0
IsUnkeptStore c events thread variable number =
    Writes (source c (schedules (steps c events))) thread (steps_of thread (harts_of (steps c events).pending)) variable number

-- what a hart finds that is about to store its point
pub record FindsBank (y : System) (s : IsSystem y) (events : List Event) (h : ℕ) (effect : Effect) : Type 0 where
  -- what its boundary records, whose point it stores
  pub recorded : Record
  pub stores : effect ≡ Stores (point_at (world (translation_of y) events).log h) 8 recorded.point
  -- each slot that the record has is durably what is recorded
  pub bank : HasBank (world (translation_of y) events).log h recorded (world (translation_of y) events).words
  -- and so is each word of the frame on which it counts
  pub frame : HasFrame (world (translation_of y) events).log h recorded (world (translation_of y) events).words
  -- that is where the thread stands by all steps that are begun: the locks held there, and its live registers
  pub below : h < thread_count y
  pub state : FlowState
  pub matches : Matches (translation_of y).flat state (source (translation_of y) (all_lives (now (translation_of y) events)))
  pub describes : Describes y.plan (s.codes.each h below) state recorded
  -- each word is durable as of the hart's last store into it since the last start or crash, or later
  pub stored : (word position : ℕ) → last_store y.runs.program (first_world y.runs) events h word ≡ Some position →
      position ≤ (word_at (world (translation_of y) events).words word).durable
  -- of each element that the thread has stored by steps since its last point only that number can be left by a crash which it has now: nobody else has
  -- stored another one since
  pub stable : (variable number : ℕ) → IsUnkeptStore (translation_of y) events h variable number →
      IsStable (history_at (memory_in (places_of y) (world (translation_of y) events).words) variable number)
      (number_at (source (translation_of y) (all_lives (now (translation_of y) events))) variable number)
  -- no lock is recorded before it is taken
  pub taken : (lock : ℕ) → has_lock (locks_of recorded) lock ≡ true → HartHolds (world (translation_of y) events) h lock

-- after any events, of each hart of a compiled program whose next instruction stores its point
abbrev pub BanksComeBeforePoints : Type 0
BanksComeBeforePoints = (y : System) (s : IsSystem y) (events : List Event) (h : ℕ) (hart : Hart) (effect : Effect) →
    IsNext y.runs.program (world (translation_of y) events) h hart effect → is_point_store (world (translation_of y) events).log h effect ≡ true →
    FindsBank y s events h effect
