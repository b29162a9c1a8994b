-- Registers resumed: a hart goes on where its record says, with the registers that it has recorded, and its code needs no others, nor other words of its frame.
use Rattle.std.specs.Prelude.{◌≡◌, ℕ, ◌<◌, List, Contains, length, true}
use Rattle.machine_events.specs.declared.event.Event.{Event}
use Rattle.ido_base.specs.Words.{live_value}
use Rattle.log_schemes.specs.Schemes.{keeps_register}
use Rattle.rv64_isa.specs.Rows.{read}
use Rattle.machine_model.specs.declared.phase.Phase.TheVariants.{Resume}
use Rattle.machine_model.specs.Machine.{Hart, World, live_at, resume_of}
use Rattle.machine_model.specs.Schedule.{schedules}
use Rattle.boundary_code.specs.Boundaries.{IsOnSide}
use Rattle.code_runs.specs.CodeTraces.{MarkedEnvironment, Meets}
use Rattle.code_runs.specs.ComputingRuns.{config}
use Rattle.flow_graph.specs.Actions.{FlowState, seen_by}
use Rattle.flow_graph.specs.Lockstep.{Matches}
use Rattle.hart_runs.specs.Calls.{IsInPhase}
use Rattle.hart_runs.specs.HartsOnRuns.{Agrees, IsRunningAt}
use Rattle.log_states.specs.Logs.{IsRecorded, Record, frame_in, side_of}
use Rattle.thread_code.specs.RegistersAtNodes.{LogView}
use Rattle.recovered_threads.specs.RecordDescriptions.{Code, IsInside}
use Rattle.recovered_threads.specs.RecoveryStates.{ResumesThread}
use Rattle.thread_runs.specs.CodeFragments.{on_machine}
use Rattle.thread_runs.specs.Laws.{IsUnderFragment}
use Rattle.crash_simulation.specs.Systems.{System, IsSystem, thread_count}
use Rattle.compiler_correctness.specs.Laws.{translation_of}
use Rattle.compiler_correctness.specs.Translations.{source, steps, world}

-- in a world of the system's machine, whatever it is, the hart stands where the record says; the side of its log, each register that was recorded, and each
-- word of its frame that was, are as they were, and the others are anything
pub record StandsResumed (y : System) (code : Code y.plan) (recorded : Record) (v : World) (environment : MarkedEnvironment) (registers : List ℕ) : Type 0 where
  pub log : y.plan.log ≡ v.log
  pub count : length v.harts ≡ thread_count y
  -- its code is met there
  pub meets : Meets code.is.places.program environment
  pub agrees : Agrees y.runs.program v code.thread.number environment
  pub at : IsRunningAt v code.thread.number (config registers (resume_of recorded.point))
  pub side : IsOnSide v.log (side_of recorded) registers
  pub same : (register : ℕ) → Contains recorded.live register → read registers register ≡ read recorded.registers register
  pub frame : (word : ℕ) → Contains recorded.framed word → live_value (frame_in v.log v.words code.thread.number word) ≡ recorded.frame word

-- its log as memory has it there
abbrev pub view_in : World → Record → LogView
view_in v recorded = record { side = side_of recorded; frame = live_at v.words }

-- wherever it stands so, its code leads it to the same node, with registers and words of its frame that represent the same there
abbrev pub NeedsNoOthers : (y : System) (code : Code y.plan) → (state : FlowState) → (recorded : Record) → IsInside y.plan code state recorded → Type 0
NeedsNoOthers y code state recorded told = (v : World) (environment : MarkedEnvironment) (registers : List ℕ) →
    StandsResumed y code recorded v environment registers →
    IsUnderFragment y.plan code.thread code.is.places (on_machine y.runs.program v code.thread.number environment) told.graph_thread.at
    (seen_by state told.graph_thread) (view_in v recorded) told.owed registers

pub record ResumesAsRecorded (y : System) (s : IsSystem y) (events : List Event) (h : ℕ) (hart : Hart) : Type 0 where
  -- its log has this record and no other
  pub recorded : Record
  pub log : IsRecorded (world (translation_of y) events).log h recorded (world (translation_of y) events).words
  -- by its step it stands where the kept steps leave its thread, at the record's address, with registers and words of its frame that have there what the code
  -- may rely on: the side of the log, each live local, and a write that comes next
  pub below : h < thread_count y
  pub state : FlowState
  pub matches : Matches (translation_of y).flat state (source (translation_of y) (schedules (steps (translation_of y) events)))
  pub resumes : ResumesThread y.runs.program (s.codes.each h below) state (world (translation_of y) events) hart recorded
  -- each register that was recorded has the value recorded
  pub registers : (register : ℕ) → Contains recorded.live register → read resumes.after.registers register ≡ read recorded.registers register
  -- those are of the registers that the scheme keeps: where locals stand in the frame, of the two of a write that comes next
  pub few : (register : ℕ) → Contains recorded.live register → keeps_register (world (translation_of y) events).log register ≡ true
  pub needs_no_others : NeedsNoOthers y (s.codes.each h below) state recorded resumes.told

-- after any events, of each hart of a compiled program that is about to be resumed
abbrev pub RegistersAreResumed : Type 0
RegistersAreResumed = (y : System) (s : IsSystem y) (events : List Event) (h : ℕ) (i : IsInPhase (world (translation_of y) events) h Resume) →
    ResumesAsRecorded y s events h i.hart
