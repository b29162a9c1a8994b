-- Rerun reads nothing overwritten: from where a hart would be resumed to the store of its point it stores to no byte that it has loaded on the way, unless it
-- had stored to that byte before it loaded it.
use Rattle.std.specs.Prelude.{◌≡◌, ◌≢◌, ℕ, ◌+◌, ◌<◌, ◌≤◌, List, Some}
use Rattle.machine_events.specs.declared.event.Event.{Event}
use Rattle.log_schemes.specs.Layout.{point_at}
use Rattle.rv64_isa.specs.Rows.{Stores}
use Rattle.source_machine.specs.StepExchanges.{steps_of}
use Rattle.machine_model.specs.Executables.{first_world}
use Rattle.machine_model.specs.Machine.{Hart, World, live_at, resume_of}
use Rattle.machine_model.specs.Schedule.{harts_of, schedules}
use Rattle.flow_graph.specs.Actions.{FlowState}
use Rattle.flow_graph.specs.Lockstep.{Matches}
use Rattle.flow_graph.specs.Paths.{Element}
use Rattle.recovery_semantics.specs.Attempts.{Writes, WritesAt}
use Rattle.region_attempts.specs.Laws.{Reads}
use Rattle.log_states.specs.Machines.{IsNext}
use Rattle.crash_simulation.specs.Accesses.{first_access, load}
use Rattle.crash_simulation.specs.Systems.{System, IsSystem}
use Rattle.crash_simulation.specs.ThreadGhosts.{IsFrameByte}
use Rattle.compiler_correctness.specs.Laws.{translation_of}
use Rattle.compiler_correctness.specs.Translations.{Translation, source, steps, world}

-- the hart has no point, or stands where that resumes it
abbrev pub IsResumedHere : World → (h : ℕ) → Hart → Type 0
IsResumedHere w h hart = live_at w.words (point_at w.log h) ≢ 0 → hart.pc ≡ resume_of (live_at w.words (point_at w.log h))

-- after any events, of each hart of a compiled program whose next instruction stores: to none of these bytes its first access was a load, but for those of its
-- own frame, if its locals stand there
abbrev pub NoLoadIsOverwritten : Type 0
NoLoadIsOverwritten = (y : System) → IsSystem y → (events : List Event) (h : ℕ) (hart : Hart) (address bytes value : ℕ) →
    IsNext y.runs.program (world (translation_of y) events) h hart (Stores address bytes value) →
    (byte : ℕ) → address ≤ byte → byte < address + bytes → ¬ (IsFrameByte (world (translation_of y) events).log h byte) →
    first_access y.runs.program (first_world y.runs) events h byte ≢ Some load

-- and to its own frame each hart whose live point isn't 0 stores right where that resumes it, so that it has loaded nothing on the way
abbrev pub FrameIsStoredAtResumption : Type 0
FrameIsStoredAtResumption = (y : System) → IsSystem y → (events : List Event) (h : ℕ) (hart : Hart) (address bytes value : ℕ) →
    IsNext y.runs.program (world (translation_of y) events) h hart (Stores address bytes value) →
    (byte : ℕ) → address ≤ byte → byte < address + bytes → IsFrameByte (world (translation_of y) events).log h byte →
    IsResumedHere (world (translation_of y) events) h hart

-- ---- Of the source's steps, whether what they read is loaded or not

-- of the steps that the thread has begun and that aren't kept, by which it comes to its next point
pub record OverwritesNothingRead (c : Translation) (events : List Event) (thread : ℕ) : Type 0 where
  -- where threads stand in the graph after the kept steps
  pub flow : FlowState
  pub matches : Matches c.flat flow (source c (schedules (steps c events)))
  pub unread : (read later : ℕ) (one : Element) → Reads c.flat flow thread read one → read ≤ later →
      later < steps_of thread (harts_of (steps c events).pending) →
      WritesAt (source c (schedules (steps c events))) thread later one.variable one.element →
      Writes (source c (schedules (steps c events))) thread read one.variable one.element

-- after any events, of each thread of a compiled program
abbrev pub NoReadIsOverwritten : Type 0
NoReadIsOverwritten = (y : System) → IsSystem y → (events : List Event) (thread : ℕ) → OverwritesNothingRead (translation_of y) events thread
