-- Laws of compiled programs in a machine.
use Rattle.std.specs.Prelude.{◌≡◌, ◌≢◌, ◌⊎◌, ℕ, ◌<◌, List, map, true}
use Rattle.c_tree.specs.Source.{State, after_from, runs_from}
use Rattle.machine_events.specs.declared.event.Event.{Event}
use Rattle.machine_events.specs.declared.event.Event.TheVariants.{Step, Evict, Crash}
use Rattle.machine_events.specs.declared.event.Reply.TheVariants.{Moved, Stuck}
use Rattle.machine_events.specs.declared.event.Cause.{Cause}
use Rattle.machine_model.specs.declared.phase.Phase.{Phase}
use Rattle.machine_model.specs.declared.phase.Phase.TheVariants.{Take, Wait, Resume, Run, Done, Ended}
use Rattle.machine_model.specs.Executables.{first_world}
use Rattle.machine_model.specs.Machine.{World, after_event, reply_to, durable_point}
use Rattle.hart_runs.specs.Calls.{IsInPhase}
use Rattle.recovery_semantics.specs.ElementHistories.{durable_number}
use Rattle.recovery_semantics.specs.VariableSpots.{memory_in}
use Rattle.crash_simulation.specs.Systems.{System, IsSystem, places_of, thread_count}
use Rattle.crash_simulation.specs.SimulationRelation.{SimulatesBut, Simulates, anybody}

-- the machine simulates an abstract run at its start
abbrev pub StartSimulates : Type 0
StartSimulates = (y : System) (s : IsSystem y) → Simulates y s (first_world y.runs)

-- the machine still simulates an abstract run after a crash, at whatever moment
abbrev pub CrashSimulates : Type 0
CrashSimulates = (y : System) (s : IsSystem y) (w : World) → Simulates y s w → Simulates y s (after_event y.runs.program w Crash)

-- the machine still simulates an abstract run after a step of a hart that takes its locks in recovery, of one that has them and waits for the others,
-- and of one that has stopped
abbrev pub TakesStand : Type 0
TakesStand = (y : System) (s : IsSystem y) (w : World) (h : ℕ) → Simulates y s w → IsInPhase w h Take → Simulates y s (after_event y.runs.program w (Step h))

abbrev pub WaitsStand : Type 0
WaitsStand = (y : System) (s : IsSystem y) (w : World) (h : ℕ) → Simulates y s w → IsInPhase w h Wait → Simulates y s (after_event y.runs.program w (Step h))

-- the machine still simulates an abstract run after a step of a hart that is resumed: the hart goes on at the node of its graph thread
abbrev pub ResumesStand : Type 0
ResumesStand =
    (y : System) (s : IsSystem y) (w : World) (h : ℕ) → Simulates y s w → IsInPhase w h Resume → Simulates y s (after_event y.runs.program w (Step h))

abbrev pub StoppedStand : Type 0
StoppedStand = (y : System) (s : IsSystem y) (w : World) (h : ℕ) (phase : Phase) → Simulates y s w → (phase ≡ Done) ⊎ (phase ≡ Ended) → IsInPhase w h phase →
    Simulates y s (after_event y.runs.program w (Step h))

-- where boundaries have been committed, the steps before them are kept
abbrev pub CommitStutters : Type 0
CommitStutters = (y : System) (s : IsSystem y) (w : World) → SimulatesBut y s w anybody → Simulates y s w

-- after an eviction the machine simulates an abstract run, with commits still to be taken
abbrev pub EvictionsSimulate : Type 0
EvictionsSimulate =
    (y : System) (s : IsSystem y) (w : World) (line mask : ℕ) → Simulates y s w → SimulatesBut y s (after_event y.runs.program w (Evict line mask)) anybody

-- after a step of a hart that executes instructions the machine simulates an abstract run, with commits still to be taken
abbrev pub RunsSimulate : Type 0
RunsSimulate =
    (y : System) (s : IsSystem y) (w : World) (h : ℕ) → Simulates y s w → IsInPhase w h Run → SimulatesBut y s (after_event y.runs.program w (Step h)) anybody

-- the machine still simulates an abstract run after every event
abbrev pub EventsStand : Type 0
EventsStand = (y : System) (s : IsSystem y) (w : World) (event : Event) → Simulates y s w → Simulates y s (after_event y.runs.program w event)

-- where all durable points are 0, durable memory has exactly the variables that the source leaves by the kept schedule, from where the execution began
pub record IsSettled (y : System) (w : World) (from : State) (schedule : List ℕ) : Type 0 where
  pub runs : runs_from from schedule ≡ true
  pub durable : map (map durable_number) (memory_in (places_of y) w.words) ≡ (after_from from schedule).variables

abbrev pub SettledIsKept : Type 0
SettledIsKept = (y : System) (s : IsSystem y) (w : World) (stands : Simulates y s w) →
    ((n : ℕ) → n < thread_count y → durable_point w.log w.words n ≡ 0) →
    IsSettled y w stands.abstract.origin.source stands.abstract.schedule

-- no hart is ever stuck
abbrev pub NoneIsStuck : Type 0
NoneIsStuck = (y : System) (s : IsSystem y) (w : World) → Simulates y s w → (h : ℕ) (cause : Cause) → reply_to y.runs.program w (Step h) ≢ Stuck cause

-- no hart that takes its locks in recovery waits for another
abbrev pub TakesMove : Type 0
TakesMove = (y : System) (s : IsSystem y) (w : World) (h : ℕ) → Simulates y s w → IsInPhase w h Take → reply_to y.runs.program w (Step h) ≡ Moved
