-- Fences that a hart has finished, and boundaries whose point it has stored, in all lives: as a core counts both.
use Rattle.std.specs.Prelude.{◌≡◌, ℕ, ◌+◌, ◌*◌, ◌<◌, ◌≤◌, List, [], ◌∷◌, ◌++◌, length, slice_get, Some, true}
use Rattle.machine_events.specs.declared.event.Event.{Event}
use Rattle.machine_events.specs.declared.event.Event.TheVariants.{Step, Evict, Crash, Start}
use Rattle.machine_events.specs.Cores.{finished_fences, point_stores}
use Rattle.machine_model.specs.Executables.{first_world}
use Rattle.machine_model.specs.Machine.{Hart}
use Rattle.machine_model.specs.Schedule.{begins_life, only_life}
use Rattle.machine_model.specs.declared.phase.Phase.TheVariants.{Ended}
use Rattle.log_schemes.specs.Schemes.{locals_of}
use Rattle.log_schemes.specs.declared.locals.Locals.{Locals}
use Rattle.log_schemes.specs.declared.locals.Locals.TheVariants.{Registers, Frame}
use Rattle.flow_graph.specs.Lowering.{lowered}
use Rattle.flow_graph.specs.Actions.{FlowState}
use Rattle.run_tracker.specs.ObjectLives.{LifeConfig, living}
use Rattle.crash_simulation.specs.Systems.{System, IsSystem}
use Rattle.crash_simulation.specs.BoundaryFences.{boundary_fences}
use Rattle.crash_simulation.specs.BoundaryPassages.{graph_anew, passages}
use Rattle.compiler_correctness.specs.Translations.{GoOn, Translation, source_at, steps, world}
use Rattle.compiler_correctness.specs.Laws.{translation_of}
use Rattle.fence_counts.specs.LoggedSteps.{steps_logged}

-- how often power is lost
abbrev pub crashes_in : List Event → ℕ
crashes_in [] = 0
crashes_in (Crash ∷ events) = 1 + crashes_in events
crashes_in (Step h ∷ events) = crashes_in events
crashes_in (Evict line mask ∷ events) = crashes_in events
crashes_in (Start ∷ events) = crashes_in events

-- what a life of the translation is before any event
abbrev pub opening : Translation → LifeConfig
opening c = record { runs = c.runs; kept_before = only_life []; ended_before = []; world = first_world c.runs }

-- the fences that the hart has finished by the events: before crashes, in recoveries, and in sections that were lost
abbrev pub fences_finished : Translation → List Event → (h : ℕ) → ℕ
fences_finished c events h = finished_fences living (opening c) events h

-- those of the boundaries whose point it has stored by them
abbrev pub fences_of_points : Translation → List Event → (h : ℕ) → ℕ
fences_of_points c events h = boundary_fences c.runs.log * point_stores living (opening c) events h

-- they differ by one at most, and by one more for each crash: one that cuts a boundary off
pub record AreFencesOfPoints (c : Translation) (events : List Event) (h : ℕ) : Type 0 where
  pub no_more : fences_finished c events h ≤ fences_of_points c events h + 1 + crashes_in events
  pub no_less : fences_of_points c events h ≤ fences_finished c events h + 1 + crashes_in events

-- after any events, of each hart of a compiled program, however its threads log
abbrev pub FencesFollowPoints : Type 0
FencesFollowPoints = (y : System) → IsSystem y → (events : List Event) (h : ℕ) → h < length y.runs.program → AreFencesOfPoints (translation_of y) events h

-- ---- A life without a crash

-- a life begins after the events: they are none, or the last of them is a start by which another one begins
pub data BeginsLife (c : Translation) : List Event → Type 0 where
  first_begins : BeginsLife c []
  later_begins : (before : List Event) → begins_life (world c before) Start ≡ true → BeginsLife c (before ++ Start ∷ [])

-- where it begins, the source's graph: at its start, with the variables that the lives before have left
abbrev pub life_start : Translation → (before : List Event) → FlowState
life_start c before = graph_anew c.flat (source_at c (steps c before).earlier).variables

-- how many boundaries the hart's thread passes by begun steps of the life: where its locals stand in registers, by its locks and unlocks, and at nodes before
-- which one stands by choice; where they stand in its log, by each step that is logged by itself
abbrev pub boundaries_passed_by : Locals → Translation → (before : List Event) → (begun : List ℕ) → (h : ℕ) → ℕ
boundaries_passed_by Registers c before begun h = passages (lowered c.flat) c.boundaries (life_start c before) begun h
boundaries_passed_by Frame c before begun h = steps_logged (source_at c (steps c before).earlier) begun h

-- by all that the life has begun
abbrev pub boundaries_passed : Translation → (before life : List Event) → (h : ℕ) → ℕ
boundaries_passed c before life h = boundaries_passed_by (locals_of c.runs.log) c before (steps c (before ++ life)).begun h

-- by the events of a life, from where it begins on, the hart has stored the point of each boundary that its thread has passed, and finished just their fences
pub record AreFencesOfLife (c : Translation) (before life : List Event) (h : ℕ) : Type 0 where
  pub points : point_stores living (record (opening c) { world = world c before }) life h ≡ boundaries_passed c before life h
  pub fences : finished_fences living (record (opening c) { world = world c before }) life h
      ≡ boundary_fences c.runs.log * boundaries_passed c before life h

-- a life in which power stays on, of each of its harts that has ended
abbrev pub EndedLivesFence : Type 0
EndedLivesFence = (y : System) → IsSystem y → (before life : List Event) (h : ℕ) → h < length y.runs.program → BeginsLife (translation_of y) before →
    GoOn life → (hart : Hart) → slice_get (world (translation_of y) (before ++ life)).harts h ≡ Some hart → hart.phase ≡ Ended →
    AreFencesOfLife (translation_of y) before life h
