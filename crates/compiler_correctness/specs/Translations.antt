-- What a compiler makes of a flat form, and what events make of that.
use Rattle.std.specs.Prelude.{◌≡◌, ℕ, List, [], ◌∷◌, ◌++◌, slice_index_or, true}
use Rattle.machine_events.specs.declared.event.Event.{Event}
use Rattle.machine_events.specs.declared.event.Event.TheVariants.{Step, Evict, Crash, Start}
use Rattle.c_tree.specs.Flats as f
use Rattle.c_tree.specs.Source as m
use Rattle.machine_model.specs.declared.object.Object.{Object}
use Rattle.rv64_isa.specs.declared.object.Marks.{Marks}
use Rattle.machine_model.specs.Executables.{Executable, executable_of, first_world}
use Rattle.machine_model.specs.Machine.{World, after_events}
use Rattle.machine_model.specs.Schedule.{KeepsOn, Steps, harts_of, LifeSchedules, only_life, steps_along, first_steps}
use Rattle.source_machine.specs.Lives.{after_lives, runs_lives, begun_after}
use Rattle.flow_graph.specs.declared.cuts.Cuts.{Cuts}
use Rattle.flow_graph.specs.IdempotentCuts.{Boundaries, boundaries_of}

-- a flat form, and what a machine runs for it
pub record Translation : Type 0 where
  pub flat : f.Flat
  pub runs : Executable
  -- where boundaries stand among the nodes of the form's graph
  pub boundaries : Boundaries

-- what a flat form is compiled to
abbrev pub translation_to : f.Flat → Object → Marks → Cuts → Translation
translation_to flat object marks cuts = record { flat = flat; runs = executable_of object marks; boundaries = boundaries_of cuts }

-- the life goes on by them: power stays on, and no other one begins
abbrev pub GoOn : List Event → Type 0
GoOn [] = Unit {0}
GoOn (event ∷ events) = KeepsOn event × GoOn events

-- power stays on by them
abbrev pub HaveNoCrash : List Event → Type 0
HaveNoCrash [] = Unit {0}
HaveNoCrash (Step h ∷ events) = HaveNoCrash events
HaveNoCrash (Evict line mask ∷ events) = HaveNoCrash events
HaveNoCrash (Crash ∷ events) = ⊥
HaveNoCrash (Start ∷ events) = HaveNoCrash events

-- the kept schedules of the lives before, and all steps that are begun in this one
abbrev pub begun_lives : Steps → LifeSchedules
begun_lives s = record { earlier = s.earlier; schedule = s.begun }

-- the kept schedules, the last one followed by the steps begun since this life's start or the last crash and not kept
abbrev pub now_lives : Steps → LifeSchedules
now_lives s = record { earlier = s.earlier; schedule = s.kept ++ harts_of s.pending }

module _ (c : Translation) where
  abbrev pub marks_of : (thread : ℕ) → List ℕ
  marks_of thread = slice_index_or c.runs.marks thread []

  abbrev pub resumes_of : (thread : ℕ) → List ℕ
  resumes_of thread = slice_index_or c.runs.resumes thread []

  -- the machine after the events
  abbrev pub world : List Event → World
  world events = after_events c.runs.program (first_world c.runs) events

  -- the steps of the source that are begun and kept then
  abbrev pub steps : List Event → Steps
  steps events = steps_along c.runs.marks c.runs.program (first_world c.runs) events (first_steps (only_life []))

  -- all steps that are kept then, and after them those that are begun and not kept
  abbrev pub now : List Event → LifeSchedules
  now events = now_lives (steps events)

  -- the source, run by the schedules one after another, its threads begun anew at each
  abbrev pub source : (schedules : List (List ℕ)) → m.State
  source schedules = after_lives c.flat (m.start c.flat) schedules

  -- the source can be stepped by the whole of each schedule, and each but the last leaves every thread between sections
  abbrev pub IsRunnable : (schedules : List (List ℕ)) → Type 0
  IsRunnable schedules = runs_lives c.flat (m.start c.flat) schedules ≡ true

  -- the source where the life after those begins
  abbrev pub source_at : (earlier : List (List ℕ)) → m.State
  source_at earlier = begun_after c.flat (m.start c.flat) earlier
