-- What runs ahead of a hart of a life: instructions that touch nothing but its registers and its pc, apart from the life.
use Rattle.std.specs.Prelude.{◌≡◌, ℕ, ◌+◌, ◌-◌, ◌^◌, List, [], ◌++◌, slice_get, slice_index_or, replicate, Option, Some, is_some, Bool, nat_lt, ◌&&◌}
use Rattle.machine_events.specs.declared.event.Event.TheVariants.{Step}
use Rattle.machine_model.specs.declared.phase.Phase.{Phase}
use Rattle.machine_model.specs.Machine.{Hart}
use Rattle.machine_model.specs.Schedule.{is_running}
use Rattle.hart_core.specs.declared.local.LocalState.{LocalState}
use Rattle.hart_core.specs.LocalSteps.{PlacedCode, placed_code, local_run, then_locally}
use Rattle.ido_machine.specs.Harts.{local_state_of}
use Rattle.run_tracker.specs.ObjectLives.{Course, LifeConfig, world_of}

pub record LocalCourse : Type 0 where
  -- the hart's code, and the addresses of its marks
  pub code : PlacedCode
  pub marks : List ℕ
  -- the hart at the beginning
  pub phase : Phase
  pub first : LocalState
  -- instructions since
  pub made : ℕ

-- how many instructions it counts at most
abbrev pub most_made : ℕ
most_made = 2 ^ 32 - 1

-- registers and pc now
abbrev pub state_in : LocalCourse → Option LocalState
state_in run = local_run run.code run.first run.made

-- the hart executes instructions, and the next one is local; and it can be counted
abbrev pub goes_ahead : LocalCourse → Bool
goes_ahead run = is_running run.phase && (is_some (then_locally run.code (state_in run)) && nat_lt run.made most_made)

-- with an instruction more
abbrev pub one_ahead : LocalCourse → LocalCourse
one_ahead run = record run { made = run.made + 1 }

-- it runs ahead of hart h of a life that began so
pub record IsLocalOf (m : LifeConfig) (h : ℕ) (run : LocalCourse) : Type 0 where
  pub code : run.code ≡ placed_code m.runs.program h
  pub marks : run.marks ≡ slice_index_or m.runs.marks h []

-- it begins at hart h of a life, which is this one now
abbrev pub local_at : Course → (h : ℕ) → Hart → LocalCourse
local_at life h hart = record {
  code = placed_code life.runs.program h;
  marks = slice_index_or life.runs.marks h [];
  phase = hart.phase;
  first = local_state_of hart;
  made = 0;
}

-- the hart is as it was at the beginning
abbrev pub IsAtBeginning : LocalCourse → Hart → Type 0
IsAtBeginning run hart = (run.phase ≡ hart.phase) × (run.first ≡ local_state_of hart)

-- hart h of the life now is as it was at the beginning
abbrev pub StandsAtBeginning : Course → (h : ℕ) → LocalCourse → Type 0
StandsAtBeginning life h run = (hart : Hart) × (slice_get (world_of life).harts h ≡ Some hart) × IsAtBeginning run hart

-- the life with so many steps of a hart more
abbrev pub with_steps : Course → (h count : ℕ) → Course
with_steps life h count = record life { journal = life.journal ++ replicate count (Step h) }
