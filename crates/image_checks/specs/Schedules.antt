-- The schedules that the runs of an image tell, one for each life, and their first fault. Steps count from 1 over all lives, runs from 0.
use Rattle.std.specs.Prelude.{◌≡◌, ◌+◌, ◌<◌, ◌≤◌, ℕ, List, [], ◌∷◌, length, map, slice_get, take, Some, true, false}
use Rattle.ido_base.specs.declared.limits.TheConstants.{MOST_STEPS}
use Rattle.c_tree.specs.Flats.{Flat}
use Rattle.c_tree.specs.Source.{State, after_from, runs_from}
use Rattle.run_scripts.specs.Runs.{Run, schedule_of, AreMerged}
use Rattle.source_machine.specs.declared.answers.Refused.{Refused}
use Rattle.source_machine.specs.Lives.{are_between, restart}
use Rattle.source_machine.specs.Runs.{IsRefusedSchedule}
use Rattle.image_checks.specs.declared.error.ImageError.{ImageError}
use Rattle.image_checks.specs.declared.error.ImageError.TheVariants as e

-- ---- One life, after so many steps of the lives before it

-- the steps that its runs tell, where none has a fault of form
pub record IsFormed (done : ℕ) (runs : List Run) (schedule : List ℕ) : Type 0 where
  pub is : schedule ≡ schedule_of runs
  pub merged : AreMerged runs
  pub few : done + length schedule ≤ MOST_STEPS

-- the schedule that its runs tell, where no step has a fault and it begins in this state
pub record IsSchedule (s : State) (done : ℕ) (runs : List Run) (schedule : List ℕ) : Type 0 where
  pub formed : IsFormed done runs schedule
  -- the source can make all of them
  pub made : runs_from s schedule ≡ true

-- the first step of a run
abbrev pub first_step : (done : ℕ) → List Run → (k : ℕ) → ℕ
first_step done runs k = done + length (schedule_of (take k runs)) + 1

-- the step has a fault of form
pub data IsMalformed (done : ℕ) (runs : List Run) (step : ℕ) : Type 0 where
  -- a run begins there that takes none
  empty : (k : ℕ) (run : Run) → slice_get runs k ≡ Some run → run.steps ≡ 0 → step ≡ first_step done runs k → IsMalformed done runs step
  -- a run begins there of the same thread as the run before it
  again : (k : ℕ) (run next : Run) → slice_get runs k ≡ Some run → slice_get runs (k + 1) ≡ Some next → run.thread ≡ next.thread →
      step ≡ first_step done runs (k + 1) → IsMalformed done runs step
  -- there are too many steps before the step
  late : MOST_STEPS < step → step ≤ done + length (schedule_of runs) → IsMalformed done runs step

pub data IsAtFault (s : State) (done : ℕ) (runs : List Run) (step : ℕ) : Type 0 where
  malformed : IsMalformed done runs step → IsAtFault s done runs step
  -- the source can make all before it, and not this one
  refused : (stop : Refused) → IsRefusedSchedule stop s (schedule_of runs) → step ≡ done + stop.step → IsAtFault s done runs step

-- no earlier step is at fault
pub record IsScheduleFault (s : State) (done : ℕ) (runs : List Run) (step : ℕ) : Type 0 where
  pub is : IsAtFault s done runs step
  pub first : (earlier : ℕ) → earlier < step → ¬ (IsAtFault s done runs earlier)

-- the error tells the first of its steps that is at fault
pub data IsStepFault (s : State) (done : ℕ) (runs : List Run) : ImageError → Type 0 where
  at_step : (step : ℕ) → IsScheduleFault s done runs step → IsStepFault s done runs (e.Schedule step)

-- of a life of this number, after which others come: one of its steps, or that it leaves a thread inside a section; else what is at fault later
pub data IsEndedFault (number : ℕ) (s : State) (done : ℕ) (runs : List Run) (IsLater : ImageError → Type 0) : ImageError → Type 0 where
  own : (error : ImageError) → IsStepFault s done runs error → IsEndedFault number s done runs IsLater error
  inside : IsSchedule s done runs (schedule_of runs) → are_between (after_from s (schedule_of runs)) (length s.threads) ≡ false →
      IsEndedFault number s done runs IsLater (e.Lives number)
  later : (error : ImageError) → IsSchedule s done runs (schedule_of runs) → are_between (after_from s (schedule_of runs)) (length s.threads) ≡ true →
      IsLater error → IsEndedFault number s done runs IsLater error

-- ---- Lives, by the runs of each, from one that begins in a state after so many steps

abbrev pub schedules_of : List (List Run) → List (List ℕ)
schedules_of lives = map schedule_of lives

module _ (x : Flat) where
  -- the state in which the next life begins
  abbrev pub next_state : State → List Run → State
  next_state s runs = restart x (after_from s (schedule_of runs))

  -- no step of any has a fault, and each but the last leaves every thread between sections
  abbrev pub AreSchedules : State → (done : ℕ) → List (List Run) → Type 0
  AreSchedules s done [] = Unit {0}
  AreSchedules s done (last ∷ []) = IsSchedule s done last (schedule_of last)
  AreSchedules s done (runs ∷ next ∷ rest) =
      IsSchedule s done runs (schedule_of runs)
      × (are_between (after_from s (schedule_of runs)) (length s.threads) ≡ true)
      × AreSchedules (next_state s runs) (done + length (schedule_of runs)) (next ∷ rest)

  -- the first fault of lives of which the first has that number
  abbrev pub IsLivesFault : (number : ℕ) → State → (done : ℕ) → List (List Run) → ImageError → Type 0
  IsLivesFault number s done [] error = ⊥
  IsLivesFault number s done (last ∷ []) error = IsStepFault s done last error
  IsLivesFault number s done (runs ∷ next ∷ rest) error =
      IsEndedFault number s done runs (IsLivesFault (number + 1) (next_state s runs) (done + length (schedule_of runs)) (next ∷ rest)) error
