-- What stands before the first fault of form of runs, and what an error tells.
use Rattle.std.specs.Prelude.{◌≡◌, ◌≢◌, ◌+◌, ◌<◌, ℕ, List, ◌++◌, length, Option, Some, None, true, false}
use Rattle.c_tree.specs.Flats.{Flat}
use Rattle.c_tree.specs.Source as m
use Rattle.run_scripts.specs.Runs.{Run, schedule_of}
use Rattle.source_machine.specs.declared.state.SourceState.{SourceState}
use Rattle.source_machine.specs.Lives.{are_between, restart}
use Rattle.source_machine.specs.links.States.{RepresentsState}
use Rattle.image_checks.specs.Schedules.{IsFormed, IsLivesFault, IsMalformed, IsSchedule, IsScheduleFault}
use Rattle.image_checks.specs.declared.error.ImageError.TheVariants as error
use Rattle.image_checks.specs.declared.schedules.ScheduleFault.{ScheduleFault}
use Rattle.image_checks.specs.declared.schedules.ScheduleFault.TheVariants as e

-- the steps before the first that has a fault of form, after so many of the lives before
pub record IsCut (done : ℕ) (runs : List Run) (steps : List ℕ) (fault : ℕ) : Type 0 where
  pub after : List ℕ
  pub is : schedule_of runs ≡ steps ++ after
  pub count : fault ≡ done + length steps + 1
  pub malformed : IsMalformed done runs fault
  pub first : (earlier : ℕ) → earlier < fault → ¬ (IsMalformed done runs earlier)

-- all steps, where none has one
abbrev pub IsPrefix : (done : ℕ) → List Run → (steps : List ℕ) → (fault : Option ℕ) → Type 0
IsPrefix done runs steps None = IsFormed done runs steps
IsPrefix done runs steps (Some fault) = IsCut done runs steps fault

-- the run can follow one of that thread, or stand first
pub record Follows (last : Option ℕ) (run : Run) : Type 0 where
  pub steps : run.steps ≢ 0
  pub thread : last ≢ Some run.thread

-- the steps are the schedule that the runs tell of a life that begins in the state, and are made
pub record IsTold (s : m.State) (done : ℕ) (runs : List Run) (steps : List ℕ) (ended : ℕ → ℕ) (after : SourceState) : Type 0 where
  pub sound : IsSchedule s done runs steps
  pub stands : RepresentsState after (m.after_from s steps) (λ k. ended k + m.ended_from s steps k)

-- the first step at fault of a life that begins in the state; want of memory tells nothing
abbrev pub TellsStep : m.State → (done : ℕ) → List Run → ScheduleFault → Type 0
TellsStep s done runs (e.Step step) = IsScheduleFault s done runs step
TellsStep s done runs (e.Life life) = ⊥
TellsStep s done runs e.Memory = Unit {0}

-- of the life after one of that number, which has left that state: that, or that a thread stands inside a section there
abbrev pub TellsNext : Flat → (number : ℕ) → m.State → (done : ℕ) → List Run → ScheduleFault → Type 0
TellsNext x number s done runs (e.Step step) = (are_between s (length s.threads) ≡ true) × IsScheduleFault (restart x s) done runs step
TellsNext x number s done runs (e.Life life) = (life ≡ number) × (are_between s (length s.threads) ≡ false)
TellsNext x number s done runs e.Memory = Unit {0}

-- the first fault of lives
abbrev pub TellsFault : Flat → m.State → List (List Run) → ScheduleFault → Type 0
TellsFault x s lives (e.Step step) = IsLivesFault x 1 s 0 lives (error.Schedule step)
TellsFault x s lives (e.Life life) = IsLivesFault x 1 s 0 lives (error.Lives life)
TellsFault x s lives e.Memory = Unit {0}
