-- Laws of the source's own steps.
use Rattle.std.specs.Prelude.{◌≡◌, ◌≢◌, ℕ, List, length, map, Contains, slice_get, Some, false}
use Rattle.c_tree.specs.Source.{State, source_step, after_from, runs_from}
use Rattle.source_machine.specs.Runs.{IsRefusedSchedule}
use Rattle.source_machine.specs.declared.answers.Refused.{Refused}

-- ---- A thread that isn't stepped

-- a step of a thread leaves every other thread as it is: its locals, what it has left and its pending store
abbrev pub OthersStay : Type 0
OthersStay = (s next : State) (thread other : ℕ) → source_step s thread ≡ Some next → other ≢ thread →
    slice_get next.threads other ≡ slice_get s.threads other

-- a run in which a thread takes no step leaves the thread as it is
abbrev pub RestingStays : Type 0
RestingStays = (s : State) (schedule : List ℕ) (other : ℕ) → (Contains schedule other → ⊥) →
    slice_get (after_from s schedule).threads other ≡ slice_get s.threads other

-- ---- Sizes

-- a run keeps the number of threads, of variables, and of each variable's elements
abbrev pub SizesStay : Type 0
SizesStay = (s : State) (schedule : List ℕ) →
    (length (after_from s schedule).threads ≡ length s.threads) × (map length (after_from s schedule).variables ≡ map length s.variables)

-- ---- A schedule that can't be stepped whole

-- a schedule is refused at one step for one reason at most
abbrev pub OneStop : Type 0
OneStop = (s : State) (schedule : List ℕ) (x y : Refused) → IsRefusedSchedule x s schedule → IsRefusedSchedule y s schedule → x ≡ y

-- a schedule that is refused can't be stepped whole
abbrev pub NotWhole : Type 0
NotWhole = (s : State) (schedule : List ℕ) (x : Refused) → IsRefusedSchedule x s schedule → runs_from s schedule ≡ false
