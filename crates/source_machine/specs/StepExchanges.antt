-- Steps of different threads that change places.
use Rattle.std.specs.Prelude.{◌≡◌, ◌≢◌, ◌≤◌, ◌==◌, ℕ, zero, suc, List, [], ◌∷◌, ◌++◌, replicate, slice_get, Some, true, if◌then◌else◌}
use Rattle.c_tree.specs.Flats as f
use Rattle.c_tree.specs.Source.{State, source_step, after_from, runs_from, ended_from}
use Rattle.source_machine.specs.Mutexes.{locks, unlocks, held_by}
use Rattle.source_machine.specs.Discipline.{StateKeeps, Guards, IsSameElement}

-- ---- Two steps

-- two neighbouring steps of different threads may be exchanged, to the same state, unless the first unlocks the mutex that the second locks
abbrev pub Swap : Type 0
Swap = (x : f.Flat) (s between after : State) (one other : ℕ) → StateKeeps x s → other ≢ one → source_step s one ≡ Some between →
    source_step between other ≡ Some after →
    ((mutex : ℕ) → unlocks s one ≡ Some mutex → locks between other ≢ Some mutex) →
    (first : State) × (source_step s other ≡ Some first) × (source_step first one ≡ Some after)

-- ---- Schedules

-- how many steps of a schedule are the thread's
abbrev pub steps_of : (thread : ℕ) → (schedule : List ℕ) → ℕ
steps_of thread [] = 0
steps_of thread (u ∷ us) = if u == thread then suc (steps_of thread us) else steps_of thread us

-- a schedule without the thread's first step
abbrev pub without_first : (thread : ℕ) → (schedule : List ℕ) → List ℕ
without_first thread [] = []
without_first thread (u ∷ us) = if u == thread then us else u ∷ without_first thread us

-- a schedule without the thread's first steps, so many
abbrev pub without : (steps thread : ℕ) → (schedule : List ℕ) → List ℕ
without zero thread schedule = schedule
without (suc n) thread schedule = without n thread (without_first thread schedule)

-- the thread's first steps, so many, are made before all others
abbrev pub moved : (steps thread : ℕ) → (schedule : List ℕ) → List ℕ
moved steps thread schedule = replicate steps thread ++ without steps thread schedule

-- a mutex is transferred in the schedule: a thread locks what another one unlocked earlier
pub record TransfersLock (s : State) (schedule : List ℕ) : Type 0 where
  pub before : List ℕ
  pub giver : ℕ
  pub between : List ℕ
  pub taker : ℕ
  pub rest : List ℕ
  pub mutex : ℕ
  pub is : schedule ≡ before ++ giver ∷ between ++ taker ∷ rest
  pub others : taker ≢ giver
  pub gives : unlocks (after_from s before) giver ≡ Some mutex
  pub takes : locks (after_from s (before ++ giver ∷ between)) taker ≡ Some mutex

-- the thread's next step locks what another one unlocked in the schedule
pub record AcquiresReleased (s : State) (schedule : List ℕ) (thread : ℕ) : Type 0 where
  pub before : List ℕ
  pub giver : ℕ
  pub rest : List ℕ
  pub mutex : ℕ
  pub is : schedule ≡ before ++ giver ∷ rest
  pub others : thread ≢ giver
  pub gives : unlocks (after_from s before) giver ≡ Some mutex
  pub takes : locks (after_from s schedule) thread ≡ Some mutex

-- where no mutex is transferred, none is with one more step that acquires no released one
abbrev pub StepAdded : Type 0
StepAdded = (s : State) (schedule : List ℕ) (thread : ℕ) → ¬ (TransfersLock s schedule) → ¬ (AcquiresReleased s schedule thread) →
    ¬ (TransfersLock s (schedule ++ thread ∷ []))

-- where no mutex is transferred, none is without the first steps, from where they lead
abbrev pub StepsDropped : Type 0
StepsDropped = (s : State) (first second : List ℕ) → runs_from s first ≡ true → ¬ (TransfersLock s (first ++ second)) →
    ¬ (TransfersLock (after_from s first) second)

-- ---- Runs

-- the other schedule can be stepped whole, too, and leads to the same state; as many sections of each thread end; and again no mutex is transferred
pub record IsExchanged (s : State) (schedule other : List ℕ) : Type 0 where
  pub runs : runs_from s other ≡ true
  pub after : after_from s other ≡ after_from s schedule
  pub ended : (thread : ℕ) → ended_from s other thread ≡ ended_from s schedule thread
  pub hands : ¬ (TransfersLock s other)

-- where no mutex is transferred, a thread's first steps may be moved before all others
abbrev pub Exchange : Type 0
Exchange = (x : f.Flat) (s : State) (schedule : List ℕ) (thread steps : ℕ) → StateKeeps x s → runs_from s schedule ≡ true → ¬ (TransfersLock s schedule) →
    steps ≤ steps_of thread schedule → IsExchanged s schedule (moved steps thread schedule)

-- ---- One thread alone

-- what a thread is in a state, what it holds, and the elements that this guards, are as in the other state
pub record IsSameTo (x : f.Flat) (s other : State) (thread : ℕ) : Type 0 where
  pub own : slice_get s.threads thread ≡ slice_get other.threads thread
  pub held : held_by thread s.holders ≡ held_by thread other.holders
  pub guarded : (variable element : ℕ) → Guards x s thread variable element → IsSameElement other s variable element

-- the thread's own steps of a schedule can be stepped alone, and give what the thread is after the whole schedule
pub record IsSolo (x : f.Flat) (s : State) (schedule : List ℕ) (thread : ℕ) : Type 0 where
  pub runs : runs_from s (replicate (steps_of thread schedule) thread) ≡ true
  pub same : IsSameTo x (after_from s schedule) (after_from s (replicate (steps_of thread schedule) thread)) thread

-- where no mutex is transferred, a thread's own steps alone give what it is
abbrev pub Solo : Type 0
Solo = (x : f.Flat) (s : State) (schedule : List ℕ) (thread : ℕ) → StateKeeps x s → runs_from s schedule ≡ true → ¬ (TransfersLock s schedule) →
    IsSolo x s schedule thread
