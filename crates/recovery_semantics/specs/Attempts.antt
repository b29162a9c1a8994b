-- A thread's own steps from a state, and how far an attempt at them has come.
use Rattle.std.specs.Prelude.{◌≡◌, ◌≢◌, ◌⊎◌, ℕ, ◌<◌, ◌≤◌, List, replicate, slice_get, slice_index_or, Option, Some, None}
use Rattle.c_tree.specs.Source.{State, Pending, source_step, after_from}
use Rattle.source_machine.specs.Mutexes.{locks, unlocks}

-- ---- One thread alone

-- the state after so many steps of the thread and of no other
abbrev pub solo : State → (thread steps : ℕ) → State
solo s thread steps = after_from s (replicate steps thread)

-- the thread's next step can be made, and passes no mutex
pub record IsInnerStep (s : State) (thread : ℕ) : Type 0 where
  pub next : State
  pub is : source_step s thread ≡ Some next
  pub locks_none : locks s thread ≡ None
  pub unlocks_none : unlocks s thread ≡ None

-- each of the thread's next steps, so many, can be made and passes no mutex
abbrev pub IsInner : State → (thread steps : ℕ) → Type 0
IsInner s thread steps = (k : ℕ) → k < steps → IsInnerStep (solo s thread k) thread

-- the thread's next step locks the mutex, or unlocks it
abbrev pub PassesMutex : State → (thread mutex : ℕ) → Type 0
PassesMutex s thread mutex = (locks s thread ≡ Some mutex) ⊎ (unlocks s thread ≡ Some mutex)

-- ---- What it writes

-- the store that the thread makes next, if it makes one
abbrev pub store_ahead : State → (thread : ℕ) → Option Pending
store_ahead s thread = elim (slice_get s.threads thread) [
  | Some found ↦ found.pending
  | None ↦ None
]

-- the thread's step after so many is a store of that element
pub record WritesAt (s : State) (thread steps variable element : ℕ) : Type 0 where
  pub store : Pending
  pub is : store_ahead (solo s thread steps) thread ≡ Some store
  pub variable_is : store.variable ≡ variable
  pub element_is : store.element ≡ element

-- one of the thread's next steps, so many, is a store of that element
pub record Writes (s : State) (thread steps variable element : ℕ) : Type 0 where
  pub before : ℕ
  pub within : before < steps
  pub at : WritesAt s thread before variable element

-- ---- Attempts

-- how many inner steps a thread's present attempt has made since what is kept, and the most that any attempt has
pub record Attempt : Type 0 where
  pub done : ℕ
  pub longest : ℕ

abbrev pub no_attempt : Attempt
no_attempt = record { done = 0; longest = 0 }

abbrev pub attempt_at : List Attempt → (thread : ℕ) → Attempt
attempt_at attempts thread = slice_index_or attempts thread no_attempt

-- the thread's attempt is that one now, and every other thread's is as before
pub record IsAttempted (old new : List Attempt) (thread : ℕ) (attempt : Attempt) : Type 0 where
  pub own : attempt_at new thread ≡ attempt
  pub others : (u : ℕ) → u ≢ thread → attempt_at new u ≡ attempt_at old u

-- an earlier attempt has written the element where the present one, which hasn't written it yet, may come again
pub record IsOverrun (s : State) (thread : ℕ) (attempt : Attempt) (variable element : ℕ) : Type 0 where
  pub later : ℕ
  pub not_done : attempt.done ≤ later
  pub within : later < attempt.longest
  pub at : WritesAt s thread later variable element
  pub unwritten : ¬ (Writes s thread attempt.done variable element)
