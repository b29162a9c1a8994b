-- What can happen to a config.
use Rattle.std.specs.Prelude.{◌≡◌, ℕ, suc, max, ◌<◌, List, [], ◌∷◌, ◌++◌, length, replicate, slice_index_or, Some, None}
use Rattle.c_tree.specs.Source.{State, Pending, source_step, after_from}
use Rattle.source_machine.specs.StepExchanges.{steps_of, without, AcquiresReleased}
use Rattle.recovery_semantics.specs.ElementHistories.{Memory, IsStable, IsStored, ArePersisted, history_at, number_at, crashed}
use Rattle.recovery_semantics.specs.Attempts.{Attempt, IsAttempted, IsInnerStep, PassesMutex, Writes, attempt_at, no_attempt, store_ahead}
use Rattle.recovery_semantics.specs.Configs.{Config, now, attempt_of}

-- one inner step more
abbrev pub stepped : Attempt → Attempt
stepped a = record { done = suc a.done; longest = max a.longest (suc a.done) }

-- one more step of the thread is begun
abbrev pub begun : Config → (thread : ℕ) → Memory → List Attempt → Config
begun m thread memory attempts = record { kept = m.kept; uncommitted = m.uncommitted ++ thread ∷ []; memory = memory; attempts = attempts }

-- the attempt hasn't passed a mutex, which ends it
abbrev pub IsGoing : Config → (thread : ℕ) → Type 0
IsGoing m thread = steps_of thread m.uncommitted ≡ (attempt_of m thread).done

-- the thread goes on by an inner step that stores nothing
pub record StepsLocally (m : Config) (thread : ℕ) (attempts : List Attempt) : Type 0 where
  pub going : IsGoing m thread
  pub step : IsInnerStep (now m) thread
  pub no_store : store_ahead (now m) thread ≡ None
  pub attempt : IsAttempted m.attempts attempts thread (stepped (attempt_of m thread))

-- the thread stores to an element that is there
pub record Stores (m : Config) (thread : ℕ) (memory : Memory) (attempts : List Attempt) : Type 0 where
  pub going : IsGoing m thread
  pub store : Pending
  pub ahead : store_ahead (now m) thread ≡ Some store
  pub there : store.element < length (slice_index_or (now m).variables store.variable [])
  pub stored : IsStored m.memory memory store.variable store.element store.number
  pub attempt : IsAttempted m.attempts attempts thread (stepped (attempt_of m thread))

-- the thread locks or unlocks a mutex, and takes none over from a step that isn't kept
pub record Synchronises (m : Config) (thread : ℕ) : Type 0 where
  pub going : IsGoing m thread
  pub next : State
  pub is : source_step (now m) thread ≡ Some next
  pub mutex : ℕ
  pub passes : PassesMutex (now m) thread mutex
  pub own : ¬ (AcquiresReleased m.kept m.uncommitted thread)

-- how many steps of the thread are begun and not kept
abbrev pub steps_begun : Config → (thread : ℕ) → ℕ
steps_begun m thread = steps_of thread m.uncommitted

-- the thread's begun steps are kept: they come before all others, and the next attempt begins
abbrev pub settled_by : Config → (thread : ℕ) → List Attempt → Config
settled_by m thread attempts = record {
  kept = after_from m.kept (replicate (steps_begun m thread) thread);
  uncommitted = without (steps_begun m thread) thread m.uncommitted;
  memory = m.memory;
  attempts = attempts;
}

-- no earlier attempt has come further, and what this one stored is durable as of that store or later
pub record IsSettled (m : Config) (thread : ℕ) (attempts : List Attempt) : Type 0 where
  pub whole : (attempt_of m thread).done ≡ (attempt_of m thread).longest
  pub durable : (v e : ℕ) → Writes m.kept thread (attempt_of m thread).done v e → IsStable (history_at m.memory v e) (number_at (now m) v e)
  pub attempt : IsAttempted m.attempts attempts thread no_attempt

-- power fails: each thread begins again from what is kept
pub record IsAgain (old new : List Attempt) : Type 0 where
  pub done : (thread : ℕ) → (attempt_at new thread).done ≡ 0
  pub longest : (thread : ℕ) → (attempt_at new thread).longest ≡ (attempt_at old thread).longest

pub data ConfigStep (m : Config) : Config → Type 0 where
  -- an inner step that stores nothing is begun
  steps_locally : (thread : ℕ) (attempts : List Attempt) → StepsLocally m thread attempts → ConfigStep m (begun m thread m.memory attempts)
  -- a store is begun
  stores : (thread : ℕ) (memory : Memory) (attempts : List Attempt) → Stores m thread memory attempts → ConfigStep m (begun m thread memory attempts)
  -- a step is begun that locks or unlocks
  synchronises : (thread : ℕ) → Synchronises m thread → ConfigStep m (begun m thread m.memory m.attempts)
  -- more of memory is durable
  persists : (memory : Memory) → ArePersisted m.memory memory →
      ConfigStep m (record { kept = m.kept; uncommitted = m.uncommitted; memory = memory; attempts = m.attempts })
  -- a thread's begun steps are kept
  commits : (thread : ℕ) (attempts : List Attempt) → IsSettled m thread attempts → ConfigStep m (settled_by m thread attempts)
  -- power fails
  crashes : (attempts : List Attempt) → IsAgain m.attempts attempts →
      ConfigStep m (record { kept = m.kept; uncommitted = []; memory = crashed m.memory; attempts = attempts })
