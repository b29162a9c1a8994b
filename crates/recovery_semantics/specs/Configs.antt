-- A config of threads that run, lose power and run again; and what is true of each.
use Rattle.std.specs.Prelude.{◌≡◌, ◌⊎◌, ℕ, suc, ◌<◌, ◌≤◌, List, length, map, true}
use Rattle.c_tree.specs.Flats as f
use Rattle.c_tree.specs.Source.{State, after_from, runs_from}
use Rattle.source_machine.specs.Discipline.{StateKeeps}
use Rattle.source_machine.specs.StepExchanges.{steps_of, TransfersLock}
use Rattle.recovery_semantics.specs.ElementHistories.{Memory, IsStable, live_number, history_at, number_at, sizes}
use Rattle.recovery_semantics.specs.Attempts.{Attempt, attempt_at, solo, IsInner, PassesMutex, Writes, IsOverrun}

pub record Config : Type 0 where
  -- the state after the steps that no crash takes back
  pub kept : State
  -- of which threads steps were begun since the last crash and aren't kept, in order
  pub uncommitted : List ℕ
  pub memory : Memory
  -- the attempt of each thread
  pub attempts : List Attempt

-- the state after all begun steps
abbrev pub now : Config → State
now m = after_from m.kept m.uncommitted

abbrev pub attempt_of : Config → (thread : ℕ) → Attempt
attempt_of m thread = attempt_at m.attempts thread

-- the thread has begun the attempt's inner steps alone, or also the next one, which passes a mutex and ends the attempt
abbrev pub AreBegun : Config → (thread : ℕ) → Type 0
AreBegun m thread = (steps_of thread m.uncommitted ≡ (attempt_of m thread).done) ⊎
    ((steps_of thread m.uncommitted ≡ suc (attempt_of m thread).done) ×
    ((mutex : ℕ) × PassesMutex (solo m.kept thread (attempt_of m thread).done) thread mutex))

-- what an attempt says of its thread
pub record IsTried (m : Config) (thread : ℕ) : Type 0 where
  pub within : (attempt_of m thread).done ≤ (attempt_of m thread).longest
  pub inner : IsInner m.kept thread (attempt_of m thread).longest
  pub begun : AreBegun m thread

-- no attempt of any thread has written the element
abbrev pub IsNeverWritten : Config → (variable element : ℕ) → Type 0
IsNeverWritten m variable element = (thread : ℕ) → ¬ (Writes m.kept thread (attempt_of m thread).longest variable element)

-- no attempt has written the element where the present one may come again
abbrev pub IsNotOverrun : Config → (variable element : ℕ) → Type 0
IsNotOverrun m variable element = (thread : ℕ) → ¬ (IsOverrun m.kept thread (attempt_of m thread) variable element)

-- what is true of each config
pub record Invariant (x : f.Flat) (m : Config) : Type 0 where
  pub keeps : StateKeeps x m.kept
  pub runs : runs_from m.kept m.uncommitted ≡ true
  pub hands : ¬ (TransfersLock m.kept m.uncommitted)
  pub tried : (thread : ℕ) → IsTried m thread
  pub size : sizes m.memory ≡ map length m.kept.variables
  -- each durable position is there
  pub there : (v e : ℕ) → (history_at m.memory v e).durable < length (history_at m.memory v e).values
  -- what no attempt has written is durably as it was kept
  pub durable : (v e : ℕ) → IsNeverWritten m v e → IsStable (history_at m.memory v e) (number_at m.kept v e)
  -- what no earlier attempt has written further on is live as it is now
  pub live : (v e : ℕ) → IsNotOverrun m v e → live_number (history_at m.memory v e) ≡ number_at (now m) v e
