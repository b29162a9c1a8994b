-- Threads that hold a mutex, from one on.
use Rattle.std.specs.Prelude.{ℕ, ◌<◌, ◌≤◌}
use Rattle.image_checks.specs.Logs.{HoldsLock, Logs}

module _ (logs : Logs) (threads from lock : ℕ) where
  -- none of so many threads, from the given one on, holds the lock
  abbrev pub HasNoHolder : Type 0
  HasNoHolder = (thread : ℕ) → from ≤ thread → thread < threads → ¬ (HoldsLock logs thread lock)

  -- the thread is the least of so many, from the given one on, that holds the lock
  pub record IsNextHolder (holder : ℕ) : Type 0 where
    pub from_on : from ≤ holder
    pub within : holder < threads
    pub holds : HoldsLock logs holder lock
    pub least : (thread : ℕ) → from ≤ thread → thread < holder → ¬ (HoldsLock logs thread lock)
