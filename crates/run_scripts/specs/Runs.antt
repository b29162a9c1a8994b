-- Runs of a schedule: its steps, each of one thread, by how many stand together.
use Rattle.std.specs.Prelude.{◌≡◌, ◌≢◌, ℕ, ◌+◌, List, [], ◌∷◌, ◌==◌, if◌then◌else◌, flat_map, replicate, slice_get, Some}

-- steps of one thread that follow one another
pub record Run : Type 0 where
  pub thread : ℕ
  pub steps : ℕ

-- a step of a thread before runs
abbrev pub with_step : (thread : ℕ) → List Run → List Run
with_step t [] = record { thread = t; steps = 1 } ∷ []
with_step t (r ∷ rs) = if r.thread == t then record { thread = t; steps = r.steps + 1 } ∷ rs else record { thread = t; steps = 1 } ∷ r ∷ rs

-- the longest runs of a schedule
abbrev pub runs_of : List ℕ → List Run
runs_of [] = []
runs_of (t ∷ ts) = with_step t (runs_of ts)

-- the number of the thread of each step
abbrev pub schedule_of : List Run → List ℕ
schedule_of runs = flat_map (λ r. replicate r.steps r.thread) runs

-- each run takes a step, and the next is of another thread
pub record AreMerged (runs : List Run) : Type 0 where
  pub steps : (k : ℕ) (run : Run) → slice_get runs k ≡ Some run → run.steps ≢ 0
  pub threads : (k : ℕ) (run next : Run) → slice_get runs k ≡ Some run → slice_get runs (k + 1) ≡ Some next → run.thread ≢ next.thread
