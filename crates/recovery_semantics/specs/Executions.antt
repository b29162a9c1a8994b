-- What happens from a state on, and the schedule of the steps that are kept.
use Rattle.std.specs.Prelude.{ℕ, List, [], ◌++◌, map, replicate}
use Rattle.c_tree.specs.Flats as f
use Rattle.c_tree.specs.Source.{State}
use Rattle.recovery_semantics.specs.ElementHistories.{Memory, AreStable}
use Rattle.recovery_semantics.specs.Attempts.{no_attempt}
use Rattle.recovery_semantics.specs.Configs.{Config}
use Rattle.recovery_semantics.specs.Events.{ConfigStep, steps_locally, stores, synchronises, persists, commits, crashes, steps_begun}

-- nothing is done since the state
abbrev pub first_config : f.Flat → State → Memory → Config
first_config x from memory = record {
  kept = from;
  uncommitted = [];
  memory = memory;
  attempts = map (λ (t : f.Thread). no_attempt) x.threads;
}

-- the steps that what happens keeps
abbrev pub kept_steps : {m next : Config} → ConfigStep m next → List ℕ
kept_steps {m} (steps_locally thread attempts h) = []
kept_steps {m} (stores thread memory attempts h) = []
kept_steps {m} (synchronises thread h) = []
kept_steps {m} (persists memory h) = []
kept_steps {m} (commits thread attempts h) = replicate (steps_begun m thread) thread
kept_steps {m} (crashes attempts h) = []

-- a config that comes about from a state, with the schedule of all steps that were kept on the way: from the source's start, from what an earlier run has left
-- settled, or from wherever threads are resumed, in any memory in which the state's numbers are stable
pub data Execution (x : f.Flat) (from : State) : Config → (schedule : List ℕ) → Type 0 where
  begins : (memory : Memory) → AreStable from memory → Execution x from (first_config x from memory) []
  then : {m next : Config} {schedule : List ℕ} → Execution x from m schedule → (h : ConfigStep m next) → Execution x from next (schedule ++ kept_steps h)
