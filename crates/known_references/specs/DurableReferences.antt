-- References in durable memory: whatever is lost, each is null or leads to an element.
use Rattle.std.specs.Prelude.{ℕ, List}
use Rattle.c_tree.specs.Flats as f
use Rattle.c_tree.specs.References.{variable_refers}
use Rattle.c_tree.specs.WellFormed.{IsWellFormed}
use Rattle.c_ranges.specs.RunInvariants.{RefersSo}
use Rattle.recovery_semantics.specs.ElementHistories.{durable_number, history_at}
use Rattle.recovery_semantics.specs.Configs.{Config}
use Rattle.recovery_semantics.specs.Executions.{Execution}
use Rattle.region_attempts.specs.Origins.{Origin}

-- the durable number of each element of what refers so: one of the state in which the execution began, or of a store since
abbrev pub DurableRefer : Type 0
DurableRefer = (x : f.Flat) (o : Origin x) (m : Config) (schedule : List ℕ) → IsWellFormed x → Execution x o.source m schedule →
    (variable element : ℕ) → RefersSo x.variables (variable_refers x.variables variable) (durable_number (history_at m.memory variable element))
