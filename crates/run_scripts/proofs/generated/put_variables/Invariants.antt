use Rattle.std.proofs.Common.{◌≡◌, ◌++◌, drop, flat_map}
use Rattle.run_scripts.specs.GeneratedSources.{four, variable_item}
use Rattle.run_scripts.proofs.generated.put_variables.Given as goal

abbrev pub invariant-loop-variable : goal.invariant-loop-variable
invariant-loop-variable l = l.text.items ++ flat_map variable_item (drop l.variable four) ≡ l.initial.text.items ++ flat_map variable_item four
