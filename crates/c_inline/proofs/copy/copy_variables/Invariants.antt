use Rattle.std.proofs.Common.{◌≡◌, map, take}
use Rattle.c_tree.specs.Programs.{variable_of}
use Rattle.c_inline.proofs.copy.copy_variables.Given as goal

abbrev pub invariant-loop-variable : goal.invariant-loop-variable
invariant-loop-variable l = map variable_of l.copies.items ≡ map variable_of (take l.variable-index l.variables)
