use Rattle.std.proofs.Common.{◌≡◌, ◌++◌, map, drop}
use Rattle.c_tree.specs.Programs.{variable_of}
use Rattle.c_tree.specs.WellFormed.{shape_of}
use Rattle.c_tree.proofs.shapes.shapes.Given as goal

abbrev pub invariant-loop-variable : goal.invariant-loop-variable
invariant-loop-variable l =
    l.shapes.items ++ map shape_of (map variable_of (drop l.variable-index l.variables)) ≡ map shape_of (map variable_of l.variables)
