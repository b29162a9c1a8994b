use Rattle.std.proofs.Common.{◌≡◌, take, map}
use Rattle.c_tree.specs.Programs.{variable_of}
use Rattle.c_tree.specs.WellFormed.{shape_of, initial_numbers}
use Rattle.memory_layout.specs.links.Bytes.{bytes_from}
use Rattle.rv64_codegen.proofs.initial.initial_bytes.Given as goal

abbrev pub invariant-loop-variable : goal.invariant-loop-variable
invariant-loop-variable l =
    l.bytes.items ≡ bytes_from 0 (take l.variable-index (map shape_of (map variable_of l.variables)))
    (take l.variable-index (map initial_numbers (map variable_of l.variables)))
