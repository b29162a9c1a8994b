-- What guards variables, and the names of a thread's locks, as the code has them.
use Rattle.std.specs.Prelude.{map}
use Rattle.c_tree.specs.Exprs.{lock_ref_of}
use Rattle.c_tree.specs.Programs.{variable_of}
use Rattle.flow_graph.specs.Lowering.{Table}
use Rattle.flow_lower.specs.declared.table.Table as code

abbrev pub table_from : code.Table → Table
table_from t = record { variables = map variable_of t.variables.now; names = map lock_ref_of t.names.now }
