-- Programs that are made one item after the other.
use Rattle.std.specs.Prelude.{List, [], ◌++◌}
use Rattle.c_tree.specs.Names as n
use Rattle.c_tree.specs.Programs as p
use Rattle.c_tree.specs.Trees as t
use Rattle.c_tree.specs.Elaboration.{with_item}

abbrev pub nothing : p.Program
nothing = record { mutexes = []; variables = []; functions = []; threads = [] }

abbrev pub joined : p.Program → p.Program → p.Program
joined q r = record {
  mutexes = q.mutexes ++ r.mutexes;
  variables = q.variables ++ r.variables;
  functions = q.functions ++ r.functions;
  threads = q.threads ++ r.threads;
}

-- the program with one item more after it
abbrev pub and_item : List n.Global → p.Program → t.Item → p.Program
and_item gs q x = joined q (with_item gs x nothing)
