-- Rows of statements that are made one after the other.
use Rattle.std.specs.Prelude.{List, ◌++◌, Option, Some, None}
use Rattle.ido_base.specs.declared.place.Place.{Place}
use Rattle.c_tree.specs.declared.language.Language.{Language}
use Rattle.c_tree.specs.Names as n
use Rattle.c_tree.specs.Programs as p
use Rattle.c_tree.specs.LexicalScan.{Fault}
use Rattle.c_tree.specs.Trees as t
use Rattle.c_tree.specs.TypeRules as rules
use Rattle.c_tree.specs.Elaboration as typing
use Rattle.c_tree.specs.Elaboration.{one, statements_and}

abbrev pub maybe_one : Option p.Statement → p.Statements
maybe_one None = p.no_statement
maybe_one (Some x) = one x

-- the loop that a `for` is, in the scope of its own local, and what is broken in it
abbrev pub loop_as : List n.Global → Place → n.Scope → Option t.Expression → Option t.Assignment → t.Block → p.Statement
loop_as gs place s x last body =
    p.While place (typing.condition_at gs place s x) (statements_and (typing.inside gs s body).made (typing.last_at gs place s last))

abbrev pub loop_faults : Language → List n.Global → n.Scope → Option t.Expression → Option t.Assignment → t.Block → List Fault
loop_faults l gs s x last body = rules.maybe_faults l gs s x ++ rules.last_faults l gs s last ++ rules.block_faults l gs s body
