use Rattle.std.proofs.Common.{drop}
use Rattle.c_tree.specs.Flats.{statements_of, arms_list_of}
use Rattle.flow_lower.specs.links.Tables.{table_from}
use Rattle.flow_lower.proofs.AddedNodes.{StatementsLeft, ArmsLeft}
use Rattle.flow_lower.proofs.lowering.+lowering.Given as goal

abbrev pub invariant-lower_all-loop-statement : goal.invariant-lower_all-loop-statement
invariant-lower_all-loop-statement l =
    StatementsLeft (table_from l.table) l.fn.nodes.items l.nodes.items l.next l.end (statements_of l.statements)
    (statements_of (drop l.statement-index l.statements))

abbrev pub invariant-lower_arms-loop-arm : goal.invariant-lower_arms-loop-arm
invariant-lower_arms-loop-arm l =
    ArmsLeft (table_from l.table) l.fn.nodes.items l.nodes.items (record { place = l.place; last = l.last; next = l.next }) l.end (arms_list_of l.arms)
    (arms_list_of (drop l.arm-index l.arms))
