use Rattle.std.proofs.Common.{◌≡◌, ◌+◌, drop}
use Rattle.c_tree.specs.Flats.{statements_of, arms_list_of}
use Rattle.flow_graph.specs.Lowering.{statements_count, arms_count}
use Rattle.flow_lower.proofs.counts.+counts.Given as goal

abbrev pub invariant-count_all-loop-statement : goal.invariant-count_all-loop-statement
invariant-count_all-loop-statement l =
    l.total + statements_count (statements_of (drop l.statement-index l.statements)) ≡ statements_count (statements_of l.statements)

abbrev pub invariant-count_arms-loop-arm : goal.invariant-count_arms-loop-arm
invariant-count_arms-loop-arm l = l.total + arms_count (arms_list_of (drop l.arm-index l.arms)) ≡ arms_count (arms_list_of l.arms)
