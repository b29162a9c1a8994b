use Rattle.std.proofs.Common.{◌≡◌, ◌≤◌, ◌+◌, drop, min, map}
use Rattle.std.below.core.specs.declared.int.u64.TheConstants as u64
use Rattle.c_tree.specs.Programs.{function_of, statements_of, arms_list_of}
use Rattle.c_inline.specs.links.Weights.{known_weight, statements_weight, arms_weight}
use Rattle.c_inline.proofs.weight.+weights.Given as goal

abbrev pub invariant-arms_weight-loop-arm : goal.invariant-arms_weight-loop-arm
invariant-arms_weight-loop-arm l =
    (l.weight ≤ u64.MAX)
    × (min (l.weight + arms_weight l.weights 0 (map function_of l.functions) (known_weight l.known) (arms_list_of (drop l.arm-index l.arms))) u64.MAX
    ≡ min (arms_weight l.weights 0 (map function_of l.functions) (known_weight l.known) (arms_list_of l.arms)) u64.MAX)

abbrev pub invariant-statements_weight-loop-statement : goal.invariant-statements_weight-loop-statement
invariant-statements_weight-loop-statement l =
    (l.weight ≤ u64.MAX)
    × (min (l.weight + statements_weight l.weights 0 (map function_of l.functions) (known_weight l.known) (statements_of (drop l.statement-index l.statements)))
    u64.MAX ≡ min (statements_weight l.weights 0 (map function_of l.functions) (known_weight l.known) (statements_of l.statements)) u64.MAX)
