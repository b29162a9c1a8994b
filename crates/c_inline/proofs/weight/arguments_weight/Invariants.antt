use Rattle.std.proofs.Common.{◌≡◌, ◌≤◌, ◌+◌, drop, min, map}
use Rattle.std.below.core.specs.declared.int.u64.TheConstants as u64
use Rattle.c_tree.specs.Exprs.{placed_of}
use Rattle.c_inline.specs.links.Weights.{arguments_weight}
use Rattle.c_inline.proofs.weight.arguments_weight.Given as goal

abbrev pub invariant-loop-argument : goal.invariant-loop-argument
invariant-loop-argument l =
    (l.weight ≤ u64.MAX) × (min (l.weight + arguments_weight l.weights (map placed_of (drop l.argument-index l.arguments))) u64.MAX
    ≡ min (arguments_weight l.weights (map placed_of l.arguments)) u64.MAX)
