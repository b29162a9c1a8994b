use Rattle.std.proofs.Common.{◌-◌, map, length}
use Rattle.c_tree.specs.Programs.{function_of}
use Rattle.c_inline.specs.links.KnownWeights.{AreRight, found}
use Rattle.c_inline.proofs.weigh.weigh.Given as goal

abbrev pub invariant-loop-weights : goal.invariant-loop-weights
invariant-loop-weights l = AreRight l.weights (map function_of l.functions) l.known.items

abbrev pub decreases-loop-weights : goal.decreases-loop-weights
decreases-loop-weights l = length l.functions - found l.known.items
