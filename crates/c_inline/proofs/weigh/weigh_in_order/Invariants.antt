use Rattle.std.proofs.Common.{map}
use Rattle.c_tree.specs.Programs.{function_of}
use Rattle.c_inline.specs.links.KnownWeights.{AreRight}
use Rattle.c_inline.proofs.weigh.weigh_in_order.Given as goal

abbrev pub invariant-loop-number : goal.invariant-loop-number
invariant-loop-number l = AreRight l.weights (map function_of l.functions) l.known.items
