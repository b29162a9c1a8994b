use Rattle.std.proofs.Common.{ℕ, ◌<◌, ◌≤◌, map, MatchBool}
use Rattle.c_tree.specs.Programs.{function_of}
use Rattle.c_inline.specs.links.KnownWeights.{AreRight, IsUnknown, CallsUnknown, IsClosed, found}
use Rattle.c_inline.proofs.weigh.weigh_both_ways.Given as goal

abbrev pub invariant-loop-number : goal.invariant-loop-number
invariant-loop-number l =
    AreRight l.weights (map function_of l.functions) l.known.items
    × MatchBool l.found (found l.fn.known.items < found l.known.items)
    ((g : ℕ) → g < l.number → IsUnknown l.known.items g → CallsUnknown (map function_of l.functions) l.known.items g)
    × (found l.fn.known.items ≤ found l.known.items)

abbrev pub invariant-loop-number-2 : goal.invariant-loop-number-2
invariant-loop-number-2 l =
    AreRight l.weights (map function_of l.functions) l.known.items
    × MatchBool l.found (found l.fn.known.items < found l.known.items) (IsClosed (map function_of l.functions) l.known.items)
    × (found l.fn.known.items ≤ found l.known.items)
