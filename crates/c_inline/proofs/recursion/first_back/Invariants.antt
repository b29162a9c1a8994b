use Rattle.c_inline.specs.links.Calls.{lists_of}
use Rattle.c_inline.specs.links.ReachedFunctions.{IsBackBelow}
use Rattle.c_inline.proofs.recursion.first_back.Given as goal

abbrev pub invariant-loop-number : goal.invariant-loop-number
invariant-loop-number l = IsBackBelow (lists_of l.calls) l.number l.best
