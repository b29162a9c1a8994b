use Rattle.std.proofs.Common.{take}
use Rattle.c_inline.specs.links.Calls.{calls_of, lists_of}
use Rattle.c_inline.specs.links.ReachedFunctions.{IsBackAmong}
use Rattle.c_inline.proofs.recursion.first_back_in.Given as goal

abbrev pub invariant-loop-call : goal.invariant-loop-call
invariant-loop-call l = IsBackAmong (lists_of l.calls) l.number (calls_of (take l.call-index l.call-items)) l.best
