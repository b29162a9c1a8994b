use Rattle.std.proofs.Common.{arith}
use Rattle.c_inline.specs.links.Calls.{call_of}
use Rattle.c_inline.specs.links.KnownWeights.{IsUnknown}
use Rattle.std.proofs.Common.{get_or, ℕ}
use Rattle.c_inline.proofs.CallLists.{all_calls, some_call}
use Rattle.c_inline.proofs.weigh.is_ready.Goals as goal

pub returns-then-is_unknown : goal.returns-then-is_unknown
returns-then-is_unknown c = (
  call_of (get_or c.args.calls.now c.loop-call.call-index _),
  some_call c.args.calls.now c.loop-call.call-index _ c.loop-call-test.true,
  c.if-is_unknown.ensures,
)

pub returns : goal.returns
returns c = all_calls (λ (g : ℕ). IsUnknown c.args.known.now g → ⊥) c.args.calls.now (λ k d l. c.loop-call.invariant k d (omega arith))
