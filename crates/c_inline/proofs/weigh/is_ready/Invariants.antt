use Rattle.std.proofs.Common.{ℕ, ◌<◌, get_or}
use Rattle.c_inline.specs.links.KnownWeights.{IsUnknown}
use Rattle.c_inline.specs.declared.calls.Call.{Call}
use Rattle.c_inline.proofs.weigh.is_ready.Given as goal

abbrev pub invariant-loop-call : goal.invariant-loop-call
invariant-loop-call l = (k : ℕ) (d : Call) → k < l.call-index → IsUnknown l.known (get_or l.calls k d).function → ⊥
