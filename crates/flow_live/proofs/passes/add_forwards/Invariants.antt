use Rattle.std.proofs.Common.{◌≡◌, length}
use Rattle.flow_live.specs.links.Passes.{IsLivenessPass}
use Rattle.flow_live.proofs.passes.add_forwards.Given as goal

abbrev pub invariant-loop-number : goal.invariant-loop-number
invariant-loop-number l = IsLivenessPass l.nodes (length l.nodes) l.fn.sets l.sets l.grows × (length l.coming ≡ length l.fn.coming)
