use Rattle.std.proofs.Common.{◌+◌, ◌/◌}
use Rattle.flow_live.specs.links.Passes.{AreLong}
use Rattle.flow_live.proofs.ReadSets.{AreReadUpTo}
use Rattle.flow_live.proofs.reading.read_by_each.Given as goal

abbrev pub invariant-loop-node : goal.invariant-loop-node
invariant-loop-node l = AreReadUpTo l.nodes l.sets.items l.node-index × AreLong l.sets.items (l.most / 64 + 1)
