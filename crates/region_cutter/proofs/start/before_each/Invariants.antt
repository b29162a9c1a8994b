use Rattle.std.proofs.Common.{◌≡◌, map, take}
use Rattle.flow_graph.specs.Nodes.{node_of}
use Rattle.region_cutter.specs.links.BoundaryTrials.{may_stand}
use Rattle.region_cutter.proofs.start.before_each.Given as goal

abbrev pub invariant-loop-node : goal.invariant-loop-node
invariant-loop-node l = l.before.items ≡ map may_stand (map node_of (take l.node-index l.nodes))
