use Rattle.std.proofs.Common.{◌≡◌, map, take}
use Rattle.flow_graph.specs.Nodes.{node_of}
use Rattle.region_cutter.specs.links.BoundaryTrials.{takes}
use Rattle.region_cutter.proofs.start.after_each.Given as goal

abbrev pub invariant-loop-node : goal.invariant-loop-node
invariant-loop-node l = l.after.items ≡ map takes (map node_of (take l.node-index l.nodes))
