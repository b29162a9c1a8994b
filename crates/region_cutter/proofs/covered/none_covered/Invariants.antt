use Rattle.flow_graph.specs.Nodes.{graph_of}
use Rattle.region_cutter.proofs.CoveredReads.{AreUnflaggedBelow}
use Rattle.region_cutter.proofs.covered.none_covered.Given as goal

abbrev pub invariant-loop-node : goal.invariant-loop-node
invariant-loop-node l = AreUnflaggedBelow (graph_of l.graph) l.node-index l.covered.items
