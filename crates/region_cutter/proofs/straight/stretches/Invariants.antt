use Rattle.flow_graph.specs.Nodes.{graph_of}
use Rattle.region_cutter.specs.links.Stretches.{AreStretchesBelow}
use Rattle.region_cutter.proofs.straight.stretches.Given as goal

abbrev pub invariant-loop-first : goal.invariant-loop-first
invariant-loop-first l = AreStretchesBelow (graph_of l.graph) l.first l.found.items
