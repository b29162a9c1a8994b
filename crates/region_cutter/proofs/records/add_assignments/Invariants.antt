use Rattle.flow_graph.specs.Nodes.{graph_of}
use Rattle.region_cutter.specs.links.AddedBoundaries.{AreAdded}
use Rattle.region_cutter.proofs.EachWrite.{AssignsInBelow}
use Rattle.region_cutter.proofs.records.add_assignments.Given as goal

abbrev pub invariant-loop-thread : goal.invariant-loop-thread
invariant-loop-thread l = AreAdded (AssignsInBelow (graph_of l.graph) l.held l.thread) l.initial.before.items l.before.items
