use Rattle.flow_graph.specs.Nodes.{graph_of}
use Rattle.region_cutter.specs.links.AddedBoundaries.{AreAdded}
use Rattle.region_cutter.proofs.EachWrite.{AssignsBelow}
use Rattle.region_cutter.proofs.records.add_of_thread.Given as goal

abbrev pub invariant-loop-number : goal.invariant-loop-number
invariant-loop-number l = AreAdded (AssignsBelow (graph_of l.graph) l.held l.thread l.number) l.initial.before.items l.before.items
