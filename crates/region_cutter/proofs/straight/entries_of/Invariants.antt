use Rattle.flow_graph.specs.Nodes.{graph_of}
use Rattle.region_cutter.specs.links.Stretches.{AreEntries}
use Rattle.region_cutter.proofs.straight.entries_of.Given as goal

abbrev pub invariant-loop-number : goal.invariant-loop-number
invariant-loop-number l = AreEntries (graph_of l.graph) l.number l.entries.items
