use Rattle.flow_graph.specs.Nodes.{graph_of}
use Rattle.region_cutter.proofs.TrialParts.{AreSourcesBelow}
use Rattle.region_cutter.proofs.marks.sources_of.Given as goal

abbrev pub invariant-loop-number : goal.invariant-loop-number
invariant-loop-number l = AreSourcesBelow (graph_of l.graph) l.number l.sources.items
