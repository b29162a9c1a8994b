use Rattle.flow_graph.specs.Nodes.{graph_of}
use Rattle.region_cutter.specs.links.RegionLimits.{AreAtEnd, HaveReads}
use Rattle.region_cutter.proofs.region_limits.tracks_of.Given as goal

abbrev pub invariant-loop-number : goal.invariant-loop-number
invariant-loop-number l = AreAtEnd l.past l.tracks.items × HaveReads (graph_of l.graph) l.fn.first l.number l.tracks.items
