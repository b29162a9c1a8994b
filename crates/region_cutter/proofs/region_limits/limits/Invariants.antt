use Rattle.std.proofs.Common.{◌≤◌}
use Rattle.flow_graph.specs.Nodes.{graph_of}
use Rattle.region_cutter.specs.links.RegionLimits.{AreTracked, HaveReads, AreLimits}
use Rattle.region_cutter.proofs.region_limits.limits.Given as goal

abbrev pub invariant-loop-number : goal.invariant-loop-number
invariant-loop-number l = record {
  from_first : l.first ≤ l.number;
  to_past : l.number ≤ l.past;
  tracked : AreTracked (graph_of l.graph) l.number l.past l.tracks.items;
  reads : HaveReads (graph_of l.graph) l.first l.past l.tracks.items;
  limits : AreLimits (graph_of l.graph) l.first l.past l.number l.limits.items;
}

abbrev pub decreases-loop-number : goal.decreases-loop-number
decreases-loop-number l = l.number
