use Rattle.std.proofs.Common.{ℕ, ◌<◌, ◌≤◌, ◌-◌, length}
use Rattle.flow_graph.specs.Nodes.{graph_of}
use Rattle.region_cutter.specs.FewestCuts.{IsPlain}
use Rattle.region_cutter.specs.links.Stretches.{GoesStraight}
use Rattle.region_cutter.proofs.straight.straight_end.Given as goal

abbrev pub invariant-loop-last : goal.invariant-loop-last
invariant-loop-last l = record {
  from_first : l.first ≤ l.last;
  exists : l.last < length l.graph.nodes.items;
  plain : (node : ℕ) → l.first ≤ node → node ≤ l.last → IsPlain (graph_of l.graph) node;
  straight : (node : ℕ) → l.first ≤ node → node < l.last → GoesStraight (graph_of l.graph) node;
}

abbrev pub decreases-loop-last : goal.decreases-loop-last
decreases-loop-last l = length l.graph.nodes.items - l.last
