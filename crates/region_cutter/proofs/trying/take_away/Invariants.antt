use Rattle.flow_graph.specs.Nodes.{graph_of}
use Rattle.flow_graph.specs.IdempotentCuts.{boundaries_of}
use Rattle.region_cutter.specs.links.BoundaryTrials.{IsTrialPass}
use Rattle.region_cutter.specs.links.CoveredReads.{AreCovered}
use Rattle.region_cutter.proofs.trying.take_away.Given as goal

abbrev pub invariant-loop-number : goal.invariant-loop-number
invariant-loop-number l = record {
  pass : IsTrialPass (graph_of l.graph) (boundaries_of l.initial.cuts) (boundaries_of l.cuts) l.number l.any;
  covered : AreCovered (graph_of l.graph) (boundaries_of l.cuts) l.covered.items;
}
