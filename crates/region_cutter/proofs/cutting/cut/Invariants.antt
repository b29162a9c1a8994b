use Rattle.flow_graph.specs.Nodes.{graph_of}
use Rattle.flow_graph.specs.IdempotentCuts.{boundaries_of}
use Rattle.region_cutter.specs.links.BoundaryTrials.{AreKept, standing}
use Rattle.region_cutter.specs.links.CoveredReads.{AreCovered}
use Rattle.region_cutter.specs.FewestCuts.{AreFewestCuts}
use Rattle.region_cutter.proofs.cutting.cut.Given as goal

abbrev pub invariant-loop-covered : goal.invariant-loop-covered
invariant-loop-covered l = record {
  kept : AreKept (graph_of l.graph) (boundaries_of l.cuts);
  fewest : AreFewestCuts (graph_of l.graph) (boundaries_of l.cuts);
  covered : AreCovered (graph_of l.graph) (boundaries_of l.cuts) l.covered.items;
}

abbrev pub decreases-loop-covered : goal.decreases-loop-covered
decreases-loop-covered l = standing (boundaries_of l.cuts)
