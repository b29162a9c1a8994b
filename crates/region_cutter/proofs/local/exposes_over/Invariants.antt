use Rattle.std.proofs.Common.{◌≡◌, ℕ, ◌<◌, Some}
use Rattle.std.specs.Prelude.{slice_get}
use Rattle.ido_base.specs.declared.location.Location.{Location}
use Rattle.flow_graph.specs.Nodes.{graph_of}
use Rattle.flow_graph.specs.IdempotentCuts.{boundaries_of}
use Rattle.region_cutter.specs.links.CoveredReads.{AreFound}
use Rattle.region_cutter.specs.links.RemovalPaths.{IsExposedOver}
use Rattle.region_cutter.proofs.local.exposes_over.Given as goal

abbrev pub invariant-loop-place : goal.invariant-loop-place
invariant-loop-place l = record {
  none : (k : ℕ) (e : Location) → k < l.place → slice_get l.elements-items k ≡ Some e →
      ¬ (IsExposedOver (graph_of l.graph) (boundaries_of l.cuts) l.writes l.number e);
  found : AreFound (graph_of l.graph) (boundaries_of l.cuts) l.found.items;
}
