use Rattle.flow_graph.specs.Nodes.{graph_of}
use Rattle.region_checker.specs.links.ConflictSearch.{ForRegions, IsLeastOf}
use Rattle.region_checker.proofs.LeastNumbers.{IsHitBelow}
use Rattle.region_checker.proofs.conflicts.first_store.Given as goal

abbrev pub invariant-loop-location : goal.invariant-loop-location
invariant-loop-location l = ForRegions (graph_of l.graph) l.regions (λ b. IsLeastOf (IsHitBelow (graph_of l.graph) b l.location-items l.location-index) l.first)
