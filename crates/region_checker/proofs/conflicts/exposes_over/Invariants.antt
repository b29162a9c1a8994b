use Rattle.std.proofs.Common.{◌≡◌, ℕ, ◌<◌, Some}
use Rattle.std.specs.Prelude.{slice_get}
use Rattle.ido_base.specs.declared.location.Location.{Location}
use Rattle.flow_graph.specs.Nodes.{graph_of}
use Rattle.region_checker.specs.links.ConflictSearch.{ForRegions, IsExposedAt}
use Rattle.region_checker.proofs.conflicts.exposes_over.Given as goal

abbrev pub invariant-loop-location : goal.invariant-loop-location
invariant-loop-location l = ForRegions (graph_of l.graph) l.regions
    (λ b. (k : ℕ) (x : Location) → k < l.location-index → slice_get l.location-items k ≡ Some x → ¬ (IsExposedAt (graph_of l.graph) b l.read l.store x))
