use Rattle.std.proofs.Common.{◌≡◌, ℕ, ◌<◌, Some}
use Rattle.std.specs.Prelude.{slice_get}
use Rattle.region_cutter.specs.links.RegionLimits.{AddsTracks}
use Rattle.region_cutter.proofs.region_limits.add_tracks.Given as goal

abbrev pub invariant-loop-elements : goal.invariant-loop-elements
invariant-loop-elements l = AddsTracks l.past
    (λ read. (k : ℕ) × (k < l.elements-index) × (slice_get l.elements-items k ≡ Some read)) l.fn.tracks.items l.tracks.items
