-- How boundaries are placed in straight code.
use Rattle.std.specs.Prelude.{◌≡◌, ◌⊎◌, ◌↔◌, ◌<◌, ℕ, List, length, map, Bool, true, Contains, slice_get, Some}
use Rattle.flow_graph.specs.Nodes.{Graph}
use Rattle.flow_graph.specs.IdempotentCuts.{Boundaries, IsUnlock, HasBefore, Writes}
use Rattle.region_cutter.specs.declared.straight.Stretch.{Stretch}
use Rattle.region_cutter.specs.FewestCuts.{IsStretch, HasFewest}
use Rattle.region_cutter.specs.links.BoundaryTrials.{takes}

-- the node is one of straight code, after its first one
pub record IsInStretch (g : Graph) (node : ℕ) : Type 0 where
  pub first : ℕ
  pub past : ℕ
  pub stretch : IsStretch g first past
  pub later : first < node
  pub before : node < past

-- of the nodes after `first` and before `past` a boundary stands before these alone
pub record ArePlaced (first past : ℕ) (chosen : List ℕ) (old new : List Bool) : Type 0 where
  pub long : length new ≡ length old
  pub outside : (node : ℕ) → ¬ ((first < node) × (node < past)) → slice_get new node ≡ slice_get old node
  pub inside : (node : ℕ) → first < node → node < past → (slice_get new node ≡ Some true) ↔ Contains chosen node

-- in the first so many stretches the fewest stand, and elsewhere all that may stand
pub record AreFewIn (g : Graph) (stretches : List Stretch) (count : ℕ) (b : Boundaries) : Type 0 where
  pub after : b.after_lock ≡ map takes g.nodes
  pub long : length b.before ≡ length g.nodes
  pub places : (node : ℕ) → HasBefore b node → IsUnlock g node ⊎ Writes g node
  pub stands : (node : ℕ) → IsUnlock g node ⊎ Writes g node → HasBefore b node ⊎ IsInStretch g node
  pub done : (k : ℕ) (s : Stretch) → k < count → slice_get stretches k ≡ Some s → HasFewest g b s.first s.past
