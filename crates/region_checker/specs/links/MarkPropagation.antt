-- Marks of nodes that are spread along paths.
use Rattle.std.specs.Prelude.{◌≡◌, ◌⊎◌, ◌↔◌, ◌<◌, ℕ, List, length, Bool, true, false, Some, slice_get, slice_index_or, sum_by, if◌then◌else◌}
use Rattle.flow_graph.specs.Nodes.{Graph}
use Rattle.flow_graph.specs.IdempotentCuts.{Boundaries, IsEdge, IsBoundary}
use Rattle.region_checker.specs.declared.paths.Path.{Path}

abbrev pub IsMarked : List Bool → (node : ℕ) → Type 0
IsMarked marks node = slice_index_or marks node false ≡ true

-- how many can still be marked
abbrev pub unmarked : List Bool → ℕ
unmarked marks = sum_by (λ m. if m then 0 else 1) marks

abbrev pub IsOn : Path → (to : ℕ) → Type 0
IsOn path to = (path.next ≡ Some to) ⊎ (path.other ≡ Some to)

-- a path leads from the one node to the other
pub record PathLeads (paths : List Path) (from to : ℕ) : Type 0 where
  pub path : Path
  pub at : slice_get paths from ≡ Some path
  pub goes : IsOn path to

-- an edge of the graph that passes no boundary
pub record IsInnerEdge (g : Graph) (b : Boundaries) (from to : ℕ) : Type 0 where
  pub edge : IsEdge g from to
  pub free : ¬ (IsBoundary g b from to)

pub record ArePaths (g : Graph) (b : Boundaries) (paths : List Path) : Type 0 where
  pub count : length paths ≡ length g.nodes
  pub each : (from to : ℕ) → PathLeads paths from to ↔ IsInnerEdge g b from to

-- from a node of the start steps lead to this one, none of them from a node that stops them
pub data Arrives (leads : ℕ → ℕ → Type 0) (start stop : ℕ → Type 0) : (node : ℕ) → Type 0 where
  starts : (node : ℕ) → start node → Arrives leads start stop node
  goes_on : (from to : ℕ) → leads from to → ¬ (stop from) → Arrives leads start stop from → Arrives leads start stop to

-- the marks of the nodes where one arrives
abbrev pub AreSpread : (paths : List Path) → (stops before after : List Bool) → Type 0
AreSpread paths stops before after =
    (node : ℕ) → IsMarked after node ↔ ((node < length before) × Arrives (PathLeads paths) (IsMarked before) (IsMarked stops) node)

-- marks are added at these nodes, some or none
pub record Marks (at : ℕ → Type 0) (before after : List Bool) (grows : Bool) : Type 0 where
  pub long : length after ≡ length before
  pub has : (node : ℕ) → IsMarked after node ↔ (IsMarked before node ⊎ ((node < length before) × at node))
  pub same : grows ≡ false → after ≡ before
  pub fewer : grows ≡ true → unmarked after < unmarked before

-- a path leads to the node from a marked one that doesn't stop it
pub record IsBeyond (paths : List Path) (stops marks : List Bool) (from node : ℕ) : Type 0 where
  pub marked : IsMarked marks from
  pub free : ¬ (IsMarked stops from)
  pub leads : PathLeads paths from node

-- a pass over the first of the paths has added marks, or has added none and there was none to add
pub record IsMarkPass (paths : List Path) (stops : List Bool) (until : ℕ) (before after : List Bool) (grows : Bool) : Type 0 where
  pub long : length after ≡ length before
  pub keeps : (node : ℕ) → IsMarked before node → IsMarked after node
  pub sound : (start : List Bool) → ((node : ℕ) → IsMarked before node → Arrives (PathLeads paths) (IsMarked start) (IsMarked stops) node) →
      (node : ℕ) → IsMarked after node → Arrives (PathLeads paths) (IsMarked start) (IsMarked stops) node
  pub same : grows ≡ false → after ≡ before
  pub closed : grows ≡ false → (from to : ℕ) → from < until → IsMarked after from → ¬ (IsMarked stops from) → PathLeads paths from to → to < length after →
      IsMarked after to
  pub fewer : grows ≡ true → unmarked after < unmarked before
