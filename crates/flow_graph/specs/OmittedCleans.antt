-- Which stores need no clean of their own line, since a later store of the region cleans it.
use Rattle.std.specs.Prelude.{◌≡◌, ◌/◌, ℕ, List, Some}
use Rattle.ido_base.specs.declared.location.Shape.{Shape}
use Rattle.ido_base.specs.declared.location.Location.{Location}
use Rattle.ido_base.specs.Layout.{line_bytes, variable_at}
use Rattle.flow_graph.specs.Nodes.{Node, Graph}
use Rattle.flow_graph.specs.Liveness.{NodeAt}
use Rattle.flow_graph.specs.IdempotentCuts.{Boundaries, IsEdge, IsBoundary}

-- the node stores into one element, which is known, and this line has its address
pub record StoresInLine (g : Graph) (shapes : List Shape) (line node : ℕ) : Type 0 where
  pub is : Node
  pub at : NodeAt g node is
  pub written : Location
  pub writes : is.writes ≡ Some written
  pub single : written.lo ≡ written.hi
  pub in_line : variable_at shapes written.variable written.lo / line_bytes ≡ line

-- a path leads from the node to the next boundary, and no node after it on the path stores into the line
pub data ReachesUncleaned (g : Graph) (b : Boundaries) (shapes : List Shape) (line : ℕ) : (node : ℕ) → Type 0 where
  at_boundary : (node to : ℕ) → IsEdge g node to → IsBoundary g b node to → ReachesUncleaned g b shapes line node
  goes_on : (node to : ℕ) → IsEdge g node to → ¬ (IsBoundary g b node to) → ¬ (StoresInLine g shapes line to) →
      ReachesUncleaned g b shapes line to → ReachesUncleaned g b shapes line node

-- the store's clean may be left out: on every path to the next boundary a later store is into its line
pub record IsCleanedLater (g : Graph) (b : Boundaries) (shapes : List Shape) (node : ℕ) : Type 0 where
  pub line : ℕ
  pub stores : StoresInLine g shapes line node
  pub later : ¬ (ReachesUncleaned g b shapes line node)
