-- Lines into which nodes store.
use Rattle.std.specs.Prelude.{◌≡◌, ◌↔◌, ◌⊎◌, ◌<◌, ◌/◌, ℕ, List, length, Bool, true, IsTrue, Option, Some, slice_get}
use Rattle.ido_base.specs.declared.location.Shape.{Shape}
use Rattle.ido_base.specs.declared.location.Location.{Location}
use Rattle.ido_base.specs.Layout.{line_bytes, variable_at}
use Rattle.flow_graph.specs.Nodes.{Node, Graph, next_of, other_of}
use Rattle.flow_graph.specs.IdempotentCuts.{Boundaries, IsEdge, IsBoundary, HasBefore}
use Rattle.flow_graph.specs.OmittedCleans.{StoresInLine}
use Rattle.region_cutter.specs.links.GraphSearch.{ReachesEnd}

-- the node stores into one element, which is known, and the line has its address
pub record WritesInLine (shapes : List Shape) (x : Node) (line : ℕ) : Type 0 where
  pub written : Location
  pub writes : x.writes ≡ Some written
  pub single : written.lo ≡ written.hi
  pub in_line : variable_at shapes written.variable written.lo / line_bytes ≡ line

-- of each node the line, if it stores into one known element
pub record AreLines (g : Graph) (shapes : List Shape) (lines : List (Option ℕ)) : Type 0 where
  pub count : length lines ≡ length g.nodes
  pub each : (node line : ℕ) → (slice_get lines node ≡ Some (Some line)) ↔ StoresInLine g shapes line node

-- a boundary stands right after the node
pub record Leaves (g : Graph) (b : Boundaries) (node : ℕ) : Type 0 where
  pub to : ℕ
  pub edge : IsEdge g node to
  pub boundary : IsBoundary g b node to

-- there is the node, and a boundary is passed on the way to it
pub record LeadsOver (b : Boundaries) (after : Bool) (to : Option ℕ) : Type 0 where
  pub node : ℕ
  pub is : to ≡ Some node
  pub over : IsTrue after ⊎ HasBefore b node

-- the region goes on from the one node to the other, which does not store into the line
pub record GoesOnPast (g : Graph) (b : Boundaries) (lines : List (Option ℕ)) (line node to : ℕ) : Type 0 where
  pub edge : IsEdge g node to
  pub inside : ¬ (IsBoundary g b node to)
  pub past : ¬ (slice_get lines to ≡ Some (Some line))

-- the one stands after the other, and does not store into the line
pub record IsPast (lines : List (Option ℕ)) (line : ℕ) (x : Node) (to : ℕ) : Type 0 where
  pub after : (next_of x.action ≡ Some to) ⊎ (other_of x.action ≡ Some to)
  pub past : ¬ (slice_get lines to ≡ Some (Some line))

-- the node stores into a line that no path from it leaves uncleaned
pub record IsCleanedAfter (g : Graph) (b : Boundaries) (lines : List (Option ℕ)) (node : ℕ) : Type 0 where
  pub line : ℕ
  pub stores : slice_get lines node ≡ Some (Some line)
  pub later : ¬ (ReachesEnd (GoesOnPast g b lines line) (Leaves g b) node)

-- the answers for the nodes below that number
pub record AreAnswers (g : Graph) (b : Boundaries) (lines : List (Option ℕ)) (number : ℕ) (later : List Bool) : Type 0 where
  pub count : length later ≡ number
  pub each : (node : ℕ) → node < number → (slice_get later node ≡ Some true) ↔ IsCleanedAfter g b lines node
