-- What may change where one boundary is taken away: paths that pass the node before which it stood.
use Rattle.std.specs.Prelude.{◌≡◌, ◌⊎◌, ◌↔◌, ◌<◌, ℕ, List, length, Bool, Contains, IsTrue, Option, Some, None, slice_get}
use Rattle.ido_base.specs.declared.location.Location.{Location}
use Rattle.ido_base.specs.Locations.{overlap}
use Rattle.flow_graph.specs.Nodes.{Node, Graph}
use Rattle.flow_graph.specs.Liveness.{NodeAt}
use Rattle.flow_graph.specs.IdempotentCuts.{Boundaries, IsEdge, IsBoundary, BeginsRegion, HasBefore, HasBoundaryAfter, IsIdempotent, IsLock, without}
pub use Rattle.region_cutter.specs.Elements.{ReadsElements, WritesOver, WritesSame}
use Rattle.region_cutter.specs.links.GraphSearch.{ReachesEnd, IsSeen}

-- an edge on which no boundary is passed
pub record Inside (g : Graph) (b : Boundaries) (from to : ℕ) : Type 0 where
  pub edge : IsEdge g from to
  pub free : ¬ (IsBoundary g b from to)

-- such an edge from a node that does not write the very element
pub record InsidePast (g : Graph) (b : Boundaries) (element : Location) (from to : ℕ) : Type 0 where
  pub inside : Inside g b from to
  pub past : ¬ (WritesSame g element from)

-- boundaries stand after all locks
abbrev pub AllAfter : Graph → Boundaries → Type 0
AllAfter g b = (node : ℕ) → IsLock g node → HasBoundaryAfter g b node

-- ---- Ahead

-- the node writes there
pub record StoresTo (g : Graph) (written : Location) (node : ℕ) : Type 0 where
  pub is : Node
  pub at : NodeAt g node is
  pub writes : is.writes ≡ Some written

-- what the node writes is among them too, and nothing else is new
pub record AddsWritten (x : Node) (old new : List Location) : Type 0 where
  pub kept : (written : Location) → Contains old written → Contains new written
  pub added : (written : Location) → x.writes ≡ Some written → Contains new written
  pub new_is : (written : Location) → Contains new written → Contains old written ⊎ (x.writes ≡ Some written)

-- the nodes to which regions go on from that one are among these, itself too
abbrev pub AreAhead : Graph → Boundaries → (from : ℕ) → List Bool → Type 0
AreAhead g b from seen = (node : ℕ) → node < length g.nodes → ReachesEnd (Inside g b) (λ n. n ≡ node) from → IsSeen seen node

-- where that node and those write to which regions go on from it
pub record AreWrittenFrom (g : Graph) (b : Boundaries) (from : ℕ) (writes : List Location) : Type 0 where
  pub all : (written : Location) → ReachesEnd (Inside g b) (StoresTo g written) from → Contains writes written
  pub are : (written : Location) → Contains writes written → ReachesEnd (Inside g b) (StoresTo g written) from

-- one of these writes may be over the elements
pub record IsOverAny (writes : List Location) (elements : Location) : Type 0 where
  pub written : Location
  pub among : Contains writes written
  pub over : IsTrue (overlap written elements)

-- a region goes on from the node to one that may write one of the elements
pub record IsOverwritten (g : Graph) (b : Boundaries) (elements : Location) (node : ℕ) : Type 0 where
  pub to : ℕ
  pub inside : Inside g b node to
  pub comes : ReachesEnd (Inside g b) (WritesOver g elements) to

-- ---- Back

-- the node writes the very element that is to be passed by, if there is one
pub record WritesPast (g : Graph) (past : Option Location) (node : ℕ) : Type 0 where
  pub element : Location
  pub is : past ≡ Some element
  pub writes : WritesSame g element node

-- a region comes to the node from that one, which does not write the very element
pub record ComesBack (g : Graph) (b : Boundaries) (past : Option Location) (node from : ℕ) : Type 0 where
  pub inside : Inside g b from node
  pub spares : ¬ (WritesPast g past from)

-- it is that node, no boundary stands after it, and it does not write the very element
pub record ComesFrom (g : Graph) (b : Boundaries) (past : Option Location) (from node : ℕ) : Type 0 where
  pub is : from ≡ node
  pub free : ¬ (HasBoundaryAfter g b node)
  pub spares : ¬ (WritesPast g past node)

-- it is one of these nodes
pub record ComesFromAny (g : Graph) (b : Boundaries) (past : Option Location) (sources : List ℕ) (node : ℕ) : Type 0 where
  pub among : Contains sources node
  pub free : ¬ (HasBoundaryAfter g b node)
  pub spares : ¬ (WritesPast g past node)

-- it is one of the first of these nodes
pub record ComesFromBelow (g : Graph) (b : Boundaries) (past : Option Location) (sources : List ℕ) (below node : ℕ) : Type 0 where
  pub place : ℕ
  pub below_it : place < below
  pub there : slice_get sources place ≡ Some node
  pub free : ¬ (HasBoundaryAfter g b node)
  pub spares : ¬ (WritesPast g past node)

-- a region comes to the node that has not written the very element before
pub record IsUnwritten (g : Graph) (b : Boundaries) (element : Location) (node : ℕ) : Type 0 where
  pub from : ℕ
  pub begins : BeginsRegion g b from
  pub comes : ReachesEnd (InsidePast g b element) (λ n. n ≡ node) from

-- one of these writes may be over the elements, and a region comes to the node that has not written them before
pub record IsExposedOver (g : Graph) (b : Boundaries) (writes : List Location) (node : ℕ) (elements : Location) : Type 0 where
  pub over : IsOverAny writes elements
  pub unwritten : IsUnwritten g b elements node

-- the node reads such elements
pub record ExposesOver (g : Graph) (b : Boundaries) (writes : List Location) (node : ℕ) : Type 0 where
  pub elements : Location
  pub reads : ReadsElements g elements node
  pub exposed : IsExposedOver g b writes node elements

-- a node does from which a region comes to this one
pub record IsExposedBefore (g : Graph) (b : Boundaries) (writes : List Location) (node : ℕ) : Type 0 where
  pub from : ℕ
  pub comes : ComesBack g b None node from
  pub exposes : ReachesEnd (ComesBack g b None) (ExposesOver g b writes) from

-- ---- Whether regions may be run again

-- the node reads elements to which a region comes that has not written them before, and from the other node on they are overwritten
pub record OverwritesFrom (g : Graph) (b : Boundaries) (node to : ℕ) : Type 0 where
  pub elements : Location
  pub reads : ReadsElements g elements node
  pub unwritten : IsUnwritten g b elements node
  pub comes : ReachesEnd (Inside g b) (WritesOver g elements) to

-- there is that other node, and so it is
pub record OverwritesFromAny (g : Graph) (b : Boundaries) (node : ℕ) (to : Option ℕ) : Type 0 where
  pub at : ℕ
  pub is : to ≡ Some at
  pub overwrites : OverwritesFrom g b node at

-- from a node to which its region goes on
pub record OverwritesRead (g : Graph) (b : Boundaries) (node : ℕ) : Type 0 where
  pub to : ℕ
  pub inside : Inside g b node to
  pub overwrites : OverwritesFrom g b node to

abbrev pub Never : ℕ → Type 0
Never node = ⊥

-- without that boundary regions can be run again or not, if they could with it
abbrev pub IsKnownWithout : Graph → Boundaries → (node : ℕ) → Bool → Type 0
IsKnownWithout g now node known = (b : Boundaries) → now ≡ without b node → HasBefore b node → IsIdempotent g b → IsTrue known ↔ IsIdempotent g now
