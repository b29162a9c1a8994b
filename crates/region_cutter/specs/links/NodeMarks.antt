-- What is known of nodes whatever boundaries stand before them: from where edges lead to them, and which nodes stand after locks.
use Rattle.std.specs.Prelude.{◌≡◌, ◌↔◌, ◌<◌, ◌++◌, ◌∷◌, [], ℕ, List, length, Bool, Contains, Option, Some, Vec, slice_get}
use Rattle.std.specs.Global.{Global}
use Rattle.flow_graph.specs.Nodes.{Graph}
use Rattle.flow_graph.specs.IdempotentCuts.{IsEdge, IsLock}
use Rattle.region_cutter.specs.declared.marks.Marks.{Marks}
use Rattle.region_cutter.specs.links.GraphSearch.{IsSeen}

-- an edge is noted at the node to which it leads
pub record AddsSource (from : ℕ) (to : Option ℕ) (old new : List (Vec ℕ Global)) : Type 0 where
  pub long : length new ≡ length old
  pub same : (node : ℕ) → ¬ (to ≡ Some node) → slice_get new node ≡ slice_get old node
  pub noted : (node : ℕ) (was is : Vec ℕ Global) → to ≡ Some node → slice_get old node ≡ Some was → slice_get new node ≡ Some is →
      is.items ≡ was.items ++ from ∷ []

-- of each of so many nodes there is none yet
pub record AreNone (nodes : ℕ) (sources : List (Vec ℕ Global)) : Type 0 where
  pub long : length sources ≡ nodes
  pub none : (node : ℕ) (at : Vec ℕ Global) → slice_get sources node ≡ Some at → at.items ≡ []

-- of each node those from which edges lead to it
pub record AreSources (g : Graph) (sources : List (Vec ℕ Global)) : Type 0 where
  pub long : length sources ≡ length g.nodes
  pub all : (from to : ℕ) (at : Vec ℕ Global) → IsEdge g from to → slice_get sources to ≡ Some at → Contains at.items from
  pub are : (from to : ℕ) (at : Vec ℕ Global) → slice_get sources to ≡ Some at → Contains at.items from → IsEdge g from to

-- the node of this number takes a mutex and leads to that one
pub record IsAfterLock (g : Graph) (number node : ℕ) : Type 0 where
  pub locks : IsLock g number
  pub edge : IsEdge g number node

-- one of the nodes below the number takes a mutex and leads to that node
pub record IsAfterLockBelow (g : Graph) (number node : ℕ) : Type 0 where
  pub one : ℕ
  pub below : one < number
  pub by : IsAfterLock g one node

pub record AreBegun (g : Graph) (begun : List Bool) : Type 0 where
  pub long : length begun ≡ length g.nodes
  pub each : (node : ℕ) → node < length g.nodes → IsSeen begun node ↔ IsAfterLockBelow g (length g.nodes) node

pub record AreMarks (g : Graph) (marks : Marks) : Type 0 where
  pub sources : AreSources g marks.sources.items
  pub begun : AreBegun g marks.begun.items
