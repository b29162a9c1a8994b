-- Which nodes read elements, and which may write one of them.
use Rattle.std.specs.Prelude.{◌≡◌, ℕ, Contains, IsTrue, Some}
use Rattle.ido_base.specs.declared.location.Location.{Location}
use Rattle.ido_base.specs.Locations.{overlap, same}
use Rattle.flow_graph.specs.Nodes.{Node, Graph}
use Rattle.flow_graph.specs.Liveness.{NodeAt}

pub record ReadsElements (g : Graph) (elements : Location) (node : ℕ) : Type 0 where
  pub is : Node
  pub at : NodeAt g node is
  pub reads : Contains is.reads elements

-- the node may write one of the elements
pub record WritesOver (g : Graph) (elements : Location) (node : ℕ) : Type 0 where
  pub is : Node
  pub at : NodeAt g node is
  pub written : Location
  pub writes : is.writes ≡ Some written
  pub over : IsTrue (overlap written elements)

-- the node writes the very element
pub record WritesSame (g : Graph) (element : Location) (node : ℕ) : Type 0 where
  pub is : Node
  pub at : NodeAt g node is
  pub written : Location
  pub writes : is.writes ≡ Some written
  pub same : IsTrue (same written element)
