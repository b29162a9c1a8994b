-- Elements that nodes write, and the shapes of variables.
use Rattle.std.specs.Prelude.{◌≡◌, ◌<◌, ℕ, List, length, Some}
use Rattle.ido_base.specs.declared.location.Location.{Location}
use Rattle.ido_base.specs.declared.location.Shape.{Shape}
use Rattle.memory_layout.specs.Variables.{elements_of}
use Rattle.flow_graph.specs.Nodes.{Node, Graph}
use Rattle.flow_graph.specs.Liveness.{NodeAt}

-- where the node writes one element alone, there is that element
pub record WritesAnElement (shapes : List Shape) (x : Node) : Type 0 where
  pub variable : (written : Location) → x.writes ≡ Some written → written.lo ≡ written.hi → written.variable < length shapes
  pub element : (written : Location) → x.writes ≡ Some written → written.lo ≡ written.hi → written.lo < elements_of shapes written.variable

pub record WriteElements (g : Graph) (shapes : List Shape) : Type 0 where
  pub each : (node : ℕ) (x : Node) → NodeAt g node x → WritesAnElement shapes x
