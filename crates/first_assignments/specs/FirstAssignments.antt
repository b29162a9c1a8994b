-- In the graph of a text's flat form each local is assigned before it is read.
use Rattle.std.specs.Prelude.{ℕ, List}
use Rattle.c_tree.specs.declared.language.Language.{Language}
use Rattle.c_tree.specs.Flats.{Flat}
use Rattle.c_tree.specs.AcceptedTexts.{IsFlattened}
use Rattle.flow_graph.specs.Lowering.{lowered}
use Rattle.flow_graph.specs.Liveness.{AreAssignedFirst}

-- whatever a thread's locals hold when it begins, it reads none of that
abbrev pub FlattenedAssignFirst : Type 0
FlattenedAssignFirst = (l : Language) (text : List ℕ) (flat : Flat) → IsFlattened l text flat → AreAssignedFirst (lowered flat)
