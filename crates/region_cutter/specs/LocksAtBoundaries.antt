-- What threads hold at boundaries: one that stands by choice stands before a store, whose lock is held there.
use Rattle.std.specs.Prelude.{◌≡◌, ◌≢◌, ℕ, ◌+◌, List, slice_get, Some, true}
use Rattle.ido_ints.specs.declared.kinds.Kind.{Kind}
use Rattle.c_tree.specs.Flats as f
use Rattle.c_tree.specs.LockNames.{Held, lock_names}
use Rattle.c_tree.specs.LockDiscipline.{Use, is_guarded}
use Rattle.lock_discipline.specs.Masks.{mask_of}
use Rattle.lock_discipline.specs.HeldSetsByStep.{AreAllSetsOf}
use Rattle.flow_graph.specs.declared.graph.Part.{Part}
use Rattle.flow_graph.specs.Nodes.{Graph, Node, Store}
use Rattle.flow_graph.specs.Liveness.{NodeAt}
use Rattle.flow_graph.specs.Lowering.{lowered}
use Rattle.flow_graph.specs.IdempotentCuts.{Boundaries, IsChosen, AreAtWrites}

-- the node is the step of this number of this thread, and the table has this set of held mutexes before it
pub record IsHeldAt (g : Graph) (table : List (List Held)) (thread step node : ℕ) (held : Held) : Type 0 where
  pub part : Part
  pub own : slice_get g.threads thread ≡ Some part
  pub is : node ≡ part.first + step
  pub sets : List Held
  pub row : slice_get table thread ≡ Some sets
  pub before : slice_get sets step ≡ Some held

-- the node of this thread stores a variable, and the name of the lock that guards a use of it is in the set, which so isn't empty
pub record StoresLocked (x : f.Flat) (thread node : ℕ) (held : Held) : Type 0 where
  pub text : f.Thread
  pub its : slice_get x.threads thread ≡ Some text
  pub is : Node
  pub at : NodeAt (lowered x) node is
  pub used : Use
  pub kind : Kind
  pub next : ℕ
  pub stores : is.action ≡ Store used.variable kind next
  pub locked : is_guarded x.variables (lock_names x text) held used ≡ true
  pub some : mask_of held ≢ 0

-- a boundary that stands by choice stands before a store of a variable whose mutex its thread holds
abbrev pub ChosenAreLocked : Type 0
ChosenAreLocked = (x : f.Flat) (table : List (List Held)) (b : Boundaries) (thread step node : ℕ) (held : Held) → AreAllSetsOf x table →
    AreAtWrites (lowered x) b → IsChosen (lowered x) b node → IsHeldAt (lowered x) table thread step node held → StoresLocked x thread node held

-- the set that the table has before a node
pub record IsHeldBefore (g : Graph) (table : List (List Held)) (node : ℕ) : Type 0 where
  pub thread : ℕ
  pub step : ℕ
  pub held : Held
  pub at : IsHeldAt g table thread step node held

-- each node of the graph is a step of a thread, and the table has a set before it
abbrev pub NodesAreSteps : Type 0
NodesAreSteps = (x : f.Flat) (table : List (List Held)) (node : ℕ) (is : Node) → AreAllSetsOf x table → NodeAt (lowered x) node is →
    IsHeldBefore (lowered x) table node
