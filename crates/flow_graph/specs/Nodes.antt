-- Flow graphs, as contracts see them: nodes by their numbers, each with what it does and its successors.
use Rattle.std.specs.Prelude.{ℕ, List, [], ◌∷◌, map, Option, Some, None}
use Rattle.ido_base.specs.declared.place.Place.{Place}
use Rattle.ido_base.specs.declared.location.Location.{Location}
use Rattle.ido_ints.specs.declared.kinds.Kind.{Kind}
use Rattle.c_tree.specs.Exprs.{Placed, LockName, Lvalue, placed_of, lock_name_of, lvalue_of}
use Rattle.flow_graph.specs.declared.graph.Action as action
use Rattle.flow_graph.specs.declared.graph.Action.TheVariants as actions
use Rattle.flow_graph.specs.declared.graph.Node as node
use Rattle.flow_graph.specs.declared.graph.Part.{Part}
use Rattle.flow_graph.specs.declared.graph.Graph as graph

pub data Action : Type 0 where
  -- a local takes the value, or the store of a variable is pending
  Eval : Lvalue → (value : Placed) → (next : ℕ) → Action
  -- the pending store is made
  Store : (variable : ℕ) → Kind → (next : ℕ) → Action
  Test : (condition : Placed) → (holds fails : ℕ) → Action
  Lock : LockName → (next : ℕ) → Action
  Unlock : LockName → (next : ℕ) → Action
  End : Action

pub record Node : Type 0 where
  -- the place of the node's statement
  pub place : Place
  pub action : Action
  -- the locals that it reads, and the one that it assigns
  pub uses : List ℕ
  pub assigns : Option ℕ
  -- the elements of variables that it reads, and those of which it writes one
  pub reads : List Location
  pub writes : Option Location

pub record Graph : Type 0 where
  pub nodes : List Node
  -- of each thread its nodes, from the first up to the end, and how many locals it has
  pub threads : List Part

-- the next node, of a test the one where its condition isn't 0
abbrev pub next_of : Action → Option ℕ
next_of (Eval target value next) = Some next
next_of (Store variable kind next) = Some next
next_of (Test condition holds fails) = Some holds
next_of (Lock lock next) = Some next
next_of (Unlock lock next) = Some next
next_of End = None

-- the node after a test where its condition is 0
abbrev pub other_of : Action → Option ℕ
other_of (Eval target value next) = None
other_of (Store variable kind next) = None
other_of (Test condition holds fails) = Some fails
other_of (Lock lock next) = None
other_of (Unlock lock next) = None
other_of End = None

-- the nodes that may follow
abbrev pub successors : Action → List ℕ
successors (Eval target value next) = next ∷ []
successors (Store variable kind next) = next ∷ []
successors (Test condition holds fails) = holds ∷ fails ∷ []
successors (Lock lock next) = next ∷ []
successors (Unlock lock next) = next ∷ []
successors End = []

-- ---- What the types of `graph` represent

abbrev pub action_of : action.Action → Action
action_of (actions.Eval target value next) = Eval (lvalue_of target.now) (placed_of value.now) next
action_of (actions.Store variable kind next) = Store variable kind next
action_of (actions.Test condition holds fails) = Test (placed_of condition.now) holds fails
action_of (actions.Lock lock next) = Lock (lock_name_of lock.now) next
action_of (actions.Unlock lock next) = Unlock (lock_name_of lock.now) next
action_of actions.End = End

abbrev pub node_of : node.Node → Node
node_of x = record { place = x.place; action = action_of x.action; uses = x.uses.items; assigns = x.assigns; reads = x.reads.items; writes = x.writes }

abbrev pub graph_of : graph.Graph → Graph
graph_of x = record { nodes = map node_of x.nodes.items; threads = x.threads.items }
