-- Which lines the code of threads cleans, said of its items: at once after a store that of the store, where no later store of the region cleans it, and
-- after a logged assignment that of the local's word; outside the code of boundaries no other.
use Rattle.std.specs.Prelude.{◌≡◌, ℕ, ◌+◌, ◌-◌, List, ◌∷◌, ◌++◌, length, map, slice_get, Some}
use Rattle.ido_ints.specs.declared.kinds.Kind.{Kind}
use Rattle.ido_ints.specs.Kinds.{bytes_of}
use Rattle.c_tree.specs.WellFormed.{shape_of}
use Rattle.rv64_isa.specs.declared.instr.Instr.TheVariants.{Store as Stores, CboClean}
use Rattle.rv64_isa.specs.declared.instr.StoreKind.{StoreKind}
use Rattle.rv64_isa.specs.declared.object.CodeItem.{CodeItem}
use Rattle.rv64_isa.specs.declared.object.CodeItem.TheVariants.{Instruction, MarkNext}
use Rattle.rv64_isa.specs.Rows.{store_bytes}
use Rattle.memory_layout.specs.Roles.{pending_address, pending_value}
use Rattle.boundary_code.specs.Boundaries.{Boundary}
use Rattle.flow_graph.specs.Nodes.{Action, Eval, Store, Test, Lock, Unlock, End, Node}
use Rattle.flow_graph.specs.OmittedCleans.{IsCleanedLater}
use Rattle.flow_graph.specs.Liveness.{NodeAt}
use Rattle.node_code.specs.Cleans.{cleans_in}
use Rattle.node_code.specs.JoinedPieces.{joined, AreClosed}
use Rattle.thread_code.specs.Plans.{Plan, Thread, IsThread, IsLogged}
use Rattle.node_code.specs.BoundaryCode.{CleansInBoundary}

module _ (p : Plan) (t : Thread) where
  -- none of the items cleans a line, but in the code of a boundary of the thread
  pub data CleansInBoundaries (items : List CodeItem) : Type 0 where
    nowhere : cleans_in items ≡ 0 → CleansInBoundaries items
    in_one : (b : Boundary) → b.thread ≡ t.number → CleansInBoundary b items → CleansInBoundaries items

  -- the store's clean is left out
  abbrev pub IsLeftOut : (node : ℕ) → Type 0
  IsLeftOut node = IsCleanedLater p.graph p.boundaries (map shape_of p.flat.variables) node

  -- The instruction at the node's mark is the store of what is pending. It is followed at once by the clean of its line, unless that is left out;
  -- outside the code of boundaries none of the other items cleans a line.
  pub record CleansStore (node : ℕ) (kind : Kind) (items : List CodeItem) : Type 0 where
    pub before : List CodeItem
    pub width : StoreKind
    pub after : List CodeItem
    pub split : items ≡ before ++ (MarkNext ∷ Instruction (Stores width pending_value pending_address 0) ∷ after)
    pub width_is : store_bytes width ≡ bytes_of kind
    pub earlier : CleansInBoundaries before
    pub cleaned : ¬ (IsLeftOut node) → (rest : List CodeItem) × (after ≡ Instruction (CboClean pending_address) ∷ rest) × (cleans_in rest ≡ 0)
    pub left_out : IsLeftOut node → cleans_in after ≡ 0

  -- The instruction at the mark of a logged assignment is the store of what is pending, followed at once by the clean of its line; outside the code of
  -- boundaries none of the other items cleans a line.
  pub record CleansLogged (items : List CodeItem) : Type 0 where
    pub before : List CodeItem
    pub width : StoreKind
    pub after : List CodeItem
    pub split : items ≡ before ++ (MarkNext ∷ Instruction (Stores width pending_value pending_address 0) ∷ Instruction (CboClean pending_address) ∷ after)
    pub width_is : store_bytes width ≡ 8
    pub earlier : CleansInBoundaries before
    pub later : cleans_in after ≡ 0

  -- the items of a node
  abbrev pub CleansAsNode : (node : ℕ) → Action → List CodeItem → Type 0
  CleansAsNode node (Eval target value next) items = (IsLogged p t node → CleansLogged items) × (¬ (IsLogged p t node) → CleansInBoundaries items)
  CleansAsNode node (Store variable kind next) items = CleansStore node kind items
  CleansAsNode node (Test condition holds fails) items = CleansInBoundaries items
  CleansAsNode node (Lock lock next) items = CleansInBoundaries items
  CleansAsNode node (Unlock lock next) items = CleansInBoundaries items
  CleansAsNode node End items = CleansInBoundaries items

  -- the items of the thread: of each of its nodes, in their order, its label and up to the next label its code
  pub record CleansAtOnce (items : List CodeItem) : Type 0 where
    pub nodes : List (List CodeItem)
    pub count : length nodes ≡ t.part.end - t.part.first
    pub labelled : AreClosed nodes
    pub joined_are : items ≡ joined 0 nodes
    pub each : (i : ℕ) (code : List CodeItem) (is : Node) → slice_get nodes i ≡ Some code → NodeAt p.graph (t.part.first + i) is →
        CleansAsNode (t.part.first + i) is.action code

-- the items of each thread
pub record AllCleanAtOnce (p : Plan) (threads : List (List CodeItem)) : Type 0 where
  pub count : length threads ≡ length p.graph.threads
  pub each : (t : Thread) (items : List CodeItem) → IsThread p t → slice_get threads t.number ≡ Some items → CleansAtOnce p t items
