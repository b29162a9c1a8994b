-- That a program is the code of a thread: all that is said of it above, where no instruction is looked at again.
use Rattle.std.specs.Prelude.{◌≡◌, ◌≢◌, ◌↔◌, ℕ, ◌+◌, ◌-◌, ◌*◌, ◌≤◌, List, [], length}
use Rattle.c_tree.specs.Exprs.{LockName}
use Rattle.std.specs.Prelude.{map, slice_get, slice_index_or, Contains, Some, false}
use Rattle.std.specs.List.Sorted.{IsStrictlyIncreasing}
use Rattle.c_tree.specs.Exprs as e
use Rattle.c_tree.specs.Prices.{key_nodes, node_price, nodes_of}
use Rattle.c_tree.specs.WellFormed.{shape_of}
use Rattle.rv64_isa.specs.declared.instr.Instr.TheVariants.{Ecall}
use Rattle.flow_graph.specs.Nodes.{Action, Eval, Store, Test, Lock, Unlock, End, Node}
use Rattle.flow_graph.specs.Actions.{effect_of, Effect}
use Rattle.flow_graph.specs.OmittedCleans.{IsCleanedLater}
use Rattle.flow_graph.specs.IdempotentCuts.{Boundaries, IsChosen}
use Rattle.flow_graph.specs.Liveness.{NodeAt}
use Rattle.rv64_link.specs.LabelledCode.{one_if}
use Rattle.rv64_link.specs.LinkedCode.{IsInstructionAt, AreInstructions}
use Rattle.code_runs.specs.CodeTraces.{Program, Meets, marked}
use Rattle.thread_code.specs.Plans.{Plan, Thread, IsLogged, IsNodeOf, AreKept, AreKeptBefore, held_names_before, hold_words}
use Rattle.thread_code.specs.RegistersAtNodes.{IsFrameAnswered}
use Rattle.thread_code.specs.NodeCodeEffects.{Places, Entrance, EntersAt, IsAnsweredAt, IsOwed, IsReadyAt, Performs, BoundaryAfter, BoundaryBefore, GoesOnAfter}
use Rattle.thread_code.specs.NodeCodeEffects.{SetsLogged}
use Rattle.expr_code.specs.EvaluationCode.{home_of}
use Rattle.expr_code.specs.declared.home.Home.TheVariants.{InFrame}

-- expression nodes of a node, a target's index and a lock's key included
abbrev pub target_nodes : e.Lvalue → ℕ
target_nodes (e.ToLocal place local kind) = 0
target_nodes (e.ToVariable place variable kind) = 0
target_nodes (e.ToElement place variable kind index) = nodes_of index.expr

abbrev pub action_nodes : Action → ℕ
action_nodes (Eval target value next) = target_nodes target + nodes_of value.expr
action_nodes (Store variable kind next) = 0
action_nodes (Test condition holds fails) = nodes_of condition.expr
action_nodes (Lock lock next) = key_nodes lock
action_nodes (Unlock lock next) = key_nodes lock
action_nodes End = 0

-- the names whose locks a boundary of the node keeps: the one before a store, that of a lock or of an unlock
abbrev pub names_kept : Plan → Thread → Action → (node : ℕ) → List LockName
names_kept p t (Eval target value next) node = held_names_before p t node
names_kept p t (Store variable kind next) node = held_names_before p t node
names_kept p t (Test condition holds fails) node = []
names_kept p t (Lock lock next) node = held_names_before p t next
names_kept p t (Unlock lock next) node = held_names_before p t next
names_kept p t End node = []

-- how many boundaries a node has: one before it, one after it
abbrev pub boundary_count : Boundaries → (node : ℕ) → ℕ
boundary_count b node = one_if (slice_index_or b.before node false) + one_if (slice_index_or b.after_lock node false)

-- the mark of a node: of a lock its ECALL, of any other where its code begins, without the boundary before it
abbrev pub mark_of : Places → Action → (node : ℕ) → ℕ
mark_of c (Eval target value next) node = c.core node
mark_of c (Store variable kind next) node = c.core node
mark_of c (Test condition holds fails) node = c.core node
mark_of c (Lock lock next) node = c.call node
mark_of c (Unlock lock next) node = c.core node
mark_of c End node = c.core node

-- from the one address on to the other, by whole words
pub record IsOn (from to : ℕ) : Type 0 where
  pub words : ℕ
  pub is : to ≡ from + 4 * words

-- the ECALL of a node or the store of an assignment, and where it is gone on with, lie after the core and before the next node
abbrev pub IsCallWithin : Places → Action → (node : ℕ) → Type 0
IsCallWithin c (Eval target value next) node = IsOn (c.core node) (c.store node) × IsOn (c.store node + 4) (c.entry (node + 1))
IsCallWithin c (Store variable kind next) node = Unit {0}
IsCallWithin c (Test condition holds fails) node = Unit {0}
IsCallWithin c (Lock lock next) node = IsOn (c.core node) (c.call node) × IsOn (c.call node + 4) (c.after node) × IsOn (c.after node) (c.entry (node + 1))
IsCallWithin c (Unlock lock next) node = IsOn (c.core node) (c.call node) × IsOn (c.call node + 4) (c.after node) × IsOn (c.after node) (c.entry (node + 1))
IsCallWithin c End node = IsOn (c.core node) (c.call node) × IsOn (c.call node + 4) (c.entry (node + 1))

-- the places of a node lie in its code, in their order and whole words apart
pub record IsWithin (c : Places) (action : Action) (node : ℕ) : Type 0 where
  pub core : IsOn (c.entry node) (c.core node)
  pub after_core : IsOn (c.core node + 4) (c.entry (node + 1))
  pub call : IsCallWithin c action node

module _ (p : Plan) (t : Thread) (c : Places) where
  -- in a thread's code the thread stands at a node of its own, and its registers for what it sees
  pub record IsAtOwnNode (m : Entrance) : Type 0 where
    pub meets : Meets c.program m.environment
    pub own : IsNodeOf t m.node
    pub enters : EntersAt p t c m m.node

  -- the same past the boundary before the node
  pub record IsAtOwnCore (m : Entrance) : Type 0 where
    pub meets : Meets c.program m.environment
    pub own : IsNodeOf t m.node
    pub ready : IsReadyAt p t c m

  -- the ECALL of the node is no mark
  abbrev pub IsPlainCall : (node : ℕ) → Type 0
  IsPlainCall node = marked c.program.nodes (c.call node) ≡ []

  -- the node calls, and is gone on with after the call
  abbrev pub IsCalling : Action → (node : ℕ) → Type 0
  IsCalling (Eval target value next) node = Unit {0}
  IsCalling (Store variable kind next) node = Unit {0}
  IsCalling (Test condition holds fails) node = Unit {0}
  IsCalling (Lock lock next) node = IsInstructionAt c.program.start c.program.code (c.call node) Ecall × GoesOnAfter p t c node next ×
      ((m : Entrance) → Meets c.program m.environment → m.node ≡ node → EntersAt p t c m next →
      IsFrameAnswered p t m.view next m.environment.around.loads → BoundaryAfter p t c m next)
  IsCalling (Unlock lock next) node =
      IsInstructionAt c.program.start c.program.code (c.call node) Ecall × GoesOnAfter p t c node next × (c.after node ≡ c.call node + 4)
      × IsPlainCall node
  IsCalling End node = IsInstructionAt c.program.start c.program.code (c.call node) Ecall × IsPlainCall node

  -- a store's line is cleaned at once, exactly where no later store of the region does that
  abbrev pub IsCleaning : Action → (node : ℕ) → Type 0
  IsCleaning (Store variable kind next) node = (c.cleans node ≡ false) ↔ IsCleanedLater p.graph p.boundaries (map shape_of p.flat.variables) node
  IsCleaning _ node = Unit {0}

  -- the code of one node
  pub record IsNodeCode (node : ℕ) (is : Node) : Type 0 where
    -- before the node's code stands a boundary or nothing
    pub chosen : IsChosen p.graph p.boundaries node → (m : Entrance) → m.node ≡ node → IsAtOwnNode m → IsAnsweredAt p t c m is.action →
        IsOwed p t c m is.action →
        BoundaryBefore p t c m is.action
    pub plain : ¬ (IsChosen p.graph p.boundaries node) → c.entry node ≡ c.core node
    -- the code does what the node does, where loads of what that reads are answered; from its core on a logged assignment reads nothing
    pub performs : (m : Entrance) (effect : Effect) → m.node ≡ node → IsAtOwnCore m → (¬ (IsLogged p t node) → IsAnsweredAt p t c m is.action) →
        IsOwed p t c m is.action → effect_of is.action m.seen ≡ Some effect → Performs p t c m effect
    -- a logged assignment stores whatever it owes, and leads to where its local has that number
    pub assigns : (m : Entrance) → m.node ≡ node → IsAtOwnCore m → (logged : IsLogged p t node) → (word : ℕ) → home_of t.locals logged.local ≡ InFrame word →
        SetsLogged p t c m word logged.local m.owed logged.assigns.next
    pub calls : IsCalling is.action node
    pub cleans : IsCleaning is.action node
    -- within its price, and what is paid for the locks that it keeps
    pub price : c.words node ≤ node_price (action_nodes is.action) + hold_words p.log (names_kept p t is.action node)
    pub within : IsWithin c is.action node
    -- all its words are instructions; each boundary has two FENCEs, and no other FENCE is there
    pub words : AreInstructions c.program.start c.program.code (c.entry node) (c.entry (node + 1)) (2 * boundary_count p.boundaries node)

  -- recovery may resume the thread there: after a chosen boundary, and after locks and unlocks that leave it with one
  pub data IsResumeAddress : (address : ℕ) → Type 0 where
    at_chosen : (node : ℕ) → IsNodeOf t node → IsChosen p.graph p.boundaries node → IsResumeAddress (c.core node)
    past_lock : (node : ℕ) (lock : LockName) (next : ℕ) (is : Node) → IsNodeOf t node → NodeAt p.graph node is → is.action ≡ Lock lock next →
        IsResumeAddress (c.after node)
    past_unlock : (node : ℕ) (lock : LockName) (next : ℕ) (is : Node) → IsNodeOf t node → NodeAt p.graph node is → is.action ≡ Unlock lock next →
        held_names_before p t next ≢ [] → IsResumeAddress (c.after node)

-- the program does what the nodes of the thread do, one after another in their order
pub record IsThreadCode (p : Plan) (t : Thread) (program : Program) : Type 0 where
  pub places : Places
  pub of_program : places.program ≡ program
  pub begins : places.entry t.part.first ≡ program.start
  pub ends : places.entry t.part.end ≡ program.start + 4 * length program.code
  pub follows : (node : ℕ) → IsNodeOf t node → places.entry (node + 1) ≡ places.entry node + 4 * places.words node
  pub code : (node : ℕ) (is : Node) → IsNodeOf t node → NodeAt p.graph node is → IsNodeCode p t places node is
  pub live : (node : ℕ) → IsNodeOf t node → AreKept p t node (places.live node)
  pub kept : (node : ℕ) → IsNodeOf t node → AreKeptBefore p t node (places.kept node)
  -- each node has one mark
  pub marks : (i : ℕ) (is : Node) → IsNodeOf t (t.part.first + i) → NodeAt p.graph (t.part.first + i) is →
      slice_get program.nodes i ≡ Some (mark_of places is.action (t.part.first + i))
  pub marks_count : length program.nodes ≡ t.part.end - t.part.first
  pub resumes : (address : ℕ) → Contains program.resumes address ↔ IsResumeAddress p t places address
  pub ascending : IsStrictlyIncreasing program.resumes
