-- What the code of a whole thread is made of: a piece for each of its nodes, one after another.
use Rattle.std.specs.Prelude.{◌≡◌, ◌≢◌, ◌↔◌, ℕ, ℤ, ◌+◌, ◌-◌, ◌*◌, ◌^◌, ◌<◌, ◌≤◌, List, [], ◌++◌, length, map, slice_get, sum_by, Some, Bool, true, false, pos}
use Rattle.std.specs.Prelude.{◌==◌, None}
use Rattle.log_schemes.specs.declared.log.Log.{Log}
use Rattle.ido_base.specs.declared.place.Place.{Place}
use Rattle.ido_ints.specs.declared.kinds.Kind.{Kind}
use Rattle.ido_ints.specs.declared.kinds.Kind.TheVariants.{UnsignedLong}
use Rattle.c_tree.specs.Exprs as e
use Rattle.c_tree.specs.Exprs.{LockName}
use Rattle.c_tree.specs.Prices.{key_nodes, node_price}
use Rattle.c_tree.specs.Values.{lock_number}
use Rattle.c_tree.specs.WellFormed.{shape_of}
use Rattle.rv64_isa.specs.declared.object.CodeItem.{CodeItem}
use Rattle.rv64_link.specs.LabelledCode.{most_words_of}
use Rattle.rv64_link.specs.LinkedCode.{IsLinked}
use Rattle.boundary_code.specs.Boundaries.{Boundary}
use Rattle.code_runs.specs.CodeTraces.{Program}
use Rattle.flow_graph.specs.Actions.{Seen}
use Rattle.flow_graph.specs.Nodes.{Action, Eval, Store, Test, Lock, Unlock, End, Node}
use Rattle.flow_graph.specs.OmittedCleans.{IsCleanedLater}
use Rattle.flow_graph.specs.IdempotentCuts.{IsChosen}
use Rattle.flow_graph.specs.Liveness.{NodeAt}
use Rattle.node_code.specs.Pieces.{IsStorePiece, IsBoundaryPiece, IsLockPiece, IsUnlockPiece, IsEnd, IsJump}
use Rattle.node_code.specs.JoinedPieces.{joined}
use Rattle.expr_code.specs.EvaluationCode.{home_of}
use Rattle.expr_code.specs.declared.home.Home.TheVariants.{InRegister, InFrame}
use Rattle.code_runs.specs.ComputingRuns.{Environment}
use Rattle.thread_code.specs.Plans.{Plan, IsPlan, Thread, IsThread, IsNodeOf, IsLogged, AreKept, AreKeptBefore, held_names_before, hold_words, homes}
use Rattle.thread_code.specs.Plans.{locks_before}
use Rattle.thread_code.specs.NodeCodeEffects.{bytes_written}
use Rattle.thread_code.specs.Programs.{IsThreadCode, action_nodes, names_kept}
use Rattle.thread_code.specs.RegistersAtNodes.{Enters, IsFrameAnswered, LogView}
use Rattle.rv64_codegen.specs.Evaluations.{IsEvaluation, IsPlainAssignment, IsPreparation, IsTest}

-- of each node the registers that are live at its entry, those that a boundary before its core keeps, and of each store whether its line is cleaned at once
pub record Choices : Type 0 where
  pub live : ℕ → List ℕ
  pub kept : ℕ → List ℕ
  pub cleans : ℕ → Bool

-- they are, and a clean is left out exactly where a later store of the region makes it
pub record AreChoices (p : Plan) (t : Thread) (c : Choices) : Type 0 where
  pub live_are : (node : ℕ) → IsNodeOf t node → AreKept p t node (c.live node)
  pub kept_are : (node : ℕ) → IsNodeOf t node → AreKeptBefore p t node (c.kept node)
  pub cleaned : (node : ℕ) (is : Node) (variable : ℕ) (k : Kind) (next : ℕ) → IsNodeOf t node → NodeAt p.graph node is → is.action ≡ Store variable k next →
      (c.cleans node ≡ false) ↔ IsCleanedLater p.graph p.boundaries (map shape_of p.flat.variables) node

-- registers with which the thread may stand at the node's entry, where its locals have these numbers; loads of those of its frame that are live there are
-- answered
pub record MayEnter (p : Plan) (t : Thread) (locals : List ℤ) (node : ℕ) (around : Environment) (registers : List ℕ) : Type 0 where
  pub seen : Seen
  pub view : LogView
  pub enters : Enters p t node seen view registers
  pub locals_are : seen.locals ≡ locals
  pub frame : IsFrameAnswered p t view node around.loads

-- how many words a boundary that keeps these locks has at most, beside one for each live register
abbrev pub boundary_words : Log → List LockName → ℕ
boundary_words log names = 72 + hold_words log names

-- and with the number of a lock that is taken or given back
abbrev pub call_words : Log → List LockName → LockName → ℕ
call_words log names lock = boundary_words log names + (16 * key_nodes lock + 1)

-- a lock that is taken there opens a section: none is held
abbrev pub opens_section : Plan → Thread → (node : ℕ) → Bool
opens_section p t node = length (held_names_before p t node) == 0

module _ (p : Plan) (t : Thread) (c : Choices) where
  -- the label at which a node's code begins
  abbrev pub label_of_node : (node : ℕ) → ℕ
  label_of_node node = node - t.part.first

  -- the boundary that keeps what is live at the node's entry, where locals have these numbers, and resumes so many bytes after its end
  abbrev pub boundary_at : (opens : Bool) → (locals : List ℤ) → (node : ℕ) → (resume : ℕ) → Boundary
  boundary_at opens locals node resume = record {
    log = p.log;
    thread = t.number;
    locks = locks_before p t locals node;
    live = c.live node;
    resume = pos resume;
    written = None;
    opens = opens;
  }

  -- the boundary before the node's core, which tells of the write that the node makes
  abbrev pub boundary_before : Action → (locals : List ℤ) → (node : ℕ) → Boundary
  boundary_before action locals node = record {
    log = p.log;
    thread = t.number;
    locks = locks_before p t locals node;
    live = c.kept node;
    resume = pos 0;
    written = bytes_written action;
    opens = false;
  }

  -- ---- A node

  -- of a logged assignment what is stored is computed before the boundary
  pub data IsComputedBefore (node : ℕ) (action : Action) (piece : List CodeItem) : Type 0 where
    nothing : ¬ (IsLogged p t node) → piece ≡ [] → IsComputedBefore node action piece
    computed : IsLogged p t node → (place : Place) (local : ℕ) (kind : Kind) (value : e.Placed) (next : ℕ) →
        action ≡ Eval (e.ToLocal place local kind) value next → IsPreparation (homes p t) (e.ToLocal place local kind) value.expr piece →
        IsComputedBefore node action piece

  -- from registers with which the thread enters the node stands the boundary before its core
  abbrev pub IsKeeping : (node : ℕ) → Action → List CodeItem → Type 0
  IsKeeping node action piece = (locals : List ℤ) →
      IsBoundaryPiece (boundary_before action locals node) (MayEnter p t locals node) (boundary_words p.log (held_names_before p t node)) piece

  -- the boundary before the core, and what is computed before that
  pub record IsGuard (node : ℕ) (action : Action) (piece : List CodeItem) : Type 0 where
    pub computing : List CodeItem
    pub keeping : List CodeItem
    pub split : piece ≡ computing ++ keeping
    pub computes : IsComputedBefore node action computing
    pub keeps : IsKeeping node action keeping

  -- before what it does stands a boundary, or nothing
  pub record IsGuarded (node : ℕ) (action : Action) (piece : List CodeItem) : Type 0 where
    pub chosen : IsChosen p.graph p.boundaries node → IsGuard node action piece
    pub plain : ¬ (IsChosen p.graph p.boundaries node) → piece ≡ []

  -- a local is assigned: its register gets the value or, in the frame, its word is stored. In sections that is the write of which the boundary before the core
  -- tells
  pub data IsSetting (node : ℕ) (place : Place) (local : ℕ) (kind : Kind) (value : e.Expr) (does : List CodeItem) : Type 0 where
    in_register : (register : ℕ) → home_of t.locals local ≡ InRegister register → IsEvaluation (homes p t) (e.ToLocal place local kind) value does →
        IsSetting node place local kind value does
    in_section : (word : ℕ) → home_of t.locals local ≡ InFrame word → IsLogged p t node → IsStorePiece UnsignedLong true does →
        IsSetting node place local kind value does
    outside : (word : ℕ) → home_of t.locals local ≡ InFrame word → ¬ (IsLogged p t node) →
        IsPlainAssignment (homes p t) (e.ToLocal place local kind) value does → IsSetting node place local kind value does

  abbrev pub IsAssigning : (node : ℕ) → e.Lvalue → (value : e.Expr) → (does : List CodeItem) → Type 0
  IsAssigning node (e.ToLocal place local kind) value does = IsSetting node place local kind value does
  IsAssigning node (e.ToVariable place variable kind) value does = IsEvaluation (homes p t) (e.ToVariable place variable kind) value does
  IsAssigning node (e.ToElement place variable kind index) value does = IsEvaluation (homes p t) (e.ToElement place variable kind index) value does

  -- the next node follows, or a jump leads to it
  pub record GoesTo (node next : ℕ) (piece : List CodeItem) : Type 0 where
    pub follows : next ≡ node + 1 → piece ≡ []
    pub jumps : next ≢ node + 1 → IsJump (label_of_node next) piece

  -- the branch leads to the one node, and the other follows, or a jump leads there
  pub data IsChoosing (node : ℕ) (condition : e.Placed) (holds fails : ℕ) (does goes : List CodeItem) : Type 0 where
    turned : holds ≡ node + 1 → IsTest (homes p t) condition.expr true (label_of_node fails) does → goes ≡ [] →
        IsChoosing node condition holds fails does goes
    straight : IsTest (homes p t) condition.expr false (label_of_node holds) does → GoesTo node fails goes →
        IsChoosing node condition holds fails does goes

  -- takes the lock whose number the name has by the locals at the node, and keeps what it then holds
  abbrev pub IsTaking : (node : ℕ) → LockName → (next : ℕ) → List CodeItem → Type 0
  IsTaking node lock next does = (locals : List ℤ) →
      IsLockPiece (boundary_at (opens_section p t node) locals next 0) (MayEnter p t locals node) (MayEnter p t locals next)
      (call_words p.log (held_names_before p t next) lock) (lock_number locals lock) does

  -- gives it back; its boundary resumes after the call, so many bytes on
  abbrev pub IsGiving : (node : ℕ) → LockName → (next : ℕ) → List CodeItem → Type 0
  IsGiving node lock next does = (resume : ℕ) × ((locals : List ℤ) →
      IsUnlockPiece (boundary_at false locals next resume) (MayEnter p t locals node) (MayEnter p t locals next)
      (call_words p.log (held_names_before p t next) lock) (lock_number locals lock) does)

  -- what it does, and how it goes on
  abbrev pub IsDoing : (node : ℕ) → Action → (does goes : List CodeItem) → Type 0
  IsDoing node (Eval target value next) does goes = IsAssigning node target value.expr does × GoesTo node next goes
  IsDoing node (Store variable kind next) does goes = IsStorePiece kind (c.cleans node) does × GoesTo node next goes
  IsDoing node (Test condition holds fails) does goes = IsChoosing node condition holds fails does goes
  IsDoing node (Lock lock next) does goes = IsTaking node lock next does × GoesTo node next goes
  IsDoing node (Unlock lock next) does goes = IsGiving node lock next does × GoesTo node next goes
  IsDoing node End does goes = IsEnd does × (goes ≡ [])

  -- the piece of a node, within its price and what is paid for the locks that it keeps
  pub record IsNodePiece (node : ℕ) (is : Node) (piece : List CodeItem) : Type 0 where
    pub before : List CodeItem
    pub does : List CodeItem
    pub goes : List CodeItem
    pub split : piece ≡ before ++ (does ++ goes)
    pub guarded : IsGuarded node is.action before
    pub doing : IsDoing node is.action does goes
    pub price : sum_by most_words_of piece ≤ node_price (action_nodes is.action) + hold_words p.log (names_kept p t is.action node)

  -- ---- A thread

  -- a piece for each of its nodes, in their order
  pub record ArePieces (pieces : List (List CodeItem)) : Type 0 where
    pub count : length pieces ≡ t.part.end - t.part.first
    pub each : (i : ℕ) (piece : List CodeItem) (is : Node) → slice_get pieces i ≡ Some piece → NodeAt p.graph (t.part.first + i) is →
        IsNodePiece (t.part.first + i) is piece

-- the items are those of the thread
pub record IsEmitted (p : Plan) (t : Thread) (items : List CodeItem) : Type 0 where
  pub choices : Choices
  pub are : AreChoices p t choices
  pub pieces : List (List CodeItem)
  pub of_nodes : ArePieces p t choices pieces
  pub joined_are : items ≡ joined 0 pieces

-- ---- What they are held to

-- the program is the thread's code, in which each boundary before a core has room of its own
pub record IsSpacedCode (p : Plan) (t : Thread) (program : Program) : Type 0 where
  pub is : IsThreadCode p t program
  pub spaced : (node : ℕ) → IsNodeOf t node → IsChosen p.graph p.boundaries node → is.places.entry node < is.places.core node

-- wherever they are linked, they are that
abbrev pub IsCodeOfThread : Plan → Thread → List CodeItem → Type 0
IsCodeOfThread p t items = (program : Program) → IsLinked program.start items program.code program.nodes program.resumes →
    program.start + 4 * length program.code < 2 ^ 64 → IsSpacedCode p t program

-- the items of each thread, wherever they are linked, are its code
pub record IsCode (p : Plan) (threads : List (List CodeItem)) : Type 0 where
  pub count : length threads ≡ length p.graph.threads
  pub each : (t : Thread) (items : List CodeItem) → IsThread p t → slice_get threads t.number ≡ Some items → IsCodeOfThread p t items

-- ---- Law

-- items that are emitted for a thread of a plan are its code
abbrev pub EmittedIsCode : Type 0
EmittedIsCode = (p : Plan) → IsPlan p → (t : Thread) (items : List CodeItem) → IsThread p t → IsEmitted p t items → IsCodeOfThread p t items
