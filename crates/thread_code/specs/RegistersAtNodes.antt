-- What a thread's registers hold where the code of a node begins.
use Rattle.std.specs.Prelude.{◌≡◌, ◌≢◌, ℕ, ℤ, pos, ◌*◌, ◌%◌, ◌^◌, ◌<◌, List, map, length, slice_get, slice_index_or, Option, Some, ◌==◌, if◌then◌else◌}
use Rattle.ido_base.specs.Layout.{variable_at}
use Rattle.ido_ints.specs.declared.kinds.Kind.{Kind}
use Rattle.ido_ints.specs.Kinds.{Holds, bytes_of}
use Rattle.ido_ints.specs.TypedNumbers.{typed, register_form_of}
use Rattle.c_tree.specs.Exprs as e
use Rattle.c_tree.specs.Source.{Pending}
use Rattle.c_tree.specs.WellFormed.{shape_of}
use Rattle.rv64_isa.specs.Rows.{read}
use Rattle.memory_layout.specs.Roles.{pending_address, pending_value}
use Rattle.boundary_code.specs.Boundaries.{IsOnSide}
use Rattle.expr_code.specs.EvaluationCode as x
use Rattle.flow_graph.specs.Nodes.{Action, Eval, Store, Test, Lock, Unlock, End, Node}
use Rattle.flow_graph.specs.Actions.{Seen}
use Rattle.flow_graph.specs.IdempotentCuts.{IsEdge}
use Rattle.operator_code.specs.ComputingCode.{Carries}
use Rattle.expr_code.specs.declared.home.Home.TheVariants.{InFrame}
use Rattle.flow_graph.specs.Liveness.{NodeAt, IsLive}
use Rattle.thread_code.specs.Plans.{IsLogged, Plan, Thread}

-- of the 64 bits in a register as many low bytes as the kind has are those of a number of the kind; its other bytes may be anything
pub record HasLowBytes (registers : List ℕ) (register : ℕ) (k : Kind) (number : ℤ) : Type 0 where
  pub held : Holds k number
  pub below : read registers register < 2 ^ 64
  pub low : read registers register % 2 ^ (8 * bytes_of k) ≡ register_form_of (typed k number) % 2 ^ (8 * bytes_of k)

-- registers have the address of a store of the variable, and the bytes of its number that the store writes
pub record HasPending (p : Plan) (store : Pending) (variable : ℕ) (k : Kind) (registers : List ℕ) : Type 0 where
  pub variable_is : store.variable ≡ variable
  pub address : read registers pending_address ≡ variable_at (map shape_of p.flat.variables) store.variable store.element
  pub below : variable_at (map shape_of p.flat.variables) store.variable store.element < 2 ^ 64
  pub value : HasLowBytes registers pending_value k store.number

-- before a store the registers have the address and the value of the pending one
abbrev pub IsPendingIn : Plan → Action → Seen → (registers : List ℕ) → Type 0
IsPendingIn p (Eval target value next) seen registers = Unit {0}
IsPendingIn p (Store variable kind next) seen registers = (store : Pending) → seen.pending ≡ Some store → HasPending p store variable kind registers
IsPendingIn p (Test condition holds fails) seen registers = Unit {0}
IsPendingIn p (Lock lock next) seen registers = Unit {0}
IsPendingIn p (Unlock lock next) seen registers = Unit {0}
IsPendingIn p End seen registers = Unit {0}

-- a thread's log as its code sees it between boundaries: the side in use, and the number in the word of the frame at each address
pub record LogView : Type 0 where
  pub side : ℕ
  pub frame : (address : ℕ) → ℕ

-- loads of eight bytes of the frame, as it is answered then
abbrev pub frame_loads : LogView → (address bytes : ℕ) → Option ℕ
frame_loads view address bytes = Some (view.frame address)

-- the view after a store of a word of the frame
abbrev pub with_word : LogView → (address number : ℕ) → LogView
with_word view address number = record view { frame = λ other. if other == address then number else view.frame other }

-- a local is in its home
abbrev pub IsAtHome : Plan → Thread → Seen → LogView → (registers : List ℕ) → (local : ℕ) → Kind → Type 0
IsAtHome p t seen view registers local k =
    x.HomeCarries (frame_loads view) registers (x.home_of t.locals local) (typed k (slice_index_or seen.locals local (pos 0)))

-- a thread whose locals and pending store are these may enter a node's code with these registers, where its log is so: it has a number for each of its locals,
-- and each that is live there is in its home
pub record Enters (p : Plan) (t : Thread) (node : ℕ) (seen : Seen) (view : LogView) (registers : List ℕ) : Type 0 where
  pub at_side : IsOnSide p.log view.side registers
  pub count : length seen.locals ≡ length t.kinds
  pub locals : (local : ℕ) (k : Kind) → slice_get t.kinds local ≡ Some k → IsLive p.graph local node → IsAtHome p t seen view registers local k
  pub pending : (is : Node) → NodeAt p.graph node is → IsPendingIn p is.action seen registers

-- ---- Logged assignments

-- the local is live after the node, and isn't the one that it assigns
pub record IsLiveBeside (p : Plan) (node assigned local : ℕ) : Type 0 where
  pub next : ℕ
  pub goes : IsEdge p.graph node next
  pub live : IsLive p.graph local next
  pub other : local ≢ assigned

-- registers have the address of the local's word in the frame, and the number, in its register form
pub record HasAssigned (t : Thread) (local : ℕ) (number : ℤ) (registers : List ℕ) : Type 0 where
  pub word : ℕ
  pub home : x.home_of t.locals local ≡ InFrame word
  pub address : read registers pending_address ≡ word
  pub below : word < 2 ^ 64
  pub carries : (k : Kind) → slice_get t.kinds local ≡ Some k → Carries registers pending_value (typed k number)

-- a thread may store the number in the local's word: each other local that is live after the node is in its word of the frame
pub record MayAssign (p : Plan) (t : Thread) (node local : ℕ) (number : ℤ) (seen : Seen) (view : LogView) (registers : List ℕ) : Type 0 where
  pub at_side : IsOnSide p.log view.side registers
  pub count : length seen.locals ≡ length t.kinds
  pub locals : (other word : ℕ) (k : Kind) → slice_get t.kinds other ≡ Some k → IsLiveBeside p node local other → x.home_of t.locals other ≡ InFrame word →
      x.IsFramed (frame_loads view) word (typed k (slice_index_or seen.locals other (pos 0)))
  pub assigned : HasAssigned t local number registers

-- a thread may go on at a node's core, past the boundary before it: of a logged assignment the number that it owes its local is computed by then
pub data IsReady (p : Plan) (t : Thread) (node : ℕ) (seen : Seen) (view : LogView) (owed : ℤ) (registers : List ℕ) : Type 0 where
  to_enter : ¬ (IsLogged p t node) → Enters p t node seen view registers → IsReady p t node seen view owed registers
  to_assign : (logged : IsLogged p t node) → MayAssign p t node logged.local owed seen view registers → IsReady p t node seen view owed registers

-- ---- Words of the frame that a thread counts on

-- of the locals that are live at a node those that stand in the frame have the same numbers in both views
abbrev pub IsFrameOn : Plan → Thread → (node : ℕ) → (view other : LogView) → Type 0
IsFrameOn p t node view other =
    (local word : ℕ) → IsLive p.graph local node → x.home_of t.locals local ≡ InFrame word → other.frame word ≡ view.frame word

-- and at its core: of a logged assignment those that are live after it, but the one that it assigns
pub data IsCountedOn (p : Plan) (t : Thread) (node : ℕ) : (local : ℕ) → Type 0 where
  by_entry : (local : ℕ) → ¬ (IsLogged p t node) → IsLive p.graph local node → IsCountedOn p t node local
  by_assignment : (local : ℕ) → (logged : IsLogged p t node) → IsLiveBeside p node logged.local local → IsCountedOn p t node local

abbrev pub IsFrameOnAtCore : Plan → Thread → (node : ℕ) → (view other : LogView) → Type 0
IsFrameOnAtCore p t node view other =
    (local word : ℕ) → IsCountedOn p t node local → x.home_of t.locals local ≡ InFrame word → other.frame word ≡ view.frame word

-- what an expression of the thread sees
abbrev pub source_of : Plan → Thread → Seen → x.Source
source_of p t seen = record { variables = p.flat.variables; kinds = t.kinds; locals = seen.locals; numbers = seen.variables }

-- loads of the elements that the target's index reads are answered
abbrev pub IsAnsweredIn : x.Source → (loads : (address bytes : ℕ) → Option ℕ) → e.Lvalue → Type 0
IsAnsweredIn s loads (e.ToLocal place local kind) = Unit {0}
IsAnsweredIn s loads (e.ToVariable place variable kind) = Unit {0}
IsAnsweredIn s loads (e.ToElement place variable kind index) = x.AreLoaded s loads index.expr

-- loads of the frame's words in which locals stand that are live at the node are answered
abbrev pub IsFrameAnswered : Plan → Thread → LogView → (node : ℕ) → (loads : (address bytes : ℕ) → Option ℕ) → Type 0
IsFrameAnswered p t view node loads =
    (local : ℕ) (word : ℕ) → IsLive p.graph local node → x.home_of t.locals local ≡ InFrame word → loads word 8 ≡ Some (view.frame word)

-- loads of the elements that a node reads are answered, by what the thread sees
abbrev pub IsAnswered : x.Source → (loads : (address bytes : ℕ) → Option ℕ) → Action → Type 0
IsAnswered s loads (Eval target value next) = IsAnsweredIn s loads target × x.AreLoaded s loads value.expr
IsAnswered s loads (Store variable kind next) = Unit {0}
IsAnswered s loads (Test condition holds fails) = x.AreLoaded s loads condition.expr
IsAnswered s loads (Lock lock next) = Unit {0}
IsAnswered s loads (Unlock lock next) = Unit {0}
IsAnswered s loads End = Unit {0}
