-- What a caller knows of an expression of a thread: it is formed, and the locals that it reads stand in their homes.
use Rattle.std.specs.Prelude.{◌≡◌, ℕ, ◌<◌, List, length, slice_get, slice_index_or, Contains, Option, Some, true, pos}
use Rattle.ido_ints.specs.declared.kinds.Kind.{Kind}
use Rattle.ido_ints.specs.TypedNumbers.{typed}
use Rattle.c_tree.specs.Exprs as e
use Rattle.c_tree.specs.LockDiscipline.{expr_locals}
use Rattle.c_tree.specs.Programs as p
use Rattle.c_tree.specs.WellFormed.{IsExpr, IsTarget}
use Rattle.flow_graph.specs.Nodes.{Node, Graph}
use Rattle.flow_graph.specs.Liveness.{NodeAt, IsLive}
use Rattle.expr_code.specs.EvaluationCode.{Homes, Source, AreAtHome, HoldsLocals, home_of, is_home, HomeCarries}
use Rattle.rv64_codegen.specs.Evaluations.{IsAtHome}

-- ---- Locals that are read

-- the local's home has its number
abbrev pub IsHeld : Homes → Source → (loads : (address bytes : ℕ) → Option ℕ) → (registers : List ℕ) → (local : ℕ) → Kind → Type 0
IsHeld h s l x local k = HomeCarries l x (home_of h.locals local) (typed k (slice_index_or s.locals local (pos 0)))

-- each of these locals is in its home
abbrev pub HoldsEach : Homes → Source → (loads : (address bytes : ℕ) → Option ℕ) → (registers : List ℕ) → List ℕ → Type 0
HoldsEach h s l x locals = (local : ℕ) (k : Kind) → Contains locals local → slice_get s.kinds local ≡ Some k → IsHeld h s l x local k

-- each local that is live at the node's entry is
abbrev pub HoldsLive : Graph → (node : ℕ) → Homes → Source → (loads : (address bytes : ℕ) → Option ℕ) → (registers : List ℕ) → Type 0
HoldsLive g node h s l x = (local : ℕ) (k : Kind) → IsLive g local node → slice_get s.kinds local ≡ Some k → IsHeld h s l x local k

-- ---- Laws

-- registers that hold the locals that an expression reads, or loads that are answered with them, are those with which its code may begin
abbrev pub ReadsAreHeld : Type 0
ReadsAreHeld = (h : Homes) (s : Source) (l : (address bytes : ℕ) → Option ℕ) (x : List ℕ) (t : e.Expr) → IsExpr s.variables s.kinds t →
    HoldsEach h s l x (expr_locals t) → HoldsLocals h s l x t

-- what a node reads is held where all that is live is
abbrev pub LiveIsEnough : Type 0
LiveIsEnough = (g : Graph) (node : ℕ) (is : Node) (h : Homes) (s : Source) (l : (address bytes : ℕ) → Option ℕ) (x : List ℕ) → NodeAt g node is →
    HoldsLive g node h s l x → HoldsEach h s l x is.uses

-- every variable has an address, and every local a home
pub record HasHomes (vs : List p.Variable) (ks : List Kind) (h : Homes) : Type 0 where
  pub variables : length h.addresses ≡ length vs
  pub locals : length h.locals ≡ length ks
  pub home : (local : ℕ) → local < length ks → is_home (home_of h.locals local) ≡ true

-- where every variable has an address and every local a home, all that a formed expression names has a home
abbrev pub FormedIsAtHome : Type 0
FormedIsAtHome = (vs : List p.Variable) (ks : List Kind) (h : Homes) (t : e.Expr) → HasHomes vs ks h → IsExpr vs ks t → AreAtHome h t

abbrev pub FormedTargetIsAtHome : Type 0
FormedTargetIsAtHome = (vs : List p.Variable) (ks : List Kind) (h : Homes) (t : e.Lvalue) → HasHomes vs ks h → IsTarget vs ks t → IsAtHome h t
