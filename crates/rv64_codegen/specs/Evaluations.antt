-- What the code of nodes that evaluate and test does, wherever it stands in a thread's linked code.
use Rattle.std.specs.Prelude.{◌≡◌, ℕ, ◌+◌, ◌*◌, ◌^◌, ◌<◌, ◌≤◌, List, [], ◌∷◌, length, sum_by, Bool, true, false, not}
use Rattle.std.specs.Prelude.{◌==◌, ◌||◌}
use Rattle.std.specs.Prelude.{if◌then◌else◌}
use Rattle.std.specs.List.{AllByRecursion}
use Rattle.ido_base.specs.declared.limits.TheConstants.{MOST_TEMPORARIES}
use Rattle.ido_ints.specs.Operators.{is_zero}
use Rattle.ido_ints.specs.TypedNumbers.{Typed, converted}
use Rattle.c_tree.specs.Exprs as e
use Rattle.c_tree.specs.Prices.{need_of, nodes_of}
use Rattle.c_tree.specs.Values.{value, element_at}
use Rattle.c_tree.specs.WellFormed.{IsDeclared, IndexFits}
use Rattle.rv64_isa.specs.declared.instr.Instr.TheVariants.{Store}
use Rattle.rv64_isa.specs.declared.instr.StoreKind.TheVariants.{Sd}
use Rattle.rv64_isa.specs.declared.object.CodeItem.{CodeItem}
use Rattle.rv64_isa.specs.Rows.{Stores, row, read}
use Rattle.rv64_link.specs.LabelledCode.{most_words_of, fences_in}
use Rattle.rv64_link.specs.LinkedCode.{IsInstructionAt}
use Rattle.memory_layout.specs.Roles as roles
use Rattle.memory_layout.specs.Roles.{is_temporary}
use Rattle.operator_code.specs.ComputingCode.{AreRegisters, Carries}
use Rattle.code_runs.specs.ComputingRuns.{Environment}
use Rattle.code_runs.specs.CodeTraces.{Does, Mark, marked}
use Rattle.expr_code.specs.EvaluationCode as x
use Rattle.expr_code.specs.EvaluationCode.{Homes, Source}
use Rattle.node_code.specs.Cleans.{cleans_in}
use Rattle.node_code.specs.Sites.{Site, begin_of, end_of, label_of}
use Rattle.node_code.specs.Pieces.{IsClosed, PieceLeads, marks_in, resumes_in}
use Rattle.expr_code.specs.declared.home.Home.{Home}
use Rattle.expr_code.specs.declared.home.Home.TheVariants.{InRegister, InFrame}

-- the expressions need few enough temporaries
abbrev pub NeedFew : List e.Placed → Type 0
NeedFew xs = AllByRecursion (λ (y : e.Placed). need_of y.expr ≤ MOST_TEMPORARIES) xs

-- ---- What a node evaluates

abbrev pub target_nodes : e.Lvalue → ℕ
target_nodes (e.ToLocal place local kind) = 0
target_nodes (e.ToVariable place variable kind) = 0
target_nodes (e.ToElement place variable kind index) = nodes_of index.expr

-- what is assigned has a home, or an address
abbrev pub IsAtHome : Homes → e.Lvalue → Type 0
IsAtHome h (e.ToLocal place local kind) = (local < length h.locals) × (x.is_home (x.home_of h.locals local) ≡ true)
IsAtHome h (e.ToVariable place variable kind) = variable < length h.addresses
IsAtHome h (e.ToElement place variable kind index) = (variable < length h.addresses) × x.AreAtHome h index.expr

module _ (h : Homes) (s : Source) (around : Environment) (registers : List ℕ) where
  -- the expression may be evaluated from these registers
  pub record MayEvaluate (t : e.Expr) : Type 0 where
    pub legal : x.IsLegal h s around t
    pub locals : x.HoldsLocals h s around.loads registers t

  -- the index of a target may be evaluated from these registers
  abbrev pub MayReach : e.Lvalue → Type 0
  MayReach (e.ToLocal place local kind) = Unit {0}
  MayReach (e.ToVariable place variable kind) = variable < length s.variables
  MayReach (e.ToElement place variable kind index) =
      IsDeclared s.variables variable kind true × IndexFits s.variables variable index.place index.expr × MayEvaluate index.expr

-- the register is the home or, where that is a word of memory, one of those of what is stored
abbrev pub is_in : Home → (register : ℕ) → Bool
is_in (InRegister own) register = register == own
is_in (InFrame address) register = register == roles.pending_value || register == roles.pending_address

-- the registers that an evaluation may change
abbrev pub may_write : Homes → e.Lvalue → (register : ℕ) → Bool
may_write h (e.ToLocal place local kind) n = is_in (x.home_of h.locals local) n || is_temporary n
may_write h (e.ToVariable place variable kind) n = n == roles.pending_value || (n == roles.pending_address || is_temporary n)
may_write h (e.ToElement place variable kind index) n = n == roles.pending_value || (n == roles.pending_address || is_temporary n)

-- the home has the value or, where it is a word of memory, x28 has its address and x29 the value
abbrev pub HasSet : (registers : List ℕ) → Home → Typed → Type 0
HasSet y (InRegister register) v = Carries y register v
HasSet y (InFrame address) v = (read y roles.pending_address ≡ address) × Carries y roles.pending_value v

-- a local's home has the value, converted to its kind, or it is ready to be stored there; or x28 has the address of an element, and x29 its value
abbrev pub Has : Homes → Source → (registers : List ℕ) → e.Lvalue → Typed → Type 0
Has h s y (e.ToLocal place local kind) v = HasSet y (x.home_of h.locals local) (converted v kind)
Has h s y (e.ToVariable place variable kind) v = (read y roles.pending_address ≡ x.place_of s variable 0) × Carries y roles.pending_value (converted v kind)
Has h s y (e.ToElement place variable kind index) v =
    (read y roles.pending_address ≡ x.place_of s variable (element_at (value s.locals s.numbers index.expr))) × Carries y roles.pending_value (converted v kind)

-- registers y after an evaluation from registers x
pub record IsAssigned (h : Homes) (s : Source) (target : e.Lvalue) (t : e.Expr) (x y : List ℕ) : Type 0 where
  pub are : AreRegisters y
  pub unchanged : (n : ℕ) → may_write h target n ≡ false → read y n ≡ read x n
  pub has : Has h s y target (value s.locals s.numbers t)

-- ---- Evaluations

-- the mark, and the evaluation; its loads are those of elements that the index and the value read
pub record Evaluates (h : Homes) (target : e.Lvalue) (t : e.Expr) (piece : List CodeItem) (at : Site piece) : Type 0 where
  pub evaluates : (s : Source) (x : List ℕ) → AreRegisters x → MayReach h s at.linking.environment.around x target →
      MayEvaluate h s at.linking.environment.around x t →
      PieceLeads at x (begin_of piece at) (end_of piece at) (Mark ∷ []) (IsAssigned h s target t x)
  pub marks : marks_in piece at ≡ begin_of piece at ∷ []
  pub resumes : resumes_in piece at ≡ []

pub record IsEvaluation (h : Homes) (target : e.Lvalue) (t : e.Expr) (piece : List CodeItem) : Type 0 where
  pub closed : IsClosed piece
  pub few : sum_by most_words_of piece ≤ 16 * (target_nodes target + nodes_of t) + 17
  pub fences : fences_in piece ≡ 0
  pub cleans : cleans_in piece ≡ 0
  pub at : (at : Site piece) → Evaluates h target t piece at

-- ---- Assignments of locals that stand in memory

-- the evaluation alone, without a mark
pub record Prepares (h : Homes) (target : e.Lvalue) (t : e.Expr) (piece : List CodeItem) (at : Site piece) : Type 0 where
  pub prepares : (s : Source) (x : List ℕ) → AreRegisters x → MayReach h s at.linking.environment.around x target →
      MayEvaluate h s at.linking.environment.around x t →
      PieceLeads at x (begin_of piece at) (end_of piece at) [] (IsAssigned h s target t x)
  pub marks : marks_in piece at ≡ []
  pub resumes : resumes_in piece at ≡ []

pub record IsPreparation (h : Homes) (target : e.Lvalue) (t : e.Expr) (piece : List CodeItem) : Type 0 where
  pub closed : IsClosed piece
  pub few : sum_by most_words_of piece ≤ 16 * (target_nodes target + nodes_of t) + 16
  pub fences : fences_in piece ≡ 0
  pub cleans : cleans_in piece ≡ 0
  pub at : (at : Site piece) → Prepares h target t piece at

-- the mark, the evaluation, and the store of eight bytes that is pending then, which is no mark and whose line isn't cleaned
pub record EvaluatesThenStores (h : Homes) (target : e.Lvalue) (t : e.Expr) (piece : List CodeItem) (at : Site piece) : Type 0 where
  pub store : ℕ
  pub evaluates : (s : Source) (x : List ℕ) → AreRegisters x → MayReach h s at.linking.environment.around x target →
      MayEvaluate h s at.linking.environment.around x t →
      PieceLeads at x (begin_of piece at) store (Mark ∷ []) (IsAssigned h s target t x)
  pub stands : IsInstructionAt at.linking.program.start at.linking.program.code store (Store Sd roles.pending_value roles.pending_address 0)
  pub does : (x : List ℕ) → read x roles.pending_address < 2 ^ 64 →
      row (Store Sd roles.pending_value roles.pending_address 0) x store ≡ Stores (read x roles.pending_address) 8 (read x roles.pending_value)
  pub stores : (x : List ℕ) → read x roles.pending_address < 2 ^ 64 →
      PieceLeads at x store (end_of piece at) (Does (Stores (read x roles.pending_address) 8 (read x roles.pending_value)) ∷ []) (λ y. y ≡ x)
  pub after : end_of piece at ≡ store + 4
  pub plain : marked at.linking.program.nodes store ≡ []
  pub marks : marks_in piece at ≡ begin_of piece at ∷ []
  pub resumes : resumes_in piece at ≡ []

pub record IsPlainAssignment (h : Homes) (target : e.Lvalue) (t : e.Expr) (piece : List CodeItem) : Type 0 where
  pub closed : IsClosed piece
  pub few : sum_by most_words_of piece ≤ 16 * (target_nodes target + nodes_of t) + 18
  pub fences : fences_in piece ≡ 0
  pub cleans : cleans_in piece ≡ 0
  pub at : (at : Site piece) → EvaluatesThenStores h target t piece at

-- ---- Tests

-- registers y after a test from registers x
pub record IsTested (x y : List ℕ) : Type 0 where
  pub are : AreRegisters y
  pub unchanged : (n : ℕ) → is_temporary n ≡ false → read y n ≡ read x n

-- whether the branch of a test, turned round or not, is taken where the condition has this value
abbrev pub is_taken : (turned : Bool) → Typed → Bool
is_taken turned v = if turned then is_zero v.number else not (is_zero v.number)

-- the mark, and the test: to the label where the condition isn't 0 or, turned round, where it is, else to the piece's end
pub record Tests (h : Homes) (t : e.Expr) (turned : Bool) (label : ℕ) (piece : List CodeItem) (at : Site piece) : Type 0 where
  pub tests : (s : Source) (x : List ℕ) → AreRegisters x → MayEvaluate h s at.linking.environment.around x t →
      PieceLeads at x (begin_of piece at) (if is_taken turned (value s.locals s.numbers t) then label_of piece at label else end_of piece at) (Mark ∷ [])
      (IsTested x)
  pub marks : marks_in piece at ≡ begin_of piece at ∷ []
  pub resumes : resumes_in piece at ≡ []

pub record IsTest (h : Homes) (t : e.Expr) (turned : Bool) (label : ℕ) (piece : List CodeItem) : Type 0 where
  pub closed : IsClosed piece
  pub few : sum_by most_words_of piece ≤ 16 * nodes_of t + 10
  pub fences : fences_in piece ≡ 0
  pub cleans : cleans_in piece ≡ 0
  pub at : (at : Site piece) → Tests h t turned label piece at
