-- Which temporaries are free where so many are held, and code of operands.
use Rattle.std.specs.Prelude.{◌≡◌, ℕ, zero, suc, ◌*◌, Bool, false, not, ◌==◌, ◌&&◌, ◌||◌, if◌then◌else◌, List, pos}
use Rattle.ido_ints.specs.declared.kinds.Kind.TheVariants.{Int, UnsignedLong}
use Rattle.ido_ints.specs.declared.operators.Binary.{Binary}
use Rattle.ido_ints.specs.Kinds.{rank_of}
use Rattle.ido_ints.specs.Operators.{is_zero, truth}
use Rattle.ido_ints.specs.TypedNumbers.{Typed, typed, converted, register_form_of}
use Rattle.c_tree.specs.Values.{value}
use Rattle.c_tree.specs.Exprs as e
use Rattle.rv64_isa.specs.declared.instr.Instr.{Instr}
use Rattle.memory_layout.specs.Roles.{is_temporary}
use Rattle.operator_code.specs.declared.branches.Test.{Test}
use Rattle.operator_code.specs.declared.operation.BinaryOperation.{BinaryOperation}
use Rattle.operator_code.specs.declared.immediates.ImmediateForm.{ImmediateForm}
use Rattle.operator_code.specs.Constants.{IsWithConstant}
use Rattle.operator_code.specs.ComputingCode.{Carries, passes, right_kind}
use Rattle.expr_code.specs.declared.operand.Pair as pair
use Rattle.code_runs.specs.ComputingRuns.{Environment, LocalConfig}
use Rattle.expr_code.specs.EvaluationCode.{Homes, Source, IsLegal, IsEvaluationStart, EvaluationEnds, EvaluatesTo}

-- the temporaries that are held, in the order in which they are taken; x31 is held by none
abbrev pub temporary : (number : ℕ) → ℕ
temporary zero = 5
temporary (suc zero) = 6
temporary (suc (suc zero)) = 7
temporary (suc (suc (suc number))) = 30

abbrev pub is_held : (held : ℕ) → (n : ℕ) → Bool
is_held zero n = false
is_held (suc held) n = n == temporary held || is_held held n

abbrev pub is_free : (held : ℕ) → (n : ℕ) → Bool
is_free held n = is_temporary n && not (is_held held n)

-- rd gets the value; free temporaries may change
abbrev pub IsEvaluation : Homes → e.Expr → (held rd : ℕ) → List Instr → Type 0
IsEvaluation h x held rd code = EvaluatesTo h x code (λ n. n == rd || is_free held n) (λ v y. Carries y rd v)

-- a register has the value, and keeps it while one more temporary is held
pub record IsOperand (h : Homes) (x : e.Expr) (held rs : ℕ) (code : List Instr) : Type 0 where
  pub gives : EvaluatesTo h x code (is_free held) (λ v y. Carries y rs v)
  pub kept : is_free (suc held) rs ≡ false

-- the test is passed exactly where the value isn't 0
abbrev pub IsTest : Homes → e.Expr → (held : ℕ) → Test → List Instr → Type 0
IsTest h x held test code = EvaluatesTo h x code (is_free held) (λ v y. passes test y ≡ not (is_zero v.number))

-- two operands have their values
pub record IsPair (h : Homes) (left right : e.Expr) (held : ℕ) (x : pair.Pair) : Type 0 where
  pub ends : (s : Source) (r : Environment) (m : LocalConfig) → IsLegal h s r left → IsLegal h s r right →
      IsEvaluationStart h s r left x.code.items m → IsEvaluationStart h s r right x.code.items m →
      EvaluationEnds r x.code.items (is_free held)
      (λ y. Carries y x.left (value s.locals s.numbers left) × Carries y x.right (value s.locals s.numbers right)) m

-- an expression is a constant, and an instruction gives what the operator gives for the left operand, converted, and it
pub record IsConstantForm (o : BinaryOperation) (y : e.Expr) (form : ImmediateForm) : Type 0 where
  pub number : Typed
  pub is : y ≡ e.Constant number
  pub gives : IsWithConstant o (register_form_of (converted number (right_kind o))) form

-- an operation on references, and 1 as one operand of it
abbrev pub reference_operation : Binary → BinaryOperation
reference_operation operator = record { operator = operator; left = UnsignedLong; right = UnsignedLong }

abbrev pub one : e.Expr
one = e.Constant (typed UnsignedLong (pos 1))

-- a condition, and what is chosen by it: each an expression and what is made of its value
pub record Choice : Type 0 where
  pub condition : e.Expr
  pub chosen : e.Expr
  pub from_chosen : Typed → Typed
  pub otherwise : e.Expr
  pub from_otherwise : Typed → Typed

-- rd gets what is chosen
pub record IsChoice (h : Homes) (c : Choice) (held rd : ℕ) (code : List Instr) : Type 0 where
  pub ends : (s : Source) (r : Environment) (m : LocalConfig) →
      IsLegal h s r c.condition → IsLegal h s r c.chosen → IsLegal h s r c.otherwise →
      IsEvaluationStart h s r c.condition code m → IsEvaluationStart h s r c.chosen code m → IsEvaluationStart h s r c.otherwise code m →
      EvaluationEnds r code (λ n. n == rd || is_free held n)
      (λ y. Carries y rd (if is_zero (value s.locals s.numbers c.condition).number then c.from_otherwise (value s.locals s.numbers c.otherwise)
      else c.from_chosen (value s.locals s.numbers c.chosen))) m

-- rd gets what is made of the value
abbrev pub IsMade : Homes → e.Expr → (Typed → Typed) → (held rd : ℕ) → List Instr → Type 0
IsMade h x made held rd code = EvaluatesTo h x code (λ n. n == rd || is_free held n) (λ v y. Carries y rd (made v))

-- the truth of a value
abbrev pub truth_of : Typed → Typed
truth_of v = typed Int (truth (not (is_zero v.number)))

-- Words of conversions, which count no node: of those that stand in one another each is to a wider kind.
abbrev pub conversion_words : e.Expr → ℕ
conversion_words (e.Converted kind operand) = 2 * rank_of kind
conversion_words x = 0
