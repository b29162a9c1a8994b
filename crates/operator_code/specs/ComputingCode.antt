-- Instructions that only compute: they work out one value, write it to one register and do nothing else. Values stand
-- in registers in their register form, and operators and conversions are those of C's numbers.
-- Results are those of `ido_ints`, so there is no second arithmetic (C11 6.3.1, 6.5).
use Rattle.std.specs.Prelude.{◌≡◌, ◌<◌, ◌^◌, ℕ, List, [], length, slice_set, ℤ, Bool, true, false, not, if◌then◌else◌}
use Rattle.ido_ints.specs.declared.kinds.Kind.{Kind}
use Rattle.ido_ints.specs.declared.kinds.Kind.TheVariants.{Int}
use Rattle.ido_ints.specs.declared.operators.Unary.{Unary}
use Rattle.ido_ints.specs.declared.operators.Binary.{Binary}
use Rattle.ido_ints.specs.declared.operators.Binary.TheVariants.{ShiftLeft, ShiftRight, Less, Greater, LessEqual, GreaterEqual, Equal, NotEqual, LogicalAnd}
use Rattle.ido_ints.specs.declared.operators.Binary.TheVariants.{LogicalOr}
use Rattle.ido_ints.specs.Kinds.{Holds, promoted, common_of}
use Rattle.ido_ints.specs.Operators.{truth, is_zero, unary_of, binary_of}
use Rattle.ido_ints.specs.TypedNumbers.{Typed, typed, converted, register_form_of}
use Rattle.rv64_isa.specs.declared.instr.Instr.{Instr}
use Rattle.rv64_isa.specs.Rows.{read}
use Rattle.rv64_isa.specs.Arithmetic.{flag, is_taken}
use Rattle.operator_code.specs.declared.operation.BinaryOperation.{BinaryOperation}
use Rattle.operator_code.specs.declared.branches.Test.{Test}
use Rattle.operator_code.specs.StraightLineCode.{effects, registers_after}

-- what the 32 registers hold
pub record AreRegisters (x : List ℕ) : Type 0 where
  pub count : length x ≡ 32
  pub zero_is : read x 0 ≡ 0

-- from registers x, at any pc, the code only computes: register rd gets the value
pub record Computes (code : List Instr) (x : List ℕ) (rd value : ℕ) : Type 0 where
  pub unseen : (pc : ℕ) → effects code x pc ≡ []
  pub changes : (pc : ℕ) → registers_after code x pc ≡ slice_set x rd value

-- register r holds a value, one that its kind holds
pub record Carries (x : List ℕ) (r : ℕ) (v : Typed) : Type 0 where
  pub held : Holds v.kind v.number
  pub form : read x r ≡ register_form_of v

-- rd gets what rs holds, as 64 bits
pub record IsCopy (rd rs : ℕ) (code : List Instr) : Type 0 where
  pub computes : (x : List ℕ) → AreRegisters x → read x rs < 2 ^ 64 → Computes code x rd (read x rs)

-- a number of the one kind has, in a register, the form of its conversion to the other
abbrev pub KeepsForm : (from to : Kind) → Type 0
KeepsForm from to = (z : ℤ) → Holds from z → register_form_of (converted (typed from z) to) ≡ register_form_of (typed from z)

-- rd gets the value in rs, converted
pub record IsConversion (from to : Kind) (rd rs : ℕ) (code : List Instr) : Type 0 where
  pub computes : (x : List ℕ) → AreRegisters x → (z : ℤ) → Carries x rs (typed from z) →
      Computes code x rd (register_form_of (converted (typed from z) to))

-- rd gets what the operator gives for the value in rs
pub record IsUnary (operator : Unary) (kind : Kind) (rd rs : ℕ) (code : List Instr) : Type 0 where
  pub computes : (x : List ℕ) → AreRegisters x → (z : ℤ) → Carries x rs (typed kind z) →
      Computes code x rd (register_form_of (unary_of operator (typed kind z)))

-- rd gets 1 where the value in rs isn't 0, else 0
pub record IsTruth (kind : Kind) (rd rs : ℕ) (code : List Instr) : Type 0 where
  pub computes : (x : List ℕ) → AreRegisters x → (z : ℤ) → Carries x rs (typed kind z) →
      Computes code x rd (register_form_of (typed Int (truth (not (is_zero z)))))

-- a shift promotes its operands (C11 6.5.7), all others convert them to the common kind (6.3.1.8)
abbrev pub is_shift : Binary → Bool
is_shift ShiftLeft = true
is_shift ShiftRight = true
is_shift operator = false

-- both operands are always evaluated: all operators but `&&` and `||`
abbrev pub is_strict : Binary → Bool
is_strict LogicalAnd = false
is_strict LogicalOr = false
is_strict operator = true

abbrev pub is_comparison : Binary → Bool
is_comparison Less = true
is_comparison Greater = true
is_comparison LessEqual = true
is_comparison GreaterEqual = true
is_comparison Equal = true
is_comparison NotEqual = true
is_comparison operator = false

-- the kinds to which the operands are converted
abbrev pub left_kind : BinaryOperation → Kind
left_kind o = if is_shift o.operator then promoted o.left else common_of o.left o.right

abbrev pub right_kind : BinaryOperation → Kind
right_kind o = if is_shift o.operator then promoted o.right else common_of o.left o.right

-- what the operator gives for the numbers a and b of its operands' kinds
abbrev pub given_by : BinaryOperation → (a b : ℤ) → Typed
given_by o a b = binary_of o.operator (typed o.left a) (typed o.right b)

-- registers hold the operands, converted
pub record AreOperands (o : BinaryOperation) (a b : ℤ) (first second : ℕ) : Type 0 where
  pub left : first ≡ register_form_of (converted (typed o.left a) (left_kind o))
  pub right : second ≡ register_form_of (converted (typed o.right b) (right_kind o))

-- rd gets what the operator gives for the operands in rs1 and rs2
pub record IsBinary (o : BinaryOperation) (rd rs1 rs2 : ℕ) (code : List Instr) : Type 0 where
  pub computes : (x : List ℕ) → AreRegisters x → (a b : ℤ) → AreOperands o a b (read x rs1) (read x rs2) →
      Computes code x rd (register_form_of (given_by o a b))

-- whether the test's branch is taken
abbrev pub passes : Test → (x : List ℕ) → Bool
passes t x = is_taken t.condition (read x t.rs1) (read x t.rs2)

-- taken exactly where the comparison of the operands in rs1 and rs2 holds
pub record IsComparison (o : BinaryOperation) (rs1 rs2 : ℕ) (test : Test) : Type 0 where
  pub taken : (x : List ℕ) (a b : ℤ) → AreOperands o a b (read x rs1) (read x rs2) → passes test x ≡ not (is_zero (given_by o a b).number)

-- taken exactly where the value in rs isn't 0
pub record IsNonzero (kind : Kind) (rs : ℕ) (test : Test) : Type 0 where
  pub taken : (x : List ℕ) → AreRegisters x → (z : ℤ) → Carries x rs (typed kind z) → passes test x ≡ not (is_zero z)

-- taken exactly where the other isn't
pub record IsOpposite (other test : Test) : Type 0 where
  pub taken : (x : List ℕ) → passes test x ≡ not (passes other x)

-- rd gets 1 where the test is passed, else 0
pub record IsFlag (test : Test) (rd : ℕ) (code : List Instr) : Type 0 where
  pub computes : (x : List ℕ) → AreRegisters x → read x test.rs1 < 2 ^ 64 → read x test.rs2 < 2 ^ 64 → Computes code x rd (flag (passes test x))
