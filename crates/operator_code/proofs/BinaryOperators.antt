-- The instructions of binary operators.
use Rattle.std.proofs.Common.{◌≡◌, refl, ℕ, ◌^◌, ◌<◌, List, [], ◌∷◌, ap, sym, ◌∙◌, subst, Bool, true, false}
use Rattle.std.specs.Prelude.{ℤ, not, IfSome}
use Rattle.ido_ints.specs.declared.kinds.Kind.{Kind}
use Rattle.ido_ints.specs.declared.kinds.Kind.TheVariants.{Int}
use Rattle.ido_ints.specs.declared.operators.Binary.{Binary}
use Rattle.ido_ints.specs.declared.operators.Binary.TheVariants.{Mul, Div, Rem, Add, Sub, ShiftLeft, ShiftRight, Less, Greater, LessEqual, GreaterEqual}
use Rattle.ido_ints.specs.declared.operators.Binary.TheVariants.{Equal, NotEqual, And, Xor, Or}
use Rattle.ido_ints.specs.Kinds.{promoted, common_of}
use Rattle.ido_ints.specs.Operators.{truth, is_zero}
use Rattle.ido_ints.specs.Reduction.{reduced, register_of, residue}
use Rattle.ido_ints.specs.TypedNumbers.{typed, converted, register_form_of}
use Rattle.ido_ints.proofs.Public.{Holds-reduced, register_below}
use Rattle.rv64_isa.specs.declared.instr.Instr.{Instr}
use Rattle.rv64_isa.specs.declared.instr.Instr.TheVariants.{Op}
use Rattle.rv64_isa.specs.declared.instr.Operation.{Operation}
use Rattle.rv64_isa.specs.declared.instr.Condition.{Condition}
use Rattle.rv64_isa.specs.declared.instr.Condition.TheVariants.{Beq, Bne}
use Rattle.rv64_isa.specs.Rows.{read}
use Rattle.rv64_isa.specs.Arithmetic.{result_of, flag}
use Rattle.operator_code.specs.declared.operation.BinaryOperation.{BinaryOperation}
use Rattle.operator_code.specs.declared.immediates.ImmediateForm.{ImmediateForm}
use Rattle.operator_code.specs.Constants.{IsWithConstant}
use Rattle.operator_code.specs.links.Immediates.{HasForm}
use Rattle.operator_code.specs.ComputingCode.{AreOperands, IsBinary, IsComparison, IsFlag, passes, left_kind, right_kind, given_by}
use Rattle.operator_code.specs.links.OperatorInstructions.{instruction_of, below, not_below, made, test_of}
use Rattle.operator_code.proofs.InstructionPairs.{one, as_value, op_sets}
use Rattle.operator_code.proofs.WrappingArithmetic.{common_wide, promoted_wide, add_is, sub_is, mul_is, and_is, or_is, xor_is, left_is}
use Rattle.operator_code.proofs.RightShifts.{right_is}
use Rattle.operator_code.proofs.Divisions.{div_is, rem_is}
use Rattle.operator_code.proofs.Comparisons.{with_kinds, compared}

-- ---- One instruction

-- what the operator's instruction gives for operands in their register forms
pub record OperatorGives (o : BinaryOperation) (i : Operation) : Type 0 where
  pub law : (a b : ℤ) →
      result_of i (register_form_of (converted (typed o.left a) (left_kind o))) (register_form_of (converted (typed o.right b) (right_kind o))) ≡
      register_form_of (given_by o a b)

pub given : (operator : Binary) (j k : Kind) →
    IfSome (instruction_of operator (left_kind (with_kinds operator j k))) (λ i. OperatorGives (with_kinds operator j k) i)
given Add j k =
    let c : Kind = common_of j k in
    record { law = λ a b. add_is c (common_wide j k) (reduced c a) (reduced c b) }
given Sub j k =
    let c : Kind = common_of j k in
    record { law = λ a b. sub_is c (common_wide j k) (reduced c a) (reduced c b) }
given Mul j k =
    let c : Kind = common_of j k in
    record { law = λ a b. mul_is c (common_wide j k) (reduced c a) (reduced c b) }
given Div j k =
    let c : Kind = common_of j k in
    record { law = λ a b. div_is c (common_wide j k) (reduced c a) (reduced c b) (Holds-reduced c a) (Holds-reduced c b) }
given Rem j k =
    let c : Kind = common_of j k in
    record { law = λ a b. rem_is c (common_wide j k) (reduced c a) (reduced c b) (Holds-reduced c a) (Holds-reduced c b) }
given ShiftLeft j k =
    let c : Kind = promoted j in
    record { law = λ a b. left_is c (promoted k) (promoted_wide j) (reduced c a) b }
given ShiftRight j k =
    let c : Kind = promoted j in
    record { law = λ a b. right_is c (promoted k) (promoted_wide j) (reduced c a) b (Holds-reduced c a) }
given And j k =
    let c : Kind = common_of j k in
    record { law = λ a b. and_is c (common_wide j k) (reduced c a) (reduced c b) (Holds-reduced c a) (Holds-reduced c b) }
given Xor j k =
    let c : Kind = common_of j k in
    record { law = λ a b. xor_is c (common_wide j k) (reduced c a) (reduced c b) (Holds-reduced c a) (Holds-reduced c b) }
given Or j k =
    let c : Kind = common_of j k in
    record { law = λ a b. or_is c (common_wide j k) (reduced c a) (reduced c b) (Holds-reduced c a) (Holds-reduced c b) }
given operator j k = tt

-- by the instruction with two registers
pub by_op : (o : BinaryOperation) (rd r s : ℕ) (i : Operation) → 0 < rd → OperatorGives o i → IsBinary o rd r s (Op i rd r s ∷ [])
by_op o rd r s i some g = record {
  computes = λ x are a b at.
      as_value _ x rd (result_of i (read x r) (read x s)) _ ((λ j. result_of i (at.left j) (at.right j)) ∙ g.law a b)
      (one (Op i rd r s) x rd _ (op_sets i x rd r s some));
}

-- by one with a constant
pub by_form : (o : BinaryOperation) (i : Operation) (n : ℕ) (form : ImmediateForm) → OperatorGives o i → HasForm i n form → IsWithConstant o n form
by_form o i n form g h = record {
  computes = λ x rd rs some are a b at.
      as_value _ x rd (result_of i (read x rs) n) _ ((λ j. result_of i (at.left j) (at.right j)) ∙ g.law a b) (h.computes x rd rs some);
}

-- ---- The flag of a comparison

flag_truth : (b : Bool) → flag (not (is_zero (truth b))) ≡ register_of Int (truth b)
unfolding residue
flag_truth true = refl
flag_truth false = refl

left_below : (o : BinaryOperation) (a b : ℤ) (first second : ℕ) → AreOperands o a b first second → first < 2 ^ 64
left_below o a b first second at = subst (λ (n : ℕ). n < 2 ^ 64) (sym at.left) (register_below (left_kind o) (reduced (left_kind o) a))

right_below : (o : BinaryOperation) (a b : ℤ) (first second : ℕ) → AreOperands o a b first second → second < 2 ^ 64
right_below o a b first second at = subst (λ (n : ℕ). n < 2 ^ 64) (sym at.right) (register_below (right_kind o) (reduced (right_kind o) b))

by_flag : (o : BinaryOperation) (rd r s : ℕ) (condition : Condition) →
    ((a b : ℤ) → flag (not (is_zero (given_by o a b).number)) ≡ register_form_of (given_by o a b)) →
    IsComparison o r s (made condition r s) → (code : List Instr) → IsFlag (made condition r s) rd code → IsBinary o rd r s code
by_flag o rd r s condition law c code f = record {
  computes = λ x are a b at. as_value code x rd (flag (passes (made condition r s) x)) _ (ap flag (c.taken x a b at) ∙ law a b)
      (f.computes x are (left_below o a b (read x r) (read x s) at) (right_below o a b (read x r) (read x s) at));
}

by_swapped_flag : (o : BinaryOperation) (rd r s : ℕ) (condition : Condition) →
    ((a b : ℤ) → flag (not (is_zero (given_by o a b).number)) ≡ register_form_of (given_by o a b)) →
    IsComparison o r s (made condition s r) → (code : List Instr) → IsFlag (made condition s r) rd code → IsBinary o rd r s code
by_swapped_flag o rd r s condition law c code f = record {
  computes = λ x are a b at. as_value code x rd (flag (passes (made condition s r) x)) _ (ap flag (c.taken x a b at) ∙ law a b)
      (f.computes x are (right_below o a b (read x r) (read x s) at) (left_below o a b (read x r) (read x s) at));
}

pub flag_performed : (operator : Binary) (j k : Kind) (rd r s : ℕ) →
    IfSome (test_of operator (left_kind (with_kinds operator j k)) r s)
    (λ t. (code : List Instr) → IsFlag t rd code → IsBinary (with_kinds operator j k) rd r s code)
flag_performed Less j k rd r s = by_flag (with_kinds Less j k) rd r s (below (common_of j k)) (λ a b. flag_truth _) (compared Less j k r s)
flag_performed Greater j k rd r s = by_swapped_flag (with_kinds Greater j k) rd r s (below (common_of j k)) (λ a b. flag_truth _) (compared Greater j k r s)
flag_performed LessEqual j k rd r s =
    by_swapped_flag (with_kinds LessEqual j k) rd r s (not_below (common_of j k)) (λ a b. flag_truth _) (compared LessEqual j k r s)
flag_performed GreaterEqual j k rd r s =
    by_flag (with_kinds GreaterEqual j k) rd r s (not_below (common_of j k)) (λ a b. flag_truth _) (compared GreaterEqual j k r s)
flag_performed Equal j k rd r s = by_flag (with_kinds Equal j k) rd r s Beq (λ a b. flag_truth _) (compared Equal j k r s)
flag_performed NotEqual j k rd r s = by_flag (with_kinds NotEqual j k) rd r s Bne (λ a b. flag_truth _) (compared NotEqual j k r s)
flag_performed operator j k rd r s = tt
