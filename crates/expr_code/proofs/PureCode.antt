-- Code that computes is pure: it stores, cleans, fences and calls nothing.
use Rattle.std.proofs.Common.{◌≡◌, ℕ, zero, suc, ◌+◌, ◌*◌, ◌^◌, ◌<◌, List, [], ◌∷◌, ◌++◌, length, get_or, refl, ap, sym, ◌∙◌, arith, subst, lit<}
use Rattle.std.specs.Prelude.{pos, if◌then◌else◌}
use Rattle.std.proofs.lemmas.List.Sums.{sum_by-cons}
use Rattle.ido_ints.specs.declared.kinds.Kind.{Kind}
use Rattle.ido_ints.specs.declared.kinds.Kind.TheVariants.{Char, UnsignedChar, SignedChar, Short, UnsignedShort, Int, UnsignedInt, Long, UnsignedLong}
use Rattle.ido_ints.specs.declared.operators.Unary.{Unary}
use Rattle.ido_ints.specs.Reduction.{residue, from_least_on}
use Rattle.ido_ints.specs.TypedNumbers.{typed, converted, register_form_of}
use Rattle.ido_ints.proofs.Public.{Holds-zero}
use Rattle.rv64_isa.specs.declared.instr.Instr.{Instr}
use Rattle.rv64_isa.specs.declared.instr.Instr.TheVariants.{Lui, Auipc, Jal, Jalr, Branch, Load, Store, OpImmediate}
use Rattle.rv64_isa.specs.declared.instr.Instr.TheVariants.{ShiftImmediate, ShiftImmediateWord, Op, CboClean, Fence, Ecall}
use Rattle.rv64_isa.specs.Rows.{Effect, Continues, Stores, Cleans, Fences, Calls, row, read}
use Rattle.operator_code.specs.declared.operation.BinaryOperation.{BinaryOperation}
use Rattle.operator_code.specs.declared.immediates.ImmediateForm.{ImmediateForm}
use Rattle.operator_code.specs.declared.immediates.ImmediateForm.TheVariants.{Number, Shift, ShiftWord}
use Rattle.operator_code.specs.declared.branches.Test.{Test}
use Rattle.operator_code.specs.Constants.{instruction_in}
use Rattle.operator_code.specs.ComputingCode.{AreRegisters, Carries, AreOperands, IsCopy, IsConversion}
use Rattle.operator_code.specs.ComputingCode.{IsUnary, IsTruth, IsBinary, left_kind, right_kind, passes}
use Rattle.operator_code.specs.StraightLineCode.{effects, seen, left_by, IsConstant}
use Rattle.expr_code.specs.EvaluationCode.{impure_of, impure_among}
use Rattle.expr_code.specs.links.ForwardJumps.{Skips, SkipsWhere}

-- ---- Lists

pub among_cons : (i : Instr) (is : List Instr) → impure_among (i ∷ is) ≡ impure_of i + impure_among is
among_cons i is = sum_by-cons impure_of i is

pub among_append : (xs ys : List Instr) → impure_among (xs ++ ys) ≡ impure_among xs + impure_among ys
among_append [] ys = omega arith
among_append (x ∷ xs) ys =
    let a = among_cons x (xs ++ ys) in
    let b = among_cons x xs in
    let c = among_append xs ys in
    omega (arith, a, b, c)

-- after code stands more that has none
pub none_more : (old more new : List Instr) → new ≡ old ++ more → impure_among more ≡ 0 → impure_among new ≡ impure_among old
none_more old more new e none =
    let a : impure_among new ≡ impure_among (old ++ more) = ap impure_among e in
    let b = among_append old more in
    omega (arith, a, b, none)

pub both_among : (old more new : List Instr) → new ≡ old ++ more → impure_among new ≡ impure_among old + impure_among more
both_among old more new e = ap impure_among e ∙ among_append old more

-- ---- What is seen of them

rest_is_none : (es fs : List Effect) → es ++ fs ≡ [] → fs ≡ []
rest_is_none [] fs e = e
rest_is_none (x ∷ es) fs e = absurd cc

no_some : (f : Effect) (fs : List Effect) → f ∷ fs ≡ [] → ⊥
no_some f fs e = cc e

unseen_one : (i : Instr) (x : List ℕ) (pc : ℕ) (more : List Effect) → seen pc (row i x pc) ++ more ≡ [] → impure_of i ≡ 0
unfolding row
unseen_one (Lui rd immediate) x pc more e = refl
unseen_one (Auipc rd immediate) x pc more e = refl
unseen_one (Jal rd offset) x pc more e = refl
unseen_one (Jalr rd rs1 offset) x pc more e = refl
unseen_one (Branch condition rs1 rs2 offset) x pc more e = refl
unseen_one (Load kind rd rs1 offset) x pc more e = refl
unseen_one (Store kind rs2 rs1 offset) x pc more e = absurd (no_some _ more e)
unseen_one (OpImmediate operation rd rs1 immediate) x pc more e = refl
unseen_one (ShiftImmediate operation rd rs1 count) x pc more e = refl
unseen_one (ShiftImmediateWord operation rd rs1 count) x pc more e = refl
unseen_one (Op operation rd rs1 rs2) x pc more e = refl
unseen_one (CboClean rs1) x pc more e = absurd (no_some _ more e)
unseen_one Fence x pc more e = absurd (no_some Fences more e)
unseen_one Ecall x pc more e = absurd (no_some _ more e)

unseen_none : (code : List Instr) (x : List ℕ) (pc : ℕ) → effects code x pc ≡ [] → impure_among code ≡ 0
unseen_none [] x pc e = refl
unseen_none (i ∷ is) x pc e =
    let here = unseen_one i x pc (effects is (left_by x (row i x pc)) (pc + 4)) e in
    let rest = unseen_none is (left_by x (row i x pc)) (pc + 4)
    (rest_is_none (seen pc (row i x pc)) (effects is (left_by x (row i x pc)) (pc + 4)) e) in
    let sum = among_cons i is in
    omega (arith, here, rest, sum)

store_goes : (address bytes number : ℕ) (x : List ℕ) (to : ℕ) → Stores address bytes number ≡ Continues x to → ⊥
store_goes address bytes number x to e = cc e

clean_goes : (address : ℕ) (x : List ℕ) (to : ℕ) → Cleans address ≡ Continues x to → ⊥
clean_goes address x to e = cc e

fence_goes : (x : List ℕ) (to : ℕ) → Fences ≡ Continues x to → ⊥
fence_goes x to e = cc e

call_goes : (x : List ℕ) (to : ℕ) → Calls ≡ Continues x to → ⊥
call_goes x to e = cc e

goes_none : (i : Instr) (x y : List ℕ) (pc to : ℕ) → row i x pc ≡ Continues y to → impure_of i ≡ 0
unfolding row
goes_none (Lui rd immediate) x y pc to e = refl
goes_none (Auipc rd immediate) x y pc to e = refl
goes_none (Jal rd offset) x y pc to e = refl
goes_none (Jalr rd rs1 offset) x y pc to e = refl
goes_none (Branch condition rs1 rs2 offset) x y pc to e = refl
goes_none (Load kind rd rs1 offset) x y pc to e = refl
goes_none (Store kind rs2 rs1 offset) x y pc to e = absurd (store_goes _ _ _ y to e)
goes_none (OpImmediate operation rd rs1 immediate) x y pc to e = refl
goes_none (ShiftImmediate operation rd rs1 count) x y pc to e = refl
goes_none (ShiftImmediateWord operation rd rs1 count) x y pc to e = refl
goes_none (Op operation rd rs1 rs2) x y pc to e = refl
goes_none (CboClean rs1) x y pc to e = absurd (clean_goes _ y to e)
goes_none Fence x y pc to e = absurd (fence_goes y to e)
goes_none Ecall x y pc to e = absurd (call_goes y to e)

pub skips_none : (words : ℕ) (i : Instr) → words + 1 < 2 ^ 18 → Skips words i → impure_of i ≡ 0
skips_none words i few s = goes_none i [] [] 0 (0 + 4 * (words + 1)) (s.goes [] 0 (omega (arith, few)))

pub skips_where_none : (words : ℕ) (test : Test) (i : Instr) → words + 1 < 2 ^ 18 → SkipsWhere words test i → impure_of i ≡ 0
skips_where_none words test i few s =
    goes_none i [] [] 0 (if passes test [] then 0 + 4 * (words + 1) else 0 + 4) (s.goes [] 0 (omega (arith, few)))

-- ---- Registers that hold nothing

abbrev zeros : (n : ℕ) → List ℕ
zeros zero = []
zeros (suc n) = 0 ∷ zeros n

zeros_are : (n : ℕ) → length (zeros n) ≡ n
zeros_are zero = refl
zeros_are (suc n) = ap suc (zeros_are n)

zeros_read : (n r : ℕ) → get_or (zeros n) r 0 ≡ 0
zeros_read zero r = refl
zeros_read (suc n) zero = refl
zeros_read (suc n) (suc r) = zeros_read n r

are_zeros : AreRegisters (zeros 32)
are_zeros = record { count = zeros_are 32; zero_is = zeros_read 32 0 }

zero_form : (k : Kind) → register_form_of (typed k (pos 0)) ≡ 0
unfolding residue from_least_on
zero_form Char = refl
zero_form UnsignedChar = refl
zero_form SignedChar = refl
zero_form Short = refl
zero_form UnsignedShort = refl
zero_form Int = refl
zero_form UnsignedInt = refl
zero_form Long = refl
zero_form UnsignedLong = refl

zero_converted : (k to : Kind) → register_form_of (converted (typed k (pos 0)) to) ≡ 0
unfolding residue from_least_on
zero_converted k Char = refl
zero_converted k UnsignedChar = refl
zero_converted k SignedChar = refl
zero_converted k Short = refl
zero_converted k UnsignedShort = refl
zero_converted k Int = refl
zero_converted k UnsignedInt = refl
zero_converted k Long = refl
zero_converted k UnsignedLong = refl

carries_zero : (k : Kind) (r : ℕ) → Carries (zeros 32) r (typed k (pos 0))
carries_zero k r = record { held = Holds-zero k; form = zeros_read 32 r ∙ sym (zero_form k) }

-- ---- Code of operators

pub constant_none : (rd value : ℕ) (code : List Instr) → IsConstant rd value code → impure_among code ≡ 0
constant_none rd value code is = unseen_none code (zeros 32) 0 (is.unseen (zeros 32) 0 (zeros_are 32) (zeros_read 32 0))

pub copy_none : (rd rs : ℕ) (code : List Instr) → IsCopy rd rs code → impure_among code ≡ 0
copy_none rd rs code is =
    let low : read (zeros 32) rs ≡ 0 = zeros_read 32 rs in
    let small : 0 < 2 ^ 64 = lit< tt in
    let lower : read (zeros 32) rs < 2 ^ 64 = subst (λ (n : ℕ). n < 2 ^ 64) (sym low) small in
    unseen_none code (zeros 32) 0 ((is.computes (zeros 32) are_zeros lower).unseen 0)

pub conversion_none : (from to : Kind) (rd rs : ℕ) (code : List Instr) → IsConversion from to rd rs code → impure_among code ≡ 0
conversion_none from to rd rs code is = unseen_none code (zeros 32) 0 ((is.computes (zeros 32) are_zeros (pos 0) (carries_zero from rs)).unseen 0)

pub unary_none : (operator : Unary) (k : Kind) (rd rs : ℕ) (code : List Instr) → IsUnary operator k rd rs code → impure_among code ≡ 0
unary_none operator k rd rs code is = unseen_none code (zeros 32) 0 ((is.computes (zeros 32) are_zeros (pos 0) (carries_zero k rs)).unseen 0)

pub truth_none : (k : Kind) (rd rs : ℕ) (code : List Instr) → IsTruth k rd rs code → impure_among code ≡ 0
truth_none k rd rs code is = unseen_none code (zeros 32) 0 ((is.computes (zeros 32) are_zeros (pos 0) (carries_zero k rs)).unseen 0)

pub binary_none : (o : BinaryOperation) (rd rs1 rs2 : ℕ) (code : List Instr) → IsBinary o rd rs1 rs2 code → impure_among code ≡ 0
binary_none o rd rs1 rs2 code is =
    let operands : AreOperands o (pos 0) (pos 0) (read (zeros 32) rs1) (read (zeros 32) rs2) = record {
      left = zeros_read 32 rs1 ∙ sym (zero_converted o.left (left_kind o));
      right = zeros_read 32 rs2 ∙ sym (zero_converted o.right (right_kind o));
    } in
    unseen_none code (zeros 32) 0 ((is.computes (zeros 32) are_zeros (pos 0) (pos 0) operands).unseen 0)

pub immediate_none : (form : ImmediateForm) (rd rs : ℕ) → impure_among (instruction_in form rd rs ∷ []) ≡ 0
immediate_none (Number operation bits) rd rs = refl
immediate_none (Shift operation count) rd rs = refl
immediate_none (ShiftWord operation count) rd rs = refl

-- ---- Branches

pub one_none : (i : Instr) (code : List Instr) → code ≡ i ∷ [] → impure_of i ≡ 0 → impure_among code ≡ 0
one_none i code e none = let a : impure_among code ≡ impure_among (i ∷ []) = ap impure_among e in let b = among_cons i [] in omega (arith, a, b, none)

pub two_none : (i j : Instr) (code : List Instr) → code ≡ i ∷ j ∷ [] → impure_of i ≡ 0 → impure_of j ≡ 0 → impure_among code ≡ 0
two_none i j code e first second =
    let a : impure_among code ≡ impure_among (i ∷ j ∷ []) = ap impure_among e in
    let b = among_cons i (j ∷ []) in
    let c = among_cons j [] in
    omega (arith, a, b, c, first, second)

pub choice_among : (code guard chosen otherwise whole : List Instr) (past : Instr) → whole ≡ (((code ++ guard) ++ chosen) ++ past ∷ []) ++ otherwise
    → impure_among guard ≡ 0 → impure_of past ≡ 0 → impure_among whole ≡ impure_among code + impure_among chosen + impure_among otherwise
choice_among code guard chosen otherwise whole past e none last =
    let a : impure_among whole ≡ impure_among ((((code ++ guard) ++ chosen) ++ past ∷ []) ++ otherwise) = ap impure_among e in
    let b = among_append (((code ++ guard) ++ chosen) ++ past ∷ []) otherwise in
    let c = among_append ((code ++ guard) ++ chosen) (past ∷ []) in
    let d = among_append (code ++ guard) chosen in
    let f = among_append code guard in
    let g = among_cons past [] in
    omega (arith, a, b, c, d, f, g, none, last)
