-- The instructions of unary operators.
use Rattle.std.proofs.Common.{◌≡◌, refl, ℕ, zero, suc, ◌+◌, ◌-◌, ◌*◌, ◌/◌, ◌%◌, ◌^◌, ◌<◌, ◌≤◌, List, [], ◌∷◌, ap, sym, ◌∙◌, subst, arith, Bool, true, false}
use Rattle.std.proofs.Common.{inl, inr, lit<}
use Rattle.std.specs.Prelude.{ℤ, pos, negsuc, ◌-ℤ◌, neg_ℤ, nat_lt, not, ◌==◌, bit_xor}
use Rattle.std.proofs.Math.Nat.{pow-suc, one-le-pow}
use Rattle.std.proofs.lemmas.Nat.{xor_block}
use Rattle.std.proofs.lemmas.Int.{ints}
use Rattle.std.proofs.lemmas.Bool.Decides.{nat_tests, same_from_decides, Decides-like, Decides-int_eq, Decides-eqb}
use Rattle.ido_ints.specs.declared.kinds.Kind.{Kind}
use Rattle.ido_ints.specs.declared.kinds.Kind.TheVariants.{Char, UnsignedChar, SignedChar, Short, UnsignedShort, Int, UnsignedInt, Long, UnsignedLong}
use Rattle.ido_ints.specs.declared.operators.Unary.TheVariants.{Plus, Minus, Complement, Not}
use Rattle.ido_ints.specs.Kinds.{Holds, promoted}
use Rattle.ido_ints.specs.Operators.{truth, is_zero}
use Rattle.ido_ints.specs.Reduction.{residue, from_least_on, reduced, register_of}
use Rattle.ido_ints.proofs.Public.{Same_refl, Same_trans, Same-add, Same-neg, Holds-zero, Holds-reduced, Same-reduced, reduced-is, reduced_held}
use Rattle.ido_ints.proofs.Public.{reduced-promoted, Holds-promoted, residue-is, residue-Same, residue_below, register_below, register_injective}
use Rattle.ido_ints.proofs.Public.{register-reduced_32, register-reduced_64, register-64}
use Rattle.rv64_isa.specs.declared.instr.Instr.{Instr}
use Rattle.rv64_isa.specs.declared.instr.Instr.TheVariants.{OpImmediate, Op}
use Rattle.rv64_isa.specs.declared.instr.Operation as Codes
use Rattle.rv64_isa.specs.declared.instr.Operation.{Operation}
use Rattle.rv64_isa.specs.declared.instr.ImmediateOperation.TheVariants.{Xori, Sltiu}
use Rattle.rv64_isa.specs.Rows.{read}
use Rattle.rv64_isa.specs.Arithmetic.{result_of, flag}
use Rattle.operator_code.specs.ComputingCode.{IsCopy, IsUnary, IsTruth}
use Rattle.operator_code.specs.links.OperatorInstructions.{by_width}
use Rattle.operator_code.proofs.InstructionPairs.{one, as_value, op_sets, immediate_sets}
use Rattle.operator_code.proofs.WrappingArithmetic.{promoted_form, promoted_wide, sub_is, Wide}

-- ---- 0 and 1

pub zero_form : (k : Kind) → register_of k (pos 0) ≡ 0
unfolding residue from_least_on
zero_form Char = refl
zero_form UnsignedChar = refl
zero_form SignedChar = refl
zero_form Short = refl
zero_form UnsignedShort = refl
zero_form Int = refl
zero_form UnsignedInt = refl
zero_form Long = refl
zero_form UnsignedLong = refl

pub truth_form : (b : Bool) → flag b ≡ register_of Int (truth b)
unfolding residue
truth_form true = refl
truth_form false = refl

-- a number is 0 just where its register form is
pub is_zero_form : (k : Kind) (z : ℤ) → Holds k z → (register_of k z == 0) ≡ is_zero z
is_zero_form k z h = same_from_decides (register_of k z == 0) (is_zero z)
    (Decides-like (register_of k z == 0)
    (λ e. register_injective k z (pos 0) h (Holds-zero k) (e ∙ sym (zero_form k)))
    (λ e. ap (register_of k) e ∙ zero_form k)
    (Decides-eqb (register_of k z) 0))
    (Decides-int_eq z (pos 0))

pub below_one : (n : ℕ) → nat_lt n 1 ≡ (n == 0)
below_one n = by (n == 0) refl
  where
    by : (t : Bool) → (n == 0) ≡ t → nat_lt n 1 ≡ t
    by true e = grind (arith, nat_tests)
    by false e = grind (arith, nat_tests)

pub above_zero : (n : ℕ) → nat_lt 0 n ≡ not (n == 0)
above_zero n = by (n == 0) refl
  where
    by : (t : Bool) → (n == 0) ≡ t → nat_lt 0 n ≡ not t
    by true e = grind (arith, nat_tests)
    by false e = grind (arith, nat_tests)

-- ---- The complement

-- all bits turned
bit_turned : (r : ℕ) → r < 2 → bit_xor r 1 ≡ 1 - r
bit_turned zero h = refl
bit_turned (suc zero) h = refl
bit_turned (suc (suc r)) h = absurd (omega (arith, h))

turned : (k n : ℕ) → n < 2 ^ k → bit_xor n (2 ^ k - 1) ≡ 2 ^ k - 1 - n
turned zero n h =
    let none : n ≡ 0 = omega (arith, h) in
    ap (λ (m : ℕ). bit_xor m (2 ^ 0 - 1)) none ∙ omega (arith, none)
turned (suc k) n h =
    let power : 2 ^ suc k ≡ 2 * 2 ^ k = omega (arith, pow-suc 2 k) in
    let some : 1 ≤ 2 ^ k = one-le-pow k 2 (lit< tt) in
    let upper : n / 2 < 2 ^ k = omega (arith, h, power) in
    let parts : n ≡ n / 2 * 2 ^ 1 + n % 2 = omega arith in
    let ones : 2 ^ suc k - 1 ≡ (2 ^ k - 1) * 2 ^ 1 + 1 = omega (arith, power, some) in
    let low : n % 2 < 2 = omega arith in
    ap (λ (m : ℕ). bit_xor m (2 ^ suc k - 1)) parts ∙ ap (λ (m : ℕ). bit_xor (n / 2 * 2 ^ 1 + n % 2) m) ones ∙
    xor_block 1 (n / 2) (2 ^ k - 1) (n % 2) 1 low (lit< tt) ∙
    ap (λ (m : ℕ). m * 2 ^ 1 + bit_xor (n % 2) 1) (turned k (n / 2) upper) ∙
    ap (λ (m : ℕ). (2 ^ k - 1 - n / 2) * 2 ^ 1 + m) (bit_turned (n % 2) low) ∙
    omega (arith, power, some, upper, low)

less_one : (w : ℤ) → residue 64 (negsuc 0 -ℤ w) ≡ 2 ^ 64 - 1 - residue 64 w
less_one w =
    let below : residue 64 w < 2 ^ 64 = residue_below 64 w in
    residue-is 64 (negsuc 0 -ℤ w) (2 ^ 64 - 1 - residue 64 w) (omega (arith, below))
    (Same_trans (2 ^ 64) _ (negsuc 0 -ℤ pos (residue 64 w)) _ (record { more = 0; less = 1; sums = omega (arith, ints, below) })
    (Same-add (2 ^ 64) (negsuc 0) (negsuc 0) _ (neg_ℤ w) (Same_refl (2 ^ 64) (negsuc 0)) (Same-neg (2 ^ 64) _ w (residue-Same 64 w))))

complement_int : (z : ℤ) → reduced Int (negsuc 0 -ℤ z) ≡ negsuc 0 -ℤ reduced Int z
complement_int z =
    let h : Holds Int (reduced Int z) = Holds-reduced Int z in
    reduced-is Int (negsuc 0 -ℤ z) (negsuc 0 -ℤ reduced Int z)
    (record { from_least = omega (arith, ints, h.to_greatest); to_greatest = omega (arith, ints, h.from_least) })
    (Same-add (2 ^ 32) (negsuc 0) (negsuc 0) _ (neg_ℤ z) (Same_refl (2 ^ 32) (negsuc 0)) (Same-neg (2 ^ 32) _ z (Same-reduced Int z)))

complement_is : (p : Kind) → Wide p → (z : ℤ) → Holds p z → 2 ^ 64 - 1 - register_of p z ≡ register_of p (reduced p (negsuc 0 -ℤ z))
complement_is p (inl w) z h =
    ap (λ (n : ℕ). 2 ^ 64 - 1 - n) (register-64 p w z) ∙ sym (less_one z) ∙ sym (register-reduced_64 p w (negsuc 0 -ℤ z))
complement_is p (inr w) z h =
    ap (λ (n : ℕ). 2 ^ 64 - 1 - n) (sym (ap (register_of p) (reduced_held p z h)) ∙ register-reduced_32 p w z) ∙
    sym (less_one (reduced Int z)) ∙ sym (ap (residue 64) (complement_int z)) ∙ sym (register-reduced_32 p w (negsuc 0 -ℤ z))

-- ---- Code

pub plus : (kind : Kind) (rd rs : ℕ) (code : List Instr) → IsCopy rd rs code → IsUnary Plus kind rd rs code
plus kind rd rs code c = record {
  computes = λ x are z carried.
      let small : read x rs < 2 ^ 64 = subst (λ (n : ℕ). n < 2 ^ 64) (sym carried.form) (register_below kind z) in
      as_value code x rd (read x rs) _
      (carried.form ∙ sym (promoted_form kind z carried.held) ∙ sym (ap (register_of (promoted kind)) (reduced-promoted kind z carried.held)))
      (c.computes x are small);
}

from_zero : (z : ℤ) → pos 0 -ℤ z ≡ neg_ℤ z
from_zero z = omega (arith, ints)

pub minus : (kind : Kind) (rd rs : ℕ) → 0 < rd →
    IsUnary Minus kind rd rs (Op (by_width (promoted kind) Codes.TheVariants.Sub Codes.TheVariants.Subw) rd 0 rs ∷ [])
minus kind rd rs some = record {
  computes = λ x are z carried.
      let p : Kind = promoted kind in
      let i : Operation = by_width p Codes.TheVariants.Sub Codes.TheVariants.Subw in
      as_value _ x rd (result_of i (read x 0) (read x rs)) _
      (ap (λ (n : ℕ). result_of i n (read x rs)) (are.zero_is ∙ sym (zero_form p)) ∙
      ap (λ (n : ℕ). result_of i (register_of p (pos 0)) n) (carried.form ∙ sym (promoted_form kind z carried.held)) ∙
      sub_is p (promoted_wide kind) (pos 0) z ∙ ap (λ (y : ℤ). register_of p (reduced p y)) (from_zero z))
      (one (Op i rd 0 rs) x rd _ (op_sets i x rd 0 rs some));
}

pub complement : (kind : Kind) (rd rs : ℕ) → 0 < rd → IsUnary Complement kind rd rs (OpImmediate Xori rd rs 4095 ∷ [])
unfolding result_of
complement kind rd rs some = record {
  computes = λ x are z carried.
      let p : Kind = promoted kind in
      as_value _ x rd (bit_xor (read x rs) (2 ^ 64 - 1)) _
      (ap (λ (n : ℕ). bit_xor n (2 ^ 64 - 1)) carried.form ∙ turned 64 (register_of kind z) (register_below kind z) ∙
      ap (λ (n : ℕ). 2 ^ 64 - 1 - n) (sym (promoted_form kind z carried.held)) ∙
      complement_is p (promoted_wide kind) z (Holds-promoted kind z carried.held))
      (one (OpImmediate Xori rd rs 4095) x rd _ (immediate_sets Xori x rd rs 4095 some));
}

pub inverted : (kind : Kind) (rd rs : ℕ) → 0 < rd → IsUnary Not kind rd rs (OpImmediate Sltiu rd rs 1 ∷ [])
unfolding result_of
inverted kind rd rs some = record {
  computes = λ x are z carried.
      as_value _ x rd (flag (nat_lt (read x rs) 1)) _
      (ap flag (below_one (read x rs) ∙ ap (λ (n : ℕ). n == 0) carried.form ∙ is_zero_form kind z carried.held) ∙ truth_form (is_zero z))
      (one (OpImmediate Sltiu rd rs 1) x rd _ (immediate_sets Sltiu x rd rs 1 some));
}

pub true_where : (kind : Kind) (rd rs : ℕ) → 0 < rd → IsTruth kind rd rs (Op Codes.TheVariants.Sltu rd 0 rs ∷ [])
unfolding result_of
true_where kind rd rs some = record {
  computes = λ x are z carried.
      as_value _ x rd (flag (nat_lt (read x 0) (read x rs))) _
      (ap (λ (n : ℕ). flag (nat_lt n (read x rs))) are.zero_is ∙
      ap flag (above_zero (read x rs) ∙ ap (λ (n : ℕ). not (n == 0)) carried.form ∙ ap not (is_zero_form kind z carried.held)) ∙ truth_form (not (is_zero z)))
      (one (Op Codes.TheVariants.Sltu rd 0 rs) x rd _ (op_sets Codes.TheVariants.Sltu x rd 0 rs some));
}
