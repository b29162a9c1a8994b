-- Quotients, truncated towards 0, and remainders.
use Rattle.std.proofs.Common.{◌≡◌, refl, ℕ, suc, ◌-◌, ◌/◌, ◌%◌, ◌^◌, ◌<◌, ◌≤◌, ap, sym, ◌∙◌, arith, Bool, true, false, cond, inl, inr}
use Rattle.std.specs.Prelude.{ℤ, pos, negsuc, unsigned_abs, int_div, int_rem, if◌then◌else◌}
use Rattle.std.proofs.Math.Nat.{div-le_self, mod-le}
use Rattle.std.proofs.lemmas.Int.{ints}
use Rattle.ido_ints.specs.declared.kinds.Kind.{Kind}
use Rattle.ido_ints.specs.Kinds.{Holds, bits_of, is_signed}
use Rattle.ido_ints.specs.Operators.{is_zero, quotient, remainder}
use Rattle.ido_ints.specs.Reduction.{residue, reduced, register_of}
use Rattle.ido_ints.proofs.Public.{register-64, register-reduced_64}
use Rattle.rv64_isa.specs.declared.instr.Operation as Codes
use Rattle.rv64_isa.specs.declared.instr.Operation.{Operation}
use Rattle.rv64_isa.specs.Arithmetic as Machine
use Rattle.rv64_isa.specs.Arithmetic.{result_of, with_sign, differ, word_result}
use Rattle.operator_code.specs.links.OperatorInstructions.{by_width, by_sign}
use Rattle.operator_code.proofs.Residues.{residue_pos, residue_negsuc, residue_neg, low_word, word_of_residue}
use Rattle.operator_code.proofs.SignCases.{Halves, halves_64, halves_32, InHalf, in_half_of, IsNatural, natural_of, is_minus, negative_is, magnitude_is}
use Rattle.operator_code.proofs.SignCases.{zero_residue, zero_natural}
use Rattle.operator_code.proofs.WrappingArithmetic.{Wide, is_double, is_word}

-- ---- Signed

below_whole : (w h a q : ℕ) → Halves w h → a ≤ h → q ≤ a → q < 2 ^ w
below_whole w h a q g k l = omega (arith, g.whole, g.some, k, l)

signed_quotient : (w h : ℕ) (x y : ℤ) → Halves w h → InHalf h x → with_sign w (differ (is_minus x) (is_minus y)) (unsigned_abs x / unsigned_abs y) ≡
    residue w (int_div x y)
signed_quotient w h (pos a) (pos b) g k =
    let small : a ≤ h = omega (arith, ints, k.greatest) in
    sym (residue_pos w (a / b) (below_whole w h a (a / b) g small (div-le_self a b)))
signed_quotient w h (pos a) (negsuc b) g k =
    let small : a ≤ h = omega (arith, ints, k.greatest) in
    let fits : a / suc b < 2 ^ w = below_whole w h a (a / suc b) g small (div-le_self a (suc b)) in
    sym (residue_neg w (a / suc b) (omega (arith, fits)))
signed_quotient w h (negsuc a) (pos b) g k =
    let small : suc a ≤ h = omega (arith, ints, k.least) in
    let fits : suc a / b < 2 ^ w = below_whole w h (suc a) (suc a / b) g small (div-le_self (suc a) b) in
    sym (residue_neg w (suc a / b) (omega (arith, fits)))
signed_quotient w h (negsuc a) (negsuc b) g k =
    let small : suc a ≤ h = omega (arith, ints, k.least) in
    sym (residue_pos w (suc a / suc b) (below_whole w h (suc a) (suc a / suc b) g small (div-le_self (suc a) (suc b))))

signed_remainder : (w h : ℕ) (x y : ℤ) → Halves w h → InHalf h x → with_sign w (is_minus x) (unsigned_abs x % unsigned_abs y) ≡ residue w (int_rem x y)
signed_remainder w h (pos a) y g k =
    let small : a ≤ h = omega (arith, ints, k.greatest) in
    sym (residue_pos w (a % unsigned_abs y) (below_whole w h a (a % unsigned_abs y) g small (mod-le a (unsigned_abs y))))
signed_remainder w h (negsuc a) y g k =
    let small : suc a ≤ h = omega (arith, ints, k.least) in
    let fits : suc a % unsigned_abs y < 2 ^ w = below_whole w h (suc a) (suc a % unsigned_abs y) g small (mod-le (suc a) (unsigned_abs y)) in
    sym (residue_neg w (suc a % unsigned_abs y) (omega (arith, fits)))

-- all bits are set in a quotient by 0
all_ones : (w h : ℕ) → Halves w h → 2 ^ w - 1 ≡ residue w (negsuc 0)
all_ones w h g = sym (residue_negsuc w 0 (omega (arith, g.whole, g.some)))

quotient_residue : (w h : ℕ) (x y : ℤ) → Halves w h → InHalf h x → InHalf h y → Machine.quotient w (residue w x) (residue w y) ≡ residue w (quotient x y)
quotient_residue w h x y g k l =
    (λ i. cond (zero_residue w h y g l i) (2 ^ w - 1)
    (with_sign w (differ (negative_is w h x g k i) (negative_is w h y g l i)) (magnitude_is w h x g k i / magnitude_is w h y g l i))) ∙ by (is_zero y)
  where
    by : (t : Bool) → cond t (2 ^ w - 1) (with_sign w (differ (is_minus x) (is_minus y)) (unsigned_abs x / unsigned_abs y)) ≡
        residue w (if t then negsuc 0 else int_div x y)
    by true = all_ones w h g
    by false = signed_quotient w h x y g k

remainder_residue : (w h : ℕ) (x y : ℤ) → Halves w h → InHalf h x → InHalf h y → Machine.remainder w (residue w x) (residue w y) ≡ residue w (remainder x y)
remainder_residue w h x y g k l =
    (λ i. cond (zero_residue w h y g l i) (residue w x) (with_sign w (negative_is w h x g k i) (magnitude_is w h x g k i % magnitude_is w h y g l i))) ∙
    by (is_zero y)
  where
    by : (t : Bool) → cond t (residue w x) (with_sign w (is_minus x) (unsigned_abs x % unsigned_abs y)) ≡ residue w (if t then x else int_rem x y)
    by true = refl
    by false = signed_remainder w h x y g k

-- ---- Unsigned

natural_quotient : (w h m n : ℕ) → Halves w h → m < 2 ^ w → Machine.quotient_unsigned w m n ≡ residue w (quotient (pos m) (pos n))
natural_quotient w h m n g fits = ap (λ (t : Bool). cond t (2 ^ w - 1) (m / n)) (zero_natural n) ∙ by (is_zero (pos n))
  where
    by : (t : Bool) → cond t (2 ^ w - 1) (m / n) ≡ residue w (if t then negsuc 0 else int_div (pos m) (pos n))
    by true = all_ones w h g
    by false = sym (residue_pos w (m / n) (let least : m / n ≤ m = div-le_self m n in omega (arith, fits, least)))

natural_remainder : (w m n : ℕ) → m < 2 ^ w → Machine.remainder_unsigned w m n ≡ residue w (remainder (pos m) (pos n))
natural_remainder w m n fits = ap (λ (t : Bool). cond t m (m % n)) (zero_natural n) ∙ by (is_zero (pos n))
  where
    by : (t : Bool) → cond t m (m % n) ≡ residue w (if t then pos m else int_rem (pos m) (pos n))
    by true = sym (residue_pos w m fits)
    by false = sym (residue_pos w (m % n) (let least : m % n ≤ m = mod-le m n in omega (arith, fits, least)))

unsigned_quotient : (w h : ℕ) (x y : ℤ) → Halves w h → IsNatural w x → IsNatural w y → Machine.quotient_unsigned w (residue w x) (residue w y) ≡
    residue w (quotient x y)
unsigned_quotient w h x y g m n =
    (λ i. Machine.quotient_unsigned w (residue w (m.is i)) (residue w (n.is i))) ∙
    (λ i. Machine.quotient_unsigned w (residue_pos w m.number m.small i) (residue_pos w n.number n.small i)) ∙
    natural_quotient w h m.number n.number g m.small ∙ sym (λ i. residue w (quotient (m.is i) (n.is i)))

unsigned_remainder : (w : ℕ) (x y : ℤ) → IsNatural w x → IsNatural w y → Machine.remainder_unsigned w (residue w x) (residue w y) ≡ residue w (remainder x y)
unsigned_remainder w x y m n =
    (λ i. Machine.remainder_unsigned w (residue w (m.is i)) (residue w (n.is i))) ∙
    (λ i. Machine.remainder_unsigned w (residue_pos w m.number m.small i) (residue_pos w n.number n.small i)) ∙
    natural_remainder w m.number n.number m.small ∙ sym (λ i. residue w (remainder (m.is i) (n.is i)))

-- ---- Instructions

div_double : (c : Kind) → bits_of c ≡ 64 → (x y : ℤ) → Holds c x → Holds c y → (s : Bool) → is_signed c ≡ s →
    result_of (if s then Codes.TheVariants.Div else Codes.TheVariants.Divu) (register_of c x) (register_of c y) ≡ register_of c (reduced c (quotient x y))
unfolding result_of
div_double c w x y h k true s =
    (λ i. Machine.quotient 64 (register-64 c w x i) (register-64 c w y i)) ∙
    quotient_residue 64 (2 ^ 63) x y halves_64 (in_half_of 64 c w s x h) (in_half_of 64 c w s y k) ∙ sym (register-reduced_64 c w (quotient x y))
div_double c w x y h k false s =
    (λ i. Machine.quotient_unsigned 64 (register-64 c w x i) (register-64 c w y i)) ∙
    unsigned_quotient 64 (2 ^ 63) x y halves_64 (natural_of 64 c w s x h) (natural_of 64 c w s y k) ∙ sym (register-reduced_64 c w (quotient x y))

div_word : (c : Kind) → bits_of c ≡ 32 → (x y : ℤ) → Holds c x → Holds c y → (s : Bool) → is_signed c ≡ s →
    result_of (if s then Codes.TheVariants.Divw else Codes.TheVariants.Divuw) (register_of c x) (register_of c y) ≡ register_of c (reduced c (quotient x y))
unfolding result_of
div_word c w x y h k true s =
    (λ i. word_result (Machine.quotient 32 (low_word c x i) (low_word c y i))) ∙
    ap word_result (quotient_residue 32 (2 ^ 31) x y halves_32 (in_half_of 32 c w s x h) (in_half_of 32 c w s y k)) ∙ word_of_residue c w (quotient x y)
div_word c w x y h k false s =
    (λ i. word_result (Machine.quotient_unsigned 32 (low_word c x i) (low_word c y i))) ∙
    ap word_result (unsigned_quotient 32 (2 ^ 31) x y halves_32 (natural_of 32 c w s x h) (natural_of 32 c w s y k)) ∙ word_of_residue c w (quotient x y)

rem_double : (c : Kind) → bits_of c ≡ 64 → (x y : ℤ) → Holds c x → Holds c y → (s : Bool) → is_signed c ≡ s →
    result_of (if s then Codes.TheVariants.Rem else Codes.TheVariants.Remu) (register_of c x) (register_of c y) ≡ register_of c (reduced c (remainder x y))
unfolding result_of
rem_double c w x y h k true s =
    (λ i. Machine.remainder 64 (register-64 c w x i) (register-64 c w y i)) ∙
    remainder_residue 64 (2 ^ 63) x y halves_64 (in_half_of 64 c w s x h) (in_half_of 64 c w s y k) ∙ sym (register-reduced_64 c w (remainder x y))
rem_double c w x y h k false s =
    (λ i. Machine.remainder_unsigned 64 (register-64 c w x i) (register-64 c w y i)) ∙
    unsigned_remainder 64 x y (natural_of 64 c w s x h) (natural_of 64 c w s y k) ∙ sym (register-reduced_64 c w (remainder x y))

rem_word : (c : Kind) → bits_of c ≡ 32 → (x y : ℤ) → Holds c x → Holds c y → (s : Bool) → is_signed c ≡ s →
    result_of (if s then Codes.TheVariants.Remw else Codes.TheVariants.Remuw) (register_of c x) (register_of c y) ≡ register_of c (reduced c (remainder x y))
unfolding result_of
rem_word c w x y h k true s =
    (λ i. word_result (Machine.remainder 32 (low_word c x i) (low_word c y i))) ∙
    ap word_result (remainder_residue 32 (2 ^ 31) x y halves_32 (in_half_of 32 c w s x h) (in_half_of 32 c w s y k)) ∙ word_of_residue c w (remainder x y)
rem_word c w x y h k false s =
    (λ i. word_result (Machine.remainder_unsigned 32 (low_word c x i) (low_word c y i))) ∙
    ap word_result (unsigned_remainder 32 x y (natural_of 32 c w s x h) (natural_of 32 c w s y k)) ∙ word_of_residue c w (remainder x y)

pub div_is : (c : Kind) → Wide c → (x y : ℤ) → Holds c x → Holds c y →
    result_of (by_width c (by_sign c Codes.TheVariants.Div Codes.TheVariants.Divu) (by_sign c Codes.TheVariants.Divw Codes.TheVariants.Divuw))
    (register_of c x) (register_of c y) ≡ register_of c (reduced c (quotient x y))
div_is c (inl w) x y h k =
    ap (λ (i : Operation). result_of i (register_of c x) (register_of c y))
    (is_double c (by_sign c Codes.TheVariants.Div Codes.TheVariants.Divu) (by_sign c Codes.TheVariants.Divw Codes.TheVariants.Divuw) w) ∙
    div_double c w x y h k (is_signed c) refl
div_is c (inr w) x y h k =
    ap (λ (i : Operation). result_of i (register_of c x) (register_of c y))
    (is_word c (by_sign c Codes.TheVariants.Div Codes.TheVariants.Divu) (by_sign c Codes.TheVariants.Divw Codes.TheVariants.Divuw) w) ∙
    div_word c w x y h k (is_signed c) refl

pub rem_is : (c : Kind) → Wide c → (x y : ℤ) → Holds c x → Holds c y →
    result_of (by_width c (by_sign c Codes.TheVariants.Rem Codes.TheVariants.Remu) (by_sign c Codes.TheVariants.Remw Codes.TheVariants.Remuw))
    (register_of c x) (register_of c y) ≡ register_of c (reduced c (remainder x y))
rem_is c (inl w) x y h k =
    ap (λ (i : Operation). result_of i (register_of c x) (register_of c y))
    (is_double c (by_sign c Codes.TheVariants.Rem Codes.TheVariants.Remu) (by_sign c Codes.TheVariants.Remw Codes.TheVariants.Remuw) w) ∙
    rem_double c w x y h k (is_signed c) refl
rem_is c (inr w) x y h k =
    ap (λ (i : Operation). result_of i (register_of c x) (register_of c y))
    (is_word c (by_sign c Codes.TheVariants.Rem Codes.TheVariants.Remu) (by_sign c Codes.TheVariants.Remw Codes.TheVariants.Remuw) w) ∙
    rem_word c w x y h k (is_signed c) refl
