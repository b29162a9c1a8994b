-- What the low 64 bits of numbers reduce to, and what the operators make of them.
use Rattle.std.proofs.Common.{◌≡◌, refl, ℕ, suc, ◌+◌, ◌-◌, ◌*◌, ◌/◌, ◌%◌, ◌^◌, ◌<◌, ◌≤◌, sym, ◌∙◌, ap, subst, arith, Bool, true, false, cond}
use Rattle.std.specs.Prelude.{ℤ, pos, negsuc, ◌+ℤ◌, ◌-ℤ◌, ◌*ℤ◌, neg_ℤ, ◌≤ℤ◌, unsigned_abs, int_lt, int_div, int_rem, FitsSigned, bit_and, bit_or, bit_xor, not}
use Rattle.std.specs.Int.{w64, w128, cast_signed, cast_unsigned}
use Rattle.std.proofs.Math.Nat.{mod-lt, mod-le, div-le_self}
use mathlib.Core.Bool.{beq}
use Rattle.std.proofs.lemmas.Nat.{and_le_l, and_mask, and_mod, or_mod, xor_mod, pow_pos}
use Rattle.std.proofs.lemmas.Int.{ints}
use Rattle.std.proofs.lemmas.Bool.Decides.{nat_tests}
use Rattle.ido_ints.specs.declared.kinds.Kind.{Kind}
use Rattle.ido_ints.specs.declared.kinds.Kind.TheVariants.{Char, UnsignedChar, SignedChar, Short, UnsignedShort, Int, UnsignedInt, Long, UnsignedLong}
use Rattle.ido_ints.specs.Kinds.{Holds, bits_of, least_of, modulus_of}
use Rattle.ido_ints.specs.Operators.{bitwise, places, shifted_left, is_zero, quotient, remainder}
use Rattle.ido_ints.specs.Reduction.{residue, reduced}
use Rattle.ido_ints.proofs.Congruence.{Same, Same_refl, Same_sym, Same_trans, Same-add, Same-neg, Same-mul, Same-mod}
use Rattle.ido_ints.proofs.ReductionLaws.{Same-modulus, Same-reduced, modulus_pos, reduced-is, reduced-same}
use Rattle.ido_ints.proofs.ReductionLaws.{reduced-reduced, reduced-add, reduced-sub, reduced-mul, Is}
use Rattle.ido_ints.proofs.Registers.{Same-minus, residue_below, residue-Same, residue-mod, residue-add, residue-sub, residue-mul}
use Rattle.ido_ints.proofs.RegisterValues.{places-register}

-- ---- the low 64 bits of a number

-- of the 128 bits that hold it
pub residue-wide : (z : ℤ) → FitsSigned w128 z → cast_unsigned w128 z % 2 ^ 64 ≡ residue 64 z
residue-wide (pos n) f = sym (residue-mod 64 (pos n) n (Same_refl (2 ^ 64) (pos n)))
residue-wide (negsuc n) f = sym (residue-mod 64 (negsuc n) (2 ^ 128 - suc n) (record { more = 0; less = 2 ^ 64; sums = omega (arith, ints, f.sfits) }))

-- the low 64 bits of a number reduce to what the number does
pub reduced-residue : (k : Kind) (z : ℤ) → reduced k (pos (residue 64 z)) ≡ reduced k z
reduced-residue k z = reduced-same k _ z (Same-modulus k _ z (residue-Same 64 z))

-- ---- a kind's number from 64 bits

-- what 64 bits hold of a number that fits them
long_bits : (l : ℤ) → FitsSigned w64 l → (cast_unsigned w64 l ≤ 2 ^ 64) × Same (2 ^ 64) (pos (cast_unsigned w64 l)) l
long_bits (pos n) f = (omega (arith, f.sfits), Same_refl (2 ^ 64) (pos n))
long_bits (negsuc n) f = (omega arith, record { more = 0; less = 1; sums = omega (arith, ints, f.sfits) })

-- how far n is above l, modulo 2 ^ 64
distance : (n : ℕ) (l : ℤ) → FitsSigned w64 l →
    Same (2 ^ 64) (pos ((n + (2 ^ 64 - cast_unsigned w64 l)) % 2 ^ 64)) (pos n -ℤ l)
distance n l f =
    let c = cast_unsigned w64 l in
    let bits = long_bits l f in
    Same_trans (2 ^ 64) _ (pos (n + (2 ^ 64 - c))) _ (Same-mod (n + (2 ^ 64 - c)) (2 ^ 64))
    (Same_trans (2 ^ 64) _ (pos n -ℤ pos c) _ (Same-minus n c (2 ^ 64) bits.0)
    (Same-add (2 ^ 64) (pos n) (pos n) (neg_ℤ (pos c)) (neg_ℤ l) (Same_refl (2 ^ 64) (pos n)) (Same-neg (2 ^ 64) (pos c) l bits.1)))

-- the least number, and above it the low bits of the distance from it
pub narrowed : (k : Kind) (n : ℕ) (l : ℤ) → l ≡ least_of k → FitsSigned w64 l →
    Is k (pos n) (l +ℤ pos (bit_and ((n + (2 ^ 64 - cast_unsigned w64 l)) % 2 ^ 64) (modulus_of k - 1)))
narrowed k n l e f =
    let m = modulus_of k in
    let x = (n + (2 ^ 64 - cast_unsigned w64 l)) % 2 ^ 64 in
    let masked : bit_and x (m - 1) ≡ x % m = and_mask x (bits_of k) in
    let below : x % m < m = mod-lt x (modulus_pos k) in
    let same : Same m (pos (x % m)) (pos n -ℤ l) = Same_trans m _ (pos x) _ (Same-mod x m) (Same-modulus k _ _ (distance n l f)) in
    let At : ℤ → Type 0 = λ y. y ≤ℤ (l +ℤ pos (x % m)) in
    let To : ℤ → Type 0 = λ y. (l +ℤ pos (x % m)) ≤ℤ (y +ℤ pos (m - 1)) in
    let held : Holds k (l +ℤ pos (x % m)) = record { from_least = subst At e (omega (arith, ints)); to_greatest = subst To e (omega (arith, ints)) } in
    let whole : Same m (l +ℤ pos (x % m)) (pos n) = record { more = same.more; less = same.less; sums = omega (arith, ints, same.sums) } in
    rw masked (record { value = sym (reduced-is k (pos n) _ held whole); held = held })

exact_above : (l : ℤ) (a : ℕ) → FitsSigned w64 l → a < 2 ^ 64 →
    cast_signed w128 (cast_unsigned w128 (cast_signed w128 (cast_unsigned w128 (cast_signed w64 (cast_unsigned w64 l))) +ℤ cast_signed w128 a)) ≡ l +ℤ pos a
exact_above l a f h = omega (arith, ints, f.sfits)

-- the least number of a kind, and above it the low bits of the distance from it, as the code puts the number together
pub narrowed_exact : (k : Kind) (n : ℕ) (l : ℤ) (c m : ℕ) → l ≡ least_of k → m ≡ modulus_of k - 1 → FitsSigned w64 l →
    c ≡ cast_unsigned w64 l →
    cast_signed w128 (cast_unsigned w128 (cast_signed w128 (cast_unsigned w128 (cast_signed w64 (cast_unsigned w64 l)))
    +ℤ cast_signed w128 (bit_and ((n + (2 ^ 64 - c)) % 2 ^ 64) m))) ≡ reduced k (pos n)
narrowed_exact k n l c m e p f is =
    let x = (n + (2 ^ 64 - c)) % 2 ^ 64 in
    let below = mod-lt (n + (2 ^ 64 - c)) (pow_pos 64) in
    let small : bit_and x m < 2 ^ 64 = omega (arith, and_le_l x m) in
    exact_above l (bit_and x m) f small
    ∙ (λ i. l +ℤ pos (bit_and ((n + (2 ^ 64 - is i)) % 2 ^ 64) (p i)))
    ∙ (narrowed k n l e f).value

-- ---- sums, differences, products and negatives

pub reduced-bits_add : (k : Kind) (x y : ℤ) →
    reduced k (pos ((residue 64 x + residue 64 y) % 2 ^ 64)) ≡ reduced k (reduced k x +ℤ reduced k y)
reduced-bits_add k x y = ap (λ n. reduced k (pos n)) (sym (residue-add 64 x y)) ∙ reduced-residue k (x +ℤ y) ∙ sym (reduced-add k x y)

pub reduced-bits_sub : (k : Kind) (x y : ℤ) →
    reduced k (pos ((residue 64 x + (2 ^ 64 - residue 64 y)) % 2 ^ 64)) ≡ reduced k (reduced k x -ℤ reduced k y)
reduced-bits_sub k x y = ap (λ n. reduced k (pos n)) (sym (residue-sub 64 x y)) ∙ reduced-residue k (x -ℤ y) ∙ sym (reduced-sub k x y)

pub reduced-bits_mul : (k : Kind) (x y : ℤ) →
    reduced k (pos (residue 64 x * residue 64 y % 2 ^ 64)) ≡ reduced k (reduced k x *ℤ reduced k y)
reduced-bits_mul k x y = ap (λ n. reduced k (pos n)) (sym (residue-mul 64 x y)) ∙ reduced-residue k (x *ℤ y) ∙ sym (reduced-mul k x y)

Same-negative : (n : ℕ) → n ≤ 2 ^ 64 → Same (2 ^ 64) (pos ((2 ^ 64 - n) % 2 ^ 64)) (neg_ℤ (pos n))
Same-negative n h = Same_trans (2 ^ 64) _ (pos (2 ^ 64 - n)) _ (Same-mod (2 ^ 64 - n) (2 ^ 64))
    (record { more = 0; less = 1; sums = omega (arith, ints) })

pub reduced-bits_neg : (k : Kind) (z : ℤ) → reduced k (pos ((2 ^ 64 - residue 64 z) % 2 ^ 64)) ≡ reduced k (neg_ℤ z)
reduced-bits_neg k z =
    let below = residue_below 64 z in
    reduced-same k _ _ (Same-modulus k _ _ (Same_trans (2 ^ 64) _ (neg_ℤ (pos (residue 64 z))) _
    (Same-negative (residue 64 z) (omega arith)) (Same-neg (2 ^ 64) _ z (residue-Same 64 z))))

pub reduced-bits_not : (k : Kind) (z : ℤ) → reduced k (pos (2 ^ 64 - 1 - residue 64 z)) ≡ reduced k (negsuc 0 -ℤ z)
reduced-bits_not k z =
    let r = residue 64 z in
    let below : r < 2 ^ 64 = residue_below 64 z in
    let low : Same (2 ^ 64) (pos (2 ^ 64 - 1 - r)) (negsuc 0 -ℤ pos r) = record { more = 0; less = 1; sums = omega (arith, ints) } in
    reduced-same k _ _ (Same-modulus k _ _ (Same_trans (2 ^ 64) _ (negsuc 0 -ℤ pos r) _ low
    (Same-add (2 ^ 64) (negsuc 0) (negsuc 0) (neg_ℤ (pos r)) (neg_ℤ z) (Same_refl (2 ^ 64) (negsuc 0)) (Same-neg (2 ^ 64) (pos r) z (residue-Same 64 z)))))

-- ---- bitwise operators

bits_of_low : (k : Kind) (z : ℤ) → residue (bits_of k) (reduced k z) ≡ residue 64 z % modulus_of k
bits_of_low k z = residue-mod (bits_of k) (reduced k z) (residue 64 z)
    (Same_trans (modulus_of k) _ z _ (Same-modulus k _ z (residue-Same 64 z)) (Same_sym (modulus_of k) _ z (Same-reduced k z)))

reduced-bitwise : (f : ℕ → ℕ → ℕ) → ((a b w : ℕ) → f a b % 2 ^ w ≡ f (a % 2 ^ w) (b % 2 ^ w)) → (k : Kind) (x y : ℤ) →
    reduced k (pos (f (residue 64 x) (residue 64 y))) ≡ reduced k (bitwise f k (reduced k x) (reduced k y))
reduced-bitwise f law k x y =
    let m = residue 64 x in
    let n = residue 64 y in
    reduced-same k _ _ (Same_sym (modulus_of k) _ (pos (f m n)) (Same-mod (f m n) (modulus_of k)))
    ∙ ap (λ r. reduced k (pos r)) (law m n (bits_of k) ∙ sym (λ i. f (bits_of_low k x i) (bits_of_low k y i)))

pub reduced-bits_and : (k : Kind) (x y : ℤ) →
    reduced k (pos (bit_and (residue 64 x) (residue 64 y))) ≡ reduced k (bitwise bit_and k (reduced k x) (reduced k y))
reduced-bits_and k x y = reduced-bitwise bit_and and_mod k x y

pub reduced-bits_or : (k : Kind) (x y : ℤ) →
    reduced k (pos (bit_or (residue 64 x) (residue 64 y))) ≡ reduced k (bitwise bit_or k (reduced k x) (reduced k y))
reduced-bits_or k x y = reduced-bitwise bit_or or_mod k x y

pub reduced-bits_xor : (k : Kind) (x y : ℤ) →
    reduced k (pos (bit_xor (residue 64 x) (residue 64 y))) ≡ reduced k (bitwise bit_xor k (reduced k x) (reduced k y))
reduced-bits_xor k x y = reduced-bitwise bit_xor xor_mod k x y

-- ---- shifts

pub reduced-bits_shl : (k : Kind) (x count : ℤ) (p : ℕ) → p ≡ places k count →
    reduced k (pos (residue 64 x * 2 ^ p % 2 ^ 64)) ≡ reduced k (shifted_left k (reduced k x) count)
reduced-bits_shl k x count p e =
    let r = residue 64 x in
    let wide : Same (2 ^ 64) (pos (r * 2 ^ p % 2 ^ 64)) (x *ℤ pos (2 ^ p)) = Same_trans (2 ^ 64) _ (pos (r * 2 ^ p)) _ (Same-mod (r * 2 ^ p) (2 ^ 64))
    (Same-mul (2 ^ 64) (pos r) x (pos (2 ^ p)) (pos (2 ^ p)) (residue-Same 64 x) (Same_refl (2 ^ 64) (pos (2 ^ p)))) in
    let narrow : Same (modulus_of k) (reduced k x *ℤ pos (2 ^ p)) (x *ℤ pos (2 ^ p)) =
    Same-mul (modulus_of k) (reduced k x) x (pos (2 ^ p)) (pos (2 ^ p)) (Same-reduced k x) (Same_refl (modulus_of k) (pos (2 ^ p))) in
    reduced-same k _ _ (Same_trans (modulus_of k) _ (x *ℤ pos (2 ^ p)) _ (Same-modulus k _ _ wide) (Same_sym (modulus_of k) _ _ narrow))
    ∙ ap (λ n. reduced k (reduced k x *ℤ pos (2 ^ n))) e

-- the count modulo the width, by a mask
pub places-mask : (k : Kind) (count : ℤ) → bit_and (residue 64 count) (bits_of k - 1) ≡ places k count
places-mask Char z = and_mask (residue 64 z) 3 ∙ sym (places-register Char Long z)
places-mask UnsignedChar z = and_mask (residue 64 z) 3 ∙ sym (places-register UnsignedChar Long z)
places-mask SignedChar z = and_mask (residue 64 z) 3 ∙ sym (places-register SignedChar Long z)
places-mask Short z = and_mask (residue 64 z) 4 ∙ sym (places-register Short Long z)
places-mask UnsignedShort z = and_mask (residue 64 z) 4 ∙ sym (places-register UnsignedShort Long z)
places-mask Int z = and_mask (residue 64 z) 5 ∙ sym (places-register Int Long z)
places-mask UnsignedInt z = and_mask (residue 64 z) 5 ∙ sym (places-register UnsignedInt Long z)
places-mask Long z = and_mask (residue 64 z) 6 ∙ sym (places-register Long Long z)
places-mask UnsignedLong z = and_mask (residue 64 z) 6 ∙ sym (places-register UnsignedLong Long z)

-- ---- quotients and remainders, by amounts and signs

pub reduced-with_sign : (k : Kind) (t : Bool) (n : ℕ) → n ≤ 2 ^ 64 →
    reduced k (pos (cond t ((2 ^ 64 - n) % 2 ^ 64) n)) ≡ reduced k (cond t (neg_ℤ (pos n)) (pos n))
reduced-with_sign k true n h = reduced-same k _ _ (Same-modulus k _ _ (Same-negative n h))
reduced-with_sign k false n h = refl

not_negative : (n : ℕ) → int_lt (pos n) (pos 0) ≡ false
not_negative n = grind (arith, nat_tests)

signed_quotient : (x y : ℤ) →
    cond (not (beq (int_lt x (pos 0)) (int_lt y (pos 0)))) (neg_ℤ (pos (unsigned_abs x / unsigned_abs y))) (pos (unsigned_abs x / unsigned_abs y)) ≡ int_div x y
signed_quotient (pos a) (pos b) = rw (not_negative a, not_negative b) refl
signed_quotient (pos a) (negsuc b) = rw (not_negative a) refl
signed_quotient (negsuc a) (pos b) = rw (not_negative b) refl
signed_quotient (negsuc a) (negsuc b) = refl

signed_remainder : (x y : ℤ) →
    cond (int_lt x (pos 0)) (neg_ℤ (pos (unsigned_abs x % unsigned_abs y))) (pos (unsigned_abs x % unsigned_abs y)) ≡ int_rem x y
signed_remainder (pos a) y = rw (not_negative a) refl
signed_remainder (negsuc a) y = refl

-- what a division by 0 gives, and a division by another number
pub reduced-quotient_zero : (k : Kind) (x y : ℤ) (z : Bool) → z ≡ is_zero y → z ≡ true → reduced k (pos (2 ^ 64 - 1)) ≡ reduced k (quotient x y)
reduced-quotient_zero k x y z e t =
    let ones : Same (2 ^ 64) (pos (2 ^ 64 - 1)) (negsuc 0) = record { more = 0; less = 1; sums = omega (arith, ints) } in
    reduced-same k _ _ (Same-modulus k _ _ ones) ∙ ap (λ b. reduced k (cond b (negsuc 0) (int_div x y))) (sym t ∙ e)

pub reduced-quotient : (k : Kind) (x y : ℤ) (a b r : ℕ) (s t z : Bool) → a < 2 ^ 64 →
    a ≡ unsigned_abs x → b ≡ unsigned_abs y → s ≡ int_lt x (pos 0) → t ≡ int_lt y (pos 0) → z ≡ is_zero y →
    z ≡ false → r ≡ cond (not (beq s t)) ((2 ^ 64 - a / b) % 2 ^ 64) (a / b) → reduced k (pos r) ≡ reduced k (quotient x y)
reduced-quotient k x y a b r s t z h p q u v e f is =
    let small = div-le_self a b in
    ap (λ n. reduced k (pos n)) is ∙ reduced-with_sign k (not (beq s t)) (a / b) (omega arith)
    ∙ (λ i. reduced k (cond (not (beq (u i) (v i))) (neg_ℤ (pos (p i / q i))) (pos (p i / q i))))
    ∙ ap (reduced k) (signed_quotient x y ∙ ap (λ c. cond c (negsuc 0) (int_div x y)) (sym f ∙ e))

pub reduced-remainder_zero : (k : Kind) (x y : ℤ) (z : Bool) → z ≡ is_zero y → z ≡ true → reduced k x ≡ reduced k (remainder (reduced k x) y)
reduced-remainder_zero k x y z e t = sym (reduced-reduced k x) ∙ ap (λ b. reduced k (cond b (reduced k x) (int_rem (reduced k x) y))) (sym t ∙ e)

pub reduced-remainder : (k : Kind) (x y : ℤ) (a b r : ℕ) (s z : Bool) → a < 2 ^ 64 →
    a ≡ unsigned_abs x → b ≡ unsigned_abs y → s ≡ int_lt x (pos 0) → z ≡ is_zero y → z ≡ false →
    r ≡ cond s ((2 ^ 64 - a % b) % 2 ^ 64) (a % b) → reduced k (pos r) ≡ reduced k (remainder x y)
reduced-remainder k x y a b r s z h p q u e f is =
    let small = mod-le a b in
    ap (λ n. reduced k (pos n)) is ∙ reduced-with_sign k s (a % b) (omega arith)
    ∙ (λ i. reduced k (cond (u i) (neg_ℤ (pos (p i % q i))) (pos (p i % q i))))
    ∙ ap (reduced k) (signed_remainder x y ∙ ap (λ c. cond c x (int_rem x y)) (sym f ∙ e))
