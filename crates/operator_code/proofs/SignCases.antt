-- Numbers of a kind by their signs, and the signs of residues.
use Rattle.std.proofs.Common.{◌≡◌, refl, ℕ, suc, ◌+◌, ◌-◌, ◌^◌, ◌<◌, ◌≤◌, ap, sym, ◌∙◌, subst, arith, Bool, true, false, cond}
use Rattle.std.specs.Prelude.{ℤ, pos, negsuc, neg_ℤ, ◌≤ℤ◌, ◌<ℤ◌, nat_le, ◌==◌, unsigned_abs}
use Rattle.std.proofs.lemmas.Int.{ints}
use Rattle.std.proofs.lemmas.Bool.{false≢true}
use Rattle.std.proofs.lemmas.Bool.Decides.{nat_tests, same_from_decides, Decides-like, Decides-int_eq, Decides-eqb}
use Rattle.ido_ints.specs.declared.kinds.Kind.{Kind}
use Rattle.ido_ints.specs.declared.kinds.Kind.TheVariants.{Char, UnsignedChar, SignedChar, Short, UnsignedShort, Int, UnsignedInt, Long, UnsignedLong}
use Rattle.ido_ints.specs.Kinds.{Holds, bits_of, is_signed}
use Rattle.ido_ints.specs.Operators.{is_zero}
use Rattle.ido_ints.specs.Reduction.{residue}
use Rattle.rv64_isa.specs.Arithmetic.{is_negative, magnitude}
use Rattle.operator_code.proofs.Residues.{residue_pos, residue_negsuc}

-- h is half of the numbers of w bits
pub record Halves (w h : ℕ) : Type 0 where
  pub whole : 2 ^ w ≡ h + h
  pub half : 2 ^ (w - 1) ≡ h
  pub some : 0 < h

pub halves_64 : Halves 64 (2 ^ 63)
halves_64 = record { whole = refl; half = refl; some = omega arith }

pub halves_32 : Halves 32 (2 ^ 31)
halves_32 = record { whole = refl; half = refl; some = omega arith }

-- from -h to h - 1
pub record InHalf (h : ℕ) (z : ℤ) : Type 0 where
  pub least : neg_ℤ (pos h) ≤ℤ z
  pub greatest : z <ℤ pos h

pub in_half : (c : Kind) → is_signed c ≡ true → (z : ℤ) → Holds c z → InHalf (2 ^ (bits_of c - 1)) z
in_half SignedChar s z h = record { least = h.from_least; greatest = omega (arith, ints, h.to_greatest) }
in_half Short s z h = record { least = h.from_least; greatest = omega (arith, ints, h.to_greatest) }
in_half Int s z h = record { least = h.from_least; greatest = omega (arith, ints, h.to_greatest) }
in_half Long s z h = record { least = h.from_least; greatest = omega (arith, ints, h.to_greatest) }
in_half Char s z h = absurd (false≢true s)
in_half UnsignedChar s z h = absurd (false≢true s)
in_half UnsignedShort s z h = absurd (false≢true s)
in_half UnsignedInt s z h = absurd (false≢true s)
in_half UnsignedLong s z h = absurd (false≢true s)

pub in_half_of : (w : ℕ) (c : Kind) → bits_of c ≡ w → is_signed c ≡ true → (z : ℤ) → Holds c z → InHalf (2 ^ (w - 1)) z
in_half_of w c e s z h = subst (λ (n : ℕ). InHalf (2 ^ (n - 1)) z) e (in_half c s z h)

-- a number of an unsigned kind is a natural number of its width
pub record IsNatural (w : ℕ) (z : ℤ) : Type 0 where
  pub number : ℕ
  pub small : number < 2 ^ w
  pub is : z ≡ pos number

natural : (c : Kind) → is_signed c ≡ false → (z : ℤ) → Holds c z → IsNatural (bits_of c) z
natural Char s (pos n) h = record { number = n; small = omega (arith, ints, h.to_greatest); is = refl }
natural UnsignedChar s (pos n) h = record { number = n; small = omega (arith, ints, h.to_greatest); is = refl }
natural UnsignedShort s (pos n) h = record { number = n; small = omega (arith, ints, h.to_greatest); is = refl }
natural UnsignedInt s (pos n) h = record { number = n; small = omega (arith, ints, h.to_greatest); is = refl }
natural UnsignedLong s (pos n) h = record { number = n; small = omega (arith, ints, h.to_greatest); is = refl }
natural Char s (negsuc n) h = absurd (omega (arith, ints, h.from_least))
natural UnsignedChar s (negsuc n) h = absurd (omega (arith, ints, h.from_least))
natural UnsignedShort s (negsuc n) h = absurd (omega (arith, ints, h.from_least))
natural UnsignedInt s (negsuc n) h = absurd (omega (arith, ints, h.from_least))
natural UnsignedLong s (negsuc n) h = absurd (omega (arith, ints, h.from_least))
natural SignedChar s z h = absurd (false≢true (sym s))
natural Short s z h = absurd (false≢true (sym s))
natural Int s z h = absurd (false≢true (sym s))
natural Long s z h = absurd (false≢true (sym s))

pub natural_of : (w : ℕ) (c : Kind) → bits_of c ≡ w → is_signed c ≡ false → (z : ℤ) → Holds c z → IsNatural w z
natural_of w c e s z h = subst (λ (n : ℕ). IsNatural n z) e (natural c s z h)

-- ---- Signs and amounts

abbrev pub is_minus : ℤ → Bool
is_minus (pos n) = false
is_minus (negsuc n) = true

pub negative_is : (w h : ℕ) (z : ℤ) → Halves w h → InHalf h z → is_negative w (residue w z) ≡ is_minus z
negative_is w h (pos n) g k =
    let small : n < h = omega (arith, ints, k.greatest) in
    let fits : n < 2 ^ w = omega (arith, small, g.whole) in
    (λ i. nat_le (g.half i) (residue_pos w n fits i)) ∙ grind (arith, nat_tests)
negative_is w h (negsuc n) g k =
    let small : suc n ≤ h = omega (arith, ints, k.least) in
    let fits : suc n ≤ 2 ^ w = omega (arith, small, g.whole) in
    let big : h ≤ 2 ^ w - suc n = omega (arith, small, g.whole) in
    (λ i. nat_le (g.half i) (residue_negsuc w n fits i)) ∙ grind (arith, nat_tests)

pub magnitude_is : (w h : ℕ) (z : ℤ) → Halves w h → InHalf h z → magnitude w (residue w z) ≡ unsigned_abs z
magnitude_is w h (pos n) g k =
    let small : n < h = omega (arith, ints, k.greatest) in
    let fits : n < 2 ^ w = omega (arith, small, g.whole) in
    ap (λ (b : Bool). cond b (2 ^ w - residue w (pos n)) (residue w (pos n))) (negative_is w h (pos n) g k) ∙ residue_pos w n fits
magnitude_is w h (negsuc n) g k =
    let small : suc n ≤ h = omega (arith, ints, k.least) in
    let fits : suc n ≤ 2 ^ w = omega (arith, small, g.whole) in
    ap (λ (b : Bool). cond b (2 ^ w - residue w (negsuc n)) (residue w (negsuc n))) (negative_is w h (negsuc n) g k) ∙
    ap (λ (m : ℕ). 2 ^ w - m) (residue_negsuc w n fits) ∙ omega (arith, fits)

-- a number is 0 just where its residue is
pub zero_residue : (w h : ℕ) (z : ℤ) → Halves w h → InHalf h z → (residue w z == 0) ≡ is_zero z
zero_residue w h z g k = same_from_decides (residue w z == 0) (is_zero z)
    (Decides-like (residue w z == 0) (to z k) (λ e. ap (residue w) e ∙ residue_pos w 0 (omega (arith, g.whole, g.some))) (Decides-eqb (residue w z) 0))
    (Decides-int_eq z (pos 0))
  where
    to : (y : ℤ) → InHalf h y → residue w y ≡ 0 → y ≡ pos 0
    to (pos n) k e =
        let fits : n < 2 ^ w = omega (arith, ints, k.greatest, g.whole) in
        ap pos (sym (residue_pos w n fits) ∙ e)
    to (negsuc n) k e =
        let fits : suc n ≤ 2 ^ w = omega (arith, ints, k.least, g.whole) in
        let is : residue w (negsuc n) ≡ 2 ^ w - suc n = residue_negsuc w n fits in
        absurd (omega (arith, ints, k.least, g.whole, g.some, is, e))

pub zero_natural : (n : ℕ) → (n == 0) ≡ is_zero (pos n)
zero_natural n = same_from_decides (n == 0) (is_zero (pos n))
    (Decides-like (n == 0) (λ e. ap pos e) (λ e. ap unsigned_abs e) (Decides-eqb n 0))
    (Decides-int_eq (pos n) (pos 0))
