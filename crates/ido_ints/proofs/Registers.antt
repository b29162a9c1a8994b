-- Laws of register forms.
use Rattle.std.proofs.Common.{◌≡◌, refl, ℕ, ◌+◌, ◌-◌, ◌*◌, ◌%◌, ◌^◌, ◌<◌, ◌≤◌, sym, ◌∙◌, ap, subst, arith, Bool, true, false, cond}
use Rattle.std.specs.Prelude.{ℤ, pos, ◌+ℤ◌, ◌-ℤ◌, ◌*ℤ◌, neg_ℤ, unsigned_abs, nat_lt}
use Rattle.std.proofs.Math.Nat.{mod-lt}
use Rattle.std.proofs.lemmas.Nat.{pow_pos}
use Rattle.std.proofs.lemmas.Int.{ints}
use borrow.Author.Tests.{ltb-true, ltb-false}
use Rattle.ido_ints.specs.declared.kinds.Kind.{Kind}
use Rattle.ido_ints.specs.declared.kinds.Kind.TheVariants.{Char, UnsignedChar, SignedChar, Short, UnsignedShort, Int, UnsignedInt, Long, UnsignedLong}
use Rattle.ido_ints.specs.Kinds.{Holds, bits_of, modulus_of}
use Rattle.ido_ints.specs.Reduction.{reduced, residue, register_of}
use Rattle.ido_ints.specs.links.Signs.{sign_extended}
use Rattle.ido_ints.proofs.Congruence.{Same, Same_refl, Same_sym, Same_trans, Same-add, Same-neg}
use Rattle.ido_ints.proofs.Congruence.{Same-mul, Same-factor, Same-mod, InRange, InRange_unique, split}
use Rattle.ido_ints.proofs.ReductionLaws.{Same-reduced, Same-modulus, reduced-is, reduced-same}

-- ---- residues modulo 2 ^ w

pub residue_below : (w : ℕ) (z : ℤ) → residue w z < 2 ^ w
unfolding residue
residue_below w z = let s = split z (2 ^ w) (pow_pos w) in rw s.rest_is s.below

pub residue-Same : (w : ℕ) (z : ℤ) → Same (2 ^ w) (pos (residue w z)) z
unfolding residue
residue-Same w z = let s = split z (2 ^ w) (pow_pos w) in rw s.rest_is s.same

-- the only number below 2 ^ w that differs from z by a multiple of 2 ^ w
pub residue-is : (w : ℕ) (z : ℤ) (n : ℕ) → n < 2 ^ w → Same (2 ^ w) (pos n) z → residue w z ≡ n
residue-is w z n h s =
    let below = residue_below w z in
    let in_range : (m : ℕ) → m < 2 ^ w → InRange (pos 0) (2 ^ w) (pos m) = λ m l. record { low = omega (arith, ints); high = omega (arith, ints) } in
    let same = InRange_unique (pos 0) (pos (residue w z)) (pos n) (2 ^ w) (pow_pos w) (in_range (residue w z) below) (in_range n h)
    (Same_trans (2 ^ w) _ z _ (residue-Same w z) (Same_sym (2 ^ w) _ z s)) in
    ap unsigned_abs same

pub residue-same : (w : ℕ) (a b : ℤ) → Same (2 ^ w) a b → residue w a ≡ residue w b
residue-same w a b s = residue-is w a (residue w b) (residue_below w b) (Same_trans (2 ^ w) _ b a (residue-Same w b) (Same_sym (2 ^ w) a b s))

pub residue-mod : (w : ℕ) (z : ℤ) (n : ℕ) → Same (2 ^ w) (pos n) z → residue w z ≡ n % 2 ^ w
residue-mod w z n s = residue-is w z (n % 2 ^ w) (mod-lt n (pow_pos w)) (Same_trans (2 ^ w) _ (pos n) z (Same-mod n (2 ^ w)) s)

-- residues of a sum, a difference and a product
pub residue-add : (w : ℕ) (a b : ℤ) → residue w (a +ℤ b) ≡ (residue w a + residue w b) % 2 ^ w
residue-add w a b = residue-mod w (a +ℤ b) _ (Same-add (2 ^ w) _ a _ b (residue-Same w a) (residue-Same w b))

pub residue-mul : (w : ℕ) (a b : ℤ) → residue w (a *ℤ b) ≡ (residue w a * residue w b) % 2 ^ w
residue-mul w a b = residue-mod w (a *ℤ b) _ (Same-mul (2 ^ w) _ a _ b (residue-Same w a) (residue-Same w b))

-- the difference of m and n modulo 2 ^ w, for an n of at most 2 ^ w
pub Same-minus : (m n p : ℕ) → n ≤ p → Same p (pos (m + (p - n))) (pos m -ℤ pos n)
Same-minus m n p h = record { more = 0; less = 1; sums = omega (arith, ints) }

pub residue-sub : (w : ℕ) (a b : ℤ) → residue w (a -ℤ b) ≡ (residue w a + (2 ^ w - residue w b)) % 2 ^ w
residue-sub w a b =
    let below = residue_below w b in
    residue-mod w (a -ℤ b) _ (Same_trans (2 ^ w) _ (pos (residue w a) -ℤ pos (residue w b)) _ (Same-minus _ _ (2 ^ w) (omega arith))
    (Same-add (2 ^ w) _ a _ (neg_ℤ b) (residue-Same w a) (Same-neg (2 ^ w) _ b (residue-Same w b))))

-- ---- register forms

pub register_below : (k : Kind) (z : ℤ) → register_of k z < 2 ^ 64
register_below Char z = residue_below 64 z
register_below UnsignedChar z = residue_below 64 z
register_below SignedChar z = residue_below 64 z
register_below Short z = residue_below 64 z
register_below UnsignedShort z = residue_below 64 z
register_below Int z = residue_below 64 z
register_below UnsignedInt z = residue_below 64 (reduced Int z)
register_below Long z = residue_below 64 z
register_below UnsignedLong z = residue_below 64 z

narrow : (k : Kind) (z : ℤ) → Same (modulus_of k) (pos (residue 64 z)) z
narrow k z = Same-modulus k _ z (residue-Same 64 z)

-- a register form differs from the number by a multiple of the kind's modulus
pub register-Same : (k : Kind) (z : ℤ) → Same (modulus_of k) (pos (register_of k z)) z
register-Same Char z = narrow Char z
register-Same UnsignedChar z = narrow UnsignedChar z
register-Same SignedChar z = narrow SignedChar z
register-Same Short z = narrow Short z
register-Same UnsignedShort z = narrow UnsignedShort z
register-Same Int z = narrow Int z
register-Same UnsignedInt z = Same_trans (2 ^ 32) _ (reduced Int z) z (narrow UnsignedInt (reduced Int z)) (Same-reduced Int z)
register-Same Long z = narrow Long z
register-Same UnsignedLong z = narrow UnsignedLong z

-- a kind's number is its register form, reduced
pub reduced-register : (k : Kind) (z : ℤ) → Holds k z → reduced k (pos (register_of k z)) ≡ z
reduced-register k z h = reduced-is k _ z h (Same_sym (modulus_of k) _ z (register-Same k z))

-- no two numbers of a kind have one register form
pub register_injective : (k : Kind) (a b : ℤ) → Holds k a → Holds k b → register_of k a ≡ register_of k b → a ≡ b
register_injective k a b h l e = sym (reduced-register k a h) ∙ ap (λ n. reduced k (pos n)) e ∙ reduced-register k b l

-- ---- what a 64-bit instruction does, on the register forms of `long` and `unsigned long`

pub register-64 : (k : Kind) → bits_of k ≡ 64 → (z : ℤ) → register_of k z ≡ residue 64 z
register-64 Char b z = absurd (omega arith)
register-64 UnsignedChar b z = absurd (omega arith)
register-64 SignedChar b z = absurd (omega arith)
register-64 Short b z = absurd (omega arith)
register-64 UnsignedShort b z = absurd (omega arith)
register-64 Int b z = absurd (omega arith)
register-64 UnsignedInt b z = absurd (omega arith)
register-64 Long b z = refl
register-64 UnsignedLong b z = refl

pub register-reduced_64 : (k : Kind) → bits_of k ≡ 64 → (z : ℤ) → register_of k (reduced k z) ≡ residue 64 z
register-reduced_64 k b z =
    let P : ℕ → Type 0 = λ n. Same (2 ^ n) (reduced k z) z in
    register-64 k b (reduced k z) ∙ residue-same 64 (reduced k z) z (subst P b (Same-reduced k z))

pub register-add_64 : (k : Kind) → bits_of k ≡ 64 → (a b : ℤ) → register_of k (reduced k (a +ℤ b)) ≡ (register_of k a + register_of k b) % 2 ^ 64
register-add_64 k w a b = register-reduced_64 k w (a +ℤ b) ∙ residue-add 64 a b ∙ sym (λ i. (register-64 k w a i + register-64 k w b i) % 2 ^ 64)

pub register-sub_64 : (k : Kind) → bits_of k ≡ 64 → (a b : ℤ) → register_of k (reduced k (a -ℤ b)) ≡ (register_of k a + (2 ^ 64 - register_of k b)) % 2 ^ 64
register-sub_64 k w a b = register-reduced_64 k w (a -ℤ b) ∙ residue-sub 64 a b ∙ sym (λ i. (register-64 k w a i + (2 ^ 64 - register-64 k w b i)) % 2 ^ 64)

pub register-mul_64 : (k : Kind) → bits_of k ≡ 64 → (a b : ℤ) → register_of k (reduced k (a *ℤ b)) ≡ (register_of k a * register_of k b) % 2 ^ 64
register-mul_64 k w a b = register-reduced_64 k w (a *ℤ b) ∙ residue-mul 64 a b ∙ sym (λ i. (register-64 k w a i * register-64 k w b i) % 2 ^ 64)

-- a product by a natural number, as a shift left makes it of 2 ^ p
pub register-scale_64 : (k : Kind) → bits_of k ≡ 64 → (a : ℤ) (n : ℕ) → register_of k (reduced k (a *ℤ pos n)) ≡ (register_of k a * n) % 2 ^ 64
register-scale_64 k w a n =
    register-reduced_64 k w (a *ℤ pos n) ∙ residue-mod 64 (a *ℤ pos n) _ (Same-mul (2 ^ 64) _ a _ (pos n) (residue-Same 64 a) (Same_refl (2 ^ 64) (pos n)))
    ∙ sym (λ i. (register-64 k w a i * n) % 2 ^ 64)

-- ---- what a W instruction does, on the register forms of `int` and `unsigned int`

low_is : (m : ℕ) (z : ℤ) → m < 2 ^ 31 → Same (2 ^ 32) (pos m) z → m ≡ residue 64 (reduced Int z)
low_is m z h s =
    let held : Holds Int (pos m) = record { from_least = omega (arith, ints); to_greatest = omega (arith, ints) } in
    sym (ap (residue 64) (reduced-is Int z (pos m) held s) ∙ residue-is 64 (pos m) m (omega arith) (Same_refl (2 ^ 64) (pos m)))

high_is : (m : ℕ) (z : ℤ) → 2 ^ 31 ≤ m → m < 2 ^ 32 → Same (2 ^ 32) (pos m) z → m + (2 ^ 64 - 2 ^ 32) ≡ residue 64 (reduced Int z)
high_is m z h k s =
    let y = pos m -ℤ pos (2 ^ 32) in
    let held : Holds Int y = record { from_least = omega (arith, ints); to_greatest = omega (arith, ints) } in
    let back : Same (2 ^ 32) y (pos m) = record { more = 1; less = 0; sums = omega (arith, ints) } in
    let far : Same (2 ^ 64) (pos (m + (2 ^ 64 - 2 ^ 32))) y = record { more = 0; less = 1; sums = omega (arith, ints) } in
    sym (ap (residue 64) (reduced-is Int z y held (Same_trans (2 ^ 32) y _ z back s)) ∙ residue-is 64 y _ (omega arith) far)

-- the low 32 bits of n, sign-extended, hold the `int` that n reduces to
pub sign_extended-is : (n : ℕ) (z : ℤ) → Same (2 ^ 32) (pos n) z → sign_extended n ≡ residue 64 (reduced Int z)
sign_extended-is n z s = by (mod-lt n (omega arith)) (Same_trans (2 ^ 32) _ (pos n) z (Same-mod n (2 ^ 32)) s) (nat_lt (n % 2 ^ 32) (2 ^ 31)) refl
  where
    by : n % 2 ^ 32 < 2 ^ 32 → Same (2 ^ 32) (pos (n % 2 ^ 32)) z → (t : Bool) → nat_lt (n % 2 ^ 32) (2 ^ 31) ≡ t →
        cond t (n % 2 ^ 32) (n % 2 ^ 32 + (2 ^ 64 - 2 ^ 32)) ≡ residue 64 (reduced Int z)
    by below same true e = low_is (n % 2 ^ 32) z (ltb-true _ _ e) same
    by below same false e = high_is (n % 2 ^ 32) z (ltb-false _ _ e) below same

pub register-reduced_32 : (k : Kind) → bits_of k ≡ 32 → (z : ℤ) → register_of k (reduced k z) ≡ residue 64 (reduced Int z)
register-reduced_32 Char b z = absurd (omega arith)
register-reduced_32 UnsignedChar b z = absurd (omega arith)
register-reduced_32 SignedChar b z = absurd (omega arith)
register-reduced_32 Short b z = absurd (omega arith)
register-reduced_32 UnsignedShort b z = absurd (omega arith)
register-reduced_32 Int b z = refl
register-reduced_32 UnsignedInt b z = ap (residue 64) (reduced-same Int _ z (Same-reduced UnsignedInt z))
register-reduced_32 Long b z = absurd (omega arith)
register-reduced_32 UnsignedLong b z = absurd (omega arith)

low : (k : Kind) → bits_of k ≡ 32 → (z : ℤ) → Same (2 ^ 32) (pos (register_of k z)) z
low k b z = let P : ℕ → Type 0 = λ n. Same (2 ^ n) (pos (register_of k z)) z in subst P b (register-Same k z)

pub register-add_32 : (k : Kind) → bits_of k ≡ 32 → (a b : ℤ) → register_of k (reduced k (a +ℤ b)) ≡ sign_extended (register_of k a + register_of k b)
register-add_32 k w a b = register-reduced_32 k w (a +ℤ b) ∙ sym (sign_extended-is _ (a +ℤ b) (Same-add (2 ^ 32) _ a _ b (low k w a) (low k w b)))

pub register-sub_32 : (k : Kind) → bits_of k ≡ 32 → (a b : ℤ) →
    register_of k (reduced k (a -ℤ b)) ≡ sign_extended (register_of k a + (2 ^ 64 - register_of k b))
register-sub_32 k w a b =
    let below = register_below k b in
    let minus = Same-factor (2 ^ 32) (2 ^ 32) _ _ (Same-minus (register_of k a) (register_of k b) (2 ^ 64) (omega arith)) in
    register-reduced_32 k w (a -ℤ b)
    ∙ sym (sign_extended-is _ (a -ℤ b) (Same_trans (2 ^ 32) _ _ _ minus (Same-add (2 ^ 32) _ a _ (neg_ℤ b) (low k w a) (Same-neg (2 ^ 32) _ b (low k w b)))))

pub register-mul_32 : (k : Kind) → bits_of k ≡ 32 → (a b : ℤ) → register_of k (reduced k (a *ℤ b)) ≡ sign_extended (register_of k a * register_of k b)
register-mul_32 k w a b = register-reduced_32 k w (a *ℤ b) ∙ sym (sign_extended-is _ (a *ℤ b) (Same-mul (2 ^ 32) _ a _ b (low k w a) (low k w b)))

pub register-scale_32 : (k : Kind) → bits_of k ≡ 32 → (a : ℤ) (n : ℕ) → register_of k (reduced k (a *ℤ pos n)) ≡ sign_extended (register_of k a * n)
register-scale_32 k w a n =
    register-reduced_32 k w (a *ℤ pos n) ∙ sym (sign_extended-is _ (a *ℤ pos n) (Same-mul (2 ^ 32) _ a _ (pos n) (low k w a) (Same_refl (2 ^ 32) (pos n))))
