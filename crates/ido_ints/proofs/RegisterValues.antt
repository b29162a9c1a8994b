-- What a register form says of the number: its low bits, its order, and a count of places.
use Rattle.std.proofs.Common.{◌≡◌, refl, ℕ, ◌+◌, ◌-◌, ◌%◌, ◌^◌, ◌<◌, ◌≤◌, sym, ◌∙◌, arith, Bool, true, false, cond, inl, inr}
use Rattle.std.specs.Prelude.{ℤ, pos, nat_lt, ◌⊎◌}
use Rattle.std.proofs.Math.Nat.{mod-eq_of_lt}
use Rattle.std.proofs.lemmas.Int.{ints}
use Rattle.std.proofs.lemmas.Bool.{false≢true}
use Rattle.std.proofs.lemmas.Bool.Decides.{same_from_decides, Decides-like, Decides-ltb}
use borrow.Author.Tests.{ltb-true, ltb-false}
use Rattle.ido_ints.specs.declared.kinds.Kind.{Kind}
use Rattle.ido_ints.specs.declared.kinds.Kind.TheVariants.{Char, UnsignedChar, SignedChar, Short, UnsignedShort, Int, UnsignedInt, Long, UnsignedLong}
use Rattle.ido_ints.specs.Kinds.{Holds, bits_of, is_signed, modulus_of}
use Rattle.ido_ints.specs.Operators.{places}
use Rattle.ido_ints.specs.Reduction.{residue, register_of}
use Rattle.ido_ints.specs.links.Signs.{sign_extended}
use Rattle.ido_ints.proofs.Congruence.{Same, Same_refl, Same-factor, rem_euclid-mod}
use Rattle.ido_ints.proofs.ReductionLaws.{Divides, modulus_pos, Holds-zero}
use Rattle.ido_ints.proofs.Registers.{residue-is, register-Same, sign_extended-is}

-- ---- low bits

-- the low bits of the register form of a number that is at least 0 are the number
pub register-mod : (k : Kind) (n : ℕ) → Holds k (pos n) → register_of k (pos n) % modulus_of k ≡ n
register-mod k n h =
    let zero = Holds-zero k in
    let positive = modulus_pos k in
    let small : n < modulus_of k = omega (arith, ints, h.to_greatest, zero.from_least) in
    sym (rem_euclid-mod (pos n) (register_of k (pos n)) (modulus_of k) (modulus_pos k) (register-Same k (pos n))) ∙ mod-eq_of_lt small

-- at an unsigned kind but `unsigned int`, the register form is the number
natural : (n : ℕ) → n < 2 ^ 64 → residue 64 (pos n) ≡ n
natural n h = residue-is 64 (pos n) n h (Same_refl (2 ^ 64) (pos n))

pub register-unsigned_int : (n : ℕ) → register_of UnsignedInt (pos n) ≡ sign_extended n
register-unsigned_int n = sym (sign_extended-is n (pos n) (Same_refl (2 ^ 32) (pos n)))

-- ---- order, as an unsigned 64-bit comparison has it

-- the two cases of a sign extension
pub sign_extended-cases : (n : ℕ) → n < 2 ^ 32 → ((sign_extended n ≡ n) × (n < 2 ^ 31)) ⊎ ((sign_extended n ≡ n + (2 ^ 64 - 2 ^ 32)) × (2 ^ 31 ≤ n))
sign_extended-cases n h = by (n % 2 ^ 32) (mod-eq_of_lt h) (nat_lt (n % 2 ^ 32) (2 ^ 31)) refl
  where
    by : (m : ℕ) → m ≡ n → (t : Bool) → nat_lt m (2 ^ 31) ≡ t →
        ((cond t m (m + (2 ^ 64 - 2 ^ 32)) ≡ n) × (n < 2 ^ 31)) ⊎ ((cond t m (m + (2 ^ 64 - 2 ^ 32)) ≡ n + (2 ^ 64 - 2 ^ 32)) × (2 ^ 31 ≤ n))
    by m is true e = inl (is, omega (arith, ltb-true _ _ e))
    by m is false e = inr (omega arith, omega (arith, ltb-false _ _ e))

same_lt : (a b m n : ℕ) → (a < b → m < n) → (m < n → a < b) → nat_lt a b ≡ nat_lt m n
same_lt a b m n to from = same_from_decides (nat_lt a b) (nat_lt m n) (Decides-like (nat_lt a b) to from (Decides-ltb a b)) (Decides-ltb m n)

-- sign extension keeps the order of natural numbers
pub sign_extended-lt : (m n : ℕ) → m < 2 ^ 32 → n < 2 ^ 32 → nat_lt (sign_extended m) (sign_extended n) ≡ nat_lt m n
sign_extended-lt m n h k = by (sign_extended m) (sign_extended n) (sign_extended-cases m h) (sign_extended-cases n k)
  where
    by : (a b : ℕ) → ((a ≡ m) × (m < 2 ^ 31)) ⊎ ((a ≡ m + (2 ^ 64 - 2 ^ 32)) × (2 ^ 31 ≤ m)) →
        ((b ≡ n) × (n < 2 ^ 31)) ⊎ ((b ≡ n + (2 ^ 64 - 2 ^ 32)) × (2 ^ 31 ≤ n)) → nat_lt a b ≡ nat_lt m n
    by a b (inl p) (inl q) = same_lt a b m n (λ l. omega arith) (λ l. omega arith)
    by a b (inl p) (inr q) = same_lt a b m n (λ l. omega arith) (λ l. omega arith)
    by a b (inr p) (inl q) = same_lt a b m n (λ l. omega arith) (λ l. omega arith)
    by a b (inr p) (inr q) = same_lt a b m n (λ l. omega arith) (λ l. omega arith)

-- the register forms of an unsigned kind's numbers have their order
pub register-lt : (k : Kind) → is_signed k ≡ false → (m n : ℕ) → Holds k (pos m) → Holds k (pos n) →
    nat_lt (register_of k (pos m)) (register_of k (pos n)) ≡ nat_lt m n
register-lt Char s m n h l = λ i. nat_lt (natural m (omega (arith, ints, h.to_greatest)) i) (natural n (omega (arith, ints, l.to_greatest)) i)
register-lt UnsignedChar s m n h l = λ i. nat_lt (natural m (omega (arith, ints, h.to_greatest)) i) (natural n (omega (arith, ints, l.to_greatest)) i)
register-lt SignedChar s m n h l = absurd (false≢true (sym s))
register-lt Short s m n h l = absurd (false≢true (sym s))
register-lt UnsignedShort s m n h l = λ i. nat_lt (natural m (omega (arith, ints, h.to_greatest)) i) (natural n (omega (arith, ints, l.to_greatest)) i)
register-lt Int s m n h l = absurd (false≢true (sym s))
register-lt UnsignedInt s m n h l =
    (λ i. nat_lt (register-unsigned_int m i) (register-unsigned_int n i))
    ∙ sign_extended-lt m n (omega (arith, ints, h.to_greatest)) (omega (arith, ints, l.to_greatest))
register-lt Long s m n h l = absurd (false≢true (sym s))
register-lt UnsignedLong s m n h l = λ i. nat_lt (natural m (omega (arith, ints, h.to_greatest)) i) (natural n (omega (arith, ints, l.to_greatest)) i)

-- ---- counts of places

-- each width is a factor of 64, and 64 of each modulus
width-Divides : (k : Kind) → Divides (bits_of k) 64
width-Divides Char = record { positive = omega arith; times = 8; product = refl }
width-Divides UnsignedChar = record { positive = omega arith; times = 8; product = refl }
width-Divides SignedChar = record { positive = omega arith; times = 8; product = refl }
width-Divides Short = record { positive = omega arith; times = 4; product = refl }
width-Divides UnsignedShort = record { positive = omega arith; times = 4; product = refl }
width-Divides Int = record { positive = omega arith; times = 2; product = refl }
width-Divides UnsignedInt = record { positive = omega arith; times = 2; product = refl }
width-Divides Long = record { positive = omega arith; times = 1; product = refl }
width-Divides UnsignedLong = record { positive = omega arith; times = 1; product = refl }

divided_modulus : (k : Kind) → Divides 64 (modulus_of k)
divided_modulus Char = record { positive = omega arith; times = 2 ^ 2; product = refl }
divided_modulus UnsignedChar = record { positive = omega arith; times = 2 ^ 2; product = refl }
divided_modulus SignedChar = record { positive = omega arith; times = 2 ^ 2; product = refl }
divided_modulus Short = record { positive = omega arith; times = 2 ^ 10; product = refl }
divided_modulus UnsignedShort = record { positive = omega arith; times = 2 ^ 10; product = refl }
divided_modulus Int = record { positive = omega arith; times = 2 ^ 26; product = refl }
divided_modulus UnsignedInt = record { positive = omega arith; times = 2 ^ 26; product = refl }
divided_modulus Long = record { positive = omega arith; times = 2 ^ 58; product = refl }
divided_modulus UnsignedLong = record { positive = omega arith; times = 2 ^ 58; product = refl }

-- by how many places a count of any kind shifts, from its register form
pub places-register : (c k : Kind) (b : ℤ) → places c b ≡ register_of k b % bits_of c
places-register c k b =
    let m = divided_modulus k in
    let w = width-Divides c in
    let by_64 : Same 64 (pos (register_of k b)) b = Same-factor 64 m.times _ _ (rw m.product (register-Same k b)) in
    let by_width : Same (bits_of c) (pos (register_of k b)) b = Same-factor (bits_of c) w.times _ _ (rw w.product by_64) in
    rem_euclid-mod b (register_of k b) (bits_of c) w.positive by_width
