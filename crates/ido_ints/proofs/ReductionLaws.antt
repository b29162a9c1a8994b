-- Laws of reduction into a kind.
use Rattle.std.proofs.Common.{◌≡◌, refl, ℕ, ◌*◌, ◌^◌, ◌<◌, arith}
use Rattle.std.specs.Prelude.{ℤ, pos, ◌+ℤ◌, ◌-ℤ◌, ◌*ℤ◌, neg_ℤ, ◌≤ℤ◌, ◌<ℤ◌}
use Rattle.std.proofs.lemmas.Int.{ints}
use Rattle.ido_ints.specs.declared.kinds.Kind.{Kind}
use Rattle.ido_ints.specs.declared.kinds.Kind.TheVariants.{Char, UnsignedChar, SignedChar, Short, UnsignedShort, Int, UnsignedInt, Long, UnsignedLong}
use Rattle.ido_ints.specs.Kinds.{Holds, least_of, modulus_of}
use Rattle.ido_ints.specs.Reduction.{reduced}
use Rattle.ido_ints.proofs.Congruence.{Same, Same_refl, Same-add, Same-neg, Same-mul, Same-factor, InRange}
use Rattle.ido_ints.proofs.Congruence.{from_least_on-InRange, from_least_on-Same, from_least_on-is, from_least_on-same}

-- the modulus of each kind is a factor of 2 ^ 64
pub record Divides (n m : ℕ) : Type 0 where
  pub positive : 0 < n
  pub times : ℕ
  pub product : times * n ≡ m

pub modulus-Divides : (k : Kind) → Divides (modulus_of k) (2 ^ 64)
modulus-Divides Char = record { positive = omega arith; times = 2 ^ 56; product = refl }
modulus-Divides UnsignedChar = record { positive = omega arith; times = 2 ^ 56; product = refl }
modulus-Divides SignedChar = record { positive = omega arith; times = 2 ^ 56; product = refl }
modulus-Divides Short = record { positive = omega arith; times = 2 ^ 48; product = refl }
modulus-Divides UnsignedShort = record { positive = omega arith; times = 2 ^ 48; product = refl }
modulus-Divides Int = record { positive = omega arith; times = 2 ^ 32; product = refl }
modulus-Divides UnsignedInt = record { positive = omega arith; times = 2 ^ 32; product = refl }
modulus-Divides Long = record { positive = omega arith; times = 1; product = refl }
modulus-Divides UnsignedLong = record { positive = omega arith; times = 1; product = refl }

pub modulus_pos : (k : Kind) → 0 < modulus_of k
modulus_pos k = (modulus-Divides k).positive

in_range : (k : Kind) (z : ℤ) → Holds k z → InRange (least_of k) (modulus_of k) z
in_range k z h = record { low = h.from_least; high = h.to_greatest }

pub Holds-reduced : (k : Kind) (z : ℤ) → Holds k (reduced k z)
Holds-reduced k z =
    let r = from_least_on-InRange (least_of k) (modulus_of k) z (modulus_pos k) in
    record { from_least = r.low; to_greatest = r.high }

pub Same-reduced : (k : Kind) (z : ℤ) → Same (modulus_of k) (reduced k z) z
Same-reduced k z = from_least_on-Same (least_of k) (modulus_of k) z (modulus_pos k)

-- the only number of the range that differs from z by a multiple of the modulus
pub reduced-is : (k : Kind) (z r : ℤ) → Holds k r → Same (modulus_of k) r z → reduced k z ≡ r
reduced-is k z r h s = from_least_on-is (least_of k) z r (modulus_of k) (modulus_pos k) (in_range k r h) s

pub reduced-same : (k : Kind) (a b : ℤ) → Same (modulus_of k) a b → reduced k a ≡ reduced k b
reduced-same k a b s = from_least_on-same (least_of k) a b (modulus_of k) (modulus_pos k) s

-- reduction is the identity on the kind's range
pub reduced_held : (k : Kind) (z : ℤ) → Holds k z → reduced k z ≡ z
reduced_held k z h = reduced-is k z z h (Same_refl (modulus_of k) z)

pub reduced-reduced : (k : Kind) (z : ℤ) → reduced k (reduced k z) ≡ reduced k z
reduced-reduced k z = reduced_held k (reduced k z) (Holds-reduced k z)

-- to reduce the operands of a sum, a difference or a product on the way changes nothing
pub reduced-add : (k : Kind) (a b : ℤ) → reduced k (reduced k a +ℤ reduced k b) ≡ reduced k (a +ℤ b)
reduced-add k a b = reduced-same k _ _ (Same-add (modulus_of k) _ a _ b (Same-reduced k a) (Same-reduced k b))

pub reduced-neg : (k : Kind) (a : ℤ) → reduced k (neg_ℤ (reduced k a)) ≡ reduced k (neg_ℤ a)
reduced-neg k a = reduced-same k _ _ (Same-neg (modulus_of k) _ a (Same-reduced k a))

pub reduced-sub : (k : Kind) (a b : ℤ) → reduced k (reduced k a -ℤ reduced k b) ≡ reduced k (a -ℤ b)
reduced-sub k a b = reduced-same k _ _ (Same-add (modulus_of k) _ a _ (neg_ℤ b) (Same-reduced k a) (Same-neg (modulus_of k) _ b (Same-reduced k b)))

pub reduced-mul : (k : Kind) (a b : ℤ) → reduced k (reduced k a *ℤ reduced k b) ≡ reduced k (a *ℤ b)
reduced-mul k a b = reduced-same k _ _ (Same-mul (modulus_of k) _ a _ b (Same-reduced k a) (Same-reduced k b))

-- numbers that differ by a multiple of 2 ^ 64 differ by one of each kind's modulus
pub Same-modulus : (k : Kind) (a b : ℤ) → Same (2 ^ 64) a b → Same (modulus_of k) a b
Same-modulus k a b s =
    let d = modulus-Divides k in
    Same-factor (modulus_of k) d.times a b (rw d.product s)

-- 0 lies in the range of each kind
pub Holds-zero : (k : Kind) → Holds k (pos 0)
Holds-zero Char = record { from_least = omega (arith, ints); to_greatest = omega (arith, ints) }
Holds-zero UnsignedChar = record { from_least = omega (arith, ints); to_greatest = omega (arith, ints) }
Holds-zero SignedChar = record { from_least = omega (arith, ints); to_greatest = omega (arith, ints) }
Holds-zero Short = record { from_least = omega (arith, ints); to_greatest = omega (arith, ints) }
Holds-zero UnsignedShort = record { from_least = omega (arith, ints); to_greatest = omega (arith, ints) }
Holds-zero Int = record { from_least = omega (arith, ints); to_greatest = omega (arith, ints) }
Holds-zero UnsignedInt = record { from_least = omega (arith, ints); to_greatest = omega (arith, ints) }
Holds-zero Long = record { from_least = omega (arith, ints); to_greatest = omega (arith, ints) }
Holds-zero UnsignedLong = record { from_least = omega (arith, ints); to_greatest = omega (arith, ints) }

-- r is the number that z reduces to
pub record Is (k : Kind) (z r : ℤ) : Type 0 where
  pub value : r ≡ reduced k z
  pub held : Holds k r

-- every kind's numbers lie from -2 ^ 63 to 2 ^ 64 - 1
pub record Bounded (z : ℤ) : Type 0 where
  pub at_least : neg_ℤ (pos (2 ^ 63)) ≤ℤ z
  pub below : z <ℤ pos (2 ^ 64)

pub Holds-Bounded : (k : Kind) (z : ℤ) → Holds k z → Bounded z
Holds-Bounded Char z h = record { at_least = omega (arith, ints, h.from_least); below = omega (arith, ints, h.to_greatest) }
Holds-Bounded UnsignedChar z h = record { at_least = omega (arith, ints, h.from_least); below = omega (arith, ints, h.to_greatest) }
Holds-Bounded SignedChar z h = record { at_least = omega (arith, ints, h.from_least); below = omega (arith, ints, h.to_greatest) }
Holds-Bounded Short z h = record { at_least = omega (arith, ints, h.from_least); below = omega (arith, ints, h.to_greatest) }
Holds-Bounded UnsignedShort z h = record { at_least = omega (arith, ints, h.from_least); below = omega (arith, ints, h.to_greatest) }
Holds-Bounded Int z h = record { at_least = omega (arith, ints, h.from_least); below = omega (arith, ints, h.to_greatest) }
Holds-Bounded UnsignedInt z h = record { at_least = omega (arith, ints, h.from_least); below = omega (arith, ints, h.to_greatest) }
Holds-Bounded Long z h = record { at_least = omega (arith, ints, h.from_least); below = omega (arith, ints, h.to_greatest) }
Holds-Bounded UnsignedLong z h = record { at_least = omega (arith, ints, h.from_least); below = omega (arith, ints, h.to_greatest) }
