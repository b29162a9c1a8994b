-- What the code computes on 128 bits is exact.
use Rattle.std.proofs.Common.{◌≡◌, arith}
use Rattle.std.specs.Prelude.{ℤ, pos, ◌+ℤ◌, ◌-ℤ◌, neg_ℤ, ◌<ℤ◌, int_div}
use Rattle.std.specs.Int.{w128, cast_signed, cast_unsigned}
use Rattle.std.proofs.lemmas.Int.{ints, to_z-of_z, quot_is, quot_fits}
use Rattle.ido_ints.proofs.Public.{Bounded-fits, Bounded}

pub bounded_exact : (a : ℤ) → Bounded a → cast_signed w128 (cast_unsigned w128 a) ≡ a
bounded_exact a h = to_z-of_z w128 a (Bounded-fits a h)

pub sum_exact : (a b : ℤ) → Bounded a → Bounded b →
    cast_signed w128 (cast_unsigned w128 (cast_signed w128 (cast_unsigned w128 a) +ℤ cast_signed w128 (cast_unsigned w128 b))) ≡ a +ℤ b
sum_exact a b h k = omega (arith, ints, h.at_least, h.below, k.at_least, k.below)

pub difference_exact : (a b : ℤ) → Bounded a → Bounded b →
    cast_signed w128 (cast_unsigned w128 (cast_signed w128 (cast_unsigned w128 a) -ℤ cast_signed w128 (cast_unsigned w128 b))) ≡ a -ℤ b
difference_exact a b h k = omega (arith, ints, h.at_least, h.below, k.at_least, k.below)

pub negative_exact : (a : ℤ) → Bounded a → cast_signed w128 (cast_unsigned w128 (pos 0 -ℤ cast_signed w128 (cast_unsigned w128 a))) ≡ neg_ℤ a
negative_exact a h = omega (arith, ints, h.at_least, h.below)

pub quotient_exact : (a d : ℤ) → Bounded a → Bounded d → pos 0 <ℤ d →
    cast_signed w128 (cast_unsigned w128 (int_div (cast_signed w128 (cast_unsigned w128 a)) (cast_signed w128 (cast_unsigned w128 d)))) ≡ int_div a d
quotient_exact a d h k p = quot_is w128 a d (Bounded-fits a h) (Bounded-fits d k) (quot_fits w128 a d (Bounded-fits a h) p)

-- one less than d, and its negative
pub less_one_exact : (d : ℤ) → Bounded d → cast_signed w128 (cast_unsigned w128 (cast_signed w128 (cast_unsigned w128 d) -ℤ pos 1)) ≡ d -ℤ pos 1
less_one_exact d h = omega (arith, ints, h.at_least, h.below)

pub negative_less_one_exact : (d : ℤ) → Bounded d →
    cast_signed w128 (cast_unsigned w128 (pos 0 -ℤ cast_signed w128 (cast_unsigned w128 (cast_signed w128 (cast_unsigned w128 d) -ℤ pos 1))))
    ≡ neg_ℤ (d -ℤ pos 1)
negative_less_one_exact d h = omega (arith, ints, h.at_least, h.below)
