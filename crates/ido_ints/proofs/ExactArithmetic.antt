-- What the code computes on 128 bits is exact.
use Rattle.std.proofs.Common.{◌≡◌, ℕ, ◌^◌, ◌∙◌, arith}
use Rattle.std.specs.Prelude.{ℤ, FitsSigned}
use Rattle.std.specs.Int.{w128, cast_signed, cast_unsigned, int_shr}
use Rattle.std.proofs.lemmas.Int.{ints, to_z-of_z}
use lib.Signed.{mag_shr}
use Rattle.ido_ints.proofs.ReductionLaws.{Bounded}

pub Bounded-fits : (z : ℤ) → Bounded z → FitsSigned w128 z
Bounded-fits z h = omega (arith, ints, h.at_least, h.below)

-- a shift right
pub right_exact : (a : ℤ) (p : ℕ) → Bounded a →
    cast_signed w128 (cast_unsigned w128 (int_shr (cast_signed w128 (cast_unsigned w128 a)) p)) ≡ int_shr a p
right_exact a p h =
    let f = Bounded-fits a h in
    (λ i. cast_signed w128 (cast_unsigned w128 (int_shr (to_z-of_z w128 a f i) p)))
    ∙ to_z-of_z w128 (int_shr a p) (record { sfits = omega (arith, mag_shr a (2 ^ p), f.sfits) })
