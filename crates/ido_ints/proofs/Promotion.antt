-- Laws of promotion and of the common kind.
use Rattle.std.proofs.Common.{◌≡◌, refl, arith}
use Rattle.std.specs.Prelude.{ℤ}
use Rattle.std.proofs.lemmas.Int.{ints}
use Rattle.ido_ints.specs.declared.kinds.Kind.{Kind}
use Rattle.ido_ints.specs.declared.kinds.Kind.TheVariants.{Char, UnsignedChar, SignedChar, Short, UnsignedShort, Int, UnsignedInt, Long, UnsignedLong}
use Rattle.ido_ints.specs.Kinds.{Holds, promoted, common_of, common_promoted}
use Rattle.ido_ints.specs.Reduction.{reduced}
use Rattle.ido_ints.proofs.ReductionLaws.{reduced_held}

-- what holds of the four kinds of at least an `int`'s rank holds of each promoted kind
pub each_promoted : (P : Kind → Type 0) → P Int → P UnsignedInt → P Long → P UnsignedLong → (k : Kind) → P (promoted k)
each_promoted P i ui l ul Char = i
each_promoted P i ui l ul UnsignedChar = i
each_promoted P i ui l ul SignedChar = i
each_promoted P i ui l ul Short = i
each_promoted P i ui l ul UnsignedShort = i
each_promoted P i ui l ul Int = i
each_promoted P i ui l ul UnsignedInt = ui
each_promoted P i ui l ul Long = l
each_promoted P i ui l ul UnsignedLong = ul

-- what holds of each two of the four kinds of at least an `int`'s rank holds of each two promoted kinds
both_promoted : (P : Kind → Kind → Type 0) → ((k : Kind) → P Int (promoted k)) → ((k : Kind) → P UnsignedInt (promoted k)) →
    ((k : Kind) → P Long (promoted k)) → ((k : Kind) → P UnsignedLong (promoted k)) → (j k : Kind) → P (promoted j) (promoted k)
both_promoted P i ui l ul j k = each_promoted (λ a. P a (promoted k)) (i k) (ui k) (l k) (ul k) j

-- a common kind is promoted
pub promoted-common_of : (j k : Kind) → promoted (common_of j k) ≡ common_of j k
promoted-common_of j k =
    let P : Kind → Kind → Type 0 = λ a b. promoted (common_promoted a b) ≡ common_promoted a b in
    both_promoted P
    (each_promoted (P Int) refl refl refl refl)
    (each_promoted (P UnsignedInt) refl refl refl refl)
    (each_promoted (P Long) refl refl refl refl)
    (each_promoted (P UnsignedLong) refl refl refl refl)
    j k

-- a promoted kind holds all numbers of the kind
pub Holds-promoted : (k : Kind) (z : ℤ) → Holds k z → Holds (promoted k) z
Holds-promoted Char z h = record { from_least = omega (arith, ints, h.from_least); to_greatest = omega (arith, ints, h.to_greatest) }
Holds-promoted UnsignedChar z h = record { from_least = omega (arith, ints, h.from_least); to_greatest = omega (arith, ints, h.to_greatest) }
Holds-promoted SignedChar z h = record { from_least = omega (arith, ints, h.from_least); to_greatest = omega (arith, ints, h.to_greatest) }
Holds-promoted Short z h = record { from_least = omega (arith, ints, h.from_least); to_greatest = omega (arith, ints, h.to_greatest) }
Holds-promoted UnsignedShort z h = record { from_least = omega (arith, ints, h.from_least); to_greatest = omega (arith, ints, h.to_greatest) }
Holds-promoted Int z h = h
Holds-promoted UnsignedInt z h = h
Holds-promoted Long z h = h
Holds-promoted UnsignedLong z h = h

-- promotion keeps each number, and with it order
pub reduced-promoted : (k : Kind) (z : ℤ) → Holds k z → reduced (promoted k) z ≡ z
reduced-promoted k z h = reduced_held (promoted k) z (Holds-promoted k z h)
