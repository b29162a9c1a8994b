-- Conversions that don't keep the form: a number whose form changes.
use Rattle.std.proofs.Common.{◌≡◌, ◌-◌, ◌^◌, refl, sym, arith, Bool, false, true}
use Rattle.std.specs.Prelude.{pos, negsuc}
use Rattle.std.proofs.lemmas.Int.{ints}
use Rattle.std.proofs.lemmas.Bool.{false≢true}
use Rattle.ido_ints.specs.declared.kinds.Kind.{Kind}
use Rattle.ido_ints.specs.declared.kinds.Kind.TheVariants.{Char, UnsignedChar, SignedChar, Short, UnsignedShort, Int, UnsignedInt, Long, UnsignedLong}
use Rattle.ido_ints.specs.Reduction.{residue, from_least_on}
use Rattle.operator_code.specs.ComputingCode.{KeepsForm}
use Rattle.operator_code.specs.links.OperatorInstructions.{keeps}

lost_char : (from : Kind) → keeps from Char ≡ false → KeepsForm from Char → ⊥
unfolding residue from_least_on
lost_char Char e f = absurd (false≢true (sym e))
lost_char UnsignedChar e f = absurd (false≢true (sym e))
lost_char SignedChar e f =
    let g : 255 ≡ 2 ^ 64 - 1 = f (negsuc 0) (record { from_least = omega (arith, ints); to_greatest = omega (arith, ints) }) in absurd (omega (arith, g))
lost_char from e f =
    let g : 0 ≡ 256 = f (pos 256) (record { from_least = omega (arith, ints); to_greatest = omega (arith, ints) }) in absurd (omega (arith, g))

lost_unsigned_char : (from : Kind) → keeps from UnsignedChar ≡ false → KeepsForm from UnsignedChar → ⊥
unfolding residue from_least_on
lost_unsigned_char Char e f = absurd (false≢true (sym e))
lost_unsigned_char UnsignedChar e f = absurd (false≢true (sym e))
lost_unsigned_char SignedChar e f =
    let g : 255 ≡ 2 ^ 64 - 1 = f (negsuc 0) (record { from_least = omega (arith, ints); to_greatest = omega (arith, ints) }) in absurd (omega (arith, g))
lost_unsigned_char from e f =
    let g : 0 ≡ 256 = f (pos 256) (record { from_least = omega (arith, ints); to_greatest = omega (arith, ints) }) in absurd (omega (arith, g))

lost_signed_char : (from : Kind) → keeps from SignedChar ≡ false → KeepsForm from SignedChar → ⊥
unfolding residue from_least_on
lost_signed_char SignedChar e f = absurd (false≢true (sym e))
lost_signed_char from e f =
    let g : 2 ^ 64 - 128 ≡ 128 = f (pos 128) (record { from_least = omega (arith, ints); to_greatest = omega (arith, ints) }) in absurd (omega (arith, g))

lost_short : (from : Kind) → keeps from Short ≡ false → KeepsForm from Short → ⊥
unfolding residue from_least_on
lost_short Char e f = absurd (false≢true (sym e))
lost_short UnsignedChar e f = absurd (false≢true (sym e))
lost_short SignedChar e f = absurd (false≢true (sym e))
lost_short Short e f = absurd (false≢true (sym e))
lost_short from e f =
    let g : 2 ^ 64 - 32768 ≡ 32768 = f (pos 32768) (record { from_least = omega (arith, ints); to_greatest = omega (arith, ints) }) in absurd (omega (arith, g))

lost_unsigned_short : (from : Kind) → keeps from UnsignedShort ≡ false → KeepsForm from UnsignedShort → ⊥
unfolding residue from_least_on
lost_unsigned_short Char e f = absurd (false≢true (sym e))
lost_unsigned_short UnsignedChar e f = absurd (false≢true (sym e))
lost_unsigned_short UnsignedShort e f = absurd (false≢true (sym e))
lost_unsigned_short SignedChar e f =
    let g : 65535 ≡ 2 ^ 64 - 1 = f (negsuc 0) (record { from_least = omega (arith, ints); to_greatest = omega (arith, ints) }) in absurd (omega (arith, g))
lost_unsigned_short Short e f =
    let g : 65535 ≡ 2 ^ 64 - 1 = f (negsuc 0) (record { from_least = omega (arith, ints); to_greatest = omega (arith, ints) }) in absurd (omega (arith, g))
lost_unsigned_short from e f =
    let g : 0 ≡ 65536 = f (pos 65536) (record { from_least = omega (arith, ints); to_greatest = omega (arith, ints) }) in absurd (omega (arith, g))

lost_int : (from : Kind) → keeps from Int ≡ false → KeepsForm from Int → ⊥
unfolding residue from_least_on
lost_int Long e f =
    let g : 2 ^ 64 - 2 ^ 31 ≡ 2 ^ 31 = f (pos 2147483648) (record { from_least = omega (arith, ints); to_greatest = omega (arith, ints) }) in
    absurd (omega (arith, g))
lost_int UnsignedLong e f =
    let g : 2 ^ 64 - 2 ^ 31 ≡ 2 ^ 31 = f (pos 2147483648) (record { from_least = omega (arith, ints); to_greatest = omega (arith, ints) }) in
    absurd (omega (arith, g))
lost_int from e f = absurd (false≢true (sym e))

lost_unsigned_int : (from : Kind) → keeps from UnsignedInt ≡ false → KeepsForm from UnsignedInt → ⊥
unfolding residue from_least_on
lost_unsigned_int Long e f =
    let g : 2 ^ 64 - 2 ^ 31 ≡ 2 ^ 31 = f (pos 2147483648) (record { from_least = omega (arith, ints); to_greatest = omega (arith, ints) }) in
    absurd (omega (arith, g))
lost_unsigned_int UnsignedLong e f =
    let g : 2 ^ 64 - 2 ^ 31 ≡ 2 ^ 31 = f (pos 2147483648) (record { from_least = omega (arith, ints); to_greatest = omega (arith, ints) }) in
    absurd (omega (arith, g))
lost_unsigned_int from e f = absurd (false≢true (sym e))

lost_long : (from : Kind) → keeps from Long ≡ false → KeepsForm from Long → ⊥
unfolding residue from_least_on
lost_long UnsignedInt e f =
    let g : 2 ^ 31 ≡ 2 ^ 64 - 2 ^ 31 = f (pos 2147483648) (record { from_least = omega (arith, ints); to_greatest = omega (arith, ints) }) in
    absurd (omega (arith, g))
lost_long from e f = absurd (false≢true (sym e))

lost_unsigned_long : (from : Kind) → keeps from UnsignedLong ≡ false → KeepsForm from UnsignedLong → ⊥
unfolding residue from_least_on
lost_unsigned_long UnsignedInt e f =
    let g : 2 ^ 31 ≡ 2 ^ 64 - 2 ^ 31 = f (pos 2147483648) (record { from_least = omega (arith, ints); to_greatest = omega (arith, ints) }) in
    absurd (omega (arith, g))
lost_unsigned_long from e f = absurd (false≢true (sym e))

pub lost : (from to : Kind) → keeps from to ≡ false → KeepsForm from to → ⊥
lost from Char e f = lost_char from e f
lost from UnsignedChar e f = lost_unsigned_char from e f
lost from SignedChar e f = lost_signed_char from e f
lost from Short e f = lost_short from e f
lost from UnsignedShort e f = lost_unsigned_short from e f
lost from Int e f = lost_int from e f
lost from UnsignedInt e f = lost_unsigned_int from e f
lost from Long e f = lost_long from e f
lost from UnsignedLong e f = lost_unsigned_long from e f

pub keeps_where : (from to : Kind) → KeepsForm from to → keeps from to ≡ true
keeps_where from to f = by (keeps from to) refl
  where
    by : (t : Bool) → keeps from to ≡ t → t ≡ true
    by true e = refl
    by false e = absurd (lost from to e f)
