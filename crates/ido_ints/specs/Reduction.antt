-- Reduction of a whole number modulo a power of two (C11 6.3.1.3), and the form in which a 64-bit register holds a number.
use Rattle.std.specs.Prelude.{ℕ, ◌+◌, ◌-◌, ◌^◌, ℤ, pos, ◌+ℤ◌, ◌-ℤ◌, unsigned_abs}
use Rattle.std.specs.Int.{int_rem_euclid}
use Rattle.ido_ints.specs.declared.kinds.Kind.{Kind}
use Rattle.ido_ints.specs.declared.kinds.Kind.TheVariants.{Int, UnsignedInt}
use Rattle.ido_ints.specs.Kinds.{least_of, modulus_of}

-- z modulo 2 ^ width, as a natural number
unfoldable pub residue : ℕ → ℤ → ℕ
residue width z = unsigned_abs (int_rem_euclid z (pos (2 ^ width)))

-- the one of n numbers from l on that differs from z by a multiple of n
unfoldable pub from_least_on : ℤ → ℕ → ℤ → ℤ
from_least_on l n z = l +ℤ int_rem_euclid (z -ℤ l) (pos n)

-- the number of the kind's range that differs from z by a multiple of 2 ^ width
abbrev pub reduced : Kind → ℤ → ℤ
reduced k z = from_least_on (least_of k) (modulus_of k) z

-- the 64 bits of a register that holds z: z modulo 2 ^ 64, but an `unsigned int` is sign-extended from bit 31
abbrev pub register_of : Kind → ℤ → ℕ
register_of UnsignedInt z = residue 64 (reduced Int z)
register_of k z = residue 64 z
