-- Worked rows of the definitions.
use Rattle.std.proofs.Common.{◌≡◌, refl, ℕ, ◌-◌, ◌^◌, List, []}
use Rattle.std.specs.Prelude.{replicate, slice_set, pos, negsuc}
use Rattle.ido_ints.specs.declared.kinds.Kind.TheVariants.{SignedChar, UnsignedInt, Int, Long}
use Rattle.ido_ints.specs.declared.operators.Binary.TheVariants.{ShiftLeft, Less}
use Rattle.ido_ints.specs.Reduction.{residue, from_least_on}
use Rattle.ido_ints.specs.TypedNumbers.{typed, converted, register_form_of}
use Rattle.rv64_isa.specs.Rows.{row, read}
use Rattle.rv64_isa.specs.Arithmetic.{result_of}
use Rattle.operator_code.specs.StraightLineCode.{effects, registers_after}
use Rattle.operator_code.specs.ComputingCode.{left_kind, given_by}
use Rattle.operator_code.specs.links.InstructionLists.{extension}

-- x6 holds the register form of the `unsigned int` 2^31
held : List ℕ
held = slice_set (replicate 32 0) 6 (2 ^ 64 - 2 ^ 31)

form_of_unsigned_int : register_form_of (typed UnsignedInt (pos 2147483648)) ≡ read held 6
unfolding held residue from_least_on
form_of_unsigned_int = refl

-- converted to `long` it loses its sign extension
widened : read (registers_after (extension Long 5 6) held 0x1_0000) 5 ≡ register_form_of (converted (typed UnsignedInt (pos 2147483648)) Long)
unfolding held row result_of residue from_least_on
widened = refl

nothing_seen : effects (extension Long 5 6) held 0x1_0000 ≡ []
unfolding held row result_of
nothing_seen = refl

-- a `signed char` shifted by a `long` is computed as an `int`
shift_promotes : left_kind (record { operator = ShiftLeft; left = SignedChar; right = Long }) ≡ Int
shift_promotes = refl

less_converts : left_kind (record { operator = Less; left = Int; right = UnsignedInt }) ≡ UnsignedInt
less_converts = refl

less_of_unsigned : given_by (record { operator = Less; left = Int; right = UnsignedInt }) (negsuc 0) (pos 1) ≡ typed Int (pos 0)
unfolding from_least_on
less_of_unsigned = refl
