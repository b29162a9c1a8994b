-- The kind of a literal (C11 6.4.4.1, paragraph 5).
use Rattle.std.specs.Prelude.{ℕ, pos, List, [], ◌∷◌, Option, find}
use Rattle.std.specs.Option.{option_map}
use Rattle.ido_ints.specs.declared.kinds.Kind.{Kind}
use Rattle.ido_ints.specs.declared.kinds.Kind.TheVariants.{Int, UnsignedInt, Long, UnsignedLong}
use Rattle.ido_ints.specs.declared.literals.Base.{Base}
use Rattle.ido_ints.specs.declared.literals.Base.TheVariants.{Decimal, Octal, Hexadecimal}
use Rattle.ido_ints.specs.declared.literals.Suffix.{Suffix}
use Rattle.ido_ints.specs.declared.literals.Suffix.TheVariants.{Absent, U, L, Ul}
use Rattle.ido_ints.specs.Kinds.{holds}
use Rattle.ido_ints.specs.TypedNumbers.{Typed, typed}

-- the kinds that a literal may have, in order
abbrev pub kinds_of : Base → Suffix → List Kind
kinds_of Decimal Absent = Int ∷ Long ∷ []
kinds_of Decimal U = UnsignedInt ∷ UnsignedLong ∷ []
kinds_of Decimal L = Long ∷ []
kinds_of Decimal Ul = UnsignedLong ∷ []
kinds_of Octal Absent = Int ∷ UnsignedInt ∷ Long ∷ UnsignedLong ∷ []
kinds_of Octal U = UnsignedInt ∷ UnsignedLong ∷ []
kinds_of Octal L = Long ∷ UnsignedLong ∷ []
kinds_of Octal Ul = UnsignedLong ∷ []
kinds_of Hexadecimal Absent = Int ∷ UnsignedInt ∷ Long ∷ UnsignedLong ∷ []
kinds_of Hexadecimal U = UnsignedInt ∷ UnsignedLong ∷ []
kinds_of Hexadecimal L = Long ∷ UnsignedLong ∷ []
kinds_of Hexadecimal Ul = UnsignedLong ∷ []

-- the first of them that holds the number
abbrev pub literal_kind_of : Base → Suffix → ℕ → Option Kind
literal_kind_of base suffix n = find (λ k. holds k (pos n)) (kinds_of base suffix)

abbrev pub literal_of : Base → Suffix → ℕ → Option Typed
literal_of base suffix n = option_map (λ k. typed k (pos n)) (literal_kind_of base suffix n)
