-- The nine kinds: sizes and ranges (C11 5.2.4.2.1, 6.2.5), promotion (6.3.1.1) and the common kind (6.3.1.8).
use Rattle.std.specs.Prelude.{ℕ, ◌-◌, ◌*◌, ◌^◌, Bool, true, false, ◌&&◌, nat_lt, nat_le, if◌then◌else◌, ℤ, pos, ◌+ℤ◌, neg_ℤ, int_le, ◌≤ℤ◌}
use Rattle.ido_ints.specs.declared.kinds.Kind.{Kind}
use Rattle.ido_ints.specs.declared.kinds.Kind.TheVariants.{Char, UnsignedChar, SignedChar, Short, UnsignedShort, Int, UnsignedInt, Long, UnsignedLong}

-- the size in bytes
abbrev pub bytes_of : Kind → ℕ
bytes_of Char = 1
bytes_of UnsignedChar = 1
bytes_of SignedChar = 1
bytes_of Short = 2
bytes_of UnsignedShort = 2
bytes_of Int = 4
bytes_of UnsignedInt = 4
bytes_of Long = 8
bytes_of UnsignedLong = 8

-- the width in bits, the sign among them
abbrev pub bits_of : Kind → ℕ
bits_of k = 8 * bytes_of k

-- `char` is unsigned here (C11 6.2.5 leaves it open)
abbrev pub is_signed : Kind → Bool
is_signed Char = false
is_signed UnsignedChar = false
is_signed SignedChar = true
is_signed Short = true
is_signed UnsignedShort = false
is_signed Int = true
is_signed UnsignedInt = false
is_signed Long = true
is_signed UnsignedLong = false

-- how many numbers a kind holds
abbrev pub modulus_of : Kind → ℕ
modulus_of k = 2 ^ bits_of k

-- signed kinds are in two's complement (C11 6.2.6.2)
abbrev pub least_of : Kind → ℤ
least_of k = if is_signed k then neg_ℤ (pos (2 ^ (bits_of k - 1))) else pos 0

abbrev pub greatest_of : Kind → ℤ
greatest_of k = least_of k +ℤ pos (modulus_of k - 1)

-- the kind holds the number
pub record Holds (k : Kind) (z : ℤ) : Type 0 where
  pub from_least : least_of k ≤ℤ z
  pub to_greatest : z ≤ℤ greatest_of k

-- whether the kind holds the number, as a test
abbrev pub holds : Kind → ℤ → Bool
holds k z = int_le (least_of k) z && int_le z (greatest_of k)

-- the rank (C11 6.3.1.1, paragraph 1)
abbrev pub rank_of : Kind → ℕ
rank_of Char = 1
rank_of UnsignedChar = 1
rank_of SignedChar = 1
rank_of Short = 2
rank_of UnsignedShort = 2
rank_of Int = 3
rank_of UnsignedInt = 3
rank_of Long = 4
rank_of UnsignedLong = 4

-- the integer promotions (C11 6.3.1.1, paragraph 2): an `int` holds all numbers of the kinds of lower rank
abbrev pub promoted : Kind → Kind
promoted k = if nat_lt (rank_of k) (rank_of Int) then Int else k

-- of two kinds, the one of the greater rank
abbrev pub of_greater_rank : Kind → Kind → Kind
of_greater_rank j k = if nat_lt (rank_of j) (rank_of k) then k else j

-- the unsigned kind of the same rank
abbrev pub to_unsigned : Kind → Kind
to_unsigned Char = UnsignedChar
to_unsigned UnsignedChar = UnsignedChar
to_unsigned SignedChar = UnsignedChar
to_unsigned Short = UnsignedShort
to_unsigned UnsignedShort = UnsignedShort
to_unsigned Int = UnsignedInt
to_unsigned UnsignedInt = UnsignedInt
to_unsigned Long = UnsignedLong
to_unsigned UnsignedLong = UnsignedLong

-- the common kind of a signed and an unsigned one: the unsigned one where its rank is not lower, else the signed one where it holds all numbers of the other
abbrev pub of_both_signs : Kind → Kind → Kind
of_both_signs s u =
    if nat_le (rank_of s) (rank_of u) then u else (if int_le (greatest_of u) (greatest_of s) then s else to_unsigned s)

-- the common kind of two promoted kinds
abbrev pub common_promoted : Kind → Kind → Kind
common_promoted j k =
    if is_signed j then (if is_signed k then of_greater_rank j k else of_both_signs j k) else (if is_signed k then of_both_signs k j else of_greater_rank j k)

-- the usual arithmetic conversions (C11 6.3.1.8, paragraph 1)
abbrev pub common_of : Kind → Kind → Kind
common_of j k = common_promoted (promoted j) (promoted k)
