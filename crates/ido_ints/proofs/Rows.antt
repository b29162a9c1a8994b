-- The definitions at sample values, by computation.
use Rattle.std.proofs.Common.{◌≡◌, refl, ◌-◌, ◌^◌, Some, None}
use Rattle.std.specs.Prelude.{pos, negsuc, neg_ℤ}
use Rattle.ido_ints.specs.declared.kinds.Kind.TheVariants.{Char, SignedChar, Short, UnsignedShort, Int, UnsignedInt, Long, UnsignedLong}
use Rattle.ido_ints.specs.declared.literals.Base.TheVariants.{Decimal, Octal, Hexadecimal}
use Rattle.ido_ints.specs.declared.literals.Suffix.TheVariants.{Absent, L, Ul}
use Rattle.ido_ints.specs.declared.operators.Binary.TheVariants.{Mul, Div, Rem, Add, ShiftLeft, ShiftRight, Less, And, Xor, LogicalOr}
use Rattle.ido_ints.specs.declared.operators.Unary.TheVariants.{Minus, Complement, Not}
use Rattle.ido_ints.specs.Kinds.{least_of, greatest_of, promoted, common_of}
use Rattle.ido_ints.specs.Literals.{literal_kind_of}
use Rattle.ido_ints.specs.Operators.{unary_of, binary_of}
use Rattle.ido_ints.specs.Reduction.{from_least_on, residue, register_of}
use Rattle.ido_ints.specs.links.Signs.{sign_extended}
use Rattle.ido_ints.specs.TypedNumbers.{typed, converted}

char_unsigned : greatest_of Char ≡ pos 255
char_unsigned = refl

least_short : least_of Short ≡ neg_ℤ (pos 32768)
least_short = refl

greatest_long : greatest_of Long ≡ pos 9223372036854775807
greatest_long = refl

promoted_short : promoted UnsignedShort ≡ Int
promoted_short = refl

long_holds_unsigned_int : common_of Long UnsignedInt ≡ Long
long_holds_unsigned_int = refl

unsigned_int_over_int : common_of Int UnsignedInt ≡ UnsignedInt
unsigned_int_over_int = refl

converted_char : converted (typed Int (negsuc 0)) Char ≡ typed Char (pos 255)
unfolding from_least_on
converted_char = refl

converted_signed_char : converted (typed Int (pos 200)) SignedChar ≡ typed SignedChar (negsuc 55)
unfolding from_least_on
converted_signed_char = refl

product_wraps : binary_of Mul (typed UnsignedShort (pos 65535)) (typed UnsignedShort (pos 65535)) ≡ typed Int (negsuc 131070)
unfolding from_least_on
product_wraps = refl

sum_wraps : binary_of Add (typed UnsignedInt (pos 4294967295)) (typed Char (pos 1)) ≡ typed UnsignedInt (pos 0)
unfolding from_least_on
sum_wraps = refl

quotient_truncates : binary_of Div (typed Int (negsuc 6)) (typed Int (pos 2)) ≡ typed Int (negsuc 2)
unfolding from_least_on
quotient_truncates = refl

quotient_by_zero : binary_of Div (typed UnsignedInt (pos 7)) (typed Int (pos 0)) ≡ typed UnsignedInt (pos 4294967295)
unfolding from_least_on
quotient_by_zero = refl

quotient_of_least : binary_of Div (typed Int (negsuc 2147483647)) (typed Int (negsuc 0)) ≡ typed Int (negsuc 2147483647)
unfolding from_least_on
quotient_of_least = refl

remainder_by_zero : binary_of Rem (typed Int (negsuc 6)) (typed Int (pos 0)) ≡ typed Int (negsuc 6)
unfolding from_least_on
remainder_by_zero = refl

remainder_of_least : binary_of Rem (typed Long (neg_ℤ (pos (2 ^ 63)))) (typed Int (negsuc 0)) ≡ typed Long (pos 0)
unfolding from_least_on
remainder_of_least = refl

count_reduced : binary_of ShiftLeft (typed Int (pos 1)) (typed Int (pos 33)) ≡ typed Int (pos 2)
unfolding from_least_on
count_reduced = refl

count_negative : binary_of ShiftRight (typed Long (negsuc 7)) (typed Int (negsuc 62)) ≡ typed Long (negsuc 3)
unfolding from_least_on
count_negative = refl

compared_as_unsigned : binary_of Less (typed Int (negsuc 0)) (typed UnsignedInt (pos 1)) ≡ typed Int (pos 0)
unfolding from_least_on
compared_as_unsigned = refl

bits_in_common : binary_of And (typed Int (negsuc 0)) (typed UnsignedInt (pos 240)) ≡ typed UnsignedInt (pos 240)
unfolding from_least_on residue
bits_in_common = refl

bits_of_negative : binary_of Xor (typed SignedChar (negsuc 0)) (typed Int (pos 85)) ≡ typed Int (negsuc 85)
unfolding from_least_on residue
bits_of_negative = refl

either_is_true : binary_of LogicalOr (typed Int (pos 0)) (typed UnsignedLong (pos 4294967296)) ≡ typed Int (pos 1)
either_is_true = refl

negative_of_char : unary_of Minus (typed Char (pos 1)) ≡ typed Int (negsuc 0)
unfolding from_least_on
negative_of_char = refl

complement_of_unsigned : unary_of Complement (typed UnsignedInt (pos 1)) ≡ typed UnsignedInt (pos 4294967294)
unfolding from_least_on
complement_of_unsigned = refl

not_of_zero : unary_of Not (typed UnsignedLong (pos 0)) ≡ typed Int (pos 1)
not_of_zero = refl

register_of_unsigned_int : register_of UnsignedInt (pos 2147483648) ≡ 18446744071562067968
unfolding from_least_on residue
register_of_unsigned_int = refl

register_of_signed_char : register_of SignedChar (negsuc 0) ≡ 2 ^ 64 - 1
unfolding residue
register_of_signed_char = refl

extended : sign_extended 6442450944 ≡ 18446744071562067968
extended = refl

hexadecimal_unsigned : literal_kind_of Hexadecimal Absent 2147483648 ≡ Some UnsignedInt
hexadecimal_unsigned = refl

decimal_long : literal_kind_of Decimal Absent 2147483648 ≡ Some Long
decimal_long = refl

decimal_none : literal_kind_of Decimal L 9223372036854775808 ≡ None
decimal_none = refl

octal_none : literal_kind_of Octal Ul 18446744073709551616 ≡ None
octal_none = refl
