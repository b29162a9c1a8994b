-- The values of the operators (C11 6.5.3.3 and 6.5.5 to 6.5.14). What C leaves open is defined here: results wrap, a quotient by 0 has all bits set, a
-- remainder by 0 is the dividend, and a count of places is taken modulo the width.
use Rattle.std.specs.Prelude.{ℕ, ◌^◌, Bool, not, ◌&&◌, ◌||◌, if◌then◌else◌, ℤ, pos, negsuc, ◌+ℤ◌, ◌-ℤ◌, ◌*ℤ◌}
use Rattle.std.specs.Prelude.{neg_ℤ, int_lt, int_le, int_div, int_rem, bit_and, bit_or, bit_xor, unsigned_abs}
use Rattle.std.specs.Int.{int_rem_euclid, int_shr}
use Rattle.std.specs.Ordering.{int_eq}
use Rattle.ido_ints.specs.declared.kinds.Kind.{Kind}
use Rattle.ido_ints.specs.declared.kinds.Kind.TheVariants.{Int}
use Rattle.ido_ints.specs.declared.operators.Unary.{Unary}
use Rattle.ido_ints.specs.declared.operators.Unary.TheVariants.{Plus, Minus, Complement, Not}
use Rattle.ido_ints.specs.declared.operators.Binary.{Binary}
use Rattle.ido_ints.specs.declared.operators.Binary.TheVariants.{Mul, Div, Rem, Add, Sub, ShiftLeft, ShiftRight, Less, Greater, LessEqual}
use Rattle.ido_ints.specs.declared.operators.Binary.TheVariants.{GreaterEqual, Equal, NotEqual, And, Xor, Or, LogicalAnd, LogicalOr}
use Rattle.ido_ints.specs.Kinds.{bits_of, promoted, common_of}
use Rattle.ido_ints.specs.Reduction.{residue, reduced}
use Rattle.ido_ints.specs.TypedNumbers.{Typed, typed}

-- what a comparison gives: 1 or 0
abbrev pub truth : Bool → ℤ
truth b = if b then pos 1 else pos 0

abbrev pub is_zero : ℤ → Bool
is_zero z = int_eq z (pos 0)

-- the quotient, truncated towards 0 (C11 6.5.5, paragraph 6), and -1, whose bits are all set, by 0
abbrev pub quotient : ℤ → ℤ → ℤ
quotient x y = if is_zero y then negsuc 0 else int_div x y

-- what the truncated quotient leaves, and the dividend by 0
abbrev pub remainder : ℤ → ℤ → ℤ
remainder x y = if is_zero y then x else int_rem x y

-- a bitwise operation on the two's complement patterns of a kind's width (C11 6.5.10 to 6.5.12)
abbrev pub bitwise : (ℕ → ℕ → ℕ) → Kind → ℤ → ℤ → ℤ
bitwise f k x y = pos (f (residue (bits_of k) x) (residue (bits_of k) y))

-- by how many places a count shifts a number of the kind k: the count modulo the width
abbrev pub places : Kind → ℤ → ℕ
places k count = unsigned_abs (int_rem_euclid count (pos (bits_of k)))

-- x times 2 to the places (C11 6.5.7, paragraph 4)
abbrev pub shifted_left : Kind → ℤ → ℤ → ℤ
shifted_left k x count = x *ℤ pos (2 ^ places k count)

-- x by 2 to the places, rounded down, also where x is negative (which C11 6.5.7, paragraph 5, leaves open)
abbrev pub shifted_right : Kind → ℤ → ℤ → ℤ
shifted_right k x count = int_shr x (places k count)

-- the kind of a result
abbrev pub unary_kind : Unary → Kind → Kind
unary_kind Plus k = promoted k
unary_kind Minus k = promoted k
unary_kind Complement k = promoted k
unary_kind Not k = Int

-- the number that a unary operator gives, for the operand z of kind k; the complement of z is -1 - z
abbrev pub unary_number : Unary → Kind → ℤ → ℤ
unary_number Plus k z = reduced (promoted k) z
unary_number Minus k z = reduced (promoted k) (neg_ℤ z)
unary_number Complement k z = reduced (promoted k) (negsuc 0 -ℤ z)
unary_number Not k z = truth (is_zero z)

abbrev pub unary_of : Unary → Typed → Typed
unary_of op v = typed (unary_kind op v.kind) (unary_number op v.kind v.number)

-- the kind of a result
abbrev pub binary_kind : Binary → Kind → Kind → Kind
binary_kind Mul j k = common_of j k
binary_kind Div j k = common_of j k
binary_kind Rem j k = common_of j k
binary_kind Add j k = common_of j k
binary_kind Sub j k = common_of j k
binary_kind ShiftLeft j k = promoted j
binary_kind ShiftRight j k = promoted j
binary_kind Less j k = Int
binary_kind Greater j k = Int
binary_kind LessEqual j k = Int
binary_kind GreaterEqual j k = Int
binary_kind Equal j k = Int
binary_kind NotEqual j k = Int
binary_kind And j k = common_of j k
binary_kind Xor j k = common_of j k
binary_kind Or j k = common_of j k
binary_kind LogicalAnd j k = Int
binary_kind LogicalOr j k = Int

-- f of the common kind and of both operands, converted to it (C11 6.3.1.8)
abbrev pub in_common : (Kind → ℤ → ℤ → ℤ) → Kind → ℤ → Kind → ℤ → ℤ
in_common f j a k b = let c = common_of j k in f c (reduced c a) (reduced c b)

-- f of the promoted left kind, of the left operand in it and of the right operand
abbrev pub in_left : (Kind → ℤ → ℤ → ℤ) → Kind → ℤ → ℤ → ℤ
in_left f j a b = let p = promoted j in reduced p (f p (reduced p a) b)

-- the number of a result, for the left operand a of kind j and the right operand b of kind k
abbrev pub binary_number : Binary → Kind → ℤ → Kind → ℤ → ℤ
binary_number Mul j a k b = in_common (λ c x y. reduced c (x *ℤ y)) j a k b
binary_number Div j a k b = in_common (λ c x y. reduced c (quotient x y)) j a k b
binary_number Rem j a k b = in_common (λ c x y. reduced c (remainder x y)) j a k b
binary_number Add j a k b = in_common (λ c x y. reduced c (x +ℤ y)) j a k b
binary_number Sub j a k b = in_common (λ c x y. reduced c (x -ℤ y)) j a k b
binary_number ShiftLeft j a k b = in_left shifted_left j a b
binary_number ShiftRight j a k b = in_left shifted_right j a b
binary_number Less j a k b = in_common (λ c x y. truth (int_lt x y)) j a k b
binary_number Greater j a k b = in_common (λ c x y. truth (int_lt y x)) j a k b
binary_number LessEqual j a k b = in_common (λ c x y. truth (int_le x y)) j a k b
binary_number GreaterEqual j a k b = in_common (λ c x y. truth (int_le y x)) j a k b
binary_number Equal j a k b = in_common (λ c x y. truth (int_eq x y)) j a k b
binary_number NotEqual j a k b = in_common (λ c x y. truth (not (int_eq x y))) j a k b
binary_number And j a k b = in_common (λ c x y. reduced c (bitwise bit_and c x y)) j a k b
binary_number Xor j a k b = in_common (λ c x y. reduced c (bitwise bit_xor c x y)) j a k b
binary_number Or j a k b = in_common (λ c x y. reduced c (bitwise bit_or c x y)) j a k b
binary_number LogicalAnd j a k b = truth (not (is_zero a) && not (is_zero b))
binary_number LogicalOr j a k b = truth (not (is_zero a) || not (is_zero b))

abbrev pub binary_of : Binary → Typed → Typed → Typed
binary_of op a b = typed (binary_kind op a.kind b.kind) (binary_number op a.kind a.number b.kind b.number)
