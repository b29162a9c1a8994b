-- Register forms of other kinds: the low bits, extended.
use Rattle.std.proofs.Common.{◌≡◌, refl, ℕ, ◌+◌, ◌-◌, ◌*◌, ◌/◌, ◌%◌, ◌^◌, ◌<◌, ◌≤◌, ap, sym, ◌∙◌, arith, Bool, true, false, cond, ◌⊎◌, inl, inr}
use Rattle.std.specs.Prelude.{ℤ, pos, negsuc, ◌-ℤ◌, nat_le, nat_lt, bit_and}
use Rattle.std.proofs.Math.Nat.{mod-lt}
use Rattle.std.proofs.lemmas.Nat.{and_mask}
use Rattle.std.proofs.lemmas.Int.{ints}
use Rattle.std.proofs.lemmas.Bool.{false≢true}
use Rattle.std.proofs.lemmas.Bool.Decides.{nat_tests}
use Rattle.ido_ints.specs.declared.kinds.Kind.{Kind}
use Rattle.ido_ints.specs.declared.kinds.Kind.TheVariants.{Char, UnsignedChar, SignedChar, Short, UnsignedShort, Int, UnsignedInt, Long, UnsignedLong}
use Rattle.ido_ints.specs.Kinds.{Holds, modulus_of}
use Rattle.ido_ints.specs.links.Signs as Numbers
use Rattle.ido_ints.specs.Reduction.{residue, reduced, register_of}
use Rattle.ido_ints.proofs.Public.{Same, Same_refl, Same_trans, Same-mod, Same-factor, reduced-is, reduced_held, residue-is, residue-Same, register-Same}
use Rattle.ido_ints.proofs.Public.{register-reduced_32, register-reduced_64, sign_extended-is, register-mod}
use Rattle.rv64_isa.specs.Arithmetic.{word_result, shifted_arithmetic}
use Rattle.operator_code.specs.ComputingCode.{KeepsForm}
use Rattle.operator_code.specs.links.OperatorInstructions.{keeps}

-- ---- The low 32 bits, sign-extended

-- the low 32 bits, sign-extended, are what `sign_extended` of numbers says
pub word_is : (n : ℕ) → word_result n ≡ Numbers.sign_extended n
word_is n = by (n % 2 ^ 32) (nat_lt (n % 2 ^ 32) 2147483648) refl
  where
    by : (m : ℕ) (t : Bool) → nat_lt m 2147483648 ≡ t → cond (nat_le 2147483648 m) (m + (2 ^ 64 - 2 ^ 32)) m ≡ cond t m (m + (2 ^ 64 - 2 ^ 32))
    by m true e = let f : nat_le 2147483648 m ≡ false = grind (arith, nat_tests) in rw f refl
    by m false e = let f : nat_le 2147483648 m ≡ true = grind (arith, nat_tests) in rw f refl

pub word_form : (n : ℕ) (z : ℤ) → Same (2 ^ 32) (pos n) z → word_result n ≡ residue 64 (reduced Int z)
word_form n z s = word_is n ∙ sign_extended-is n z s

-- ---- Low bits of register forms

-- a register form differs from its number by a multiple of 2^32
pub low_32 : (k : Kind) (z : ℤ) → Same (2 ^ 32) (pos (register_of k z)) z
low_32 UnsignedInt z = register-Same UnsignedInt z
low_32 Char z = Same-factor (2 ^ 32) (2 ^ 32) _ _ (residue-Same 64 z)
low_32 UnsignedChar z = Same-factor (2 ^ 32) (2 ^ 32) _ _ (residue-Same 64 z)
low_32 SignedChar z = Same-factor (2 ^ 32) (2 ^ 32) _ _ (residue-Same 64 z)
low_32 Short z = Same-factor (2 ^ 32) (2 ^ 32) _ _ (residue-Same 64 z)
low_32 UnsignedShort z = Same-factor (2 ^ 32) (2 ^ 32) _ _ (residue-Same 64 z)
low_32 Int z = Same-factor (2 ^ 32) (2 ^ 32) _ _ (residue-Same 64 z)
low_32 Long z = Same-factor (2 ^ 32) (2 ^ 32) _ _ (residue-Same 64 z)
low_32 UnsignedLong z = Same-factor (2 ^ 32) (2 ^ 32) _ _ (residue-Same 64 z)

pub low_16 : (k : Kind) (z : ℤ) → Same (2 ^ 16) (pos (register_of k z)) z
low_16 k z = Same-factor (2 ^ 16) (2 ^ 16) _ _ (low_32 k z)

pub low_8 : (k : Kind) (z : ℤ) → Same (2 ^ 8) (pos (register_of k z)) z
low_8 k z = Same-factor (2 ^ 8) (2 ^ 24) _ _ (low_32 k z)

-- 64 bits that stand for the number y of the kind, to which z reduces
stands : (k : Kind) (y z : ℤ) (n : ℕ) → Holds k y → Same (modulus_of k) y z → n < 2 ^ 64 → Same (2 ^ 64) (pos n) y → n ≡ residue 64 (reduced k z)
stands k y z n held same small far = sym (ap (residue 64) (reduced-is k z y held same) ∙ residue-is 64 y n small far)

low_of : (n r : ℕ) (z : ℤ) → Same n (pos r) z → Same n (pos (r % n)) z
low_of n r z s = Same_trans n _ (pos r) z (Same-mod r n) s

pub low_byte : (r : ℕ) (z : ℤ) → Same (2 ^ 8) (pos r) z → bit_and r 255 ≡ residue 64 (reduced Char z)
low_byte r z s =
    let below : r % 2 ^ 8 < 2 ^ 8 = mod-lt r (omega arith) in
    and_mask r 8 ∙ stands Char (pos (r % 2 ^ 8)) z (r % 2 ^ 8) (record { from_least = omega (arith, ints); to_greatest = omega (arith, ints, below) })
    (low_of (2 ^ 8) r z s) (omega (arith, below)) (Same_refl (2 ^ 64) (pos (r % 2 ^ 8)))

-- up and down again
pub zero_extended : (r : ℕ) → r * 2 ^ 48 % 2 ^ 64 / 2 ^ 48 ≡ r % 2 ^ 16
zero_extended r = omega arith

pub low_half : (r : ℕ) (z : ℤ) → Same (2 ^ 16) (pos r) z → r * 2 ^ 48 % 2 ^ 64 / 2 ^ 48 ≡ residue 64 (reduced UnsignedShort z)
low_half r z s =
    let below : r % 2 ^ 16 < 2 ^ 16 = mod-lt r (omega arith) in
    zero_extended r ∙ stands UnsignedShort (pos (r % 2 ^ 16)) z (r % 2 ^ 16)
    (record { from_least = omega (arith, ints); to_greatest = omega (arith, ints, below) })
    (low_of (2 ^ 16) r z s) (omega (arith, below)) (Same_refl (2 ^ 64) (pos (r % 2 ^ 16)))

-- the low bits, below 2 h, sign-extended: as they are, or with all bits above them set
abbrev pub Extended : (h n : ℕ) → (m : ℕ) → Type 0
Extended h n m = ((m < h) × (n ≡ m)) ⊎ ((h ≤ m) × (n ≡ m + (2 ^ 64 - (h + h))))

arithmetic_56 : (a m : ℕ) → m < 256 → a ≡ m * 2 ^ 56 → Extended 128 (shifted_arithmetic 64 a 56) m
arithmetic_56 a m below is = by (nat_le 9223372036854775808 a) refl
  where
    by : (t : Bool) → nat_le 9223372036854775808 a ≡ t → Extended 128 (cond t (2 ^ 64 - 1 - (2 ^ 64 - 1 - a) / 2 ^ 56) (a / 2 ^ 56)) m
    by true e = let big : 9223372036854775808 ≤ a = grind (arith, nat_tests) in inr (omega (arith, is, big), omega (arith, is, big, below))
    by false e = let small : a < 9223372036854775808 = grind (arith, nat_tests) in inl (omega (arith, is, small), omega (arith, is, small))

arithmetic_48 : (a m : ℕ) → m < 65536 → a ≡ m * 2 ^ 48 → Extended 32768 (shifted_arithmetic 64 a 48) m
arithmetic_48 a m below is = by (nat_le 9223372036854775808 a) refl
  where
    by : (t : Bool) → nat_le 9223372036854775808 a ≡ t → Extended 32768 (cond t (2 ^ 64 - 1 - (2 ^ 64 - 1 - a) / 2 ^ 48) (a / 2 ^ 48)) m
    by true e = let big : 9223372036854775808 ≤ a = grind (arith, nat_tests) in inr (omega (arith, is, big), omega (arith, is, big, below))
    by false e = let small : a < 9223372036854775808 = grind (arith, nat_tests) in inl (omega (arith, is, small), omega (arith, is, small))

signed_byte : (n m : ℕ) (z : ℤ) → m < 256 → Same (2 ^ 8) (pos m) z → Extended 128 n m → n ≡ residue 64 (reduced SignedChar z)
signed_byte n m z below s (inl e) =
    e.1 ∙ stands SignedChar (pos m) z m (record { from_least = omega (arith, ints); to_greatest = omega (arith, ints, e.0) }) s
    (omega (arith, below)) (Same_refl (2 ^ 64) (pos m))
signed_byte n m z below s (inr e) =
    let y : ℤ = pos m -ℤ pos 256 in
    let back : Same (2 ^ 8) y (pos m) = record { more = 1; less = 0; sums = omega (arith, ints) } in
    let far : Same (2 ^ 64) (pos n) y = record { more = 0; less = 1; sums = omega (arith, ints, e.1) } in
    stands SignedChar y z n (record { from_least = omega (arith, ints, e.0); to_greatest = omega (arith, ints, below) }) (Same_trans (2 ^ 8) y _ z back s)
    (omega (arith, below, e.1)) far

signed_half : (n m : ℕ) (z : ℤ) → m < 65536 → Same (2 ^ 16) (pos m) z → Extended 32768 n m → n ≡ residue 64 (reduced Short z)
signed_half n m z below s (inl e) =
    e.1 ∙ stands Short (pos m) z m (record { from_least = omega (arith, ints); to_greatest = omega (arith, ints, e.0) }) s
    (omega (arith, below)) (Same_refl (2 ^ 64) (pos m))
signed_half n m z below s (inr e) =
    let y : ℤ = pos m -ℤ pos 65536 in
    let back : Same (2 ^ 16) y (pos m) = record { more = 1; less = 0; sums = omega (arith, ints) } in
    let far : Same (2 ^ 64) (pos n) y = record { more = 0; less = 1; sums = omega (arith, ints, e.1) } in
    stands Short y z n (record { from_least = omega (arith, ints, e.0); to_greatest = omega (arith, ints, below) }) (Same_trans (2 ^ 16) y _ z back s)
    (omega (arith, below, e.1)) far

pub extended_byte : (r : ℕ) (z : ℤ) → Same (2 ^ 8) (pos r) z → shifted_arithmetic 64 (r * 2 ^ 56 % 2 ^ 64) 56 ≡ residue 64 (reduced SignedChar z)
extended_byte r z s =
    let below : r % 2 ^ 8 < 2 ^ 8 = mod-lt r (omega arith) in
    let up : r * 2 ^ 56 % 2 ^ 64 ≡ r % 2 ^ 8 * 2 ^ 56 = omega arith in
    signed_byte (shifted_arithmetic 64 (r * 2 ^ 56 % 2 ^ 64) 56) (r % 2 ^ 8) z below (low_of (2 ^ 8) r z s)
    (arithmetic_56 (r * 2 ^ 56 % 2 ^ 64) (r % 2 ^ 8) below up)

pub extended_half : (r : ℕ) (z : ℤ) → Same (2 ^ 16) (pos r) z → shifted_arithmetic 64 (r * 2 ^ 48 % 2 ^ 64) 48 ≡ residue 64 (reduced Short z)
extended_half r z s =
    let below : r % 2 ^ 16 < 2 ^ 16 = mod-lt r (omega arith) in
    let up : r * 2 ^ 48 % 2 ^ 64 ≡ r % 2 ^ 16 * 2 ^ 48 = omega arith in
    signed_half (shifted_arithmetic 64 (r * 2 ^ 48 % 2 ^ 64) 48) (r % 2 ^ 16) z below (low_of (2 ^ 16) r z s)
    (arithmetic_48 (r * 2 ^ 48 % 2 ^ 64) (r % 2 ^ 16) below up)

-- an `unsigned int` loses its sign extension
pub unsigned_word : (r : ℕ) (k : Kind) (z : ℤ) → modulus_of k ≡ 2 ^ 64 → Holds UnsignedInt z → r ≡ register_of UnsignedInt z →
    r * 2 ^ 32 % 2 ^ 64 / 2 ^ 32 ≡ residue 64 z
unsigned_word r k (pos n) w held e =
    let down : r * 2 ^ 32 % 2 ^ 64 / 2 ^ 32 ≡ r % 2 ^ 32 = omega arith in
    down ∙ ap (λ (m : ℕ). m % 2 ^ 32) e ∙ register-mod UnsignedInt n held ∙
    sym (residue-is 64 (pos n) n (omega (arith, ints, held.to_greatest)) (Same_refl (2 ^ 64) (pos n)))
unsigned_word r k (negsuc n) w held e = absurd (omega (arith, ints, held.from_least))

-- ---- Conversions that keep the form

keeps_byte : (from : Kind) → keeps from Char ≡ true → KeepsForm from Char
keeps_byte Char e = λ z h. ap (residue 64) (reduced_held Char z h)
keeps_byte UnsignedChar e = λ z h. ap (residue 64) (reduced_held UnsignedChar z h)
keeps_byte from e = absurd (false≢true e)

keeps_signed_byte : (from : Kind) → keeps from SignedChar ≡ true → KeepsForm from SignedChar
keeps_signed_byte SignedChar e = λ z h. ap (residue 64) (reduced_held SignedChar z h)
keeps_signed_byte from e = absurd (false≢true e)

keeps_half : (from : Kind) → keeps from Short ≡ true → KeepsForm from Short
keeps_half Char e = λ z h. ap (residue 64)
    (reduced_held Short z (record { from_least = omega (arith, ints, h.from_least); to_greatest = omega (arith, ints, h.to_greatest) }))
keeps_half UnsignedChar e = λ z h. ap (residue 64)
    (reduced_held Short z (record { from_least = omega (arith, ints, h.from_least); to_greatest = omega (arith, ints, h.to_greatest) }))
keeps_half SignedChar e = λ z h. ap (residue 64)
    (reduced_held Short z (record { from_least = omega (arith, ints, h.from_least); to_greatest = omega (arith, ints, h.to_greatest) }))
keeps_half Short e = λ z h. ap (residue 64) (reduced_held Short z h)
keeps_half from e = absurd (false≢true e)

keeps_unsigned_half : (from : Kind) → keeps from UnsignedShort ≡ true → KeepsForm from UnsignedShort
keeps_unsigned_half Char e =
    λ z h. ap (residue 64) (reduced_held UnsignedShort z
    (record { from_least = omega (arith, ints, h.from_least); to_greatest = omega (arith, ints, h.to_greatest) }))
keeps_unsigned_half UnsignedChar e =
    λ z h. ap (residue 64) (reduced_held UnsignedShort z
    (record { from_least = omega (arith, ints, h.from_least); to_greatest = omega (arith, ints, h.to_greatest) }))
keeps_unsigned_half UnsignedShort e = λ z h. ap (residue 64) (reduced_held UnsignedShort z h)
keeps_unsigned_half from e = absurd (false≢true e)

-- into an `int`, and so into an `unsigned int`
within_int : (from : Kind) → keeps from Int ≡ true → (z : ℤ) → Holds from z → residue 64 (reduced Int z) ≡ register_of from z
within_int Long e z h = absurd (false≢true e)
within_int UnsignedLong e z h = absurd (false≢true e)
within_int UnsignedInt e z h = refl
within_int Char e z h = ap (residue 64)
    (reduced_held Int z (record { from_least = omega (arith, ints, h.from_least); to_greatest = omega (arith, ints, h.to_greatest) }))
within_int UnsignedChar e z h =
    ap (residue 64) (reduced_held Int z (record { from_least = omega (arith, ints, h.from_least); to_greatest = omega (arith, ints, h.to_greatest) }))
within_int SignedChar e z h = ap (residue 64)
    (reduced_held Int z (record { from_least = omega (arith, ints, h.from_least); to_greatest = omega (arith, ints, h.to_greatest) }))
within_int Short e z h = ap (residue 64)
    (reduced_held Int z (record { from_least = omega (arith, ints, h.from_least); to_greatest = omega (arith, ints, h.to_greatest) }))
within_int UnsignedShort e z h =
    ap (residue 64) (reduced_held Int z (record { from_least = omega (arith, ints, h.from_least); to_greatest = omega (arith, ints, h.to_greatest) }))
within_int Int e z h = ap (residue 64) (reduced_held Int z h)

keeps_double : (from : Kind) → keeps from Long ≡ true → (z : ℤ) → residue 64 z ≡ register_of from z
keeps_double UnsignedInt e z = absurd (false≢true e)
keeps_double Char e z = refl
keeps_double UnsignedChar e z = refl
keeps_double SignedChar e z = refl
keeps_double Short e z = refl
keeps_double UnsignedShort e z = refl
keeps_double Int e z = refl
keeps_double Long e z = refl
keeps_double UnsignedLong e z = refl

pub keeps_law : (from to : Kind) → keeps from to ≡ true → KeepsForm from to
keeps_law from Char e = keeps_byte from e
keeps_law from UnsignedChar e = keeps_byte from e
keeps_law from SignedChar e = keeps_signed_byte from e
keeps_law from Short e = keeps_half from e
keeps_law from UnsignedShort e = keeps_unsigned_half from e
keeps_law from Int e = within_int from e
keeps_law from UnsignedInt e = λ z h. register-reduced_32 UnsignedInt refl z ∙ within_int from e z h
keeps_law from Long e = λ z h. register-reduced_64 Long refl z ∙ keeps_double from e z
keeps_law from UnsignedLong e = λ z h. register-reduced_64 UnsignedLong refl z ∙ keeps_double from e z

-- an `unsigned int` is all that changes where it becomes longer
pub loses : (from : Kind) → keeps from Long ≡ false → from ≡ UnsignedInt
loses UnsignedInt e = refl
loses Char e = absurd (false≢true (sym e))
loses UnsignedChar e = absurd (false≢true (sym e))
loses SignedChar e = absurd (false≢true (sym e))
loses Short e = absurd (false≢true (sym e))
loses UnsignedShort e = absurd (false≢true (sym e))
loses Int e = absurd (false≢true (sym e))
loses Long e = absurd (false≢true (sym e))
loses UnsignedLong e = absurd (false≢true (sym e))
