-- Sums, differences, products and bits: the low bits of the result are those of the low bits of the operands.
use Rattle.std.proofs.Common.{◌≡◌, refl, ℕ, ◌+◌, ◌-◌, ◌*◌, ◌%◌, ◌^◌, ap, sym, ◌∙◌, subst, arith, true, ◌⊎◌, inl, inr}
use Rattle.std.specs.Prelude.{ℤ, pos, ◌+ℤ◌, ◌-ℤ◌, ◌*ℤ◌, unsigned_abs, bit_and, bit_or, bit_xor, if◌then◌else◌, ◌==◌}
use Rattle.std.specs.Int.{int_rem_euclid}
use Rattle.ido_ints.specs.declared.kinds.Kind.{Kind}
use Rattle.ido_ints.specs.declared.kinds.Kind.TheVariants.{Char, UnsignedChar, SignedChar, Short, UnsignedShort, Int, UnsignedInt, Long, UnsignedLong}
use Rattle.ido_ints.specs.Kinds.{Holds, bits_of, promoted, common_of}
use Rattle.ido_ints.specs.Operators.{bitwise, places, shifted_left}
use Rattle.ido_ints.specs.Reduction.{reduced, register_of}
use Rattle.ido_ints.proofs.Public.{Same, Same_trans, Same-factor, rem_euclid-mod, Same-reduced, each_promoted, promoted-common_of, reduced-promoted}
use Rattle.ido_ints.proofs.Public.{register-add_64, register-add_32, register-sub_64, register-sub_32, register-mul_64, register-mul_32, register-scale_64}
use Rattle.ido_ints.proofs.Public.{register-scale_32, Bitwise, Bitwise-and, Bitwise-or, Bitwise-xor, register-bitwise_64, register-bitwise_32}
use Rattle.rv64_isa.specs.declared.instr.Operation as Codes
use Rattle.rv64_isa.specs.declared.instr.Operation.{Operation}
use Rattle.rv64_isa.specs.Arithmetic.{result_of, word_result}
use Rattle.operator_code.specs.links.OperatorInstructions.{by_width, keeps}
use Rattle.operator_code.proofs.RegisterExtensions.{word_is, low_32, keeps_law}

-- ---- The width of a kind that is computed in

abbrev pub Wide : Kind → Type 0
Wide k = (bits_of k ≡ 64) ⊎ (bits_of k ≡ 32)

pub promoted_wide : (k : Kind) → Wide (promoted k)
promoted_wide k = each_promoted Wide (inr refl) (inr refl) (inl refl) (inl refl) k

pub common_wide : (j k : Kind) → Wide (common_of j k)
common_wide j k = subst Wide (promoted-common_of j k) (promoted_wide (common_of j k))

pub is_double : (k : Kind) (double word : Operation) → bits_of k ≡ 64 → by_width k double word ≡ double
is_double k double word w = ap (λ (n : ℕ). if n == 64 then double else word) w

pub is_word : (k : Kind) (double word : Operation) → bits_of k ≡ 32 → by_width k double word ≡ word
is_word k double word w = ap (λ (n : ℕ). if n == 64 then double else word) w

-- ---- Sums, differences and products

pub add_is : (c : Kind) → Wide c → (x y : ℤ) → result_of (by_width c Codes.TheVariants.Add Codes.TheVariants.Addw) (register_of c x) (register_of c y) ≡
    register_of c (reduced c (x +ℤ y))
unfolding result_of
add_is c (inl w) x y =
    ap (λ (i : Operation). result_of i (register_of c x) (register_of c y)) (is_double c Codes.TheVariants.Add Codes.TheVariants.Addw w) ∙
    sym (register-add_64 c w x y)
add_is c (inr w) x y =
    ap (λ (i : Operation). result_of i (register_of c x) (register_of c y)) (is_word c Codes.TheVariants.Add Codes.TheVariants.Addw w) ∙
    word_is (register_of c x + register_of c y) ∙ sym (register-add_32 c w x y)

pub sub_is : (c : Kind) → Wide c → (x y : ℤ) → result_of (by_width c Codes.TheVariants.Sub Codes.TheVariants.Subw) (register_of c x) (register_of c y) ≡
    register_of c (reduced c (x -ℤ y))
unfolding result_of
sub_is c (inl w) x y =
    ap (λ (i : Operation). result_of i (register_of c x) (register_of c y)) (is_double c Codes.TheVariants.Sub Codes.TheVariants.Subw w) ∙
    sym (register-sub_64 c w x y)
sub_is c (inr w) x y =
    ap (λ (i : Operation). result_of i (register_of c x) (register_of c y)) (is_word c Codes.TheVariants.Sub Codes.TheVariants.Subw w) ∙
    word_is (register_of c x + (2 ^ 64 - register_of c y)) ∙ sym (register-sub_32 c w x y)

pub mul_is : (c : Kind) → Wide c → (x y : ℤ) → result_of (by_width c Codes.TheVariants.Mul Codes.TheVariants.Mulw) (register_of c x) (register_of c y) ≡
    register_of c (reduced c (x *ℤ y))
unfolding result_of
mul_is c (inl w) x y =
    ap (λ (i : Operation). result_of i (register_of c x) (register_of c y)) (is_double c Codes.TheVariants.Mul Codes.TheVariants.Mulw w) ∙
    sym (register-mul_64 c w x y)
mul_is c (inr w) x y =
    ap (λ (i : Operation). result_of i (register_of c x) (register_of c y)) (is_word c Codes.TheVariants.Mul Codes.TheVariants.Mulw w) ∙
    word_is (register_of c x * register_of c y) ∙ sym (register-mul_32 c w x y)

-- ---- Bits

bits_are : {f : ℕ → ℕ → ℕ} → Bitwise f → (c : Kind) → Wide c → (x y : ℤ) → Holds c x → Holds c y →
    f (register_of c x) (register_of c y) ≡ register_of c (reduced c (bitwise f c x y))
bits_are b c (inl w) x y h k = sym (register-bitwise_64 b c w x y)
bits_are b c (inr w) x y h k = sym (register-bitwise_32 b c w x y h k)

pub and_is : (c : Kind) → Wide c → (x y : ℤ) → Holds c x → Holds c y →
    result_of Codes.TheVariants.And (register_of c x) (register_of c y) ≡ register_of c (reduced c (bitwise bit_and c x y))
unfolding result_of
and_is c w x y h k = bits_are Bitwise-and c w x y h k

pub or_is : (c : Kind) → Wide c → (x y : ℤ) → Holds c x → Holds c y →
    result_of Codes.TheVariants.Or (register_of c x) (register_of c y) ≡ register_of c (reduced c (bitwise bit_or c x y))
unfolding result_of
or_is c w x y h k = bits_are Bitwise-or c w x y h k

pub xor_is : (c : Kind) → Wide c → (x y : ℤ) → Holds c x → Holds c y →
    result_of Codes.TheVariants.Xor (register_of c x) (register_of c y) ≡ register_of c (reduced c (bitwise bit_xor c x y))
unfolding result_of
xor_is c w x y h k = bits_are Bitwise-xor c w x y h k

-- ---- Shifts to the left

by_64 : (k : Kind) (b : ℤ) → Same 64 (reduced k b) b
by_64 Char b = Same-factor 64 4 _ _ (Same-reduced Char b)
by_64 UnsignedChar b = Same-factor 64 4 _ _ (Same-reduced UnsignedChar b)
by_64 SignedChar b = Same-factor 64 4 _ _ (Same-reduced SignedChar b)
by_64 Short b = Same-factor 64 1024 _ _ (Same-reduced Short b)
by_64 UnsignedShort b = Same-factor 64 1024 _ _ (Same-reduced UnsignedShort b)
by_64 Int b = Same-factor 64 67108864 _ _ (Same-reduced Int b)
by_64 UnsignedInt b = Same-factor 64 67108864 _ _ (Same-reduced UnsignedInt b)
by_64 Long b = Same-factor 64 288230376151711744 _ _ (Same-reduced Long b)
by_64 UnsignedLong b = Same-factor 64 288230376151711744 _ _ (Same-reduced UnsignedLong b)

count_same : (k : Kind) (b : ℤ) → Same 64 (pos (register_of k (reduced k b))) b
count_same k b = Same_trans 64 _ (reduced k b) b (Same-factor 64 67108864 _ _ (low_32 k (reduced k b))) (by_64 k b)

-- the count's low bits in a register of any kind
pub count_64 : (c k : Kind) (b : ℤ) → bits_of c ≡ 64 → register_of k (reduced k b) % 64 ≡ places c b
count_64 c k b w =
    let P : ℕ → Type 0 = λ n. register_of k (reduced k b) % 64 ≡ unsigned_abs (int_rem_euclid b (pos n)) in
    subst P (sym w) (sym (rem_euclid-mod b (register_of k (reduced k b)) 64 (omega arith) (count_same k b)))

pub count_32 : (c k : Kind) (b : ℤ) → bits_of c ≡ 32 → register_of k (reduced k b) % 32 ≡ places c b
count_32 c k b w =
    let P : ℕ → Type 0 = λ n. register_of k (reduced k b) % 32 ≡ unsigned_abs (int_rem_euclid b (pos n)) in
    subst P (sym w) (sym (rem_euclid-mod b (register_of k (reduced k b)) 32 (omega arith) (Same-factor 32 2 _ _ (count_same k b))))

pub left_is : (c k : Kind) → Wide c → (x b : ℤ) →
    result_of (by_width c Codes.TheVariants.Sll Codes.TheVariants.Sllw) (register_of c x) (register_of k (reduced k b)) ≡
    register_of c (reduced c (shifted_left c x b))
unfolding result_of
left_is c k (inl w) x b =
    ap (λ (i : Operation). result_of i (register_of c x) (register_of k (reduced k b))) (is_double c Codes.TheVariants.Sll Codes.TheVariants.Sllw w) ∙
    ap (λ (n : ℕ). register_of c x * 2 ^ n % 2 ^ 64) (count_64 c k b w) ∙ sym (register-scale_64 c w x (2 ^ places c b))
left_is c k (inr w) x b =
    ap (λ (i : Operation). result_of i (register_of c x) (register_of k (reduced k b))) (is_word c Codes.TheVariants.Sll Codes.TheVariants.Sllw w) ∙
    ap (λ (n : ℕ). word_result (register_of c x * 2 ^ n)) (count_32 c k b w) ∙
    word_is (register_of c x * 2 ^ places c b) ∙ sym (register-scale_32 c w x (2 ^ places c b))

-- ---- Promotion

promotes : (k : Kind) → keeps k (promoted k) ≡ true
promotes Char = refl
promotes UnsignedChar = refl
promotes SignedChar = refl
promotes Short = refl
promotes UnsignedShort = refl
promotes Int = refl
promotes UnsignedInt = refl
promotes Long = refl
promotes UnsignedLong = refl

-- promotion keeps register forms
pub promoted_form : (k : Kind) (z : ℤ) → Holds k z → register_of (promoted k) z ≡ register_of k z
promoted_form k z h = sym (ap (register_of (promoted k)) (reduced-promoted k z h)) ∙ keeps_law k (promoted k) (promotes k) z h
