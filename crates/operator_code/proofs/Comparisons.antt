-- Orders of register forms, and the instructions of comparisons.
use Rattle.std.proofs.Common.{◌≡◌, refl, ℕ, suc, ◌+◌, ◌-◌, ◌%◌, ◌^◌, ◌<◌, ap, ◌∙◌, subst, arith, Bool, true, false}
use Rattle.std.specs.Prelude.{ℤ, pos, negsuc, neg_ℤ, ◌≤ℤ◌, ◌<ℤ◌, nat_lt, not, ◌==◌, int_lt, int_le, IfSome, if◌then◌else◌}
use Rattle.std.specs.Ordering.{int_eq}
use Rattle.std.proofs.lemmas.Int.{ints}
use Rattle.std.proofs.lemmas.Bool.{false≢true}
use Rattle.std.proofs.lemmas.Bool.Decides.{nat_tests, same_from_decides, Decides-like, Decides-ltb, Decides-int_eq, Decides-eqb}
use Rattle.std.proofs.Math.Nat.{mod-eq_of_lt}
use Rattle.ido_ints.specs.declared.kinds.Kind.{Kind}
use Rattle.ido_ints.specs.declared.kinds.Kind.TheVariants.{Char, UnsignedChar, SignedChar, Short, UnsignedShort, Int, UnsignedInt, Long, UnsignedLong}
use Rattle.ido_ints.specs.declared.operators.Binary.{Binary}
use Rattle.ido_ints.specs.declared.operators.Binary.TheVariants.{Less, Greater, LessEqual, GreaterEqual, Equal, NotEqual}
use Rattle.ido_ints.specs.Kinds.{Holds, bits_of, is_signed, common_of}
use Rattle.ido_ints.specs.Operators.{truth, is_zero}
use Rattle.ido_ints.specs.Reduction.{residue, reduced, register_of}
use Rattle.ido_ints.proofs.Public.{Holds-reduced, register_injective, register-lt}
use Rattle.rv64_isa.specs.declared.instr.Condition.{Condition}
use Rattle.rv64_isa.specs.declared.instr.Condition.TheVariants.{Beq, Bne, Blt, Bge, Bltu, Bgeu}
use Rattle.rv64_isa.specs.Rows.{read}
use Rattle.rv64_isa.specs.Arithmetic.{signed_less, is_taken}
use Rattle.operator_code.specs.declared.operation.BinaryOperation.{BinaryOperation}
use Rattle.operator_code.specs.ComputingCode.{IsComparison, IsNonzero, left_kind}
use Rattle.operator_code.specs.links.OperatorInstructions.{below, not_below, made, test_of}
use Rattle.operator_code.proofs.Residues.{residue_pos, residue_negsuc}
use Rattle.operator_code.proofs.UnaryOperators.{is_zero_form}

-- ---- Order

same_lt : (a b m n : ℕ) → (a < b → m < n) → (m < n → a < b) → nat_lt a b ≡ nat_lt m n
same_lt a b m n to from = same_from_decides (nat_lt a b) (nat_lt m n) (Decides-like (nat_lt a b) to from (Decides-ltb a b)) (Decides-ltb m n)

raised_pos : (n : ℕ) → n < 2 ^ 63 → (residue 64 (pos n) + 2 ^ 63) % 2 ^ 64 ≡ n + 2 ^ 63
raised_pos n h = ap (λ (m : ℕ). (m + 2 ^ 63) % 2 ^ 64) (residue_pos 64 n (omega (arith, h))) ∙ mod-eq_of_lt (omega (arith, h))

raised_negsuc : (n : ℕ) → n < 2 ^ 63 → (residue 64 (negsuc n) + 2 ^ 63) % 2 ^ 64 ≡ 2 ^ 63 - suc n
raised_negsuc n h = ap (λ (m : ℕ). (m + 2 ^ 63) % 2 ^ 64) (residue_negsuc 64 n (omega (arith, h))) ∙ omega (arith, h)

record Within (z : ℤ) : Type 0 where
  least : neg_ℤ (pos (2 ^ 63)) ≤ℤ z
  greatest : z <ℤ pos (2 ^ 63)

signed_order : (x y : ℤ) → Within x → Within y → signed_less (residue 64 x) (residue 64 y) ≡ int_lt x y
signed_order (pos a) (pos b) h k =
    let ha : a < 2 ^ 63 = omega (arith, ints, h.greatest) in
    let hb : b < 2 ^ 63 = omega (arith, ints, k.greatest) in
    (λ i. nat_lt (raised_pos a ha i) (raised_pos b hb i)) ∙ same_lt (a + 2 ^ 63) (b + 2 ^ 63) a b (λ l. omega (arith, l)) (λ l. omega (arith, l))
signed_order (pos a) (negsuc b) h k =
    let ha : a < 2 ^ 63 = omega (arith, ints, h.greatest) in
    let hb : b < 2 ^ 63 = omega (arith, ints, k.least) in
    (λ i. nat_lt (raised_pos a ha i) (raised_negsuc b hb i)) ∙ grind (arith, nat_tests)
signed_order (negsuc a) (pos b) h k =
    let ha : a < 2 ^ 63 = omega (arith, ints, h.least) in
    let hb : b < 2 ^ 63 = omega (arith, ints, k.greatest) in
    (λ i. nat_lt (raised_negsuc a ha i) (raised_pos b hb i)) ∙ grind (arith, nat_tests)
signed_order (negsuc a) (negsuc b) h k =
    let ha : a < 2 ^ 63 = omega (arith, ints, h.least) in
    let hb : b < 2 ^ 63 = omega (arith, ints, k.least) in
    (λ i. nat_lt (raised_negsuc a ha i) (raised_negsuc b hb i)) ∙
    same_lt (2 ^ 63 - suc a) (2 ^ 63 - suc b) b a (λ l. omega (arith, l, ha, hb)) (λ l. omega (arith, l, ha, hb))

-- the register forms of a signed kind are ordered as signed
pub order_signed : (c : Kind) → is_signed c ≡ true → (x y : ℤ) → Holds c x → Holds c y → signed_less (register_of c x) (register_of c y) ≡ int_lt x y
order_signed SignedChar s x y h k = signed_order x y
    (record { least = omega (arith, ints, h.from_least); greatest = omega (arith, ints, h.to_greatest) })
    (record { least = omega (arith, ints, k.from_least); greatest = omega (arith, ints, k.to_greatest) })
order_signed Short s x y h k = signed_order x y
    (record { least = omega (arith, ints, h.from_least); greatest = omega (arith, ints, h.to_greatest) })
    (record { least = omega (arith, ints, k.from_least); greatest = omega (arith, ints, k.to_greatest) })
order_signed Int s x y h k = signed_order x y
    (record { least = omega (arith, ints, h.from_least); greatest = omega (arith, ints, h.to_greatest) })
    (record { least = omega (arith, ints, k.from_least); greatest = omega (arith, ints, k.to_greatest) })
order_signed Long s x y h k = signed_order x y
    (record { least = omega (arith, ints, h.from_least); greatest = omega (arith, ints, h.to_greatest) })
    (record { least = omega (arith, ints, k.from_least); greatest = omega (arith, ints, k.to_greatest) })
order_signed Char s x y h k = absurd (false≢true s)
order_signed UnsignedChar s x y h k = absurd (false≢true s)
order_signed UnsignedShort s x y h k = absurd (false≢true s)
order_signed UnsignedInt s x y h k = absurd (false≢true s)
order_signed UnsignedLong s x y h k = absurd (false≢true s)

-- an unsigned kind's numbers are at least 0
pub from_0 : (c : Kind) → is_signed c ≡ false → (z : ℤ) → Holds c z → pos 0 ≤ℤ z
from_0 c s z h = subst (λ (b : Bool). (if b then neg_ℤ (pos (2 ^ (bits_of c - 1))) else pos 0) ≤ℤ z) s h.from_least

-- register forms of an unsigned kind are ordered, as unsigned, like their numbers
pub order_unsigned : (c : Kind) → is_signed c ≡ false → (x y : ℤ) → Holds c x → Holds c y → nat_lt (register_of c x) (register_of c y) ≡ int_lt x y
order_unsigned c s (pos a) (pos b) h k = register-lt c s a b h k
order_unsigned c s (pos a) (negsuc b) h k = let low : pos 0 ≤ℤ negsuc b = from_0 c s (negsuc b) k in absurd (omega (arith, ints, low))
order_unsigned c s (negsuc a) y h k = let low : pos 0 ≤ℤ negsuc a = from_0 c s (negsuc a) h in absurd (omega (arith, ints, low))

below_is : (c : Kind) (x y : ℤ) → Holds c x → Holds c y → is_taken (below c) (register_of c x) (register_of c y) ≡ int_lt x y
unfolding is_taken
below_is c x y h k = by (is_signed c) refl
  where
    by : (t : Bool) → is_signed c ≡ t → is_taken (if t then Blt else Bltu) (register_of c x) (register_of c y) ≡ int_lt x y
    by true e = order_signed c e x y h k
    by false e = order_unsigned c e x y h k

not_lt : (x y : ℤ) → not (int_lt y x) ≡ int_le x y
not_lt (pos a) (pos b) = grind (arith, nat_tests)
not_lt (pos a) (negsuc b) = refl
not_lt (negsuc a) (pos b) = refl
not_lt (negsuc a) (negsuc b) = grind (arith, nat_tests)

not_below_is : (c : Kind) (x y : ℤ) → Holds c x → Holds c y → is_taken (not_below c) (register_of c x) (register_of c y) ≡ int_le y x
unfolding is_taken
not_below_is c x y h k = by (is_signed c) refl ∙ not_lt y x
  where
    by : (t : Bool) → is_signed c ≡ t → is_taken (if t then Bge else Bgeu) (register_of c x) (register_of c y) ≡ not (int_lt x y)
    by true e = ap not (order_signed c e x y h k)
    by false e = ap not (order_unsigned c e x y h k)

equal_is : (c : Kind) (x y : ℤ) → Holds c x → Holds c y → (register_of c x == register_of c y) ≡ int_eq x y
equal_is c x y h k = same_from_decides (register_of c x == register_of c y) (int_eq x y)
    (Decides-like (register_of c x == register_of c y) (λ e. register_injective c x y h k e) (λ e. ap (register_of c) e)
    (Decides-eqb (register_of c x) (register_of c y)))
    (Decides-int_eq x y)

beq_is : (c : Kind) (x y : ℤ) → Holds c x → Holds c y → is_taken Beq (register_of c x) (register_of c y) ≡ int_eq x y
unfolding is_taken
beq_is c x y h k = equal_is c x y h k

bne_is : (c : Kind) (x y : ℤ) → Holds c x → Holds c y → is_taken Bne (register_of c x) (register_of c y) ≡ not (int_eq x y)
unfolding is_taken
bne_is c x y h k = ap not (equal_is c x y h k)

truth_nonzero : (b : Bool) → b ≡ not (is_zero (truth b))
truth_nonzero true = refl
truth_nonzero false = refl

-- ---- Tests

abbrev pub with_kinds : Binary → (left right : Kind) → BinaryOperation
with_kinds operator j k = record { operator = operator; left = j; right = k }

-- what a condition says of the operands
taken_by : (condition : Condition) (c : Kind) (first second : ℕ) (x y : ℤ) (t : Bool) → first ≡ register_of c x → second ≡ register_of c y →
    is_taken condition (register_of c x) (register_of c y) ≡ t → is_taken condition first second ≡ not (is_zero (truth t))
taken_by condition c first second x y t e f h = (λ i. is_taken condition (e i) (f i)) ∙ h ∙ truth_nonzero t

pub compared : (operator : Binary) (j k : Kind) (r s : ℕ) →
    IfSome (test_of operator (left_kind (with_kinds operator j k)) r s) (λ t. IsComparison (with_kinds operator j k) r s t)
compared Less j k r s = record {
  taken = λ x a b at. let c : Kind = common_of j k in
      taken_by (below c) c _ _ (reduced c a) (reduced c b) _ at.left at.right (below_is c (reduced c a) (reduced c b) (Holds-reduced c a) (Holds-reduced c b));
}
compared Greater j k r s = record {
  taken = λ x a b at. let c : Kind = common_of j k in
      taken_by (below c) c _ _ (reduced c b) (reduced c a) _ at.right at.left (below_is c (reduced c b) (reduced c a) (Holds-reduced c b) (Holds-reduced c a));
}
compared LessEqual j k r s = record {
  taken = λ x a b at. let c : Kind = common_of j k in
      taken_by (not_below c) c _ _ (reduced c b) (reduced c a) _ at.right at.left
      (not_below_is c (reduced c b) (reduced c a) (Holds-reduced c b) (Holds-reduced c a));
}
compared GreaterEqual j k r s = record {
  taken = λ x a b at. let c : Kind = common_of j k in
      taken_by (not_below c) c _ _ (reduced c a) (reduced c b) _ at.left at.right
      (not_below_is c (reduced c a) (reduced c b) (Holds-reduced c a) (Holds-reduced c b));
}
compared Equal j k r s = record {
  taken = λ x a b at. let c : Kind = common_of j k in
      taken_by Beq c _ _ (reduced c a) (reduced c b) _ at.left at.right (beq_is c (reduced c a) (reduced c b) (Holds-reduced c a) (Holds-reduced c b));
}
compared NotEqual j k r s = record {
  taken = λ x a b at. let c : Kind = common_of j k in
      taken_by Bne c _ _ (reduced c a) (reduced c b) _ at.left at.right (bne_is c (reduced c a) (reduced c b) (Holds-reduced c a) (Holds-reduced c b));
}
compared operator j k r s = tt

pub nonzero_where : (kind : Kind) (r : ℕ) → IsNonzero kind r (made Bne r 0)
unfolding is_taken
nonzero_where kind r = record {
  taken = λ x are z carried.
      ap (λ (n : ℕ). not (read x r == n)) are.zero_is ∙ ap (λ (n : ℕ). not (n == 0)) carried.form ∙ ap not (is_zero_form kind z carried.held);
}
