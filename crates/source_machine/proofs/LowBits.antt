-- Operators on the low 64 bits of their operands: what they give is the same.
use Rattle.std.proofs.Common.{◌≡◌, ◌≢◌, refl, ℕ, ◌%◌, ◌^◌, sym, ◌∙◌, ap, ap₂}
use Rattle.std.specs.Prelude.{ℤ, pos, negsuc, ◌+ℤ◌, ◌*ℤ◌, ◌-ℤ◌, neg_ℤ, int_lt, int_le, bit_and, bit_or, bit_xor, not}
use Rattle.std.specs.Int.{int_shr}
use Rattle.std.specs.Ordering.{int_eq}
use Rattle.ido_ints.specs.declared.kinds.Kind.{Kind}
use Rattle.ido_ints.specs.declared.kinds.Kind.TheVariants.{Int, Long}
use Rattle.ido_ints.specs.declared.operators.Unary as un
use Rattle.ido_ints.specs.declared.operators.Unary.TheVariants as u
use Rattle.ido_ints.specs.declared.operators.Binary as bin
use Rattle.ido_ints.specs.declared.operators.Binary.TheVariants as b
use Rattle.ido_ints.specs.Kinds.{Holds, bits_of, promoted, common_of, modulus_of}
use Rattle.ido_ints.specs.Operators.{places, unary_of, binary_of, quotient, remainder, bitwise, truth}
use Rattle.ido_ints.specs.Reduction.{residue, reduced}
use Rattle.ido_ints.specs.TypedNumbers.{Typed, typed, typed_reduced, converted}
use Rattle.ido_ints.proofs.Public.{Same, Same_refl, Same-add, Same-neg, Same-modulus, Holds-reduced, reduced-same, reduced_held, residue-Same, residue-same}
use Rattle.ido_ints.proofs.Public.{places-register, Holds-unary_number, Holds-binary_number, reduced-residue}

-- a number that its kind holds, from its low bits
whole : (k : Kind) (n : ℕ) (v : Typed) → Holds v.kind v.number → k ≡ v.kind → n ≡ residue 64 v.number → typed_reduced k (pos n) ≡ v
whole k n v h p q = (λ i. typed_reduced (p i) (pos (q i))) ∙ ap (typed v.kind) (reduced-residue v.kind v.number ∙ reduced_held v.kind v.number h)

pub whole_unary : (op : un.Unary) (v : Typed) (k : Kind) (n : ℕ) → k ≡ (unary_of op v).kind → n ≡ residue 64 (unary_of op v).number →
    typed_reduced k (pos n) ≡ unary_of op v
whole_unary op v k n p q = whole k n (unary_of op v) (Holds-unary_number op v.kind v.number) p q

pub whole_binary : (op : bin.Binary) (v w : Typed) (k : Kind) (n : ℕ) → k ≡ (binary_of op v w).kind → n ≡ residue 64 (binary_of op v w).number →
    typed_reduced k (pos n) ≡ binary_of op v w
whole_binary op v w k n p q = whole k n (binary_of op v w) (Holds-binary_number op v.kind v.number w.kind w.number) p q

pub whole_converted : (v : Typed) (to k : Kind) (n : ℕ) → k ≡ to → n ≡ residue 64 (converted v to).number → typed_reduced k (pos n) ≡ converted v to
whole_converted v to k n p q = whole k n (converted v to) (Holds-reduced to v.number) p q

-- ---- One operand

near : (k : Kind) (z : ℤ) → Same (modulus_of k) (pos (residue 64 z)) z
near k z = Same-modulus k _ z (residue-Same 64 z)

minus : (p : Kind) (z : ℤ) → reduced p (neg_ℤ (pos (residue 64 z))) ≡ reduced p (neg_ℤ z)
minus p z = reduced-same p _ _ (Same-neg (modulus_of p) _ z (near p z))

complement : (p : Kind) (z : ℤ) → reduced p (negsuc 0 -ℤ pos (residue 64 z)) ≡ reduced p (negsuc 0 -ℤ z)
complement p z = reduced-same p _ _ (Same-add (modulus_of p) (negsuc 0) (negsuc 0) (neg_ℤ (pos (residue 64 z))) (neg_ℤ z)
    (Same_refl (modulus_of p) (negsuc 0)) (Same-neg (modulus_of p) _ z (near p z)))

low_operand : (op : un.Unary) (v : Typed) → op ≢ u.Not → unary_of op (typed v.kind (pos (residue 64 v.number))) ≡ unary_of op v
low_operand u.Plus v n = ap (typed (promoted v.kind)) (reduced-residue (promoted v.kind) v.number)
low_operand u.Minus v n = ap (typed (promoted v.kind)) (minus (promoted v.kind) v.number)
low_operand u.Complement v n = ap (typed (promoted v.kind)) (complement (promoted v.kind) v.number)
low_operand u.Not v n = absurd (n refl)

pub unary_low : (op : un.Unary) (v : Typed) (k : Kind) (n : ℕ) → op ≢ u.Not → k ≡ v.kind → n ≡ residue 64 v.number →
    unary_of op (typed k (pos n)) ≡ unary_of op v
unary_low op v k n h p q = (λ i. unary_of op (typed (p i) (pos (q i)))) ∙ low_operand op v h

pub converted_low : (v : Typed) (to k : Kind) (n : ℕ) → n ≡ residue 64 v.number → converted (typed k (pos n)) to ≡ converted v to
converted_low v to k n q = ap (λ m. typed_reduced to (pos m)) q ∙ ap (typed to) (reduced-residue to v.number)

-- ---- Two operands

-- in the kind c
in_kind : (f : Kind → ℤ → ℤ → ℤ) (c : Kind) (x y : ℤ) → f c (reduced c (pos (residue 64 x))) (reduced c (pos (residue 64 y))) ≡ f c (reduced c x) (reduced c y)
in_kind f c x y = ap₂ (f c) (reduced-residue c x) (reduced-residue c y)

arithmetic : (f : Kind → ℤ → ℤ → ℤ) (v w : Typed) → let c = common_of v.kind w.kind in
    typed c (f c (reduced c (pos (residue 64 v.number))) (reduced c (pos (residue 64 w.number)))) ≡ typed c (f c (reduced c v.number) (reduced c w.number))
arithmetic f v w = let c = common_of v.kind w.kind in ap (typed c) (in_kind f c v.number w.number)

comparison : (f : Kind → ℤ → ℤ → ℤ) (v w : Typed) → let c = common_of v.kind w.kind in
    typed Int (f c (reduced c (pos (residue 64 v.number))) (reduced c (pos (residue 64 w.number)))) ≡ typed Int (f c (reduced c v.number) (reduced c w.number))
comparison f v w = let c = common_of v.kind w.kind in ap (typed Int) (in_kind f c v.number w.number)

places-residue : (k : Kind) (z : ℤ) → places k (pos (residue 64 z)) ≡ places k z
places-residue k z =
    places-register k Long (pos (residue 64 z)) ∙ ap (λ n. n % bits_of k) (residue-same 64 _ z (residue-Same 64 z)) ∙ sym (places-register k Long z)

shift : (g : ℤ → ℕ → ℤ) (v w : Typed) → let p = promoted v.kind in
    typed p (reduced p (g (reduced p (pos (residue 64 v.number))) (places p (pos (residue 64 w.number)))))
    ≡ typed p (reduced p (g (reduced p v.number) (places p w.number)))
shift g v w = let p = promoted v.kind in
    ap₂ (λ (m : ℤ) (n : ℕ). typed p (reduced p (g m n))) (reduced-residue p v.number) (places-residue p w.number)

low_operands : (op : bin.Binary) (v w : Typed) → op ≢ b.LogicalAnd → op ≢ b.LogicalOr →
    binary_of op (typed v.kind (pos (residue 64 v.number))) (typed w.kind (pos (residue 64 w.number))) ≡ binary_of op v w
low_operands b.Mul v w p q = arithmetic (λ (c : Kind) (x y : ℤ). reduced c (x *ℤ y)) v w
low_operands b.Div v w p q = arithmetic (λ (c : Kind) (x y : ℤ). reduced c (quotient x y)) v w
low_operands b.Rem v w p q = arithmetic (λ (c : Kind) (x y : ℤ). reduced c (remainder x y)) v w
low_operands b.Add v w p q = arithmetic (λ (c : Kind) (x y : ℤ). reduced c (x +ℤ y)) v w
low_operands b.Sub v w p q = arithmetic (λ (c : Kind) (x y : ℤ). reduced c (x -ℤ y)) v w
low_operands b.ShiftLeft v w p q = shift (λ (x : ℤ) (n : ℕ). x *ℤ pos (2 ^ n)) v w
low_operands b.ShiftRight v w p q = shift (λ (x : ℤ) (n : ℕ). int_shr x n) v w
low_operands b.Less v w p q = comparison (λ (c : Kind) (x y : ℤ). truth (int_lt x y)) v w
low_operands b.Greater v w p q = comparison (λ (c : Kind) (x y : ℤ). truth (int_lt y x)) v w
low_operands b.LessEqual v w p q = comparison (λ (c : Kind) (x y : ℤ). truth (int_le x y)) v w
low_operands b.GreaterEqual v w p q = comparison (λ (c : Kind) (x y : ℤ). truth (int_le y x)) v w
low_operands b.Equal v w p q = comparison (λ (c : Kind) (x y : ℤ). truth (int_eq x y)) v w
low_operands b.NotEqual v w p q = comparison (λ (c : Kind) (x y : ℤ). truth (not (int_eq x y))) v w
low_operands b.And v w p q = arithmetic (λ (c : Kind) (x y : ℤ). reduced c (bitwise bit_and c x y)) v w
low_operands b.Xor v w p q = arithmetic (λ (c : Kind) (x y : ℤ). reduced c (bitwise bit_xor c x y)) v w
low_operands b.Or v w p q = arithmetic (λ (c : Kind) (x y : ℤ). reduced c (bitwise bit_or c x y)) v w
low_operands b.LogicalAnd v w p q = absurd (p refl)
low_operands b.LogicalOr v w p q = absurd (q refl)

pub binary_low : (op : bin.Binary) (v w : Typed) (j k : Kind) (m n : ℕ) → op ≢ b.LogicalAnd → op ≢ b.LogicalOr →
    j ≡ v.kind → m ≡ residue 64 v.number → k ≡ w.kind → n ≡ residue 64 w.number → binary_of op (typed j (pos m)) (typed k (pos n)) ≡ binary_of op v w
binary_low op v w j k m n h l p q r s = (λ i. binary_of op (typed (p i) (pos (q i))) (typed (r i) (pos (s i)))) ∙ low_operands op v w h l

-- where the right operand's number is one of those from 0 up to what 64 bits hold
pub low_left : (op : bin.Binary) (v w : Typed) (j : Kind) (m : ℕ) → op ≢ b.LogicalAnd → op ≢ b.LogicalOr → j ≡ v.kind → m ≡ residue 64 v.number →
    w ≡ typed w.kind (pos (residue 64 w.number)) → binary_of op (typed j (pos m)) w ≡ binary_of op v w
low_left op v w j m h l p q is =
    ap (binary_of op (typed j (pos m))) is ∙ binary_low op v w j w.kind m (residue 64 w.number) h l p q refl refl
