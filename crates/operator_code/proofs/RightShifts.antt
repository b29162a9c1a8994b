-- Shifts to the right.
use Rattle.std.proofs.Common.{◌≡◌, refl, ℕ, suc, ◌-◌, ◌/◌, ◌%◌, ◌^◌, ◌<◌, ◌≤◌, ap, sym, ◌∙◌, arith, Bool, true, false, cond, inl, inr}
use Rattle.std.specs.Prelude.{ℤ, pos, negsuc, if◌then◌else◌}
use Rattle.std.specs.Int.{int_shr}
use Rattle.std.proofs.Math.Nat.{div-le_self}
use Rattle.std.proofs.lemmas.Int.{ints}
use Rattle.ido_ints.specs.declared.kinds.Kind.{Kind}
use Rattle.ido_ints.specs.Kinds.{Holds, bits_of, is_signed}
use Rattle.ido_ints.specs.Operators.{places, shifted_right}
use Rattle.ido_ints.specs.Reduction.{residue, reduced, register_of}
use Rattle.ido_ints.proofs.Public.{register-64, register-reduced_64}
use Rattle.rv64_isa.specs.declared.instr.Operation as Codes
use Rattle.rv64_isa.specs.declared.instr.Operation.{Operation}
use Rattle.rv64_isa.specs.Arithmetic.{result_of, shifted_arithmetic, word_result}
use Rattle.operator_code.specs.links.OperatorInstructions.{by_width, by_sign}
use Rattle.operator_code.proofs.Residues.{residue_pos, residue_negsuc, low_word, word_of_residue}
use Rattle.operator_code.proofs.SignCases.{Halves, halves_64, halves_32, InHalf, in_half_of, IsNatural, natural_of, negative_is}
use Rattle.operator_code.proofs.WrappingArithmetic.{Wide, is_double, is_word, count_64, count_32}

-- a residue, shifted with copies of its sign
shifted_residue : (w h : ℕ) (z : ℤ) (p : ℕ) → Halves w h → InHalf h z → shifted_arithmetic w (residue w z) p ≡ residue w (int_shr z p)
shifted_residue w h (pos n) p g k =
    let small : n < h = omega (arith, ints, k.greatest) in
    let fits : n < 2 ^ w = omega (arith, small, g.whole) in
    let least : n / 2 ^ p ≤ n = div-le_self n (2 ^ p) in
    ap (λ (b : Bool). cond b (2 ^ w - 1 - (2 ^ w - 1 - residue w (pos n)) / 2 ^ p) (residue w (pos n) / 2 ^ p)) (negative_is w h (pos n) g k) ∙
    ap (λ (m : ℕ). m / 2 ^ p) (residue_pos w n fits) ∙ sym (residue_pos w (n / 2 ^ p) (omega (arith, fits, least)))
shifted_residue w h (negsuc n) p g k =
    let small : suc n ≤ h = omega (arith, ints, k.least) in
    let fits : suc n ≤ 2 ^ w = omega (arith, small, g.whole) in
    let least : n / 2 ^ p ≤ n = div-le_self n (2 ^ p) in
    let turned : 2 ^ w - 1 - (2 ^ w - suc n) ≡ n = omega (arith, fits) in
    ap (λ (b : Bool). cond b (2 ^ w - 1 - (2 ^ w - 1 - residue w (negsuc n)) / 2 ^ p) (residue w (negsuc n) / 2 ^ p)) (negative_is w h (negsuc n) g k) ∙
    ap (λ (m : ℕ). 2 ^ w - 1 - (2 ^ w - 1 - m) / 2 ^ p) (residue_negsuc w n fits) ∙
    ap (λ (m : ℕ). 2 ^ w - 1 - m / 2 ^ p) turned ∙
    (let e : 2 ^ w - 1 - n / 2 ^ p ≡ 2 ^ w - suc (n / 2 ^ p) = omega arith in e) ∙
    sym (residue_negsuc w (n / 2 ^ p) (omega (arith, fits, least)))

natural_shifted : (w n p : ℕ) → n < 2 ^ w → residue w (int_shr (pos n) p) ≡ n / 2 ^ p
natural_shifted w n p fits = residue_pos w (n / 2 ^ p) (let least : n / 2 ^ p ≤ n = div-le_self n (2 ^ p) in omega (arith, fits, least))

right_double : (c : Kind) → bits_of c ≡ 64 → (x : ℤ) (p : ℕ) → Holds c x → (count : ℕ) → count % 64 ≡ p → (s : Bool) → is_signed c ≡ s →
    result_of (if s then Codes.TheVariants.Sra else Codes.TheVariants.Srl) (register_of c x) count ≡ register_of c (reduced c (int_shr x p))
unfolding result_of
right_double c w x p h count e true s =
    (λ i. shifted_arithmetic 64 (register-64 c w x i) (e i)) ∙ shifted_residue 64 (2 ^ 63) x p halves_64 (in_half_of 64 c w s x h) ∙
    sym (register-reduced_64 c w (int_shr x p))
right_double c w x p h count e false s =
    let n : IsNatural 64 x = natural_of 64 c w s x h in
    (λ i. register-64 c w x i / 2 ^ e i) ∙
    ap (λ (y : ℤ). residue 64 y / 2 ^ p) n.is ∙ ap (λ (m : ℕ). m / 2 ^ p) (residue_pos 64 n.number n.small) ∙
    sym (natural_shifted 64 n.number p n.small) ∙ sym (ap (λ (y : ℤ). residue 64 (int_shr y p)) n.is) ∙ sym (register-reduced_64 c w (int_shr x p))

right_word : (c : Kind) → bits_of c ≡ 32 → (x : ℤ) (p : ℕ) → Holds c x → (count : ℕ) → count % 32 ≡ p → (s : Bool) → is_signed c ≡ s →
    result_of (if s then Codes.TheVariants.Sraw else Codes.TheVariants.Srlw) (register_of c x) count ≡ register_of c (reduced c (int_shr x p))
unfolding result_of
right_word c w x p h count e true s =
    (λ i. word_result (shifted_arithmetic 32 (low_word c x i) (e i))) ∙
    ap word_result (shifted_residue 32 (2 ^ 31) x p halves_32 (in_half_of 32 c w s x h)) ∙ word_of_residue c w (int_shr x p)
right_word c w x p h count e false s =
    let n : IsNatural 32 x = natural_of 32 c w s x h in
    (λ i. word_result (low_word c x i / 2 ^ e i)) ∙
    ap (λ (y : ℤ). word_result (residue 32 y / 2 ^ p)) n.is ∙ ap (λ (m : ℕ). word_result (m / 2 ^ p)) (residue_pos 32 n.number n.small) ∙
    sym (ap word_result (natural_shifted 32 n.number p n.small)) ∙ sym (ap (λ (y : ℤ). word_result (residue 32 (int_shr y p))) n.is) ∙
    word_of_residue c w (int_shr x p)

pub right_is : (c k : Kind) → Wide c → (x b : ℤ) → Holds c x →
    result_of (by_width c (by_sign c Codes.TheVariants.Sra Codes.TheVariants.Srl) (by_sign c Codes.TheVariants.Sraw Codes.TheVariants.Srlw))
    (register_of c x) (register_of k (reduced k b)) ≡ register_of c (reduced c (shifted_right c x b))
right_is c k (inl w) x b h =
    ap (λ (i : Operation). result_of i (register_of c x) (register_of k (reduced k b)))
    (is_double c (by_sign c Codes.TheVariants.Sra Codes.TheVariants.Srl) (by_sign c Codes.TheVariants.Sraw Codes.TheVariants.Srlw) w) ∙
    right_double c w x (places c b) h (register_of k (reduced k b)) (count_64 c k b w) (is_signed c) refl
right_is c k (inr w) x b h =
    ap (λ (i : Operation). result_of i (register_of c x) (register_of k (reduced k b)))
    (is_word c (by_sign c Codes.TheVariants.Sra Codes.TheVariants.Srl) (by_sign c Codes.TheVariants.Sraw Codes.TheVariants.Srlw) w) ∙
    right_word c w x (places c b) h (register_of k (reduced k b)) (count_32 c k b w) (is_signed c) refl
