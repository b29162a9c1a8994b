-- Bitwise operators on register forms.
use Rattle.std.proofs.Common.{◌≡◌, refl, ℕ, zero, suc, ◌+◌, ◌-◌, ◌*◌, ◌/◌, ◌%◌, ◌^◌, ◌<◌, sym, ◌∙◌, ap, arith, ⊎_elim}
use Rattle.std.specs.Prelude.{ℤ, pos, bit_and, bit_or, bit_xor}
use Rattle.std.proofs.Math.Nat.{mod-lt}
use Rattle.std.proofs.lemmas.Nat.{and_block, or_block, xor_block, and_le_l, or_lt, xor_lt, div-add-mod', div_below}
use Rattle.ido_ints.specs.declared.kinds.Kind.{Kind}
use Rattle.ido_ints.specs.declared.kinds.Kind.TheVariants.{Int}
use Rattle.ido_ints.specs.Kinds.{Holds, bits_of}
use Rattle.ido_ints.specs.Operators.{bitwise}
use Rattle.ido_ints.specs.Reduction.{residue, reduced, register_of}
use Rattle.ido_ints.specs.links.Signs.{sign_extended}
use Rattle.ido_ints.proofs.Congruence.{Same_refl}
use Rattle.ido_ints.proofs.ReductionLaws.{reduced_held}
use Rattle.ido_ints.proofs.RegisterValues.{sign_extended-cases}
use Rattle.ido_ints.proofs.Registers.{residue_below, residue-Same, residue-is, register-64, register-reduced_64, register-reduced_32, sign_extended-is}

-- what the bitwise operators have in common: they work on blocks of bits apart, and keep a width
pub record Bitwise (f : ℕ → ℕ → ℕ) : Type 0 where
  pub block : (k a b r s : ℕ) → r < 2 ^ k → s < 2 ^ k → f (a * 2 ^ k + r) (b * 2 ^ k + s) ≡ f a b * 2 ^ k + f r s
  pub width : (k a b : ℕ) → a < 2 ^ k → b < 2 ^ k → f a b < 2 ^ k
  pub copies : (a b : ℕ) → a < 2 → b < 2 → f (a * (2 ^ 33 - 1)) (b * (2 ^ 33 - 1)) ≡ f a b * (2 ^ 33 - 1)

each_bit : (P : ℕ → Type 0) → P 0 → P 1 → (a : ℕ) → a < 2 → P a
each_bit P z o zero h = z
each_bit P z o (suc zero) h = o
each_bit P z o (suc (suc a)) h = absurd (omega arith)

both_bits : (P : ℕ → ℕ → Type 0) → P 0 0 → P 0 1 → P 1 0 → P 1 1 → (a b : ℕ) → a < 2 → b < 2 → P a b
both_bits P p q r s a b h k = each_bit (λ x. P x b) (each_bit (P 0) p q b k) (each_bit (P 1) r s b k) a h

pub Bitwise-and : Bitwise bit_and
Bitwise-and = record {
  block = and_block;
  width = λ k a b h _. omega (arith, and_le_l a b);
  copies = both_bits (λ a b. bit_and (a * (2 ^ 33 - 1)) (b * (2 ^ 33 - 1)) ≡ bit_and a b * (2 ^ 33 - 1)) refl refl refl refl;
}

pub Bitwise-or : Bitwise bit_or
Bitwise-or = record {
  block = or_block;
  width = or_lt;
  copies = both_bits (λ a b. bit_or (a * (2 ^ 33 - 1)) (b * (2 ^ 33 - 1)) ≡ bit_or a b * (2 ^ 33 - 1)) refl refl refl refl;
}

pub Bitwise-xor : Bitwise bit_xor
Bitwise-xor = record {
  block = xor_block;
  width = xor_lt;
  copies = both_bits (λ a b. bit_xor (a * (2 ^ 33 - 1)) (b * (2 ^ 33 - 1)) ≡ bit_xor a b * (2 ^ 33 - 1)) refl refl refl refl;
}

-- a sign extension, by blocks: the top bit of 32 and 32 copies of it, then 31 bits
extended-block : (a r : ℕ) → a < 2 → r < 2 ^ 31 → sign_extended (a * 2 ^ 31 + r) ≡ a * (2 ^ 33 - 1) * 2 ^ 31 + r
extended-block a r h k = each_bit (λ x. sign_extended (x * 2 ^ 31 + r) ≡ x * (2 ^ 33 - 1) * 2 ^ 31 + r) low high a h
  where
    low : sign_extended (0 * 2 ^ 31 + r) ≡ 0 * (2 ^ 33 - 1) * 2 ^ 31 + r
    low = ⊎_elim (λ p. omega (arith, p.0)) (λ p. absurd (omega (arith, p.1))) (sign_extended-cases (0 * 2 ^ 31 + r) (omega arith))

    high : sign_extended (1 * 2 ^ 31 + r) ≡ 1 * (2 ^ 33 - 1) * 2 ^ 31 + r
    high = ⊎_elim (λ p. absurd (omega (arith, p.1))) (λ p. omega (arith, p.0)) (sign_extended-cases (1 * 2 ^ 31 + r) (omega arith))

blocks : {f : ℕ → ℕ → ℕ} → Bitwise f → (a b r s : ℕ) → a < 2 → b < 2 → r < 2 ^ 31 → s < 2 ^ 31 →
    f (sign_extended (a * 2 ^ 31 + r)) (sign_extended (b * 2 ^ 31 + s)) ≡ sign_extended (f (a * 2 ^ 31 + r) (b * 2 ^ 31 + s))
blocks {f} w a b r s h k l m =
    (λ i. f (extended-block a r h l i) (extended-block b s k m i))
    ∙ w.block 31 (a * (2 ^ 33 - 1)) (b * (2 ^ 33 - 1)) r s l m
    ∙ ap (λ n. n * 2 ^ 31 + f r s) (w.copies a b h k)
    ∙ sym (extended-block (f a b) (f r s) (w.width 1 a b h k) (w.width 31 r s l m))
    ∙ ap sign_extended (sym (w.block 31 a b r s l m))

-- a bitwise operator of sign extensions is the sign extension of its result
pub bitwise-extended : {f : ℕ → ℕ → ℕ} → Bitwise f → (p q : ℕ) → p < 2 ^ 32 → q < 2 ^ 32 → f (sign_extended p) (sign_extended q) ≡ sign_extended (f p q)
bitwise-extended {f} w p q h k =
    let first = div-add-mod' p (2 ^ 31) in
    let second = div-add-mod' q (2 ^ 31) in
    let same = blocks w (p / 2 ^ 31) (q / 2 ^ 31) (p % 2 ^ 31) (q % 2 ^ 31) (div_below p (2 ^ 31) 2 (omega arith) h) (div_below q (2 ^ 31) 2 (omega arith) k)
    (mod-lt p (omega arith)) (mod-lt q (omega arith)) in
    sym (λ i. f (sign_extended (first i)) (sign_extended (second i))) ∙ same ∙ (λ i. sign_extended (f (first i) (second i)))

-- on `long` and `unsigned long`, a bitwise instruction gives the operator's register form
pub register-bitwise_64 : {f : ℕ → ℕ → ℕ} → Bitwise f → (c : Kind) → bits_of c ≡ 64 → (x y : ℤ) →
    register_of c (reduced c (bitwise f c x y)) ≡ f (register_of c x) (register_of c y)
register-bitwise_64 {f} w c b x y =
    let m = residue 64 x in
    let n = residue 64 y in
    register-reduced_64 c b (bitwise f c x y)
    ∙ (λ i. residue 64 (pos (f (residue (b i) x) (residue (b i) y))))
    ∙ residue-is 64 (pos (f m n)) (f m n) (w.width 64 m n (residue_below 64 x) (residue_below 64 y)) (Same_refl (2 ^ 64) (pos (f m n)))
    ∙ sym (λ i. f (register-64 c b x i) (register-64 c b y i))

extended : (c : Kind) → bits_of c ≡ 32 → (x : ℤ) → Holds c x → sign_extended (residue 32 x) ≡ register_of c x
extended c b x h = sign_extended-is (residue 32 x) x (residue-Same 32 x) ∙ sym (register-reduced_32 c b x) ∙ ap (register_of c) (reduced_held c x h)

-- on `int` and `unsigned int`, a bitwise instruction gives the operator's register form
pub register-bitwise_32 : {f : ℕ → ℕ → ℕ} → Bitwise f → (c : Kind) → bits_of c ≡ 32 → (x y : ℤ) → Holds c x → Holds c y →
    register_of c (reduced c (bitwise f c x y)) ≡ f (register_of c x) (register_of c y)
register-bitwise_32 {f} w c b x y h k =
    let m = residue 32 x in
    let n = residue 32 y in
    register-reduced_32 c b (bitwise f c x y)
    ∙ (λ i. residue 64 (reduced Int (pos (f (residue (b i) x) (residue (b i) y)))))
    ∙ sym (sign_extended-is (f m n) (pos (f m n)) (Same_refl (2 ^ 32) (pos (f m n))))
    ∙ sym (bitwise-extended w m n (residue_below 32 x) (residue_below 32 y))
    ∙ (λ i. f (extended c b x h i) (extended c b y k i))
