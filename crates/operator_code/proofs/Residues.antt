-- Residues of numbers of either sign.
use Rattle.std.proofs.Common.{◌≡◌, ℕ, suc, ◌-◌, ◌%◌, ◌^◌, ◌<◌, ◌≤◌, sym, ◌∙◌, arith}
use Rattle.std.specs.Prelude.{ℤ, pos, negsuc, neg_ℤ}
use Rattle.std.proofs.Math.Nat.{mod-lt}
use Rattle.std.proofs.lemmas.Nat.{pow_pos}
use Rattle.std.proofs.lemmas.Int.{ints}
use Rattle.ido_ints.specs.declared.kinds.Kind.{Kind}
use Rattle.ido_ints.specs.Kinds.{bits_of}
use Rattle.ido_ints.specs.Reduction.{residue, reduced, register_of}
use Rattle.ido_ints.proofs.Public.{Same_refl, Same_trans, Same-mod, residue-is, residue-Same, register-reduced_32}
use Rattle.rv64_isa.specs.Arithmetic.{word_result}
use Rattle.operator_code.proofs.RegisterExtensions.{low_32, word_form}

pub residue_pos : (w n : ℕ) → n < 2 ^ w → residue w (pos n) ≡ n
residue_pos w n h = residue-is w (pos n) n h (Same_refl (2 ^ w) (pos n))

pub residue_negsuc : (w n : ℕ) → suc n ≤ 2 ^ w → residue w (negsuc n) ≡ 2 ^ w - suc n
residue_negsuc w n h = residue-is w (negsuc n) (2 ^ w - suc n) (omega (arith, h)) (record { more = 0; less = 1; sums = omega (arith, ints, h) })

pub residue_neg : (w n : ℕ) → n ≤ 2 ^ w → residue w (neg_ℤ (pos n)) ≡ (2 ^ w - n) % 2 ^ w
residue_neg w n h = residue-is w (neg_ℤ (pos n)) ((2 ^ w - n) % 2 ^ w) (mod-lt (2 ^ w - n) (pow_pos w))
    (Same_trans (2 ^ w) _ (pos (2 ^ w - n)) _ (Same-mod (2 ^ w - n) (2 ^ w)) (record { more = 0; less = 1; sums = omega (arith, ints, h) }))

-- the low 32 bits of a register form
pub low_word : (c : Kind) (x : ℤ) → register_of c x % 2 ^ 32 ≡ residue 32 x
low_word c x = sym (residue-is 32 x (register_of c x % 2 ^ 32) (mod-lt (register_of c x) (pow_pos 32))
    (Same_trans (2 ^ 32) _ (pos (register_of c x)) x (Same-mod (register_of c x) (2 ^ 32)) (low_32 c x)))

-- the low 32 bits of a result, sign-extended, are its register form
pub word_of_residue : (c : Kind) → bits_of c ≡ 32 → (y : ℤ) → word_result (residue 32 y) ≡ register_of c (reduced c y)
word_of_residue c w y = word_form (residue 32 y) y (residue-Same 32 y) ∙ sym (register-reduced_32 c w y)
