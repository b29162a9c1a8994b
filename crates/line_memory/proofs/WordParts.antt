-- Arithmetic of the parts of a word.
use Rattle.std.proofs.Common.{◌≡◌, ℕ, ◌+◌, ◌-◌, ◌*◌, ◌/◌, ◌%◌, ◌^◌, ◌<◌, ◌≤◌, sym, ap, ◌∙◌, arith}
use Rattle.std.proofs.lemmas.Nat.{shr_split, shr-shr, pow-add, mul-add-lt, shr_below, shl_whole, pow_pos, mod_below}
use Rattle.ido_base.specs.Words.{part, with_part}

-- a number of three digits q, p and r with the middle one replaced
replaced : (value q h p r A C H P n : ℕ) → value ≡ q * A + r → q ≡ h * C + p → H * P ≡ h * (C * A) → r + n * A + H * P ≡ value - p * A + n * A
replaced value q h p r A C H P n e f g = omega (arith, ap (λ x. x * A) f)

module _ (value j k n : ℕ) where
  high : value / 2 ^ (j + k) * 2 ^ (j + k) ≡ value / 2 ^ j / 2 ^ k * (2 ^ k * 2 ^ j)
  high = let e : 2 ^ (j + k) ≡ 2 ^ j * 2 ^ k = pow-add 2 j k in
      ap (λ (x : ℕ). x * 2 ^ (j + k)) (sym (shr-shr value j k)) ∙ ap (λ (x : ℕ). value / 2 ^ j / 2 ^ k * x) (e ∙ omega arith)

  pub by_difference : value % 2 ^ j + n * 2 ^ j + value / 2 ^ (j + k) * 2 ^ (j + k) ≡ value - value / 2 ^ j % 2 ^ k * 2 ^ j + n * 2 ^ j
  by_difference =
      replaced value (value / 2 ^ j) (value / 2 ^ j / 2 ^ k) (value / 2 ^ j % 2 ^ k) (value % 2 ^ j) (2 ^ j) (2 ^ k) (value / 2 ^ (j + k)) (2 ^ (j + k)) n
      (sym (shr_split value j)) (sym (shr_split (value / 2 ^ j) k)) high

  pub below : value < 2 ^ 64 → j + k ≤ 64 → n < 2 ^ k → value % 2 ^ j + n * 2 ^ j + value / 2 ^ (j + k) * 2 ^ (j + k) < 2 ^ 64
  below fits within small =
      let low = mul-add-lt n (2 ^ j) (value % 2 ^ j) (2 ^ k) small (mod_below value (2 ^ j) (pow_pos j)) in
      let whole : 64 - (j + k) + (j + k) ≡ 64 = omega arith in
      let top = shr_below value (64 - (j + k)) (j + k) (rw whole fits) in
      let sum = mul-add-lt (value / 2 ^ (j + k)) (2 ^ (j + k)) (n * 2 ^ j + value % 2 ^ j) (2 ^ (64 - (j + k))) top (rw (pow-add 2 j k) low) in
      let all : 2 ^ (64 - (j + k) + (j + k)) ≡ 2 ^ (64 - (j + k)) * 2 ^ (j + k) = pow-add 2 (64 - (j + k)) (j + k) in
      omega (arith, sum, all, ap (λ (x : ℕ). 2 ^ x) whole)

module _ (value byte count new : ℕ) where
  -- a part is replaced by taking it away and adding the new one
  pub with_part-difference : with_part value byte count new ≡ value - part value byte count * 2 ^ (8 * byte) + new % 2 ^ (8 * count) * 2 ^ (8 * byte)
  with_part-difference = let e : 8 * (byte + count) ≡ 8 * byte + 8 * count = omega arith in
      rw e (by_difference value (8 * byte) (8 * count) (new % 2 ^ (8 * count)))

  pub with_part-below : value < 2 ^ 64 → byte + count ≤ 8 → with_part value byte count new < 2 ^ 64
  with_part-below fits within = let e : 8 * (byte + count) ≡ 8 * byte + 8 * count = omega arith in
      rw e (below value (8 * byte) (8 * count) (new % 2 ^ (8 * count)) fits (omega arith) (mod_below new (2 ^ (8 * count)) (pow_pos (8 * count))))

  -- a part is replaced by shifts of a 64-bit word
  pub with_part-shifts : byte + count ≤ 8 →
      value - part value byte count * 2 ^ (8 * byte) % 2 ^ 64 + new % 2 ^ (8 * count) * 2 ^ (8 * byte) % 2 ^ 64 ≡ with_part value byte count new
  with_part-shifts within =
      let old_whole = shl_whole (part value byte count) (8 * count) (8 * byte) 64 (mod_below _ (2 ^ (8 * count)) (pow_pos (8 * count))) (omega arith) in
      let new_whole = shl_whole (new % 2 ^ (8 * count)) (8 * count) (8 * byte) 64 (mod_below new (2 ^ (8 * count)) (pow_pos (8 * count))) (omega arith) in
      rw (old_whole, new_whole) (sym with_part-difference)
