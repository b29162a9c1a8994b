-- Each number below a small one.
use Rattle.std.proofs.Common.{ℕ, ◌<◌, suc, zero, arith}

pub below_four : (P : ℕ → Type 0) → P 0 → P 1 → P 2 → P 3 → (n : ℕ) → n < 4 → P n
below_four P a b c d zero h = a
below_four P a b c d (suc zero) h = b
below_four P a b c d (suc (suc zero)) h = c
below_four P a b c d (suc (suc (suc zero))) h = d
below_four P a b c d (suc (suc (suc (suc n)))) h = absurd (omega arith)

pub below_ten : (P : ℕ → Type 0) → P 0 → P 1 → P 2 → P 3 → P 4 → P 5 → P 6 → P 7 → P 8 → P 9 → (n : ℕ) → n < 10 → P n
below_ten P a b c d e f g h i j zero l = a
below_ten P a b c d e f g h i j (suc n) l = by n (omega arith)
  where
    by : (n : ℕ) → n < 9 → P (suc n)
    by zero m = b
    by (suc zero) m = c
    by (suc (suc zero)) m = d
    by (suc (suc (suc zero))) m = e
    by (suc (suc (suc (suc zero)))) m = f
    by (suc (suc (suc (suc (suc zero))))) m = g
    by (suc (suc (suc (suc (suc (suc zero)))))) m = h
    by (suc (suc (suc (suc (suc (suc (suc zero))))))) m = i
    by (suc (suc (suc (suc (suc (suc (suc (suc zero)))))))) m = j
    by (suc (suc (suc (suc (suc (suc (suc (suc (suc n))))))))) m = absurd (omega arith)
