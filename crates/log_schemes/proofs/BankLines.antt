-- Which lines a bank has.
use Rattle.std.proofs.Common.{◌≡◌, inl, inr, ℕ, zero, suc, ◌+◌, ◌*◌, ◌/◌, ◌<◌, ◌≤◌, length, refl, ap, arith, subst}
use Rattle.std.specs.List.{Contains}
use Rattle.log_schemes.specs.declared.log.Log.{Log}
use Rattle.log_schemes.specs.Schemes.{bank_lines, bank_slots, lines_in_bank, numbers_from, size_of}
use Rattle.log_schemes.proofs.Facts.{size_holds}
use Rattle.log_schemes.proofs.Contents.{contains_none, contains_first, contains_later, contains_cases}

numbers_contain : (at count k : ℕ) → k < count → Contains (numbers_from at count) (at + k)
numbers_contain at zero k below = absurd (omega (arith, below))
numbers_contain at (suc count) zero below =
    let e : at ≡ at + 0 = omega arith in subst (Contains (numbers_from at (suc count))) e (contains_first at (numbers_from (at + 1) count))
numbers_contain at (suc count) (suc k) below =
    let e : at + 1 + k ≡ at + suc k = omega arith in
    subst (Contains (numbers_from at (suc count))) e
    (contains_later at (numbers_from (at + 1) count) (at + 1 + k) (numbers_contain (at + 1) count k (omega (arith, below))))

numbers_below : (at count n : ℕ) → Contains (numbers_from at count) n → n < at + count
numbers_below at zero n c = absurd (contains_none n c)
numbers_below at (suc count) n c = elim (contains_cases at (numbers_from (at + 1) count) n c) [
  | inl e ↦ omega (arith, e)
  | inr more ↦ let below = numbers_below (at + 1) count n more in omega (arith, below)
]

-- the line of a slot of a bank is one of the bank's
pub line_there : (log : Log) (slot : ℕ) → slot < bank_slots log → Contains (bank_lines log) (slot / 8)
line_there log slot below =
    let e : 0 + slot / 8 ≡ slot / 8 = omega arith in
    subst (Contains (bank_lines log)) e (numbers_contain 0 (lines_in_bank (size_of log)) (slot / 8) (omega (arith, below)))

-- each slot of a bank's line is one of the bank's
pub line_below : (log : Log) (line : ℕ) → Contains (bank_lines log) line → 8 * line + 8 ≤ bank_slots log
line_below log line c = let below = numbers_below 0 (lines_in_bank (size_of log)) line c in omega (arith, below)

numbers_count : (at count : ℕ) → length (numbers_from at count) ≡ count
numbers_count at zero = refl
numbers_count at (suc count) = ap (λ (n : ℕ). suc n) (numbers_count (at + 1) count)

-- a bank has six lines at most
pub few_lines : (log : Log) → length (bank_lines log) ≤ 6
few_lines log =
    let few = (size_holds (size_of log)).few_in_bank in omega (arith, few, numbers_count 0 (lines_in_bank (size_of log)))
