-- A number is its part above its trailing zeros, shifted up again.
use Rattle.std.proofs.Common.{◌≡◌, ℕ, zero, suc, ◌+◌, ◌-◌, ◌*◌, ◌/◌, ◌%◌, ◌^◌, ◌<◌, ◌≤◌, ◌⊎◌, inl, inr, refl, ap, sym, ◌∙◌, arith, lit<}
use Rattle.std.specs.Int.Count.{count_trailing_zeros, under}
use Rattle.std.proofs.lemmas.Bool.{cases_lt}
use Rattle.std.proofs.lemmas.Nat.{pow-add}
use Rattle.std.proofs.Math.Nat.{pow-suc, div-div-eq-div-mul, lt_of_mul-lt-mul_right, pow-le-pow_right, le-mul_of_pos_right}

whole_by : (n t d : ℕ) → n % 2 ≡ d → 0 < n → (0 < n / 2 → n / 2 / 2 ^ t * 2 ^ t ≡ n / 2) → n / 2 ^ under d t * 2 ^ under d t ≡ n
whole_by n t (suc d) odd some half = omega arith
whole_by n t zero even some half =
    let power : 2 ^ suc t ≡ 2 * 2 ^ t = omega (arith, pow-suc 2 t) in
    let below : n / 2 / 2 ^ t * 2 ^ t ≡ n / 2 = half (omega (arith, even)) in
    ap (λ (p : ℕ). n / p * p) power ∙ ap (λ (q : ℕ). q * (2 * 2 ^ t)) (sym (div-div-eq-div-mul n 2 (2 ^ t))) ∙ omega (arith, below, even)

pub whole : (k n : ℕ) → 0 < n → n < 2 ^ k → n / 2 ^ count_trailing_zeros k n * 2 ^ count_trailing_zeros k n ≡ n
unfolding count_trailing_zeros
whole zero n some fits = absurd (omega arith)
whole (suc k) n some fits = whole_by n (count_trailing_zeros k (n / 2)) (n % 2) refl some (λ rest. whole k (n / 2) rest (omega (arith, pow-suc 2 k)))

-- a positive multiple of 2^zeros below 2^bits: so many bits are left
pub left_below : (q zeros bits n : ℕ) → q * 2 ^ zeros ≡ n → 0 < n → n < 2 ^ bits → zeros < bits
left_below q zeros bits n e some fits = by (cases_lt zeros bits)
  where
    positive : (p : ℕ) → p * 2 ^ zeros ≡ n → 0 < p
    positive zero f = absurd (omega (arith, f))
    positive (suc p) f = omega arith

    by : (zeros < bits) ⊎ (bits ≤ zeros) → zeros < bits
    by (inl h) = h
    by (inr h) =
        let powers = pow-le-pow_right {n = 2} (lit< tt) {i = bits} {j = zeros} h in
        let most = le-mul_of_pos_right {m = q} (2 ^ zeros) (positive q e) in
        absurd (omega (arith, powers, most, e, fits))

pub digits_left : (q zeros bits n : ℕ) → q * 2 ^ zeros ≡ n → zeros ≤ bits → n < 2 ^ bits → q < 2 ^ (bits - zeros)
digits_left q zeros bits n e h fits =
    let power : 2 ^ bits ≡ 2 ^ (bits - zeros) * 2 ^ zeros = ap (λ (m : ℕ). 2 ^ m) (let same : bits ≡ bits - zeros + zeros = omega arith in same) ∙
    pow-add 2 (bits - zeros) zeros in
    lt_of_mul-lt-mul_right (2 ^ zeros) {m = q} {n = 2 ^ (bits - zeros)} (omega (arith, e, fits, power))
