-- A part of a value whose part is replaced.
use Rattle.std.proofs.Common.{◌≡◌, ℕ, ◌+◌, ◌-◌, ◌*◌, ◌/◌, ◌%◌, ◌^◌, ◌<◌, ◌≤◌, sym, ◌∙◌, ap, arith}
use Rattle.std.proofs.Math.Nat.{add-mul-div_right, add-mul-mod_self_right, div-eq_of_lt, mod-mod, div-add-mod'}
use Rattle.std.proofs.lemmas.Nat.{shr-shr, pow-add, mul-add-lt, pow_pos, mod_below}
use Rattle.ido_base.specs.Words.{part, with_part}

-- the low digits of a sum, whatever the high ones are
low_digits : (x y a b d : ℕ) → (x + y * 2 ^ (d + (b + a))) / 2 ^ a % 2 ^ b ≡ x / 2 ^ a % 2 ^ b
low_digits x y a b d =
    let whole : 2 ^ (d + (b + a)) ≡ 2 ^ d * (2 ^ b * 2 ^ a) = pow-add 2 d (b + a) ∙ ap (λ (n : ℕ). 2 ^ d * n) (pow-add 2 b a) in
    let moved : y * 2 ^ (d + (b + a)) ≡ y * 2 ^ d * 2 ^ b * 2 ^ a =
    ap (λ (n : ℕ). y * n) whole ∙ (let e : y * (2 ^ d * (2 ^ b * 2 ^ a)) ≡ y * 2 ^ d * 2 ^ b * 2 ^ a = omega arith in e) in
    ap (λ (n : ℕ). (x + n) / 2 ^ a % 2 ^ b) moved
    ∙ (ap (λ (n : ℕ). n % 2 ^ b) (add-mul-div_right x (y * 2 ^ d * 2 ^ b) (pow_pos a))
    ∙ add-mul-mod_self_right (x / 2 ^ a) (y * 2 ^ d) (2 ^ b))

-- three digits: below 2 ^ j the old ones, then the new one below 2 ^ k, then the old ones
module _ (old j k n : ℕ) (small : n < 2 ^ k) where
  abbrev value : ℕ
  value = old % 2 ^ j + n * 2 ^ j + old / 2 ^ (j + k) * 2 ^ (j + k)

  abbrev top : ℕ
  top = old / 2 ^ (j + k)

  from_low : value ≡ old % 2 ^ j + (n + top * 2 ^ k) * 2 ^ j
  from_low = let e : 2 ^ (j + k) ≡ 2 ^ j * 2 ^ k = pow-add 2 j k in ap (λ (p : ℕ). old % 2 ^ j + n * 2 ^ j + top * p) e
      ∙ (let r : old % 2 ^ j + n * 2 ^ j + top * (2 ^ j * 2 ^ k) ≡ old % 2 ^ j + (n + top * 2 ^ k) * 2 ^ j = omega arith in r)

  -- the new digit
  middle : value / 2 ^ j % 2 ^ k ≡ n % 2 ^ k
  middle =
      let none : old % 2 ^ j / 2 ^ j ≡ 0 = div-eq_of_lt (mod_below old (2 ^ j) (pow_pos j)) in
      ap (λ (v : ℕ). v / 2 ^ j % 2 ^ k) from_low
      ∙ (ap (λ (v : ℕ). v % 2 ^ k) (add-mul-div_right (old % 2 ^ j) (n + top * 2 ^ k) (pow_pos j)
      ∙ (let r : old % 2 ^ j / 2 ^ j + (n + top * 2 ^ k) ≡ n + top * 2 ^ k = omega (arith, none) in r))
      ∙ add-mul-mod_self_right n top (2 ^ k))

  -- digits above it
  above : (d c : ℕ) → value / 2 ^ (j + k + d) % c ≡ old / 2 ^ (j + k + d) % c
  above d c =
      let small_sum : n * 2 ^ j + old % 2 ^ j < 2 ^ j * 2 ^ k = mul-add-lt n (2 ^ j) (old % 2 ^ j) (2 ^ k) small (mod_below old (2 ^ j) (pow_pos j)) in
      let e : 2 ^ (j + k) ≡ 2 ^ j * 2 ^ k = pow-add 2 j k in
      let fits : old % 2 ^ j + n * 2 ^ j < 2 ^ (j + k) = omega (arith, small_sum, e) in
      let none : (old % 2 ^ j + n * 2 ^ j) / 2 ^ (j + k) ≡ 0 = div-eq_of_lt fits in
      let same : value / 2 ^ (j + k) ≡ top = add-mul-div_right (old % 2 ^ j + n * 2 ^ j) top (pow_pos (j + k))
      ∙ (let r : (old % 2 ^ j + n * 2 ^ j) / 2 ^ (j + k) + top ≡ top = omega (arith, none) in r) in
      ap (λ (v : ℕ). v % c) (sym (shr-shr value (j + k) d) ∙ (ap (λ (v : ℕ). v / 2 ^ d) same ∙ shr-shr old (j + k) d))

  -- digits below it
  below : (a b d : ℕ) → j ≡ d + (b + a) → value / 2 ^ a % 2 ^ b ≡ old / 2 ^ a % 2 ^ b
  below a b d e =
      let power : 2 ^ j ≡ 2 ^ (d + (b + a)) = ap (λ (x : ℕ). 2 ^ x) e in
      let split : old ≡ old % 2 ^ j + old / 2 ^ j * 2 ^ j = let r = div-add-mod' old (2 ^ j) in omega (arith, r) in
      let low : (y : ℕ) → (old % 2 ^ j + y * 2 ^ j) / 2 ^ a % 2 ^ b ≡ old % 2 ^ j / 2 ^ a % 2 ^ b = λ y.
      ap (λ (p : ℕ). (old % 2 ^ j + y * p) / 2 ^ a % 2 ^ b) power ∙ low_digits (old % 2 ^ j) y a b d in
      ap (λ (v : ℕ). v / 2 ^ a % 2 ^ b) from_low ∙ (low (n + top * 2 ^ k) ∙ (sym (low (old / 2 ^ j)) ∙ ap (λ (v : ℕ). v / 2 ^ a % 2 ^ b) (sym split)))

-- ---- Parts

eight : (b c : ℕ) → 8 * (b + c) ≡ 8 * b + 8 * c
eight b c = omega arith

with_part_is : (old b c new : ℕ) → with_part old b c new ≡ value old (8 * b) (8 * c) (new % 2 ^ (8 * c)) (mod_below new (2 ^ (8 * c)) (pow_pos (8 * c)))
with_part_is old b c new = ap (λ (p : ℕ). old % 2 ^ (8 * b) + new % 2 ^ (8 * c) * 2 ^ (8 * b) + old / 2 ^ p * 2 ^ p) (eight b c)

pub part_own : (old b c new : ℕ) → part (with_part old b c new) b c ≡ new % 2 ^ (8 * c)
part_own old b c new =
    let small = mod_below new (2 ^ (8 * c)) (pow_pos (8 * c)) in
    ap (λ (v : ℕ). v / 2 ^ (8 * b) % 2 ^ (8 * c)) (with_part_is old b c new)
    ∙ (middle old (8 * b) (8 * c) (new % 2 ^ (8 * c)) small ∙ mod-mod new (2 ^ (8 * c)))

pub part_above : (old b c new at count : ℕ) → b + c ≤ at → part (with_part old b c new) at count ≡ part old at count
part_above old b c new at count l =
    let small = mod_below new (2 ^ (8 * c)) (pow_pos (8 * c)) in
    let d : ℕ = 8 * at - (8 * b + 8 * c) in
    let e : 8 * at ≡ 8 * b + 8 * c + d = omega (arith, l) in
    ap (λ (v : ℕ). v / 2 ^ (8 * at) % 2 ^ (8 * count)) (with_part_is old b c new)
    ∙ (ap (λ (p : ℕ). value old (8 * b) (8 * c) (new % 2 ^ (8 * c)) small / 2 ^ p % 2 ^ (8 * count)) e
    ∙ (above old (8 * b) (8 * c) (new % 2 ^ (8 * c)) small d (2 ^ (8 * count)) ∙ ap (λ (p : ℕ). old / 2 ^ p % 2 ^ (8 * count)) (sym e)))

pub part_below : (old b c new at count : ℕ) → at + count ≤ b → part (with_part old b c new) at count ≡ part old at count
part_below old b c new at count l =
    let small = mod_below new (2 ^ (8 * c)) (pow_pos (8 * c)) in
    let d : ℕ = 8 * b - (8 * count + 8 * at) in
    let e : 8 * b ≡ d + (8 * count + 8 * at) = omega (arith, l) in
    ap (λ (v : ℕ). v / 2 ^ (8 * at) % 2 ^ (8 * count)) (with_part_is old b c new)
    ∙ below old (8 * b) (8 * c) (new % 2 ^ (8 * c)) small (8 * at) (8 * count) d e
