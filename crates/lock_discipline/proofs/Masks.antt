-- The mask of a set, and how many names it holds.
use Rattle.std.proofs.Common.{◌≡◌, ℕ, suc, ◌+◌, ◌-◌, ◌*◌, ◌^◌, ◌<◌, ◌≤◌, Bool, true, false}
use Rattle.std.proofs.Common.{cond, List, [], ◌∷◌, length, drop, get_or, length-drop, lt_of_lt_of_le, pow_mono, ap, ◌∙◌, subst, arith, pow-suc}
use Rattle.std.proofs.lemmas.List.{drop_more}
use Rattle.c_tree.specs.LockNames.{Held, count_held}
use Rattle.lock_discipline.specs.Masks.{mask_of}

double_bound : (b m p : ℕ) → b ≤ 1 → m < p → b + 2 * m < p * 2
double_bound b m p h k = omega arith

pub bit_small : (b : Bool) → cond b 1 0 ≤ 1
bit_small true = omega arith
bit_small false = omega arith

pub mask_of-bound : (h : List Bool) → mask_of h < 2 ^ length h
mask_of-bound [] = omega arith
mask_of-bound (b ∷ h) = omega (arith, pow-suc 2 (length h), double_bound (cond b 1 0) (mask_of h) (2 ^ length h) (bit_small b) (mask_of-bound h))

-- the mask of the last names is small
pub last_small : (h : Held) (high : ℕ) → high < length h → length h ≤ 64 → mask_of (drop (length h - high) h) < 2 ^ 63
last_small h high low few =
    let long : length (drop (length h - high) h) ≡ high = length-drop (length h - high) h ∙ omega (arith, low) in
    lt_of_lt_of_le (subst (λ (n : ℕ). mask_of (drop (length h - high) h) < 2 ^ n) long (mask_of-bound (drop (length h - high) h)))
    (pow_mono {i = high} {j = 63} (omega (arith, low, few)))

-- one more of them
pub last_more : (h : Held) (high : ℕ) (d : Bool) → high < length h →
    mask_of (drop (length h - (high + 1)) h) ≡ cond (get_or h (length h - 1 - high) d) 1 0 + 2 * mask_of (drop (length h - high) h)
last_more h high d low =
    let at : length h - (high + 1) ≡ length h - 1 - high = omega arith in
    let next : length h - 1 - high + 1 ≡ length h - high = omega (arith, low) in
    ap (λ (n : ℕ). mask_of (drop n h)) at
    ∙ (ap mask_of (drop_more h (length h - 1 - high) d (omega (arith, low)))
    ∙ ap (λ (n : ℕ). cond (get_or h (length h - 1 - high) d) 1 0 + 2 * mask_of (drop n h)) next)

-- ---- How many

pub count_low : (h : Held) → count_held h ≤ length h
count_low [] = omega arith
count_low (true ∷ h) = omega (arith, count_low h)
count_low (false ∷ h) = omega (arith, count_low h)

pub count_more : (h : Held) (i : ℕ) (d : Bool) → i < length h →
    count_held (drop i h) ≡ cond (get_or h i d) (suc (count_held (drop (i + 1) h))) (count_held (drop (i + 1) h))
count_more h i d low = ap count_held (drop_more h i d low)

-- where one more is held than was counted, so many fit
pub count_fits : (h : Held) (count i : ℕ) (d : Bool) → length h < 2 ^ 32 → i < length h → get_or h i d ≡ true →
    count + count_held (drop i h) ≡ count_held h → count + 1 < 2 ^ 32
count_fits h count i d few low is counted =
    let rest = count_held (drop (i + 1) h) in
    let more : count_held (drop i h) ≡ suc rest = count_more h i d low ∙ ap (λ (b : Bool). cond b (suc rest) rest) is in
    omega (arith, more, count_low h, counted, few)
