-- Numbers that differ by a multiple of n, and the one of them in a range of n numbers.
use Rattle.std.proofs.Common.{◌≡◌, refl, ℕ, suc, ◌+◌, ◌-◌, ◌*◌, ◌/◌, ◌%◌, ◌<◌, sym, ◌∙◌, ap, arith, ⊎_elim}
use Rattle.std.specs.Prelude.{ℤ, pos, negsuc, ◌+ℤ◌, ◌-ℤ◌, ◌*ℤ◌, neg_ℤ, ◌≤ℤ◌, unsigned_abs}
use Rattle.std.specs.Int.{int_rem_euclid}
use Rattle.std.proofs.Math.Nat.{mod-lt}
use Rattle.std.proofs.lemmas.Nat.{div-add-mod'}
use Rattle.std.proofs.lemmas.Int.{ints}
use Rattle.std.proofs.lemmas.Bool.{cases_lt}
use Rattle.ido_ints.specs.Reduction.{from_least_on}
use borrow.Author.Differences.{up, down, same_in, same_out, sum_is_lem, product_is}

-- a and b differ by a multiple of n
pub record Same (n : ℕ) (a b : ℤ) : Type 0 where
  pub more : ℕ
  pub less : ℕ
  pub sums : a +ℤ pos (more * n) ≡ b +ℤ pos (less * n)

pub Same_refl : (n : ℕ) (a : ℤ) → Same n a a
Same_refl n a = record { more = 0; less = 0; sums = omega (arith, ints) }

pub Same_sym : (n : ℕ) (a b : ℤ) → Same n a b → Same n b a
Same_sym n a b h = record { more = h.less; less = h.more; sums = sym h.sums }

pub Same_trans : (n : ℕ) (a b c : ℤ) → Same n a b → Same n b c → Same n a c
Same_trans n a b c h k = record { more = h.more + k.more; less = h.less + k.less; sums = omega (arith, ints, h.sums, k.sums) }

pub Same-add : (n : ℕ) (a a' b b' : ℤ) → Same n a a' → Same n b b' → Same n (a +ℤ b) (a' +ℤ b')
Same-add n a a' b b' h k = record { more = h.more + k.more; less = h.less + k.less; sums = omega (arith, ints, h.sums, k.sums) }

pub Same-neg : (n : ℕ) (a b : ℤ) → Same n a b → Same n (neg_ℤ a) (neg_ℤ b)
Same-neg n a b h = record { more = h.less; less = h.more; sums = omega (arith, ints, h.sums) }

-- a multiple of a multiple of n is one of n
pub Same-factor : (n c : ℕ) (a b : ℤ) → Same (c * n) a b → Same n a b
Same-factor n c a b h = record { more = h.more * c; less = h.less * c; sums = omega (arith, ints, h.sums) }

Same-mul_left : (n : ℕ) (a b c : ℤ) → Same n a b → Same n (a *ℤ c) (b *ℤ c)
Same-mul_left n a b c h =
    let sum : up a + h.more * n + down b ≡ up b + h.less * n + down a = omega (arith, same_out, sum_is_lem, h.sums) in
    let above = ap (λ x. x * up c) sum in
    let below = ap (λ x. x * down c) sum in
    record { more = h.more * up c + h.less * down c; less = h.less * up c + h.more * down c; sums = omega (arith, same_in, sum_is_lem, product_is) }

Same-mul_right : (n : ℕ) (a b c : ℤ) → Same n a b → Same n (c *ℤ a) (c *ℤ b)
Same-mul_right n a b c h =
    let sum : up a + h.more * n + down b ≡ up b + h.less * n + down a = omega (arith, same_out, sum_is_lem, h.sums) in
    let above = ap (λ x. x * up c) sum in
    let below = ap (λ x. x * down c) sum in
    record { more = h.more * up c + h.less * down c; less = h.less * up c + h.more * down c; sums = omega (arith, same_in, sum_is_lem, product_is) }

pub Same-mul : (n : ℕ) (a a' b b' : ℤ) → Same n a a' → Same n b b' → Same n (a *ℤ b) (a' *ℤ b')
Same-mul n a a' b b' h k = Same_trans n _ _ _ (Same-mul_left n a a' b h) (Same-mul_right n b b' a' k)

-- z as a multiple of n and a rest below n
pub record Split (z : ℤ) (n : ℕ) : Type 0 where
  pub rest : ℕ
  pub below : rest < n
  pub rest_is : int_rem_euclid z (pos n) ≡ pos rest
  pub same : Same n (pos rest) z

pub split : (z : ℤ) (n : ℕ) → 0 < n → Split z n
split (pos a) n h = record {
  rest = a % n;
  below = mod-lt a h;
  rest_is = refl;
  same = record { more = a / n; less = 0; sums = omega (arith, ints, div-add-mod' a n) };
}
split (negsuc a) n h = record {
  rest = n - 1 - a % n;
  below = omega arith;
  rest_is = refl;
  same = record { more = 0; less = a / n + 1; sums = omega (arith, ints, div-add-mod' a n, mod-lt a h) };
}

-- the range of n numbers from l on
pub record InRange (l : ℤ) (n : ℕ) (z : ℤ) : Type 0 where
  pub low : l ≤ℤ z
  pub high : z ≤ℤ (l +ℤ pos (n - 1))

pub from_least_on-InRange : (l : ℤ) (n : ℕ) (z : ℤ) → 0 < n → InRange l n (from_least_on l n z)
unfolding from_least_on
from_least_on-InRange l n z h =
    let s = split (z -ℤ l) n h in
    rw s.rest_is (record { low = omega (arith, ints); high = omega (arith, ints, s.below) })

pub from_least_on-Same : (l : ℤ) (n : ℕ) (z : ℤ) → 0 < n → Same n (from_least_on l n z) z
unfolding from_least_on
from_least_on-Same l n z h =
    let s = split (z -ℤ l) n h in
    rw s.rest_is (record { more = s.same.more; less = s.same.less; sums = omega (arith, ints, s.same.sums) })

apart : (l a b : ℤ) (n j k : ℕ) → 0 < n → InRange l n a → InRange l n b → j < k → a +ℤ pos (j * n) ≡ b +ℤ pos (k * n) → ⊥
apart l a b n j k g p q h e =
    let d = k - suc j in
    let is : k ≡ suc j + d = omega arith in
    let times = ap (λ x. x * n) is in
    omega (arith, ints, p.low, p.high, q.low, q.high)

-- two numbers of the range that differ by a multiple of n are one
pub InRange_unique : (l a b : ℤ) (n : ℕ) → 0 < n → InRange l n a → InRange l n b → Same n a b → a ≡ b
InRange_unique l a b n g p q s = ⊎_elim
    (λ h. absurd (apart l a b n s.more s.less g p q h s.sums))
    (λ h. ⊎_elim
    (λ t. absurd (apart l b a n s.less s.more g q p t (sym s.sums)))
    (λ t. let is : s.more ≡ s.less = omega arith in let times = ap (λ x. x * n) is in omega (arith, ints, s.sums))
    (cases_lt s.less s.more))
    (cases_lt s.more s.less)

pub from_least_on-is : (l z r : ℤ) (n : ℕ) → 0 < n → InRange l n r → Same n r z → from_least_on l n z ≡ r
from_least_on-is l z r n h p s = InRange_unique l _ r n h (from_least_on-InRange l n z h) p (Same_trans n _ z r (from_least_on-Same l n z h) (Same_sym n r z s))

pub from_least_on-same : (l a b : ℤ) (n : ℕ) → 0 < n → Same n a b → from_least_on l n a ≡ from_least_on l n b
from_least_on-same l a b n h s = from_least_on-is l a _ n h (from_least_on-InRange l n b h) (Same_trans n _ b a (from_least_on-Same l n b h) (Same_sym n a b s))

-- a natural number and what `%` leaves of it
pub Same-mod : (m n : ℕ) → Same n (pos (m % n)) (pos m)
Same-mod m n = record { more = m / n; less = 0; sums = omega (arith, ints, div-add-mod' m n) }

-- what is left of z modulo n is what is left of each natural number that differs from z by a multiple of n
pub rem_euclid-mod : (z : ℤ) (m n : ℕ) → 0 < n → Same n (pos m) z → unsigned_abs (int_rem_euclid z (pos n)) ≡ m % n
rem_euclid-mod z m n h s =
    let r = split z n h in
    let below = mod-lt m h in
    let in_range : (k : ℕ) → k < n → InRange (pos 0) n (pos k) = λ k l. record { low = omega (arith, ints); high = omega (arith, ints) } in
    let same = Same_trans n (pos r.rest) z (pos (m % n)) r.same
    (Same_trans n z (pos m) (pos (m % n)) (Same_sym n (pos m) z s) (Same_sym n (pos (m % n)) (pos m) (Same-mod m n))) in
    ap unsigned_abs (r.rest_is ∙ InRange_unique (pos 0) (pos r.rest) (pos (m % n)) n h (in_range r.rest r.below) (in_range (m % n) below) same)
