-- Products of numbers within intervals.
use Rattle.std.proofs.Common.{◌≡◌, subst, ap, ℕ, suc, ◌*◌, arith}
use Rattle.std.specs.Prelude.{ℤ, pos, negsuc, ◌+ℤ◌, ◌-ℤ◌, ◌*ℤ◌, ◌≤ℤ◌, unsigned_abs}
use Rattle.std.proofs.lemmas.Int.{ints}
use Rattle.c_tree.specs.Ranges.{Interval, Within, only, hull, lesser, greater, product}
use Rattle.c_ranges.proofs.IntervalsOfKinds.{lesser_by, greater_by}
use Rattle.c_ranges.proofs.IntervalHulls.{le_trans, Within_hull_left, Within_hull_right}
use borrow.Author.Differences.{sum_is_lem}

pub mul_comm : (x y : ℤ) → x *ℤ y ≡ y *ℤ x
mul_comm x y = omega (arith, ints)

-- ---- The product by one number is monotone, up or down

plus_times_pos : (x : ℤ) (d n : ℕ) → (x *ℤ pos n) ≤ℤ ((x +ℤ pos d) *ℤ pos n)
plus_times_pos x d n = let times = ap (λ t. t * n) (sum_is_lem x (pos d)) in omega (arith, ints)

plus_times_neg : (x : ℤ) (d n : ℕ) → ((x +ℤ pos d) *ℤ negsuc n) ≤ℤ (x *ℤ negsuc n)
plus_times_neg x d n = let times = ap (λ t. t * suc n) (sum_is_lem x (pos d)) in omega (arith, ints)

above : (x y : ℤ) → x ≤ℤ y → x +ℤ pos (unsigned_abs (y -ℤ x)) ≡ y
above x y h = omega (arith, ints)

times_pos : (x y : ℤ) (n : ℕ) → x ≤ℤ y → (x *ℤ pos n) ≤ℤ (y *ℤ pos n)
times_pos x y n h = let P : ℤ → Type 0 = λ z. (x *ℤ pos n) ≤ℤ (z *ℤ pos n) in subst P (above x y h) (plus_times_pos x (unsigned_abs (y -ℤ x)) n)

times_neg : (x y : ℤ) (n : ℕ) → x ≤ℤ y → (y *ℤ negsuc n) ≤ℤ (x *ℤ negsuc n)
times_neg x y n h = let P : ℤ → Type 0 = λ z. (z *ℤ negsuc n) ≤ℤ (x *ℤ negsuc n) in subst P (above x y h) (plus_times_neg x (unsigned_abs (y -ℤ x)) n)

-- ---- Products by one number lie between those of the ends

-- between two numbers, in either order
between_up : (p q z : ℤ) → p ≤ℤ z → z ≤ℤ q → Within (hull (only p) (only q)) z
between_up p q z h k = record {
  from_low = lesser_by (λ t. t ≤ℤ z) p q (λ e. h) (λ e. le_trans q p z e h);
  to_high = greater_by (λ t. z ≤ℤ t) p q (λ e. k) (λ e. le_trans z q p k e);
}

between_down : (p q z : ℤ) → q ≤ℤ z → z ≤ℤ p → Within (hull (only p) (only q)) z
between_down p q z h k = record {
  from_low = lesser_by (λ t. t ≤ℤ z) p q (λ e. le_trans p q z e h) (λ e. h);
  to_high = greater_by (λ t. z ≤ℤ t) p q (λ e. le_trans z p q k e) (λ e. k);
}

multiples : (i : Interval) (a c : ℤ) → Within i a → Within (hull (only (i.lo *ℤ c)) (only (i.hi *ℤ c))) (a *ℤ c)
multiples i a (pos n) h = between_up _ _ _ (times_pos i.lo a n h.from_low) (times_pos a i.hi n h.to_high)
multiples i a (negsuc n) h = between_down _ _ _ (times_neg a i.hi n h.to_high) (times_neg i.lo a n h.from_low)

multiples_right : (j : Interval) (a c : ℤ) → Within j a → Within (hull (only (c *ℤ j.lo)) (only (c *ℤ j.hi))) (c *ℤ a)
multiples_right j a c h =
    subst (λ (x : Interval). Within x (c *ℤ a)) (λ t. hull (only (mul_comm j.lo c t)) (only (mul_comm j.hi c t)))
    (subst (Within (hull (only (j.lo *ℤ c)) (only (j.hi *ℤ c)))) (mul_comm a c) (multiples j a c h))

-- what lies between two numbers, each in its interval, lies in the least interval that holds both
between_both : (i j : Interval) (p q z : ℤ) → Within i p → Within j q → Within (hull (only p) (only q)) z → Within (hull i j) z
between_both i j p q z h k b =
    let x = Within_hull_left i j p h in
    let y = Within_hull_right i j q k in
    record {
      from_low = le_trans _ (lesser p q) z (lesser_by (λ t. (hull i j).lo ≤ℤ t) p q (λ e. x.from_low) (λ e. y.from_low)) b.from_low;
      to_high = le_trans z (greater p q) _ b.to_high (greater_by (λ t. t ≤ℤ (hull i j).hi) p q (λ e. y.to_high) (λ e. x.to_high));
    }

pub Within_product : (i j : Interval) (a b : ℤ) → Within i a → Within j b → Within (product i j) (a *ℤ b)
Within_product i j a b h k = between_both _ _ (i.lo *ℤ b) (i.hi *ℤ b) (a *ℤ b) (multiples_right j b i.lo k) (multiples_right j b i.hi k) (multiples i a b h)
