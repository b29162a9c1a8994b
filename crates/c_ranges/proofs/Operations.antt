-- What operators give for numbers within intervals. The kind in which they work holds the intervals.
use Rattle.std.proofs.Common.{◌≡◌, refl, sym, ap, subst, ℕ, suc, ◌^◌, ◌<◌, Bool, true, false, ◌&&◌, cond, arith}
use Rattle.std.specs.Prelude.{ℤ, pos, negsuc, ◌+ℤ◌, ◌-ℤ◌, neg_ℤ, ◌≤ℤ◌, ◌<ℤ◌, int_div, int_rem, bit_and}
use Rattle.std.specs.Int.{int_shr}
use Rattle.std.specs.Ordering.{int_eq}
use Rattle.std.proofs.Math.Nat.{mod-le, mod-lt}
use Rattle.std.proofs.lemmas.Int.{ints}
use Rattle.std.proofs.lemmas.Nat.{and_le_l, and_le_r, pow_pos}
use Rattle.std.proofs.lemmas.Bool.{false≢true}
use Rattle.ido_ints.specs.declared.kinds.Kind.{Kind}
use Rattle.ido_ints.specs.Kinds.{bits_of, least_of, greatest_of}
use Rattle.ido_ints.specs.Operators.{is_zero, quotient, remainder, bitwise, places}
use Rattle.ido_ints.specs.Reduction.{residue, reduced}
use Rattle.ido_ints.proofs.Public.{Holds-zero}
use Rattle.c_tree.specs.Ranges.{Interval, interval, Within, full, lesser, from_zero_up, is_positive_value}
use Rattle.c_tree.specs.Ranges.{sum, difference, and_range, quotient_range, remainder_range, shifted_range}
use Rattle.c_ranges.proofs.IntervalsOfKinds.{Inside, lesser_by, from_zero_up-true, from_zero_up-false, is_positive_value-true}
use Rattle.c_ranges.proofs.HeldRanges.{div_le_div, int_div_range, int_shr_range, lesser_range, symmetric_range}
use Rattle.c_ranges.proofs.Reductions.{cond_by, Within_kept, Within_full, Inside_HeldBy}
use Rattle.c_ranges.proofs.IntervalHulls.{le_trans}

pub Within_sum : (i j : Interval) (a b : ℤ) → Within i a → Within j b → Within (sum i j) (a +ℤ b)
Within_sum i j a b h k = record { from_low = omega (arith, ints, h.from_low, k.from_low); to_high = omega (arith, ints, h.to_high, k.to_high) }

pub Within_difference : (i j : Interval) (a b : ℤ) → Within i a → Within j b → Within (difference i j) (a -ℤ b)
Within_difference i j a b h k = record { from_low = omega (arith, ints, h.from_low, k.to_high); to_high = omega (arith, ints, h.to_high, k.from_low) }

pub Within_negative : (i : Interval) (a : ℤ) → Within i a → Within (interval (neg_ℤ i.hi) (neg_ℤ i.lo)) (neg_ℤ a)
Within_negative i a h = record { from_low = omega (arith, ints, h.to_high); to_high = omega (arith, ints, h.from_low) }

-- the number of an interval that is one number
the_one : (j : Interval) (b : ℤ) → j.lo ≡ j.hi → Within j b → b ≡ j.lo
the_one j b e h = omega (arith, ints, e, h.from_low, h.to_high)

and_true : (b c : Bool) → true ≡ b && c → (true ≡ b) × (true ≡ c)
and_true true c h = (refl, h)
and_true false c h = absurd (false≢true (sym h))

below_zero : (k : Kind) (i : Interval) → Inside k i → i.lo <ℤ pos 0 → least_of k <ℤ pos 0
below_zero k i h l = omega (arith, ints, h.from_least, l)

-- ---- Quotients

int_div_le : (x y d : ℤ) → pos 0 ≤ℤ x → x ≤ℤ y → pos 0 <ℤ d → int_div x d ≤ℤ int_div y d
int_div_le (pos a) (pos b) (pos d) h k p = omega (arith, ints, div_le_div a b d (omega (arith, ints)) (omega (arith, ints)))
int_div_le (negsuc a) y d h k p = absurd (omega (arith, ints))
int_div_le (pos a) (negsuc b) d h k p = absurd (omega (arith, ints))
int_div_le (pos a) (pos b) (negsuc d) h k p = absurd (omega (arith, ints))

not_zero : (d : ℤ) → pos 0 <ℤ d → is_zero d ≡ false
not_zero d h = grind (arith, ints)

quotient_positive : (x d : ℤ) → pos 0 <ℤ d → quotient x d ≡ int_div x d
quotient_positive x d h = ap (λ b. cond b (negsuc 0) (int_div x d)) (not_zero d h)

quotient_kept : (k : Kind) (i : Interval) (d a : ℤ) → Inside k i → pos 0 ≤ℤ i.lo → pos 0 <ℤ d → Within i a →
    Within (interval (int_div i.lo d) (int_div i.hi d)) (reduced k (quotient a d))
quotient_kept k i d a inside low p h =
    let r = interval (int_div i.lo d) (int_div i.hi d) in
    let w : Within r (int_div a d) = record {
      from_low = int_div_le i.lo a d low h.from_low p;
      to_high = int_div_le a i.hi d (le_trans (pos 0) i.lo a low h.from_low) h.to_high p;
    } in
    let held = int_div_range k i.lo i.hi d low (le_trans i.lo a i.hi h.from_low h.to_high) inside.to_greatest p in
    let P : ℤ → Type 0 = λ z. Within r (reduced k z) in
    subst P (sym (quotient_positive a d p)) (Within_kept k r (int_div a d) (Inside_HeldBy k _ _ held) w)

pub Within_quotient : (k : Kind) (i j : Interval) (a b : ℤ) → Inside k i → Within i a → Within j b → Within (quotient_range k i j) (reduced k (quotient a b))
Within_quotient k i j a b inside h w =
    let P : Interval → Type 0 = λ r. Within r (reduced k (quotient a b)) in
    cond_by P (is_positive_value j && from_zero_up i) (interval (int_div i.lo j.lo) (int_div i.hi j.lo)) (full k)
    (λ t.
    let both = and_true (is_positive_value j) (from_zero_up i) t in
    let one = is_positive_value-true j both.0 in
    let Q : ℤ → Type 0 = λ z. Within (interval (int_div i.lo j.lo) (int_div i.hi j.lo)) (reduced k (quotient a z)) in
    subst Q (sym (the_one j b one.one w)) (quotient_kept k i j.lo a inside (from_zero_up-true i both.1) one.positive h))
    (λ t. Within_full k (quotient a b))

-- ---- Remainders

remainder_positive : (x d : ℤ) → pos 0 <ℤ d → remainder x d ≡ int_rem x d
remainder_positive x d h = ap (λ b. cond b x (int_rem x d)) (not_zero d h)

-- the remainder has the dividend's sign, and is no further from 0 than it, and than d - 1
record Rest (x d r : ℤ) : Type 0 where
  from_zero : pos 0 ≤ℤ x → pos 0 ≤ℤ r
  to_dividend : pos 0 ≤ℤ x → r ≤ℤ x
  above : neg_ℤ (d -ℤ pos 1) ≤ℤ r
  below : r ≤ℤ (d -ℤ pos 1)

int_rem_rest : (x d : ℤ) → pos 0 <ℤ d → Rest x d (int_rem x d)
int_rem_rest (pos a) (pos d) h =
    let positive : 0 < d = omega (arith, ints) in
    record {
      from_zero = λ p. omega (arith, ints);
      to_dividend = λ p. omega (arith, ints, mod-le a d);
      above = omega (arith, ints, mod-lt a positive);
      below = omega (arith, ints, mod-lt a positive);
    }
int_rem_rest (negsuc a) (pos d) h =
    let positive : 0 < d = omega (arith, ints) in
    record {
      from_zero = λ p. absurd (omega (arith, ints));
      to_dividend = λ p. absurd (omega (arith, ints));
      above = omega (arith, ints, mod-lt (suc a) positive);
      below = omega (arith, ints, mod-lt (suc a) positive);
    }
int_rem_rest x (negsuc d) h = absurd (omega (arith, ints))

remainder_kept : (k : Kind) (i : Interval) (d a : ℤ) → Inside k i → pos 0 <ℤ d → d ≤ℤ greatest_of k → Within i a →
    Within (cond (from_zero_up i) (interval (pos 0) (lesser i.hi (d -ℤ pos 1))) (interval (neg_ℤ (d -ℤ pos 1)) (d -ℤ pos 1))) (reduced k (remainder a d))
remainder_kept k i d a inside p most h =
    let r = int_rem_rest a d p in
    let P : Interval → Type 0 = λ v. Within v (reduced k (remainder a d)) in
    cond_by P (from_zero_up i) (interval (pos 0) (lesser i.hi (d -ℤ pos 1))) (interval (neg_ℤ (d -ℤ pos 1)) (d -ℤ pos 1))
    (λ t.
    let low = le_trans (pos 0) i.lo a (from_zero_up-true i t) h.from_low in
    let v = interval (pos 0) (lesser i.hi (d -ℤ pos 1)) in
    let w : Within v (int_rem a d) = record {
      from_low = r.from_zero low;
      to_high = lesser_by (λ z. int_rem a d ≤ℤ z) i.hi (d -ℤ pos 1) (λ e. le_trans _ a i.hi (r.to_dividend low) h.to_high) (λ e. r.below);
    } in
    let held = lesser_range k i.hi (d -ℤ pos 1) (le_trans (pos 0) a i.hi low h.to_high) (omega (arith, ints, p)) inside.to_greatest in
    let Q : ℤ → Type 0 = λ z. Within v (reduced k z) in
    subst Q (sym (remainder_positive a d p)) (Within_kept k v (int_rem a d) (Inside_HeldBy k _ _ held) w))
    (λ t.
    let v = interval (neg_ℤ (d -ℤ pos 1)) (d -ℤ pos 1) in
    let w : Within v (int_rem a d) = record { from_low = r.above; to_high = r.below } in
    let held = symmetric_range k d (below_zero k i inside (from_zero_up-false i t)) p most in
    let Q : ℤ → Type 0 = λ z. Within v (reduced k z) in
    subst Q (sym (remainder_positive a d p)) (Within_kept k v (int_rem a d) (Inside_HeldBy k _ _ held) w))

pub Within_remainder : (k : Kind) (i j : Interval) (a b : ℤ) → Inside k i → Inside k j → Within i a → Within j b →
    Within (remainder_range k i j) (reduced k (remainder a b))
Within_remainder k i j a b inside inside' h w =
    let most = j.lo -ℤ pos 1 in
    let exact = cond (from_zero_up i) (interval (pos 0) (lesser i.hi most)) (interval (neg_ℤ most) most) in
    let P : Interval → Type 0 = λ r. Within r (reduced k (remainder a b)) in
    cond_by P (is_positive_value j) exact (full k)
    (λ t.
    let one = is_positive_value-true j t in
    let Q : ℤ → Type 0 = λ z. Within exact (reduced k (remainder a z)) in
    subst Q (sym (the_one j b one.one w)) (remainder_kept k i j.lo a inside one.positive (omega (arith, ints, one.one, inside'.to_greatest)) h))
    (λ t. Within_full k (remainder a b))

-- ---- `&`

residue_le : (n : ℕ) (z : ℤ) → pos 0 ≤ℤ z → pos (residue n z) ≤ℤ z
unfolding residue
residue_le n (pos a) h = omega (arith, ints, mod-le a (2 ^ n))
residue_le n (negsuc a) h = absurd (omega (arith, ints))

and_le_left : (k : Kind) (a b : ℤ) → pos 0 ≤ℤ a → bitwise bit_and k a b ≤ℤ a
and_le_left k a b h = omega (arith, ints, residue_le (bits_of k) a h, and_le_l (residue (bits_of k) a) (residue (bits_of k) b))

and_le_right : (k : Kind) (a b : ℤ) → pos 0 ≤ℤ b → bitwise bit_and k a b ≤ℤ b
and_le_right k a b h = omega (arith, ints, residue_le (bits_of k) b h, and_le_r (residue (bits_of k) a) (residue (bits_of k) b))

-- a number from 0 to an end that the kind holds stays between them where it is reduced
and_kept : (k : Kind) (h z : ℤ) → pos 0 ≤ℤ z → z ≤ℤ h → h ≤ℤ greatest_of k → Within (interval (pos 0) h) (reduced k z)
and_kept k h z low high most =
    let zero = Holds-zero k in
    Within_kept k (interval (pos 0) h) z (record { from_least = zero.from_least; to_greatest = most }) (record { from_low = low; to_high = high })

pub Within_and : (k : Kind) (i j : Interval) (a b : ℤ) → Inside k i → Inside k j → Within i a → Within j b →
    Within (and_range k i j) (reduced k (bitwise bit_and k a b))
Within_and k i j a b inside inside' h w =
    let z = bitwise bit_and k a b in
    let P : Interval → Type 0 = λ r. Within r (reduced k z) in
    let low : pos 0 ≤ℤ z = omega (arith, ints) in
    let left : true ≡ from_zero_up i → z ≤ℤ i.hi =
    λ t. le_trans z a i.hi (and_le_left k a b (le_trans (pos 0) i.lo a (from_zero_up-true i t) h.from_low)) h.to_high in
    let right : true ≡ from_zero_up j → z ≤ℤ j.hi =
    λ t. le_trans z b j.hi (and_le_right k a b (le_trans (pos 0) j.lo b (from_zero_up-true j t) w.from_low)) w.to_high in
    cond_by P (from_zero_up i)
    (cond (from_zero_up j) (interval (pos 0) (lesser i.hi j.hi)) (interval (pos 0) i.hi))
    (cond (from_zero_up j) (interval (pos 0) j.hi) (full k))
    (λ t. cond_by P (from_zero_up j) (interval (pos 0) (lesser i.hi j.hi)) (interval (pos 0) i.hi)
    (λ u. and_kept k (lesser i.hi j.hi) z low (lesser_by (λ y. z ≤ℤ y) i.hi j.hi (λ e. left t) (λ e. right u))
    (lesser_by (λ y. y ≤ℤ greatest_of k) i.hi j.hi (λ e. inside.to_greatest) (λ e. inside'.to_greatest)))
    (λ u. and_kept k i.hi z low (left t) inside.to_greatest))
    (λ t. cond_by P (from_zero_up j) (interval (pos 0) j.hi) (full k)
    (λ u. and_kept k j.hi z low (right u) inside'.to_greatest)
    (λ u. Within_full k z))

-- ---- `>>`

int_shr_le : (x y : ℤ) (n : ℕ) → pos 0 ≤ℤ x → x ≤ℤ y → int_shr x n ≤ℤ int_shr y n
int_shr_le (pos a) (pos b) n h k = omega (arith, ints, div_le_div a b (2 ^ n) (pow_pos n) (omega (arith, ints)))
int_shr_le (negsuc a) y n h k = absurd (omega (arith, ints))
int_shr_le (pos a) (negsuc b) n h k = absurd (omega (arith, ints))

shifted_kept : (k : Kind) (i : Interval) (a : ℤ) (n : ℕ) → Inside k i → pos 0 ≤ℤ i.lo → Within i a →
    Within (interval (int_shr i.lo n) (int_shr i.hi n)) (reduced k (int_shr a n))
shifted_kept k i a n inside low h =
    let r = interval (int_shr i.lo n) (int_shr i.hi n) in
    let w : Within r (int_shr a n) = record {
      from_low = int_shr_le i.lo a n low h.from_low;
      to_high = int_shr_le a i.hi n (le_trans (pos 0) i.lo a low h.from_low) h.to_high;
    } in
    let held = int_shr_range k i.lo i.hi n low (le_trans i.lo a i.hi h.from_low h.to_high) inside.to_greatest in
    Within_kept k r (int_shr a n) (Inside_HeldBy k _ _ held) w

int_eq-true : (x y : ℤ) → true ≡ int_eq x y → x ≡ y
int_eq-true x y h = grind (arith, ints)

pub Within_shifted : (k : Kind) (i j : Interval) (a b : ℤ) → Inside k i → Within i a → Within j b →
    Within (shifted_range k i j) (reduced k (int_shr a (places k b)))
Within_shifted k i j a b inside h w =
    let P : Interval → Type 0 = λ r. Within r (reduced k (int_shr a (places k b))) in
    let exact = interval (int_shr i.lo (places k j.lo)) (int_shr i.hi (places k j.lo)) in
    cond_by P (int_eq j.lo j.hi && from_zero_up i) exact (full k)
    (λ t.
    let both = and_true (int_eq j.lo j.hi) (from_zero_up i) t in
    let one = the_one j b (int_eq-true j.lo j.hi both.0) w in
    let Q : ℤ → Type 0 = λ z. Within exact (reduced k (int_shr a (places k z))) in
    subst Q (sym one) (shifted_kept k i a (places k j.lo) inside (from_zero_up-true i both.1) h))
    (λ t. Within_full k (int_shr a (places k b)))
