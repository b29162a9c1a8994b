-- Ranges that a kind holds: their bounds, and those that operators make of them.
use Rattle.std.proofs.Common.{◌≡◌, ℕ, ◌/◌, ◌^◌, ◌<◌, ◌≤◌, arith}
use Rattle.std.specs.Prelude.{ℤ, pos, negsuc, ◌-ℤ◌, neg_ℤ, ◌≤ℤ◌, ◌<ℤ◌, int_div}
use Rattle.std.specs.Int.{int_shr}
use Rattle.std.proofs.Math.Nat.{div-le_self, div-mul-le_self}
use Rattle.std.proofs.lemmas.Int.{ints}
use Rattle.std.proofs.lemmas.Nat.{le-div, pow_pos}
use Rattle.ido_ints.specs.declared.kinds.Kind.{Kind}
use Rattle.ido_ints.specs.declared.kinds.Kind.TheVariants.{Char, UnsignedChar, SignedChar, Short, UnsignedShort, Int, UnsignedInt, Long, UnsignedLong}
use Rattle.ido_ints.specs.Kinds.{least_of, greatest_of}
use Rattle.ido_ints.proofs.Public.{Bounded, Holds-Bounded, Holds-zero}
use Rattle.c_tree.specs.Ranges.{lesser}
use Rattle.c_ranges.proofs.IntervalsOfKinds.{lesser_by}
use Rattle.c_ranges.specs.Bounds.{HeldBy}
use Rattle.c_ranges.specs.declared.interval.Interval.{Interval as Range}

-- the ends of every range that a kind holds
pub record HasEnds (r : Range) : Type 0 where
  pub lo : Bounded r.lo
  pub ordered : r.lo ≤ℤ r.hi
  pub hi : Bounded r.hi

pub HeldBy-Ends : (k : Kind) (r : Range) → HeldBy k r → HasEnds r
HeldBy-Ends k r h = record {
  lo = Holds-Bounded k r.lo (record { from_least = h.from_least; to_greatest = omega (arith, ints, h.ordered, h.to_greatest) });
  ordered = h.ordered;
  hi = Holds-Bounded k r.hi (record { from_least = omega (arith, ints, h.ordered, h.from_least); to_greatest = h.to_greatest });
}

abbrev pub range : ℤ → ℤ → Range
range l h = record { lo = l; hi = h }

pub HeldBy_same : (k : Kind) (a b l h : ℤ) → a ≡ l → b ≡ h → HeldBy k (range l h) → HeldBy k (range a b)
HeldBy_same k a b l h p q r = record {
  from_least = omega (arith, ints, p, r.from_least);
  ordered = omega (arith, ints, p, q, r.ordered);
  to_greatest = omega (arith, ints, q, r.to_greatest);
}

-- a kind with negative numbers holds the negative of each number that it holds from 0 up
pub negative_held : (k : Kind) (z : ℤ) → least_of k <ℤ pos 0 → z ≤ℤ greatest_of k → least_of k ≤ℤ neg_ℤ z
negative_held Char z h g = absurd (omega (arith, ints))
negative_held UnsignedChar z h g = absurd (omega (arith, ints))
negative_held SignedChar z h g = omega (arith, ints)
negative_held Short z h g = omega (arith, ints)
negative_held UnsignedShort z h g = absurd (omega (arith, ints))
negative_held Int z h g = omega (arith, ints)
negative_held UnsignedInt z h g = absurd (omega (arith, ints))
negative_held Long z h g = omega (arith, ints)
negative_held UnsignedLong z h g = absurd (omega (arith, ints))

-- ---- Quotients and shifts of numbers from 0 up

pub div_le_div : (a b d : ℕ) → 0 < d → a ≤ b → a / d ≤ b / d
div_le_div a b d p h = le-div (a / d) b d p (omega (arith, div-mul-le_self a d))

pub int_div_range : (k : Kind) (l h d : ℤ) → pos 0 ≤ℤ l → l ≤ℤ h → h ≤ℤ greatest_of k → pos 0 <ℤ d → HeldBy k (range (int_div l d) (int_div h d))
int_div_range k (pos a) (pos b) (pos d) p q r s =
    let zero = Holds-zero k in
    let le : a ≤ b = omega (arith, ints) in
    record {
      from_least = omega (arith, ints, zero.from_least);
      ordered = omega (arith, ints, div_le_div a b d (omega (arith, ints)) le);
      to_greatest = omega (arith, ints, div-le_self b d);
    }
int_div_range k (negsuc a) h d p q r s = absurd (omega (arith, ints))
int_div_range k (pos a) (negsuc b) d p q r s = absurd (omega (arith, ints))
int_div_range k (pos a) (pos b) (negsuc d) p q r s = absurd (omega (arith, ints))

pub int_shr_range : (k : Kind) (l h : ℤ) (n : ℕ) → pos 0 ≤ℤ l → l ≤ℤ h → h ≤ℤ greatest_of k → HeldBy k (range (int_shr l n) (int_shr h n))
int_shr_range k (pos a) (pos b) n p q r =
    let zero = Holds-zero k in
    let le : a ≤ b = omega (arith, ints) in
    record {
      from_least = omega (arith, ints, zero.from_least);
      ordered = omega (arith, ints, div_le_div a b (2 ^ n) (pow_pos n) le);
      to_greatest = omega (arith, ints, div-le_self b (2 ^ n));
    }
int_shr_range k (negsuc a) h n p q r = absurd (omega (arith, ints))
int_shr_range k (pos a) (negsuc b) n p q r = absurd (omega (arith, ints))

-- ---- From 0 to the lesser of two numbers, and from the negative of a number to the number

pub lesser_range : (k : Kind) (x y : ℤ) → pos 0 ≤ℤ x → pos 0 ≤ℤ y → x ≤ℤ greatest_of k → HeldBy k (range (pos 0) (lesser x y))
lesser_range k x y p q r =
    let zero = Holds-zero k in
    let P : ℤ → Type 0 = λ z. HeldBy k (range (pos 0) z) in
    lesser_by P x y
    (λ h. record { from_least = zero.from_least; ordered = p; to_greatest = r })
    (λ h. record { from_least = zero.from_least; ordered = q; to_greatest = omega (arith, ints, h, r) })

pub symmetric_range : (k : Kind) (d : ℤ) → least_of k <ℤ pos 0 → pos 0 <ℤ d → d ≤ℤ greatest_of k → HeldBy k (range (neg_ℤ (d -ℤ pos 1)) (d -ℤ pos 1))
symmetric_range k d h p q = record {
  from_least = negative_held k (d -ℤ pos 1) h (omega (arith, ints, q));
  ordered = omega (arith, ints, p);
  to_greatest = omega (arith, ints, q);
}
