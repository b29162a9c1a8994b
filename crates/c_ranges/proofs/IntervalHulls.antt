-- What lies within an interval, and within the least one that holds two.
use Rattle.std.proofs.Common.{arith}
use Rattle.std.specs.Prelude.{ℤ, ◌≤ℤ◌}
use Rattle.std.proofs.lemmas.Int.{ints}
use Rattle.c_tree.specs.Ranges.{Interval, Within, only, hull, lesser, greater}
use Rattle.c_ranges.proofs.IntervalsOfKinds.{lesser_left, lesser_right, greater_left, greater_right}

pub le_trans : (x y z : ℤ) → x ≤ℤ y → y ≤ℤ z → x ≤ℤ z
le_trans x y z h k = omega (arith, ints)

pub le_refl : (x : ℤ) → x ≤ℤ x
le_refl x = omega (arith, ints)

pub Within_only : (z : ℤ) → Within (only z) z
Within_only z = record { from_low = le_refl z; to_high = le_refl z }

pub Within_hull_left : (i j : Interval) (z : ℤ) → Within i z → Within (hull i j) z
Within_hull_left i j z h = record {
  from_low = le_trans (lesser i.lo j.lo) i.lo z (lesser_left i.lo j.lo) h.from_low;
  to_high = le_trans z i.hi (greater i.hi j.hi) h.to_high (greater_left i.hi j.hi);
}

pub Within_hull_right : (i j : Interval) (z : ℤ) → Within j z → Within (hull i j) z
Within_hull_right i j z h = record {
  from_low = le_trans (lesser i.lo j.lo) j.lo z (lesser_right i.lo j.lo) h.from_low;
  to_high = le_trans z j.hi (greater i.hi j.hi) h.to_high (greater_right i.hi j.hi);
}
