-- What the code's `Interval` represents, and the bounds that it keeps.
use Rattle.std.specs.Prelude.{◌≤ℤ◌}
use Rattle.ido_ints.specs.declared.kinds.Kind.{Kind}
use Rattle.ido_ints.specs.Kinds.{least_of, greatest_of}
use Rattle.c_tree.specs.Ranges.{Interval, interval}
use Rattle.c_ranges.specs.declared.interval.Interval.{Interval as Range}

abbrev pub interval_of : Range → Interval
interval_of r = interval r.lo r.hi

-- some numbers, all of which the kind holds
pub record HeldBy (k : Kind) (r : Range) : Type 0 where
  pub from_least : least_of k ≤ℤ r.lo
  pub ordered : r.lo ≤ℤ r.hi
  pub to_greatest : r.hi ≤ℤ greatest_of k
