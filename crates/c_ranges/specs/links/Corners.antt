-- Products of ends that 128 bits don't hold.
use Rattle.std.specs.Prelude.{◌⊎◌, ℤ, ◌*ℤ◌, FitsSigned}
use Rattle.std.specs.Int.{w128}
use Rattle.c_tree.specs.Ranges.{Interval}

-- 128 bits don't hold the number
abbrev pub IsWide : ℤ → Type 0
IsWide z = ¬ FitsSigned w128 z

-- 128 bits don't hold some product of the intervals' ends
abbrev pub HasWideCorner : Interval → Interval → Type 0
HasWideCorner i j = (IsWide (i.lo *ℤ j.lo) ⊎ IsWide (i.lo *ℤ j.hi)) ⊎ (IsWide (i.hi *ℤ j.lo) ⊎ IsWide (i.hi *ℤ j.hi))
