-- By induction on the expression.
use Rattle.c_ranges.proofs.ValuesInRanges.{foreseen}
use Rattle.c_ranges.proofs.laws.ranges_hold.Goals as goal

pub returns : goal.returns
returns c = foreseen
