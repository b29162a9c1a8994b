use Rattle.region_cutter.proofs.FewestRegions.{IsAbove}
use Rattle.region_cutter.proofs.fewest_cuts.next_cut.Given as goal

abbrev pub invariant-loop-cut : goal.invariant-loop-cut
invariant-loop-cut l = IsAbove l.first l.fn.limits l.counts l.from l.cut

abbrev pub decreases-loop-cut : goal.decreases-loop-cut
decreases-loop-cut l = l.cut
