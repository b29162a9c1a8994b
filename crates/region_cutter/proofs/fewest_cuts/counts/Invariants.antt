use Rattle.std.proofs.Common.{◌≤◌}
use Rattle.region_cutter.specs.links.RegionLimits.{AreCounts, AreNearest}
use Rattle.region_cutter.proofs.fewest_cuts.counts.Given as goal

abbrev pub invariant-loop-number : goal.invariant-loop-number
invariant-loop-number l = record {
  from_first : l.first ≤ l.number;
  to_past : l.number ≤ l.fn.past;
  counts : AreCounts l.first l.fn.past l.number l.limits l.counts.items;
  nearest : AreNearest l.first l.fn.past l.number l.counts.items l.nearest.items;
}

abbrev pub decreases-loop-number : goal.decreases-loop-number
decreases-loop-number l = l.number
