use Rattle.std.proofs.Common.{ℕ, List, ◌<◌, ◌≤◌, ◌++◌, ◌-◌}
use Rattle.region_cutter.specs.links.RegionLimits.{AreChosen}
use Rattle.region_cutter.proofs.fewest_cuts.chosen.Given as goal

abbrev pub invariant-loop-from : goal.invariant-loop-from
invariant-loop-from l = record {
  from_first : l.first ≤ l.from;
  before : l.from < l.past;
  rest : (cuts : List ℕ) → AreChosen l.first l.past l.limits l.counts l.from cuts → AreChosen l.first l.past l.limits l.counts l.first (l.cuts.items ++ cuts);
}

abbrev pub decreases-loop-from : goal.decreases-loop-from
decreases-loop-from l = l.past - l.from
