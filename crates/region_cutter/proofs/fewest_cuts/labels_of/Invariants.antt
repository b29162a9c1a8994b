use Rattle.std.proofs.Common.{◌≡◌, ◌-◌, map, take}
use Rattle.region_cutter.proofs.fewest_cuts.labels_of.Given as goal

abbrev pub invariant-loop-count : goal.invariant-loop-count
invariant-loop-count l = l.labels.items ≡ map (λ count. l.all - count) (take l.count-index l.counts)
