use Rattle.region_checker.specs.links.LabelSearch.{AreAllLevel}
use Rattle.region_checker.proofs.labels.first_edge.Given as goal

abbrev pub invariant-loop-from : goal.invariant-loop-from
invariant-loop-from l = AreAllLevel l.first l.labels l.limits l.from
