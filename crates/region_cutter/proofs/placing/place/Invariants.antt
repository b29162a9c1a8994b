use Rattle.region_cutter.proofs.FewBoundaries.{AreCleared, ArePlacedBelow}
use Rattle.region_cutter.proofs.placing.place.Given as goal

abbrev pub invariant-loop-number : goal.invariant-loop-number
invariant-loop-number l = AreCleared l.fn.stretch.first l.fn.stretch.past l.number l.initial.before.items l.before.items

abbrev pub invariant-loop-cut : goal.invariant-loop-cut
invariant-loop-cut l = ArePlacedBelow l.fn.stretch.first l.fn.stretch.past l.cut-index l.chosen l.fn.before.items l.before.items
