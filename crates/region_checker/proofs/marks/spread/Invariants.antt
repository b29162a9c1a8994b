use Rattle.region_checker.specs.links.MarkPropagation.{unmarked}
use Rattle.region_checker.proofs.PropagationPasses.{Reached}
use Rattle.region_checker.proofs.marks.spread.Given as goal

abbrev pub invariant-loop : goal.invariant-loop
invariant-loop l = Reached l.paths l.stops l.fn.marks.items l.marks.items

abbrev pub decreases-loop : goal.decreases-loop
decreases-loop l = unmarked l.marks.items
