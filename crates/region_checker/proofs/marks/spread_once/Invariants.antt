use Rattle.region_checker.specs.links.MarkPropagation.{IsMarkPass}
use Rattle.region_checker.proofs.marks.spread_once.Given as goal

abbrev pub invariant-loop-number : goal.invariant-loop-number
invariant-loop-number l = IsMarkPass l.paths l.stops l.number l.fn.marks l.marks l.grows
