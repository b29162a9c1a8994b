use Rattle.reg_colour.proofs.IntervalCounts.{CountedTo}
use Rattle.reg_colour.proofs.intervals.holding.Given as goal

abbrev pub invariant-loop-interval : goal.invariant-loop-interval
invariant-loop-interval l = CountedTo l.intervals l.node l.interval-index l.count
