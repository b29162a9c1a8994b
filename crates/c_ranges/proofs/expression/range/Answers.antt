-- The kind holds the ends, and every kind's numbers are bounded.
use Rattle.c_ranges.proofs.HeldRanges.{HeldBy-Ends}
use Rattle.c_ranges.proofs.expression.range.Goals as goal

pub returns-clause-at_least : goal.returns-clause-at_least
returns-clause-at_least c = (HeldBy-Ends c.found.result.kind c.found.result.range c.found.ensures.held).lo.at_least

pub returns-clause-below : goal.returns-clause-below
returns-clause-below c = (HeldBy-Ends c.found.result.kind c.found.result.range c.found.ensures.held).hi.below
