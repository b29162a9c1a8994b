-- Where there is none, there is no index.
use Rattle.std.proofs.Common.{rules}
use Rattle.c_ranges.specs.links.FirstUnfitIndex.{first_fault}
use Rattle.c_ranges.proofs.indexes.of_returned.Goals as goal

pub returns-in-None : goal.returns-in-None
unfolding first_fault
returns-in-None c = search rules
