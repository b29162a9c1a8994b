use Rattle.std.proofs.Common.{length}
use Rattle.c_inline.proofs.rank.Walk.close.Given as goal

abbrev pub decreases-loop-function : goal.decreases-loop-function
decreases-loop-function l = length l.self.open.items
