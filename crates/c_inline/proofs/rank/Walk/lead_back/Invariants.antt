use Rattle.std.proofs.Common.{length}
use Rattle.c_inline.proofs.rank.Walk.lead_back.Given as goal

abbrev pub decreases-loop-root : goal.decreases-loop-root
decreases-loop-root l = length l.self.roots.items
