use Rattle.std.proofs.Common.{◌≡◌, ◌≤◌}
use Rattle.run_scripts.proofs.RoundsMade.{LeadsTo}
use Rattle.run_scripts.proofs.rounds.make_rounds.Given as goal

abbrev pub invariant-loop-left : goal.invariant-loop-left
invariant-loop-left g l =
    (g.C.Core.opening l.core ≡ g.C.Core.opening l.fn.core)
    × (g.C.Core.hart_count l.core ≡ g.C.Core.hart_count l.fn.core)
    × (l.left ≤ g.C.Core.space l.core)
    × LeadsTo g.C.Core.behaviour (g.C.Core.hart_count l.fn.core) l.most (g.C.Core.opening l.fn.core) (g.C.Core.history l.fn.core) l.left
    (g.C.Core.history l.core)

abbrev pub decreases-loop-left : goal.decreases-loop-left
decreases-loop-left g l = l.left
