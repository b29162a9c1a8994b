use Rattle.std.proofs.Common.{◌≡◌, ◌+◌, ◌++◌}
use Rattle.run_scripts.specs.Rounds.{round_of}
use Rattle.run_scripts.proofs.rounds.step_each.Given as goal

abbrev pub invariant-loop-hart : goal.invariant-loop-hart
invariant-loop-hart g l =
    (g.C.Core.opening l.core ≡ g.C.Core.opening l.initial.core)
    × (g.C.Core.history l.core ≡ g.C.Core.history l.initial.core ++ round_of l.hart)
    × (g.C.Core.space l.core + l.hart ≡ g.C.Core.space l.initial.core)
    × (g.C.Core.hart_count l.core ≡ g.C.Core.hart_count l.initial.core)
