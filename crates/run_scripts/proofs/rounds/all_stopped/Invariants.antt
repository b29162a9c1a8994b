use Rattle.std.proofs.Common.{◌≡◌, ℕ, ◌<◌, true}
use Rattle.machine_events.specs.Cores.{played}
use Rattle.run_scripts.proofs.rounds.all_stopped.Given as goal

abbrev pub invariant-loop-hart : goal.invariant-loop-hart
invariant-loop-hart g l = (hart : ℕ) → hart < l.hart →
    g.C.Core.behaviour.is_stopped (played g.C.Core.behaviour (g.C.Core.opening l.core) (g.C.Core.history l.core)) hart ≡ true
