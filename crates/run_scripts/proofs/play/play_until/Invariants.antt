use Rattle.std.proofs.Common.{◌≡◌, ℕ, ◌+◌, ◌-◌, ◌≤◌, ◌++◌, length}
use Rattle.std.specs.Prelude.{◌↔◌}
use Rattle.ido_base.specs.declared.limits.TheConstants.{MOST_STEPS_TO}
use Rattle.machine_events.specs.Cores.{played, passed_count}
use Rattle.run_scripts.specs.Plays.{steps_until}
use Rattle.run_scripts.specs.links.Goals.{reaches}
use Rattle.run_scripts.proofs.play.play_until.Given as goal

abbrev pub invariant-loop : goal.invariant-loop
invariant-loop g l =
    let b = g.C.Core.behaviour in
    let opening = g.C.Core.opening l.initial.core in
    let before = g.C.Core.history l.initial.core in
    let now = g.C.Core.history l.core in
    (g.C.Core.opening l.core ≡ opening)
    × (before ++ steps_until b (reaches b l.goal l.hart) l.hart MOST_STEPS_TO (played b opening before)
    ≡ now ++ steps_until b (reaches b l.goal l.hart) l.hart (MOST_STEPS_TO - l.counter) (played b opening now))
    × (passed_count b (reaches b l.goal l.hart) opening now ≡ passed_count b (reaches b l.goal l.hart) opening before)
    × (g.C.Core.space l.core + length now ≡ g.C.Core.space l.initial.core + length before)
    × (l.floor ≤ g.C.Core.space l.core)
    × (g.C.Core.hart_count l.core ≡ g.C.Core.hart_count l.initial.core)
    × ((line mask : ℕ) → g.C.Core.evictable l.core line mask ↔ g.C.Core.evictable l.initial.core line mask)
