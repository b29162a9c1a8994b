use Rattle.std.proofs.Common.{◌≡◌, ℕ, ◌+◌, ◌-◌, ◌≤◌, ◌++◌, length}
use Rattle.std.specs.Prelude.{◌↔◌}
use Rattle.machine_events.specs.Cores.{played}
use Rattle.run_scripts.specs.Plays.{enabled_steps}
use Rattle.run_scripts.proofs.play.play_enabled.Given as goal

abbrev pub invariant-loop : goal.invariant-loop
invariant-loop g l =
    let b = g.C.Core.behaviour in
    let harts = g.C.Core.hart_count l.initial.core in
    let opening = g.C.Core.opening l.initial.core in
    let before = g.C.Core.history l.initial.core in
    let now = g.C.Core.history l.core in
    (g.C.Core.opening l.core ≡ opening)
    × (before ++ enabled_steps b harts l.count (played b opening before) ≡ now ++ enabled_steps b harts (l.count - l.counter) (played b opening now))
    × (g.C.Core.space l.core + length now ≡ g.C.Core.space l.initial.core + length before)
    × (l.floor ≤ g.C.Core.space l.core)
    × (g.C.Core.hart_count l.core ≡ harts)
    × ((line mask : ℕ) → g.C.Core.evictable l.core line mask ↔ g.C.Core.evictable l.initial.core line mask)
