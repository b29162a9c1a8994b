use Rattle.std.proofs.Common.{◌≡◌, ℕ, ◌+◌, ◌++◌, take}
use Rattle.std.specs.Prelude.{◌↔◌}
use Rattle.run_scripts.proofs.events.make_events.Given as goal

abbrev pub invariant-loop-event : goal.invariant-loop-event
invariant-loop-event g l =
    (g.C.Core.opening l.core ≡ g.C.Core.opening l.initial.core)
    × (g.C.Core.history l.core ≡ g.C.Core.history l.initial.core ++ take l.event-index l.events)
    × (g.C.Core.space l.core + l.event-index ≡ g.C.Core.space l.initial.core)
    × (g.C.Core.hart_count l.core ≡ g.C.Core.hart_count l.initial.core)
    × ((line mask : ℕ) → g.C.Core.evictable l.core line mask ↔ g.C.Core.evictable l.initial.core line mask)
