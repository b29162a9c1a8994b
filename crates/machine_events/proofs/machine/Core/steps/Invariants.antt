use Rattle.std.proofs.Common.{◌≡◌, ℕ, ◌+◌, ◌++◌, replicate}
use Rattle.std.specs.Prelude.{◌↔◌}
use Rattle.machine_events.specs.declared.event.Event.TheVariants.{Step}
use Rattle.machine_events.proofs.machine.Core.steps.Given as goal

abbrev pub invariant-loop : goal.invariant-loop
invariant-loop g l =
    (g.Self.Core.opening l.self ≡ g.Self.Core.opening l.initial.self)
    × (g.Self.Core.history l.self ≡ g.Self.Core.history l.initial.self ++ replicate l.counter (Step l.hart))
    × (g.Self.Core.space l.self + l.counter ≡ g.Self.Core.space l.initial.self)
    × (g.Self.Core.hart_count l.self ≡ g.Self.Core.hart_count l.initial.self)
    × ((line mask : ℕ) → g.Self.Core.evictable l.self line mask ↔ g.Self.Core.evictable l.initial.self line mask)
