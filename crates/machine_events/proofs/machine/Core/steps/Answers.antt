use Rattle.std.proofs.Common.{arith, inl}
use Rattle.machine_events.proofs.machine.Core.steps.Goals as goal

pub event-requires-clause-valid : goal.event-requires-clause-valid
event-requires-clause-valid g c = inl (omega (arith, c.requires.hart, c.loop.invariant.3))
