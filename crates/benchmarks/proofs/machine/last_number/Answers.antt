use Rattle.std.proofs.Common.{arith, inl}
use Rattle.benchmarks.proofs.machine.last_number.Goals as goal

pub event-requires-clause-valid : goal.event-requires-clause-valid
event-requires-clause-valid c = inl (omega (arith, c.loop.invariant.1))
