use Rattle.std.proofs.Common.{arith, inl}
use Rattle.run_scripts.proofs.rounds.step_each.Goals as goal

pub event-requires-clause-valid : goal.event-requires-clause-valid
event-requires-clause-valid g c = inl (omega (arith, c.requires.harts, c.loop-hart-test.true, c.loop-hart.invariant.3))
