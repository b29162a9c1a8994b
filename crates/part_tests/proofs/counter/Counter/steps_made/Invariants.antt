use Rattle.std.proofs.Common.{◌≡◌, ◌≤◌, drop}
use Rattle.machine_events.specs.Cores.{played}
use Rattle.part_tests.specs.CountingCore.{counting}
use Rattle.part_tests.proofs.counter.Counter.steps_made.Given as goal

abbrev pub invariant-loop-event : goal.invariant-loop-event
invariant-loop-event l = (played counting l.steps (drop l.event-index l.self.journal.items) ≡ played counting 0 l.self.journal.items) × (l.steps ≤ 6)
