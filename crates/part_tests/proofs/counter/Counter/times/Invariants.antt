use Rattle.std.proofs.Common.{◌≡◌, ◌+◌, ◌≤◌, drop}
use Rattle.machine_events.specs.Cores.{passed_count}
use Rattle.part_tests.specs.CountingCore.{counting, is_step}
use Rattle.part_tests.proofs.counter.Counter.times.Given as goal

abbrev pub invariant-loop-event : goal.invariant-loop-event
invariant-loop-event l =
    (l.times + passed_count counting (is_step l.number) l.steps (drop l.event-index l.self.journal.items)
    ≡ passed_count counting (is_step l.number) 0 l.self.journal.items)
    × (l.steps ≤ 6)
    × (l.times ≤ l.event-index)
