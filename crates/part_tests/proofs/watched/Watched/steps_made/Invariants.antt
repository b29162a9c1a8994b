use Rattle.std.proofs.Common.{◌≡◌, ◌+◌, ◌≤◌, drop}
use Rattle.part_tests.specs.MovingCore.{steps_of}
use Rattle.part_tests.proofs.watched.Watched.steps_made.Given as goal

abbrev pub invariant-loop-event : goal.invariant-loop-event
invariant-loop-event l =
    (l.steps + steps_of l.hart (drop l.event-index l.self.journal.items) ≡ steps_of l.hart l.self.journal.items) × (l.steps ≤ l.event-index)
