use Rattle.std.proofs.Common.{◌≡◌, ◌++◌, replicate}
use Rattle.run_tracker.proofs.journal.push_equal.Given as goal

abbrev pub invariant-loop : goal.invariant-loop
invariant-loop l = l.events.items ≡ l.initial.events.items ++ replicate l.counter l.event
