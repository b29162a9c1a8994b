use Rattle.std.proofs.Common.{◌≡◌, ◌+◌, ◌++◌, replicate}
use Rattle.std.specs.Vec.{vec_len}
use Rattle.machine_events.specs.declared.event.Event.TheVariants.{Step}
use Rattle.part_tests.proofs.watched.Watched.make_steps.Given as goal

abbrev pub invariant-loop : goal.invariant-loop
invariant-loop l =
    (l.self.journal.items ≡ l.initial.self.journal.items ++ replicate l.counter (Step l.hart))
    × (l.self.most ≡ l.initial.self.most)
    × (vec_len l.self.journal ≡ vec_len l.initial.self.journal + l.counter)
