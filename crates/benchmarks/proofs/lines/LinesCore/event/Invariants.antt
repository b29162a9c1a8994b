use Rattle.std.proofs.Common.{◌≡◌}
use Rattle.benchmarks.proofs.lines.LinesCore.event.Given as goal

abbrev pub invariant-loop-line : goal.invariant-loop-line
invariant-loop-line l = (l.self.journal ≡ l.initial.self.journal) × (l.self.most ≡ l.initial.self.most)
