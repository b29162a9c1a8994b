use Rattle.line_memory.proofs.CellLoopSteps.{AreCrashed}
use Rattle.line_memory.proofs.lines.crash_some.Given as goal

abbrev pub invariant-loop-number : goal.invariant-loop-number
invariant-loop-number l = AreCrashed l.initial.cells l.cells l.numbers l.number-index
