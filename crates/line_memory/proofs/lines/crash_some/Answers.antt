use Rattle.std.proofs.Common.{arith}
use Rattle.line_memory.proofs.CellLoopSteps.{CellsStand-some}
use Rattle.line_memory.proofs.lines.crash_some.Goals as goal

pub returns : goal.returns
returns c = CellsStand-some c.args.cells.now c.loop-number.cells c.args.numbers.now c.loop-number.number-index c.loop-number.invariant (omega arith)
