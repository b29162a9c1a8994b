use Rattle.std.proofs.Common.{arith}
use Rattle.line_memory.proofs.CellLoopSteps.{snapshot_stands}
use Rattle.line_memory.proofs.lines.snapshot_of.Goals as goal

pub returns : goal.returns
returns c = λ words stores s.
    snapshot_stands c.args.cells.now words stores c.args.line c.loop-k.words c.requires s c.loop-k.invariant.eight
    (λ k below. c.loop-k.invariant.newest k (omega arith))
