use Rattle.std.proofs.Common.{rules}
use Rattle.line_memory.proofs.NewCells.{push_zeros_step}
use Rattle.line_memory.proofs.making.push_zeros.Goals as goal

pub returns-clause-items : goal.returns-clause-items
returns-clause-items c =
    push_zeros_step c.args.cells.now.items c.resize.new.self.items c.of.result c.args.cells.now.len c.args.count (search rules) c.of.ensures
    (rw c.len.ensures at c.in_ok-resize.ensures.items)
