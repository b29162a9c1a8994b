use Rattle.reg_colour.proofs.Scans.{crowd}
use Rattle.reg_colour.proofs.scan.scan.Goals as goal

pub returns-then-not-begin : goal.returns-then-not-begin
returns-then-not-begin c =
    crowd c.args.intervals.now c.loop-node.node c.holding-wanted.result c.loop-node.registers.items c.loop-node.free c.loop-node.invariant
    c.if-not-begin.ensures c.holding-wanted.ensures
