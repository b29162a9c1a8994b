use Rattle.reg_colour.specs.links.LinearScan.{ScannedTo}
use Rattle.reg_colour.proofs.scan.scan.Given as goal

abbrev pub invariant-loop-node : goal.invariant-loop-node
invariant-loop-node l = ScannedTo l.intervals l.node 0 l.registers.items l.free
