use Rattle.reg_colour.specs.links.LinearScan.{ScannedTo}
use Rattle.reg_colour.proofs.scan.begin.Given as goal

abbrev pub invariant-loop-local : goal.invariant-loop-local
invariant-loop-local l = ScannedTo l.intervals l.node l.local l.registers l.free
