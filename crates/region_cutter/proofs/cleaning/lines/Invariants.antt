use Rattle.region_cutter.proofs.Lines.{AreFirstLines}
use Rattle.region_cutter.proofs.cleaning.lines.Given as goal

abbrev pub invariant-loop-node : goal.invariant-loop-node
invariant-loop-node l = AreFirstLines l.graph.nodes.items l.shapes l.lines.items l.node-index
