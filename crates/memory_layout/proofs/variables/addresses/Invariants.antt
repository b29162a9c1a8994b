use Rattle.memory_layout.proofs.Laying.{IsSoFar}
use Rattle.memory_layout.proofs.variables.addresses.Given as goal

abbrev pub invariant-loop-shape : goal.invariant-loop-shape
invariant-loop-shape l = IsSoFar l.shapes l.shape-index l.end l.addresses.items
