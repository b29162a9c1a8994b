use Rattle.flow_graph.specs.Nodes.{graph_of}
use Rattle.flow_graph.specs.IdempotentCuts.{boundaries_of}
use Rattle.region_checker.specs.Conflicts.{AreThereBelow}
use Rattle.region_checker.proofs.boundaries.missing.Given as goal

abbrev pub invariant-loop-number : goal.invariant-loop-number
invariant-loop-number l = AreThereBelow (graph_of l.graph) (boundaries_of l.cuts) l.number
