use Rattle.flow_graph.specs.Nodes.{graph_of}
use Rattle.flow_graph.specs.IdempotentCuts.{boundaries_of}
use Rattle.region_checker.proofs.Nodes.{ArePathsUpTo}
use Rattle.region_checker.proofs.paths.paths.Given as goal

abbrev pub invariant-loop-number : goal.invariant-loop-number
invariant-loop-number l = ArePathsUpTo (graph_of l.graph) (boundaries_of l.cuts) l.number l.paths.items
