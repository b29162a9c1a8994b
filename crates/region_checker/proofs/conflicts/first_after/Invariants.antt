use Rattle.flow_graph.specs.Nodes.{graph_of}
use Rattle.region_checker.specs.links.ConflictSearch.{IsOver, IsLeastOf}
use Rattle.region_checker.proofs.LeastNumbers.{IsAfterBelow}
use Rattle.region_checker.proofs.conflicts.first_after.Given as goal

abbrev pub invariant-loop-number : goal.invariant-loop-number
invariant-loop-number l = IsLeastOf (IsOver (graph_of l.graph) l.location (IsAfterBelow l.paths l.marks l.number)) l.first
