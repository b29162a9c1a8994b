use Rattle.std.proofs.Common.{ℕ, ◌<◌}
use Rattle.flow_graph.specs.Nodes.{graph_of}
use Rattle.flow_graph.specs.IdempotentCuts.{boundaries_of}
use Rattle.region_cutter.specs.links.RemovalPaths.{OverwritesRead}
use Rattle.region_cutter.proofs.regions.is_idempotent.Given as goal

abbrev pub invariant-loop-number : goal.invariant-loop-number
invariant-loop-number l = (node : ℕ) → node < l.number → ¬ (OverwritesRead (graph_of l.graph) (boundaries_of l.cuts) node)
