use Rattle.std.proofs.Common.{length}
use Rattle.flow_graph.specs.Nodes.{graph_of}
use Rattle.flow_live.specs.links.Passes.{rooms}
use Rattle.flow_live.proofs.LivenessFixpoint.{Reached}
use Rattle.flow_live.proofs.liveness.live.Given as goal

abbrev pub invariant-loop : goal.invariant-loop
invariant-loop l = Reached (graph_of l.graph) l.graph.nodes.items l.sets.items (length l.coming)

abbrev pub decreases-loop : goal.decreases-loop
decreases-loop l = rooms l.sets.items
