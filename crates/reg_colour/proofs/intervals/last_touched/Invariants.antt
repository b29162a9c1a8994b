use Rattle.std.proofs.Common.{ℕ, ◌<◌}
use Rattle.flow_graph.specs.Nodes.{graph_of}
use Rattle.flow_graph.specs.Liveness.{Touches}
use Rattle.reg_colour.proofs.intervals.last_touched.Given as goal

abbrev pub invariant-loop-node : goal.invariant-loop-node
invariant-loop-node l = (other : ℕ) → Touches (graph_of l.graph) l.fn.part l.local other → other < l.node
