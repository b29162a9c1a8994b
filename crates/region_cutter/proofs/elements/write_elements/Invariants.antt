use Rattle.std.proofs.Common.{◌≡◌, ℕ, ◌<◌, Some}
use Rattle.std.specs.Prelude.{slice_get}
use Rattle.flow_graph.specs.declared.graph.Node as code
use Rattle.flow_graph.specs.Nodes.{node_of}
use Rattle.region_cutter.specs.Places.{WritesAnElement}
use Rattle.region_cutter.proofs.elements.write_elements.Given as goal

abbrev pub invariant-loop-node : goal.invariant-loop-node
invariant-loop-node l = (k : ℕ) (x : code.Node) → k < l.node-index → slice_get l.graph.nodes.items k ≡ Some x → WritesAnElement l.shapes (node_of x)
