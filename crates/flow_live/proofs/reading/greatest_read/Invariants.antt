use Rattle.std.proofs.Common.{◌≡◌, ℕ, ◌<◌, ◌≤◌, Some}
use Rattle.std.specs.Prelude.{Contains, slice_get}
use Rattle.flow_graph.specs.declared.graph.Node.{Node}
use Rattle.flow_live.proofs.reading.greatest_read.Given as goal

abbrev pub invariant-loop-node : goal.invariant-loop-node
invariant-loop-node l = (n local : ℕ) (x : Node) → n < l.node-index → slice_get l.nodes n ≡ Some x → Contains x.uses.items local → local ≤ l.most
