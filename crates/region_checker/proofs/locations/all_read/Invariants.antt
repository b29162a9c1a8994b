use Rattle.std.proofs.Common.{◌≡◌, ℕ, ◌<◌, Some}
use Rattle.std.specs.Prelude.{Contains, slice_get}
use Rattle.ido_base.specs.declared.location.Location.{Location}
use Rattle.flow_graph.specs.declared.graph.Node as code
use Rattle.region_checker.proofs.locations.all_read.Given as goal

abbrev pub invariant-loop-node : goal.invariant-loop-node
invariant-loop-node l =
    (n : ℕ) (x : code.Node) (elements : Location) → n < l.node-index → slice_get l.graph.nodes.items n ≡ Some x → Contains x.reads.items elements →
    Contains l.locations.items elements
