use Rattle.std.proofs.Common.{◌≡◌, ◌↔◌, ℕ, ◌<◌, length, Some}
use Rattle.std.specs.Prelude.{Contains, slice_get}
use Rattle.flow_graph.specs.declared.graph.Node as code
use Rattle.region_checker.specs.links.MarkPropagation.{IsMarked}
use Rattle.region_checker.proofs.exposure.read_at.Given as goal

abbrev pub invariant-loop-number : goal.invariant-loop-number
invariant-loop-number l = (length l.read.items ≡ l.number) ×
    ((n : ℕ) (x : code.Node) → n < l.number → slice_get l.nodes n ≡ Some x → IsMarked l.read.items n ↔ (IsMarked l.marks n × Contains x.reads.items l.location))
