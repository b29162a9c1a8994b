use Rattle.std.proofs.Common.{◌≡◌, ℕ, ◌<◌, ◌≤◌, true, false, List, Some, length, get_or, refl, subst}
use Rattle.std.specs.Prelude.{slice_get}
use Rattle.std.proofs.lemmas.Option.{slice_get_read}
use Rattle.flow_graph.specs.declared.graph.Node as code
use Rattle.flow_graph.specs.Nodes.{graph_of, node_of}
use Rattle.region_cutter.specs.Places.{WritesAnElement}
use Rattle.region_cutter.proofs.TrialParts.{below_more}
use Rattle.region_cutter.proofs.SingleElements.{all_elements, no_element}
use Rattle.region_cutter.proofs.elements.write_elements.Goals as goal

at_hand : (nodes items : List code.Node) (i : ℕ) (x : code.Node) → items ≡ nodes → i < length items → x ≡ get_or items i x → slice_get nodes i ≡ Some x
at_hand nodes items i x same lt is = subst (λ (xs : List code.Node). slice_get xs i ≡ Some x) same (slice_get_read items (length items) i x refl lt is)

pub returns-then-not-writes_an_element : goal.returns-then-not-writes_an_element
returns-then-not-writes_an_element c =
    let nodes = c.args.graph.now.nodes.items in
    let n = c.loop-node.node-index in
    let x = c.node-item.result in
    let no' : c.writes_an_element.result ≡ false = c.if-not-writes_an_element.true in
    let at = at_hand nodes c.deref-node-items.result.now n x c.deref-node-items.ensures.value c.loop-node-test.true c.node-item.is in
    let none = no_element nodes (graph_of c.args.graph.now) c.args.shapes.now n x refl at
    (λ a. let yes' : c.writes_an_element.result ≡ true = c.writes_an_element.ensures.1 a in cc) in (
      λ h. let wrong : false ≡ true = h in absurd (cc),
      λ a. absurd (none a),
    )

pub loop-node-preserved : goal.loop-node-preserved
loop-node-preserved c =
    let nodes = c.args.graph.now.nodes.items in
    let n = c.loop-node.node-index in
    let x = c.node-item.result in
    let at = at_hand nodes c.deref-node-items.result.now n x c.deref-node-items.ensures.value c.loop-node-test.true c.node-item.is in
    let P : code.Node → Type 0 = λ y. WritesAnElement c.args.shapes.now (node_of y) in
    let here : P x = c.writes_an_element.ensures.0 c.if-not-writes_an_element.false in
    below_more P nodes n x at here c.loop-node.invariant

pub returns : goal.returns
returns c =
    let nodes = c.args.graph.now.nodes.items in
    let all : length nodes ≤ c.loop-node.node-index =
    subst (λ (xs : List code.Node). length xs ≤ c.loop-node.node-index) c.deref-node-items.ensures.value c.loop-node-test.false in (
      λ h. all_elements nodes (graph_of c.args.graph.now) c.args.shapes.now c.loop-node.node-index refl all c.loop-node.invariant,
      λ a. refl,
    )
