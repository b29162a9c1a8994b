use Rattle.std.proofs.Common.{◌≡◌, ◌<◌, ◌≤◌, ℕ, Some, List, Option, ◌+◌, length, get_or, ap, sym, subst, refl, ◌∙◌, arith}
use Rattle.std.specs.Prelude.{slice_get}
use Rattle.std.specs.Option.{option_map}
use Rattle.std.proofs.lemmas.Option.{slice_get-map, slice_get_read}
use Rattle.flow_graph.specs.declared.graph.Node as code
use Rattle.flow_graph.specs.Nodes.{graph_of, node_of}
use Rattle.region_cutter.proofs.Lines.{AreFirstLines, first_none, first_more, first_all}
use Rattle.region_cutter.proofs.cleaning.lines.Goals as goal

-- the node in hand
at_hand : (nodes items : List code.Node) (i : ℕ) (x : code.Node) → items ≡ nodes → i < length items → x ≡ get_or items i x → slice_get nodes i ≡ Some x
at_hand nodes items i x same lt is = subst (λ (xs : List code.Node). slice_get xs i ≡ Some x) same (slice_get_read items (length items) i x refl lt is)

pub loop-node-init : goal.loop-node-init
loop-node-init c =
    subst (λ (xs : List (Option ℕ)). AreFirstLines c.args.graph.now.nodes.items c.args.shapes.now xs 0) (sym c.in_ok-lines.ensures.items)
    (first_none c.args.graph.now.nodes.items c.args.shapes.now)

pub line_of-requires-clause-element : goal.line_of-requires-clause-element
line_of-requires-clause-element c =
    let nodes = c.args.graph.now.nodes.items in
    let i = c.loop-node.node-index in
    let at = at_hand nodes c.deref-node-items.result.now i c.node-item.result c.deref-node-items.ensures.value c.loop-node-test.true c.node-item.is in
    c.requires.elements.each i (node_of c.node-item.result) (slice_get-map node_of nodes i ∙ ap (option_map node_of) at)

pub loop-node-preserved : goal.loop-node-preserved
loop-node-preserved c =
    let nodes = c.args.graph.now.nodes.items in
    let i = c.loop-node.node-index in
    let at = at_hand nodes c.deref-node-items.result.now i c.node-item.result c.deref-node-items.ensures.value c.loop-node-test.true c.node-item.is in
    subst (λ (xs : List (Option ℕ)). AreFirstLines nodes c.args.shapes.now xs (i + 1)) (sym c.in_ok-push.ensures.items)
    (first_more nodes c.args.shapes.now c.loop-node.lines.items i c.node-item.result c.line_of.result at c.loop-node.invariant c.line_of.ensures)

pub returns : goal.returns
returns c =
    let nodes = c.args.graph.now.nodes.items in
    let i = c.loop-node.node-index in
    let most : i ≤ length c.deref-node-items.result.now = c.loop-node.auto.node-index-end in
    let all : length c.deref-node-items.result.now ≤ i = c.loop-node-test.false in
    first_all (graph_of c.args.graph.now) nodes c.args.shapes.now c.loop-node.lines.items i refl
    (omega (arith, ap length c.deref-node-items.ensures.value)) c.loop-node.invariant
