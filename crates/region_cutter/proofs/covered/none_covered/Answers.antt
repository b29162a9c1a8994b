use Rattle.std.proofs.Common.{◌≡◌, ◌+◌, ◌≤◌, List, Vec, Global, Bool, Some, length, replicate, false, refl, ap, sym, subst, ◌∙◌, arith}
use Rattle.std.specs.Prelude.{slice_get}
use Rattle.std.specs.Option.{option_map}
use Rattle.std.proofs.lemmas.List.{length-map}
use Rattle.std.proofs.lemmas.Option.{slice_get-map, slice_get_read}
use Rattle.flow_graph.specs.declared.graph.Node as code
use Rattle.flow_graph.specs.Nodes.{graph_of, node_of}
use Rattle.region_cutter.proofs.CoveredReads.{AreUnflaggedBelow, unflagged_none, unflagged_more, unflagged_all}
use Rattle.region_cutter.proofs.covered.none_covered.Goals as goal

pub loop-node-init : goal.loop-node-init
loop-node-init c = unflagged_none (graph_of c.args.graph.now) c.in_ok-covered.covered.items c.in_ok-covered.ensures.items

pub loop-node-preserved : goal.loop-node-preserved
loop-node-preserved c =
    let g = graph_of c.args.graph.now in
    let nodes = c.args.graph.now.nodes.items in
    let items = c.deref-node-items.result.now in
    let i = c.loop-node.node-index in
    let x = c.node-item.result in
    let at : slice_get nodes i ≡ Some x = subst (λ (xs : List code.Node). slice_get xs i ≡ Some x) c.deref-node-items.ensures.value
    (slice_get_read items (length items) i x refl c.loop-node-test.true c.node-item.is) in
    let is : c.in_ok-vec.field-0.items ≡ replicate c.len-in-loop-node.result false = c.in_ok-vec.ensures.items_if_clones_equal (λ y e. e) in
    let count : c.len-in-loop-node.result ≡ length x.reads.items = omega (arith, c.len-in-loop-node.ensures, x.reads.ok.0) in
    subst (λ (xs : List (Vec Bool Global)). AreUnflaggedBelow g (i + 1) xs) (sym c.in_ok-push.ensures.items)
    (unflagged_more g i (node_of x) c.loop-node.covered.items c.in_ok-vec.field-0 (slice_get-map node_of nodes i ∙ ap (option_map node_of) at)
    (is ∙ ap (λ n. replicate n false) count) c.loop-node.invariant)

pub returns : goal.returns
returns c =
    let least : length c.deref-node-items.result.now ≤ c.loop-node.node-index = c.loop-node-test.false in
    unflagged_all (graph_of c.args.graph.now) c.loop-node.node-index c.loop-node.covered.items
    (omega (arith, least, ap length c.deref-node-items.ensures.value, length-map c.args.graph.now.nodes.items node_of)) c.loop-node.invariant
