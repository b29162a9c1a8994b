use Rattle.std.proofs.Common.{◌≡◌, ◌<◌, ℕ, Option, ap, length, refl, subst, ◌∙◌, arith}
use Rattle.std.specs.Option.{option_map}
use Rattle.std.proofs.lemmas.Option.{slice_get_read, slice_get-map}
use Rattle.flow_graph.specs.Nodes.{graph_of, node_of}
use Rattle.region_cutter.specs.links.Stretches.{AreEntries, EntersAt}
use Rattle.region_cutter.proofs.StraightCode.{entries_both}
use Rattle.region_cutter.proofs.straight.entries_of.Goals as goal

pub loop-number-preserved : goal.loop-number-preserved
loop-number-preserved c =
    let g = graph_of c.args.graph.now in
    let nodes = c.args.graph.now.nodes.items in
    let n = c.loop-number.number in
    let x = c.index-node.result.now in
    let lt : n < length nodes = omega (arith, c.loop-number-test.true, c.len-number-end.ensures, c.args.graph.now.nodes.ok.0) in
    let at = slice_get_read nodes (length nodes) n x refl lt c.index-node.ensures in
    let old = c.loop-number.entries.items in
    let mid = c.enter_at.new.entries.items in
    let new = c.enter_at-in-loop-number.new.entries.items in
    entries_both g n (node_of x) old mid new (slice_get-map node_of nodes n ∙ ap (option_map node_of) at)
    (subst (λ (to : Option ℕ). EntersAt n to old mid) c.next.ensures c.enter_at.ensures)
    (subst (λ (to : Option ℕ). EntersAt n to mid new) c.other.ensures c.enter_at-in-loop-number.ensures) c.loop-number.invariant

pub returns : goal.returns
returns c =
    let nodes = c.args.graph.now.nodes.items in
    let all : c.loop-number.number ≡ length nodes =
    omega (arith, c.loop-number-test.false, c.loop-number.auto.number-end, c.len-number-end.ensures, c.args.graph.now.nodes.ok.0) in
    subst (λ (n : ℕ). AreEntries (graph_of c.args.graph.now) n c.loop-number.entries.items) all c.loop-number.invariant
