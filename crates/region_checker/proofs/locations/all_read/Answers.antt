use Rattle.std.proofs.Common.{◌≡◌, ◌<◌, List, Some, length, refl, ap, sym, subst, ◌∙◌, arith}
use Rattle.std.specs.Prelude.{Contains, slice_get}
use Rattle.std.proofs.lemmas.Option.{slice_get_read}
use Rattle.ido_base.specs.declared.location.Location.{Location}
use Rattle.flow_graph.specs.declared.graph.Node as code
use Rattle.region_checker.proofs.CollectedLocations.{read_more, read_all}
use Rattle.region_checker.proofs.locations.all_read.Goals as goal

pub loop-node-preserved : goal.loop-node-preserved
loop-node-preserved c =
    let nodes = c.args.graph.now.nodes.items in
    let items = c.deref-node-items.result.now in
    let i = c.loop-node.node-index in
    let y = c.node-item.result in
    let lt : i < length items = omega (arith, c.loop-node-test.true) in
    let here : slice_get nodes i ≡ Some y =
    ap (λ (xs : List code.Node). slice_get xs i) (sym c.deref-node-items.ensures.value) ∙ slice_get_read items (length items) i y refl lt c.node-item.is in
    read_more nodes c.loop-node.locations.items c.add_read.new.locations.items i y here c.in_ok-add_read.ensures.keeps
    (λ x k. c.in_ok-add_read.ensures.adds x (subst (λ (xs : List Location). Contains xs x) (sym c.deref.ensures.value) k)) c.loop-node.invariant

pub returns : goal.returns
returns c =
    read_all c.args.graph.now c.loop-node.locations.items c.loop-node.node-index
    (omega (arith, c.loop-node-test.false, ap length c.deref-node-items.ensures.value)) c.loop-node.invariant
