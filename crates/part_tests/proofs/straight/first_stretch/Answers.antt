use Rattle.std.proofs.Common.{◌≡◌, ◌<◌, Some, length, refl, subst, arith}
use Rattle.std.proofs.lemmas.Option.{slice_get_read}
use Rattle.flow_graph.specs.Nodes.{graph_of}
use Rattle.region_cutter.specs.FewestCuts.{IsStretch}
use Rattle.region_cutter.specs.declared.straight.Stretch as spec
use Rattle.part_tests.proofs.straight.first_stretch.Goals as goal

pub returns : goal.returns
returns c = λ s e.
    let items = c.in_ok-found.found.items in
    let x = c.index.result.now in
    let lt : 0 < length items = omega (arith, c.len.ensures, c.in_ok-found.found.ok.0) in
    let at = slice_get_read items (length items) 0 x refl lt c.index.ensures in
    let same : x ≡ s = cc in
    subst (λ (t : spec.Stretch). IsStretch (graph_of c.args.graph.now) t.first t.past) same (c.in_ok-found.ensures.is 0 x at)
