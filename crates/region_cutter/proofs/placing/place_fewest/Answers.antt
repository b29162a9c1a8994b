use Rattle.std.proofs.Common.{ℕ, ◌<◌, List, get_or, refl, sym, subst, arith}
use Rattle.std.specs.Prelude.{Contains}
use Rattle.std.proofs.lemmas.Option.{slice_get-get_or}
use Rattle.flow_graph.specs.Nodes.{graph_of}
use Rattle.flow_graph.specs.IdempotentCuts.{boundaries_of}
use Rattle.region_cutter.specs.declared.straight.Stretch.{Stretch}
use Rattle.region_cutter.specs.links.FewBoundaries.{ArePlaced, AreFewIn}
use Rattle.region_cutter.proofs.FewBoundaries.{few_none, few_more, few_kept, divides_later}
use Rattle.region_cutter.proofs.StraightCode.{stretch_within}
use Rattle.region_cutter.proofs.placing.place_fewest.Goals as goal

abbrev none : Stretch
none = record { first = 0; past = 0 }

pub loop-stretch-init : goal.loop-stretch-init
loop-stretch-init c = few_none (graph_of c.args.graph.now) c.args.stretches.now (boundaries_of c.args.cuts.now) c.requires.everywhere

pub fewest-requires : goal.fewest-requires
fewest-requires c =
    let k = c.loop-stretch.stretch-index in
    let s = get_or c.args.stretches.now k none in
    c.requires.all.is k s (slice_get-get_or c.args.stretches.now k none c.loop-stretch-test.true)

pub place-requires-clause-some : goal.place-requires-clause-some
place-requires-clause-some c =
    let k = c.loop-stretch.stretch-index in
    let s = get_or c.args.stretches.now k none in
    (c.requires.all.is k s (slice_get-get_or c.args.stretches.now k none c.loop-stretch-test.true)).some

pub place-requires-clause-exist : goal.place-requires-clause-exist
place-requires-clause-exist c =
    let k = c.loop-stretch.stretch-index in
    let s = get_or c.args.stretches.now k none in
    let stretch = c.requires.all.is k s (slice_get-get_or c.args.stretches.now k none c.loop-stretch-test.true) in
    let le = stretch_within (graph_of c.args.graph.now) s.first s.past stretch in
    let long = c.loop-stretch.invariant.long in
    omega (arith, le, long)

pub place-requires-clause-inside : goal.place-requires-clause-inside
place-requires-clause-inside c =
    let s = get_or c.args.stretches.now c.loop-stretch.stretch-index none in
    subst (λ (xs : List ℕ). (node : ℕ) → Contains xs node → (s.first < node) × (node < s.past)) (sym c.deref.ensures.value)
    (divides_later (graph_of c.args.graph.now) s.past s.first c.in_ok-chosen.chosen.items c.in_ok-chosen.ensures.cuts.divides)

pub loop-stretch-preserved : goal.loop-stretch-preserved
loop-stretch-preserved c =
    let g = graph_of c.args.graph.now in
    let stretches = c.args.stretches.now in
    let k = c.loop-stretch.stretch-index in
    let s = get_or stretches k none in
    let old = boundaries_of c.loop-stretch.cuts in
    let new = boundaries_of (record { before = c.place.new.before; after_lock = c.loop-stretch.cuts.after_lock }) in
    let placed : ArePlaced s.first s.past c.in_ok-chosen.chosen.items old.before new.before =
    subst (λ (xs : List ℕ). ArePlaced s.first s.past xs old.before new.before) c.deref.ensures.value c.place.ensures in
    subst (λ (n : ℕ). AreFewIn g stretches n new) (omega arith)
    (few_more g stretches k s c.in_ok-chosen.chosen.items old new c.requires.all (slice_get-get_or stretches k none c.loop-stretch-test.true)
    c.in_ok-chosen.ensures.cuts c.in_ok-chosen.ensures.writes placed refl c.loop-stretch.invariant)

pub returns : goal.returns
returns c =
    few_kept (graph_of c.args.graph.now) c.args.stretches.now (boundaries_of c.loop-stretch.cuts) c.loop-stretch.stretch-index c.loop-stretch-test.false
    c.requires.all c.loop-stretch.invariant
