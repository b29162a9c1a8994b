use Rattle.std.proofs.Common.{ℕ, true, false, set, get_or, subst, arith}
use Rattle.std.specs.Prelude.{Contains}
use Rattle.std.proofs.lemmas.Option.{slice_get-get_or}
use Rattle.region_cutter.proofs.FewBoundaries.{contains_at, cleared_more, placed_more, placed_all, AreCleared, ArePlacedBelow}
use Rattle.region_cutter.proofs.placing.place.Goals as goal

pub loop-number-preserved : goal.loop-number-preserved
loop-number-preserved c =
    subst (λ (n : ℕ). AreCleared c.args.stretch.first c.args.stretch.past n c.args.before.now.items (set c.loop-number.before.items c.loop-number.number false))
    (omega arith)
    (cleared_more c.args.stretch.first c.args.stretch.past c.loop-number.number c.args.before.now.items c.loop-number.before.items (omega arith) (omega arith)
    c.loop-number.invariant)

pub index_mut-requires-in-loop-cut : goal.index_mut-requires-in-loop-cut
index_mut-requires-in-loop-cut c =
    let k = c.loop-cut.cut-index in
    let chosen = c.args.chosen.now in
    let inside = c.requires.inside (get_or chosen k 0) (contains_at chosen k 0 c.loop-cut-test.true) in
    let lt = inside.1 in
    let le = c.requires.exist in
    let long = c.loop-cut.invariant.long in
    omega (arith, lt, le, long, c.loop-cut.before.ok.0)

pub loop-cut-preserved : goal.loop-cut-preserved
loop-cut-preserved c =
    let k = c.loop-cut.cut-index in
    let chosen = c.args.chosen.now in
    let cut = get_or chosen k 0 in
    let among : Contains chosen cut = contains_at chosen k 0 c.loop-cut-test.true in
    let inside = c.requires.inside cut among in
    let lt = inside.1 in
    let le = c.requires.exist in
    let long = c.loop-cut.invariant.long in
    subst (λ (n : ℕ). ArePlacedBelow c.args.stretch.first c.args.stretch.past n chosen c.args.before.now.items (set c.loop-cut.before.items cut true))
    (omega arith)
    (placed_more c.args.stretch.first c.args.stretch.past k cut chosen c.args.before.now.items c.loop-cut.before.items
    (slice_get-get_or chosen k 0 c.loop-cut-test.true) among inside.0 lt (omega (arith, lt, le, long)) c.loop-cut.invariant)

pub returns : goal.returns
returns c =
    placed_all c.args.stretch.first c.args.stretch.past c.loop-cut.cut-index c.args.chosen.now c.args.before.now.items c.loop-cut.before.items
    c.loop-cut-test.false c.loop-cut.invariant
