use Rattle.std.proofs.Common.{◌+◌, ◌<◌, ℕ, List, Option, length, sym, subst, arith}
use Rattle.std.proofs.lemmas.Option.{slice_get-get_or}
use Rattle.ido_base.specs.declared.location.Location.{Location}
use Rattle.flow_graph.specs.Nodes.{graph_of}
use Rattle.region_checker.specs.links.ConflictSearch.{IsLeastOf, AreAllRead}
use Rattle.region_checker.proofs.LeastNumbers.{IsHitBelow, hit_none, hit_more, hit_all}
use Rattle.region_checker.proofs.conflicts.first_store.Goals as goal

pub loop-location-init : goal.loop-location-init
loop-location-init c b r = hit_none (graph_of c.args.graph.now) b c.deref-location-items.result.now

pub loop-location-preserved : goal.loop-location-preserved
loop-location-preserved c b r =
    let g = graph_of c.args.graph.now in
    let items = c.deref-location-items.result.now in
    let k = c.loop-location.location-index in
    let lt : k < length items = omega (arith, c.loop-location-test.true) in
    subst (λ (o : Option ℕ). IsLeastOf (IsHitBelow g b items (k + 1)) o) (sym c.earlier-first.ensures)
    (hit_more g b items k _ c.loop-location.first c.in_ok-first_hit.field-0 (slice_get-get_or items k _ lt) (c.loop-location.invariant b r)
    (c.in_ok-first_hit.ensures b r))

pub returns : goal.returns
returns c b r =
    let g = graph_of c.args.graph.now in
    let items = c.deref-location-items.result.now in
    let all : AreAllRead g items = subst (λ (xs : List Location). AreAllRead g xs) (sym c.deref-location-items.ensures.value) c.in_ok-locations.ensures in
    hit_all g b items c.loop-location.location-index c.loop-location.first (omega (arith, c.loop-location-test.false)) all (c.loop-location.invariant b r)
