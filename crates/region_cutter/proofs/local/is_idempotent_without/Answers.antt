use Rattle.std.proofs.Common.{◌↔◌, List, Bool, Vec, Global, not, sym, subst}
use Rattle.std.specs.Prelude.{IsTrue}
use Rattle.ido_base.specs.declared.location.Location.{Location}
use Rattle.flow_graph.specs.Nodes.{graph_of}
use Rattle.flow_graph.specs.IdempotentCuts.{boundaries_of}
use Rattle.region_cutter.specs.declared.covered.Read.{Read}
use Rattle.region_cutter.specs.links.CoveredReads.{AreCovered, Notes}
use Rattle.region_cutter.specs.links.RemovalPaths.{IsExposedBefore}
use Rattle.region_cutter.proofs.ConflictPaths.{known_by}
use Rattle.region_cutter.proofs.CoveredReads.{covered_after}
use Rattle.region_cutter.proofs.local.is_idempotent_without.Goals as goal

pub is_exposed_before-requires-clause-covered : goal.is_exposed_before-requires-clause-covered
is_exposed_before-requires-clause-covered c =
    subst (λ (xs : List (Vec Bool Global)). AreCovered (graph_of c.args.graph.now) (boundaries_of c.args.cuts.now) xs) (sym c.deref.ensures.value)
    c.requires.covered

pub returns-clause-known : goal.returns-clause-known
returns-clause-known c =
    let g = graph_of c.args.graph.now in
    let now = boundaries_of c.args.cuts.now in
    known_by g now c.args.node c.in_ok-ahead.ahead.writes.items c.in_ok-exposed.exposed c.in_ok-ahead.ensures.writes
    (subst (λ (ws : List Location). IsTrue c.in_ok-exposed.exposed ↔ IsExposedBefore g now ws c.args.node) c.deref-2.ensures.value
    c.in_ok-exposed.ensures.exposed)

pub returns-clause-covered : goal.returns-clause-covered
returns-clause-covered c =
    let g = graph_of c.args.graph.now in
    let now = boundaries_of c.args.cuts.now in
    let found = c.is_exposed_before.new.found.items in
    let seen = c.in_ok-ahead.ahead.seen.items in
    let gone = not c.in_ok-exposed.exposed in
    let old = c.args.covered.now.items in
    let new = c.note.new.covered.items in
    covered_after g now c.args.node found seen gone old new c.in_ok-ahead.ensures.seen c.requires.covered c.in_ok-exposed.ensures.found
    (subst (λ (xs : List Read). Notes xs seen gone old new) c.deref-3.ensures.value
    (subst (λ (xs : List Bool). Notes c.deref-3.result.now xs gone old new) c.deref-4.ensures.value c.note.ensures))
