use Rattle.std.proofs.Common.{Bool, List, subst}
use Rattle.flow_graph.specs.Nodes.{graph_of}
use Rattle.region_checker.specs.declared.paths.Path.{Path}
use Rattle.region_checker.specs.links.ConflictSearch.{IsLeastOf, IsOver, IsPastMarked}
use Rattle.region_checker.proofs.FoundConflicts.{hit_is}
use Rattle.region_checker.proofs.conflicts.first_hit.Goals as goal

pub returns : goal.returns
returns c b r =
    let g = graph_of c.args.graph.now in
    let paths = c.args.regions.now.paths.items in
    let location = c.args.location in
    let marks = c.in_ok-exposed.exposed.items in
    let found = c.first_after.result in
    let first : IsLeastOf (IsOver g location (IsPastMarked paths marks)) found =
    subst (λ (ws : List Path). IsLeastOf (IsOver g location (IsPastMarked ws marks)) found) c.deref.ensures.value
    (subst (λ (ms : List Bool). IsLeastOf (IsOver g location (IsPastMarked c.deref.result.now ms)) found) c.deref-2.ensures.value c.first_after.ensures) in
    hit_is g b location paths marks found r.lead (c.in_ok-exposed.ensures.exposed b r) first
