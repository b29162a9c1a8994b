use Rattle.std.proofs.Common.{◌≡◌, List, length, ap, ◌∙◌}
use Rattle.flow_graph.specs.declared.graph.Node as code
use Rattle.region_checker.specs.links.MarkPropagation.{AreSpread}
use Rattle.region_checker.specs.links.ConflictSearch.{stops_of}
use Rattle.region_checker.proofs.FoundConflicts.{spread_along, unwritten_is}
use Rattle.region_checker.proofs.exposure.unwritten.Goals as goal

pub returns-clause-unwritten : goal.returns-clause-unwritten
returns-clause-unwritten c b r =
    let g = c.args.graph.now in
    let paths = c.args.regions.now.paths.items in
    let begins = c.args.regions.now.begins.items in
    let location = c.args.location in
    let after = c.spread.result.items in
    let stops : c.deref-4.result.now ≡ stops_of location g.nodes.items =
    c.deref-4.ensures.value ∙ c.in_ok-stops.ensures ∙ ap (λ (xs : List code.Node). stops_of location xs) c.deref.ensures.value in
    let starts : c.in_ok-begins.begins.items ≡ begins = c.in_ok-begins.ensures.items ∙ c.deref-2.ensures.value in
    let s : AreSpread paths (stops_of location g.nodes.items) begins after =
    spread_along paths c.deref-3.result.now (stops_of location g.nodes.items) c.deref-4.result.now begins c.in_ok-begins.begins.items after
    c.deref-3.ensures.value stops starts c.spread.ensures.spread in
    unwritten_is g b location paths begins after r (c.spread.ensures.long ∙ ap length starts) s
