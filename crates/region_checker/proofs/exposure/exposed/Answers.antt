use Rattle.std.proofs.Common.{Bool, false, List, length, replicate, subst, refl, ◌∙◌}
use Rattle.flow_graph.specs.declared.graph.Node as code
use Rattle.region_checker.specs.links.MarkPropagation.{AreSpread}
use Rattle.region_checker.specs.links.ConflictSearch.{AreReadAt}
use Rattle.region_checker.proofs.FoundConflicts.{spread_along, exposed_is}
use Rattle.region_checker.proofs.exposure.exposed.Goals as goal

pub returns-clause-exposed : goal.returns-clause-exposed
returns-clause-exposed c b r =
    let g = c.args.graph.now in
    let paths = c.args.regions.now.paths.items in
    let begins = c.args.regions.now.begins.items in
    let location = c.args.location in
    let after = c.spread.result.items in
    let unwritten = c.in_ok-unwritten.unwritten.items in
    let read = c.in_ok-read.read.items in
    let none = replicate {A = Bool} (length g.nodes.items) false in
    let at : AreReadAt g.nodes.items unwritten location read =
    subst (λ (xs : List code.Node). AreReadAt xs unwritten location read) c.deref.ensures.value
    (subst (λ (ms : List Bool). AreReadAt c.deref.result.now ms location read) c.deref-2.ensures.value c.in_ok-read.ensures) in
    let s : AreSpread paths none read after =
    spread_along paths c.deref-3.result.now none c.deref-4.result.now read read after c.deref-3.ensures.value (c.deref-4.ensures.value ∙ c.in_ok-stops.ensures)
    refl c.spread.ensures.spread in
    exposed_is g b location paths begins unwritten read after r (c.in_ok-unwritten.ensures.unwritten b r) at c.spread.ensures.long s
