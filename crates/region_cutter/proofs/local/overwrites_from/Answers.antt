use Rattle.std.proofs.Common.{◌↔◌, List, subst}
use Rattle.std.specs.Prelude.{IsTrue}
use Rattle.ido_base.specs.declared.location.Location.{Location}
use Rattle.flow_graph.specs.Nodes.{graph_of}
use Rattle.flow_graph.specs.IdempotentCuts.{boundaries_of}
use Rattle.region_cutter.specs.links.RemovalPaths.{ExposesOver}
use Rattle.region_cutter.proofs.TrialParts.{overwrites_is}
use Rattle.region_cutter.proofs.local.overwrites_from.Goals as goal

pub returns-in_ok-exposed-in-Some : goal.returns-in_ok-exposed-in-Some
returns-in_ok-exposed-in-Some c =
    let g = graph_of c.args.graph.now in
    let b = boundaries_of c.args.cuts.now in
    overwrites_is g b c.in_ok-ahead-in-Some.ahead.writes.items c.args.number c.in-Some.to c.args.to c.in_ok-exposed-in-Some.exposed c.in-Some.is
    c.in_ok-ahead-in-Some.ensures.writes
    (subst (λ (ws : List Location). IsTrue c.in_ok-exposed-in-Some.exposed ↔ ExposesOver g b ws c.args.number) c.deref-in-Some.ensures.value
    c.in_ok-exposed-in-Some.ensures.exposed)
