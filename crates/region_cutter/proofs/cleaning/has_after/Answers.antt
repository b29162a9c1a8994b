use Rattle.std.proofs.Common.{◌≡◌, ◌↔◌, ◌&&◌, Bool, true, List, Some, ap, subst, ◌∙◌}
use Rattle.std.specs.Prelude.{slice_get, IsTrue}
use Rattle.std.specs.Option.{option_map}
use Rattle.std.proofs.lemmas.Option.{slice_get-map}
use Rattle.flow_graph.specs.Nodes.{graph_of, node_of}
use Rattle.flow_graph.specs.IdempotentCuts.{HasBoundaryAfter, boundaries_of}
use Rattle.region_cutter.proofs.Edges.{has_after_is, and_then, and_else}
use Rattle.region_cutter.proofs.cleaning.has_after.Goals as goal
use Rattle.region_cutter.proofs.cleaning.has_after.Goals.{After-stands-stands}

asked : (c : After-stands-stands) →
    IsTrue (c.locks-takes.result && c.stands-stands.result) ↔ HasBoundaryAfter (graph_of c.args.graph.now) (boundaries_of c.args.cuts.now) c.args.number
asked c =
    let nodes = c.args.graph.now.nodes.items in
    let n = c.args.number in
    let k = subst (λ (flags : List Bool). IsTrue c.stands-stands.result ↔ (slice_get flags n ≡ Some true)) c.deref.ensures.value c.stands-stands.ensures in
    has_after_is (graph_of c.args.graph.now) (boundaries_of c.args.cuts.now) n (node_of c.args.node.now) c.locks-takes.result c.stands-stands.result
    (slice_get-map node_of nodes n ∙ ap (option_map node_of) c.requires) c.locks-takes.ensures k

pub returns-then-takes : goal.returns-then-takes
returns-then-takes c =
    and_then c.locks-takes.result c.stands-stands.result
    (HasBoundaryAfter (graph_of c.args.graph.now) (boundaries_of c.args.cuts.now) c.args.number) c.if-takes.true
    (asked (goal.at.returns-then-takes c).After-stands-stands)

pub returns-else-takes : goal.returns-else-takes
returns-else-takes c =
    and_else c.locks-takes.result c.stands-stands.result (HasBoundaryAfter (graph_of c.args.graph.now) (boundaries_of c.args.cuts.now) c.args.number)
    c.if-takes.false
    (asked (goal.at.returns-else-takes c).After-stands-stands)
