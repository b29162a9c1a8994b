use Rattle.std.proofs.Common.{◌↔◌, ◌||◌, Option, ap, subst, ◌∙◌, ℕ}
use Rattle.std.specs.Prelude.{IsTrue}
use Rattle.std.specs.Option.{option_map}
use Rattle.std.proofs.lemmas.Option.{slice_get-map}
use Rattle.flow_graph.specs.Nodes.{graph_of, node_of}
use Rattle.flow_graph.specs.IdempotentCuts.{boundaries_of}
use Rattle.region_cutter.specs.links.Lines.{Leaves, LeadsOver}
use Rattle.region_cutter.proofs.Edges.{leaves_is, or_then, or_else}
use Rattle.region_cutter.proofs.cleaning.leaves.Goals as goal
use Rattle.region_cutter.proofs.cleaning.leaves.Goals.{After-leads_over-other}

asked : (c : After-leads_over-other) →
    IsTrue (c.leads_over-next.result || c.leads_over-other.result) ↔ Leaves (graph_of c.args.graph.now) (boundaries_of c.args.cuts.now) c.args.number
asked c =
    let nodes = c.args.graph.now.nodes.items in
    let n = c.args.number in
    let b = boundaries_of c.args.cuts.now in
    let after = c.has_after-after.result in
    leaves_is (graph_of c.args.graph.now) b n (node_of c.args.node.now) after c.leads_over-next.result c.leads_over-other.result
    (slice_get-map node_of nodes n ∙ ap (option_map node_of) c.requires) c.has_after-after.ensures
    (subst (λ (to : Option ℕ). IsTrue c.leads_over-next.result ↔ LeadsOver b after to) c.next.ensures c.leads_over-next.ensures)
    (subst (λ (to : Option ℕ). IsTrue c.leads_over-other.result ↔ LeadsOver b after to) c.other.ensures c.leads_over-other.ensures)

pub returns-then-next : goal.returns-then-next
returns-then-next c =
    or_then c.leads_over-next.result c.leads_over-other.result (Leaves (graph_of c.args.graph.now) (boundaries_of c.args.cuts.now) c.args.number) c.if-next.true
    (asked (goal.at.returns-then-next c).After-leads_over-other)

pub returns-else-next : goal.returns-else-next
returns-else-next c =
    or_else c.leads_over-next.result c.leads_over-other.result
    (Leaves (graph_of c.args.graph.now) (boundaries_of c.args.cuts.now) c.args.number) c.if-next.false
    (asked (goal.at.returns-else-next c).After-leads_over-other)
