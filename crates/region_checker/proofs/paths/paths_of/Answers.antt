use Rattle.std.proofs.Common.{◌≡◌, ℕ, Option, None, true, false, length, refl, sym, subst, ◌∙◌}
use Rattle.std.proofs.lemmas.Option.{slice_get_read}
use Rattle.flow_graph.specs.Nodes.{graph_of, node_of, next_of, other_of}
use Rattle.flow_graph.specs.IdempotentCuts.{boundaries_of, HasBoundaryAfter}
use Rattle.flow_graph.specs.Liveness.{NodeAt}
use Rattle.region_checker.proofs.Nodes.{Inside, node_at, paths_go, paths_closed}
use Rattle.region_checker.proofs.paths.paths_of.Goals as goal

pub returns-then-has_after : goal.returns-then-has_after
returns-then-has_after c =
    paths_closed (graph_of c.args.graph.now) (boundaries_of c.args.cuts.now) c.args.number (record { next = None; other = None })
    (c.has_after.ensures.0 c.if-has_after.true) refl refl

pub returns-else-has_after : goal.returns-else-has_after
returns-else-has_after c =
    let g = graph_of c.args.graph.now in
    let b = boundaries_of c.args.cuts.now in
    let nodes = c.args.graph.now.nodes.items in
    let n = c.args.number in
    let x = c.index-node.result.now in
    let at : NodeAt g n (node_of x) = node_at nodes n x (slice_get_read nodes (length nodes) n x refl c.requires c.index-node.ensures) in
    let open_ : ¬ (HasBoundaryAfter g b n) = λ h.
    (let t : c.has_after.result ≡ true = c.has_after.ensures.1 h in let both : true ≡ false = sym t ∙ c.if-has_after.false in absurd (cc)) in
    let next : Inside b (next_of (node_of x).action) c.inside.result =
    subst (λ (o : Option ℕ). Inside b o c.inside.result) c.next.ensures (record { each = c.inside.ensures }) in
    let other : Inside b (other_of (node_of x).action) c.inside-else-has_after.result =
    subst (λ (o : Option ℕ). Inside b o c.inside-else-has_after.result) c.other.ensures (record { each = c.inside-else-has_after.ensures }) in
    paths_go g b n (node_of x) (record { next = c.inside.result; other = c.inside-else-has_after.result }) at open_ next other
