use Rattle.std.proofs.Common.{length, refl, inl, sym, ◌∙◌}
use Rattle.std.proofs.lemmas.Option.{slice_get_read}
use Rattle.flow_graph.specs.Nodes.{graph_of, node_of}
use Rattle.flow_graph.specs.IdempotentCuts.{boundaries_of}
use Rattle.flow_graph.specs.Liveness.{NodeAt}
use Rattle.region_checker.proofs.Nodes.{node_at, lock_next, from_paths}
use Rattle.region_checker.proofs.paths.begun_after.Goals as goal

pub returns-then-has_after : goal.returns-then-has_after
returns-then-has_after c n =
    let g = graph_of c.args.graph.now in
    let b = boundaries_of c.args.cuts.now in
    let nodes = c.args.graph.now.nodes.items in
    let x = c.index.result.now in
    let at : NodeAt g c.args.number (node_of x) =
    node_at nodes c.args.number x (slice_get_read nodes (length nodes) c.args.number x refl c.requires c.index.ensures) in (
      λ e. (
        c.has_after.ensures.0 c.if-has_after.true,
        record { is = node_of x; at = at; goes = from_paths (node_of x).action n (inl (sym c.next.ensures ∙ e)) },
      ),
      λ d. c.next.ensures ∙ lock_next g b c.args.number n (node_of x) at d.0 d.1,
    )

pub returns-else-has_after : goal.returns-else-has_after
returns-else-has_after c n = (
  λ e. absurd (cc),
  λ d. let t = c.has_after.ensures.1 d.0 in absurd (cc (t, c.if-has_after.false)),
)
