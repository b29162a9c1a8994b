use Rattle.std.proofs.Common.{◌≡◌, ◌↔◌, Bool, List, length, refl, sym, subst, ◌∙◌}
use Rattle.std.specs.Prelude.{IsTrue, slice_get, Some, true}
use Rattle.std.proofs.lemmas.Option.{slice_get_read}
use Rattle.flow_graph.specs.Nodes.{graph_of, node_of}
use Rattle.flow_graph.specs.IdempotentCuts.{boundaries_of}
use Rattle.flow_graph.specs.Liveness.{NodeAt}
use Rattle.region_checker.specs.Conflicts.{LacksBefore}
use Rattle.region_checker.proofs.Nodes.{node_at, is_unlock_at, lacks_before, off}
use Rattle.region_checker.proofs.boundaries.lacks_before.Goals as goal

pub returns-then-is_unlock : goal.returns-then-is_unlock
returns-then-is_unlock c =
    let g = graph_of c.args.graph.now in
    let b = boundaries_of c.args.cuts.now in
    let nodes = c.args.graph.now.nodes.items in
    let n = c.args.number in
    let x = c.index.result.now in
    let at : NodeAt g n (node_of x) = node_at nodes n x (slice_get_read nodes (length nodes) n x refl c.requires c.index.ensures) in
    let flags : IsTrue c.stands.result ↔ (slice_get b.before n ≡ Some true) =
    subst (λ (xs : List Bool). IsTrue c.stands.result ↔ (slice_get xs n ≡ Some true)) c.deref.ensures.value c.stands.ensures in
    lacks_before g b n (node_of x) c.stands.result at (sym c.is_unlock.ensures ∙ c.if-is_unlock.true) flags

pub returns-else-is_unlock : goal.returns-else-is_unlock
returns-else-is_unlock c =
    let g = graph_of c.args.graph.now in
    let b = boundaries_of c.args.cuts.now in
    let nodes = c.args.graph.now.nodes.items in
    let n = c.args.number in
    let x = c.index.result.now in
    let at : NodeAt g n (node_of x) = node_at nodes n x (slice_get_read nodes (length nodes) n x refl c.requires c.index.ensures) in
    off c.is_unlock.result (LacksBefore g b n) c.if-is_unlock.false (λ h.
    let t : c.is_unlock.result ≡ true = c.is_unlock.ensures ∙ is_unlock_at g n (node_of x) at h.unlocks in
    absurd (cc))
