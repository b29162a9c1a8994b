use Rattle.std.proofs.Common.{◌≡◌, ◌↔◌, Bool, List, length, refl, sym, subst, ◌∙◌}
use Rattle.std.specs.Prelude.{IsTrue, slice_get, Some, true}
use Rattle.std.proofs.lemmas.Option.{slice_get_read}
use Rattle.flow_graph.specs.Nodes.{graph_of, node_of}
use Rattle.flow_graph.specs.IdempotentCuts.{boundaries_of}
use Rattle.flow_graph.specs.Liveness.{NodeAt}
use Rattle.region_checker.specs.Conflicts.{LacksAfter}
use Rattle.region_checker.proofs.Nodes.{node_at, is_lock_at, lacks_after, off}
use Rattle.region_checker.proofs.boundaries.lacks_after.Goals as goal

pub returns-then-is_lock : goal.returns-then-is_lock
returns-then-is_lock c =
    let g = graph_of c.args.graph.now in
    let b = boundaries_of c.args.cuts.now in
    let nodes = c.args.graph.now.nodes.items in
    let n = c.args.number in
    let x = c.index.result.now in
    let at : NodeAt g n (node_of x) = node_at nodes n x (slice_get_read nodes (length nodes) n x refl c.requires c.index.ensures) in
    let flags : IsTrue c.stands.result ↔ (slice_get b.after_lock n ≡ Some true) =
    subst (λ (xs : List Bool). IsTrue c.stands.result ↔ (slice_get xs n ≡ Some true)) c.deref.ensures.value c.stands.ensures in
    lacks_after g b n (node_of x) c.stands.result at (sym c.is_lock.ensures ∙ c.if-is_lock.true) flags

pub returns-else-is_lock : goal.returns-else-is_lock
returns-else-is_lock c =
    let g = graph_of c.args.graph.now in
    let b = boundaries_of c.args.cuts.now in
    let nodes = c.args.graph.now.nodes.items in
    let n = c.args.number in
    let x = c.index.result.now in
    let at : NodeAt g n (node_of x) = node_at nodes n x (slice_get_read nodes (length nodes) n x refl c.requires c.index.ensures) in
    off c.is_lock.result (LacksAfter g b n) c.if-is_lock.false (λ h.
    let t : c.is_lock.result ≡ true = c.is_lock.ensures ∙ is_lock_at g n (node_of x) at h.locks in
    absurd (cc))
