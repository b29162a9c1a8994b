use Rattle.std.proofs.Common.{◌≡◌, Bool, List, length, ap, sym, ◌∙◌, arith}
use Rattle.std.specs.Prelude.{slice_get}
use Rattle.flow_graph.specs.Nodes.{graph_of, node_of}
use Rattle.flow_graph.specs.Liveness.{NodeAt}
use Rattle.region_checker.proofs.Nodes.{found_at, lock_at, is_lock_at, lock_in}
use Rattle.region_checker.proofs.boundaries.has_after.Goals as goal

pub returns-then-is_lock : goal.returns-then-is_lock
returns-then-is_lock c =
    let g = graph_of c.args.graph.now in
    let n = c.args.number in
    let x = c.in-Some.node.now in
    let found = c.in-Some.ensures.lookup in
    let at : NodeAt g n (node_of x) = found_at c.args.graph.now.nodes.items c.deref.result.now n x c.deref.ensures.value found.3.0 found.1 in
    let flags : slice_get c.deref-then-is_lock.result.now n ≡ slice_get c.args.cuts.now.after_lock.items n =
    ap (λ (xs : List Bool). slice_get xs n) c.deref-then-is_lock.ensures.value in (
      λ t. record { locks = lock_at g n (node_of x) at (sym c.is_lock.ensures ∙ c.if-is_lock.true); stands = sym flags ∙ c.stands.ensures.0 t },
      λ h. c.stands.ensures.1 (flags ∙ h.stands),
    )

pub returns-else-is_lock : goal.returns-else-is_lock
returns-else-is_lock c =
    let g = graph_of c.args.graph.now in
    let n = c.args.number in
    let x = c.in-Some.node.now in
    let found = c.in-Some.ensures.lookup in
    let at : NodeAt g n (node_of x) = found_at c.args.graph.now.nodes.items c.deref.result.now n x c.deref.ensures.value found.3.0 found.1 in (
      λ t. absurd (cc),
      λ h. c.is_lock.ensures ∙ is_lock_at g n (node_of x) at h.locks,
    )

pub returns-in-None : goal.returns-in-None
returns-in-None c =
    let past = c.in-None.ensures.lookup.3 in (
      λ t. absurd (cc),
      λ h. absurd (omega (arith, lock_in c.args.graph.now c.args.number h.locks, past, ap length c.deref.ensures.value)),
    )
