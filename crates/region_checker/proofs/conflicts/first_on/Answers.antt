use Rattle.std.proofs.Common.{◌≡◌, ℕ, Option, Some, inl, inr, sym, subst}
use Rattle.flow_graph.specs.Nodes.{graph_of}
use Rattle.region_checker.specs.links.MarkPropagation.{IsOn}
use Rattle.region_checker.specs.links.ConflictSearch.{IsOver, IsLeastOf}
use Rattle.region_checker.proofs.LeastNumbers.{least_both}
use Rattle.region_checker.proofs.conflicts.first_on.Goals as goal

pub returns : goal.returns
returns c =
    let g = graph_of c.args.graph.now in
    let path = c.args.path.now in
    let location = c.args.location in
    let R : ℕ → Type 0 = IsOver g location (IsOn path) in
    let P : ℕ → Type 0 = IsOver g location (λ k. path.next ≡ Some k) in
    let Q : ℕ → Type 0 = IsOver g location (λ k. path.other ≡ Some k) in
    subst (λ (o : Option ℕ). IsLeastOf R o) (sym c.earlier.ensures)
    (least_both P Q R c.over.result c.over-2.result c.over.ensures c.over-2.ensures
    (λ n h. record { is = inl h.is; writes = h.writes })
    (λ n h. record { is = inr h.is; writes = h.writes })
    (λ n h. elim h.is [ inl e ↦ inl (record { is = e; writes = h.writes }) | inr e ↦ inr (record { is = e; writes = h.writes }) ]))
