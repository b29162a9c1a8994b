use Rattle.std.proofs.Common.{inl, inr, ℕ, Option, subst}
use Rattle.flow_graph.proofs.Public.{none_at}
use Rattle.flow_live.specs.links.Passes.{HasBoundaryAfter}
use Rattle.flow_live.proofs.passes.add_after.Goals as goal

pub returns-in-None-get-clause-has : goal.returns-in-None-get-clause-has
returns-in-None-get-clause-has c local = (
  λ h. inl h,
  λ d. elim d [
    | inl h ↦ h
    | inr there ↦
        absurd (none_at c.args.sets.now c.in-Some.number local c.in-None-get.ensures.lookup.3
        (subst (λ (o : Option ℕ). HasBoundaryAfter c.args.sets.now o local) c.in-Some.is there))
  ],
)
