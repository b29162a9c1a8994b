-- What is collected after a node, and added to its set.
use Rattle.std.proofs.Common.{◌≡◌, ◌⊎◌, ◌↔◌, inl, inr, ℕ, ◌<◌, Bool, List, [], length, get_or, ap, sym, subst, ◌∙◌, MatchBool}
use Rattle.std.proofs.lemmas.Bool.Decides.{when_true, when_false}
use Rattle.flow_graph.specs.Nodes.{Node}
use Rattle.flow_graph.specs.LocalSets.{Has}
use Rattle.flow_graph.specs.links.SetCapacity.{room}
use Rattle.flow_live.specs.links.Passes.{IsLiveFromSuccessor}
use Rattle.flow_live.proofs.LivenessFixpoint.{SetGrows}

-- the set of a node, with what was collected added
pub grown : (x : Node) (number : ℕ) (sets : List (List ℕ)) (old coming to : List ℕ) (grows : Bool) → number < length sets → old ≡ get_or sets number [] →
    length to ≡ length old →
    ((local : ℕ) → Has to local ↔ (Has old local ⊎ Has coming local)) → ((local : ℕ) → Has coming local ↔ IsLiveFromSuccessor x sets local) →
    MatchBool grows (room to < room old) (to ≡ old) →
    SetGrows x number sets to grows
grown x number sets old coming to grows lt e long has comes new = record {
  within = lt;
  long = long ∙ ap length e;
  has = λ local. (
    λ h. elim ((has local).0 h) [
      | inl before ↦ inl (subst (λ (s : List ℕ). Has s local) e before)
      | inr there ↦ inr ((comes local).0 there)
    ],
    λ d. (has local).1 (elim d [
      | inl before ↦ inl (subst (λ (s : List ℕ). Has s local) (sym e) before)
      | inr there ↦ inr ((comes local).1 there)
    ]),
  );
  same = λ no. when_false (room to < room old) (to ≡ old) no new ∙ e;
  fewer = λ yes. subst (λ (s : List ℕ). room to < room s) e (when_true (room to < room old) (to ≡ old) yes new);
}
