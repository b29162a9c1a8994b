-- The least one of what two looks have found.
use Rattle.std.proofs.Common.{◌≡◌, ◌∙◌, ◌⊎◌, ℕ, ◌<◌, ◌≤◌, Option, Some, None, inl, inr, sym, subst, arith}
use Rattle.reg_colour.specs.declared.checking.Found.{Found}
use Rattle.reg_colour.specs.links.LeastClash.{IsUpTo, IsLesser, IsLeast, IsLeastOf}

further_locals : (x y : Found) (a b : ℕ) → ((x.a < y.a) ⊎ ((x.a ≡ y.a) × (x.b ≤ y.b))) → ((y.a < a) ⊎ ((y.a ≡ a) × (y.b ≤ b))) →
    (x.a < a) ⊎ ((x.a ≡ a) × (x.b ≤ b))
further_locals x y a b (inl p) (inl q) = inl (omega (arith, p, q))
further_locals x y a b (inl p) (inr q) = inl (omega (arith, p, q.0))
further_locals x y a b (inr p) (inl q) = inl (omega (arith, p.0, q))
further_locals x y a b (inr p) (inr q) = inr (p.0 ∙ q.0, omega (arith, p.1, q.1))

further : (x y : Found) (node a b : ℕ) → IsUpTo x y.node y.a y.b → IsUpTo y node a b → IsUpTo x node a b
further x y node a b (inl p) (inl q) = inl (omega (arith, p, q))
further x y node a b (inl p) (inr q) = inl (omega (arith, p, q.0))
further x y node a b (inr p) (inl q) = inl (omega (arith, p.0, q))
further x y node a b (inr p) (inr q) = inr (p.0 ∙ q.0, further_locals x y a b p.1 q.1)

-- what is looked for among both is looked for among the one or among the other
module _ (P Q R : ℕ → ℕ → ℕ → Type 0) (of_one : (node a b : ℕ) → P node a b → R node a b) (of_other : (node a b : ℕ) → Q node a b → R node a b)
    (either : (node a b : ℕ) → R node a b → P node a b ⊎ Q node a b) where
  none_of_one : (other : Option Found) → ((node a b : ℕ) → P node a b → ⊥) → IsLeastOf Q other → IsLeastOf R other
  none_of_one None none q = λ node a b r. elim (either node a b r) [ inl p ↦ none node a b p | inr k ↦ q node a b k ]
  none_of_one (Some y) none q = record {
    is_one = of_other y.node y.a y.b q.is_one;
    least = λ node a b r. elim (either node a b r) [ inl p ↦ absurd (none node a b p) | inr k ↦ q.least node a b k ];
  }

  none_of_other : (x : Found) → IsLeast P x → ((node a b : ℕ) → Q node a b → ⊥) → IsLeast R x
  none_of_other x p none = record {
    is_one = of_one x.node x.a x.b p.is_one;
    least = λ node a b r. elim (either node a b r) [ inl k ↦ p.least node a b k | inr q ↦ absurd (none node a b q) ];
  }

  first_is_lesser : (x y : Found) → IsLeast P x → IsLeast Q y → IsUpTo x y.node y.a y.b → IsLeast R x
  first_is_lesser x y p q le = record {
    is_one = of_one x.node x.a x.b p.is_one;
    least = λ node a b r. elim (either node a b r) [ inl k ↦ p.least node a b k | inr k ↦ further x y node a b le (q.least node a b k) ];
  }

  second_is_lesser : (x y : Found) → IsLeast P x → IsLeast Q y → IsUpTo y x.node x.a x.b → IsLeast R y
  second_is_lesser x y p q le = record {
    is_one = of_other y.node y.a y.b q.is_one;
    least = λ node a b r. elim (either node a b r) [ inl k ↦ further y x node a b le (p.least node a b k) | inr k ↦ q.least node a b k ];
  }

  one_is_lesser : (x y : Found) (z : Option Found) → IsLeast P x → IsLeast Q y → IsLesser (Some x) (Some y) z → IsLeastOf R z
  one_is_lesser x y z p q (inl e) = subst (λ (o : Option Found). IsLeastOf R o) (sym e.0) (first_is_lesser x y p q e.1)
  one_is_lesser x y z p q (inr e) = subst (λ (o : Option Found). IsLeastOf R o) (sym e.0) (second_is_lesser x y p q e.1)

  pub lesser : (one other z : Option Found) → IsLeastOf P one → IsLeastOf Q other → IsLesser one other z → IsLeastOf R z
  lesser None other z p q e = subst (λ (o : Option Found). IsLeastOf R o) (sym e) (none_of_one other p q)
  lesser (Some x) None z p q e = subst (λ (o : Option Found). IsLeastOf R o) (sym e) (none_of_other x p q)
  lesser (Some x) (Some y) z p q e = one_is_lesser x y z p q e
