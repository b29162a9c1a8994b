-- Where no mutex is transferred, with a step more and with the first steps less.
use Rattle.std.proofs.Common.{◌≡◌, ◌⊎◌, inl, inr, refl, ℕ, List, [], ◌∷◌, ◌++◌, sym, ◌∙◌, ap, ap₂}
use Rattle.c_tree.specs.Source as m
use Rattle.source_machine.specs.Mutexes.{locks, unlocks}
use Rattle.source_machine.specs.StepExchanges.{StepAdded, StepsDropped}
use Rattle.source_machine.proofs.StateRuns.{goes_on}

not_empty : (ys : List ℕ) (t : ℕ) (rest : List ℕ) → [] ≡ ys ++ t ∷ rest → ⊥
not_empty [] t rest e = cc
not_empty (y ∷ ys) t rest e = cc

-- a place in a list with one more at its end is that end, or stands in the list
end_or_in : (xs ys : List ℕ) (u t : ℕ) (rest : List ℕ) → xs ++ u ∷ [] ≡ ys ++ t ∷ rest → ((xs ≡ ys) × (u ≡ t)) ⊎ ((more : List ℕ) × (xs ≡ ys ++ t ∷ more))
end_or_in [] [] u t rest e = inl (refl, let first : u ≡ t = cc in first)
end_or_in [] (y ∷ ys) u t rest e = let more : [] ≡ ys ++ t ∷ rest = cc in absurd (not_empty ys t rest more)
end_or_in (x ∷ xs) [] u t rest e = let first : x ≡ t = cc in inr (xs, ap (λ (k : ℕ). k ∷ xs) first)
end_or_in (x ∷ xs) (y ∷ ys) u t rest e =
    let first : x ≡ y = cc in
    let later : xs ++ u ∷ [] ≡ ys ++ t ∷ rest = cc in
    elim (end_or_in xs ys u t rest later) [
      | inl p ↦ inl (ap₂ (λ (k : ℕ) (ks : List ℕ). k ∷ ks) first p.0, p.1)
      | inr q ↦ inr (q.0, ap₂ (λ (k : ℕ) (ks : List ℕ). k ∷ ks) first q.1)
    ]

assoc : (xs ys zs : List ℕ) → (xs ++ ys) ++ zs ≡ xs ++ (ys ++ zs)
assoc [] ys zs = refl
assoc (x ∷ xs) ys zs = ap (λ (ks : List ℕ). x ∷ ks) (assoc xs ys zs)

pub step_added : StepAdded
step_added s schedule thread never none c =
    elim (end_or_in schedule (c.before ++ c.giver ∷ c.between) thread c.taker c.rest c.is) [
      | inl p ↦
          none (record {
            before = c.before;
            giver = c.giver;
            rest = c.between;
            mutex = c.mutex;
            is = p.0;
            others = λ e. c.others (sym p.1 ∙ e);
            gives = c.gives;
            takes = ap₂ (λ (ks : List ℕ) (k : ℕ). locks (m.after_from s ks) k) p.0 p.1 ∙ c.takes;
          })
      | inr q ↦
          never (record {
            before = c.before;
            giver = c.giver;
            between = c.between;
            taker = c.taker;
            rest = q.0;
            mutex = c.mutex;
            is = q.1;
            others = c.others;
            gives = c.gives;
            takes = c.takes;
          })
    ]

pub steps_dropped : StepsDropped
steps_dropped s first second runs never c =
    never (record {
      before = first ++ c.before;
      giver = c.giver;
      between = c.between;
      taker = c.taker;
      rest = c.rest;
      mutex = c.mutex;
      is = ap (λ (ks : List ℕ). first ++ ks) c.is ∙ (sym (assoc first (c.before ++ c.giver ∷ c.between) (c.taker ∷ c.rest))
          ∙ ap (λ (ks : List ℕ). ks ++ c.taker ∷ c.rest) (sym (assoc first c.before (c.giver ∷ c.between))));
      others = c.others;
      gives = ap (λ (z : m.State). unlocks z c.giver) (goes_on s first c.before runs).after ∙ c.gives;
      takes = ap (λ (ks : List ℕ). locks (m.after_from s ks) c.taker) (assoc first c.before (c.giver ∷ c.between))
          ∙ (ap (λ (z : m.State). locks z c.taker) (goes_on s first (c.before ++ c.giver ∷ c.between) runs).after ∙ c.takes);
    })
