-- The first call that leads back, call by call.
use Rattle.std.proofs.Common.{◌≡◌, ◌⊎◌, ℕ, ◌+◌, ◌<◌, ◌≤◌, List, [], ◌∷◌, ◌++◌, Option, Some}
use Rattle.std.proofs.Common.{None, refl, sym, ap, subst, arith, inl, inr, ⊎_elim}
use Rattle.std.specs.Prelude.{Contains}
use Rattle.std.proofs.lemmas.Bool.{cases_lt}
use Rattle.std.proofs.lemmas.List.Elements.{Contains-push_cases}
use Rattle.ido_base.specs.declared.place.Place.{Place}
use Rattle.c_tree.specs.Inlining.{Call}
use Rattle.c_inline.specs.links.Calls.{calls_at, CallsLead}
use Rattle.c_inline.specs.links.ReachedFunctions.{IsNoLater, IsFirstAmong, IsBackBelow, IsBackAmong, IsBefore, IsNotAfter, IsBetter}

module _ (cs : List (List Call)) (Among More : (caller : ℕ) → Call → Type 0) where
  -- fewer calls, or calls that do not lead back more
  pub first_among : (best : Option Place) → ((g : ℕ) (c : Call) → More g c → CallsLead cs g c.function → Among g c) → IsFirstAmong cs Among best →
      IsFirstAmong cs More best
  first_among None only h = λ g c m l. h g c (only g c m l) l
  first_among (Some place) only h = record { call = h.call; stands = h.stands; back = h.back; first = λ g c m l. h.first g c (only g c m l) l }

  module _ (number : ℕ) (call : Call) (made : Contains (calls_at cs number) call)
      (cases : (g : ℕ) (c : Call) → More g c → Among g c ⊎ ((g ≡ number) × (c ≡ call))) where
    before : (best : Option Place) → IsFirstAmong cs Among best → IsBefore call.place best → (g : ℕ) (c : Call) → Among g c → CallsLead cs g c.function →
        call.place.0 ≤ c.place.0
    before None h b g c a l = absurd (h g c a l)
    before (Some place) h b g c a l = let m = h.first g c a l in omega (arith, m, b)

    not_after : (best : Option Place) → IsFirstAmong cs Among best → (CallsLead cs number call.function → IsNotAfter best call.place) →
        IsFirstAmong cs More best
    not_after None h n = λ g c m l. ⊎_elim (λ a. h g c a l)
        (λ is. n (subst (λ (x : Call). CallsLead cs number x.function) is.1 (subst (λ (x : ℕ). CallsLead cs x c.function) is.0 l))) (cases g c m)
    not_after (Some place) h n = record {
      call = h.call;
      stands = h.stands;
      back = h.back;
      first = λ g c m l. ⊎_elim (λ a. h.first g c a l)
          (λ is. subst (λ (x : Call). place.0 ≤ x.place.0) (sym is.1)
          (n (subst (λ (x : Call). CallsLead cs number x.function) is.1 (subst (λ (x : ℕ). CallsLead cs x c.function) is.0 l)))) (cases g c m);
    }

    -- one call more
    pub first_more : (best better : Option Place) → IsFirstAmong cs Among best → IsBetter cs number call best better → IsFirstAmong cs More better
    first_more best better h (inl (e, lead, b)) =
        subst (λ (x : Option Place). IsFirstAmong cs More x) (sym e)
        (let r : IsNoLater cs More call.place = record {
          call = call;
          stands = refl;
          back = record { caller = number; made = made; back = lead };
          first = λ g c m l. ⊎_elim (λ a. before best h b g c a l) (λ is. omega (arith, ap (λ (x : Call). x.place.0) is.1)) (cases g c m);
        } in r)
    first_more best better h (inr (e, n)) = subst (λ (x : Option Place). IsFirstAmong cs More x) (sym e) (not_after best h n)

module _ (cs : List (List Call)) where
  pub among_more : (number : ℕ) (first : List Call) (call : Call) (best better : Option Place) → Contains (calls_at cs number) call →
      IsBackAmong cs number first best → IsBetter cs number call best better → IsBackAmong cs number (first ++ call ∷ []) better
  among_more number first call best better made h b =
      first_more cs (λ g c. ((g < number) × Contains (calls_at cs g) c) ⊎ ((g ≡ number) × Contains first c))
      (λ g c. ((g < number) × Contains (calls_at cs g) c) ⊎ ((g ≡ number) × Contains (first ++ call ∷ []) c))
      number call made
      (λ g c m. ⊎_elim (λ a. inl (inl a)) (λ n. ⊎_elim (λ k. inl (inr (n.0, k))) (λ is. inr (n.0, sym is)) (Contains-push_cases first call c n.1)) m)
      best better h b

  pub among_all : (number : ℕ) (best : Option Place) → IsBackAmong cs number (calls_at cs number) best → IsBackBelow cs (number + 1) best
  among_all number best h =
      first_among cs (λ g c. ((g < number) × Contains (calls_at cs g) c) ⊎ ((g ≡ number) × Contains (calls_at cs number) c))
      (λ g c. (g < number + 1) × Contains (calls_at cs g) c) best
      (λ g c m l. ⊎_elim (λ lt. inl (lt, m.1)) (λ ge. let is : g ≡ number = omega (arith, m.0) in
      inr (is, subst (λ (x : ℕ). Contains (calls_at cs x) c) is m.1)) (cases_lt g number)) h
