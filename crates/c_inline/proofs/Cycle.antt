-- Where each function of some calls one of them, a call leads back.
use Rattle.std.proofs.Common.{◌≡◌, ◌⊎◌, ℕ, zero, suc, ◌+◌, ◌<◌, List, [], ◌∷◌, length, true}
use Rattle.std.proofs.Common.{false, eqb, Option, None, refl, sym, subst, arith, inl, inr, ⊎_elim}
use Rattle.std.specs.Prelude.{Contains}
use Rattle.std.specs.List.{IsDistinct, list_any, AllByRecursion}
use Rattle.std.proofs.lemmas.Bool.{cases_eq, eqb-true, ne_eqb, or_cases, false≢true}
use Rattle.std.proofs.lemmas.Map.Steps.{length-le_from_distinct_below}
use Rattle.std.proofs.lemmas.Map.Keys.{IsDistinct-cons}
use Rattle.std.proofs.lemmas.Option.{slice_get_within}
use Rattle.c_tree.specs.Programs as p
use Rattle.c_tree.specs.Inlining as i
use Rattle.c_inline.specs.links.KnownWeights.{IsUnknown, IsClosed}

pub leads_on : (fs : List p.Function) (to from : ℕ) (c : i.Call) → Contains (i.calls_in fs to) c → i.CallsReach fs to from → i.CallsReach fs c.function from
leads_on fs to from c k i.there = i.by_call from c k i.there
leads_on fs to from c k (i.by_call _ d m rest) = i.by_call _ d m (leads_on fs to d.function c k rest)

-- a number is in a list, or differs from each of it
pub found_in : (g : ℕ) (xs : List ℕ) → Contains xs g ⊎ AllByRecursion (λ y. eqb g y ≡ false) xs
found_in g [] = inr tt
found_in g (x ∷ xs) = ⊎_elim
    (λ is. inl (0, omega arith, sym is))
    (λ ne. ⊎_elim (λ k. inl (suc k.0, omega (arith, k.1), k.2)) (λ all. inr (ne_eqb g x ne, all)) (found_in g xs))
    (cases_eq g x)

pub any_below : (n : ℕ) (xs : List ℕ) → ((g : ℕ) → Contains xs g → g < n) → (q : ℕ) → list_any (eqb q) xs ≡ true → q < n
any_below n [] h q e = absurd (false≢true e)
any_below n (x ∷ xs) h q e = ⊎_elim
    (λ is. let s = eqb-true q x is in omega (arith, s, h x (0, omega arith, refl)))
    (λ rest. any_below n xs (λ g k. h g (suc k.0, omega (arith, k.1), k.2)) q rest)
    (or_cases (eqb q x) (list_any (eqb q) xs) e)

pub first_or : (x : ℕ) (xs : List ℕ) (g : ℕ) → Contains (x ∷ xs) g → (P : ℕ → Type 0) → P x → ((h : ℕ) → Contains xs h → P h) → P g
first_or x xs g (zero, l, e) P here rest = subst P e here
first_or x xs g (suc k, l, e) P here rest = rest g (k, omega arith, e)

pub IsDistinct-nil : IsDistinct eqb []
unfolding IsDistinct
IsDistinct-nil = tt

pub only : (x h : ℕ) → Contains (x ∷ []) h → x ≡ h
only x h (zero, l, e) = e
only x h (suc k, l, e) = absurd (omega arith)

module _ (fs : List p.Function) (known : List (Option ℕ)) (closed : IsClosed fs known) where
  -- functions that are not known, each of which leads to the first
  walk : (fuel : ℕ) (f : ℕ) (path : List ℕ) → IsDistinct eqb (f ∷ path) → ((g : ℕ) → Contains (f ∷ path) g → IsUnknown known g) →
      ((g : ℕ) → Contains (f ∷ path) g → i.CallsReach fs f g) →
      length known < length (f ∷ path) + fuel → (c : i.Call) × i.LeadsBack fs c
  walk zero f path distinct unknown lead long =
      absurd (let m = length-le_from_distinct_below (f ∷ path) (length known) distinct
      (any_below (length known) (f ∷ path) (λ g k. slice_get_within known g None (unknown g k))) in omega (arith, m))
  walk (suc fuel) f path distinct unknown lead long =
      let next = closed f (unknown f (0, omega arith, refl)) in
      ⊎_elim
      (λ k. (next.0, record { caller = f; made = next.1; back = lead next.0.function k }))
      (λ all. walk fuel next.0.function (f ∷ path) (IsDistinct-cons eqb next.0.function (f ∷ path) all distinct)
      (λ g k. first_or next.0.function (f ∷ path) g k (IsUnknown known) next.2 unknown)
      (λ g k. first_or next.0.function (f ∷ path) g k (i.CallsReach fs next.0.function) i.there (λ h m. leads_on fs f h next.0 next.1 (lead h m)))
      (omega arith))
      (found_in next.0.function (f ∷ path))

  -- a function that is not known is led to by none but where a call leads back
  pub call_back : (g : ℕ) → IsUnknown known g → (c : i.Call) × i.LeadsBack fs c
  call_back g u =
      walk (length known) g [] (IsDistinct-cons eqb g [] tt IsDistinct-nil) (λ h k. subst (λ (x : ℕ). IsUnknown known x) (only g h k) u)
      (λ h k. subst (λ (x : ℕ). i.CallsReach fs g x) (only g h k) i.there) (omega arith)
