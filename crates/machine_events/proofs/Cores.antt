-- The play of events, one more or more of them.
use Rattle.std.proofs.Common.{◌≡◌, ℕ, zero, suc, ◌+◌, ◌≤◌, List, [], ◌∷◌, ◌++◌, Option, Some, None, Bool, refl, ap, subst, ◌∙◌, arith, cond, inl, inr}
use Rattle.std.proofs.lemmas.Bool.{cases_eq}
use Rattle.machine_events.specs.declared.event.Event.{Event}
use Rattle.machine_events.specs.Cores.{Behaviour, played, passed_count, is_enabled, least_enabled}

module _ {M : Type 0} (b : Behaviour M) where
  pub played-append : (m : M) (es fs : List Event) → played b m (es ++ fs) ≡ played b (played b m es) fs
  played-append m [] fs = refl
  played-append m (e ∷ es) fs = played-append (b.next m e) es fs

  pub played-more : (m : M) (es : List Event) (e : Event) → played b m (es ++ e ∷ []) ≡ b.next (played b m es) e
  played-more m es e = played-append m es (e ∷ [])

  pub passed_count-more : (test : M → Event → Bool) (m : M) (es : List Event) (e : Event) →
      passed_count b test m (es ++ e ∷ []) ≡ passed_count b test m es + cond (test (played b m es) e) 1 0
  passed_count-more test m [] e = omega arith
  passed_count-more test m (d ∷ es) e = let more = passed_count-more test (b.next m d) es e in omega (arith, more)

  -- the least one, or the hart if it is enabled
  abbrev least_or : M → (hart : ℕ) → Option ℕ → Option ℕ
  least_or m hart found = elim found [
    | Some least ↦ Some least
    | None ↦ cond (is_enabled b m hart) (Some hart) None
  ]

  -- the least of some is the least of more
  pub least_enabled-stays : (m : M) (few most least : ℕ) → few ≤ most → least_enabled b m few ≡ Some least → least_enabled b m most ≡ Some least
  least_enabled-stays m few zero least within found =
      let none : few ≡ zero = omega (arith, within) in
      subst (λ (n : ℕ). least_enabled b m n ≡ Some least) none found
  least_enabled-stays m few (suc most) least within found = elim (cases_eq few (suc most)) [
    | inl same ↦ subst (λ (n : ℕ). least_enabled b m n ≡ Some least) same found
    | inr other ↦ ap (least_or m most) (least_enabled-stays m few most least (omega (arith, within, other)) found)
  ]

  -- where none of some is enabled, the next one is the least or none is
  pub least_enabled-next : (m : M) (hart : ℕ) (enabled : Bool) → least_enabled b m hart ≡ None → is_enabled b m hart ≡ enabled →
      least_enabled b m (suc hart) ≡ cond enabled (Some hart) None
  least_enabled-next m hart enabled none is = ap (least_or m hart) none ∙ ap (λ (e : Bool). cond e (Some hart) None) is
