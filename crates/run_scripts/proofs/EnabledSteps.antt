-- Steps of enabled harts, made one by one.
use Rattle.std.proofs.Common.{◌≡◌, ℕ, zero, suc, ◌+◌, ◌-◌, ◌<◌, ◌≤◌, List, [], ◌∷◌, ◌++◌, length}
use Rattle.std.proofs.Common.{take, Bool, true, false, nat_le, if◌then◌else◌, Option, Some, None}
use Rattle.std.proofs.Common.{refl, sym, ◌∙◌, ap, arith, append_assoc}
use Rattle.std.proofs.lemmas.List.{append-nil}
use Rattle.machine_events.specs.declared.event.Event.{Event}
use Rattle.machine_events.specs.declared.event.Event.TheVariants.{Step}
use Rattle.machine_events.specs.Cores.{Behaviour, played, is_enabled, least_enabled}
use Rattle.machine_events.proofs.Public.{played-more}
use Rattle.run_scripts.specs.Plays.{enabled_steps}
use Rattle.run_scripts.proofs.EventsWithinRoom.{cut, cut_fails}

some-injective : (a b : ℕ) → Some a ≡ Some b → a ≡ b
some-injective a b e = cc

module _ {M : Type 0} (b : Behaviour M) (harts : ℕ) where
  none_asked : (m : M) → enabled_steps b harts 0 m ≡ []
  unfolding enabled_steps
  none_asked m = refl

  none_enabled : (k : ℕ) (m : M) → least_enabled b m harts ≡ None → enabled_steps b harts (suc k) m ≡ []
  unfolding enabled_steps
  none_enabled k m e = rw (enabled_steps, e) refl

  one_enabled : (k : ℕ) (m : M) (hart : ℕ) → least_enabled b m harts ≡ Some hart →
      enabled_steps b harts (suc k) m ≡ Step hart ∷ enabled_steps b harts k (b.next m (Step hart))
  unfolding enabled_steps
  one_enabled k m hart e = rw (enabled_steps, e) refl

  pub is_hart : (m : M) (n least : ℕ) → least_enabled b m n ≡ Some least → least < n
  is_hart m zero least e = cc
  is_hart m (suc n) least e = by_rest (least_enabled b m n) refl (is_hart m n least) e
    where
      by_test : (t : Bool) → (if t then Some n else None) ≡ Some least → least < suc n
      by_test true f = let same : n ≡ least = some-injective n least f in omega (arith, same)
      by_test false f = cc

      by_rest : (o : Option ℕ) → least_enabled b m n ≡ o → (least_enabled b m n ≡ Some least → least < n) →
          elim o [ Some k ↦ Some k | None ↦ if is_enabled b m n then Some n else None ] ≡ Some least → least < suc n
      by_rest (Some k) is below f = let same : k ≡ least = some-injective k least f in let h = below (is ∙ ap Some same) in omega (arith, h)
      by_rest None is below f = by_test (is_enabled b m n) f

  -- `most` steps are asked for, of which i were made; after them come the steps that are left
  module _ (opening : M) (before : List Event) (most left : ℕ) (now : List Event) (i : ℕ)
      (so_far : before ++ enabled_steps b harts most (played b opening before) ≡ now ++ enabled_steps b harts (most - i) (played b opening now)) where
    one_left : i < most → most - i ≡ suc (most - (i + 1))
    one_left below = omega (arith, below)

    ends : (rest : List Event) → enabled_steps b harts (most - i) (played b opening now) ≡ rest →
        before ++ enabled_steps b harts most (played b opening before) ≡ now ++ rest
    ends rest is = so_far ∙ ap (λ es. now ++ es) is

    left_is : i < most → (rest : List Event) → enabled_steps b harts (suc (most - (i + 1))) (played b opening now) ≡ rest →
        enabled_steps b harts (most - i) (played b opening now) ≡ rest
    left_is below rest is = ap (λ k. enabled_steps b harts k (played b opening now)) (one_left below) ∙ is

    pub all_made : most ≤ i → before ++ enabled_steps b harts most (played b opening before) ≡ now
    all_made past =
        ends [] (ap (λ k. enabled_steps b harts k (played b opening now)) (let e : most - i ≡ 0 = omega (arith, past) in e)
        ∙ none_asked (played b opening now)) ∙ append-nil now

    pub none_goes : i < most → least_enabled b (played b opening now) harts ≡ None → before ++ enabled_steps b harts most (played b opening before) ≡ now
    none_goes below none =
        ends [] (left_is below [] (none_enabled (most - (i + 1)) (played b opening now) none)) ∙ append-nil now

    module _ (hart : ℕ) (below : i < most) (goes : least_enabled b (played b opening now) harts ≡ Some hart) where
      pub one_goes : (new : List Event) → new ≡ now ++ Step hart ∷ []
          → before ++ enabled_steps b harts most (played b opening before) ≡ new ++ enabled_steps b harts (most - (i + 1)) (played b opening new)
      one_goes new more =
          let rest = enabled_steps b harts (most - (i + 1)) (b.next (played b opening now) (Step hart)) in
          ends (Step hart ∷ rest) (left_is below (Step hart ∷ rest) (one_enabled (most - (i + 1)) (played b opening now) hart goes))
          ∙ sym (append_assoc now (Step hart ∷ []) rest)
          ∙ ap (λ es. es ++ rest) (sym more)
          ∙ ap (λ m. new ++ enabled_steps b harts (most - (i + 1)) m) (sym (played-more b opening now (Step hart)) ∙ ap (played b opening) (sym more))

      pub is_cut : length now ≡ length before + left
          → (now ≡ before ++ take left (enabled_steps b harts most (played b opening before)))
          × (nat_le (length (enabled_steps b harts most (played b opening before))) left ≡ false)
      is_cut full =
          let rest = enabled_steps b harts (most - i) (played b opening now) in
          let all = enabled_steps b harts most (played b opening before) in
          let first = ap length (left_is below _ (one_enabled (most - (i + 1)) (played b opening now) hart goes)) in
          let more : 0 < length rest = omega (arith, first) in
          (cut before now all rest left so_far full, cut_fails before now all rest left so_far full more)
