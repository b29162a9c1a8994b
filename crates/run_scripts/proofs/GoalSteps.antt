-- Steps of a hart up to a goal, made one by one.
use Rattle.std.proofs.Common.{◌≡◌, ℕ, suc, ◌+◌, ◌-◌, ◌<◌, ◌≤◌, List, [], ◌∷◌, ◌++◌, length, take, Bool}
use Rattle.std.proofs.Common.{true, false, nat_le, cond, refl, sym, ◌∙◌, ap, arith, append_assoc}
use Rattle.std.proofs.lemmas.List.{append-nil}
use Rattle.machine_events.specs.declared.event.Event.{Event}
use Rattle.machine_events.specs.declared.event.Event.TheVariants.{Step}
use Rattle.machine_events.specs.Cores.{Behaviour, played, passed_count}
use Rattle.machine_events.proofs.Public.{played-more, passed_count-more}
use Rattle.run_scripts.specs.Plays.{steps_until}
use Rattle.run_scripts.proofs.EventsWithinRoom.{cut, cut_fails}

abbrev count_of : Bool → ℕ
count_of t = cond t 1 0

module _ {M : Type 0} (b : Behaviour M) (test : M → Event → Bool) (hart : ℕ) where
  stopped_none : (k : ℕ) (m : M) → b.is_stopped m hart ≡ true → steps_until b test hart (suc k) m ≡ []
  unfolding steps_until
  stopped_none k m e = rw e refl

  one_reaches : (k : ℕ) (m : M) → b.is_stopped m hart ≡ false → test m (Step hart) ≡ true → steps_until b test hart (suc k) m ≡ Step hart ∷ []
  unfolding steps_until
  one_reaches k m e f = rw (e, f) refl

  one_more : (k : ℕ) (m : M) → b.is_stopped m hart ≡ false → test m (Step hart) ≡ false →
      steps_until b test hart (suc k) m ≡ Step hart ∷ steps_until b test hart k (b.next m (Step hart))
  unfolding steps_until
  one_more k m e f = rw (e, f) refl

  some_left : (k : ℕ) (m : M) → b.is_stopped m hart ≡ false → 0 < length (steps_until b test hart (suc k) m)
  some_left k m e = by_test (test m (Step hart)) refl
    where
      by_test : (t : Bool) → test m (Step hart) ≡ t → 0 < length (steps_until b test hart (suc k) m)
      by_test true f = let n = ap length (one_reaches k m e f) in omega (arith, n)
      by_test false f = let n = ap length (one_more k m e f) in omega (arith, n)

  none_left : (m : M) → steps_until b test hart 0 m ≡ []
  unfolding steps_until
  none_left m = refl

  -- an event more counts where it passes
  pub passes : (opening : M) (now new : List Event) (e : Event) (n : ℕ) → new ≡ now ++ e ∷ [] → passed_count b test opening now ≡ n →
      n < passed_count b test opening new → test (played b opening now) e ≡ true
  passes opening now new e n more count above =
      by_test (test (played b opening now) e) refl (ap (passed_count b test opening) more ∙ passed_count-more b test opening now e)
    where
      by_test : (t : Bool) → test (played b opening now) e ≡ t →
          passed_count b test opening new ≡ passed_count b test opening now + cond (test (played b opening now) e) 1 0 → test (played b opening now) e ≡ true
      by_test true f counted = f
      by_test false f counted = let none : cond (test (played b opening now) e) 1 0 ≡ 0 = ap count_of f in absurd (omega (arith, counted, none, count, above))

  pub fails : (opening : M) (now new : List Event) (e : Event) (n : ℕ) → new ≡ now ++ e ∷ [] → passed_count b test opening now ≡ n →
      passed_count b test opening new ≤ n
      → (test (played b opening now) e ≡ false) × (passed_count b test opening new ≡ n)
  fails opening now new e n more count below =
      by_test (test (played b opening now) e) refl (ap (passed_count b test opening) more ∙ passed_count-more b test opening now e)
    where
      by_test : (t : Bool) → test (played b opening now) e ≡ t →
          passed_count b test opening new ≡ passed_count b test opening now + cond (test (played b opening now) e) 1 0
          → (test (played b opening now) e ≡ false) × (passed_count b test opening new ≡ n)
      by_test true f counted = let one : cond (test (played b opening now) e) 1 0 ≡ 1 = ap count_of f in absurd (omega (arith, counted, one, count, below))
      by_test false f counted = let none : cond (test (played b opening now) e) 1 0 ≡ 0 = ap count_of f in (f, omega (arith, counted, none, count))

  -- `most` steps are asked for, of which i were made; after them come the steps that are left
  module _ (opening : M) (before : List Event) (most left : ℕ) (now : List Event) (i : ℕ)
      (so_far : before ++ steps_until b test hart most (played b opening before) ≡ now ++ steps_until b test hart (most - i) (played b opening now)) where
    one_left : i < most → most - i ≡ suc (most - (i + 1))
    one_left below = omega (arith, below)

    ends : (rest : List Event) → steps_until b test hart (most - i) (played b opening now) ≡ rest →
        before ++ steps_until b test hart most (played b opening before) ≡ now ++ rest
    ends rest is = so_far ∙ ap (λ es. now ++ es) is

    pub over : most ≤ i → before ++ steps_until b test hart most (played b opening before) ≡ now
    over past =
        ends [] (ap (λ k. steps_until b test hart k (played b opening now)) (let e : most - i ≡ 0 = omega (arith, past) in e)
        ∙ none_left (played b opening now)) ∙ append-nil now

    pub stops : i < most → b.is_stopped (played b opening now) hart ≡ true → before ++ steps_until b test hart most (played b opening before) ≡ now
    stops below stopped =
        ends [] (ap (λ k. steps_until b test hart k (played b opening now)) (one_left below) ∙ stopped_none (most - (i + 1)) (played b opening now) stopped)
        ∙ append-nil now

    pub reaches_it : (new : List Event) → i < most → b.is_stopped (played b opening now) hart ≡ false → test (played b opening now) (Step hart) ≡ true →
        new ≡ now ++ Step hart ∷ []
        → before ++ steps_until b test hart most (played b opening before) ≡ new
    reaches_it new below going reached more =
        ends (Step hart ∷ []) (ap (λ k. steps_until b test hart k (played b opening now)) (one_left below)
        ∙ one_reaches (most - (i + 1)) (played b opening now) going reached) ∙ sym more

    pub goes_on : (new : List Event) → i < most → b.is_stopped (played b opening now) hart ≡ false → test (played b opening now) (Step hart) ≡ false →
        new ≡ now ++ Step hart ∷ []
        → before ++ steps_until b test hart most (played b opening before) ≡ new ++ steps_until b test hart (most - (i + 1)) (played b opening new)
    goes_on new below going missed more =
        let rest = steps_until b test hart (most - (i + 1)) (b.next (played b opening now) (Step hart)) in
        ends (Step hart ∷ rest) (ap (λ k. steps_until b test hart k (played b opening now)) (one_left below)
        ∙ one_more (most - (i + 1)) (played b opening now) going missed)
        ∙ sym (append_assoc now (Step hart ∷ []) rest)
        ∙ ap (λ es. es ++ rest) (sym more)
        ∙ ap (λ m. new ++ steps_until b test hart (most - (i + 1)) m) (sym (played-more b opening now (Step hart)) ∙ ap (played b opening) (sym more))

    pub is_cut : i < most → b.is_stopped (played b opening now) hart ≡ false → length now ≡ length before + left
        → (now ≡ before ++ take left (steps_until b test hart most (played b opening before)))
        × (nat_le (length (steps_until b test hart most (played b opening before))) left ≡ false)
    is_cut below going full =
        let rest = steps_until b test hart (most - i) (played b opening now) in
        let more : 0 < length rest = subst_left below going in (
          cut before now (steps_until b test hart most (played b opening before)) rest left so_far full,
          cut_fails before now (steps_until b test hart most (played b opening before)) rest left so_far full more,
        )
      where
        subst_left : i < most → b.is_stopped (played b opening now) hart ≡ false → 0 < length (steps_until b test hart (most - i) (played b opening now))
        subst_left below going = let e = ap (λ k. length (steps_until b test hart k (played b opening now))) (one_left below) in
            omega (arith, e, some_left (most - (i + 1)) (played b opening now) going)
