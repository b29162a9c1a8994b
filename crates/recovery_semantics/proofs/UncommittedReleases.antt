-- A mutex that another thread gave back by a step that isn't kept is that thread's in what is kept.
use Rattle.std.proofs.Common.{◌⊎◌, inl, inr, replicate, ◌≡◌, ◌≢◌, refl, ℕ, suc, ◌<◌, ◌≤◌, ◌==◌, List, [], ◌∷◌, ◌++◌, sym, ◌∙◌, ap, subst, arith, Bool, true}
use Rattle.std.proofs.Common.{false, Option, Some, None, ⊎_elim, slice_get, if◌then◌else◌}
use Rattle.std.proofs.lemmas.Bool.{cases_eq}
use Rattle.c_tree.specs.Flats as f
use Rattle.c_tree.specs.Source as m
use Rattle.c_tree.specs.Source.{source_step}
use Rattle.source_machine.specs.Mutexes.{locks, unlocks}
use Rattle.source_machine.specs.Discipline.{StateKeeps}
use Rattle.source_machine.specs.StepExchanges.{IsSolo, steps_of, TransfersLock}
use Rattle.source_machine.proofs.Public.{some_is, locks_found, unlocks_found, Passed, takes, gives, Stepped, stepped, run_keeps, mutex_stays, mutex_passed}
use Rattle.source_machine.proofs.Public.{unlocks_held, solo as solo_law}
use Rattle.recovery_semantics.specs.Attempts.{solo}
use Rattle.recovery_semantics.specs.Configs.{Config, now, attempt_of, Invariant}
use Rattle.recovery_semantics.specs.Laws.{LeftIsFree, HasLocked, HasUnlocked, HeldNow, HeldBefore}
use Rattle.recovery_semantics.proofs.Paths.{none_some, held_same, solo_holders}
use Rattle.recovery_semantics.proofs.Schedules.{equal_self}
use Rattle.recovery_semantics.proofs.CommitsKeepInvariant.{prefix_runs, LastStep, last_step}

-- ---- A prefix of a schedule

abbrev count_by : Bool → ℕ → ℕ
count_by b n = if b then suc n else n

more_counted : (t : ℕ) (us vs : List ℕ) → steps_of t us < steps_of t (us ++ t ∷ vs)
more_counted t [] vs = subst (λ (b : Bool). 0 < count_by b (steps_of t vs)) (sym (equal_self t)) (omega arith)
more_counted t (u ∷ us) vs = by (u == t) (steps_of t us) (steps_of t (us ++ t ∷ vs)) (more_counted t us vs)
  where
    by : (b : Bool) (k n : ℕ) → k < n → count_by b k < count_by b n
    by true k n h = omega (arith, h)
    by false k n h = h

assoc : (xs ys zs : List ℕ) → (xs ++ ys) ++ zs ≡ xs ++ (ys ++ zs)
assoc [] ys zs = refl
assoc (x ∷ xs) ys zs = ap (λ (ks : List ℕ). x ∷ ks) (assoc xs ys zs)

pub prefix_hands : (s : m.State) (us vs : List ℕ) → ¬ (TransfersLock s (us ++ vs)) → ¬ (TransfersLock s us)
prefix_hands s us vs h3 = grind (arith, gives, takes, assoc)

-- ---- The law

pub left_is_free : LeftIsFree
left_is_free x old t i free c =
    let z = m.after_from old.kept c.before in
    let n = steps_of c.giver c.before in
    let a = attempt_of old c.giver in
    let runs = prefix_runs old.kept c.before (c.giver ∷ c.rest) (ap (m.runs_from old.kept) (sym c.is) ∙ i.runs) in
    let hands = prefix_hands old.kept c.before (c.giver ∷ c.rest) (subst (λ (us : List ℕ). ¬ (TransfersLock old.kept us)) c.is i.hands) in
    let more : n < steps_of c.giver old.uncommitted = subst (λ (us : List ℕ). n < steps_of c.giver us) (sym c.is) (more_counted c.giver c.before c.rest) in
    let tried = i.tried c.giver in
    let low : n ≤ a.longest = ⊎_elim (λ e. omega (arith, more, tried.within, e)) (λ p. let e = p.0 in omega (arith, more, tried.within, e)) tried.begun in
    let here = unlocks_held x z c.giver c.mutex (run_keeps x old.kept c.before i.keeps) c.gives in
    let alone = (solo_law x old.kept c.before c.giver i.keeps runs hands).same in
    let there : slice_get (solo old.kept c.giver n).holders c.mutex ≡ Some (Some c.giver) = held_same c.giver z.holders (solo old.kept c.giver n).holders
    c.mutex alone.held here in
    let holders = solo_holders x c.giver n a.longest old.kept i.keeps tried.inner low in
    free c.mutex c.giver c.takes (λ e. c.others (sym e)) (ap (λ (hs : List (Option ℕ)). slice_get hs c.mutex) (sym holders) ∙ there)

-- ---- What a thread has

module _ (x : f.Flat) (s next : m.State) (t k : ℕ) (keeps : StateKeeps x s) (h : source_step s t ≡ Some next) where
  p : Stepped x s t next
  p = stepped x s next t keeps h

  stays : ((q : Passed) → p.does.change.passed ≡ Some q → k ≢ q.mutex) → slice_get next.holders k ≡ slice_get s.holders k
  stays n = mutex_stays x s next t p k n

  none_stays : p.does.change.passed ≡ None → slice_get next.holders k ≡ slice_get s.holders k
  none_stays e = stays (λ q e'. absurd (none_some q (sym e ∙ e')))

  other_stays : (q : Passed) → p.does.change.passed ≡ Some q → k ≢ q.mutex → slice_get next.holders k ≡ slice_get s.holders k
  other_stays q e n = stays (λ r e'. subst (λ (y : Passed). k ≢ y.mutex) (some_is q r (sym e ∙ e')) n)

  now_holder : (q : Passed) → p.does.change.passed ≡ Some q → k ≡ q.mutex → slice_get next.holders k ≡ Some q.holder
  now_holder q e is = subst (λ (j : ℕ). slice_get next.holders j ≡ Some q.holder) (sym is) (mutex_passed x s next t p q e)

  held_then_by : (o : Option Passed) → p.does.change.passed ≡ o → slice_get next.holders k ≡ Some (Some t) →
      (slice_get s.holders k ≡ Some (Some t)) ⊎ (locks s t ≡ Some k)
  held_then_by None e g = inl (sym (none_stays e) ∙ g)
  held_then_by (Some q) e g = ⊎_elim
      (λ is. elim (p.does.passes q e) [
        | takes a free to ↦ inr (locks_found s t p.thread p.there ∙ (a ∙ ap Some (sym is)))
        | gives a own to ↦ absurd (none_some t (sym to ∙ some_is q.holder (Some t) (sym (now_holder q e is) ∙ g)))
      ])
      (λ n. inl (sym (other_stays q e n) ∙ g))
      (cases_eq k q.mutex)

  held_then : slice_get next.holders k ≡ Some (Some t) → (slice_get s.holders k ≡ Some (Some t)) ⊎ (locks s t ≡ Some k)
  held_then g = held_then_by p.does.change.passed refl g

  held_before_by : (o : Option Passed) → p.does.change.passed ≡ o → slice_get s.holders k ≡ Some (Some t) →
      (slice_get next.holders k ≡ Some (Some t)) ⊎ (unlocks s t ≡ Some k)
  held_before_by None e g = inl (none_stays e ∙ g)
  held_before_by (Some q) e g = ⊎_elim
      (λ is. elim (p.does.passes q e) [
        | takes a free to ↦ inl (now_holder q e is ∙ ap Some to)
        | gives a own to ↦ inr (unlocks_found s t p.thread p.there ∙ (a ∙ ap Some (sym is)))
      ])
      (λ n. inl (other_stays q e n ∙ g))
      (cases_eq k q.mutex)

  held_before_step : slice_get s.holders k ≡ Some (Some t) → (slice_get next.holders k ≡ Some (Some t)) ⊎ (unlocks s t ≡ Some k)
  held_before_step g = held_before_by p.does.change.passed refl g

module _ (x : f.Flat) (old : Config) (t k : ℕ) (i : Invariant x old) where
  abbrev done : ℕ
  done = (attempt_of old t).done

  abbrev z : m.State
  z = solo old.kept t done

  own : IsSolo x old.kept old.uncommitted t
  own = solo_law x old.kept old.uncommitted t i.keeps i.runs i.hands

  holders : z.holders ≡ old.kept.holders
  holders = solo_holders x t done (attempt_of old t).longest old.kept i.keeps (i.tried t).inner (i.tried t).within

  keeps_there : StateKeeps x z
  keeps_there = run_keeps x old.kept (replicate done t) i.keeps

  last : steps_of t old.uncommitted ≡ suc done → LastStep old.kept t done
  last e = last_step old.kept t done (subst (λ (n : ℕ). m.runs_from old.kept (replicate n t) ≡ true) e own.runs)

  is_last : (e : steps_of t old.uncommitted ≡ suc done) → solo old.kept t (steps_of t old.uncommitted) ≡ (last e).next
  is_last e = ap (solo old.kept t) e ∙ (last e).after

  at_kept : slice_get z.holders k ≡ Some (Some t) → slice_get old.kept.holders k ≡ Some (Some t)
  at_kept g = ap (λ (hs : List (Option ℕ)). slice_get hs k) (sym holders) ∙ g

  held_now_by : slice_get (now old).holders k ≡ Some (Some t) → (slice_get old.kept.holders k ≡ Some (Some t)) ⊎ HasLocked old t k
  held_now_by g =
      let there = held_same t (now old).holders (solo old.kept t (steps_of t old.uncommitted)).holders k own.same.held g in
      ⊎_elim
      (λ e. inl (at_kept (ap (λ (n : ℕ). slice_get (solo old.kept t n).holders k) (sym e) ∙ there)))
      (λ q.
      let e = q.0 in
      ⊎_elim
      (λ a. inl (at_kept a))
      (λ a. inr (record { begun = e; locks_it = a }))
      (held_then x z (last e).next t k keeps_there (last e).is (ap (λ (y : m.State). slice_get y.holders k) (sym (is_last e)) ∙ there)))
      (i.tried t).begun

  held_before_by_now : slice_get old.kept.holders k ≡ Some (Some t) → (slice_get (now old).holders k ≡ Some (Some t)) ⊎ HasUnlocked old t k
  held_before_by_now g =
      let here : slice_get z.holders k ≡ Some (Some t) = ap (λ (hs : List (Option ℕ)). slice_get hs k) holders ∙ g in
      let to_now : slice_get (solo old.kept t (steps_of t old.uncommitted)).holders k ≡ Some (Some t) → slice_get (now old).holders k ≡ Some (Some t) = λ a.
      held_same t (solo old.kept t (steps_of t old.uncommitted)).holders (now old).holders k (sym own.same.held) a in
      ⊎_elim
      (λ e. inl (to_now (ap (λ (n : ℕ). slice_get (solo old.kept t n).holders k) e ∙ here)))
      (λ q.
      let e = q.0 in
      ⊎_elim
      (λ a. inl (to_now (ap (λ (y : m.State). slice_get y.holders k) (is_last e) ∙ a)))
      (λ a. inr (record { begun = e; unlocks_it = a }))
      (held_before_step x z (last e).next t k keeps_there (last e).is here))
      (i.tried t).begun

pub held_now : HeldNow
held_now x old t k i g = held_now_by x old t k i g

pub held_before : HeldBefore
held_before x old t k i g = held_before_by_now x old t k i g
