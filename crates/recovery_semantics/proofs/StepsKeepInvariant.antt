-- A step that begins keeps the invariant.
use Rattle.std.proofs.Common.{length, ◌≡◌, ◌≢◌, ◌⊎◌, inl, inr, refl, ℕ, suc, ◌<◌, ◌≤◌, List, [], ◌∷◌, ◌++◌, max, sym, ◌∙◌, ap, subst, arith, true, Some, ⊎_elim}
use Rattle.std.specs.Prelude.{slice_get}
use Rattle.std.proofs.Math.Nat.{le-max_left, le-max_right, max-le}
use Rattle.std.proofs.lemmas.Bool.{cases_eq, cases_lt}
use Rattle.c_tree.specs.Flats as f
use Rattle.c_tree.specs.Source as m
use Rattle.source_machine.specs.StepExchanges.{steps_of, TransfersLock, IsSameTo}
use Rattle.source_machine.proofs.Public.{some_is, run_keeps, step_added, locks_same, unlocks_same}
use Rattle.recovery_semantics.specs.ElementHistories.{Memory, IsStable, live_number, history_at, number_at, IsOther}
use Rattle.recovery_semantics.specs.Attempts.{Attempt, attempt_at, solo, IsInnerStep, IsInner, PassesMutex, store_ahead, WritesAt, IsAttempted, IsOverrun}
use Rattle.recovery_semantics.specs.Configs.{Config, now, attempt_of, IsTried, IsNeverWritten, IsNotOverrun, Invariant}
use Rattle.recovery_semantics.specs.Events.{stepped, begun, IsGoing, StepsLocally, Stores, Synchronises}
use Rattle.recovery_semantics.proofs.StableHistories.{there_with, live_with, stable_again}
use Rattle.recovery_semantics.proofs.StepEffects.{store_same, store_inner, number_stays, unstored, number_unstored, number_stored}
use Rattle.recovery_semantics.proofs.Paths.{none_some, held_same, beside, writes_more}
use Rattle.recovery_semantics.proofs.Schedules.{counted_own, counted_other, runs_more, after_more, same_back, tried_of, tried_same, alone}

pub below_max : (k a b : ℕ) → k < max a b → (k < a) ⊎ (k < b)
below_max k a b h = grind (arith, cases_lt, max, max-le)

between : (d k : ℕ) → d ≤ k → k < suc d → k ≡ d
between d k l h = omega (arith, l, h)

-- an inner step of a thread whose attempt goes on
module _ (x : f.Flat) (old : Config) (t : ℕ) (i : Invariant x old) (going : IsGoing old t) (g : IsInnerStep (now old) t) (memory : Memory)
    (attempts : List Attempt)
    (is : IsAttempted old.attempts attempts t (stepped (attempt_of old t))) where
  abbrev a : Attempt
  a = attempt_of old t

  abbrev next : Config
  next = begun old t memory attempts

  abbrev there : m.State
  there = solo old.kept t a.done

  same : IsSameTo x (now old) there t
  same = alone x old t i going

  now_is : now next ≡ g.next
  now_is = after_more old.kept g.next old.uncommitted t i.runs g.is

  runs : m.runs_from old.kept (old.uncommitted ++ t ∷ []) ≡ true
  runs = runs_more old.kept g.next old.uncommitted t i.runs g.is

  hands : ¬ (TransfersLock old.kept (old.uncommitted ++ t ∷ []))
  hands = step_added old.kept old.uncommitted t i.hands (λ c. none_some c.mutex (sym g.locks_none ∙ c.takes))

  inner_there : IsInnerStep there t
  inner_there =
      let back = same_back x (now old) there t (λ k h. held_same t (now old).holders there.holders k same.held h)
      (λ k h. held_same t there.holders (now old).holders k (sym same.held) h) same in
      let r = beside x t there (now old) g.next (run_keeps x old.kept _ i.keeps) (run_keeps x old.kept old.uncommitted i.keeps) back g.is g.locks_none
      g.unlocks_none in
      record {
        next = r.0;
        is = r.1;
        locks_none = locks_same (now old) there t back.own ∙ g.locks_none;
        unlocks_none = unlocks_same (now old) there t back.own ∙ g.unlocks_none;
      }

  inner_more : IsInner old.kept t (max a.longest (suc a.done))
  inner_more k l = ⊎_elim (λ h. (i.tried t).inner k h)
      (λ h. ⊎_elim (λ h'. (i.tried t).inner k h')
      (λ low.
      let within = (i.tried t).within in
      subst (λ (n : ℕ). IsInnerStep (solo old.kept t n) t) (sym (between a.done k (omega (arith, low, within)) h)) inner_there)
      (cases_lt k a.longest))
      (below_max k a.longest (suc a.done) l)

  other_count : (u : ℕ) → u ≢ t → steps_of u (old.uncommitted ++ t ∷ []) ≡ steps_of u old.uncommitted
  other_count u n = counted_other t u old.uncommitted (λ e. n (sym e))

  tried : (u : ℕ) → IsTried next u
  tried u = ⊎_elim
      (λ e. subst (λ (k : ℕ). IsTried next k) (sym e) (tried_of next t (stepped a) is.own (le-max_right a.longest (suc a.done)) inner_more
      (inl (counted_own t old.uncommitted ∙ ap suc going))))
      (λ n. tried_same old (old.uncommitted ++ t ∷ []) memory attempts u (is.others u n) (other_count u n) (i.tried u))
      (cases_eq u t)

  longer : (u : ℕ) → (attempt_of old u).longest ≤ (attempt_at attempts u).longest
  longer u = grind (arith, cases_eq, le-max_left)

  untouched : (v e : ℕ) → IsNeverWritten next v e → IsNeverWritten old v e
  untouched v e h u w = h u (writes_more old.kept u (attempt_of old u).longest (attempt_at attempts u).longest v e (longer u) w)

  -- where the step itself isn't a store of the element
  ahead : (v e : ℕ) → ¬ (WritesAt old.kept t a.done v e) → IsOverrun old.kept t a v e → IsOverrun old.kept t (stepped a) v e
  ahead v e none h =
      let not_done = h.not_done in
      let within = h.within in
      let apart : h.later ≢ a.done = λ same. none (subst (λ (n : ℕ). WritesAt old.kept t n v e) same h.at) in
      let more = le-max_left a.longest (suc a.done) in
      record {
        later = h.later;
        not_done = omega (arith, not_done, apart);
        within = omega (arith, within, more);
        at = h.at;
        unwritten = λ w. ⊎_elim
            (λ e'. none (subst (λ (n : ℕ). WritesAt old.kept t n v e) e' w.at))
            (λ n. h.unwritten (let inside = w.within in record { before = w.before; within = omega (arith, inside, n); at = w.at }))
            (cases_eq w.before a.done);
      }

  caught_up : (v e : ℕ) → ¬ (WritesAt old.kept t a.done v e) → IsNotOverrun next v e → IsNotOverrun old v e
  caught_up v e none h u w = grind (arith, cases_eq, ahead)

  -- the store that it makes
  here : (p : m.Pending) → store_ahead (now old) t ≡ Some p → WritesAt old.kept t a.done p.variable p.element
  here p h = record { store = p; is = store_same (now old) there t (sym same.own) ∙ h; variable_is = refl; element_is = refl }

  only : (p : m.Pending) (v e : ℕ) → store_ahead (now old) t ≡ Some p → WritesAt old.kept t a.done v e → (v ≡ p.variable) × (e ≡ p.element)
  only p v e h w = grind (arith, some_is, store_same, same)

pub goes_on_keeps : (x : f.Flat) (old : Config) (t : ℕ) (attempts : List Attempt) → Invariant x old → StepsLocally old t attempts →
    Invariant x (begun old t old.memory attempts)
goes_on_keeps x old t attempts i e =
    let none : (v k : ℕ) → ¬ (WritesAt old.kept t (attempt_of old t).done v k) = λ v k w.
    none_some w.store (sym e.no_store ∙ (store_same (solo old.kept t (attempt_of old t).done) (now old) t (alone x old t i e.going).own ∙ w.is)) in
    record {
      keeps = i.keeps;
      runs = runs x old t i e.going e.step old.memory attempts e.attempt;
      hands = hands x old t i e.going e.step old.memory attempts e.attempt;
      tried = tried x old t i e.going e.step old.memory attempts e.attempt;
      size = i.size;
      there = i.there;
      durable = λ v k h. i.durable v k (untouched x old t i e.going e.step old.memory attempts e.attempt v k h);
      live = λ v k h. i.live v k (caught_up x old t i e.going e.step old.memory attempts e.attempt v k (none v k) h)
          ∙ (sym (number_stays (now old) e.step.next v k (unstored (now old) e.step.next t e.no_store e.step.is))
          ∙ ap (λ (z : m.State). number_at z v k) (sym (now_is x old t i e.going e.step old.memory attempts e.attempt)));
    }

-- a store
module _ (x : f.Flat) (old : Config) (t : ℕ) (memory : Memory) (attempts : List Attempt) (i : Invariant x old) (e : Stores old t memory attempts) where
  abbrev p : m.Pending
  p = e.store

  abbrev g : IsInnerStep (now old) t
  g = store_inner (now old) t p e.ahead

  abbrev after : Config
  after = begun old t memory attempts

  after_is : now after ≡ g.next
  after_is = now_is x old t i e.going g memory attempts e.attempt

  -- its element, or another one
  or_other : (v k : ℕ) → ((v ≡ p.variable) × (k ≡ p.element)) ⊎ IsOther p.variable p.element v k
  or_other v k = grind (arith, cases_eq)

  touched : IsNeverWritten after p.variable p.element → ⊥
  touched h = h t (record {
    before = (attempt_of old t).done;
    within = subst (λ (b : Attempt). (attempt_of old t).done < b.longest) (sym e.attempt.own)
        (let more = le-max_right (attempt_of old t).longest (suc (attempt_of old t).done) in omega (arith, more));
    at = here x old t i e.going g memory attempts e.attempt p e.ahead;
  })

  durable_after : (v k : ℕ) → IsNeverWritten after v k → IsStable (history_at memory v k) (number_at old.kept v k)
  durable_after v k h = ⊎_elim
      (λ q. absurd (touched (subst (λ (n : ℕ). IsNeverWritten after p.variable n) q.1 (subst (λ (n : ℕ). IsNeverWritten after n k) q.0 h))))
      (λ n.
      let before = i.durable v k (untouched x old t i e.going g memory attempts e.attempt v k h) in
      ⊎_elim
      (λ s. subst (λ y. IsStable y (number_at old.kept v k)) (sym s) before)
      (λ s. subst (λ y. IsStable y (number_at old.kept v k)) (sym s) (stable_again (history_at old.memory v k) (number_at old.kept v k) before))
      (e.stored.others v k n))
      (or_other v k)

  live_own : live_number (history_at memory p.variable p.element) ≡ number_at (now after) p.variable p.element
  live_own = grind (arith, live_with, number_stored, after_is, ahead)

  live_same : (v k : ℕ) → IsOther p.variable p.element v k → live_number (history_at memory v k) ≡ live_number (history_at old.memory v k)
  live_same v k n = grind (arith, live_with)

  live_after : (v k : ℕ) → IsNotOverrun after v k → live_number (history_at memory v k) ≡ number_at (now after) v k
  live_after v k h = ⊎_elim
      (λ q. subst (λ (n : ℕ). live_number (history_at memory v n) ≡ number_at (now after) v n) (sym q.1)
      (subst (λ (n : ℕ). live_number (history_at memory n p.element) ≡ number_at (now after) n p.element) (sym q.0) live_own))
      (λ n.
      let none : ¬ (WritesAt old.kept t (attempt_of old t).done v k) = λ w.
      let o = only x old t i e.going g memory attempts e.attempt p v k e.ahead w in n o.0 o.1 in
      live_same v k n
      ∙ (i.live v k (caught_up x old t i e.going g memory attempts e.attempt v k none h)
      ∙ (sym (number_unstored (now old) g.next t v k g.is (λ q is.
      subst (λ (y : m.Pending). IsOther y.variable y.element v k) (some_is p q (sym e.ahead ∙ is)) n))
      ∙ ap (λ (z : m.State). number_at z v k) (sym after_is))))
      (or_other v k)

  there_after : (v k : ℕ) → (history_at memory v k).durable < length (history_at memory v k).values
  there_after v k = grind (arith, there_with, or_other)

  pub stores_keeps : Invariant x after
  stores_keeps = record {
    keeps = i.keeps;
    runs = runs x old t i e.going g memory attempts e.attempt;
    hands = hands x old t i e.going g memory attempts e.attempt;
    tried = tried x old t i e.going g memory attempts e.attempt;
    size = e.stored.size ∙ i.size;
    there = there_after;
    durable = durable_after;
    live = live_after;
  }

-- ---- A mutex is passed

pub passes_same : (s z : m.State) (t k : ℕ) → slice_get z.threads t ≡ slice_get s.threads t → PassesMutex s t k → PassesMutex z t k
passes_same s z t k own h = ⊎_elim (λ l. inl (locks_same s z t own ∙ l)) (λ l. inr (unlocks_same s z t own ∙ l)) h

pub passing_stores_nothing : (s : m.State) (t k : ℕ) (p : m.Pending) → PassesMutex s t k → store_ahead s t ≡ Some p → ⊥
passing_stores_nothing s t k p h g = grind (arith, none_some, store_inner)

pub passes_keeps : (x : f.Flat) (old : Config) (t : ℕ) → Invariant x old → Synchronises old t → Invariant x (begun old t old.memory old.attempts)
passes_keeps x old t i e =
    let pending = old.uncommitted ++ t ∷ [] in
    let next = begun old t old.memory old.attempts in
    let a = attempt_of old t in
    let there = i.tried t in
    let own = (alone x old t i e.going).own in
    record {
      keeps = i.keeps;
      runs = runs_more old.kept e.next old.uncommitted t i.runs e.is;
      hands = step_added old.kept old.uncommitted t i.hands e.own;
      tried = λ u. ⊎_elim
          (λ same. subst (λ (k : ℕ). IsTried next k) (sym same) (tried_of next t a refl there.within there.inner
          (inr (counted_own t old.uncommitted ∙ ap suc e.going, (e.mutex, passes_same (now old) (solo old.kept t a.done) t e.mutex (sym own) e.passes)))))
          (λ n. tried_same old pending old.memory old.attempts u refl (counted_other t u old.uncommitted (λ k. n (sym k))) (i.tried u))
          (cases_eq u t);
      size = i.size;
      there = i.there;
      durable = i.durable;
      live = λ v k h. i.live v k h
          ∙ (sym (number_unstored (now old) e.next t v k e.is (λ p is. absurd (passing_stores_nothing (now old) t e.mutex p e.passes is)))
          ∙ ap (λ (z : m.State). number_at z v k) (sym (after_more old.kept e.next old.uncommitted t i.runs e.is)));
    }
