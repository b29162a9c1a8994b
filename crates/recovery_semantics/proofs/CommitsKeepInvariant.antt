-- A thread's begun steps that are kept: the invariant holds.
use Rattle.std.proofs.Common.{◌≡◌, ◌≢◌, ◌⊎◌, inl, inr, refl, ℕ, suc, ◌+◌, ◌≤◌, List, [], ◌∷◌, ◌++◌, replicate, sym, ◌∙◌, ap, subst, arith, true}
use Rattle.std.proofs.Common.{Option, Some, None, ℤ, ⊎_elim, slice_get}
use Rattle.std.proofs.lemmas.Bool.{cases_eq}
use Rattle.c_tree.specs.Flats as f
use Rattle.c_tree.specs.Source as m
use Rattle.c_tree.specs.Source.{source_step}
use Rattle.source_machine.specs.ElementLocks.{element_lock, found_number}
use Rattle.source_machine.specs.Mutexes.{locks, unlocks}
use Rattle.source_machine.specs.Discipline.{StateKeeps, Guards, IsSameElement}
use Rattle.source_machine.specs.StepExchanges.{steps_of, without, TransfersLock, IsExchanged, IsSolo, IsSameTo}
use Rattle.source_machine.proofs.Public.{after_by, runs_by, goes_on, found_same, some_is, Passed, takes, gives, Stepped, locks_found, unlocks_found, stepped}
use Rattle.source_machine.proofs.Public.{step_keeps, run_keeps, writes_guarded, mutex_stays, mutex_passed, sizes_stay, steps_dropped, LeadsAlong, steps_made}
use Rattle.source_machine.proofs.Public.{exchange, solo as solo_law}
use Rattle.recovery_semantics.specs.ElementHistories.{IsStable, history_at, number_at}
use Rattle.recovery_semantics.specs.Attempts.{Attempt, no_attempt, solo, IsInner, Writes, IsOverrun}
use Rattle.recovery_semantics.specs.Configs.{Config, now, attempt_of, IsTried, IsNeverWritten, IsNotOverrun, Invariant}
use Rattle.recovery_semantics.specs.Events.{settled_by, IsSettled, steps_begun}
use Rattle.recovery_semantics.proofs.StepEffects.{number_unstored}
use Rattle.recovery_semantics.proofs.Paths.{none_some, held_same, along, inner_along, writes_at_same, decide, solo_holders, writer_guards, solo_numbers}
use Rattle.recovery_semantics.proofs.Schedules.{equal_self, BegunBy, tried_of}
use Rattle.recovery_semantics.proofs.StepsKeepInvariant.{passes_same, passing_stores_nothing}
use Rattle.recovery_semantics.proofs.ShortenedSchedules.{none_left, others_left, none_of_other, alone_no_hands, last_first, more_empty, join}

-- ---- An element whose lock nobody takes

not_first : (t u : ℕ) (us : List ℕ) → steps_of t (u ∷ us) ≡ 0 → u ≢ t
not_first t u us c e = grind (arith, equal_self)

none_later : (t u : ℕ) (us : List ℕ) → steps_of t (u ∷ us) ≡ 0 → steps_of t us ≡ 0
none_later t u us c = grind (arith)

module _ (x : f.Flat) (t v d : ℕ) where
  abbrev g : ℕ
  g = element_lock x.variables v d

  -- a free mutex that a step doesn't lock
  free_stays : (s next : m.State) (u : ℕ) → StateKeeps x s → source_step s u ≡ Some next → locks s u ≢ Some g → slice_get s.holders g ≡ Some None →
      slice_get next.holders g ≡ Some None
  free_stays s next u keeps h n free =
      let p = stepped x s next u keeps h in
      mutex_stays x s next u p g (λ q e is. elim (p.does.passes q e) [
        | takes a spare to ↦ n (locks_found s u p.thread p.there ∙ (a ∙ ap Some (sym is)))
        | gives a own to ↦ none_some u (some_is None (Some u) (sym free ∙ subst (λ (k : ℕ). slice_get s.holders k ≡ Some (Some u)) (sym is) own))
      ]) ∙ free

  -- the element keeps its number where its lock is free and no other thread takes it
  quiet : (us : List ℕ) (s last : m.State) → StateKeeps x s → LeadsAlong s us last → steps_of t us ≡ 0 → slice_get s.holders g ≡ Some None →
      ((between : List ℕ) (taker : ℕ) (more : List ℕ) → us ≡ between ++ taker ∷ more → taker ≢ t → locks (m.after_from s between) taker ≢ Some g) →
      IsSameElement s last v d
  quiet [] s last keeps made none free never = ap (λ (z : m.State). found_number z.variables v d) (sym made)
  quiet (u ∷ us) s last keeps made none free never =
      let next = made.0 in
      quiet us next last (step_keeps x s next u keeps made.1) made.2 (none_later t u us none)
      (free_stays s next u keeps made.1 (never [] u us refl (not_first t u us none)) free)
      (λ between taker more is n l. never (u ∷ between) taker more (ap (λ (ks : List ℕ). u ∷ ks) is) n
      (ap (λ (z : m.State). locks z taker) (after_first s next u between made.1) ∙ l))
      ∙ writes_guarded x s next u v d keeps made.1 (λ own. none_some u (some_is None (Some u) (sym free ∙ own)))
    where
      after_first : (z next : m.State) (w : ℕ) (ts : List ℕ) → source_step z w ≡ Some next → m.after_from z (w ∷ ts) ≡ m.after_from next ts
      after_first z next w ts h = ap (after_by ts z) h

  -- a mutex that the thread holds it holds after its step, unless the step unlocks it
  held_or_given : (s next : m.State) → StateKeeps x s → source_step s t ≡ Some next → Guards x s t v d →
      Guards x next t v d ⊎ ((unlocks s t ≡ Some g) × (slice_get next.holders g ≡ Some None))
  held_or_given s next keeps h own = by_passed p.does.change.passed refl
    where
      p : Stepped x s t next
      p = stepped x s next t keeps h

      stays : ((q : Passed) → p.does.change.passed ≡ Some q → g ≢ q.mutex) → Guards x next t v d
      stays n = mutex_stays x s next t p g n ∙ own

      at_it : (q : Passed) → p.does.change.passed ≡ Some q → g ≡ q.mutex →
          Guards x next t v d ⊎ ((unlocks s t ≡ Some g) × (slice_get next.holders g ≡ Some None))
      at_it q e is = elim (p.does.passes q e) [
        | takes a free to ↦ absurd (none_some t (some_is None (Some t) (sym free ∙ subst (λ (k : ℕ). slice_get s.holders k ≡ Some (Some t)) is own)))
        | gives a mine to ↦ inr (
          unlocks_found s t p.thread p.there ∙ (a ∙ ap Some (sym is)),
          subst (λ (k : ℕ). slice_get next.holders k ≡ Some None) (sym is) (mutex_passed x s next t p q e ∙ ap Some to),
        )
      ]

      by_passed : (o : Option Passed) → p.does.change.passed ≡ o → Guards x next t v d ⊎ ((unlocks s t ≡ Some g) × (slice_get next.holders g ≡ Some None))
      by_passed None e = inl (stays (λ q e'. absurd (none_some q (sym e ∙ e'))))
      by_passed (Some q) e = ⊎_elim
          (λ is. at_it q e is)
          (λ n. inl (stays (λ q' e'. subst (λ (r : Passed). g ≢ r.mutex) (some_is q q' (sym e ∙ e')) n)))
          (cases_eq g q.mutex)

-- ---- The thread's last step

pub record LastStep (s : m.State) (t n : ℕ) : Type 0 where
  pub next : m.State
  pub is : source_step (solo s t n) t ≡ Some next
  pub after : solo s t (suc n) ≡ next

pub prefix_runs : (s : m.State) (us vs : List ℕ) → m.runs_from s (us ++ vs) ≡ true → m.runs_from s us ≡ true
prefix_runs s [] vs h = refl
prefix_runs s (u ∷ us) vs h = by (source_step s u) h (λ next e. prefix_runs next us vs e)
  where
    by : (o : Option m.State) → runs_by (us ++ vs) o ≡ true → ((next : m.State) → m.runs_from next (us ++ vs) ≡ true → m.runs_from next us ≡ true) →
        runs_by us o ≡ true
    by None e more = cc
    by (Some next) e more = more next e

pub last_step : (s : m.State) (t n : ℕ) → m.runs_from s (replicate (suc n) t) ≡ true → LastStep s t n
last_step s t n runs =
    let split : m.runs_from s (replicate n t ++ t ∷ []) ≡ true = ap (m.runs_from s) (last_first n t [] ∙ more_empty (replicate (suc n) t)) ∙ runs in
    let first = prefix_runs s (replicate n t) (t ∷ []) split in
    let on = goes_on s (replicate n t) (t ∷ []) first in
    let made = steps_made (solo s t n) (t ∷ []) (sym on.runs ∙ split) in
    record {
      next = made.0;
      is = made.1;
      after = ap (m.after_from s) (sym (last_first n t [] ∙ more_empty (replicate (suc n) t))) ∙ (on.after ∙ sym made.2);
    }

-- ---- What is kept

module _ (x : f.Flat) (old : Config) (t : ℕ) (i : Invariant x old) where
  abbrev K : m.State
  K = old.kept

  abbrev c : ℕ
  c = steps_begun old t

  abbrev first : List ℕ
  first = replicate c t

  abbrev rest : List ℕ
  rest = without c t old.uncommitted

  abbrev K' : m.State
  K' = m.after_from K first

  abbrev a : Attempt
  a = attempt_of old t

  exchanged : IsExchanged K old.uncommitted (first ++ rest)
  exchanged = exchange x K old.uncommitted t c i.keeps i.runs i.hands (omega arith)

  own : IsSolo x K old.uncommitted t
  own = solo_law x K old.uncommitted t i.keeps i.runs i.hands

  pub first_runs : m.runs_from K first ≡ true
  first_runs = own.runs

  keeps_now : StateKeeps x K'
  keeps_now = run_keeps x K first i.keeps

  rest_runs : m.runs_from K' rest ≡ true
  rest_runs = sym (goes_on K first rest first_runs).runs ∙ exchanged.runs

  pub rest_after : m.after_from K' rest ≡ now old
  rest_after = sym (goes_on K first rest first_runs).after ∙ exchanged.after

  pub rest_ended : (u : ℕ) → m.ended_from K first u + m.ended_from K' rest u ≡ m.ended_from K old.uncommitted u
  rest_ended u = sym ((goes_on K first rest first_runs).ended u) ∙ exchanged.ended u

  rest_hands : ¬ (TransfersLock K' rest)
  rest_hands = steps_dropped K first rest first_runs exchanged.hands

  -- what is kept looks the same to another thread
  pub same_other : (u : ℕ) → u ≢ t → IsSameTo x K' K u
  same_other u n =
      let s = solo_law x K first u i.keeps first_runs (alone_no_hands K c t) in
      subst (λ (k : ℕ). IsSameTo x K' (solo K u k) u) (none_of_other t u c n) s.same

  -- what is kept looks the same to another thread along its longest attempt
  pub path : (u k : ℕ) → u ≢ t → k ≤ (attempt_of old u).longest → IsSameTo x (solo K' u k) (solo K u k) u
  path u k n l = along x u k (attempt_of old u).longest K' K keeps_now i.keeps (same_other u n) (i.tried u).inner l

  writes_now : (u steps v e : ℕ) → u ≢ t → steps ≤ (attempt_of old u).longest → Writes K u steps v e → Writes K' u steps v e
  writes_now u steps v e h4 h5 h6 = grind (arith, writes_at_same, own, path)

  writes_before : (u steps v e : ℕ) → u ≢ t → steps ≤ (attempt_of old u).longest → Writes K' u steps v e → Writes K u steps v e
  writes_before u steps v e h4 h5 h6 = grind (arith, writes_at_same, own, path)

  begun_other : (u : ℕ) → u ≢ t → BegunBy K' rest u (attempt_of old u)
  begun_other u n = ⊎_elim
      (λ e. inl (others_left t u c old.uncommitted n ∙ e))
      (λ p. inr (
        others_left t u c old.uncommitted n ∙ p.0,
        (
          p.1.0,
          passes_same (solo K u (attempt_of old u).done) (solo K' u (attempt_of old u).done) u p.1.0
              (path u (attempt_of old u).done n (i.tried u).within).own p.1.1,
        ),
      ))
      (i.tried u).begun

  -- ---- Numbers

  inner_done : IsInner K t a.done
  inner_done k l = let within = (i.tried t).within in (i.tried t).inner k (omega (arith, l, within))

  abbrev z : m.State
  z = solo K t a.done

  last_if : c ≡ suc a.done → LastStep K t a.done
  last_if e = last_step K t a.done (subst (λ (k : ℕ). m.runs_from K (replicate k t) ≡ true) e first_runs)

  kept_is : (e : c ≡ suc a.done) → K' ≡ (last_if e).next
  kept_is e = ap (λ (k : ℕ). solo K t k) e ∙ (last_if e).after

  -- what the thread hasn't written is as it was
  unwritten_stays : (v e : ℕ) → ¬ (Writes K t a.done v e) → number_at K' v e ≡ number_at K v e
  unwritten_stays v e none =
      let before = solo_numbers x t a.done a.done K v e inner_done (omega arith) none in
      ⊎_elim
      (λ s. ap (λ (k : ℕ). number_at (solo K t k) v e) s ∙ before)
      (λ p.
      let l = last_if p.0 in
      ap (λ (y : m.State). number_at y v e) (kept_is p.0)
      ∙ (number_unstored z l.next t v e l.is (λ q is. absurd (passing_stores_nothing z t p.1.0 q p.1.1 is)) ∙ before))
      (i.tried t).begun

  -- the element that it has written is as it is now
  guarded_stays : (v e : ℕ) → Guards x K' t v e → IsSameElement K' (now old) v e
  guarded_stays v e h = own.same.guarded v e (held_same t K'.holders (now old).holders (element_lock x.variables v e) (sym own.same.held) h)

  given_stays : (v e : ℕ) → c ≡ suc a.done → unlocks z t ≡ Some (element_lock x.variables v e) →
      slice_get K'.holders (element_lock x.variables v e) ≡ Some None → IsSameElement K' (now old) v e
  given_stays v e count given free =
      let quiet_rest = quiet x t v e rest K' (m.after_from K' rest) keeps_now (steps_made K' rest rest_runs) (none_left t c old.uncommitted refl) free
      (λ between taker more is n l. exchanged.hands (record {
        before = replicate a.done t;
        giver = t;
        between = between;
        taker = taker;
        rest = more;
        mutex = element_lock x.variables v e;
        is = ap (λ (ks : List ℕ). first ++ ks) is ∙ (ap (λ (k : ℕ). replicate k t ++ (between ++ taker ∷ more)) count
            ∙ (sym (last_first a.done t (between ++ taker ∷ more)) ∙ join (replicate a.done t) between more t taker));
        others = n;
        gives = given;
        takes = ap (λ (ks : List ℕ). locks (m.after_from K ks) taker) (last_first a.done t between ∙ ap (λ (k : ℕ). replicate k t ++ between) (sym count))
            ∙ (ap (λ (y : m.State). locks y taker) (goes_on K first between first_runs).after ∙ l);
      })) in
      ap (λ (y : m.State). found_number y.variables v e) (sym rest_after) ∙ quiet_rest

  written_stays : (v e : ℕ) → Writes K t a.done v e → number_at (now old) v e ≡ number_at K' v e
  written_stays v e w =
      let lock : ℕ = element_lock x.variables v e in
      let before : Guards x K t v e = writer_guards x t a.done K v e i.keeps inner_done w in
      let held : Guards x z t v e = ap (λ (hs : List (Option ℕ)). slice_get hs lock) (solo_holders x t a.done a.done K i.keeps inner_done
      (omega arith)) ∙ before in
      let same : IsSameElement K' (now old) v e = ⊎_elim
      (λ s. guarded_stays v e (subst (λ (k : ℕ). Guards x (solo K t k) t v e) (sym s) held))
      (λ p.
      let l = last_if p.0 in
      ⊎_elim
      (λ h. guarded_stays v e (subst (λ (y : m.State). Guards x y t v e) (sym (kept_is p.0)) h))
      (λ h. given_stays v e p.0 h.0 (subst (λ (y : m.State). slice_get y.holders lock ≡ Some None) (sym (kept_is p.0)) h.1))
      (held_or_given x t v e z l.next (run_keeps x K (replicate a.done t) i.keeps) l.is held))
      (i.tried t).begun in
      found_same K'.variables (now old).variables v e same

  -- ---- The next config

  module _ (attempts : List Attempt) (e : IsSettled old t attempts) where
    abbrev next : Config
    next = settled_by old t attempts

    tried : (u : ℕ) → IsTried next u
    tried u = ⊎_elim
        (λ same. subst (λ (k : ℕ). IsTried next k) (sym same) (tried_of next t no_attempt e.attempt.own (omega arith) (λ k l. absurd (omega (arith, l)))
        (inl (none_left t c old.uncommitted refl))))
        (λ n. tried_of next u (attempt_of old u) (e.attempt.others u n) (i.tried u).within
        (inner_along x u (attempt_of old u).longest K' K keeps_now i.keeps (same_other u n) (i.tried u).inner) (begun_other u n))
        (cases_eq u t)

    untouched : (v k : ℕ) → IsNeverWritten next v k → ¬ (Writes K t a.done v k) → IsNeverWritten old v k
    untouched v k h none u w = grind (arith, cases_eq, writes_now)

    caught_up : (v k : ℕ) → IsNotOverrun next v k → IsNotOverrun old v k
    caught_up v k h u w = ⊎_elim
        (λ same.
        let own_ahead : IsOverrun K t a v k = subst (λ (j : ℕ). IsOverrun K j (attempt_of old j) v k) same w in
        absurd (omega (arith, own_ahead.not_done, own_ahead.within, e.whole)))
        (λ n. h u (subst (λ (b : Attempt). IsOverrun K' u b v k) (sym (e.attempt.others u n)) (record {
          later = w.later;
          not_done = w.not_done;
          within = w.within;
          at = writes_at_same K' K u w.later v k (path u w.later n (let within = w.within in omega (arith, within))).own w.at;
          unwritten = λ y. w.unwritten (writes_before u (attempt_of old u).done v k n (i.tried u).within y);
        })))
        (cases_eq u t)

    pub settles_keeps : Invariant x next
    settles_keeps = record {
      keeps = keeps_now;
      runs = rest_runs;
      hands = rest_hands;
      tried = tried;
      size = i.size ∙ sym (sizes_stay K first).1;
      there = i.there;
      durable = λ v k h. ⊎_elim
          (λ w. subst (λ (n : ℤ). IsStable (history_at old.memory v k) n) (written_stays v k w) (e.durable v k w))
          (λ none. subst (λ (n : ℤ). IsStable (history_at old.memory v k) n) (sym (unwritten_stays v k none)) (i.durable v k (untouched v k h none)))
          (decide a.done K t v k);
      live = λ v k h. i.live v k (caught_up v k h) ∙ ap (λ (y : m.State). number_at y v k) (sym rest_after);
    }
