-- A thread's own steps from two states that look the same to it.
use Rattle.std.proofs.Common.{◌≡◌, ◌⊎◌, inl, inr, refl, ℕ, zero, suc, ◌≤◌, List, replicate, sym, ◌∙◌, ap, subst, arith, Option, Some, None, ⊎_elim, slice_get}
use Rattle.std.proofs.lemmas.Bool.{cases_eq}
use Rattle.c_tree.specs.Flats as f
use Rattle.c_tree.specs.Source as m
use Rattle.c_tree.specs.Source.{source_step}
use Rattle.c_tree.specs.LockNames.{Held, holds}
use Rattle.source_machine.specs.ElementLocks.{element_lock}
use Rattle.source_machine.specs.Mutexes.{locks, unlocks, held_by}
use Rattle.source_machine.specs.Discipline.{StateKeeps, Guards, LooksSame}
use Rattle.source_machine.specs.StepExchanges.{IsSameTo}
use Rattle.source_machine.proofs.Public.{after_by, held_found, some_is, step_keeps, run_keeps, reads_guarded, locks_same, unlocks_same, held_there}
use Rattle.recovery_semantics.specs.ElementHistories.{number_at}
use Rattle.recovery_semantics.specs.Attempts.{solo, IsInnerStep, IsInner, store_ahead, WritesAt, Writes}
use Rattle.recovery_semantics.proofs.StepEffects.{store_same, storing, number_unstored, inner_holders}

-- after a step that is made
pub solo_first : (s next : m.State) (t k : ℕ) → source_step s t ≡ Some next → solo s t (suc k) ≡ solo next t k
solo_first s next t k h = ap (after_by (replicate k t) s) h

pub inner_rest : (s : m.State) (t n : ℕ) (inner : IsInner s t (suc n)) (next : m.State) → source_step s t ≡ Some next → IsInner next t n
inner_rest s t n inner next h k l = subst (λ (z : m.State). IsInnerStep z t) (solo_first s next t k h) (inner (suc k) (omega (arith, l)))

-- what one state's thread holds the other's does
pub held_same : (t : ℕ) (hs gs : List (Option ℕ)) (k : ℕ) → held_by t hs ≡ held_by t gs → slice_get hs k ≡ Some (Some t) → slice_get gs k ≡ Some (Some t)
held_same t hs gs k e h = held_found t gs k (ap (λ (h : Held). holds h k) (sym e) ∙ held_there t hs k h)

pub none_some : {X : Type 0} (k : X) → None ≡ Some k → ⊥
none_some k e = cc

module _ (x : f.Flat) (u : ℕ) where
  looks : (a b : m.State) → IsSameTo x a b u → locks b u ≡ None → LooksSame x b a u
  looks a b h2 h3 = grind (arith, held_same, none_some)

  -- an inner step that is made from the one is made from the other
  pub beside : (a b next : m.State) → StateKeeps x a → StateKeeps x b → IsSameTo x a b u → source_step b u ≡ Some next → locks b u ≡ None →
      unlocks b u ≡ None → (after : m.State) × (source_step a u ≡ Some after) × IsSameTo x after next u
  beside a b next ka kb i h no_lock no_unlock =
      let r = reads_guarded x b next a u kb h (looks a b i no_lock) in
      let ha = inner_holders x a r.after u ka r.is (locks_same b a u i.own ∙ no_lock) (unlocks_same b a u i.own ∙ no_unlock) in
      let hb = inner_holders x b next u kb h no_lock no_unlock in (
        r.after,
        r.is,
        record {
          own = r.own;
          held = ap (held_by u) ha ∙ (i.held ∙ sym (ap (held_by u) hb));
          guarded = λ v e g. r.guarded v e (held_same u a.holders b.holders (element_lock x.variables v e) i.held
              (ap (λ (hs : List (Option ℕ)). slice_get hs (element_lock x.variables v e)) (sym ha) ∙ g));
        },
      )

  -- along inner steps the states stay the same to the thread
  pub along : (k n : ℕ) (a b : m.State) → StateKeeps x a → StateKeeps x b → IsSameTo x a b u → IsInner b u n → k ≤ n → IsSameTo x (solo a u k) (solo b u k) u
  along zero n a b ka kb i inner l = i
  along (suc k) zero a b ka kb i inner l = absurd (omega (arith, l))
  along (suc k) (suc n) a b ka kb i inner l =
      let g = inner 0 (omega arith) in
      let r = beside a b g.next ka kb i g.is g.locks_none g.unlocks_none in
      let more : IsSameTo x (solo r.0 u k) (solo g.next u k) u =
      along k n r.0 g.next (step_keeps x a r.0 u ka r.1) (step_keeps x b g.next u kb g.is) r.2 (inner_rest b u n inner g.next g.is) (omega (arith, l)) in
      let to_a : IsSameTo x (solo a u (suc k)) (solo g.next u k) u =
      subst (λ (z : m.State). IsSameTo x z (solo g.next u k) u) (sym (solo_first a r.0 u k r.1)) more in
      subst (λ (z : m.State). IsSameTo x (solo a u (suc k)) z u) (sym (solo_first b g.next u k g.is)) to_a

  pub inner_along : (n : ℕ) (a b : m.State) → StateKeeps x a → StateKeeps x b → IsSameTo x a b u → IsInner b u n → IsInner a u n
  inner_along n a b ka kb i inner k l =
      let s = along k n a b ka kb i inner (omega (arith, l)) in
      let g = inner k l in
      let r = beside (solo a u k) (solo b u k) g.next (run_keeps x a (replicate k u) ka) (run_keeps x b (replicate k u) kb) s g.is g.locks_none
      g.unlocks_none in
      record {
        next = r.0;
        is = r.1;
        locks_none = locks_same (solo b u k) (solo a u k) u s.own ∙ g.locks_none;
        unlocks_none = unlocks_same (solo b u k) (solo a u k) u s.own ∙ g.unlocks_none;
      }

-- ---- What a thread writes

-- the thread is the same after its steps
pub writes_at_same : (a b : m.State) (t k v e : ℕ) → slice_get (solo a t k).threads t ≡ slice_get (solo b t k).threads t → WritesAt b t k v e →
    WritesAt a t k v e
writes_at_same a b t k v e h6 h7 = grind (arith, store_same)

-- a store at a thread's step k after its first one is a store at its step k + 1
writes_at_first : (s next : m.State) (t k v e : ℕ) → source_step s t ≡ Some next → WritesAt next t k v e → WritesAt s t (suc k) v e
writes_at_first s next t k v e h6 h7 = grind (arith, solo_first)

pub writes_more : (s : m.State) (t few many v e : ℕ) → few ≤ many → Writes s t few v e → Writes s t many v e
writes_more s t few many v e l w = let within = w.within in record { before = w.before; within = omega (arith, l, within); at = w.at }

decide_by : (s : m.State) (t k v e : ℕ) (o : Option m.Pending) → store_ahead (solo s t k) t ≡ o → WritesAt s t k v e ⊎ (¬ (WritesAt s t k v e))
decide_by s t k v e None g = inr (λ w. none_some w.store (sym g ∙ w.is))
decide_by s t k v e (Some p) g = ⊎_elim
    (λ a. ⊎_elim
    (λ b. inl (record { store = p; is = g; variable_is = a; element_is = b }))
    (λ n. inr (λ w. n (ap (λ (q : m.Pending). q.element) (one w) ∙ w.element_is)))
    (cases_eq p.element e))
    (λ n. inr (λ w. n (ap (λ (q : m.Pending). q.variable) (one w) ∙ w.variable_is)))
    (cases_eq p.variable v)
  where
    one : (w : WritesAt s t k v e) → p ≡ w.store
    one w = some_is p w.store (sym g ∙ w.is)

pub decide_at : (s : m.State) (t k v e : ℕ) → WritesAt s t k v e ⊎ (¬ (WritesAt s t k v e))
decide_at s t k v e = decide_by s t k v e (store_ahead (solo s t k) t) refl

pub decide : (n : ℕ) (s : m.State) (t v e : ℕ) → Writes s t n v e ⊎ (¬ (Writes s t n v e))
decide zero s t v e = inr (λ w. let within = w.within in absurd (omega (arith, within)))
decide (suc n) s t v e = ⊎_elim
    (λ w. inl (writes_more s t n (suc n) v e (omega arith) w))
    (λ none. ⊎_elim
    (λ w. inl (record { before = n; within = omega arith; at = w }))
    (λ here. inr (λ w. ⊎_elim
    (λ is. here (subst (λ (k : ℕ). WritesAt s t k v e) is w.at))
    (λ other. none (let within = w.within in record { before = w.before; within = omega (arith, within, other); at = w.at }))
    (cases_eq w.before n)))
    (decide_at s t n v e))
    (decide n s t v e)

-- ---- What inner steps leave

module _ (x : f.Flat) (t : ℕ) where
  pub solo_holders : (k n : ℕ) (s : m.State) → StateKeeps x s → IsInner s t n → k ≤ n → (solo s t k).holders ≡ s.holders
  solo_holders zero n s keeps inner l = refl
  solo_holders (suc k) zero s keeps inner l = absurd (omega (arith, l))
  solo_holders (suc k) (suc n) s keeps inner l =
      let g = inner 0 (omega arith) in
      ap (λ (z : m.State). z.holders) (solo_first s g.next t k g.is)
      ∙ (solo_holders k n g.next (step_keeps x s g.next t keeps g.is) (inner_rest s t n inner g.next g.is) (omega (arith, l))
      ∙ inner_holders x s g.next t keeps g.is g.locks_none g.unlocks_none)

  -- what a thread writes along them it guards before
  pub writer_guards : (n : ℕ) (s : m.State) (v e : ℕ) → StateKeeps x s → IsInner s t n → Writes s t n v e → Guards x s t v e
  writer_guards n s v e keeps inner w =
      let z = solo s t w.before in
      let a = storing z t w.at.store w.at.is in
      let kept = run_keeps x s (replicate w.before t) keeps in
      let lock : ℕ = element_lock x.variables w.at.store.variable w.at.store.element in
      let owns : slice_get z.holders lock ≡ Some (Some t) = (kept.each t a.thread a.there).pending w.at.store a.pending in
      let holders = solo_holders w.before n s keeps inner (omega (arith, w.within)) in
      subst (λ (i : ℕ). Guards x s t i e) w.at.variable_is
      (subst (λ (k : ℕ). Guards x s t w.at.store.variable k) w.at.element_is
      (ap (λ (hs : List (Option ℕ)). slice_get hs lock) (sym holders) ∙ owns))

  -- what a thread doesn't write along its inner steps keeps its number
  pub solo_numbers : (k n : ℕ) (s : m.State) (v e : ℕ) → IsInner s t n → k ≤ n → ¬ (Writes s t n v e) → number_at (solo s t k) v e ≡ number_at s v e
  solo_numbers zero n s v e inner l none = refl
  solo_numbers (suc k) zero s v e inner l none = absurd (omega (arith, l))
  solo_numbers (suc k) (suc n) s v e inner l none =
      let g = inner 0 (omega arith) in
      ap (λ (z : m.State). number_at z v e) (solo_first s g.next t k g.is)
      ∙ (solo_numbers k n g.next v e (inner_rest s t n inner g.next g.is) (omega (arith, l))
      (λ w. none (let within = w.within in
      record { before = suc w.before; within = omega (arith, within); at = writes_at_first s g.next t w.before v e g.is w.at }))
      ∙ number_unstored s g.next t v e g.is (λ p is a b. none (record {
        before = 0;
        within = omega arith;
        at = record { store = p; is = is; variable_is = sym a; element_is = sym b };
      })))
