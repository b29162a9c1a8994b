-- What one step of a thread does to the numbers and to the holders.
use Rattle.std.proofs.Common.{◌≡◌, refl, ℕ, zero, suc, ◌<◌, List, [], ◌∷◌, length, sym, ◌∙◌, ap, arith, Bool, true, false, Option, Some, None, slice_set, ℤ}
use Rattle.std.specs.Prelude.{slice_get, slice_index_or, pos, if◌then◌else◌}
use Rattle.ido_base.specs.declared.place.Place.{Place}
use Rattle.c_tree.specs.Exprs as e
use Rattle.c_tree.specs.Flats as f
use Rattle.c_tree.specs.Source as m
use Rattle.c_tree.specs.Values.{lock_number}
use Rattle.c_tree.specs.Source.{source_step}
use Rattle.source_machine.specs.Mutexes.{locks, unlocks, lock_ahead, unlock_ahead}
use Rattle.source_machine.specs.Discipline.{StateKeeps}
use Rattle.source_machine.proofs.Public.{step_found, step_missing, some_is, Passed, with_passed, takes, gives, locks_found, unlocks_found, stepped}
use Rattle.recovery_semantics.specs.ElementHistories.{number_at, IsOther}
use Rattle.recovery_semantics.specs.Attempts.{store_ahead, IsInnerStep}

-- ---- Numbers after a store

set_index_other : {X : Type 0} (xs : List X) (i k : ℕ) (n d : X) → (k ≡ i → ⊥) → slice_index_or (slice_set xs i n) k d ≡ slice_index_or xs k d
set_index_other [] i k n d h = refl
set_index_other (x ∷ xs) zero zero n d h = absurd (h refl)
set_index_other (x ∷ xs) zero (suc k) n d h = refl
set_index_other (x ∷ xs) (suc i) zero n d h = refl
set_index_other (x ∷ xs) (suc i) (suc k) n d h = set_index_other xs i k n d (λ e. h (ap suc e))

set_index_same : {X : Type 0} (xs : List X) (i : ℕ) (n d : X) → i < length xs → slice_index_or (slice_set xs i n) i d ≡ n
set_index_same [] i n d h = absurd (omega arith)
set_index_same (x ∷ xs) zero n d h = refl
set_index_same (x ∷ xs) (suc i) n d h = set_index_same xs i n d (omega arith)

abbrev written : List (List ℤ) → (variable element : ℕ) → ℤ → List (List ℤ)
written vss variable element n = slice_set vss variable (slice_set (slice_index_or vss variable []) element n)

abbrev index_at : List (List ℤ) → (v e : ℕ) → ℤ
index_at vss v e = slice_index_or (slice_index_or vss v []) e (pos 0)

number_other : (vss : List (List ℤ)) (i j v e : ℕ) (n : ℤ) → IsOther i j v e → index_at (written vss i j n) v e ≡ index_at vss v e
number_other [] i j v e n h = refl
number_other (vs ∷ vss) zero j zero e n h = set_index_other vs j e n (pos 0) (h refl)
number_other (vs ∷ vss) zero j (suc v) e n h = refl
number_other (vs ∷ vss) (suc i) j zero e n h = refl
number_other (vs ∷ vss) (suc i) j (suc v) e n h = number_other vss i j v e n (λ a. h (ap suc a))

number_same : (vss : List (List ℤ)) (i j : ℕ) (n : ℤ) → j < length (slice_index_or vss i []) → index_at (written vss i j n) i j ≡ n
number_same [] i j n h = absurd (omega arith)
number_same (vs ∷ vss) zero j n h = set_index_same vs j n (pos 0) h
number_same (vs ∷ vss) (suc i) j n h = number_same vss i j n h

-- ---- A step that stores nothing leaves the variables

module _ (s next : m.State) (t : ℕ) (thread : m.Thread) where
  by_some : (before : m.State) (x : m.Thread) → before.variables ≡ s.variables → Some (m.with_thread before t x) ≡ Some next → next.variables ≡ s.variables
  by_some before x same h = sym (ap (λ (z : m.State). z.variables) (some_is (m.with_thread before t x) next h)) ∙ same

  abbrev lock_by : (mutex : ℕ) (rest : List f.Statement) → Option (Option ℕ) → Option m.State
  lock_by mutex rest None = None
  lock_by mutex rest (Some None) = Some (m.with_thread (m.with_holder s mutex (Some t)) t (record thread { left = rest }))
  lock_by mutex rest (Some (Some u)) = None

  lock_is : (place : Place) (name : e.LockName) (rest : List f.Statement) (o : Option (Option ℕ)) → slice_get s.holders (lock_number thread.locals name) ≡ o →
      m.statement_step s t thread (f.Lock place name) rest ≡ lock_by (lock_number thread.locals name) rest o
  lock_is place name rest o h4 = grind (arith)

  by_lock : (mutex : ℕ) (rest : List f.Statement) (o : Option (Option ℕ)) → lock_by mutex rest o ≡ Some next → next.variables ≡ s.variables
  by_lock mutex rest o h3 = grind (arith, by_some)

  by_statement : (x : f.Statement) (rest : List f.Statement) → m.statement_step s t thread x rest ≡ Some next → next.variables ≡ s.variables
  by_statement x rest h2 = grind (arith, by_lock, by_some, lock_is)

  by_end : (ended : Bool) → (let o : Option m.State = if ended then None else Some (m.with_thread s t (record thread { ended = true })) in o ≡ Some next) →
      next.variables ≡ s.variables
  by_end true h = cc
  by_end false h = by_some s (record thread { ended = true }) refl h

  by_left : (left : List f.Statement) → m.left_step s t thread left ≡ Some next → next.variables ≡ s.variables
  by_left left h1 = grind (arith, by_end, by_statement)

  abbrev pending_by : Option m.Pending → Option m.State
  pending_by o = elim o [
    | Some p ↦ Some (m.with_thread (m.stored s p) t (record thread { pending = None }))
    | None ↦ m.left_step s t thread thread.left
  ]

  by_none : thread.pending ≡ None → m.thread_step s t thread ≡ Some next → next.variables ≡ s.variables
  by_none e h = by_left thread.left (sym (ap pending_by e) ∙ h)

  by_store : (p : m.Pending) → thread.pending ≡ Some p → m.thread_step s t thread ≡ Some next → next.variables ≡ (m.stored s p).variables
  by_store p e h = grind (arith, some_is)

-- ---- Of the thread that is there

abbrev store_by : Option m.Thread → Option m.Pending
store_by o = elim o [
  | Some found ↦ found.pending
  | None ↦ None
]

pub store_same : (s z : m.State) (t : ℕ) → slice_get z.threads t ≡ slice_get s.threads t → store_ahead z t ≡ store_ahead s t
store_same s z t h = ap store_by h

unstored_by : (s next : m.State) (t : ℕ) (o : Option m.Thread) → slice_get s.threads t ≡ o → store_by o ≡ None → source_step s t ≡ Some next →
    next.variables ≡ s.variables
unstored_by s next t None e g h = let none = step_missing s t e in cc
unstored_by s next t (Some thread) e g h = by_none s next t thread g (sym (step_found s t thread e) ∙ h)

pub unstored : (s next : m.State) (t : ℕ) → store_ahead s t ≡ None → source_step s t ≡ Some next → next.variables ≡ s.variables
unstored s next t g h = unstored_by s next t (slice_get s.threads t) refl g h

-- ---- A store

-- the thread with its store
pub record Storing (s : m.State) (t : ℕ) (p : m.Pending) : Type 0 where
  pub thread : m.Thread
  pub there : slice_get s.threads t ≡ Some thread
  pub pending : thread.pending ≡ Some p

storing_by : (s : m.State) (t : ℕ) (p : m.Pending) (o : Option m.Thread) → slice_get s.threads t ≡ o → store_by o ≡ Some p → Storing s t p
storing_by s t p o h4 h5 = grind (arith)

pub storing : (s : m.State) (t : ℕ) (p : m.Pending) → store_ahead s t ≡ Some p → Storing s t p
storing s t p g = storing_by s t p (slice_get s.threads t) refl g

pub store_step : (s next : m.State) (t : ℕ) (p : m.Pending) → store_ahead s t ≡ Some p → source_step s t ≡ Some next → next.variables ≡ (m.stored s p).variables
store_step s next t p g h =
    let a = storing s t p g in
    by_store s next t a.thread p a.pending (sym (step_found s t a.thread a.there) ∙ h)

lock_with : (p : m.Pending) (thread : m.Thread) → thread.pending ≡ Some p → lock_ahead thread ≡ None
lock_with p thread e = rw (lock_ahead, e) refl

unlock_with : (p : m.Pending) (thread : m.Thread) → thread.pending ≡ Some p → unlock_ahead thread ≡ None
unlock_with p thread e = rw (unlock_ahead, e) refl

-- a store can be made, and passes no mutex
pub store_inner : (s : m.State) (t : ℕ) (p : m.Pending) → store_ahead s t ≡ Some p → IsInnerStep s t
store_inner s t p g =
    let a = storing s t p g in
    record {
      next = m.with_thread (m.stored s p) t (record a.thread { pending = None });
      is = step_found s t a.thread a.there ∙ ap (pending_by s s t a.thread) a.pending;
      locks_none = locks_found s t a.thread a.there ∙ lock_with p a.thread a.pending;
      unlocks_none = unlocks_found s t a.thread a.there ∙ unlock_with p a.thread a.pending;
    }

-- ---- Numbers after a step

pub number_stays : (s next : m.State) (v e : ℕ) → next.variables ≡ s.variables → number_at next v e ≡ number_at s v e
number_stays s next v e h = ap (λ (vss : List (List ℤ)). index_at vss v e) h

number_by : (s next : m.State) (t v e : ℕ) (o : Option m.Pending) → store_ahead s t ≡ o → source_step s t ≡ Some next →
    ((p : m.Pending) → o ≡ Some p → IsOther p.variable p.element v e) → number_at next v e ≡ number_at s v e
number_by s next t v e None g h n = number_stays s next v e (unstored s next t g h)
number_by s next t v e (Some p) g h n =
    ap (λ (vss : List (List ℤ)). index_at vss v e) (store_step s next t p g h) ∙ number_other s.variables p.variable p.element v e p.number (n p refl)

-- an element that the step doesn't store to
pub number_unstored : (s next : m.State) (t v e : ℕ) → source_step s t ≡ Some next →
    ((p : m.Pending) → store_ahead s t ≡ Some p → IsOther p.variable p.element v e) → number_at next v e ≡ number_at s v e
number_unstored s next t v e h n = number_by s next t v e (store_ahead s t) refl h n

-- the element that the step stores to has the pending number
pub number_stored : (s next : m.State) (t : ℕ) (p : m.Pending) → store_ahead s t ≡ Some p → source_step s t ≡ Some next →
    p.element < length (slice_index_or s.variables p.variable []) → number_at next p.variable p.element ≡ p.number
number_stored s next t p g h there =
    ap (λ (vss : List (List ℤ)). index_at vss p.variable p.element) (store_step s next t p g h)
    ∙ number_same s.variables p.variable p.element p.number there

-- ---- Holders after an inner step

pub inner_holders : (x : f.Flat) (s next : m.State) (t : ℕ) → StateKeeps x s → source_step s t ≡ Some next → locks s t ≡ None → unlocks s t ≡ None →
    next.holders ≡ s.holders
inner_holders x s next t keeps h no_lock no_unlock =
    let p = stepped x s next t keeps h in
    ap (λ (z : m.State). z.holders) p.is ∙ none_passed p.does.change.passed (λ q e.
    elim (p.does.passes q e) [
      | takes a free to ↦ clash q.mutex (sym no_lock ∙ (locks_found s t p.thread p.there ∙ a))
      | gives a own to ↦ clash q.mutex (sym no_unlock ∙ (unlocks_found s t p.thread p.there ∙ a))
    ])
  where
    clash : (k : ℕ) → None ≡ Some k → ⊥
    clash k e = cc

    none_passed : (o : Option Passed) → ((q : Passed) → o ≡ Some q → ⊥) → with_passed o s.holders ≡ s.holders
    none_passed None n = refl
    none_passed (Some q) n = absurd (n q refl)
