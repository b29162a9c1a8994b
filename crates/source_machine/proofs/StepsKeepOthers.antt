-- A step of a thread writes that thread alone, and keeps the sizes of variables.
use Rattle.std.proofs.Common.{◌≡◌, ◌≢◌, refl, ℕ, zero, suc, List, [], ◌∷◌, length, map, sym, ◌∙◌}
use Rattle.std.proofs.Common.{ap, Bool, true, false, Option, Some, None, ℤ, slice_set, arith}
use Rattle.std.specs.Prelude.{slice_get, slice_index_or, if◌then◌else◌, Contains}
use Rattle.std.proofs.lemmas.List.{length-set}
use Rattle.ido_base.specs.declared.place.Place.{Place}
use Rattle.c_tree.specs.Exprs as e
use Rattle.c_tree.specs.Flats as f
use Rattle.c_tree.specs.Source as m
use Rattle.c_tree.specs.Values.{lock_number}
use Rattle.c_tree.specs.Source.{source_step}
use Rattle.source_machine.proofs.Emission.{set_other}
use Rattle.source_machine.proofs.StateRuns.{after_by, step_found, step_missing}

some_is : {X : Type 0} (a b : X) → Some a ≡ Some b → a ≡ b
some_is a b h = cc

-- how many elements each variable has
abbrev sizes : m.State → List ℕ
sizes s = map length s.variables

sizes_set : (xss : List (List ℤ)) (i j : ℕ) (z : ℤ) → map length (slice_set xss i (slice_set (slice_index_or xss i []) j z)) ≡ map length xss
sizes_set [] i j z = refl
sizes_set (xs ∷ xss) zero j z = ap (λ (n : ℕ). n ∷ map length xss) (length-set xs j z)
sizes_set (xs ∷ xss) (suc i) j z = ap (λ (ns : List ℕ). length xs ∷ ns) (sizes_set xss i j z)

-- of the threads, the one of that number is written, and no variable changes its size
record Writes (s next : m.State) (t : ℕ) : Type 0 where
  thread : m.Thread
  is : next.threads ≡ slice_set s.threads t thread
  same_sizes : sizes next ≡ sizes s

module _ (s next : m.State) (t : ℕ) (thread : m.Thread) where
  by_some : (before : m.State) (x : m.Thread) → before.threads ≡ s.threads → sizes before ≡ sizes s → Some (m.with_thread before t x) ≡ Some next →
      Writes s next t
  by_some before x same sized h =
      let made = some_is (m.with_thread before t x) next h in
      record {
        thread = x;
        is = sym (ap (λ (z : m.State). z.threads) made) ∙ ap (λ ts. slice_set ts t x) same;
        same_sizes = sym (ap sizes made) ∙ sized;
      }

  abbrev lock_by : (mutex : ℕ) (rest : List f.Statement) → Option (Option ℕ) → Option m.State
  lock_by mutex rest None = None
  lock_by mutex rest (Some None) = Some (m.with_thread (m.with_holder s mutex (Some t)) t (record thread { left = rest }))
  lock_by mutex rest (Some (Some u)) = None

  lock_is : (place : Place) (name : e.LockName) (rest : List f.Statement) (o : Option (Option ℕ)) → slice_get s.holders (lock_number thread.locals name) ≡ o →
      m.statement_step s t thread (f.Lock place name) rest ≡ lock_by (lock_number thread.locals name) rest o
  lock_is place name rest None e = rw (m.statement_step, e) refl
  lock_is place name rest (Some None) e = rw (m.statement_step, e) refl
  lock_is place name rest (Some (Some u)) e = rw (m.statement_step, e) refl

  by_lock : (mutex : ℕ) (rest : List f.Statement) (o : Option (Option ℕ)) → lock_by mutex rest o ≡ Some next → Writes s next t
  by_lock mutex rest None h = cc
  by_lock mutex rest (Some None) h = by_some (m.with_holder s mutex (Some t)) (record thread { left = rest }) refl refl h
  by_lock mutex rest (Some (Some u)) h = cc

  by_statement : (x : f.Statement) (rest : List f.Statement) → m.statement_step s t thread x rest ≡ Some next → Writes s next t
  by_statement (f.Assign place target x) rest h = by_some s _ refl refl h
  by_statement (f.If place f.no_arm otherwise) rest h = cc
  by_statement (f.If place (f.arm_and condition body arms) otherwise) rest h = by_some s _ refl refl h
  by_statement (f.While place condition body) rest h = by_some s _ refl refl h
  by_statement (f.Do place body condition) rest h = cc
  by_statement (f.Lock place name) rest h = by_lock (lock_number thread.locals name) rest (slice_get s.holders (lock_number thread.locals name))
      (sym (lock_is place name rest (slice_get s.holders (lock_number thread.locals name)) refl) ∙ h)
  by_statement (f.Unlock place name) rest h = by_some (m.with_holder s (lock_number thread.locals name) None) (record thread { left = rest }) refl refl h

  by_end : (ended : Bool) → (let o : Option m.State = if ended then None else Some (m.with_thread s t (record thread { ended = true })) in o ≡ Some next) →
      Writes s next t
  by_end true h = cc
  by_end false h = by_some s (record thread { ended = true }) refl refl h

  by_left : (left : List f.Statement) → m.left_step s t thread left ≡ Some next → Writes s next t
  by_left [] h = by_end thread.ended h
  by_left (x ∷ rest) h = by_statement x rest h

  abbrev pending_by : Option m.Pending → Option m.State
  pending_by o = elim o [
    | Some p ↦ Some (m.with_thread (m.stored s p) t (record thread { pending = None }))
    | None ↦ m.left_step s t thread thread.left
  ]

  by_pending : (o : Option m.Pending) → pending_by o ≡ Some next → Writes s next t
  by_pending None h = by_left thread.left h
  by_pending (Some p) h = by_some (m.stored s p) (record thread { pending = None }) refl (sizes_set s.variables p.variable p.element p.number) h

  by_thread : m.thread_step s t thread ≡ Some next → Writes s next t
  by_thread h = by_pending thread.pending h

by_found : (s next : m.State) (t : ℕ) (o : Option m.Thread) → slice_get s.threads t ≡ o → source_step s t ≡ Some next → Writes s next t
by_found s next t None e h = let none = step_missing s t e in cc
by_found s next t (Some thread) e h = by_thread s next t thread (sym (step_found s t thread e) ∙ h)

written : (s next : m.State) (t : ℕ) → source_step s t ≡ Some next → Writes s next t
written s next t h = by_found s next t (slice_get s.threads t) refl h

-- ---- The laws

pub others : (s next : m.State) (t u : ℕ) → source_step s t ≡ Some next → u ≢ t → slice_get next.threads u ≡ slice_get s.threads u
others s next t u h n =
    let w = written s next t h in
    ap (λ ts. slice_get ts u) w.is ∙ set_other s.threads t u w.thread n

resting_by : (s : m.State) (t : ℕ) (ts : List ℕ) (u : ℕ) (o : Option m.State) → source_step s t ≡ o → u ≢ t →
    ((next : m.State) → slice_get (m.after_from next ts).threads u ≡ slice_get next.threads u) → slice_get (after_by ts s o).threads u ≡ slice_get s.threads u
resting_by s t ts u None e n more = refl
resting_by s t ts u (Some next) e n more = more next ∙ others s next t u e n

pub resting : (s : m.State) (schedule : List ℕ) (u : ℕ) → (Contains schedule u → ⊥) → slice_get (m.after_from s schedule).threads u ≡ slice_get s.threads u
resting s [] u n = refl
resting s (t ∷ ts) u n = resting_by s t ts u (source_step s t) refl (λ e. n (0, omega arith, sym e))
    (λ next. resting next ts u (λ h. n (suc h.0, omega (arith, h.1), h.2)))

-- as many threads, and as many elements of each variable
abbrev SameSizes : m.State → m.State → Type 0
SameSizes s after = (length after.threads ≡ length s.threads) × (sizes after ≡ sizes s)

sizes_by : (s : m.State) (t : ℕ) (ts : List ℕ) (o : Option m.State) → source_step s t ≡ o → ((next : m.State) → SameSizes next (m.after_from next ts)) →
    SameSizes s (after_by ts s o)
sizes_by s t ts None e more = (refl, refl)
sizes_by s t ts (Some next) e more =
    let w = written s next t e in
    ((more next).0 ∙ ap length w.is ∙ length-set s.threads t w.thread, (more next).1 ∙ w.same_sizes)

pub sizes_stay : (s : m.State) (schedule : List ℕ) → SameSizes s (m.after_from s schedule)
sizes_stay s [] = (refl, refl)
sizes_stay s (t ∷ ts) = sizes_by s t ts (source_step s t) refl (λ next. sizes_stay next ts)
