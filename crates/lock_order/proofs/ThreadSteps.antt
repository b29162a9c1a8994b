-- What is said of the statements that a thread has left and of its locals, and that each form of a statement keeps, is so in every run.
use Rattle.std.proofs.Common.{◌≡◌, inl, inr, ℕ, zero, suc, Bool, true, false, cond, List, [], ◌∷◌, ◌++◌, map, length, Option, Some, None}
use Rattle.std.proofs.Common.{refl, sym, ap, ◌∙◌, subst}
use Rattle.std.specs.Prelude.{replicate, slice_get, slice_set, ℤ, pos}
use Rattle.std.proofs.lemmas.Bool.{cases_eq}
use Rattle.std.proofs.lemmas.Option.{none-some, same_Some}
use Rattle.ido_base.specs.declared.place.Place.{Place}
use Rattle.ido_ints.specs.declared.kinds.Kind.{Kind}
use Rattle.ido_ints.specs.Reduction.{reduced}
use Rattle.c_tree.specs.Exprs as e
use Rattle.c_tree.specs.Flats as f
use Rattle.c_tree.specs.Source as m
use Rattle.c_tree.specs.Source.{source_step, opened_all, tested}
use Rattle.c_tree.specs.Values.{lock_number}
use Rattle.source_machine.specs.Laws.{OthersStay}
use Rattle.source_machine.proofs.Public.{after_by, step_found, step_missing}

-- each form of a statement keeps what is said of a thread of the text
pub record IsKept (Said : f.Thread → List f.Statement → List ℤ → Type 0) : Type 0 where
  pub goes_on : (t : f.Thread) (y : f.Statement) (rest : List f.Statement) (ls : List ℤ) → Said t (y ∷ rest) ls → Said t rest ls
  pub assigned : (t : f.Thread) (place at : Place) (local : ℕ) (kind : Kind) (value : e.Placed) (rest : List f.Statement) (ls : List ℤ) (n : ℤ) →
      Said t (f.Assign place (e.ToLocal at local kind) value ∷ rest) ls → Said t rest (slice_set ls local (reduced kind n))
  pub if_tested : (t : f.Thread) (b : Bool) (place : Place) (condition : e.Placed) (body : f.Statements) (arms : f.Arms) (otherwise : f.Statements)
      (rest : List f.Statement) (ls : List ℤ) → Said t (f.If place (f.arm_and condition body arms) otherwise ∷ rest) ls →
      Said t (tested b (opened_all body) (f.If place arms otherwise ∷ []) (opened_all otherwise) arms ++ rest) ls
  pub while_tested : (t : f.Thread) (b : Bool) (place : Place) (condition : e.Placed) (body : f.Statements) (rest : List f.Statement) (ls : List ℤ) →
      Said t (f.While place condition body ∷ rest) ls → Said t (cond b (opened_all body ++ (f.While place condition body ∷ rest)) rest) ls

-- it is said of each thread of the form
pub record IsSaidOfAll (Said : f.Thread → List f.Statement → List ℤ → Type 0) (x : f.Flat) (s : m.State) : Type 0 where
  pub each : (number : ℕ) (thread : m.Thread) (text : f.Thread) → slice_get s.threads number ≡ Some thread → slice_get x.threads number ≡ Some text →
      Said text thread.left thread.locals

module _ (Said : f.Thread → List f.Statement → List ℤ → Type 0) (kept : IsKept Said) where
  -- a thread that has made a step
  record Made (text : f.Thread) (t : ℕ) (next : m.State) : Type 0 where
    thread : m.Thread
    there : slice_get next.threads t ≡ Some thread
    said : Said text thread.left thread.locals

  get_set : (ts : List m.Thread) (t : ℕ) (old new : m.Thread) → slice_get ts t ≡ Some old → slice_get (slice_set ts t new) t ≡ Some new
  get_set [] t old new there = absurd (none-some old there)
  get_set (y ∷ ts) zero old new there = refl
  get_set (y ∷ ts) (suc t) old new there = get_set ts t old new there

  module _ (text : f.Thread) (s : m.State) (t : ℕ) (thread : m.Thread) (there : slice_get s.threads t ≡ Some thread)
      (said : Said text thread.left thread.locals) (next : m.State) where
    placed : (z : m.State) (to : m.Thread) → z.threads ≡ s.threads → Said text to.left to.locals → Some (m.with_thread z t to) ≡ Some next →
        Made text t next
    placed z to same w is =
        subst (Made text t) (same_Some (m.with_thread z t to) next is) (record {
          thread = to;
          there = get_set z.threads t thread to (ap (λ (ts : List m.Thread). slice_get ts t) same ∙ there);
          said = w;
        })

    -- what is left, and the locals that the thread has
    abbrev Left : List f.Statement → Type 0
    Left left = Said text left thread.locals

    by_assign : (place : Place) (target : e.Lvalue) (value : e.Placed) (rest : List f.Statement) → Left (f.Assign place target value ∷ rest) →
        m.statement_step s t thread (f.Assign place target value) rest ≡ Some next → Made text t next
    by_assign place (e.ToLocal at local kind) value rest w is =
        placed s (record (m.evaluated s thread (e.ToLocal at local kind) value.expr) { left = rest }) refl
        (kept.assigned text place at local kind value rest thread.locals (m.value_in s thread value.expr).number w) is
    by_assign place (e.ToVariable at variable kind) value rest w is =
        placed s (record (m.evaluated s thread (e.ToVariable at variable kind) value.expr) { left = rest }) refl
        (kept.goes_on text (f.Assign place (e.ToVariable at variable kind) value) rest thread.locals w) is
    by_assign place (e.ToElement at variable kind index) value rest w is =
        placed s (record (m.evaluated s thread (e.ToElement at variable kind index) value.expr) { left = rest }) refl
        (kept.goes_on text (f.Assign place (e.ToElement at variable kind index) value) rest thread.locals w) is

    by_if : (place : Place) (arms : f.Arms) (otherwise : f.Statements) (rest : List f.Statement) → Left (f.If place arms otherwise ∷ rest) →
        m.statement_step s t thread (f.If place arms otherwise) rest ≡ Some next → Made text t next
    by_if place f.no_arm otherwise rest w is = absurd (none-some next is)
    by_if place (f.arm_and condition body arms) otherwise rest w is =
        placed s (record thread {
          left = tested (m.is_true s thread condition) (opened_all body) (f.If place arms otherwise ∷ []) (opened_all otherwise) arms ++ rest;
        }) refl (kept.if_tested text (m.is_true s thread condition) place condition body arms otherwise rest thread.locals w) is

    by_lock : (place : Place) (name : e.LockName) (rest : List f.Statement) → Left (f.Lock place name ∷ rest) →
        m.statement_step s t thread (f.Lock place name) rest ≡ Some next → Made text t next
    by_lock place name rest w is = by_holder (slice_get s.holders (lock_number thread.locals name)) refl
      where
        taken : Option (Option ℕ) → Option m.State
        taken o = elim o [
          | Some None ↦ Some (m.with_thread (m.with_holder s (lock_number thread.locals name) (Some t)) t (record thread { left = rest }))
          | _ ↦ None
        ]

        by_holder : (o : Option (Option ℕ)) → slice_get s.holders (lock_number thread.locals name) ≡ o → Made text t next
        by_holder None h = absurd (none-some next (sym (ap taken h) ∙ is))
        by_holder (Some None) h =
            placed (m.with_holder s (lock_number thread.locals name) (Some t)) (record thread { left = rest }) refl
            (kept.goes_on text (f.Lock place name) rest thread.locals w)
            (sym (ap taken h) ∙ is)
        by_holder (Some (Some g)) h = absurd (none-some next (sym (ap taken h) ∙ is))

    by_statement : (y : f.Statement) (rest : List f.Statement) → Left (y ∷ rest) → m.statement_step s t thread y rest ≡ Some next → Made text t next
    by_statement (f.Assign place target value) rest w is = by_assign place target value rest w is
    by_statement (f.If place arms otherwise) rest w is = by_if place arms otherwise rest w is
    by_statement (f.While place condition body) rest w is =
        placed s (record thread { left = cond (m.is_true s thread condition) (opened_all body ++ (f.While place condition body ∷ rest)) rest }) refl
        (kept.while_tested text (m.is_true s thread condition) place condition body rest thread.locals w) is
    by_statement (f.Do place body condition) rest w is = absurd (none-some next is)
    by_statement (f.Lock place name) rest w is = by_lock place name rest w is
    by_statement (f.Unlock place name) rest w is =
        placed (m.with_holder s (lock_number thread.locals name) None) (record thread { left = rest }) refl
        (kept.goes_on text (f.Unlock place name) rest thread.locals w) is

    by_end : (b : Bool) → cond b None (Some (m.with_thread s t (record thread { ended = true }))) ≡ Some next → Made text t next
    by_end true is = absurd (none-some next is)
    by_end false is = placed s (record thread { ended = true }) refl said is

    by_left : (left : List f.Statement) → Left left → m.left_step s t thread left ≡ Some next → Made text t next
    by_left [] w is = by_end thread.ended is
    by_left (y ∷ rest) w is = by_statement y rest w is

    abbrev step_by : Option m.Pending → Option m.State
    step_by o = elim o [
      | Some p ↦ Some (m.with_thread (m.stored s p) t (record thread { pending = None }))
      | None ↦ m.left_step s t thread thread.left
    ]

    by_pending : (o : Option m.Pending) → step_by o ≡ Some next → Made text t next
    by_pending None is = by_left thread.left said is
    by_pending (Some p) is = placed (m.stored s p) (record thread { pending = None }) refl said is

    made : m.thread_step s t thread ≡ Some next → Made text t next
    made is = by_pending thread.pending is

  module _ (x : f.Flat) where
    own_by : (s next : m.State) (t : ℕ) (text : f.Thread) → slice_get x.threads t ≡ Some text → IsSaidOfAll Said x s → source_step s t ≡ Some next →
        (o : Option m.Thread) → slice_get s.threads t ≡ o → Made text t next
    own_by s next t text its r is None missing = absurd (none-some next (sym (step_missing s t missing) ∙ is))
    own_by s next t text its r is (Some thread) there =
        made text s t thread there (r.each t thread text there its) next (sym (step_found s t thread there) ∙ is)

    step_keeps : OthersStay → (s next : m.State) (t : ℕ) → IsSaidOfAll Said x s → source_step s t ≡ Some next → IsSaidOfAll Said x next
    step_keeps others s next t r is = record {
      each = λ u thread text there its. elim (cases_eq u t) [
        | inl same ↦
            let o = own_by s next t text (ap (slice_get x.threads) (sym same) ∙ its) r is (slice_get s.threads t) refl in
            let found : Some o.thread ≡ Some thread = sym o.there ∙ ap (slice_get next.threads) (sym same) ∙ there in
            subst (λ (y : m.Thread). Said text y.left y.locals) (same_Some o.thread thread found) o.said
        | inr ne ↦ r.each u thread text (sym (others s next t u is ne) ∙ there) its
      ];
    }

    run_by : OthersStay → (s : m.State) (t : ℕ) (ts : List ℕ) (o : Option m.State) → source_step s t ≡ o → IsSaidOfAll Said x s →
        ((next : m.State) → IsSaidOfAll Said x next → IsSaidOfAll Said x (m.after_from next ts)) → IsSaidOfAll Said x (after_by ts s o)
    run_by others s t ts None is r more = r
    run_by others s t ts (Some next) is r more = more next (step_keeps others s next t r is)

    pub run_keeps : OthersStay → (s : m.State) (schedule : List ℕ) → IsSaidOfAll Said x s → IsSaidOfAll Said x (m.after_from s schedule)
    run_keeps others s [] r = r
    run_keeps others s (t ∷ ts) r = run_by others s t ts (source_step s t) refl r (λ next n. run_keeps others next ts n)

    map_found : (ts : List f.Thread) (k : ℕ) (y : m.Thread) → slice_get (map m.thread_start ts) k ≡ Some y →
        (t : f.Thread) × (slice_get ts k ≡ Some t) × (m.thread_start t ≡ y)
    map_found [] k y h = absurd (none-some y h)
    map_found (t ∷ ts) zero y h = (t, refl, same_Some (m.thread_start t) y h)
    map_found (t ∷ ts) (suc k) y h = map_found ts k y h

    -- a state in which the threads begin, whatever the variables are
    pub said_first : (s : m.State) → s.threads ≡ map m.thread_start x.threads →
        ((k : ℕ) (t : f.Thread) → slice_get x.threads k ≡ Some t → Said t (opened_all t.body) (replicate (length t.locals) (pos 0))) → IsSaidOfAll Said x s
    said_first s is begins = record {
      each = λ u thread text there its.
          let a = map_found x.threads u thread (ap (λ (ts : List m.Thread). slice_get ts u) (sym is) ∙ there) in
          let first : Said a.0 thread.left thread.locals = subst (λ (y : m.Thread). Said a.0 y.left y.locals) a.2 (begins u a.0 a.1) in
          subst (λ (z : f.Thread). Said z thread.left thread.locals) (same_Some a.0 text (sym a.1 ∙ its)) first;
    }
