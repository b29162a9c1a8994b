-- Every run of a well formed flat form keeps numbers of their kinds, where each step follows references to elements alone.
use Rattle.std.proofs.Common.{◌≡◌, refl, sym, ◌∙◌, ap, subst, ℕ, ◌<◌, List, [], ◌∷◌, ◌++◌, length}
use Rattle.std.proofs.Common.{Bool, true, false, Option, Some, None, slice_index_or, slice_set}
use Rattle.std.specs.Prelude.{ℤ, slice_get, if◌then◌else◌}
use Rattle.std.specs.List.{AllByRecursion, AllZip}
use Rattle.std.proofs.lemmas.List.{length-set, length-replicate}
use Rattle.std.proofs.lemmas.Option.{none-some, same_Some}
use Rattle.ido_base.specs.declared.place.Place.{Place}
use Rattle.ido_ints.specs.declared.kinds.Kind.{Kind}
use Rattle.ido_ints.specs.Kinds.{Holds}
use Rattle.ido_ints.specs.Reduction.{reduced}
use Rattle.ido_ints.proofs.Public.{Holds-reduced}
use Rattle.c_tree.specs.Exprs as e
use Rattle.c_tree.specs.Programs.{Mutex, Variable}
use Rattle.c_tree.specs.Flats as f
use Rattle.c_tree.specs.Ranges.{elements_of}
use Rattle.c_tree.specs.Source as m
use Rattle.c_tree.specs.Source.{source_step, opened_all}
use Rattle.c_tree.specs.Values.{element_at, lock_number}
use Rattle.c_tree.specs.WellFormed.{IsVariable, IsFlatTarget, AreFlatStatements, IsWellFormed}
use Rattle.c_ranges.specs.Laws.{AreFollowed}
use Rattle.c_ranges.specs.RunInvariants.{AreNumbersOf, IsStoreInRange, IsStatementLeft, IsThreadOf, step_exprs}
use Rattle.c_ranges.proofs.ValuesInRanges.{fits_element}
use Rattle.c_ranges.proofs.HeldNumberLists.{zip_at, zip_set, zip_found, zip_map, all_append, held_set, zeros_held}
use Rattle.c_ranges.proofs.HeldNumberLists.{all_held, one_element, elements_is, left_opened_all, left_tested, left_while}

-- what is said of a state, but for its references
pub record AreKindsKept (x : f.Flat) (s : m.State) : Type 0 where
  pub variables : AllZip AreNumbersOf x.variables s.variables
  pub holders : length s.holders ≡ length x.mutexes
  pub threads : AllZip (λ (t : f.Thread) (thread : m.Thread). IsThreadOf x t.locals thread) x.threads s.threads

-- what the first statement's step follows refers to elements
abbrev pub AreStepFollowed : (ls : List ℤ) → f.Statement → Type 0
AreStepFollowed ls y = AllByRecursion (λ (z : e.Placed). AreFollowed ls z.expr) (step_exprs y)

abbrev pub IsFirstFollowed : (ls : List ℤ) → List f.Statement → Type 0
IsFirstFollowed ls [] = Unit {0}
IsFirstFollowed ls (y ∷ rest) = AreStepFollowed ls y

-- ---- The start

numbers_start : (ms : List Mutex) (v : Variable) → IsVariable ms v → AreNumbersOf v v.initial
numbers_start ms v h = record { count = h.count; held = h.held }

thread_start : (x : f.Flat) (t : f.Thread) → AreFlatStatements x t.locals t.body → IsThreadOf x t.locals (m.thread_start t)
thread_start x t h = record { left = left_opened_all x t.locals t.body h; locals = zeros_held t.locals; pending = λ q e. absurd (none-some q e) }

pub kinds_begin : (x : f.Flat) → IsWellFormed x → AreKindsKept x (m.start x)
kinds_begin x w = record {
  variables = zip_map AreNumbersOf (λ (v : Variable). v.initial) (IsVariable x.mutexes)
      (numbers_start x.mutexes) x.variables w.shared.variables;
  holders = length-replicate (length x.mutexes) None;
  threads = zip_map (λ (t : f.Thread) (thread : m.Thread). IsThreadOf x t.locals thread) m.thread_start
      (λ (t : f.Thread). AreFlatStatements x t.locals t.body) (thread_start x) x.threads w.threads;
}

-- ---- A step

-- the stepped thread, of the form's thread
module _ (x : f.Flat) (s : m.State) (t : ℕ) (is : AreKindsKept x s) (ft : f.Thread) (there : slice_get x.threads t ≡ Some ft) (thread : m.Thread)
    (own : IsThreadOf x ft.locals thread) where
  -- the thread becomes another, and the variables and holders stay
  becomes : (to : m.Thread) → IsThreadOf x ft.locals to → AreKindsKept x (m.with_thread s t to)
  becomes to h = record {
    variables = is.variables;
    holders = is.holders;
    threads = zip_set
        (λ (u : f.Thread) (it : m.Thread). IsThreadOf x u.locals it) x.threads s.threads t ft to is.threads there h;
  }

  -- the mutex gets another holder, too
  with_holder : (mutex : ℕ) (holder : Option ℕ) (to : m.Thread) → IsThreadOf x ft.locals to → AreKindsKept x (m.with_thread (m.with_holder s mutex holder) t to)
  with_holder mutex holder to h = record {
    variables = is.variables;
    holders = length-set s.holders mutex holder ∙ is.holders;
    threads = zip_set (λ (u : f.Thread) (it : m.Thread). IsThreadOf x u.locals it) x.threads s.threads t ft to is.threads there h;
  }

  abbrev To : m.State → Option m.State → Type 0
  To next o = o ≡ Some next

  by : (made next : m.State) → AreKindsKept x made → Some made ≡ Some next → AreKindsKept x next
  by made next h e = subst (AreKindsKept x) (same_Some made next e) h

  -- a store of a number into an element
  stored_numbers : (v : Variable) (numbers : List ℤ) (element : ℕ) (number : ℤ) → AreNumbersOf v numbers → Holds v.kind number →
      AreNumbersOf v (slice_set numbers element number)
  stored_numbers v numbers element number h g =
      record { count = length-set numbers element number ∙ h.count; held = held_set v.kind numbers element number h.held g }

  by_store : (q : m.Pending) (next : m.State) → thread.pending ≡ Some q →
      Some (m.with_thread (m.stored s q) t (record thread { pending = None })) ≡ Some next → AreKindsKept x next
  by_store q next e h =
      let to : m.Thread = record thread { pending = None } in
      let store = own.pending q e in
      let before = zip_at AreNumbersOf x.variables s.variables q.variable store.it [] is.variables store.found in
      let after = stored_numbers store.it (slice_index_or s.variables q.variable []) q.element q.number before store.held in
      let kept : IsThreadOf x ft.locals to = record { left = own.left; locals = own.locals; pending = λ z k. absurd (none-some z k) } in
      by (m.with_thread (m.stored s q) t to) next
      (record {
        variables = zip_set AreNumbersOf x.variables s.variables q.variable store.it _ is.variables store.found after;
        holders = is.holders;
        threads = zip_set (λ (u : f.Thread) (it : m.Thread). IsThreadOf x u.locals it) x.threads s.threads t ft to is.threads there kept;
      })
      h

  -- where no store is pending
  module _ (idle : thread.pending ≡ None) where
    no_store : (q : m.Pending) → thread.pending ≡ Some q → IsStoreInRange x.variables q
    no_store q e = absurd (none-some q (sym idle ∙ e))

    -- other statements are left to do
    leaves : (left : List f.Statement) → AllByRecursion (IsStatementLeft x ft.locals) left → IsThreadOf x ft.locals (record thread { left = left })
    leaves left h = record { left = h; locals = own.locals; pending = no_store }

    pending_is : (q z : m.Pending) → IsStoreInRange x.variables q → Some q ≡ Some z → IsStoreInRange x.variables z
    pending_is q z h e = subst (IsStoreInRange x.variables) (same_Some q z e) h

    -- what an assignment evaluates
    assigned : (place : Place) (target : e.Lvalue) (y : e.Placed) (rest : List f.Statement) → IsFlatTarget x ft.locals target →
        AllByRecursion (IsStatementLeft x ft.locals) rest → AreStepFollowed thread.locals (f.Assign place target y) →
        IsThreadOf x ft.locals (record (m.evaluated s thread target y.expr) { left = rest })
    assigned place (e.ToLocal name local kind) y rest h k g = record {
      left = k;
      locals = zip_set Holds ft.locals thread.locals local kind _ own.locals h.0 (Holds-reduced kind (m.value_in s thread y.expr).number);
      pending = no_store;
    }
    assigned place (e.ToVariable name variable kind) y rest h k g =
        let number = (m.value_in s thread y.expr).number in record {
          left = k;
          locals = own.locals;
          pending = λ z e.
              pending_is (record { variable = variable; element = 0; number = reduced kind number }) z (record {
                it = h.0.it;
                found = h.0.found;
                element = one_element h.0.it.length h.0.array;
                held = subst (λ (j : Kind). Holds h.0.it.kind (reduced j number)) h.0.kind (Holds-reduced h.0.it.kind number);
              }) e;
        }
    assigned place (e.ToElement name variable kind index) y rest h k g =
        let number = (m.value_in s thread y.expr).number in
        let d = h.0.0 in
        let named = fits_element (elements_of x.variables variable) index.expr h.1.0 thread.locals s.variables
        (all_held x.variables ft.locals thread.locals s.variables own.locals is.variables index.expr h.0.1 g.0) in record {
          left = k;
          locals = own.locals;
          pending = λ z e.
              pending_is (record { variable = variable; element = element_at (m.value_in s thread index.expr); number = reduced kind number }) z (record {
                it = d.it;
                found = d.found;
                element = subst (λ (n : ℕ). element_at (m.value_in s thread index.expr) < n)
                    (elements_is x.variables variable d.it d.found d.array) named.below;
                held = subst (λ (j : Kind). Holds d.it.kind (reduced j number)) d.kind (Holds-reduced d.it.kind number);
              }) e;
        }

    module _ (next : m.State) (rest : List f.Statement) where
      -- a mutex is taken, if it is free
      by_lock : (place : Place) (name : e.LockName) (o : Option (Option ℕ)) → slice_get s.holders (lock_number thread.locals name) ≡ o →
          AllByRecursion (IsStatementLeft x ft.locals) rest →
          m.statement_step s t thread (f.Lock place name) rest ≡ Some next → AreKindsKept x next
      by_lock place name None e k h = let no : m.statement_step s t thread (f.Lock place name) rest ≡ None = rw (m.statement_step, e) refl in cc
      by_lock place name (Some (Some u)) e k h = let no : m.statement_step s t thread (f.Lock place name) rest ≡ None = rw (m.statement_step, e) refl in cc
      by_lock place name (Some None) e k h =
          let to : m.Thread = record thread { left = rest } in
          let yes : m.statement_step s t thread (f.Lock place name) rest ≡ Some
          (m.with_thread (m.with_holder s (lock_number thread.locals name) (Some t)) t to) = rw
          (m.statement_step, e) refl in
          by (m.with_thread (m.with_holder s (lock_number thread.locals name) (Some t)) t to) next
          (with_holder (lock_number thread.locals name) (Some t) to (leaves rest k)) (sym yes ∙ h)

      by_statement : (y : f.Statement) → AllByRecursion (IsStatementLeft x ft.locals) (y ∷ rest) → AreStepFollowed thread.locals y →
          m.statement_step s t thread y rest ≡ Some next → AreKindsKept x next
      by_statement (f.Assign place target y) k g h =
          by (m.with_thread s t (record (m.evaluated s thread target y.expr) { left = rest })) next
          (becomes (record (m.evaluated s thread target y.expr) { left = rest }) (assigned place target y rest k.0.1.0 k.1 g)) h
      by_statement (f.If place f.no_arm otherwise) k g h = absurd (none-some next h)
      by_statement (f.If place (f.arm_and condition body arms) otherwise) k g h =
          let b = m.is_true s thread condition in
          let left = m.tested b (opened_all body) (f.If place arms otherwise ∷ []) (opened_all otherwise) arms ++ rest in
          let kept = all_append (IsStatementLeft x ft.locals) (m.tested b (opened_all body) (f.If place arms otherwise ∷ []) (opened_all otherwise) arms) rest
          (left_tested x ft.locals b place body arms otherwise k.0.1.1.1 k.0.1.1.2 k.0.1.2) k.1 in
          by (m.with_thread s t (record thread { left = left })) next (becomes (record thread { left = left }) (leaves left kept)) h
      by_statement (f.While place condition body) k g h =
          let b = m.is_true s thread condition in
          let left = if b then opened_all body ++ (f.While place condition body ∷ rest) else rest in
          by (m.with_thread s t (record thread { left = left })) next
          (becomes (record thread { left = left }) (leaves left (left_while x ft.locals b place condition body rest k))) h
      by_statement (f.Do place body condition) k g h = absurd k.0.0
      by_statement (f.Lock place name) k g h = by_lock place name (slice_get s.holders (lock_number thread.locals name)) refl k.1 h
      by_statement (f.Unlock place name) k g h =
          by (m.with_thread (m.with_holder s (lock_number thread.locals name) None) t (record thread { left = rest })) next
          (with_holder (lock_number thread.locals name) None (record thread { left = rest }) (leaves rest k.1)) h

    by_end : (next : m.State) (ended : Bool) →
        (let o : Option m.State = if ended then None else Some (m.with_thread s t (record thread { ended = true })) in o ≡ Some next) → AreKindsKept x next
    by_end next true h = absurd (none-some next h)
    by_end next false h =
        by (m.with_thread s t (record thread { ended = true })) next
        (becomes (record thread { ended = true }) (record { left = own.left; locals = own.locals; pending = no_store })) h

    by_left : (next : m.State) (left : List f.Statement) → AllByRecursion (IsStatementLeft x ft.locals) left → IsFirstFollowed thread.locals left →
        m.left_step s t thread left ≡ Some next → AreKindsKept x next
    by_left next [] k g h = by_end next thread.ended h
    by_left next (y ∷ rest) k g h = by_statement next rest y k g h

  abbrev pending_by : Option m.Pending → Option m.State
  pending_by o = elim o [
    | Some q ↦ Some (m.with_thread (m.stored s q) t (record thread { pending = None }))
    | None ↦ m.left_step s t thread thread.left
  ]

  by_pending : (next : m.State) (o : Option m.Pending) → IsFirstFollowed thread.locals thread.left → thread.pending ≡ o → pending_by o ≡ Some next →
      AreKindsKept x next
  by_pending next None g e h = by_left e next thread.left own.left g h
  by_pending next (Some q) g e h = by_store q next e h

  by_thread : (next : m.State) → IsFirstFollowed thread.locals thread.left → m.thread_step s t thread ≡ Some next → AreKindsKept x next
  by_thread next g h = by_pending next thread.pending g refl h

-- ---- Any step

abbrev step_by : m.State → ℕ → Option m.Thread → Option m.State
step_by s t o = elim o [
  | Some thread ↦ m.thread_step s t thread
  | None ↦ None
]

pub step_is : (s : m.State) (t : ℕ) (o : Option m.Thread) → slice_get s.threads t ≡ o → source_step s t ≡ step_by s t o
unfolding source_step
step_is s t o h = ap (step_by s t) h

stays_by : (x : f.Flat) (s next : m.State) (t : ℕ) (o : Option m.Thread) → slice_get s.threads t ≡ o → AreKindsKept x s →
    ((thread : m.Thread) → slice_get s.threads t ≡ Some thread → IsFirstFollowed thread.locals thread.left) → source_step s t ≡ Some next →
    AreKindsKept x next
stays_by x s next t None e is g h = absurd (none-some next (sym (step_is s t None e) ∙ h))
stays_by x s next t (Some thread) e is g h =
    let pair = zip_found (λ (u : f.Thread) (it : m.Thread). IsThreadOf x u.locals it) x.threads s.threads t thread is.threads e in
    by_thread x s t is pair.it pair.found thread pair.related next (g thread e) (sym (step_is s t (Some thread) e) ∙ h)

-- where what a thread's step follows refers to elements
pub kinds_stay : (x : f.Flat) (s next : m.State) (t : ℕ) → AreKindsKept x s →
    ((thread : m.Thread) → slice_get s.threads t ≡ Some thread → IsFirstFollowed thread.locals thread.left) → source_step s t ≡ Some next →
    AreKindsKept x next
kinds_stay x s next t is g h = stays_by x s next t (slice_get s.threads t) refl is g h
