-- Under the discipline a step of a thread does what it does from every state that looks the same, and keeps the discipline.
use Rattle.std.proofs.Common.{◌≡◌, ◌≢◌, refl, ℕ, List, [], ◌∷◌, ◌++◌, sym, ◌∙◌, ap, ap₂, subst}
use Rattle.std.proofs.Common.{Bool, true, false, Option, Some, None, slice_set, length, ⊎_elim}
use Rattle.std.specs.Prelude.{slice_get, not, if◌then◌else◌}
use Rattle.std.proofs.lemmas.Bool.{cases_eq}
use Rattle.std.proofs.lemmas.Option.{slice_get_within, get_or_from_slice_get}
use Rattle.ido_base.specs.Locks.{is_held_by}
use Rattle.ido_base.specs.declared.place.Place.{Place}
use Rattle.ido_ints.specs.TypedNumbers.{Typed}
use Rattle.ido_ints.specs.Operators.{is_zero}
use Rattle.ido_ints.specs.Reduction.{reduced}
use Rattle.c_tree.specs.Exprs as e
use Rattle.c_tree.specs.Values.{element_at, lock_number}
use Rattle.c_tree.specs.Flats as f
use Rattle.c_tree.specs.Source as m
use Rattle.c_tree.specs.Source.{source_step, opened_all}
use Rattle.c_tree.specs.LockNames.{Held, holds, none_held, lock_names, number_in}
use Rattle.c_tree.specs.LockDiscipline.{Use, expr_uses, target_uses, assign_uses, is_guarded, AreGuarded, IsDisciplined, IsFree}
use Rattle.c_tree.proofs.Public.{index_element, held_number_stays}
use Rattle.source_machine.specs.ElementLocks.{element_lock, found_number}
use Rattle.source_machine.specs.Mutexes.{lock_ahead, unlock_ahead, first_lock, first_unlock, lock_of, unlock_of, held_by}
use Rattle.source_machine.specs.Discipline.{KeepList, HaveOneLock, HoldsNames, ThreadKeeps, StateKeeps}
use Rattle.source_machine.specs.Discipline.{StartKeeps, StepKeeps, RunKeeps, ReachedKeeps, Guards, LooksSame}
use Rattle.source_machine.proofs.Emission.{set_same, set_other}
use Rattle.source_machine.proofs.StartStates.{map_found}
use Rattle.source_machine.proofs.StateRuns.{after_by, step_found, step_missing}
use Rattle.source_machine.proofs.GuardedValues.{held_found, held_there, held_apart, held_kept}
use Rattle.source_machine.proofs.HeldNames.{keep_list_length, name_held, names_taken, names_given, names_assigned, names_none, holders_moved, guards_each}
use Rattle.std.proofs.lemmas.List.{length-replicate, length-set}
use Rattle.source_machine.proofs.GuardedValues.{guarded_first, guarded_rest, guarded_left, guarded_right, value_same}
use Rattle.source_machine.proofs.DisciplinedContinuations.{keep_append, keep_opened_all, keeps_assign, keeps_free, keeps_if}
use Rattle.source_machine.proofs.DisciplinedContinuations.{keeps_arm, keeps_while, keeps_lock, keeps_unlock, keep_tested}
use Rattle.source_machine.proofs.StepChanges.{some_is, Passed, Change, with_passed, changed, ChangesMutex}
use Rattle.source_machine.proofs.StepChanges.{takes, gives, IsDisciplinedChange, Stepped, locks_found}

-- a state looks the same as itself
pub looks_same : (x : f.Flat) (s : m.State) (t : ℕ) → LooksSame x s s t
looks_same x s t = record { own = refl; held = λ k g. refl; ahead = λ k g. refl; guarded = λ v e g. refl }

-- a set speaks of all names
pub set_long : (x : f.Flat) (t : ℕ) (hs : List (Option ℕ)) (thread : m.Thread) (k : ThreadKeeps x t hs thread) → length k.set ≡ length (lock_names x k.text)
set_long x t hs thread k =
    keep_list_length x.variables (lock_names x k.text) thread.left k.set (none_held (length (lock_names x k.text))) k.left
    ∙ length-replicate (length (lock_names x k.text)) false

-- ---- What a step does

module _ (x : f.Flat) (s : m.State) (t : ℕ) (thread : m.Thread) (there : slice_get s.threads t ≡ Some thread) (before : ThreadKeeps x t s.holders thread) where
  -- the names of its locks
  abbrev names : List e.LockName
  names = lock_names x before.text

  -- those that it holds
  abbrev held : Held
  held = before.set

  long : length held ≡ length names
  long = set_long x t s.holders thread before

  -- nothing held
  abbrev none : Held
  none = none_held (length names)

  -- it keeps the discipline from the same set, with the same numbers of locks
  abbrev keeps_as : (to : m.Thread) → HoldsNames names held to.locals s.holders t → KeepList x.variables names held to.left none →
      ((p : m.Pending) → to.pending ≡ Some p → Guards x s t p.variable p.element) → ThreadKeeps x t s.holders to
  keeps_as to given left pending = record { text = before.text; its = before.its; set = held; held = given; left = left; pending = pending }

  -- a step that changes its thread alone
  abbrev alone : m.Thread → Change
  alone to = record { thread = to; store = None; passed = None }

  -- the same locals
  stays_so : HaveOneLock names held thread.locals thread.locals
  stays_so k y g h = refl

  still : (step : m.State → Option m.State) (to : m.Thread) → lock_ahead thread ≡ None →
      ((other : m.State) → LooksSame x s other t → step other ≡ Some (m.with_thread other t to)) →
      HoldsNames names held to.locals s.holders t → KeepList x.variables names held to.left none →
      ((p : m.Pending) → to.pending ≡ Some p → Guards x s t p.variable p.element) → HaveOneLock names held thread.locals to.locals →
      IsDisciplinedChange x s t thread names held step
  still step to free each given left pending locks = record {
    change = alone to;
    keeps = keeps_as to given left pending;
    owned = λ p h. cc;
    passes = λ p h. cc;
    ahead = λ k h. let no : None ≡ Some k = sym free ∙ h in cc;
    same = each;
    same_set = λ none. refl;
    same_locks = λ none. locks;
  }

  -- the element of a use
  abbrev element_of : Use → ℕ
  element_of u = index_element thread.locals s.variables u.index

  -- the element of a use that the set guards is the thread's
  guarded_at : (u : Use) → is_guarded x.variables names held u ≡ true → Guards x s t u.variable (element_of u)
  guarded_at u g = guards_each names held thread.locals s.holders t before.held long s.variables x.variables u g

  -- it is the same
  same_at : (other : m.State) → LooksSame x s other t → (u : Use) → is_guarded x.variables names held u ≡ true →
      found_number other.variables u.variable (element_of u) ≡ found_number s.variables u.variable (element_of u)
  same_at other l u g = l.guarded u.variable (element_of u) (guarded_at u g)

  -- the thread holds the lock of the element that a store is to
  abbrev HoldsFor : m.Pending → Type 0
  HoldsFor p = Guards x s t p.variable p.element

  -- ---- The pending store

  -- the pending store is to an element whose lock the thread holds
  by_store : (p : m.Pending) → thread.pending ≡ Some p → KeepList x.variables names held thread.left none → HoldsFor p →
      IsDisciplinedChange x s t thread names held (λ z. Some (m.with_thread (m.stored z p) t (record thread { pending = None })))
  by_store p is keep guarded = record {
    change = record { thread = record thread { pending = None }; store = Some p; passed = None };
    keeps = keeps_as (record thread { pending = None }) before.held keep (λ q h. cc);
    owned = λ q h. subst (λ (w : m.Pending). Guards x s t w.variable w.element) (some_is p q h) guarded;
    passes = λ q h. cc;
    ahead = λ k h.
        let no : lock_ahead thread ≡ None = ap (λ (o : Option m.Pending). let r : Option ℕ =
        elim o [ Some q ↦ None | None ↦ first_lock thread.locals thread.left ] in r) is in
        let off : None ≡ Some k = sym no ∙ h in
        cc;
    same = λ other l. refl;
    same_set = λ free. refl;
    same_locks = λ free. stays_so;
  }

  -- ---- Statements, where no store is pending

  module _ (idle : thread.pending ≡ None) where
    -- no store is pending
    at_rest : (p : m.Pending) → thread.pending ≡ Some p → HoldsFor p
    at_rest p e = cc

    -- what is evaluated reads what is guarded
    evaluated_same : (other : m.State) → LooksSame x s other t → (target : e.Lvalue) (placed : e.Placed) →
        AreGuarded x.variables names held (assign_uses target placed) → m.evaluated other thread target placed.expr ≡ m.evaluated s thread target placed.expr
    evaluated_same other l (e.ToLocal place local kind) placed g =
        ap (λ (y : Typed). record thread { locals = slice_set thread.locals local (reduced kind y.number) })
        (value_same x.variables names held thread.locals s.variables other.variables (same_at other l) placed.expr
        (guarded_left x.variables names held (expr_uses placed.expr) [] g))
    evaluated_same other l (e.ToVariable place variable kind) placed g =
        ap (λ (y : Typed). record thread { pending = Some (record { variable = variable; element = 0; number = reduced kind y.number }) })
        (value_same x.variables names held thread.locals s.variables other.variables (same_at other l) placed.expr
        (guarded_left x.variables names held (expr_uses placed.expr) (target_uses (e.ToVariable place variable kind)) g))
    evaluated_same other l (e.ToElement place variable kind index) placed g =
        let first = guarded_left x.variables names held (expr_uses placed.expr) (target_uses (e.ToElement place variable kind index)) g in
        let second = guarded_right x.variables names held (expr_uses placed.expr) (target_uses (e.ToElement place variable kind index)) g in
        ap₂ (λ (i y : Typed). record thread { pending = Some (record { variable = variable; element = element_at i; number = reduced kind y.number }) })
        (value_same x.variables names held thread.locals s.variables other.variables (same_at other l) index.expr
        (guarded_rest x.variables names held _ (expr_uses index.expr) second))
        (value_same x.variables names held thread.locals s.variables other.variables (same_at other l) placed.expr first)

    -- the store that is pending after an evaluation is guarded
    evaluated_guarded : (target : e.Lvalue) (placed : e.Placed) → AreGuarded x.variables names held (assign_uses target placed) → (p : m.Pending) →
        (m.evaluated s thread target placed.expr).pending ≡ Some p → HoldsFor p
    evaluated_guarded (e.ToLocal place local kind) placed g p h = at_rest p h
    evaluated_guarded (e.ToVariable place variable kind) placed g p h =
        let u : Use = record { variable = variable; place = place; index = None } in
        subst HoldsFor (some_is _ p h) (guarded_at u
        (guarded_first x.variables names held u []
        (guarded_right x.variables names held (expr_uses placed.expr) (target_uses (e.ToVariable place variable kind)) g)))
    evaluated_guarded (e.ToElement place variable kind index) placed g p h =
        let u : Use = record { variable = variable; place = place; index = Some index } in
        subst HoldsFor (some_is _ p h) (guarded_at u
        (guarded_first x.variables names held u (expr_uses index.expr) (guarded_right x.variables names held (expr_uses placed.expr)
        (target_uses (e.ToElement place variable kind index)) g)))

    -- no lock of the set is another one after an evaluation
    evaluated_locks : (target : e.Lvalue) (placed : e.Placed) → IsFree names held target →
        HaveOneLock names held thread.locals (m.evaluated s thread target placed.expr).locals
    evaluated_locks (e.ToLocal place local kind) placed free k y g h =
        held_number_stays names held thread.locals local (reduced kind (m.value_in s thread placed.expr).number) k y free g h
    evaluated_locks (e.ToVariable place variable kind) placed free k y g h = refl
    evaluated_locks (e.ToElement place variable kind index) placed free k y g h = refl

    -- a condition is true in both
    true_same : (other : m.State) → LooksSame x s other t → (condition : e.Placed) → AreGuarded x.variables names held (expr_uses condition.expr) →
        m.is_true other thread condition ≡ m.is_true s thread condition
    true_same other l condition g = ap (λ (y : Typed). not (is_zero y.number))
        (value_same x.variables names held thread.locals s.variables other.variables (same_at other l) condition.expr g)

    module _ (y : f.Statement) (rest : List f.Statement) (first : thread.left ≡ y ∷ rest) where
      -- what is locked next
      lock_is : lock_ahead thread ≡ lock_of thread.locals y
      lock_is =
          ap (λ (o : Option m.Pending). let r : Option ℕ = elim o [ Some q ↦ None | None ↦ first_lock thread.locals thread.left ] in r) idle
          ∙ ap (first_lock thread.locals) first

      -- what is unlocked next
      unlock_is : unlock_ahead thread ≡ unlock_of thread.locals y
      unlock_is =
          ap (λ (o : Option m.Pending). let r : Option ℕ = elim o [ Some q ↦ None | None ↦ first_unlock thread.locals thread.left ] in r) idle
          ∙ ap (first_unlock thread.locals) first

    module _ (rest : List f.Statement) where
      -- an assignment
      by_assign : (place : Place) (target : e.Lvalue) (placed : e.Placed) → thread.left ≡ f.Assign place target placed ∷ rest →
          KeepList x.variables names held (f.Assign place target placed ∷ rest) none →
          IsDisciplinedChange x s t thread names held (λ z. m.statement_step z t thread (f.Assign place target placed) rest)
      by_assign place target placed first keep =
          let k = keeps_assign x.variables names keep.1 in
          still (λ z. m.statement_step z t thread (f.Assign place target placed) rest) (record (m.evaluated s thread target placed.expr) { left = rest })
          (lock_is (f.Assign place target placed) rest first)
          (λ other l. ap (λ (mo : m.Thread). let o : Option m.State = Some (m.with_thread other t (record mo { left = rest })) in o)
          (evaluated_same other l target placed k.0))
          (names_assigned names held thread.locals s.holders t before.held s thread target placed.expr refl (keeps_free x.variables names keep.1))
          (subst (λ (z : Held). KeepList x.variables names z rest none) k.1 keep.2) (evaluated_guarded target placed k.0)
          (evaluated_locks target placed (keeps_free x.variables names keep.1))

      -- an `if`
      by_if : (place : Place) (condition : e.Placed) (body : f.Statements) (arms : f.Arms) (otherwise : f.Statements) →
          thread.left ≡ f.If place (f.arm_and condition body arms) otherwise ∷ rest →
          KeepList x.variables names held (f.If place (f.arm_and condition body arms) otherwise ∷ rest) none →
          IsDisciplinedChange x s t thread names held (λ z. m.statement_step z t thread (f.If place (f.arm_and condition body arms) otherwise) rest)
      by_if place condition body arms otherwise first keep =
          let k = keeps_if x.variables names keep.1 in
          let a = keeps_arm x.variables names k.0 in
          let onward : Bool → List f.Statement = λ b. m.tested b (opened_all body) (f.If place arms otherwise ∷ []) (opened_all otherwise) arms ++ rest in
          still (λ z. m.statement_step z t thread (f.If place (f.arm_and condition body arms) otherwise) rest)
          (record thread { left = onward (m.is_true s thread condition) })
          (lock_is (f.If place (f.arm_and condition body arms) otherwise) rest first)
          (λ other l. ap (λ (b : Bool). let o : Option m.State = Some (m.with_thread other t (record thread { left = onward b })) in o)
          (true_same other l condition a.0))
          before.held
          (keep_append x.variables names (m.tested (m.is_true s thread condition) (opened_all body) (f.If place arms otherwise ∷ [])
          (opened_all otherwise) arms) rest held keep.0 none
          (keep_tested x.variables names (m.is_true s thread condition) place body arms otherwise held keep.0 a.1 a.2 k.1) keep.2) at_rest stays_so

      -- what is left of a `while`
      kept_while : (b : Bool) (place : Place) (condition : e.Placed) (body : f.Statements) →
          KeepList x.variables names held (f.While place condition body ∷ rest) none →
          KeepList x.variables names held (if b then opened_all body ++ (f.While place condition body ∷ rest) else rest) none
      kept_while true place condition body keep =
          let k = keeps_while x.variables names keep.1 in
          keep_append x.variables names (opened_all body) (f.While place condition body ∷ rest) held held none (keep_opened_all x.variables names k.1) keep
      kept_while false place condition body keep =
          let k = keeps_while x.variables names keep.1 in
          subst (λ (z : Held). KeepList x.variables names z rest none) k.2 keep.2

      -- a step by a `while` keeps the discipline
      by_while : (place : Place) (condition : e.Placed) (body : f.Statements) → thread.left ≡ f.While place condition body ∷ rest →
          KeepList x.variables names held (f.While place condition body ∷ rest) none →
          IsDisciplinedChange x s t thread names held (λ z. m.statement_step z t thread (f.While place condition body) rest)
      by_while place condition body first keep =
          let k = keeps_while x.variables names keep.1 in
          let onward : Bool → List f.Statement = λ b. if b then opened_all body ++ (f.While place condition body ∷ rest) else rest in
          still (λ z. m.statement_step z t thread (f.While place condition body) rest) (record thread { left = onward (m.is_true s thread condition) })
          (lock_is (f.While place condition body) rest first)
          (λ other l. ap (λ (b : Bool). let o : Option m.State = Some (m.with_thread other t (record thread { left = onward b })) in o)
          (true_same other l condition k.0))
          before.held
          (kept_while (m.is_true s thread condition) place condition body keep) at_rest stays_so

      -- a free mutex is taken
      lock_free : (z : m.State) (place : Place) (name : e.LockName) → slice_get z.holders (lock_number thread.locals name) ≡ Some None →
          m.statement_step z t thread (f.Lock place name) rest
          ≡ Some (m.with_thread (m.with_holder z (lock_number thread.locals name) (Some t)) t (record thread { left = rest }))
      lock_free z place name e = rw (m.statement_step, e) refl

      -- no other is
      lock_refused : (place : Place) (name : e.LockName) (o : Option (Option ℕ)) → slice_get s.holders (lock_number thread.locals name) ≡ o → o ≢ Some None →
          m.statement_step s t thread (f.Lock place name) rest ≡ None
      lock_refused place name None e n = rw (m.statement_step, e) refl
      lock_refused place name (Some None) e n = absurd (n refl)
      lock_refused place name (Some (Some u)) e n = rw (m.statement_step, e) refl

      -- a mutex is taken
      by_lock : (place : Place) (name : e.LockName) (next : m.State) (o : Option (Option ℕ)) → slice_get s.holders (lock_number thread.locals name) ≡ o →
          thread.left ≡ f.Lock place name ∷ rest → KeepList x.variables names held (f.Lock place name ∷ rest) none →
          m.statement_step s t thread (f.Lock place name) rest ≡ Some next →
          IsDisciplinedChange x s t thread names held (λ z. m.statement_step z t thread (f.Lock place name) rest)
      by_lock place name next None e first keep h = let no = lock_refused place name None e (λ q. cc) in cc
      by_lock place name next (Some (Some u)) e first keep h = let no = lock_refused place name (Some (Some u)) e (λ q. cc) in cc
      by_lock place name next (Some None) e first keep h =
          let k = keeps_lock x.variables names keep.1 in
          let lock = lock_number thread.locals name in
          let is : lock_ahead thread ≡ Some lock = lock_is (f.Lock place name) rest first in
          let p : Passed = record { mutex = lock; holder = Some t } in
          record {
            change = record { thread = record thread { left = rest }; store = None; passed = Some p };
            keeps = record {
              text = before.text;
              its = before.its;
              set = slice_set held (number_in names name) true;
              held = names_taken names held thread.locals s.holders t before.held name long k.0 e;
              left = subst (λ (z : Held). KeepList x.variables names z rest none) k.1 keep.2;
              pending = λ q g. cc;
            };
            owned = λ q g. cc;
            passes = λ q g. subst (λ (w : Passed). ChangesMutex s t thread w) (some_is p q g) (takes is e refl);
            ahead = λ j g. let one : lock ≡ j = some_is lock j (sym is ∙ g) in ap
                (λ (i : ℕ). let w : Passed = record { mutex = i; holder = Some t } in Some w) one;
            same = λ other l. lock_free other place name (l.ahead lock (locks_found s t thread there ∙ is) ∙ e);
            same_set = λ never. cc;
            same_locks = λ never k y g h. cc;
          }

      -- a mutex is given back
      by_unlock : (place : Place) (name : e.LockName) → thread.left ≡ f.Unlock place name ∷ rest →
          KeepList x.variables names held (f.Unlock place name ∷ rest) none →
          IsDisciplinedChange x s t thread names held (λ z. m.statement_step z t thread (f.Unlock place name) rest)
      by_unlock place name first keep =
          let k = keeps_unlock x.variables names keep.1 in
          let lock = lock_number thread.locals name in
          let free : lock_ahead thread ≡ None = lock_is (f.Unlock place name) rest first in
          let p : Passed = record { mutex = lock; holder = None } in
          record {
            change = record { thread = record thread { left = rest }; store = None; passed = Some p };
            keeps = record {
              text = before.text;
              its = before.its;
              set = slice_set held (number_in names name) false;
              held = names_given names held thread.locals s.holders t before.held name long k.0;
              left = subst (λ (z : Held). KeepList x.variables names z rest none) k.1 keep.2;
              pending = λ q g. cc;
            };
            owned = λ q g. cc;
            passes = λ q g. subst (λ (w : Passed). ChangesMutex s t thread w) (some_is p q g)
                (gives (unlock_is (f.Unlock place name) rest first) (name_held names held thread.locals s.holders t before.held name long k.0) refl);
            ahead = λ j g. let no : None ≡ Some j = sym free ∙ g in cc;
            same = λ other l. refl;
            same_set = λ never. cc;
            same_locks = λ never k y g h. cc;
          }

      -- each statement
      by_statement : (y : f.Statement) (next : m.State) → thread.left ≡ y ∷ rest → KeepList x.variables names held (y ∷ rest) none →
          m.statement_step s t thread y rest ≡ Some next → IsDisciplinedChange x s t thread names held (λ z. m.statement_step z t thread y rest)
      by_statement (f.Assign place target placed) next first keep h = by_assign place target placed first keep
      by_statement (f.If place f.no_arm otherwise) next first keep h = cc
      by_statement (f.If place (f.arm_and condition body arms) otherwise) next first keep h = by_if place condition body arms otherwise first keep
      by_statement (f.While place condition body) next first keep h = by_while place condition body first keep
      by_statement (f.Do place body condition) next first keep h = cc
      by_statement (f.Lock place name) next first keep h = by_lock place name next (slice_get s.holders (lock_number thread.locals name)) refl first keep h
      by_statement (f.Unlock place name) next first keep h = by_unlock place name first keep

    -- nothing is locked at the end
    end_locks : thread.left ≡ [] → lock_ahead thread ≡ None
    end_locks over =
        ap (λ (o : Option m.Pending). let r : Option ℕ = elim o [ Some q ↦ None | None ↦ first_lock thread.locals thread.left ] in r) idle
        ∙ ap (first_lock thread.locals) over

    -- the end
    by_end : (next : m.State) (ended : Bool) → thread.left ≡ [] → KeepList x.variables names held thread.left none →
        (let o : Option m.State = if ended then None else Some (m.with_thread s t (record thread { ended = true })) in o ≡ Some next) →
        IsDisciplinedChange x s t thread names held (λ z. if ended then None else Some (m.with_thread z t (record thread { ended = true })))
    by_end next true over keep h = cc
    by_end next false over keep h = still (λ z. Some (m.with_thread z t (record thread { ended = true }))) (record thread { ended = true }) (end_locks over)
        (λ other l. refl) before.held keep at_rest stays_so

    -- what is left to do
    by_left : (next : m.State) (left : List f.Statement) → thread.left ≡ left → KeepList x.variables names held left none →
        KeepList x.variables names held thread.left none → m.left_step s t thread left ≡ Some next →
        IsDisciplinedChange x s t thread names held (λ z. m.left_step z t thread left)
    by_left next [] is keep keep_all h = by_end next thread.ended is keep_all h
    by_left next (y ∷ rest) is keep keep_all h = by_statement rest y next is keep h

  -- the step by what is pending
  abbrev pending_by : m.State → Option m.Pending → Option m.State
  pending_by z o = elim o [
    | Some p ↦ Some (m.with_thread (m.stored z p) t (record thread { pending = None }))
    | None ↦ m.left_step z t thread thread.left
  ]

  -- with a pending store, or without
  by_pending : (next : m.State) (o : Option m.Pending) → thread.pending ≡ o → KeepList x.variables names held thread.left none →
      ((p : m.Pending) → thread.pending ≡ Some p → HoldsFor p) → pending_by s o ≡ Some next → IsDisciplinedChange x s t thread names held (λ z. pending_by z o)
  by_pending next None e left pending h = by_left e next thread.left refl left left h
  by_pending next (Some p) e left pending h = by_store p e left (pending p e)

  -- a step of a thread that keeps the discipline
  by_thread : (next : m.State) → m.thread_step s t thread ≡ Some next → Stepped x s t next
  by_thread next h =
      let d : IsDisciplinedChange x s t thread names held (λ z. m.thread_step z t thread) =
      by_pending next thread.pending refl before.left before.pending h in
      record { thread = thread; there = there; before = before; does = d; is = some_is next (changed s t d.change) (sym h ∙ d.same s (looks_same x s t)) }

-- the thread of that number
by_found : (x : f.Flat) (s next : m.State) (t : ℕ) (o : Option m.Thread) → slice_get s.threads t ≡ o → StateKeeps x s → source_step s t ≡ Some next →
    Stepped x s t next
by_found x s next t None e keeps h = let no = step_missing s t e in cc
by_found x s next t (Some thread) e keeps h =
    by_thread x s t thread e (keeps.each t thread e) next (sym (step_found s t thread e) ∙ h)

-- a step in a state that keeps the discipline
pub stepped : (x : f.Flat) (s next : m.State) (t : ℕ) → StateKeeps x s → source_step s t ≡ Some next → Stepped x s t next
stepped x s next t keeps h = by_found x s next t (slice_get s.threads t) refl keeps h

-- ---- The other threads

-- a step leaves what another thread holds
apart_by : (s : m.State) (t u : ℕ) (thread : m.Thread) (o : Option Passed) → ((p : Passed) → o ≡ Some p → ChangesMutex s t thread p) → u ≢ t →
    held_by u (with_passed o s.holders) ≡ held_by u s.holders
apart_by s t u thread None passes n = refl
apart_by s t u thread (Some p) passes n = elim (passes p refl) [
  | takes a free to ↦ held_kept u s.holders p.mutex None p.holder free (ap (is_held_by u) to ∙ held_apart u t n)
  | gives a own to ↦ held_kept u s.holders p.mutex (Some t) p.holder own (ap (is_held_by u) to ∙ sym (held_apart u t n))
]

pub apart : (x : f.Flat) (s next : m.State) (t u : ℕ) → Stepped x s t next → u ≢ t → held_by u next.holders ≡ held_by u s.holders
apart x s next t u p n = ap (λ (z : m.State). held_by u z.holders) p.is ∙ apart_by s t u p.thread p.does.change.passed p.does.passes n

-- ---- States that keep the discipline

-- a thread that holds what it held
pub keeps_still : (x : f.Flat) (u : ℕ) (hs to : List (Option ℕ)) (thread : m.Thread) → held_by u to ≡ held_by u hs → ThreadKeeps x u hs thread →
    ThreadKeeps x u to thread
keeps_still x u hs to thread same k = record {
  text = k.text;
  its = k.its;
  set = k.set;
  held = holders_moved (lock_names x k.text) k.set thread.locals hs u k.held to same;
  left = k.left;
  pending = λ p e.
      let lock = element_lock x.variables p.variable p.element in
      held_found u to lock (ap (λ (h : Held). holds h lock) same ∙ held_there u hs lock (k.pending p e));
}

passed_length : (o : Option Passed) (hs : List (Option ℕ)) → length (with_passed o hs) ≡ length hs
passed_length None hs = refl
passed_length (Some p) hs = length-set hs p.mutex p.holder

pub step_keeps : StepKeeps
step_keeps x s next t keeps h =
    let p = stepped x s next t keeps h in
    let c = p.does.change in
    let hs : List (Option ℕ) = with_passed c.passed s.holders in
    let made : StateKeeps x (changed s t c) = record {
      locks = passed_length c.passed s.holders ∙ keeps.locks;
      each = λ u thread g. ⊎_elim
          (λ is.
          let found : slice_get (slice_set s.threads t c.thread) t ≡ Some c.thread =
          set_same s.threads t c.thread (slice_get_within s.threads t p.thread p.there) in
          let there : slice_get (slice_set s.threads t c.thread) t ≡ Some thread = ap (slice_get (slice_set s.threads t c.thread)) (sym is) ∙ g in
          let same : c.thread ≡ thread = some_is c.thread thread (sym found ∙ there) in
          subst (λ (w : ℕ). ThreadKeeps x w hs thread) (sym is) (subst (λ (th : m.Thread). ThreadKeeps x t hs th) same p.does.keeps))
          (λ n.
          let there : slice_get s.threads u ≡ Some thread = sym (set_other s.threads t u c.thread n) ∙ g in
          keeps_still x u s.holders hs thread (apart_by s t u p.thread c.passed p.does.passes n) (keeps.each u thread there))
          (cases_eq u t);
    } in
    subst (λ (z : m.State). StateKeeps x z) (sym p.is) made

pub start_keeps : StartKeeps
start_keeps x keep = record {
  locks = length-replicate (length x.mutexes) None;
  each = λ u thread g.
      let a = map_found m.thread_start x.threads u thread g in
      let k : IsDisciplined x a.0 = subst (IsDisciplined x) (get_or_from_slice_get x.threads u a.0 a.0 a.1)
      (keep u a.0 (slice_get_within x.threads u a.0 a.1)) in
      let names = lock_names x a.0 in
      let made : ThreadKeeps x u (m.start x).holders (m.thread_start a.0) = record {
        text = a.0;
        its = a.1;
        set = none_held (length names);
        held = names_none names (m.thread_start a.0).locals (length x.mutexes) u;
        left = keep_opened_all x.variables names k;
        pending = λ p e. cc;
      } in
      subst (λ (th : m.Thread). ThreadKeeps x u (m.start x).holders th) a.2 made;
}

run_by : (x : f.Flat) (s : m.State) (t : ℕ) (ts : List ℕ) (o : Option m.State) → source_step s t ≡ o → StateKeeps x s →
    ((next : m.State) → StateKeeps x next → StateKeeps x (m.after_from next ts)) → StateKeeps x (after_by ts s o)
run_by x s t ts None e keeps more = keeps
run_by x s t ts (Some next) e keeps more = more next (step_keeps x s next t keeps e)

pub run_keeps : RunKeeps
run_keeps x s [] keeps = keeps
run_keeps x s (t ∷ ts) keeps = run_by x s t ts (source_step s t) refl keeps (λ next h. run_keeps x next ts h)

pub reached_keeps : ReachedKeeps
reached_keeps x s keep r =
    let first = start_keeps x keep in
    subst (λ (z : m.State). StateKeeps x z) (sym r.is)
    (run_keeps x (record (m.start x) { variables = r.variables }) r.schedule (record { locks = first.locks; each = first.each }))
