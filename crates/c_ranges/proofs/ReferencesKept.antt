-- Every run of a well formed flat form keeps what `IsStateOf` says: references, too, are null or refer to their arrays, and none that is followed is null.
use Rattle.std.proofs.Common.{◌≡◌, ◌≢◌, refl, sym, ◌∙◌, ap, subst, ℕ, zero, suc, List, [], ◌∷◌, ◌++◌, length, Bool, true, false, Option, Some, None}
use Rattle.std.proofs.Common.{slice_index_or, slice_set, append-nil}
use Rattle.std.specs.Prelude.{ℤ, pos, slice_get, if◌then◌else◌, replicate}
use Rattle.std.specs.List.{AllByRecursion, AllZip}
use Rattle.std.proofs.lemmas.Bool.{true≢false}
use Rattle.std.proofs.lemmas.Option.{none-some, same_Some}
use Rattle.ido_base.specs.declared.place.Place.{Place}
use Rattle.ido_ints.specs.declared.kinds.Kind.{Kind}
use Rattle.ido_ints.specs.Reduction.{reduced}
use Rattle.c_tree.specs.Exprs as e
use Rattle.c_tree.specs.Programs.{Variable}
use Rattle.c_tree.specs.Flats as f
use Rattle.c_tree.specs.NullReferences.{is_among, placed_nulls, expr_nulls, flat_known_in, flat_statement_assigned}
use Rattle.c_tree.specs.NullReferences.{flat_statements_nulls, flat_arms_nulls, target_assigned}
use Rattle.c_tree.specs.References.{IsFlatStatementReferring, AreFlatStatementsReferring, AreFlatArmsReferring, IsFlatThreadReferring, IsVariableReferring}
use Rattle.c_tree.specs.References.{IsLocalReferring, HasNulls, IsGiven, variable_refers}
use Rattle.c_tree.specs.Source as m
use Rattle.c_tree.specs.Source.{source_step, opened, opened_all, tested}
use Rattle.c_tree.specs.Temporaries.{assign_exprs, key_exprs}
use Rattle.c_tree.specs.Values.{element_at, lock_number, value}
use Rattle.c_tree.specs.WellFormed.{IsDeclared, IsExpr, Fits, IsFlatStatement, IsFlatLockName, IsWellFormed}
use Rattle.c_tree.proofs.Public.{left_empty, right_empty}
use Rattle.c_ranges.specs.Laws.{AreFollowed, IsTargetFollowed}
use Rattle.c_ranges.specs.RunInvariants.{IsStatementLeft, IsThreadOf, IsStateOf, RefersSo, IsKnownLeft, AreKnownLeft, IsReferringThread}
use Rattle.c_ranges.specs.RunInvariants.{IsReferringState, AreElementsReferring}
use Rattle.c_ranges.proofs.HeldNumberLists.{zip_at, zip_set, zip_found, zip_map, all_append}
use Rattle.c_ranges.proofs.KnownReferences.{known_opened_all, known_tested, known_while, known_assigned}
use Rattle.c_ranges.proofs.ReferenceValues.{zeros_refer, initial_refer, refers_set, local_refers_right, refers_found}
use Rattle.c_ranges.proofs.ReferenceValues.{given_refers, followed, key_followed}
use Rattle.c_ranges.proofs.RunsKeepInvariants.{AreKindsKept, AreStepFollowed, IsFirstFollowed, kinds_begin, kinds_stay, step_is}

-- ---- What is left refers right

module _ (x : f.Flat) (rs : List (Option ℕ)) where
  abbrev Right : f.Statement → Type 0
  Right y = IsFlatStatementReferring x rs y

  mutual
    right_opened : (y : f.Statement) → Right y → AllByRecursion Right (opened y)
    right_opened (f.Assign place target value) h = (h, tt)
    right_opened (f.If place arms otherwise) h = (h, tt)
    right_opened (f.While place condition body) h = (h, tt)
    right_opened (f.Do place body condition) h =
        all_append Right (opened_all body) (f.While place condition body ∷ []) (right_opened_all body h.0) ((h.1, h.0), tt)
    right_opened (f.Lock place name) h = (h, tt)
    right_opened (f.Unlock place name) h = (h, tt)

    pub right_opened_all : (ys : f.Statements) → AreFlatStatementsReferring x rs ys → AllByRecursion Right (opened_all ys)
    right_opened_all f.no_statement h = tt
    right_opened_all (f.statement_and y rest) h = all_append Right (opened y) (opened_all rest) (right_opened y h.0) (right_opened_all rest h.1)

  right_tested : (b : Bool) (place : Place) (body : f.Statements) (arms : f.Arms) (otherwise : f.Statements) → AreFlatStatementsReferring x rs body →
      AreFlatArmsReferring x rs arms → AreFlatStatementsReferring x rs otherwise →
      AllByRecursion Right (tested b (opened_all body) (f.If place arms otherwise ∷ []) (opened_all otherwise) arms)
  right_tested true place body arms otherwise h k l = right_opened_all body h
  right_tested false place body f.no_arm otherwise h k l = right_opened_all otherwise l
  right_tested false place body (f.arm_and condition next rest) otherwise h k l = ((k, l), tt)

  right_while : (b : Bool) (place : Place) (condition : e.Placed) (body : f.Statements) (rest : List f.Statement) →
      AllByRecursion Right (f.While place condition body ∷ rest) →
      AllByRecursion Right (if b then opened_all body ++ (f.While place condition body ∷ rest) else rest)
  right_while true place condition body rest h = all_append Right (opened_all body) (f.While place condition body ∷ rest) (right_opened_all body h.0.1) h
  right_while false place condition body rest h = h.1

-- ---- The start

thread_refers : (x : f.Flat) (t : f.Thread) → IsFlatThreadReferring x t → IsReferringThread x t (m.thread_start t)
thread_refers x t h =
    let ls = replicate (length t.locals) (pos 0) in record {
      left = right_opened_all x t.refers t.body h.body;
      known =
          subst (AreKnownLeft ls []) (append-nil (opened_all t.body))
          (known_opened_all ls [] [] t.body [] h.never_null (λ local none. absurd (true≢false (sym none))) tt);
      locals = zeros_refer x.variables t.refers t.locals h.locals;
      pending = λ q e. absurd (none-some q e);
    }

pub references_begin : (x : f.Flat) → IsWellFormed x → IsReferringState x (m.start x)
references_begin x w = record {
  variables =
      zip_map (AreElementsReferring x.variables) (λ (v : Variable). v.initial) (IsVariableReferring x.variables)
      (λ v h. initial_refer x.variables v v.refers h.1) x.variables w.referring.variables;
  threads = zip_map (IsReferringThread x) m.thread_start (IsFlatThreadReferring x) (thread_refers x) x.threads w.referring.threads;
}

pub begins_so : (x : f.Flat) → IsWellFormed x → IsStateOf x (m.start x)
begins_so x w =
    let kinds = kinds_begin x w in
    record { variables = kinds.variables; holders = kinds.holders; threads = kinds.threads; references = references_begin x w }

-- ---- What a step follows

module _ (x : f.Flat) (ks : List Kind) (rs : List (Option ℕ)) (ls : List ℤ) (own : AllZip (RefersSo x.variables) rs ls) where
  abbrev vs : List Variable
  vs = x.variables

  key_seen : (mutex : ℕ) (key : Option e.Placed) → IsFlatLockName x.mutexes ks (record { mutex = mutex; key = key }) →
      AllByRecursion (λ (z : e.Placed). AreFollowed ls z.expr) (key_exprs (record { mutex = mutex; key = key }))
  key_seen mutex None h = tt
  key_seen mutex (Some key) h = (key_followed ls key.expr h.follows, tt)

  -- none of the known locals is null
  some_known : (assigned : List ℕ) (y : f.Statement) (k : IsKnownLeft ls assigned y) (l : ℕ) → is_among k.known l ≡ true → slice_index_or ls l (pos 0) ≢ pos 0
  some_known assigned y k l i = (k.sure l i).some

  pub step_followed : (assigned : List ℕ) (y : f.Statement) → IsFlatStatement x ks y → IsFlatStatementReferring x rs y → IsKnownLeft ls assigned y →
      AreStepFollowed ls y
  step_followed assigned (f.Assign place (e.ToLocal name local kind) z) w h k =
      (followed vs rs ls own k.known (some_known assigned _ k) z.expr h.1 k.never_null, tt)
  step_followed assigned (f.Assign place (e.ToVariable name variable kind) z) w h k =
      (followed vs rs ls own k.known (some_known assigned _ k) z.expr h.1 k.never_null, tt)
  step_followed assigned (f.Assign place (e.ToElement name variable kind index) z) w h k =
      let some = some_known assigned (f.Assign place (e.ToElement name variable kind index) z) k in (
        followed vs rs ls own k.known some index.expr h.0 (left_empty (expr_nulls k.known index.expr) (expr_nulls k.known z.expr) k.never_null),
        (followed vs rs ls own k.known some z.expr h.1 (right_empty (expr_nulls k.known index.expr) (expr_nulls k.known z.expr) k.never_null), tt),
      )
  step_followed assigned (f.If place f.no_arm otherwise) w h k = tt
  step_followed assigned (f.If place (f.arm_and condition body arms) otherwise) w h k =
      let first = placed_nulls k.known condition in
      let inside = flat_statements_nulls (flat_known_in k.known true condition body) body in
      let others = flat_arms_nulls k.known false arms in
      let last = flat_statements_nulls k.known otherwise in (
        followed vs rs ls own k.known (some_known assigned _ k) condition.expr h.0.0
            (left_empty first inside (left_empty (first ++ inside) others (left_empty ((first ++ inside) ++ others) last k.never_null))),
        tt,
      )
  step_followed assigned (f.While place condition body) w h k = (
    followed vs rs ls own k.known (some_known assigned _ k) condition.expr h.0
        (left_empty (placed_nulls k.known condition) (flat_statements_nulls k.known body) k.never_null),
    tt,
  )
  step_followed assigned (f.Do place body condition) w h k = tt
  step_followed assigned (f.Lock place name) w h k = key_seen name.mutex name.key w
  step_followed assigned (f.Unlock place name) w h k = key_seen name.mutex name.key w

  first_followed : (left : List f.Statement) → AllByRecursion (IsStatementLeft x ks) left → AllByRecursion (IsFlatStatementReferring x rs) left →
      AreKnownLeft ls [] left → IsFirstFollowed ls left
  first_followed [] w h k = tt
  first_followed (y ∷ rest) w h k = step_followed (flat_statement_assigned y) y w.0.1 h.0 k.0

-- ---- Threads of a state

module _ (x : f.Flat) (s : m.State) (is : IsStateOf x s) where
  -- a thread of the state, with the form's
  pub record ThreadIn (t : ℕ) (thread : m.Thread) : Type 0 where
    pub it : f.Thread
    pub found : slice_get x.threads t ≡ Some it
    pub formed : IsThreadOf x it.locals thread
    pub refers : IsReferringThread x it thread

  pub thread_in : (t : ℕ) (thread : m.Thread) → slice_get s.threads t ≡ Some thread → ThreadIn t thread
  thread_in t thread there =
      let one = zip_found (λ (u : f.Thread) (z : m.Thread). IsThreadOf x u.locals z) x.threads s.threads t thread is.threads there in
      let two = zip_found (IsReferringThread x) x.threads s.threads t thread is.references.threads there in
      let same : two.it ≡ one.it = same_Some two.it one.it (sym two.found ∙ one.found) in
      record { it = one.it; found = one.found; formed = one.related; refers = subst (λ (u : f.Thread). IsReferringThread x u thread) same two.related }

  -- what its step follows refers to elements
  pub thread_followed : (t : ℕ) (thread : m.Thread) → slice_get s.threads t ≡ Some thread → IsFirstFollowed thread.locals thread.left
  thread_followed t thread there =
      let own = thread_in t thread there in
      first_followed x own.it.locals own.it.refers thread.locals own.refers.locals thread.left own.formed.left own.refers.left own.refers.known

-- ---- A step

all_found : {A : Type 0} (P : A → Type 0) (xs : List A) (k : ℕ) (y : A) → AllByRecursion P xs → slice_get xs k ≡ Some y → P y
all_found P [] k y h g = absurd (none-some y g)
all_found P (z ∷ xs) zero y h g = subst P (same_Some z y g) h.0
all_found P (z ∷ xs) (suc k) y h g = all_found P xs k y h.1 g

module _ (x : f.Flat) (w : IsWellFormed x) where
  refers_is : (variable : ℕ) (it : Variable) → slice_get x.variables variable ≡ Some it → variable_refers x.variables variable ≡ it.refers
  refers_is variable it found = ap (λ (o : Option Variable). elim o as (λ _. Option ℕ) [
    | Some v ↦ v.refers
    | None ↦ None
  ]) found

  nulls_kind : (v : Variable) (refers : Option ℕ) → HasNulls refers v → IsLocalReferring v.kind refers
  nulls_kind v None h = tt
  nulls_kind v (Some array) h = h.0

  -- the kind of a variable is that of what it refers to
  declared_right : (variable : ℕ) (kind : Kind) (array : Bool) → IsDeclared x.variables variable kind array →
      IsLocalReferring kind (variable_refers x.variables variable)
  declared_right variable kind array d =
      let form = all_found (IsVariableReferring x.variables) x.variables variable d.it w.referring.variables d.found in
      subst (λ (k : Kind). IsLocalReferring k (variable_refers x.variables variable)) d.kind
      (subst (IsLocalReferring d.it.kind) (sym (refers_is variable d.it d.found)) (nulls_kind d.it d.it.refers form.1))

  module _ (s : m.State) (t : ℕ) (is : IsStateOf x s) (ft : f.Thread) (there : slice_get x.threads t ≡ Some ft) (thread : m.Thread)
      (own : IsThreadOf x ft.locals thread) (refers : IsReferringThread x ft thread) where
    form : IsFlatThreadReferring x ft
    form = all_found (IsFlatThreadReferring x) x.threads t ft w.referring.threads there

    -- the thread becomes another, and the variables stay
    becomes : (holders : List (Option ℕ)) (to : m.Thread) → IsReferringThread x ft to →
        IsReferringState x (m.with_thread (record s { holders = holders }) t to)
    becomes holders to h = record {
      variables = is.references.variables;
      threads = zip_set (IsReferringThread x) x.threads s.threads t ft to is.references.threads there h;
    }

    by : (made next : m.State) → IsReferringState x made → Some made ≡ Some next → IsReferringState x next
    by made next h e = subst (IsReferringState x) (same_Some made next e) h

    by_store : (q : m.Pending) (next : m.State) → thread.pending ≡ Some q →
        Some (m.with_thread (m.stored s q) t (record thread { pending = None })) ≡ Some next → IsReferringState x next
    by_store q next e h =
        let to : m.Thread = record thread { pending = None } in
        let store = own.pending q e in
        let before = zip_at (AreElementsReferring x.variables) x.variables s.variables q.variable store.it [] is.references.variables store.found in
        let number = subst (λ (o : Option ℕ). RefersSo x.variables o q.number) (refers_is q.variable store.it store.found) (refers.pending q e) in
        let after = refers_set x.variables store.it.refers (slice_index_or s.variables q.variable []) q.element q.number before number in
        let kept : IsReferringThread x ft to =
        record { left = refers.left; known = refers.known; locals = refers.locals; pending = λ z k. absurd (none-some z k) } in
        by (m.with_thread (m.stored s q) t to) next
        (record {
          variables = zip_set (AreElementsReferring x.variables) x.variables s.variables q.variable store.it _ is.references.variables store.found after;
          threads = zip_set (IsReferringThread x) x.threads s.threads t ft to is.references.threads there kept;
        })
        h

    -- where no store is pending
    module _ (idle : thread.pending ≡ None) where
      no_store : (q : m.Pending) → thread.pending ≡ Some q → RefersSo x.variables (variable_refers x.variables q.variable) q.number
      no_store q e = absurd (none-some q (sym idle ∙ e))

      leaves : (left : List f.Statement) → AllByRecursion (IsFlatStatementReferring x ft.refers) left → AreKnownLeft thread.locals [] left →
          IsReferringThread x ft (record thread { left = left })
      leaves left h k = record { left = h; known = k; locals = refers.locals; pending = no_store }

      pending_is : (q z : m.Pending) → RefersSo x.variables (variable_refers x.variables q.variable) q.number → Some q ≡ Some z →
          RefersSo x.variables (variable_refers x.variables z.variable) z.number
      pending_is q z h e = subst (λ (p : m.Pending). RefersSo x.variables (variable_refers x.variables p.variable) p.number) (same_Some q z e) h

      -- the number that a target gets which refers so
      given : (o : Option ℕ) (kind : Kind) (z : e.Expr) → IsLocalReferring kind o → IsExpr x.variables ft.locals z → Fits x.variables z →
          AreFollowed thread.locals z → IsGiven x.variables ft.refers o z → RefersSo x.variables o (reduced kind (m.value_in s thread z).number)
      given o kind z right formed fits seen h =
          given_refers x.mutexes x.variables ft.locals ft.refers thread.locals s.variables w.shared.variables own.locals is.variables refers.locals
          is.references.variables o kind z right formed fits seen h

      -- what an assignment evaluates
      assigned : (place : Place) (target : e.Lvalue) (z : e.Placed) (rest : List f.Statement) → IsFlatStatement x ft.locals (f.Assign place target z) →
          IsFlatStatementReferring x ft.refers (f.Assign place target z) → AreStepFollowed thread.locals (f.Assign place target z) →
          AllByRecursion (IsFlatStatementReferring x ft.refers) rest → AreKnownLeft thread.locals (target_assigned target) rest →
          IsReferringThread x ft (record (m.evaluated s thread target z.expr) { left = rest })
      assigned place (e.ToLocal name local kind) z rest v h g k more =
          let number = reduced kind (m.value_in s thread z.expr).number in
          let it = local_refers_right ft.locals ft.refers local kind form.locals v.0.0 in
          let same = refers_found ft.refers local it.refers it.found in
          let got = given it.refers kind z.expr it.right v.1.0 v.1.1 g.0 (subst (λ (o : Option ℕ). IsGiven x.variables ft.refers o z.expr) same h.2) in
          record {
            left = k;
            known = known_assigned thread.locals (e.ToLocal name local kind) number rest more (slice_set thread.locals local number) refl;
            locals = zip_set (RefersSo x.variables) ft.refers thread.locals local it.refers number refers.locals it.found got;
            pending = no_store;
          }
      assigned place (e.ToVariable name variable kind) z rest v h g k more =
          let number = reduced kind (m.value_in s thread z.expr).number in
          let got = given (variable_refers x.variables variable) kind z.expr (declared_right variable kind false v.0.0) v.1.0 v.1.1 g.0 h.2 in
          record {
            left = k;
            known = more;
            locals = refers.locals;
            pending = λ q e. pending_is (record { variable = variable; element = 0; number = number }) q got e;
          }
      assigned place (e.ToElement name variable kind index) z rest v h g k more =
          let number = reduced kind (m.value_in s thread z.expr).number in
          let got = given (variable_refers x.variables variable) kind z.expr (declared_right variable kind true v.0.0.0) v.1.0 v.1.1 g.1.0 h.2 in
          record {
            left = k;
            known = more;
            locals = refers.locals;
            pending = λ q e.
                pending_is (record { variable = variable; element = element_at (m.value_in s thread index.expr); number = number }) q got e;
          }

      module _ (next : m.State) (rest : List f.Statement) where
        by_lock : (place : Place) (name : e.LockName) (o : Option (Option ℕ)) → slice_get s.holders (lock_number thread.locals name) ≡ o →
            AllByRecursion (IsFlatStatementReferring x ft.refers) rest → AreKnownLeft thread.locals [] rest →
            m.statement_step s t thread (f.Lock place name) rest ≡ Some next → IsReferringState x next
        by_lock place name None e h k g = let no : m.statement_step s t thread (f.Lock place name) rest ≡ None = rw (m.statement_step, e) refl in cc
        by_lock place name (Some (Some u)) e h k g = let no : m.statement_step s t thread (f.Lock place name) rest ≡ None = rw (m.statement_step, e) refl in cc
        by_lock place name (Some None) e h k g =
            let to : m.Thread = record thread { left = rest } in
            let lock = lock_number thread.locals name in
            let yes : m.statement_step s t thread (f.Lock place name) rest ≡ Some (m.with_thread (m.with_holder s lock (Some t)) t to) =
            rw (m.statement_step, e) refl in
            by (m.with_thread (m.with_holder s lock (Some t)) t to) next (becomes (slice_set s.holders lock (Some t)) to (leaves rest h k)) (sym yes ∙ g)

        by_statement : (y : f.Statement) → AllByRecursion (IsStatementLeft x ft.locals) (y ∷ rest) →
            AllByRecursion (IsFlatStatementReferring x ft.refers) (y ∷ rest) → AreKnownLeft thread.locals [] (y ∷ rest) →
            m.statement_step s t thread y rest ≡ Some next → IsReferringState x next
        by_statement (f.Assign place target z) v h k g =
            let seen = step_followed x ft.locals ft.refers thread.locals refers.locals (target_assigned target) (f.Assign place target z) v.0.1 h.0 k.0 in
            let to : m.Thread = record (m.evaluated s thread target z.expr) { left = rest } in
            by (m.with_thread s t to) next (becomes s.holders to (assigned place target z rest v.0.1 h.0 seen h.1 k.1)) g
        by_statement (f.If place f.no_arm otherwise) v h k g = absurd (none-some next g)
        by_statement (f.If place (f.arm_and condition body arms) otherwise) v h k g =
            let c = m.is_true s thread condition in
            let left = m.tested c (opened_all body) (f.If place arms otherwise ∷ []) (opened_all otherwise) arms in
            let right = all_append (IsFlatStatementReferring x ft.refers) left rest
            (right_tested x ft.refers c place body arms otherwise h.0.0.1 h.0.0.2 h.0.1) h.1 in
            let known = known_tested thread.locals k.0.known s.variables c place condition body arms otherwise rest refl k.0.never_null k.0.sure k.1 in
            by (m.with_thread s t (record thread { left = left ++ rest })) next
            (becomes s.holders (record thread { left = left ++ rest }) (leaves (left ++ rest) right known)) g
        by_statement (f.While place condition body) v h k g =
            let c = m.is_true s thread condition in
            let left = if c then opened_all body ++ (f.While place condition body ∷ rest) else rest in
            let known = known_while thread.locals k.0.known c place condition body rest k.0.never_null k.0.sure k.1 in
            by (m.with_thread s t (record thread { left = left })) next
            (becomes s.holders (record thread { left = left }) (leaves left (right_while x ft.refers c place condition body rest h) known)) g
        by_statement (f.Do place body condition) v h k g = absurd v.0.0
        by_statement (f.Lock place name) v h k g = by_lock place name (slice_get s.holders (lock_number thread.locals name)) refl h.1 k.1 g
        by_statement (f.Unlock place name) v h k g =
            let lock = lock_number thread.locals name in
            by (m.with_thread (m.with_holder s lock None) t (record thread { left = rest })) next
            (becomes (slice_set s.holders lock None) (record thread { left = rest }) (leaves rest h.1 k.1)) g

      by_end : (next : m.State) (ended : Bool) →
          (let o : Option m.State = if ended then None else Some (m.with_thread s t (record thread { ended = true })) in o ≡ Some next) →
          IsReferringState x next
      by_end next true h = absurd (none-some next h)
      by_end next false h =
          by (m.with_thread s t (record thread { ended = true })) next (becomes s.holders (record thread { ended = true })
          (record { left = refers.left; known = refers.known; locals = refers.locals; pending = no_store })) h

      by_left : (next : m.State) (left : List f.Statement) → AllByRecursion (IsStatementLeft x ft.locals) left →
          AllByRecursion (IsFlatStatementReferring x ft.refers) left → AreKnownLeft thread.locals [] left → m.left_step s t thread left ≡ Some next →
          IsReferringState x next
      by_left next [] v h k g = by_end next thread.ended g
      by_left next (y ∷ rest) v h k g = by_statement next rest y v h k g

    abbrev pending_by : Option m.Pending → Option m.State
    pending_by o = elim o [
      | Some q ↦ Some (m.with_thread (m.stored s q) t (record thread { pending = None }))
      | None ↦ m.left_step s t thread thread.left
    ]

    by_pending : (next : m.State) (o : Option m.Pending) → thread.pending ≡ o → pending_by o ≡ Some next → IsReferringState x next
    by_pending next None e h = by_left e next thread.left own.left refers.left refers.known h
    by_pending next (Some q) e h = by_store q next e h

    by_thread : (next : m.State) → m.thread_step s t thread ≡ Some next → IsReferringState x next
    by_thread next h = by_pending next thread.pending refl h

  -- ---- Any step

  references_by : (s next : m.State) (t : ℕ) (o : Option m.Thread) → slice_get s.threads t ≡ o → IsStateOf x s → source_step s t ≡ Some next →
      IsReferringState x next
  references_by s next t None e is h = absurd (none-some next (sym (step_is s t None e) ∙ h))
  references_by s next t (Some thread) e is h =
      let own = thread_in x s is t thread e in
      by_thread s t is own.it own.found thread own.formed own.refers next (sym (step_is s t (Some thread) e) ∙ h)

pub stays_so : (x : f.Flat) (s next : m.State) (t : ℕ) → IsWellFormed x → IsStateOf x s → source_step s t ≡ Some next → IsStateOf x next
stays_so x s next t w is h =
    let before : AreKindsKept x s = record { variables = is.variables; holders = is.holders; threads = is.threads } in
    let kinds = kinds_stay x s next t before (λ thread there. thread_followed x s is t thread there) h in
    record {
      variables = kinds.variables;
      holders = kinds.holders;
      threads = kinds.threads;
      references = references_by x w s next t (slice_get s.threads t) refl is h;
    }

-- ---- Runs

abbrev after_by : List ℕ → m.State → Option m.State → m.State
after_by ts s o = elim o [
  | None ↦ s
  | Some next ↦ m.after_from next ts
]

run_by : (x : f.Flat) (s : m.State) (t : ℕ) (ts : List ℕ) (o : Option m.State) → IsWellFormed x → source_step s t ≡ o → IsStateOf x s →
    ((next : m.State) → IsStateOf x next → IsStateOf x (m.after_from next ts)) → IsStateOf x (after_by ts s o)
run_by x s t ts None w e is more = is
run_by x s t ts (Some next) w e is more = more next (stays_so x s next t w is e)

pub after_so : (x : f.Flat) (schedule : List ℕ) (s : m.State) → IsWellFormed x → IsStateOf x s → IsStateOf x (m.after_from s schedule)
after_so x [] s w is = is
after_so x (t ∷ ts) s w is = run_by x s t ts (source_step s t) w refl is (λ next h. after_so x ts next w h)

pub is_so : (x : f.Flat) (schedule : List ℕ) → IsWellFormed x → IsStateOf x (m.after_from (m.start x) schedule)
is_so x schedule w = after_so x schedule (m.start x) w (begins_so x w)

-- ---- References hold

-- an assignment's
pub assign_followed : (ls : List ℤ) (target : e.Lvalue) (z : e.Placed) → AllByRecursion (λ (y : e.Placed). AreFollowed ls y.expr) (assign_exprs target z) →
    IsTargetFollowed ls target × AreFollowed ls z.expr
assign_followed ls (e.ToLocal place local kind) z h = (tt, h.0)
assign_followed ls (e.ToVariable place variable kind) z h = (tt, h.0)
assign_followed ls (e.ToElement place variable kind index) z h = (h.0, h.1.0)

pub references_hold : (x : f.Flat) (s : m.State) (t : ℕ) (it : m.Thread) (y : f.Statement) (rest : List f.Statement) → IsStateOf x s →
    slice_get s.threads t ≡ Some it → it.left ≡ y ∷ rest → AreStepFollowed it.locals y
references_hold x s t it y rest is found first = subst (IsFirstFollowed it.locals) first (thread_followed x s is t it found)
