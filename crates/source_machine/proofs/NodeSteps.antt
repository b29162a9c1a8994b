-- The steps of a thread, by the node at which it stands.
use Rattle.std.proofs.Common.{◌≡◌, ◌≢◌, refl, ℕ, List, [], ◌∷◌, ◌++◌, sym, ◌∙◌, ap, subst, Bool, true, false}
use Rattle.std.proofs.Common.{Option, Some, None, slice_set, get_or, length, ◌<◌, nat_lt, arith, Bor, Vec, Global}
use Rattle.std.specs.Prelude.{slice_get, ℤ, not, if◌then◌else◌}
use Rattle.std.specs.Option.{option_map, option_copied, is_some, IfSome}
use Rattle.std.proofs.lemmas.Option.{slice_get-get_or}
use Rattle.std.proofs.lemmas.Bool.Decides.{nat_tests}
use Rattle.ido_base.specs.declared.place.Place.{Place}
use Rattle.ido_ints.specs.Operators.{is_zero}
use Rattle.c_tree.specs.Exprs.{LockName, placed_of, lvalue_of, lock_name_of, expr_of}
use Rattle.c_tree.specs.declared.expr.Placed as code
use Rattle.c_tree.specs.declared.expr.LockName as code_lock
use Rattle.c_tree.specs.declared.expr.Lvalue as code_target
use Rattle.c_tree.specs.Flats as f
use Rattle.c_tree.specs.Source as m
use Rattle.c_tree.specs.Values.{value, lock_number}
use Rattle.source_machine.specs.declared.answers.Stepped.{Stepped}
use Rattle.source_machine.specs.declared.answers.Stepped.TheVariants.{Did, Waits, Ended}
use Rattle.source_machine.specs.declared.code.Node.{Node}
use Rattle.source_machine.specs.declared.code.Node.TheVariants as node
use Rattle.source_machine.specs.declared.thread.ThreadState.{ThreadState}
use Rattle.source_machine.specs.links.Codes.{At, else_part, chooses, repeats, DoesNode, IsCode}
use Rattle.source_machine.specs.Answers.{answer_of}
use Rattle.source_machine.specs.Assignments.{pending_of}
use Rattle.source_machine.specs.links.Threads.{model_of, HasStatementsLeft, state_in, reached, Hand, hand, IsMade}
use Rattle.source_machine.specs.Mutexes.{first_lock, lock_ahead}

module _ (vs : List (List ℤ)) (hs : List (Option ℕ)) (threads : List m.Thread) (n : ℕ) (t : ThreadState) (left : List f.Statement) where
  abbrev before : m.State
  before = state_in vs hs threads

  abbrev model : m.Thread
  model = model_of t left

  abbrev now : Hand
  now = hand t vs hs

  pub made_did : (t' : ThreadState) (vs' : List (List ℤ)) (hs' : List (Option ℕ)) (left' : List f.Statement) → HasStatementsLeft t' left' →
      m.thread_step before n model ≡ Some (state_in vs' hs' (slice_set threads n (model_of t' left'))) →
      IsMade n now (hand t' vs' hs') Did threads left
  made_did t' vs' hs' left' l e = record {
    left_after = left';
    code = l;
    state = ap (λ o. reached o (m.with_thread before n model)) e;
    answered = sym (ap (answer_of model) e);
  }

  pub made_none : (answer : Stepped) → HasStatementsLeft t left → m.thread_step before n model ≡ None → answer ≡ answer_of model None →
      IsMade n now now answer threads left
  made_none answer l e a = record {
    left_after = left;
    code = l;
    state = ap (λ o. reached o (m.with_thread before n model)) e;
    answered = a ∙ sym (ap (answer_of model) e);
  }

  module _ (idle : t.pending ≡ None) (l : HasStatementsLeft t left) where
    abbrev by_pending : Option m.Pending → Option m.State
    by_pending o = elim o [
      | Some p ↦ Some (m.with_thread (m.stored before p) n (record model { pending = None }))
      | None ↦ m.left_step before n model left
    ]

    step_is : m.thread_step before n model ≡ m.left_step before n model left
    step_is = ap by_pending (ap (option_map pending_of) idle)

    abbrev ahead_by : Option m.Pending → Option ℕ
    ahead_by o = elim o [
      | Some p ↦ None
      | None ↦ first_lock t.locals.items left
    ]

    prefix : (x : f.Statement) (rest : List f.Statement) → left ≡ x ∷ rest → m.thread_step before n model ≡ m.statement_step before n model x rest
    prefix x rest is = step_is ∙ ap (m.left_step before n model) is

    ahead : (o : Option ℕ) → first_lock t.locals.items left ≡ o → lock_ahead model ≡ o
    ahead o e = ap ahead_by (ap (option_map pending_of) idle) ∙ e

    does : (x : Node) → slice_get t.nodes.items t.at ≡ Some x → DoesNode l.lefts x left
    does x g = l.nodes.each t.at x left g l.here

    moved : (next : ℕ) (rest : List f.Statement) → At l.lefts next rest → HasStatementsLeft (record t { at = next }) rest
    moved next rest a = record { lefts = l.lefts; nodes = l.nodes; here = a }

    pub end_over : slice_get t.nodes.items t.at ≡ Some node.End → t.ended ≡ true → IsMade n now now Ended threads left
    end_over g e =
        let nothing = does node.End g in
        let step : m.thread_step before n model ≡ None = step_is ∙ (ap (m.left_step before n model) nothing
        ∙ ap (λ (b : Bool). let o : Option m.State = if b then None else Some (m.with_thread before n (record model { ended = true })) in o) e) in
        made_none Ended l step (ap (λ (o : Option ℕ). let a : Stepped = elim o [ Some mutex ↦ Waits mutex | None ↦ Ended ] in a)
        (sym (ahead None (ap (first_lock t.locals.items) nothing))))

    pub end_made : slice_get t.nodes.items t.at ≡ Some node.End → t.ended ≡ false → IsMade n now (hand (record t { ended = true }) vs hs) Did threads left
    end_made g e =
        let nothing = does node.End g in
        let step : m.thread_step before n model ≡ Some (m.with_thread before n (record model { ended = true })) = step_is
        ∙ (ap (m.left_step before n model) nothing ∙ ap (λ (b : Bool). let o : Option m.State =
        if b then None else Some (m.with_thread before n (record model { ended = true })) in o) e) in
        made_did (record t { ended = true }) vs hs left (record { lefts = l.lefts; nodes = l.nodes; here = l.here }) step

    pub never_made : slice_get t.nodes.items t.at ≡ Some node.Never → IsMade n now now Ended threads left
    never_made g =
        let d = does node.Never g in
        made_none Ended l (prefix (f.If d.place f.no_arm d.otherwise) d.rest d.is)
        (ap (λ (o : Option ℕ). let a : Stepped = elim o [ Some mutex ↦ Waits mutex | None ↦ Ended ] in a)
        (sym (ahead None (ap (first_lock t.locals.items) d.is))))

    lock_free : (place : Place) (name : LockName) (rest : List f.Statement) → slice_get hs (lock_number t.locals.items name) ≡ Some None →
        m.statement_step before n model (f.Lock place name) rest
        ≡ Some (m.with_thread (m.with_holder before (lock_number t.locals.items name) (Some n)) n (record model { left = rest }))
    lock_free place name rest e = rw (m.statement_step, e) refl

    pub unlock_made : (lock : Bor code_lock.LockName) (next : ℕ) → slice_get t.nodes.items t.at ≡ Some (node.Unlock lock next) →
        IsMade n now (hand (record t { at = next }) vs (slice_set hs (lock_number t.locals.items (lock_name_of lock.now)) None)) Did threads left
    unlock_made lock next g =
        let d = does (node.Unlock lock next) g in
        made_did (record t { at = next }) vs (slice_set hs (lock_number t.locals.items (lock_name_of lock.now)) None) d.rest (moved next d.rest d.follows)
        (prefix (f.Unlock d.place (lock_name_of lock.now)) d.rest d.is)

    pub lock_made : (lock : Bor code_lock.LockName) (next : ℕ) → slice_get t.nodes.items t.at ≡ Some (node.Lock lock next) →
        slice_get hs (lock_number t.locals.items (lock_name_of lock.now)) ≡ Some None →
        IsMade n now (hand (record t { at = next }) vs (slice_set hs (lock_number t.locals.items (lock_name_of lock.now)) (Some n))) Did threads left
    lock_made lock next g free =
        let d = does (node.Lock lock next) g in
        made_did (record t { at = next }) vs (slice_set hs (lock_number t.locals.items (lock_name_of lock.now)) (Some n)) d.rest (moved next d.rest d.follows)
        (prefix (f.Lock d.place (lock_name_of lock.now)) d.rest d.is ∙ lock_free d.place (lock_name_of lock.now) d.rest free)

    lock_none : (place : Place) (name : LockName) (rest : List f.Statement) (o : Option (Option ℕ)) →
        slice_get hs (lock_number t.locals.items name) ≡ o → o ≢ Some None →
        m.statement_step before n model (f.Lock place name) rest ≡ None
    lock_none place name rest None e h = rw (m.statement_step, e) refl
    lock_none place name rest (Some None) e h = absurd (h refl)
    lock_none place name rest (Some (Some u)) e h = rw (m.statement_step, e) refl

    pub lock_waits : (lock : Bor code_lock.LockName) (next : ℕ) → slice_get t.nodes.items t.at ≡ Some (node.Lock lock next) →
        slice_get hs (lock_number t.locals.items (lock_name_of lock.now)) ≢ Some None →
        IsMade n now now (Waits (lock_number t.locals.items (lock_name_of lock.now))) threads left
    lock_waits lock next g held =
        let d = does (node.Lock lock next) g in
        made_none (Waits (lock_number t.locals.items (lock_name_of lock.now))) l
        (prefix (f.Lock d.place (lock_name_of lock.now)) d.rest d.is
        ∙ lock_none d.place (lock_name_of lock.now) d.rest (slice_get hs (lock_number t.locals.items (lock_name_of lock.now))) refl held)
        (ap (λ (o : Option ℕ). let a : Stepped = elim o [ Some x ↦ Waits x | None ↦ Ended ] in a)
        (sym (ahead (Some (lock_number t.locals.items (lock_name_of lock.now))) (ap (first_lock t.locals.items) d.is))))

    -- ---- Tests and assignments

    abbrev by_arms : (arms : f.Arms) (more otherwise : List f.Statement) → List f.Statement
    by_arms arms more otherwise = elim arms [
      | f.no_arm ↦ otherwise
      | f.arm_and condition body rest ↦ more
    ]

    arms_after : (place : Place) (arms : f.Arms) (otherwise : f.Statements) →
        by_arms arms (f.If place arms otherwise ∷ []) (m.opened_all otherwise) ≡ else_part place arms otherwise
    arms_after place f.no_arm otherwise = refl
    arms_after place (f.arm_and condition body rest) otherwise = refl

    abbrev left_as : List f.Statement → Option m.State
    left_as l = Some (m.with_thread before n (record model { left = l }))

    pub fails_made : (condition : Bor code.Placed) (holds fails : ℕ) → slice_get t.nodes.items t.at ≡ Some (node.Test condition holds fails) →
        is_zero (value t.locals.items vs (expr_of condition.now.expr)).number ≡ true →
        IsMade n now (hand (record t { at = fails }) vs hs) Did threads left
    fails_made condition holds fails g zero = elim (does (node.Test condition holds fails) g) [
      | chooses place body arms otherwise rest h k is ↦
          made_did (record t { at = fails }) vs hs (else_part place arms otherwise ++ rest) (moved fails _ k)
          (prefix (f.If place (f.arm_and (placed_of condition.now) body arms) otherwise) rest is ∙
          (ap (λ (b : Bool). left_as ((if not b then m.opened_all body else by_arms arms (f.If place arms otherwise ∷ [])
          (m.opened_all otherwise)) ++ rest)) zero ∙
          ap (λ (l : List f.Statement). left_as (l ++ rest)) (arms_after place arms otherwise)))
      | repeats place body rest h k is ↦
          made_did (record t { at = fails }) vs hs rest (moved fails _ k)
          (prefix (f.While place (placed_of condition.now) body) rest is ∙
          ap (λ (b : Bool). left_as (if not b then m.opened_all body ++ (f.While place (placed_of condition.now) body ∷ rest) else rest)) zero)
    ]

    pub holds_made : (condition : Bor code.Placed) (holds fails : ℕ) → slice_get t.nodes.items t.at ≡ Some (node.Test condition holds fails) →
        is_zero (value t.locals.items vs (expr_of condition.now.expr)).number ≡ false →
        IsMade n now (hand (record t { at = holds }) vs hs) Did threads left
    holds_made condition holds fails g zero = elim (does (node.Test condition holds fails) g) [
      | chooses place body arms otherwise rest h k is ↦
          made_did (record t { at = holds }) vs hs (m.opened_all body ++ rest) (moved holds _ h)
          (prefix (f.If place (f.arm_and (placed_of condition.now) body arms) otherwise) rest is ∙
          ap (λ (b : Bool). left_as ((if not b then m.opened_all body else by_arms arms (f.If place arms otherwise ∷ [])
          (m.opened_all otherwise)) ++ rest)) zero)
      | repeats place body rest h k is ↦
          made_did (record t { at = holds }) vs hs (m.opened_all body ++ (f.While place (placed_of condition.now) body ∷ rest)) (moved holds _ h)
          (prefix (f.While place (placed_of condition.now) body) rest is ∙
          ap (λ (b : Bool). left_as (if not b then m.opened_all body ++ (f.While place (placed_of condition.now) body ∷ rest) else rest)) zero)
    ]

    pub assign_made : (target : Bor code_target.Lvalue) (x : Bor code.Placed) (next : ℕ) (u : ThreadState) →
        slice_get t.nodes.items t.at ≡ Some (node.Assign target x next) → u.nodes ≡ t.nodes →
        model_of u left ≡ m.evaluated before model (lvalue_of target.now) (expr_of x.now.expr) →
        IsMade n now (hand (record u { at = next }) vs hs) Did threads left
    assign_made target x next u g same is =
        let d = does (node.Assign target x next) g in
        let P : Vec Node Global → Type 0 = λ ns. IsCode ns.items l.lefts in
        made_did (record u { at = next }) vs hs d.rest (record { lefts = l.lefts; nodes = subst P (sym same) l.nodes; here = d.follows })
        (prefix (f.Assign d.place (lvalue_of target.now) (placed_of x.now)) d.rest d.is
        ∙ ap (λ (mo : m.Thread). let o : Option m.State = Some (m.with_thread before n (record mo { left = d.rest })) in o) (sym is))

-- the node that the code reads
pub node_read : (xs shown : List Node) (i : ℕ) (o : Option (Bor Node)) (x : Node) → Some x ≡ option_copied o → is_some o ≡ nat_lt i (length shown) →
    IfSome o (λ y. y.now ≡ get_or shown i y.now) → shown ≡ xs → slice_get xs i ≡ Some x
node_read xs shown i None x h within read same = cc
node_read xs shown i (Some y) x h within read same =
    let low : i < length shown = grind (arith, nat_tests, within) in
    let is : x ≡ y.now = cc in
    ap (λ (ns : List Node). slice_get ns i) (sym same) ∙ (slice_get-get_or shown i y.now low ∙ ap Some (sym read ∙ sym is))
