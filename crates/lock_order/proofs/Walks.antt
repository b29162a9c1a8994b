-- The walk at each form of a statement, from what its parts give.
use Rattle.std.proofs.Common.{◌≡◌, ◌<◌, ◌≤◌, ℕ, zero, suc, ◌+◌, Bool, true, false, Option, Some, None, List, [], ◌∷◌, ◌++◌, length, drop, take, map, cond}
use Rattle.std.proofs.Common.{get_or, Vec, Global, IfSome, Result, MatchResult, refl, sym, ap, ap₂, ◌∙◌, subst, arith}
use Rattle.std.specs.Prelude.{◌&&◌, ◌||◌}
use Rattle.std.specs.List.{list_any}
use Rattle.std.proofs.lemmas.List.{drop_more, drop_all, take_more}
use Rattle.ido_base.specs.declared.place.Place.{Place}
use Rattle.c_tree.specs.declared.expr.Placed.{Placed}
use Rattle.c_tree.specs.declared.flat.Statement as s
use Rattle.c_tree.specs.declared.flat.Arm as arm
use Rattle.c_tree.specs.declared.flat.Thread as thread
use Rattle.c_tree.specs.declared.flat.Flat as d
use Rattle.c_tree.specs.declared.program.Mutex as mutex
use Rattle.c_tree.specs.Flats as f
use Rattle.c_tree.specs.Exprs.{LockName, lock_ref_of}
use Rattle.c_tree.specs.LockNames.{Held, holds, held_names}
use Rattle.c_tree.specs.links.KnownNames.{names_of}
use Rattle.c_tree.specs.declared.expr.LockRef.{LockRef}
use Rattle.c_tree.proofs.Public.{flat_rows_of_while as of_while, flat_rows_of_do as of_do, flat_rows_of_if as of_if}
use Rattle.c_tree.specs.Programs.{Mutex, mutex_of}
use Rattle.lock_order.specs.declared.walk.Met.{Met}
use Rattle.lock_order.specs.declared.error.OrderError.{OrderError}
use Rattle.lock_order.specs.LockOrder.{Progress, OrderFault, Walked, After, Broken, and_then, was_in_way, last_in_way, holding}
use Rattle.lock_order.specs.LockOrder.{walk, walk_all, walk_arms, walk_thread, walk_threads, order_fault}
use Rattle.lock_order.specs.Faults.{fault_of}
use Rattle.lock_order.specs.links.Walks.{Refuses}

-- ---- Answers of the walk

pub after_then : (w : Walked) (next : Progress → Walked) (p : Progress) → w ≡ After p → and_then w next ≡ next p
after_then w next p e = ap (λ y. and_then y next) e

same_fault : (o : Option OrderFault) (P Q : OrderFault → Type 0) → ((x : OrderFault) → P x → Q x) → IfSome o P → IfSome o Q
same_fault None P Q g h = h
same_fault (Some x) P Q g h = g x h

-- what begins with a part that breaks
pub refuses_then : (w v : Walked) (next : Progress → Walked) (e : OrderError) → v ≡ and_then w next → Refuses w e → Refuses v e
refuses_then w v next e is h =
    same_fault (fault_of e) (λ x. w ≡ Broken x) (λ x. v ≡ Broken x) (λ x p. is ∙ ap (λ y. and_then y next) p) h

pub refuses_as : (w v : Walked) (e : OrderError) → v ≡ w → Refuses w e → Refuses v e
refuses_as w v e is h = subst (λ x. Refuses x e) (sym is) h

pub matches_as : {A : Type 0} (r : Result A OrderError) (w v : Walked) (q : Progress) → v ≡ w → MatchResult r (λ _. w ≡ After q) (Refuses w) →
    MatchResult r (λ _. v ≡ After q) (Refuses v)
matches_as r w v q is h = subst (λ (x : Walked). MatchResult r (λ _. x ≡ After q) (Refuses x)) (sym is) h

-- what goes on after a part that leads on
pub matches_then : {A : Type 0} (r : Result A OrderError) (w v : Walked) (next : Progress → Walked) (p q : Progress) → v ≡ and_then w next → w ≡ After p →
    MatchResult r (λ _. next p ≡ After q) (Refuses (next p)) → MatchResult r (λ _. v ≡ After q) (Refuses v)
matches_then r w v next p q is walked h = matches_as r (next p) v q (is ∙ after_then w next p walked) h

-- ---- Names that are held

-- of the names from the next one on
held_next : (P : LockName → Bool) (x : LockName) (xs : List LockName) (h : Held) →
    list_any P (held_names (x ∷ xs) h) ≡ ((holds h 0 && P x) || list_any P (held_names xs (drop 1 h)))
held_next P x [] [] = refl
held_next P x (y ∷ xs) [] = refl
held_next P x xs (true ∷ h) = refl
held_next P x xs (false ∷ h) = refl

holds_from : (h : Held) (i : ℕ) → holds (drop i h) 0 ≡ holds h i
holds_from h zero = refl
holds_from [] (suc i) = refl
holds_from (held ∷ h) (suc i) = holds_from h i

drop_next : (h : Held) (i : ℕ) → drop 1 (drop i h) ≡ drop (suc i) h
drop_next h zero = refl
drop_next [] (suc i) = refl
drop_next (held ∷ h) (suc i) = drop_next h i

-- a held one passes, from a number on
abbrev pub any_from : (P : LockName → Bool) (xs : List LockRef) (h : Held) (i : ℕ) → Bool
any_from P xs h i = list_any P (held_names (names_of (drop i xs)) (drop i h))

module _ (P : LockName → Bool) (xs : List LockRef) (h : Held) (i : ℕ) (x : LockRef) (within : i < length xs) (is : x ≡ get_or xs i x) (test : Bool)
    (by : (holds h i && P (lock_ref_of x)) ≡ test) where
  pub any_at : any_from P xs h i ≡ (test || any_from P xs h (i + 1))
  any_at =
      let next : suc i ≡ i + 1 = omega arith in
      ap (λ (ys : List LockRef). list_any P (held_names (names_of ys) (drop i h))) (drop_more xs i x within)
      ∙ ap (λ (y : LockRef). list_any P (held_names (lock_ref_of y ∷ names_of (drop (i + 1) xs)) (drop i h))) (sym is)
      ∙ held_next P (lock_ref_of x) (names_of (drop (i + 1) xs)) (drop i h)
      ∙ ap₂ (λ (b : Bool) (k : Held). (b && P (lock_ref_of x)) || list_any P (held_names (names_of (drop (i + 1) xs)) k)) (holds_from h i)
      (drop_next h i ∙ ap (λ (k : ℕ). drop k h) next)
      ∙ ap (λ (b : Bool). b || any_from P xs h (i + 1)) by

-- past all of them
pub none_from : (P : LockName → Bool) (xs : List LockRef) (h : Held) (i : ℕ) → length xs ≤ i → any_from P xs h i ≡ false
none_from P xs h i past = ap (λ (ys : List LockRef). list_any P (held_names (names_of ys) (drop i h))) (drop_all i xs past)

-- ---- Locks that were met

module _ (ms : List Mutex) (names : List LockName) (h : Held) (wanted : LockName) where
  -- one more
  pub last_more : (qs : List Met) (m : Met) →
      last_in_way ms names h wanted (qs ++ m ∷ []) ≡ cond (was_in_way ms names h wanted m) (Some m) (last_in_way ms names h wanted qs)
  last_more [] m = refl
  last_more (x ∷ qs) m =
      let last : Option Met → Option Met = λ o. elim o [ Some y ↦ Some y | None ↦ cond (was_in_way ms names h wanted x) (Some x) None ] in
      ap last (last_more qs m) ∙ by_test (was_in_way ms names h wanted m) (last_in_way ms names h wanted qs)
    where
      by_test : (b : Bool) (o : Option Met) →
          (elim (cond b (Some m) o) [ Some y ↦ Some y | None ↦ cond (was_in_way ms names h wanted x) (Some x) None ])
          ≡ cond b (Some m) (elim o [ Some y ↦ Some y | None ↦ cond (was_in_way ms names h wanted x) (Some x) None ])
      by_test true o = refl
      by_test false o = refl

  pub last_next : (qs : List Met) (i : ℕ) (d : Met) (b : Bool) → i < length qs → was_in_way ms names h wanted (get_or qs i d) ≡ b →
      last_in_way ms names h wanted (take (i + 1) qs) ≡ cond b (Some (get_or qs i d)) (last_in_way ms names h wanted (take i qs))
  last_next qs i d b lt test =
      ap (last_in_way ms names h wanted) (take_more qs i d lt) ∙ last_more (take i qs) (get_or qs i d)
      ∙ ap (λ (x : Bool). cond x (Some (get_or qs i d)) (last_in_way ms names h wanted (take i qs))) test

-- ---- A statement

module _ (ms : List Mutex) (names : List LockName) (p : Progress) where
  pub if_is : (x : s.Statement) (place : Place) (arms : Vec arm.Arm Global) (otherwise : Vec s.Statement Global) (choices : List arm.Arm)
      (rest : List s.Statement) → x ≡ s.If place arms otherwise → choices ≡ arms.items → rest ≡ otherwise.items →
      walk ms names p (f.statement_of x) ≡ and_then (walk_arms ms names p (f.arms_list_of choices)) (λ after. walk_all ms names after (f.statements_of rest))
  if_is x place arms otherwise choices rest is same equal =
      ap (λ y. walk ms names p (f.statement_of y)) is ∙ ap (walk ms names p) (of_if place arms otherwise)
      ∙ ap₂ (λ (ys : List arm.Arm) (zs : List s.Statement).
      and_then (walk_arms ms names p (f.arms_list_of ys)) (λ after. walk_all ms names after (f.statements_of zs)))
      (sym same) (sym equal)

  pub while_is : (x : s.Statement) (place : Place) (condition : Placed) (body : Vec s.Statement Global) (xs : List s.Statement) →
      x ≡ s.While place condition body → xs ≡ body.items →
      walk ms names p (f.statement_of x) ≡ holding p.held (walk_all ms names p (f.statements_of xs))
  while_is x place condition body xs is same =
      ap (λ y. walk ms names p (f.statement_of y)) is ∙ ap (walk ms names p) (of_while place condition body)
      ∙ ap (λ (ys : List s.Statement). holding p.held (walk_all ms names p (f.statements_of ys))) (sym same)

  pub do_is : (x : s.Statement) (place : Place) (body : Vec s.Statement Global) (condition : Placed) (xs : List s.Statement) →
      x ≡ s.Do place body condition → xs ≡ body.items →
      walk ms names p (f.statement_of x) ≡ holding p.held (walk_all ms names p (f.statements_of xs))
  do_is x place body condition xs is same =
      ap (λ y. walk ms names p (f.statement_of y)) is ∙ ap (walk ms names p) (of_do place body condition)
      ∙ ap (λ (ys : List s.Statement). holding p.held (walk_all ms names p (f.statements_of ys))) (sym same)

-- ---- Lists

module _ (ms : List Mutex) (names : List LockName) (w : Walked) (p : Progress) where
  pub at_next : (xs : List s.Statement) (i : ℕ) (x : s.Statement) → i < length xs → x ≡ get_or xs i x → w ≡ walk_all ms names p (f.statements_of (drop i xs)) →
      w ≡ and_then (walk ms names p (f.statement_of x)) (λ after. walk_all ms names after (f.statements_of (drop (i + 1) xs)))
  at_next xs i x lt is e =
      e ∙ ap (λ (ys : List s.Statement). walk_all ms names p (f.statements_of ys)) (drop_more xs i x lt)
      ∙ ap (λ (y : s.Statement). and_then (walk ms names p (f.statement_of y)) (λ after. walk_all ms names after (f.statements_of (drop (i + 1) xs)))) (sym is)

  pub next_walk : (q : Progress) (xs : List s.Statement) (i : ℕ) (x : s.Statement) → i < length xs → x ≡ get_or xs i x →
      w ≡ walk_all ms names p (f.statements_of (drop i xs)) → walk ms names p (f.statement_of x) ≡ After q →
      w ≡ walk_all ms names q (f.statements_of (drop (i + 1) xs))
  next_walk q xs i x lt is e walked = at_next xs i x lt is e ∙ after_then _ (λ after. walk_all ms names after (f.statements_of (drop (i + 1) xs))) q walked

  pub at_arm : (xs : List arm.Arm) (i : ℕ) (x : arm.Arm) (body : List s.Statement) → i < length xs → x ≡ get_or xs i x → body ≡ x.body.items →
      w ≡ walk_arms ms names p (f.arms_list_of (drop i xs)) →
      w ≡ and_then (holding p.held (walk_all ms names p (f.statements_of body))) (λ after. walk_arms ms names after (f.arms_list_of (drop (i + 1) xs)))
  at_arm xs i x body lt is same e =
      e ∙ ap (λ (ys : List arm.Arm). walk_arms ms names p (f.arms_list_of ys)) (drop_more xs i x lt)
      ∙ ap (λ (y : arm.Arm). and_then (holding p.held (walk_all ms names p (f.statements_of y.body.items)))
      (λ after. walk_arms ms names after (f.arms_list_of (drop (i + 1) xs)))) (sym is)
      ∙ ap (λ (ys : List s.Statement). and_then (holding p.held (walk_all ms names p (f.statements_of ys)))
      (λ after. walk_arms ms names after (f.arms_list_of (drop (i + 1) xs)))) (sym same)

  pub next_arm : (q : Progress) (xs : List arm.Arm) (i : ℕ) (x : arm.Arm) (body : List s.Statement) → i < length xs → x ≡ get_or xs i x →
      body ≡ x.body.items → w ≡ walk_arms ms names p (f.arms_list_of (drop i xs)) → holding p.held (walk_all ms names p (f.statements_of body)) ≡ After q →
      w ≡ walk_arms ms names q (f.arms_list_of (drop (i + 1) xs))
  next_arm q xs i x body lt is same e walked =
      at_arm xs i x body lt is same e ∙ after_then _ (λ after. walk_arms ms names after (f.arms_list_of (drop (i + 1) xs))) q walked

  pub no_next : (xs : List s.Statement) (i : ℕ) → length xs ≤ i → w ≡ walk_all ms names p (f.statements_of (drop i xs)) → w ≡ After p
  no_next xs i le e = e ∙ ap (λ (ys : List s.Statement). walk_all ms names p (f.statements_of ys)) (drop_all i xs le)

  pub no_arm : (xs : List arm.Arm) (i : ℕ) → length xs ≤ i → w ≡ walk_arms ms names p (f.arms_list_of (drop i xs)) → w ≡ After p
  no_arm xs i le e = e ∙ ap (λ (ys : List arm.Arm). walk_arms ms names p (f.arms_list_of ys)) (drop_all i xs le)

-- ---- All threads

abbrev pub fault_or : Walked → Option OrderFault → Option OrderFault
fault_or w more = elim w [
  | Broken x ↦ Some x
  | After p ↦ more
]

abbrev pub walk_from : d.Flat → ℕ → Option OrderFault
walk_from x i = walk_threads (map mutex_of x.mutexes.items) (map f.thread_of (drop i x.threads.items))

pub whole_walk : (x : d.Flat) → order_fault (f.flat_of x) ≡ walk_from x 0
unfolding order_fault
whole_walk x = refl

module _ (x : d.Flat) (i : ℕ) (t : thread.Thread) (muts : List mutex.Mutex) (all : muts ≡ x.mutexes.items) (within : i < length x.threads.items)
    (is : t ≡ get_or x.threads.items i t) (before : walk_from x 0 ≡ walk_from x i) where
  abbrev pub walked : Walked
  walked = walk_thread (map mutex_of muts) (f.thread_of t)

  at_thread : walk_from x 0 ≡ fault_or walked (walk_from x (i + 1))
  at_thread =
      before ∙ ap (λ (ys : List thread.Thread). walk_threads (map mutex_of x.mutexes.items) (map f.thread_of ys)) (drop_more x.threads.items i t within)
      ∙ ap (λ (y : thread.Thread). fault_or (walk_thread (map mutex_of x.mutexes.items) (f.thread_of y)) (walk_from x (i + 1))) (sym is)
      ∙ ap (λ (ms : List mutex.Mutex). fault_or (walk_thread (map mutex_of ms) (f.thread_of t)) (walk_from x (i + 1))) (sym all)

  pub thread_breaks : (fault : OrderFault) → walked ≡ Broken fault → order_fault (f.flat_of x) ≡ Some fault
  thread_breaks fault e = whole_walk x ∙ at_thread ∙ ap (λ (w : Walked). fault_or w (walk_from x (i + 1))) e

  pub thread_keeps : (end : Progress) × (walked ≡ After end) → walk_from x 0 ≡ walk_from x (i + 1)
  thread_keeps e = at_thread ∙ ap (λ (w : Walked). fault_or w (walk_from x (i + 1))) e.1

  pub flat_refuses : (e : OrderError) → Refuses walked e → IfSome (fault_of e) (λ fault. order_fault (f.flat_of x) ≡ Some fault)
  flat_refuses e h =
      same_fault (fault_of e) (λ fault. walked ≡ Broken fault) (λ fault. order_fault (f.flat_of x) ≡ Some fault) thread_breaks h

pub no_thread_breaks : (x : d.Flat) (i : ℕ) → length x.threads.items ≤ i → walk_from x 0 ≡ walk_from x i → order_fault (f.flat_of x) ≡ None
no_thread_breaks x i le e =
    whole_walk x ∙ e ∙ ap (λ (ys : List thread.Thread). walk_threads (map mutex_of x.mutexes.items) (map f.thread_of ys)) (drop_all i x.threads.items le)
