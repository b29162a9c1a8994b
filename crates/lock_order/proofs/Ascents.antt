-- Where the walk finds no fault, each `lock` is above all that is held there.
use Rattle.std.proofs.Common.{◌≡◌, ◌≤◌, ℕ, zero, suc, Bool, true, false, cond, List, [], ◌∷◌, length, Option, Some, None}
use Rattle.std.proofs.Common.{refl, sym, ap, ◌∙◌, subst, arith}
use Rattle.std.specs.Prelude.{slice_get, slice_set, nat_lt, ◌||◌}
use Rattle.std.specs.List.{list_any}
use Rattle.std.proofs.lemmas.Bool.Decides.{nat_tests}
use Rattle.std.proofs.lemmas.Option.{none-some, same_Some}
use Rattle.c_tree.specs.Exprs.{LockName}
use Rattle.c_tree.specs.Flats as f
use Rattle.c_tree.specs.LockNames.{Held, holds, held_names, locks_in_all, names_from, none_held, number_in, once}
use Rattle.c_tree.specs.Programs.{Mutex}
use Rattle.lock_order.specs.LockOrder.{Progress, OrderFault, Walked, After, Broken, and_then, holding, lock_from, lock_to, is_in_way}
use Rattle.lock_order.specs.LockOrder.{is_blocked, broken, locked, walk, walk_all, walk_arms, walk_thread, walk_threads, order_fault}
use Rattle.lock_order.specs.links.Ascents.{AreBelow, Ascends, AscendAll, AscendArms, names_after, names_after_all}

-- ---- What is held and in no way is below

neither : (a b : Bool) → (a || b) ≡ false → (a ≡ false) × (b ≡ false)
neither true b h = cc
neither false b h = (refl, h)

-- what passes for no held name doesn't for one
none_passes : (P : LockName → Bool) (names : List LockName) (h : Held) (k : ℕ) (x : LockName) → list_any P (held_names names h) ≡ false →
    slice_get names k ≡ Some x → holds h k ≡ true → P x ≡ false
none_passes P [] h k x e there held = absurd (none-some x there)
none_passes P (y ∷ names) [] k x e there held = cc
none_passes P (y ∷ names) (true ∷ h) zero x e there held =
    subst (λ (z : LockName). P z ≡ false) (same_Some y x there) (neither (P y) (list_any P (held_names names h)) e).0
none_passes P (y ∷ names) (false ∷ h) zero x e there held = cc
none_passes P (y ∷ names) (true ∷ h) (suc k) x e there held =
    none_passes P names h k x (neither (P y) (list_any P (held_names names h)) e).1 there held
none_passes P (y ∷ names) (false ∷ h) (suc k) x e there held = none_passes P names h k x e there held

not_less : (a b : ℕ) → nat_lt a b ≡ false → b ≤ a
not_less a b h = grind (arith, nat_tests, h)

below : (ms : List Mutex) (names : List LockName) (h : Held) (wanted : LockName) → is_blocked ms names h wanted ≡ false → AreBelow ms names h wanted
below ms names h wanted free k own there held =
    not_less (lock_from wanted) (lock_to ms own) (none_passes (is_in_way ms wanted) names h k own free there held)

-- ---- Answers of the walk

after_both : (w : Walked) (next : Progress → Walked) (q : Progress) → and_then w next ≡ After q →
    (p : Progress) × (w ≡ After p) × (next p ≡ After q)
after_both (After p) next q e = (p, refl, e)
after_both (Broken x) next q e = absurd (cc)

after_is : (p q : Progress) → After p ≡ After q → q.held ≡ p.held
after_is p q e = let same : p ≡ q = cc in ap (λ (x : Progress). x.held) (sym same)

holding_both : (h : Held) (w : Walked) (q : Progress) → holding h w ≡ After q → (p : Progress) × (w ≡ After p) × (q.held ≡ h)
holding_both h w q e =
    let b = after_both w (λ p. After (record p { held = h })) q e in
    (b.0, b.1, after_is (record (b.0) { held = h }) q b.2)

unless_after : (b : Bool) (x : OrderFault) (p q : Progress) → cond b (Broken x) (After p) ≡ After q → (b ≡ false) × (q.held ≡ p.held)
unless_after true x p q e = absurd (cc)
unless_after false x p q e = (refl, after_is p q e)

-- ---- Each part

module _ (ms : List Mutex) (names : List LockName) where
  mutual
    ascends : (p q : Progress) (x : f.Statement) → walk ms names p x ≡ After q → Ascends ms names p.held x × (q.held ≡ names_after names p.held x)
    ascends p q (f.Assign place target value) e = (tt, after_is p q e)
    ascends p q (f.If place arms otherwise) e =
        let b = after_both (walk_arms ms names p arms) (λ after. walk_all ms names after otherwise) q e in
        let first = ascend_arms p b.0 arms b.1 in
        let last = ascend_all b.0 q otherwise b.2 in (
          (first.0, subst (λ (h : Held). AscendAll ms names h otherwise) first.1 last.0),
          last.1 ∙ ap (λ (h : Held). names_after_all names h otherwise) first.1,
        )
    ascends p q (f.While place condition body) e =
        let b = holding_both p.held (walk_all ms names p body) q e in
        ((ascend_all p b.0 body b.1).0, b.2)
    ascends p q (f.Do place body condition) e =
        let b = holding_both p.held (walk_all ms names p body) q e in
        ((ascend_all p b.0 body b.1).0, b.2)
    ascends p q (f.Lock place x) e =
        let b = unless_after (is_blocked ms names p.held x) (broken ms names place x p) (locked ms names place x p) q e in
        (below ms names p.held x b.0, b.1)
    ascends p q (f.Unlock place x) e = (tt, after_is (record p { held = slice_set p.held (number_in names x) false }) q e)

    ascend_all : (p q : Progress) (x : f.Statements) → walk_all ms names p x ≡ After q →
        AscendAll ms names p.held x × (q.held ≡ names_after_all names p.held x)
    ascend_all p q f.no_statement e = (tt, after_is p q e)
    ascend_all p q (f.statement_and x rest) e =
        let b = after_both (walk ms names p x) (λ after. walk_all ms names after rest) q e in
        let first = ascends p b.0 x b.1 in
        let last = ascend_all b.0 q rest b.2 in (
          (first.0, subst (λ (h : Held). AscendAll ms names h rest) first.1 last.0),
          last.1 ∙ ap (λ (h : Held). names_after_all names h rest) first.1,
        )

    ascend_arms : (p q : Progress) (x : f.Arms) → walk_arms ms names p x ≡ After q → AscendArms ms names p.held x × (q.held ≡ p.held)
    ascend_arms p q f.no_arm e = (tt, after_is p q e)
    ascend_arms p q (f.arm_and condition body rest) e =
        let b = after_both (holding p.held (walk_all ms names p body)) (λ after. walk_arms ms names after rest) q e in
        let r = holding_both p.held (walk_all ms names p body) b.0 b.1 in
        let last = ascend_arms b.0 q rest b.2 in (
          ((ascend_all p r.0 body r.1).0, subst (λ (h : Held). AscendArms ms names h rest) r.2 last.0),
          last.1 ∙ r.2,
        )

-- ---- All threads

abbrev fault_or : Walked → Option OrderFault → Option OrderFault
fault_or w more = elim w [
  | Broken y ↦ Some y
  | After p ↦ more
]

-- by the names of its locks
abbrev pub ThreadAscends : List Mutex → f.Thread → Type 0
ThreadAscends ms t = let names = names_from 0 ms (once [] (locks_in_all t.body)) in AscendAll ms names (none_held (length names)) t.body

thread_ascends : (ms : List Mutex) (t : f.Thread) (p : Progress) → walk_thread ms t ≡ After p → ThreadAscends ms t
thread_ascends ms t p walked =
    let names : List LockName = names_from 0 ms (once [] (locks_in_all t.body)) in
    let first : Progress = record { held = none_held (length names); met = [] } in
    (ascend_all ms names first p t.body walked).0

module _ (ms : List Mutex) where
  by_place : (x : f.Thread) (ts : List f.Thread) (p : Progress) → walk_thread ms x ≡ After p → (u : ℕ) (t : f.Thread) →
      slice_get (x ∷ ts) u ≡ Some t → ((k : ℕ) → slice_get ts k ≡ Some t → ThreadAscends ms t) → ThreadAscends ms t
  by_place x ts p walked zero t there others = subst (ThreadAscends ms) (same_Some x t there) (thread_ascends ms x p walked)
  by_place x ts p walked (suc k) t there others = others k there

  by_walk : (x : f.Thread) (ts : List f.Thread) (w : Walked) → walk_thread ms x ≡ w → walk_threads ms (x ∷ ts) ≡ None → (u : ℕ) (t : f.Thread) →
      slice_get (x ∷ ts) u ≡ Some t → (walk_threads ms ts ≡ None → (k : ℕ) → slice_get ts k ≡ Some t → ThreadAscends ms t) → ThreadAscends ms t
  by_walk x ts (Broken y) is e u t there others =
      absurd (let off : Some y ≡ None = sym (ap (λ (w : Walked). fault_or w (walk_threads ms ts)) is) ∙ e in cc)
  by_walk x ts (After p) is e u t there others =
      by_place x ts p is u t there (others (sym (ap (λ (w : Walked). fault_or w (walk_threads ms ts)) is) ∙ e))

  threads_ascend : (ts : List f.Thread) → walk_threads ms ts ≡ None → (u : ℕ) (t : f.Thread) → slice_get ts u ≡ Some t → ThreadAscends ms t
  threads_ascend [] e u t there = absurd (none-some t there)
  threads_ascend (x ∷ ts) e u t there = by_walk x ts (walk_thread ms x) refl e u t there (λ more k h. threads_ascend ts more k t h)

pub bodies_ascend : (x : f.Flat) → order_fault x ≡ None → (u : ℕ) (t : f.Thread) → slice_get x.threads u ≡ Some t → ThreadAscends x.mutexes t
unfolding order_fault
bodies_ascend x e u t there = threads_ascend x.mutexes x.threads e u t there
