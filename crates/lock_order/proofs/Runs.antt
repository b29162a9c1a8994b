-- In a run, what is left to do locks only what is above all that is held there.
use Rattle.std.proofs.Common.{◌≡◌, ◌<◌, ◌≤◌, ℕ, Bool, true, false, cond, List, [], ◌∷◌, ◌++◌, length, Option, Some, None}
use Rattle.std.proofs.Common.{All, refl, sym, ap, ◌∙◌, subst, arith}
use Rattle.std.specs.Prelude.{slice_get, slice_set, ℤ}
use Rattle.std.proofs.lemmas.List.{length-replicate}
use Rattle.std.proofs.lemmas.Option.{get_or_from_slice_get, none-some, same_Some, slice_get_within}
use Rattle.ido_base.specs.declared.place.Place.{Place}
use Rattle.c_tree.specs.Exprs as e
use Rattle.c_tree.specs.Values.{lock_number}
use Rattle.c_tree.proofs.Public.{number_found, same_number}
use Rattle.c_tree.specs.Programs.{Mutex, Variable}
use Rattle.c_tree.specs.Flats as f
use Rattle.c_tree.specs.Source as m
use Rattle.c_tree.specs.Source.{opened, opened_all, tested}
use Rattle.c_tree.specs.LockDiscipline as l
use Rattle.c_tree.specs.LockNames.{Held, holds, none_held, lock_names, number_in}
use Rattle.c_tree.specs.LockDiscipline.{Keeps, KeepAll, KeepArms, IsDisciplined}
use Rattle.source_machine.specs.Mutexes.{lock_ahead, first_lock}
use Rattle.source_machine.specs.Discipline.{IsOfName, IsReachedState, KeepList, StateKeeps}
use Rattle.source_machine.specs.Laws.{OthersStay}
use Rattle.source_machine.proofs.Public.{keep_append, keeps_if, keeps_arm, keeps_while, keeps_lock, keep_list_length}
use Rattle.source_machine.proofs.Public.{run_keeps as run_keeps_discipline, set_is_one, start_keeps}
use Rattle.lock_order.specs.LockOrder.{lock_from, lock_to, order_fault}
use Rattle.lock_order.specs.links.Ascents.{AreBelow, Ascends, AscendAll, AscendArms, AscendList, names_after, names_after_all}
use Rattle.lock_order.specs.Laws.{Ascending, LocksAscend, NamesAscend}
use Rattle.lock_order.proofs.Ascents.{ThreadAscends, bodies_ascend}
use Rattle.lock_order.proofs.LockNumbers.{number_from, number_to}
use Rattle.lock_order.proofs.SameNames.{from_same}
use Rattle.lock_order.proofs.ThreadSteps.{IsKept, IsSaidOfAll, run_keeps, said_first}

module _ (vs : List Variable) (names : List e.LockName) where
  -- the set after a part that keeps the discipline is the one that it leaves
  mutual
    after_is : {h after : Held} {s : f.Statement} → Keeps vs names h s after → names_after names h s ≡ after
    after_is (l.assign place target value g free) = refl
    after_is (l.choose place arms otherwise p q) = after_all_is q
    after_is (l.repeat place condition body g p) = refl
    after_is (l.again place body condition p g) = refl
    after_is (l.lock place name free) = refl
    after_is (l.unlock place name held) = refl

    after_all_is : {h after : Held} {ss : f.Statements} → KeepAll vs names h ss after → names_after_all names h ss ≡ after
    after_all_is l.no_more = refl
    after_all_is (l.then x rest p q) = ap (λ (k : Held). names_after_all names k rest) (after_is p) ∙ after_all_is q

module _ (ms : List Mutex) (vs : List Variable) (names : List e.LockName) where
  -- from the one set, the statements in turn keep the discipline and leave the other, and each `lock` is above what is held there
  record Rise (h : Held) (left : List f.Statement) (after : Held) : Type 0 where
    keeps : KeepList vs names h left after
    ascends : AscendList ms names h left

  ascend_append : (xs ys : List f.Statement) (h between : Held) → KeepList vs names h xs between → AscendList ms names h xs →
      AscendList ms names between ys → AscendList ms names h (xs ++ ys)
  ascend_append [] ys h between k a b = subst (λ (z : Held). AscendList ms names z ys) (sym k) b
  ascend_append (x ∷ xs) ys h between k a b = (
    a.0,
    ascend_append xs ys (names_after names h x) between (subst (λ (z : Held). KeepList vs names z xs between) (sym (after_is vs names k.1)) k.2) a.1 b,
  )

  rise_append : (xs ys : List f.Statement) (h between after : Held) → Rise h xs between → Rise between ys after → Rise h (xs ++ ys) after
  rise_append xs ys h between after a b = record {
    keeps = keep_append vs names xs ys h between after a.keeps b.keeps;
    ascends = ascend_append xs ys h between a.keeps a.ascends b.ascends;
  }

  -- one statement
  rise_one : (h after : Held) (x : f.Statement) → Keeps vs names h x after → Ascends ms names h x → Rise h (x ∷ []) after
  rise_one h after x k a = record { keeps = (after, k, refl); ascends = (a, tt) }

  rise_rest : (h after : Held) (x : f.Statement) (rest : List f.Statement) → Rise h (x ∷ rest) after →
      (between : Held) × Keeps vs names h x between × Rise between rest after
  rise_rest h after x rest r = (
    r.keeps.0,
    r.keeps.1,
    record {
      keeps = r.keeps.2;
      ascends = subst (λ (z : Held). AscendList ms names z rest) (after_is vs names r.keeps.1) r.ascends.1;
    },
  )

  -- ---- What a body opens to

  mutual
    opened_rises : {h after : Held} {s : f.Statement} → Keeps vs names h s after → Ascends ms names h s → Rise h (opened s) after
    opened_rises (l.assign {h = h} place target value g free) a = rise_one h h (f.Assign place target value) (l.assign place target value g free) a
    opened_rises (l.choose {h = h} {after = after} place arms otherwise p q) a =
        rise_one h after (f.If place arms otherwise) (l.choose place arms otherwise p q) a
    opened_rises (l.repeat {h = h} place condition body g p) a = rise_one h h (f.While place condition body) (l.repeat place condition body g p) a
    opened_rises (l.again {h = h} place body condition p g) a =
        rise_append (opened_all body) (f.While place condition body ∷ []) h h h (opened_all_rise p a)
        (rise_one h h (f.While place condition body) (l.repeat place condition body g p) a)
    opened_rises (l.lock {h = h} place name free) a = rise_one h (slice_set h (number_in names name) true) (f.Lock place name) (l.lock place name free) a
    opened_rises (l.unlock {h = h} place name held) a = rise_one h (slice_set h (number_in names name) false) (f.Unlock place name) (l.unlock place name held) a

    opened_all_rise : {h after : Held} {ss : f.Statements} → KeepAll vs names h ss after → AscendAll ms names h ss → Rise h (opened_all ss) after
    opened_all_rise l.no_more a = record { keeps = refl; ascends = tt }
    opened_all_rise (l.then {h = h} {between = between} {after = after} x rest p q) a =
        rise_append (opened x) (opened_all rest) h between after (opened_rises p a.0)
        (opened_all_rise q (subst (λ (z : Held). AscendAll ms names z rest) (after_is vs names p) a.1))

  -- what is left of an `if` whose first condition is tested
  tested_rise : (b : Bool) (place : Place) (body : f.Statements) (arms : f.Arms) (otherwise : f.Statements) (h after : Held) → KeepAll vs names h body after →
      KeepArms vs names h arms after → KeepAll vs names h otherwise after → AscendAll ms names h body → AscendArms ms names h arms →
      AscendAll ms names h otherwise → Rise h (tested b (opened_all body) (f.If place arms otherwise ∷ []) (opened_all otherwise) arms) after
  tested_rise true place body arms otherwise h after p q r a c d = opened_all_rise p a
  tested_rise false place body f.no_arm otherwise h after p q r a c d = opened_all_rise r d
  tested_rise false place body (f.arm_and condition next rest) otherwise h after p q r a c d =
      rise_one h after (f.If place (f.arm_and condition next rest) otherwise) (l.choose place (f.arm_and condition next rest) otherwise q r) (c, d)

-- ---- What a thread has left

module _ (x : f.Flat) where
  abbrev Rises : f.Thread → (h : Held) (left : List f.Statement) (after : Held) → Type 0
  Rises t h left after = Rise x.mutexes x.variables (lock_names x t) h left after

  -- its locks have these names, and nothing is held at its end
  abbrev at_end : f.Thread → Held
  at_end t = none_held (length (lock_names x t))

  record Left (t : f.Thread) (left : List f.Statement) (ls : List ℤ) : Type 0 where
    held : Held
    rises : Rises t held left (at_end t)

  left_append : (t : f.Thread) (xs ys : List f.Statement) (ls : List ℤ) (h between : Held) → Rises t h xs between → Rises t between ys (at_end t) →
      Left t (xs ++ ys) ls
  left_append t xs ys ls h between a b =
      record { held = h; rises = rise_append x.mutexes x.variables (lock_names x t) xs ys h between (at_end t) a b }

  left_rest : (t : f.Thread) (y : f.Statement) (rest : List f.Statement) (ls more : List ℤ) → Left t (y ∷ rest) ls → Left t rest more
  left_rest t y rest ls more a =
      let r = rise_rest x.mutexes x.variables (lock_names x t) a.held (at_end t) y rest a.rises in
      record { held = r.0; rises = r.2 }

  left_tested : (t : f.Thread) (b : Bool) (place : Place) (condition : e.Placed) (body : f.Statements) (arms : f.Arms) (otherwise : f.Statements)
      (rest : List f.Statement) (ls : List ℤ) → Left t (f.If place (f.arm_and condition body arms) otherwise ∷ rest) ls →
      Left t (tested b (opened_all body) (f.If place arms otherwise ∷ []) (opened_all otherwise) arms ++ rest) ls
  left_tested t b place condition body arms otherwise rest ls a =
      let names = lock_names x t in
      let first = f.If place (f.arm_and condition body arms) otherwise in
      let r = rise_rest x.mutexes x.variables names a.held (at_end t) first rest a.rises in
      let k = keeps_if x.variables names r.1 in
      let p = keeps_arm x.variables names k.0 in
      let c = a.rises.ascends.0 in
      left_append t (tested b (opened_all body) (f.If place arms otherwise ∷ []) (opened_all otherwise) arms) rest ls a.held r.0
      (tested_rise x.mutexes x.variables names b place body arms otherwise a.held r.0 p.1 p.2 k.1 c.0.0 c.0.1 c.1) r.2

  left_again : (t : f.Thread) (b : Bool) (place : Place) (condition : e.Placed) (body : f.Statements) (rest : List f.Statement) (ls : List ℤ) →
      Left t (f.While place condition body ∷ rest) ls → Left t (cond b (opened_all body ++ (f.While place condition body ∷ rest)) rest) ls
  left_again t true place condition body rest ls a =
      let names = lock_names x t in
      let k = keeps_while x.variables names (a.rises.keeps.1) in
      left_append t (opened_all body) (f.While place condition body ∷ rest) ls a.held a.held
      (opened_all_rise x.mutexes x.variables names k.1 a.rises.ascends.0) a.rises
  left_again t false place condition body rest ls a = left_rest t (f.While place condition body) rest ls ls a

  left_kept : IsKept Left
  left_kept = record {
    goes_on = λ t y rest ls a. left_rest t y rest ls ls a;
    assigned = λ t place at local kind value rest ls n a. left_rest t (f.Assign place (e.ToLocal at local kind) value) rest ls _ a;
    if_tested = left_tested;
    while_tested = left_again;
  }

  -- a thread at its beginning
  begun : (t : f.Thread) (ls : List ℤ) → IsDisciplined x t → ThreadAscends x.mutexes t → Left t (opened_all t.body) ls
  begun t ls k a = record { held = at_end t; rises = opened_all_rise x.mutexes x.variables (lock_names x t) k a }

  -- in each state that the form reaches, whatever numbers its variables begin with
  all_rise : OthersStay → (s : m.State) → All (IsDisciplined x) x.threads → order_fault x ≡ None → IsReachedState x s → IsSaidOfAll Left x s
  all_rise others s keep order reached =
      let begins : m.State = record (m.start x) { variables = reached.variables } in
      let first : IsSaidOfAll Left x begins = said_first Left left_kept x begins refl (λ u t there.
      let k : IsDisciplined x t = subst (IsDisciplined x) (get_or_from_slice_get x.threads u t t there)
      (keep u t (slice_get_within x.threads u t there)) in
      begun t _ k (bodies_ascend x order u t there)) in
      subst (IsSaidOfAll Left x) (sym reached.is) (run_keeps Left left_kept x others begins reached.schedule first)

-- ---- A thread at a lock

pending_none : (o : Option m.Pending) (ls : List ℤ) (left : List f.Statement) (wanted : ℕ) →
    (let r : Option ℕ = elim o [ Some p ↦ None | None ↦ first_lock ls left ] in r) ≡ Some wanted → first_lock ls left ≡ Some wanted
pending_none None ls left wanted is = is
pending_none (Some p) ls left wanted is = absurd (none-some wanted is)

-- the name by which the lock is wanted, and that all that is held is below it
record Wanting (ms : List Mutex) (names : List e.LockName) (h : Held) (ls : List ℤ) (wanted : ℕ) : Type 0 where
  number : ℕ
  name : e.LockName
  there : slice_get names number ≡ Some name
  is : lock_number ls name ≡ wanted
  below : AreBelow ms names h name

module _ (ms : List Mutex) (vs : List Variable) (names : List e.LockName) (h after : Held) (ls : List ℤ) (wanted : ℕ) (long : length h ≡ length names) where
  first_below : (left : List f.Statement) → first_lock ls left ≡ Some wanted → Rise ms vs names h left after → Wanting ms names h ls wanted
  first_below [] is r = absurd (none-some wanted is)
  first_below (f.Lock place name ∷ rest) is r =
      let free = (keeps_lock vs names r.keeps.1).0 in
      let low : number_in names name < length names = omega (arith, slice_get_within h (number_in names name) false free, long) in
      let found = number_found names name low in
      record {
        number = number_in names name;
        name = found.name;
        there = found.there;
        is = sym (same_number ls name found.name found.same) ∙ same_Some (lock_number ls name) wanted is;
        below = λ k own at held. subst (λ (n : ℕ). lock_to ms own ≤ n) (from_same name found.name found.same) (r.ascends.0 k own at held);
      }
  first_below (f.Unlock place name ∷ rest) is r = absurd (none-some wanted is)
  first_below (f.Assign place target value ∷ rest) is r = absurd (none-some wanted is)
  first_below (f.If place arms otherwise ∷ rest) is r = absurd (none-some wanted is)
  first_below (f.While place condition body ∷ rest) is r = absurd (none-some wanted is)
  first_below (f.Do place body condition ∷ rest) is r = absurd (none-some wanted is)

module _ (x : f.Flat) (s : m.State) (t wanted held : ℕ) (keeps : StateKeeps x s) (r : IsSaidOfAll (Left x) x s)
    (owns : slice_get s.holders held ≡ Some (Some t)) where
  by_thread : (o : Option m.Thread) → slice_get s.threads t ≡ o →
      (let r : Option ℕ = elim o [ Some found ↦ lock_ahead found | None ↦ None ] in r) ≡ Some wanted → Ascending x s t wanted held
  by_thread None there is = absurd (none-some wanted is)
  by_thread (Some thread) there is =
      let own = keeps.each t thread there in
      let names : List e.LockName = lock_names x own.text in
      let a = r.each t thread own.text there own.its in
      let same : a.held ≡ own.set = set_is_one x.variables names thread.left a.held own.set (none_held (length names)) a.rises.keeps own.left in
      let long : length a.held ≡ length names =
      keep_list_length x.variables names thread.left a.held (none_held (length names)) a.rises.keeps ∙ length-replicate (length names) false in
      let want = first_below x.mutexes x.variables names a.held (none_held (length names)) thread.locals wanted long thread.left
      (pending_none thread.pending thread.locals thread.left wanted is) a.rises in
      let mine : IsOfName names own.set thread.locals held = own.held.only held owns in
      record {
        thread = thread;
        there = there;
        text = own.text;
        its = own.its;
        want_number = want.number;
        want = want.name;
        want_there = want.there;
        want_is = want.is;
        own_number = mine.number;
        own = mine.name;
        own_there = mine.there;
        own_is = mine.is;
        below = want.below mine.number mine.name mine.there (ap (λ (h : Held). holds h mine.number) same ∙ mine.held);
      }

pub names_ascend : OthersStay → NamesAscend
names_ascend others x s thread wanted held disciplined order reached stands owns =
    let begins : m.State = record (m.start x) { variables = reached.variables } in
    let first = start_keeps x disciplined in
    let keeps : StateKeeps x s =
    subst (StateKeeps x) (sym reached.is) (run_keeps_discipline x begins reached.schedule (record { locks = first.locks; each = first.each })) in
    by_thread x s thread wanted held keeps (all_rise x others s disciplined order reached) owns (slice_get s.threads thread) refl stands

-- ---- The numbers of locks

pub locks_ascend : OthersStay → LocksAscend
locks_ascend others x s thread wanted held o reached stands owns =
    let a = names_ascend others x s thread wanted held o.disciplined o.in_order reached stands owns in
    let mine : lock_number a.thread.locals a.own < lock_to x.mutexes a.own =
    number_to others x s thread a.thread a.text a.own_number a.own o.formed reached a.there a.its a.own_there in
    let other : lock_from a.want ≤ lock_number a.thread.locals a.want = number_from a.thread.locals a.want in
    omega (arith, mine, other, a.own_is, a.want_is, a.below)
