-- A thread that holds the locks of its names holds the lock of the element to which it stores.
use Rattle.std.proofs.Common.{◌≡◌, refl, ℕ, ◌+◌, ◌<◌, ◌≤◌, ◌==◌, ◌&&◌, List, [], length, Option}
use Rattle.std.proofs.Common.{Some, None, Bool, true, false, cond, ap, sym, ◌∙◌, subst, arith}
use Rattle.std.specs.Prelude.{slice_get, nat_lt, ℤ}
use Rattle.std.specs.Option.{option_map}
use Rattle.std.proofs.lemmas.Bool.{and_parts, cond-true, eqb-true}
use Rattle.std.proofs.lemmas.Bool.Decides.{nat_tests}
use Rattle.std.proofs.lemmas.Option.{none-some, same_Some}
use Rattle.ido_base.specs.declared.location.Location.{Location}
use Rattle.c_tree.specs.Exprs as e
use Rattle.c_tree.specs.Programs.{Variable, Guard, By, Each}
use Rattle.c_tree.specs.Values.{key_element, lock_number}
use Rattle.c_tree.specs.LockNames.{Held, holds, number_in}
use Rattle.c_tree.specs.LockDiscipline.{name_under, variable_guard}
use Rattle.c_tree.proofs.Public.{index_element, number_found, same_index}
use Rattle.source_machine.specs.ElementLocks.{element_lock, lock_under}
use Rattle.source_machine.specs.Discipline.{HoldsNames}
use Rattle.source_machine.proofs.Public.{guards_each, holds_within}
use Rattle.flow_graph.specs.HeldKeys.{key_number, named_by, names_in}
use Rattle.image_checks.proofs.Public.{IsGuardedStore, key_of}

-- ---- A key that names an element

some_if : (b : Bool) (o : Option ℕ) (n : ℕ) → cond b o None ≡ Some n → (b ≡ true) × (o ≡ Some n)
some_if true o n h = (refl, h)
some_if false o n h = absurd (none-some n h)

keyed_lock : (ls : List ℤ) (m : ℕ) (key : Option e.Placed) (element : ℕ) → option_map (key_element ls) key ≡ Some element →
    lock_number ls (record { mutex = m; key = key }) ≡ m + element
keyed_lock ls m None element h = absurd (none-some element h)
keyed_lock ls m (Some key) element h = ap (λ (n : ℕ). m + n) (same_Some (key_element ls key) element h)

-- has the lock of that element
named_lock : (ls : List ℤ) (first : ℕ) (x : e.LockName) (element : ℕ) → named_by (Each first) true ls (Some x) ≡ Some element →
    lock_number ls x ≡ first + element
named_lock ls first x element h =
    let p = some_if (true && (first == x.mutex)) (option_map (key_element ls) x.key) element h in
    let same : (first == x.mutex) ≡ true = (and_parts true (first == x.mutex) p.0).1 in
    keyed_lock ls x.mutex x.key element p.1 ∙ ap (λ (m : ℕ). m + element) (sym (eqb-true first x.mutex same))

is_below : (n m : ℕ) → n < m → nat_lt n m ≡ true
is_below n m h = grind (arith, nat_tests, h)

-- ---- A store

module _ (names : List e.LockName) (h : Held) (ls : List ℤ) (long : length h ≡ length names) where
  -- the lock of the element is that of the use that is guarded
  one_lock : (guard : Guard) (index : Option e.Placed) (element : ℕ) → (index ≡ None → element ≡ 0) →
      ((key : ℕ) → key_of names guard index ≡ Some key → named_by guard true ls (slice_get names key) ≡ Some element) →
      holds h (number_in names (name_under guard index)) ≡ true → lock_under guard (index_element ls [] index) ≡ lock_under guard element
  one_lock (By mutex) index element zeroth named g = refl
  one_lock (Each first) None element zeroth named g = ap (λ (n : ℕ). first + n) (sym (zeroth refl))
  one_lock (Each first) (Some index) element zeroth named g =
      let x : e.LockName = record { mutex = first; key = Some index } in
      let n : ℕ = number_in names x in
      let low : n < length names = (let l = holds_within h n g in omega (arith, l, long)) in
      let is : key_number names (Each first) index ≡ Some n = cond-true (nat_lt n (length names)) (Some n) None (is_below n (length names) low) in
      let r = number_found names x low in
      let own : named_by (Each first) true ls (Some r.name) ≡ Some element =
      subst (λ (o : Option e.LockName). named_by (Each first) true ls o ≡ Some element) r.there (named n is) in
      same_index ls [] first (Some index) r.name r.same ∙ named_lock ls first r.name element own

  module _ (hs : List (Option ℕ)) (t : ℕ) (p : HoldsNames names h ls hs t) (vs : List Variable) where
    -- where its key names it, if its location has one
    pub guards_element : (location : Location) → IsGuardedStore vs names h location → (element : ℕ) → element ≤ location.hi →
        ((key : ℕ) → location.key ≡ Some key → names_in vs names ls location.variable key ≡ Some element) →
        slice_get hs (element_lock vs location.variable element) ≡ Some (Some t)
    unfolding element_lock
    guards_element location g element low named =
        let u = g.used in
        let guard : Guard = variable_guard vs u.variable in
        let there : slice_get hs (lock_under guard (index_element ls [] u.index)) ≡ Some (Some t) = guards_each names h ls hs t p long [] vs u g.locked in
        let own : (key : ℕ) → key_of names guard u.index ≡ Some key → named_by guard true ls (slice_get names key) ≡ Some element =
        λ key is. subst (λ (v : ℕ). named_by (variable_guard vs v) true ls (slice_get names key) ≡ Some element) g.variable_is (named key (g.key_is ∙ is)) in
        let zeroth : u.index ≡ None → element ≡ 0 = λ none. (let top = g.single none in omega (arith, top, low)) in
        let same : lock_under guard (index_element ls [] u.index) ≡ lock_under guard element = one_lock guard u.index element zeroth own g.locked in
        subst (λ (v : ℕ). slice_get hs (lock_under (variable_guard vs v) element) ≡ Some (Some t)) (sym g.variable_is) (sym (ap (slice_get hs) same) ∙ there)
