-- Keys: two that are held name two elements, each names that of its index, and no assignment that the discipline allows moves one that is held.
use Rattle.std.proofs.Common.{◌≡◌, ◌<◌, refl, ℕ, ◌+◌, List, length, sym, ◌∙◌, ap}
use Rattle.std.proofs.Common.{subst, arith, Option, Some, None, Bool, true, false, cond, ◌&&◌, ◌==◌}
use Rattle.std.proofs.Common.{slice_set}
use Rattle.std.specs.Prelude.{slice_get, ℤ, nat_lt}
use Rattle.std.specs.List.{AllByRecursion}
use Rattle.std.specs.Option.{option_map}
use Rattle.std.proofs.lemmas.Bool.{eqb-true}
use Rattle.std.proofs.lemmas.Bool.Decides.{nat_tests}
use Rattle.ido_base.specs.declared.place.Place.{Place}
use Rattle.ido_base.specs.declared.location.Location.{Location}
use Rattle.c_tree.specs.Exprs as e
use Rattle.c_tree.specs.Programs.{Mutex, Variable, Guard, By, Each}
use Rattle.c_tree.specs.Values.{value, element_at, key_element, lock_number}
use Rattle.c_tree.specs.LockNames.{Held, holds, number_in, same_key}
use Rattle.c_tree.specs.LockDiscipline.{variable_guard, name_under, is_guarded, freezing}
use Rattle.c_tree.specs.WellFormed.{IsSingle, IsVariable}
use Rattle.c_tree.proofs.Public.{number_found, one_mutex, same_index, held_number_stays}
use Rattle.flow_graph.specs.HeldKeys.{key_number, is_key_of, named_by, names_in, names_by}
use Rattle.flow_graph.specs.Paths.{Element, AreApart, no_names, Lies}

-- ---- Tests

both_true : (a b : Bool) → (a && b) ≡ true → (a ≡ true) × (b ≡ true)
both_true true b h = (refl, h)
both_true false b h = cc

some_if : (b : Bool) (o : Option ℕ) (n : ℕ) → cond b o None ≡ Some n → (b ≡ true) × (o ≡ Some n)
some_if true o n h = (refl, h)
some_if false o n h = cc

some_same : (m n : ℕ) → Some m ≡ Some n → m ≡ n
some_same m n h = cc

-- ---- Two held keys name two elements

keyed_lock : (ls : List ℤ) (m : ℕ) (key : Option e.Placed) (element : ℕ) → option_map (key_element ls) key ≡ Some element →
    lock_number ls (record { mutex = m; key = key }) ≡ m + element
keyed_lock ls m None element h = cc
keyed_lock ls m (Some key) element h = ap (λ (n : ℕ). m + n) (some_same (key_element ls key) element h)

-- the first lock of the array that guards each element
abbrev first_of : Guard → ℕ
first_of (By mutex) = mutex
first_of (Each first) = first

-- the key is held, and its lock is that of the element
record IsNamed (names : List e.LockName) (h : Held) (ls : List ℤ) (first key element : ℕ) : Type 0 where
  name : e.LockName
  there : slice_get names key ≡ Some name
  held : holds h key ≡ true
  lock : lock_number ls name ≡ first + element

is_named : (guard : Guard) (names : List e.LockName) (h : Held) (ls : List ℤ) (key element : ℕ) (o : Option e.LockName) → slice_get names key ≡ o →
    named_by guard (holds h key) ls o ≡ Some element → IsNamed names h ls (first_of guard) key element
is_named guard names h ls key element None there is = cc
is_named (By mutex) names h ls key element (Some x) there is =
    let p = some_if (holds h key && false) (option_map (key_element ls) x.key) element is in
    let q = both_true (holds h key) false p.0 in
    let no : false ≡ true = q.1 in cc
is_named (Each first) names h ls key element (Some x) there is =
    let p = some_if (holds h key && (first == x.mutex)) (option_map (key_element ls) x.key) element is in
    let q = both_true (holds h key) (first == x.mutex) p.0 in
    record {
      name = x;
      there = there;
      held = q.0;
      lock = keyed_lock ls x.mutex x.key element p.1 ∙ ap (λ (m : ℕ). m + element) (sym (eqb-true first x.mutex q.1));
    }

-- where no two held names have one lock
pub keys_apart : (vs : List Variable) (names : List e.LockName) (h : Held) (ls : List ℤ) →
    ((one other : ℕ) (x y : e.LockName) → slice_get names one ≡ Some x → slice_get names other ≡ Some y → holds h one ≡ true → holds h other ≡ true →
    lock_number ls x ≡ lock_number ls y → one ≡ other) →
    AreApart (names_by vs names h ls)
keys_apart vs names h ls apart variable one other element a b =
    let guard = variable_guard vs variable in
    let p = is_named guard names h ls one element (slice_get names one) refl a in
    let q = is_named guard names h ls other element (slice_get names other) refl b in
    apart one other p.name q.name p.there q.there p.held q.held (p.lock ∙ sym q.lock)

-- ---- A key names the element of its index

keyed : (ls : List ℤ) (ns : List (List ℤ)) (first m : ℕ) (index : e.Placed) (key : Option e.Placed) →
    ((first == m) && same_key (Some index) key) ≡ true →
    first + element_at (value ls ns index.expr) ≡ lock_number ls (record { mutex = m; key = key }) →
    ((first == m) ≡ true) × (option_map (key_element ls) key ≡ Some (element_at (value ls ns index.expr)))
keyed ls ns first m index None h is = let p = both_true (first == m) false h in cc
keyed ls ns first m index (Some key) h is =
    let p = both_true (first == m) (same_key (Some index) (Some key)) h in
    let same : first ≡ m = eqb-true first m p.0 in
    let there : key_element ls key ≡ element_at (value ls ns index.expr) = omega (arith, same, is) in
    (p.0, ap (λ (n : ℕ). Some n) there)

below : (n count key : ℕ) → cond (nat_lt n count) (Some n) None ≡ Some key → (n < count) × (n ≡ key)
below n count key h =
    let p = some_if (nat_lt n count) (Some n) key h in
    (grind (arith, nat_tests, p), some_same n key p.1)

key_names_by : (guard : Guard) (names : List e.LockName) (ls : List ℤ) (ns : List (List ℤ)) (index : e.Placed) (key : ℕ) →
    key_number names guard index ≡ Some key → named_by guard true ls (slice_get names key) ≡ Some (element_at (value ls ns index.expr))
key_names_by (By mutex) names ls ns index key is = cc
key_names_by (Each first) names ls ns index key is =
    let n = number_in names (record { mutex = first; key = Some index }) in
    let b = below n (length names) key is in
    let r = number_found names (record { mutex = first; key = Some index }) b.0 in
    let k = keyed ls ns first r.name.mutex index r.name.key r.same (same_index ls ns first (Some index) r.name r.same) in
    let there : named_by (Each first) true ls (slice_get names n) ≡ Some (element_at (value ls ns index.expr)) =
    ap (named_by (Each first) true ls) r.there ∙ (ap (λ (c : Bool). cond c (option_map (key_element ls) r.name.key) None) k.0 ∙ k.1) in
    subst (λ (j : ℕ). named_by (Each first) true ls (slice_get names j) ≡ Some (element_at (value ls ns index.expr))) b.1 there

-- the key of an element names it, whatever numbers variables have
pub key_names : (vs : List Variable) (names : List e.LockName) (ls : List ℤ) (ns : List (List ℤ)) (variable : ℕ) (index : e.Placed) (key : ℕ) →
    key_number names (variable_guard vs variable) index ≡ Some key → names_in vs names ls variable key ≡ Some (element_at (value ls ns index.expr))
key_names vs names ls ns variable index key is = key_names_by (variable_guard vs variable) names ls ns index key is

-- a key that is held names what it names
pub held_names_it : (vs : List Variable) (names : List e.LockName) (h : Held) (ls : List ℤ) (variable key : ℕ) → holds h key ≡ true →
    names_by vs names h ls variable key ≡ names_in vs names ls variable key
held_names_it vs names h ls variable key held = ap (λ (b : Bool). named_by (variable_guard vs variable) b ls (slice_get names key)) held

key_held_by : (guard : Guard) (names : List e.LockName) (h : Held) (index : e.Placed) (key : ℕ) → key_number names guard index ≡ Some key →
    holds h (number_in names (name_under guard (Some index))) ≡ true → holds h key ≡ true
key_held_by (By mutex) names h index key is held = cc
key_held_by (Each first) names h index key is held =
    let n = number_in names (record { mutex = first; key = Some index }) in
    subst (λ (j : ℕ). holds h j ≡ true) (below n (length names) key is).1 held

-- the key of an element that is guarded is held
pub key_held : (vs : List Variable) (names : List e.LockName) (h : Held) (variable : ℕ) (place : Place) (index : e.Placed) (key : ℕ) →
    key_number names (variable_guard vs variable) index ≡ Some key →
    is_guarded vs names h (record { variable = variable; place = place; index = Some index }) ≡ true → holds h key ≡ true
key_held vs names h variable place index key is held = key_held_by (variable_guard vs variable) names h index key is held

-- ---- An assignment that is allowed moves no key

stays_keyed : (to ls : List ℤ) (m : ℕ) (key : Option e.Placed) →
    lock_number to (record { mutex = m; key = key }) ≡ lock_number ls (record { mutex = m; key = key }) →
    option_map (key_element to) key ≡ option_map (key_element ls) key
stays_keyed to ls m None h = refl
stays_keyed to ls m (Some key) h = ap (λ (n : ℕ). Some n) (let same : key_element to key ≡ key_element ls key = omega (arith, h) in same)

stays_by : (guard : Guard) (to ls : List ℤ) (x : e.LockName) (held : Bool) → (held ≡ true → lock_number to x ≡ lock_number ls x) →
    named_by guard held to (Some x) ≡ named_by guard held ls (Some x)
stays_by guard to ls x false same = refl
stays_by guard to ls x true same =
    ap (λ (o : Option ℕ). cond (is_key_of guard x) o None) (stays_keyed to ls x.mutex x.key (same refl))

stays_there : (guard : Guard) (names : List e.LockName) (h : Held) (to ls : List ℤ) (key : ℕ) (o : Option e.LockName) →
    ((x : e.LockName) → slice_get names key ≡ Some x → holds h key ≡ true → lock_number to x ≡ lock_number ls x) → slice_get names key ≡ o →
    named_by guard (holds h key) to o ≡ named_by guard (holds h key) ls o
stays_there guard names h to ls key None same there = refl
stays_there guard names h to ls key (Some x) same there = stays_by guard to ls x (holds h key) (same x there)

-- where each held name has one lock by the one locals and by the other, its key names one element
pub held_keys_stay : (vs : List Variable) (names : List e.LockName) (h : Held) (to ls : List ℤ) (variable key : ℕ) →
    ((k : ℕ) (x : e.LockName) → slice_get names k ≡ Some x → holds h k ≡ true → lock_number to x ≡ lock_number ls x) →
    names_by vs names h to variable key ≡ names_by vs names h ls variable key
held_keys_stay vs names h to ls variable key same =
    stays_there (variable_guard vs variable) names h to ls key (slice_get names key) (same key) refl

pub naming_stays : (vs : List Variable) (names : List e.LockName) (h : Held) (ls : List ℤ) (local : ℕ) (n : ℤ) (variable key : ℕ) →
    freezing names h local ≡ None →
    names_by vs names h (slice_set ls local n) variable key ≡ names_by vs names h ls variable key
naming_stays vs names h ls local n variable key free =
    held_keys_stay vs names h (slice_set ls local n) ls variable key (λ k x there held. held_number_stays names h ls local n k x free there held)

-- ---- Where one mutex guards each variable

plain_by : (mutex : ℕ) (ls : List ℤ) (o : Option e.LockName) → named_by (By mutex) true ls o ≡ None
plain_by mutex ls None = refl
plain_by mutex ls (Some x) = refl

-- no key names an element
pub plain_names_none : (ms : List Mutex) (vs : List Variable) (names : List e.LockName) (ls : List ℤ) (variable key : ℕ) → AllByRecursion IsSingle ms →
    AllByRecursion (IsVariable ms) vs → names_in vs names ls variable key ≡ None
plain_names_none ms vs names ls variable key single formed =
    let one = one_mutex ms vs variable single formed in
    ap (λ (guard : Guard). named_by guard true ls (slice_get names key)) one.1 ∙ plain_by one.0 ls (slice_get names key)

-- what lies in a location lies there whatever keys name
pub plain_lies : (ms : List Mutex) (vs : List Variable) (names : List e.LockName) (ls : List ℤ) (l : Location) (one : Element) →
    AllByRecursion IsSingle ms → AllByRecursion (IsVariable ms) vs →
    Lies (names_in vs names ls) l one → Lies no_names l one
plain_lies ms vs names ls l one single formed h = record {
  within = h.within;
  by_key = λ key is. let none = plain_names_none ms vs names ls one.variable key single formed in let some = h.by_key key is in cc;
}

-- no element has a key
pub plain_key : (ms : List Mutex) (vs : List Variable) (names : List e.LockName) (variable : ℕ) (index : e.Placed) → AllByRecursion IsSingle ms →
    AllByRecursion (IsVariable ms) vs → key_number names (variable_guard vs variable) index ≡ None
plain_key ms vs names variable index single formed =
    ap (λ (guard : Guard). key_number names guard index) (one_mutex ms vs variable single formed).1
