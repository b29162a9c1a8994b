-- The names of a thread's locks where no mutex is in an array: number of name, of mutex and of lock are one.
use Rattle.std.proofs.Common.{◌≡◌, ◌==◌, ◌<◌, ◌≤◌, ℕ, zero, suc, ◌+◌, ◌-◌, min, List, [], ◌∷◌, length, take, drop, slice_get, Option, Some, None}
use Rattle.std.proofs.Common.{true, false, is_some, refl, sym, ap, subst, ◌∙◌, arith, tests, rules}
use Rattle.std.specs.List.{AllByRecursion}
use Rattle.std.proofs.lemmas.Bool.{true≢false}
use Rattle.std.proofs.lemmas.List.{length-take, length-drop, length-replicate}
use Rattle.std.proofs.lemmas.Option.{none-some, same_Some, slice_get_within}
use Rattle.ido_ints.specs.declared.kinds.Kind.{Kind}
use Rattle.c_tree.specs.Exprs as e
use Rattle.c_tree.specs.Programs.{Mutex, Variable, Guard, By, Each}
use Rattle.c_tree.specs.Flats as f
use Rattle.c_tree.specs.LockNames.{plain_from, plain_names, names_from, once, locks_in_all, lock_names, number_in}
use Rattle.std.specs.Prelude.{ℤ}
use Rattle.c_tree.specs.Values.{lock_number}
use Rattle.c_tree.specs.Ranges.{mutexes_of}
use Rattle.c_tree.specs.LockDiscipline.{variable_guard}
use Rattle.c_tree.specs.WellFormed.{IsSingle, IsArrayAt, IsGuard, IsVariable, IsFlatLockName}

-- ---- The table

pub length-plain_from : (n count : ℕ) → length (plain_from n count) ≡ count
length-plain_from n zero = refl
length-plain_from n (suc count) = ap suc (length-plain_from (suc n) count)

pub length-plain_names : (count : ℕ) → length (plain_names count) ≡ count
length-plain_names count = length-plain_from 0 count

plain_table : (n : ℕ) (ms : List Mutex) (xs : List e.LockName) → AllByRecursion IsSingle ms → names_from n ms xs ≡ plain_from n (length ms)
plain_table n [] xs h = refl
plain_table n (m ∷ ms) xs h =
    rw h.0 (ap (λ (rest : List e.LockName). let x : e.LockName = record { mutex = n; key = None } in x ∷ rest) (plain_table (suc n) ms xs h.1))

-- the names of each thread are those of all mutexes
pub names_are_plain : (x : f.Flat) (t : f.Thread) → AllByRecursion IsSingle x.mutexes → lock_names x t ≡ plain_names (length x.mutexes)
names_are_plain x t h = plain_table 0 x.mutexes (once [] (locks_in_all t.body)) h

-- ---- A name's number

abbrev named : ℕ → e.LockName
named n = record { mutex = n; key = None }

number_from : (n d count : ℕ) → d < count → number_in (plain_from n count) (named (n + d)) ≡ d
number_from n d zero h = absurd (omega (arith, h))
number_from n zero (suc count) h = grind (arith, tests, rules)
number_from n (suc d) (suc count) h =
    let other : ((n + suc d) == n) ≡ false = grind (arith, tests, rules) in
    let same : n + suc d ≡ suc n + d = omega arith in
    rw other (ap suc (ap (λ (m : ℕ). number_in (plain_from (suc n) count) (named m)) same ∙ number_from (suc n) d count (omega (arith, h))))

-- a mutex that is there has its own number
pub plain_number : (count mutex : ℕ) → mutex < count → number_in (plain_names count) (named mutex) ≡ mutex
plain_number count mutex h =
    ap (λ (m : ℕ). number_in (plain_names count) (named m)) (let e : mutex ≡ 0 + mutex = omega arith in e) ∙ number_from 0 mutex count h

past_from : (n m count : ℕ) → (m < n + count → ⊥) → number_in (plain_from n count) (named m) ≡ count
past_from n m zero h = refl
past_from n m (suc count) h =
    let other : (m == n) ≡ false = grind (arith, tests, rules) in
    rw other (ap suc (past_from (suc n) m count (λ l. h (omega (arith, l)))))

-- one that isn't has the number past all
pub plain_past : (count mutex : ℕ) → (mutex < count → ⊥) → number_in (plain_names count) (named mutex) ≡ count
plain_past count mutex h = past_from 0 mutex count (λ l. h (omega (arith, l)))

-- ---- Names of well formed flat forms

there_by : (ms : List Mutex) (ks : List Kind) (mutex : ℕ) (key : Option e.Placed) → IsFlatLockName ms ks (record { mutex = mutex; key = key }) →
    mutex < length ms
there_by ms ks mutex None h = slice_get_within ms mutex h.it h.found
there_by ms ks mutex (Some key) h = slice_get_within ms mutex h.array.it h.array.found

-- the mutex of a name is there
pub name_there : (ms : List Mutex) (ks : List Kind) (x : e.LockName) → IsFlatLockName ms ks x → x.mutex < length ms
name_there ms ks x h = there_by ms ks x.mutex x.key h

-- an array ends among the mutexes
pub array_within : (ms : List Mutex) (first : ℕ) → IsArrayAt ms first → first + mutexes_of ms first ≤ length ms
array_within ms first a =
    let count : ℕ = mutexes_of ms first in
    let inside : first < length ms = slice_get_within ms first a.it a.found in
    let cut : length (take count (drop first ms)) ≡ min count (length ms - first) = length-take count (drop first ms) ∙ ap (min count) (length-drop first ms) in
    let whole : length (take count (drop first ms)) ≡ count = ap length a.whole ∙ length-replicate count a.it in
    omega (arith, inside, cut, whole)

single_found : (ms : List Mutex) (n : ℕ) (it : Mutex) → AllByRecursion IsSingle ms → slice_get ms n ≡ Some it → IsSingle it
single_found [] n it h g = absurd (none-some it g)
single_found (m ∷ ms) zero it h g = subst IsSingle (same_Some m it g) h.0
single_found (m ∷ ms) (suc n) it h g = single_found ms n it h.1 g

-- where no mutex is in an array, there is none
no_array : (ms : List Mutex) (first : ℕ) → AllByRecursion IsSingle ms → IsArrayAt ms first → ⊥
no_array ms first single a =
    let array : is_some a.it.length ≡ true = a.array in
    true≢false (sym array ∙ ap (λ (o : Option ℕ). is_some o) (single_found ms first a.it single a.found))

keyless_by : (ms : List Mutex) (ks : List Kind) (mutex : ℕ) (key : Option e.Placed) → AllByRecursion IsSingle ms →
    IsFlatLockName ms ks (record { mutex = mutex; key = key }) → key ≡ None
keyless_by ms ks mutex None single h = refl
keyless_by ms ks mutex (Some key) single h = absurd (no_array ms mutex single h.array)

-- and no name has a key
pub plain_name : (ms : List Mutex) (ks : List Kind) (x : e.LockName) → AllByRecursion IsSingle ms → IsFlatLockName ms ks x → x.key ≡ None
plain_name ms ks x single h = keyless_by ms ks x.mutex x.key single h

one_guard : (ms : List Mutex) (v : Variable) (guard : Guard) → v.guard ≡ guard → AllByRecursion IsSingle ms → IsGuard ms v →
    (mutex : ℕ) × (v.guard ≡ By mutex)
one_guard ms v (By mutex) is single formed = (mutex, is)
one_guard ms v (Each first) is single formed =
    let each : IsGuard ms (record v { guard = Each first }) = subst (λ (guard : Guard). IsGuard ms (record v { guard = guard })) is formed in
    absurd (no_array ms first single each.0)

-- and one mutex guards each variable
pub one_mutex : (ms : List Mutex) (vs : List Variable) (v : ℕ) → AllByRecursion IsSingle ms → AllByRecursion (IsVariable ms) vs →
    (mutex : ℕ) × (variable_guard vs v ≡ By mutex)
one_mutex ms [] v single formed = (0, refl)
one_mutex ms (x ∷ vs) zero single formed = one_guard ms x x.guard refl single formed.0.guarded
one_mutex ms (x ∷ vs) (suc v) single formed = one_mutex ms vs v single formed.1

-- ---- The lock of a name

-- a name without key has its mutex for its lock
pub plain_lock : (ls : List ℤ) (x : e.LockName) → x.key ≡ None → lock_number ls x ≡ x.mutex
plain_lock ls x h = ap (λ (key : Option e.Placed). lock_number ls (record { mutex = x.mutex; key = key })) h

-- ---- The name of a number

at_from : (n count k : ℕ) → k < count → slice_get (plain_from n count) k ≡ Some (named (n + k))
at_from n zero k h = absurd (omega (arith, h))
at_from n (suc count) zero h = ap (λ (m : ℕ). Some (named m)) (let e : n ≡ n + 0 = omega arith in e)
at_from n (suc count) (suc k) h = at_from (suc n) count k (omega (arith, h)) ∙ ap (λ (m : ℕ). Some (named m)) (let e : suc n + k ≡ n + suc k = omega arith in e)

pub plain_at : (count k : ℕ) → k < count → slice_get (plain_names count) k ≡ Some (named k)
plain_at count k h = at_from 0 count k h ∙ ap (λ (m : ℕ). Some (named m)) (let e : 0 + k ≡ k = omega arith in e)
