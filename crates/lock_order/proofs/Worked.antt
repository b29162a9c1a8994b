-- Worked rows: which `lock` is out of order, and after which.
use Rattle.std.proofs.Common.{◌≡◌, ℕ, List, [], ◌∷◌, Option, Some, None, refl}
use Rattle.std.specs.Prelude.{pos}
use Rattle.ido_base.specs.declared.place.Place.{Place}
use Rattle.ido_ints.specs.declared.kinds.Kind.TheVariants as kind
use Rattle.ido_ints.specs.declared.operators.Binary.TheVariants as b
use Rattle.ido_ints.specs.TypedNumbers.{typed}
use Rattle.c_tree.specs.Trees.{Name}
use Rattle.c_tree.specs.Exprs as e
use Rattle.c_tree.specs.Programs.{Mutex}
use Rattle.c_tree.specs.Flats as f
use Rattle.lock_order.specs.LockOrder.{OrderFault, order_fault}

abbrev at : ℕ → Place
at place = record { 0 = place }

abbrev name : Name
name = record { text = []; place = at 0 }

abbrev all_of : List f.Statement → f.Statements
all_of [] = f.no_statement
all_of (x ∷ xs) = f.statement_and x (all_of xs)

abbrev thread : List f.Statement → f.Thread
thread xs = record { name = name; locals = []; refers = []; body = all_of xs; closing = at 99 }

abbrev mutex : Mutex
mutex = record { name = name; length = None }

-- three mutexes, and threads
abbrev flat : List f.Thread → f.Flat
flat ts = record { mutexes = mutex ∷ mutex ∷ mutex ∷ []; variables = []; threads = ts }

abbrev fault : (place earlier : ℕ) → Option OrderFault
fault place earlier = Some (record { place = at place; earlier = at earlier })

abbrev lock : (place mutex : ℕ) → f.Statement
lock place mutex = f.Lock (at place) (record { mutex = mutex; key = None })

abbrev unlock : (mutex : ℕ) → f.Statement
unlock mutex = f.Unlock (at 98) (record { mutex = mutex; key = None })

abbrev nought : e.Placed
nought = record { place = at 97; expr = e.Constant (typed kind.Int (pos 0)) }

abbrev either : (chosen otherwise : List f.Statement) → f.Statement
either chosen otherwise = f.If (at 96) (f.arm_and nought (all_of chosen) f.no_arm) (all_of otherwise)

in_order : order_fault (flat (thread (lock 1 0 ∷ lock 2 1 ∷ unlock 1 ∷ lock 3 2 ∷ unlock 2 ∷ unlock 0 ∷ lock 4 0 ∷ unlock 0 ∷ []) ∷ [])) ≡ None
unfolding order_fault
in_order = refl

-- two threads that lock two mutexes in opposite orders: the second is at fault
opposite : order_fault (flat (thread (lock 44 0 ∷ lock 53 1 ∷ unlock 1 ∷ unlock 0 ∷ []) ∷ thread (lock 82 1 ∷ lock 91 0 ∷ unlock 0 ∷ unlock 1 ∷ []) ∷ []))
    ≡ fault 91 82
unfolding order_fault
opposite = refl

-- no mutex is below itself
again : order_fault (flat (thread (lock 1 0 ∷ lock 2 0 ∷ []) ∷ [])) ≡ fault 2 1
unfolding order_fault
again = refl

-- of two that are in the way the one that was locked last, which may be the lesser one
last_of_two : order_fault (flat (thread (lock 1 1 ∷ lock 2 2 ∷ lock 3 0 ∷ []) ∷ [])) ≡ fault 3 2
unfolding order_fault
last_of_two = refl

-- one that has been unlocked is in no way
unlocked : order_fault (flat (thread (lock 1 1 ∷ lock 2 2 ∷ unlock 2 ∷ lock 3 0 ∷ []) ∷ [])) ≡ fault 3 1
unfolding order_fault
unlocked = refl

-- one that is below isn't either, although it is locked last
below : order_fault (flat (thread (lock 1 2 ∷ unlock 2 ∷ lock 2 0 ∷ lock 3 2 ∷ lock 4 1 ∷ []) ∷ [])) ≡ fault 4 3
unfolding order_fault
below = refl

-- the last lock of a mutex in the text may stand in another arm
in_another_arm : order_fault (flat (thread (lock 1 1 ∷ either (unlock 1 ∷ lock 2 1 ∷ []) (lock 3 0 ∷ []) ∷ []) ∷ [])) ≡ fault 3 2
unfolding order_fault
in_another_arm = refl

after_both_arms : order_fault (flat (thread (either (lock 1 1 ∷ []) (lock 2 1 ∷ []) ∷ lock 3 0 ∷ []) ∷ [])) ≡ fault 3 2
unfolding order_fault
after_both_arms = refl

-- what an arm holds, the next one doesn't
apart : order_fault (flat (thread (either (lock 1 1 ∷ unlock 1 ∷ []) (lock 2 0 ∷ unlock 0 ∷ []) ∷ []) ∷ [])) ≡ None
unfolding order_fault
apart = refl

in_a_loop : order_fault (flat (thread (lock 1 2 ∷ f.While (at 95) nought (all_of (lock 2 1 ∷ unlock 1 ∷ [])) ∷ unlock 2 ∷ []) ∷ [])) ≡ fault 2 1
unfolding order_fault
in_a_loop = refl

-- the first thread that has a fault
first_thread : order_fault (flat (thread (lock 1 1 ∷ lock 2 0 ∷ []) ∷ thread (lock 3 2 ∷ lock 4 0 ∷ []) ∷ [])) ≡ fault 2 1
unfolding order_fault
first_thread = refl

-- ---- Arrays of mutexes

element_of : (elements : ℕ) → Mutex
element_of elements = record { name = name; length = Some elements }

-- two arrays of two mutexes each, whose first ones have the numbers 0 and 2, one mutex after them, and threads
with_arrays : List f.Thread → f.Flat
unfolding element_of
with_arrays ts = record {
  mutexes = element_of 2 ∷ element_of 2 ∷ element_of 2 ∷ element_of 2 ∷ mutex ∷ [];
  variables = [];
  threads = ts;
}

abbrev number : ℕ → e.Expr
number n = e.Constant (typed kind.Int (pos n))

-- `i & 1`
abbrev masked : e.Expr
masked = e.Binary b.And (e.Local 0 kind.Int) (number 1)

abbrev lock_at : (place first : ℕ) → e.Expr → f.Statement
lock_at place first key = f.Lock (at place) (record { mutex = first; key = Some (record { place = at 97; expr = key }) })

abbrev unlock_at : (first : ℕ) → e.Expr → f.Statement
unlock_at first key = f.Unlock (at 98) (record { mutex = first; key = Some (record { place = at 97; expr = key }) })

-- elements of one array by plain numbers that rise
elements_rise : order_fault (with_arrays (thread (lock_at 1 0 (number 0) ∷ lock_at 2 0 (number 1) ∷ []) ∷ [])) ≡ None
unfolding order_fault with_arrays element_of
elements_rise = refl

elements_fall : order_fault (with_arrays (thread (lock_at 1 0 (number 1) ∷ lock_at 2 0 (number 0) ∷ []) ∷ [])) ≡ fault 2 1
unfolding order_fault with_arrays element_of
elements_fall = refl

-- the number of another kind is another key, and names that element too
same_element : order_fault (with_arrays (thread (lock_at 1 0 (number 1) ∷ lock_at 2 0 (e.Constant (typed kind.Long (pos 1))) ∷ []) ∷ [])) ≡ fault 2 1
unfolding order_fault with_arrays element_of
same_element = refl

-- any other key may name any element, and so isn't above one that is held, nor below one that is wanted
any_wanted : order_fault (with_arrays (thread (lock_at 1 0 (number 0) ∷ lock_at 2 0 masked ∷ []) ∷ [])) ≡ fault 2 1
unfolding order_fault with_arrays element_of
any_wanted = refl

any_held : order_fault (with_arrays (thread (lock_at 1 0 masked ∷ lock_at 2 0 (number 1) ∷ []) ∷ [])) ≡ fault 2 1
unfolding order_fault with_arrays element_of
any_held = refl

-- two arrays by their declarations, whatever the keys are, and a mutex after both
arrays_rise : order_fault (with_arrays (thread (lock_at 1 0 masked ∷ lock_at 2 2 masked ∷ lock 3 4 ∷ []) ∷ [])) ≡ None
unfolding order_fault with_arrays element_of
arrays_rise = refl

arrays_fall : order_fault (with_arrays (thread (lock_at 1 2 (number 0) ∷ lock_at 2 0 masked ∷ []) ∷ [])) ≡ fault 2 1
unfolding order_fault with_arrays element_of
arrays_fall = refl

mutex_before : order_fault (with_arrays (thread (lock 1 4 ∷ lock_at 2 2 (number 1) ∷ []) ∷ [])) ≡ fault 2 1
unfolding order_fault with_arrays element_of
mutex_before = refl

-- an element that was given back is in no way
element_unlocked : order_fault (with_arrays
    (thread (lock_at 1 0 (number 1) ∷ unlock_at 0 (number 1) ∷ lock_at 2 0 (number 0) ∷ lock_at 3 0 (number 1) ∷ []) ∷ [])) ≡ None
unfolding order_fault with_arrays element_of
element_unlocked = refl

-- the last `lock` of the name that is held is told, and not one of another name of its array
told_by_name : order_fault (with_arrays (thread
    (lock_at 1 2 masked
    ∷ either (unlock_at 2 masked ∷ lock_at 2 2 (number 1) ∷ unlock_at 2 (number 1) ∷ []) (lock_at 3 0 (number 0) ∷ [])
    ∷ []) ∷ [])) ≡ fault 3 1
unfolding order_fault with_arrays element_of
told_by_name = refl
