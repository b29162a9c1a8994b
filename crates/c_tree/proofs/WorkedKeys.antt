-- Worked rows: names of locks that have keys.
use Rattle.std.proofs.Common.{◌≡◌, ℕ, ◌+◌, List, [], ◌∷◌, replicate, Option, Some, None, false, refl, zero, suc, map, Bool, true}
use Rattle.std.specs.Prelude.{pos, codes}
use Rattle.ido_ints.specs.declared.kinds.Kind.TheVariants as kind
use Rattle.ido_ints.specs.declared.operators.Binary.TheVariants as b
use Rattle.ido_ints.specs.Reduction as reduction
use Rattle.c_tree.specs.declared.language.Language.TheVariants.{Plain, Full}
use Rattle.c_tree.specs.declared.rule.Rule as r
use Rattle.c_tree.specs.declared.rule.Rule.TheVariants as rule
use Rattle.c_tree.specs.Exprs as e
use Rattle.c_tree.specs.Programs.{Variable, Each}
use Rattle.c_tree.specs.Programs as p
use Rattle.c_tree.specs.Flats as f
use Rattle.c_tree.specs.LockNames.{lock_names}
use Rattle.c_tree.specs.HoldPrices.{Holding, price_fault, statements_hold}
use Rattle.c_tree.specs.LockDiscipline.{Fault, lock_fault}
use Rattle.c_tree.specs.Ranges.{index_fits, statement_indexes}
use Rattle.c_tree.specs.Source.{start, source_step, runs_from}
use Rattle.c_tree.specs.Temporaries.{temporaries_fault}
use Rattle.c_tree.proofs.Samples.{at, int, name}

abbrev all_of : List f.Statement → f.Statements
all_of [] = f.no_statement
all_of (x ∷ xs) = f.statement_and x (all_of xs)

-- a thread with two locals
abbrev thread : List f.Statement → f.Thread
thread body = record { name = name (codes "t") 50; locals = kind.Int ∷ kind.Int ∷ []; refers = None ∷ None ∷ []; body = all_of body; closing = at 99 }

-- an array of 4 elements, each under a mutex of its own
abbrev array : Variable
array = record { name = name (codes "a") 30; guard = Each 0; kind = kind.Int; refers = None; length = Some 4; initial = replicate 4 (pos 0) }

-- an array of 4 mutexes, and the array that they guard
abbrev flat : List f.Statement → f.Flat
flat body = record { mutexes = replicate 4 (record { name = name (codes "m") 6; length = Some 4 }); variables = array ∷ []; threads = thread body ∷ [] }

abbrev number : ℕ → e.Expr
number n = e.Constant (int n)

abbrev key : ℕ → e.Expr → e.LockName
key place x = record { mutex = 0; key = Some (record { place = at place; expr = x }) }

abbrev lock : ℕ → e.Expr → f.Statement
lock place x = f.Lock (at place) (key place x)

abbrev unlock : ℕ → e.Expr → f.Statement
unlock place x = f.Unlock (at place) (key place x)

abbrev masked : e.Expr
masked = e.Binary b.And (e.Local 0 kind.Int) (number 3)

abbrev assign : ℕ → ℕ → ℕ → f.Statement
assign place local n = f.Assign (at place) (e.ToLocal (at place) local kind.Int) (record { place = at place; expr = number n })

abbrev element : ℕ → e.Expr → e.Expr
element place index = e.Element (at place) 0 kind.Int (at place) index

abbrev store : ℕ → e.Expr → e.Expr → f.Statement
store place index x =
    f.Assign (at place) (e.ToElement (at place) 0 kind.Int (record { place = at place; expr = index })) (record { place = at place; expr = x })

-- the lock is told that has this key
abbrev fault : r.Rule → ℕ → e.LockName → Option Fault
fault found place told = Some (record { rule = found; place = at place; lock = told })

-- the keys that the thread locks, each once, where it stands first
named_once : lock_names (flat []) (thread (lock 60 (number 1) ∷ unlock 61 (number 1) ∷ lock 62 masked ∷ unlock 63 masked ∷ lock 64 (number 1) ∷ []))
    ≡ key 60 (number 1) ∷ key 62 masked ∷ []
named_once = refl

-- one key wherever it stands
gives_back : lock_fault Full (flat (lock 60 masked ∷ unlock 80 masked ∷ [])) ≡ None
unfolding lock_fault
gives_back = refl

locks_again : lock_fault Full (flat (lock 60 masked ∷ lock 61 masked ∷ [])) ≡ fault rule.Again 61 (key 61 masked)
unfolding lock_fault
locks_again = refl

unlocks_another : lock_fault Full (flat (lock 60 (number 1) ∷ unlock 61 (number 2) ∷ [])) ≡ fault rule.NotHeld 61 (key 61 (number 2))
unfolding lock_fault
unlocks_another = refl

ends_held : lock_fault Full (flat (lock 60 (number 1) ∷ lock 61 (number 0) ∷ unlock 62 (number 0) ∷ [])) ≡ fault rule.EndHeld 99 (key 60 (number 1))
unfolding lock_fault
ends_held = refl

-- two keys of one number are two names, and the thread waits for itself
two_names : lock_fault Full (flat (lock 60 (number 1) ∷ lock 61 (e.Binary b.Add (number 0) (number 1)) ∷
    unlock 62 (number 1) ∷ unlock 63 (e.Binary b.Add (number 0) (number 1)) ∷ [])) ≡ None
unfolding lock_fault
two_names = refl

waits_for_itself : runs_from (start (flat (lock 60 (number 1) ∷ lock 61 (e.Binary b.Add (number 0) (number 1)) ∷ []))) (0 ∷ 0 ∷ []) ≡ false
unfolding source_step reduction.from_least_on reduction.residue
waits_for_itself = refl

-- a local that a held key names can't be assigned, till the key isn't held
frozen : lock_fault Full (flat (lock 60 masked ∷ assign 70 0 1 ∷ unlock 80 masked ∷ [])) ≡ fault rule.Frozen 70 (key 60 masked)
unfolding lock_fault
frozen = refl

thawed : lock_fault Full (flat (lock 60 masked ∷ unlock 70 masked ∷ assign 80 0 1 ∷ [])) ≡ None
unfolding lock_fault
thawed = refl

-- another local can
other_local : lock_fault Full (flat (lock 60 masked ∷ assign 70 1 1 ∷ unlock 80 masked ∷ [])) ≡ None
unfolding lock_fault
other_local = refl

-- ---- An element under a mutex of its own

-- the key is spelled as the index is, wherever both stand
guarded : lock_fault Full (flat (lock 60 masked ∷ store 70 masked (element 75 masked) ∷ unlock 80 masked ∷ [])) ≡ None
unfolding lock_fault
guarded = refl

-- without its lock, which is told though no statement names it
unguarded : lock_fault Full (flat (store 70 masked (number 1) ∷ [])) ≡ fault rule.Unheld 70 (key 70 masked)
unfolding lock_fault
unguarded = refl

-- under another element's
other_element : lock_fault Full (flat (lock 60 (number 2) ∷ store 70 (number 1) (number 1) ∷ unlock 80 (number 2) ∷ []))
    ≡ fault rule.Unheld 70 (key 70 (number 1))
unfolding lock_fault
other_element = refl

-- under a key of the same number that is spelled another way
other_spelling : lock_fault Full (flat (lock 60 (number 1) ∷ store 70 (e.Binary b.Add (number 0) (number 1)) (number 1) ∷ unlock 80 (number 1) ∷ []))
    ≡ fault rule.Unheld 70 (key 70 (e.Binary b.Add (number 0) (number 1)))
unfolding lock_fault
other_spelling = refl

-- each use has its own lock, and the value comes before the target
two_elements : lock_fault Full
    (flat (lock 60 masked ∷ lock 61 (number 1) ∷ store 70 masked (element 75 (number 1)) ∷ unlock 80 masked ∷ unlock 81 (number 1) ∷ []))
    ≡ None
unfolding lock_fault
two_elements = refl

one_of_two : lock_fault Full (flat (lock 60 masked ∷ store 70 masked (element 75 (number 1)) ∷ unlock 80 masked ∷ []))
    ≡ fault rule.Unheld 75 (key 75 (number 1))
unfolding lock_fault
one_of_two = refl

-- an index that reads an element is no key
read_index : lock_fault Full (flat (lock 60 (number 1) ∷ store 70 (element 75 (number 1)) (number 1) ∷ unlock 80 (number 1) ∷ []))
    ≡ fault rule.Unheld 70 (key 70 (element 75 (number 1)))
unfolding lock_fault
read_index = refl

-- ---- As many as may be held

-- so many mutexes in no array
abbrev many : ℕ → List f.Statement → f.Flat
many count body = record { mutexes = replicate count (record { name = name (codes "m") 6; length = None }); variables = []; threads = thread body ∷ [] }

abbrev plain : ℕ → e.LockName
plain n = record { mutex = n; key = None }

-- the first so many are locked, and then what follows
abbrev taken : ℕ → List f.Statement → List f.Statement
taken zero rest = rest
taken (suc n) rest = taken n (f.Lock (at (100 + n)) (plain n) ∷ rest)

abbrev given : ℕ → List f.Statement
given zero = []
given (suc n) = f.Unlock (at (200 + n)) (plain n) ∷ given n

sixteen_held : lock_fault Full (many 17 (taken 16 (given 16))) ≡ None
unfolding lock_fault
sixteen_held = refl

seventeen_held : lock_fault Full (many 17 (taken 17 (given 17))) ≡ fault rule.Held 116 (plain 16)
unfolding lock_fault
seventeen_held = refl

-- where there are no arrays of mutexes
all_held : lock_fault Plain (many 17 (taken 17 (given 17))) ≡ None
unfolding lock_fault
all_held = refl

-- one that is held already is told first
held_again : lock_fault Full (many 17 (taken 16 (f.Lock (at 150) (plain 3) ∷ given 16))) ≡ fault rule.Again 150 (plain 3)
unfolding lock_fault
held_again = refl

-- one is given back before the next is taken
one_after_another : lock_fault Full (many 17 (taken 16 (f.Unlock (at 150) (plain 15) ∷ f.Lock (at 151) (plain 16) ∷ f.Unlock (at 152) (plain 16) ∷ given 15)))
    ≡ None
unfolding lock_fault
one_after_another = refl

-- ---- What it costs to hold

-- over two mutexes
abbrev held_over : List f.Statement → Holding
held_over body = statements_hold (plain 0 ∷ plain 1 ∷ []) (false ∷ false ∷ []) (all_of body)

abbrev lock_plain : ℕ → f.Statement
lock_plain n = f.Lock (at 60) (plain n)

abbrev unlock_plain : ℕ → f.Statement
unlock_plain n = f.Unlock (at 80) (plain n)

-- after the one it is held, and before the other
held_over_two : held_over (lock_plain 0 ∷ unlock_plain 0 ∷ []) ≡ record { price = 16; after = false ∷ false ∷ [] }
held_over_two = refl

-- one that is held already is counted once, and one that isn't held isn't counted
held_once : held_over (lock_plain 0 ∷ lock_plain 0 ∷ unlock_plain 1 ∷ []) ≡ record { price = 24; after = true ∷ false ∷ [] }
held_once = refl

-- after an `if` the set is that at the end of its first arm, and the rest begins with the set before it
first_arm : held_over (lock_plain 0 ∷
    f.If (at 62) (f.arm_and (record { place = at 63; expr = number 1 }) (all_of (unlock_plain 0 ∷ [])) f.no_arm)
    (all_of (unlock_plain 0 ∷ lock_plain 1 ∷ [])) ∷ [])
    ≡ record { price = 40; after = false ∷ false ∷ [] }
first_arm = refl

-- after a loop it is the set before it
after_a_loop : held_over (f.While (at 62) (record { place = at 63; expr = number 1 }) (all_of (lock_plain 0 ∷ [])) ∷ unlock_plain 0 ∷ [])
    ≡ record { price = 8; after = false ∷ false ∷ [] }
after_a_loop = refl

-- a lock is held over so many assignments: 304 and 120 for each of them, without what is held 288 and 112
abbrev assigned : ℕ → List f.Statement → List f.Statement
assigned zero rest = rest
assigned (suc n) rest = assign 70 0 1 ∷ assigned n rest

abbrev held_long : ℕ → f.Flat
held_long n = many 1 (lock_plain 0 ∷ assigned n (unlock_plain 0 ∷ []))

just_cheap : price_fault Full (held_long 543) ≡ None
unfolding price_fault
just_cheap = refl

too_dear : price_fault Full (held_long 544) ≡ Some (at 50)
unfolding price_fault
too_dear = refl

plain_cheap : price_fault Plain (held_long 544) ≡ None
unfolding price_fault
plain_cheap = refl

-- ---- A key is an index of its array

abbrev fits : p.Statement → List Bool
fits x = map (index_fits [] (flat []).mutexes) (statement_indexes x)

key_fits : fits (p.Lock (at 60) (key 65 masked)) ≡ true ∷ []
key_fits = refl

key_at_the_length : fits (p.Lock (at 60) (key 65 (number 4))) ≡ false ∷ []
key_at_the_length = refl

-- what is given back, too
key_below_zero : fits (p.Unlock (at 60) (key 67 (e.Binary b.Sub (number 0) (number 1)))) ≡ false ∷ []
key_below_zero = refl

-- a mutex that is in no array has no index
no_key_fits : fits (p.Lock (at 60) (record { mutex = 0; key = None })) ≡ []
no_key_fits = refl

-- ---- A key needs temporaries

abbrev balanced : ℕ → e.Expr
balanced zero = number 1
balanced (suc n) = e.Binary b.Add (balanced n) (balanced n)

few_in_a_key : temporaries_fault (flat (lock 60 (balanced 3) ∷ unlock 80 (balanced 3) ∷ [])) ≡ None
unfolding temporaries_fault
few_in_a_key = refl

-- it stands where the key does
many_in_a_key : temporaries_fault (flat (lock 60 (balanced 3) ∷ unlock 80 (balanced 4) ∷ [])) ≡ Some (at 80)
unfolding temporaries_fault
many_in_a_key = refl
