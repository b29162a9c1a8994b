-- The order of locks: a thread takes a lock only while all that it holds are below it. Which `lock` is the first that breaks this, walking through a flat
-- form.
use Rattle.std.specs.Prelude.{ℕ, suc, ◌+◌, List, [], ◌∷◌, ◌++◌, length, slice_get, slice_set, Option, Some, None, Bool, true, false, nat_lt, ◌&&◌}
use Rattle.std.specs.Prelude.{if◌then◌else◌}
use Rattle.std.specs.List.{list_any}
use Rattle.ido_base.specs.declared.place.Place.{Place}
use Rattle.c_tree.specs.Exprs as e
use Rattle.c_tree.specs.Exprs.{LockName}
use Rattle.c_tree.specs.Flats as f
use Rattle.c_tree.specs.LockNames.{Held, holds, held_names, locks_in_all, names_from, none_held, number_in, once}
use Rattle.c_tree.specs.Programs.{Mutex}
use Rattle.c_tree.specs.Ranges.{mutexes_of}
use Rattle.c_tree.specs.Values.{element_at}
use Rattle.lock_order.specs.declared.walk.Met.{Met}

-- ---- Which locks are below which

-- Locks are numbered as their mutexes are declared, those of an array by its elements. The name of an element has one lock where its key is a plain number,
-- and else it may have that of any element of its array. A name is below another where its lock has the lesser number, whichever these two have: it is of an
-- earlier declaration, or both are of one array, by plain numbers, and its number is the lesser.

-- the number of an expression that is a constant: the element that it names as a key
abbrev pub plain_number : e.Expr → Option ℕ
plain_number (e.Constant value) = Some (element_at value)
plain_number _ = None

-- the least number that the lock of a name may have
abbrev pub lock_from : LockName → ℕ
lock_from x = elim x.key [
  | None ↦ x.mutex
  | Some key ↦ elim (plain_number key.expr) [ Some element ↦ x.mutex + element | None ↦ x.mutex ]
]

-- the number after all those that it may have
abbrev pub lock_to : List Mutex → LockName → ℕ
lock_to ms x = elim x.key [
  | None ↦ suc x.mutex
  | Some key ↦ elim (plain_number key.expr) [ Some element ↦ suc (x.mutex + element) | None ↦ x.mutex + mutexes_of ms x.mutex ]
]

-- the one that is held isn't below the wanted one
abbrev pub is_in_way : List Mutex → (wanted own : LockName) → Bool
is_in_way ms wanted own = nat_lt (lock_from wanted) (lock_to ms own)

-- ---- The walk

-- how far a walk through a thread has come: of each of its names, by their numbers, whether it is held there, and each `lock` that it has met, by the number
-- of its name and its place, in the order of the text
pub record Progress : Type 0 where
  pub held : Held
  pub met : List Met

-- a `lock`, and the last one before it of a name that is held there and not below its own
pub record OrderFault : Type 0 where
  pub place : Place
  pub earlier : Place

-- how far a part leads, or the first fault in it
pub data Walked : Type 0 where
  After : Progress → Walked
  Broken : OrderFault → Walked

abbrev pub and_then : Walked → (Progress → Walked) → Walked
and_then (After p) next = next p
and_then (Broken x) next = Broken x

-- afterwards this set is held again
abbrev pub holding : Held → Walked → Walked
holding h w = and_then w (λ p. After (record p { held = h }))

-- the place of a `lock` that was met; where none was, which is never so of a name that the walk holds, the other place
abbrev pub place_or : Place → Option Met → Place
place_or place None = place
place_or place (Some m) = m.place

module _ (ms : List Mutex) (names : List LockName) where
  -- a name that is held is in the way
  abbrev pub is_blocked : Held → (wanted : LockName) → Bool
  is_blocked h wanted = list_any (is_in_way ms wanted) (held_names names h)

  -- the `lock` that was met is of such a name
  abbrev pub was_in_way : Held → (wanted : LockName) → Met → Bool
  was_in_way h wanted m = elim (slice_get names m.name) [
    | Some own ↦ holds h m.name && is_in_way ms wanted own
    | None ↦ false
  ]

  -- the last such `lock`
  abbrev pub last_in_way : Held → (wanted : LockName) → List Met → Option Met
  last_in_way h wanted [] = None
  last_in_way h wanted (m ∷ more) = elim (last_in_way h wanted more) [
    | Some last ↦ Some last
    | None ↦ if was_in_way h wanted m then Some m else None
  ]

  abbrev pub broken : Place → LockName → Progress → OrderFault
  broken place wanted p = record { place = place; earlier = place_or place (last_in_way p.held wanted p.met) }

  abbrev pub locked : Place → LockName → Progress → Progress
  locked place x p = record {
    held = slice_set p.held (number_in names x) true;
    met = p.met ++ record { name = number_in names x; place = place } ∷ [];
  }

  abbrev pub walk_lock : Progress → Place → LockName → Walked
  walk_lock p place x = if is_blocked p.held x then Broken (broken place x p) else After (locked place x p)

  -- an arm begins with the set before the `if`, and so does what is otherwise done; a loop leaves the set before it
  abbrev mutual
    pub walk : Progress → f.Statement → Walked
    walk p (f.Assign place target value) = After p
    walk p (f.If place arms otherwise) = and_then (walk_arms p arms) (λ after. walk_all after otherwise)
    walk p (f.While place condition body) = holding p.held (walk_all p body)
    walk p (f.Do place body condition) = holding p.held (walk_all p body)
    walk p (f.Lock place x) = walk_lock p place x
    walk p (f.Unlock place x) = After (record p { held = slice_set p.held (number_in names x) false })

    pub walk_all : Progress → f.Statements → Walked
    walk_all p f.no_statement = After p
    walk_all p (f.statement_and x rest) = and_then (walk p x) (λ after. walk_all after rest)

    pub walk_arms : Progress → f.Arms → Walked
    walk_arms p f.no_arm = After p
    walk_arms p (f.arm_and condition body rest) = and_then (holding p.held (walk_all p body)) (λ after. walk_arms after rest)

-- a thread begins with no lock held; its locks have these names
abbrev pub walk_thread : List Mutex → f.Thread → Walked
walk_thread ms t =
    let names = names_from 0 ms (once [] (locks_in_all t.body)) in
    walk_all ms names (record { held = none_held (length names); met = [] }) t.body

-- the first fault of the first thread that has one
abbrev pub walk_threads : List Mutex → List f.Thread → Option OrderFault
walk_threads ms [] = None
walk_threads ms (t ∷ ts) = elim (walk_thread ms t) [
  | Broken x ↦ Some x
  | After p ↦ walk_threads ms ts
]

unfoldable pub order_fault : f.Flat → Option OrderFault
order_fault x = walk_threads x.mutexes x.threads
