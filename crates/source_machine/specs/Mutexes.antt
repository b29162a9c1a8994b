-- The lock that a thread's next step takes or gives back, and those that a thread holds.
use Rattle.std.specs.Prelude.{ℕ, List, [], ◌∷◌, map, slice_get, Option, Some, None, ℤ}
use Rattle.ido_base.specs.Locks.{is_held_by}
use Rattle.c_tree.specs.Flats as f
use Rattle.c_tree.specs.Source as m
use Rattle.c_tree.specs.LockNames.{Held}
use Rattle.c_tree.specs.Values.{lock_number}

-- ---- Statements

-- the lock that a statement takes, where locals have these numbers
abbrev pub lock_of : (locals : List ℤ) → f.Statement → Option ℕ
lock_of ls (f.Lock place name) = Some (lock_number ls name)
lock_of ls (f.Assign place target value) = None
lock_of ls (f.If place arms otherwise) = None
lock_of ls (f.While place condition body) = None
lock_of ls (f.Do place body condition) = None
lock_of ls (f.Unlock place name) = None

-- the lock that a statement gives back
abbrev pub unlock_of : (locals : List ℤ) → f.Statement → Option ℕ
unlock_of ls (f.Unlock place name) = Some (lock_number ls name)
unlock_of ls (f.Assign place target value) = None
unlock_of ls (f.If place arms otherwise) = None
unlock_of ls (f.While place condition body) = None
unlock_of ls (f.Do place body condition) = None
unlock_of ls (f.Lock place name) = None

abbrev pub first_lock : (locals : List ℤ) → List f.Statement → Option ℕ
first_lock ls [] = None
first_lock ls (x ∷ rest) = lock_of ls x

abbrev pub first_unlock : (locals : List ℤ) → List f.Statement → Option ℕ
first_unlock ls [] = None
first_unlock ls (x ∷ rest) = unlock_of ls x

-- ---- Threads

-- the mutex at whose lock the thread stands, if it does
abbrev pub lock_ahead : m.Thread → Option ℕ
lock_ahead thread = elim thread.pending [
  | Some p ↦ None
  | None ↦ first_lock thread.locals thread.left
]

-- the mutex at whose unlock the thread stands, if it does
abbrev pub unlock_ahead : m.Thread → Option ℕ
unlock_ahead thread = elim thread.pending [
  | Some p ↦ None
  | None ↦ first_unlock thread.locals thread.left
]

-- ---- States

-- the mutex that the thread's next step locks, if it locks one
abbrev pub locks : m.State → (thread : ℕ) → Option ℕ
locks s thread = elim (slice_get s.threads thread) [
  | Some found ↦ lock_ahead found
  | None ↦ None
]

-- the mutex that the thread's next step unlocks, if it unlocks one
abbrev pub unlocks : m.State → (thread : ℕ) → Option ℕ
unlocks s thread = elim (slice_get s.threads thread) [
  | Some found ↦ unlock_ahead found
  | None ↦ None
]

-- of each mutex whether the thread holds it
abbrev pub held_by : (thread : ℕ) → List (Option ℕ) → Held
held_by thread holders = map (is_held_by thread) holders
