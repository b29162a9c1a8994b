-- The lock discipline along a run: what the threads hold, and what their steps read and write.
use Rattle.std.specs.Prelude.{◌≡◌, ◌≢◌, ◌↔◌, ◌⊎◌, ℕ, List, [], ◌∷◌, length, All, slice_get, Option, Some, None, true, ℤ}
use Rattle.std.specs.List.{AllByRecursion}
use Rattle.c_tree.specs.Programs.{Variable}
use Rattle.c_tree.specs.Flats as f
use Rattle.c_tree.specs.Source as m
use Rattle.c_tree.specs.Source.{State, source_step, start, after_from}
use Rattle.c_tree.specs.Exprs.{LockName}
use Rattle.c_tree.specs.Values.{lock_number}
use Rattle.c_tree.specs.LockNames.{Held, holds, none_held, lock_names}
use Rattle.c_tree.specs.LockDiscipline.{Keeps, IsDisciplined}
use Rattle.c_tree.specs.WellFormed.{IsSingle}
use Rattle.source_machine.specs.ElementLocks.{element_lock, found_number}
use Rattle.source_machine.specs.Mutexes.{locks, unlocks, held_by}

-- ---- States that keep it

-- from the one set, the statements in turn keep the discipline and leave the other
abbrev pub KeepList : List Variable → List LockName → Held → List f.Statement → Held → Type 0
KeepList vs names h [] after = h ≡ after
KeepList vs names h (x ∷ rest) after = (between : Held) × Keeps vs names h x between × KeepList vs names between rest after

-- from the set, what a thread has left keeps the discipline and ends with nothing held
abbrev pub KeepsLeft : f.Flat → List LockName → Held → List f.Statement → Type 0
KeepsLeft x names h left = KeepList x.variables names h left (none_held (length names))

-- some held name has the lock
pub record IsOfName (names : List LockName) (h : Held) (locals : List ℤ) (lock : ℕ) : Type 0 where
  pub number : ℕ
  pub name : LockName
  pub there : slice_get names number ≡ Some name
  pub held : holds h number ≡ true
  pub is : lock_number locals name ≡ lock

-- a thread holds exactly the locks of these names, where locals have these numbers, and no two of them are one lock
pub record HoldsNames (names : List LockName) (h : Held) (locals : List ℤ) (holders : List (Option ℕ)) (number : ℕ) : Type 0 where
  pub all : (name : ℕ) (x : LockName) → slice_get names name ≡ Some x → holds h name ≡ true → slice_get holders (lock_number locals x) ≡ Some (Some number)
  pub only : (lock : ℕ) → slice_get holders lock ≡ Some (Some number) → IsOfName names h locals lock
  pub apart : (one other : ℕ) (x y : LockName) → slice_get names one ≡ Some x → slice_get names other ≡ Some y → holds h one ≡ true → holds h other ≡ true →
      lock_number locals x ≡ lock_number locals y → one ≡ other

-- what a thread of the form has left keeps the discipline from a set, it holds exactly the locks of that set, and among them that of the element that its
-- pending store is to
pub record ThreadKeeps (x : f.Flat) (number : ℕ) (holders : List (Option ℕ)) (thread : m.Thread) : Type 0 where
  pub text : f.Thread
  pub its : slice_get x.threads number ≡ Some text
  pub set : Held
  pub held : HoldsNames (lock_names x text) set thread.locals holders number
  pub left : KeepsLeft x (lock_names x text) set thread.left
  pub pending : (p : m.Pending) → thread.pending ≡ Some p → slice_get holders (element_lock x.variables p.variable p.element) ≡ Some (Some number)

-- each thread keeps the discipline, and holds what its place says
pub record StateKeeps (x : f.Flat) (s : State) : Type 0 where
  pub locks : length s.holders ≡ length x.mutexes
  pub each : (number : ℕ) (thread : m.Thread) → slice_get s.threads number ≡ Some thread → ThreadKeeps x number s.holders thread

-- a run of the flat form reaches the state, whatever numbers its variables begin with: in the first life or in a later one
pub record IsReachedState (x : f.Flat) (s : State) : Type 0 where
  pub variables : List (List ℤ)
  pub schedule : List ℕ
  pub is : s ≡ after_from (record (start x) { variables = variables }) schedule

-- a form whose threads keep the discipline begins with such a state
abbrev pub StartKeeps : Type 0
StartKeeps = (x : f.Flat) → All (IsDisciplined x) x.threads → StateKeeps x (start x)

-- each step leads from a state that keeps the discipline to one that does
abbrev pub StepKeeps : Type 0
StepKeeps = (x : f.Flat) (s next : State) (thread : ℕ) → StateKeeps x s → source_step s thread ≡ Some next → StateKeeps x next

-- each run leads from a state that keeps the discipline to one that does
abbrev pub RunKeeps : Type 0
RunKeeps = (x : f.Flat) (s : State) (schedule : List ℕ) → StateKeeps x s → StateKeeps x (after_from s schedule)

-- all states that a form reaches keep the discipline, where its threads do
abbrev pub ReachedKeeps : Type 0
ReachedKeeps = (x : f.Flat) (s : State) → All (IsDisciplined x) x.threads → IsReachedState x s → StateKeeps x s

-- the set before what is left is one
abbrev pub SetIsOne : Type 0
SetIsOne = (vs : List Variable) (names : List LockName) (left : List f.Statement) (h other after : Held) → KeepList vs names h left after →
    KeepList vs names other left after → h ≡ other

-- in a state that keeps the discipline, a thread holds exactly the locks of the set before what it has left
abbrev pub HeldIsGiven : Type 0
HeldIsGiven = (x : f.Flat) (s : State) (number : ℕ) (text : f.Thread) (thread : m.Thread) (h : Held) → StateKeeps x s → slice_get x.threads number ≡ Some text →
    slice_get s.threads number ≡ Some thread → KeepsLeft x (lock_names x text) h thread.left →
    HoldsNames (lock_names x text) h thread.locals s.holders number

-- each name of the set has one lock, by the one locals and by the other
abbrev pub HaveOneLock : List LockName → Held → (one other : List ℤ) → Type 0
HaveOneLock names h one other = (k : ℕ) (x : LockName) → slice_get names k ≡ Some x → holds h k ≡ true → lock_number other x ≡ lock_number one x

-- a step that locks and unlocks nothing leaves the set before what its thread has left, and the lock of each name of it
abbrev pub LeavesNames : Type 0
LeavesNames = (x : f.Flat) (s next : State) (number : ℕ) (text : f.Thread) (before after : m.Thread) (h : Held) → StateKeeps x s →
    source_step s number ≡ Some next → locks s number ≡ None → unlocks s number ≡ None → slice_get x.threads number ≡ Some text →
    slice_get s.threads number ≡ Some before → slice_get next.threads number ≡ Some after → KeepsLeft x (lock_names x text) h before.left →
    KeepsLeft x (lock_names x text) h after.left × HaveOneLock (lock_names x text) h before.locals after.locals

-- where no mutex is in an array, the set before what is left is exactly what the holders say of the thread
abbrev pub PlainIsGiven : Type 0
PlainIsGiven = (x : f.Flat) (s : State) (number : ℕ) (text : f.Thread) (thread : m.Thread) (h : Held) → AllByRecursion IsSingle x.mutexes → StateKeeps x s →
    slice_get x.threads number ≡ Some text → slice_get s.threads number ≡ Some thread →
    KeepsLeft x (lock_names x text) h thread.left ↔ (h ≡ held_by number s.holders)

-- ---- What a step writes

-- the thread holds the lock that guards the element
abbrev pub Guards : f.Flat → State → (thread variable element : ℕ) → Type 0
Guards x s thread variable element = slice_get s.holders (element_lock x.variables variable element) ≡ Some (Some thread)

-- the element is the same in both states: it has one number in both, or its variable has no such element in either
abbrev pub IsSameElement : (s other : State) → (variable element : ℕ) → Type 0
IsSameElement s other variable element = found_number other.variables variable element ≡ found_number s.variables variable element

-- a step changes only elements whose lock its thread holds: none whose lock another holds, and none whose lock is free
abbrev pub WritesGuarded : Type 0
WritesGuarded = (x : f.Flat) (s next : State) (thread variable element : ℕ) → StateKeeps x s → source_step s thread ≡ Some next →
    ¬ (Guards x s thread variable element) → IsSameElement s next variable element

-- a step leaves every element whose lock another thread holds
abbrev pub LeavesOthers : Type 0
LeavesOthers = (x : f.Flat) (s next : State) (thread other variable element : ℕ) → StateKeeps x s → source_step s thread ≡ Some next → other ≢ thread →
    Guards x s other variable element → IsSameElement s next variable element

-- a step leaves what another thread holds
abbrev pub LeavesHeld : Type 0
LeavesHeld = (x : f.Flat) (s next : State) (thread other : ℕ) → StateKeeps x s → source_step s thread ≡ Some next → other ≢ thread →
    held_by other next.holders ≡ held_by other s.holders

-- ---- What a step reads

-- two states look the same to a thread: its own place and locals, the mutexes that it holds, the one at whose lock it stands, and the elements whose lock it
-- holds
pub record LooksSame (x : f.Flat) (s other : State) (thread : ℕ) : Type 0 where
  pub own : slice_get other.threads thread ≡ slice_get s.threads thread
  pub held : (mutex : ℕ) → slice_get s.holders mutex ≡ Some (Some thread) → slice_get other.holders mutex ≡ slice_get s.holders mutex
  pub ahead : (mutex : ℕ) → locks s thread ≡ Some mutex → slice_get other.holders mutex ≡ slice_get s.holders mutex
  pub guarded : (variable element : ℕ) → Guards x s thread variable element → IsSameElement s other variable element

-- of two steps, from s to next and from other to after: each leaves the mutex, or it had one holder before both and has one after both
abbrev pub ChangesLockstep : (s next other after : State) (mutex : ℕ) → Type 0
ChangesLockstep s next other after mutex =
    ((slice_get next.holders mutex ≡ slice_get s.holders mutex) × (slice_get after.holders mutex ≡ slice_get other.holders mutex))
    ⊎ ((slice_get other.holders mutex ≡ slice_get s.holders mutex) × (slice_get after.holders mutex ≡ slice_get next.holders mutex))

-- the thread makes the same step from the other state: it is the same afterwards, so are the elements that it guarded, and each mutex changes in lockstep
pub record StepsLockstep (x : f.Flat) (s next other : State) (thread : ℕ) : Type 0 where
  pub after : State
  pub is : source_step other thread ≡ Some after
  pub own : slice_get after.threads thread ≡ slice_get next.threads thread
  pub holders : (mutex : ℕ) → ChangesLockstep s next other after mutex
  pub guarded : (variable element : ℕ) → Guards x s thread variable element → IsSameElement next after variable element

-- a step reads only those: from every state that looks the same to the thread the same step is made
abbrev pub ReadsGuarded : Type 0
ReadsGuarded = (x : f.Flat) (s next other : State) (thread : ℕ) → StateKeeps x s → source_step s thread ≡ Some next → LooksSame x s other thread →
    StepsLockstep x s next other thread
