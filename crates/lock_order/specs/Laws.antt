-- What the order of locks says of a run.
use Rattle.std.specs.Prelude.{◌≡◌, ◌<◌, ◌≤◌, ℕ, All, slice_get, Some, None}
use Rattle.c_tree.specs.Exprs.{LockName}
use Rattle.c_tree.specs.Flats as f
use Rattle.c_tree.specs.Source.{State, Thread}
use Rattle.c_tree.specs.LockDiscipline.{IsDisciplined}
use Rattle.c_tree.specs.LockNames.{lock_names}
use Rattle.c_tree.specs.Values.{lock_number}
use Rattle.c_tree.specs.WellFormed.{IsWellFormed}
use Rattle.source_machine.specs.Discipline.{IsReachedState}
use Rattle.source_machine.specs.Mutexes.{locks}
use Rattle.lock_order.specs.LockOrder.{lock_from, lock_to, order_fault}

-- of a thread, which wants the one lock and holds the other: by two of its names, of which that of the held one is below that of the wanted one
pub record Ascending (x : f.Flat) (s : State) (number wanted held : ℕ) : Type 0 where
  pub thread : Thread
  pub there : slice_get s.threads number ≡ Some thread
  pub text : f.Thread
  pub its : slice_get x.threads number ≡ Some text
  pub want_number : ℕ
  pub want : LockName
  pub want_there : slice_get (lock_names x text) want_number ≡ Some want
  pub want_is : lock_number thread.locals want ≡ wanted
  pub own_number : ℕ
  pub own : LockName
  pub own_there : slice_get (lock_names x text) own_number ≡ Some own
  pub own_is : lock_number thread.locals own ≡ held
  pub below : lock_to x.mutexes own ≤ lock_from want

-- in every run of a form that keeps the lock discipline and the order of locks, well formed or not, a thread whose next step takes a lock holds only such locks
abbrev pub NamesAscend : Type 0
NamesAscend = (x : f.Flat) (s : State) (thread wanted held : ℕ) → All (IsDisciplined x) x.threads → order_fault x ≡ None → IsReachedState x s →
    locks s thread ≡ Some wanted → slice_get s.holders held ≡ Some (Some thread) → Ascending x s thread wanted held

-- a well formed form that keeps the lock discipline and the order of locks
pub record IsOrdered (x : f.Flat) : Type 0 where
  pub formed : IsWellFormed x
  pub disciplined : All (IsDisciplined x) x.threads
  pub in_order : order_fault x ≡ None

-- in every run of one, a thread whose next step takes a lock holds only locks of lesser numbers: whatever keys are, and so not that lock itself by another name
abbrev pub LocksAscend : Type 0
LocksAscend = (x : f.Flat) (s : State) (thread wanted held : ℕ) → IsOrdered x → IsReachedState x s → locks s thread ≡ Some wanted →
    slice_get s.holders held ≡ Some (Some thread) → held < wanted
