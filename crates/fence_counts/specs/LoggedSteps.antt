-- How many steps of a thread are logged by themselves, where its locals stand in its log: those that take a lock or give one back, those that store to a
-- variable, and while it holds a lock those that assign a local. By the source alone.
use Rattle.std.specs.Prelude.{ℕ, ◌+◌, List, [], ◌∷◌, slice_get, Some, None, Bool, true, false, not, ◌&&◌, ◌==◌, if◌then◌else◌}
use Rattle.c_tree.specs.Exprs.{Lvalue, ToLocal, ToVariable, ToElement}
use Rattle.c_tree.specs.Flats as f
use Rattle.c_tree.specs.Source.{State, Thread, is_between, source_step}

-- an assignment of a local is logged while a lock is held; that of a variable when its store is made, which is a step of its own
abbrev pub is_logged_target : (holds : Bool) → Lvalue → Bool
is_logged_target holds (ToLocal place local kind) = holds
is_logged_target holds (ToVariable place variable kind) = false
is_logged_target holds (ToElement place variable kind index) = false

-- the step that a statement at the front begins with
abbrev pub is_logged_statement : (holds : Bool) → f.Statement → Bool
is_logged_statement holds (f.Assign place target value) = is_logged_target holds target
is_logged_statement holds (f.Lock place name) = true
is_logged_statement holds (f.Unlock place name) = true
is_logged_statement holds (f.If place arms otherwise) = false
is_logged_statement holds (f.While place condition body) = false
is_logged_statement holds (f.Do place body condition) = false

-- a thread's end isn't logged
abbrev pub is_logged_first : (holds : Bool) → (left : List f.Statement) → Bool
is_logged_first holds [] = false
is_logged_first holds (x ∷ rest) = is_logged_statement holds x

-- a thread's next step: a pending store comes first
abbrev pub is_logged_next : (holds : Bool) → Thread → Bool
is_logged_next holds thread = elim thread.pending [
  | Some store ↦ true
  | None ↦ is_logged_first holds thread.left
]

-- in a state the next step of the thread of that number, which holds a lock where it doesn't stand between sections
abbrev pub is_logged_step : State → (thread : ℕ) → Bool
is_logged_step s thread = elim (slice_get s.threads thread) [
  | Some found ↦ is_logged_next (not (is_between s thread)) found
  | None ↦ false
]

-- how many of the thread's own steps of a schedule are logged, where that is stepped from the state
abbrev pub steps_logged : State → (schedule : List ℕ) → (thread : ℕ) → ℕ
steps_logged s [] thread = 0
steps_logged s (t ∷ ts) thread = elim (source_step s t) [
  | None ↦ 0
  | Some next ↦ (if t == thread && is_logged_step s thread then 1 else 0) + steps_logged next ts thread
]
