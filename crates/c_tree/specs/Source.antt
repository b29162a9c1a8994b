-- The source's own meaning: what its threads have left to do, and what a step of one does. It knows no graph, no register,
-- no line and no log.
use Rattle.std.specs.Prelude.{ℕ, ◌+◌, List, [], ◌∷◌, ◌++◌, length, map, replicate, slice_index_or, slice_get, slice_set}
use Rattle.std.specs.Prelude.{Option, Some, None, Bool, true, false, not, ◌&&◌, if◌then◌else◌, ℤ, pos}
use Rattle.ido_base.specs.Locks.{holds_none}
use Rattle.ido_ints.specs.TypedNumbers.{Typed}
use Rattle.ido_ints.specs.Operators.{is_zero}
use Rattle.ido_ints.specs.Reduction.{reduced}
use Rattle.c_tree.specs.Exprs.{Expr, Placed, Lvalue, ToLocal, ToVariable, ToElement}
use Rattle.c_tree.specs.Values.{element_at, value, lock_number}
use Rattle.c_tree.specs.Flats as f
use Rattle.c_tree.specs.Programs.{Variable}

-- ---- States

-- a store that is still to be made
pub record Pending : Type 0 where
  pub variable : ℕ
  pub element : ℕ
  pub number : ℤ

pub record Thread : Type 0 where
  -- the statements still to do; no `do` is at the front of them
  pub left : List f.Statement
  pub locals : List ℤ
  pub pending : Option Pending
  -- the thread's last step is done
  pub ended : Bool

pub record State : Type 0 where
  -- of each variable the numbers of its elements
  pub variables : List (List ℤ)
  -- of each mutex the thread that holds it, or none
  pub holders : List (Option ℕ)
  pub threads : List Thread

-- ---- What is left to do

-- a `do` is its body, and then a `while`
abbrev mutual
  pub opened : f.Statement → List f.Statement
  opened (f.Do place body condition) = opened_all body ++ (f.While place condition body ∷ [])
  opened (f.Assign place target value) = f.Assign place target value ∷ []
  opened (f.If place arms otherwise) = f.If place arms otherwise ∷ []
  opened (f.While place condition body) = f.While place condition body ∷ []
  opened (f.Lock place lock) = f.Lock place lock ∷ []
  opened (f.Unlock place lock) = f.Unlock place lock ∷ []

  pub opened_all : f.Statements → List f.Statement
  opened_all f.no_statement = []
  opened_all (f.statement_and x rest) = opened x ++ opened_all rest

-- all free, with the initial numbers and whole bodies; a local is assigned before it is read
abbrev pub thread_start : f.Thread → Thread
thread_start x = record { left = opened_all x.body; locals = replicate (length x.locals) (pos 0); pending = None; ended = false }

abbrev pub start : f.Flat → State
start x = record {
  variables = map (λ (v : Variable). v.initial) x.variables;
  holders = replicate (length x.mutexes) None;
  threads = map thread_start x.threads;
}

-- ---- Steps: assignment (C11 6.5.16), selection (6.8.4) and iteration (6.8.5)

abbrev pub with_thread : State → ℕ → Thread → State
with_thread s t thread = record s { threads = slice_set s.threads t thread }

abbrev pub with_holder : State → (mutex : ℕ) → Option ℕ → State
with_holder s mutex holder = record s { holders = slice_set s.holders mutex holder }

abbrev pub stored : State → Pending → State
stored s p = record s { variables = slice_set s.variables p.variable (slice_set (slice_index_or s.variables p.variable []) p.element p.number) }

abbrev pub value_in : State → Thread → Expr → Typed
value_in s thread x = value thread.locals s.variables x

-- the thread once it has evaluated a value for a target: a local has it, a store of a variable is pending
abbrev pub evaluated : State → Thread → Lvalue → Expr → Thread
evaluated s thread (ToLocal place local kind) x =
    record thread { locals = slice_set thread.locals local (reduced kind (value_in s thread x).number) }
evaluated s thread (ToVariable place variable kind) x =
    record thread { pending = Some (record { variable = variable; element = 0; number = reduced kind (value_in s thread x).number }) }
evaluated s thread (ToElement place variable kind index) x =
    record thread {
      pending = Some (record {
        variable = variable;
        element = element_at (value_in s thread index.expr);
        number = reduced kind (value_in s thread x).number;
      });
    }

abbrev pub is_true : State → Thread → Placed → Bool
is_true s thread condition = not (is_zero (value_in s thread condition.expr).number)

-- what is left of an `if` whose first condition is tested
abbrev pub tested : (holds : Bool) → (body more otherwise : List f.Statement) → f.Arms → List f.Statement
tested holds body more otherwise arms = if holds then body else elim arms [
  | f.no_arm ↦ otherwise
  | f.arm_and condition next rest ↦ more
]

-- a step of thread t by the statement at its front, with the others after it; none where it can't be made now
abbrev pub statement_step : State → ℕ → Thread → f.Statement → (rest : List f.Statement) → Option State
statement_step s t thread (f.Assign place target x) rest = Some (with_thread s t (record (evaluated s thread target x.expr) { left = rest }))
statement_step s t thread (f.If place f.no_arm otherwise) rest = None
statement_step s t thread (f.If place (f.arm_and condition body arms) otherwise) rest =
    Some (with_thread s t (record thread {
      left = tested (is_true s thread condition) (opened_all body) (f.If place arms otherwise ∷ []) (opened_all otherwise) arms ++ rest;
    }))
statement_step s t thread (f.While place condition body) rest =
    Some (with_thread s t (record thread { left = if is_true s thread condition then opened_all body ++ (f.While place condition body ∷ rest) else rest }))
statement_step s t thread (f.Do place body condition) rest = None
statement_step s t thread (f.Lock place lock) rest = elim (slice_get s.holders (lock_number thread.locals lock)) [
  | Some None ↦ Some (with_thread (with_holder s (lock_number thread.locals lock) (Some t)) t (record thread { left = rest }))
  | _ ↦ None
]
statement_step s t thread (f.Unlock place lock) rest =
    Some (with_thread (with_holder s (lock_number thread.locals lock) None) t (record thread { left = rest }))

-- after the last statement stands one more step, the end
abbrev pub left_step : State → ℕ → Thread → List f.Statement → Option State
left_step s t thread [] = if thread.ended then None else Some (with_thread s t (record thread { ended = true }))
left_step s t thread (x ∷ rest) = statement_step s t thread x rest

-- a pending store comes first
abbrev pub thread_step : State → ℕ → Thread → Option State
thread_step s t thread = elim thread.pending [
  | Some p ↦ Some (with_thread (stored s p) t (record thread { pending = None }))
  | None ↦ left_step s t thread thread.left
]

-- the state after a step of thread t; none where there is no such step
unfoldable pub source_step : State → ℕ → Option State
source_step s t = elim (slice_get s.threads t) [
  | Some thread ↦ thread_step s t thread
  | None ↦ None
]

-- ---- Runs

-- the state after the longest prefix of a schedule that can be stepped
abbrev pub after_from : State → (schedule : List ℕ) → State
after_from s [] = s
after_from s (t ∷ ts) = elim (source_step s t) [
  | None ↦ s
  | Some next ↦ after_from next ts
]

-- the whole schedule can be stepped
abbrev pub runs_from : State → (schedule : List ℕ) → Bool
runs_from s [] = true
runs_from s (t ∷ ts) = elim (source_step s t) [
  | None ↦ false
  | Some next ↦ runs_from next ts
]

-- the thread stands between sections
abbrev pub is_between : State → (thread : ℕ) → Bool
is_between s thread = holds_none s.holders thread

-- a step from the one state to the other ends a section of the thread
abbrev pub ends_section : State → State → (thread : ℕ) → ℕ
ends_section before after thread = if not (is_between before thread) && is_between after thread then 1 else 0

-- how many sections of the thread end in the longest prefix of a schedule that can be stepped
abbrev pub ended_from : State → (schedule : List ℕ) → (thread : ℕ) → ℕ
ended_from s [] thread = 0
ended_from s (t ∷ ts) thread = elim (source_step s t) [
  | None ↦ 0
  | Some next ↦ ends_section s next thread + ended_from next ts thread
]
