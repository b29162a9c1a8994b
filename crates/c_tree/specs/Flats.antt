-- The flat form of a program, as contracts see it: threads without calls.
use Rattle.std.specs.Prelude.{ℕ, List, [], ◌∷◌, map, Option}
use Rattle.ido_base.specs.declared.place.Place.{Place}
use Rattle.ido_ints.specs.declared.kinds.Kind.{Kind}
use Rattle.c_tree.specs.Trees.{Name}
use Rattle.c_tree.specs.Views.{name_of}
use Rattle.c_tree.specs.Programs.{Mutex, Variable, mutex_of, variable_of}
use Rattle.c_tree.specs.Exprs.{Placed, Lvalue, LockName, placed_of, lvalue_of, lock_name_of}
use Rattle.c_tree.specs.declared.flat.Statement as f
use Rattle.c_tree.specs.declared.flat.Arm as arm
use Rattle.c_tree.specs.declared.flat.Thread as thread
use Rattle.c_tree.specs.declared.flat.Flat as flat

mutual
  pub data Statement : Type 0 where
    Assign : (place : Place) → Lvalue → (value : Placed) → Statement
    If : (place : Place) → Arms → (otherwise : Statements) → Statement
    While : (place : Place) → (condition : Placed) → (body : Statements) → Statement
    Do : (place : Place) → (body : Statements) → (condition : Placed) → Statement
    Lock : (place : Place) → LockName → Statement
    Unlock : (place : Place) → LockName → Statement

  pub data Statements : Type 0 where
    no_statement : Statements
    statement_and : Statement → Statements → Statements

  -- conditions, each with what is done where it isn't 0
  pub data Arms : Type 0 where
    no_arm : Arms
    arm_and : (condition : Placed) → (body : Statements) → Arms → Arms

pub record Thread : Type 0 where
  pub name : Name
  -- the kinds of its locals, by their numbers
  pub locals : List Kind
  -- of each the array to whose elements it refers, where it is a reference
  pub refers : List (Option ℕ)
  pub body : Statements
  -- the place of its closing brace
  pub closing : Place

pub record Flat : Type 0 where
  -- by the numbers of locks
  pub mutexes : List Mutex
  pub variables : List Variable
  pub threads : List Thread

-- ---- What the types of `flat` represent
-- `row_of` and `arms_of` need not be believed: `proofs/FlatRows` proves that they agree with `statements_of` and `arms_list_of`.

abbrev mutual
  pub statement_of : f.Statement → Statement
  statement_of (f.Assign place target value) = Assign place (lvalue_of target) (placed_of value)
  statement_of (f.If' place _ arms _ otherwise) = If place (arms_of arms) (row_of otherwise)
  statement_of (f.While' place condition _ body) = While place (placed_of condition) (row_of body)
  statement_of (f.Do' place _ body condition) = Do place (row_of body) (placed_of condition)
  statement_of (f.Lock place lock) = Lock place (lock_name_of lock)
  statement_of (f.Unlock place lock) = Unlock place (lock_name_of lock)

  pub row_of : {m : _} → f.Row_of-Statement m → Statements
  row_of f.end_of-Statement = no_statement
  row_of (f.more_of-Statement x rest) = statement_and (statement_of x) (row_of rest)

  pub arms_of : {m : _} → f.Row_of-Arm m → Arms
  arms_of f.end_of-Arm = no_arm
  arms_of (f.more_of-Arm condition _ body rest) = arm_and (placed_of condition) (row_of body) (arms_of rest)

abbrev pub statements_of : List f.Statement → Statements
statements_of [] = no_statement
statements_of (x ∷ xs) = statement_and (statement_of x) (statements_of xs)

abbrev pub arms_list_of : List arm.Arm → Arms
arms_list_of [] = no_arm
arms_list_of (x ∷ xs) = arm_and (placed_of x.condition) (statements_of x.body.items) (arms_list_of xs)

abbrev pub thread_of : thread.Thread → Thread
thread_of x = record { name = name_of x.name; locals = x.locals.items; refers = x.refers.items; body = statements_of x.body.items; closing = x.closing }

abbrev pub flat_of : flat.Flat → Flat
flat_of x = record { mutexes = map mutex_of x.mutexes.items; variables = map variable_of x.variables.items; threads = map thread_of x.threads.items }
