-- A program whose names are resolved and whose kinds are fixed, as contracts see it.
use Rattle.std.specs.Prelude.{ℕ, List, [], ◌∷◌, map, Option, ℤ}
use Rattle.std.specs.Option.{option_map}
use Rattle.ido_base.specs.declared.place.Place.{Place}
use Rattle.ido_ints.specs.declared.kinds.Kind.{Kind}
use Rattle.c_tree.specs.Trees.{Name}
use Rattle.c_tree.specs.Exprs.{Placed, Lvalue, LockName, placed_of, lvalue_of, lock_name_of}
use Rattle.c_tree.specs.Views.{name_of}
use Rattle.c_tree.specs.declared.program.Mutex as mutex
use Rattle.c_tree.specs.declared.program.Guard as guard
use Rattle.c_tree.specs.declared.program.Guard.TheVariants as guards
use Rattle.c_tree.specs.declared.program.Variable as variable
use Rattle.c_tree.specs.declared.program.Statement as p
use Rattle.c_tree.specs.declared.program.Arm as arm
use Rattle.c_tree.specs.declared.program.Returned as returned
use Rattle.c_tree.specs.declared.program.Function as function
use Rattle.c_tree.specs.declared.program.Thread as thread
use Rattle.c_tree.specs.declared.program.Program as program

-- a mutex, or an element of an array of mutexes
pub record Mutex : Type 0 where
  pub name : Name
  -- elements of its array; none where it is in none
  pub length : Option ℕ

-- what guards a variable
pub data Guard : Type 0 where
  -- the mutex of that number guards all of it
  By : (mutex : ℕ) → Guard
  -- of an array of mutexes, the first of which has that number, each guards the element of its place
  Each : (first : ℕ) → Guard

pub record Variable : Type 0 where
  pub name : Name
  pub guard : Guard
  pub kind : Kind
  -- the array to whose elements it refers, where it has references
  pub refers : Option ℕ
  -- elements of an array; none where it is no array
  pub length : Option ℕ
  -- a number for each element
  pub initial : List ℤ

mutual
  pub data Statement : Type 0 where
    Assign : (place : Place) → Lvalue → (value : Placed) → Statement
    -- a call by the name at `name`, and the assignment of its result
    Call : (place : Place) → (name : Place) → (function : ℕ) → (arguments : List Placed) → (result : Option Lvalue) → Statement
    If : (place : Place) → Arms → (otherwise : Statements) → Statement
    While : (place : Place) → (condition : Placed) → (body : Statements) → Statement
    Do : (place : Place) → (body : Statements) → (condition : Placed) → Statement
    Lock : (place : Place) → LockName → Statement
    Unlock : (place : Place) → LockName → Statement

  pub data Statements : Type 0 where
    no_statement : Statements
    statement_and : Statement → Statements → Statements

  -- conditions, each with what is done where it isn't 0
  pub data Arms : Type 0 where
    no_arm : Arms
    arm_and : (condition : Placed) → (body : Statements) → Arms → Arms

-- what a function gives
pub record Returned : Type 0 where
  pub kind : Kind
  pub value : Placed

pub record Function : Type 0 where
  pub name : Name
  -- how many of its locals, the first ones, are its parameters
  pub parameters : ℕ
  pub locals : List Kind
  -- of each the array to whose elements it refers, where it is a reference
  pub refers : List (Option ℕ)
  pub body : Statements
  pub result : Option Returned

pub record Thread : Type 0 where
  pub name : Name
  pub locals : List Kind
  -- of each the array to whose elements it refers, where it is a reference
  pub refers : List (Option ℕ)
  pub body : Statements
  -- the place of its closing brace
  pub closing : Place

pub record Program : Type 0 where
  -- by the numbers of locks: an array of mutexes has as many as it has elements
  pub mutexes : List Mutex
  pub variables : List Variable
  pub functions : List Function
  pub threads : List Thread

-- ---- What the types of `program` represent
-- `row_of` and `arms_of` need not be believed: `proofs/ProgramRows` proves that they agree with `statements_of` and `arms_list_of`.

abbrev pub mutex_of : mutex.Mutex → Mutex
mutex_of x = record { name = name_of x.name; length = x.length }

abbrev pub guard_of : guard.Guard → Guard
guard_of (guards.By mutex) = By mutex
guard_of (guards.Each first) = Each first

abbrev pub variable_of : variable.Variable → Variable
variable_of x = record { name = name_of x.name; guard = guard_of x.guard; kind = x.kind; refers = x.refers; length = x.length; initial = x.initial.items }

abbrev mutual
  pub statement_of : p.Statement → Statement
  statement_of (p.Assign place target value) = Assign place (lvalue_of target) (placed_of value)
  statement_of (p.Call place name function arguments result) = Call place name function (map placed_of arguments.items) (option_map lvalue_of result)
  statement_of (p.If' place _ arms _ otherwise) = If place (arms_of arms) (row_of otherwise)
  statement_of (p.While' place condition _ body) = While place (placed_of condition) (row_of body)
  statement_of (p.Do' place _ body condition) = Do place (row_of body) (placed_of condition)
  statement_of (p.Lock place lock) = Lock place (lock_name_of lock)
  statement_of (p.Unlock place lock) = Unlock place (lock_name_of lock)

  pub row_of : {m : _} → p.Row_of-Statement m → Statements
  row_of p.end_of-Statement = no_statement
  row_of (p.more_of-Statement x rest) = statement_and (statement_of x) (row_of rest)

  pub arms_of : {m : _} → p.Row_of-Arm m → Arms
  arms_of p.end_of-Arm = no_arm
  arms_of (p.more_of-Arm condition _ body rest) = arm_and (placed_of condition) (row_of body) (arms_of rest)

abbrev pub statements_of : List p.Statement → Statements
statements_of [] = no_statement
statements_of (x ∷ xs) = statement_and (statement_of x) (statements_of xs)

abbrev pub arms_list_of : List arm.Arm → Arms
arms_list_of [] = no_arm
arms_list_of (x ∷ xs) = arm_and (placed_of x.condition) (statements_of x.body.items) (arms_list_of xs)

abbrev pub returned_of : returned.Returned → Returned
returned_of x = record { kind = x.kind; value = placed_of x.value }

abbrev pub function_of : function.Function → Function
function_of x = record {
  name = name_of x.name;
  parameters = x.parameters;
  locals = x.locals.items;
  refers = x.refers.items;
  body = statements_of x.body.items;
  result = option_map returned_of x.result;
}

abbrev pub thread_of : thread.Thread → Thread
thread_of x = record { name = name_of x.name; locals = x.locals.items; refers = x.refers.items; body = statements_of x.body.items; closing = x.closing }

abbrev pub program_of : program.Program → Program
program_of x = record {
  mutexes = map mutex_of x.mutexes.items;
  variables = map variable_of x.variables.items;
  functions = map function_of x.functions.items;
  threads = map thread_of x.threads.items;
}
