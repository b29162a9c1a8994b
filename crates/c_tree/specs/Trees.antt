-- What is read of a text, as contracts see it. Places are those of first tokens, but where another is named.
use Rattle.std.specs.Prelude.{ℕ, List, Option, Bool}
use Rattle.ido_base.specs.declared.place.Place.{Place}
use Rattle.ido_ints.specs.declared.kinds.Kind.{Kind}
use Rattle.ido_ints.specs.declared.operators.Unary as u
use Rattle.ido_ints.specs.declared.operators.Binary as b
use Rattle.ido_ints.specs.TypedNumbers.{Typed}

pub record Name : Type 0 where
  pub text : List ℕ
  pub place : Place

-- ---- Types

-- the type of a local, of a parameter, of a result or of a variable
pub data TypeName : Type 0 where
  OfKind : Kind → TypeName
  -- `ref(array)`: references to elements of the array
  RefTo : (array : Name) → TypeName

-- ---- Expressions

pub data Expression : Type 0 where
  Number : (place : Place) → (value : Typed) → Expression
  Named : Name → Expression
  -- `array[index]`
  Element : (array : Name) → (index : Expression) → Expression
  -- `null`
  Null : (place : Place) → Expression
  -- `&array[index]`
  Address : (place : Place) → (array : Name) → (index : Expression) → Expression
  -- `*reference`
  Referent : (place : Place) → (reference : Name) → Expression
  -- `(inner)`
  Parenthesised : (place : Place) → (inner : Expression) → Expression
  Unary : (place : Place) → u.Unary → (operand : Expression) → Expression
  -- `(kind)operand`
  Cast : (place : Place) → Kind → (operand : Expression) → Expression
  Binary : b.Binary → (left right : Expression) → Expression
  -- `condition ? then : otherwise`
  Conditional : (condition then otherwise : Expression) → Expression

-- ---- Assignments and calls

pub data Lvalue : Type 0 where
  -- a name, or an element of an array
  Target : Name → (index : Option Expression) → Lvalue
  -- `*reference`
  Followed : (place : Place) → (reference : Name) → Lvalue

pub data Change : Type 0 where
  -- `= value`
  Set : (value : Expression) → Change
  -- `operator= value`
  Update : b.Binary → (value : Expression) → Change
  -- `++`
  Increment : Change
  -- `--`
  Decrement : Change

pub record Assignment : Type 0 where
  pub place : Place
  pub target : Lvalue
  pub change : Change

-- `function(arguments)`
pub record Call : Type 0 where
  pub function : Name
  pub arguments : List Expression

-- ---- Statements

-- what a local begins with
pub data Initial : Type 0 where
  Absent : Initial
  Value : Expression → Initial
  Result : Call → Initial

-- `type_name name = initial`
pub record Declaration : Type 0 where
  pub place : Place
  pub type_name : TypeName
  pub name : Name
  pub initial : Initial

-- the first part of a `for`
pub data First : Type 0 where
  NoFirst : First
  Declared : Declaration → First
  Assigned : Assignment → First

mutual
  pub data Statement : Type 0 where
    BlockOf : Block → Statement
    Empty : (place : Place) → Statement
    Declare : Declaration → Statement
    Assign : Assignment → Statement
    -- `target = call;`
    AssignResult : Lvalue → Call → Statement
    CallOnly : Call → Statement
    If : (place : Place) → Arms → Otherwise → Statement
    While : (place : Place) → (condition : Expression) → Block → Statement
    Do : (place : Place) → Block → (condition : Expression) → Statement
    For : (place : Place) → First → (condition : Option Expression) → (last : Option Assignment) → Block → Statement
    -- `lock(mutex);` or `lock(mutex[key]);`
    Lock : (place : Place) → (mutex : Name) → (key : Option Expression) → Statement
    Unlock : (place : Place) → (mutex : Name) → (key : Option Expression) → Statement

  -- statements in braces, and the places of these
  pub data Block : Type 0 where
    Braced : (opening : Place) → Statements → (closing : Place) → Block

  pub data Statements : Type 0 where
    no_statement : Statements
    statement_and : Statement → Statements → Statements

  -- the conditions of an `if` and its `else if`s, each with its block
  pub data Arms : Type 0 where
    no_arm : Arms
    arm_and : (condition : Expression) → Block → Arms → Arms

  -- what stands after the last `else`
  pub data Otherwise : Type 0 where
    Nothing : Otherwise
    Else : Block → Otherwise

-- ---- Items

-- `return value;`
pub record Return : Type 0 where
  pub place : Place
  pub value : Option Expression

pub record Body : Type 0 where
  pub opening : Place
  pub statements : Statements
  pub returned : Option Return
  pub closing : Place

pub record Parameter : Type 0 where
  pub type_name : TypeName
  pub name : Name

-- `void` is no type of a result
pub record Function : Type 0 where
  pub type_name : Option TypeName
  pub name : Name
  pub parameters : List Parameter
  pub body : Body

-- a number, perhaps with a `-` before it
pub record Signed : Type 0 where
  pub place : Place
  pub negative : Bool
  pub value : Typed

pub data Initialiser : Type 0 where
  -- a number without braces
  Single : Signed → Initialiser
  -- the place of the opening brace, and the numbers
  InBraces : (place : Place) → List Signed → Initialiser

-- the length of an array
pub record Length : Type 0 where
  pub place : Place
  pub value : Typed

-- what guards a variable: a mutex, or each mutex of an array one element, as `mutex[]`
pub record Guard : Type 0 where
  pub mutex : Name
  pub each : Bool

-- `persistent(guard) type_name name[length] = initialiser;`
pub record Persistent : Type 0 where
  pub guard : Guard
  pub type_name : TypeName
  pub name : Name
  pub length : Option Length
  pub initialiser : Option Initialiser

pub record Thread : Type 0 where
  pub name : Name
  pub block : Block

pub data Item : Type 0 where
  -- `mutex name;` or `mutex name[length];`
  MutexItem : Name → (length : Option Length) → Item
  PersistentItem : Persistent → Item
  ThreadItem : Thread → Item
  FunctionItem : Function → Item
