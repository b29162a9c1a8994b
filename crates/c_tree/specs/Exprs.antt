-- Expressions whose names are resolved and whose kinds are fixed, as contracts see them.
use Rattle.std.specs.Prelude.{ℕ, Option}
use Rattle.std.specs.Option.{option_map}
use Rattle.ido_base.specs.declared.place.Place.{Place}
use Rattle.ido_ints.specs.declared.kinds.Kind.{Kind}
use Rattle.ido_ints.specs.declared.operators.Unary as u
use Rattle.ido_ints.specs.declared.operators.Binary as b
use Rattle.ido_ints.specs.TypedNumbers.{Typed}
use Rattle.c_tree.specs.declared.expr.Expr as e
use Rattle.c_tree.specs.declared.expr.Placed as placed
use Rattle.c_tree.specs.declared.expr.LockName as lock
use Rattle.c_tree.specs.declared.expr.LockRef as lock_ref
use Rattle.c_tree.specs.declared.expr.PlacedRef as placed_ref
use Rattle.c_tree.specs.declared.expr.Lvalue as target
use Rattle.c_tree.specs.declared.expr.Lvalue.TheVariants as targets

pub data Expr : Type 0 where
  Constant : (value : Typed) → Expr
  Local : (local : ℕ) → Kind → Expr
  -- a persistent variable that is no array, and the place of its name
  Variable : (place : Place) → (variable : ℕ) → Kind → Expr
  -- an element of an array, and the places of its name and of the index's first token
  Element : (place : Place) → (variable : ℕ) → Kind → (index_place : Place) → (index : Expr) → Expr
  -- `&variable[index]`, a reference to the element, and the place of the index's first token
  Address : (variable : ℕ) → (index_place : Place) → (index : Expr) → Expr
  -- the number of the element to which a local refers, of an array whose last element has that number: the index of `*local`, and the place of `*`
  Referent : (place : Place) → (last : ℕ) → (local : ℕ) → Expr
  Unary : u.Unary → (operand : Expr) → Expr
  Cast : Kind → (operand : Expr) → Expr
  -- a conversion that isn't written
  Converted : Kind → (operand : Expr) → Expr
  Binary : b.Binary → (left right : Expr) → Expr
  -- the value that is chosen is converted to the kind
  Conditional : Kind → (condition chosen otherwise : Expr) → Expr

-- an expression and the place of its first token
pub record Placed : Type 0 where
  pub place : Place
  pub expr : Expr

-- the name of a lock: a mutex, by its number, or an element of an array of mutexes, by that of its first one and by a key, which reads locals alone
pub record LockName : Type 0 where
  pub mutex : ℕ
  pub key : Option Placed

-- what is assigned; places are those of names, of a local that is declared that of the declaration, of a parameter that of the call
pub data Lvalue : Type 0 where
  ToLocal : (place : Place) → (local : ℕ) → Kind → Lvalue
  ToVariable : (place : Place) → (variable : ℕ) → Kind → Lvalue
  ToElement : (place : Place) → (variable : ℕ) → Kind → (index : Placed) → Lvalue

-- ---- What the types of `expr` represent

abbrev pub expr_of : e.Expr → Expr
expr_of (e.Constant value) = Constant value
expr_of (e.Local local kind) = Local local kind
expr_of (e.Variable place variable kind) = Variable place variable kind
expr_of (e.Element' place variable kind index_place _ index) = Element place variable kind index_place (expr_of index)
expr_of (e.Address' variable index_place _ index) = Address variable index_place (expr_of index)
expr_of (e.Referent place last local) = Referent place last local
expr_of (e.Unary' operator _ operand) = Unary operator (expr_of operand)
expr_of (e.Cast' kind _ operand) = Cast kind (expr_of operand)
expr_of (e.Converted' kind _ operand) = Converted kind (expr_of operand)
expr_of (e.Binary' operator _ left _ right) = Binary operator (expr_of left) (expr_of right)
expr_of (e.Conditional' kind _ condition _ chosen _ otherwise) = Conditional kind (expr_of condition) (expr_of chosen) (expr_of otherwise)

abbrev pub placed_of : placed.Placed → Placed
placed_of x = record { place = x.place; expr = expr_of x.expr }

abbrev pub lock_name_of : lock.LockName → LockName
lock_name_of x = record { mutex = x.mutex; key = option_map placed_of x.key }

-- names whose keys stand elsewhere
abbrev pub placed_ref_of : placed_ref.PlacedRef → Placed
placed_ref_of x = record { place = x.place; expr = expr_of x.expr.now }

abbrev pub lock_ref_of : lock_ref.LockRef → LockName
lock_ref_of x = record { mutex = x.mutex; key = option_map placed_ref_of x.key }

abbrev pub lvalue_of : target.Lvalue → Lvalue
lvalue_of (targets.Local place local kind) = ToLocal place local kind
lvalue_of (targets.Variable place variable kind) = ToVariable place variable kind
lvalue_of (targets.Element place variable kind index) = ToElement place variable kind (placed_of index)
