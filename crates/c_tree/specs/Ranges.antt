-- An interval that holds every value that an expression can have, and the indexes of a program.
use Rattle.std.specs.Prelude.{◌≡◌, ℕ, List, [], ◌∷◌, ◌++◌, Contains, flat_map, slice_get, Option, Some, None, Bool}
use Rattle.std.specs.Prelude.{true, ◌&&◌, if◌then◌else◌, ℤ, pos, ◌+ℤ◌, ◌-ℤ◌, ◌*ℤ◌, neg_ℤ, int_le, int_lt, int_div, ◌≤ℤ◌}
use Rattle.std.specs.Int.{int_shr}
use Rattle.std.specs.Ordering.{int_eq}
use Rattle.ido_base.specs.declared.place.Place.{Place}
use Rattle.ido_ints.specs.declared.kinds.Kind.{Kind}
use Rattle.ido_ints.specs.declared.kinds.Kind.TheVariants.{UnsignedLong}
use Rattle.ido_ints.specs.declared.operators.Unary as un
use Rattle.ido_ints.specs.declared.operators.Unary.TheVariants as u
use Rattle.ido_ints.specs.declared.operators.Binary as bin
use Rattle.ido_ints.specs.declared.operators.Binary.TheVariants as b
use Rattle.ido_ints.specs.Kinds.{least_of, greatest_of, promoted, common_of}
use Rattle.ido_ints.specs.Operators.{places}
use Rattle.c_tree.specs.Exprs as e
use Rattle.c_tree.specs.Programs as p
use Rattle.c_tree.specs.Elaboration.{kind_of}

-- the whole numbers from the one to the other
pub record Interval : Type 0 where
  pub lo : ℤ
  pub hi : ℤ

pub record Within (i : Interval) (z : ℤ) : Type 0 where
  pub from_low : i.lo ≤ℤ z
  pub to_high : z ≤ℤ i.hi

-- ---- Intervals

abbrev pub interval : ℤ → ℤ → Interval
interval lo hi = record { lo = lo; hi = hi }

abbrev pub only : ℤ → Interval
only z = interval z z

abbrev pub full : Kind → Interval
full k = interval (least_of k) (greatest_of k)

abbrev pub lies_in : (inner outer : Interval) → Bool
lies_in inner outer = int_le outer.lo inner.lo && int_le inner.hi outer.hi

-- the interval where the kind holds all of it, else the whole range of the kind
abbrev pub fitted : Kind → Interval → Interval
fitted k i = if lies_in i (full k) then i else full k

abbrev pub lesser : ℤ → ℤ → ℤ
lesser x y = if int_le x y then x else y

abbrev pub greater : ℤ → ℤ → ℤ
greater x y = if int_le x y then y else x

-- the least interval that holds both
abbrev pub hull : Interval → Interval → Interval
hull i j = interval (lesser i.lo j.lo) (greater i.hi j.hi)

abbrev pub truth_range : Interval
truth_range = interval (pos 0) (pos 1)

-- the interval has no negative number
abbrev pub from_zero_up : Interval → Bool
from_zero_up i = int_le (pos 0) i.lo

-- the interval has one value, and a positive one
abbrev pub is_positive_value : Interval → Bool
is_positive_value i = int_eq i.lo i.hi && int_lt (pos 0) i.lo

abbrev pub sum : Interval → Interval → Interval
sum i j = interval (i.lo +ℤ j.lo) (i.hi +ℤ j.hi)

abbrev pub difference : Interval → Interval → Interval
difference i j = interval (i.lo -ℤ j.hi) (i.hi -ℤ j.lo)

abbrev pub product : Interval → Interval → Interval
product i j = hull (hull (only (i.lo *ℤ j.lo)) (only (i.lo *ℤ j.hi))) (hull (only (i.hi *ℤ j.lo)) (only (i.hi *ℤ j.hi)))

-- ---- Operators, over operands converted to the kind in which the operator works

abbrev pub and_range : Kind → Interval → Interval → Interval
and_range k i j =
    if from_zero_up i then (if from_zero_up j then interval (pos 0) (lesser i.hi j.hi) else interval (pos 0) i.hi)
    else if from_zero_up j then interval (pos 0) j.hi
    else full k

abbrev pub quotient_range : Kind → Interval → Interval → Interval
quotient_range k i j = if is_positive_value j && from_zero_up i then interval (int_div i.lo j.lo) (int_div i.hi j.lo) else full k

abbrev pub remainder_range : Kind → Interval → Interval → Interval
remainder_range k i j =
    if is_positive_value j
    then (if from_zero_up i then interval (pos 0) (lesser i.hi (j.lo -ℤ pos 1)) else interval (neg_ℤ (j.lo -ℤ pos 1)) (j.lo -ℤ pos 1))
    else full k

-- the interval shifted by a count that is one value, modulo the width
abbrev pub shifted_range : Kind → Interval → (count : Interval) → Interval
shifted_range k i count =
    if int_eq count.lo count.hi && from_zero_up i then interval (int_shr i.lo (places k count.lo)) (int_shr i.hi (places k count.lo)) else full k

abbrev pub unary_range : un.Unary → Kind → Interval → Interval
unary_range u.Plus k i = fitted (promoted k) i
unary_range u.Minus k i = let j = fitted (promoted k) i in fitted (promoted k) (interval (neg_ℤ j.hi) (neg_ℤ j.lo))
unary_range u.Complement k i = full (promoted k)
unary_range u.Not k i = truth_range

abbrev pub binary_range : bin.Binary → Kind → Interval → Kind → Interval → Interval
binary_range operator j left k right =
    let c = common_of j k in
    let x = fitted c left in
    let y = fitted c right in
    elim operator [
      | b.Mul ↦ fitted c (product x y)
      | b.Div ↦ quotient_range c x y
      | b.Rem ↦ remainder_range c x y
      | b.Add ↦ fitted c (sum x y)
      | b.Sub ↦ fitted c (difference x y)
      | b.ShiftLeft ↦ full (promoted j)
      | b.ShiftRight ↦ shifted_range (promoted j) (fitted (promoted j) left) right
      | b.And ↦ and_range c x y
      | b.Xor ↦ full c
      | b.Or ↦ full c
      | _ ↦ truth_range
    ]

-- ---- Expressions

abbrev pub range_of : e.Expr → Interval
range_of (e.Constant value) = only value.number
range_of (e.Local local kind) = full kind
range_of (e.Variable place variable kind) = full kind
range_of (e.Element place variable kind index_place index) = full kind
range_of (e.Address variable index_place index) = full UnsignedLong
-- where the local is a reference to an element of the array
range_of (e.Referent place last local) = interval (pos 0) (pos last)
range_of (e.Unary operator operand) = unary_range operator (kind_of operand) (range_of operand)
range_of (e.Cast kind operand) = fitted kind (range_of operand)
range_of (e.Converted kind operand) = fitted kind (range_of operand)
range_of (e.Binary operator left right) = binary_range operator (kind_of left) (range_of left) (kind_of right) (range_of right)
range_of (e.Conditional kind condition chosen otherwise) = hull (fitted kind (range_of chosen)) (fitted kind (range_of otherwise))

-- ---- The indexes of a program

-- what is indexed: a variable, or an array of mutexes, by the number of its first one
pub data Indexed : Type 0 where
  OfVariable : (variable : ℕ) → Indexed
  OfMutexes : (first : ℕ) → Indexed

pub record Index : Type 0 where
  pub of : Indexed
  -- the place of its first token
  pub place : Place
  pub expr : e.Expr

abbrev pub expr_indexes : e.Expr → List Index
expr_indexes (e.Constant value) = []
expr_indexes (e.Local local kind) = []
expr_indexes (e.Variable place variable kind) = []
expr_indexes (e.Element place variable kind index_place index) = record { of = OfVariable variable; place = index_place; expr = index } ∷ expr_indexes index
expr_indexes (e.Address variable index_place index) = record { of = OfVariable variable; place = index_place; expr = index } ∷ expr_indexes index
expr_indexes (e.Referent place last local) = []
expr_indexes (e.Unary operator operand) = expr_indexes operand
expr_indexes (e.Cast kind operand) = expr_indexes operand
expr_indexes (e.Converted kind operand) = expr_indexes operand
expr_indexes (e.Binary operator left right) = expr_indexes left ++ expr_indexes right
expr_indexes (e.Conditional kind condition chosen otherwise) = expr_indexes condition ++ expr_indexes chosen ++ expr_indexes otherwise

abbrev pub placed_indexes : e.Placed → List Index
placed_indexes x = expr_indexes x.expr

abbrev pub target_indexes : e.Lvalue → List Index
target_indexes (e.ToLocal place local kind) = []
target_indexes (e.ToVariable place variable kind) = []
target_indexes (e.ToElement place variable kind index) = record { of = OfVariable variable; place = index.place; expr = index.expr } ∷ placed_indexes index

-- a key is an index of its array of mutexes
abbrev pub lock_indexes : e.LockName → List Index
lock_indexes x = elim x.key [
  | None ↦ []
  | Some key ↦ record { of = OfMutexes x.mutex; place = key.place; expr = key.expr } ∷ placed_indexes key
]

abbrev pub result_indexes : Option e.Lvalue → List Index
result_indexes None = []
result_indexes (Some x) = target_indexes x

abbrev mutual
  pub statement_indexes : p.Statement → List Index
  statement_indexes (p.Assign place target value) = target_indexes target ++ placed_indexes value
  statement_indexes (p.Call place name function arguments result) = flat_map placed_indexes arguments ++ result_indexes result
  statement_indexes (p.If place arms otherwise) = arms_indexes arms ++ statements_indexes otherwise
  statement_indexes (p.While place condition body) = placed_indexes condition ++ statements_indexes body
  statement_indexes (p.Do place body condition) = statements_indexes body ++ placed_indexes condition
  statement_indexes (p.Lock place lock) = lock_indexes lock
  statement_indexes (p.Unlock place lock) = lock_indexes lock

  pub statements_indexes : p.Statements → List Index
  statements_indexes p.no_statement = []
  statements_indexes (p.statement_and x rest) = statement_indexes x ++ statements_indexes rest

  pub arms_indexes : p.Arms → List Index
  arms_indexes p.no_arm = []
  arms_indexes (p.arm_and condition body rest) = placed_indexes condition ++ statements_indexes body ++ arms_indexes rest

abbrev pub returned_indexes : Option p.Returned → List Index
returned_indexes None = []
returned_indexes (Some x) = placed_indexes x.value

abbrev pub program_indexes : p.Program → List Index
program_indexes x =
    flat_map (λ (f : p.Function). statements_indexes f.body ++ returned_indexes f.result) x.functions
    ++ flat_map (λ (t : p.Thread). statements_indexes t.body) x.threads

-- elements of a variable; one that is no array has none for an index
abbrev pub elements_of : List p.Variable → (variable : ℕ) → ℕ
elements_of vs variable = elim (slice_get vs variable) [
  | Some v ↦ elim v.length [ Some n ↦ n | None ↦ 0 ]
  | None ↦ 0
]

abbrev pub mutexes_of : List p.Mutex → (first : ℕ) → ℕ
mutexes_of ms first = elim (slice_get ms first) [
  | Some m ↦ elim m.length [ Some n ↦ n | None ↦ 0 ]
  | None ↦ 0
]

-- how many elements there are for an index
abbrev pub indexed : List p.Variable → List p.Mutex → Indexed → ℕ
indexed vs ms (OfVariable variable) = elements_of vs variable
indexed vs ms (OfMutexes first) = mutexes_of ms first

-- the expression's value is a number below that one, whatever it is
abbrev pub is_below : e.Expr → ℕ → Bool
is_below x n = lies_in (range_of x) (interval (pos 0) (pos n -ℤ pos 1))

-- the index names an element whatever its value is
abbrev pub index_fits : List p.Variable → List p.Mutex → Index → Bool
index_fits vs ms i = is_below i.expr (indexed vs ms i.of)

-- all indexes fit
abbrev pub AllFit : p.Program → Type 0
AllFit x = (i : Index) → Contains (program_indexes x) i → index_fits x.variables x.mutexes i ≡ true
