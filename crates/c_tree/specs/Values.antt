-- The value of an expression (C11 6.5), from the numbers of locals and variables.
use Rattle.std.specs.Prelude.{ℕ, ◌+◌, List, [], slice_index_or, Some, None, if◌then◌else◌, ℤ, pos, unsigned_abs}
use Rattle.ido_ints.specs.declared.kinds.Kind.TheVariants.{UnsignedLong}
use Rattle.ido_ints.specs.declared.operators.Binary.TheVariants.{Add, Sub}
use Rattle.ido_ints.specs.TypedNumbers.{Typed, typed, converted}
use Rattle.ido_ints.specs.Operators.{is_zero, unary_of, binary_of}
use Rattle.c_tree.specs.Exprs as e

-- the number of an element of a variable; one that is no array has one element
abbrev pub element_number : (variables : List (List ℤ)) → (variable element : ℕ) → ℤ
element_number variables variable element = slice_index_or (slice_index_or variables variable []) element (pos 0)

-- the element that an index names
abbrev pub element_at : Typed → ℕ
element_at index = unsigned_abs index.number

-- a reference is 0, which is null, or the number of an element and 1 more: that to the element of an index, and the number of the element of one
abbrev pub reference_to : (index : Typed) → Typed
reference_to index = binary_of Add (converted index UnsignedLong) (typed UnsignedLong (pos 1))

abbrev pub referent : (reference : ℤ) → Typed
referent reference = binary_of Sub (typed UnsignedLong reference) (typed UnsignedLong (pos 1))

abbrev pub value : (locals : List ℤ) → (variables : List (List ℤ)) → e.Expr → Typed
value ls vs (e.Constant x) = x
value ls vs (e.Local local kind) = typed kind (slice_index_or ls local (pos 0))
value ls vs (e.Variable place variable kind) = typed kind (element_number vs variable 0)
value ls vs (e.Element place variable kind index_place index) = typed kind (element_number vs variable (element_at (value ls vs index)))
value ls vs (e.Address variable index_place index) = reference_to (value ls vs index)
value ls vs (e.Referent place last local) = referent (slice_index_or ls local (pos 0))
value ls vs (e.Unary operator operand) = unary_of operator (value ls vs operand)
value ls vs (e.Cast kind operand) = converted (value ls vs operand) kind
value ls vs (e.Converted kind operand) = converted (value ls vs operand) kind
value ls vs (e.Binary operator left right) = binary_of operator (value ls vs left) (value ls vs right)
value ls vs (e.Conditional kind condition chosen otherwise) =
    converted (if is_zero (value ls vs condition).number then value ls vs otherwise else value ls vs chosen) kind

-- ---- Locks

-- the element of an array of mutexes that a key names: it reads locals alone
abbrev pub key_element : (locals : List ℤ) → e.Placed → ℕ
key_element ls key = element_at (value ls [] key.expr)

-- the number of the lock that a name has where locals have these numbers
abbrev pub lock_number : (locals : List ℤ) → e.LockName → ℕ
lock_number ls x = elim x.key [
  | None ↦ x.mutex
  | Some key ↦ x.mutex + key_element ls key
]
