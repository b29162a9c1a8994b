-- What ranges are for: values lie in them, and an index that fits names an element.
use Rattle.std.specs.Prelude.{◌≡◌, ℕ, suc, ◌<◌, List, Contains, slice_index_or, ℤ, pos, ◌≤ℤ◌}
use Rattle.ido_ints.specs.declared.kinds.Kind.TheVariants.{UnsignedLong}
use Rattle.ido_ints.specs.Kinds.{Holds}
use Rattle.c_tree.specs.Exprs as e
use Rattle.c_tree.specs.Programs as p
use Rattle.c_tree.specs.Values.{value, element_number, element_at}
use Rattle.c_tree.specs.Elaboration.{kind_of}
use Rattle.c_tree.specs.Ranges.{Within, interval, Index, range_of, program_indexes, indexed, AllFit}

-- the number refers to an element of an array whose last one has that number: it isn't null
pub record IsReference (last : ℕ) (reference : ℤ) : Type 0 where
  pub held : Holds UnsignedLong reference
  pub names : Within (interval (pos 1) (pos (suc last))) reference

-- the number is null, or refers to one of so many elements
pub record IsNullOrReference (elements : ℕ) (reference : ℤ) : Type 0 where
  pub held : Holds UnsignedLong reference
  pub names : Within (interval (pos 0) (pos elements)) reference

-- each reference that the expression follows refers to an element
abbrev pub AreFollowed : (locals : List ℤ) → e.Expr → Type 0
AreFollowed ls (e.Constant x) = Unit {0}
AreFollowed ls (e.Local local kind) = Unit {0}
AreFollowed ls (e.Variable place variable kind) = Unit {0}
AreFollowed ls (e.Element place variable kind index_place index) = AreFollowed ls index
AreFollowed ls (e.Address variable index_place index) = AreFollowed ls index
AreFollowed ls (e.Referent place last local) = IsReference last (slice_index_or ls local (pos 0))
AreFollowed ls (e.Unary operator operand) = AreFollowed ls operand
AreFollowed ls (e.Cast kind operand) = AreFollowed ls operand
AreFollowed ls (e.Converted kind operand) = AreFollowed ls operand
AreFollowed ls (e.Binary operator left right) = AreFollowed ls left × AreFollowed ls right
AreFollowed ls (e.Conditional kind condition chosen otherwise) = AreFollowed ls condition × AreFollowed ls chosen × AreFollowed ls otherwise

-- each reference that the index of a target follows refers to an element
abbrev pub IsTargetFollowed : (locals : List ℤ) → e.Lvalue → Type 0
IsTargetFollowed ls (e.ToLocal place local kind) = Unit {0}
IsTargetFollowed ls (e.ToVariable place variable kind) = Unit {0}
IsTargetFollowed ls (e.ToElement place variable kind index) = AreFollowed ls index.expr

-- each local, variable and element that the expression names has a number that its kind holds, and each reference to an element that it names refers to one
abbrev pub AllHeld : (locals : List ℤ) (variables : List (List ℤ)) → e.Expr → Type 0
AllHeld ls vs (e.Constant x) = Unit {0}
AllHeld ls vs (e.Local local kind) = Holds kind (slice_index_or ls local (pos 0))
AllHeld ls vs (e.Variable place variable kind) = Holds kind (element_number vs variable 0)
AllHeld ls vs (e.Element place variable kind index_place index) = Holds kind (element_number vs variable (element_at (value ls vs index))) × AllHeld ls vs index
AllHeld ls vs (e.Address variable index_place index) = AllHeld ls vs index
AllHeld ls vs (e.Referent place last local) = IsReference last (slice_index_or ls local (pos 0))
AllHeld ls vs (e.Unary operator operand) = AllHeld ls vs operand
AllHeld ls vs (e.Cast kind operand) = AllHeld ls vs operand
AllHeld ls vs (e.Converted kind operand) = AllHeld ls vs operand
AllHeld ls vs (e.Binary operator left right) = AllHeld ls vs left × AllHeld ls vs right
AllHeld ls vs (e.Conditional kind condition chosen otherwise) = AllHeld ls vs condition × AllHeld ls vs chosen × AllHeld ls vs otherwise

-- the value is one of those that were foreseen
pub record IsForeseen (ls : List ℤ) (vs : List (List ℤ)) (x : e.Expr) : Type 0 where
  pub kind : (value ls vs x).kind ≡ kind_of x
  pub within : Within (range_of x) (value ls vs x).number

-- every value of an expression lies in its range, and is of its kind
abbrev pub RangesHold : Type 0
RangesHold = (ls : List ℤ) (vs : List (List ℤ)) (x : e.Expr) → AllHeld ls vs x → IsForeseen ls vs x

-- the index's value is the number of one of so many elements
pub record NamesElement (elements : ℕ) (ls : List ℤ) (vs : List (List ℤ)) (x : e.Expr) : Type 0 where
  pub from_zero : pos 0 ≤ℤ (value ls vs x).number
  pub below : element_at (value ls vs x) < elements

-- where all indexes of a program fit, each names an element, whatever locals and variables hold
abbrev pub IndexesNameElements : Type 0
IndexesNameElements =
    (x : p.Program) → AllFit x → (i : Index) → Contains (program_indexes x) i → (ls : List ℤ) (vs : List (List ℤ)) → AllHeld ls vs i.expr →
    NamesElement (indexed x.variables x.mutexes i.of) ls vs i.expr
