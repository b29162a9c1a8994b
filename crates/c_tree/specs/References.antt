-- What locals and variables refer to, and that every reference is to the array that it is said to refer to.
use Rattle.std.specs.Prelude.{◌≡◌, ℕ, suc, List, [], ◌∷◌, length, slice_get, slice_index_or, Option, Some, None, true, is_some, ℤ, pos}
use Rattle.std.specs.List.{AllByRecursion, AllZip}
use Rattle.ido_ints.specs.declared.kinds.Kind.{Kind}
use Rattle.ido_ints.specs.declared.kinds.Kind.TheVariants.{UnsignedLong}
use Rattle.c_tree.specs.Exprs as e
use Rattle.c_tree.specs.Programs as p
use Rattle.c_tree.specs.Flats as f
use Rattle.c_tree.specs.Ranges.{elements_of}
use Rattle.c_tree.specs.NullReferences.{flat_statements_nulls}

-- an array that one mutex guards, to whose elements there may be references
pub record IsReferred (vs : List p.Variable) (variable : ℕ) : Type 0 where
  pub it : p.Variable
  pub found : slice_get vs variable ≡ Some it
  pub array : is_some it.length ≡ true
  pub mutex : ℕ
  pub guard : it.guard ≡ p.By mutex

-- what the elements of a variable refer to
abbrev pub variable_refers : List p.Variable → (variable : ℕ) → Option ℕ
variable_refers vs variable = elim (slice_get vs variable) [
  | Some v ↦ v.refers
  | None ↦ None
]

-- ---- Expressions, over variables and over what the locals refer to

-- the local refers to elements of an array whose last one has that number
pub record RefersUpTo (vs : List p.Variable) (rs : List (Option ℕ)) (last local : ℕ) : Type 0 where
  pub variable : ℕ
  pub refers : slice_get rs local ≡ Some (Some variable)
  pub length : elements_of vs variable ≡ suc last

module _ (vs : List p.Variable) (rs : List (Option ℕ)) where
  -- each local that is followed is a reference; keys follow none
  abbrev pub Follows : e.Expr → Type 0
  Follows (e.Constant value) = Unit {0}
  Follows (e.Local local kind) = Unit {0}
  Follows (e.Variable place variable kind) = Unit {0}
  Follows (e.Element place variable kind index_place index) = Follows index
  Follows (e.Address variable index_place index) = Follows index
  Follows (e.Referent place last local) = RefersUpTo vs rs last local
  Follows (e.Unary operator operand) = Follows operand
  Follows (e.Cast kind operand) = Follows operand
  Follows (e.Converted kind operand) = Follows operand
  Follows (e.Binary operator left right) = Follows left × Follows right
  Follows (e.Conditional kind condition chosen otherwise) = Follows condition × Follows chosen × Follows otherwise

  abbrev pub PlacedFollows : e.Placed → Type 0
  PlacedFollows x = Follows x.expr

  abbrev pub TargetFollows : e.Lvalue → Type 0
  TargetFollows (e.ToLocal place local kind) = Unit {0}
  TargetFollows (e.ToVariable place variable kind) = Unit {0}
  TargetFollows (e.ToElement place variable kind index) = Follows index.expr

  -- ---- What is given to references

  abbrev pub local_refers : (local : ℕ) → Option ℕ
  local_refers local = slice_index_or rs local None

  -- what a target refers to
  abbrev pub target_refers : e.Lvalue → Option ℕ
  target_refers (e.ToLocal place local kind) = local_refers local
  target_refers (e.ToVariable place variable kind) = variable_refers vs variable
  target_refers (e.ToElement place variable kind index) = variable_refers vs variable

  -- null, or a reference to an element of the array
  abbrev pub RefersTo : (array : ℕ) → e.Expr → Type 0
  RefersTo array (e.Constant value) = value.number ≡ pos 0
  RefersTo array (e.Local local kind) = local_refers local ≡ Some array
  RefersTo array (e.Variable place variable kind) = variable_refers vs variable ≡ Some array
  RefersTo array (e.Element place variable kind index_place index) = variable_refers vs variable ≡ Some array
  RefersTo array (e.Address variable index_place index) = variable ≡ array
  RefersTo array (e.Referent place last local) = ⊥
  RefersTo array (e.Unary operator operand) = ⊥
  RefersTo array (e.Cast kind operand) = ⊥
  RefersTo array (e.Converted kind operand) = (kind ≡ UnsignedLong) × RefersTo array operand
  RefersTo array (e.Binary operator left right) = ⊥
  RefersTo array (e.Conditional kind condition chosen otherwise) = ⊥

  -- a value for what refers so
  abbrev pub IsGiven : (refers : Option ℕ) → e.Expr → Type 0
  IsGiven None x = Unit {0}
  IsGiven (Some array) x = RefersTo array x

  abbrev pub AreGiven : (refers : List (Option ℕ)) → List e.Placed → Type 0
  AreGiven [] xs = Unit {0}
  AreGiven (r ∷ rs) [] = Unit {0}
  AreGiven (r ∷ rs) (x ∷ xs) = IsGiven r x.expr × AreGiven rs xs

-- ---- Variables and locals

-- what is referred to is an array to whose elements there may be references
abbrev pub RefersRight : List p.Variable → (refers : Option ℕ) → Type 0
RefersRight vs None = Unit {0}
RefersRight vs (Some variable) = IsReferred vs variable

-- references begin as null
abbrev pub HasNulls : (refers : Option ℕ) → p.Variable → Type 0
HasNulls None v = Unit {0}
HasNulls (Some array) v = (v.kind ≡ UnsignedLong) × AllByRecursion (λ (n : ℤ). n ≡ pos 0) v.initial

abbrev pub IsVariableReferring : List p.Variable → p.Variable → Type 0
IsVariableReferring vs v = RefersRight vs v.refers × HasNulls v.refers v

-- a local that refers is an `unsigned long`
abbrev pub IsLocalReferring : Kind → (refers : Option ℕ) → Type 0
IsLocalReferring kind None = Unit {0}
IsLocalReferring kind (Some variable) = kind ≡ UnsignedLong

-- ---- Programs

module _ (x : p.Program) (rs : List (Option ℕ)) where
  -- what a function with these locals gives is for what refers so
  abbrev pub IsResultGiven : (own : List (Option ℕ)) → Option p.Returned → (refers : Option ℕ) → Type 0
  IsResultGiven own None refers = Unit {0}
  IsResultGiven own (Some r) refers = IsGiven x.variables own refers (e.Converted r.kind r.value.expr)

  abbrev pub IsCallReferring : (function : ℕ) → List e.Placed → Option e.Lvalue → Type 0
  IsCallReferring function arguments result = elim (slice_get x.functions function) [
    | None ↦ Unit {0}
    | Some g ↦ AreGiven x.variables rs g.refers arguments × elim result [
      | None ↦ Unit {0}
      | Some target ↦ TargetFollows x.variables rs target × IsResultGiven g.refers g.result (target_refers x.variables rs target)
    ]
  ]

  abbrev mutual
    pub IsStatementReferring : p.Statement → Type 0
    IsStatementReferring (p.Assign place target value) =
        TargetFollows x.variables rs target × PlacedFollows x.variables rs value × IsGiven x.variables rs (target_refers x.variables rs target) value.expr
    IsStatementReferring (p.Call place name function arguments result) =
        AllByRecursion (PlacedFollows x.variables rs) arguments × IsCallReferring function arguments result
    IsStatementReferring (p.If place arms otherwise) = AreArmsReferring arms × AreStatementsReferring otherwise
    IsStatementReferring (p.While place condition body) = PlacedFollows x.variables rs condition × AreStatementsReferring body
    IsStatementReferring (p.Do place body condition) = AreStatementsReferring body × PlacedFollows x.variables rs condition
    IsStatementReferring (p.Lock place lock) = Unit {0}
    IsStatementReferring (p.Unlock place lock) = Unit {0}

    pub AreStatementsReferring : p.Statements → Type 0
    AreStatementsReferring p.no_statement = Unit {0}
    AreStatementsReferring (p.statement_and s rest) = IsStatementReferring s × AreStatementsReferring rest

    pub AreArmsReferring : p.Arms → Type 0
    AreArmsReferring p.no_arm = Unit {0}
    AreArmsReferring (p.arm_and condition body rest) = PlacedFollows x.variables rs condition × AreStatementsReferring body × AreArmsReferring rest

  abbrev pub IsReturnedReferring : Option p.Returned → Type 0
  IsReturnedReferring None = Unit {0}
  IsReturnedReferring (Some r) = PlacedFollows x.variables rs r.value

pub record IsFunctionReferring (x : p.Program) (g : p.Function) : Type 0 where
  pub locals : AllZip IsLocalReferring g.locals g.refers
  pub refer : AllByRecursion (RefersRight x.variables) g.refers
  pub body : AreStatementsReferring x g.refers g.body
  pub result : IsReturnedReferring x g.refers g.result

pub record IsThreadReferring (x : p.Program) (t : p.Thread) : Type 0 where
  pub locals : AllZip IsLocalReferring t.locals t.refers
  pub refer : AllByRecursion (RefersRight x.variables) t.refers
  pub body : AreStatementsReferring x t.refers t.body

-- every reference of a program is to the array that it is said to refer to
pub record IsProgramReferring (x : p.Program) : Type 0 where
  pub variables : AllByRecursion (IsVariableReferring x.variables) x.variables
  pub functions : AllByRecursion (IsFunctionReferring x) x.functions
  pub threads : AllByRecursion (IsThreadReferring x) x.threads

-- ---- Flat forms

module _ (x : f.Flat) (rs : List (Option ℕ)) where
  abbrev mutual
    pub IsFlatStatementReferring : f.Statement → Type 0
    IsFlatStatementReferring (f.Assign place target value) =
        TargetFollows x.variables rs target × PlacedFollows x.variables rs value × IsGiven x.variables rs (target_refers x.variables rs target) value.expr
    IsFlatStatementReferring (f.If place arms otherwise) = AreFlatArmsReferring arms × AreFlatStatementsReferring otherwise
    IsFlatStatementReferring (f.While place condition body) = PlacedFollows x.variables rs condition × AreFlatStatementsReferring body
    IsFlatStatementReferring (f.Do place body condition) = AreFlatStatementsReferring body × PlacedFollows x.variables rs condition
    IsFlatStatementReferring (f.Lock place lock) = Unit {0}
    IsFlatStatementReferring (f.Unlock place lock) = Unit {0}

    pub AreFlatStatementsReferring : f.Statements → Type 0
    AreFlatStatementsReferring f.no_statement = Unit {0}
    AreFlatStatementsReferring (f.statement_and s rest) = IsFlatStatementReferring s × AreFlatStatementsReferring rest

    pub AreFlatArmsReferring : f.Arms → Type 0
    AreFlatArmsReferring f.no_arm = Unit {0}
    AreFlatArmsReferring (f.arm_and condition body rest) = PlacedFollows x.variables rs condition × AreFlatStatementsReferring body × AreFlatArmsReferring rest

-- and no reference that may be null is followed
pub record IsFlatThreadReferring (x : f.Flat) (t : f.Thread) : Type 0 where
  pub locals : AllZip IsLocalReferring t.locals t.refers
  pub refer : AllByRecursion (RefersRight x.variables) t.refers
  pub body : AreFlatStatementsReferring x t.refers t.body
  pub never_null : flat_statements_nulls [] t.body ≡ []

-- every reference of a flat form is to the array that it is said to refer to, and none that is followed may be null
pub record IsFlatReferring (x : f.Flat) : Type 0 where
  pub variables : AllByRecursion (IsVariableReferring x.variables) x.variables
  pub threads : AllByRecursion (IsFlatThreadReferring x) x.threads
