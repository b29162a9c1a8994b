-- Well formed programs and flat forms: each number names what it is used as, and every element has an initial number of its kind.
use Rattle.std.specs.Prelude.{◌≡◌, ℕ, ◌<◌, ◌≤◌, List, [], length, map, take, drop, replicate, slice_get, Option, Some, None, Bool, true, false, is_some, ℤ}
use Rattle.std.specs.List.{AllByRecursion}
use Rattle.ido_base.specs.declared.place.Place.{Place}
use Rattle.ido_base.specs.declared.location.Shape.{Shape}
use Rattle.ido_base.specs.Layout.{end_from}
use Rattle.ido_base.specs.declared.limits.TheConstants.{MOST_THREADS, MOST_MUTEXES, MOST_VARIABLE_BYTES, MOST_ELEMENTS, MOST_LOCKS}
use Rattle.ido_ints.specs.declared.kinds.Kind.{Kind}
use Rattle.ido_ints.specs.declared.kinds.Kind.TheVariants.{UnsignedLong}
use Rattle.ido_ints.specs.Kinds.{bytes_of, Holds}
use Rattle.c_tree.specs.Exprs as e
use Rattle.c_tree.specs.Programs as p
use Rattle.c_tree.specs.Flats as f
use Rattle.c_tree.specs.Ranges.{is_below, elements_of, mutexes_of}
use Rattle.c_tree.specs.References.{IsReferred, Follows, IsProgramReferring, IsFlatReferring}

-- ---- Mutexes

-- a mutex that is in no array
abbrev pub IsSingle : p.Mutex → Type 0
IsSingle m = m.length ≡ None

-- no mutex is in an array, and there are no more than a mask has bits
pub record ArePlain (ms : List p.Mutex) : Type 0 where
  pub single : AllByRecursion IsSingle ms
  pub few : length ms ≤ MOST_MUTEXES

-- the mutex of that number is there, and in no array
pub record IsSingleAt (ms : List p.Mutex) (mutex : ℕ) : Type 0 where
  pub it : p.Mutex
  pub found : slice_get ms mutex ≡ Some it
  pub single : IsSingle it

-- all of an array of mutexes stands from that one on
pub record IsArrayAt (ms : List p.Mutex) (first : ℕ) : Type 0 where
  pub it : p.Mutex
  pub found : slice_get ms first ≡ Some it
  pub array : is_some it.length ≡ true
  pub whole : take (mutexes_of ms first) (drop first ms) ≡ replicate (mutexes_of ms first) it

-- ---- Variables

-- how many elements a variable of the length has; one that is no array has one element
abbrev pub elements_in : (length : Option ℕ) → ℕ
elements_in None = 1
elements_in (Some n) = n

-- what guards a variable is a mutex that is in no array, or an array of mutexes, one for each of its elements
abbrev pub IsGuard : List p.Mutex → p.Variable → Type 0
IsGuard ms v = elim v.guard [
  | p.By mutex ↦ IsSingleAt ms mutex
  | p.Each first ↦ IsArrayAt ms first × (v.length ≡ Some (mutexes_of ms first))
]

-- a variable, where these mutexes are
pub record IsVariable (ms : List p.Mutex) (v : p.Variable) : Type 0 where
  pub guarded : IsGuard ms v
  pub not_empty : 0 < elements_in v.length
  pub not_too_long : elements_in v.length ≤ MOST_ELEMENTS
  -- a number for each element, which the kind holds
  pub count : length v.initial ≡ elements_in v.length
  pub held : AllByRecursion (Holds v.kind) v.initial

abbrev pub shape_of : p.Variable → Shape
shape_of v = record { bytes = bytes_of v.kind; length = elements_in v.length }

-- the numbers that its elements begin with
abbrev pub initial_numbers : p.Variable → List ℤ
initial_numbers v = v.initial

-- what the threads share
pub record AreShared (ms : List p.Mutex) (thread_count : ℕ) (vs : List p.Variable) : Type 0 where
  pub mutexes : length ms ≤ MOST_LOCKS
  pub threads : thread_count ≤ MOST_THREADS
  pub variables : AllByRecursion (IsVariable ms) vs
  pub bytes : end_from 0 (map shape_of vs) ≤ MOST_VARIABLE_BYTES

-- ---- Expressions, over variables and locals of these kinds

-- the variable of that number is of the kind, and an array or none
pub record IsDeclared (vs : List p.Variable) (variable : ℕ) (k : Kind) (is_array : Bool) : Type 0 where
  pub it : p.Variable
  pub found : slice_get vs variable ≡ Some it
  pub kind : it.kind ≡ k
  pub array : is_some it.length ≡ is_array

module _ (vs : List p.Variable) (ks : List Kind) where
  -- each local and each variable is there and of its kind, with an index exactly where it is an array; what a local that is followed refers to is asked apart
  abbrev pub IsExpr : e.Expr → Type 0
  IsExpr (e.Constant value) = Unit {0}
  IsExpr (e.Local local kind) = slice_get ks local ≡ Some kind
  IsExpr (e.Variable place variable kind) = IsDeclared vs variable kind false
  IsExpr (e.Element place variable kind index_place index) = IsDeclared vs variable kind true × IsExpr index
  IsExpr (e.Address variable index_place index) = IsReferred vs variable × IsExpr index
  IsExpr (e.Referent place last local) = slice_get ks local ≡ Some UnsignedLong
  IsExpr (e.Unary operator operand) = IsExpr operand
  IsExpr (e.Cast kind operand) = IsExpr operand
  IsExpr (e.Converted kind operand) = IsExpr operand
  IsExpr (e.Binary operator left right) = IsExpr left × IsExpr right
  IsExpr (e.Conditional kind condition chosen otherwise) = IsExpr condition × IsExpr chosen × IsExpr otherwise

  abbrev pub IsPlaced : e.Placed → Type 0
  IsPlaced x = IsExpr x.expr

  abbrev pub IsTarget : e.Lvalue → Type 0
  IsTarget (e.ToLocal place local kind) = slice_get ks local ≡ Some kind
  IsTarget (e.ToVariable place variable kind) = IsDeclared vs variable kind false
  IsTarget (e.ToElement place variable kind index) = IsDeclared vs variable kind true × IsExpr index.expr

module _ (vs : List p.Variable) where
  -- the index names an element, whatever its value is
  abbrev pub IndexFits : (variable : ℕ) → Place → e.Expr → Type 0
  IndexFits variable place index = is_below index (elements_of vs variable) ≡ true

  -- each index does
  abbrev pub Fits : e.Expr → Type 0
  Fits (e.Constant value) = Unit {0}
  Fits (e.Local local kind) = Unit {0}
  Fits (e.Variable place variable kind) = Unit {0}
  Fits (e.Element place variable kind index_place index) = IndexFits variable index_place index × Fits index
  Fits (e.Address variable index_place index) = IndexFits variable index_place index × Fits index
  Fits (e.Referent place last local) = Unit {0}
  Fits (e.Unary operator operand) = Fits operand
  Fits (e.Cast kind operand) = Fits operand
  Fits (e.Converted kind operand) = Fits operand
  Fits (e.Binary operator left right) = Fits left × Fits right
  Fits (e.Conditional kind condition chosen otherwise) = Fits condition × Fits chosen × Fits otherwise

  abbrev pub TargetFits : e.Lvalue → Type 0
  TargetFits (e.ToLocal place local kind) = Unit {0}
  TargetFits (e.ToVariable place variable kind) = Unit {0}
  TargetFits (e.ToElement place variable kind index) = IndexFits variable index.place index.expr × Fits index.expr

-- ---- Names of locks

-- the key reads locals alone and follows none, and is the number of a mutex of the array, whatever they hold
pub record IsKey (ms : List p.Mutex) (ks : List Kind) (first : ℕ) (key : e.Expr) : Type 0 where
  pub array : IsArrayAt ms first
  pub reads : IsExpr [] ks key
  pub follows : Follows [] [] key
  pub fits : is_below key (mutexes_of ms first) ≡ true

-- of a flat form: a mutex that is in no array and no key, or the first one of an array and a key
abbrev pub IsFlatLockName : (ms : List p.Mutex) → (ks : List Kind) → e.LockName → Type 0
IsFlatLockName ms ks x = elim x.key [
  | None ↦ IsSingleAt ms x.mutex
  | Some key ↦ IsKey ms ks x.mutex key.expr
]

-- ---- Programs, with calls; whether indexes fit is asked apart, by `AllFit`

-- a mutex that is in no array and no key, or the first one of an array and a key that reads locals alone and follows none
abbrev pub IsLockName : (ms : List p.Mutex) → (ks : List Kind) → e.LockName → Type 0
IsLockName ms ks x = elim x.key [
  | None ↦ IsSingleAt ms x.mutex
  | Some key ↦ IsArrayAt ms x.mutex × IsExpr [] ks key.expr × Follows [] [] key.expr
]

-- a call of a function that is there: as many arguments as parameters, and a result exactly where one is assigned
pub record IsCall (fs : List p.Function) (function arguments : ℕ) (assigned : Bool) : Type 0 where
  pub it : p.Function
  pub found : slice_get fs function ≡ Some it
  pub count : arguments ≡ it.parameters
  pub gives : is_some it.result ≡ assigned

abbrev pub HasProgramArm : p.Arms → Type 0
HasProgramArm p.no_arm = ⊥
HasProgramArm (p.arm_and condition body rest) = Unit {0}

module _ (x : p.Program) (ks : List Kind) where
  abbrev pub IsResult : Option e.Lvalue → Type 0
  IsResult None = Unit {0}
  IsResult (Some target) = IsTarget x.variables ks target

  abbrev mutual
    pub IsStatement : p.Statement → Type 0
    IsStatement (p.Assign place target value) = IsTarget x.variables ks target × IsPlaced x.variables ks value
    IsStatement (p.Call place name function arguments result) =
        IsCall x.functions function (length arguments) (is_some result) × AllByRecursion (IsPlaced x.variables ks) arguments × IsResult result
    IsStatement (p.If place arms otherwise) = HasProgramArm arms × AreArms arms × AreStatements otherwise
    IsStatement (p.While place condition body) = IsPlaced x.variables ks condition × AreStatements body
    IsStatement (p.Do place body condition) = AreStatements body × IsPlaced x.variables ks condition
    IsStatement (p.Lock place lock) = IsLockName x.mutexes ks lock
    IsStatement (p.Unlock place lock) = IsLockName x.mutexes ks lock

    pub AreStatements : p.Statements → Type 0
    AreStatements p.no_statement = Unit {0}
    AreStatements (p.statement_and s rest) = IsStatement s × AreStatements rest

    pub AreArms : p.Arms → Type 0
    AreArms p.no_arm = Unit {0}
    AreArms (p.arm_and condition body rest) = IsPlaced x.variables ks condition × AreStatements body × AreArms rest

  abbrev pub IsReturned : Option p.Returned → Type 0
  IsReturned None = Unit {0}
  IsReturned (Some r) = IsPlaced x.variables ks r.value

-- the first locals are the parameters
pub record IsFunction (x : p.Program) (g : p.Function) : Type 0 where
  pub parameters : g.parameters ≤ length g.locals
  pub body : AreStatements x g.locals g.body
  pub result : IsReturned x g.locals g.result

pub record IsProgram (x : p.Program) : Type 0 where
  pub shared : AreShared x.mutexes (length x.threads) x.variables
  pub functions : AllByRecursion (IsFunction x) x.functions
  pub threads : AllByRecursion (λ (t : p.Thread). AreStatements x t.locals t.body) x.threads
  pub referring : IsProgramReferring x

-- ---- Flat forms, in which all indexes fit

abbrev pub HasArm : f.Arms → Type 0
HasArm f.no_arm = ⊥
HasArm (f.arm_and condition body rest) = Unit {0}

module _ (x : f.Flat) (ks : List Kind) where
  abbrev pub IsFlatPlaced : e.Placed → Type 0
  IsFlatPlaced y = IsExpr x.variables ks y.expr × Fits x.variables y.expr

  abbrev pub IsFlatTarget : e.Lvalue → Type 0
  IsFlatTarget y = IsTarget x.variables ks y × TargetFits x.variables y

  abbrev mutual
    pub IsFlatStatement : f.Statement → Type 0
    IsFlatStatement (f.Assign place target value) = IsFlatTarget target × IsFlatPlaced value
    IsFlatStatement (f.If place arms otherwise) = HasArm arms × AreFlatArms arms × AreFlatStatements otherwise
    IsFlatStatement (f.While place condition body) = IsFlatPlaced condition × AreFlatStatements body
    IsFlatStatement (f.Do place body condition) = AreFlatStatements body × IsFlatPlaced condition
    IsFlatStatement (f.Lock place lock) = IsFlatLockName x.mutexes ks lock
    IsFlatStatement (f.Unlock place lock) = IsFlatLockName x.mutexes ks lock

    pub AreFlatStatements : f.Statements → Type 0
    AreFlatStatements f.no_statement = Unit {0}
    AreFlatStatements (f.statement_and s rest) = IsFlatStatement s × AreFlatStatements rest

    pub AreFlatArms : f.Arms → Type 0
    AreFlatArms f.no_arm = Unit {0}
    AreFlatArms (f.arm_and condition body rest) = IsFlatPlaced condition × AreFlatStatements body × AreFlatArms rest

pub record IsWellFormed (x : f.Flat) : Type 0 where
  pub shared : AreShared x.mutexes (length x.threads) x.variables
  pub threads : AllByRecursion (λ (t : f.Thread). AreFlatStatements x t.locals t.body) x.threads
  pub referring : IsFlatReferring x
