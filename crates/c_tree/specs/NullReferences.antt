-- Where the element is named to which a reference refers, and the reference may be null.
use Rattle.std.specs.Prelude.{◌≡◌, ℕ, ◌≤◌, List, [], ◌∷◌, ◌++◌, Contains, flat_map, Option, Some, None, Bool, true, false, ◌==◌, if◌then◌else◌, pos}
use Rattle.std.specs.List.{list_any}
use Rattle.ido_base.specs.declared.place.Place.{Place}
use Rattle.ido_ints.specs.declared.kinds.Kind.TheVariants.{UnsignedLong}
use Rattle.ido_ints.specs.declared.operators.Binary.TheVariants as b
use Rattle.ido_ints.specs.TypedNumbers.{typed}
use Rattle.c_tree.specs.declared.rule.Rule as r
use Rattle.c_tree.specs.declared.rule.Rule.TheVariants as rule
use Rattle.c_tree.specs.Exprs as e
use Rattle.c_tree.specs.Programs as p
use Rattle.c_tree.specs.Flats as f
use Rattle.c_tree.specs.LockNames.{same_typed}
use Rattle.c_tree.specs.Ranges.{Index, program_indexes, index_fits}

-- ---- What a condition says

abbrev pub is_null : e.Expr → Bool
is_null x = elim x [
  | e.Constant value ↦ same_typed value (typed UnsignedLong (pos 0))
  | _ ↦ false
]

abbrev pub local_in : e.Expr → Option ℕ
local_in x = elim x [
  | e.Local local kind ↦ Some local
  | _ ↦ None
]

-- the local of which the two that differ say that it isn't null
abbrev pub unequal_null : (left right : e.Expr) → Option ℕ
unequal_null left right = if is_null right then local_in left else if is_null left then local_in right else None

-- the local of which `local != null` or `null != local` says so
abbrev pub unnull : e.Expr → Option ℕ
unnull x = elim x [
  | e.Binary operator left right ↦ elim operator [
    | b.NotEqual ↦ unequal_null left right
    | _ ↦ None
  ]
  | _ ↦ None
]

-- ---- The locals that a part assigns

abbrev pub target_assigned : e.Lvalue → List ℕ
target_assigned (e.ToLocal place local kind) = local ∷ []
target_assigned (e.ToVariable place variable kind) = []
target_assigned (e.ToElement place variable kind index) = []

abbrev pub result_assigned : Option e.Lvalue → List ℕ
result_assigned None = []
result_assigned (Some x) = target_assigned x

abbrev mutual
  pub statement_assigned : p.Statement → List ℕ
  statement_assigned (p.Assign place target value) = target_assigned target
  statement_assigned (p.Call place name function arguments result) = result_assigned result
  statement_assigned (p.If place arms otherwise) = arms_assigned arms ++ statements_assigned otherwise
  statement_assigned (p.While place condition body) = statements_assigned body
  statement_assigned (p.Do place body condition) = statements_assigned body
  statement_assigned (p.Lock place lock) = []
  statement_assigned (p.Unlock place lock) = []

  pub statements_assigned : p.Statements → List ℕ
  statements_assigned p.no_statement = []
  statements_assigned (p.statement_and x rest) = statement_assigned x ++ statements_assigned rest

  pub arms_assigned : p.Arms → List ℕ
  arms_assigned p.no_arm = []
  arms_assigned (p.arm_and condition body rest) = statements_assigned body ++ arms_assigned rest

-- ---- Places where a reference may be null, by the locals that are known not to be

abbrev pub is_among : (locals : List ℕ) → (local : ℕ) → Bool
is_among locals local = list_any (λ (l : ℕ). l == local) locals

abbrev pub expr_nulls : (known : List ℕ) → e.Expr → List Place
expr_nulls known (e.Constant value) = []
expr_nulls known (e.Local local kind) = []
expr_nulls known (e.Variable place variable kind) = []
expr_nulls known (e.Element place variable kind index_place index) = expr_nulls known index
expr_nulls known (e.Address variable index_place index) = expr_nulls known index
expr_nulls known (e.Referent place last local) = if is_among known local then [] else place ∷ []
expr_nulls known (e.Unary operator operand) = expr_nulls known operand
expr_nulls known (e.Cast kind operand) = expr_nulls known operand
expr_nulls known (e.Converted kind operand) = expr_nulls known operand
expr_nulls known (e.Binary operator left right) = expr_nulls known left ++ expr_nulls known right
expr_nulls known (e.Conditional kind condition chosen otherwise) = expr_nulls known condition ++ expr_nulls known chosen ++ expr_nulls known otherwise

abbrev pub placed_nulls : (known : List ℕ) → e.Placed → List Place
placed_nulls known x = expr_nulls known x.expr

abbrev pub target_nulls : (known : List ℕ) → e.Lvalue → List Place
target_nulls known (e.ToLocal place local kind) = []
target_nulls known (e.ToVariable place variable kind) = []
target_nulls known (e.ToElement place variable kind index) = placed_nulls known index

abbrev pub result_nulls : (known : List ℕ) → Option e.Lvalue → List Place
result_nulls known None = []
result_nulls known (Some x) = target_nulls known x

abbrev pub lock_nulls : (known : List ℕ) → e.LockName → List Place
lock_nulls known x = elim x.key [
  | None ↦ []
  | Some key ↦ placed_nulls known key
]

-- what is known in a block before which a local isn't null: that too, where the block assigns it nowhere
abbrev pub known_with : (known : List ℕ) → (body : p.Statements) → (local : Option ℕ) → List ℕ
known_with known body None = known
known_with known body (Some local) = if is_among (statements_assigned body) local then known else known ++ local ∷ []

-- what is known in the block of an arm: the condition of the first one says more
abbrev pub known_in : (known : List ℕ) → (first : Bool) → (condition : e.Placed) → (body : p.Statements) → List ℕ
known_in known false condition body = known
known_in known true condition body = known_with known body (unnull condition.expr)

abbrev mutual
  pub statement_nulls : (known : List ℕ) → p.Statement → List Place
  statement_nulls known (p.Assign place target value) = target_nulls known target ++ placed_nulls known value
  statement_nulls known (p.Call place name function arguments result) = flat_map (placed_nulls known) arguments ++ result_nulls known result
  statement_nulls known (p.If place arms otherwise) = arms_nulls known true arms ++ statements_nulls known otherwise
  statement_nulls known (p.While place condition body) = placed_nulls known condition ++ statements_nulls known body
  statement_nulls known (p.Do place body condition) = statements_nulls known body ++ placed_nulls known condition
  statement_nulls known (p.Lock place lock) = lock_nulls known lock
  statement_nulls known (p.Unlock place lock) = lock_nulls known lock

  pub statements_nulls : (known : List ℕ) → p.Statements → List Place
  statements_nulls known p.no_statement = []
  statements_nulls known (p.statement_and x rest) = statement_nulls known x ++ statements_nulls known rest

  -- whether they begin with the first arm of their `if`
  pub arms_nulls : (known : List ℕ) → (first : Bool) → p.Arms → List Place
  arms_nulls known first p.no_arm = []
  arms_nulls known first (p.arm_and condition body rest) =
      placed_nulls known condition ++ statements_nulls (known_in known first condition body) body ++ arms_nulls known false rest

abbrev pub returned_nulls : Option p.Returned → List Place
returned_nulls None = []
returned_nulls (Some x) = placed_nulls [] x.value

-- all places where a reference may be null: outside of every first block of an `if` whose condition says that it isn't, or where each such block assigns it
abbrev pub program_nulls : p.Program → List Place
program_nulls x =
    flat_map (λ (f : p.Function). statements_nulls [] f.body ++ returned_nulls f.result) x.functions
    ++ flat_map (λ (t : p.Thread). statements_nulls [] t.body) x.threads

-- ---- The first fault of indexes and references

-- an index that doesn't fit, or a reference that may be null
pub data IsOutside (x : p.Program) (found : r.Rule) (place : Place) : Type 0 where
  by_index : (i : Index) → Contains (program_indexes x) i → index_fits x.variables x.mutexes i ≡ false → found ≡ rule.Index → place ≡ i.place
      → IsOutside x found place
  by_null : Contains (program_nulls x) place → found ≡ rule.Null → IsOutside x found place

pub record IsFirstOutside (x : p.Program) (found : r.Rule) (place : Place) : Type 0 where
  pub outside : IsOutside x found place
  pub first : (other : r.Rule) (at : Place) → IsOutside x other at → place.0 ≤ at.0
  -- of both at one place the index is told
  pub index_first : IsOutside x rule.Index place → found ≡ rule.Index

-- ---- Of flat forms, in which keys follow no reference

abbrev mutual
  pub flat_statement_assigned : f.Statement → List ℕ
  flat_statement_assigned (f.Assign place target value) = target_assigned target
  flat_statement_assigned (f.If place arms otherwise) = flat_arms_assigned arms ++ flat_statements_assigned otherwise
  flat_statement_assigned (f.While place condition body) = flat_statements_assigned body
  flat_statement_assigned (f.Do place body condition) = flat_statements_assigned body
  flat_statement_assigned (f.Lock place lock) = []
  flat_statement_assigned (f.Unlock place lock) = []

  pub flat_statements_assigned : f.Statements → List ℕ
  flat_statements_assigned f.no_statement = []
  flat_statements_assigned (f.statement_and x rest) = flat_statement_assigned x ++ flat_statements_assigned rest

  pub flat_arms_assigned : f.Arms → List ℕ
  flat_arms_assigned f.no_arm = []
  flat_arms_assigned (f.arm_and condition body rest) = flat_statements_assigned body ++ flat_arms_assigned rest

abbrev pub flat_known_with : (known : List ℕ) → (body : f.Statements) → (local : Option ℕ) → List ℕ
flat_known_with known body None = known
flat_known_with known body (Some local) = if is_among (flat_statements_assigned body) local then known else known ++ local ∷ []

-- what is known in the block of an arm: the condition of the first one says more
abbrev pub flat_known_in : (known : List ℕ) → (first : Bool) → (condition : e.Placed) → (body : f.Statements) → List ℕ
flat_known_in known false condition body = known
flat_known_in known true condition body = flat_known_with known body (unnull condition.expr)

abbrev mutual
  pub flat_statement_nulls : (known : List ℕ) → f.Statement → List Place
  flat_statement_nulls known (f.Assign place target value) = target_nulls known target ++ placed_nulls known value
  flat_statement_nulls known (f.If place arms otherwise) = flat_arms_nulls known true arms ++ flat_statements_nulls known otherwise
  flat_statement_nulls known (f.While place condition body) = placed_nulls known condition ++ flat_statements_nulls known body
  flat_statement_nulls known (f.Do place body condition) = flat_statements_nulls known body ++ placed_nulls known condition
  flat_statement_nulls known (f.Lock place lock) = []
  flat_statement_nulls known (f.Unlock place lock) = []

  pub flat_statements_nulls : (known : List ℕ) → f.Statements → List Place
  flat_statements_nulls known f.no_statement = []
  flat_statements_nulls known (f.statement_and x rest) = flat_statement_nulls known x ++ flat_statements_nulls known rest

  -- whether they begin with the first arm of their `if`
  pub flat_arms_nulls : (known : List ℕ) → (first : Bool) → f.Arms → List Place
  flat_arms_nulls known first f.no_arm = []
  flat_arms_nulls known first (f.arm_and condition body rest) =
      placed_nulls known condition ++ flat_statements_nulls (flat_known_in known first condition body) body ++ flat_arms_nulls known false rest
