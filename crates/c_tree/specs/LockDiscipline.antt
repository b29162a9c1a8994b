-- The lock discipline: which locks a thread holds where, and the first place that breaks it.
use Rattle.std.specs.Prelude.{◌≡◌, ℕ, zero, suc, List, [], ◌∷◌, ◌++◌, length, slice_index_or, slice_get}
use Rattle.std.specs.Prelude.{slice_set, Option, Some, None, Bool, true, false, not, find, nat_lt, ◌&&◌, ◌==◌, if◌then◌else◌}
use Rattle.std.specs.List.{list_any, list_all}
use Rattle.ido_base.specs.declared.place.Place.{Place}
use Rattle.c_tree.specs.declared.language.Language.{Language}
use Rattle.c_tree.specs.declared.language.Language.TheVariants.{Plain, Full}
use Rattle.c_tree.specs.declared.language.TheConstants.{MOST_HELD}
use Rattle.c_tree.specs.declared.rule.Rule as r
use Rattle.c_tree.specs.declared.rule.Rule.TheVariants as rule
use Rattle.c_tree.specs.Exprs as e
use Rattle.c_tree.specs.Programs.{Variable, Guard, By, Each}
use Rattle.c_tree.specs.Flats as f
use Rattle.c_tree.specs.LockNames.{Held, holds, none_held, count_held, held_names, lock_names, number_in}

-- 0 up to a number, without it
abbrev pub numbers_below : ℕ → List ℕ
numbers_below zero = []
numbers_below (suc n) = numbers_below n ++ n ∷ []

-- ---- What a step reads and writes

-- a variable, where its name stands, and the index of an element
pub record Use : Type 0 where
  pub variable : ℕ
  pub place : Place
  pub index : Option e.Placed

-- the uses of an expression, from left to right
abbrev pub expr_uses : e.Expr → List Use
expr_uses (e.Constant value) = []
expr_uses (e.Local local kind) = []
expr_uses (e.Variable place variable kind) = record { variable = variable; place = place; index = None } ∷ []
expr_uses (e.Element place variable kind index_place index) =
    record { variable = variable; place = place; index = Some (record { place = index_place; expr = index }) } ∷ expr_uses index
expr_uses (e.Address variable index_place index) = expr_uses index
expr_uses (e.Referent place last local) = []
expr_uses (e.Unary operator operand) = expr_uses operand
expr_uses (e.Cast kind operand) = expr_uses operand
expr_uses (e.Converted kind operand) = expr_uses operand
expr_uses (e.Binary operator left right) = expr_uses left ++ expr_uses right
expr_uses (e.Conditional kind condition chosen otherwise) = expr_uses condition ++ expr_uses chosen ++ expr_uses otherwise

abbrev pub target_uses : e.Lvalue → List Use
target_uses (e.ToLocal place local kind) = []
target_uses (e.ToVariable place variable kind) = record { variable = variable; place = place; index = None } ∷ []
target_uses (e.ToElement place variable kind index) = record { variable = variable; place = place; index = Some index } ∷ expr_uses index.expr

-- the value before the target
abbrev pub assign_uses : e.Lvalue → (value : e.Placed) → List Use
assign_uses target value = expr_uses value.expr ++ target_uses target

abbrev pub variable_guard : List Variable → (variable : ℕ) → Guard
variable_guard vs variable = elim (slice_get vs variable) [
  | Some x ↦ x.guard
  | None ↦ By 0
]

-- the name of the lock that guards an access with this index: of an element that has a mutex of its own, it has the index for its key
abbrev pub name_under : Guard → (index : Option e.Placed) → e.LockName
name_under (By mutex) index = record { mutex = mutex; key = None }
name_under (Each first) index = record { mutex = first; key = index }

-- the name of the lock that guards a use
abbrev pub guard_name : List Variable → Use → e.LockName
guard_name vs u = name_under (variable_guard vs u.variable) u.index

abbrev pub is_guarded : List Variable → List e.LockName → Held → Use → Bool
is_guarded vs names h u = holds h (number_in names (guard_name vs u))

-- every use is of what a lock guards that is held
abbrev pub AreGuarded : List Variable → List e.LockName → Held → List Use → Type 0
AreGuarded vs names h us = find (λ u. not (is_guarded vs names h u)) us ≡ None

-- ---- What keys name

-- the locals that an expression reads
abbrev pub expr_locals : e.Expr → List ℕ
expr_locals (e.Constant value) = []
expr_locals (e.Local local kind) = local ∷ []
expr_locals (e.Variable place variable kind) = []
expr_locals (e.Element place variable kind index_place index) = expr_locals index
expr_locals (e.Address variable index_place index) = expr_locals index
expr_locals (e.Referent place last local) = local ∷ []
expr_locals (e.Unary operator operand) = expr_locals operand
expr_locals (e.Cast kind operand) = expr_locals operand
expr_locals (e.Converted kind operand) = expr_locals operand
expr_locals (e.Binary operator left right) = expr_locals left ++ expr_locals right
expr_locals (e.Conditional kind condition chosen otherwise) = expr_locals condition ++ expr_locals chosen ++ expr_locals otherwise

abbrev pub key_locals : e.LockName → List ℕ
key_locals x = elim x.key [ None ↦ [] | Some key ↦ expr_locals key.expr ]

-- the first held key that names the local
abbrev pub freezing : List e.LockName → Held → (local : ℕ) → Option e.LockName
freezing names h local = find (λ (x : e.LockName). list_any (λ other. other == local) (key_locals x)) (held_names names h)

-- the local that is assigned, if one is, is named by no held key
abbrev pub IsFree : List e.LockName → Held → e.Lvalue → Type 0
IsFree names h (e.ToLocal place local kind) = freezing names h local ≡ None
IsFree names h (e.ToVariable place variable kind) = Unit {0}
IsFree names h (e.ToElement place variable kind index) = Unit {0}

-- ---- Before, statement, after

-- from the one set, the part keeps the discipline and leaves the other
module _ (vs : List Variable) (names : List e.LockName) where
  mutual
    pub data Keeps : Held → f.Statement → Held → Type 0 where
      assign : {h : Held} (place : Place) (target : e.Lvalue) (value : e.Placed) → AreGuarded vs names h (assign_uses target value)
          → IsFree names h target → Keeps h (f.Assign place target value) h
      choose : {h after : Held} (place : Place) (arms : f.Arms) (otherwise : f.Statements) → KeepArms h arms after → KeepAll h otherwise after
          → Keeps h (f.If place arms otherwise) after
      repeat : {h : Held} (place : Place) (condition : e.Placed) (body : f.Statements) → AreGuarded vs names h (expr_uses condition.expr) → KeepAll h body h
          → Keeps h (f.While place condition body) h
      again : {h : Held} (place : Place) (body : f.Statements) (condition : e.Placed) → KeepAll h body h → AreGuarded vs names h (expr_uses condition.expr)
          → Keeps h (f.Do place body condition) h
      lock : {h : Held} (place : Place) (x : e.LockName) → slice_get h (number_in names x) ≡ Some false
          → Keeps h (f.Lock place x) (slice_set h (number_in names x) true)
      unlock : {h : Held} (place : Place) (x : e.LockName) → holds h (number_in names x) ≡ true
          → Keeps h (f.Unlock place x) (slice_set h (number_in names x) false)

    pub data KeepAll : Held → f.Statements → Held → Type 0 where
      no_more : {h : Held} → KeepAll h f.no_statement h
      then : {h between after : Held} (x : f.Statement) (rest : f.Statements) → Keeps h x between → KeepAll between rest after
          → KeepAll h (f.statement_and x rest) after

    -- each condition is tested with the set before, and each arm leaves the same set
    pub data KeepArms : Held → f.Arms → Held → Type 0 where
      no_more_arms : {h after : Held} → KeepArms h f.no_arm after
      arm : {h after : Held} (condition : e.Placed) (body : f.Statements) (rest : f.Arms) → AreGuarded vs names h (expr_uses condition.expr) →
          KeepAll h body after
          → KeepArms h rest after → KeepArms h (f.arm_and condition body rest) after

-- a thread begins and ends with no lock held
abbrev pub IsDisciplined : f.Flat → f.Thread → Type 0
IsDisciplined x t =
    let names = lock_names x t in KeepAll x.variables names (none_held (length names)) t.body (none_held (length names))

-- ---- How many are held

-- more than may be; where there are no arrays of mutexes, as many may be as there are
abbrev pub are_too_many : Language → Held → Bool
are_too_many Plain h = false
are_too_many Full h = nat_lt MOST_HELD (count_held h)

-- ---- The first place that breaks it, or where too many are held, walking through a thread

-- a rule, a place and a lock
pub record Fault : Type 0 where
  pub rule : r.Rule
  pub place : Place
  pub lock : e.LockName

-- the set after a part, or the first fault in it
pub data Walked : Type 0 where
  After : Held → Walked
  Broken : Fault → Walked

abbrev pub and_then : Walked → (Held → Walked) → Walked
and_then (After h) next = next h
and_then (Broken x) next = Broken x

-- the least name that is in some of the sets and not in all
abbrev pub is_in_some : List Held → (name : ℕ) → Bool
is_in_some hs m = list_any (λ h. holds h m) hs

abbrev pub is_in_all : List Held → (name : ℕ) → Bool
is_in_all hs m = list_all (λ h. holds h m) hs

abbrev pub least_difference : (names : ℕ) → List Held → Option ℕ
least_difference names hs = find (λ m. is_in_some hs m && not (is_in_all hs m)) (numbers_below names)

module _ (vs : List Variable) (names : List e.LockName) where
  abbrev pub broken : r.Rule → Place → e.LockName → Walked
  broken found place it = Broken (record { rule = found; place = place; lock = it })

  -- of the lock of this number
  abbrev pub broken_at : r.Rule → Place → (name : ℕ) → Walked
  broken_at found place name = broken found place (slice_index_or names name (record { mutex = 0; key = None }))

  -- the first use whose guard isn't held
  abbrev pub walk_uses : Held → List Use → Walked
  walk_uses h us = elim (find (λ u. not (is_guarded vs names h u)) us) [
    | Some u ↦ broken rule.Unheld u.place (guard_name vs u)
    | None ↦ After h
  ]

  -- a local that is assigned
  abbrev pub walk_target : Held → e.Lvalue → Walked
  walk_target h (e.ToLocal place local kind) = elim (freezing names h local) [
    | Some x ↦ broken rule.Frozen place x
    | None ↦ After h
  ]
  walk_target h (e.ToVariable place variable kind) = After h
  walk_target h (e.ToElement place variable kind index) = After h

  -- the sets at a join; they are as the first one
  abbrev pub join : Place → Held → List Held → Walked
  join place h hs = elim (least_difference (length names) (h ∷ hs)) [
    | Some m ↦ broken_at rule.Join place m
    | None ↦ After h
  ]

  -- the sets after the arms so far
  abbrev pub join_all : Place → List Held → Walked
  join_all place [] = After []
  join_all place (h ∷ hs) = join place h hs

  -- nothing is held at the end
  abbrev pub walk_end : Place → Held → Walked
  walk_end closing h = elim (find (λ m. holds h m) (numbers_below (length names))) [
    | Some m ↦ broken_at rule.EndHeld closing m
    | None ↦ After h
  ]

module _ (l : Language) (vs : List Variable) (names : List e.LockName) where
  -- the lock of the name is taken: it isn't held before, and not too many are after
  abbrev pub walk_lock : Held → Place → e.LockName → Walked
  walk_lock h place x =
      let after = slice_set h (number_in names x) true in
      if holds h (number_in names x) then broken vs names rule.Again place x
      else if are_too_many l after then broken vs names rule.Held place x
      else After after

  abbrev mutual
    pub walk : Held → f.Statement → Walked
    walk h (f.Assign place target value) = and_then (walk_uses vs names h (assign_uses target value)) (λ _. walk_target vs names h target)
    walk h (f.If place arms otherwise) = walk_arms h [] arms (λ left. and_then (walk_all h otherwise) (λ after. join_all vs names place (left ++ after ∷ [])))
    walk h (f.While place condition body) =
        and_then (walk_uses vs names h (expr_uses condition.expr)) (λ _. and_then (walk_all h body) (λ after. join vs names place h (after ∷ [])))
    walk h (f.Do place body condition) =
        and_then (walk_all h body) (λ after. and_then (walk_uses vs names after (expr_uses condition.expr)) (λ _. join vs names place h (after ∷ [])))
    walk h (f.Lock place x) = walk_lock h place x
    walk h (f.Unlock place x) =
        if holds h (number_in names x) then After (slice_set h (number_in names x) false) else broken vs names rule.NotHeld place x

    pub walk_all : Held → f.Statements → Walked
    walk_all h f.no_statement = After h
    walk_all h (f.statement_and x rest) = and_then (walk h x) (λ after. walk_all after rest)

    -- the arms of an `if` in order, and then what comes after them, from the sets that they leave
    pub walk_arms : Held → (left : List Held) → f.Arms → (later : List Held → Walked) → Walked
    walk_arms h left f.no_arm later = later left
    walk_arms h left (f.arm_and condition body rest) later =
        and_then (walk_uses vs names h (expr_uses condition.expr)) (λ _. and_then (walk_all h body) (λ after. walk_arms h (left ++ after ∷ []) rest later))

  abbrev pub walk_thread : f.Thread → Walked
  walk_thread t = and_then (walk_all (none_held (length names)) t.body) (walk_end vs names t.closing)

-- the first fault of the first thread that has one
abbrev pub walk_threads : Language → f.Flat → List f.Thread → Option Fault
walk_threads l x [] = None
walk_threads l x (t ∷ ts) = elim (walk_thread l x.variables (lock_names x t) t) [
  | Broken fault ↦ Some fault
  | After h ↦ walk_threads l x ts
]

unfoldable pub lock_fault : Language → f.Flat → Option Fault
lock_fault l x = walk_threads l x x.threads
