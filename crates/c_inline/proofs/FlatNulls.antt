-- Where no reference of a program may be null that it follows, none of its flat form may be: a call's locals are new, so what is known of others stays.
use Rattle.std.proofs.Common.{◌≡◌, ◌⊎◌, inl, inr, refl, sym, ◌∙◌, ap, subst, ℕ, zero, suc, ◌+◌, ◌<◌, ◌≤◌, ◌==◌, List, [], ◌∷◌, ◌++◌, length, map}
use Rattle.std.proofs.Common.{Bool, true, false, Option, Some, None, append_assoc, append-nil, arith}
use Rattle.std.specs.Prelude.{slice_get, if◌then◌else◌, flat_map}
use Rattle.std.specs.Option.{option_map}
use Rattle.std.proofs.lemmas.Bool.{eq-eqb, eqb-true, or_cases, or_left, true≢false}
use Rattle.std.proofs.lemmas.Option.{none-some, same_Some, slice_get_within}
use Rattle.ido_base.specs.declared.place.Place.{Place}
use Rattle.ido_ints.specs.declared.kinds.Kind.{Kind}
use Rattle.ido_ints.specs.declared.operators.Binary.{Binary}
use Rattle.ido_ints.specs.declared.operators.Binary.TheVariants as b
use Rattle.c_tree.specs.Exprs as e
use Rattle.c_tree.specs.Programs as p
use Rattle.c_tree.specs.Flats as f
use Rattle.c_tree.specs.Inlining as i
use Rattle.c_tree.specs.Inlining.{shifted, shifted_placed, shifted_target}
use Rattle.c_tree.specs.NullReferences.{is_null, local_in, unequal_null, unnull, target_assigned, result_assigned, statement_assigned, statements_assigned}
use Rattle.c_tree.specs.NullReferences.{arms_assigned, is_among, expr_nulls, placed_nulls, target_nulls, result_nulls, known_with, known_in}
use Rattle.c_tree.specs.NullReferences.{statement_nulls, statements_nulls, arms_nulls, returned_nulls, program_nulls}
use Rattle.c_tree.specs.NullReferences.{flat_statement_assigned, flat_statements_assigned, flat_arms_assigned, flat_known_with, flat_known_in}
use Rattle.c_tree.specs.NullReferences.{flat_statement_nulls, flat_statements_nulls, flat_arms_nulls}
use Rattle.c_tree.specs.WellFormed.{IsExpr, IsStatement, AreStatements, AreArms, IsFunction, IsProgram}
use Rattle.c_tree.proofs.Public.{among_cases, among_left, among_right, both_empty, fewer_in_statements, left_empty, right_empty}
use Rattle.c_inline.proofs.CallLocals.{Grown, grown_arms, grown_bodies, grown_statement, grown_statements, longer}
use Rattle.c_inline.proofs.LocalsFrom.{At, Into, all_at, at_append, at_into, at_self, into_append}

-- ---- Lists

first_among : (xs : List ℕ) (l : ℕ) → is_among (xs ++ []) l ≡ true → is_among xs l ≡ true
first_among xs l h = subst (λ (ys : List ℕ). is_among ys l ≡ true) (append-nil xs) h

none_among_none : (l : ℕ) → is_among [] l ≡ true → ⊥
none_among_none l h = true≢false (sym h)

one_among : (n l : ℕ) → is_among (n ∷ []) l ≡ true → n ≡ l
one_among n l h = elim (or_cases (n == l) false h) [
  | inl is ↦ eqb-true n l is
  | inr other ↦ absurd (true≢false (sym other))
]

among_itself : (n : ℕ) → is_among (n ∷ []) n ≡ true
among_itself n = or_left (n == n) false (eq-eqb n n refl)

all_empty : {A B : Type 0} (g : A → List B) (xs : List A) (k : ℕ) (x : A) → flat_map g xs ≡ [] → slice_get xs k ≡ Some x → g x ≡ []
all_empty g [] k x h e = absurd (none-some x e)
all_empty {A} {B} g (y ∷ xs) zero x h e = subst (λ (z : A). ◌≡◌ {A = List B} (g z) []) (same_Some y x e) (left_empty (g y) (flat_map g xs) h)
all_empty g (y ∷ xs) (suc k) x h e = all_empty g xs k x (right_empty (g y) (flat_map g xs) h) e

-- ---- Locals that a part assigns

-- the local is one of these, renumbered
abbrev Moved : (n l : ℕ) → List ℕ → Type 0
Moved n l xs = (k : ℕ) × (l ≡ n + k) × (is_among xs k ≡ true)

moved_left : (n l : ℕ) (xs ys : List ℕ) → Moved n l xs → Moved n l (xs ++ ys)
moved_left n l xs ys h = (h.0, h.1, among_left xs ys h.0 h.2)

moved_right : (n l : ℕ) (xs ys : List ℕ) → Moved n l ys → Moved n l (xs ++ ys)
moved_right n l xs ys h = (h.0, h.1, among_right xs ys h.0 h.2)

target_moved : (n l : ℕ) (x : e.Lvalue) → is_among (target_assigned (shifted_target n x)) l ≡ true → Moved n l (target_assigned x)
target_moved n l (e.ToLocal place local kind) h = (local, sym (one_among (n + local) l h), among_itself local)
target_moved n l (e.ToVariable place variable kind) h = absurd (none_among_none l h)
target_moved n l (e.ToElement place variable kind index) h = absurd (none_among_none l h)

both_assigned : (xs ys : f.Statements) → flat_statements_assigned (i.statements_and xs ys) ≡ flat_statements_assigned xs ++ flat_statements_assigned ys
both_assigned f.no_statement ys = refl
both_assigned (f.statement_and x xs) ys =
    ap (λ (ls : List ℕ). flat_statement_assigned x ++ ls) (both_assigned xs ys)
    ∙ sym (append_assoc (flat_statement_assigned x) (flat_statements_assigned xs) (flat_statements_assigned ys))

either_assigned : (xs ys : f.Statements) (l : ℕ) → is_among (flat_statements_assigned (i.statements_and xs ys)) l ≡ true →
    (is_among (flat_statements_assigned xs) l ≡ true) ⊎ (is_among (flat_statements_assigned ys) l ≡ true)
either_assigned xs ys l h =
    among_cases (flat_statements_assigned xs) (flat_statements_assigned ys) l
    (subst (λ (ls : List ℕ). is_among ls l ≡ true) (both_assigned xs ys) h)

passed_assigned : (place : Place) (m : ℕ) (js : List Kind) (ys : List e.Placed) (l : ℕ) →
    is_among (flat_statements_assigned (i.passed place m js ys)) l ≡ true → m ≤ l
passed_assigned place m js [] l h = absurd (none_among_none l h)
passed_assigned place m [] (y ∷ ys) l h = elim (among_cases (m ∷ []) (flat_statements_assigned (i.passed place (m + 1) [] ys)) l h) [
  | inl own ↦ let is = one_among m l own in omega (arith, is)
  | inr more ↦ let past = passed_assigned place (m + 1) [] ys l more in omega (arith, past)
]
passed_assigned place m (j ∷ js) (y ∷ ys) l h = elim (among_cases (m ∷ []) (flat_statements_assigned (i.passed place (m + 1) js ys)) l h) [
  | inl own ↦ let is = one_among m l own in omega (arith, is)
  | inr more ↦ let past = passed_assigned place (m + 1) js ys l more in omega (arith, past)
]

-- a result is assigned to its target
given_assigned : (place : Place) (n m : ℕ) (o : Option p.Returned) (result : Option e.Lvalue) (l : ℕ) →
    is_among (flat_statements_assigned (i.assigned place m o (option_map (shifted_target n) result))) l ≡ true → Moved n l (result_assigned result)
given_assigned place n m None result l h = absurd (none_among_none l h)
given_assigned place n m (Some y) None l h = absurd (none_among_none l h)
given_assigned place n m (Some y) (Some target) l h = target_moved n l target (first_among (target_assigned (shifted_target n target)) l h)

module _ (fs : List p.Function) (bodies : i.Bodies) (grow : (function : ℕ) (ks : i.Locals) → Grown ks (bodies function ks).locals)
    (apart : (function : ℕ) (ks : i.Locals) (l : ℕ) → l < length ks.kinds → is_among (flat_statements_assigned (bodies function ks).made) l ≡ true → ⊥)
    (n : ℕ) where
  abbrev called_by : i.Locals → Place → (function : ℕ) → List e.Placed → Option e.Lvalue → Option p.Function → i.Made f.Statements
  called_by ks place function arguments result o = elim o [
    | Some g ↦ i.called fs bodies place n ks g (bodies function ks) arguments result
    | None ↦ record { made = f.no_statement; locals = ks }
  ]

  call_moved : (ks : i.Locals) (place : Place) (function : ℕ) (arguments : List e.Placed) (result : Option e.Lvalue) (o : Option p.Function) (l : ℕ) →
      l < length ks.kinds → is_among (flat_statements_assigned (called_by ks place function arguments result o).made) l ≡ true →
      Moved n l (result_assigned result)
  call_moved ks place function arguments result None l below h = absurd (none_among_none l h)
  call_moved ks place function arguments result (Some g) l below h =
      let passed = i.passed place (length ks.kinds) g.locals (map (shifted_placed n) arguments) in
      let given = i.assigned place (length ks.kinds) g.result (option_map (shifted_target n) result) in
      elim (either_assigned passed (i.statements_and (bodies function ks).made given) l h) [
        | inl first ↦
            let past = passed_assigned place (length ks.kinds) g.locals (map (shifted_placed n) arguments) l first in
            absurd (omega (arith, past, below))
        | inr more ↦ elim (either_assigned (bodies function ks).made given l more) [
          | inl inside ↦ absurd (apart function ks l below inside)
          | inr back ↦ given_assigned place n (length ks.kinds) g.result result l back
        ]
      ]

  -- below the locals that there were, what a part assigns is what its source does, renumbered
  mutual
    statement_moved : (ks : i.Locals) (y : p.Statement) (l : ℕ) → l < length ks.kinds →
        is_among (flat_statements_assigned (i.statement fs bodies n ks y).made) l ≡ true → Moved n l (statement_assigned y)
    statement_moved ks (p.Assign place target value) l below h = target_moved n l target (first_among (target_assigned (shifted_target n target)) l h)
    statement_moved ks (p.Call place name function arguments result) l below h =
        call_moved ks place function arguments result (slice_get fs function) l below h
    statement_moved ks (p.If place arms otherwise) l below h =
        let a = i.arms_of fs bodies n ks arms in
        let o = i.statements fs bodies n a.locals otherwise in
        let long = longer ks a.locals (grown_arms fs bodies grow n ks arms) in
        elim (among_cases (flat_arms_assigned a.made) (flat_statements_assigned o.made) l
        (first_among (flat_arms_assigned a.made ++ flat_statements_assigned o.made) l h)) [
          | inl first ↦ moved_left n l (arms_assigned arms) (statements_assigned otherwise) (arms_moved ks arms l below first)
          | inr second ↦
              moved_right n l (arms_assigned arms) (statements_assigned otherwise)
              (statements_moved a.locals otherwise l (omega (arith, below, long)) second)
        ]
    statement_moved ks (p.While place condition body) l below h =
        statements_moved ks body l below (first_among (flat_statements_assigned (i.statements fs bodies n ks body).made) l h)
    statement_moved ks (p.Do place body condition) l below h =
        statements_moved ks body l below (first_among (flat_statements_assigned (i.statements fs bodies n ks body).made) l h)
    statement_moved ks (p.Lock place lock) l below h = absurd (none_among_none l h)
    statement_moved ks (p.Unlock place lock) l below h = absurd (none_among_none l h)

    statements_moved : (ks : i.Locals) (ys : p.Statements) (l : ℕ) → l < length ks.kinds →
        is_among (flat_statements_assigned (i.statements fs bodies n ks ys).made) l ≡ true → Moved n l (statements_assigned ys)
    statements_moved ks p.no_statement l below h = absurd (none_among_none l h)
    statements_moved ks (p.statement_and y rest) l below h =
        let m = i.statement fs bodies n ks y in
        let long = longer ks m.locals (grown_statement fs bodies grow n ks y) in
        elim (either_assigned m.made (i.statements fs bodies n m.locals rest).made l h) [
          | inl first ↦ moved_left n l (statement_assigned y) (statements_assigned rest) (statement_moved ks y l below first)
          | inr second ↦
              moved_right n l (statement_assigned y) (statements_assigned rest) (statements_moved m.locals rest l (omega (arith, below, long)) second)
        ]

    arms_moved : (ks : i.Locals) (ys : p.Arms) (l : ℕ) → l < length ks.kinds →
        is_among (flat_arms_assigned (i.arms_of fs bodies n ks ys).made) l ≡ true → Moved n l (arms_assigned ys)
    arms_moved ks p.no_arm l below h = absurd (none_among_none l h)
    arms_moved ks (p.arm_and condition body rest) l below h =
        let m = i.statements fs bodies n ks body in
        let long = longer ks m.locals (grown_statements fs bodies grow n ks body) in
        elim (among_cases (flat_statements_assigned m.made) (flat_arms_assigned (i.arms_of fs bodies n m.locals rest).made) l h) [
          | inl first ↦ moved_left n l (statements_assigned body) (arms_assigned rest) (statements_moved ks body l below first)
          | inr second ↦ moved_right n l (statements_assigned body) (arms_assigned rest) (arms_moved m.locals rest l (omega (arith, below, long)) second)
        ]

-- a body assigns none of the locals that there were
abbrev body_by : List p.Function → i.Bodies → i.Locals → Option p.Function → i.Made f.Statements
body_by fs bodies ks o = elim o [
  | Some g ↦ i.statements fs bodies (length ks.kinds) (i.joined ks (i.locals g.locals g.refers)) g.body
  | None ↦ record { made = f.no_statement; locals = ks }
]

module _ (fs : List p.Function) where
  body_apart : (bodies : i.Bodies) → ((function : ℕ) (ks : i.Locals) → Grown ks (bodies function ks).locals) →
      ((function : ℕ) (ks : i.Locals) (l : ℕ) → l < length ks.kinds → is_among (flat_statements_assigned (bodies function ks).made) l ≡ true → ⊥) →
      (ks : i.Locals) (o : Option p.Function) (l : ℕ) → l < length ks.kinds →
      is_among (flat_statements_assigned (body_by fs bodies ks o).made) l ≡ true → ⊥
  body_apart bodies grow apart ks None l below h = none_among_none l h
  body_apart bodies grow apart ks (Some g) l below h =
      let own = i.locals g.locals g.refers in
      let long = longer ks (i.joined ks own) (own, refl) in
      let moved = statements_moved fs bodies grow apart (length ks.kinds) (i.joined ks own) g.body l (omega (arith, below, long)) h in
      let is = moved.1 in
      omega (arith, is, below)

  bodies_apart : (deep function : ℕ) (ks : i.Locals) (l : ℕ) → l < length ks.kinds →
      is_among (flat_statements_assigned (i.bodies_of fs deep function ks).made) l ≡ true → ⊥
  bodies_apart zero function ks l below h = none_among_none l h
  bodies_apart (suc deep) function ks l below h =
      body_apart (i.bodies_of fs deep) (grown_bodies fs deep) (bodies_apart deep) ks (slice_get fs function) l below h

-- ---- What a condition says

module _ (n : ℕ) where
  abbrev more : ℕ → ℕ
  more l = n + l

  null_shifted : (x : e.Expr) → is_null (shifted n x) ≡ is_null x
  null_shifted (e.Constant value) = refl
  null_shifted (e.Local local kind) = refl
  null_shifted (e.Variable place variable kind) = refl
  null_shifted (e.Element place variable kind index_place index) = refl
  null_shifted (e.Address variable index_place index) = refl
  null_shifted (e.Referent place last local) = refl
  null_shifted (e.Unary operator operand) = refl
  null_shifted (e.Cast kind operand) = refl
  null_shifted (e.Converted kind operand) = refl
  null_shifted (e.Binary operator left right) = refl
  null_shifted (e.Conditional kind condition chosen otherwise) = refl

  local_shifted : (x : e.Expr) → local_in (shifted n x) ≡ option_map more (local_in x)
  local_shifted (e.Constant value) = refl
  local_shifted (e.Local local kind) = refl
  local_shifted (e.Variable place variable kind) = refl
  local_shifted (e.Element place variable kind index_place index) = refl
  local_shifted (e.Address variable index_place index) = refl
  local_shifted (e.Referent place last local) = refl
  local_shifted (e.Unary operator operand) = refl
  local_shifted (e.Cast kind operand) = refl
  local_shifted (e.Converted kind operand) = refl
  local_shifted (e.Binary operator left right) = refl
  local_shifted (e.Conditional kind condition chosen otherwise) = refl

  -- by which of the two is null
  abbrev chosen_by : Bool → Bool → (left right : Option ℕ) → Option ℕ
  chosen_by right_null left_null left right = if right_null then left else if left_null then right else None

  chosen_moved : (r l : Bool) (left right : Option ℕ) →
      chosen_by r l (option_map more left) (option_map more right) ≡ option_map more (chosen_by r l left right)
  chosen_moved true l left right = refl
  chosen_moved false true left right = refl
  chosen_moved false false left right = refl

  unequal_shifted : (x y : e.Expr) → unequal_null (shifted n x) (shifted n y) ≡ option_map more (unequal_null x y)
  unequal_shifted x y =
      let each : unequal_null (shifted n x) (shifted n y) ≡
      chosen_by (is_null y) (is_null x) (option_map more (local_in x)) (option_map more (local_in y)) =
      λ j. chosen_by (null_shifted y j) (null_shifted x j) (local_shifted x j) (local_shifted y j) in
      each ∙ chosen_moved (is_null y) (is_null x) (local_in x) (local_in y)

  binary_shifted : (operator : Binary) (x y : e.Expr) →
      unnull (e.Binary operator (shifted n x) (shifted n y)) ≡ option_map more (unnull (e.Binary operator x y))
  binary_shifted b.Mul x y = refl
  binary_shifted b.Div x y = refl
  binary_shifted b.Rem x y = refl
  binary_shifted b.Add x y = refl
  binary_shifted b.Sub x y = refl
  binary_shifted b.ShiftLeft x y = refl
  binary_shifted b.ShiftRight x y = refl
  binary_shifted b.Less x y = refl
  binary_shifted b.Greater x y = refl
  binary_shifted b.LessEqual x y = refl
  binary_shifted b.GreaterEqual x y = refl
  binary_shifted b.Equal x y = refl
  binary_shifted b.NotEqual x y = unequal_shifted x y
  binary_shifted b.And x y = refl
  binary_shifted b.Xor x y = refl
  binary_shifted b.Or x y = refl
  binary_shifted b.LogicalAnd x y = refl
  binary_shifted b.LogicalOr x y = refl

  unnull_shifted : (x : e.Expr) → unnull (shifted n x) ≡ option_map more (unnull x)
  unnull_shifted (e.Constant value) = refl
  unnull_shifted (e.Local local kind) = refl
  unnull_shifted (e.Variable place variable kind) = refl
  unnull_shifted (e.Element place variable kind index_place index) = refl
  unnull_shifted (e.Address variable index_place index) = refl
  unnull_shifted (e.Referent place last local) = refl
  unnull_shifted (e.Unary operator operand) = refl
  unnull_shifted (e.Cast kind operand) = refl
  unnull_shifted (e.Converted kind operand) = refl
  unnull_shifted (e.Binary operator left right) = binary_shifted operator left right
  unnull_shifted (e.Conditional kind condition chosen otherwise) = refl

-- ---- The local of which it says so is there

module _ (vs : List p.Variable) (js : List Kind) where
  abbrev There : ℕ → Type 0
  There local = (kind : Kind) × (slice_get js local ≡ Some kind)

  local_there : (x : e.Expr) (local : ℕ) → local_in x ≡ Some local → IsExpr vs js x → There local
  local_there (e.Constant value) local is w = absurd (none-some local is)
  local_there (e.Local own kind) local is w = (kind, subst (λ (l : ℕ). slice_get js l ≡ Some kind) (same_Some own local is) w)
  local_there (e.Variable place variable kind) local is w = absurd (none-some local is)
  local_there (e.Element place variable kind index_place index) local is w = absurd (none-some local is)
  local_there (e.Address variable index_place index) local is w = absurd (none-some local is)
  local_there (e.Referent place last own) local is w = absurd (none-some local is)
  local_there (e.Unary operator operand) local is w = absurd (none-some local is)
  local_there (e.Cast kind operand) local is w = absurd (none-some local is)
  local_there (e.Converted kind operand) local is w = absurd (none-some local is)
  local_there (e.Binary operator left right) local is w = absurd (none-some local is)
  local_there (e.Conditional kind condition chosen otherwise) local is w = absurd (none-some local is)

  unequal_there : (x y : e.Expr) (local : ℕ) → IsExpr vs js x → IsExpr vs js y → (r l : Bool) →
      (let o : Option ℕ = if r then local_in x else if l then local_in y else None in o ≡ Some local) → There local
  unequal_there x y local w v true l is = local_there x local is w
  unequal_there x y local w v false true is = local_there y local is v
  unequal_there x y local w v false false is = absurd (none-some local is)

  binary_there : (operator : Binary) (x y : e.Expr) (local : ℕ) → unnull (e.Binary operator x y) ≡ Some local → IsExpr vs js x → IsExpr vs js y → There local
  binary_there b.Mul x y local is w v = absurd (none-some local is)
  binary_there b.Div x y local is w v = absurd (none-some local is)
  binary_there b.Rem x y local is w v = absurd (none-some local is)
  binary_there b.Add x y local is w v = absurd (none-some local is)
  binary_there b.Sub x y local is w v = absurd (none-some local is)
  binary_there b.ShiftLeft x y local is w v = absurd (none-some local is)
  binary_there b.ShiftRight x y local is w v = absurd (none-some local is)
  binary_there b.Less x y local is w v = absurd (none-some local is)
  binary_there b.Greater x y local is w v = absurd (none-some local is)
  binary_there b.LessEqual x y local is w v = absurd (none-some local is)
  binary_there b.GreaterEqual x y local is w v = absurd (none-some local is)
  binary_there b.Equal x y local is w v = absurd (none-some local is)
  binary_there b.NotEqual x y local is w v = unequal_there x y local w v (is_null y) (is_null x) is
  binary_there b.And x y local is w v = absurd (none-some local is)
  binary_there b.Xor x y local is w v = absurd (none-some local is)
  binary_there b.Or x y local is w v = absurd (none-some local is)
  binary_there b.LogicalAnd x y local is w v = absurd (none-some local is)
  binary_there b.LogicalOr x y local is w v = absurd (none-some local is)

  unnull_there : (x : e.Expr) (local : ℕ) → unnull x ≡ Some local → IsExpr vs js x → There local
  unnull_there (e.Constant value) local is w = absurd (none-some local is)
  unnull_there (e.Local own kind) local is w = absurd (none-some local is)
  unnull_there (e.Variable place variable kind) local is w = absurd (none-some local is)
  unnull_there (e.Element place variable kind index_place index) local is w = absurd (none-some local is)
  unnull_there (e.Address variable index_place index) local is w = absurd (none-some local is)
  unnull_there (e.Referent place last own) local is w = absurd (none-some local is)
  unnull_there (e.Unary operator operand) local is w = absurd (none-some local is)
  unnull_there (e.Cast kind operand) local is w = absurd (none-some local is)
  unnull_there (e.Converted kind operand) local is w = absurd (none-some local is)
  unnull_there (e.Binary operator left right) local is w = binary_there operator left right local is w.0 w.1
  unnull_there (e.Conditional kind condition chosen otherwise) local is w = absurd (none-some local is)

-- ---- What is known

-- all that is known of is known of renumbered
abbrev Knows : (n : ℕ) → (known here : List ℕ) → Type 0
Knows n known here = (l : ℕ) → is_among known l ≡ true → is_among here (n + l) ≡ true

module _ (n : ℕ) (known here : List ℕ) (sub : Knows n known here) where
  expr_silent : (x : e.Expr) → expr_nulls known x ≡ [] → expr_nulls here (shifted n x) ≡ []
  expr_silent (e.Constant value) h = refl
  expr_silent (e.Local local kind) h = refl
  expr_silent (e.Variable place variable kind) h = refl
  expr_silent (e.Element place variable kind index_place index) h = expr_silent index h
  expr_silent (e.Address variable index_place index) h = expr_silent index h
  expr_silent (e.Referent place last local) h = by (is_among known local) refl h
    where
      by : (c : Bool) → is_among known local ≡ c → ◌≡◌ {A = List Place} (if c then [] else place ∷ []) [] →
          expr_nulls here (e.Referent place last (n + local)) ≡ []
      by true is k = ap (λ (c : Bool). if c then [] else place ∷ []) (sub local is)
      by false is k = absurd (cc)
  expr_silent (e.Unary operator operand) h = expr_silent operand h
  expr_silent (e.Cast kind operand) h = expr_silent operand h
  expr_silent (e.Converted kind operand) h = expr_silent operand h
  expr_silent (e.Binary operator left right) h =
      both_empty (expr_nulls here (shifted n left)) (expr_nulls here (shifted n right))
      (expr_silent left (left_empty (expr_nulls known left) (expr_nulls known right) h))
      (expr_silent right (right_empty (expr_nulls known left) (expr_nulls known right) h))
  expr_silent (e.Conditional kind condition chosen otherwise) h =
      let first = expr_nulls known condition ++ expr_nulls known chosen in
      let both = left_empty first (expr_nulls known otherwise) h in
      both_empty (expr_nulls here (shifted n condition) ++ expr_nulls here (shifted n chosen)) (expr_nulls here (shifted n otherwise))
      (both_empty (expr_nulls here (shifted n condition)) (expr_nulls here (shifted n chosen))
      (expr_silent condition (left_empty (expr_nulls known condition) (expr_nulls known chosen) both))
      (expr_silent chosen (right_empty (expr_nulls known condition) (expr_nulls known chosen) both)))
      (expr_silent otherwise (right_empty first (expr_nulls known otherwise) h))

  target_silent : (x : e.Lvalue) → target_nulls known x ≡ [] → target_nulls here (shifted_target n x) ≡ []
  target_silent (e.ToLocal place local kind) h = refl
  target_silent (e.ToVariable place variable kind) h = refl
  target_silent (e.ToElement place variable kind index) h = expr_silent index.expr h

  -- a block that assigns a local assigns it renumbered
  abbrev Only : (body : p.Statements) (made : f.Statements) → Option ℕ → Type 0
  Only body made o = (local : ℕ) → o ≡ Some local → is_among (flat_statements_assigned made) (n + local) ≡ true →
      is_among (statements_assigned body) local ≡ true

  with_moved : (body : p.Statements) (made : f.Statements) (o : Option ℕ) → Only body made o →
      Knows n (known_with known body o) (flat_known_with here made (option_map (more n) o))
  with_moved body made None only = sub
  with_moved body made (Some local) only =
      by (is_among (statements_assigned body) local) (is_among (flat_statements_assigned made) (n + local)) refl refl
    where
      by : (c d : Bool) → is_among (statements_assigned body) local ≡ c → is_among (flat_statements_assigned made) (n + local) ≡ d →
          Knows n (if c then known else known ++ local ∷ []) (if d then here else here ++ (n + local) ∷ [])
      by true true is at = sub
      by true false is at = λ l h. among_left here ((n + local) ∷ []) (n + l) (sub l h)
      by false true is at = absurd (true≢false (sym (only local refl at) ∙ is))
      by false false is at = λ l h. elim (among_cases known (local ∷ []) l h) [
        | inl before ↦ among_left here ((n + local) ∷ []) (n + l) (sub l before)
        | inr own ↦
            among_right here ((n + local) ∷ []) (n + l)
            (subst (λ (k : ℕ). is_among ((n + local) ∷ []) (n + k) ≡ true) (one_among local l own) (among_itself (n + local)))
      ]

  in_moved : (first : Bool) (condition : e.Placed) (body : p.Statements) (made : f.Statements) → Only body made (unnull condition.expr) →
      Knows n (known_in known first condition body) (flat_known_in here first (shifted_placed n condition) made)
  in_moved false condition body made only = sub
  in_moved true condition body made only =
      subst (λ (o : Option ℕ). Knows n (known_with known body (unnull condition.expr)) (flat_known_with here made o)) (sym (unnull_shifted n condition.expr))
      (with_moved body made (unnull condition.expr) only)

-- ---- Statements

and_silent : (here : List ℕ) (xs ys : f.Statements) → flat_statements_nulls here xs ≡ [] → flat_statements_nulls here ys ≡ [] →
    flat_statements_nulls here (i.statements_and xs ys) ≡ []
and_silent here f.no_statement ys h k = k
and_silent here (f.statement_and x xs) ys h k =
    both_empty (flat_statement_nulls here x) (flat_statements_nulls here (i.statements_and xs ys))
    (left_empty (flat_statement_nulls here x) (flat_statements_nulls here xs) h)
    (and_silent here xs ys (right_empty (flat_statement_nulls here x) (flat_statements_nulls here xs) h) k)

passed_silent : (n : ℕ) (known here : List ℕ) → Knows n known here → (place : Place) (m : ℕ) (js : List Kind) (ys : List e.Placed) →
    flat_map (placed_nulls known) ys ≡ [] → flat_statements_nulls here (i.passed place m js (map (shifted_placed n) ys)) ≡ []
passed_silent n known here sub place m js [] h = refl
passed_silent n known here sub place m [] (y ∷ ys) h =
    both_empty (expr_nulls here (shifted n y.expr)) (flat_statements_nulls here (i.passed place (m + 1) [] (map (shifted_placed n) ys)))
    (expr_silent n known here sub y.expr (left_empty (expr_nulls known y.expr) (flat_map (placed_nulls known) ys) h))
    (passed_silent n known here sub place (m + 1) [] ys (right_empty (expr_nulls known y.expr) (flat_map (placed_nulls known) ys) h))
passed_silent n known here sub place m (j ∷ js) (y ∷ ys) h =
    both_empty (expr_nulls here (shifted n y.expr)) (flat_statements_nulls here (i.passed place (m + 1) js (map (shifted_placed n) ys)))
    (expr_silent n known here sub y.expr (left_empty (expr_nulls known y.expr) (flat_map (placed_nulls known) ys) h))
    (passed_silent n known here sub place (m + 1) js ys (right_empty (expr_nulls known y.expr) (flat_map (placed_nulls known) ys) h))

given_silent : (n : ℕ) (known here : List ℕ) → Knows n known here → (place : Place) (m : ℕ) (o : Option p.Returned) (result : Option e.Lvalue) →
    returned_nulls o ≡ [] → result_nulls known result ≡ [] →
    flat_statements_nulls here (i.assigned place m o (option_map (shifted_target n) result)) ≡ []
given_silent n known here sub place m None result h k = refl
given_silent n known here sub place m (Some y) None h k = refl
given_silent n known here sub place m (Some y) (Some target) h k =
    both_empty (target_nulls here (shifted_target n target) ++ expr_nulls here (shifted m y.value.expr)) []
    (both_empty (target_nulls here (shifted_target n target)) (expr_nulls here (shifted m y.value.expr)) (target_silent n known here sub target k)
    (expr_silent m [] here (λ l none. absurd (none_among_none l none)) y.value.expr h)) refl

module _ (x : p.Program) (prog : IsProgram x) (never : program_nulls x ≡ []) where
  abbrev fs : List p.Function
  fs = x.functions

  abbrev function_nulls : p.Function → List Place
  function_nulls g = statements_nulls [] g.body ++ returned_nulls g.result

  abbrev thread_nulls : p.Thread → List Place
  thread_nulls t = statements_nulls [] t.body

  function_never : (k : ℕ) (g : p.Function) → slice_get fs k ≡ Some g → function_nulls g ≡ []
  function_never k g found =
      all_empty function_nulls fs k g (left_empty (flat_map function_nulls fs) (flat_map thread_nulls x.threads) never) found

  module _ (bodies : i.Bodies) (grow : (function : ℕ) (ks : i.Locals) → Grown ks (bodies function ks).locals)
      (apart : (function : ℕ) (ks : i.Locals) (l : ℕ) → l < length ks.kinds → is_among (flat_statements_assigned (bodies function ks).made) l ≡ true → ⊥)
      (silent : (function : ℕ) (ks : i.Locals) → flat_statements_nulls [] (bodies function ks).made ≡ []) (n : ℕ) (js : List Kind) where
    call_silent : (known here : List ℕ) → Knows n known here → (ks : i.Locals) (place : Place) (function : ℕ) (arguments : List e.Placed)
        (result : Option e.Lvalue) → flat_map (placed_nulls known) arguments ≡ [] → result_nulls known result ≡ [] →
        (o : Option p.Function) → slice_get fs function ≡ o →
        flat_statements_nulls here (called_by fs bodies grow apart n ks place function arguments result o).made ≡ []
    call_silent known here sub ks place function arguments result h k None found = refl
    call_silent known here sub ks place function arguments result h k (Some g) found =
        let given = i.assigned place (length ks.kinds) g.result (option_map (shifted_target n) result) in
        let back = right_empty (statements_nulls [] g.body) (returned_nulls g.result) (function_never function g found) in
        and_silent here (i.passed place (length ks.kinds) g.locals (map (shifted_placed n) arguments)) (i.statements_and (bodies function ks).made given)
        (passed_silent n known here sub place (length ks.kinds) g.locals arguments h)
        (and_silent here (bodies function ks).made given
        (fewer_in_statements [] here (λ l none. absurd (none_among_none l none)) (bodies function ks).made (silent function ks))
        (given_silent n known here sub place (length ks.kinds) g.result result back k))

    into_grown : (ks ls : i.Locals) → Grown ks ls → Into ks.kinds ls.kinds
    into_grown ks ls g = subst (λ (l : i.Locals). Into ks.kinds l.kinds) (sym g.1) (into_append ks.kinds g.0.kinds)

    -- a local that a block's condition names is one of those that there were
    only_those : (ks : i.Locals) (condition : e.Placed) (body : p.Statements) → At n js ks.kinds → IsExpr x.variables js condition.expr →
        (local : ℕ) → unnull condition.expr ≡ Some local → is_among (flat_statements_assigned (i.statements fs bodies n ks body).made) (n + local) ≡ true →
        is_among (statements_assigned body) local ≡ true
    only_those ks condition body at w local is h =
        let there = unnull_there x.variables js condition.expr local is w in
        let inside = slice_get_within ks.kinds (n + local) there.0 (at local there.0 there.1) in
        let moved = statements_moved fs bodies grow apart n ks body (n + local) inside h in
        let sum = moved.1 in
        let same : moved.0 ≡ local = omega (arith, sum) in
        subst (λ (l : ℕ). is_among (statements_assigned body) l ≡ true) same moved.2

    mutual
      statement_silent : (known here : List ℕ) → Knows n known here → (ks : i.Locals) (y : p.Statement) → At n js ks.kinds → IsStatement x js y →
          statement_nulls known y ≡ [] → flat_statements_nulls here (i.statement fs bodies n ks y).made ≡ []
      statement_silent known here sub ks (p.Assign place target value) at w h =
          both_empty (target_nulls here (shifted_target n target) ++ expr_nulls here (shifted n value.expr)) []
          (both_empty (target_nulls here (shifted_target n target)) (expr_nulls here (shifted n value.expr))
          (target_silent n known here sub target (left_empty (target_nulls known target) (placed_nulls known value) h))
          (expr_silent n known here sub value.expr (right_empty (target_nulls known target) (placed_nulls known value) h))) refl
      statement_silent known here sub ks (p.Call place name function arguments result) at w h =
          call_silent known here sub ks place function arguments result
          (left_empty (flat_map (placed_nulls known) arguments) (result_nulls known result) h)
          (right_empty (flat_map (placed_nulls known) arguments) (result_nulls known result) h) (slice_get fs function) refl
      statement_silent known here sub ks (p.If place arms otherwise) at w h =
          let a = i.arms_of fs bodies n ks arms in
          let o = i.statements fs bodies n a.locals otherwise in
          let there = at_into n js ks.kinds a.locals.kinds at (into_grown ks a.locals (grown_arms fs bodies grow n ks arms)) in
          both_empty (flat_arms_nulls here true a.made ++ flat_statements_nulls here o.made) []
          (both_empty (flat_arms_nulls here true a.made) (flat_statements_nulls here o.made)
          (arms_silent known here sub true ks arms at w.1 (left_empty (arms_nulls known true arms) (statements_nulls known otherwise) h))
          (statements_silent known here sub a.locals otherwise there w.2 (right_empty (arms_nulls known true arms) (statements_nulls known otherwise) h)))
          refl
      statement_silent known here sub ks (p.While place condition body) at w h =
          let m = i.statements fs bodies n ks body in
          both_empty (expr_nulls here (shifted n condition.expr) ++ flat_statements_nulls here m.made) []
          (both_empty (expr_nulls here (shifted n condition.expr)) (flat_statements_nulls here m.made)
          (expr_silent n known here sub condition.expr (left_empty (placed_nulls known condition) (statements_nulls known body) h))
          (statements_silent known here sub ks body at w.1 (right_empty (placed_nulls known condition) (statements_nulls known body) h))) refl
      statement_silent known here sub ks (p.Do place body condition) at w h =
          let m = i.statements fs bodies n ks body in
          both_empty (flat_statements_nulls here m.made ++ expr_nulls here (shifted n condition.expr)) []
          (both_empty (flat_statements_nulls here m.made) (expr_nulls here (shifted n condition.expr))
          (statements_silent known here sub ks body at w.0 (left_empty (statements_nulls known body) (placed_nulls known condition) h))
          (expr_silent n known here sub condition.expr (right_empty (statements_nulls known body) (placed_nulls known condition) h))) refl
      statement_silent known here sub ks (p.Lock place lock) at w h = refl
      statement_silent known here sub ks (p.Unlock place lock) at w h = refl

      statements_silent : (known here : List ℕ) → Knows n known here → (ks : i.Locals) (ys : p.Statements) → At n js ks.kinds → AreStatements x js ys →
          statements_nulls known ys ≡ [] → flat_statements_nulls here (i.statements fs bodies n ks ys).made ≡ []
      statements_silent known here sub ks p.no_statement at w h = refl
      statements_silent known here sub ks (p.statement_and y rest) at w h =
          let m = i.statement fs bodies n ks y in
          let there = at_into n js ks.kinds m.locals.kinds at (into_grown ks m.locals (grown_statement fs bodies grow n ks y)) in
          and_silent here m.made (i.statements fs bodies n m.locals rest).made
          (statement_silent known here sub ks y at w.0 (left_empty (statement_nulls known y) (statements_nulls known rest) h))
          (statements_silent known here sub m.locals rest there w.1 (right_empty (statement_nulls known y) (statements_nulls known rest) h))

      arms_silent : (known here : List ℕ) → Knows n known here → (first : Bool) (ks : i.Locals) (ys : p.Arms) → At n js ks.kinds → AreArms x js ys →
          arms_nulls known first ys ≡ [] → flat_arms_nulls here first (i.arms_of fs bodies n ks ys).made ≡ []
      arms_silent known here sub first ks p.no_arm at w h = refl
      arms_silent known here sub first ks (p.arm_and condition body rest) at w h =
          let m = i.statements fs bodies n ks body in
          let others = i.arms_of fs bodies n m.locals rest in
          let there = at_into n js ks.kinds m.locals.kinds at (into_grown ks m.locals (grown_statements fs bodies grow n ks body)) in
          let inside = known_in known first condition body in
          let wider = flat_known_in here first (shifted_placed n condition) m.made in
          let knows = in_moved n known here sub first condition body m.made (only_those ks condition body at w.0) in
          let before = placed_nulls known condition ++ statements_nulls inside body in
          let both = left_empty before (arms_nulls known false rest) h in
          both_empty (expr_nulls here (shifted n condition.expr) ++ flat_statements_nulls wider m.made) (flat_arms_nulls here false others.made)
          (both_empty (expr_nulls here (shifted n condition.expr)) (flat_statements_nulls wider m.made)
          (expr_silent n known here sub condition.expr (left_empty (placed_nulls known condition) (statements_nulls inside body) both))
          (statements_silent inside wider knows ks body at w.1 (right_empty (placed_nulls known condition) (statements_nulls inside body) both)))
          (arms_silent known here sub false m.locals rest there w.2 (right_empty before (arms_nulls known false rest) h))

  -- ---- Bodies, threads

  body_silent : (bodies : i.Bodies) → ((function : ℕ) (ks : i.Locals) → Grown ks (bodies function ks).locals) →
      ((function : ℕ) (ks : i.Locals) (l : ℕ) → l < length ks.kinds → is_among (flat_statements_assigned (bodies function ks).made) l ≡ true → ⊥) →
      ((function : ℕ) (ks : i.Locals) → flat_statements_nulls [] (bodies function ks).made ≡ []) → (function : ℕ) (ks : i.Locals) (o : Option p.Function) →
      slice_get fs function ≡ o → flat_statements_nulls [] (body_by fs bodies ks o).made ≡ []
  body_silent bodies grow apart silent function ks None found = refl
  body_silent bodies grow apart silent function ks (Some g) found =
      let own = all_at (IsFunction x) fs function g prog.functions found in
      statements_silent bodies grow apart silent (length ks.kinds) g.locals [] [] (λ l none. absurd (none_among_none l none))
      (i.joined ks (i.locals g.locals g.refers)) g.body (at_append ks.kinds g.locals) own.body
      (left_empty (statements_nulls [] g.body) (returned_nulls g.result) (function_never function g found))

  bodies_silent : (deep function : ℕ) (ks : i.Locals) → flat_statements_nulls [] (i.bodies_of fs deep function ks).made ≡ []
  bodies_silent zero function ks = refl
  bodies_silent (suc deep) function ks =
      body_silent (i.bodies_of fs deep) (grown_bodies fs deep) (bodies_apart fs deep) (bodies_silent deep) function ks (slice_get fs function) refl

  pub thread_silent : (k : ℕ) (t : p.Thread) → slice_get x.threads k ≡ Some t → AreStatements x t.locals t.body →
      flat_statements_nulls [] (i.flat_thread fs t).body ≡ []
  thread_silent k t found w =
      statements_silent (i.bodies_of fs (length fs)) (grown_bodies fs (length fs)) (bodies_apart fs (length fs)) (bodies_silent (length fs)) 0 t.locals
      [] [] (λ l none. absurd (none_among_none l none)) (i.locals t.locals t.refers) t.body (at_self t.locals) w
      (all_empty thread_nulls x.threads k t (right_empty (flat_map function_nulls fs) (flat_map thread_nulls x.threads) never) found)
