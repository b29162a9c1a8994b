-- Where references may be null: to know of more locals leaves no more places, and a first arm knows as much as any.
use Rattle.std.proofs.Common.{◌≡◌, ◌⊎◌, inl, inr, refl, sym, ◌∙◌, ap, ℕ, ◌==◌, List, [], ◌∷◌, ◌++◌}
use Rattle.std.proofs.Common.{Bool, true, false, ◌||◌, Option, Some, None}
use Rattle.std.specs.Prelude.{if◌then◌else◌}
use Rattle.std.proofs.lemmas.Bool.{or_parts, or_cases, or_left, or_right}
use Rattle.std.proofs.lemmas.List.Folds.{list_any-append}
use Rattle.ido_base.specs.declared.place.Place.{Place}
use Rattle.c_tree.specs.Exprs as e
use Rattle.c_tree.specs.Flats as f
use Rattle.c_tree.specs.NullReferences.{is_among, unnull, expr_nulls, placed_nulls, target_nulls, flat_known_with, flat_known_in}
use Rattle.c_tree.specs.NullReferences.{flat_statements_assigned, flat_statement_nulls, flat_statements_nulls, flat_arms_nulls}

-- ---- Lists that are empty

pub left_empty : {A : Type 0} (xs ys : List A) → xs ++ ys ≡ [] → xs ≡ []
left_empty [] ys h = refl
left_empty (x ∷ xs) ys h = absurd (cc)

pub right_empty : {A : Type 0} (xs ys : List A) → xs ++ ys ≡ [] → ys ≡ []
right_empty [] ys h = h
right_empty (x ∷ xs) ys h = absurd (cc)

pub both_empty : {A : Type 0} (xs ys : List A) → xs ≡ [] → ys ≡ [] → xs ++ ys ≡ []
both_empty xs ys h k = ap (λ zs. zs ++ ys) h ∙ k

-- ---- One of several locals

pub among_left : (xs ys : List ℕ) (l : ℕ) → is_among xs l ≡ true → is_among (xs ++ ys) l ≡ true
among_left xs ys l h = list_any-append (λ (k : ℕ). k == l) xs ys ∙ or_left (is_among xs l) (is_among ys l) h

pub among_right : (xs ys : List ℕ) (l : ℕ) → is_among ys l ≡ true → is_among (xs ++ ys) l ≡ true
among_right xs ys l h = list_any-append (λ (k : ℕ). k == l) xs ys ∙ or_right (is_among xs l) (is_among ys l) h

pub among_cases : (xs ys : List ℕ) (l : ℕ) → is_among (xs ++ ys) l ≡ true → (is_among xs l ≡ true) ⊎ (is_among ys l ≡ true)
among_cases xs ys l h = or_cases (is_among xs l) (is_among ys l) (sym (list_any-append (λ (k : ℕ). k == l) xs ys) ∙ h)

pub among_none : (xs ys : List ℕ) (l : ℕ) → is_among (xs ++ ys) l ≡ false → (is_among xs l ≡ false) × (is_among ys l ≡ false)
among_none xs ys l h = or_parts (is_among xs l) (is_among ys l) (sym (list_any-append (λ (k : ℕ). k == l) xs ys) ∙ h)

pub none_among : (xs ys : List ℕ) (l : ℕ) → is_among xs l ≡ false → is_among ys l ≡ false → is_among (xs ++ ys) l ≡ false
none_among xs ys l h k = list_any-append (λ (i : ℕ). i == l) xs ys ∙ (ap (λ (b : Bool). b || is_among ys l) h ∙ k)

-- all of the one list are in the other
abbrev pub AreAmong : List ℕ → List ℕ → Type 0
AreAmong xs ys = (l : ℕ) → is_among xs l ≡ true → is_among ys l ≡ true

-- ---- More is known

module _ (known more : List ℕ) (sub : AreAmong known more) where
  pub fewer_in_expr : (x : e.Expr) → expr_nulls known x ≡ [] → expr_nulls more x ≡ []
  fewer_in_expr (e.Constant value) h = refl
  fewer_in_expr (e.Local local kind) h = refl
  fewer_in_expr (e.Variable place variable kind) h = refl
  fewer_in_expr (e.Element place variable kind index_place index) h = fewer_in_expr index h
  fewer_in_expr (e.Address variable index_place index) h = fewer_in_expr index h
  fewer_in_expr (e.Referent place last local) h = by (is_among known local) refl h
    where
      by : (b : Bool) → is_among known local ≡ b → ◌≡◌ {A = List Place} (if b then [] else place ∷ []) [] → expr_nulls more (e.Referent place last local) ≡ []
      by true is k = ap (λ (c : Bool). if c then [] else place ∷ []) (sub local is)
      by false is k = absurd (cc)
  fewer_in_expr (e.Unary operator operand) h = fewer_in_expr operand h
  fewer_in_expr (e.Cast kind operand) h = fewer_in_expr operand h
  fewer_in_expr (e.Converted kind operand) h = fewer_in_expr operand h
  fewer_in_expr (e.Binary operator left right) h =
      both_empty (expr_nulls more left) (expr_nulls more right)
      (fewer_in_expr left (left_empty (expr_nulls known left) (expr_nulls known right) h))
      (fewer_in_expr right (right_empty (expr_nulls known left) (expr_nulls known right) h))
  fewer_in_expr (e.Conditional kind condition chosen otherwise) h =
      let first = expr_nulls known condition ++ expr_nulls known chosen in
      let both = left_empty first (expr_nulls known otherwise) h in
      both_empty (expr_nulls more condition ++ expr_nulls more chosen) (expr_nulls more otherwise)
      (both_empty (expr_nulls more condition) (expr_nulls more chosen)
      (fewer_in_expr condition (left_empty (expr_nulls known condition) (expr_nulls known chosen) both))
      (fewer_in_expr chosen (right_empty (expr_nulls known condition) (expr_nulls known chosen) both)))
      (fewer_in_expr otherwise (right_empty first (expr_nulls known otherwise) h))

  pub fewer_in_target : (x : e.Lvalue) → target_nulls known x ≡ [] → target_nulls more x ≡ []
  fewer_in_target (e.ToLocal place local kind) h = refl
  fewer_in_target (e.ToVariable place variable kind) h = refl
  fewer_in_target (e.ToElement place variable kind index) h = fewer_in_expr index.expr h

  -- the locals that a first arm knows of
  known_with_more : (body : f.Statements) (o : Option ℕ) → AreAmong (flat_known_with known body o) (flat_known_with more body o)
  known_with_more body None = sub
  known_with_more body (Some local) = by (is_among (flat_statements_assigned body) local)
    where
      by : (b : Bool) (l : ℕ) → is_among (if b then known else known ++ local ∷ []) l ≡ true → is_among (if b then more else more ++ local ∷ []) l ≡ true
      by true l h = sub l h
      by false l h = elim (among_cases known (local ∷ []) l h) [
        | inl before ↦ among_left more (local ∷ []) l (sub l before)
        | inr own ↦ among_right more (local ∷ []) l own
      ]

  known_in_more : (first : Bool) (condition : e.Placed) (body : f.Statements) →
      AreAmong (flat_known_in known first condition body) (flat_known_in more first condition body)
  known_in_more false condition body = sub
  known_in_more true condition body = known_with_more body (unnull condition.expr)

mutual
  pub fewer_in_statement : (known more : List ℕ) → AreAmong known more → (y : f.Statement) → flat_statement_nulls known y ≡ [] →
      flat_statement_nulls more y ≡ []
  fewer_in_statement known more sub (f.Assign place target value) h =
      both_empty (target_nulls more target) (placed_nulls more value)
      (fewer_in_target known more sub target (left_empty (target_nulls known target) (placed_nulls known value) h))
      (fewer_in_expr known more sub value.expr (right_empty (target_nulls known target) (placed_nulls known value) h))
  fewer_in_statement known more sub (f.If place arms otherwise) h =
      both_empty (flat_arms_nulls more true arms) (flat_statements_nulls more otherwise)
      (fewer_in_arms known more sub true arms (left_empty (flat_arms_nulls known true arms) (flat_statements_nulls known otherwise) h))
      (fewer_in_statements known more sub otherwise (right_empty (flat_arms_nulls known true arms) (flat_statements_nulls known otherwise) h))
  fewer_in_statement known more sub (f.While place condition body) h =
      both_empty (placed_nulls more condition) (flat_statements_nulls more body)
      (fewer_in_expr known more sub condition.expr (left_empty (placed_nulls known condition) (flat_statements_nulls known body) h))
      (fewer_in_statements known more sub body (right_empty (placed_nulls known condition) (flat_statements_nulls known body) h))
  fewer_in_statement known more sub (f.Do place body condition) h =
      both_empty (flat_statements_nulls more body) (placed_nulls more condition)
      (fewer_in_statements known more sub body (left_empty (flat_statements_nulls known body) (placed_nulls known condition) h))
      (fewer_in_expr known more sub condition.expr (right_empty (flat_statements_nulls known body) (placed_nulls known condition) h))
  fewer_in_statement known more sub (f.Lock place lock) h = refl
  fewer_in_statement known more sub (f.Unlock place lock) h = refl

  pub fewer_in_statements : (known more : List ℕ) → AreAmong known more → (ys : f.Statements) → flat_statements_nulls known ys ≡ [] →
      flat_statements_nulls more ys ≡ []
  fewer_in_statements known more sub f.no_statement h = refl
  fewer_in_statements known more sub (f.statement_and y rest) h =
      both_empty (flat_statement_nulls more y) (flat_statements_nulls more rest)
      (fewer_in_statement known more sub y (left_empty (flat_statement_nulls known y) (flat_statements_nulls known rest) h))
      (fewer_in_statements known more sub rest (right_empty (flat_statement_nulls known y) (flat_statements_nulls known rest) h))

  pub fewer_in_arms : (known more : List ℕ) → AreAmong known more → (first : Bool) (ys : f.Arms) → flat_arms_nulls known first ys ≡ [] →
      flat_arms_nulls more first ys ≡ []
  fewer_in_arms known more sub first f.no_arm h = refl
  fewer_in_arms known more sub first (f.arm_and condition body rest) h =
      let inside = flat_known_in known first condition body in
      let wider = flat_known_in more first condition body in
      let before = placed_nulls known condition ++ flat_statements_nulls inside body in
      let both = left_empty before (flat_arms_nulls known false rest) h in
      both_empty (placed_nulls more condition ++ flat_statements_nulls wider body) (flat_arms_nulls more false rest)
      (both_empty (placed_nulls more condition) (flat_statements_nulls wider body)
      (fewer_in_expr known more sub condition.expr (left_empty (placed_nulls known condition) (flat_statements_nulls inside body) both))
      (fewer_in_statements inside wider (known_in_more known more sub first condition body) body
      (right_empty (placed_nulls known condition) (flat_statements_nulls inside body) both)))
      (fewer_in_arms known more sub false rest (right_empty before (flat_arms_nulls known false rest) h))

-- ---- A first arm

known_stay : (known : List ℕ) (body : f.Statements) (o : Option ℕ) (l : ℕ) → is_among known l ≡ true →
    is_among (flat_known_with known body o) l ≡ true
known_stay known body None l h = h
known_stay known body (Some local) l h = by (is_among (flat_statements_assigned body) local)
  where
    by : (b : Bool) → is_among (if b then known else known ++ local ∷ []) l ≡ true
    by true = h
    by false = among_left known (local ∷ []) l h

-- arms that are none as later ones are none as the first ones
pub none_as_first : (known : List ℕ) (ys : f.Arms) → flat_arms_nulls known false ys ≡ [] → flat_arms_nulls known true ys ≡ []
none_as_first known f.no_arm h = refl
none_as_first known (f.arm_and condition body rest) h =
    let inside = flat_known_in known true condition body in
    let before = placed_nulls known condition ++ flat_statements_nulls known body in
    let both = left_empty before (flat_arms_nulls known false rest) h in
    both_empty (placed_nulls known condition ++ flat_statements_nulls inside body) (flat_arms_nulls known false rest)
    (both_empty (placed_nulls known condition) (flat_statements_nulls inside body)
    (left_empty (placed_nulls known condition) (flat_statements_nulls known body) both)
    (fewer_in_statements known inside (known_stay known body (unnull condition.expr)) body
    (right_empty (placed_nulls known condition) (flat_statements_nulls known body) both)))
    (right_empty before (flat_arms_nulls known false rest) h)
