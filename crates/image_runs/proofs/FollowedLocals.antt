-- What is known of locals that are no references leaves no place more where a reference may be null.
use Rattle.std.proofs.Common.{◌≡◌, inl, inr, refl, ap, ℕ, List, [], ◌∷◌, ◌++◌, Bool, true, false, Option, Some, None}
use Rattle.std.specs.Prelude.{slice_get, if◌then◌else◌}
use Rattle.ido_base.specs.declared.place.Place.{Place}
use Rattle.c_tree.specs.Exprs as e
use Rattle.c_tree.specs.Flats as f
use Rattle.c_tree.specs.Programs.{Variable}
use Rattle.c_tree.specs.NullReferences.{is_among, unnull, expr_nulls, placed_nulls, target_nulls, flat_known_with, flat_known_in}
use Rattle.c_tree.specs.NullReferences.{flat_statements_assigned, flat_statement_nulls, flat_statements_nulls, flat_arms_nulls}
use Rattle.c_tree.specs.References.{Follows, TargetFollows, IsFlatStatementReferring, AreFlatStatementsReferring, AreFlatArmsReferring}
use Rattle.c_tree.proofs.Public.{among_cases, among_left, among_right, both_empty, left_empty, right_empty}

-- all references of the one list are in the other
abbrev pub AreFollowedAmong : (rs : List (Option ℕ)) → (known more : List ℕ) → Type 0
AreFollowedAmong rs known more =
    (local array : ℕ) → slice_get rs local ≡ Some (Some array) → is_among known local ≡ true → is_among more local ≡ true

module _ (vs : List Variable) (rs : List (Option ℕ)) (known more : List ℕ) (sub : AreFollowedAmong rs known more) where
  expr_followed : (x : e.Expr) → Follows vs rs x → expr_nulls known x ≡ [] → expr_nulls more x ≡ []
  expr_followed (e.Constant value) r h = refl
  expr_followed (e.Local local kind) r h = refl
  expr_followed (e.Variable place variable kind) r h = refl
  expr_followed (e.Element place variable kind index_place index) r h = expr_followed index r h
  expr_followed (e.Address variable index_place index) r h = expr_followed index r h
  expr_followed (e.Referent place last local) r h = by (is_among known local) refl h
    where
      by : (b : Bool) → is_among known local ≡ b → ◌≡◌ {A = List Place} (if b then [] else place ∷ []) [] → expr_nulls more (e.Referent place last local) ≡ []
      by true is k = ap (λ (c : Bool). if c then [] else place ∷ []) (sub local r.variable r.refers is)
      by false is k = absurd (cc)
  expr_followed (e.Unary operator operand) r h = expr_followed operand r h
  expr_followed (e.Cast kind operand) r h = expr_followed operand r h
  expr_followed (e.Converted kind operand) r h = expr_followed operand r h
  expr_followed (e.Binary operator left right) r h =
      both_empty (expr_nulls more left) (expr_nulls more right)
      (expr_followed left r.0 (left_empty (expr_nulls known left) (expr_nulls known right) h))
      (expr_followed right r.1 (right_empty (expr_nulls known left) (expr_nulls known right) h))
  expr_followed (e.Conditional kind condition chosen otherwise) r h =
      let first = expr_nulls known condition ++ expr_nulls known chosen in
      let both = left_empty first (expr_nulls known otherwise) h in
      both_empty (expr_nulls more condition ++ expr_nulls more chosen) (expr_nulls more otherwise)
      (both_empty (expr_nulls more condition) (expr_nulls more chosen)
      (expr_followed condition r.0 (left_empty (expr_nulls known condition) (expr_nulls known chosen) both))
      (expr_followed chosen r.1 (right_empty (expr_nulls known condition) (expr_nulls known chosen) both)))
      (expr_followed otherwise r.2 (right_empty first (expr_nulls known otherwise) h))

  target_followed : (x : e.Lvalue) → TargetFollows vs rs x → target_nulls known x ≡ [] → target_nulls more x ≡ []
  target_followed (e.ToLocal place local kind) r h = refl
  target_followed (e.ToVariable place variable kind) r h = refl
  target_followed (e.ToElement place variable kind index) r h = expr_followed index.expr r h

  with_more : (body : f.Statements) (o : Option ℕ) → AreFollowedAmong rs (flat_known_with known body o) (flat_known_with more body o)
  with_more body None = sub
  with_more body (Some own) = by (is_among (flat_statements_assigned body) own)
    where
      by : (b : Bool) → AreFollowedAmong rs (if b then known else known ++ own ∷ []) (if b then more else more ++ own ∷ [])
      by true = sub
      by false = λ local array refers h. elim (among_cases known (own ∷ []) local h) [
        | inl before ↦ among_left more (own ∷ []) local (sub local array refers before)
        | inr last ↦ among_right more (own ∷ []) local last
      ]

  inside_more : (first : Bool) (condition : e.Placed) (body : f.Statements) →
      AreFollowedAmong rs (flat_known_in known first condition body) (flat_known_in more first condition body)
  inside_more false condition body = sub
  inside_more true condition body = with_more body (unnull condition.expr)

module _ (x : f.Flat) (rs : List (Option ℕ)) where
  mutual
    pub followed_among : (known more : List ℕ) → AreFollowedAmong rs known more → (y : f.Statement) → IsFlatStatementReferring x rs y →
        flat_statement_nulls known y ≡ [] → flat_statement_nulls more y ≡ []
    followed_among known more sub (f.Assign place target value) r h =
        both_empty (target_nulls more target) (placed_nulls more value)
        (target_followed x.variables rs known more sub target r.0 (left_empty (target_nulls known target) (placed_nulls known value) h))
        (expr_followed x.variables rs known more sub value.expr r.1 (right_empty (target_nulls known target) (placed_nulls known value) h))
    followed_among known more sub (f.If place arms otherwise) r h =
        both_empty (flat_arms_nulls more true arms) (flat_statements_nulls more otherwise)
        (arms_followed known more sub true arms r.0 (left_empty (flat_arms_nulls known true arms) (flat_statements_nulls known otherwise) h))
        (all_followed known more sub otherwise r.1 (right_empty (flat_arms_nulls known true arms) (flat_statements_nulls known otherwise) h))
    followed_among known more sub (f.While place condition body) r h =
        both_empty (placed_nulls more condition) (flat_statements_nulls more body)
        (expr_followed x.variables rs known more sub condition.expr r.0 (left_empty (placed_nulls known condition) (flat_statements_nulls known body) h))
        (all_followed known more sub body r.1 (right_empty (placed_nulls known condition) (flat_statements_nulls known body) h))
    followed_among known more sub (f.Do place body condition) r h =
        both_empty (flat_statements_nulls more body) (placed_nulls more condition)
        (all_followed known more sub body r.0 (left_empty (flat_statements_nulls known body) (placed_nulls known condition) h))
        (expr_followed x.variables rs known more sub condition.expr r.1 (right_empty (flat_statements_nulls known body) (placed_nulls known condition) h))
    followed_among known more sub (f.Lock place lock) r h = refl
    followed_among known more sub (f.Unlock place lock) r h = refl

    all_followed : (known more : List ℕ) → AreFollowedAmong rs known more → (ys : f.Statements) → AreFlatStatementsReferring x rs ys →
        flat_statements_nulls known ys ≡ [] → flat_statements_nulls more ys ≡ []
    all_followed known more sub f.no_statement r h = refl
    all_followed known more sub (f.statement_and y rest) r h =
        both_empty (flat_statement_nulls more y) (flat_statements_nulls more rest)
        (followed_among known more sub y r.0 (left_empty (flat_statement_nulls known y) (flat_statements_nulls known rest) h))
        (all_followed known more sub rest r.1 (right_empty (flat_statement_nulls known y) (flat_statements_nulls known rest) h))

    arms_followed : (known more : List ℕ) → AreFollowedAmong rs known more → (first : Bool) (ys : f.Arms) → AreFlatArmsReferring x rs ys →
        flat_arms_nulls known first ys ≡ [] → flat_arms_nulls more first ys ≡ []
    arms_followed known more sub first f.no_arm r h = refl
    arms_followed known more sub first (f.arm_and condition body rest) r h =
        let inside = flat_known_in known first condition body in
        let wider = flat_known_in more first condition body in
        let before = placed_nulls known condition ++ flat_statements_nulls inside body in
        let both = left_empty before (flat_arms_nulls known false rest) h in
        both_empty (placed_nulls more condition ++ flat_statements_nulls wider body) (flat_arms_nulls more false rest)
        (both_empty (placed_nulls more condition) (flat_statements_nulls wider body)
        (expr_followed x.variables rs known more sub condition.expr r.0 (left_empty (placed_nulls known condition) (flat_statements_nulls inside body) both))
        (all_followed inside wider (inside_more x.variables rs known more sub first condition body) body r.1
        (right_empty (placed_nulls known condition) (flat_statements_nulls inside body) both)))
        (arms_followed known more sub false rest r.2 (right_empty before (flat_arms_nulls known false rest) h))
