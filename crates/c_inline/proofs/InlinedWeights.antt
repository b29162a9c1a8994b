-- What is made weighs what the parts that it is made of do.
use Rattle.std.proofs.Common.{◌≡◌, ℕ, zero, suc, ◌+◌, ◌-◌, ◌^◌, List, [], ◌∷◌, length, min, map, Option, Some, None, refl, sym, ap, ap₂, ◌∙◌, arith}
use Rattle.std.specs.Prelude.{slice_get}
use Rattle.std.specs.Option.{option_map}
use Rattle.ido_base.specs.declared.place.Place.{Place}
use Rattle.ido_ints.specs.declared.kinds.Kind.{Kind}
use Rattle.c_tree.specs.Exprs as e
use Rattle.c_tree.specs.Programs as p
use Rattle.c_tree.specs.Flats as f
use Rattle.c_tree.specs.Inlining as i
use Rattle.c_tree.specs.Prices.{key_nodes, nodes_of, statement_price, statements_price, arms_price, thread_price, assign_price}
use Rattle.c_inline.specs.declared.weight.Weights.{Weights}
use Rattle.c_inline.specs.links.Weights as v
use Rattle.c_inline.specs.links.KnownWeights.{AreRight, IsUnknown}
use Rattle.c_inline.proofs.CallCongruence.{near_statements}
use Rattle.c_inline.proofs.WeightUpdates.{near_known}

sum3 : (a b c d : ℕ) → a ≡ b → c ≡ d → a + c ≡ b + d
sum3 a b c d h k = omega arith

same_nodes : (n : ℕ) (x : e.Expr) → nodes_of (i.shifted n x) ≡ nodes_of x
same_nodes n (e.Constant value) = refl
same_nodes n (e.Local local kind) = refl
same_nodes n (e.Variable place variable kind) = refl
same_nodes n (e.Element place variable kind index_place index) = ap (λ (m : ℕ). 1 + m) (same_nodes n index)
same_nodes n (e.Address variable index_place index) = ap (λ (m : ℕ). 1 + m) (same_nodes n index)
same_nodes n (e.Referent place last local) = refl
same_nodes n (e.Unary operator operand) = ap (λ (m : ℕ). 1 + m) (same_nodes n operand)
same_nodes n (e.Cast kind operand) = ap (λ (m : ℕ). 1 + m) (same_nodes n operand)
same_nodes n (e.Converted kind operand) = same_nodes n operand
same_nodes n (e.Binary operator left right) = ap₂ (λ (a b : ℕ). 1 + a + b) (same_nodes n left) (same_nodes n right)
same_nodes n (e.Conditional kind condition chosen otherwise) =
    ap₂ (λ (a b : ℕ). a + b) (ap₂ (λ (a b : ℕ). 1 + a + b) (same_nodes n condition) (same_nodes n chosen)) (same_nodes n otherwise)

same_key : (n mutex : ℕ) (key : Option e.Placed) →
    key_nodes (record { mutex = mutex; key = option_map (i.shifted_placed n) key }) ≡ key_nodes (record { mutex = mutex; key = key })
same_key n mutex None = refl
same_key n mutex (Some key) = same_nodes n key.expr

module _ (w : Weights) where
  abbrev mutual
    pub made_statement : f.Statement → ℕ
    made_statement (f.Assign place target value) = v.assign_weight w target (nodes_of value.expr)
    made_statement (f.If place arms otherwise) = made_arms arms + made_statements otherwise + w.branch
    made_statement (f.While place condition body) = v.node_weight w (nodes_of condition.expr) + made_statements body
    made_statement (f.Do place body condition) = v.node_weight w (nodes_of condition.expr) + made_statements body
    made_statement (f.Lock place name) = v.node_weight w (key_nodes name)
    made_statement (f.Unlock place name) = v.node_weight w (key_nodes name)

    pub made_statements : f.Statements → ℕ
    made_statements f.no_statement = 0
    made_statements (f.statement_and x rest) = made_statement x + made_statements rest

    pub made_arms : f.Arms → ℕ
    made_arms f.no_arm = 0
    made_arms (f.arm_and condition body rest) = (v.node_weight w (nodes_of condition.expr) + made_statements body) + made_arms rest

  pub made_and : (a b : f.Statements) → made_statements (i.statements_and a b) ≡ made_statements a + made_statements b
  made_and f.no_statement b = omega arith
  made_and (f.statement_and x a) b = omega (arith, made_and a b)

  same_assign : (n : ℕ) (target : e.Lvalue) (value : ℕ) → v.assign_weight w (i.shifted_target n target) value ≡ v.assign_weight w target value
  same_assign n (e.ToLocal place local kind) value = refl
  same_assign n (e.ToVariable place variable kind) value = refl
  same_assign n (e.ToElement place variable kind index) value = ap (λ (m : ℕ). v.node_weight w (m + value) + v.node_weight w 0) (same_nodes n index.expr)

  passed_weight : (place : Place) (first n : ℕ) (ks : List Kind) (xs : List e.Placed) →
      made_statements (i.passed place first ks (map (i.shifted_placed n) xs)) ≡ v.arguments_weight w xs
  passed_weight place first n ks [] = refl
  passed_weight place first n [] (x ∷ xs) = sum3 _ _ _ _ (ap (λ (m : ℕ). v.node_weight w m) (same_nodes n x.expr)) (passed_weight place (first + 1) n [] xs)
  passed_weight place first n (k ∷ ks) (x ∷ xs) =
      sum3 _ _ _ _ (ap (λ (m : ℕ). v.node_weight w m) (same_nodes n x.expr)) (passed_weight place (first + 1) n ks xs)

  plus_zero : (a : ℕ) → a + 0 ≡ a
  plus_zero a = omega arith

  assigned_weight : (place : Place) (first n : ℕ) (x : Option p.Returned) (target : Option e.Lvalue) →
      made_statements (i.assigned place first x (option_map (i.shifted_target n) target)) ≡ v.result_weight w x target
  assigned_weight place first n (Some x) (Some target) =
      plus_zero _ ∙ same_assign n target (nodes_of (i.shifted first x.value.expr)) ∙ ap (λ (m : ℕ). v.assign_weight w target m) (same_nodes first x.value.expr)
  assigned_weight place first n (Some x) None = refl
  assigned_weight place first n None target = refl

  module _ (fs : List p.Function) (B : i.Bodies) (F : ℕ → ℕ) (bodies : (g : ℕ) (ks : i.Locals) → made_statements (B g ks).made ≡ F g) where
    pub called_made : (place name : Place) (n : ℕ) (ks : i.Locals) (function : ℕ) (arguments : List e.Placed) (result : Option e.Lvalue) →
        made_statements (i.statement fs B n ks (p.Call place name function arguments result)).made ≡ v.called_weight w 0 fs F function arguments result
    called_made place name n ks function arguments result = at (slice_get fs function)
      where
        at : (o : Option p.Function) →
            made_statements (elim o as (λ _. i.Made f.Statements) [
              | Some x ↦ i.called fs B place n ks x (B function ks) arguments result
              | None ↦ record { made = f.no_statement; locals = ks }
            ]).made
            ≡ (elim o as (λ _. ℕ) [ Some x ↦ 0 + (v.arguments_weight w arguments + F function + v.result_weight w x.result result) | None ↦ 0 ])
        at (Some x) =
            let a = made_and (i.passed place (length ks.kinds) x.locals (map (i.shifted_placed n) arguments))
            (i.statements_and (B function ks).made (i.assigned place (length ks.kinds) x.result (option_map (i.shifted_target n) result))) in
            let b = made_and (B function ks).made (i.assigned place (length ks.kinds) x.result (option_map (i.shifted_target n) result)) in
            let c = passed_weight place (length ks.kinds) n x.locals arguments in
            let d = assigned_weight place (length ks.kinds) n x.result result in
            omega (arith, a, b, c, d, bodies function ks)
        at None = refl

    mutual
      pub statement_made : (n : ℕ) (ks : i.Locals) (x : p.Statement) → made_statements (i.statement fs B n ks x).made ≡ v.statement_weight w 0 fs F x
      statement_made n ks (p.Assign place target value) =
          plus_zero _ ∙ same_assign n target (nodes_of (i.shifted n value.expr)) ∙ ap (λ (m : ℕ). v.assign_weight w target m) (same_nodes n value.expr)
      statement_made n ks (p.Call place name function arguments result) = called_made place name n ks function arguments result
      statement_made n ks (p.If place arms otherwise) =
          plus_zero _ ∙ sum3 _ _ w.branch w.branch (sum3 _ _ _ _ (arms_made n ks arms) (statements_made n (i.arms_of fs B n ks arms).locals otherwise)) refl
      statement_made n ks (p.While place condition body) =
          plus_zero _ ∙ sum3 _ _ _ _ (ap (λ (m : ℕ). v.node_weight w m) (same_nodes n condition.expr)) (statements_made n ks body)
      statement_made n ks (p.Do place body condition) =
          plus_zero _ ∙ sum3 _ _ _ _ (ap (λ (m : ℕ). v.node_weight w m) (same_nodes n condition.expr)) (statements_made n ks body)
      statement_made n ks (p.Lock place name) = plus_zero _ ∙ ap (λ (m : ℕ). v.node_weight w m) (same_key n name.mutex name.key)
      statement_made n ks (p.Unlock place name) = plus_zero _ ∙ ap (λ (m : ℕ). v.node_weight w m) (same_key n name.mutex name.key)

      pub statements_made : (n : ℕ) (ks : i.Locals) (xs : p.Statements) → made_statements (i.statements fs B n ks xs).made ≡ v.statements_weight w 0 fs F xs
      statements_made n ks p.no_statement = refl
      statements_made n ks (p.statement_and x rest) =
          made_and (i.statement fs B n ks x).made (i.statements fs B n (i.statement fs B n ks x).locals rest).made
          ∙ sum3 _ _ _ _ (statement_made n ks x) (statements_made n (i.statement fs B n ks x).locals rest)

      pub arms_made : (n : ℕ) (ks : i.Locals) (xs : p.Arms) → made_arms (i.arms_of fs B n ks xs).made ≡ v.arms_weight w 0 fs F xs
      arms_made n ks p.no_arm = refl
      arms_made n ks (p.arm_and condition body rest) =
          sum3 _ _ _ _ (sum3 _ _ _ _ (ap (λ (m : ℕ). v.node_weight w m) (same_nodes n condition.expr)) (statements_made n ks body))
          (arms_made n (i.statements fs B n ks body).locals rest)

  pub bodies_made : (fs : List p.Function) (d g : ℕ) (ks : i.Locals) → made_statements (i.bodies_of fs d g ks).made ≡ v.function_weight w 0 fs d g
  bodies_made fs zero g ks = refl
  bodies_made fs (suc d) g ks = at (slice_get fs g) (λ j js. bodies_made fs d j js)
    where
      at : (o : Option p.Function) → ((j : ℕ) (js : i.Locals) → made_statements (i.bodies_of fs d j js).made ≡ v.function_weight w 0 fs d j) →
          made_statements (elim o as (λ _. i.Made f.Statements) [
            | Some x ↦ i.statements fs (i.bodies_of fs d) (length ks.kinds) (i.joined ks (i.locals x.locals x.refers)) x.body
            | None ↦ record { made = f.no_statement; locals = ks }
          ]).made
          ≡ (elim o as (λ _. ℕ) [ Some x ↦ v.statements_weight w 0 fs (v.function_weight w 0 fs d) x.body | None ↦ 0 ])
      at (Some x) less =
          statements_made fs (i.bodies_of fs d) (v.function_weight w 0 fs d) less (length ks.kinds) (i.joined ks (i.locals x.locals x.refers)) x.body
      at None less = refl

-- ---- Prices

price_assign : (target : e.Lvalue) (value : ℕ) → assign_price target value ≡ v.assign_weight v.price target value
price_assign (e.ToLocal place local kind) value = refl
price_assign (e.ToVariable place variable kind) value = refl
price_assign (e.ToElement place variable kind index) value = refl

mutual
  price_statement : (x : f.Statement) → statement_price x ≡ made_statement v.price x
  price_statement (f.Assign place target value) = price_assign target (nodes_of value.expr)
  price_statement (f.If place arms otherwise) = sum3 _ _ _ _ (price_arms arms) (price_statements otherwise) ∙ sym (plus_zero v.price _)
  price_statement (f.While place condition body) = sum3 _ _ _ _ refl (price_statements body)
  price_statement (f.Do place body condition) = sum3 _ _ _ _ refl (price_statements body)
  price_statement (f.Lock place name) = refl
  price_statement (f.Unlock place name) = refl

  pub price_statements : (xs : f.Statements) → statements_price xs ≡ made_statements v.price xs
  price_statements f.no_statement = refl
  price_statements (f.statement_and x rest) = sum3 _ _ _ _ (price_statement x) (price_statements rest)

  price_arms : (xs : f.Arms) → arms_price xs ≡ made_arms v.price xs
  price_arms f.no_arm = refl
  price_arms (f.arm_and condition body rest) = sum3 _ _ _ _ (sum3 _ _ _ _ refl (price_statements body)) (price_arms rest)

-- the price of a thread, by what is known of functions
pub price_known : (fs : List p.Function) (known : List (Option ℕ)) → AreRight v.price fs known → ((g : ℕ) → IsUnknown known g → ⊥) → (x : p.Thread) →
    min (v.statements_weight v.price 0 fs (v.known_weight known) x.body + 96) (2 ^ 64 - 1) ≡ min (thread_price (i.flat_thread fs x)) (2 ^ 64 - 1)
price_known fs known is_right all x =
    let F = v.function_weight v.price 0 fs (length fs) in
    let a = near_statements v.price 0 fs (v.known_weight known) F (2 ^ 64 - 1) x.body
    (λ c k. near_known v.price fs known is_right c.function (all c.function)) in
    let b = statements_made v.price fs (i.bodies_of fs (length fs)) F (bodies_made v.price fs (length fs)) 0 (i.locals x.locals x.refers) x.body in
    let c = price_statements (i.statements fs (i.bodies_of fs (length fs)) 0 (i.locals x.locals x.refers) x.body).made in
    omega (arith, a, b, c)
