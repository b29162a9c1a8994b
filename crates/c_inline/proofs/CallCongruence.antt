-- Where the same is called, the same is made.
use Rattle.std.proofs.Common.{◌≡◌, ℕ, ◌+◌, List, [], ◌∷◌, min, Option, Some, None, refl, ap, ◌∙◌, arith}
use Rattle.std.specs.Prelude.{Contains, slice_get}
use Rattle.std.proofs.lemmas.List.Elements.{Contains-append_left, Contains-append_right}
use Rattle.c_tree.specs.Exprs as e
use Rattle.c_tree.specs.Programs as p
use Rattle.c_tree.specs.Flats as f
use Rattle.c_tree.specs.Inlining as i
use Rattle.c_inline.specs.declared.weight.Weights.{Weights}
use Rattle.c_inline.specs.links.Weights as v

-- a sum of parts that agree below a bound
min_sum : (a b c d m : ℕ) → min a m ≡ min b m → min c m ≡ min d m → min (a + c) m ≡ min (b + d) m
min_sum a b c d m h k = omega arith

pub alone : (x : i.Call) → Contains (x ∷ []) x
alone x = (0, omega arith, refl)

module _ (w : Weights) (call : ℕ) (fs : List p.Function) (F G : ℕ → ℕ) (m : ℕ) where
  pub near_called : (function : ℕ) (arguments : List e.Placed) (result : Option e.Lvalue) → min (F function) m ≡ min (G function) m →
      min (v.called_weight w call fs F function arguments result) m ≡ min (v.called_weight w call fs G function arguments result) m
  near_called function arguments result h = at (slice_get fs function)
    where
      at : (o : Option p.Function) →
          min (elim o [ Some x ↦ call + (v.arguments_weight w arguments + F function + v.result_weight w x.result result) | None ↦ call ]) m
          ≡ min (elim o [ Some x ↦ call + (v.arguments_weight w arguments + G function + v.result_weight w x.result result) | None ↦ call ]) m
      at (Some x) =
          min_sum call call _ _ m refl
          (min_sum _ _ (v.result_weight w x.result result) (v.result_weight w x.result result) m
          (min_sum (v.arguments_weight w arguments) (v.arguments_weight w arguments) (F function) (G function) m refl h) refl)
      at None = refl

  mutual
    pub near_statement : (x : p.Statement) → ((c : i.Call) → Contains (i.statement_calls x) c → min (F c.function) m ≡ min (G c.function) m) →
        min (v.statement_weight w call fs F x) m ≡ min (v.statement_weight w call fs G x) m
    near_statement (p.Assign place target value) h = refl
    near_statement (p.Call place name function arguments result) h =
        near_called function arguments result (h (record { place = name; function = function }) (alone _))
    near_statement (p.If place arms otherwise) h =
        min_sum (v.arms_weight w call fs F arms + v.statements_weight w call fs F otherwise)
        (v.arms_weight w call fs G arms + v.statements_weight w call fs G otherwise) w.branch w.branch m
        (min_sum (v.arms_weight w call fs F arms) (v.arms_weight w call fs G arms) (v.statements_weight w call fs F otherwise)
        (v.statements_weight w call fs G otherwise) m
        (near_arms arms (λ c k. h c (Contains-append_left _ _ c k))) (near_statements otherwise (λ c k. h c (Contains-append_right (i.arms_calls arms) _ c k))))
        refl
    near_statement (p.While place condition body) h =
        min_sum _ _ (v.statements_weight w call fs F body) (v.statements_weight w call fs G body) m refl (near_statements body h)
    near_statement (p.Do place body condition) h =
        min_sum _ _ (v.statements_weight w call fs F body) (v.statements_weight w call fs G body) m refl (near_statements body h)
    near_statement (p.Lock place name) h = refl
    near_statement (p.Unlock place name) h = refl

    pub near_statements : (xs : p.Statements) → ((c : i.Call) → Contains (i.statements_calls xs) c → min (F c.function) m ≡ min (G c.function) m) →
        min (v.statements_weight w call fs F xs) m ≡ min (v.statements_weight w call fs G xs) m
    near_statements p.no_statement h = refl
    near_statements (p.statement_and x rest) h =
        min_sum (v.statement_weight w call fs F x) (v.statement_weight w call fs G x) (v.statements_weight w call fs F rest)
        (v.statements_weight w call fs G rest) m
        (near_statement x (λ c k. h c (Contains-append_left _ _ c k))) (near_statements rest (λ c k. h c (Contains-append_right (i.statement_calls x) _ c k)))

    pub near_arms : (xs : p.Arms) → ((c : i.Call) → Contains (i.arms_calls xs) c → min (F c.function) m ≡ min (G c.function) m) →
        min (v.arms_weight w call fs F xs) m ≡ min (v.arms_weight w call fs G xs) m
    near_arms p.no_arm h = refl
    near_arms (p.arm_and condition body rest) h =
        min_sum _ _ (v.arms_weight w call fs F rest) (v.arms_weight w call fs G rest) m
        (min_sum _ _ (v.statements_weight w call fs F body) (v.statements_weight w call fs G body) m refl
        (near_statements body (λ c k. h c (Contains-append_left _ _ c k))))
        (near_arms rest (λ c k. h c (Contains-append_right (i.statements_calls body) _ c k)))

-- functions that weigh the same
module _ (w : Weights) (call : ℕ) (fs : List p.Function) (F G : ℕ → ℕ) where
  pub same_weight : (xs : p.Statements) → ((c : i.Call) → Contains (i.statements_calls xs) c → F c.function ≡ G c.function) →
      v.statements_weight w call fs F xs ≡ v.statements_weight w call fs G xs
  same_weight xs h =
      let a = v.statements_weight w call fs F xs in
      let b = v.statements_weight w call fs G xs in
      let e : min a (a + b) ≡ min b (a + b) = near_statements w call fs F G (a + b) xs (λ c k. ap (λ x. min x (a + b)) (h c k)) in
      omega arith

-- bodies that are the same
module _ (fs : List p.Function) (F G : i.Bodies) where
  same_called : (place name : _) (n : ℕ) (ks : i.Locals) (function : ℕ) (arguments : List _) (result : Option _) → F function ks ≡ G function ks →
      i.statement fs F n ks (p.Call place name function arguments result) ≡ i.statement fs G n ks (p.Call place name function arguments result)
  same_called place name n ks function arguments result h = at (slice_get fs function)
    where
      at : (o : Option p.Function) → ◌≡◌ {A = i.Made f.Statements}
          (elim o [ Some x ↦ i.called fs F place n ks x (F function ks) arguments result | None ↦ record { made = f.no_statement; locals = ks } ])
          (elim o [ Some x ↦ i.called fs G place n ks x (G function ks) arguments result | None ↦ record { made = f.no_statement; locals = ks } ])
      at (Some x) = ap (λ (b : i.Made f.Statements). i.called fs F place n ks x b arguments result) h
      at None = refl

  mutual
    pub same_statement : (n : ℕ) (ks : i.Locals) (x : p.Statement) →
        ((c : i.Call) (js : i.Locals) → Contains (i.statement_calls x) c → F c.function js ≡ G c.function js) →
        i.statement fs F n ks x ≡ i.statement fs G n ks x
    same_statement n ks (p.Assign place target value) h = refl
    same_statement n ks (p.Call place name function arguments result) h =
        same_called place name n ks function arguments result (h (record { place = name; function = function }) ks (alone _))
    same_statement n ks (p.If place arms otherwise) h =
        let a = same_arms n ks arms (λ c js k. h c js (Contains-append_left _ _ c k)) in
        let o = same_statements n (i.arms_of fs G n ks arms).locals otherwise (λ c js k. h c js (Contains-append_right (i.arms_calls arms) _ c k)) in
        ap (λ (a : i.Made f.Arms). let o = i.statements fs F n a.locals otherwise in record { made = i.one (f.If place a.made o.made); locals = o.locals }) a
        ∙ ap (λ (o : i.Made f.Statements). record { made = i.one (f.If place (i.arms_of fs G n ks arms).made o.made); locals = o.locals }) o
    same_statement n ks (p.While place condition body) h =
        ap (λ (m : i.Made f.Statements). record { made = i.one (f.While place (i.shifted_placed n condition) m.made); locals = m.locals })
        (same_statements n ks body h)
    same_statement n ks (p.Do place body condition) h =
        ap (λ (m : i.Made f.Statements). record { made = i.one (f.Do place m.made (i.shifted_placed n condition)); locals = m.locals })
        (same_statements n ks body h)
    same_statement n ks (p.Lock place name) h = refl
    same_statement n ks (p.Unlock place name) h = refl

    pub same_statements : (n : ℕ) (ks : i.Locals) (xs : p.Statements) →
        ((c : i.Call) (js : i.Locals) → Contains (i.statements_calls xs) c → F c.function js ≡ G c.function js) →
        i.statements fs F n ks xs ≡ i.statements fs G n ks xs
    same_statements n ks p.no_statement h = refl
    same_statements n ks (p.statement_and x rest) h =
        let m = same_statement n ks x (λ c js k. h c js (Contains-append_left _ _ c k)) in
        let r = same_statements n (i.statement fs G n ks x).locals rest (λ c js k. h c js (Contains-append_right (i.statement_calls x) _ c k)) in
        ap (λ (m : i.Made f.Statements). let r = i.statements fs F n m.locals rest in record { made = i.statements_and m.made r.made; locals = r.locals }) m
        ∙ ap (λ (r : i.Made f.Statements). record { made = i.statements_and (i.statement fs G n ks x).made r.made; locals = r.locals }) r

    pub same_arms : (n : ℕ) (ks : i.Locals) (xs : p.Arms) →
        ((c : i.Call) (js : i.Locals) → Contains (i.arms_calls xs) c → F c.function js ≡ G c.function js) → i.arms_of fs F n ks xs ≡ i.arms_of fs G n ks xs
    same_arms n ks p.no_arm h = refl
    same_arms n ks (p.arm_and condition body rest) h =
        let m = same_statements n ks body (λ c js k. h c js (Contains-append_left _ _ c k)) in
        let r = same_arms n (i.statements fs G n ks body).locals rest (λ c js k. h c js (Contains-append_right (i.statements_calls body) _ c k)) in
        ap (λ (m : i.Made f.Statements). let r = i.arms_of fs F n m.locals rest in
        record { made = f.arm_and (i.shifted_placed n condition) m.made r.made; locals = r.locals }) m
        ∙ ap (λ (r : i.Made f.Arms). record { made = f.arm_and (i.shifted_placed n condition) (i.statements fs G n ks body).made r.made; locals = r.locals }) r
