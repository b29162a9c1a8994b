-- The walk and the flow at each form of a statement, from what its parts give.
use Rattle.std.proofs.Common.{◌≡◌, ◌<◌, ℕ, ◌+◌, Bool, not, ◌&&◌, ◌||◌, Option, Some, None, List, [], ◌∷◌, ◌++◌, length, drop}
use Rattle.std.proofs.Common.{get_or, true, false, Vec, Global, All, refl, sym, ap, ap₂, ◌∙◌, append_assoc}
use Rattle.std.proofs.lemmas.List.{drop_more}
use Rattle.std.specs.List.{list_any, list_all}
use Rattle.std.proofs.lemmas.List.Folds.{list_any-append, list_all-append}
use Rattle.std.proofs.lemmas.List.Elements.{All-head, All-tail}
use Rattle.ido_base.specs.declared.place.Place.{Place}
use Rattle.c_tree.specs.Exprs.{expr_of, lvalue_of}
use Rattle.c_tree.specs.declared.expr.Placed.{Placed}
use Rattle.c_tree.specs.declared.language.Language.{Language}
use Rattle.c_tree.specs.declared.expr.Lvalue.{Lvalue}
use Rattle.c_tree.specs.declared.flat.Statement as s
use Rattle.c_tree.specs.declared.flat.Arm as arm
use Rattle.c_tree.specs.Exprs.{LockName, ToLocal, ToVariable, ToElement}
use Rattle.c_tree.specs.Exprs.{Lvalue as Target}
use Rattle.std.specs.Prelude.{slice_index_or}
use Rattle.c_tree.specs.Programs.{Variable}
use Rattle.c_tree.specs.Flats as f
use Rattle.c_tree.specs.LockNames.{Held, holds}
use Rattle.c_tree.specs.LockDiscipline.{numbers_below, is_in_some, is_in_all, least_difference, Fault, Walked, After, Broken}
use Rattle.c_tree.specs.LockDiscipline.{and_then, walk_target, expr_uses}
use Rattle.c_tree.specs.LockDiscipline.{target_uses, walk_uses, join, join_all, walk, walk_all, walk_arms}
use Rattle.lock_discipline.specs.links.Flow.{held_after, held_after_all, sets_in, sets_in_all, sets_in_arms}
use Rattle.c_tree.proofs.Public.{flat_rows_of_while as of_while, flat_rows_of_do as of_do, flat_rows_of_if as of_if}
use Rattle.c_tree.specs.declared.rule.Rule.TheVariants as rule
use Rattle.lock_discipline.proofs.Sets.{AllLong, AllLong-append, AllAre-right, same_found, same_where_none}
use Rattle.lock_discipline.proofs.CheckerCorrectness.{none_or, after_then, after_walk, after_walk_all}
use Rattle.lock_discipline.proofs.Refusals.{uses_append}

-- ---- Sets at a join

all_long : (n : ℕ) (xs : List Held) → All (λ x. length x ≡ n) xs → AllLong n xs
all_long n [] p = tt
all_long n (x ∷ xs) p = (All-head (λ y. length y ≡ n) x xs p, all_long n xs (All-tail (λ y. length y ≡ n) x xs p))

last_or : (a b : Bool) → (a || (b || false)) ≡ (b || a)
last_or true true = refl
last_or true false = refl
last_or false true = refl
last_or false false = refl

last_and : (a b : Bool) → (a && (b && true)) ≡ (b && a)
last_and true true = refl
last_and true false = refl
last_and false true = refl
last_and false false = refl

some_last : (hs : List Held) (h : Held) (m : ℕ) → is_in_some (hs ++ h ∷ []) m ≡ is_in_some (h ∷ hs) m
some_last hs h m = list_any-append (λ x. holds x m) hs (h ∷ []) ∙ last_or (list_any (λ x. holds x m) hs) (holds h m)

all_last : (hs : List Held) (h : Held) (m : ℕ) → is_in_all (hs ++ h ∷ []) m ≡ is_in_all (h ∷ hs) m
all_last hs h m = list_all-append (λ x. holds x m) hs (h ∷ []) ∙ last_and (list_all (λ x. holds x m) hs) (holds h m)

difference_last : (n : ℕ) (hs : List Held) (h : Held) → least_difference n (hs ++ h ∷ []) ≡ least_difference n (h ∷ hs)
difference_last n hs h =
    same_found (λ m. is_in_some (hs ++ h ∷ []) m && not (is_in_all (hs ++ h ∷ []) m)) (λ m. is_in_some (h ∷ hs) m && not (is_in_all (h ∷ hs) m))
    (numbers_below n)
    (λ m. ap₂ (λ (a b : Bool). a && not b) (some_last hs h m) (all_last hs h m))

same_end : (o p : Option ℕ) (fault : ℕ → Fault) (h k : Held) → o ≡ p → (o ≡ None → h ≡ k) → none_or o fault h ≡ none_or p fault k
same_end None p fault h k e same = ap After (same refl) ∙ ap (λ (q : Option ℕ). none_or q fault k) e
same_end (Some x) p fault h k e same = ap (λ (q : Option ℕ). none_or q fault k) e

-- the sets may be met with the last one first
pub join_last : (vs : List Variable) (names : List LockName) (place : Place) (h : Held) (hs : List Held) → length h ≡ length names →
    All (λ x. length x ≡ length names) hs → join_all vs names place (hs ++ h ∷ []) ≡ join vs names place h hs
join_last vs names place h [] l ls = refl
join_last vs names place h (k ∷ ks) l ls =
    let n = length names in
    let long = all_long n (k ∷ ks) ls in
    let fault : ℕ → Fault = λ m. record { rule = rule.Join; place = place; lock = slice_index_or names m (record { mutex = 0; key = None }) } in
    same_end (least_difference n (k ∷ ks ++ h ∷ [])) (least_difference n (h ∷ k ∷ ks)) fault k h (difference_last n (k ∷ ks) h)
    (λ e. sym (AllAre-right k ks (h ∷ []) (same_where_none n k (ks ++ h ∷ []) long.0 (AllLong-append n ks (h ∷ []) long.1 (l, tt)) e)).0)

-- where sets of so many names meet
pub join_is : (vs : List Variable) (names : List LockName) (place : Place) (h : Held) (hs : List Held) (o : Option ℕ) →
    o ≡ least_difference (length names) (h ∷ hs) →
    join vs names place h hs ≡ none_or o (λ m. record { rule = rule.Join; place = place; lock = slice_index_or names m (record { mutex = 0; key = None }) }) h
join_is vs names place h hs o e =
    let fault : ℕ → Fault = λ m. record { rule = rule.Join; place = place; lock = slice_index_or names m (record { mutex = 0; key = None }) } in
    ap (λ (p : Option ℕ). none_or p fault h) (sym e)

-- what is said of a target needs no variables
same_target : (vs ws : List Variable) (names : List LockName) (h : Held) (target : Target) → walk_target vs names h target ≡ walk_target ws names h target
same_target vs ws names h (ToLocal place local kind) = refl
same_target vs ws names h (ToVariable place variable kind) = refl
same_target vs ws names h (ToElement place variable kind index) = refl

-- ---- A statement of a list

module _ (language : Language) (vs : List Variable) (names : List LockName) (w : Walked) where
  pub at_next : (h : Held) (xs : List s.Statement) (i : ℕ) (x : s.Statement) → i < length xs → x ≡ get_or xs i x →
      w ≡ walk_all language vs names h (f.statements_of (drop i xs)) → w ≡ and_then (walk language vs names h (f.statement_of x))
      (λ after. walk_all language vs names after (f.statements_of (drop (i + 1) xs)))
  at_next h xs i x lt is e =
      let next = λ (after : Held). walk_all language vs names after (f.statements_of (drop (i + 1) xs)) in
      e ∙ ap (λ (ys : List s.Statement). walk_all language vs names h (f.statements_of ys)) (drop_more xs i x lt)
      ∙ ap (λ (y : s.Statement). and_then (walk language vs names h (f.statement_of y)) next) (sym is)

  pub next_walk : (h k : Held) (xs : List s.Statement) (i : ℕ) (x : s.Statement) → i < length xs → x ≡ get_or xs i x →
      w ≡ walk_all language vs names h (f.statements_of (drop i xs)) → walk language vs names h (f.statement_of x) ≡ After k →
      w ≡ walk_all language vs names k (f.statements_of (drop (i + 1) xs))
  next_walk h k xs i x lt is e walked =
      at_next h xs i x lt is e ∙ after_then _ (λ after. walk_all language vs names after (f.statements_of (drop (i + 1) xs))) k walked

pub next_sets : (names : List LockName) (h k : Held) (xs : List s.Statement) (i : ℕ) (x : s.Statement) (old new all : List Held) → i < length xs →
    x ≡ get_or xs i x →
    held_after names h (f.statement_of x) ≡ k →
    new ≡ old ++ sets_in names h (f.statement_of x) → old ++ sets_in_all names h (f.statements_of (drop i xs)) ≡ all →
    new ++ sets_in_all names k (f.statements_of (drop (i + 1) xs)) ≡ all
next_sets names h k xs i x old new all lt is b p e =
    let rest = f.statements_of (drop (i + 1) xs) in
    ap (λ (ys : List Held). ys ++ sets_in_all names k rest) p ∙ append_assoc old (sets_in names h (f.statement_of x)) (sets_in_all names k rest)
    ∙ ap (λ (y : Held). old ++ (sets_in names h (f.statement_of x) ++ sets_in_all names y rest)) (sym b)
    ∙ ap (λ (y : s.Statement). old ++ (sets_in names h (f.statement_of y) ++ sets_in_all names (held_after names h (f.statement_of y)) rest)) is
    ∙ ap (λ (ys : List s.Statement). old ++ sets_in_all names h (f.statements_of ys)) (sym (drop_more xs i x lt)) ∙ e

-- ---- An arm of a list

module _ (language : Language) (vs : List Variable) (names : List LockName) (h : Held) (w : (List Held → Walked) → Walked) where
  -- the walk of an arm begins with its condition
  pub at_arm : (left : List Held) (xs : List arm.Arm) (i : ℕ) (x : arm.Arm) → i < length xs → x ≡ get_or xs i x →
      ((onward : List Held → Walked) → w onward ≡ walk_arms language vs names h left (f.arms_list_of (drop i xs)) onward) →
      (onward : List Held → Walked) →
      w onward ≡ and_then (walk_uses vs names h (expr_uses (expr_of x.condition.expr)))
      (λ _. and_then (walk_all language vs names h (f.statements_of x.body.items))
      (λ after. walk_arms language vs names h (left ++ after ∷ []) (f.arms_list_of (drop (i + 1) xs)) onward))
  at_arm left xs i x lt is e onward =
      e onward ∙ ap (λ (ys : List arm.Arm). walk_arms language vs names h left (f.arms_list_of ys) onward) (drop_more xs i x lt)
      ∙ ap (λ (y : arm.Arm). and_then (walk_uses vs names h (expr_uses (expr_of y.condition.expr)))
      (λ _. and_then (walk_all language vs names h (f.statements_of y.body.items))
      (λ after. walk_arms language vs names h (left ++ after ∷ []) (f.arms_list_of (drop (i + 1) xs)) onward))) (sym is)

  -- after its condition the walk of an arm comes to its body
  pub in_arm_body : (left : List Held) (xs : List arm.Arm) (i : ℕ) (x : arm.Arm) (body : List s.Statement) → i < length xs → x ≡ get_or xs i x →
      body ≡ x.body.items →
      ((onward : List Held → Walked) → w onward ≡ walk_arms language vs names h left (f.arms_list_of (drop i xs)) onward) →
      walk_uses vs names h (expr_uses (expr_of x.condition.expr)) ≡ After h → (onward : List Held → Walked) →
      w onward ≡ and_then (walk_all language vs names h (f.statements_of body))
      (λ after. walk_arms language vs names h (left ++ after ∷ []) (f.arms_list_of (drop (i + 1) xs)) onward)
  in_arm_body left xs i x body lt is same e tested onward =
      at_arm left xs i x lt is e onward
      ∙ after_then _ (λ _. and_then (walk_all language vs names h (f.statements_of x.body.items))
      (λ after. walk_arms language vs names h (left ++ after ∷ []) (f.arms_list_of (drop (i + 1) xs)) onward)) h tested
      ∙ ap (λ (ys : List s.Statement). and_then (walk_all language vs names h (f.statements_of ys))
      (λ after. walk_arms language vs names h (left ++ after ∷ []) (f.arms_list_of (drop (i + 1) xs)) onward)) (sym same)

  pub next_arm : (left ends : List Held) (k : Held) (xs : List arm.Arm) (i : ℕ) (x : arm.Arm) (body : List s.Statement) → i < length xs → x ≡ get_or xs i x →
      body ≡ x.body.items →
      ((onward : List Held → Walked) → w onward ≡ walk_arms language vs names h left (f.arms_list_of (drop i xs)) onward) →
      walk_uses vs names h (expr_uses (expr_of x.condition.expr)) ≡ After h →
      walk_all language vs names h (f.statements_of body) ≡ After k →
      ends ≡ left ++ k ∷ [] → (onward : List Held → Walked) →
      w onward ≡ walk_arms language vs names h ends (f.arms_list_of (drop (i + 1) xs)) onward
  next_arm left ends k xs i x body lt is same e tested walked p onward =
      in_arm_body left xs i x body lt is same e tested onward
      ∙ after_then _ (λ after. walk_arms language vs names h (left ++ after ∷ []) (f.arms_list_of (drop (i + 1) xs)) onward) k walked
      ∙ ap (λ (hs : List Held). walk_arms language vs names h hs (f.arms_list_of (drop (i + 1) xs)) onward) (sym p)

pub next_arm_sets : (names : List LockName) (h : Held) (xs : List arm.Arm) (i : ℕ) (x : arm.Arm) (body : List s.Statement) (old one new all : List Held) →
    i < length xs →
    x ≡ get_or xs i x → body ≡ x.body.items →
    one ≡ old ++ h ∷ [] → new ≡ one ++ sets_in_all names h (f.statements_of body) → old ++ sets_in_arms names h (f.arms_list_of (drop i xs)) ≡ all →
    new ++ sets_in_arms names h (f.arms_list_of (drop (i + 1) xs)) ≡ all
next_arm_sets names h xs i x body old one new all lt is same p q e =
    let rest = sets_in_arms names h (f.arms_list_of (drop (i + 1) xs)) in
    ap (λ (ys : List Held). ys ++ rest) (q ∙ ap₂ (λ (a : List Held) (b : List s.Statement). a ++ sets_in_all names h (f.statements_of b)) p same)
    ∙ append_assoc (old ++ h ∷ []) (sets_in_all names h (f.statements_of x.body.items)) rest
    ∙ append_assoc old (h ∷ []) (sets_in_all names h (f.statements_of x.body.items) ++ rest)
    ∙ ap (λ (y : arm.Arm). old ++ (h ∷ sets_in_all names h (f.statements_of y.body.items) ++ rest)) is
    ∙ ap (λ (ys : List arm.Arm). old ++ sets_in_arms names h (f.arms_list_of ys)) (sym (drop_more xs i x lt)) ∙ e

module _ (language : Language) (vs : List Variable) (names : List LockName) (h : Held) (long : length h ≡ length names) where
  -- ---- The set after a part

  pub walked_length : (x : f.Statement) (k : Held) → walk language vs names h x ≡ After k → length k ≡ length names
  walked_length x k e = (after_walk language vs names x h k long e).0

  pub walked_after : (x : f.Statement) (k : Held) → walk language vs names h x ≡ After k → held_after names h x ≡ k
  walked_after x k e = (after_walk language vs names x h k long e).1

  pub walked_all_length : (x : f.Statements) (k : Held) → walk_all language vs names h x ≡ After k → length k ≡ length names
  walked_all_length x k e = (after_walk_all language vs names x h k long e).0

  pub walked_all_after : (x : f.Statements) (k : Held) → walk_all language vs names h x ≡ After k → held_after_all names h x ≡ k
  walked_all_after x k e = (after_walk_all language vs names x h k long e).1

  -- ---- An assignment

  pub assign_is : (x : s.Statement) (place : Place) (target : Lvalue) (value : Placed) → x ≡ s.Assign place target value →
      walk language vs names h (f.statement_of x) ≡ and_then (walk_uses vs names h (expr_uses (expr_of value.expr)))
      (λ _. and_then (walk_uses vs names h (target_uses (lvalue_of target))) (λ _. walk_target [] names h (lvalue_of target)))
  assign_is x place target value is =
      ap (λ y. walk language vs names h (f.statement_of y)) is
      ∙ ap (λ (w : Walked). and_then w (λ _. walk_target vs names h (lvalue_of target)))
      (uses_append vs names h (expr_uses (expr_of value.expr)) (target_uses (lvalue_of target)))
      ∙ one_after (walk_uses vs names h (expr_uses (expr_of value.expr)))
      ∙ ap (λ (w : Walked). and_then (walk_uses vs names h (expr_uses (expr_of value.expr)))
      (λ _. and_then (walk_uses vs names h (target_uses (lvalue_of target))) (λ _. w))) (same_target vs [] names h (lvalue_of target))
    where
      one_after : (w : Walked) → and_then (and_then w (λ _. walk_uses vs names h (target_uses (lvalue_of target))))
          (λ _. walk_target vs names h (lvalue_of target))
          ≡ and_then w (λ _. and_then (walk_uses vs names h (target_uses (lvalue_of target))) (λ _. walk_target vs names h (lvalue_of target)))
      one_after (After k) = refl
      one_after (Broken fault) = refl

  -- ---- A `while`

  pub while_is : (x : s.Statement) (place : Place) (condition : Placed) (body : Vec s.Statement Global) (xs : List s.Statement) →
      x ≡ s.While place condition body → xs ≡ body.items →
      walk_uses vs names h (expr_uses (expr_of condition.expr)) ≡ After h →
      walk language vs names h (f.statement_of x)
      ≡ and_then (walk_all language vs names h (f.statements_of xs)) (λ after. join vs names place h (after ∷ []))
  while_is x place condition body xs is same tested =
      ap (λ y. walk language vs names h (f.statement_of y)) is
      ∙ ap (walk language vs names h) (of_while place condition body)
      ∙ after_then _ (λ _. and_then (walk_all language vs names h (f.statements_of body.items))
      (λ after. join vs names place h (after ∷ []))) h tested
      ∙ ap (λ (y : List s.Statement).
      and_then (walk_all language vs names h (f.statements_of y)) (λ after. join vs names place h (after ∷ [])))
      (sym same)

  pub while_sets : (x : s.Statement) (place : Place) (condition : Placed) (body : Vec s.Statement Global) (xs : List s.Statement) (old one all : List Held) →
      x ≡ s.While place condition body → xs ≡ body.items →
      one ≡ old ++ h ∷ [] → all ≡ one ++ sets_in_all names h (f.statements_of xs) →
      all ≡ old ++ sets_in names h (f.statement_of x)
  while_sets x place condition body xs old one all is same p q =
      q ∙ ap₂ (λ (a b : List Held). a ++ b) p (ap (λ (y : List s.Statement). sets_in_all names h (f.statements_of y)) same)
      ∙ append_assoc old (h ∷ []) (sets_in_all names h (f.statements_of body.items))
      ∙ ap (λ (y : f.Statement). old ++ sets_in names h y) (sym (ap f.statement_of is ∙ of_while place condition body))

  -- ---- A `do`

  pub do_is : (x : s.Statement) (place : Place) (body : Vec s.Statement Global) (condition : Placed) (xs : List s.Statement) → x ≡ s.Do place body condition →
      xs ≡ body.items →
      walk language vs names h (f.statement_of x) ≡ and_then (walk_all language vs names h (f.statements_of xs))
      (λ after. and_then (walk_uses vs names after (expr_uses (expr_of condition.expr)))
      (λ _. join vs names place h (after ∷ [])))
  do_is x place body condition xs is same =
      ap (λ y. walk language vs names h (f.statement_of y)) is
      ∙ ap (walk language vs names h) (of_do place body condition)
      ∙ ap (λ (y : List s.Statement). and_then (walk_all language vs names h (f.statements_of y))
      (λ after. and_then (walk_uses vs names after (expr_uses (expr_of condition.expr)))
      (λ _. join vs names place h (after ∷ [])))) (sym same)

  -- after its body
  pub do_tests : (x : s.Statement) (place : Place) (body : Vec s.Statement Global) (condition : Placed) (xs : List s.Statement) (k : Held) →
      x ≡ s.Do place body condition → xs ≡ body.items →
      walk_all language vs names h (f.statements_of xs) ≡ After k →
      walk language vs names h (f.statement_of x) ≡ and_then (walk_uses vs names k (expr_uses (expr_of condition.expr)))
      (λ _. join vs names place h (k ∷ []))
  do_tests x place body condition xs k is same walked =
      do_is x place body condition xs is same
      ∙ after_then _ (λ after. and_then (walk_uses vs names after (expr_uses (expr_of condition.expr)))
      (λ _. join vs names place h (after ∷ []))) k walked

  pub do_sets : (x : s.Statement) (place : Place) (body : Vec s.Statement Global) (condition : Placed) (xs : List s.Statement) (k : Held)
      (old some all : List Held) → x ≡ s.Do place body condition → xs ≡ body.items →
      walk_all language vs names h (f.statements_of xs) ≡ After k →
      some ≡ old ++ sets_in_all names h (f.statements_of xs) → all ≡ some ++ k ∷ [] →
      all ≡ old ++ sets_in names h (f.statement_of x)
  do_sets x place body condition xs k old some all is same walked p q =
      q ∙ ap (λ (a : List Held). a ++ k ∷ []) p ∙ append_assoc old (sets_in_all names h (f.statements_of xs)) (k ∷ [])
      ∙ ap (λ (b : Held). old ++ (sets_in_all names h (f.statements_of xs) ++ b ∷ [])) (sym (walked_all_after (f.statements_of xs) k walked))
      ∙ ap (λ (y : List s.Statement). old
      ++ (sets_in_all names h (f.statements_of y) ++ held_after_all names h (f.statements_of y) ∷ [])) same
      ∙ ap (λ (y : f.Statement). old ++ sets_in names h y) (sym (ap f.statement_of is ∙ of_do place body condition))

  -- ---- An `if`

  pub if_is : (x : s.Statement) (place : Place) (arms : Vec arm.Arm Global) (otherwise : Vec s.Statement Global) (choices : List arm.Arm) →
      x ≡ s.If place arms otherwise → choices ≡ arms.items →
      walk language vs names h (f.statement_of x) ≡ walk_arms language vs names h [] (f.arms_list_of choices)
      (λ left. and_then (walk_all language vs names h (f.statements_of otherwise.items))
      (λ after. join_all vs names place (left ++ after ∷ [])))
  if_is x place arms otherwise choices is same =
      ap (λ y. walk language vs names h (f.statement_of y)) is
      ∙ ap (walk language vs names h) (of_if place arms otherwise)
      ∙ ap (λ (y : List arm.Arm). walk_arms language vs names h [] (f.arms_list_of y)
      (λ left. and_then (walk_all language vs names h (f.statements_of otherwise.items))
      (λ after. join_all vs names place (left ++ after ∷ []))))
      (sym same)

  -- after its arms
  pub otherwise_is : (x : s.Statement) (place : Place) (arms : Vec arm.Arm Global) (otherwise : Vec s.Statement Global) (choices : List arm.Arm)
      (xs : List s.Statement) (ends : List Held) → x ≡ s.If place arms otherwise → choices ≡ arms.items → xs ≡ otherwise.items →
      ((onward : List Held → Walked) → walk_arms language vs names h [] (f.arms_list_of choices) onward ≡ onward ends) →
      walk language vs names h (f.statement_of x) ≡ and_then (walk_all language vs names h (f.statements_of xs))
      (λ after. join_all vs names place (ends ++ after ∷ []))
  otherwise_is x place arms otherwise choices xs ends is same equal walked =
      if_is x place arms otherwise choices is same
      ∙ walked (λ left. and_then (walk_all language vs names h (f.statements_of otherwise.items))
      (λ after. join_all vs names place (left ++ after ∷ [])))
      ∙ ap (λ (y : List s.Statement).
      and_then (walk_all language vs names h (f.statements_of y)) (λ after. join_all vs names place (ends ++ after ∷ [])))
      (sym equal)

  -- where its paths meet
  pub ends_meet : (x : s.Statement) (place : Place) (arms : Vec arm.Arm Global) (otherwise : Vec s.Statement Global) (choices : List arm.Arm)
      (xs : List s.Statement) (ends others : List Held) (end : Held) → x ≡ s.If place arms otherwise → choices ≡ arms.items → xs ≡ otherwise.items →
      ((onward : List Held → Walked) → walk_arms language vs names h [] (f.arms_list_of choices) onward ≡ onward ends) →
      All (λ y. length y ≡ length names) ends →
      walk_all language vs names h (f.statements_of xs) ≡ After end → others ≡ ends →
      walk language vs names h (f.statement_of x) ≡ join vs names place end others
  ends_meet x place arms otherwise choices xs ends others end is same equal walked all reached e =
      otherwise_is x place arms otherwise choices xs ends is same equal walked
      ∙ after_then _ (λ after. join_all vs names place (ends ++ after ∷ [])) end reached
      ∙ join_last vs names place end ends (walked_all_length (f.statements_of xs) end reached) all
      ∙ ap (λ (hs : List Held). join vs names place end hs) (sym e)

  pub if_sets : (x : s.Statement) (place : Place) (arms : Vec arm.Arm Global) (otherwise : Vec s.Statement Global) (choices : List arm.Arm)
      (xs : List s.Statement) (old one all : List Held) → x ≡ s.If place arms otherwise → choices ≡ arms.items → xs ≡ otherwise.items →
      one ≡ old ++ sets_in_arms names h (f.arms_list_of choices) → all ≡ one ++ sets_in_all names h (f.statements_of xs) →
      all ≡ old ++ sets_in names h (f.statement_of x)
  if_sets x place arms otherwise choices xs old one all is same equal p q =
      q ∙ ap (λ (ys : List Held). ys ++ sets_in_all names h (f.statements_of xs)) p
      ∙ append_assoc old (sets_in_arms names h (f.arms_list_of choices)) (sets_in_all names h (f.statements_of xs))
      ∙ ap₂ (λ (a : List arm.Arm) (b : List s.Statement).
      old ++ (sets_in_arms names h (f.arms_list_of a) ++ sets_in_all names h (f.statements_of b))) same equal
      ∙ ap (λ (y : f.Statement). old ++ sets_in names h y) (sym (ap f.statement_of is ∙ of_if place arms otherwise))
