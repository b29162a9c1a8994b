-- Statements that are made one after another.
use Rattle.std.proofs.Common.{◌≡◌, ℕ, zero, suc, ◌+◌, ◌-◌, ◌^◌, ◌<◌, ◌≤◌, List, [], ◌∷◌, ◌++◌, length, get_or, drop}
use Rattle.std.proofs.Common.{min, map, Option, Some, None, Vec, Global, refl, sym, ap, ap₂, ◌∙◌, arith, ⊎_elim}
use Rattle.std.specs.Prelude.{slice_get, slice_index_or}
use Rattle.std.specs.Option.{option_map}
use Rattle.std.proofs.lemmas.Bool.{cases_lt}
use Rattle.std.proofs.lemmas.List.{drop_more, drop_all}
use Rattle.std.proofs.lemmas.Option.{slice_get_past, slice_get_within, slice_get-map, none-some, same_Some}
use Rattle.ido_base.specs.declared.place.Place.{Place}
use Rattle.ido_ints.specs.declared.kinds.Kind.{Kind}
use Rattle.ido_ints.specs.declared.kinds.Kind.TheVariants.{Int}
use Rattle.c_tree.specs.Exprs as e
use Rattle.c_tree.specs.Programs as p
use Rattle.c_tree.specs.Flats as f
use Rattle.c_tree.specs.Inlining as i
use Rattle.c_tree.specs.declared.expr.Placed as placed
use Rattle.c_tree.specs.declared.expr.Lvalue as targets
use Rattle.c_tree.specs.declared.expr.Lvalue.TheVariants as target
use Rattle.c_tree.specs.declared.flat.Statement as flat
use Rattle.c_tree.specs.declared.flat.Arm as arm
use Rattle.c_tree.specs.declared.program.Function.{Function}
use Rattle.c_tree.specs.declared.program.Statement.{Statement}
use Rattle.c_tree.specs.declared.program.Arm as from
use Rattle.c_tree.proofs.Public.{flat_rows_of_while as of_while, flat_rows_of_do as of_do, flat_rows_of_if as of_if}
use Rattle.c_inline.specs.declared.build.Begun.{Begun}
use Rattle.c_inline.specs.CallLaws.{Site, call_made}
use Rattle.c_inline.specs.links.Weights as v
use Rattle.c_inline.specs.links.KnownWeights.{Low, IsUnknown}
use Rattle.c_inline.specs.links.InlinedBodies.{AreSized, IsTaken, whole, after, following_of, body_of, rest_of, begun_made, begun_if_any}
use Rattle.c_inline.specs.links.InlinedBodies.{in_turn, all_made, and_any, function_work, statements_work, begun_work, work_if_any, all_work}
use Rattle.c_inline.proofs.CallCongruence.{near_called}
use Rattle.c_inline.proofs.WeightsByDepth.{low_more, fixed_bodies, fixed_weight}
use Rattle.c_inline.proofs.WeightUpdates.{near_known, found_most}
use Rattle.c_inline.proofs.InlinedWeights.{made_statements, called_made, bodies_made}

pub and_none : (a : f.Statements) → i.statements_and a f.no_statement ≡ a
and_none f.no_statement = refl
and_none (f.statement_and x a) = ap (f.statement_and x) (and_none a)

pub and_assoc : (a b c : f.Statements) → i.statements_and (i.statements_and a b) c ≡ i.statements_and a (i.statements_and b c)
and_assoc f.no_statement b c = refl
and_assoc (f.statement_and x a) b c = ap (f.statement_and x) (and_assoc a b c)

pub pushed : (xs : List flat.Statement) (x : flat.Statement) (more : f.Statements) →
    i.statements_and (f.statements_of (xs ++ x ∷ [])) more ≡ i.statements_and (f.statements_of xs) (f.statement_and (f.statement_of x) more)
pushed [] x more = refl
pushed (y ∷ xs) x more = ap (f.statement_and (f.statement_of y)) (pushed xs x more)

pub then_after : (made made' : f.Statements) (s t : i.Made f.Statements) (K : i.Locals → i.Made f.Statements) → after made s ≡ after made' t →
    after made (in_turn s K) ≡ after made' (in_turn t K)
then_after made made' s t K h =
    let a : i.statements_and made s.made ≡ i.statements_and made' t.made = ap (λ (m : i.Made f.Statements). m.made) h in
    let b : s.locals ≡ t.locals = ap (λ (m : i.Made f.Statements). m.locals) h in
    ap (λ (x : f.Statements). let m : i.Made f.Statements = record { made = x; locals = (K s.locals).locals } in m)
    (sym (and_assoc made s.made (K s.locals).made))
    ∙ ap₂ (λ (x : f.Statements) (k : i.Locals). let m : i.Made f.Statements = record { made = i.statements_and x (K k).made; locals = (K k).locals } in m) a b
    ∙ ap (λ (x : f.Statements). let m : i.Made f.Statements = record { made = x; locals = (K t.locals).locals } in m) (and_assoc made' t.made (K t.locals).made)

then_done : (made made' : f.Statements) (s : i.Made f.Statements) (ks : i.Locals) (K : i.Locals → i.Made f.Statements) →
    after made s ≡ record { made = made'; locals = ks } → after made (in_turn s K) ≡ after made' (K ks)
then_done made made' s ks K h =
    ap (λ (x : f.Statements). let m : i.Made f.Statements = record { made = x; locals = (K s.locals).locals } in m)
    (sym (and_assoc made s.made (K s.locals).made))
    ∙ ap (λ (t : i.Made f.Statements). let m : i.Made f.Statements =
    record { made = i.statements_and t.made (K t.locals).made; locals = (K t.locals).locals } in
    m) h

pub following_pushed : (xs : List flat.Statement) (x : flat.Statement) →
    f.statements_of (xs ++ x ∷ []) ≡ i.statements_and (f.statements_of xs) (i.one (f.statement_of x))
following_pushed xs x = sym (and_none (f.statements_of (xs ++ x ∷ []))) ∙ pushed xs x f.no_statement

pub passed_more : (place : Place) (n j : ℕ) (ks : List Kind) (x : e.Placed) (xs : List e.Placed) →
    i.passed place n (drop j ks) (x ∷ xs)
    ≡ f.statement_and (f.Assign place (e.ToLocal place n (slice_index_or ks j Int)) x) (i.passed place (n + 1) (drop (suc j) ks) xs)
passed_more place n zero [] x xs = refl
passed_more place n (suc j) [] x xs = refl
passed_more place n zero (k ∷ ks) x xs = refl
passed_more place n (suc j) (k ∷ ks) x xs = passed_more place n j ks x xs

module _ (place : Place) (by j : ℕ) (locals : List Kind) (arguments : List placed.Placed) (xs made : List flat.Statement) where
  pub passed_step : (n n' : ℕ) (x value : placed.Placed) (kind : Kind) → j < length arguments → x ≡ get_or arguments j x →
      e.placed_of value ≡ i.shifted_placed by (e.placed_of x) → kind ≡ slice_index_or locals j Int → n' ≡ n + 1 →
      made ≡ xs ++ flat.Assign place (target.Local place n kind) value ∷ [] →
      i.statements_and (f.statements_of made) (i.passed place n' (drop (j + 1) locals) (map (i.shifted_placed by) (map e.placed_of (drop (j + 1) arguments))))
      ≡ i.statements_and (f.statements_of xs) (i.passed place n (drop j locals) (map (i.shifted_placed by) (map e.placed_of (drop j arguments))))
  passed_step n n' x value kind l is value_is kind_is next h =
      let rest = map (i.shifted_placed by) (map e.placed_of (drop (j + 1) arguments)) in
      let one : suc j ≡ j + 1 = omega arith in
      let first : f.Statement = f.Assign place (e.ToLocal place n (slice_index_or locals j Int)) (i.shifted_placed by (e.placed_of x)) in
      ap₂ (λ (ys : List flat.Statement) (m : ℕ). i.statements_and (f.statements_of ys) (i.passed place m (drop (j + 1) locals) rest)) h next
      ∙ pushed xs (flat.Assign place (target.Local place n kind) value) (i.passed place (n + 1) (drop (j + 1) locals) rest)
      ∙ ap (i.statements_and (f.statements_of xs))
      (ap₂ (λ (k : Kind) (y : e.Placed). f.statement_and (f.Assign place (e.ToLocal place n k) y) (i.passed place (n + 1) (drop (j + 1) locals) rest))
      kind_is value_is
      ∙ sym (passed_more place n j locals (i.shifted_placed by (e.placed_of x)) rest
      ∙ ap (λ (m : ℕ). f.statement_and first (i.passed place (n + 1) (drop m locals) rest)) one)
      ∙ ap (λ (ys : List placed.Placed). i.passed place n (drop j locals) (map (i.shifted_placed by) (map e.placed_of ys)))
      (ap (λ (y : placed.Placed). y ∷ drop (j + 1) arguments) is ∙ sym (drop_more arguments j x l)))

  pub passed_all : (n : ℕ) → length arguments ≤ j →
      i.statements_and (f.statements_of xs) (i.passed place n (drop j locals) (map (i.shifted_placed by) (map e.placed_of (drop j arguments))))
      ≡ f.statements_of xs
  passed_all n le =
      ap (λ (ys : List placed.Placed).
      i.statements_and (f.statements_of xs) (i.passed place n (drop j locals) (map (i.shifted_placed by) (map e.placed_of ys)))) (drop_all j arguments le)
      ∙ and_none (f.statements_of xs)

-- ---- Arms

abbrev pub arms_and : f.Arms → f.Arms → f.Arms
arms_and f.no_arm more = more
arms_and (f.arm_and condition body rest) more = f.arm_and condition body (arms_and rest more)

abbrev pub after_arms : f.Arms → i.Made f.Arms → i.Made f.Arms
after_arms made more = record { made = arms_and made more.made; locals = more.locals }

pub arms_none : (a : f.Arms) → arms_and a f.no_arm ≡ a
arms_none f.no_arm = refl
arms_none (f.arm_and condition body rest) = ap (f.arm_and condition body) (arms_none rest)

pub pushed_arm : (xs : List arm.Arm) (x : arm.Arm) (more : f.Arms) →
    arms_and (f.arms_list_of (xs ++ x ∷ [])) more ≡ arms_and (f.arms_list_of xs) (f.arm_and (e.placed_of x.condition) (f.statements_of x.body.items) more)
pushed_arm [] x more = refl
pushed_arm (y ∷ xs) x more = ap (f.arm_and (e.placed_of y.condition) (f.statements_of y.body.items)) (pushed_arm xs x more)

-- ---- Statements

module _ (fs : List p.Function) (B : i.Bodies) (n : ℕ) (ks js : i.Locals) (xs made : List flat.Statement) (place : Place) where
  pub one_made : (x : flat.Statement) (s : f.Statement) (m : i.Made f.Statements) → made ≡ xs ++ x ∷ [] → f.statement_of x ≡ s →
      m ≡ record { made = i.one s; locals = js } →
      after (f.statements_of xs) m ≡ after (f.statements_of made) (record { made = f.no_statement; locals = js })
  one_made x s m h e k =
      ap (after (f.statements_of xs)) k
      ∙ ap (λ (y : f.Statement). let r : i.Made f.Statements = record { made = i.statements_and (f.statements_of xs) (i.one y); locals = js } in r) (sym e)
      ∙ ap (λ (y : f.Statements). let r : i.Made f.Statements = record { made = y; locals = js } in r) (sym (pushed xs x f.no_statement))
      ∙ ap (λ (ys : List flat.Statement). after (f.statements_of ys) (let r : i.Made f.Statements = record { made = f.no_statement; locals = js } in r)) (sym h)

  module _ (condition : placed.Placed) (given : placed.Placed) (row : Vec flat.Statement Global) (body : p.Statements)
      (test : e.placed_of condition ≡ i.shifted_placed n (e.placed_of given))
      (inner : i.statements fs B n ks body ≡ record { made = f.statements_of row.items; locals = js }) where
    pub while_made : (x : p.Statement) → x ≡ p.While place (e.placed_of given) body → made ≡ xs ++ flat.While place condition row ∷ [] →
        after (f.statements_of xs) (i.statement fs B n ks x) ≡ after (f.statements_of made) (record { made = f.no_statement; locals = js })
    while_made x view h =
        one_made (flat.While place condition row) (f.While place (i.shifted_placed n (e.placed_of given)) (f.statements_of row.items))
        (i.statement fs B n ks x) h
        (of_while place condition row ∙ ap (λ (y : e.Placed). f.While place y (f.statements_of row.items)) test)
        (ap (i.statement fs B n ks) view ∙ ap
        (λ (m : i.Made f.Statements). let r : i.Made f.Statements =
        record { made = i.one (f.While place (i.shifted_placed n (e.placed_of given)) m.made); locals = m.locals } in r) inner)

    pub do_made : (x : p.Statement) → x ≡ p.Do place body (e.placed_of given) → made ≡ xs ++ flat.Do place row condition ∷ [] →
        after (f.statements_of xs) (i.statement fs B n ks x) ≡ after (f.statements_of made) (record { made = f.no_statement; locals = js })
    do_made x view h =
        one_made (flat.Do place row condition) (f.Do place (f.statements_of row.items) (i.shifted_placed n (e.placed_of given))) (i.statement fs B n ks x) h
        (of_do place row condition ∙ ap (λ (y : e.Placed). f.Do place (f.statements_of row.items) y) test)
        (ap (i.statement fs B n ks) view ∙ ap
        (λ (m : i.Made f.Statements). let r : i.Made f.Statements =
        record { made = i.one (f.Do place m.made (i.shifted_placed n (e.placed_of given))); locals = m.locals } in r) inner)

  pub if_made : (x : p.Statement) (tests : Vec arm.Arm Global) (row : Vec flat.Statement Global) (arms : p.Arms) (otherwise : p.Statements) (hs : i.Locals) →
      x ≡ p.If place arms otherwise → made ≡ xs ++ flat.If place tests row ∷ [] →
      i.arms_of fs B n ks arms ≡ record { made = f.arms_list_of tests.items; locals = hs } →
      i.statements fs B n hs otherwise ≡ record { made = f.statements_of row.items; locals = js } →
      after (f.statements_of xs) (i.statement fs B n ks x) ≡ after (f.statements_of made) (record { made = f.no_statement; locals = js })
  if_made x tests row arms otherwise hs view h a o =
      one_made (flat.If place tests row) (f.If place (f.arms_list_of tests.items) (f.statements_of row.items)) (i.statement fs B n ks x) h
      (of_if place tests row)
      (ap (i.statement fs B n ks) view
      ∙ ap (λ (m : i.Made f.Arms). let r : i.Made f.Statements =
      record { made = i.one (f.If place m.made (i.statements fs B n m.locals otherwise).made); locals = (i.statements fs B n m.locals otherwise).locals } in
      r) a
      ∙ ap (λ (m : i.Made f.Statements). let r : i.Made f.Statements =
      record { made = i.one (f.If place (f.arms_list_of tests.items) m.made); locals = m.locals } in r) o)

  pub assign_made : (x : p.Statement) (to given : targets.Lvalue) (value from : placed.Placed) → x ≡ p.Assign place (e.lvalue_of given) (e.placed_of from) →
      made ≡ xs ++ flat.Assign place to value ∷ [] → js ≡ ks →
      e.lvalue_of to ≡ i.shifted_target n (e.lvalue_of given) → e.placed_of value ≡ i.shifted_placed n (e.placed_of from) →
      after (f.statements_of xs) (i.statement fs B n ks x) ≡ after (f.statements_of made) (record { made = f.no_statement; locals = js })
  assign_made x to given value from view h k t u =
      one_made (flat.Assign place to value) (f.Assign place (i.shifted_target n (e.lvalue_of given)) (i.shifted_placed n (e.placed_of from)))
      (i.statement fs B n ks x) h
      (ap₂ (f.Assign place) t u)
      (ap (i.statement fs B n ks) view ∙ ap
      (λ (hs : i.Locals). let r : i.Made f.Statements =
      record { made = i.one (f.Assign place (i.shifted_target n (e.lvalue_of given)) (i.shifted_placed n (e.placed_of from))); locals = hs } in r) (sym k))

pub made_alone : (old new : f.Statements) (m : i.Made f.Statements) (ks : i.Locals) → after old m ≡ after new (record { made = f.no_statement; locals = ks }) →
    after old m ≡ record { made = new; locals = ks }
made_alone old new m ks h = h ∙ ap (λ (y : f.Statements). let r : i.Made f.Statements = record { made = y; locals = ks } in r) (and_none new)

-- one of several statements
module _ (fs : List p.Function) (B : i.Bodies) (n : ℕ) (xs : List Statement) (j : ℕ) (x : Statement) (within : j < length xs) (is : x ≡ get_or xs j x) where
  next_of : drop j xs ≡ x ∷ drop (j + 1) xs
  next_of = drop_more xs j x within ∙ ap (λ (y : Statement). y ∷ drop (j + 1) xs) (sym is)

  pub statement_step : (ks js : i.Locals) (old new : f.Statements) → after old (i.statement fs B n ks (p.statement_of x)) ≡ record { made = new; locals = js } →
      after old (i.statements fs B n ks (p.statements_of (drop j xs))) ≡ after new (i.statements fs B n js (p.statements_of (drop (j + 1) xs)))
  statement_step ks js old new h =
      ap (λ (ys : List Statement). after old (i.statements fs B n ks (p.statements_of ys))) next_of
      ∙ then_done old new (i.statement fs B n ks (p.statement_of x)) js (λ hs. i.statements fs B n hs (p.statements_of (drop (j + 1) xs))) h

  pub statement_left : statements_work fs (p.statements_of (drop j xs))
      ≡ v.statement_weight v.size 2 fs (function_work fs) (p.statement_of x) + statements_work fs (p.statements_of (drop (j + 1) xs))
  statement_left = ap (λ (ys : List Statement). statements_work fs (p.statements_of ys)) next_of

pub statements_all : (fs : List p.Function) (B : i.Bodies) (n : ℕ) (xs : List Statement) (j : ℕ) (ks : i.Locals) (made : f.Statements) → length xs ≤ j →
    after made (i.statements fs B n ks (p.statements_of (drop j xs))) ≡ record { made = made; locals = ks }
statements_all fs B n xs j ks made le =
    ap (λ (ys : List Statement). after made (i.statements fs B n ks (p.statements_of ys))) (drop_all j xs le)
    ∙ ap (λ (y : f.Statements). let r : i.Made f.Statements = record { made = y; locals = ks } in r) (and_none made)

-- one of several conditions
module _ (fs : List p.Function) (B : i.Bodies) (n : ℕ) (xs : List from.Arm) (j : ℕ) (x : from.Arm) (within : j < length xs) (is : x ≡ get_or xs j x) where
  next_arm : drop j xs ≡ x ∷ drop (j + 1) xs
  next_arm = drop_more xs j x within ∙ ap (λ (y : from.Arm). y ∷ drop (j + 1) xs) (sym is)

  pub arm_made : (ks js : i.Locals) (ys made : List arm.Arm) (a : arm.Arm) → made ≡ ys ++ a ∷ [] →
      e.placed_of a.condition ≡ i.shifted_placed n (e.placed_of x.condition) →
      i.statements fs B n ks (p.statements_of x.body.items) ≡ record { made = f.statements_of a.body.items; locals = js } →
      after_arms (f.arms_list_of ys) (i.arms_of fs B n ks (p.arms_list_of (drop j xs)))
      ≡ after_arms (f.arms_list_of made) (i.arms_of fs B n js (p.arms_list_of (drop (j + 1) xs)))
  arm_made ks js ys made a h test inner =
      let rest = p.arms_list_of (drop (j + 1) xs) in
      let r = i.arms_of fs B n js rest in
      ap (λ (zs : List from.Arm). after_arms (f.arms_list_of ys) (i.arms_of fs B n ks (p.arms_list_of zs))) next_arm
      ∙ ap (λ (m : i.Made f.Statements). let t : i.Made f.Arms =
      record {
        made = arms_and (f.arms_list_of ys) (f.arm_and (i.shifted_placed n (e.placed_of x.condition)) m.made (i.arms_of fs B n m.locals rest).made);
        locals = (i.arms_of fs B n m.locals rest).locals;
      } in t) inner
      ∙ ap (λ (y : e.Placed). let t : i.Made f.Arms =
      record { made = arms_and (f.arms_list_of ys) (f.arm_and y (f.statements_of a.body.items) r.made); locals = r.locals } in t) (sym test)
      ∙ ap (λ (y : f.Arms). let t : i.Made f.Arms = record { made = y; locals = r.locals } in t) (sym (pushed_arm ys a r.made))
      ∙ ap (λ (zs : List arm.Arm). after_arms (f.arms_list_of zs) r) (sym h)

  pub arm_left : v.arms_weight v.size 2 fs (function_work fs) (p.arms_list_of (drop j xs))
      ≡ 1 + statements_work fs (p.statements_of x.body.items) + v.arms_weight v.size 2 fs (function_work fs) (p.arms_list_of (drop (j + 1) xs))
  arm_left = let h = ap (λ (ys : List from.Arm). v.arms_weight v.size 2 fs (function_work fs) (p.arms_list_of ys)) next_arm in omega (arith, h)

pub arms_all : (fs : List p.Function) (B : i.Bodies) (n : ℕ) (xs : List from.Arm) (j : ℕ) (ks : i.Locals) (made : f.Arms) → length xs ≤ j →
    after_arms made (i.arms_of fs B n ks (p.arms_list_of (drop j xs))) ≡ record { made = made; locals = ks }
arms_all fs B n xs j ks made le =
    ap (λ (ys : List from.Arm). after_arms made (i.arms_of fs B n ks (p.arms_list_of ys))) (drop_all j xs le)
    ∙ ap (λ (y : f.Arms). let r : i.Made f.Arms = record { made = y; locals = ks } in r) (arms_none made)

-- ---- Bodies that have been begun, the last one first

turn_assoc : (s : i.Made f.Statements) (K L : i.Locals → i.Made f.Statements) → in_turn (in_turn s K) L ≡ in_turn s (λ ks. in_turn (K ks) L)
turn_assoc s K L =
    ap (λ (x : f.Statements). let r : i.Made f.Statements = record { made = x; locals = (L (K s.locals).locals).locals } in r)
    (and_assoc s.made (K s.locals).made (L (K s.locals).locals).made)

all_made_more : (functions : List Function) (bs : List Begun) (b : Begun) (ks : i.Locals) →
    all_made functions (bs ++ b ∷ []) ks ≡ in_turn (begun_made functions b ks) (all_made functions bs)
all_made_more functions [] b ks =
    ap (λ (x : f.Statements). let r : i.Made f.Statements = record { made = x; locals = (begun_made functions b ks).locals } in r)
    (sym (and_none (begun_made functions b ks).made))
all_made_more functions (a ∷ bs) b ks =
    ap (λ (m : i.Made f.Statements). in_turn m (begun_made functions a)) (all_made_more functions bs b ks)
    ∙ turn_assoc (begun_made functions b ks) (all_made functions bs) (begun_made functions a)

pub all_work_more : (functions : List Function) (bs : List Begun) (b : Begun) →
    all_work functions (bs ++ b ∷ []) ≡ all_work functions bs + begun_work functions b
all_work_more functions [] b = omega arith
all_work_more functions (a ∷ bs) b = omega (arith, all_work_more functions bs b)

body_is : (functions : List Function) (g : ℕ) (x : Function) → slice_get functions g ≡ Some x → body_of functions g ≡ x.body.items
body_is functions g x exists = ap (λ (o : Option Function). elim o as (λ _. List Statement) [ Some y ↦ y.body.items | None ↦ [] ]) exists

module _ (functions : List Function) where
  fs : List p.Function
  fs = map p.function_of functions

  any_made : (bs : List Begun) (b : Option Begun) (ks : i.Locals) →
      all_made functions (and_any bs b) ks ≡ in_turn (begun_if_any functions b ks) (all_made functions bs)
  any_made bs (Some b) ks = all_made_more functions bs b ks
  any_made bs None ks = refl

  any_work : (bs : List Begun) (b : Option Begun) → all_work functions (and_any bs b) ≡ all_work functions bs + work_if_any functions b
  any_work bs (Some b) = all_work_more functions bs b
  any_work bs None = omega arith

  -- the next statement of a body
  pub taken_some : (b : Begun) (y : Function) (x : Statement) → slice_get functions b.function ≡ Some y → b.done < length y.body.items →
      x ≡ get_or y.body.items b.done x → IsTaken functions b (Some x) (record b { done = b.done + 1 })
  taken_some b y x h l e = (
    ap (drop b.done) (body_is functions b.function y h) ∙ drop_more y.body.items b.done x l
        ∙ ap (λ (z : Statement). z ∷ drop (b.done + 1) y.body.items) (sym e)
        ∙ ap (λ (xs : List Statement). x ∷ drop (b.done + 1) xs) (sym (body_is functions b.function y h)),
    refl,
    refl,
  )

  pub taken_none : (b : Begun) (y : Function) → slice_get functions b.function ≡ Some y → length y.body.items ≤ b.done → IsTaken functions b None b
  taken_none b y h le = (ap (drop b.done) (body_is functions b.function y h) ∙ drop_all b.done y.body.items le, refl)

  -- a body of which a statement is taken
  taken_made : (b b' : Begun) (x : Statement) (ks : i.Locals) → IsTaken functions b (Some x) b' →
      begun_made functions b ks ≡ in_turn (i.statement (map p.function_of functions) (whole (map p.function_of functions)) b.by ks (p.statement_of x))
      (begun_made functions b')
  taken_made b b' x ks taken =
      let B = whole (map p.function_of functions) in
      let made : ℕ → f.Statements → List Statement → i.Made f.Statements = λ n o xs. let m =
      i.statements (map p.function_of functions) B n ks (p.statements_of xs) in record { made = i.statements_and m.made o; locals = m.locals } in
      let s = i.statement (map p.function_of functions) B b.by ks (p.statement_of x) in
      let a : begun_made functions b ks ≡ made b.by (following_of b.following) (x ∷ rest_of functions b') = ap (made b.by (following_of b.following)) taken.0 in
      let r = i.statements (map p.function_of functions) B b.by s.locals (p.statements_of (rest_of functions b')) in
      a
      ∙ ap (λ (y : f.Statements). let m : i.Made f.Statements = record { made = y; locals = r.locals } in m)
      (and_assoc s.made r.made (following_of b.following))
      ∙ ap₂ (λ (n : ℕ) (o : Option flat.Statement).
      let m = i.statements (map p.function_of functions) B n s.locals (p.statements_of (rest_of functions b')) in
      let t : i.Made f.Statements = record { made = i.statements_and s.made (i.statements_and m.made (following_of o)); locals = m.locals } in t)
      (sym taken.1) (sym taken.2)

  taken_work : (b b' : Begun) (x : Statement) → IsTaken functions b (Some x) b' →
      begun_work functions b ≡ v.statement_weight v.size 2 (map p.function_of functions) (function_work (map p.function_of functions)) (p.statement_of x)
      + begun_work functions b'
  taken_work b b' x taken =
      let a = ap (λ (xs : List Statement). statements_work (map p.function_of functions) (p.statements_of xs)) taken.0 in
      omega (arith, a)

  -- the next statement of a body is taken, and what is left of the body waits, before a body that the statement begins
  module _ (bs bs' : List Begun) (b b' : Begun) (inner : Option Begun) (x : Statement) (taken : IsTaken functions b (Some x) b')
      (waits : bs' ≡ and_any (bs ++ b' ∷ []) inner) where
    pub step_made : (ks ks' : i.Locals) (old new : f.Statements) →
        after old (i.statement (map p.function_of functions) (whole (map p.function_of functions)) b'.by ks (p.statement_of x))
        ≡ after new (begun_if_any functions inner ks') →
        after old (all_made functions (bs ++ b ∷ []) ks) ≡ after new (all_made functions bs' ks')
    step_made ks ks' old new h =
        let B = whole (map p.function_of functions) in
        let s : ℕ → i.Made f.Statements = λ n. i.statement (map p.function_of functions) B n ks (p.statement_of x) in
        let k : after old (s b.by) ≡ after new (begun_if_any functions inner ks') = ap (λ (n : ℕ). after old (s n)) (sym taken.1) ∙ h in
        ap (after old) (all_made_more functions bs b ks ∙ ap (λ (m : i.Made f.Statements). in_turn m (all_made functions bs)) (taken_made b b' x ks taken)
        ∙ turn_assoc (s b.by) (begun_made functions b') (all_made functions bs))
        ∙ then_after old new (s b.by) (begun_if_any functions inner ks') (λ js. in_turn (begun_made functions b' js) (all_made functions bs)) k
        ∙ ap (after new) (ap (λ (m : i.Made f.Statements). let r : i.Made f.Statements =
        record { made = i.statements_and (begun_if_any functions inner ks').made m.made; locals = m.locals } in r)
        (sym (all_made_more functions bs b' (begun_if_any functions inner ks').locals)) ∙ sym (any_made (bs ++ b' ∷ []) inner ks')
        ∙ ap (λ (l : List Begun). all_made functions l ks') (sym waits))

    pub step_work : work_if_any functions inner
        < v.statement_weight v.size 2 (map p.function_of functions) (function_work (map p.function_of functions)) (p.statement_of x) →
        all_work functions bs' < all_work functions (bs ++ b ∷ [])
    step_work h =
        let a = ap (all_work functions) waits in
        omega (arith, a, h, any_work (bs ++ b' ∷ []) inner, all_work_more functions bs b', all_work_more functions bs b, taken_work b b' x taken)

  module _ (bs : List Begun) (b : Begun) (ks : i.Locals) (old new : f.Statements) (taken : rest_of functions b ≡ []) where
    pub done_made : new ≡ i.statements_and old (following_of b.following) →
        after old (all_made functions (bs ++ b ∷ []) ks) ≡ after new (all_made functions bs ks)
    done_made h =
        let B = whole (map p.function_of functions) in
        let made : List Statement → i.Made f.Statements = λ xs. let m = i.statements (map p.function_of functions) B b.by ks (p.statements_of xs) in
        record { made = i.statements_and m.made (following_of b.following); locals = m.locals } in
        let r = all_made functions bs ks in
        ap (after old) (all_made_more functions bs b ks ∙ ap (λ (xs : List Statement). in_turn (made xs) (all_made functions bs)) taken)
        ∙ ap (λ (y : f.Statements). let m : i.Made f.Statements = record { made = y; locals = r.locals } in m)
        (sym (and_assoc old (following_of b.following) r.made))
        ∙ ap (λ (y : f.Statements). let m : i.Made f.Statements = record { made = i.statements_and y r.made; locals = r.locals } in m) (sym h)

    pub done_work : all_work functions bs < all_work functions (bs ++ b ∷ [])
    done_work = omega (arith, all_work_more functions bs b)

-- ---- Calls

-- as the code has it
abbrev pub site_of : Place → (function : ℕ) → List placed.Placed → Option targets.Lvalue → Site
site_of place function arguments target =
    record { place = place; name = place; function = function; arguments = map e.placed_of arguments; result = option_map e.lvalue_of target }

made_none : (m : f.Statements) → made_statements v.size m ≡ 0 → m ≡ f.no_statement
made_none f.no_statement h = refl
made_none (f.statement_and (f.Assign place (e.ToLocal name local kind) value) rest) h = absurd (omega (arith, h))
made_none (f.statement_and (f.Assign place (e.ToVariable place' variable kind) value) rest) h = absurd (omega (arith, h))
made_none (f.statement_and (f.Assign place (e.ToElement place' variable kind index) value) rest) h = absurd (omega (arith, h))
made_none (f.statement_and (f.If place arms otherwise) rest) h = absurd (omega (arith, h))
made_none (f.statement_and (f.While place condition body) rest) h = absurd (omega (arith, h))
made_none (f.statement_and (f.Do place body condition) rest) h = absurd (omega (arith, h))
made_none (f.statement_and (f.Lock place name) rest) h = absurd (omega (arith, h))
made_none (f.statement_and (f.Unlock place name) rest) h = absurd (omega (arith, h))

locals_kept : (m : f.Statements) (a b : i.Locals) → (made_statements v.size m ≡ 0 → ⊥) → i.locals_after m a b ≡ b
locals_kept f.no_statement a b h = absurd (h refl)
locals_kept (f.statement_and x m) a b h = refl

module _ (fs : List p.Function) (sizes : List (Option ℕ)) (sized : AreSized fs sizes) where
  all_known : (g : ℕ) → IsUnknown sizes g → ⊥
  all_known g u = ⊎_elim
      (λ l. let k = sized.known g l in none-some k.0 (same_Some None (Some k.0) (sym u ∙ k.1)))
      (λ le. none-some None (sym (slice_get_past sizes g (omega (arith, le, sized.right.covers))) ∙ u))
      (cases_lt g (length fs))

  pub low_all : (g : ℕ) → g < length fs → Low fs (length fs) g
  low_all g l = let k = sized.known g l in low_more fs _ (length fs) g (found_most v.size fs sizes sized.right) (sized.right.low g k.0 k.1)

  module _ (n : ℕ) (ks : i.Locals) (site : Site) where
    open site use {place, name, function as g, arguments, result as target}

    weighs : min (v.called_weight v.size 0 fs (v.known_weight sizes) g arguments target) (2 ^ 64 - 1)
        ≡ min (made_statements v.size (call_made fs (length fs) n ks site).made) (2 ^ 64 - 1)
    weighs =
        near_called v.size 0 fs (v.known_weight sizes) (v.function_weight v.size 0 fs (length fs)) (2 ^ 64 - 1) g arguments target
        (near_known v.size fs sizes sized.right g (all_known g))
        ∙ ap (λ (x : ℕ). min x (2 ^ 64 - 1))
        (sym (called_made v.size fs (whole fs) (v.function_weight v.size 0 fs (length fs)) (bodies_made v.size fs (length fs)) place name n ks g
        arguments target))

    -- nothing is left of the call
    pub call_none : min (v.called_weight v.size 0 fs (v.known_weight sizes) g arguments target) (2 ^ 64 - 1) ≡ 0 →
        call_made fs (length fs) n ks site ≡ record { made = f.no_statement; locals = ks }
    call_none h = at (slice_get fs g) (made_none _ (omega (arith, weighs, h)))
      where
        at : (o : Option p.Function) →
            (elim o as (λ _. i.Made f.Statements) [
              | Some x ↦ i.called fs (whole fs) place n ks x (whole fs g ks) arguments target
              | None ↦ record { made = f.no_statement; locals = ks }
            ]).made ≡ f.no_statement →
            ◌≡◌ {A = i.Made f.Statements}
            (elim o as (λ _. i.Made f.Statements) [
              | Some x ↦ i.called fs (whole fs) place n ks x (whole fs g ks) arguments target
              | None ↦ record { made = f.no_statement; locals = ks }
            ]) (record { made = f.no_statement; locals = ks })
        at (Some x) e = ap (λ (m : f.Statements). let r : i.Made f.Statements = record { made = m; locals = i.locals_after m ks (whole fs g ks).locals } in r) e
        at None e = refl

    pub call_past : length fs ≤ g → call_made fs (length fs) n ks site ≡ record { made = f.no_statement; locals = ks }
    call_past le =
        ap (λ (o : Option p.Function). elim o as (λ _. i.Made f.Statements) [
          | Some x ↦ i.called fs (whole fs) place n ks x (whole fs g ks) arguments target
          | None ↦ record { made = f.no_statement; locals = ks }
        ]) (slice_get_past fs g le)

    -- what is made of a call: its parameters, its body and its result
    pub call_some : (x : p.Function) → slice_get fs g ≡ Some x →
        (min (v.called_weight v.size 0 fs (v.known_weight sizes) g arguments target) (2 ^ 64 - 1) ≡ 0 → ⊥) →
        call_made fs (length fs) n ks site
        ≡ (let m = i.statements fs (whole fs) (length ks.kinds) (i.joined ks (i.locals x.locals x.refers)) x.body in
        record {
          made =
              i.statements_and (i.passed place (length ks.kinds) x.locals (map (i.shifted_placed n) arguments))
              (i.statements_and m.made (i.assigned place (length ks.kinds) x.result (option_map (i.shifted_target n) target)));
          locals = m.locals;
        })
    call_some x k h =
        let call : (o : Option p.Function) → i.Made f.Statements =
        λ o. elim o as (λ _. i.Made f.Statements) [
          | Some y ↦ i.called fs (whole fs) place n ks y (whole fs g ks) arguments target
          | None ↦ record { made = f.no_statement; locals = ks }
        ] in
        let c : call_made fs (length fs) n ks site ≡ i.called fs (whole fs) place n ks x (whole fs g ks) arguments target = ap call k in
        let some : made_statements v.size (i.called fs (whole fs) place n ks x (whole fs g ks) arguments target).made ≡ 0 → ⊥ =
        λ z. h (let y = ap (λ (m : i.Made f.Statements). made_statements v.size m.made) c in omega (arith, weighs, y, z)) in
        let kept = locals_kept (i.called fs (whole fs) place n ks x (whole fs g ks) arguments target).made ks (whole fs g ks).locals some in
        c
        ∙ ap (λ (j : i.Locals). let r : i.Made f.Statements =
        record { made = (i.called fs (whole fs) place n ks x (whole fs g ks) arguments target).made; locals = j } in r) kept
        ∙ ap (λ (b : i.Made f.Statements). let r : i.Made f.Statements =
        record {
          made =
              i.statements_and (i.passed place (length ks.kinds) x.locals (map (i.shifted_placed n) arguments))
              (i.statements_and b.made (i.assigned place (length ks.kinds) x.result (option_map (i.shifted_target n) target)));
          locals = b.locals;
        } in r)
        (fixed_bodies fs (length fs) g ks x (omega arith) (low_all g (slice_get_within fs g x k)) k)

-- the body of a call is begun, and what stands before it is made
module _ (functions : List Function) (sizes : List (Option ℕ)) (sized : AreSized (map p.function_of functions) sizes)
    (n : ℕ) (ks : i.Locals) (site : Site) (x : Function) (following : Option flat.Statement) (exists : slice_get functions site.function ≡ Some x) where
  open site use {place, function as g, arguments, result as target}

  mapped : slice_get (map p.function_of functions) g ≡ Some (p.function_of x)
  mapped = slice_get-map p.function_of functions g ∙ ap (option_map p.function_of) exists

  call_begun_there : (old new : f.Statements) →
      (min (v.called_weight v.size 0 (map p.function_of functions) (v.known_weight sizes) g arguments target) (2 ^ 64 - 1) ≡ 0 → ⊥) →
      new ≡ i.statements_and old (i.passed place (length ks.kinds) x.locals.items (map (i.shifted_placed n) arguments)) →
      following_of following ≡ i.assigned place (length ks.kinds) (option_map p.returned_of x.result) (option_map (i.shifted_target n) target) →
      after old (call_made (map p.function_of functions) (length (map p.function_of functions)) n ks site)
      ≡ after new (begun_made functions (record { function = g; done = 0; by = length ks.kinds; following = following })
      (i.joined ks (i.locals x.locals.items x.refers.items)))
  call_begun_there old new some h k =
      let fs : List p.Function = map p.function_of functions in
      let made : List Statement → i.Made f.Statements =
      λ xs. i.statements fs (whole fs) (length ks.kinds) (i.joined ks (i.locals x.locals.items x.refers.items)) (p.statements_of xs) in
      let m = made x.body.items in
      let passing = i.passed place (length ks.kinds) x.locals.items (map (i.shifted_placed n) arguments) in
      let result = i.assigned place (length ks.kinds) (option_map p.returned_of x.result) (option_map (i.shifted_target n) target) in
      ap (after old) (call_some fs sizes sized n ks site (p.function_of x) mapped some)
      ∙ ap (λ (y : f.Statements). let r : i.Made f.Statements = record { made = y; locals = m.locals } in r)
      (sym (and_assoc old passing (i.statements_and m.made result)))
      ∙ ap₂ (λ (y z : f.Statements). let r : i.Made f.Statements = record { made = i.statements_and y (i.statements_and m.made z); locals = m.locals } in
      r) (sym h) (sym k)
      ∙ ap (λ (xs : List Statement). let r : i.Made f.Statements =
      record { made = i.statements_and new (i.statements_and (made xs).made (following_of following)); locals = (made xs).locals } in r)
      (sym (body_is functions g x exists))

  pub call_begun : (first : ℕ) (ls : i.Locals) (old new : f.Statements) → first ≡ length ks.kinds →
      ls ≡ i.joined ks (i.locals x.locals.items x.refers.items) →
      (min (v.called_weight v.size 0 (map p.function_of functions) (v.known_weight sizes) g arguments target) (2 ^ 64 - 1) ≡ 0 → ⊥) →
      new ≡ i.statements_and old (i.passed place first x.locals.items (map (i.shifted_placed n) arguments)) →
      following_of following ≡ i.assigned place first (option_map p.returned_of x.result) (option_map (i.shifted_target n) target) →
      after old (call_made (map p.function_of functions) (length (map p.function_of functions)) n ks site)
      ≡ after new (begun_made functions (record { function = g; done = 0; by = first; following = following }) ls)
  call_begun first ls old new first_is locals_are some h k =
      call_begun_there old new some
      (h ∙ ap (λ (m : ℕ). i.statements_and old (i.passed place m x.locals.items (map (i.shifted_placed n) arguments))) first_is)
      (k ∙ ap (λ (m : ℕ). i.assigned place m (option_map p.returned_of x.result) (option_map (i.shifted_target n) target)) first_is)
      ∙ ap₂ (λ (m : ℕ) (js : i.Locals). after new (begun_made functions (record { function = g; done = 0; by = m; following = following }) js))
      (sym first_is) (sym locals_are)

  pub call_work : (by : ℕ) → begun_work functions (record { function = g; done = 0; by = by; following = following })
      < v.called_weight v.size 2 (map p.function_of functions) (function_work (map p.function_of functions)) g arguments target
  call_work by =
      let fs : List p.Function = map p.function_of functions in
      let a = fixed_weight fs v.size 2 (length fs) g (p.function_of x) (omega arith)
      (low_all fs sizes sized g (slice_get_within fs g (p.function_of x) mapped)) mapped in
      let b = ap (λ (xs : List Statement). statements_work fs (p.statements_of xs)) (body_is functions g x exists) in
      let c = ap (λ (o : Option p.Function).
      elim o as (λ _. ℕ) [ Some y ↦ 2 + (v.arguments_weight v.size arguments + function_work fs g + v.result_weight v.size y.result target) | None ↦ 2 ])
      mapped in
      omega (arith, a, b, c)
