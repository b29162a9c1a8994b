-- A flat form assigns each local before it reads it, where functions and threads do: arguments are passed before a body, and its result is read after it.
use Rattle.std.proofs.Common.{◌≡◌, ◌⊎◌, refl, sym, ap, subst, ℕ, zero, suc, ◌+◌, ◌<◌, List, [], ◌∷◌, ◌++◌, length, map}
use Rattle.std.proofs.Common.{Bool, true, false, is_some, Option, Some, None, inl, inr, ⊎_elim, arith}
use Rattle.std.specs.Prelude.{Contains, slice_get}
use Rattle.std.specs.List.{AllByRecursion}
use Rattle.std.specs.Option.{option_map}
use Rattle.std.proofs.lemmas.Bool.{cases_lt}
use Rattle.std.proofs.lemmas.List.{length-map}
use Rattle.std.proofs.lemmas.List.Elements.{Contains-append_left, Contains-append_right}
use Rattle.std.proofs.lemmas.Option.{slice_get_within}
use Rattle.ido_base.specs.declared.place.Place.{Place}
use Rattle.ido_ints.specs.declared.kinds.Kind.{Kind}
use Rattle.c_tree.specs.AcceptedTexts.{HasNoBack}
use Rattle.c_tree.specs.Exprs as e
use Rattle.c_tree.specs.Flats as f
use Rattle.c_tree.specs.Inlining as i
use Rattle.c_tree.specs.Inlining.{flat_form}
use Rattle.c_tree.specs.Programs as p
use Rattle.c_tree.specs.WellFormed.{IsFunction, IsProgram, IsStatement, AreStatements, AreArms}
use Rattle.flow_graph.proofs.Public.{all_at}
use Rattle.first_assignments.proofs.FirstReads.{AllReadNone, ResultReadsNone, GivenReadsNone, ResultTakes, TypedAssigns, TypedAssign}
use Rattle.first_assignments.proofs.FirstReads.{TypedReadsLater, TypedReadLater, TypedArmsReadLater, FlatAssign, FlatReadLater, FlatArmsReadLater}
use Rattle.first_assignments.proofs.FirstReads.{flat_first, flat_second, flat_both, own, shifted_none, shifted_all, shifted_target, shifted_result}
use Rattle.first_assignments.proofs.FirstReads.{shifted_key, shifted_takes}
use Rattle.first_assignments.proofs.ReachableFunctions.{LeadsTo, leads_to_all, leads_to_some, leads_to_fewer}
use Rattle.first_assignments.proofs.ScopedReads.{IsFunctionLater, IsThreadLater, ProgramReadsLater}

-- a number below the bound that is told, or none
some_told : (told : ℕ → Bool) (bound : ℕ) → ((k : ℕ) → k < bound → told k ≡ false) ⊎ ((k : ℕ) × (k < bound) × (told k ≡ true))
some_told told zero = inl (λ k l. absurd (omega (arith, l)))
some_told told (suc bound) = ⊎_elim (λ none. here none (told bound) refl) (λ some. inr (some.0, omega (arith, some.1), some.2)) (some_told told bound)
  where
    here : ((k : ℕ) → k < bound → told k ≡ false) → (b : Bool) → told bound ≡ b →
        ((k : ℕ) → k < suc bound → told k ≡ false) ⊎ ((k : ℕ) × (k < suc bound) × (told k ≡ true))
    here none true is = inr (bound, omega arith, is)
    here none false is = inl (λ k l.
        ⊎_elim (λ less. none k less) (λ most. let same : bound ≡ k = omega (arith, l, most) in subst (λ (z : ℕ). told z ≡ false) same is) (cases_lt k bound))

-- ---- Parts of calls

module _ (told : ℕ → Bool) where
  passed_later : (place : Place) (n : ℕ) (ks : List Kind) (xs : List e.Placed) → AllReadNone told xs → FlatReadLater told (i.passed place n ks xs)
  passed_later place n ks [] h = tt
  passed_later place n [] (x ∷ xs) h = ((tt, h.0), inr (passed_later place (n + 1) [] xs h.1))
  passed_later place n (k ∷ ks) (x ∷ xs) h = ((tt, h.0), inr (passed_later place (n + 1) ks xs h.1))

  passed_assign : (place : Place) (n : ℕ) (ks : List Kind) (xs : List e.Placed) (k : ℕ) → k < length xs → told (n + k) ≡ true →
      FlatAssign told (i.passed place n ks xs)
  passed_assign place n ks [] k l is = absurd (omega (arith, l))
  passed_assign place n ks (x ∷ xs) zero l is = inl (let same : n + zero ≡ n = omega arith in subst (λ (z : ℕ). told z ≡ true) same is)
  passed_assign place n [] (x ∷ xs) (suc k) l is =
      let same : n + suc k ≡ n + 1 + k = omega arith in
      inr (passed_assign place (n + 1) [] xs k (omega (arith, l)) (subst (λ (z : ℕ). told z ≡ true) same is))
  passed_assign place n (j ∷ ks) (x ∷ xs) (suc k) l is =
      let same : n + suc k ≡ n + 1 + k = omega arith in
      inr (passed_assign place (n + 1) ks xs k (omega (arith, l)) (subst (λ (z : ℕ). told z ≡ true) same is))

  given_later : (place : Place) (n : ℕ) (given : Option p.Returned) (target : Option e.Lvalue) → GivenReadsNone (own told n) given →
      ResultReadsNone told target → FlatReadLater told (i.assigned place n given target)
  given_later place n None target h k = tt
  given_later place n (Some y) None h k = tt
  given_later place n (Some y) (Some target) h k = ((k, shifted_none told n y.value.expr h), inr tt)

  given_assign : (place : Place) (n by : ℕ) (given : Option p.Returned) (target : Option e.Lvalue) → is_some given ≡ is_some target →
      ResultTakes (own told by) target → FlatAssign told (i.assigned place n given (option_map (i.shifted_target by) target))
  given_assign place n by given None same h = absurd h
  given_assign place n by None (Some target) same h = absurd (let wrong : false ≡ true = same in cc)
  given_assign place n by (Some y) (Some target) same h = inl (shifted_takes told by target h)

-- ---- Statements

module _ (x : p.Program) (prog : IsProgram x) (late : ProgramReadsLater x) (told : ℕ → Bool) where
  abbrev fs : List p.Function
  fs = x.functions

  -- what a function's body becomes, with its locals after these
  record IsBody (bodies : i.Bodies) (function : ℕ) (callee : p.Function) (ks : i.Locals) : Type 0 where
    later : FlatReadLater told (bodies function ks).made
    given : FlatAssign told (bodies function ks).made ⊎ GivenReadsNone (own told (length ks.kinds)) callee.result

  -- where the local is none of the parameters
  abbrev AreBodies : i.Bodies → ℕ → Type 0
  AreBodies bodies function = (callee : p.Function) (ks : i.Locals) → slice_get fs function ≡ Some callee →
      ((k : ℕ) → k < callee.parameters → own told (length ks.kinds) k ≡ false) → IsBody bodies function callee ks

  module _ (bodies : i.Bodies) where
    abbrev Called : List i.Call → Type 0
    Called cs = (c : i.Call) → Contains cs c → AreBodies bodies c.function

    first_called : (cs ds : List i.Call) → Called (cs ++ ds) → Called cs
    first_called cs ds h = λ c k. h c (Contains-append_left cs ds c k)

    second_called : (cs ds : List i.Call) → Called (cs ++ ds) → Called ds
    second_called cs ds h = λ c k. h c (Contains-append_right cs ds c k)

    module _ (n : ℕ) (js : List Kind) where
      abbrev made_call : (ks : i.Locals) (place : Place) (function : ℕ) (arguments : List e.Placed) (result : Option e.Lvalue) → Option p.Function →
          i.Made f.Statements
      made_call ks place function arguments result o = elim o [
        | Some y ↦ i.called fs bodies place n ks y (bodies function ks) arguments result
        | None ↦ record { made = f.no_statement; locals = ks }
      ]

      called_later : (ks : i.Locals) (place : Place) (function : ℕ) (callee : p.Function) (arguments : List e.Placed) (result : Option e.Lvalue) →
          slice_get fs function ≡ Some callee → length arguments ≡ callee.parameters → AreBodies bodies function →
          AllReadNone (own told n) arguments → ResultReadsNone (own told n) result →
          FlatReadLater told (i.called fs bodies place n ks callee (bodies function ks) arguments result).made
      called_later ks place function callee arguments result found count body a r =
          let by = length ks.kinds in
          let given = i.shifted_placed n in
          let passed = i.passed place by callee.locals (map given arguments) in
          let inner = (bodies function ks).made in
          let last = i.assigned place by callee.result (option_map (i.shifted_target n) result) in
          flat_both told passed (i.statements_and inner last) (passed_later told place by callee.locals (map given arguments) (shifted_all told n arguments a))
          (⊎_elim
          (λ none.
          let b = body callee ks found none in
          inr (flat_both told inner last b.later
          (⊎_elim (λ assigns. inl assigns) (λ g. inr (given_later told place by callee.result (option_map (i.shifted_target n) result) g
          (shifted_result told n result r))) b.given)))
          (λ some. inl (passed_assign told place by callee.locals (map given arguments) some.0 (omega (arith, some.1, count, length-map arguments given))
          some.2))
          (some_told (own told by) callee.parameters))

      called_assigns : (ks : i.Locals) (place : Place) (function : ℕ) (callee : p.Function) (arguments : List e.Placed) (result : Option e.Lvalue) →
          is_some callee.result ≡ is_some result → ResultTakes (own told n) result →
          FlatAssign told (i.called fs bodies place n ks callee (bodies function ks) arguments result).made
      called_assigns ks place function callee arguments result gives h =
          let by = length ks.kinds in
          let last = i.assigned place by callee.result (option_map (i.shifted_target n) result) in
          flat_second told (i.passed place by callee.locals (map (i.shifted_placed n) arguments)) (i.statements_and (bodies function ks).made last)
          (flat_second told (bodies function ks).made last (given_assign told place by n callee.result result gives h))

      statement_assigns : (ks : i.Locals) (y : p.Statement) → IsStatement x js y → TypedAssigns (own told n) y →
          FlatAssign told (i.statement fs bodies n ks y).made
      statement_assigns ks (p.Assign place target value) h a = inl (shifted_takes told n target a)
      statement_assigns ks (p.Call place name function arguments result) h a =
          subst (λ (o : Option p.Function). FlatAssign told (made_call ks place function arguments result o).made) (sym h.0.found)
          (called_assigns ks place function h.0.it arguments result h.0.gives a)
      statement_assigns ks (p.If place arms otherwise) h a = absurd a
      statement_assigns ks (p.While place condition body) h a = absurd a
      statement_assigns ks (p.Do place body condition) h a = absurd a
      statement_assigns ks (p.Lock place lock) h a = absurd a
      statement_assigns ks (p.Unlock place lock) h a = absurd a

      statements_assign : (ks : i.Locals) (ys : p.Statements) → AreStatements x js ys → TypedAssign (own told n) ys →
          FlatAssign told (i.statements fs bodies n ks ys).made
      statements_assign ks p.no_statement h a = absurd a
      statements_assign ks (p.statement_and y rest) h a =
          let m = i.statement fs bodies n ks y in
          let r = i.statements fs bodies n m.locals rest in
          ⊎_elim (λ here. flat_first told m.made r.made (statement_assigns ks y h.0 here))
          (λ there. flat_second told m.made r.made (statements_assign m.locals rest h.1 there)) a

      mutual
        statement_later : (ks : i.Locals) (y : p.Statement) → IsStatement x js y → TypedReadsLater (own told n) y → Called (i.statement_calls y) →
            FlatReadLater told (i.statement fs bodies n ks y).made
        statement_later ks (p.Assign place target value) h r c = ((shifted_target told n target r.0, shifted_none told n value.expr r.1), inr tt)
        statement_later ks (p.Call place name function arguments result) h r c =
            subst (λ (o : Option p.Function). FlatReadLater told (made_call ks place function arguments result o).made) (sym h.0.found)
            (called_later ks place function h.0.it arguments result h.0.found h.0.count
            (c (record { place = name; function = function }) (0, omega arith, refl)) r.0 r.1)
        statement_later ks (p.If place arms otherwise) h r c =
            let mid = (i.arms_of fs bodies n ks arms).locals in (
              (
                arms_later ks arms h.1 r.0 (first_called (i.arms_calls arms) (i.statements_calls otherwise) c),
                statements_later mid otherwise h.2 r.1 (second_called (i.arms_calls arms) (i.statements_calls otherwise) c),
              ),
              inr tt,
            )
        statement_later ks (p.While place condition body) h r c =
            ((shifted_none told n condition.expr r.0, statements_later ks body h.1 r.1 c), inr tt)
        statement_later ks (p.Do place body condition) h r c =
            ((statements_later ks body h.0 r.0 c, shifted_none told n condition.expr r.1), inr tt)
        statement_later ks (p.Lock place lock) h r c = (shifted_key told n lock.key r, inr tt)
        statement_later ks (p.Unlock place lock) h r c = (shifted_key told n lock.key r, inr tt)

        statements_later : (ks : i.Locals) (ys : p.Statements) → AreStatements x js ys → TypedReadLater (own told n) ys → Called (i.statements_calls ys) →
            FlatReadLater told (i.statements fs bodies n ks ys).made
        statements_later ks p.no_statement h r c = tt
        statements_later ks (p.statement_and y rest) h r c =
            let m = i.statement fs bodies n ks y in
            let more = i.statements fs bodies n m.locals rest in
            flat_both told m.made more.made
            (statement_later ks y h.0 r.0 (first_called (i.statement_calls y) (i.statements_calls rest) c))
            (⊎_elim (λ a. inl (statement_assigns ks y h.0 a))
            (λ k. inr (statements_later m.locals rest h.1 k (second_called (i.statement_calls y) (i.statements_calls rest) c))) r.1)

        arms_later : (ks : i.Locals) (ys : p.Arms) → AreArms x js ys → TypedArmsReadLater (own told n) ys → Called (i.arms_calls ys) →
            FlatArmsReadLater told (i.arms_of fs bodies n ks ys).made
        arms_later ks p.no_arm h r c = tt
        arms_later ks (p.arm_and condition body rest) h r c =
            let m = i.statements fs bodies n ks body in (
              shifted_none told n condition.expr r.0,
              statements_later ks body h.1 r.1 (first_called (i.statements_calls body) (i.arms_calls rest) c),
              arms_later m.locals rest h.2 r.2 (second_called (i.statements_calls body) (i.arms_calls rest) c),
            )

  -- ---- Bodies

  calls_of_some : (function : ℕ) (y : p.Function) → slice_get fs function ≡ Some y → i.calls_in fs function ≡ i.statements_calls y.body
  calls_of_some function y found = ap (λ (o : Option p.Function). elim o as (λ _. List i.Call) [ Some z ↦ i.statements_calls z.body | None ↦ [] ]) found

  abbrev body_by : (ks : i.Locals) → i.Bodies → Option p.Function → i.Made f.Statements
  body_by ks bodies o = elim o [
    | Some y ↦ i.statements fs bodies (length ks.kinds) (i.joined ks (i.locals y.locals y.refers)) y.body
    | None ↦ record { made = f.no_statement; locals = ks }
  ]

  module _ (none : HasNoBack x) where
    bodies_later : (deep function : ℕ) → LeadsTo fs deep function → AreBodies (i.bodies_of fs deep) function
    bodies_later zero function lead = λ callee ks found others. absurd (leads_to_some fs function (slice_get_within fs function callee found) lead)
    bodies_later (suc deep) function lead = λ callee ks found others.
        let by = length ks.kinds in
        let bodies = i.bodies_of fs deep in
        let formed = all_at (IsFunction x) fs function callee prog.functions found in
        let reads = all_at IsFunctionLater fs function callee late.functions found (own told by) others in
        let deeper : Called bodies (i.statements_calls callee.body) = λ c k. bodies_later deep c.function
        (leads_to_fewer fs none deep function (slice_get_within fs function callee found) lead c
        (subst (λ (cs : List i.Call). Contains cs c) (sym (calls_of_some function callee found)) k)) in
        let js = i.joined ks (i.locals callee.locals callee.refers) in
        let made = i.statements fs bodies by js callee.body in
        let is : made ≡ i.bodies_of fs (suc deep) function ks = ap (body_by ks bodies) (sym found) in
        record {
          later = subst (λ (w : i.Made f.Statements). FlatReadLater told w.made) is
              (statements_later bodies by callee.locals js callee.body formed.body reads.body deeper);
          given = ⊎_elim
              (λ a. inl (subst (λ (w : i.Made f.Statements). FlatAssign told w.made) is
              (statements_assign bodies by callee.locals js callee.body formed.body a)))
              (λ g. inr g) reads.given;
        }

    -- ---- Threads

    thread_later : (t : p.Thread) → AreStatements x t.locals t.body → IsThreadLater t → FlatReadLater told (i.flat_thread fs t).body
    thread_later t formed later =
        statements_later (i.bodies_of fs (length fs)) 0 t.locals (i.locals t.locals t.refers) t.body formed (later (own told 0))
        (λ c k. bodies_later (length fs) c.function (leads_to_all fs c.function))

    threads_later : (ts : List p.Thread) → AllByRecursion (λ (t : p.Thread). AreStatements x t.locals t.body) ts → AllByRecursion IsThreadLater ts →
        AllByRecursion (λ (t : f.Thread). FlatReadLater told t.body) (map (i.flat_thread fs) ts)
    threads_later [] h k = tt
    threads_later (t ∷ ts) h k = (thread_later t h.0 k.0, threads_later ts h.1 k.1)

pub flat_later : (x : p.Program) → IsProgram x → ProgramReadsLater x → HasNoBack x → (told : ℕ → Bool) →
    AllByRecursion (λ (t : f.Thread). FlatReadLater told t.body) (flat_form x).threads
unfolding flat_form
flat_later x prog late none told = threads_later x prog late told none x.threads prog.threads late.threads
