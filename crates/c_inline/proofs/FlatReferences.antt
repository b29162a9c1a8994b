-- The flat form of a program whose references are to their arrays: so are those of the flat form, and where nothing refers nothing does in it.
use Rattle.std.proofs.Common.{◌≡◌, refl, sym, ◌∙◌, ap, subst, ℕ, zero, suc, ◌+◌, ◌<◌, ◌≤◌, List, [], ◌∷◌, ◌++◌, length, map, Option, Some, None, arith}
use Rattle.std.specs.Prelude.{Contains, slice_get, slice_index_or}
use Rattle.std.specs.List.{AllByRecursion, AllZip}
use Rattle.std.specs.Option.{option_map}
use Rattle.std.proofs.lemmas.List.{length-map}
use Rattle.std.proofs.lemmas.List.Elements.{Contains-append_left, Contains-append_right}
use Rattle.std.proofs.lemmas.Option.{none-some, same_Some, slice_get_within}
use Rattle.ido_base.specs.declared.place.Place.{Place}
use Rattle.ido_ints.specs.declared.kinds.Kind.{Kind}
use Rattle.c_tree.specs.AcceptedTexts.{HasNoBack}
use Rattle.c_tree.specs.Exprs as e
use Rattle.c_tree.specs.Programs as p
use Rattle.c_tree.specs.Flats as f
use Rattle.c_tree.specs.Inlining as i
use Rattle.c_tree.specs.Inlining.{shifted, shifted_placed, shifted_target}
use Rattle.c_tree.specs.NullReferences.{program_nulls}
use Rattle.c_tree.specs.References.{Follows, PlacedFollows, TargetFollows, RefersTo, target_refers, IsGiven, AreGiven, RefersRight}
use Rattle.c_tree.specs.References.{IsLocalReferring, IsResultGiven, IsCallReferring}
use Rattle.c_tree.specs.References.{IsStatementReferring, AreStatementsReferring, AreArmsReferring, IsReturnedReferring, IsFunctionReferring, IsThreadReferring}
use Rattle.c_tree.specs.References.{AreFlatStatementsReferring, AreFlatArmsReferring, IsFlatThreadReferring, IsFlatReferring}
use Rattle.c_tree.specs.WellFormed.{IsTarget, IsResult, IsStatement, AreStatements, AreArms, IsFunction, IsProgram}
use Rattle.c_inline.specs.links.KnownWeights.{Low}
use Rattle.c_inline.proofs.CallCongruence.{alone}
use Rattle.c_inline.proofs.CallDepth.{low_all}
use Rattle.c_inline.proofs.CallLocals.{Grown, grown_arms, grown_bodies, grown_statement, grown_statements}
use Rattle.c_inline.proofs.FlatNulls.{thread_silent}
use Rattle.c_inline.proofs.LocalsFrom.{At, Into, all_at, at_append, at_into, at_self, into_append, into_both, into_self}
use Rattle.c_inline.proofs.WeightsByDepth.{calls_of_some}

-- ---- Lists

all_both : {A : Type 0} (P : A → Type 0) (xs ys : List A) → AllByRecursion P xs → AllByRecursion P ys → AllByRecursion P (xs ++ ys)
all_both P [] ys h k = k
all_both P (x ∷ xs) ys h k = (h.0, all_both P xs ys h.1 k)

locals_both : (ks js : List Kind) (rs ss : List (Option ℕ)) → AllZip IsLocalReferring ks rs → AllZip IsLocalReferring js ss →
    AllZip IsLocalReferring (ks ++ js) (rs ++ ss)
locals_both [] js [] ss h k = k
locals_both [] js (r ∷ rs) ss h k = absurd h
locals_both (kind ∷ ks) js [] ss h k = absurd h
locals_both (kind ∷ ks) js (r ∷ rs) ss h k = (h.0, locals_both ks js rs ss h.1 k)

locals_long : (ks : List Kind) (rs : List (Option ℕ)) → AllZip IsLocalReferring ks rs → length rs ≡ length ks
locals_long [] [] h = refl
locals_long [] (r ∷ rs) h = absurd h
locals_long (k ∷ ks) [] h = absurd h
locals_long (k ∷ ks) (r ∷ rs) h = ap suc (locals_long ks rs h.1)

-- what a local of a kind refers to
refers_there : (ks : List Kind) (rs : List (Option ℕ)) (local : ℕ) (kind : Kind) → AllZip IsLocalReferring ks rs → slice_get ks local ≡ Some kind →
    (r : Option ℕ) × (slice_get rs local ≡ Some r)
refers_there [] rs local kind h e = absurd (none-some kind e)
refers_there (k ∷ ks) [] local kind h e = absurd h
refers_there (k ∷ ks) (r ∷ rs) zero kind h e = (r, refl)
refers_there (k ∷ ks) (r ∷ rs) (suc local) kind h e = refers_there ks rs local kind h.1 e

index_of : (rs : List (Option ℕ)) (local : ℕ) (r : Option ℕ) → slice_get rs local ≡ Some r → slice_index_or rs local None ≡ r
index_of [] local r e = absurd (none-some r e)
index_of (s ∷ rs) zero r e = same_Some s r e
index_of (s ∷ rs) (suc local) r e = index_of rs local r e

found_of : (rs : List (Option ℕ)) (local array : ℕ) → slice_index_or rs local None ≡ Some array → slice_get rs local ≡ Some (Some array)
found_of [] local array e = absurd (none-some array e)
found_of (s ∷ rs) zero array e = ap (λ (o : Option ℕ). Some o) e
found_of (s ∷ rs) (suc local) array e = found_of rs local array e

-- ---- Expressions renumbered

module _ (vs : List p.Variable) (n : ℕ) (rs ss : List (Option ℕ)) (at : At n rs ss) where
  pub follows_shifted : (x : e.Expr) → Follows vs rs x → Follows vs ss (shifted n x)
  follows_shifted (e.Constant value) h = tt
  follows_shifted (e.Local local kind) h = tt
  follows_shifted (e.Variable place variable kind) h = tt
  follows_shifted (e.Element place variable kind index_place index) h = follows_shifted index h
  follows_shifted (e.Address variable index_place index) h = follows_shifted index h
  follows_shifted (e.Referent place last local) h =
      record { variable = h.variable; refers = at local (Some h.variable) h.refers; length = h.length }
  follows_shifted (e.Unary operator operand) h = follows_shifted operand h
  follows_shifted (e.Cast kind operand) h = follows_shifted operand h
  follows_shifted (e.Converted kind operand) h = follows_shifted operand h
  follows_shifted (e.Binary operator left right) h = (follows_shifted left h.0, follows_shifted right h.1)
  follows_shifted (e.Conditional kind condition chosen otherwise) h =
      (follows_shifted condition h.0, follows_shifted chosen h.1, follows_shifted otherwise h.2)

  target_follows_shifted : (x : e.Lvalue) → TargetFollows vs rs x → TargetFollows vs ss (shifted_target n x)
  target_follows_shifted (e.ToLocal place local kind) h = tt
  target_follows_shifted (e.ToVariable place variable kind) h = tt
  target_follows_shifted (e.ToElement place variable kind index) h = follows_shifted index.expr h

  all_follow : (xs : List e.Placed) → AllByRecursion (PlacedFollows vs rs) xs → AllByRecursion (PlacedFollows vs ss) (map (shifted_placed n) xs)
  all_follow [] h = tt
  all_follow (x ∷ xs) h = (follows_shifted x.expr h.0, all_follow xs h.1)

  refers_shifted : (array : ℕ) (x : e.Expr) → RefersTo vs rs array x → RefersTo vs ss array (shifted n x)
  refers_shifted array (e.Constant value) h = h
  refers_shifted array (e.Local local kind) h = index_of ss (n + local) (Some array) (at local (Some array) (found_of rs local array h))
  refers_shifted array (e.Variable place variable kind) h = h
  refers_shifted array (e.Element place variable kind index_place index) h = h
  refers_shifted array (e.Address variable index_place index) h = h
  refers_shifted array (e.Referent place last local) h = absurd h
  refers_shifted array (e.Unary operator operand) h = absurd h
  refers_shifted array (e.Cast kind operand) h = absurd h
  refers_shifted array (e.Converted kind operand) h = (h.0, refers_shifted array operand h.1)
  refers_shifted array (e.Binary operator left right) h = absurd h
  refers_shifted array (e.Conditional kind condition chosen otherwise) h = absurd h

  given_shifted : (r : Option ℕ) (x : e.Expr) → IsGiven vs rs r x → IsGiven vs ss r (shifted n x)
  given_shifted None x h = tt
  given_shifted (Some array) x h = refers_shifted array x h

  all_given : (os : List (Option ℕ)) (xs : List e.Placed) → AreGiven vs rs os xs → AreGiven vs ss os (map (shifted_placed n) xs)
  all_given [] xs h = tt
  all_given (o ∷ os) [] h = tt
  all_given (o ∷ os) (x ∷ xs) h = (given_shifted o x.expr h.0, all_given os xs h.1)

  -- a target refers as it did
  target_same : (ks : List Kind) → AllZip IsLocalReferring ks rs → (x : e.Lvalue) → IsTarget vs ks x →
      target_refers vs ss (shifted_target n x) ≡ target_refers vs rs x
  target_same ks zip (e.ToLocal place local kind) w =
      let own = refers_there ks rs local kind zip w in
      index_of ss (n + local) own.0 (at local own.0 own.1) ∙ sym (index_of rs local own.0 own.1)
  target_same ks zip (e.ToVariable place variable kind) w = refl
  target_same ks zip (e.ToElement place variable kind index) w = refl

-- ---- What is said of all that locals refer to

module _ (P : Option ℕ → Type 0) where
  -- each local that refers is an `unsigned long`, and what they refer to is so
  pub record AreGood (ls : i.Locals) : Type 0 where
    pub zip : AllZip IsLocalReferring ls.kinds ls.refers
    pub all : AllByRecursion P ls.refers

  good_both : (ks js : i.Locals) → AreGood ks → AreGood js → AreGood (i.joined ks js)
  good_both ks js h k =
      record { zip = locals_both ks.kinds js.kinds ks.refers js.refers h.zip k.zip; all = all_both P ks.refers js.refers h.all k.all }

  good_after : (made : f.Statements) (before after : i.Locals) → AreGood before → AreGood after → AreGood (i.locals_after made before after)
  good_after f.no_statement before after h k = h
  good_after (f.statement_and y made) before after h k = k

  module _ (fs : List p.Function) (own : (k : ℕ) (g : p.Function) → slice_get fs k ≡ Some g → AreGood (i.locals g.locals g.refers)) where
    module _ (bodies : i.Bodies) (inner : (function : ℕ) (ks : i.Locals) → AreGood ks → AreGood (bodies function ks).locals) (n : ℕ) where
      abbrev called_by : i.Locals → Place → (function : ℕ) → List e.Placed → Option e.Lvalue → Option p.Function → i.Made f.Statements
      called_by ks place function arguments result o = elim o [
        | Some g ↦ i.called fs bodies place n ks g (bodies function ks) arguments result
        | None ↦ record { made = f.no_statement; locals = ks }
      ]

      call_good : (ks : i.Locals) (place : Place) (function : ℕ) (arguments : List e.Placed) (result : Option e.Lvalue) (o : Option p.Function) → AreGood ks →
          AreGood (called_by ks place function arguments result o).locals
      call_good ks place function arguments result None h = h
      call_good ks place function arguments result (Some g) h =
          good_after (i.called fs bodies place n ks g (bodies function ks) arguments result).made ks (bodies function ks).locals h (inner function ks h)

      mutual
        statement_good : (ks : i.Locals) (y : p.Statement) → AreGood ks → AreGood (i.statement fs bodies n ks y).locals
        statement_good ks (p.Assign place target value) h = h
        statement_good ks (p.Call place name function arguments result) h = call_good ks place function arguments result (slice_get fs function) h
        statement_good ks (p.If place arms otherwise) h = statements_good (i.arms_of fs bodies n ks arms).locals otherwise (arms_good ks arms h)
        statement_good ks (p.While place condition body) h = statements_good ks body h
        statement_good ks (p.Do place body condition) h = statements_good ks body h
        statement_good ks (p.Lock place lock) h = h
        statement_good ks (p.Unlock place lock) h = h

        statements_good : (ks : i.Locals) (ys : p.Statements) → AreGood ks → AreGood (i.statements fs bodies n ks ys).locals
        statements_good ks p.no_statement h = h
        statements_good ks (p.statement_and y rest) h = statements_good (i.statement fs bodies n ks y).locals rest (statement_good ks y h)

        arms_good : (ks : i.Locals) (ys : p.Arms) → AreGood ks → AreGood (i.arms_of fs bodies n ks ys).locals
        arms_good ks p.no_arm h = h
        arms_good ks (p.arm_and condition body rest) h = arms_good (i.statements fs bodies n ks body).locals rest (statements_good ks body h)

    abbrev body_by : i.Bodies → i.Locals → Option p.Function → i.Made f.Statements
    body_by bodies ks o = elim o [
      | Some g ↦ i.statements fs bodies (length ks.kinds) (i.joined ks (i.locals g.locals g.refers)) g.body
      | None ↦ record { made = f.no_statement; locals = ks }
    ]

    body_good : (bodies : i.Bodies) → ((function : ℕ) (ks : i.Locals) → AreGood ks → AreGood (bodies function ks).locals) → (function : ℕ) (ks : i.Locals)
        (o : Option p.Function) → slice_get fs function ≡ o → AreGood ks → AreGood (body_by bodies ks o).locals
    body_good bodies inner function ks None found h = h
    body_good bodies inner function ks (Some g) found h =
        let mine = i.locals g.locals g.refers in
        statements_good bodies inner (length ks.kinds) (i.joined ks mine) g.body (good_both ks mine h (own function g found))

    bodies_good : (deep function : ℕ) (ks : i.Locals) → AreGood ks → AreGood (i.bodies_of fs deep function ks).locals
    bodies_good zero function ks h = h
    bodies_good (suc deep) function ks h = body_good (i.bodies_of fs deep) (bodies_good deep) function ks (slice_get fs function) refl h

    thread_good : (t : p.Thread) → AreGood (i.locals t.locals t.refers) → AreGood (i.locals (i.flat_thread fs t).locals (i.flat_thread fs t).refers)
    thread_good t h = statements_good (i.bodies_of fs (length fs)) (bodies_good (length fs)) 0 (i.locals t.locals t.refers) t.body h

-- what grows keeps what its locals refer to
grown_into : (ks js : i.Locals) → Grown ks js → Into ks.refers js.refers
grown_into ks js g = subst (λ (ls : i.Locals). Into ks.refers ls.refers) (sym g.1) (into_append ks.refers g.0.refers)

-- ---- The whole program

module _ (x : p.Program) (prog : IsProgram x) where
  abbrev fs : List p.Function
  fs = x.functions

  abbrev vs : List p.Variable
  vs = x.variables

  -- a form with the program's mutexes and variables
  abbrev z : f.Flat
  z = record { mutexes = x.mutexes; variables = x.variables; threads = [] }

  abbrev Good : i.Locals → Type 0
  Good ks = AreGood (RefersRight vs) ks

  refers_of : (k : ℕ) (g : p.Function) → slice_get fs k ≡ Some g → IsFunctionReferring x g
  refers_of k g found = all_at (IsFunctionReferring x) fs k g prog.referring.functions found

  own_good : (k : ℕ) (g : p.Function) → slice_get fs k ≡ Some g → Good (i.locals g.locals g.refers)
  own_good k g found = let own = refers_of k g found in record { zip = own.locals; all = own.refer }

  both_referring : (final : List (Option ℕ)) (xs ys : f.Statements) → AreFlatStatementsReferring z final xs → AreFlatStatementsReferring z final ys →
      AreFlatStatementsReferring z final (i.statements_and xs ys)
  both_referring final f.no_statement ys h k = k
  both_referring final (f.statement_and y xs) ys h k = (h.0, both_referring final xs ys h.1 k)

  -- what is made refers right wherever its locals stand
  abbrev Right : i.Made f.Statements → Type 0
  Right m = (final : List (Option ℕ)) → Into m.locals.refers final → AreFlatStatementsReferring z final m.made

  -- ---- Parameters, results

  passed_referring : (place : Place) (m : ℕ) (js : List Kind) (own final : List (Option ℕ)) (ys : List e.Placed) → At m own final →
      length ys ≤ length own → AllByRecursion (PlacedFollows vs final) ys → AreGiven vs final own ys →
      AreFlatStatementsReferring z final (i.passed place m js ys)
  passed_referring place m js own final [] at long h g = tt
  passed_referring place m js [] final (y ∷ ys) at long h g = absurd (omega (arith, long))
  passed_referring place m [] (r ∷ own) final (y ∷ ys) at long h g =
      let is = index_of final m r (subst (λ (k : ℕ). slice_get final k ≡ Some r) (omega arith) (at 0 r refl)) in (
        (tt, h.0, subst (λ (o : Option ℕ). IsGiven vs final o y.expr) (sym is) g.0),
        passed_referring place (m + 1) [] own final ys
            (λ k q e. subst (λ (l : ℕ). slice_get final l ≡ Some q) (omega arith) (at (suc k) q e)) (omega (arith, long)) h.1 g.1,
      )
  passed_referring place m (j ∷ js) (r ∷ own) final (y ∷ ys) at long h g =
      let is = index_of final m r (subst (λ (k : ℕ). slice_get final k ≡ Some r) (omega arith) (at 0 r refl)) in (
        (tt, h.0, subst (λ (o : Option ℕ). IsGiven vs final o y.expr) (sym is) g.0),
        passed_referring place (m + 1) js own final ys
            (λ k q e. subst (λ (l : ℕ). slice_get final l ≡ Some q) (omega arith) (at (suc k) q e)) (omega (arith, long)) h.1 g.1,
      )

  -- a target takes what a function gives
  record Takes (rs own final : List (Option ℕ)) (o : Option p.Returned) (w : e.Lvalue) : Type 0 where
    follows : TargetFollows vs final w
    given : IsResultGiven x rs own o (target_refers vs final w)

  assigned_referring : (place : Place) (m : ℕ) (rs own final : List (Option ℕ)) (o : Option p.Returned) (target : Option e.Lvalue) → At m own final →
      IsReturnedReferring x own o → ((w : e.Lvalue) → target ≡ Some w → Takes rs own final o w) →
      AreFlatStatementsReferring z final (i.assigned place m o target)
  assigned_referring place m rs own final None target at h t = tt
  assigned_referring place m rs own final (Some y) None at h t = tt
  assigned_referring place m rs own final (Some y) (Some w) at h t =
      let takes = t w refl in (
        (
          takes.follows,
          follows_shifted vs m own final at y.value.expr h,
          given_shifted vs m own final at (target_refers vs final w) (e.Converted y.kind y.value.expr) takes.given,
        ),
        tt,
      )

  good_call : (made : f.Statements) (ks after : i.Locals) →
      ((final : List (Option ℕ)) → Into after.refers final → AreFlatStatementsReferring z final made) →
      Right (record { made = made; locals = i.locals_after made ks after })
  good_call f.no_statement ks after h final into = tt
  good_call (f.statement_and y rest) ks after h final into = h final into

  -- ---- Statements

  -- what a function's body becomes, with its locals after these
  record IsBody (bodies : i.Bodies) (function : ℕ) (callee : p.Function) (ks : i.Locals) : Type 0 where
    right : Right (bodies function ks)
    grown : Into ks.refers (bodies function ks).locals.refers
    locals : At (length ks.kinds) callee.refers (bodies function ks).locals.refers

  abbrev AreBodies : i.Bodies → ℕ → Type 0
  AreBodies bodies function = (callee : p.Function) (ks : i.Locals) → Good ks → slice_get fs function ≡ Some callee → IsBody bodies function callee ks

  module _ (bodies : i.Bodies) (grow : (function : ℕ) (ks : i.Locals) → Grown ks (bodies function ks).locals)
      (inner : (function : ℕ) (ks : i.Locals) → Good ks → Good (bodies function ks).locals) where
    abbrev Called : List i.Call → Type 0
    Called cs = (c : i.Call) → Contains cs c → c.function < length fs → AreBodies bodies c.function

    first_called : (cs ds : List i.Call) → Called (cs ++ ds) → Called cs
    first_called cs ds h = λ c k. h c (Contains-append_left cs ds c k)

    second_called : (cs ds : List i.Call) → Called (cs ++ ds) → Called ds
    second_called cs ds h = λ c k. h c (Contains-append_right cs ds c k)

    module _ (n : ℕ) (js : List Kind) (rs : List (Option ℕ)) (zip : AllZip IsLocalReferring js rs) where
      abbrev made_call : (ks : i.Locals) (place : Place) (function : ℕ) (arguments : List e.Placed) (result : Option e.Lvalue) → Option p.Function →
          i.Made f.Statements
      made_call ks place function arguments result o = elim o [
        | Some g ↦ i.called fs bodies place n ks g (bodies function ks) arguments result
        | None ↦ record { made = f.no_statement; locals = ks }
      ]

      -- what the callee's parameters and the target get is for what refers so
      record CallRight (g : p.Function) (arguments : List e.Placed) (result : Option e.Lvalue) : Type 0 where
        given : AreGiven vs rs g.refers arguments
        back : (w : e.Lvalue) → result ≡ Some w → TargetFollows vs rs w × IsResultGiven x rs g.refers g.result (target_refers vs rs w)

      abbrev call_by : List e.Placed → Option e.Lvalue → Option p.Function → Type 0
      call_by arguments result o = elim o [
        | None ↦ Unit {0}
        | Some g ↦ AreGiven x.variables rs g.refers arguments × elim result [
          | None ↦ Unit {0}
          | Some target ↦ TargetFollows x.variables rs target × IsResultGiven x rs g.refers g.result (target_refers x.variables rs target)
        ]
      ]

      right_by : (g : p.Function) (arguments : List e.Placed) (result : Option e.Lvalue) → call_by arguments result (Some g) → CallRight g arguments result
      right_by g arguments None k = record { given = k.0; back = λ w is. absurd (none-some w is) }
      right_by g arguments (Some target) k = record {
        given = k.0;
        back = λ w is.
            subst (λ (t : e.Lvalue). TargetFollows vs rs t × IsResultGiven x rs g.refers g.result (target_refers vs rs t)) (same_Some target w is) k.1;
      }

      call_right : (function : ℕ) (g : p.Function) (arguments : List e.Placed) (result : Option e.Lvalue) → slice_get fs function ≡ Some g →
          IsCallReferring x rs function arguments result → CallRight g arguments result
      call_right function g arguments result found h = right_by g arguments result (subst (call_by arguments result) found h)

      takes_by : (g : p.Function) (arguments : List e.Placed) (final : List (Option ℕ)) → At n rs final → (result : Option e.Lvalue) →
          CallRight g arguments result → IsResult x js result → (w : e.Lvalue) → option_map (shifted_target n) result ≡ Some w →
          Takes rs g.refers final g.result w
      takes_by g arguments final at None right t w is = absurd (none-some w is)
      takes_by g arguments final at (Some target) right t w is =
          let own = right.back target refl in
          subst (λ (u : e.Lvalue). Takes rs g.refers final g.result u) (same_Some (shifted_target n target) w is) (record {
            follows = target_follows_shifted vs n rs final at target own.0;
            given = subst (IsResultGiven x rs g.refers g.result) (sym (target_same vs n rs final at js zip target t)) own.1;
          })

      called_referring : (ks : i.Locals) (place : Place) (function : ℕ) (g : p.Function) (arguments : List e.Placed) (result : Option e.Lvalue) →
          At n rs ks.refers → slice_get fs function ≡ Some g → length arguments ≡ g.parameters → IsBody bodies function g ks →
          AllByRecursion (PlacedFollows vs rs) arguments → CallRight g arguments result → IsResult x js result →
          Right (i.called fs bodies place n ks g (bodies function ks) arguments result)
      called_referring ks place function g arguments result at found count body a right t =
          let b = bodies function ks in
          let own = all_at (IsFunction x) fs function g prog.functions found in
          let refers = refers_of function g found in
          good_call _ ks b.locals
          (λ final into.
          let seen = at_into n rs ks.refers final at (into_both ks.refers b.locals.refers final body.grown into) in
          let fresh = at_into (length ks.kinds) g.refers b.locals.refers final body.locals into in
          let passed = passed_referring place (length ks.kinds) g.locals g.refers final (map (shifted_placed n) arguments) fresh
          (omega (arith, length-map arguments (shifted_placed n), own.parameters, count, locals_long g.locals g.refers refers.locals))
          (all_follow vs n rs final seen arguments a) (all_given vs n rs final seen g.refers arguments right.given) in
          let given = assigned_referring place (length ks.kinds) rs g.refers final g.result (option_map (shifted_target n) result) fresh refers.result
          (takes_by g arguments final seen result right t) in
          both_referring final (i.passed place (length ks.kinds) g.locals (map (shifted_placed n) arguments)) _ passed
          (both_referring final b.made _ (body.right final into) given))

      mutual
        statement_referring : (ks : i.Locals) (y : p.Statement) → Good ks → At n rs ks.refers → IsStatement x js y → IsStatementReferring x rs y →
            Called (i.statement_calls y) → Right (i.statement fs bodies n ks y)
        statement_referring ks (p.Assign place target value) good at w h c final into =
            let seen = at_into n rs ks.refers final at into in (
              (
                target_follows_shifted vs n rs final seen target h.0,
                follows_shifted vs n rs final seen value.expr h.1,
                subst (λ (o : Option ℕ). IsGiven vs final o (shifted n value.expr)) (sym (target_same vs n rs final seen js zip target w.0))
                    (given_shifted vs n rs final seen (target_refers vs rs target) value.expr h.2),
              ),
              tt,
            )
        statement_referring ks (p.Call place name function arguments result) good at w h c final into =
            let g = w.0.it in
            let body = c (record { place = name; function = function }) (alone _) (slice_get_within fs function g w.0.found) g ks good w.0.found in
            let made = called_referring ks place function g arguments result at w.0.found w.0.count body h.0
            (call_right function g arguments result w.0.found h.1) w.2 in
            let whole : Right (made_call ks place function arguments result (slice_get fs function)) =
            subst (λ (o : Option p.Function). Right (made_call ks place function arguments result o)) (sym w.0.found) made in
            whole final into
        statement_referring ks (p.If place arms otherwise) good at w h c final into =
            let mid = (i.arms_of fs bodies n ks arms).locals in
            let end = (i.statements fs bodies n mid otherwise).locals in
            let middle = arms_good (RefersRight vs) fs own_good bodies inner n ks arms good in
            let on = grown_into mid end (grown_statements fs bodies grow n mid otherwise) in
            let there = at_into n rs ks.refers mid.refers at (grown_into ks mid (grown_arms fs bodies grow n ks arms)) in
            let a = arms_referring ks arms good at w.1 h.0 (first_called (i.arms_calls arms) (i.statements_calls otherwise) c) final
            (into_both mid.refers end.refers final on into) in
            let o = statements_referring mid otherwise middle there w.2 h.1 (second_called (i.arms_calls arms) (i.statements_calls otherwise) c) final into in
            ((a, o), tt)
        statement_referring ks (p.While place condition body) good at w h c final into =
            let ms = (i.statements fs bodies n ks body).locals in
            let seen = at_into n rs ks.refers final at
            (into_both ks.refers ms.refers final (grown_into ks ms (grown_statements fs bodies grow n ks body)) into) in
            ((follows_shifted vs n rs final seen condition.expr h.0, statements_referring ks body good at w.1 h.1 c final into), tt)
        statement_referring ks (p.Do place body condition) good at w h c final into =
            let ms = (i.statements fs bodies n ks body).locals in
            let seen = at_into n rs ks.refers final at
            (into_both ks.refers ms.refers final (grown_into ks ms (grown_statements fs bodies grow n ks body)) into) in
            ((statements_referring ks body good at w.0 h.0 c final into, follows_shifted vs n rs final seen condition.expr h.1), tt)
        statement_referring ks (p.Lock place lock) good at w h c final into = (tt, tt)
        statement_referring ks (p.Unlock place lock) good at w h c final into = (tt, tt)

        statements_referring : (ks : i.Locals) (ys : p.Statements) → Good ks → At n rs ks.refers → AreStatements x js ys → AreStatementsReferring x rs ys →
            Called (i.statements_calls ys) → Right (i.statements fs bodies n ks ys)
        statements_referring ks p.no_statement good at w h c final into = tt
        statements_referring ks (p.statement_and y rest) good at w h c final into =
            let ms = (i.statement fs bodies n ks y).locals in
            let os = (i.statements fs bodies n ms rest).locals in
            let middle = statement_good (RefersRight vs) fs own_good bodies inner n ks y good in
            let there = at_into n rs ks.refers ms.refers at (grown_into ks ms (grown_statement fs bodies grow n ks y)) in
            let on = grown_into ms os (grown_statements fs bodies grow n ms rest) in
            both_referring final (i.statement fs bodies n ks y).made (i.statements fs bodies n ms rest).made
            (statement_referring ks y good at w.0 h.0 (first_called (i.statement_calls y) (i.statements_calls rest) c) final
            (into_both ms.refers os.refers final on into))
            (statements_referring ms rest middle there w.1 h.1 (second_called (i.statement_calls y) (i.statements_calls rest) c) final into)

        arms_referring : (ks : i.Locals) (ys : p.Arms) → Good ks → At n rs ks.refers → AreArms x js ys → AreArmsReferring x rs ys →
            Called (i.arms_calls ys) → (final : List (Option ℕ)) → Into (i.arms_of fs bodies n ks ys).locals.refers final →
            AreFlatArmsReferring z final (i.arms_of fs bodies n ks ys).made
        arms_referring ks p.no_arm good at w h c final into = tt
        arms_referring ks (p.arm_and condition body rest) good at w h c final into =
            let ms = (i.statements fs bodies n ks body).locals in
            let os = (i.arms_of fs bodies n ms rest).locals in
            let middle = statements_good (RefersRight vs) fs own_good bodies inner n ks body good in
            let grown = grown_into ks ms (grown_statements fs bodies grow n ks body) in
            let there = at_into n rs ks.refers ms.refers at grown in
            let last = into_both ms.refers os.refers final (grown_into ms os (grown_arms fs bodies grow n ms rest)) into in
            let seen = at_into n rs ks.refers final at (into_both ks.refers ms.refers final grown last) in (
              follows_shifted vs n rs final seen condition.expr h.0,
              statements_referring ks body good at w.1 h.1 (first_called (i.statements_calls body) (i.arms_calls rest) c) final last,
              arms_referring ms rest middle there w.2 h.2 (second_called (i.statements_calls body) (i.arms_calls rest) c) final into,
            )

  -- ---- Bodies

  bodies_referring : (d g : ℕ) → Low fs d g → AreBodies (i.bodies_of fs d) g
  bodies_referring zero g low = absurd low
  bodies_referring (suc d) g low = λ callee ks good found.
      let own = all_at (IsFunction x) fs g callee prog.functions found in
      let refers = refers_of g callee found in
      let bodies = i.bodies_of fs d in
      let grow = grown_bodies fs d in
      let deeper : Called bodies grow (bodies_good (RefersRight vs) fs own_good d) (i.statements_calls callee.body) = λ c k l.
      bodies_referring d c.function (low c (subst (λ (cs : List i.Call). Contains cs c) (sym (calls_of_some fs g callee found)) k) l) in
      let mine = i.locals callee.locals callee.refers in
      let js = i.joined ks mine in
      let same : length ks.refers ≡ length ks.kinds = locals_long ks.kinds ks.refers good.zip in
      let at : At (length ks.kinds) callee.refers js.refers =
      subst (λ (k : ℕ). At k callee.refers js.refers) same (at_append ks.refers callee.refers) in
      let m = i.statements fs bodies (length ks.kinds) js callee.body in
      let right : Right m = statements_referring bodies grow (bodies_good (RefersRight vs) fs own_good d) (length ks.kinds) callee.locals callee.refers
      refers.locals js callee.body (good_both (RefersRight vs) ks mine good (own_good g callee found)) at own.body refers.body deeper in
      let more = grown_into js m.locals (grown_statements fs bodies grow (length ks.kinds) js callee.body) in
      let is : m ≡ i.bodies_of fs (suc d) g ks =
      ap (body_by (RefersRight vs) fs own_good bodies ks) (sym found) in record {
        right = subst Right is right;
        grown = subst (λ (w : i.Made f.Statements). Into ks.refers w.locals.refers) is
            (into_both ks.refers js.refers m.locals.refers (into_append ks.refers callee.refers) more);
        locals = subst (λ (w : i.Made f.Statements). At (length ks.kinds) callee.refers w.locals.refers) is
            (at_into (length ks.kinds) callee.refers js.refers m.locals.refers at more);
      }

  -- ---- Threads

  abbrev flat : f.Flat
  flat = record { mutexes = x.mutexes; variables = x.variables; threads = map (i.flat_thread fs) x.threads }

  module _ (none : HasNoBack x) (never : program_nulls x ≡ []) where
    thread_referring : (k : ℕ) (t : p.Thread) → slice_get x.threads k ≡ Some t → AreStatements x t.locals t.body → IsThreadReferring x t →
        IsFlatThreadReferring flat (i.flat_thread fs t)
    thread_referring k t found w h =
        let own : Good (i.locals t.locals t.refers) = record { zip = h.locals; all = h.refer } in
        let good = thread_good (RefersRight vs) fs own_good t own in
        let all = (i.flat_thread fs t).refers in record {
          locals = good.zip;
          refer = good.all;
          body = statements_referring (i.bodies_of fs (length fs)) (grown_bodies fs (length fs)) (bodies_good (RefersRight vs) fs own_good (length fs)) 0
              t.locals t.refers h.locals (i.locals t.locals t.refers) t.body own (at_self t.refers) w h.body
              (λ c m l. bodies_referring (length fs) c.function (low_all fs none c.function l)) all (into_self all);
          never_null = thread_silent x prog never k t found w;
        }

    threads_referring : (ts : List p.Thread) → ((k : ℕ) (t : p.Thread) → slice_get ts k ≡ Some t → IsFlatThreadReferring flat (i.flat_thread fs t)) →
        AllByRecursion (IsFlatThreadReferring flat) (map (i.flat_thread fs) ts)
    threads_referring [] h = tt
    threads_referring (t ∷ ts) h = (h 0 t refl, threads_referring ts (λ k. h (suc k)))

    pub flat_referring : IsFlatReferring flat
    flat_referring = record {
      variables = prog.referring.variables;
      threads = threads_referring x.threads (λ k t found.
          thread_referring k t found
          (all_at (λ (u : p.Thread). AreStatements x u.locals u.body) x.threads k t prog.threads found)
          (all_at (IsThreadReferring x) x.threads k t prog.referring.threads found));
    }
