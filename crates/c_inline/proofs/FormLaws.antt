-- The flat form of a well formed program is well formed: each part, with its locals renumbered.
use Rattle.std.proofs.Common.{◌≡◌, refl, sym, ◌∙◌, ap, subst, ℕ, zero, suc, ◌+◌, ◌<◌, ◌≤◌, List, []}
use Rattle.std.proofs.Common.{◌∷◌, ◌++◌, length, map, flat_map, true, Option, Some, None, arith}
use Rattle.std.specs.Prelude.{Contains, slice_get, pos, ◌-ℤ◌}
use Rattle.std.specs.List.{AllByRecursion}
use Rattle.std.specs.Option.{option_map}
use Rattle.std.proofs.lemmas.List.{length-map}
use Rattle.std.proofs.lemmas.List.Elements.{Contains-append_left, Contains-append_right}
use Rattle.std.proofs.lemmas.Option.{none-some, same_Some, slice_get_within}
use Rattle.ido_base.specs.declared.place.Place.{Place}
use Rattle.ido_ints.specs.declared.kinds.Kind.{Kind}
use Rattle.ido_ints.specs.declared.kinds.Kind.TheVariants.{UnsignedLong}
use Rattle.ido_ints.specs.Operators.{unary_kind, binary_kind}
use Rattle.c_tree.specs.AcceptedTexts.{HasNoBack}
use Rattle.c_tree.specs.Exprs as e
use Rattle.c_tree.specs.Programs as p
use Rattle.c_tree.specs.Flats as f
use Rattle.c_tree.specs.Inlining as i
use Rattle.c_tree.specs.Inlining.{shifted, shifted_placed, shifted_target}
use Rattle.c_tree.specs.NullReferences.{program_nulls}
use Rattle.c_tree.specs.Ranges as r
use Rattle.c_tree.specs.Ranges.{Index, Interval, AllFit, index_fits, range_of, lies_in, interval, elements_of, mutexes_of}
use Rattle.c_tree.specs.Elaboration.{kind_of}
use Rattle.c_tree.specs.WellFormed.{IsExpr, IsPlaced, IsTarget, Fits, TargetFits, IndexFits, IsResult, IsStatement, AreStatements, AreArms, HasProgramArm}
use Rattle.c_tree.specs.WellFormed.{IsReturned, IsFunction, IsProgram, HasArm, IsFlatPlaced, IsFlatTarget, AreFlatStatements, AreFlatArms, IsWellFormed}
use Rattle.c_tree.specs.WellFormed.{ArePlain, IsFlatLockName, IsLockName}
use Rattle.c_inline.specs.links.KnownWeights.{Low}
use Rattle.c_inline.proofs.CallDepth.{low_all}
use Rattle.c_inline.proofs.WeightsByDepth.{calls_of_some}
use Rattle.c_inline.proofs.InliningAnswers.{flat_is}
use Rattle.c_inline.proofs.CallCongruence.{alone}
use Rattle.c_inline.proofs.FlatReferences.{flat_referring, follows_shifted}
use Rattle.c_inline.proofs.LocalsFrom.{At, Into, all_at, at_append, at_into, at_self, into_append, into_both, into_self}

-- ---- Lists

in_flat_map : {A B : Type 0} (g : A → List B) (xs : List A) (k : ℕ) (x : A) (y : B) → slice_get xs k ≡ Some x → Contains (g x) y → Contains (flat_map g xs) y
in_flat_map g [] k x y h c = absurd (none-some x h)
in_flat_map g (z ∷ zs) zero x y h c = Contains-append_left (g z) (flat_map g zs) y (subst (λ w. Contains (g w) y) (sym (same_Some z x h)) c)
in_flat_map g (z ∷ zs) (suc k) x y h c = Contains-append_right (g z) (flat_map g zs) y (in_flat_map g zs k x y h c)

-- ---- Expressions renumbered

module _ (n : ℕ) where
  kind_same : (x : e.Expr) → kind_of (shifted n x) ≡ kind_of x
  kind_same (e.Constant value) = refl
  kind_same (e.Local local kind) = refl
  kind_same (e.Variable place variable kind) = refl
  kind_same (e.Element place variable kind index_place index) = refl
  kind_same (e.Address variable index_place index) = refl
  kind_same (e.Referent place last local) = refl
  kind_same (e.Unary operator operand) = ap (unary_kind operator) (kind_same operand)
  kind_same (e.Cast kind operand) = refl
  kind_same (e.Converted kind operand) = refl
  kind_same (e.Binary operator left right) = λ j. binary_kind operator (kind_same left j) (kind_same right j)
  kind_same (e.Conditional kind condition chosen otherwise) = refl

  range_same : (x : e.Expr) → range_of (shifted n x) ≡ range_of x
  range_same (e.Constant value) = refl
  range_same (e.Local local kind) = refl
  range_same (e.Variable place variable kind) = refl
  range_same (e.Element place variable kind index_place index) = refl
  range_same (e.Address variable index_place index) = refl
  range_same (e.Referent place last local) = refl
  range_same (e.Unary operator operand) = λ j. r.unary_range operator (kind_same operand j) (range_same operand j)
  range_same (e.Cast kind operand) = ap (r.fitted kind) (range_same operand)
  range_same (e.Converted kind operand) = ap (r.fitted kind) (range_same operand)
  range_same (e.Binary operator left right) = λ j. r.binary_range operator (kind_same left j) (range_same left j) (kind_same right j) (range_same right j)
  range_same (e.Conditional kind condition chosen otherwise) = λ j. r.hull (r.fitted kind (range_same chosen j)) (r.fitted kind (range_same otherwise j))

module _ (vs : List p.Variable) (ms : List p.Mutex) where
  abbrev AllIn : List Index → Type 0
  AllIn is = (j : Index) → Contains is j → index_fits vs ms j ≡ true

  first_in : (is js : List Index) → AllIn (is ++ js) → AllIn is
  first_in is js h = λ j c. h j (Contains-append_left is js j c)

  second_in : (is js : List Index) → AllIn (is ++ js) → AllIn js
  second_in is js h = λ j c. h j (Contains-append_right is js j c)

  head_in : (j : Index) (js : List Index) → AllIn (j ∷ js) → index_fits vs ms j ≡ true
  head_in j js h = h j (0, omega arith, refl)

  tail_in : (j : Index) (js : List Index) → AllIn (j ∷ js) → AllIn js
  tail_in j js h = λ k c. h k (suc c.0, omega (arith, c.1), c.2)

  module _ (n : ℕ) where
    index_fits_shifted : (variable : ℕ) (place : Place) (x : e.Expr) → IndexFits vs variable place x → IndexFits vs variable place (shifted n x)
    index_fits_shifted variable place x h = ap (λ (j : Interval). lies_in j (interval (pos 0) (pos (elements_of vs variable) -ℤ pos 1))) (range_same n x) ∙ h

    fits_shifted : (x : e.Expr) → AllIn (r.expr_indexes x) → Fits vs (shifted n x)
    fits_shifted (e.Constant value) h = tt
    fits_shifted (e.Local local kind) h = tt
    fits_shifted (e.Variable place variable kind) h = tt
    fits_shifted (e.Element place variable kind index_place index) h =
        (index_fits_shifted variable index_place index (head_in _ (r.expr_indexes index) h), fits_shifted index (tail_in _ (r.expr_indexes index) h))
    fits_shifted (e.Address variable index_place index) h =
        (index_fits_shifted variable index_place index (head_in _ (r.expr_indexes index) h), fits_shifted index (tail_in _ (r.expr_indexes index) h))
    fits_shifted (e.Referent place last local) h = tt
    fits_shifted (e.Unary operator operand) h = fits_shifted operand h
    fits_shifted (e.Cast kind operand) h = fits_shifted operand h
    fits_shifted (e.Converted kind operand) h = fits_shifted operand h
    fits_shifted (e.Binary operator left right) h = (
      fits_shifted left (first_in (r.expr_indexes left) (r.expr_indexes right) h),
      fits_shifted right
          (second_in (r.expr_indexes left) (r.expr_indexes right) h),
    )
    fits_shifted (e.Conditional kind condition chosen otherwise) h =
        let both = r.expr_indexes condition ++ r.expr_indexes chosen in
        let first = first_in both (r.expr_indexes otherwise) h in (
          fits_shifted condition (first_in (r.expr_indexes condition) (r.expr_indexes chosen) first),
          fits_shifted chosen (second_in (r.expr_indexes condition) (r.expr_indexes chosen) first),
          fits_shifted otherwise (second_in both (r.expr_indexes otherwise) h),
        )

    target_fits_shifted : (x : e.Lvalue) → AllIn (r.target_indexes x) → TargetFits vs (shifted_target n x)
    target_fits_shifted (e.ToLocal place local kind) h = tt
    target_fits_shifted (e.ToVariable place variable kind) h = tt
    target_fits_shifted (e.ToElement place variable kind index) h = (
      index_fits_shifted variable index.place index.expr (head_in _ (r.expr_indexes index.expr) h),
      fits_shifted index.expr
          (tail_in _ (r.expr_indexes index.expr) h),
    )

    module _ (js ks : List Kind) (at : At n js ks) where
      expr_shifted : (x : e.Expr) → IsExpr vs js x → IsExpr vs ks (shifted n x)
      expr_shifted (e.Constant value) h = tt
      expr_shifted (e.Local local kind) h = at local kind h
      expr_shifted (e.Variable place variable kind) h = h
      expr_shifted (e.Element place variable kind index_place index) h = (h.0, expr_shifted index h.1)
      expr_shifted (e.Address variable index_place index) h = (h.0, expr_shifted index h.1)
      expr_shifted (e.Referent place last local) h = at local UnsignedLong h
      expr_shifted (e.Unary operator operand) h = expr_shifted operand h
      expr_shifted (e.Cast kind operand) h = expr_shifted operand h
      expr_shifted (e.Converted kind operand) h = expr_shifted operand h
      expr_shifted (e.Binary operator left right) h = (expr_shifted left h.0, expr_shifted right h.1)
      expr_shifted (e.Conditional kind condition chosen otherwise) h = (expr_shifted condition h.0, expr_shifted chosen h.1, expr_shifted otherwise h.2)

      target_shifted : (x : e.Lvalue) → IsTarget vs js x → IsTarget vs ks (shifted_target n x)
      target_shifted (e.ToLocal place local kind) h = at local kind h
      target_shifted (e.ToVariable place variable kind) h = h
      target_shifted (e.ToElement place variable kind index) h = (h.0, expr_shifted index.expr h.1)

-- ---- Statements

module _ (x : p.Program) (prog : IsProgram x) (fit : AllFit x) where
  abbrev fs : List p.Function
  fs = x.functions

  -- a form with the program's mutexes and variables
  abbrev z : f.Flat
  z = record { mutexes = x.mutexes; variables = x.variables; threads = [] }

  -- what is made in front of these locals has these after it, and is well formed wherever they stand
  record Good (ks : i.Locals) (m : i.Made f.Statements) : Type 0 where
    grows : Into ks.kinds m.locals.kinds
    formed : (final : List Kind) → Into m.locals.kinds final → AreFlatStatements z final m.made

  record GoodArms (ks : i.Locals) (m : i.Made f.Arms) : Type 0 where
    grows : Into ks.kinds m.locals.kinds
    formed : (final : List Kind) → Into m.locals.kinds final → AreFlatArms z final m.made

  both_formed : (final : List Kind) (xs ys : f.Statements) → AreFlatStatements z final xs → AreFlatStatements z final ys →
      AreFlatStatements z final (i.statements_and xs ys)
  both_formed final f.no_statement ys h k = k
  both_formed final (f.statement_and y xs) ys h k = (h.0, both_formed final xs ys h.1 k)

  -- a key reads other locals, and is as small as it was
  name_formed : (n : ℕ) (js ks : List Kind) → At n js ks → (mutex : ℕ) (key : Option e.Placed) →
      IsLockName x.mutexes js (record { mutex = mutex; key = key }) →
      AllIn x.variables x.mutexes (r.lock_indexes (record { mutex = mutex; key = key })) →
      IsFlatLockName x.mutexes ks (i.shifted_lock n (record { mutex = mutex; key = key }))
  name_formed n js ks at mutex None h k = h
  name_formed n js ks at mutex (Some key) h k = record {
    array = h.0;
    reads = expr_shifted [] x.mutexes n js ks at key.expr h.1;
    follows = follows_shifted [] n [] [] (λ k o e. absurd (none-some o e)) key.expr h.2;
    fits = ap (λ (j : Interval). lies_in j (interval (pos 0) (pos (mutexes_of x.mutexes mutex) -ℤ pos 1))) (range_same n key.expr)
        ∙ head_in x.variables x.mutexes _ (r.placed_indexes key) k;
  }

  placed_formed : (n : ℕ) (js ks : List Kind) → At n js ks → (y : e.Placed) → IsPlaced x.variables js y → AllIn x.variables x.mutexes (r.placed_indexes y) →
      IsFlatPlaced z ks (shifted_placed n y)
  placed_formed n js ks at y h k = (expr_shifted x.variables x.mutexes n js ks at y.expr h, fits_shifted x.variables x.mutexes n y.expr k)

  target_formed : (n : ℕ) (js ks : List Kind) → At n js ks → (y : e.Lvalue) → IsTarget x.variables js y → AllIn x.variables x.mutexes (r.target_indexes y) →
      IsFlatTarget z ks (shifted_target n y)
  target_formed n js ks at y h k = (target_shifted x.variables x.mutexes n js ks at y h, target_fits_shifted x.variables x.mutexes n y k)

  all_placed : (n : ℕ) (js ks : List Kind) → At n js ks → (ys : List e.Placed) → AllByRecursion (IsPlaced x.variables js) ys →
      AllIn x.variables x.mutexes (flat_map r.placed_indexes ys) → AllByRecursion (IsFlatPlaced z ks) (map (shifted_placed n) ys)
  all_placed n js ks at [] h k = tt
  all_placed n js ks at (y ∷ ys) h k = (
    placed_formed n js ks at y h.0 (first_in x.variables x.mutexes (r.placed_indexes y) (flat_map r.placed_indexes ys) k),
    all_placed n js ks at ys h.1 (second_in x.variables x.mutexes (r.placed_indexes y) (flat_map r.placed_indexes ys) k),
  )

  -- ---- Calls

  passed_formed : (place : Place) (m : ℕ) (js final : List Kind) (ys : List e.Placed) → At m js final → length ys ≤ length js →
      AllByRecursion (IsFlatPlaced z final) ys → AreFlatStatements z final (i.passed place m js ys)
  passed_formed place m js final [] at long h = tt
  passed_formed place m [] final (y ∷ ys) at long h = absurd (omega arith)
  passed_formed place m (j ∷ js) final (y ∷ ys) at long h =
      let here : slice_get final m ≡ Some j = subst (λ (k : ℕ). slice_get final k ≡ Some j) (omega arith) (at 0 j refl) in (
        ((here, tt), h.0),
        passed_formed place (m + 1) js final ys
            (λ k kind g. subst (λ (l : ℕ). slice_get final l ≡ Some kind) (omega arith) (at (suc k) kind g)) (omega arith) h.1,
      )

  assigned_formed : (place : Place) (m : ℕ) (js final : List Kind) (given : Option p.Returned) (target : Option e.Lvalue) → At m js final →
      IsReturned x js given → AllIn x.variables x.mutexes (r.returned_indexes given) →
      ((y : e.Lvalue) → target ≡ Some y → IsFlatTarget z final y) → AreFlatStatements z final (i.assigned place m given target)
  assigned_formed place m js final None target at h k t = tt
  assigned_formed place m js final (Some y) None at h k t = tt
  assigned_formed place m js final (Some y) (Some w) at h k t =
      ((t w refl, (expr_shifted x.variables x.mutexes m js final at y.value.expr h, fits_shifted x.variables x.mutexes m y.value.expr k)), tt)

  good_call : (made : f.Statements) (ks after : i.Locals) → Into ks.kinds after.kinds →
      ((final : List Kind) → Into after.kinds final → AreFlatStatements z final made) →
      Good ks (record { made = made; locals = i.locals_after made ks after })
  good_call f.no_statement ks after grows formed = record { grows = into_self ks.kinds; formed = λ final into. tt }
  good_call (f.statement_and y rest) ks after grows formed = record { grows = grows; formed = formed }

  result_formed : (n : ℕ) (js ks : List Kind) → At n js ks → (o : Option e.Lvalue) → IsResult x js o → AllIn x.variables x.mutexes (r.result_indexes o) →
      (y : e.Lvalue) → option_map (shifted_target n) o ≡ Some y → IsFlatTarget z ks y
  result_formed n js ks at None h k y g = absurd (none-some y g)
  result_formed n js ks at (Some w) h k y g = subst (IsFlatTarget z ks) (same_Some (shifted_target n w) y g) (target_formed n js ks at w h k)

  -- what a function's body becomes, with its locals after these
  record IsBody (bodies : i.Bodies) (function : ℕ) (callee : p.Function) (ks : i.Locals) : Type 0 where
    good : Good ks (bodies function ks)
    locals : At (length ks.kinds) callee.locals (bodies function ks).locals.kinds

  abbrev AreBodies : i.Bodies → ℕ → Type 0
  AreBodies bodies function = (callee : p.Function) (ks : i.Locals) → slice_get fs function ≡ Some callee → IsBody bodies function callee ks

  -- the indexes of a function fit
  function_fits : (g : ℕ) (callee : p.Function) → slice_get fs g ≡ Some callee →
      AllIn x.variables x.mutexes (r.statements_indexes callee.body ++ r.returned_indexes callee.result)
  function_fits g callee h = λ j c. fit j (Contains-append_left
      (flat_map (λ (y : p.Function). r.statements_indexes y.body ++ r.returned_indexes y.result) fs) _ j
      (in_flat_map (λ (y : p.Function). r.statements_indexes y.body ++ r.returned_indexes y.result) fs g callee j h c))

  module _ (bodies : i.Bodies) where
    abbrev Called : List i.Call → Type 0
    Called cs = (c : i.Call) → Contains cs c → c.function < length fs → AreBodies bodies c.function

    first_called : (cs ds : List i.Call) → Called (cs ++ ds) → Called cs
    first_called cs ds h = λ c k. h c (Contains-append_left cs ds c k)

    second_called : (cs ds : List i.Call) → Called (cs ++ ds) → Called ds
    second_called cs ds h = λ c k. h c (Contains-append_right cs ds c k)

    module _ (n : ℕ) (js : List Kind) where
      abbrev made_call : (ks : i.Locals) (place : Place) (function : ℕ) (arguments : List e.Placed) (result : Option e.Lvalue) → Option p.Function →
          i.Made f.Statements
      made_call ks place function arguments result o = elim o [
        | Some y ↦ i.called fs bodies place n ks y (bodies function ks) arguments result
        | None ↦ record { made = f.no_statement; locals = ks }
      ]

      called_formed : (ks : i.Locals) (place : Place) (function : ℕ) (callee : p.Function) (arguments : List e.Placed) (result : Option e.Lvalue) →
          At n js ks.kinds → slice_get fs function ≡ Some callee → length arguments ≡ callee.parameters → IsBody bodies function callee ks →
          AllByRecursion (IsPlaced x.variables js) arguments → AllIn x.variables x.mutexes (flat_map r.placed_indexes arguments) → IsResult x js result →
          AllIn x.variables x.mutexes (r.result_indexes result) →
          Good ks (i.called fs bodies place n ks callee (bodies function ks) arguments result)
      called_formed ks place function callee arguments result at found count body a ai t ti =
          let b = bodies function ks in
          let own = all_at (IsFunction x) fs function callee prog.functions found in
          let inside = function_fits function callee found in
          good_call _ ks b.locals body.good.grows
          (λ final into.
          let seen = at_into n js ks.kinds final at (into_both ks.kinds b.locals.kinds final body.good.grows into) in
          let fresh = at_into (length ks.kinds) callee.locals b.locals.kinds final body.locals into in
          let passed = passed_formed place (length ks.kinds) callee.locals final (map (shifted_placed n) arguments) fresh
          (omega (arith, length-map arguments (shifted_placed n), own.parameters, count)) (all_placed n js final seen arguments a ai) in
          let given = assigned_formed place (length ks.kinds) callee.locals final callee.result (option_map (shifted_target n) result) fresh own.result
          (second_in x.variables x.mutexes (r.statements_indexes callee.body) (r.returned_indexes callee.result) inside)
          (result_formed n js final seen result t ti) in
          both_formed final (i.passed place (length ks.kinds) callee.locals (map (shifted_placed n) arguments)) _ passed
          (both_formed final b.made _ (body.good.formed final into) given))

      arms_there : (ks : i.Locals) (ys : p.Arms) → HasProgramArm ys → HasArm (i.arms_of fs bodies n ks ys).made
      arms_there ks p.no_arm h = h
      arms_there ks (p.arm_and condition body rest) h = tt

      mutual
        statement_formed : (ks : i.Locals) (y : p.Statement) → At n js ks.kinds → IsStatement x js y → AllIn x.variables x.mutexes (r.statement_indexes y) →
            Called (i.statement_calls y) → Good ks (i.statement fs bodies n ks y)
        statement_formed ks (p.Assign place target value) at h k c = record {
          grows = into_self ks.kinds;
          formed = λ final into.
              let seen = at_into n js ks.kinds final at into in (
                ((
                  target_formed n js final seen target h.0 (first_in x.variables x.mutexes (r.target_indexes target)
                      (r.placed_indexes value) k),
                  placed_formed n js final seen value h.1
                      (second_in x.variables x.mutexes (r.target_indexes target) (r.placed_indexes value) k),
                )),
                tt,
              );
        }
        statement_formed ks (p.Call place name function arguments result) at h k c =
            let callee = h.0.it in
            let body = c (record { place = name; function = function }) (alone _) (slice_get_within fs function callee h.0.found) callee ks h.0.found in
            let made = called_formed ks place function callee arguments result at h.0.found h.0.count body h.1
            (first_in x.variables x.mutexes (flat_map r.placed_indexes arguments) (r.result_indexes result) k) h.2
            (second_in x.variables x.mutexes (flat_map r.placed_indexes arguments) (r.result_indexes result) k) in
            subst (λ (o : Option p.Function). Good ks (made_call ks place function arguments result o)) (sym h.0.found) made
        statement_formed ks (p.If place arms otherwise) at h k c =
            let a = arms_formed ks arms at h.1 (first_in x.variables x.mutexes (r.arms_indexes arms) (r.statements_indexes otherwise) k)
            (first_called (i.arms_calls arms) (i.statements_calls otherwise) c) in
            let mid = (i.arms_of fs bodies n ks arms).locals in
            let o = statements_formed mid otherwise (at_into n js ks.kinds mid.kinds at a.grows) h.2
            (second_in x.variables x.mutexes (r.arms_indexes arms) (r.statements_indexes otherwise) k)
            (second_called (i.arms_calls arms) (i.statements_calls otherwise) c) in
            let end = (i.statements fs bodies n mid otherwise).locals in record {
              grows = into_both ks.kinds mid.kinds end.kinds a.grows o.grows;
              formed = λ final into. ((arms_there ks arms h.0, a.formed final (into_both mid.kinds end.kinds final o.grows into), o.formed final into), tt);
            }
        statement_formed ks (p.While place condition body) at h k c =
            let m = statements_formed ks body at h.1 (second_in x.variables x.mutexes (r.placed_indexes condition) (r.statements_indexes body) k) c in
            let ms = (i.statements fs bodies n ks body).locals in record {
              grows = m.grows;
              formed = λ final into. (
                (
                  placed_formed n js final (at_into n js ks.kinds final at (into_both ks.kinds ms.kinds final m.grows into)) condition h.0
                      (first_in x.variables x.mutexes (r.placed_indexes condition) (r.statements_indexes body) k),
                  m.formed final into,
                ),
                tt,
              );
            }
        statement_formed ks (p.Do place body condition) at h k c =
            let m = statements_formed ks body at h.0 (first_in x.variables x.mutexes (r.statements_indexes body) (r.placed_indexes condition) k) c in
            let ms = (i.statements fs bodies n ks body).locals in record {
              grows = m.grows;
              formed = λ final into. (
                (
                  m.formed final into,
                  placed_formed n js final (at_into n js ks.kinds final at (into_both ks.kinds ms.kinds final m.grows into)) condition h.1
                      (second_in x.variables x.mutexes (r.statements_indexes body) (r.placed_indexes condition) k),
                ),
                tt,
              );
            }
        statement_formed ks (p.Lock place name) at h k c =
            record {
              grows = into_self ks.kinds;
              formed = λ final into. (name_formed n js final (at_into n js ks.kinds final at into) name.mutex name.key h k, tt);
            }
        statement_formed ks (p.Unlock place name) at h k c =
            record {
              grows = into_self ks.kinds;
              formed = λ final into. (name_formed n js final (at_into n js ks.kinds final at into) name.mutex name.key h k, tt);
            }

        statements_formed : (ks : i.Locals) (ys : p.Statements) → At n js ks.kinds → AreStatements x js ys →
            AllIn x.variables x.mutexes (r.statements_indexes ys) →
            Called (i.statements_calls ys) → Good ks (i.statements fs bodies n ks ys)
        statements_formed ks p.no_statement at h k c = record { grows = into_self ks.kinds; formed = λ final into. tt }
        statements_formed ks (p.statement_and y rest) at h k c =
            let m = statement_formed ks y at h.0 (first_in x.variables x.mutexes (r.statement_indexes y) (r.statements_indexes rest) k)
            (first_called (i.statement_calls y) (i.statements_calls rest) c) in
            let ms = (i.statement fs bodies n ks y).locals in
            let o = statements_formed ms rest (at_into n js ks.kinds ms.kinds at m.grows) h.1
            (second_in x.variables x.mutexes (r.statement_indexes y) (r.statements_indexes rest) k)
            (second_called (i.statement_calls y) (i.statements_calls rest) c) in
            let os = (i.statements fs bodies n ms rest).locals in record {
              grows = into_both ks.kinds ms.kinds os.kinds m.grows o.grows;
              formed = λ final into. both_formed final (i.statement fs bodies n ks y).made (i.statements fs bodies n ms rest).made
                  (m.formed final (into_both ms.kinds os.kinds final o.grows into)) (o.formed final into);
            }

        arms_formed : (ks : i.Locals) (ys : p.Arms) → At n js ks.kinds → AreArms x js ys → AllIn x.variables x.mutexes (r.arms_indexes ys) →
            Called (i.arms_calls ys) →
            GoodArms ks (i.arms_of fs bodies n ks ys)
        arms_formed ks p.no_arm at h k c = record { grows = into_self ks.kinds; formed = λ final into. tt }
        arms_formed ks (p.arm_and condition body rest) at h k c =
            let both = r.placed_indexes condition ++ r.statements_indexes body in
            let first = first_in x.variables x.mutexes both (r.arms_indexes rest) k in
            let m = statements_formed ks body at h.1 (second_in x.variables x.mutexes (r.placed_indexes condition) (r.statements_indexes body) first)
            (first_called (i.statements_calls body) (i.arms_calls rest) c) in
            let ms = (i.statements fs bodies n ks body).locals in
            let o = arms_formed ms rest (at_into n js ks.kinds ms.kinds at m.grows) h.2 (second_in x.variables x.mutexes both (r.arms_indexes rest) k)
            (second_called (i.statements_calls body) (i.arms_calls rest) c) in
            let os = (i.arms_of fs bodies n ms rest).locals in record {
              grows = into_both ks.kinds ms.kinds os.kinds m.grows o.grows;
              formed = λ final into.
                  let last = into_both ms.kinds os.kinds final o.grows into in
                  let seen = at_into n js ks.kinds final at (into_both ks.kinds ms.kinds final m.grows last) in (
                    placed_formed n js final seen condition h.0
                        (first_in x.variables x.mutexes (r.placed_indexes condition) (r.statements_indexes body) first),
                    m.formed final last,
                    o.formed final into,
                  );
            }

  -- ---- Bodies

  abbrev body_by : (ks : i.Locals) → i.Bodies → Option p.Function → i.Made f.Statements
  body_by ks bodies o = elim o [
    | Some y ↦ i.statements fs bodies (length ks.kinds) (i.joined ks (i.locals y.locals y.refers)) y.body
    | None ↦ record { made = f.no_statement; locals = ks }
  ]

  bodies_formed : (d g : ℕ) → Low fs d g → AreBodies (i.bodies_of fs d) g
  bodies_formed zero g low = absurd low
  bodies_formed (suc d) g low = λ callee ks found.
      let own = all_at (IsFunction x) fs g callee prog.functions found in
      let deeper : Called (i.bodies_of fs d) (i.statements_calls callee.body) = λ c k l. bodies_formed d c.function
      (low c (subst (λ (cs : List i.Call). Contains cs c) (sym (calls_of_some fs g callee found)) k) l) in
      let inside = first_in x.variables x.mutexes (r.statements_indexes callee.body) (r.returned_indexes callee.result) (function_fits g callee found) in
      let own_locals = i.locals callee.locals callee.refers in
      let js = i.joined ks own_locals in
      let made = statements_formed (i.bodies_of fs d) (length ks.kinds) callee.locals js callee.body
      (at_append ks.kinds callee.locals) own.body inside deeper in
      let m = i.statements fs (i.bodies_of fs d) (length ks.kinds) js callee.body in
      let good : Good ks m = record {
        grows = into_both ks.kinds js.kinds m.locals.kinds (into_append ks.kinds callee.locals) made.grows;
        formed = made.formed;
      } in
      let is : m ≡ i.bodies_of fs (suc d) g ks = ap (body_by ks (i.bodies_of fs d)) (sym found) in record {
        good = subst (Good ks) is good;
        locals = subst (λ (w : i.Made f.Statements). At (length ks.kinds) callee.locals w.locals.kinds) is
            (at_into (length ks.kinds) callee.locals js.kinds m.locals.kinds (at_append ks.kinds callee.locals) made.grows);
      }

  -- ---- Threads

  module _ (none : HasNoBack x) where
    thread_formed : (t : p.Thread) → AreStatements x t.locals t.body → AllIn x.variables x.mutexes (r.statements_indexes t.body) →
        AreFlatStatements z (i.flat_thread fs t).locals (i.flat_thread fs t).body
    thread_formed t h k =
        let bodies = i.bodies_of fs (length fs) in
        let made = statements_formed bodies 0 t.locals (i.locals t.locals t.refers) t.body (at_self t.locals) h k
        (λ c m l. bodies_formed (length fs) c.function (low_all fs none c.function l)) in
        let all = (i.statements fs bodies 0 (i.locals t.locals t.refers) t.body).locals in
        made.formed all.kinds (into_self all.kinds)

    threads_formed : (ts : List p.Thread) → AllByRecursion (λ (t : p.Thread). AreStatements x t.locals t.body) ts →
        AllIn x.variables x.mutexes (flat_map (λ (t : p.Thread). r.statements_indexes t.body) ts) →
        AllByRecursion (λ (t : f.Thread). AreFlatStatements z t.locals t.body) (map (i.flat_thread fs) ts)
    threads_formed [] h k = tt
    threads_formed (t ∷ ts) h k = (
      thread_formed t h.0 (first_in x.variables x.mutexes (r.statements_indexes t.body) (flat_map (λ (u : p.Thread). r.statements_indexes u.body) ts) k),
      threads_formed ts h.1 (second_in x.variables x.mutexes (r.statements_indexes t.body) (flat_map (λ (u : p.Thread). r.statements_indexes u.body) ts) k),
    )

pub flat_formed : (x : p.Program) → IsProgram x → AllFit x → program_nulls x ≡ [] → HasNoBack x → IsWellFormed (i.flat_form x)
flat_formed x prog fit never none =
    let threads = second_in x.variables x.mutexes (flat_map (λ (y : p.Function). r.statements_indexes y.body ++ r.returned_indexes y.result) x.functions)
    (flat_map (λ (t : p.Thread). r.statements_indexes t.body) x.threads) fit in
    let flat : f.Flat = record { mutexes = x.mutexes; variables = x.variables; threads = map (i.flat_thread x.functions) x.threads } in
    let made : IsWellFormed flat = record {
      shared = record {
        mutexes = prog.shared.mutexes;
        threads = omega (arith, length-map x.threads (i.flat_thread x.functions), prog.shared.threads);
        variables = prog.shared.variables;
        bytes = prog.shared.bytes;
      };
      threads = threads_formed x prog fit none x.threads prog.threads threads;
      referring = flat_referring x prog none never;
    } in
    subst IsWellFormed (sym (flat_is x)) made

-- its mutexes are those of the program
pub flat_plain : (x : p.Program) → ArePlain x.mutexes → ArePlain (i.flat_form x).mutexes
flat_plain x plain = subst ArePlain (sym (ap (λ (z : f.Flat). z.mutexes) (flat_is x))) plain
