-- What is made of statements without faults has references to their arrays alone.
use Rattle.std.proofs.Common.{◌≡◌, refl, sym, subst, ℕ, suc, List, [], ◌∷◌, ◌++◌, length, map, find, flat_map}
use Rattle.std.proofs.Common.{true, false, not, ◌==◌, is_some, if◌then◌else◌, Option, Some, None, arith}
use Rattle.std.specs.Prelude.{slice_get, slice_index_or}
use Rattle.std.specs.List.{AllByRecursion}
use Rattle.std.specs.Option.{option_map}
use Rattle.std.proofs.lemmas.Bool.{true≢false}
use Rattle.ido_base.specs.declared.place.Place.{Place}
use Rattle.ido_ints.specs.declared.kinds.Kind.{Kind}
use Rattle.c_tree.specs.declared.language.Language.{Language}
use Rattle.c_tree.specs.declared.rule.Rule.TheVariants as rule
use Rattle.c_tree.specs.LexicalScan.{Fault}
use Rattle.c_tree.specs.Trees as t
use Rattle.c_tree.specs.Exprs as e
use Rattle.c_tree.specs.Names as n
use Rattle.c_tree.specs.Programs as p
use Rattle.c_tree.specs.TypeRules as rules
use Rattle.c_tree.specs.TypeRules.{broken, broken_if}
use Rattle.c_tree.specs.Elaboration as made
use Rattle.c_tree.specs.References.{AreGiven, AreArmsReferring, AreStatementsReferring, Follows, IsCallReferring, IsGiven, IsResultGiven}
use Rattle.c_tree.specs.References.{IsReturnedReferring, IsStatementReferring, PlacedFollows, TargetFollows}
use Rattle.c_tree.specs.References.{target_refers}
use Rattle.c_typer.proofs.EmptyFaults.{nil_left, nil_right, not_broken, unbroken}
use Rattle.c_typer.proofs.LocalsGrow.{Begins, Known, Within, numbered, refers_declared, types_refer, within_both}
use Rattle.c_typer.proofs.LocalsGrow.{grow_statements, grow_inside, grow_arms, grow_otherwise}
use Rattle.c_typer.proofs.MeaningsInPrograms.{FunctionIn, MeaningIn, RefersAs, SortIn, TypeIn, found_in, index_of}
use Rattle.c_typer.proofs.MeaningsInPrograms.{not_not, type_in, type_refers}
use Rattle.c_typer.proofs.WellFormedStatements.{equal_counts, known_after, known_arms, known_first, known_inside}
use Rattle.c_typer.proofs.ReferencesInExpressions.{arguments_follow, assignment_referring, expr_follows, given_right, meaning, numeric_follows}
use Rattle.c_typer.proofs.ReferencesInExpressions.{same_refers, target_follows, target_right, value_given}

-- ---- Calls, where what functions give is right

-- what the function of that number gives is for what refers as its result's type does
abbrev pub GivesSo : p.Program → List n.Global → n.Sort → Type 0
GivesSo x gs (n.Mutex number count) = Unit {0}
GivesSo x gs (n.Variable number type_name size each) = Unit {0}
GivesSo x gs (n.Function number None parameters) = Unit {0}
GivesSo x gs (n.Function number (Some type_name) parameters) = (os : List (Option ℕ)) (g : p.Function) → slice_get x.functions number ≡ Some g →
    IsResultGiven x os g.refers g.result (numbered (n.referred gs type_name))
GivesSo x gs n.Thread = Unit {0}

-- a target that takes such a result
record Takes (language : Language) (gs : List n.Global) (vs : List p.Variable) (rs : List (Option ℕ)) (from : n.Referring) (target : e.Lvalue) : Type 0 where
  follows : TargetFollows vs rs target
  to : n.Referring
  so : RefersAs to (target_refers vs rs target)
  fits : rules.gives_so language gs to from ≡ true

abbrev IsTaken : Language → List n.Global → List p.Variable → List (Option ℕ) → (from : n.Referring) → Option e.Lvalue → Type 0
IsTaken language gs xs rs from None = Unit {0}
IsTaken language gs xs rs from (Some target) = Takes language gs xs rs from target

-- what a function gives is for its target
abbrev TakenBy : p.Program → List (Option ℕ) → p.Function → Option e.Lvalue → Type 0
TakenBy x rs g result = elim result as (λ _. Type 0) [
  | None ↦ Unit {0}
  | Some target ↦ TargetFollows x.variables rs target × IsResultGiven x rs g.refers g.result (target_refers x.variables rs target)
]

module _ (language : Language) (x : p.Program) (gs : List n.Global) (sorts : AllByRecursion (λ (y : n.Global). SortIn x gs y.sort) gs)
    (results : AllByRecursion (λ (y : n.Global). GivesSo x gs y.sort) gs) (ks : List Kind) (rs : List (Option ℕ)) where
  abbrev all : List p.Variable
  all = x.variables

  -- what is meant gives so, where it is a function
  abbrev MeansSo : n.Meaning → Type 0
  MeansSo (n.IsLocal l) = Unit {0}
  MeansSo (n.IsGlobal sort) = GivesSo x gs sort
  MeansSo n.IsUnknown = Unit {0}

  means_so : (s : n.Scope) (name : List ℕ) → MeansSo (n.meaning gs s name)
  means_so s name = local (find (λ (y : n.Local). n.same_name y.name name) s.known)
    where
      global : (o : Option n.Global) → find (λ (y : n.Global). n.same_name y.name.text name) gs ≡ o →
          MeansSo (elim (option_map (λ (y : n.Global). y.sort) o) [
            | Some sort ↦ n.IsGlobal sort
            | None ↦ n.IsUnknown
          ])
      global None q = tt
      global (Some y) q = found_in (λ (z : n.Global). GivesSo x gs z.sort) (λ (z : n.Global). n.same_name z.name.text name) gs y results q

      local : (o : Option n.Local) → MeansSo (elim o [
        | Some y ↦ n.IsLocal y
        | None ↦ n.global_meaning gs name
      ])
      local None = global (find (λ (y : n.Global). n.same_name y.name.text name) gs) refl
      local (Some y) = tt

  none_taken : (g : p.Function) (o : Option e.Lvalue) → false ≡ is_some o → TakenBy x rs g o
  none_taken g None h = tt
  none_taken g (Some target) h = absurd (true≢false (sym h))

  some_taken : (g : p.Function) (type_name : t.TypeName) (o : Option e.Lvalue) → TypeIn gs type_name →
      IsResultGiven x rs g.refers g.result (numbered (n.referred gs type_name)) → IsTaken language gs all rs (n.of_type gs type_name) o → TakenBy x rs g o
  some_taken g type_name None typed gives w = tt
  some_taken g type_name (Some target) typed gives w = (
    w.follows,
    subst (IsResultGiven x rs g.refers g.result)
        (sym (same_refers language gs w.to (n.of_type gs type_name) (target_refers all rs target) (numbered (n.referred gs type_name)) w.so
        (type_refers gs type_name typed) w.fits)) gives,
  )

  zero_given : (o : Option ℕ) → IsGiven all rs o (made.int 0)
  zero_given None = tt
  zero_given (Some array) = refl

  module _ (s : n.Scope) (known : Known gs ks rs s) where
    arguments_given : (place : Place) (ps : List t.TypeName) (os : List (Option ℕ)) (ys : List t.Expression) → Begins (types_refer gs ps) os →
        AllByRecursion (TypeIn gs) ps → length ys ≡ length ps → flat_map (rules.expression_faults language gs s) ys ≡ [] →
        rules.arguments_faults language gs s place ps ys ≡ [] → AreGiven all rs os (map (made.placed gs s) ys)
    arguments_given place ps [] ys b typed count h q = tt
    arguments_given place ps (o ∷ os) [] b typed count h q = tt
    arguments_given place [] (o ∷ os) (y ∷ ys) b typed count h q = absurd (let wrong : suc (length ys) ≡ 0 = count in cc)
    arguments_given place (type_name ∷ ps) (o ∷ os) (y ∷ ys) b typed count h q =
        let first = rules.expression_faults language gs s y in
        let others = flat_map (rules.expression_faults language gs s) ys in
        let given = rules.given_faults language gs s (n.of_type gs type_name) place y in
        let rest = rules.arguments_faults language gs s place ps ys in
        let right = given_right language x gs sorts ks rs s known (n.of_type gs type_name) (numbered (n.referred gs type_name)) place y
        (type_refers gs type_name typed.0) (nil_left first others h) (nil_left given rest q) in
        let fewer : length ys ≡ length ps = omega (arith, count) in (
          subst (λ (r : Option ℕ). IsGiven all rs r (made.expr gs s y)) (sym b.0) right,
          arguments_given place ps os ys b.1 typed.1 fewer (nil_right first others h) (nil_right given rest q),
        )

    call_referring : (place : Place) (c : t.Call) (result : Option e.Lvalue) → rules.call_faults language gs s c (is_some result) ≡ [] →
        IsTaken language gs all rs (rules.result_of language gs s c.function) result → IsStatementReferring x rs (made.call gs place s c result)
    call_referring place c result h w =
        go (n.meaning gs s c.function.text) (meaning language x gs sorts ks rs s known c.function.text) (means_so s c.function.text)
        (nil_left function each inner) (nil_right (function ++ each)
        (rules.arguments_faults language gs s c.function.place (rules.parameters_of language gs s c.function) c.arguments) h) w
      where
        function : List Fault
        function = rules.function_faults language gs s c.function (is_some result) (length c.arguments)

        each : List Fault
        each = flat_map (rules.expression_faults language gs s) c.arguments

        inner : function ++ each ≡ []
        inner = nil_left (function ++ each)
            (rules.arguments_faults language gs s c.function.place (rules.parameters_of language gs s c.function) c.arguments) h

        arguments : List e.Placed
        arguments = map (made.placed gs s) c.arguments

        follow : AllByRecursion (PlacedFollows all rs) arguments
        follow = arguments_follow language x gs sorts ks rs s known c.arguments (nil_right function each inner)

        -- of the function of that number
        called : (number : ℕ) (gives : Option t.TypeName) (parameters : List t.TypeName) (k : FunctionIn x gs number gives parameters) →
            broken_if (not (length c.arguments == length parameters)) rule.Count c.function.place ≡ [] →
            rules.arguments_faults language gs s c.function.place parameters c.arguments ≡ [] → TakenBy x rs k.it result →
            IsCallReferring x rs number arguments result
        called number gives parameters k many a taken =
            let count = equal_counts (length c.arguments) (length parameters)
            (unbroken (not (length c.arguments == length parameters)) rule.Count c.function.place many) in
            subst (λ (o : Option p.Function). elim o as (λ _. Type 0) [
              | None ↦ Unit {0}
              | Some g ↦ AreGiven all rs g.refers arguments × elim result as (λ _. Type 0) [
                | None ↦ Unit {0}
                | Some target ↦ TargetFollows all rs target × IsResultGiven x rs g.refers g.result (target_refers all rs target)
              ]
            ]) (sym k.found) (
              arguments_given c.function.place parameters k.it.refers c.arguments k.refer k.typed count (nil_right function each inner) a,
              taken,
            )

        go : (m : n.Meaning) → MeaningIn x gs ks rs m → MeansSo m → ◌≡◌ {A = List Fault} (elim m [
          | n.IsUnknown ↦ broken rule.Unknown c.function.place
          | n.IsGlobal (n.Function number gives parameters) ↦
              broken_if (if is_some gives then not (is_some result) else is_some result) rule.WrongSort c.function.place ++ broken_if
              (not (length c.arguments == length parameters)) rule.Count c.function.place
          | _ ↦ broken rule.WrongSort c.function.place
        ]) [] → rules.arguments_faults language gs s c.function.place (elim m [
          | n.IsGlobal (n.Function number gives parameters) ↦ parameters
          | _ ↦ []
        ]) c.arguments ≡ [] → IsTaken language gs all rs (elim m [
          | n.IsGlobal (n.Function number (Some type_name) parameters) ↦ n.of_type gs type_name
          | _ ↦ n.Anything
        ]) result → IsStatementReferring x rs (elim m [
          | n.IsGlobal (n.Function number gives parameters) ↦ p.Call place c.function.place number (map (made.placed gs s) c.arguments) result
          | _ ↦ p.Call place c.function.place 0 (map (made.placed gs s) c.arguments) result
        ])
        go n.IsUnknown k r q a w = absurd (not_broken rule.Unknown c.function.place q)
        go (n.IsLocal l) k r q a w = absurd (not_broken rule.WrongSort c.function.place q)
        go (n.IsGlobal (n.Mutex number count)) k r q a w = absurd (not_broken rule.WrongSort c.function.place q)
        go (n.IsGlobal (n.Variable number type_name size each)) k r q a w = absurd (not_broken rule.WrongSort c.function.place q)
        go (n.IsGlobal (n.Function number None parameters)) k r q a w =
            let wrong = broken_if (is_some result) rule.WrongSort c.function.place in
            let many = broken_if (not (length c.arguments == length parameters)) rule.Count c.function.place in
            let none = sym (unbroken (is_some result) rule.WrongSort c.function.place (nil_left wrong many q)) in
            (follow, called number None parameters k (nil_right wrong many q) a (none_taken k.it result none))
        go (n.IsGlobal (n.Function number (Some type_name) parameters)) k r q a w =
            let wrong = broken_if (not (is_some result)) rule.WrongSort c.function.place in
            let many = broken_if (not (length c.arguments == length parameters)) rule.Count c.function.place in (
              follow,
              called number (Some type_name) parameters k (nil_right wrong many q) a
                  (some_taken k.it type_name result k.given_typed (r rs k.it k.found) w),
            )
        go (n.IsGlobal n.Thread) k r q a w = absurd (not_broken rule.WrongSort c.function.place q)

    -- the result of a call, for what refers so
    call_taken : (place name : Place) (c : t.Call) (to : n.Referring) (target : e.Lvalue) → rules.assigned_faults language gs s to name c ≡ [] →
        TargetFollows all rs target → RefersAs to (target_refers all rs target) → IsStatementReferring x rs (made.call gs place s c (Some target))
    call_taken place name c to target h follows so =
        let call = rules.call_faults language gs s c true in
        let fits = rules.gives_so language gs to (rules.result_of language gs s c.function) in
        let other = broken_if (not fits) rule.WrongSort name in
        let takes : Takes language gs all rs (rules.result_of language gs s c.function) target =
        record { follows = follows; to = to; so = so; fits = not_not fits (unbroken (not fits) rule.WrongSort name (nil_right call other h)) } in
        call_referring place c (Some target) (nil_left call other h) takes

    declaration_referring : (place : Place) (y : t.Declaration) → rules.declaration_faults language gs s y ≡ [] →
        slice_get rs (length s.kinds) ≡ Some (numbered (n.referred gs y.type_name)) → IsStatementReferring x rs (made.declaration_at gs place s y)
    declaration_referring place y h new = by y.initial (nil_right twice initial (nil_left (twice ++ initial) types h))
      where
        to : n.Referring
        to = n.of_type gs y.type_name

        local : e.Lvalue
        local = e.ToLocal y.place (length s.kinds) (n.kind_named y.type_name)

        twice : List Fault
        twice = rules.twice s.own y.name

        initial : List Fault
        initial = rules.initial_faults language gs s to y.name.place y.initial

        types : List Fault
        types = rules.type_name_faults language gs s y.type_name

        so : RefersAs to (slice_index_or rs (length s.kinds) None)
        so = subst (RefersAs to) (sym (index_of rs (length s.kinds) (numbered (n.referred gs y.type_name)) new))
            (type_refers gs y.type_name (type_in language gs s y.type_name (nil_right (twice ++ initial) types h)))

        by : (i : t.Initial) → rules.initial_faults language gs s to y.name.place i ≡ [] → IsStatementReferring x rs (elim i [
          | t.Absent ↦ p.Assign place local (record { place = y.place; expr = made.int 0 })
          | t.Value value ↦ p.Assign place local (made.placed gs s value)
          | t.Result c ↦ made.call gs place s c (Some local)
        ])
        by t.Absent k = (tt, tt, zero_given (slice_index_or rs (length s.kinds) None))
        by (t.Value value) k =
            let first = rules.expression_faults language gs s value in
            let given = rules.given_faults language gs s to y.name.place value in (
              tt,
              expr_follows language x gs sorts ks rs s known value (nil_left first given k),
              given_right language x gs sorts ks rs s known to (slice_index_or rs (length s.kinds) None) y.name.place value so (nil_left first given k)
                  (nil_right first given k),
            )
        by (t.Result c) k = call_taken place y.name.place c to local k tt so

  -- ---- Statements

  both_referring : (ys zs : p.Statements) → AreStatementsReferring x rs ys → AreStatementsReferring x rs zs →
      AreStatementsReferring x rs (made.statements_and ys zs)
  both_referring p.no_statement zs h k = k
  both_referring (p.statement_and y ys) zs h k = (h.0, both_referring ys zs h.1 k)

  assigned_right : (place : Place) (s : n.Scope) (y : t.Assignment) → Known gs ks rs s → rules.assignment_faults language gs s y ≡ [] →
      IsStatementReferring x rs (made.assignment_at gs place s y)
  assigned_right place s y known h = assignment_referring language x gs sorts ks rs s known place y h

  numeric_right : (s : n.Scope) (y : t.Expression) → Known gs ks rs s → rules.numeric_faults language gs s y ≡ [] → Follows all rs (made.expr gs s y)
  numeric_right s y known h = numeric_follows language x gs sorts ks rs s known y h

  first_referring : (place : Place) (s : n.Scope) (y : t.First) → Known gs ks rs s → Within (made.first_at gs place s y).scope ks rs →
      rules.first_faults language gs s y ≡ [] → AreStatementsReferring x rs (made.first_at gs place s y).made
  first_referring place s t.NoFirst known into h = tt
  first_referring place s (t.Declared y) known into h =
      (declaration_referring s known place y h (refers_declared gs ks rs s y.name.text y.type_name known.1 into), tt)
  first_referring place s (t.Assigned y) known into h = (assigned_right place s y known h, tt)

  last_referring : (place : Place) (s : n.Scope) (y : Option t.Assignment) → Known gs ks rs s → rules.last_faults language gs s y ≡ [] →
      AreStatementsReferring x rs (made.last_at gs place s y)
  last_referring place s None known h = tt
  last_referring place s (Some y) known h = (assigned_right place s y known h, tt)

  condition_follows : (place : Place) (s : n.Scope) (y : Option t.Expression) → Known gs ks rs s → rules.maybe_faults language gs s y ≡ [] →
      PlacedFollows all rs (made.condition_at gs place s y)
  condition_follows place s None known h = tt
  condition_follows place s (Some y) known h = numeric_right s y known h

  mutual
    statement_referring : (s : n.Scope) (y : t.Statement) → Known gs ks rs s → Within (made.statement gs s y).scope ks rs →
        rules.statement_faults language gs s y ≡ [] → AreStatementsReferring x rs (made.statement gs s y).made
    statement_referring s (t.BlockOf y) known into h = inside_referring s y known into h
    statement_referring s (t.Empty place) known into h = tt
    statement_referring s (t.Declare y) known into h =
        (declaration_referring s known y.place y h (refers_declared gs ks rs s y.name.text y.type_name known.1 into), tt)
    statement_referring s (t.Assign y) known into h = (assigned_right y.place s y known h, tt)
    statement_referring s (t.AssignResult y c) known into h =
        let target = rules.target_faults language gs s y in
        let to = rules.target_referring language gs s y in
        let name = (rules.target_name y).place in
        let assigned = rules.assigned_faults language gs s to name c in
        let first = nil_left target assigned h in (
          call_taken s known (made.target_place y) name c to (made.target gs s y) (nil_right target assigned h)
              (target_follows language x gs sorts ks rs s known y first) (target_right language x gs sorts ks rs s known y first),
          tt,
        )
    statement_referring s (t.CallOnly c) known into h = (call_referring s known c.function.place c None h tt, tt)
    statement_referring s (t.If place arms otherwise) known into h =
        let s' = (made.arms_of gs s arms).scope in
        let first = nil_left (rules.arms_faults language gs s arms) (rules.otherwise_faults language gs s' otherwise) h in
        let second = nil_right (rules.arms_faults language gs s arms) (rules.otherwise_faults language gs s' otherwise) h in
        let within = within_both s' (made.otherwise_of gs s' otherwise).scope ks rs (grow_otherwise gs s' otherwise) into in (
          (
            arms_referring s arms known within first,
            otherwise_referring s' otherwise (known_arms language x gs sorts ks rs s arms known) into second,
          ),
          tt,
        )
    statement_referring s (t.While place y body) known into h =
        let first = nil_left (rules.numeric_faults language gs s y) (rules.block_faults language gs s body) h in
        let second = nil_right (rules.numeric_faults language gs s y) (rules.block_faults language gs s body) h in
        ((numeric_right s y known first, inside_referring s body known into second), tt)
    statement_referring s (t.Do place body y) known into h =
        let s' = (made.inside gs s body).scope in
        let first = nil_left (rules.block_faults language gs s body) (rules.numeric_faults language gs s' y) h in
        let second = nil_right (rules.block_faults language gs s body) (rules.numeric_faults language gs s' y) h in
        ((inside_referring s body known into first, numeric_right s' y (known_inside language x gs sorts ks rs s body known) second), tt)
    statement_referring s (t.For place start y last body) known into h =
        let s0 = n.entered s in
        let s1 = (made.first_at gs place s0 start).scope in
        let s2 = (made.inside gs s1 body).scope in
        let maybe = rules.maybe_faults language gs s1 y in
        let after = rules.last_faults language gs s1 last in
        let inner = rules.block_faults language gs s1 body in
        let h0 = nil_left (rules.first_faults language gs s0 start) ((maybe ++ after) ++ inner) h in
        let h1 = nil_right (rules.first_faults language gs s0 start) ((maybe ++ after) ++ inner) h in
        let h2 = nil_left (maybe ++ after) inner h1 in
        let within = within_both s1 s2 ks rs (grow_inside gs s1 body) into in
        let known1 = known_first language x gs sorts ks rs place s0 start known within in
        let condition = condition_follows place s1 y known1 (nil_left maybe after h2) in
        let third = last_referring place s1 last known1 (nil_right maybe after h2) in
        let body_is = inside_referring s1 body known1 into (nil_right (maybe ++ after) inner h1) in
        let start_is = first_referring place s0 start known within h0 in
        both_referring (made.first_at gs place s0 start).made _ start_is ((condition, both_referring (made.inside gs s1 body).made _ body_is third), tt)
    statement_referring s (t.Lock place mutex key) known into h = (tt, tt)
    statement_referring s (t.Unlock place mutex key) known into h = (tt, tt)

    inside_referring : (s : n.Scope) (y : t.Block) → Known gs ks rs s → Within (made.inside gs s y).scope ks rs → rules.block_faults language gs s y ≡ [] →
        AreStatementsReferring x rs (made.inside gs s y).made
    inside_referring s (t.Braced opening ys closing) known into h = statements_referring (n.entered s) ys known into h

    pub statements_referring : (s : n.Scope) (ys : t.Statements) → Known gs ks rs s → Within (made.statements gs s ys).scope ks rs →
        rules.statements_faults language gs s ys ≡ [] → AreStatementsReferring x rs (made.statements gs s ys).made
    statements_referring s t.no_statement known into h = tt
    statements_referring s (t.statement_and y ys) known into h =
        let s' = (made.statement gs s y).scope in
        let first = nil_left (rules.statement_faults language gs s y) (rules.statements_faults language gs s' ys) h in
        let second = nil_right (rules.statement_faults language gs s y) (rules.statements_faults language gs s' ys) h in
        let within = within_both s' (made.statements gs s' ys).scope ks rs (grow_statements gs s' ys) into in
        both_referring (made.statement gs s y).made (made.statements gs s' ys).made (statement_referring s y known within first)
        (statements_referring s' ys (known_after language x gs sorts ks rs s y known within) into second)

    arms_referring : (s : n.Scope) (ys : t.Arms) → Known gs ks rs s → Within (made.arms_of gs s ys).scope ks rs → rules.arms_faults language gs s ys ≡ [] →
        AreArmsReferring x rs (made.arms_of gs s ys).made
    arms_referring s t.no_arm known into h = tt
    arms_referring s (t.arm_and y body rest) known into h =
        let s' = (made.inside gs s body).scope in
        let both = rules.numeric_faults language gs s y ++ rules.block_faults language gs s body in
        let first = nil_left both (rules.arms_faults language gs s' rest) h in
        let within = within_both s' (made.arms_of gs s' rest).scope ks rs (grow_arms gs s' rest) into in (
          numeric_right s y known (nil_left (rules.numeric_faults language gs s y) (rules.block_faults language gs s body) first),
          inside_referring s body known within (nil_right (rules.numeric_faults language gs s y) (rules.block_faults language gs s body) first),
          arms_referring s' rest (known_inside language x gs sorts ks rs s body known) into (nil_right both (rules.arms_faults language gs s' rest) h),
        )

    otherwise_referring : (s : n.Scope) (y : t.Otherwise) → Known gs ks rs s → Within (made.otherwise_of gs s y).scope ks rs →
        rules.otherwise_faults language gs s y ≡ [] → AreStatementsReferring x rs (made.otherwise_of gs s y).made
    otherwise_referring s t.Nothing known into h = tt
    otherwise_referring s (t.Else body) known into h = inside_referring s body known into h

-- ---- What functions give

module _ (language : Language) (x : p.Program) (gs : List n.Global) (sorts : AllByRecursion (λ (y : n.Global). SortIn x gs y.sort) gs)
    (ks : List Kind) (rs : List (Option ℕ)) (s : n.Scope) (known : Known gs ks rs s) where
  -- of a result's type
  pub returned_given : (os : List (Option ℕ)) (type_name : t.TypeName) (place : Place) (o : Option t.Return) → TypeIn gs type_name →
      elim o as (λ _. List Fault) [
        | None ↦ []
        | Some r ↦ rules.value_faults language gs s (Some type_name) place r.value
      ] ≡ [] → IsResultGiven x os rs (made.returned gs s (Some (n.kind_named type_name)) o) (numbered (n.referred gs type_name))
  returned_given os type_name place None typed h = tt
  returned_given os type_name place (Some r) typed h = by r.value h
    where
      by : (o : Option t.Expression) → rules.value_faults language gs s (Some type_name) place o ≡ [] →
          IsResultGiven x os rs (option_map (λ v. record { kind = n.kind_named type_name; value = made.placed gs s v }) o)
          (numbered (n.referred gs type_name))
      by None k = tt
      by (Some v) k = value_given language x gs sorts ks rs s known type_name place v typed k

  pub returned_follows : (type_name : Option t.TypeName) (place : Place) (o : Option t.Return) → elim o as (λ _. List Fault) [
    | None ↦ []
    | Some r ↦ rules.value_faults language gs s type_name place r.value
  ] ≡ [] → IsReturnedReferring x rs (made.returned gs s (option_map n.kind_named type_name) o)
  returned_follows None place o h = tt
  returned_follows (Some type_name) place None h = tt
  returned_follows (Some type_name) place (Some r) h = by r.value h
    where
      by : (o : Option t.Expression) → rules.value_faults language gs s (Some type_name) place o ≡ [] →
          IsReturnedReferring x rs (option_map (λ v. record { kind = n.kind_named type_name; value = made.placed gs s v }) o)
      by None k = tt
      by (Some v) k =
          expr_follows language x gs sorts ks rs s known v
          (nil_left (rules.expression_faults language gs s v) (rules.given_faults language gs s (n.of_type gs type_name) place v) k)
