-- What is made of statements without faults is well formed.
use Rattle.std.proofs.Common.{◌≡◌, refl, sym, ◌∙◌, subst, ℕ, List, [], ◌∷◌, ◌++◌, length, map, flat_map, Bool}
use Rattle.std.proofs.Common.{true, false, not, ◌==◌, is_some, if◌then◌else◌, Option, Some, None, arith}
use Rattle.std.specs.Prelude.{slice_get}
use Rattle.std.specs.List.{AllByRecursion}
use Rattle.std.proofs.lemmas.Bool.Decides.{nat_tests}
use Rattle.std.proofs.lemmas.List.{length-map}
use Rattle.ido_base.specs.declared.place.Place.{Place}
use Rattle.ido_ints.specs.declared.kinds.Kind.{Kind}
use Rattle.ido_ints.specs.declared.kinds.Kind.TheVariants.{Int}
use Rattle.c_tree.specs.declared.rule.Rule.TheVariants as rule
use Rattle.c_tree.specs.declared.language.Language.{Language}
use Rattle.c_tree.specs.Tokens.{Token}
use Rattle.c_tree.specs.Trees as t
use Rattle.c_tree.specs.Grammar as g
use Rattle.c_tree.specs.Exprs as e
use Rattle.c_tree.specs.Names as n
use Rattle.c_tree.specs.Programs as p
use Rattle.c_tree.specs.TypeRules as rules
use Rattle.c_tree.specs.TypeRules.{broken, broken_if}
use Rattle.c_tree.specs.Elaboration as made
use Rattle.c_tree.specs.LexicalScan.{Fault}
use Rattle.c_tree.specs.References.{Follows}
use Rattle.c_tree.specs.WellFormed.{IsDeclared, IsExpr, IsPlaced, IsTarget, IsLockName, IsResult, IsStatement, AreStatements, AreArms, HasProgramArm}
use Rattle.c_typer.proofs.EmptyFaults.{nil_left, nil_right, not_broken, unbroken}
use Rattle.c_typer.proofs.LocalsGrow.{Known, Within, within_both, beside_inside, beside_statement, kind_declared, known_declared}
use Rattle.c_typer.proofs.LocalsGrow.{grow_statements, grow_inside, grow_arms, grow_otherwise}
use Rattle.c_typer.proofs.MeaningsInPrograms.{IsNamedMutex, MeaningIn, SortIn, array_at, array_declared, count_in, declared_in, meaning_in, named_array}
use Rattle.c_typer.proofs.MeaningsInPrograms.{reference_at, single_at}
use Rattle.c_typer.proofs.NamesFollow.{named_follows, element_follows, address_follows}

-- ---- Blocks of arms, as they are spelled

module _ (language : Language) where
  abbrev Spelled : t.Arms → Type 0
  Spelled t.no_arm = Unit {0}
  Spelled (t.arm_and y body rest) = ((us : List Token) × g.block language body us) × Spelled rest

  spelled_more : (ys : t.Arms) (ts : List Token) → g.more_arms_of language ys ts → Spelled ys
  spelled_more t.no_arm ts d = tt
  spelled_more (t.arm_and y body rest) ts d = ((d.4.4.4.0, d.4.4.4.3), spelled_more rest d.4.4.4.1 d.4.4.4.4)

  spelled_arms : (ys : t.Arms) (ts : List Token) → g.arms_of language ys ts → Spelled ys
  spelled_arms t.no_arm ts d = absurd d
  spelled_arms (t.arm_and y body rest) ts d = ((d.4.4.0, d.4.4.3), spelled_more rest d.4.4.1 d.4.4.4)

-- ---- Tests

equal_bools : (a c : Bool) → (if a then not c else c) ≡ false → a ≡ c
equal_bools true true h = refl
equal_bools true false h = absurd (cc)
equal_bools false true h = absurd (cc)
equal_bools false false h = refl

pub equal_counts : (i j : ℕ) → not (i == j) ≡ false → i ≡ j
equal_counts i j h = grind (arith, nat_tests)

-- the whole text's names stand in the program, and locals are of these kinds, and refer so
module _ (language : Language) (x : p.Program) (gs : List n.Global) (sorts : AllByRecursion (λ (y : n.Global). SortIn x gs y.sort) gs)
    (ks : List Kind) (rs : List (Option ℕ)) where
  meaning : (s : n.Scope) (name : List ℕ) → Known gs ks rs s → MeaningIn x gs ks rs (n.meaning gs s name)
  meaning s name known = meaning_in language x gs sorts ks rs s name known

  -- ---- Expressions

  -- a name, with an index or without
  module _ (s : n.Scope) (known : Known gs ks rs s) where
    named_formed : (y : t.Name) → rules.use_faults language gs s y false ≡ [] → IsExpr x.variables ks (made.named gs s y)
    named_formed y h = go (n.meaning gs s y.text) (meaning s y.text known) h
      where
        go : (m : n.Meaning) → MeaningIn x gs ks rs m → ◌≡◌ {A = List Fault} (elim m [
          | n.IsUnknown ↦ broken rule.Unknown y.place
          | n.IsLocal l ↦ broken_if false rule.WrongSort y.place
          | n.IsGlobal (n.Variable number type_name length each) ↦ broken_if (if is_some length then not false else false) rule.WrongSort y.place
          | _ ↦ broken rule.WrongSort y.place
        ]) [] → IsExpr x.variables ks (elim m [
          | n.IsLocal l ↦ e.Local l.number l.kind
          | n.IsGlobal (n.Variable number type_name length each) ↦ e.Variable y.place number (n.kind_named type_name)
          | _ ↦ made.int 0
        ])
        go n.IsUnknown k q = absurd (not_broken rule.Unknown y.place q)
        go (n.IsLocal l) k q = k.kind
        go (n.IsGlobal (n.Mutex number count)) k q = tt
        go (n.IsGlobal (n.Variable number type_name length each)) k q =
            subst (IsDeclared x.variables number (n.kind_named type_name)) (equal_bools (is_some length) false
            (unbroken (if is_some length then not false else false) rule.WrongSort y.place q)) (declared_in x gs number type_name length each k)
        go (n.IsGlobal (n.Function number gives parameters)) k q = tt
        go (n.IsGlobal n.Thread) k q = tt

    element_formed : (y : t.Name) (place : Place) (index : e.Expr) → rules.use_faults language gs s y true ≡ [] → IsExpr x.variables ks index →
        IsExpr x.variables ks (made.element gs s y place index)
    element_formed y place index h i = go (n.meaning gs s y.text) (meaning s y.text known) h
      where
        go : (m : n.Meaning) → MeaningIn x gs ks rs m → ◌≡◌ {A = List Fault} (elim m [
          | n.IsUnknown ↦ broken rule.Unknown y.place
          | n.IsLocal l ↦ broken_if true rule.WrongSort y.place
          | n.IsGlobal (n.Variable number type_name length each) ↦ broken_if (if is_some length then not true else true) rule.WrongSort y.place
          | _ ↦ broken rule.WrongSort y.place
        ]) [] → IsExpr x.variables ks (elim m [
          | n.IsGlobal (n.Variable number type_name length each) ↦ e.Element y.place number (n.kind_named type_name) place index
          | _ ↦ made.int 0
        ])
        go n.IsUnknown k q = tt
        go (n.IsLocal l) k q = tt
        go (n.IsGlobal (n.Mutex number count)) k q = tt
        go (n.IsGlobal (n.Variable number type_name length each)) k q = (
          subst (IsDeclared x.variables number (n.kind_named type_name)) (equal_bools (is_some length) true
              (unbroken (if is_some length then not true else true) rule.WrongSort y.place q)) (declared_in x gs number type_name length each k),
          i,
        )
        go (n.IsGlobal (n.Function number gives parameters)) k q = tt
        go (n.IsGlobal n.Thread) k q = tt

    address_formed : (y : t.Name) (place : Place) (index : e.Expr) → rules.array_faults language gs s y ≡ [] → IsExpr x.variables ks index →
        IsExpr x.variables ks (made.address gs s y place index)
    address_formed y place index h i = go (n.meaning gs s y.text) (meaning s y.text known) h
      where
        go : (m : n.Meaning) → MeaningIn x gs ks rs m → ◌≡◌ {A = List Fault} (elim m [
          | n.IsUnknown ↦ broken rule.Unknown y.place
          | n.IsGlobal sort ↦ broken_if (not (is_some (n.array_of gs (Some sort)))) rule.WrongSort y.place
          | n.IsLocal l ↦ broken rule.WrongSort y.place
        ]) [] → IsExpr x.variables ks (elim m [
          | n.IsGlobal (n.Variable number type_name length each) ↦ e.Address number place index
          | _ ↦ made.int 0
        ])
        go n.IsUnknown k q = tt
        go (n.IsLocal l) k q = tt
        go (n.IsGlobal (n.Mutex number count)) k q = tt
        go (n.IsGlobal (n.Variable number type_name None each)) k q = absurd (not_broken rule.WrongSort y.place q)
        go (n.IsGlobal (n.Variable number type_name (Some size) true)) k q = absurd (not_broken rule.WrongSort y.place q)
        go (n.IsGlobal (n.Variable number type_name (Some size) false)) k q = (named_array x gs sorts number type_name size k, i)
        go (n.IsGlobal (n.Function number gives parameters)) k q = tt
        go (n.IsGlobal n.Thread) k q = tt

    followed_formed : (place : Place) (y : t.Name) → rules.reference_faults language gs s y ≡ [] → IsExpr x.variables ks (made.followed gs s place y)
    followed_formed place y h =
        let at = reference_at language x gs sorts ks rs s known y h in
        subst (λ (o : Option n.Reference). IsExpr x.variables ks (elim o [
          | Some z ↦ e.Element place z.array.number z.array.kind place (made.referent gs place z).expr
          | None ↦ made.int 0
        ])) (sym at.is) (array_declared x at.it.array at.array, at.kind)

    target_followed_formed : (place : Place) (y : t.Name) → rules.reference_faults language gs s y ≡ [] →
        IsTarget x.variables ks (made.target_followed gs s place y)
    target_followed_formed place y h =
        let at = reference_at language x gs sorts ks rs s known y h in
        subst (λ (o : Option n.Reference). IsTarget x.variables ks (elim o [
          | Some z ↦ e.ToElement place z.array.number z.array.kind (made.referent gs place z)
          | None ↦ e.ToLocal y.place 0 Int
        ])) (sym at.is) (array_declared x at.it.array at.array, at.kind)

    target_named_formed : (y : t.Name) → rules.use_faults language gs s y false ≡ [] → IsTarget x.variables ks (made.target_named gs s y)
    target_named_formed y h = go (n.meaning gs s y.text) (meaning s y.text known) h
      where
        go : (m : n.Meaning) → MeaningIn x gs ks rs m → ◌≡◌ {A = List Fault} (elim m [
          | n.IsUnknown ↦ broken rule.Unknown y.place
          | n.IsLocal l ↦ broken_if false rule.WrongSort y.place
          | n.IsGlobal (n.Variable number type_name length each) ↦ broken_if (if is_some length then not false else false) rule.WrongSort y.place
          | _ ↦ broken rule.WrongSort y.place
        ]) [] → IsTarget x.variables ks (elim m [
          | n.IsLocal l ↦ e.ToLocal y.place l.number l.kind
          | n.IsGlobal (n.Variable number type_name length each) ↦ e.ToVariable y.place number (n.kind_named type_name)
          | _ ↦ e.ToLocal y.place 0 Int
        ])
        go n.IsUnknown k q = absurd (not_broken rule.Unknown y.place q)
        go (n.IsLocal l) k q = k.kind
        go (n.IsGlobal (n.Mutex number count)) k q = absurd (not_broken rule.WrongSort y.place q)
        go (n.IsGlobal (n.Variable number type_name length each)) k q =
            subst (IsDeclared x.variables number (n.kind_named type_name)) (equal_bools (is_some length) false
            (unbroken (if is_some length then not false else false) rule.WrongSort y.place q)) (declared_in x gs number type_name length each k)
        go (n.IsGlobal (n.Function number gives parameters)) k q = absurd (not_broken rule.WrongSort y.place q)
        go (n.IsGlobal n.Thread) k q = absurd (not_broken rule.WrongSort y.place q)

    target_element_formed : (y : t.Name) (index : e.Placed) → rules.use_faults language gs s y true ≡ [] → IsExpr x.variables ks index.expr →
        IsTarget x.variables ks (made.target_element gs s y index)
    target_element_formed y index h i = go (n.meaning gs s y.text) (meaning s y.text known) h
      where
        go : (m : n.Meaning) → MeaningIn x gs ks rs m → ◌≡◌ {A = List Fault} (elim m [
          | n.IsUnknown ↦ broken rule.Unknown y.place
          | n.IsLocal l ↦ broken_if true rule.WrongSort y.place
          | n.IsGlobal (n.Variable number type_name length each) ↦ broken_if (if is_some length then not true else true) rule.WrongSort y.place
          | _ ↦ broken rule.WrongSort y.place
        ]) [] → IsTarget x.variables ks (elim m [
          | n.IsGlobal (n.Variable number type_name length each) ↦ e.ToElement y.place number (n.kind_named type_name) index
          | _ ↦ e.ToLocal y.place 0 Int
        ])
        go n.IsUnknown k q = absurd (not_broken rule.Unknown y.place q)
        go (n.IsLocal l) k q = absurd (not_broken rule.WrongSort y.place q)
        go (n.IsGlobal (n.Mutex number count)) k q = absurd (not_broken rule.WrongSort y.place q)
        go (n.IsGlobal (n.Variable number type_name length each)) k q = (
          subst (IsDeclared x.variables number (n.kind_named type_name)) (equal_bools (is_some length) true
              (unbroken (if is_some length then not true else true) rule.WrongSort y.place q)) (declared_in x gs number type_name length each k),
          i,
        )
        go (n.IsGlobal (n.Function number gives parameters)) k q = absurd (not_broken rule.WrongSort y.place q)
        go (n.IsGlobal n.Thread) k q = absurd (not_broken rule.WrongSort y.place q)

    pub expr_formed : (y : t.Expression) → rules.expression_faults language gs s y ≡ [] → IsExpr x.variables ks (made.expr gs s y)
    expr_formed (t.Number place value) h = tt
    expr_formed (t.Named y) h = named_formed y h
    expr_formed (t.Element array index) h =
        let first = rules.use_faults language gs s array true in
        let inner = nil_left (first ++ rules.expression_faults language gs s index) (rules.number_faults language gs s index) h in
        element_formed array (made.first_place index) (made.expr gs s index)
        (nil_left first (rules.expression_faults language gs s index) inner)
        (expr_formed index (nil_right first (rules.expression_faults language gs s index) inner))
    expr_formed (t.Null place) h = tt
    expr_formed (t.Address place array index) h =
        let full = rules.only_full language place in
        let first = rules.array_faults language gs s array in
        let second = rules.expression_faults language gs s index in
        let inner = nil_left ((full ++ first) ++ second) (rules.number_faults language gs s index) h in
        address_formed array (made.first_place index) (made.expr gs s index) (nil_right full first (nil_left (full ++ first) second inner))
        (expr_formed index (nil_right (full ++ first) second inner))
    expr_formed (t.Referent place reference) h =
        followed_formed place reference (nil_right (rules.only_full language place) (rules.reference_faults language gs s reference) h)
    expr_formed (t.Parenthesised place inner) h = expr_formed inner h
    expr_formed (t.Unary place operator operand) h =
        expr_formed operand (nil_left (rules.expression_faults language gs s operand) (rules.number_faults language gs s operand) h)
    expr_formed (t.Cast place kind operand) h =
        expr_formed operand (nil_left (rules.expression_faults language gs s operand) (rules.number_faults language gs s operand) h)
    expr_formed (t.Binary operator left right) h =
        let first = rules.expression_faults language gs s left in
        let second = rules.expression_faults language gs s right in
        let both = nil_left (first ++ second) (rules.operand_faults language gs s operator left right) h in
        (expr_formed left (nil_left first second both), expr_formed right (nil_right first second both))
    expr_formed (t.Conditional condition chosen otherwise) h =
        let first = rules.expression_faults language gs s condition in
        let second = rules.expression_faults language gs s chosen in
        let third = rules.expression_faults language gs s otherwise in
        let all = (first ++ second) ++ third in
        let told = rules.number_faults language gs s condition in
        let more = rules.number_faults language gs s chosen in
        let each = nil_left all told (nil_left (all ++ told) more (nil_left ((all ++ told) ++ more) (rules.number_faults language gs s otherwise) h)) in
        let both = nil_left (first ++ second) third each in (
          expr_formed condition (nil_left first second both),
          expr_formed chosen (nil_right first second both),
          expr_formed otherwise (nil_right (first ++ second) third each),
        )

    pub numeric_formed : (y : t.Expression) → rules.numeric_faults language gs s y ≡ [] → IsExpr x.variables ks (made.expr gs s y)
    numeric_formed y h = expr_formed y (nil_left (rules.expression_faults language gs s y) (rules.number_faults language gs s y) h)

    -- ---- Assignments and calls

    target_formed : (y : t.Lvalue) → rules.target_faults language gs s y ≡ [] → IsTarget x.variables ks (made.target gs s y)
    target_formed (t.Target y None) h = target_named_formed y (nil_left (rules.use_faults language gs s y false) [] h)
    target_formed (t.Target y (Some index)) h =
        target_element_formed y (made.placed gs s index) (nil_left (rules.use_faults language gs s y true) (rules.numeric_faults language gs s index) h)
        (numeric_formed index (nil_right (rules.use_faults language gs s y true) (rules.numeric_faults language gs s index) h))
    target_formed (t.Followed place reference) h =
        target_followed_formed place reference (nil_right (rules.only_full language place) (rules.reference_faults language gs s reference) h)

    before_formed : (y : t.Lvalue) → rules.target_faults language gs s y ≡ [] → IsExpr x.variables ks (made.before gs s y)
    before_formed (t.Target y None) h = named_formed y (nil_left (rules.use_faults language gs s y false) [] h)
    before_formed (t.Target y (Some index)) h =
        element_formed y (made.first_place index) (made.expr gs s index)
        (nil_left (rules.use_faults language gs s y true) (rules.numeric_faults language gs s index) h)
        (numeric_formed index (nil_right (rules.use_faults language gs s y true) (rules.numeric_faults language gs s index) h))
    before_formed (t.Followed place reference) h =
        followed_formed place reference (nil_right (rules.only_full language place) (rules.reference_faults language gs s reference) h)

    changed_formed : (y : t.Lvalue) (c : t.Change) → rules.target_faults language gs s y ≡ [] → rules.change_faults language gs s y c ≡ [] →
        IsPlaced x.variables ks (made.changed gs s y c)
    changed_formed y (t.Set value) h k =
        expr_formed value (nil_left (rules.expression_faults language gs s value)
        (rules.given_faults language gs s (rules.target_referring language gs s y) (rules.target_name y).place value) k)
    changed_formed y (t.Update operator value) h k =
        (before_formed y h, numeric_formed value (nil_right (rules.numeric_target_faults language gs s y) (rules.numeric_faults language gs s value) k))
    changed_formed y t.Increment h k = (before_formed y h, tt)
    changed_formed y t.Decrement h k = (before_formed y h, tt)

    assignment_formed : (place : Place) (y : t.Assignment) → rules.assignment_faults language gs s y ≡ [] → IsStatement x ks (made.assignment_at gs place s y)
    assignment_formed place y h =
        let target = rules.target_faults language gs s y.target in
        let change = rules.change_faults language gs s y.target y.change in
        let first = nil_left target change h in
        (target_formed y.target first, changed_formed y.target y.change first (nil_right target change h))

    arguments_formed : (ys : List t.Expression) → flat_map (rules.expression_faults language gs s) ys ≡ [] →
        AllByRecursion (IsPlaced x.variables ks) (map (made.placed gs s) ys)
    arguments_formed [] h = tt
    arguments_formed (y ∷ ys) h = (
      expr_formed y (nil_left (rules.expression_faults language gs s y) (flat_map (rules.expression_faults language gs s) ys) h),
      arguments_formed ys (nil_right (rules.expression_faults language gs s y) (flat_map (rules.expression_faults language gs s) ys) h),
    )

    call_formed : (place : Place) (c : t.Call) (result : Option e.Lvalue) → rules.call_faults language gs s c (is_some result) ≡ [] → IsResult x ks result →
        IsStatement x ks (made.call gs place s c result)
    call_formed place c result h r =
        go (n.meaning gs s c.function.text) (meaning s c.function.text known)
        (nil_left function arguments inner)
      where
        function : List Fault
        function = rules.function_faults language gs s c.function (is_some result) (length c.arguments)

        arguments : List Fault
        arguments = flat_map (rules.expression_faults language gs s) c.arguments

        inner : function ++ arguments ≡ []
        inner = nil_left (function ++ arguments)
            (rules.arguments_faults language gs s c.function.place (rules.parameters_of language gs s c.function) c.arguments) h

        passed : AllByRecursion (IsPlaced x.variables ks) (map (made.placed gs s) c.arguments)
        passed = arguments_formed c.arguments (nil_right function arguments inner)

        go : (m : n.Meaning) → MeaningIn x gs ks rs m → ◌≡◌ {A = List Fault} (elim m [
          | n.IsUnknown ↦ broken rule.Unknown c.function.place
          | n.IsGlobal (n.Function number gives parameters) ↦
              broken_if (if is_some gives then not (is_some result) else is_some result) rule.WrongSort c.function.place ++ broken_if
              (not (length c.arguments == length parameters)) rule.Count c.function.place
          | _ ↦ broken rule.WrongSort c.function.place
        ]) [] → IsStatement x ks (elim m [
          | n.IsGlobal (n.Function number gives parameters) ↦ p.Call place c.function.place number (map (made.placed gs s) c.arguments) result
          | _ ↦ p.Call place c.function.place 0 (map (made.placed gs s) c.arguments) result
        ])
        go n.IsUnknown k q = absurd (not_broken rule.Unknown c.function.place q)
        go (n.IsLocal l) k q = absurd (not_broken rule.WrongSort c.function.place q)
        go (n.IsGlobal (n.Mutex number count)) k q = absurd (not_broken rule.WrongSort c.function.place q)
        go (n.IsGlobal (n.Variable number type_name length each)) k q = absurd (not_broken rule.WrongSort c.function.place q)
        go (n.IsGlobal (n.Function number gives parameters)) k q =
            let wrong = broken_if (if is_some gives then not (is_some result) else is_some result) rule.WrongSort c.function.place in
            let many = broken_if (not (length c.arguments == length parameters)) rule.Count c.function.place in
            let same = equal_bools (is_some gives) (is_some result)
            (unbroken (if is_some gives then not (is_some result) else is_some result) rule.WrongSort c.function.place (nil_left wrong many q)) in
            let count = equal_counts (length c.arguments) (length parameters)
            (unbroken (not (length c.arguments == length parameters)) rule.Count c.function.place (nil_right wrong many q)) in
            (record { it = k.it; found = k.found; count = length-map c.arguments (made.placed gs s) ∙ count ∙ k.count; gives = k.gives ∙ same }, passed, r)
        go (n.IsGlobal n.Thread) k q = absurd (not_broken rule.WrongSort c.function.place q)

    declaration_formed : (place : Place) (y : t.Declaration) → rules.declaration_faults language gs s y ≡ [] →
        slice_get ks (length s.kinds) ≡ Some (n.kind_named y.type_name) →
        IsStatement x ks (made.declaration_at gs place s y)
    declaration_formed place y h new =
        let twice = rules.twice s.own y.name in
        let initial = rules.initial_faults language gs s to y.name.place y.initial in
        go y.initial (nil_right twice initial (nil_left (twice ++ initial) (rules.type_name_faults language gs s y.type_name) h))
      where
        to : n.Referring
        to = n.of_type gs y.type_name

        local : e.Lvalue
        local = e.ToLocal y.place (length s.kinds) (n.kind_named y.type_name)

        go : (i : t.Initial) → rules.initial_faults language gs s to y.name.place i ≡ [] → IsStatement x ks (elim i [
          | t.Absent ↦ p.Assign place local (record { place = y.place; expr = made.int 0 })
          | t.Value value ↦ p.Assign place local (made.placed gs s value)
          | t.Result c ↦ made.call gs place s c (Some local)
        ])
        go t.Absent q = (new, tt)
        go (t.Value value) q =
            (new, expr_formed value (nil_left (rules.expression_faults language gs s value) (rules.given_faults language gs s to y.name.place value) q))
        go (t.Result c) q = call_formed place c (Some local) (nil_left (rules.call_faults language gs s c true)
            (broken_if (not (rules.gives_so language gs to (rules.result_of language gs s c.function))) rule.WrongSort y.name.place) q) new

    -- a mutex, or an array of them where the name has a key
    pub lock_formed : (y : t.Name) (keyed : Bool) → rules.mutex_faults language gs s y keyed ≡ [] →
        IsNamedMutex x.mutexes (made.mutex_number gs s y) (count_in (n.meaning gs s y.text)) keyed
    lock_formed y keyed h = go (n.meaning gs s y.text) (meaning s y.text known) h
      where
        go : (m : n.Meaning) → MeaningIn x gs ks rs m → ◌≡◌ {A = List Fault} (elim m [
          | n.IsUnknown ↦ broken rule.Unknown y.place
          | n.IsGlobal (n.Mutex number count) ↦ broken_if (if is_some count then not keyed else keyed) rule.WrongSort y.place
          | _ ↦ broken rule.WrongSort y.place
        ]) [] → IsNamedMutex x.mutexes (elim m [
          | n.IsGlobal (n.Mutex number count) ↦ number
          | _ ↦ 0
        ]) (count_in m) keyed
        go n.IsUnknown k q = absurd (not_broken rule.Unknown y.place q)
        go (n.IsLocal l) k q = absurd (not_broken rule.WrongSort y.place q)
        go (n.IsGlobal (n.Mutex number count)) k q =
            let same = equal_bools (is_some count) keyed (unbroken (if is_some count then not keyed else keyed) rule.WrongSort y.place q) in
            record { there = k; array = same }
        go (n.IsGlobal (n.Variable number type_name length each)) k q = absurd (not_broken rule.WrongSort y.place q)
        go (n.IsGlobal (n.Function number gives parameters)) k q = absurd (not_broken rule.WrongSort y.place q)
        go (n.IsGlobal n.Thread) k q = absurd (not_broken rule.WrongSort y.place q)

    -- ---- Keys

    -- a name in a key is a local's
    key_named : (y : t.Name) → rules.use_faults language gs s y false ≡ [] → rules.persistent_faults language gs s y ≡ [] → IsExpr [] ks (made.named gs s y)
    key_named y h k = go (n.meaning gs s y.text) (meaning s y.text known) h k
      where
        go : (m : n.Meaning) → MeaningIn x gs ks rs m → ◌≡◌ {A = List Fault} (elim m [
          | n.IsUnknown ↦ broken rule.Unknown y.place
          | n.IsLocal l ↦ broken_if false rule.WrongSort y.place
          | n.IsGlobal (n.Variable number type_name length each) ↦ broken_if (if is_some length then not false else false) rule.WrongSort y.place
          | _ ↦ broken rule.WrongSort y.place
        ]) [] → ◌≡◌ {A = List Fault} (elim m [
          | n.IsGlobal (n.Variable number type_name length each) ↦ broken rule.WrongSort y.place
          | _ ↦ []
        ]) [] → IsExpr [] ks (elim m [
          | n.IsLocal l ↦ e.Local l.number l.kind
          | n.IsGlobal (n.Variable number type_name length each) ↦ e.Variable y.place number (n.kind_named type_name)
          | _ ↦ made.int 0
        ])
        go n.IsUnknown i q none = absurd (not_broken rule.Unknown y.place q)
        go (n.IsLocal l) i q none = i.kind
        go (n.IsGlobal (n.Mutex number count)) i q none = tt
        go (n.IsGlobal (n.Variable number type_name length each)) i q none = absurd (not_broken rule.WrongSort y.place none)
        go (n.IsGlobal (n.Function number gives parameters)) i q none = tt
        go (n.IsGlobal n.Thread) i q none = tt

    -- an element would be one of a persistent variable
    key_element : (y : t.Name) (place : Place) (index : e.Expr) → rules.persistent_faults language gs s y ≡ [] → IsExpr [] ks (made.element gs s y place index)
    key_element y place index k = go (n.meaning gs s y.text) k
      where
        go : (m : n.Meaning) → ◌≡◌ {A = List Fault} (elim m [
          | n.IsGlobal (n.Variable number type_name length each) ↦ broken rule.WrongSort y.place
          | _ ↦ []
        ]) [] → IsExpr [] ks (elim m [
          | n.IsGlobal (n.Variable number type_name length each) ↦ e.Element y.place number (n.kind_named type_name) place index
          | _ ↦ made.int 0
        ])
        go n.IsUnknown none = tt
        go (n.IsLocal l) none = tt
        go (n.IsGlobal (n.Mutex number count)) none = tt
        go (n.IsGlobal (n.Variable number type_name length each)) none = absurd (not_broken rule.WrongSort y.place none)
        go (n.IsGlobal (n.Function number gives parameters)) none = tt
        go (n.IsGlobal n.Thread) none = tt

    -- nor is an element's address taken
    key_address : (y : t.Name) (place : Place) (index : e.Expr) → rules.persistent_faults language gs s y ≡ [] →
        IsExpr [] ks (made.address gs s y place index)
    key_address y place index k = go (n.meaning gs s y.text) k
      where
        go : (m : n.Meaning) → ◌≡◌ {A = List Fault} (elim m [
          | n.IsGlobal (n.Variable number type_name length each) ↦ broken rule.WrongSort y.place
          | _ ↦ []
        ]) [] → IsExpr [] ks (elim m [
          | n.IsGlobal (n.Variable number type_name length each) ↦ e.Address number place index
          | _ ↦ made.int 0
        ])
        go n.IsUnknown none = tt
        go (n.IsLocal l) none = tt
        go (n.IsGlobal (n.Mutex number count)) none = tt
        go (n.IsGlobal (n.Variable number type_name length each)) none = absurd (not_broken rule.WrongSort y.place none)
        go (n.IsGlobal (n.Function number gives parameters)) none = tt
        go (n.IsGlobal n.Thread) none = tt

    key_formed : (y : t.Expression) → rules.expression_faults language gs s y ≡ [] → rules.shared_faults language gs s y ≡ [] → IsExpr [] ks (made.expr gs s y)
    key_formed (t.Number place value) h k = tt
    key_formed (t.Named y) h k = key_named y h k
    key_formed (t.Element array index) h k =
        key_element array (made.first_place index) (made.expr gs s index)
        (nil_left (rules.persistent_faults language gs s array) (rules.shared_faults language gs s index) k)
    key_formed (t.Null place) h k = tt
    key_formed (t.Address place array index) h k =
        key_address array (made.first_place index) (made.expr gs s index)
        (nil_left (rules.persistent_faults language gs s array) (rules.shared_faults language gs s index) k)
    key_formed (t.Referent place reference) h k = absurd (not_broken rule.WrongSort place k)
    key_formed (t.Parenthesised place inner) h k = key_formed inner h k
    key_formed (t.Unary place operator operand) h k =
        key_formed operand (nil_left (rules.expression_faults language gs s operand) (rules.number_faults language gs s operand) h) k
    key_formed (t.Cast place kind operand) h k =
        key_formed operand (nil_left (rules.expression_faults language gs s operand) (rules.number_faults language gs s operand) h) k
    key_formed (t.Binary operator left right) h k =
        let first = rules.expression_faults language gs s left in
        let second = rules.expression_faults language gs s right in
        let both = nil_left (first ++ second) (rules.operand_faults language gs s operator left right) h in
        let one = rules.shared_faults language gs s left in
        let other = rules.shared_faults language gs s right in
        (key_formed left (nil_left first second both) (nil_left one other k), key_formed right (nil_right first second both) (nil_right one other k))
    key_formed (t.Conditional condition chosen otherwise) h k =
        let first = rules.expression_faults language gs s condition in
        let second = rules.expression_faults language gs s chosen in
        let third = rules.expression_faults language gs s otherwise in
        let all = (first ++ second) ++ third in
        let told = rules.number_faults language gs s condition in
        let more = rules.number_faults language gs s chosen in
        let each = nil_left all told (nil_left (all ++ told) more (nil_left ((all ++ told) ++ more) (rules.number_faults language gs s otherwise) h)) in
        let both = nil_left (first ++ second) third each in
        let one = rules.shared_faults language gs s condition in
        let two = rules.shared_faults language gs s chosen in
        let three = rules.shared_faults language gs s otherwise in
        let shared = nil_left (one ++ two) three k in (
          key_formed condition (nil_left first second both) (nil_left one two shared),
          key_formed chosen (nil_right first second both) (nil_right one two shared),
          key_formed otherwise (nil_right (first ++ second) third each) (nil_right (one ++ two) three k),
        )

    key_follows : (y : t.Expression) → rules.shared_faults language gs s y ≡ [] → Follows [] [] (made.expr gs s y)
    key_follows (t.Number place value) k = tt
    key_follows (t.Named y) k = named_follows [] [] y.place (n.meaning gs s y.text)
    key_follows (t.Element array index) k =
        element_follows [] [] array.place (made.first_place index) (made.expr gs s index) (n.meaning gs s array.text)
        (key_follows index (nil_right (rules.persistent_faults language gs s array) (rules.shared_faults language gs s index) k))
    key_follows (t.Null place) k = tt
    key_follows (t.Address place array index) k =
        address_follows [] [] (made.first_place index) (made.expr gs s index) (n.meaning gs s array.text)
        (key_follows index (nil_right (rules.persistent_faults language gs s array) (rules.shared_faults language gs s index) k))
    key_follows (t.Referent place reference) k = absurd (not_broken rule.WrongSort place k)
    key_follows (t.Parenthesised place inner) k = key_follows inner k
    key_follows (t.Unary place operator operand) k = key_follows operand k
    key_follows (t.Cast place kind operand) k = key_follows operand k
    key_follows (t.Binary operator left right) k =
        let one = rules.shared_faults language gs s left in
        let other = rules.shared_faults language gs s right in
        (key_follows left (nil_left one other k), key_follows right (nil_right one other k))
    key_follows (t.Conditional condition chosen otherwise) k =
        let one = rules.shared_faults language gs s condition in
        let two = rules.shared_faults language gs s chosen in
        let three = rules.shared_faults language gs s otherwise in
        let shared = nil_left (one ++ two) three k in
        (key_follows condition (nil_left one two shared), key_follows chosen (nil_right one two shared), key_follows otherwise (nil_right (one ++ two) three k))

    name_formed : (y : t.Name) (key : Option t.Expression) → rules.lock_faults language gs s y key ≡ [] → IsLockName x.mutexes ks (made.lock_name gs s y key)
    name_formed y None h =
        let named = lock_formed y false (nil_left (rules.mutex_faults language gs s y false) [] h) in
        single_at x.mutexes (made.mutex_number gs s y) (count_in (n.meaning gs s y.text)) named.there named.array
    name_formed y (Some key) h =
        let mutex = rules.mutex_faults language gs s y true in
        let reads = rules.expression_faults language gs s key in
        let numeric = rules.numeric_faults language gs s key in
        let shared = rules.shared_faults language gs s key in
        let named = lock_formed y true (nil_left mutex (numeric ++ shared) h) in
        let keys = nil_right mutex (numeric ++ shared) h in
        let sound = nil_left reads (rules.number_faults language gs s key) (nil_left numeric shared keys) in (
          array_at x.mutexes (made.mutex_number gs s y) (count_in (n.meaning gs s y.text)) named.there named.array,
          key_formed key sound (nil_right numeric shared keys),
          key_follows key (nil_right numeric shared keys),
        )

  -- ---- Statements

  both_formed : (ys zs : p.Statements) → AreStatements x ks ys → AreStatements x ks zs → AreStatements x ks (made.statements_and ys zs)
  both_formed p.no_statement zs h k = k
  both_formed (p.statement_and y ys) zs h k = (h.0, both_formed ys zs h.1 k)

  -- ---- What is known after a statement

  pub known_first : (place : Place) (s : n.Scope) (y : t.First) → Known gs ks rs s → Within (made.first_at gs place s y).scope ks rs →
      Known gs ks rs (made.first_at gs place s y).scope
  known_first place s t.NoFirst known into = known
  known_first place s (t.Declared y) known into = known_declared gs ks rs s y.name.text y.type_name known into
  known_first place s (t.Assigned y) known into = known

  pub known_inside : (s : n.Scope) (y : t.Block) → Known gs ks rs s → Known gs ks rs (made.inside gs s y).scope
  known_inside s (t.Braced opening ys closing) known = (known.0, beside_inside gs s (t.Braced opening ys closing) known.1)

  pub known_arms : (s : n.Scope) (ys : t.Arms) → Known gs ks rs s → Known gs ks rs (made.arms_of gs s ys).scope
  known_arms s t.no_arm known = known
  known_arms s (t.arm_and y body rest) known = known_arms (made.inside gs s body).scope rest (known_inside s body known)

  known_otherwise : (s : n.Scope) (y : t.Otherwise) → Known gs ks rs s → Known gs ks rs (made.otherwise_of gs s y).scope
  known_otherwise s t.Nothing known = known
  known_otherwise s (t.Else body) known = known_inside s body known

  pub known_after : (s : n.Scope) (y : t.Statement) → Known gs ks rs s → Within (made.statement gs s y).scope ks rs →
      Known gs ks rs (made.statement gs s y).scope
  known_after s (t.BlockOf y) known into = known_inside s y known
  known_after s (t.Empty place) known into = known
  known_after s (t.Declare y) known into = known_declared gs ks rs s y.name.text y.type_name known into
  known_after s (t.Assign y) known into = known
  known_after s (t.AssignResult y c) known into = known
  known_after s (t.CallOnly c) known into = known
  known_after s (t.If place arms otherwise) known into = known_otherwise (made.arms_of gs s arms).scope otherwise (known_arms s arms known)
  known_after s (t.While place y body) known into = known_inside s body known
  known_after s (t.Do place body y) known into = known_inside s body known
  known_after s (t.For place start y last body) known into = (known.0, beside_statement gs s (t.For place start y last body) known.1)
  known_after s (t.Lock place mutex key) known into = known
  known_after s (t.Unlock place mutex key) known into = known

  pub known_all : (s : n.Scope) (ys : t.Statements) → Known gs ks rs s → Within (made.statements gs s ys).scope ks rs →
      Known gs ks rs (made.statements gs s ys).scope
  known_all s t.no_statement known into = known
  known_all s (t.statement_and y ys) known into =
      let s' = (made.statement gs s y).scope in
      known_all s' ys (known_after s y known (within_both s' (made.statements gs s' ys).scope ks rs (grow_statements gs s' ys) into)) into

  -- ---- The parts of a `for`

  first_formed : (place : Place) (s : n.Scope) (y : t.First) → Known gs ks rs s → Within (made.first_at gs place s y).scope ks rs →
      rules.first_faults language gs s y ≡ [] → AreStatements x ks (made.first_at gs place s y).made
  first_formed place s t.NoFirst known into h = tt
  first_formed place s (t.Declared y) known into h = (declaration_formed s known place y h (kind_declared gs ks rs s y.name.text y.type_name into), tt)
  first_formed place s (t.Assigned y) known into h = (assignment_formed s known place y h, tt)

  last_formed : (place : Place) (s : n.Scope) (y : Option t.Assignment) → Known gs ks rs s → rules.last_faults language gs s y ≡ [] →
      AreStatements x ks (made.last_at gs place s y)
  last_formed place s None known h = tt
  last_formed place s (Some y) known h = (assignment_formed s known place y h, tt)

  condition_formed : (place : Place) (s : n.Scope) (y : Option t.Expression) → Known gs ks rs s → rules.maybe_faults language gs s y ≡ [] →
      IsPlaced x.variables ks (made.condition_at gs place s y)
  condition_formed place s None known h = tt
  condition_formed place s (Some y) known h = numeric_formed s known y h

  arms_there : (s : n.Scope) (ys : t.Arms) (ts : List Token) → g.arms_of language ys ts → HasProgramArm (made.arms_of gs s ys).made
  arms_there s t.no_arm ts d = d
  arms_there s (t.arm_and y body rest) ts d = tt

  mutual
    statement_formed : (s : n.Scope) (y : t.Statement) (ts : List Token) → g.statement language y ts → Known gs ks rs s →
        Within (made.statement gs s y).scope ks rs →
        rules.statement_faults language gs s y ≡ [] → AreStatements x ks (made.statement gs s y).made
    statement_formed s (t.BlockOf y) ts d known into h = inside_formed s y ts d known into h
    statement_formed s (t.Empty place) ts d known into h = tt
    statement_formed s (t.Declare y) ts d known into h =
        (declaration_formed s known y.place y h (kind_declared gs ks rs s y.name.text y.type_name into), tt)
    statement_formed s (t.Assign y) ts d known into h = (assignment_formed s known y.place y h, tt)
    statement_formed s (t.AssignResult y c) ts d known into h =
        let target = rules.target_faults language gs s y in
        let to = rules.target_referring language gs s y in
        let name = (rules.target_name y).place in
        let assigned = rules.assigned_faults language gs s to name c in
        let call = nil_left (rules.call_faults language gs s c true)
        (broken_if (not (rules.gives_so language gs to (rules.result_of language gs s c.function))) rule.WrongSort name) (nil_right target assigned h) in
        (call_formed s known (made.target_place y) c (Some (made.target gs s y)) call (target_formed s known y (nil_left target assigned h)), tt)
    statement_formed s (t.CallOnly c) ts d known into h = (call_formed s known c.function.place c None h tt, tt)
    statement_formed s (t.If place arms otherwise) ts d known into h =
        let s' = (made.arms_of gs s arms).scope in
        let first = nil_left (rules.arms_faults language gs s arms) (rules.otherwise_faults language gs s' otherwise) h in
        let second = nil_right (rules.arms_faults language gs s arms) (rules.otherwise_faults language gs s' otherwise) h in
        let within = within_both s' (made.otherwise_of gs s' otherwise).scope ks rs (grow_otherwise gs s' otherwise) into in (
          (
            arms_there s arms d.0 d.3.1,
            arms_formed s arms (spelled_arms language arms d.0 d.3.1) known within first,
            otherwise_formed s' otherwise d.1 d.4
                (known_arms s arms known) into second,
          ),
          tt,
        )
    statement_formed s (t.While place y body) ts d known into h =
        let first = nil_left (rules.numeric_faults language gs s y) (rules.block_faults language gs s body) h in
        let second = nil_right (rules.numeric_faults language gs s y) (rules.block_faults language gs s body) h in
        ((numeric_formed s known y first, inside_formed s body d.4.1 d.4.4 known into second), tt)
    statement_formed s (t.Do place body y) ts d known into h =
        let s' = (made.inside gs s body).scope in
        let first = nil_left (rules.block_faults language gs s body) (rules.numeric_faults language gs s' y) h in
        let second = nil_right (rules.block_faults language gs s body) (rules.numeric_faults language gs s' y) h in
        ((inside_formed s body d.4.0 d.4.3 known into first, numeric_formed s' (known_inside s body known) y second), tt)
    statement_formed s (t.For place start y last body) ts d known into h =
        let s0 = n.entered s in
        let s1 = (made.first_at gs place s0 start).scope in
        let s2 = (made.inside gs s1 body).scope in
        let maybe = rules.maybe_faults language gs s1 y in
        let after = rules.last_faults language gs s1 last in
        let inner = rules.block_faults language gs s1 body in
        let h0 = nil_left (rules.first_faults language gs s0 start) ((maybe ++ after) ++ inner) h in
        let h1 = nil_right (rules.first_faults language gs s0 start) ((maybe ++ after) ++ inner) h in
        let h2 = nil_left (maybe ++ after) inner h1 in
        let within = within_both s1 s2 ks rs (grow_inside gs s1 body) into in
        let known1 = known_first place s0 start known within in
        let condition = condition_formed place s1 y known1 (nil_left maybe after h2) in
        let third = last_formed place s1 last known1 (nil_right maybe after h2) in
        let block = d.4.4.4.4.4.4.4.4 in
        let body_is = inside_formed s1 body d.4.4.4.4.4.4.4.1 block known1 into (nil_right (maybe ++ after) inner h1) in
        let start_is = first_formed place s0 start known within h0 in
        both_formed (made.first_at gs place s0 start).made _ start_is ((condition, both_formed (made.inside gs s1 body).made _ body_is third), tt)
    statement_formed s (t.Lock place mutex key) ts d known into h = (name_formed s known mutex key h, tt)
    statement_formed s (t.Unlock place mutex key) ts d known into h = (name_formed s known mutex key h, tt)

    inside_formed : (s : n.Scope) (y : t.Block) (ts : List Token) → g.block language y ts → Known gs ks rs s → Within (made.inside gs s y).scope ks rs →
        rules.block_faults language gs s y ≡ [] → AreStatements x ks (made.inside gs s y).made
    inside_formed s (t.Braced opening ys closing) ts d known into h = statements_formed (n.entered s) ys d.4.0 d.4.3 known into h

    pub statements_formed : (s : n.Scope) (ys : t.Statements) (ts : List Token) → g.statements language ys ts → Known gs ks rs s →
        Within (made.statements gs s ys).scope ks rs → rules.statements_faults language gs s ys ≡ [] → AreStatements x ks (made.statements gs s ys).made
    statements_formed s t.no_statement ts d known into h = tt
    statements_formed s (t.statement_and y ys) ts d known into h =
        let s' = (made.statement gs s y).scope in
        let first = nil_left (rules.statement_faults language gs s y) (rules.statements_faults language gs s' ys) h in
        let second = nil_right (rules.statement_faults language gs s y) (rules.statements_faults language gs s' ys) h in
        let within = within_both s' (made.statements gs s' ys).scope ks rs (grow_statements gs s' ys) into in
        both_formed (made.statement gs s y).made (made.statements gs s' ys).made (statement_formed s y d.0 d.3 known within first)
        (statements_formed s' ys d.1 d.4 (known_after s y known within) into second)

    arms_formed : (s : n.Scope) (ys : t.Arms) → Spelled language ys → Known gs ks rs s → Within (made.arms_of gs s ys).scope ks rs →
        rules.arms_faults language gs s ys ≡ [] →
        AreArms x ks (made.arms_of gs s ys).made
    arms_formed s t.no_arm d known into h = tt
    arms_formed s (t.arm_and y body rest) d known into h =
        let s' = (made.inside gs s body).scope in
        let both = rules.numeric_faults language gs s y ++ rules.block_faults language gs s body in
        let first = nil_left both (rules.arms_faults language gs s' rest) h in
        let within = within_both s' (made.arms_of gs s' rest).scope ks rs (grow_arms gs s' rest) into in (
          numeric_formed s known y (nil_left (rules.numeric_faults language gs s y) (rules.block_faults language gs s body) first),
          inside_formed s body d.0.0 d.0.1 known within (nil_right (rules.numeric_faults language gs s y) (rules.block_faults language gs s body) first),
          arms_formed s' rest d.1 (known_inside s body known) into (nil_right both (rules.arms_faults language gs s' rest) h),
        )

    otherwise_formed : (s : n.Scope) (y : t.Otherwise) (ts : List Token) → g.otherwise_of language y ts → Known gs ks rs s →
        Within (made.otherwise_of gs s y).scope ks rs → rules.otherwise_faults language gs s y ≡ [] → AreStatements x ks (made.otherwise_of gs s y).made
    otherwise_formed s t.Nothing ts d known into h = tt
    otherwise_formed s (t.Else body) ts d known into h = inside_formed s body d.1 d.4 known into h
