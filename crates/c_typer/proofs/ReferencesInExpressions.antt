-- What is made of expressions without faults has references to their arrays alone.
use Rattle.std.proofs.Common.{◌≡◌, refl, sym, ◌∙◌, ap, subst, ℕ, List, [], ◌∷◌, ◌++◌, length, map, flat_map, Bool}
use Rattle.std.proofs.Common.{true, false, not, is_some, if◌then◌else◌, Option, Some, None}
use Rattle.std.specs.Prelude.{slice_index_or}
use Rattle.std.specs.List.{AllByRecursion, AllZip}
use Rattle.std.proofs.lemmas.Bool.{eqb-true, true≢false}
use Rattle.ido_base.specs.declared.place.Place.{Place}
use Rattle.ido_ints.specs.declared.kinds.Kind.{Kind}
use Rattle.ido_ints.specs.declared.kinds.Kind.TheVariants.{Int, UnsignedLong}
use Rattle.c_tree.specs.declared.language.Language.{Language}
use Rattle.c_tree.specs.declared.rule.Rule.TheVariants as rule
use Rattle.c_tree.specs.LexicalScan.{Fault}
use Rattle.c_tree.specs.Trees as t
use Rattle.c_tree.specs.Exprs as e
use Rattle.c_tree.specs.Names as n
use Rattle.c_tree.specs.Programs as p
use Rattle.c_tree.specs.TypeRules as rules
use Rattle.c_tree.specs.TypeRules.{broken, broken_if}
use Rattle.c_tree.specs.Elaboration as made
use Rattle.c_tree.specs.References.{Follows, IsGiven, IsLocalReferring}
use Rattle.c_tree.specs.References.{IsStatementReferring, PlacedFollows, RefersRight, RefersTo, TargetFollows}
use Rattle.c_tree.specs.References.{target_refers, variable_refers}
use Rattle.c_typer.proofs.EmptyFaults.{nil_left, nil_right, not_broken, unbroken}
use Rattle.c_typer.proofs.LocalsGrow.{IsKnown, Known, numbered}
use Rattle.c_typer.proofs.MeaningsInPrograms.{ArrayIn, MeaningIn, RefersAs, SortIn, TypeIn, VariableIn, index_of, meaning_in}
use Rattle.c_typer.proofs.MeaningsInPrograms.{not_not, reference_at, referred_array, referred_in, refers_of, type_kind, type_refers}
use Rattle.c_typer.proofs.NamesFollow.{named_follows, element_follows, address_follows, target_named_follows, target_element_follows}

-- ---- What fits what refers so

-- a value of what refers to the array
comparable_refers : (from : n.Referring) (r : Option ℕ) (array : ℕ) → RefersAs from r → rules.are_comparable (n.To array) from ≡ true → r ≡ Some array
comparable_refers n.Number r array h c = absurd (true≢false (sym c))
comparable_refers n.Null r array h c = absurd h
comparable_refers (n.To other) r array h c = h ∙ ap (λ (k : ℕ). Some k) (sym (eqb-true array other c))
comparable_refers n.Anything r array h c = absurd h

-- what is a number refers to nothing
number_refers : (from : n.Referring) (r : Option ℕ) → RefersAs from r → rules.may_be_number from ≡ true → r ≡ None
number_refers n.Number r h c = h
number_refers n.Null r h c = absurd h
number_refers (n.To array) r h c = absurd (true≢false (sym c))
number_refers n.Anything r h c = absurd h

-- what takes a result refers as that does
pub same_refers : (language : Language) (gs : List n.Global) (to from : n.Referring) (r o : Option ℕ) → RefersAs to r → RefersAs from o →
    rules.gives_so language gs to from ≡ true → r ≡ o
same_refers language gs n.Number from r o h k c = h ∙ sym (number_refers from o k c)
same_refers language gs n.Null from r o h k c = absurd h
same_refers language gs (n.To array) from r o h k c = h ∙ sym (comparable_refers from o array k c)
same_refers language gs n.Anything from r o h k c = absurd h

-- ---- Locals of functions and threads

zip_more : (ks : List Kind) (rs : List (Option ℕ)) (k : Kind) (r : Option ℕ) → AllZip IsLocalReferring ks rs → IsLocalReferring k r →
    AllZip IsLocalReferring (ks ++ k ∷ []) (rs ++ r ∷ [])
zip_more [] [] k r h e = (e, tt)
zip_more [] (s ∷ rs) k r h e = absurd h
zip_more (j ∷ ks) [] k r h e = absurd h
zip_more (j ∷ ks) (s ∷ rs) k r h e = (h.0, zip_more ks rs k r h.1 e)

all_more : (P : Option ℕ → Type 0) (rs : List (Option ℕ)) (r : Option ℕ) → AllByRecursion P rs → P r → AllByRecursion P (rs ++ r ∷ [])
all_more P [] r h e = (e, tt)
all_more P (s ∷ rs) r h e = (h.0, all_more P rs r h.1 e)

local_refers_so : (k : Kind) (o : Option n.Array) → (is_some (numbered o) ≡ true → k ≡ UnsignedLong) → IsLocalReferring k (numbered o)
local_refers_so k None h = tt
local_refers_so k (Some a) h = h refl

module _ (x : p.Program) (gs : List n.Global) (sorts : AllByRecursion (λ (y : n.Global). SortIn x gs y.sort) gs) where
  -- each local that refers is an `unsigned long`, and refers to an array
  abbrev pub AreReferring : List Kind → List (Option ℕ) → Type 0
  AreReferring ks rs = AllZip IsLocalReferring ks rs × AllByRecursion (RefersRight x.variables) rs

  pub right_so : (type_name : t.TypeName) (o : Option n.Array) → n.referred gs type_name ≡ o → RefersRight x.variables (numbered o)
  right_so type_name None e = tt
  right_so type_name (Some a) e = referred_in x a (referred_array x gs sorts type_name a e)

  pub referring_more : (ks : List Kind) (rs : List (Option ℕ)) (type_name : t.TypeName) → AreReferring ks rs →
      AreReferring (ks ++ n.kind_named type_name ∷ []) (rs ++ numbered (n.referred gs type_name) ∷ [])
  referring_more ks rs type_name h = (
    zip_more ks rs (n.kind_named type_name) (numbered (n.referred gs type_name)) h.0
        (local_refers_so (n.kind_named type_name) (n.referred gs type_name) (type_kind gs type_name)),
    all_more (RefersRight x.variables) rs (numbered (n.referred gs type_name)) h.1 (right_so type_name (n.referred gs type_name) refl),
  )

-- ---- Expressions

local_referring : (l : n.Local) (o : Option n.Array) → RefersAs (elim o [
  | Some a ↦ n.To a.number
  | None ↦ n.Number
]) (numbered o)
local_referring l None = refl
local_referring l (Some a) = refl

module _ (language : Language) (x : p.Program) (gs : List n.Global) (sorts : AllByRecursion (λ (y : n.Global). SortIn x gs y.sort) gs)
    (ks : List Kind) (rs : List (Option ℕ)) where
  abbrev vs : List p.Variable
  vs = x.variables

  -- what a local refers to, and a variable's elements do
  local_as : (l : n.Local) → IsKnown gs ks rs l → RefersAs (rules.of_local language gs l) (slice_index_or rs l.number None)
  local_as l k =
      subst (RefersAs (rules.of_local language gs l)) (sym (index_of rs l.number (numbered l.refers) k.refers)) (local_referring l l.refers)

  variable_as : (number : ℕ) (type_name : t.TypeName) (size : Option ℕ) (each : Bool) → VariableIn x gs number type_name size each →
      RefersAs (n.of_type gs type_name) (variable_refers vs number)
  variable_as number type_name size each k =
      subst (RefersAs (n.of_type gs type_name)) (sym (refers_of vs number k.it k.found ∙ k.refers)) (type_refers gs type_name k.typed)

  array_as : (a : n.Array) → ArrayIn x a → RefersAs a.elements (variable_refers vs a.number)
  array_as a k = subst (RefersAs a.elements) (sym (refers_of vs a.number k.it k.found)) k.elements

  module _ (s : n.Scope) (known : Known gs ks rs s) where
    pub meaning : (name : List ℕ) → MeaningIn x gs ks rs (n.meaning gs s name)
    meaning name = meaning_in language x gs sorts ks rs s name known

    followed_follows : (place : Place) (y : t.Name) → rules.reference_faults language gs s y ≡ [] → Follows vs rs (made.followed gs s place y)
    followed_follows place y h =
        let at = reference_at language x gs sorts ks rs s known y h in
        subst (λ (o : Option n.Reference). Follows vs rs (elim o [
          | Some z ↦ e.Element place z.array.number z.array.kind place (made.referent gs place z).expr
          | None ↦ made.int 0
        ])) (sym at.is) (record { variable = at.it.array.number; refers = at.refers; length = at.array.last })

    target_followed_follows : (place : Place) (y : t.Name) → rules.reference_faults language gs s y ≡ [] →
        TargetFollows vs rs (made.target_followed gs s place y)
    target_followed_follows place y h =
        let at = reference_at language x gs sorts ks rs s known y h in
        subst (λ (o : Option n.Reference). TargetFollows vs rs (elim o [
          | Some z ↦ e.ToElement place z.array.number z.array.kind (made.referent gs place z)
          | None ↦ e.ToLocal y.place 0 Int
        ])) (sym at.is) (record { variable = at.it.array.number; refers = at.refers; length = at.array.last })

    pub expr_follows : (y : t.Expression) → rules.expression_faults language gs s y ≡ [] → Follows vs rs (made.expr gs s y)
    expr_follows (t.Number place value) h = tt
    expr_follows (t.Named y) h = named_follows vs rs y.place (n.meaning gs s y.text)
    expr_follows (t.Element array index) h =
        let first = rules.use_faults language gs s array true in
        let inner = nil_left (first ++ rules.expression_faults language gs s index) (rules.number_faults language gs s index) h in
        element_follows vs rs array.place (made.first_place index) (made.expr gs s index) (n.meaning gs s array.text)
        (expr_follows index (nil_right first (rules.expression_faults language gs s index) inner))
    expr_follows (t.Null place) h = tt
    expr_follows (t.Address place array index) h =
        let full = rules.only_full language place in
        let first = rules.array_faults language gs s array in
        let second = rules.expression_faults language gs s index in
        let inner = nil_left ((full ++ first) ++ second) (rules.number_faults language gs s index) h in
        address_follows vs rs (made.first_place index) (made.expr gs s index) (n.meaning gs s array.text)
        (expr_follows index (nil_right (full ++ first) second inner))
    expr_follows (t.Referent place reference) h =
        followed_follows place reference (nil_right (rules.only_full language place) (rules.reference_faults language gs s reference) h)
    expr_follows (t.Parenthesised place inner) h = expr_follows inner h
    expr_follows (t.Unary place operator operand) h =
        expr_follows operand (nil_left (rules.expression_faults language gs s operand) (rules.number_faults language gs s operand) h)
    expr_follows (t.Cast place kind operand) h =
        expr_follows operand (nil_left (rules.expression_faults language gs s operand) (rules.number_faults language gs s operand) h)
    expr_follows (t.Binary operator left right) h =
        let first = rules.expression_faults language gs s left in
        let second = rules.expression_faults language gs s right in
        let both = nil_left (first ++ second) (rules.operand_faults language gs s operator left right) h in
        (expr_follows left (nil_left first second both), expr_follows right (nil_right first second both))
    expr_follows (t.Conditional condition chosen otherwise) h =
        let first = rules.expression_faults language gs s condition in
        let second = rules.expression_faults language gs s chosen in
        let third = rules.expression_faults language gs s otherwise in
        let all = (first ++ second) ++ third in
        let told = rules.number_faults language gs s condition in
        let more = rules.number_faults language gs s chosen in
        let each = nil_left all told (nil_left (all ++ told) more (nil_left ((all ++ told) ++ more) (rules.number_faults language gs s otherwise) h)) in
        let both = nil_left (first ++ second) third each in (
          expr_follows condition (nil_left first second both),
          expr_follows chosen (nil_right first second both),
          expr_follows otherwise (nil_right (first ++ second) third each),
        )

    pub numeric_follows : (y : t.Expression) → rules.numeric_faults language gs s y ≡ [] → Follows vs rs (made.expr gs s y)
    numeric_follows y h = expr_follows y (nil_left (rules.expression_faults language gs s y) (rules.number_faults language gs s y) h)

    pub target_follows : (y : t.Lvalue) → rules.target_faults language gs s y ≡ [] → TargetFollows vs rs (made.target gs s y)
    target_follows (t.Target y None) h = target_named_follows vs rs y.place (n.meaning gs s y.text)
    target_follows (t.Target y (Some index)) h =
        target_element_follows vs rs y.place (made.placed gs s index) (n.meaning gs s y.text)
        (numeric_follows index (nil_right (rules.use_faults language gs s y true) (rules.numeric_faults language gs s index) h))
    target_follows (t.Followed place reference) h =
        target_followed_follows place reference (nil_right (rules.only_full language place) (rules.reference_faults language gs s reference) h)

    before_follows : (y : t.Lvalue) → rules.target_faults language gs s y ≡ [] → Follows vs rs (made.before gs s y)
    before_follows (t.Target y None) h = named_follows vs rs y.place (n.meaning gs s y.text)
    before_follows (t.Target y (Some index)) h =
        element_follows vs rs y.place (made.first_place index) (made.expr gs s index) (n.meaning gs s y.text)
        (numeric_follows index (nil_right (rules.use_faults language gs s y true) (rules.numeric_faults language gs s index) h))
    before_follows (t.Followed place reference) h =
        followed_follows place reference (nil_right (rules.only_full language place) (rules.reference_faults language gs s reference) h)

    changed_follows : (y : t.Lvalue) (c : t.Change) → rules.target_faults language gs s y ≡ [] → rules.change_faults language gs s y c ≡ [] →
        PlacedFollows vs rs (made.changed gs s y c)
    changed_follows y (t.Set value) h k =
        expr_follows value (nil_left (rules.expression_faults language gs s value)
        (rules.given_faults language gs s (rules.target_referring language gs s y) (rules.target_name y).place value) k)
    changed_follows y (t.Update operator value) h k =
        (before_follows y h, numeric_follows value (nil_right (rules.numeric_target_faults language gs s y) (rules.numeric_faults language gs s value) k))
    changed_follows y t.Increment h k = (before_follows y h, tt)
    changed_follows y t.Decrement h k = (before_follows y h, tt)

    pub arguments_follow : (ys : List t.Expression) → flat_map (rules.expression_faults language gs s) ys ≡ [] →
        AllByRecursion (PlacedFollows vs rs) (map (made.placed gs s) ys)
    arguments_follow [] h = tt
    arguments_follow (y ∷ ys) h = (
      expr_follows y (nil_left (rules.expression_faults language gs s y) (flat_map (rules.expression_faults language gs s) ys) h),
      arguments_follow ys (nil_right (rules.expression_faults language gs s y) (flat_map (rules.expression_faults language gs s) ys) h),
    )

    -- ---- Values of what refers to an array

    named_refers : (array : ℕ) (y : t.Name) → rules.use_faults language gs s y false ≡ [] →
        rules.are_comparable (n.To array) (rules.of_name language gs s y) ≡ true → RefersTo vs rs array (made.named gs s y)
    named_refers array y h c = go (n.meaning gs s y.text) (meaning y.text) h c
      where
        go : (m : n.Meaning) → MeaningIn x gs ks rs m → ◌≡◌ {A = List Fault} (elim m [
          | n.IsUnknown ↦ broken rule.Unknown y.place
          | n.IsLocal l ↦ broken_if false rule.WrongSort y.place
          | n.IsGlobal (n.Variable number type_name length each) ↦ broken_if (if is_some length then not false else false) rule.WrongSort y.place
          | _ ↦ broken rule.WrongSort y.place
        ]) [] → rules.are_comparable (n.To array) (elim m [
          | n.IsLocal l ↦ rules.of_local language gs l
          | n.IsGlobal (n.Variable number type_name length each) ↦ n.of_type gs type_name
          | _ ↦ n.Anything
        ]) ≡ true → RefersTo vs rs array (elim m [
          | n.IsLocal l ↦ e.Local l.number l.kind
          | n.IsGlobal (n.Variable number type_name length each) ↦ e.Variable y.place number (n.kind_named type_name)
          | _ ↦ made.int 0
        ])
        go n.IsUnknown k q c = absurd (not_broken rule.Unknown y.place q)
        go (n.IsLocal l) k q c = comparable_refers (rules.of_local language gs l) (slice_index_or rs l.number None) array (local_as l k) c
        go (n.IsGlobal (n.Mutex number count)) k q c = absurd (not_broken rule.WrongSort y.place q)
        go (n.IsGlobal (n.Variable number type_name length each)) k q c =
            comparable_refers (n.of_type gs type_name) (variable_refers vs number) array (variable_as number type_name length each k) c
        go (n.IsGlobal (n.Function number gives parameters)) k q c = absurd (not_broken rule.WrongSort y.place q)
        go (n.IsGlobal n.Thread) k q c = absurd (not_broken rule.WrongSort y.place q)

    element_refers : (array : ℕ) (y : t.Name) (place : Place) (index : e.Expr) → rules.use_faults language gs s y true ≡ [] →
        rules.are_comparable (n.To array) (rules.of_name language gs s y) ≡ true → RefersTo vs rs array (made.element gs s y place index)
    element_refers array y place index h c = go (n.meaning gs s y.text) (meaning y.text) h c
      where
        go : (m : n.Meaning) → MeaningIn x gs ks rs m → ◌≡◌ {A = List Fault} (elim m [
          | n.IsUnknown ↦ broken rule.Unknown y.place
          | n.IsLocal l ↦ broken_if true rule.WrongSort y.place
          | n.IsGlobal (n.Variable number type_name length each) ↦ broken_if (if is_some length then not true else true) rule.WrongSort y.place
          | _ ↦ broken rule.WrongSort y.place
        ]) [] → rules.are_comparable (n.To array) (elim m [
          | n.IsLocal l ↦ rules.of_local language gs l
          | n.IsGlobal (n.Variable number type_name length each) ↦ n.of_type gs type_name
          | _ ↦ n.Anything
        ]) ≡ true → RefersTo vs rs array (elim m [
          | n.IsGlobal (n.Variable number type_name length each) ↦ e.Element y.place number (n.kind_named type_name) place index
          | _ ↦ made.int 0
        ])
        go n.IsUnknown k q c = absurd (not_broken rule.Unknown y.place q)
        go (n.IsLocal l) k q c = absurd (not_broken rule.WrongSort y.place q)
        go (n.IsGlobal (n.Mutex number count)) k q c = absurd (not_broken rule.WrongSort y.place q)
        go (n.IsGlobal (n.Variable number type_name length each)) k q c =
            comparable_refers (n.of_type gs type_name) (variable_refers vs number) array (variable_as number type_name length each k) c
        go (n.IsGlobal (n.Function number gives parameters)) k q c = absurd (not_broken rule.WrongSort y.place q)
        go (n.IsGlobal n.Thread) k q c = absurd (not_broken rule.WrongSort y.place q)

    address_refers : (array : ℕ) (y : t.Name) (place : Place) (index : e.Expr) → rules.array_faults language gs s y ≡ [] →
        rules.are_comparable (n.To array) (rules.of_address language gs s y) ≡ true → RefersTo vs rs array (made.address gs s y place index)
    address_refers array y place index h c = go (n.meaning gs s y.text) h c
      where
        go : (m : n.Meaning) → ◌≡◌ {A = List Fault} (elim m [
          | n.IsUnknown ↦ broken rule.Unknown y.place
          | n.IsGlobal sort ↦ broken_if (not (is_some (n.array_of gs (Some sort)))) rule.WrongSort y.place
          | n.IsLocal l ↦ broken rule.WrongSort y.place
        ]) [] → rules.are_comparable (n.To array) (elim m [
          | n.IsGlobal sort ↦ n.referred_by (Some sort)
          | _ ↦ n.Anything
        ]) ≡ true → RefersTo vs rs array (elim m [
          | n.IsGlobal (n.Variable number type_name length each) ↦ e.Address number place index
          | _ ↦ made.int 0
        ])
        go n.IsUnknown q c = absurd (not_broken rule.Unknown y.place q)
        go (n.IsLocal l) q c = absurd (not_broken rule.WrongSort y.place q)
        go (n.IsGlobal (n.Mutex number count)) q c = absurd (not_broken rule.WrongSort y.place q)
        go (n.IsGlobal (n.Variable number type_name None each)) q c = absurd (not_broken rule.WrongSort y.place q)
        go (n.IsGlobal (n.Variable number type_name (Some size) true)) q c = absurd (not_broken rule.WrongSort y.place q)
        go (n.IsGlobal (n.Variable number type_name (Some size) false)) q c = sym (eqb-true array number c)
        go (n.IsGlobal (n.Function number gives parameters)) q c = absurd (not_broken rule.WrongSort y.place q)
        go (n.IsGlobal n.Thread) q c = absurd (not_broken rule.WrongSort y.place q)

    followed_refers : (array : ℕ) (place : Place) (y : t.Name) → rules.reference_faults language gs s y ≡ [] →
        rules.are_comparable (n.To array) (rules.of_referent language gs s y) ≡ true → RefersTo vs rs array (made.followed gs s place y)
    followed_refers array place y h c =
        let at = reference_at language x gs sorts ks rs s known y h in
        let seen : rules.are_comparable (n.To array) at.it.array.elements ≡ true =
        subst (λ (o : Option n.Reference). rules.are_comparable (n.To array) (elim o [
          | Some z ↦ z.array.elements
          | None ↦ n.Anything
        ]) ≡ true) at.is c in
        subst (λ (o : Option n.Reference). RefersTo vs rs array (elim o [
          | Some z ↦ e.Element place z.array.number z.array.kind place (made.referent gs place z).expr
          | None ↦ made.int 0
        ])) (sym at.is)
        (comparable_refers at.it.array.elements (variable_refers vs at.it.array.number) array (array_as at.it.array at.array) seen)

    pub refers_to : (array : ℕ) (y : t.Expression) → rules.expression_faults language gs s y ≡ [] →
        rules.are_comparable (n.To array) (rules.referring language gs s y) ≡ true → RefersTo vs rs array (made.expr gs s y)
    refers_to array (t.Number place value) h c = absurd (true≢false (sym c))
    refers_to array (t.Named y) h c = named_refers array y h c
    refers_to array (t.Element own index) h c =
        let first = rules.use_faults language gs s own true in
        let second = rules.expression_faults language gs s index in
        element_refers array own (made.first_place index) (made.expr gs s index)
        (nil_left first second (nil_left (first ++ second) (rules.number_faults language gs s index) h)) c
    refers_to array (t.Null place) h c = refl
    refers_to array (t.Address place own index) h c =
        let full = rules.only_full language place in
        let first = rules.array_faults language gs s own in
        let second = rules.expression_faults language gs s index in
        let inner = nil_left ((full ++ first) ++ second) (rules.number_faults language gs s index) h in
        address_refers array own (made.first_place index) (made.expr gs s index) (nil_right full first (nil_left (full ++ first) second inner)) c
    refers_to array (t.Referent place reference) h c =
        followed_refers array place reference (nil_right (rules.only_full language place) (rules.reference_faults language gs s reference) h) c
    refers_to array (t.Parenthesised place inner) h c = refers_to array inner h c
    refers_to array (t.Unary place operator operand) h c = absurd (true≢false (sym c))
    refers_to array (t.Cast place kind operand) h c = absurd (true≢false (sym c))
    refers_to array (t.Binary operator left right) h c = absurd (true≢false (sym c))
    refers_to array (t.Conditional condition chosen otherwise) h c = absurd (true≢false (sym c))

    -- a value is given to what refers so
    pub given_right : (to : n.Referring) (r : Option ℕ) (target : Place) (y : t.Expression) → RefersAs to r → rules.expression_faults language gs s y ≡ [] →
        rules.given_faults language gs s to target y ≡ [] → IsGiven vs rs r (made.expr gs s y)
    given_right n.Number r target y so h q = subst (λ (o : Option ℕ). IsGiven vs rs o (made.expr gs s y)) (sym so) tt
    given_right n.Null r target y so h q = absurd so
    given_right (n.To array) r target y so h q =
        let fits = rules.are_comparable (n.To array) (rules.referring language gs s y) in
        subst (λ (o : Option ℕ). IsGiven vs rs o (made.expr gs s y)) (sym so)
        (refers_to array y h (not_not fits (unbroken (not fits) rule.WrongSort target q)))
    given_right n.Anything r target y so h q = absurd so

    -- ---- Targets

    named_target : (y : t.Name) → rules.use_faults language gs s y false ≡ [] →
        RefersAs (rules.of_name language gs s y) (target_refers vs rs (made.target_named gs s y))
    named_target y h = go (n.meaning gs s y.text) (meaning y.text) h
      where
        go : (m : n.Meaning) → MeaningIn x gs ks rs m → ◌≡◌ {A = List Fault} (elim m [
          | n.IsUnknown ↦ broken rule.Unknown y.place
          | n.IsLocal l ↦ broken_if false rule.WrongSort y.place
          | n.IsGlobal (n.Variable number type_name length each) ↦ broken_if (if is_some length then not false else false) rule.WrongSort y.place
          | _ ↦ broken rule.WrongSort y.place
        ]) [] → RefersAs (elim m [
          | n.IsLocal l ↦ rules.of_local language gs l
          | n.IsGlobal (n.Variable number type_name length each) ↦ n.of_type gs type_name
          | _ ↦ n.Anything
        ]) (target_refers vs rs (elim m [
          | n.IsLocal l ↦ e.ToLocal y.place l.number l.kind
          | n.IsGlobal (n.Variable number type_name length each) ↦ e.ToVariable y.place number (n.kind_named type_name)
          | _ ↦ e.ToLocal y.place 0 Int
        ]))
        go n.IsUnknown k q = absurd (not_broken rule.Unknown y.place q)
        go (n.IsLocal l) k q = local_as l k
        go (n.IsGlobal (n.Mutex number count)) k q = absurd (not_broken rule.WrongSort y.place q)
        go (n.IsGlobal (n.Variable number type_name length each)) k q = variable_as number type_name length each k
        go (n.IsGlobal (n.Function number gives parameters)) k q = absurd (not_broken rule.WrongSort y.place q)
        go (n.IsGlobal n.Thread) k q = absurd (not_broken rule.WrongSort y.place q)

    element_target : (y : t.Name) (index : e.Placed) → rules.use_faults language gs s y true ≡ [] →
        RefersAs (rules.of_name language gs s y) (target_refers vs rs (made.target_element gs s y index))
    element_target y index h = go (n.meaning gs s y.text) (meaning y.text) h
      where
        go : (m : n.Meaning) → MeaningIn x gs ks rs m → ◌≡◌ {A = List Fault} (elim m [
          | n.IsUnknown ↦ broken rule.Unknown y.place
          | n.IsLocal l ↦ broken_if true rule.WrongSort y.place
          | n.IsGlobal (n.Variable number type_name length each) ↦ broken_if (if is_some length then not true else true) rule.WrongSort y.place
          | _ ↦ broken rule.WrongSort y.place
        ]) [] → RefersAs (elim m [
          | n.IsLocal l ↦ rules.of_local language gs l
          | n.IsGlobal (n.Variable number type_name length each) ↦ n.of_type gs type_name
          | _ ↦ n.Anything
        ]) (target_refers vs rs (elim m [
          | n.IsGlobal (n.Variable number type_name length each) ↦ e.ToElement y.place number (n.kind_named type_name) index
          | _ ↦ e.ToLocal y.place 0 Int
        ]))
        go n.IsUnknown k q = absurd (not_broken rule.Unknown y.place q)
        go (n.IsLocal l) k q = absurd (not_broken rule.WrongSort y.place q)
        go (n.IsGlobal (n.Mutex number count)) k q = absurd (not_broken rule.WrongSort y.place q)
        go (n.IsGlobal (n.Variable number type_name length each)) k q = variable_as number type_name length each k
        go (n.IsGlobal (n.Function number gives parameters)) k q = absurd (not_broken rule.WrongSort y.place q)
        go (n.IsGlobal n.Thread) k q = absurd (not_broken rule.WrongSort y.place q)

    followed_target : (place : Place) (y : t.Name) → rules.reference_faults language gs s y ≡ [] →
        RefersAs (rules.of_referent language gs s y) (target_refers vs rs (made.target_followed gs s place y))
    followed_target place y h =
        let at = reference_at language x gs sorts ks rs s known y h in
        subst (λ (o : Option n.Reference). RefersAs (elim o [
          | Some z ↦ z.array.elements
          | None ↦ n.Anything
        ]) (target_refers vs rs (elim o [
          | Some z ↦ e.ToElement place z.array.number z.array.kind (made.referent gs place z)
          | None ↦ e.ToLocal y.place 0 Int
        ]))) (sym at.is) (array_as at.it.array at.array)

    pub target_right : (y : t.Lvalue) → rules.target_faults language gs s y ≡ [] →
        RefersAs (rules.target_referring language gs s y) (target_refers vs rs (made.target gs s y))
    target_right (t.Target y None) h = named_target y (nil_left (rules.use_faults language gs s y false) [] h)
    target_right (t.Target y (Some index)) h =
        element_target y (made.placed gs s index) (nil_left (rules.use_faults language gs s y true) (rules.numeric_faults language gs s index) h)
    target_right (t.Followed place reference) h =
        followed_target place reference (nil_right (rules.only_full language place) (rules.reference_faults language gs s reference) h)

    -- ---- Assignments

    -- a target that is a number takes any value
    numeric_given : (y : t.Lvalue) (z : e.Expr) → rules.target_faults language gs s y ≡ [] → rules.numeric_target_faults language gs s y ≡ [] →
        IsGiven vs rs (target_refers vs rs (made.target gs s y)) z
    numeric_given y z h q =
        let number = rules.may_be_number (rules.target_referring language gs s y) in
        subst (λ (o : Option ℕ). IsGiven vs rs o z)
        (sym (number_refers (rules.target_referring language gs s y) (target_refers vs rs (made.target gs s y)) (target_right y h)
        (not_not number (unbroken (not number) rule.WrongSort (rules.target_name y).place q)))) tt

    changed_given : (y : t.Lvalue) (c : t.Change) → rules.target_faults language gs s y ≡ [] → rules.change_faults language gs s y c ≡ [] →
        IsGiven vs rs (target_refers vs rs (made.target gs s y)) (made.changed gs s y c).expr
    changed_given y (t.Set value) h k =
        let to = rules.target_referring language gs s y in
        let name = (rules.target_name y).place in
        let first = rules.expression_faults language gs s value in
        let second = rules.given_faults language gs s to name value in
        given_right to (target_refers vs rs (made.target gs s y)) name value (target_right y h) (nil_left first second k) (nil_right first second k)
    changed_given y (t.Update operator value) h k =
        numeric_given y (made.changed gs s y (t.Update operator value)).expr h
        (nil_left (rules.numeric_target_faults language gs s y) (rules.numeric_faults language gs s value) k)
    changed_given y t.Increment h k = numeric_given y (made.changed gs s y t.Increment).expr h k
    changed_given y t.Decrement h k = numeric_given y (made.changed gs s y t.Decrement).expr h k

    pub assignment_referring : (place : Place) (y : t.Assignment) → rules.assignment_faults language gs s y ≡ [] →
        IsStatementReferring x rs (made.assignment_at gs place s y)
    assignment_referring place y h =
        let target = rules.target_faults language gs s y.target in
        let change = rules.change_faults language gs s y.target y.change in
        let first = nil_left target change h in
        let second = nil_right target change h in
        (target_follows y.target first, changed_follows y.target y.change first second, changed_given y.target y.change first second)

    -- ---- What a function gives

    -- null, or a reference, converted to the kind that a reference has
    converted_given : (kind : Kind) (r : Option ℕ) (z : e.Expr) → (is_some r ≡ true → kind ≡ UnsignedLong) → IsGiven vs rs r z →
        IsGiven vs rs r (e.Converted kind z)
    converted_given kind None z h g = tt
    converted_given kind (Some array) z h g = (h refl, g)

    pub value_given : (type_name : t.TypeName) (place : Place) (y : t.Expression) → TypeIn gs type_name →
        rules.value_faults language gs s (Some type_name) place (Some y) ≡ [] →
        IsGiven vs rs (numbered (n.referred gs type_name)) (e.Converted (n.kind_named type_name) (made.expr gs s y))
    value_given type_name place y typed h =
        let first = rules.expression_faults language gs s y in
        let second = rules.given_faults language gs s (n.of_type gs type_name) place y in
        converted_given (n.kind_named type_name) (numbered (n.referred gs type_name)) (made.expr gs s y) (type_kind gs type_name)
        (given_right (n.of_type gs type_name) (numbered (n.referred gs type_name)) place y (type_refers gs type_name typed) (nil_left first second h)
        (nil_right first second h))
