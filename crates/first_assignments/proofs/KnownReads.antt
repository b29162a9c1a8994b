-- What is made of an expression, an assignment or a call reads no local but those that are known where it stands.
use Rattle.std.proofs.Common.{◌≡◌, refl, subst, ℕ, List, [], ◌∷◌, length, map, find}
use Rattle.std.proofs.Common.{Bool, true, false, if◌then◌else◌, Option, Some, None, inr}
use Rattle.std.specs.Option.{option_map}
use Rattle.ido_base.specs.declared.place.Place.{Place}
use Rattle.ido_ints.specs.declared.kinds.Kind.{Kind}
use Rattle.ido_ints.specs.declared.kinds.Kind.TheVariants.{Int}
use Rattle.c_tree.specs.Trees as t
use Rattle.c_tree.specs.Exprs as e
use Rattle.c_tree.specs.Names as n
use Rattle.c_tree.specs.Programs as p
use Rattle.c_tree.specs.Elaboration as made
use Rattle.first_assignments.proofs.FirstReads.{ReadsNone, AllReadNone, TargetReadsNone, ResultReadsNone, KeyReadsNone, GivenReadsNone, ResultTakes}
use Rattle.first_assignments.proofs.FirstReads.{TypedAssigns, TypedReadsLater, TypedReadLater}

module _ (told : ℕ → Bool) where
  -- the local is none of these
  abbrev pub Unknown : List n.Local → Type 0
  Unknown [] = Unit {0}
  Unknown (x ∷ xs) = (told x.number ≡ false) × Unknown xs

  abbrev IsOther : n.Meaning → Type 0
  IsOther (n.IsLocal x) = told x.number ≡ false
  IsOther (n.IsGlobal sort) = Unit {0}
  IsOther n.IsUnknown = Unit {0}

  other_found : (test : n.Local → Bool) (xs : List n.Local) (y : n.Local) → Unknown xs → find test xs ≡ Some y → told y.number ≡ false
  other_found test [] y h g = absurd (let wrong : ◌≡◌ {A = Option n.Local} None (Some y) = g in cc)
  other_found test (x ∷ xs) y h g = by (test x) g (other_found test xs y h.1)
    where
      by : (b : Bool) → (if b then Some x else find test xs) ≡ Some y → (find test xs ≡ Some y → told y.number ≡ false) → told y.number ≡ false
      by true q more = let same : x ≡ y = cc in subst (λ (z : n.Local). told z.number ≡ false) same h.0
      by false q more = more q

module _ (gs : List n.Global) (told : ℕ → Bool) where
  other_global : (o : Option n.Sort) → IsOther told (elim o [
    | Some sort ↦ n.IsGlobal sort
    | None ↦ n.IsUnknown
  ])
  other_global None = tt
  other_global (Some sort) = tt

  other : (s : n.Scope) (name : List ℕ) → Unknown told s.known → IsOther told (n.meaning gs s name)
  other s name h = by (find (λ (y : n.Local). n.same_name y.name name) s.known) refl
    where
      by : (o : Option n.Local) → find (λ (y : n.Local). n.same_name y.name name) s.known ≡ o → IsOther told (elim o [
        | Some y ↦ n.IsLocal y
        | None ↦ n.global_meaning gs name
      ])
      by None q = other_global (n.global_named gs name)
      by (Some y) q = other_found told (λ (z : n.Local). n.same_name z.name name) s.known y h q

  -- ---- Expressions

  module _ (s : n.Scope) (unknown : Unknown told s.known) where
    named_none : (y : t.Name) → ReadsNone told (made.named gs s y)
    named_none y = go (n.meaning gs s y.text) (other s y.text unknown)
      where
        go : (m : n.Meaning) → IsOther told m → ReadsNone told (elim m [
          | n.IsLocal l ↦ e.Local l.number l.kind
          | n.IsGlobal (n.Variable number type_name length each) ↦ e.Variable y.place number (n.kind_named type_name)
          | _ ↦ made.int 0
        ])
        go n.IsUnknown k = tt
        go (n.IsLocal l) k = k
        go (n.IsGlobal (n.Mutex number count)) k = tt
        go (n.IsGlobal (n.Variable number type_name length each)) k = tt
        go (n.IsGlobal (n.Function number gives parameters)) k = tt
        go (n.IsGlobal n.Thread) k = tt

    element_none : (y : t.Name) (place : Place) (index : e.Expr) → ReadsNone told index → ReadsNone told (made.element gs s y place index)
    element_none y place index h = go (n.meaning gs s y.text)
      where
        go : (m : n.Meaning) → ReadsNone told (elim m [
          | n.IsGlobal (n.Variable number type_name length each) ↦ e.Element y.place number (n.kind_named type_name) place index
          | _ ↦ made.int 0
        ])
        go n.IsUnknown = tt
        go (n.IsLocal l) = tt
        go (n.IsGlobal (n.Mutex number count)) = tt
        go (n.IsGlobal (n.Variable number type_name length each)) = h
        go (n.IsGlobal (n.Function number gives parameters)) = tt
        go (n.IsGlobal n.Thread) = tt

    address_none : (y : t.Name) (place : Place) (index : e.Expr) → ReadsNone told index → ReadsNone told (made.address gs s y place index)
    address_none y place index h = go (n.meaning gs s y.text)
      where
        go : (m : n.Meaning) → ReadsNone told (elim m [
          | n.IsGlobal (n.Variable number type_name length each) ↦ e.Address number place index
          | _ ↦ made.int 0
        ])
        go n.IsUnknown = tt
        go (n.IsLocal l) = tt
        go (n.IsGlobal (n.Mutex number count)) = tt
        go (n.IsGlobal (n.Variable number type_name length each)) = h
        go (n.IsGlobal (n.Function number gives parameters)) = tt
        go (n.IsGlobal n.Thread) = tt

    abbrev RefersOther : Option n.Reference → Type 0
    RefersOther None = Unit {0}
    RefersOther (Some y) = told y.local ≡ false

    refers_other : (y : t.Name) → RefersOther (made.reference gs s y)
    refers_other y = go (n.meaning gs s y.text) (other s y.text unknown)
      where
        array : (l : n.Local) (o : Option n.Array) → told l.number ≡ false →
            RefersOther (option_map (λ (a : n.Array). let r : n.Reference = record { local = l.number; array = a } in r) o)
        array l None k = tt
        array l (Some a) k = k

        go : (m : n.Meaning) → IsOther told m → RefersOther (elim m [
          | n.IsLocal l ↦ option_map (λ (a : n.Array). record { local = l.number; array = a }) l.refers
          | _ ↦ None
        ])
        go n.IsUnknown k = tt
        go (n.IsLocal l) k = array l l.refers k
        go (n.IsGlobal (n.Mutex number count)) k = tt
        go (n.IsGlobal (n.Variable number type_name length each)) k = tt
        go (n.IsGlobal (n.Function number gives parameters)) k = tt
        go (n.IsGlobal n.Thread) k = tt

    followed_none : (place : Place) (y : t.Name) → ReadsNone told (made.followed gs s place y)
    followed_none place y = go (made.reference gs s y) (refers_other y)
      where
        go : (o : Option n.Reference) → RefersOther o → ReadsNone told (elim o [
          | Some z ↦ e.Element place z.array.number z.array.kind place (made.referent gs place z).expr
          | None ↦ made.int 0
        ])
        go None k = tt
        go (Some z) k = k

    pub expr_none : (y : t.Expression) → ReadsNone told (made.expr gs s y)
    expr_none (t.Number place value) = tt
    expr_none (t.Named y) = named_none y
    expr_none (t.Element array index) = element_none array (made.first_place index) (made.expr gs s index) (expr_none index)
    expr_none (t.Null place) = tt
    expr_none (t.Address place array index) = address_none array (made.first_place index) (made.expr gs s index) (expr_none index)
    expr_none (t.Referent place reference) = followed_none place reference
    expr_none (t.Parenthesised place inner) = expr_none inner
    expr_none (t.Unary place operator operand) = expr_none operand
    expr_none (t.Cast place kind operand) = expr_none operand
    expr_none (t.Binary operator left right) = (expr_none left, expr_none right)
    expr_none (t.Conditional condition chosen otherwise) = (expr_none condition, expr_none chosen, expr_none otherwise)

    -- ---- Assignments and calls

    target_named_none : (y : t.Name) → TargetReadsNone told (made.target_named gs s y)
    target_named_none y = go (n.meaning gs s y.text)
      where
        go : (m : n.Meaning) → TargetReadsNone told (elim m [
          | n.IsLocal l ↦ e.ToLocal y.place l.number l.kind
          | n.IsGlobal (n.Variable number type_name length each) ↦ e.ToVariable y.place number (n.kind_named type_name)
          | _ ↦ e.ToLocal y.place 0 Int
        ])
        go n.IsUnknown = tt
        go (n.IsLocal l) = tt
        go (n.IsGlobal (n.Mutex number count)) = tt
        go (n.IsGlobal (n.Variable number type_name length each)) = tt
        go (n.IsGlobal (n.Function number gives parameters)) = tt
        go (n.IsGlobal n.Thread) = tt

    target_element_none : (y : t.Name) (index : e.Placed) → ReadsNone told index.expr → TargetReadsNone told (made.target_element gs s y index)
    target_element_none y index h = go (n.meaning gs s y.text)
      where
        go : (m : n.Meaning) → TargetReadsNone told (elim m [
          | n.IsGlobal (n.Variable number type_name length each) ↦ e.ToElement y.place number (n.kind_named type_name) index
          | _ ↦ e.ToLocal y.place 0 Int
        ])
        go n.IsUnknown = tt
        go (n.IsLocal l) = tt
        go (n.IsGlobal (n.Mutex number count)) = tt
        go (n.IsGlobal (n.Variable number type_name length each)) = h
        go (n.IsGlobal (n.Function number gives parameters)) = tt
        go (n.IsGlobal n.Thread) = tt

    target_followed_none : (place : Place) (y : t.Name) → TargetReadsNone told (made.target_followed gs s place y)
    target_followed_none place y = go (made.reference gs s y) (refers_other y)
      where
        go : (o : Option n.Reference) → RefersOther o → TargetReadsNone told (elim o [
          | Some z ↦ e.ToElement place z.array.number z.array.kind (made.referent gs place z)
          | None ↦ e.ToLocal y.place 0 Int
        ])
        go None k = tt
        go (Some z) k = k

    pub target_none : (y : t.Lvalue) → TargetReadsNone told (made.target gs s y)
    target_none (t.Target y None) = target_named_none y
    target_none (t.Target y (Some index)) = target_element_none y (made.placed gs s index) (expr_none index)
    target_none (t.Followed place y) = target_followed_none place y

    before_none : (y : t.Lvalue) → ReadsNone told (made.before gs s y)
    before_none (t.Target y None) = named_none y
    before_none (t.Target y (Some index)) = element_none y (made.first_place index) (made.expr gs s index) (expr_none index)
    before_none (t.Followed place y) = followed_none place y

    changed_none : (y : t.Lvalue) (c : t.Change) → ReadsNone told (made.changed gs s y c).expr
    changed_none y (t.Set value) = expr_none value
    changed_none y (t.Update operator value) = (before_none y, expr_none value)
    changed_none y t.Increment = (before_none y, tt)
    changed_none y t.Decrement = (before_none y, tt)

    pub assignment_later : (place : Place) (y : t.Assignment) → TypedReadsLater told (made.assignment_at gs place s y)
    assignment_later place y = (target_none y.target, changed_none y.target y.change)

    arguments_none : (ys : List t.Expression) → AllReadNone told (map (made.placed gs s) ys)
    arguments_none [] = tt
    arguments_none (y ∷ ys) = (expr_none y, arguments_none ys)

    pub call_later : (place : Place) (c : t.Call) (result : Option e.Lvalue) → ResultReadsNone told result →
        TypedReadsLater told (made.call gs place s c result)
    call_later place c result h = go (n.meaning gs s c.function.text)
      where
        go : (m : n.Meaning) → TypedReadsLater told (elim m [
          | n.IsGlobal (n.Function number gives parameters) ↦ p.Call place c.function.place number (map (made.placed gs s) c.arguments) result
          | _ ↦ p.Call place c.function.place 0 (map (made.placed gs s) c.arguments) result
        ])
        go n.IsUnknown = (arguments_none c.arguments, h)
        go (n.IsLocal l) = (arguments_none c.arguments, h)
        go (n.IsGlobal (n.Mutex number count)) = (arguments_none c.arguments, h)
        go (n.IsGlobal (n.Variable number type_name length each)) = (arguments_none c.arguments, h)
        go (n.IsGlobal (n.Function number gives parameters)) = (arguments_none c.arguments, h)
        go (n.IsGlobal n.Thread) = (arguments_none c.arguments, h)

    pub call_assigns : (place : Place) (c : t.Call) (result : Option e.Lvalue) → ResultTakes told result → TypedAssigns told (made.call gs place s c result)
    call_assigns place c result h = go (n.meaning gs s c.function.text)
      where
        go : (m : n.Meaning) → TypedAssigns told (elim m [
          | n.IsGlobal (n.Function number gives parameters) ↦ p.Call place c.function.place number (map (made.placed gs s) c.arguments) result
          | _ ↦ p.Call place c.function.place 0 (map (made.placed gs s) c.arguments) result
        ])
        go n.IsUnknown = h
        go (n.IsLocal l) = h
        go (n.IsGlobal (n.Mutex number count)) = h
        go (n.IsGlobal (n.Variable number type_name length each)) = h
        go (n.IsGlobal (n.Function number gives parameters)) = h
        go (n.IsGlobal n.Thread) = h

    pub maybe_none : (place : Place) (y : Option t.Expression) → ReadsNone told (made.condition_at gs place s y).expr
    maybe_none place None = tt
    maybe_none place (Some y) = expr_none y

    pub last_later : (place : Place) (y : Option t.Assignment) → TypedReadLater told (made.last_at gs place s y)
    last_later place None = tt
    last_later place (Some y) = (assignment_later place y, inr tt)

    pub key_none : (key : Option t.Expression) → KeyReadsNone told (option_map (made.placed gs s) key)
    key_none None = tt
    key_none (Some key) = expr_none key

    pub given_none : (kind : Option Kind) (y : Option t.Return) → GivenReadsNone told (made.returned gs s kind y)
    given_none None y = tt
    given_none (Some kind) None = tt
    given_none (Some kind) (Some y) = value y.value
      where
        value : (o : Option t.Expression) →
            GivenReadsNone told (option_map (λ (v : t.Expression). let r : p.Returned = record { kind = kind; value = made.placed gs s v } in r) o)
        value None = tt
        value (Some v) = expr_none v
