-- The parsers of declarations, conditions and statements without blocks keep their languages.
use Rattle.std.proofs.Common.{◌≡◌, ℕ, ◌+◌, ◌<◌, ◌≤◌, List, [], ◌∷◌, ◌++◌, length, length-append, Option, Some, None, Bool, true}
use Rattle.std.proofs.Common.{false, sym, refl, ap, ◌∙◌, subst, inl, inr, append_assoc, arith, true≢false, zero-lt-suc}
use Rattle.std.specs.Prelude.{◌⊎◌}
use Rattle.ido_base.specs.declared.place.Place.{Place}
use Rattle.c_tree.specs.declared.language.Language.{Language}
use Rattle.c_tree.specs.declared.language.Language.TheVariants.{Plain, Full}
use Rattle.c_tree.specs.Tokens.{Token, Lexeme, Name, Keyword, Punctuator}
use Rattle.c_tree.specs.declared.token.Keyword.TheVariants as k
use Rattle.c_tree.specs.declared.token.Punctuator.TheVariants as p
use Rattle.c_tree.specs.Trees as t
use Rattle.c_tree.specs.Elaboration.{target_place}
use Rattle.c_tree.specs.Languages.{mark, ◌⋅◌, name, starting_at}
use Rattle.c_tree.specs.Grammar.{expression, index, type_name, initial, initial_of_first, first, condition, assignment, changed, target, key}
use Rattle.c_reader.specs.links.ParserFunctions.{Parser, head_of, head_is, is_mark, begins_type, parse_initial}
use Rattle.c_reader.specs.links.ParserFunctions.{parse_initial_of_first, declaration_over, parse_first}
use Rattle.c_reader.specs.links.ParserFunctions.{parse_condition, parse_key, parse_lock_name, assigned_from, statement_after_target, statement_after_name}
use Rattle.c_reader.proofs.CorrectParsers.{Spelling, Good, ◌▷◌, ◌▹◌, just, Anything, Strict, good_give, good_to, good_map, good_where, good_then}
use Rattle.c_reader.proofs.Tokens.{marked, named, good_mark, good_name}
use Rattle.c_reader.proofs.Types.{TypeEnd, good_type_name, type_name_begins}
use Rattle.c_reader.proofs.OptionalParts.{Unless}
use Rattle.c_reader.proofs.TokenPlaces.{At, good_here}
use Rattle.c_reader.proofs.Expressions.{OperandEnd, not_mark}
use Rattle.c_reader.proofs.Operands.{ExpressionEnd, good_index, good_expression}
use Rattle.c_reader.proofs.Assignments.{ChangeLanguage, good_change, good_assignment, target_lexeme, target_head}
use Rattle.c_reader.proofs.Calls.{RightLanguage, RightEnd, good_right, CallLanguage, call_good, call_head}

-- ---- What a local begins with

abbrev pub InitialEnd : Option Lexeme → Type 0
InitialEnd h = RightEnd h × (head_is (is_mark p.Assign) h ≡ false)

abbrev AssignedRight : Spelling t.Initial
AssignedRight = marked p.Assign ▷ (λ o. RightLanguage)

right_up : (y : t.Initial) (us : List Token) → AssignedRight y us → initial y us
right_up t.Absent us (o, us₁, us₂, e, l, m) = absurd m
right_up (t.Value x) us (o, us₁, us₂, e, l, m) = (us₁, us₂, e, (o, l), m)
right_up (t.Result c) us (o, us₁, us₂, e, l, m) = (us₁, us₂, e, (o, l), m)

absent_up : (y : t.Initial) (us : List Token) → just t.Absent y us → initial y us
absent_up y us (q, e) = subst (λ y. initial y us) q e

pub good_initial : (fuel fuel' b : ℕ) → b ≤ fuel → b ≤ fuel' → Good b initial initial InitialEnd (parse_initial fuel) (parse_initial fuel')
good_initial fuel fuel' b h h' =
    good_where {K₁ = AssignedRight} {K₂ = just t.Absent} (head_is (is_mark p.Assign))
    (good_to {U = AssignedRight} {K = AssignedRight} {F = RightEnd}
    (good_then {M = λ o. RightLanguage} {F = Anything} {G = RightEnd} (good_mark p.Assign) (λ o. good_right fuel fuel' b h h') (λ o y us rest m f. tt)) right_up
    (λ y us u. u) (λ h f. f.0))
    (good_to {U' = initial} {K' = just t.Absent} (good_give t.Absent) absent_up (λ y us u. u) (λ h f. tt))
    out
  where
    out : (y : t.Initial) (us rest : List Token) → initial y us → InitialEnd (head_of rest)
        → (AssignedRight y us × (head_is (is_mark p.Assign) (head_of (us ++ rest)) ≡ true))
        ⊎ (just t.Absent y us × (head_is (is_mark p.Assign) (head_of (us ++ rest)) ≡ false))
    out t.Absent us rest u f = inr ((refl, u), rw u f.1)
    out (t.Value x) us rest (us₁, us₂, e, (o, l), m) f = inl ((o, us₁, us₂, e, l, m), rw (e, l) refl)
    out (t.Result c) us rest (us₁, us₂, e, (o, l), m) f = inl ((o, us₁, us₂, e, l, m), rw (e, l) refl)

abbrev AssignedValue : Spelling t.Initial
AssignedValue = marked p.Assign ▷ (λ o. expression ▹ t.Value)

good_initial_of_first : (fuel fuel' b : ℕ) → b ≤ fuel → b ≤ fuel'
    → Good b initial_of_first initial_of_first (Unless (is_mark p.Assign) ExpressionEnd) (parse_initial_of_first fuel) (parse_initial_of_first fuel')
good_initial_of_first fuel fuel' b h h' =
    good_where {K₁ = AssignedValue} {K₂ = just t.Absent} (head_is (is_mark p.Assign))
    (good_to {U = AssignedValue} {K = AssignedValue} {F = ExpressionEnd}
    (good_then {M = λ o. expression ▹ t.Value} {F = Anything} {G = ExpressionEnd} (good_mark p.Assign)
    (λ o. good_map t.Value (good_expression fuel fuel' b h h')) (λ o y us rest m f. tt))
    (λ y us (o, us₁, us₂, e, l, (x, m, q)). subst (λ y. initial_of_first y us) q (us₁, us₂, e, (o, l), m)) (λ y us u. u) (λ h f. f.0))
    (good_to {U' = initial_of_first} {K' = just t.Absent} (good_give t.Absent) (λ y us (q, e). subst (λ y. initial_of_first y us) q e) (λ y us u. u)
    (λ h f. tt))
    out
  where
    out : (y : t.Initial) (us rest : List Token) → initial_of_first y us → Unless (is_mark p.Assign) ExpressionEnd (head_of rest)
        → (AssignedValue y us × (head_is (is_mark p.Assign) (head_of (us ++ rest)) ≡ true))
        ⊎ (just t.Absent y us × (head_is (is_mark p.Assign) (head_of (us ++ rest)) ≡ false))
    out t.Absent us rest u f = inr ((refl, u), rw u f.1)
    out (t.Value x) us rest (us₁, us₂, e, (o, l), m) f = inl ((o, us₁, us₂, e, l, (x, m, refl)), rw (e, l) refl)
    out (t.Result c) us rest u f = absurd u

-- ---- Declarations

pub type-strict : Strict type_name
type-strict x [] u = let q : false ≡ true = type_name_begins x [] [] u in absurd (true≢false (sym q))
type-strict x (u ∷ us) m = zero-lt-suc (length us)

first_strict : {A B : Type 0} (L : Spelling A) (M : A → Spelling B) → Strict L → Strict (L ▷ M)
first_strict L M s y us (x, us₁, us₂, e, l, m) =
    let a : length us ≡ length us₁ + length us₂ = ap length e ∙ length-append us₁ us₂ in let b : 0 < length us₁ = s x us₁ l in omega (arith, a, b)

abbrev made : Place → t.TypeName → t.Name → t.Initial → t.Declaration
made place x n i = record { place = place; type_name = x; name = n; initial = i }

abbrev Declared : Spelling t.Initial → Place → Spelling t.Declaration
Declared L place = type_name ▷ (λ x. named ▷ (λ n. L ▹ made place x n))

-- a declaration, where what its local begins with is of the language
abbrev pub DeclarationLanguage : Spelling t.Initial → Spelling t.Declaration
DeclarationLanguage L y = starting_at y.place (type_name y.type_name ⋅ name y.name ⋅ L y.initial)

pub good_declaration : {b : ℕ} (L : Spelling t.Initial) (F : Option Lexeme → Type 0) {P P' : Parser t.Initial} → Good b L L F P P'
    → Good b (DeclarationLanguage L) (DeclarationLanguage L) F (declaration_over P) (declaration_over P')
good_declaration L F g =
    good_to {U = At (Declared L)} {K = At (Declared L)} {F = F}
    (good_here (Declared L) (λ place. first_strict type_name (λ x. named ▷ (λ n. L ▹ made place x n)) type-strict)
    (λ place place' y us (x, us₁, us₂, e, l, (n, us₃, us₄, e', m, (i, v, q))). (made place' x n i, (x, us₁, us₂, e, l, (n, us₃, us₄, e', m, (i, v, refl)))))
    (λ place. good_then {M = λ x. named ▷ (λ n. L ▹ made place x n)} {F = TypeEnd} {G = F} good_type_name
    (λ x. good_then {M = λ n. L ▹ made place x n} {F = Anything} {G = F} good_name (λ n. good_map (made place x n) g) (λ n y us rest m f. tt))
    (λ x y us rest (n, us₁, us₂, e, l, m) f. rw (e, l) (refl, refl, refl, refl))))
    (λ y us (place, f, (x, us₁, us₂, e, l, (n, us₃, us₄, e', m, (i, v, q)))). subst (λ y. DeclarationLanguage L y us) q
    (f, (us₁, us₂, e, l, (us₃, us₄, e', m, v))))
    (λ y us (f, (us₁, us₂, e, l, (us₃, us₄, e', m, v))). (y.place, f, (y.type_name, us₁, us₂, e, l, (y.name, us₃, us₄, e', m, (y.initial, v, refl)))))
    (λ h f. f)

-- ---- Conditions and names in parentheses

pub good_condition : (fuel fuel' b : ℕ) → b ≤ fuel → b ≤ fuel' → Good b condition condition Anything (parse_condition fuel) (parse_condition fuel')
good_condition fuel fuel' b h h' =
    good_to {U = Inside} {K = Inside} {F = Anything}
    (good_then {M = λ o. expression ▷ (λ x. marked p.CloseParenthesis ▹ (λ c. x))} {F = Anything} {G = Anything} (good_mark p.OpenParenthesis)
    (λ o. good_then {M = λ x. marked p.CloseParenthesis ▹ (λ c. x)} {F = ExpressionEnd} {G = Anything} (good_expression fuel fuel' b h h')
    (λ x. good_map (λ c. x) (good_mark p.CloseParenthesis)) (λ x y us rest (c, m, q) f. rw m ((refl, λ n h. refl), refl)))
    (λ o y us rest m f. tt))
    (λ y us (o, us₁, us₂, e, l, (x, us₃, us₄, e', m, (c, n, q))). subst (λ y. condition y us) q (us₁, us₂, e, (o, l), (us₃, us₄, e', m, (c, n))))
    (λ y us (us₁, us₂, e, (o, l), (us₃, us₄, e', m, (c, n))). (o, us₁, us₂, e, l, (y, us₃, us₄, e', m, (c, n, refl))))
    (λ h f. f)
  where
    Inside : Spelling t.Expression
    Inside = marked p.OpenParenthesis ▷ (λ o. expression ▷ (λ x. marked p.CloseParenthesis ▹ (λ c. x)))

-- ---- Names of locks

key_good : (language : Language) (fuel fuel' b : ℕ) → b ≤ fuel → b ≤ fuel'
    → Good b (key language) (key language) OperandEnd (parse_key language fuel) (parse_key language fuel')
key_good Plain fuel fuel' b h h' =
    good_to {U' = key Plain} {K' = key Plain} {F' = OperandEnd} (good_give None) (λ y us (q, e). subst (λ y. key Plain y us) q e) down (λ h f. tt)
  where
    down : (y : Option t.Expression) (us : List Token) → key Plain y us → just None y us
    down None us u = (refl, u)
    down (Some x) us u = absurd u
key_good Full fuel fuel' b h h' =
    good_to {U' = key Full} {K' = key Full} {F' = OperandEnd} (good_index {c = b} (omega arith) (good_expression fuel fuel' b h h')) up down (λ h f. f)
  where
    up : (y : Option t.Expression) (us : List Token) → index y us → key Full y us
    up None us u = u
    up (Some x) us u = u

    down : (y : Option t.Expression) (us : List Token) → key Full y us → index y us
    down None us u = u
    down (Some x) us u = u

abbrev made_lock_name : t.Name → Option t.Expression → t.Name × Option t.Expression
made_lock_name x y = (x, y)

-- the name of a lock, in parentheses
abbrev pub LockInside : Language → Spelling (t.Name × Option t.Expression)
LockInside language x = mark p.OpenParenthesis ⋅ name x.0 ⋅ key language x.1 ⋅ mark p.CloseParenthesis

pub good_lock_inside : (language : Language) (fuel fuel' b : ℕ) → b ≤ fuel → b ≤ fuel'
    → Good b (LockInside language) (LockInside language) Anything (parse_lock_name language fuel) (parse_lock_name language fuel')
good_lock_inside language fuel fuel' b h h' =
    good_to {U = Inside} {K = Inside} {F = Anything}
    (good_then {M = λ o. named ▷ (λ x. key language ▷ (λ y. marked p.CloseParenthesis ▹ (λ c. made_lock_name x y)))} {F = Anything} {G = Anything}
    (good_mark p.OpenParenthesis)
    (λ o. good_then {M = λ x. key language ▷ (λ y. marked p.CloseParenthesis ▹ (λ c. made_lock_name x y))} {F = Anything} {G = Anything} good_name
    (λ x. good_then {M = λ y. marked p.CloseParenthesis ▹ (λ c. made_lock_name x y)} {F = OperandEnd} {G = Anything} (key_good language fuel fuel' b h h')
    (λ y. good_map (λ c. made_lock_name x y) (good_mark p.CloseParenthesis)) (λ y z us rest (c, m, q) f. rw m refl))
    (λ x y us rest m f. tt))
    (λ o y us rest m f. tt))
    (λ y us (o, us₁, us₂, e, l, (x, us₃, us₄, e', m, (k, us₅, us₆, e₂, n, (c, v, q)))).
    subst (λ y. LockInside language y us) q (us₁, us₂, e, (o, l), (us₃, us₄, e', m, (us₅, us₆, e₂, n, (c, v)))))
    (λ y us (us₁, us₂, e, (o, l), (us₃, us₄, e', m, (us₅, us₆, e₂, n, (c, v)))).
    (o, us₁, us₂, e, l, (y.0, us₃, us₄, e', m, (y.1, us₅, us₆, e₂, n, (c, v, refl)))))
    (λ h f. f)
  where
    Inside : Spelling (t.Name × Option t.Expression)
    Inside = marked p.OpenParenthesis ▷ (λ o. named ▷ (λ x. key language ▷ (λ y. marked p.CloseParenthesis ▹ (λ c. made_lock_name x y))))

-- ---- The first part of a `for`

abbrev pub FirstEnd : Option Lexeme → Type 0
FirstEnd h = (head_is (is_mark p.Semicolon) h ≡ true) × Unless (is_mark p.Assign) ExpressionEnd h

-- a test with one answer for all first tokens of assignments
pub assignment_first : (test : Option Lexeme → Bool) (answer : Bool) → ((bytes : List ℕ) → test (Some (Name bytes)) ≡ answer)
    → test (Some (Punctuator p.Star)) ≡ answer → test (Some (Punctuator p.Increment)) ≡ answer → test (Some (Punctuator p.Decrement)) ≡ answer →
    (x : t.Assignment) (us rest : List Token) → assignment x us → test (head_of (us ++ rest)) ≡ answer
assignment_first test answer a s b c x us rest (f, u) = go x.change u
  where
    on : (y : t.Lvalue) → test (Some (target_lexeme y)) ≡ answer
    on (t.Target n i) = a n.text
    on (t.Followed place n) = s

    at_name : (vs ws : List Token) → us ≡ vs ++ ws → target x.target vs → test (head_of (us ++ rest)) ≡ answer
    at_name vs ws e u = rw (e, append_assoc vs ws rest, target_head x.target vs (ws ++ rest) u) (on x.target)

    go : (y : t.Change) → changed x.target y us → test (head_of (us ++ rest)) ≡ answer
    go (t.Set v) (vs, ws, e, m, r) = at_name vs ws e m
    go (t.Update o v) (vs, ws, e, m, r) = at_name vs ws e m
    go t.Increment (inl (vs, ws, e, m, r)) = at_name vs ws e m
    go t.Increment (inr (vs, ws, e, (o, l), r)) = rw (e, l) b
    go t.Decrement (inl (vs, ws, e, m, r)) = at_name vs ws e m
    go t.Decrement (inr (vs, ws, e, (o, l), r)) = rw (e, l) c

-- a test with one answer for all first words of types
begins_type-answer : (test : Option Lexeme → Bool) (answer : Bool) → test (Some (Keyword k.Char)) ≡ answer → test (Some (Keyword k.Short)) ≡ answer
    → test (Some (Keyword k.Int)) ≡ answer → test (Some (Keyword k.Long)) ≡ answer → test (Some (Keyword k.Signed)) ≡ answer
    → test (Some (Keyword k.Unsigned)) ≡ answer → test (Some (Keyword k.Ref)) ≡ answer →
    (h : Option Lexeme) → head_is begins_type h ≡ true → test h ≡ answer
begins_type-answer test answer a b c d e f g (Some (Keyword k.Char)) q = a
begins_type-answer test answer a b c d e f g (Some (Keyword k.Short)) q = b
begins_type-answer test answer a b c d e f g (Some (Keyword k.Int)) q = c
begins_type-answer test answer a b c d e f g (Some (Keyword k.Long)) q = d
begins_type-answer test answer a b c d e f g (Some (Keyword k.Signed)) q = e
begins_type-answer test answer a b c d e f g (Some (Keyword k.Unsigned)) q = f
begins_type-answer test answer a b c d e f g (Some (Keyword k.Ref)) q = g
begins_type-answer test answer a b c d e f g _ q = absurd (true≢false (sym q))

pub type_first : (test : Option Lexeme → Bool) (answer : Bool) → test (Some (Keyword k.Char)) ≡ answer → test (Some (Keyword k.Short)) ≡ answer
    → test (Some (Keyword k.Int)) ≡ answer → test (Some (Keyword k.Long)) ≡ answer → test (Some (Keyword k.Signed)) ≡ answer
    → test (Some (Keyword k.Unsigned)) ≡ answer → test (Some (Keyword k.Ref)) ≡ answer →
    (x : t.TypeName) (us rest : List Token) → type_name x us → test (head_of (us ++ rest)) ≡ answer
type_first test answer a b c d e f g x us rest u = begins_type-answer test answer a b c d e f g (head_of (us ++ rest)) (type_name_begins x us rest u)

pub good_first : (fuel fuel' b : ℕ) → b ≤ fuel → b ≤ fuel' → Good b first first FirstEnd (parse_first fuel) (parse_first fuel')
good_first fuel fuel' b h h' =
    good_where {K₁ = just t.NoFirst} {K₂ = Present} (head_is (is_mark p.Semicolon))
    (good_to {U' = first} {K' = just t.NoFirst} (good_give t.NoFirst) (λ y us (q, e). subst (λ y. first y us) q e) (λ y us u. u) (λ h f. tt))
    (good_to (good_where {U = Present} {K₁ = DeclarationLanguage initial_of_first ▹ t.Declared} {K₂ = assignment ▹ t.Assigned} {F = FirstEnd}
    (head_is begins_type)
    (good_to {F = Unless (is_mark p.Assign) ExpressionEnd} (good_map t.Declared
    (good_declaration initial_of_first (Unless (is_mark p.Assign) ExpressionEnd) (good_initial_of_first fuel fuel' b h h')))
    (λ y us (x, u, q). subst (λ y. Present y us) q u) (λ y us u. u) (λ h f. f.1))
    (good_to {F = ExpressionEnd} (good_map t.Assigned (good_assignment fuel fuel' b h h')) (λ y us (x, u, q). subst (λ y. Present y us) q u) (λ y us u. u)
    (λ h f. f.1.0))
    inner)
    present_up (λ y us u. u) (λ h f. f))
    out
  where
    Present : Spelling t.First
    Present t.NoFirst us = ⊥
    Present (t.Declared x) us = DeclarationLanguage initial_of_first x us
    Present (t.Assigned x) us = assignment x us

    present_up : (y : t.First) (us : List Token) → Present y us → first y us
    present_up t.NoFirst us u = absurd u
    present_up (t.Declared x) us u = u
    present_up (t.Assigned x) us u = u

    inner : (y : t.First) (us rest : List Token) → Present y us → FirstEnd (head_of rest) →
        ((DeclarationLanguage initial_of_first ▹ t.Declared) y us × (head_is begins_type (head_of (us ++ rest)) ≡ true))
        ⊎ ((assignment ▹ t.Assigned) y us × (head_is begins_type (head_of (us ++ rest)) ≡ false))
    inner t.NoFirst us rest u f = absurd u
    inner (t.Declared x) us rest (g, (us₁, us₂, e, l, m)) f =
        inl ((x, (g, (us₁, us₂, e, l, m)), refl), rw (e, append_assoc us₁ us₂ rest) (type_name_begins x.type_name us₁ (us₂ ++ rest) l))
    inner (t.Assigned x) us rest u f = inr ((x, u, refl), assignment_first (head_is begins_type) false (λ bytes. refl) refl refl refl x us rest u)

    out : (y : t.First) (us rest : List Token) → first y us → FirstEnd (head_of rest) →
        (just t.NoFirst y us × (head_is (is_mark p.Semicolon) (head_of (us ++ rest)) ≡ true))
        ⊎ (Present y us × (head_is (is_mark p.Semicolon) (head_of (us ++ rest)) ≡ false))
    out t.NoFirst us rest u f = inl ((refl, u), rw u f.0)
    out (t.Declared x) us rest (g, (us₁, us₂, e, l, m)) f =
        inr (
          (g, (us₁, us₂, e, l, m)),
          rw (e, append_assoc us₁ us₂ rest)
              (type_first (head_is (is_mark p.Semicolon)) false refl refl refl refl refl refl refl x.type_name us₁ (us₂ ++ rest) l),
        )
    out (t.Assigned x) us rest u f = inr (u, assignment_first (head_is (is_mark p.Semicolon)) false (λ bytes. refl) refl refl refl x us rest u)

-- ---- Statements that begin with a name, before their semicolon

abbrev assign_of : t.Lvalue → t.Change → t.Statement
assign_of x y = t.Assign (record { place = target_place x; target = x; change = y })

abbrev FromRight : t.Lvalue → Spelling t.Statement
FromRight x = marked p.Assign ▷ (λ o. RightLanguage ▹ assigned_from x)

-- a change by another mark than `=`
abbrev IsOther : t.Change → Type 0
IsOther (t.Set value) = ⊥
IsOther (t.Update operator value) = Unit {0}
IsOther t.Increment = Unit {0}
IsOther t.Decrement = Unit {0}

abbrev FromChange : t.Lvalue → Spelling t.Statement
FromChange x y us = (c : t.Change) × IsOther c × ChangeLanguage c us × (assign_of x c ≡ y)

-- what stands after the target of a statement
abbrev pub AfterTarget : t.Lvalue → Spelling t.Statement
AfterTarget x y us = FromRight x y us ⊎ FromChange x y us

change_split : (x : t.Lvalue) (y : t.Statement) (us : List Token) → (ChangeLanguage ▹ assign_of x) y us → AfterTarget x y us
change_split x y us (t.Set value, (us₁, us₂, e, (o, l), m), q) = inl (o, us₁, us₂, e, l, (t.Value value, m, q))
change_split x y us (t.Update operator value, m, q) = inr (t.Update operator value, tt, m, q)
change_split x y us (t.Increment, m, q) = inr (t.Increment, tt, m, q)
change_split x y us (t.Decrement, m, q) = inr (t.Decrement, tt, m, q)

other_head : (c : t.Change) (us rest : List Token) → IsOther c → ChangeLanguage c us → head_is (is_mark p.Assign) (head_of (us ++ rest)) ≡ false
other_head (t.Set value) us rest o m = absurd o
other_head (t.Update operator value) us rest o (us₁, us₂, e, (place, l), m) = rw (e, l) (not_mark p.Assign (Punctuator (p.Update operator)) (λ q. cc))
other_head t.Increment us rest o (place, l) = rw l refl
other_head t.Decrement us rest o (place, l) = rw l refl

pub after_target_good : (fuel fuel' b : ℕ) → b ≤ fuel → b ≤ fuel' → (x : t.Lvalue)
    → Good b (AfterTarget x) (AfterTarget x) RightEnd (statement_after_target fuel x) (statement_after_target fuel' x)
after_target_good fuel fuel' b h h' x =
    good_where {K₁ = FromRight x} {K₂ = FromChange x} (head_is (is_mark p.Assign))
    (good_to {U = FromRight x} {K = FromRight x} {F = RightEnd}
    (good_then {M = λ o. RightLanguage ▹ assigned_from x} {F = Anything} {G = RightEnd} (good_mark p.Assign)
    (λ o. good_map (assigned_from x) (good_right fuel fuel' b h h')) (λ o y us rest m f. tt))
    (λ y us u. inl u) (λ y us u. u) (λ h f. f))
    (good_to {K' = FromChange x} (good_map (assign_of x) (good_change fuel fuel' b h h')) (change_split x) (λ y us (c, o, m, q). (c, m, q)) (λ h f. f.0))
    out
  where
    out : (y : t.Statement) (us rest : List Token) → AfterTarget x y us → RightEnd (head_of rest) →
        (FromRight x y us × (head_is (is_mark p.Assign) (head_of (us ++ rest)) ≡ true))
        ⊎ (FromChange x y us × (head_is (is_mark p.Assign) (head_of (us ++ rest)) ≡ false))
    out y us rest (inl (o, us₁, us₂, e, l, m)) f = inl ((o, us₁, us₂, e, l, m), rw (e, l) refl)
    out y us rest (inr (c, o, m, q)) f = inr ((c, o, m, q), other_head c us rest o m)

abbrev at_index : t.Name → Option t.Expression → t.Lvalue
at_index n i = t.Target n i

abbrev FromTarget : t.Name → Spelling t.Statement
FromTarget n = index ▷ (λ i. AfterTarget (at_index n i))

-- what stands after the name that a statement begins with
abbrev pub AfterName : t.Name → Spelling t.Statement
AfterName n y us = (CallLanguage n ▹ t.CallOnly) y us ⊎ FromTarget n y us

after_target_head : (test : Option Lexeme → Bool) → test (Some (Punctuator p.Assign)) ≡ false → test (Some (Punctuator p.Increment)) ≡ false
    → test (Some (Punctuator p.Decrement)) ≡ false → ((o : _) → test (Some (Punctuator (p.Update o))) ≡ false) →
    (x : t.Lvalue) (y : t.Statement) (us rest : List Token) → AfterTarget x y us → test (head_of (us ++ rest)) ≡ false
after_target_head test a b c d x y us rest (inl (o, us₁, us₂, e, l, m)) = rw (e, l) a
after_target_head test a b c d x y us rest (inr (t.Set value, o, m, q)) = absurd o
after_target_head test a b c d x y us rest (inr (t.Update operator value, o, (us₁, us₂, e, (place, l), m), q)) = rw (e, l) (d operator)
after_target_head test a b c d x y us rest (inr (t.Increment, o, (place, l), q)) = rw l b
after_target_head test a b c d x y us rest (inr (t.Decrement, o, (place, l), q)) = rw l c

pub after_name_good : (fuel fuel' b : ℕ) → b ≤ fuel → b ≤ fuel' → (n : t.Name)
    → Good b (AfterName n) (AfterName n) RightEnd (statement_after_name fuel n) (statement_after_name fuel' n)
after_name_good fuel fuel' b h h' n =
    good_where {K₁ = CallLanguage n ▹ t.CallOnly} {K₂ = FromTarget n} (head_is (is_mark p.OpenParenthesis))
    (good_to (good_map t.CallOnly (call_good fuel fuel' b h h' n)) (λ y us u. inl u) (λ y us u. u) (λ h f. tt))
    (good_to {U = FromTarget n} {K = FromTarget n} {F = RightEnd}
    (good_then {M = λ i. AfterTarget (at_index n i)} {F = OperandEnd} {G = RightEnd} (good_index {c = b} (omega arith) (good_expression fuel fuel' b h h'))
    (λ i. after_target_good fuel fuel' b h h' (at_index n i))
    (λ i y us rest m f. after_target_head (head_is (is_mark p.OpenBracket)) refl refl refl (λ o. not_mark p.OpenBracket (Punctuator (p.Update o)) (λ q. cc))
    (at_index n i) y us rest m))
    (λ y us u. inr u) (λ y us u. u) (λ h f. f))
    out
  where
    index_head : (i : Option t.Expression) (us rest : List Token) → index i us → head_is (is_mark p.OpenParenthesis) (head_of rest) ≡ false
        → head_is (is_mark p.OpenParenthesis) (head_of (us ++ rest)) ≡ false
    index_head None us rest u g = rw u g
    index_head (Some i) us rest (vs₁, vs₂, e, (o, l), m) g = rw (e, l) refl

    out : (y : t.Statement) (us rest : List Token) → AfterName n y us → RightEnd (head_of rest) →
        ((CallLanguage n ▹ t.CallOnly) y us × (head_is (is_mark p.OpenParenthesis) (head_of (us ++ rest)) ≡ true))
        ⊎ (FromTarget n y us × (head_is (is_mark p.OpenParenthesis) (head_of (us ++ rest)) ≡ false))
    out y us rest (inl (c, m, q)) f = inl ((c, m, q), rw (call_head n c us rest m) refl)
    out y us rest (inr (i, us₁, us₂, e, l, m)) f =
        inr (
          (i, us₁, us₂, e, l, m),
          rw (e, append_assoc us₁ us₂ rest)
              (index_head i us₁ (us₂ ++ rest) l (after_target_head (head_is (is_mark p.OpenParenthesis)) refl refl refl
              (λ o. not_mark p.OpenParenthesis (Punctuator (p.Update o)) (λ q. cc)) (at_index n i) y us₂ rest m)),
        )
