-- The parsers of assignments, calls and right sides keep their languages.
use Rattle.std.proofs.Common.{◌≡◌, ℕ, ◌≤◌, List, [], ◌∷◌, ◌++◌, Option, Some, None, true, false, sym, refl, ap, ◌∙◌, subst, inl, inr, append_assoc}
use Rattle.std.proofs.Common.{arith}
use Rattle.std.specs.Prelude.{◌⊎◌}
use Rattle.ido_base.specs.declared.place.Place.{Place}
use Rattle.ido_ints.specs.declared.operators.Binary.{Binary}
use Rattle.ido_ints.specs.declared.operators.Binary.TheVariants as binary
use Rattle.c_tree.specs.Tokens.{Token, Lexeme, Name, Punctuator}
use Rattle.c_tree.specs.declared.token.Punctuator.TheVariants as p
use Rattle.c_tree.specs.Trees as t
use Rattle.c_tree.specs.Languages.{mark, ◌⋅◌, first_place}
use Rattle.c_tree.specs.Elaboration.{target_place}
use Rattle.c_tree.specs.Grammar.{expression, index, target, changed, assignment}
use Rattle.c_reader.specs.links.ParserFunctions.{head_of, head_is, is_mark, update_in, parse_target, parse_followed}
use Rattle.c_reader.specs.links.ParserFunctions.{change_by, parse_change, assignment_by, parse_assignment}
use Rattle.c_reader.proofs.CorrectParsers.{Spelling, Good, ◌▷◌, ◌▹◌, found_in, Anything, good_to, good_map, good_where, good_head, good_then, good_taking}
use Rattle.c_reader.proofs.Tokens.{some_same, marked, named, good_mark, good_name}
use Rattle.c_reader.proofs.Expressions.{OperandEnd, not_mark}
use Rattle.c_reader.proofs.Operands.{ExpressionEnd, good_index, good_expression}

-- ---- Targets

abbrev pub FollowedLanguage : Spelling t.Lvalue
FollowedLanguage = marked p.Star ▷ (λ place. named ▹ t.Followed place)

abbrev NamedTarget : Spelling t.Lvalue
NamedTarget = named ▷ (λ n. index ▹ t.Target n)

pub good_followed : {b : ℕ} → Good b FollowedLanguage FollowedLanguage Anything parse_followed parse_followed
good_followed =
    good_then {M = λ place. named ▹ t.Followed place} {F = Anything} {G = Anything} (good_mark p.Star) (λ place. good_map (t.Followed place) good_name)
    (λ place y us rest m f. tt)

pub followed_up : (y : t.Lvalue) (us : List Token) → FollowedLanguage y us → target y us
followed_up y us (place, us₁, us₂, e, l, (x, m, q)) = subst (λ y. target y us) q (us₁, us₂, e, l, m)

pub good_target : (fuel fuel' b : ℕ) → b ≤ fuel → b ≤ fuel' → Good b target target OperandEnd (parse_target fuel) (parse_target fuel')
good_target fuel fuel' b h h' =
    good_where {K₁ = FollowedLanguage} {K₂ = NamedTarget} (head_is (is_mark p.Star))
    (good_to {F = Anything} good_followed followed_up (λ y us u. u) (λ h f. tt))
    (good_to {U = NamedTarget} {K = NamedTarget} {F = OperandEnd}
    (good_then {M = λ n. index ▹ t.Target n} {F = Anything} {G = OperandEnd} good_name
    (λ n. good_map (t.Target n) (good_index {c = b} (omega arith) (good_expression fuel fuel' b h h'))) (λ n y us rest m f. tt))
    (λ y us (n, us₁, us₂, e, l, (i, m, q)). subst (λ y. target y us) q (us₁, us₂, e, l, m)) (λ y us u. u) (λ h f. f))
    out
  where
    out : (y : t.Lvalue) (us rest : List Token) → target y us → OperandEnd (head_of rest) →
        (FollowedLanguage y us × (head_is (is_mark p.Star) (head_of (us ++ rest)) ≡ true))
        ⊎ (NamedTarget y us × (head_is (is_mark p.Star) (head_of (us ++ rest)) ≡ false))
    out (t.Target n i) us rest (us₁, us₂, e, l, m) f = inr ((n, us₁, us₂, e, l, (i, m, refl)), rw (e, l) refl)
    out (t.Followed place x) us rest (us₁, us₂, e, l, m) f = inl ((place, us₁, us₂, e, l, (x, m, refl)), rw (e, l) refl)

-- ---- Changes

-- what stands after a target
abbrev pub ChangeLanguage : Spelling t.Change
ChangeLanguage (t.Set value) = mark p.Assign ⋅ expression value
ChangeLanguage (t.Update operator value) = mark (p.Update operator) ⋅ expression value
ChangeLanguage t.Increment = mark p.Increment
ChangeLanguage t.Decrement = mark p.Decrement

abbrev UpdateLanguage : Spelling t.Change
UpdateLanguage = found_in update_in ▷ (λ o. expression ▹ t.Update o)

abbrev change_language : Option Lexeme → Spelling t.Change
change_language (Some (Punctuator p.Assign)) = marked p.Assign ▷ (λ o. expression ▹ t.Set)
change_language (Some (Punctuator p.Increment)) = marked p.Increment ▹ (λ o. t.Increment)
change_language (Some (Punctuator p.Decrement)) = marked p.Decrement ▹ (λ o. t.Decrement)
change_language _ = UpdateLanguage

update_is : (o : Binary) (us : List Token) → found_in update_in o us → mark (p.Update o) us
update_is o us (a, e, f) = (a.place, rw e (ap (λ l. record { place = a.place; lexeme = l } ∷ []) (of a.lexeme f)))
  where
    of : (l : Lexeme) → elim l as (λ l. Option Binary) [ Punctuator (p.Update x) ↦ Some x | _ ↦ None ] ≡ Some o → l ≡ Punctuator (p.Update o)
    of (Punctuator (p.Update x)) q = ap (λ x. Punctuator (p.Update x)) (some_same x o q)
    of _ q = cc

set_up : (y : t.Change) (us : List Token) → (marked p.Assign ▷ (λ o. expression ▹ t.Set)) y us → ChangeLanguage y us
set_up y us (o, us₁, us₂, e, l, (x, m, q)) = subst (λ y. ChangeLanguage y us) q (us₁, us₂, e, (o, l), m)

update_up : (y : t.Change) (us : List Token) → UpdateLanguage y us → ChangeLanguage y us
update_up y us (o, us₁, us₂, e, l, (x, m, q)) = subst (λ y. ChangeLanguage y us) q (us₁, us₂, e, update_is o us₁ l, m)

change_good : (fuel fuel' b : ℕ) → b ≤ fuel → b ≤ fuel' → (h : Option Lexeme)
    → Good b ChangeLanguage (change_language h) ExpressionEnd (change_by fuel h) (change_by fuel' h)
change_good fuel fuel' b h h' (Some (Punctuator p.Assign)) =
    good_to {U = marked p.Assign ▷ (λ o. expression ▹ t.Set)} {K = marked p.Assign ▷ (λ o. expression ▹ t.Set)} {F = ExpressionEnd}
    (good_then {M = λ o. expression ▹ t.Set} {F = Anything} {G = ExpressionEnd} (good_mark p.Assign) (λ o. good_map t.Set (good_expression fuel fuel' b h h'))
    (λ o y us rest m f. tt))
    set_up (λ y us u. u) (λ h f. f)
change_good fuel fuel' b h h' (Some (Punctuator p.Increment)) =
    good_to (good_map (λ o. t.Increment) (good_mark p.Increment)) (λ y us (o, l, q). subst (λ y. ChangeLanguage y us) q (o, l)) (λ y us u. u) (λ h f. tt)
change_good fuel fuel' b h h' (Some (Punctuator p.Decrement)) =
    good_to (good_map (λ o. t.Decrement) (good_mark p.Decrement)) (λ y us (o, l, q). subst (λ y. ChangeLanguage y us) q (o, l)) (λ y us u. u) (λ h f. tt)
change_good fuel fuel' b h h' _ =
    good_to {U = UpdateLanguage} {K = UpdateLanguage} {F = ExpressionEnd}
    (good_then {M = λ o. expression ▹ t.Update o} {F = Anything} {G = ExpressionEnd}
    (good_taking update_in (record { place = record { 0 = 0 }; lexeme = Punctuator (p.Update binary.Add) }) binary.Add refl)
    (λ o. good_map (t.Update o) (good_expression fuel fuel' b h h')) (λ o y us rest m f. tt))
    update_up (λ y us u. u) (λ h f. f)

change_out : (y : t.Change) (us rest : List Token) → ChangeLanguage y us → change_language (head_of (us ++ rest)) y us
change_out (t.Set value) us rest (us₁, us₂, e, (o, l), m) =
    rw (e, l) (o, record { place = o; lexeme = Punctuator p.Assign } ∷ [], us₂, refl, refl, (value, m, refl))
change_out (t.Update operator value) us rest (us₁, us₂, e, (o, l), m) =
    rw (e, l) (
      operator,
      record { place = o; lexeme = Punctuator (p.Update operator) } ∷
          [],
      us₂,
      refl,
      (record { place = o; lexeme = Punctuator (p.Update operator) }, refl, refl),
      (value, m, refl),
    )
change_out t.Increment us rest (o, l) = rw l (o, refl, refl)
change_out t.Decrement us rest (o, l) = rw l (o, refl, refl)

pub good_change : (fuel fuel' b : ℕ) → b ≤ fuel → b ≤ fuel' → Good b ChangeLanguage ChangeLanguage ExpressionEnd (parse_change fuel) (parse_change fuel')
good_change fuel fuel' b h h' = good_head {K = change_language} (change_good fuel fuel' b h h') (λ y us rest u f. change_out y us rest u)

-- ---- Assignments

abbrev made_of : t.Lvalue → t.Change → t.Assignment
made_of x y = record { place = target_place x; target = x; change = y }

abbrev before : t.Change → Place → t.Lvalue → t.Assignment
before y place x = record { place = place; target = x; change = y }

abbrev PlainLanguage : Spelling t.Assignment
PlainLanguage = target ▷ (λ x. ChangeLanguage ▹ made_of x)

abbrev assignment_language : Option Lexeme → Spelling t.Assignment
assignment_language (Some (Punctuator p.Increment)) = marked p.Increment ▷ (λ place. target ▹ before t.Increment place)
assignment_language (Some (Punctuator p.Decrement)) = marked p.Decrement ▷ (λ place. target ▹ before t.Decrement place)
assignment_language _ = PlainLanguage

-- the lexeme of a target's first token
abbrev pub target_lexeme : t.Lvalue → Lexeme
target_lexeme (t.Target x index) = Name x.text
target_lexeme (t.Followed place x) = Punctuator p.Star

pub target_first : (x : t.Lvalue) (us vs : List Token) → target x us → first_place (us ++ vs) ≡ Some (target_place x)
target_first (t.Target x index) us vs (us₁, us₂, e, n, i) = rw (e, n) refl
target_first (t.Followed place x) us vs (us₁, us₂, e, l, m) = rw (e, l) refl

pub target_head : (x : t.Lvalue) (us rest : List Token) → target x us → head_of (us ++ rest) ≡ Some (target_lexeme x)
target_head (t.Target x index) us rest (us₁, us₂, e, n, i) = rw (e, n) refl
target_head (t.Followed place x) us rest (us₁, us₂, e, l, m) = rw (e, l) refl

-- it leads to an assignment whose target comes first
plain_at : (x : t.Lvalue) (y : t.Assignment) (us : List Token) → PlainLanguage y us → assignment_language (Some (target_lexeme x)) y us
plain_at (t.Target x index) y us u = u
plain_at (t.Followed place x) y us u = u

change_ends : (y : t.Change) (us rest : List Token) → ChangeLanguage y us → OperandEnd (head_of (us ++ rest))
change_ends (t.Set value) us rest (us₁, us₂, e, (o, l), m) = rw (e, l) refl
change_ends (t.Update operator value) us rest (us₁, us₂, e, (o, l), m) = rw (e, l) (not_mark p.OpenBracket (Punctuator (p.Update operator)) (λ q. cc))
change_ends t.Increment us rest (o, l) = rw l refl
change_ends t.Decrement us rest (o, l) = rw l refl

changed_up : (x : t.Lvalue) (y : t.Change) (us vs : List Token) → target x us → ChangeLanguage y vs → changed x y (us ++ vs)
changed_up x (t.Set value) us vs u (vs₁, vs₂, e, l, m) = (us, vs, refl, u, (vs₁, vs₂, e, l, m))
changed_up x (t.Update operator value) us vs u (vs₁, vs₂, e, l, m) = (us, vs, refl, u, (vs₁, vs₂, e, l, m))
changed_up x t.Increment us vs u m = inl (us, vs, refl, u, m)
changed_up x t.Decrement us vs u m = inl (us, vs, refl, u, m)

pub plain_up : (y : t.Assignment) (us : List Token) → PlainLanguage y us → assignment y us
plain_up y us (x, us₁, us₂, e, u, (c, m, q)) = subst (λ y. assignment y us) q (rw e (target_first x us₁ us₂ u, changed_up x c us₁ us₂ u m))

increment_up : (y : t.Assignment) (us : List Token) → (marked p.Increment ▷ (λ place. target ▹ before t.Increment place)) y us → assignment y us
increment_up y us (o, us₁, us₂, e, l, (x, m, q)) =
    subst (λ y. assignment y us) q (rw (e, l) (refl, inr (record { place = o; lexeme = Punctuator p.Increment } ∷ [], us₂, refl, (o, refl), m)))

decrement_up : (y : t.Assignment) (us : List Token) → (marked p.Decrement ▷ (λ place. target ▹ before t.Decrement place)) y us → assignment y us
decrement_up y us (o, us₁, us₂, e, l, (x, m, q)) =
    subst (λ y. assignment y us) q (rw (e, l) (refl, inr (record { place = o; lexeme = Punctuator p.Decrement } ∷ [], us₂, refl, (o, refl), m)))

assignment_good : (fuel fuel' b : ℕ) → b ≤ fuel → b ≤ fuel' → (h : Option Lexeme)
    → Good b assignment (assignment_language h) ExpressionEnd (assignment_by fuel h) (assignment_by fuel' h)
assignment_good fuel fuel' b h h' (Some (Punctuator p.Increment)) =
    good_to {U = marked p.Increment ▷ (λ place. target ▹ before t.Increment place)} {K = marked p.Increment ▷ (λ place. target ▹ before t.Increment place)}
    {F = OperandEnd}
    (good_then {M = λ place. target ▹ before t.Increment place} {F = Anything} {G = OperandEnd} (good_mark p.Increment)
    (λ place. good_map (before t.Increment place) (good_target fuel fuel' b h h')) (λ o y us rest m f. tt))
    increment_up (λ y us u. u) (λ h f. f.0.0)
assignment_good fuel fuel' b h h' (Some (Punctuator p.Decrement)) =
    good_to {U = marked p.Decrement ▷ (λ place. target ▹ before t.Decrement place)} {K = marked p.Decrement ▷ (λ place. target ▹ before t.Decrement place)}
    {F = OperandEnd}
    (good_then {M = λ place. target ▹ before t.Decrement place} {F = Anything} {G = OperandEnd} (good_mark p.Decrement)
    (λ place. good_map (before t.Decrement place) (good_target fuel fuel' b h h')) (λ o y us rest m f. tt))
    decrement_up (λ y us u. u) (λ h f. f.0.0)
assignment_good fuel fuel' b h h' _ =
    good_to {U = PlainLanguage} {K = PlainLanguage} {F = ExpressionEnd}
    (good_then {M = λ x. ChangeLanguage ▹ made_of x} {F = OperandEnd} {G = ExpressionEnd} (good_target fuel fuel' b h h')
    (λ x. good_map (made_of x) (good_change fuel fuel' b h h'))
    (λ x y us rest (c, m, q) f. change_ends c us rest m))
    plain_up (λ y us u. u) (λ h f. f)

-- an assignment whose target comes first
pub plain_down : (place : Place) (x : t.Lvalue) (c : t.Change) (us us₁ us₂ : List Token) → us ≡ us₁ ++ us₂ → first_place us ≡ Some place → target x us₁
    → ChangeLanguage c us₂ → PlainLanguage (record { place = place; target = x; change = c }) us
plain_down place x c us us₁ us₂ e f u m =
    let s : target_place x ≡ place = some_same (target_place x) place (sym (target_first x us₁ us₂ u) ∙ ap first_place (sym e) ∙ f) in
    (x, us₁, us₂, e, u, (c, m, ap (λ place. record { place = place; target = x; change = c }) s))

assignment_out : (place : Place) (x : t.Lvalue) (c : t.Change) (us rest : List Token) → assignment (record { place = place; target = x; change = c }) us
    → assignment_language (head_of (us ++ rest)) (record { place = place; target = x; change = c }) us
assignment_out place x (t.Set value) us rest (f, (us₁, us₂, e, u, m)) =
    let q : head_of (us ++ rest) ≡ Some (target_lexeme x) = rw (e, append_assoc us₁ us₂ rest) (target_head x us₁ (us₂ ++ rest) u) in
    rw q (plain_at x _ us (plain_down place x (t.Set value) us us₁ us₂ e f u m))
assignment_out place x (t.Update operator value) us rest (f, (us₁, us₂, e, u, m)) =
    let q : head_of (us ++ rest) ≡ Some (target_lexeme x) = rw (e, append_assoc us₁ us₂ rest) (target_head x us₁ (us₂ ++ rest) u) in
    rw q (plain_at x _ us (plain_down place x (t.Update operator value) us us₁ us₂ e f u m))
assignment_out place x t.Increment us rest (f, inl (us₁, us₂, e, u, m)) =
    let q : head_of (us ++ rest) ≡ Some (target_lexeme x) = rw (e, append_assoc us₁ us₂ rest) (target_head x us₁ (us₂ ++ rest) u) in
    rw q (plain_at x _ us (plain_down place x t.Increment us us₁ us₂ e f u m))
assignment_out place x t.Decrement us rest (f, inl (us₁, us₂, e, u, m)) =
    let q : head_of (us ++ rest) ≡ Some (target_lexeme x) = rw (e, append_assoc us₁ us₂ rest) (target_head x us₁ (us₂ ++ rest) u) in
    rw q (plain_at x _ us (plain_down place x t.Decrement us us₁ us₂ e f u m))
assignment_out place x t.Increment us rest (f, inr (us₁, us₂, e, (o, l), u)) =
    let s : o ≡ place = some_same o place (sym (ap first_place (e ∙ ap (λ l. l ++ us₂) l)) ∙ f) in
    let q : head_of (us ++ rest) ≡ Some (Punctuator p.Increment) = rw (e, l) refl in
    rw q (o, us₁, us₂, e, l, (x, u, ap (λ o. before t.Increment o x) s))
assignment_out place x t.Decrement us rest (f, inr (us₁, us₂, e, (o, l), u)) =
    let s : o ≡ place = some_same o place (sym (ap first_place (e ∙ ap (λ l. l ++ us₂) l)) ∙ f) in
    let q : head_of (us ++ rest) ≡ Some (Punctuator p.Decrement) = rw (e, l) refl in
    rw q (o, us₁, us₂, e, l, (x, u, ap (λ o. before t.Decrement o x) s))

pub good_assignment : (fuel fuel' b : ℕ) → b ≤ fuel → b ≤ fuel' → Good b assignment assignment ExpressionEnd (parse_assignment fuel) (parse_assignment fuel')
good_assignment fuel fuel' b h h' =
    good_head {K = assignment_language} (assignment_good fuel fuel' b h h') (λ y us rest u f. assignment_out y.place y.target y.change us rest u)
