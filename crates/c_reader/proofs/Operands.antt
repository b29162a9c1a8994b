-- The parsers of operands and whole expressions keep their languages.
use Rattle.std.proofs.Common.{◌≡◌, ℕ, zero, suc, ◌-◌, ◌≤◌, List, [], ◌∷◌, ◌++◌, Option, Some, None, true, false}
use Rattle.std.proofs.Common.{sym, refl, ap, ◌∙◌, subst, inl, inr, append_assoc, append-nil, arith, lit≤}
use Rattle.std.specs.Prelude.{◌⊎◌}
use Rattle.std.specs.Option.{option_map}
use Rattle.ido_base.specs.declared.place.Place.{Place}
use Rattle.ido_ints.specs.TypedNumbers.{typed}
use Rattle.std.specs.Prelude.{pos}
use Rattle.ido_ints.specs.declared.kinds.Kind.TheVariants as kind
use Rattle.ido_ints.specs.declared.operators.Unary.{Unary}
use Rattle.ido_ints.specs.declared.operators.Unary.TheVariants as unary
use Rattle.ido_ints.specs.declared.operators.Binary.TheVariants as binary
use Rattle.c_tree.specs.Tokens.{Token, Lexeme, Name, Keyword, Number, Punctuator}
use Rattle.c_tree.specs.declared.token.Keyword.TheVariants as k
use Rattle.c_tree.specs.declared.token.Punctuator.TheVariants as p
use Rattle.c_tree.specs.Trees as t
use Rattle.c_tree.specs.Languages.{maybe, mark_at}
use Rattle.c_tree.specs.Grammar.{expression, index, precedence, type, unary_mark}
use Rattle.c_reader.specs.links.ParserFunctions.{Parser, give, head_of, head_is, is_mark, taking, unary_of, unary_in, parse_mark}
use Rattle.c_reader.specs.links.ParserFunctions.{parse_type, parse_index, element, operand_after_name, operand_after_opening, address_after_name}
use Rattle.c_reader.specs.links.ParserFunctions.{operand_by, operand_over, conditional_after, expression_after}
use Rattle.c_reader.specs.links.ParserFunctions.{parse_operand, parse_expression, begins_kind, ◌>>=◌, ◌>>◌}
use Rattle.c_reader.proofs.CorrectParsers.{Spelling, Good, ◌▷◌, ◌▹◌, just, found_in, Anything, Strict, good_give, good_to, good_map}
use Rattle.c_reader.proofs.CorrectParsers.{good_where, good_head, good_then, good_then_less, good_small, good_taking}
use Rattle.c_reader.proofs.Tokens.{some_same, marked, worded, named, numbered, good_mark, good_word, good_name, good_number, marked-strict, named-strict}
use Rattle.c_reader.proofs.OptionalParts.{good_maybe}
use Rattle.c_reader.proofs.Types.{TypeEnd, good_type, type_begins}
use Rattle.c_reader.proofs.Expressions.{OperandEnd, End, from, Ladder, precedence_low, precedence_high, ladder_join}
use Rattle.c_reader.proofs.Expressions.{ladder_split, ladder_ends, from_weaker, AfterGood, operators_after_good}

-- ---- What may follow an expression

abbrev pub ExpressionEnd : Option Lexeme → Type 0
ExpressionEnd h = End 1 h × (head_is (is_mark p.Question) h ≡ false)

-- ---- An index

-- `[expression]`
abbrev pub bracketed : Spelling t.Expression
bracketed = marked p.OpenBracket ▷ (λ o. expression ▷ (λ x. marked p.CloseBracket ▹ (λ c. x)))

index_up : (x : Option t.Expression) (us : List Token) → maybe bracketed x us → index x us
index_up None us u = u
index_up (Some x) us (o, us₁, us₂, e, l, (y, us₃, us₄, e', h, (c, m, q))) = (us₁, us₂, e, (o, l), (us₃, us₄, e', rw (← q) h, (c, m)))

index_down : (x : Option t.Expression) (us : List Token) → index x us → maybe bracketed x us
index_down None us u = u
index_down (Some x) us (us₁, us₂, e, (o, l), (us₃, us₄, e', h, (c, m))) = (o, us₁, us₂, e, l, (x, us₃, us₄, e', h, (c, m, refl)))

bracketed_good : {b c : ℕ} → b ≤ suc c → {e e' : Parser t.Expression} → Good c expression expression ExpressionEnd e e' →
    Good b bracketed bracketed Anything (do parse_mark p.OpenBracket; x ← e; parse_mark p.CloseBracket; give x)
    (do parse_mark p.OpenBracket; x ← e'; parse_mark p.CloseBracket; give x)
bracketed_good bc g =
    good_then_less {M = λ o. expression ▷ (λ x. marked p.CloseBracket ▹ (λ c. x))} {F = Anything} {G = Anything} bc (marked-strict p.OpenBracket)
    (good_mark p.OpenBracket)
    (λ o. good_then {M = λ x. marked p.CloseBracket ▹ (λ c. x)} {F = ExpressionEnd} {G = Anything} g (λ x. good_map (λ c. x) (good_mark p.CloseBracket))
    (λ x y us rest (c, m, q) f. rw m ((refl, λ n h. refl), refl)))
    (λ o y us rest m f. tt)

pub good_index : {b c : ℕ} → b ≤ suc c → {e e' : Parser t.Expression} → Good c expression expression ExpressionEnd e e'
    → Good b index index OperandEnd (parse_index e) (parse_index e')
good_index bc g =
    good_to (good_maybe (is_mark p.OpenBracket) (bracketed_good bc g) (λ x us rest (o, us₁, us₂, e, l, m). rw (e, l) refl)) index_up index_down (λ h f. (tt, f))

-- ---- Operands

-- after a name
abbrev pub NamedLanguage : t.Name → Spelling t.Expression
NamedLanguage x = index ▹ element x

abbrev CastLanguage : Place → Spelling t.Expression
CastLanguage opening = type ▷ (λ x. marked p.CloseParenthesis ▷ (λ c. from 11 ▹ t.Cast opening x))

abbrev InnerLanguage : Place → Spelling t.Expression
InnerLanguage opening = expression ▷ (λ x. marked p.CloseParenthesis ▹ (λ c. t.Parenthesised opening x))

abbrev OpeningLanguage : Place → Spelling t.Expression
OpeningLanguage opening y us = CastLanguage opening y us ⊎ InnerLanguage opening y us

abbrev UnaryLanguage : Spelling t.Expression
UnaryLanguage = found_in unary_in ▷ (λ x. from 11 ▹ t.Unary x.0 x.1)

-- after the name of an array
abbrev AddressLanguage : Place → t.Name → Spelling t.Expression
AddressLanguage place x = marked p.OpenBracket ▷ (λ o. expression ▷ (λ y. marked p.CloseBracket ▹ (λ c. t.Address place x y)))

abbrev operand_language : Option Lexeme → Spelling t.Expression
operand_language (Some (Keyword k.Null)) = worded k.Null ▹ t.Null
operand_language (Some (Punctuator p.Star)) = marked p.Star ▷ (λ place. named ▹ t.Referent place)
operand_language (Some (Punctuator p.Ampersand)) = marked p.Ampersand ▷ (λ place. named ▷ AddressLanguage place)
operand_language (Some (Number value)) = numbered ▹ (λ x. t.Number x.0 x.1)
operand_language (Some (Name bytes)) = named ▷ NamedLanguage
operand_language (Some (Punctuator p.OpenParenthesis)) = marked p.OpenParenthesis ▷ OpeningLanguage
operand_language _ = UnaryLanguage

pub named_good : {b c : ℕ} → b ≤ suc c → {e e' : Parser t.Expression} → Good c expression expression ExpressionEnd e e' → (x : t.Name) →
    Good b (NamedLanguage x) (NamedLanguage x) OperandEnd (operand_after_name e x) (operand_after_name e' x)
named_good bc g x = good_map (element x) (good_index bc g)

-- an expression begins with no word of a type
pub expression_begins : (n : ℕ) (x : t.Expression) (us rest : List Token) → from n x us → head_is begins_kind (head_of (us ++ rest)) ≡ false
expression_begins n (t.Number place value) us rest u = rw u refl
expression_begins n (t.Named x) us rest u = rw u refl
expression_begins n (t.Element array index) us rest (us₁, us₂, e, l, m) = rw (e, l) refl
expression_begins n (t.Null place) us rest u = rw u refl
expression_begins n (t.Address place array index) us rest (us₁, us₂, e, l, m) = rw (e, l) refl
expression_begins n (t.Referent place reference) us rest (us₁, us₂, e, l, m) = rw (e, l) refl
expression_begins n (t.Parenthesised place inner) us rest (us₁, us₂, e, l, m) = rw (e, l) refl
expression_begins n (t.Unary place operator operand) us rest (us₁, us₂, e, l, m) = rw (e, l) refl
expression_begins n (t.Cast place x operand) us rest (us₁, us₂, e, l, m) = rw (e, l) refl
expression_begins n (t.Binary operator left right) us rest (q, (us₁, us₂, e, l, m)) =
    rw (e, append_assoc us₁ us₂ rest) (expression_begins (precedence operator) left us₁ (us₂ ++ rest) l)
expression_begins n (t.Conditional condition then otherwise) us rest (q, (us₁, us₂, e, l, m)) =
    rw (e, append_assoc us₁ us₂ rest) (expression_begins 1 condition us₁ (us₂ ++ rest) l)

cast_good : {b : ℕ} (opening : Place) {o o' : Parser t.Expression} → Good b (from 11) (from 11) OperandEnd o o' →
    Good b (CastLanguage opening) (CastLanguage opening) OperandEnd (do x ← parse_type; parse_mark p.CloseParenthesis; y ← o; give (t.Cast opening x y))
    (do x ← parse_type; parse_mark p.CloseParenthesis; y ← o'; give (t.Cast opening x y))
cast_good opening g =
    good_then {M = λ x. marked p.CloseParenthesis ▷ (λ c. from 11 ▹ t.Cast opening x)} {F = TypeEnd} {G = OperandEnd} good_type
    (λ x. good_then {M = λ c. from 11 ▹ t.Cast opening x} {F = Anything} {G = OperandEnd} (good_mark p.CloseParenthesis) (λ c. good_map (t.Cast opening x) g)
    (λ c y us rest m f. tt))
    (λ x y us rest (c, us₁, us₂, e, l, m) f. rw (e, l) (refl, refl, refl, refl))

inner_good : {b : ℕ} (opening : Place) {e e' : Parser t.Expression} → Good b expression expression ExpressionEnd e e' →
    Good b (InnerLanguage opening) (InnerLanguage opening) OperandEnd (do x ← e; parse_mark p.CloseParenthesis; give (t.Parenthesised opening x))
    (do x ← e'; parse_mark p.CloseParenthesis; give (t.Parenthesised opening x))
inner_good opening g =
    good_then {M = λ x. marked p.CloseParenthesis ▹ (λ c. t.Parenthesised opening x)} {F = ExpressionEnd} {G = OperandEnd} g
    (λ x. good_to (good_map (λ c. t.Parenthesised opening x) (good_mark p.CloseParenthesis)) (λ y us u. u) (λ y us u. u) (λ h f. tt))
    (λ x y us rest (c, m, q) f. rw m ((refl, λ n h. refl), refl))

opening_good : {b : ℕ} (opening : Place) {o o' e e' : Parser t.Expression} → Good b (from 11) (from 11) OperandEnd o o'
    → Good b expression expression ExpressionEnd e e' →
    Good b (OpeningLanguage opening) (OpeningLanguage opening) OperandEnd (operand_after_opening o e opening) (operand_after_opening o' e' opening)
opening_good opening g h =
    good_where {K₁ = CastLanguage opening} {K₂ = InnerLanguage opening} (head_is begins_kind)
    (good_to (cast_good opening g) (λ y us u. inl u) (λ y us u. u) (λ h f. f))
    (good_to (inner_good opening h) (λ y us u. inr u) (λ y us u. u) (λ h f. f))
    out
  where
    out : (y : t.Expression) (us rest : List Token) → OpeningLanguage opening y us → OperandEnd (head_of rest) →
        (CastLanguage opening y us × (head_is begins_kind (head_of (us ++ rest)) ≡ true))
        ⊎ (InnerLanguage opening y us × (head_is begins_kind (head_of (us ++ rest)) ≡ false))
    out y us rest (inl (x, us₁, us₂, e, l, m)) f = inl ((x, us₁, us₂, e, l, m), rw (e, append_assoc us₁ us₂ rest) (type_begins x us₁ (us₂ ++ rest) l))
    out y us rest (inr (x, us₁, us₂, e, l, m)) f = inr ((x, us₁, us₂, e, l, m), rw (e, append_assoc us₁ us₂ rest) (expression_begins 0 x us₁ (us₂ ++ rest) l))

unary_is : (x : Place × Unary) (us : List Token) → found_in unary_in x us → mark_at x.0 (unary_mark x.1) us
unary_is x us (a, e, f) = go (unary_of a.lexeme) refl f
  where
    of_mark : (l : Lexeme) (o : Unary) → unary_of l ≡ Some o → l ≡ Punctuator (unary_mark o)
    of_mark (Punctuator (p.Binary binary.Add)) o q = ap (λ o. Punctuator (unary_mark o)) (some_same unary.Plus o q)
    of_mark (Punctuator (p.Binary binary.Sub)) o q = ap (λ o. Punctuator (unary_mark o)) (some_same unary.Minus o q)
    of_mark (Punctuator p.Complement) o q = ap (λ o. Punctuator (unary_mark o)) (some_same unary.Complement o q)
    of_mark (Punctuator p.Not) o q = ap (λ o. Punctuator (unary_mark o)) (some_same unary.Not o q)
    of_mark _ o q = cc

    go : (r : Option Unary) → unary_of a.lexeme ≡ r → option_map (λ x. (a.place, x)) r ≡ Some x → mark_at x.0 (unary_mark x.1) us
    go None q f = cc
    go (Some o) q f =
        let s : (a.place, o) ≡ x = some_same (a.place, o) x f in rw (e, ← s) (ap (λ l. record { place = a.place; lexeme = l } ∷ []) (of_mark a.lexeme o q))

unary_mark-back : (o : Unary) → unary_of (Punctuator (unary_mark o)) ≡ Some o
unary_mark-back unary.Plus = refl
unary_mark-back unary.Minus = refl
unary_mark-back unary.Complement = refl
unary_mark-back unary.Not = refl

unary_strict : Strict (found_in unary_in)
unary_strict x us (a, e, f) = rw e (lit≤ tt)

unary_good : {b c : ℕ} → b ≤ suc c → {o o' : Parser t.Expression} → Good c (from 11) (from 11) OperandEnd o o' →
    Good b (from 11) UnaryLanguage OperandEnd (do x ← taking unary_in; y ← o; give (t.Unary x.0 x.1 y))
    (do x ← taking unary_in; y ← o'; give (t.Unary x.0 x.1 y))
unary_good bc g =
    let z : Place = record { 0 = 0 } in
    good_to {U = UnaryLanguage} {K = UnaryLanguage} {F = OperandEnd}
    (good_then_less {M = λ x. from 11 ▹ t.Unary x.0 x.1} {F = Anything} {G = OperandEnd} bc unary_strict
    (good_taking unary_in (record { place = z; lexeme = Punctuator p.Not }) (z, unary.Not) refl) (λ x. good_map (t.Unary x.0 x.1) g) (λ x y us rest m f. tt))
    (λ y us (x, us₁, us₂, e, l, (operand, m, q)). subst (λ y. from 11 y us) q (us₁, us₂, e, unary_is x us₁ l, m)) (λ y us u. u) (λ h f. f)

pub named_up : (y : t.Expression) (us : List Token) → (named ▷ NamedLanguage) y us → from 11 y us
named_up y us (x, us₁, us₂, e, l, (None, m, q)) = subst (λ y. from 11 y us) q (rw (e, m, append-nil us₁) l)
named_up y us (x, us₁, us₂, e, l, (Some i, m, q)) = subst (λ y. from 11 y us) q (us₁, us₂, e, l, m)

opening_up : (y : t.Expression) (us : List Token) → (marked p.OpenParenthesis ▷ OpeningLanguage) y us → from 11 y us
opening_up y us (opening, us₁, us₂, e, l, inl (x, us₃, us₄, e', m, (c, us₅, us₆, e₂, n, (operand, r, q)))) =
    subst (λ y. from 11 y us) q (us₁, us₂, e, l, (us₃, us₄, e', m, (us₅, us₆, e₂, (c, n), r)))
opening_up y us (opening, us₁, us₂, e, l, inr (x, us₃, us₄, e', m, (c, n, q))) = subst (λ y. from 11 y us) q (us₁, us₂, e, l, (us₃, us₄, e', m, (c, n)))

address_up : (y : t.Expression) (us : List Token) → (marked p.Ampersand ▷ (λ place. named ▷ AddressLanguage place)) y us → from 11 y us
address_up y us (place, us₁, us₂, e, l, (x, us₃, us₄, e', m, (o, us₅, us₆, e₂, n, (z, us₇, us₈, e₃, v, (c, r, q))))) =
    subst (λ y. from 11 y us) q (us₁, us₂, e, l, (us₃, us₄, e', m, (us₅, us₆, e₂, (o, n), (us₇, us₈, e₃, v, (c, r)))))

address_good : {b c : ℕ} → b ≤ suc c → (place : Place) (x : t.Name) {e e' : Parser t.Expression} → Good c expression expression ExpressionEnd e e' →
    Good b (AddressLanguage place x) (AddressLanguage place x) Anything (address_after_name e place x) (address_after_name e' place x)
address_good bc place x g =
    good_then_less {M = λ o. expression ▷ (λ y. marked p.CloseBracket ▹ (λ c. t.Address place x y))} {F = Anything} {G = Anything} bc
    (marked-strict p.OpenBracket)
    (good_mark p.OpenBracket)
    (λ o. good_then {M = λ y. marked p.CloseBracket ▹ (λ c. t.Address place x y)} {F = ExpressionEnd} {G = Anything} g
    (λ y. good_map (λ c. t.Address place x y) (good_mark p.CloseBracket))
    (λ y z us rest (c, m, q) f. rw m ((refl, λ n h. refl), refl)))
    (λ o y us rest m f. tt)

operand_good : {b c : ℕ} → b ≤ suc c → c ≤ suc c → {o o' e e' : Parser t.Expression} → Good c (from 11) (from 11) OperandEnd o o'
    → Good c expression expression ExpressionEnd e e' →
    (h : Option Lexeme) → Good b (from 11) (operand_language h) OperandEnd (operand_by o e h) (operand_by o' e' h)
operand_good bc cc' g h (Some (Number value)) =
    good_to (good_map (λ x. t.Number x.0 x.1) (good_number (typed kind.Int (pos 0)))) (λ y us (x, u, q). subst (λ y. from 11 y us) q u) (λ y us u. u)
    (λ h f. tt)
operand_good bc cc' g h (Some (Name bytes)) =
    good_to {U = named ▷ NamedLanguage} {K = named ▷ NamedLanguage} {F = OperandEnd}
    (good_then_less {M = NamedLanguage} {F = Anything} {G = OperandEnd} bc named-strict good_name (named_good cc' h) (λ x y us rest m f. tt))
    named_up (λ y us u. u) (λ h f. f)
operand_good bc cc' g h (Some (Punctuator p.OpenParenthesis)) =
    good_to {U = marked p.OpenParenthesis ▷ OpeningLanguage} {K = marked p.OpenParenthesis ▷ OpeningLanguage} {F = OperandEnd}
    (good_then_less {M = OpeningLanguage} {F = Anything} {G = OperandEnd} bc (marked-strict p.OpenParenthesis) (good_mark p.OpenParenthesis)
    (λ opening. opening_good opening g h) (λ x y us rest m f. tt))
    opening_up (λ y us u. u) (λ h f. f)
operand_good bc cc' g h (Some (Keyword k.Null)) =
    good_to {U' = from 11} {K' = worded k.Null ▹ t.Null} (good_map t.Null (good_word k.Null)) (λ y us (place, u, q). subst (λ y. from 11 y us) q u)
    (λ y us u. u) (λ h f. tt)
operand_good bc cc' g h (Some (Punctuator p.Star)) =
    good_to {U = marked p.Star ▷ (λ place. named ▹ t.Referent place)} {K = marked p.Star ▷ (λ place. named ▹ t.Referent place)} {F = Anything}
    (good_then {M = λ place. named ▹ t.Referent place} {F = Anything} {G = Anything} (good_mark p.Star) (λ place. good_map (t.Referent place) good_name)
    (λ x y us rest m f. tt))
    (λ y us (place, us₁, us₂, e, l, (x, m, q)). subst (λ y. from 11 y us) q (us₁, us₂, e, l, m)) (λ y us u. u) (λ h f. tt)
operand_good bc cc' g h (Some (Punctuator p.Ampersand)) =
    good_to {U = marked p.Ampersand ▷ (λ place. named ▷ AddressLanguage place)}
    {K = marked p.Ampersand ▷ (λ place. named ▷ AddressLanguage place)} {F = Anything}
    (good_then_less {M = λ place. named ▷ AddressLanguage place} {F = Anything} {G = Anything} bc (marked-strict p.Ampersand) (good_mark p.Ampersand)
    (λ place. good_then {M = AddressLanguage place} {F = Anything} {G = Anything} good_name
    (λ x. address_good cc' place x h) (λ x y us rest m f. tt))
    (λ x y us rest m f. tt))
    address_up (λ y us u. u) (λ h f. tt)
operand_good bc cc' g h _ = unary_good bc g

unary_out : (place : Place) (o : Unary) (operand : t.Expression) (us rest : List Token) → from 11 (t.Unary place o operand) us
    → operand_language (head_of (us ++ rest)) (t.Unary place o operand) us
unary_out place o operand us rest (us₁, us₂, e, l, m) =
    rw (e, l) (at o (
      (place, o),
      record { place = place; lexeme = Punctuator (unary_mark o) } ∷
          [],
      us₂,
      refl,
      (record { place = place; lexeme = Punctuator (unary_mark o) }, refl, ap (option_map (λ x. (place, x))) (unary_mark-back o)),
      (operand, m, refl),
    ))
  where
    at : (o' : Unary) → UnaryLanguage (t.Unary place o operand) (record { place = place; lexeme = Punctuator (unary_mark o') } ∷ us₂) →
        operand_language (Some (Punctuator (unary_mark o'))) (t.Unary place o operand) (record { place = place; lexeme = Punctuator (unary_mark o') } ∷ us₂)
    at unary.Plus u = u
    at unary.Minus u = u
    at unary.Complement u = u
    at unary.Not u = u

pub operand_out : (y : t.Expression) (us rest : List Token) → from 11 y us → operand_language (head_of (us ++ rest)) y us
operand_out (t.Number place value) us rest u = rw u ((place, value), refl, refl)
operand_out (t.Named x) us rest u = rw u (x, record { place = x.place; lexeme = Name x.text } ∷ [], [], refl, refl, (None, refl, refl))
operand_out (t.Element array i) us rest (us₁, us₂, e, l, m) =
    rw (e, l) (array, record { place = array.place; lexeme = Name array.text } ∷ [], us₂, refl, refl, (Some i, m, refl))
operand_out (t.Null place) us rest u = rw u (place, refl, refl)
operand_out (t.Address place array i) us rest (us₁, us₂, e, l, (us₃, us₄, e', m, (us₅, us₆, e₂, (o, n), (us₇, us₈, e₃, v, (c, r))))) =
    rw (e, l) (
      place,
      record { place = place; lexeme = Punctuator p.Ampersand } ∷
          [],
      us₂,
      refl,
      refl,
      (array, us₃, us₄, e', m, (o, us₅, us₆, e₂, n, (i, us₇, us₈, e₃, v, (c, r, refl)))),
    )
operand_out (t.Referent place reference) us rest (us₁, us₂, e, l, m) =
    rw (e, l) (place, record { place = place; lexeme = Punctuator p.Star } ∷ [], us₂, refl, refl, (reference, m, refl))
operand_out (t.Parenthesised place inner) us rest (us₁, us₂, e, l, (us₃, us₄, e', m, (c, n))) =
    rw (e, l) (place, record { place = place; lexeme = Punctuator p.OpenParenthesis } ∷ [], us₂, refl, refl, inr (inner, us₃, us₄, e', m, (c, n, refl)))
operand_out (t.Unary place o operand) us rest u = unary_out place o operand us rest u
operand_out (t.Cast place x operand) us rest (us₁, us₂, e, l, (us₃, us₄, e', m, (us₅, us₆, e₂, (c, n), r))) =
    rw (e, l) (
      place,
      record { place = place; lexeme = Punctuator p.OpenParenthesis } ∷
          [],
      us₂,
      refl,
      refl,
      inl (x, us₃, us₄, e', m, (c, us₅, us₆, e₂, n, (operand, r, refl))),
    )
operand_out (t.Binary o left right) us rest (q, u) = let h : precedence o ≤ 10 = precedence_high o in let z : ⊥ = omega (arith, q, h) in absurd z
operand_out (t.Conditional condition then otherwise) us rest (q, u) = let z : ⊥ = omega (arith, q) in absurd z

pub operand_over_good : {b c : ℕ} → b ≤ suc c → {o o' e e' : Parser t.Expression} → Good c (from 11) (from 11) OperandEnd o o'
    → Good c expression expression ExpressionEnd e e' →
    Good b (from 11) (from 11) OperandEnd (operand_over o e) (operand_over o' e')
operand_over_good bc g h = good_head {K = operand_language} (operand_good bc (omega arith) g h) (λ y us rest u f. operand_out y us rest u)

-- ---- Expressions

abbrev BranchLanguage : t.Expression → Spelling t.Expression
BranchLanguage x = marked p.Question ▷ (λ q. expression ▷ (λ y. marked p.Colon ▷ (λ c. expression ▹ t.Conditional x y)))

-- `?` and what follows, or nothing
abbrev pub ConditionalLanguage : t.Expression → Spelling t.Expression
ConditionalLanguage x y us = BranchLanguage x y us ⊎ just x y us

branch_good : {b c : ℕ} → b ≤ suc c → {e e' : Parser t.Expression} → Good c expression expression ExpressionEnd e e' → (x : t.Expression) →
    Good b (BranchLanguage x) (BranchLanguage x) ExpressionEnd (do parse_mark p.Question; y ← e; parse_mark p.Colon; z ← e; give (t.Conditional x y z))
    (do parse_mark p.Question; y ← e'; parse_mark p.Colon; z ← e'; give (t.Conditional x y z))
branch_good bc g x =
    good_then_less {M = λ q. expression ▷ (λ y. marked p.Colon ▷ (λ c. expression ▹ t.Conditional x y))} {F = Anything} {G = ExpressionEnd} bc
    (marked-strict p.Question) (good_mark p.Question)
    (λ q. good_then {M = λ y. marked p.Colon ▷ (λ c. expression ▹ t.Conditional x y)} {F = ExpressionEnd} {G = ExpressionEnd} g
    (λ y. good_then {M = λ c. expression ▹ t.Conditional x y} {F = Anything} {G = ExpressionEnd} (good_mark p.Colon) (λ c. good_map (t.Conditional x y) g)
    (λ c z us rest m f. tt))
    (λ y z us rest (c, us₁, us₂, e, l, m) f. rw (e, l) ((refl, λ n h. refl), refl)))
    (λ q y us rest m f. tt)

conditional_good : {b c : ℕ} → b ≤ suc c → {e e' : Parser t.Expression} → Good c expression expression ExpressionEnd e e' → (x : t.Expression) →
    Good b (ConditionalLanguage x) (ConditionalLanguage x) ExpressionEnd (conditional_after e x) (conditional_after e' x)
conditional_good bc g x =
    good_where {K₁ = BranchLanguage x} {K₂ = just x} (head_is (is_mark p.Question))
    (good_to (branch_good bc g x) (λ y us u. inl u) (λ y us u. u) (λ h f. f))
    (good_to (good_give x) (λ y us u. inr u) (λ y us u. u) (λ h f. tt))
    out
  where
    out : (y : t.Expression) (us rest : List Token) → ConditionalLanguage x y us → ExpressionEnd (head_of rest) →
        (BranchLanguage x y us × (head_is (is_mark p.Question) (head_of (us ++ rest)) ≡ true))
        ⊎ (just x y us × (head_is (is_mark p.Question) (head_of (us ++ rest)) ≡ false))
    out y us rest (inl (q, us₁, us₂, e, l, m)) f = inl ((q, us₁, us₂, e, l, m), rw (e, l) refl)
    out y us rest (inr (q, e)) f = inr ((q, e), rw e f.1)

pub conditional_ends : (x y : t.Expression) (us rest : List Token) → ConditionalLanguage x y us → ExpressionEnd (head_of rest) → End 1 (head_of (us ++ rest))
conditional_ends x y us rest (inl (q, us₁, us₂, e, l, m)) f = rw (e, l) (refl, λ n h. refl)
conditional_ends x y us rest (inr (q, e)) f = rw e f.0

-- after the first operand
abbrev pub AfterLanguage : t.Expression → Spelling t.Expression
AfterLanguage left = Ladder 10 left ▷ ConditionalLanguage

pub expression_after_good : {b c : ℕ} → b ≤ suc c → (fuel fuel' : ℕ) → b ≤ fuel → b ≤ fuel' → (o o' : Parser t.Expression)
    → Good b (from 11) (from 11) OperandEnd o o' → Good 0 (from 11) (from 11) OperandEnd o o →
    {e e' : Parser t.Expression} → Good c expression expression ExpressionEnd e e' → (left : t.Expression) →
    Good b (AfterLanguage left) (AfterLanguage left) ExpressionEnd (expression_after o e fuel left) (expression_after o' e' fuel' left)
expression_after_good {b = b} bc fuel fuel' h h' o o' g g₀ k left =
    let a : AfterGood b o o' fuel fuel' 10 = (operators_after_good fuel fuel' b h h' o o' g g₀ 10 (lit≤ tt)).0 in
    good_then {M = ConditionalLanguage} {F = End 1} {G = ExpressionEnd} (a left) (λ x. conditional_good bc k x) conditional_ends

-- an expression is an operand and what stands after it
pub after_up : (y : t.Expression) (us : List Token) → (from 11 ▷ AfterLanguage) y us → expression y us
after_up y us (left, us₁, us₂, e, u, (x, us₃, us₄, e', l, c)) = rw (e, e', ← (append_assoc us₁ us₃ us₄)) (go c (ladder_join 10 left x us₁ us₃ (lit≤ tt) u l))
  where
    go : ConditionalLanguage x y us₄ → from 1 x (us₁ ++ us₃) → expression y ((us₁ ++ us₃) ++ us₄)
    go (inr (q, n)) m =
        subst (λ y. expression y ((us₁ ++ us₃) ++ us₄)) q (rw (n, append-nil (us₁ ++ us₃)) (from_weaker 0 1 x (us₁ ++ us₃) (lit≤ tt) (lit≤ tt) m))
    go (inl (p, vs₁, vs₂, f, pq, (a, vs₃, vs₄, f', ha, (c, vs₅, vs₆, f₂, pc, (b, hb, q))))) m =
        subst (λ y. expression y ((us₁ ++ us₃) ++ us₄)) q (
          refl,
          (us₁ ++ us₃, us₄, refl, m, (vs₁, vs₂, f, (p, pq), (vs₃, vs₄, f', ha, (vs₅, vs₆, f₂, (c, pc), hb)))),
        )

ladder_down : (y : t.Expression) (us : List Token) → from 1 y us → (from 11 ▷ AfterLanguage) y us
ladder_down y us u = go (ladder_split 10 y us (lit≤ tt) u)
  where
    go : (from 11 ▷ Ladder 10) y us → (from 11 ▷ AfterLanguage) y us
    go (left, us₁, us₂, e, u, l) = (left, us₁, us₂, e, u, (y, us₂, [], sym (append-nil us₂), l, inr (refl, refl)))

pub after_down : (y : t.Expression) (us : List Token) → expression y us → (from 11 ▷ AfterLanguage) y us
after_down (t.Number place value) us u = ladder_down (t.Number place value) us u
after_down (t.Named x) us u = ladder_down (t.Named x) us u
after_down (t.Element array i) us u = ladder_down (t.Element array i) us u
after_down (t.Null place) us u = ladder_down (t.Null place) us u
after_down (t.Address place array i) us u = ladder_down (t.Address place array i) us u
after_down (t.Referent place reference) us u = ladder_down (t.Referent place reference) us u
after_down (t.Parenthesised place inner) us u = ladder_down (t.Parenthesised place inner) us u
after_down (t.Unary place o operand) us u = ladder_down (t.Unary place o operand) us u
after_down (t.Cast place x operand) us u = ladder_down (t.Cast place x operand) us u
after_down (t.Binary o left right) us (q, u) = ladder_down (t.Binary o left right) us (precedence_low o, u)
after_down (t.Conditional x a b) us (q, (us₁, us₂, e, u, (us₃, us₄, e', (p, pq), (us₅, us₆, e₂, ha, (us₇, us₈, e₃, (c, pc), hb))))) =
    go (ladder_split 10 x us₁ (lit≤ tt) u)
  where
    go : (from 11 ▷ Ladder 10) x us₁ → (from 11 ▷ AfterLanguage) (t.Conditional x a b) us
    go (left, vs₁, vs₂, f, hl, l) = (
      left,
      vs₁,
      vs₂ ++ us₂,
      e ∙ ap (λ l. l ++ us₂) f ∙ append_assoc vs₁ vs₂ us₂,
      hl,
      (x, vs₂, us₂, refl, l, inl (p, us₃, us₄, e', pq, (a, us₅, us₆, e₂, ha, (c, us₇, us₈, e₃, pc, (b, hb, refl))))),
    )

operand_sample : from 11 (t.Number (record { 0 = 0 }) (typed kind.Int (pos 0)))
    (record { place = record { 0 = 0 }; lexeme = Number (typed kind.Int (pos 0)) } ∷ [])
operand_sample = refl

-- one step of the recursion
expression_step : {b c : ℕ} → b ≤ suc c → (fuel fuel' : ℕ) → b ≤ fuel → b ≤ fuel' → (o o' : Parser t.Expression) → Good b (from 11) (from 11) OperandEnd o o'
    → Good 0 (from 11) (from 11) OperandEnd o o →
    {e e' : Parser t.Expression} → Good c expression expression ExpressionEnd e e' →
    Good b expression expression ExpressionEnd (do x ← o; expression_after o e fuel x) (do x ← o'; expression_after o' e' fuel' x)
expression_step bc fuel fuel' h h' o o' g g₀ k =
    good_to {U = from 11 ▷ AfterLanguage} {K = from 11 ▷ AfterLanguage} {F = ExpressionEnd}
    (good_then {M = AfterLanguage} {F = OperandEnd} {G = ExpressionEnd} g (λ x. expression_after_good bc fuel fuel' h h' o o' g g₀ k x) ends)
    after_up after_down (λ h f. f)
  where
    ends : (x y : t.Expression) (us rest : List Token) → AfterLanguage x y us → ExpressionEnd (head_of rest) → OperandEnd (head_of (us ++ rest))
    ends x y us rest (z, us₁, us₂, e, l, c) f = rw (e, append_assoc us₁ us₂ rest) (ladder_ends 10 x z us₁ (us₂ ++ rest) l (conditional_ends z y us₂ rest c f).0)

abbrev pub BothGood : (b fuel fuel' : ℕ) → Type 0
BothGood b fuel fuel' = Good b (from 11) (from 11) OperandEnd (parse_operand fuel) (parse_operand fuel')
    × Good b expression expression ExpressionEnd (parse_expression fuel) (parse_expression fuel')

both_step : {b c : ℕ} → b ≤ suc c → (fuel fuel' : ℕ) → b ≤ suc fuel → b ≤ suc fuel' → BothGood c fuel fuel' → BothGood 0 fuel fuel
    → BothGood b (suc fuel) (suc fuel')
unfolding parse_expression
both_step bc fuel fuel' h h' g g₀ =
    let o : _ = operand_over_good bc g.0 g.1 in
    let o₀ : _ = operand_over_good {b = 0} {c = 0} (omega arith) g₀.0 g₀.1 in (
      o,
      expression_step bc (suc fuel) (suc fuel') h h' (operand_over (parse_operand fuel) (parse_expression fuel))
          (operand_over (parse_operand fuel') (parse_expression fuel')) o o₀ g.1,
    )

both_good : (fuel fuel' b : ℕ) → b ≤ fuel → b ≤ fuel' → BothGood b fuel fuel'
unfolding parse_expression
both_good zero fuel' b h h' = (
  good_small h (λ ts. (
    [],
    refl,
    record { place = record { 0 = 0 }; lexeme = Number (typed kind.Int (pos 0)) } ∷
        [],
    t.Number (record { 0 = 0 }) (typed kind.Int (pos 0)),
    refl,
  )),
  good_small h (λ ts. (
    [],
    refl,
    record { place = record { 0 = 0 }; lexeme = Number (typed kind.Int (pos 0)) } ∷
        [],
    t.Number (record { 0 = 0 }) (typed kind.Int (pos 0)),
    refl,
  )),
)
both_good (suc fuel) zero b h h' =
    let g : BothGood 0 fuel fuel = both_good fuel fuel 0 (omega arith) (omega arith) in
    let s : BothGood 0 (suc fuel) (suc fuel) = both_step {b = 0} {c = 0} (omega arith) fuel fuel (omega arith) (omega arith) g g in
    (good_small h' s.0.sure, good_small h' s.1.sure)
both_good (suc fuel) (suc fuel') b h h' =
    both_step {b = b} {c = b - 1} (omega arith) fuel fuel' h h' (both_good fuel fuel' (b - 1) (omega (arith, h)) (omega (arith, h')))
    (both_good fuel fuel 0 (omega arith) (omega arith))

pub good_operand : (fuel fuel' b : ℕ) → b ≤ fuel → b ≤ fuel' → Good b (from 11) (from 11) OperandEnd (parse_operand fuel) (parse_operand fuel')
good_operand fuel fuel' b h h' = (both_good fuel fuel' b h h').0

pub good_expression : (fuel fuel' b : ℕ) → b ≤ fuel → b ≤ fuel' → Good b expression expression ExpressionEnd (parse_expression fuel) (parse_expression fuel')
good_expression fuel fuel' b h h' = (both_good fuel fuel' b h h').1
