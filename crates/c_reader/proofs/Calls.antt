-- The parsers of calls and right sides keep their languages.
use Rattle.std.proofs.Common.{◌≡◌, ℕ, ◌≤◌, List, [], ◌∷◌, ◌++◌, Option, Some, None, Bool, true, false, refl, ap, ◌∙◌, subst, inl, inr, append_assoc, arith}
use Rattle.std.specs.Prelude.{◌⊎◌}
use Rattle.ido_ints.specs.TypedNumbers.{Typed}
use Rattle.ido_ints.specs.declared.operators.Unary.{Unary}
use Rattle.ido_ints.specs.declared.operators.Unary.TheVariants as unary
use Rattle.c_tree.specs.Tokens.{Token, Lexeme, Name, Keyword, Number, Punctuator}
use Rattle.c_tree.specs.declared.token.Keyword.TheVariants as k
use Rattle.c_tree.specs.declared.token.Punctuator.TheVariants as p
use Rattle.c_tree.specs.Trees as t
use Rattle.c_tree.specs.Languages.{mark, ◌⋅◌, name, list_of, some_of}
use Rattle.c_tree.specs.Grammar.{expression, index, call, unary_mark, precedence}
use Rattle.c_reader.specs.links.ParserFunctions.{give, head_of, head_is, is_mark, where_head, parse_some_of, parse_arguments, call_after, right_after_name}
use Rattle.c_reader.specs.links.ParserFunctions.{right_by, parse_right, parse_expression, parse_operand, expression_after_name}
use Rattle.c_reader.proofs.CorrectParsers.{Spelling, Good, ◌▷◌, ◌▹◌, just, Anything, good_give, good_to, good_map, good_where, good_head, good_then}
use Rattle.c_reader.proofs.Tokens.{marked, named, good_mark, good_name}
use Rattle.c_reader.proofs.OptionalParts.{Unless, Where, good_some_of}
use Rattle.c_reader.proofs.Expressions.{OperandEnd, from, operator_not_mark, ladder_ends, ladder_head, precedence_high}
use Rattle.c_reader.proofs.Operands.{ExpressionEnd, NamedLanguage, AfterLanguage, ConditionalLanguage, good_expression, good_operand}
use Rattle.c_reader.proofs.Operands.{named_good, expression_after_good, after_up, after_down, named_up, conditional_ends}

-- ---- What an expression begins with

-- a test that no first token of an expression passes
abbrev pub Foreign : (Option Lexeme → Bool) → Type 0
Foreign test = ((value : Typed) → test (Some (Number value)) ≡ false) × ((bytes : List ℕ) → test (Some (Name bytes)) ≡ false)
    × (test (Some (Punctuator p.OpenParenthesis)) ≡ false) × ((o : Unary) → test (Some (Punctuator (unary_mark o))) ≡ false)
    × (test (Some (Keyword k.Null)) ≡ false) × (test (Some (Punctuator p.Star)) ≡ false) × (test (Some (Punctuator p.Ampersand)) ≡ false)

pub expression_foreign : (test : Option Lexeme → Bool) → Foreign test → (n : ℕ) (x : t.Expression) (us rest : List Token) → from n x us
    → test (head_of (us ++ rest)) ≡ false
expression_foreign test f n (t.Number place value) us rest u = rw u (f.0 value)
expression_foreign test f n (t.Named x) us rest u = rw u (f.1 x.text)
expression_foreign test f n (t.Element array i) us rest (us₁, us₂, e, l, m) = rw (e, l) (f.1 array.text)
expression_foreign test f n (t.Null place) us rest u = rw u f.4
expression_foreign test f n (t.Address place array i) us rest (us₁, us₂, e, l, m) = rw (e, l) f.6
expression_foreign test f n (t.Referent place reference) us rest (us₁, us₂, e, l, m) = rw (e, l) f.5
expression_foreign test f n (t.Parenthesised place inner) us rest (us₁, us₂, e, l, m) = rw (e, l) f.2
expression_foreign test f n (t.Unary place o operand) us rest (us₁, us₂, e, l, m) = rw (e, l) (f.3 o)
expression_foreign test f n (t.Cast place x operand) us rest (us₁, us₂, e, l, m) = rw (e, l) f.2
expression_foreign test f n (t.Binary o left right) us rest (q, (us₁, us₂, e, l, m)) =
    rw (e, append_assoc us₁ us₂ rest) (expression_foreign test f (precedence o) left us₁ (us₂ ++ rest) l)
expression_foreign test f n (t.Conditional x y z) us rest (q, (us₁, us₂, e, l, m)) =
    rw (e, append_assoc us₁ us₂ rest) (expression_foreign test f 1 x us₁ (us₂ ++ rest) l)

-- ---- Arguments and calls

-- the arguments and their closing parenthesis
abbrev pub ArgumentsLanguage : Spelling (List t.Expression)
ArgumentsLanguage xs = list_of expression xs ⋅ mark p.CloseParenthesis

close_foreign : Foreign (head_is (is_mark p.CloseParenthesis))
close_foreign = (λ v. refl, λ v. refl, refl, on, refl, refl, refl)
  where
    on : (o : Unary) → head_is (is_mark p.CloseParenthesis) (Some (Punctuator (unary_mark o))) ≡ false
    on unary.Plus = refl
    on unary.Minus = refl
    on unary.Complement = refl
    on unary.Not = refl

comma_ends : ExpressionEnd (Some (Punctuator p.Comma))
comma_ends = ((refl, λ n h. refl), refl)

list_good : (fuel fuel' b : ℕ) → b ≤ fuel → b ≤ fuel' →
    Good b (list_of expression) (list_of expression) (Where (is_mark p.CloseParenthesis) (Unless (is_mark p.Comma) ExpressionEnd))
    (where_head (head_is (is_mark p.CloseParenthesis)) (give []) (parse_some_of fuel (parse_expression fuel)))
    (where_head (head_is (is_mark p.CloseParenthesis)) (give []) (parse_some_of fuel' (parse_expression fuel')))
list_good fuel fuel' b h h' =
    good_where {K₁ = just []} {K₂ = some_of expression} (head_is (is_mark p.CloseParenthesis))
    (good_to (good_give []) (λ xs us u. subst (λ xs. list_of expression xs us) u.0 u.1) (λ y us u. u) (λ h f. tt))
    (good_to (good_some_of {F = ExpressionEnd} comma_ends fuel fuel' b h h' (good_expression fuel fuel' b h h')
    (good_expression fuel fuel 0 (omega arith) (omega arith))) up (λ y us u. u) (λ h f. f.0))
    out
  where
    up : (xs : List t.Expression) (us : List Token) → some_of expression xs us → list_of expression xs us
    up [] us u = absurd u
    up (x ∷ xs) us u = u

    out : (xs : List t.Expression) (us rest : List Token) → list_of expression xs us
        → Where (is_mark p.CloseParenthesis) (Unless (is_mark p.Comma) ExpressionEnd) (head_of rest) →
        (just [] xs us × (head_is (is_mark p.CloseParenthesis) (head_of (us ++ rest)) ≡ true))
        ⊎ (some_of expression xs us × (head_is (is_mark p.CloseParenthesis) (head_of (us ++ rest)) ≡ false))
    out [] us rest u f = inl ((refl, u), rw u f.1)
    out (x ∷ xs) us rest (us₁, us₂, e, l, m) f =
        inr (
          (us₁, us₂, e, l, m),
          rw (e, append_assoc us₁ us₂ rest)
              (expression_foreign (head_is (is_mark p.CloseParenthesis)) close_foreign 0 x us₁ (us₂ ++ rest) l),
        )

arguments_good : (fuel fuel' b : ℕ) → b ≤ fuel → b ≤ fuel' → Good b ArgumentsLanguage ArgumentsLanguage Anything (parse_arguments fuel) (parse_arguments fuel')
arguments_good fuel fuel' b h h' =
    good_to {U = list_of expression ▷ (λ xs. marked p.CloseParenthesis ▹ (λ c. xs))} {K = list_of expression ▷ (λ xs. marked p.CloseParenthesis ▹ (λ c. xs))}
    {F = Anything}
    (good_then {M = λ xs. marked p.CloseParenthesis ▹ (λ c. xs)} {F = Where (is_mark p.CloseParenthesis) (Unless (is_mark p.Comma) ExpressionEnd)}
    {G = Anything} (list_good fuel fuel' b h h') (λ xs. good_map (λ c. xs) (good_mark p.CloseParenthesis))
    (λ xs ys us rest (c, m, q) f. rw m ((((refl, λ n h. refl), refl), refl), refl)))
    (λ ys us (xs, us₁, us₂, e, l, (c, m, q)). subst (λ ys. ArgumentsLanguage ys us) q (us₁, us₂, e, l, (c, m)))
    (λ ys us (us₁, us₂, e, l, (c, m)). (ys, us₁, us₂, e, l, (c, m, refl)))
    (λ h f. f)

-- a call of this name, read from after the name
abbrev pub CallLanguage : t.Name → Spelling t.Call
CallLanguage n c us = (n ≡ c.function) × (mark p.OpenParenthesis ⋅ ArgumentsLanguage c.arguments) us

pub call_good : (fuel fuel' b : ℕ) → b ≤ fuel → b ≤ fuel' → (n : t.Name)
    → Good b (CallLanguage n) (CallLanguage n) Anything (call_after fuel n) (call_after fuel' n)
call_good fuel fuel' b h h' n =
    good_to {U = marked p.OpenParenthesis ▷ (λ o. ArgumentsLanguage ▹ made)} {K = marked p.OpenParenthesis ▷ (λ o. ArgumentsLanguage ▹ made)} {F = Anything}
    (good_then {M = λ o. ArgumentsLanguage ▹ made} {F = Anything} {G = Anything} (good_mark p.OpenParenthesis)
    (λ o. good_map made (arguments_good fuel fuel' b h h')) (λ o y us rest m f. tt))
    (λ y us (o, us₁, us₂, e, l, (xs, m, q)). subst (λ y. CallLanguage n y us) q (refl, (us₁, us₂, e, (o, l), m)))
    (λ y us (q, (us₁, us₂, e, (o, l), m)). (o, us₁, us₂, e, l, (y.arguments, m, ap (λ n. record { function = n; arguments = y.arguments }) q)))
    (λ h f. f)
  where
    made : List t.Expression → t.Call
    made xs = record { function = n; arguments = xs }

pub call_up : (n : t.Name) (c : t.Call) (us vs : List Token) → name n us → CallLanguage n c vs → call c (us ++ vs)
call_up n c us vs l (q, (vs₁, vs₂, e, o, (vs₃, vs₄, e', m, r))) = (us, vs, refl, subst (λ n. name n us) q l, (vs₁, vs₂, e, o, (vs₃, vs₄, e', m, r)))

pub call_head : (n : t.Name) (c : t.Call) (us rest : List Token) → CallLanguage n c us → head_of (us ++ rest) ≡ Some (Punctuator p.OpenParenthesis)
call_head n c us rest (q, (us₁, us₂, e, (o, l), m)) = rw (e, l) refl

-- ---- Right sides

-- an expression or a call
abbrev pub RightLanguage : Spelling t.Initial
RightLanguage (t.Value x) = expression x
RightLanguage (t.Result c) = call c
RightLanguage t.Absent = λ us. ⊥

abbrev pub RightEnd : Option Lexeme → Type 0
RightEnd h = ExpressionEnd h × (head_is (is_mark p.OpenParenthesis) h ≡ false)

-- the expression that begins with this name, read from after the name
abbrev pub NamedExpression : t.Name → Spelling t.Expression
NamedExpression n = NamedLanguage n ▷ AfterLanguage

-- a right side that begins with this name, read from after the name
abbrev AfterName : t.Name → Spelling t.Initial
AfterName n (t.Value x) = NamedExpression n x
AfterName n (t.Result c) = CallLanguage n c
AfterName n t.Absent = λ us. ⊥

after_ends : (x y : t.Expression) (us rest : List Token) → AfterLanguage x y us → ExpressionEnd (head_of rest) → OperandEnd (head_of (us ++ rest))
after_ends x y us rest (z, us₁, us₂, e, l, c) f =
    rw (e, append_assoc us₁ us₂ rest) (ladder_ends 10 x z us₁ (us₂ ++ rest) l (conditional_ends z y us₂ rest c f).0)

named_expression_good : (fuel fuel' b : ℕ) → b ≤ fuel → b ≤ fuel' → (n : t.Name)
    → Good b (NamedExpression n) (NamedExpression n) ExpressionEnd (expression_after_name fuel n) (expression_after_name fuel' n)
named_expression_good fuel fuel' b h h' n =
    good_then {M = AfterLanguage} {F = OperandEnd} {G = ExpressionEnd} (named_good {c = b} (omega arith) (good_expression fuel fuel' b h h') n)
    (λ x. expression_after_good {b = b} {c = b} (omega arith) fuel fuel' h h' (parse_operand fuel) (parse_operand fuel') (good_operand fuel fuel' b h h')
    (good_operand fuel fuel 0 (omega arith) (omega arith)) (good_expression fuel fuel' b h h') x)
    after_ends

named_head : (n : t.Name) (x : t.Expression) (us rest : List Token) → NamedExpression n x us → head_is (is_mark p.OpenParenthesis) (head_of rest) ≡ false
    → head_is (is_mark p.OpenParenthesis) (head_of (us ++ rest)) ≡ false
named_head n x us rest (left, us₁, us₂, e, (i, m, q), (y, us₃, us₄, e', l, c)) f =
    rw (e, append_assoc us₁ us₂ rest) (on i m (rw (e', append_assoc us₃ us₄ rest)
    (ladder_head (head_is (is_mark p.OpenParenthesis)) (λ l o is. operator_not_mark p.OpenParenthesis l o refl is) 10 left y us₃ (us₄ ++ rest) l
    (last c))))
  where
    last : ConditionalLanguage y x us₄ → head_is (is_mark p.OpenParenthesis) (head_of (us₄ ++ rest)) ≡ false
    last (inl (o, vs₁, vs₂, e, l, m)) = rw (e, l) refl
    last (inr (q, e)) = rw e f

    on : (i : Option t.Expression) → index i us₁ → head_is (is_mark p.OpenParenthesis) (head_of (us₂ ++ rest)) ≡ false
        → head_is (is_mark p.OpenParenthesis) (head_of (us₁ ++ (us₂ ++ rest))) ≡ false
    on None m g = rw m g
    on (Some i) (vs₁, vs₂, e, (o, l), m) g = rw (e, l) refl

after_name_good : (fuel fuel' b : ℕ) → b ≤ fuel → b ≤ fuel' → (n : t.Name)
    → Good b (AfterName n) (AfterName n) RightEnd (right_after_name fuel n) (right_after_name fuel' n)
after_name_good fuel fuel' b h h' n =
    good_where {K₁ = CallLanguage n ▹ t.Result} {K₂ = NamedExpression n ▹ t.Value} (head_is (is_mark p.OpenParenthesis))
    (good_to {U' = AfterName n} {K' = CallLanguage n ▹ t.Result} (good_map t.Result (call_good fuel fuel' b h h' n))
    (λ y us (c, m, q). subst (λ y. AfterName n y us) q m) (λ y us u. u) (λ h f. tt))
    (good_to {U' = AfterName n} {K' = NamedExpression n ▹ t.Value} (good_map t.Value (named_expression_good fuel fuel' b h h' n))
    (λ y us (c, m, q). subst (λ y. AfterName n y us) q m) (λ y us u. u) (λ h f. f.0))
    out
  where
    out : (y : t.Initial) (us rest : List Token) → AfterName n y us → RightEnd (head_of rest) →
        ((CallLanguage n ▹ t.Result) y us × (head_is (is_mark p.OpenParenthesis) (head_of (us ++ rest)) ≡ true))
        ⊎ ((NamedExpression n ▹ t.Value) y us × (head_is (is_mark p.OpenParenthesis) (head_of (us ++ rest)) ≡ false))
    out (t.Value x) us rest u f = inr ((x, u, refl), named_head n x us rest u f.1)
    out (t.Result c) us rest u f = inl ((c, u, refl), rw (call_head n c us rest u) refl)
    out t.Absent us rest u f = absurd u

abbrev right_language : Option Lexeme → Spelling t.Initial
right_language (Some (Name bytes)) = named ▷ AfterName
right_language _ = expression ▹ t.Value

past_up : (y : t.Initial) (us : List Token) → (named ▷ AfterName) y us → RightLanguage y us
past_up (t.Value x) us (n, us₁, us₂, e, l, (left, us₃, us₄, e', m, a)) =
    rw (e, e', ← (append_assoc us₁ us₃ us₄)) (after_up x ((us₁ ++ us₃) ++ us₄)
    (left, us₁ ++ us₃, us₄, refl, named_up left (us₁ ++ us₃) (n, us₁, us₃, refl, l, m), a))
past_up (t.Result c) us (n, us₁, us₂, e, l, m) = rw e (call_up n c us₁ us₂ l m)
past_up t.Absent us (n, us₁, us₂, e, l, m) = absurd m

right_good : (fuel fuel' b : ℕ) → b ≤ fuel → b ≤ fuel' → (h : Option Lexeme)
    → Good b RightLanguage (right_language h) RightEnd (right_by fuel h) (right_by fuel' h)
right_good fuel fuel' b h h' (Some (Name bytes)) =
    good_to {U = named ▷ AfterName} {K = named ▷ AfterName} {F = RightEnd}
    (good_then {M = AfterName} {F = Anything} {G = RightEnd} good_name (after_name_good fuel fuel' b h h') (λ x y us rest m f. tt))
    past_up (λ y us u. u) (λ h f. f)
right_good fuel fuel' b h h' _ =
    good_to {U' = RightLanguage} {K' = expression ▹ t.Value} (good_map t.Value (good_expression fuel fuel' b h h'))
    (λ y us (x, m, q). subst (λ y. RightLanguage y us) q m) (λ y us u. u) (λ h f. f.0)

value_out : (x left : t.Expression) (us us₁ us₂ rest : List Token) → us ≡ us₁ ++ us₂ → from 11 left us₁ → AfterLanguage left x us₂ → expression x us
    → right_language (head_of (us ++ rest)) (t.Value x) us
value_out x (t.Number place value) us us₁ us₂ rest e l a u = let q : head_of (us ++ rest) ≡ Some (Number value) = rw (e, l) refl in rw q (x, u, refl)
value_out x (t.Named n) us us₁ us₂ rest e l a u =
    let q : head_of (us ++ rest) ≡ Some (Name n.text) = rw (e, l) refl in rw q (n, us₁, us₂, e, l, (t.Named n, [], us₂, refl, (None, refl, refl), a))
value_out x (t.Element n i) us us₁ us₂ rest e (vs₁, vs₂, e', l, m) a u =
    let q : head_of (us ++ rest) ≡ Some (Name n.text) = rw (e, e', l) refl in
    rw q (n, vs₁, vs₂ ++ us₂, e ∙ ap (λ l. l ++ us₂) e' ∙ append_assoc vs₁ vs₂ us₂, l, (t.Element n i, vs₂, us₂, refl, (Some i, m, refl), a))
value_out x (t.Null place) us us₁ us₂ rest e l a u = let q : head_of (us ++ rest) ≡ Some (Keyword k.Null) = rw (e, l) refl in rw q (x, u, refl)
value_out x (t.Address place array i) us us₁ us₂ rest e (vs₁, vs₂, e', l, m) a u =
    let q : head_of (us ++ rest) ≡ Some (Punctuator p.Ampersand) = rw (e, e', l) refl in rw q (x, u, refl)
value_out x (t.Referent place reference) us us₁ us₂ rest e (vs₁, vs₂, e', l, m) a u =
    let q : head_of (us ++ rest) ≡ Some (Punctuator p.Star) = rw (e, e', l) refl in rw q (x, u, refl)
value_out x (t.Parenthesised place inner) us us₁ us₂ rest e (vs₁, vs₂, e', l, m) a u =
    let q : head_of (us ++ rest) ≡ Some (Punctuator p.OpenParenthesis) = rw (e, e', l) refl in rw q (x, u, refl)
value_out x (t.Unary place o operand) us us₁ us₂ rest e (vs₁, vs₂, e', l, m) a u =
    let q : head_of (us ++ rest) ≡ Some (Punctuator (unary_mark o)) = rw (e, e', l) refl in rw q (x, u, refl)
value_out x (t.Cast place y operand) us us₁ us₂ rest e (vs₁, vs₂, e', l, m) a u =
    let q : head_of (us ++ rest) ≡ Some (Punctuator p.OpenParenthesis) = rw (e, e', l) refl in rw q (x, u, refl)
value_out x (t.Binary o left right) us us₁ us₂ rest e (q, m) a u = let h : precedence o ≤ 10 = precedence_high o in let z : ⊥ = omega (arith, q, h) in absurd z
value_out x (t.Conditional y z v) us us₁ us₂ rest e (q, m) a u = let z : ⊥ = omega (arith, q) in absurd z

right_out : (y : t.Initial) (us rest : List Token) → RightLanguage y us → right_language (head_of (us ++ rest)) y us
right_out (t.Value x) us rest u = go (after_down x us u)
  where
    go : (from 11 ▷ AfterLanguage) x us → right_language (head_of (us ++ rest)) (t.Value x) us
    go (left, us₁, us₂, e, l, a) = value_out x left us us₁ us₂ rest e l a u
right_out (t.Result c) us rest (us₁, us₂, e, l, m) =
    let q : head_of (us ++ rest) ≡ Some (Name c.function.text) = rw (e, l) refl in rw q (c.function, us₁, us₂, e, l, (refl, m))
right_out t.Absent us rest u = absurd u

pub good_right : (fuel fuel' b : ℕ) → b ≤ fuel → b ≤ fuel' → Good b RightLanguage RightLanguage RightEnd (parse_right fuel) (parse_right fuel')
good_right fuel fuel' b h h' = good_head {K = right_language} (right_good fuel fuel' b h h') (λ y us rest u f. right_out y us rest u)
