-- The parsers of items keep their languages.
use Rattle.std.proofs.Common.{◌≡◌, ℕ, zero, suc, ◌+◌, ◌-◌, ◌<◌, ◌≤◌, List, [], ◌∷◌, ◌++◌, length, length-append, Option, Some, None}
use Rattle.std.proofs.Common.{Bool, true, false, sym, refl, ap, ◌∙◌, subst, inl, inr, append_assoc, arith, true≢false, zero-lt-suc}
use Rattle.std.specs.Prelude.{◌⊎◌, pos}
use Rattle.ido_base.specs.declared.place.Place.{Place}
use Rattle.ido_ints.specs.TypedNumbers.{Typed, typed}
use Rattle.ido_ints.specs.declared.kinds.Kind.TheVariants as kind
use Rattle.ido_ints.specs.declared.operators.Binary.TheVariants as binary
use Rattle.c_tree.specs.declared.language.Language.{Language}
use Rattle.c_tree.specs.declared.language.Language.TheVariants.{Plain, Full}
use Rattle.c_tree.specs.Tokens.{Token, Lexeme, Keyword, Punctuator}
use Rattle.c_tree.specs.declared.token.Keyword.TheVariants as k
use Rattle.c_tree.specs.declared.token.Punctuator.TheVariants as p
use Rattle.c_tree.specs.Trees as t
use Rattle.c_tree.specs.Languages.{maybe, mark, word, ◌⋅◌, ◌or◌, empty, name, all_of, more_of, some_of}
use Rattle.c_tree.specs.Grammar.{expression, type_name, returned, parameter, parameters, result}
use Rattle.c_tree.specs.Grammar.{sign, signed, initialiser, length_of, assigned, brackets, mutex_length}
use Rattle.c_tree.specs.Grammar as g
use Rattle.c_reader.specs.links.ParserFunctions.{Parser, give, head_of, head_is, is_mark, is_word, begins_type, where_head, parse_mark, parse_word}
use Rattle.c_reader.specs.links.ParserFunctions.{parse_some_of, parse_return, parse_body, parse_parameter, parse_parameters, parse_result}
use Rattle.c_reader.specs.links.ParserFunctions.{parse_function, parse_sign, parse_signed, parse_numbers_to_end, parse_initialiser, parse_length}
use Rattle.c_reader.specs.links.ParserFunctions.{parse_brackets, parse_guard, parse_mutex_length}
use Rattle.c_reader.specs.links.ParserFunctions.{parse_persistent, item_by, parse_item, items_over, parse_items, ◌>>=◌, ◌>>◌}
use Rattle.c_reader.proofs.CorrectParsers.{Spelling, Good, ◌▷◌, ◌▹◌, just, Anything, Strict, good_give, good_to, good_less}
use Rattle.c_reader.proofs.CorrectParsers.{good_map, good_where, good_head, good_then, good_then_less, good_small}
use Rattle.c_reader.proofs.Tokens.{marked, worded, named, numbered, good_mark, good_word, good_name, good_number, marked-strict, numbered-strict}
use Rattle.c_reader.proofs.OptionalParts.{Unless, Where, good_maybe, good_some_of}
use Rattle.c_reader.proofs.Types.{TypeEnd, good_type_name, type_name_begins}
use Rattle.c_reader.proofs.TokenPlaces.{At, good_here}
use Rattle.c_reader.proofs.Operands.{ExpressionEnd}
use Rattle.c_reader.proofs.Expressions.{OperandEnd}
use Rattle.c_reader.proofs.SimpleStatements.{type_first}
use Rattle.c_reader.proofs.Statements.{StatementsEnd, good_statements, good_block, maybe_expression_good}

-- ---- Returns

abbrev made_return : Place → Option t.Expression → t.Return
made_return place x = record { place = place; value = x }

abbrev ReturnParts : Spelling t.Return
ReturnParts = worded k.Return ▷ (λ place. maybe expression ▷ (λ x. marked p.Semicolon ▹ (λ c. made_return place x)))

pub good_return : (fuel fuel' b : ℕ) → b ≤ fuel → b ≤ fuel' → Good b returned returned Anything (parse_return fuel) (parse_return fuel')
good_return fuel fuel' b h h' =
    good_to {U = ReturnParts} {K = ReturnParts} {F = Anything}
    (good_then {M = λ place. maybe expression ▷ (λ x. marked p.Semicolon ▹ (λ c. made_return place x))} {F = Anything} {G = Anything} (good_word k.Return)
    (λ place. good_then {M = λ x. marked p.Semicolon ▹ (λ c. made_return place x)} {F = Where (is_mark p.Semicolon) ExpressionEnd} {G = Anything}
    (maybe_expression_good fuel fuel' b h h') (λ x. good_map (λ c. made_return place x) (good_mark p.Semicolon))
    (λ x y us rest (c, m, q) f. rw m (((refl, λ n h. refl), refl), refl)))
    (λ x y us rest m f. tt))
    (λ y us (place, us₁, us₂, e, l, (x, us₃, us₄, e', m, (c, n, q))). subst (λ y. returned y us) q (us₁, us₂, e, l, (us₃, us₄, e', m, (c, n))))
    (λ y us (us₁, us₂, e, l, (us₃, us₄, e', m, (c, n))). (y.place, us₁, us₂, e, l, (y.value, us₃, us₄, e', m, (c, n, refl))))
    (λ h f. f)

return_head : (x : t.Return) (us rest : List Token) → returned x us → head_of (us ++ rest) ≡ Some (Keyword k.Return)
return_head x us rest (us₁, us₂, e, l, m) = rw (e, l) refl

-- ---- Parameters and results

abbrev made_parameter : t.TypeName → t.Name → t.Parameter
made_parameter x n = record { type_name = x; name = n }

pub good_parameter : {b : ℕ} → Good b parameter parameter Anything parse_parameter parse_parameter
good_parameter =
    good_to {U = type_name ▷ (λ x. named ▹ made_parameter x)} {K = type_name ▷ (λ x. named ▹ made_parameter x)} {F = Anything}
    (good_then {M = λ x. named ▹ made_parameter x} {F = TypeEnd} {G = Anything} good_type_name (λ x. good_map (made_parameter x) good_name)
    (λ x y us rest (n, l, q) f. rw l (refl, refl, refl, refl)))
    (λ y us (x, us₁, us₂, e, u, (n, l, q)). subst (λ y. parameter y us) q (us₁, us₂, e, u, l))
    (λ y us (us₁, us₂, e, u, l). (y.type_name, us₁, us₂, e, u, (y.name, l, refl)))
    (λ h f. f)

abbrev ParametersEnd : Option Lexeme → Type 0
ParametersEnd = Where (is_mark p.CloseParenthesis) (Unless (is_mark p.Comma) Anything)

abbrev WrittenParameters : Spelling (List t.Parameter)
WrittenParameters [] = word k.Void
WrittenParameters (x ∷ xs) = some_of parameter (x ∷ xs)

abbrev VoidAlone : Spelling (List t.Parameter)
VoidAlone = worded k.Void ▹ (λ v. [])

parameter_first : (test : Option Lexeme → Bool) → test (Some (Keyword k.Char)) ≡ false → test (Some (Keyword k.Short)) ≡ false
    → test (Some (Keyword k.Int)) ≡ false → test (Some (Keyword k.Long)) ≡ false → test (Some (Keyword k.Signed)) ≡ false
    → test (Some (Keyword k.Unsigned)) ≡ false → test (Some (Keyword k.Ref)) ≡ false →
    (x : t.Parameter) (xs : List t.Parameter) (us rest : List Token) → some_of parameter (x ∷ xs) us → test (head_of (us ++ rest)) ≡ false
parameter_first test a b c d e f g x xs us rest (us₁, us₂, q, (us₃, us₄, q', u, l), m) =
    rw (q, q', append_assoc us₃ us₄ us₂, append_assoc us₃ (us₄ ++ us₂) rest) (type_first test false a b c d e f g x.type_name us₃ ((us₄ ++ us₂) ++ rest) u)

written_good : (fuel fuel' b : ℕ) → b ≤ fuel → b ≤ fuel' → Good b WrittenParameters WrittenParameters ParametersEnd
    (where_head (head_is (is_word k.Void)) (do parse_word k.Void; give []) (parse_some_of fuel parse_parameter))
    (where_head (head_is (is_word k.Void)) (do parse_word k.Void; give []) (parse_some_of fuel' parse_parameter))
written_good fuel fuel' b h h' =
    good_where {K₁ = VoidAlone} {K₂ = some_of parameter} (head_is (is_word k.Void))
    (good_to {U' = WrittenParameters} {K' = VoidAlone} (good_map (λ v. []) (good_word k.Void)) (λ y us (v, l, q). subst (λ y. WrittenParameters y us) q (v, l))
    (λ y us u. u) (λ h f. tt))
    (good_to (good_some_of {F = Anything} tt fuel fuel' b h h' good_parameter good_parameter) up (λ y us u. u) (λ h f. f.0))
    out
  where
    up : (y : List t.Parameter) (us : List Token) → some_of parameter y us → WrittenParameters y us
    up [] us u = absurd u
    up (x ∷ xs) us u = u

    out : (y : List t.Parameter) (us rest : List Token) → WrittenParameters y us → ParametersEnd (head_of rest) →
        (VoidAlone y us × (head_is (is_word k.Void) (head_of (us ++ rest)) ≡ true))
        ⊎ (some_of parameter y us × (head_is (is_word k.Void) (head_of (us ++ rest)) ≡ false))
    out [] us rest (v, l) f = inl ((v, l, refl), rw l refl)
    out (x ∷ xs) us rest u f = inr (u, parameter_first (head_is (is_word k.Void)) refl refl refl refl refl refl refl x xs us rest u)

pub good_parameters : (fuel fuel' b : ℕ) → b ≤ fuel → b ≤ fuel' → Good b parameters parameters ParametersEnd (parse_parameters fuel) (parse_parameters fuel')
good_parameters fuel fuel' b h h' =
    good_where {K₁ = just []} {K₂ = WrittenParameters} (head_is (is_mark p.CloseParenthesis))
    (good_to {U' = parameters} {K' = just []} (good_give []) (λ y us (q, e). subst (λ y. parameters y us) q (inl e)) (λ y us u. u) (λ h f. tt))
    (good_to (written_good fuel fuel' b h h') up (λ y us u. u) (λ h f. f))
    out
  where
    up : (y : List t.Parameter) (us : List Token) → WrittenParameters y us → parameters y us
    up [] us u = inr u
    up (x ∷ xs) us u = u

    out : (y : List t.Parameter) (us rest : List Token) → parameters y us → ParametersEnd (head_of rest) →
        (just [] y us × (head_is (is_mark p.CloseParenthesis) (head_of (us ++ rest)) ≡ true))
        ⊎ (WrittenParameters y us × (head_is (is_mark p.CloseParenthesis) (head_of (us ++ rest)) ≡ false))
    out [] us rest (inl e) f = inl ((refl, e), rw e f.1)
    out [] us rest (inr (v, l)) f = inr ((v, l), rw l refl)
    out (x ∷ xs) us rest u f = inr (u, parameter_first (head_is (is_mark p.CloseParenthesis)) refl refl refl refl refl refl refl x xs us rest u)

abbrev VoidResult : Spelling (Option t.TypeName)
VoidResult = worded k.Void ▹ (λ v. None)

pub good_result : {b : ℕ} → Good b result result TypeEnd parse_result parse_result
good_result =
    good_where {K₁ = VoidResult} {K₂ = type_name ▹ Some} (head_is (is_word k.Void))
    (good_to {U' = result} {K' = VoidResult} (good_map (λ v. None) (good_word k.Void)) (λ y us (v, l, q). subst (λ y. result y us) q (v, l)) (λ y us u. u)
    (λ h f. tt))
    (good_to {U' = result} {K' = type_name ▹ Some} (good_map Some good_type_name) (λ y us (x, u, q). subst (λ y. result y us) q u) (λ y us u. u) (λ h f. f))
    out
  where
    out : (y : Option t.TypeName) (us rest : List Token) → result y us → TypeEnd (head_of rest) →
        (VoidResult y us × (head_is (is_word k.Void) (head_of (us ++ rest)) ≡ true))
        ⊎ ((type_name ▹ Some) y us × (head_is (is_word k.Void) (head_of (us ++ rest)) ≡ false))
    out None us rest (v, l) f = inl ((v, l, refl), rw l refl)
    out (Some x) us rest u f = inr ((x, u, refl), type_first (head_is (is_word k.Void)) false refl refl refl refl refl refl refl x us rest u)

-- ---- Initialisers

abbrev SignEnd : Option Lexeme → Type 0
SignEnd h = head_is (is_mark (p.Binary binary.Sub)) h ≡ false

abbrev MinusSign : Spelling Bool
MinusSign = marked (p.Binary binary.Sub) ▹ (λ m. true)

good_sign : {b : ℕ} → Good b sign sign SignEnd parse_sign parse_sign
good_sign =
    good_where {K₁ = MinusSign} {K₂ = just false} (head_is (is_mark (p.Binary binary.Sub)))
    (good_to {U' = sign} {K' = MinusSign} (good_map (λ m. true) (good_mark (p.Binary binary.Sub))) (λ y us (v, l, q). subst (λ y. sign y us) q (v, l))
    (λ y us u. u) (λ h f. tt))
    (good_to {U' = sign} {K' = just false} (good_give false) (λ y us (q, e). subst (λ y. sign y us) q e) (λ y us u. u) (λ h f. tt))
    out
  where
    out : (y : Bool) (us rest : List Token) → sign y us → SignEnd (head_of rest) →
        (MinusSign y us × (head_is (is_mark (p.Binary binary.Sub)) (head_of (us ++ rest)) ≡ true))
        ⊎ (just false y us × (head_is (is_mark (p.Binary binary.Sub)) (head_of (us ++ rest)) ≡ false))
    out true us rest (v, l) f = inl ((v, l, refl), rw l refl)
    out false us rest u f = inr ((refl, u), rw u f)

abbrev made_signed : Place → Bool → Place × Typed → t.Signed
made_signed place negative x = record { place = place; negative = negative; value = x.1 }

abbrev SignedParts : Place → Spelling t.Signed
SignedParts place = sign ▷ (λ negative. numbered ▹ made_signed place negative)

signed_parts-strict : (place : Place) → Strict (SignedParts place)
signed_parts-strict place y us (n, us₁, us₂, e, s, (x, m, q)) =
    let a : length us ≡ length us₁ + length us₂ = ap length e ∙ length-append us₁ us₂ in let b : 0 < length us₂ = numbered-strict x us₂ m in omega (arith, a, b)

pub good_signed : {b : ℕ} → Good b signed signed Anything parse_signed parse_signed
good_signed =
    good_to {U = At SignedParts} {K = At SignedParts} {F = Anything}
    (good_here SignedParts signed_parts-strict (λ place place' y us (n, us₁, us₂, e, s, (x, m, q)). (made_signed place' n x, (n, us₁, us₂, e, s, (x, m, refl))))
    (λ place. good_then {M = λ negative. numbered ▹ made_signed place negative} {F = SignEnd} {G = Anything} good_sign
    (λ negative. good_map (made_signed place negative) (good_number (typed kind.Int (pos 0))))
    (λ n y us rest (x, m, q) f. rw m refl)))
    (λ y us (place, f, (n, us₁, us₂, e, s, (x, m, q))). subst (λ y. signed y us) q (f, (us₁, us₂, e, s, (x.0, m))))
    (λ y us (f, (us₁, us₂, e, s, (x, m))). (y.place, f, (y.negative, us₁, us₂, e, s, ((x, y.value), m, refl))))
    (λ h f. f)

signed_head : (x : t.Signed) (us rest : List Token) → signed x us
    → (head_is (is_mark p.CloseBrace) (head_of (us ++ rest)) ≡ false) × (head_is (is_mark p.OpenBrace) (head_of (us ++ rest)) ≡ false)
signed_head x us rest (f, (us₁, us₂, e, s, (place, m))) = go x.negative s
  where
    go : (n : Bool) → sign n us₁ → (head_is (is_mark p.CloseBrace) (head_of (us ++ rest)) ≡ false)
        × (head_is (is_mark p.OpenBrace) (head_of (us ++ rest)) ≡ false)
    go true (o, l) = rw (e, l) (refl, refl)
    go false l = rw (e, l, m) (refl, refl)

-- the numbers after the first one, and the closing brace
abbrev NumbersEnd : Spelling (List t.Signed)
NumbersEnd xs = more_of signed xs ⋅ (empty or mark p.Comma) ⋅ mark p.CloseBrace

abbrev CloseNow : Spelling (List t.Signed)
CloseNow = marked p.CloseBrace ▹ (λ c. [])

abbrev OneMore : Spelling (List t.Signed)
OneMore = signed ▷ (λ x. NumbersEnd ▹ (λ xs. x ∷ xs))

abbrev AfterComma : Spelling (List t.Signed)
AfterComma y us = CloseNow y us ⊎ OneMore y us

abbrev WithComma : Spelling (List t.Signed)
WithComma = marked p.Comma ▷ (λ c. AfterComma)

with_comma_up : (y : List t.Signed) (us : List Token) → WithComma y us → NumbersEnd y us
with_comma_up y us (o, us₁, us₂, e, l, inl (c, m, q)) = subst (λ y. NumbersEnd y us) q ([], us, refl, refl, (us₁, us₂, e, inr (o, l), (c, m)))
with_comma_up y us (o, us₁, us₂, e, l, inr (x, us₃, us₄, e₁, s, (xs, (us₅, us₆, e₂, m, z), q))) =
    subst (λ y. NumbersEnd y us) q ((us₁ ++ us₃) ++ us₅, us₆, path, (us₁ ++ us₃, us₅, refl, (us₁, us₃, refl, (o, l), s), m), z)
  where
    path : us ≡ ((us₁ ++ us₃) ++ us₅) ++ us₆
    path = rw (e, e₁, e₂) (simp append_assoc refl)

close_up : (y : List t.Signed) (us : List Token) → CloseNow y us → NumbersEnd y us
close_up y us (c, m, q) = subst (λ y. NumbersEnd y us) q ([], us, refl, refl, ([], us, refl, inl refl, (c, m)))

numbers_out : (y : List t.Signed) (us rest : List Token) → NumbersEnd y us →
    (WithComma y us × (head_is (is_mark p.Comma) (head_of (us ++ rest)) ≡ true)) ⊎ (CloseNow y us × (head_is (is_mark p.Comma) (head_of (us ++ rest)) ≡ false))
numbers_out [] us rest (us₁, us₂, e, n, (us₃, us₄, e', inl z, (c, m))) =
    let a : us ≡ record { place = c; lexeme = Punctuator p.CloseBrace } ∷ [] = rw (e, n, e', z, m) refl in inr ((c, a, refl), rw a refl)
numbers_out [] us rest (us₁, us₂, e, n, (us₃, us₄, e', inr (o, l), (c, m))) =
    let a : us ≡ us₃ ++ us₄ = rw (e, n) e' in inl ((o, us₃, us₄, a, l, inl (c, m, refl)), rw (a, l) refl)
numbers_out (x ∷ xs) us rest (us₁, us₂, e, (us₃, us₄, e₁, (us₅, us₆, e₂, (o, l), s), m), z) =
    let a : us ≡ us₅ ++ (us₆ ++ (us₄ ++ us₂)) = rw (e, e₁, e₂) (simp append_assoc refl) in
    inl ((o, us₅, us₆ ++ (us₄ ++ us₂), a, l, inr (x, us₆, us₄ ++ us₂, refl, s, (xs, (us₄, us₂, refl, m, z), refl))), rw (a, l) refl)

numbers_step : {b c : ℕ} → b ≤ suc c → (fuel fuel' : ℕ) → Good c NumbersEnd NumbersEnd Anything (parse_numbers_to_end fuel) (parse_numbers_to_end fuel')
    → Good b NumbersEnd NumbersEnd Anything (parse_numbers_to_end (suc fuel)) (parse_numbers_to_end (suc fuel'))
numbers_step {b = b} {c = c} bc fuel fuel' r =
    good_where {K₁ = WithComma} {K₂ = CloseNow} (head_is (is_mark p.Comma))
    (good_to {U = WithComma} {K = WithComma} {F = Anything}
    (good_then_less {M = λ o. AfterComma} {F = Anything} {G = Anything} bc (marked-strict p.Comma) (good_mark p.Comma)
    (λ o. good_where {U = AfterComma} {K₁ = CloseNow} {K₂ = OneMore} (head_is (is_mark p.CloseBrace))
    (good_to (good_map (λ c. []) (good_mark p.CloseBrace)) (λ y us u. inl u) (λ y us u. u) (λ h f. tt))
    (good_to {U = OneMore} {K = OneMore} {F = Anything} (good_then {M = λ x. NumbersEnd ▹ (λ xs. x ∷ xs)} {F = Anything} {G = Anything} good_signed
    (λ x. good_map (λ xs. x ∷ xs) r) (λ x y us rest m f. tt)) (λ y us u. inr u) (λ y us u. u) (λ h f. tt))
    inner)
    (λ x y us rest m f. tt))
    with_comma_up (λ y us u. u) (λ h f. f))
    (good_to {U' = NumbersEnd} {K' = CloseNow} (good_map (λ c. []) (good_mark p.CloseBrace)) close_up (λ y us u. u) (λ h f. tt))
    (λ y us rest u f. numbers_out y us rest u)
  where
    inner : (y : List t.Signed) (us rest : List Token) → AfterComma y us → Anything (head_of rest) →
        (CloseNow y us × (head_is (is_mark p.CloseBrace) (head_of (us ++ rest)) ≡ true))
        ⊎ (OneMore y us × (head_is (is_mark p.CloseBrace) (head_of (us ++ rest)) ≡ false))
    inner y us rest (inl (c, m, q)) f = inl ((c, m, q), rw m refl)
    inner y us rest (inr (x, us₁, us₂, e, s, m)) f = inr ((x, us₁, us₂, e, s, m), rw (e, append_assoc us₁ us₂ rest) ((signed_head x us₁ (us₂ ++ rest) s).0))

pub good_numbers : (fuel fuel' b : ℕ) → b ≤ fuel → b ≤ fuel' → Good b NumbersEnd NumbersEnd Anything (parse_numbers_to_end fuel) (parse_numbers_to_end fuel')
good_numbers zero fuel' b h h' =
    let z : Place = record { 0 = 0 } in
    good_small h (λ ts. (
      [],
      refl,
      record { place = z; lexeme = Punctuator p.CloseBrace } ∷
          [],
      [],
      (
        [],
        record { place = z; lexeme = Punctuator p.CloseBrace } ∷
            [],
        refl,
        refl,
        ([], record { place = z; lexeme = Punctuator p.CloseBrace } ∷ [], refl, inl refl, (z, refl)),
      ),
    ))
good_numbers (suc fuel) zero b h h' =
    good_small h' (numbers_step {b = 0} {c = 0} (omega arith) fuel fuel (good_numbers fuel fuel 0 (omega arith) (omega arith))).sure
good_numbers (suc fuel) (suc fuel') b h h' =
    numbers_step {b = b} {c = b - 1} (omega arith) fuel fuel' (good_numbers fuel fuel' (b - 1) (omega (arith, h)) (omega (arith, h')))

abbrev made_braces : Place → t.Signed → List t.Signed → t.Initialiser
made_braces place x xs = t.InBraces place (x ∷ xs)

abbrev InBracesParts : Spelling t.Initialiser
InBracesParts = marked p.OpenBrace ▷ (λ place. signed ▷ (λ x. NumbersEnd ▹ made_braces place x))

braces_up : (y : t.Initialiser) (us : List Token) → InBracesParts y us → initialiser y us
braces_up y us (place, us₁, us₂, e, l, (x, us₃, us₄, e₁, s, (xs, (us₅, us₆, e₂, m, z), q))) =
    subst (λ y. initialiser y us) q (us₁, us₂, e, l, (us₃ ++ us₅, us₆, e₁ ∙ ap (λ l. us₃ ++ l) e₂ ∙ sym (append_assoc us₃ us₅ us₆), (us₃, us₅, refl, s, m), z))

pub good_initialiser : (fuel fuel' b : ℕ) → b ≤ fuel → b ≤ fuel' → Good b initialiser initialiser Anything (parse_initialiser fuel) (parse_initialiser fuel')
good_initialiser fuel fuel' b h h' =
    good_where {K₁ = InBracesParts} {K₂ = signed ▹ t.Single} (head_is (is_mark p.OpenBrace))
    (good_to {U = InBracesParts} {K = InBracesParts} {F = Anything}
    (good_then {M = λ place. signed ▷ (λ x. NumbersEnd ▹ made_braces place x)} {F = Anything} {G = Anything} (good_mark p.OpenBrace)
    (λ place. good_then {M = λ x. NumbersEnd ▹ made_braces place x} {F = Anything} {G = Anything} good_signed
    (λ x. good_map (made_braces place x) (good_numbers fuel fuel' b h h')) (λ x y us rest m f. tt))
    (λ x y us rest m f. tt))
    braces_up (λ y us u. u) (λ h f. f))
    (good_to {U' = initialiser} {K' = signed ▹ t.Single} (good_map t.Single good_signed) (λ y us (x, u, q). subst (λ y. initialiser y us) q u) (λ y us u. u)
    (λ h f. f))
    out
  where
    out : (y : t.Initialiser) (us rest : List Token) → initialiser y us → Anything (head_of rest) →
        (InBracesParts y us × (head_is (is_mark p.OpenBrace) (head_of (us ++ rest)) ≡ true))
        ⊎ ((signed ▹ t.Single) y us × (head_is (is_mark p.OpenBrace) (head_of (us ++ rest)) ≡ false))
    out (t.Single x) us rest u f = inr ((x, u, refl), (signed_head x us rest u).1)
    out (t.InBraces place []) us rest (us₁, us₂, e, l, (us₃, us₄, e₁, m, z)) f = absurd m
    out (t.InBraces place (x ∷ xs)) us rest (us₁, us₂, e, l, (us₃, us₄, e₁, (us₅, us₆, e₂, s, m), z)) f =
        inl (
          (place, us₁, us₂, e, l, (x, us₅, us₆ ++ us₄, e₁ ∙ ap (λ l. l ++ us₄) e₂ ∙ append_assoc us₅ us₆ us₄, s, (xs, (us₆, us₄, refl, m, z), refl))),
          rw (e, l) refl,
        )

-- ---- Persistent variables

abbrev made_length : Place × Typed → t.Length
made_length x = record { place = x.0; value = x.1 }

abbrev LengthParts : Spelling t.Length
LengthParts = marked p.OpenBracket ▷ (λ o. numbered ▷ (λ x. marked p.CloseBracket ▹ (λ c. made_length x)))

pub good_length : {b : ℕ} → Good b length_of length_of Anything parse_length parse_length
good_length =
    good_to {U = LengthParts} {K = LengthParts} {F = Anything}
    (good_then {M = λ o. numbered ▷ (λ x. marked p.CloseBracket ▹ (λ c. made_length x))} {F = Anything} {G = Anything} (good_mark p.OpenBracket)
    (λ o. good_then {M = λ x. marked p.CloseBracket ▹ (λ c. made_length x)} {F = Anything} {G = Anything} (good_number (typed kind.Int (pos 0)))
    (λ x. good_map (λ c. made_length x) (good_mark p.CloseBracket)) (λ x y us rest m f. tt))
    (λ x y us rest m f. tt))
    (λ y us (o, us₁, us₂, e, l, (x, us₃, us₄, e', m, (c, n, q))). subst (λ y. length_of y us) q (us₁, us₂, e, (o, l), (us₃, us₄, e', m, (c, n))))
    (λ y us (us₁, us₂, e, (o, l), (us₃, us₄, e', m, (c, n))). (o, us₁, us₂, e, l, ((y.place, y.value), us₃, us₄, e', m, (c, n, refl))))
    (λ h f. f)

good_assigned : (fuel fuel' b : ℕ) → b ≤ fuel → b ≤ fuel'
    → Good b assigned assigned Anything (do parse_mark p.Assign; parse_initialiser fuel) (do parse_mark p.Assign; parse_initialiser fuel')
good_assigned fuel fuel' b h h' =
    good_to {U = marked p.Assign ▷ (λ o. initialiser)} {K = marked p.Assign ▷ (λ o. initialiser)} {F = Anything}
    (good_then {M = λ o. initialiser} {F = Anything} {G = Anything} (good_mark p.Assign) (λ o. good_initialiser fuel fuel' b h h') (λ x y us rest m f. tt))
    (λ y us (o, us₁, us₂, e, l, m). (us₁, us₂, e, (o, l), m)) (λ y us (us₁, us₂, e, (o, l), m). (o, us₁, us₂, e, l, m)) (λ h f. f)

-- brackets that are empty
abbrev PairParts : Spelling Bool
PairParts = marked p.OpenBracket ▷ (λ o. marked p.CloseBracket ▹ (λ c. true))

brackets_good : (language : Language) {b : ℕ} → Good b (brackets language) (brackets language) OperandEnd (parse_brackets language) (parse_brackets language)
brackets_good Plain =
    good_to {U' = brackets Plain} {K' = brackets Plain} {F' = OperandEnd} (good_give false) (λ y us (q, e). subst (λ y. brackets Plain y us) q e) down
    (λ h f. tt)
  where
    down : (y : Bool) (us : List Token) → brackets Plain y us → just false y us
    down false us u = (refl, u)
    down true us u = absurd u
brackets_good Full =
    good_where {K₁ = PairParts} {K₂ = just false} (head_is (is_mark p.OpenBracket))
    (good_to {U = PairParts} {K = PairParts} {F = Anything}
    (good_then {M = λ o. marked p.CloseBracket ▹ (λ c. true)} {F = Anything} {G = Anything} (good_mark p.OpenBracket)
    (λ o. good_map (λ c. true) (good_mark p.CloseBracket)) (λ x y us rest m f. tt))
    (λ y us (o, us₁, us₂, e, l, (c, m, q)). subst (λ y. brackets Full y us) q (us₁, us₂, e, (o, l), (c, m))) (λ y us u. u) (λ h f. tt))
    (good_to {U' = brackets Full} {K' = just false} (good_give false) (λ y us (q, e). subst (λ y. brackets Full y us) q e) (λ y us u. u) (λ h f. tt))
    out
  where
    out : (y : Bool) (us rest : List Token) → brackets Full y us → OperandEnd (head_of rest) →
        (PairParts y us × (head_is (is_mark p.OpenBracket) (head_of (us ++ rest)) ≡ true))
        ⊎ (just false y us × (head_is (is_mark p.OpenBracket) (head_of (us ++ rest)) ≡ false))
    out true us rest (us₁, us₂, e, (o, l), (c, m)) f = inl ((o, us₁, us₂, e, l, (c, m, refl)), rw (e, l) refl)
    out false us rest u f = inr ((refl, u), rw u f)

abbrev made_guard : t.Name → Bool → t.Guard
made_guard x y = record { mutex = x; each = y }

-- what guards a variable, in parentheses
abbrev GuardInside : Language → Spelling t.Guard
GuardInside language x = mark p.OpenParenthesis ⋅ name x.mutex ⋅ brackets language x.each ⋅ mark p.CloseParenthesis

good_guard : (language : Language) {b : ℕ} → Good b (GuardInside language) (GuardInside language) Anything (parse_guard language) (parse_guard language)
good_guard language =
    good_to {U = Inside} {K = Inside} {F = Anything}
    (good_then {M = λ o. named ▷ (λ x. brackets language ▷ (λ y. marked p.CloseParenthesis ▹ (λ c. made_guard x y)))} {F = Anything} {G = Anything}
    (good_mark p.OpenParenthesis)
    (λ o. good_then {M = λ x. brackets language ▷ (λ y. marked p.CloseParenthesis ▹ (λ c. made_guard x y))} {F = Anything} {G = Anything} good_name
    (λ x. good_then {M = λ y. marked p.CloseParenthesis ▹ (λ c. made_guard x y)} {F = OperandEnd} {G = Anything} (brackets_good language)
    (λ y. good_map (λ c. made_guard x y) (good_mark p.CloseParenthesis)) (λ y z us rest (c, m, q) f. rw m refl))
    (λ x y us rest m f. tt))
    (λ o y us rest m f. tt))
    (λ y us (o, us₁, us₂, e, l, (x, us₃, us₄, e', m, (k, us₅, us₆, e₂, n, (c, v, q)))).
    subst (λ y. GuardInside language y us) q (us₁, us₂, e, (o, l), (us₃, us₄, e', m, (us₅, us₆, e₂, n, (c, v)))))
    (λ y us (us₁, us₂, e, (o, l), (us₃, us₄, e', m, (us₅, us₆, e₂, n, (c, v)))).
    (o, us₁, us₂, e, l, (y.mutex, us₃, us₄, e', m, (y.each, us₅, us₆, e₂, n, (c, v, refl)))))
    (λ h f. f)
  where
    Inside : Spelling t.Guard
    Inside = marked p.OpenParenthesis ▷ (λ o. named ▷ (λ x. brackets language ▷ (λ y. marked p.CloseParenthesis ▹ (λ c. made_guard x y))))

abbrev made_persistent : t.Guard → t.TypeName → t.Name → Option t.Length → Option t.Initialiser → t.Persistent
made_persistent guard x n l y = record { guard = guard; type_name = x; name = n; length = l; initialiser = y }

abbrev PersistentTail : t.Guard → t.TypeName → t.Name → Spelling t.Persistent
PersistentTail guard x n = maybe length_of ▷ (λ l. maybe assigned ▷ (λ y. marked p.Semicolon ▹ (λ c. made_persistent guard x n l y)))

maybe_assigned_ends : (y : Option t.Initialiser) (us rest : List Token) → maybe assigned y us → (us ≡ []) ⊎ (head_of (us ++ rest) ≡ Some (Punctuator p.Assign))
maybe_assigned_ends None us rest u = inl u
maybe_assigned_ends (Some y) us rest (us₁, us₂, e, (o, l), m) = inr (rw (e, l) refl)

length_ends : (guard : t.Guard) (x : t.TypeName) (n : t.Name) (l : Option t.Length) (y : t.Persistent) (us rest : List Token)
    → (maybe assigned ▷ (λ z. marked p.Semicolon ▹ (λ c. made_persistent guard x n l z))) y us → Unless (is_mark p.OpenBracket) Anything (head_of (us ++ rest))
length_ends guard x n l y us rest (None, us₁, us₂, e, u, (c, m, q)) = rw (e, u, m) (tt, refl)
length_ends guard x n l y us rest (Some z, us₁, us₂, e, (us₃, us₄, e', (o, l'), v), m) = rw (e, e', l') (tt, refl)

-- ---- Arrays of mutexes

mutex_length_good : (language : Language) {b : ℕ} →
    Good b (mutex_length language) (mutex_length language) OperandEnd (parse_mutex_length language) (parse_mutex_length language)
mutex_length_good Plain =
    good_to {U' = mutex_length Plain} {K' = mutex_length Plain} {F' = OperandEnd} (good_give None) (λ y us (q, e). subst (λ y. mutex_length Plain y us) q e)
    down (λ h f. tt)
  where
    down : (y : Option t.Length) (us : List Token) → mutex_length Plain y us → just None y us
    down None us u = (refl, u)
    down (Some x) us u = absurd u
mutex_length_good Full =
    good_to {U' = mutex_length Full} {K' = mutex_length Full} {F' = OperandEnd}
    (good_maybe (is_mark p.OpenBracket) good_length (λ l us rest (us₁, us₂, e, (o, l'), m). rw (e, l') refl)) up down (λ h f. (tt, f))
  where
    up : (y : Option t.Length) (us : List Token) → maybe length_of y us → mutex_length Full y us
    up None us u = u
    up (Some x) us u = u

    down : (y : Option t.Length) (us : List Token) → mutex_length Full y us → maybe length_of y us
    down None us u = u
    down (Some x) us u = u

module _ (language : Language) where
  -- what spells parts that have statements, guards or mutexes
  abbrev statements : Spelling t.Statements
  statements = g.statements language

  abbrev block : Spelling t.Block
  block = g.block language

  abbrev body : Spelling t.Body
  body = g.body language

  abbrev function : Spelling t.Function
  function = g.function language

  abbrev persistent : Spelling t.Persistent
  persistent = g.persistent language

  abbrev item : Spelling t.Item
  item = g.item language

  abbrev program : Spelling (List t.Item)
  program = g.program language

  -- ---- Bodies and functions

  abbrev made_body : Place → t.Statements → Option t.Return → Place → t.Body
  made_body opening xs x closing = record { opening = opening; statements = xs; returned = x; closing = closing }

  abbrev BodyParts : Spelling t.Body
  BodyParts = marked p.OpenBrace ▷ (λ opening. statements ▷ (λ xs. maybe returned ▷ (λ x. marked p.CloseBrace ▹ made_body opening xs x)))

  pub good_body : (fuel fuel' b : ℕ) → b ≤ fuel → b ≤ fuel' → Good b body body Anything (parse_body language fuel) (parse_body language fuel')
  good_body fuel fuel' b h h' =
      good_to {U = BodyParts} {K = BodyParts} {F = Anything}
      (good_then {M = λ opening. statements ▷ (λ xs. maybe returned ▷ (λ x. marked p.CloseBrace ▹ made_body opening xs x))} {F = Anything} {G = Anything}
      (good_mark p.OpenBrace)
      (λ opening. good_then {M = λ xs. maybe returned ▷ (λ x. marked p.CloseBrace ▹ made_body opening xs x)} {F = StatementsEnd} {G = Anything}
      (good_statements language fuel fuel' b h h')
      (λ xs. good_then {M = λ x. marked p.CloseBrace ▹ made_body opening xs x} {F = Unless (is_word k.Return) Anything} {G = Anything}
      (good_maybe (is_word k.Return) (good_return fuel fuel' b h h') (λ x us rest u. rw (return_head x us rest u) refl))
      (λ x. good_map (made_body opening xs x) (good_mark p.CloseBrace))
      (λ x y us rest (c, m, q) f. rw m (tt, refl)))
      ends)
      (λ x y us rest m f. tt))
      (λ y us (opening, us₁, us₂, e, l, (xs, us₃, us₄, e', m, (x, us₅, us₆, e₂, n, (closing, o, q)))). subst (λ y. body y us) q
      (us₁, us₂, e, l, (us₃, us₄, e', m, (us₅, us₆, e₂, n, o))))
      (λ y us (us₁, us₂, e, l, (us₃, us₄, e', m, (us₅, us₆, e₂, n, o))). (
        y.opening,
        us₁,
        us₂,
        e,
        l,
        (y.statements, us₃, us₄, e', m, (y.returned, us₅, us₆, e₂, n, (y.closing, o, refl))),
      ))
      (λ h f. f)
    where
      ends : {opening : Place} (xs : t.Statements) (y : t.Body) (us rest : List Token)
          → (maybe returned ▷ (λ x. marked p.CloseBrace ▹ made_body opening xs x)) y us → Anything (head_of rest) → StatementsEnd (head_of (us ++ rest))
      ends xs y us rest (None, us₁, us₂, e, n, (c, m, q)) f = rw (e, n, m) (refl, refl)
      ends xs y us rest (Some x, us₁, us₂, e, n, m) f =
          let q : head_of (us ++ rest) ≡ Some (Keyword k.Return) = rw (e, append_assoc us₁ us₂ rest) (return_head x us₁ (us₂ ++ rest) n) in rw q (refl, refl)

  abbrev made_function : Option t.TypeName → t.Name → List t.Parameter → t.Body → t.Function
  made_function x n xs b = record { type_name = x; name = n; parameters = xs; body = b }

  abbrev FunctionTail : Option t.TypeName → t.Name → Spelling t.Function
  FunctionTail x n = marked p.OpenParenthesis ▷ (λ o. parameters ▷ (λ xs. marked p.CloseParenthesis ▷ (λ c. body ▹ made_function x n xs)))

  abbrev FunctionParts : Spelling t.Function
  FunctionParts = result ▷ (λ x. named ▷ FunctionTail x)

  pub good_function : (fuel fuel' b : ℕ) → b ≤ fuel → b ≤ fuel' →
      Good b function function Anything (parse_function language fuel) (parse_function language fuel')
  good_function fuel fuel' b h h' =
      good_to {U = FunctionParts} {K = FunctionParts} {F = Anything}
      (good_then {M = λ x. named ▷ FunctionTail x} {F = TypeEnd} {G = Anything} good_result
      (λ x. good_then {M = FunctionTail x} {F = Anything} {G = Anything} good_name
      (λ n. good_then {M = λ o. parameters ▷ (λ xs. marked p.CloseParenthesis ▷ (λ c. body ▹ made_function x n xs))} {F = Anything} {G = Anything}
      (good_mark p.OpenParenthesis)
      (λ o. good_then {M = λ xs. marked p.CloseParenthesis ▷ (λ c. body ▹ made_function x n xs)} {F = ParametersEnd} {G = Anything}
      (good_parameters fuel fuel' b h h')
      (λ xs. good_then {M = λ c. body ▹ made_function x n xs} {F = Anything} {G = Anything} (good_mark p.CloseParenthesis)
      (λ c. good_map (made_function x n xs) (good_body fuel fuel' b h h')) (λ c y us rest m f. tt))
      (λ xs y us rest (c, us₁, us₂, e, l, m) f. rw (e, l) ((tt, refl), refl)))
      (λ o y us rest m f. tt))
      (λ n y us rest m f. tt))
      (λ x y us rest (n, us₁, us₂, e, l, m) f. rw (e, l) (refl, refl, refl, refl)))
      (λ y us (x, us₁, us₂, e, u, (n, us₃, us₄, e₁, l, (o, us₅, us₆, e₂, l₂, (xs, us₇, us₈, e₃, m, (c, us₉, us₁₀, e₄, l₄, (b, g, q)))))).
      subst (λ y. function y us) q (us₁, us₂, e, u, (us₃, us₄, e₁, l, (us₅, us₆, e₂, (o, l₂), (us₇, us₈, e₃, m, (us₉, us₁₀, e₄, (c, l₄), g))))))
      (λ y us (us₁, us₂, e, u, (us₃, us₄, e₁, l, (us₅, us₆, e₂, (o, l₂), (us₇, us₈, e₃, m, (us₉, us₁₀, e₄, (c, l₄), g))))). (
        y.type_name,
        us₁,
        us₂,
        e,
        u,
        (y.name, us₃, us₄, e₁, l, (o, us₅, us₆, e₂, l₂, (y.parameters, us₇, us₈, e₃, m, (c, us₉, us₁₀, e₄, l₄, (y.body, g, refl))))),
      ))
      (λ h f. f)

  -- ---- Variables

  abbrev PersistentParts : Spelling t.Persistent
  PersistentParts = worded k.Persistent ▷ (λ w. GuardInside language ▷ (λ guard. type_name ▷ (λ x. named ▷ PersistentTail guard x)))

  persistent_up : (y : t.Persistent) (us : List Token) → PersistentParts y us → persistent y us
  persistent_up y us (w, us₁, us₂, e, l, (guard, us₃, us₄, e₁, (us₅, us₆, e₂, o, (us₇, us₈, e₃, n, (us₉, us₁₀, e₄, k, c))), m)) = go m
    where
      go : (type_name ▷ (λ x. named ▷ PersistentTail guard x)) y us₄ → persistent y us
      go (x, vs₁, vs₂, f, u, (name, vs₃, vs₄, f₁, v, (len, vs₅, vs₆, f₂, a, (z, vs₇, vs₈, f₃, b, (s, d, q))))) =
          subst (λ y. persistent y us) q (
            us₁,
            us₂,
            e,
            (w, l),
            (
              us₅,
              us₆ ++ us₄,
              e₁ ∙ ap (λ l. l ++ us₄) e₂ ∙ append_assoc us₅ us₆ us₄,
              o,
              (
                us₇,
                us₈ ++ us₄,
                ap (λ l. l ++ us₄) e₃ ∙ append_assoc us₇ us₈ us₄,
                n,
                (
                  us₉,
                  us₁₀ ++ us₄,
                  ap (λ l. l ++ us₄) e₄ ∙ append_assoc us₉ us₁₀ us₄,
                  k,
                  (us₁₀, us₄, refl, c, (vs₁, vs₂, f, u, (vs₃, vs₄, f₁, v, (vs₅, vs₆, f₂, a, (vs₇, vs₈, f₃, b, (s, d)))))),
                ),
              ),
            ),
          )

  persistent_down : (y : t.Persistent) (us : List Token) → persistent y us → PersistentParts y us
  persistent_down y us (
    us₁,
    us₂,
    e,
    (w, l),
    (
      us₅,
      us₆,
      e₁,
      o,
      (us₇, us₈, e₂, n, (us₉, us₁₀, e₃, k, (us₁₁, us₁₂, e₄, c, (vs₁, vs₂, f, u, (vs₃, vs₄, f₁, v, (vs₅, vs₆, f₂, a, (vs₇, vs₈, f₃, b, (s, d)))))))),
    ),
  ) =
      let z : us₂ ≡ (us₅ ++ (us₇ ++ (us₉ ++ us₁₁))) ++ us₁₂ = rw (e₁, e₂, e₃, e₄) (simp append_assoc refl) in (
        w,
        us₁,
        us₂,
        e,
        l,
        (
          y.guard,
          us₅ ++ (us₇ ++ (us₉ ++ us₁₁)),
          us₁₂,
          z,
          (us₅, us₇ ++ (us₉ ++ us₁₁), refl, o, (us₇, us₉ ++ us₁₁, refl, n, (us₉, us₁₁, refl, k, c))),
          (y.type_name, vs₁, vs₂, f, u, (y.name, vs₃, vs₄, f₁, v, (y.length, vs₅, vs₆, f₂, a, (y.initialiser, vs₇, vs₈, f₃, b, (s, d, refl))))),
        ),
      )

  pub good_persistent : (fuel fuel' b : ℕ) → b ≤ fuel → b ≤ fuel' →
      Good b persistent persistent Anything (parse_persistent language fuel) (parse_persistent language fuel')
  good_persistent fuel fuel' b h h' =
      good_to {U = PersistentParts} {K = PersistentParts} {F = Anything}
      (good_then {M = λ w. GuardInside language ▷ (λ guard. type_name ▷ (λ x. named ▷ PersistentTail guard x))} {F = Anything} {G = Anything}
      (good_word k.Persistent)
      (λ w. good_then {M = λ guard. type_name ▷ (λ x. named ▷ PersistentTail guard x)} {F = Anything} {G = Anything} (good_guard language)
      (λ guard. good_then {M = λ x. named ▷ PersistentTail guard x} {F = TypeEnd} {G = Anything} good_type_name
      (λ x. good_then {M = PersistentTail guard x} {F = Anything} {G = Anything} good_name
      (λ n. good_then {M = λ l. maybe assigned ▷ (λ y. marked p.Semicolon ▹ (λ c. made_persistent guard x n l y))} {F = Unless (is_mark p.OpenBracket) Anything}
      {G = Anything}
      (good_maybe (is_mark p.OpenBracket) good_length (λ l us rest (us₁, us₂, e, (o, l'), m). rw (e, l') refl))
      (λ l. good_then {M = λ y. marked p.Semicolon ▹ (λ c. made_persistent guard x n l y)} {F = Unless (is_mark p.Assign) Anything} {G = Anything}
      (good_maybe (is_mark p.Assign) (good_assigned fuel fuel' b h h') (λ y us rest (us₁, us₂, e, (o, l'), m). rw (e, l') refl))
      (λ y. good_map (λ c. made_persistent guard x n l y) (good_mark p.Semicolon))
      (λ y z us rest (c, m, q) f. rw m (tt, refl)))
      (λ l y us rest m f. length_ends guard x n l y us rest m))
      (λ n y us rest m f. tt))
      (λ x y us rest (n, us₁, us₂, e, l, m) f. rw (e, l) (refl, refl, refl, refl)))
      (λ x y us rest m f. tt))
      (λ x y us rest m f. tt))
      persistent_up persistent_down (λ h f. f)

  -- ---- Items and programs

  abbrev made_thread : t.Name → t.Block → t.Item
  made_thread n b = t.ThreadItem (record { name = n; block = b })

  abbrev MutexParts : Spelling t.Item
  MutexParts = worded k.Mutex ▷ (λ w. named ▷ (λ x. mutex_length language ▷ (λ y. marked p.Semicolon ▹ (λ c. t.MutexItem x y))))

  abbrev ThreadParts : Spelling t.Item
  ThreadParts = worded k.Thread ▷ (λ w. named ▷ (λ x. block ▹ made_thread x))

  abbrev item_language : Option Lexeme → Spelling t.Item
  item_language (Some (Keyword k.Mutex)) = MutexParts
  item_language (Some (Keyword k.Persistent)) = persistent ▹ t.PersistentItem
  item_language (Some (Keyword k.Thread)) = ThreadParts
  item_language _ = function ▹ t.FunctionItem

  function_good : (fuel fuel' b : ℕ) → b ≤ fuel → b ≤ fuel'
      → Good b item (function ▹ t.FunctionItem) Anything (do x ← parse_function language fuel; give (t.FunctionItem x))
      (do x ← parse_function language fuel'; give (t.FunctionItem x))
  function_good fuel fuel' b h h' =
      good_to {U' = item} {K' = function ▹ t.FunctionItem} (good_map t.FunctionItem (good_function fuel fuel' b h h'))
      (λ y us (x, u, q). subst (λ y. item y us) q u) (λ y us u. u) (λ h f. f)

  item_good : (fuel fuel' b : ℕ) → b ≤ fuel → b ≤ fuel' → (h : Option Lexeme) →
      Good b item (item_language h) Anything (item_by language fuel h) (item_by language fuel' h)
  item_good fuel fuel' b h h' (Some (Keyword k.Mutex)) =
      good_to {U = MutexParts} {K = MutexParts} {F = Anything}
      (good_then {M = λ w. named ▷ (λ x. mutex_length language ▷ (λ y. marked p.Semicolon ▹ (λ c. t.MutexItem x y)))} {F = Anything} {G = Anything}
      (good_word k.Mutex)
      (λ w. good_then {M = λ x. mutex_length language ▷ (λ y. marked p.Semicolon ▹ (λ c. t.MutexItem x y))} {F = Anything} {G = Anything} good_name
      (λ x. good_then {M = λ y. marked p.Semicolon ▹ (λ c. t.MutexItem x y)} {F = OperandEnd} {G = Anything} (mutex_length_good language)
      (λ y. good_map (λ c. t.MutexItem x y) (good_mark p.Semicolon)) (λ y z us rest (c, m, q) f. rw m refl))
      (λ x y us rest m f. tt))
      (λ x y us rest m f. tt))
      (λ y us (w, us₁, us₂, e, l, (x, us₃, us₄, e', m, (k, us₅, us₆, e₂, n, (c, v, q)))).
      subst (λ y. item y us) q (us₁, us₂, e, (w, l), (us₃, us₄, e', m, (us₅, us₆, e₂, n, (c, v))))) (λ y us u. u) (λ h f. f)
  item_good fuel fuel' b h h' (Some (Keyword k.Persistent)) =
      good_to {U' = item} {K' = persistent ▹ t.PersistentItem} (good_map t.PersistentItem (good_persistent fuel fuel' b h h'))
      (λ y us (x, u, q). subst (λ y. item y us) q u) (λ y us u. u) (λ h f. f)
  item_good fuel fuel' b h h' (Some (Keyword k.Thread)) =
      good_to {U = ThreadParts} {K = ThreadParts} {F = Anything}
      (good_then {M = λ w. named ▷ (λ x. block ▹ made_thread x)} {F = Anything} {G = Anything} (good_word k.Thread)
      (λ w. good_then {M = λ x. block ▹ made_thread x} {F = Anything} {G = Anything} good_name
      (λ x. good_map (made_thread x) (good_block language fuel fuel' b h h'))
      (λ x y us rest m f. tt))
      (λ x y us rest m f. tt))
      (λ y us (w, us₁, us₂, e, l, (x, us₃, us₄, e', m, (g, n, q))). subst (λ y. item y us) q (us₁, us₂, e, (w, l), (us₃, us₄, e', m, n)))
      (λ y us u. u) (λ h f. f)
  item_good fuel fuel' b h h' _ = function_good fuel fuel' b h h'

  -- a word of a type leads to a function
  function_at : (h : Option Lexeme) (y : t.Item) (us : List Token) → head_is begins_type h ≡ true → (function ▹ t.FunctionItem) y us → item_language h y us
  function_at (Some (Keyword k.Mutex)) y us q u = absurd (true≢false (sym q))
  function_at (Some (Keyword k.Persistent)) y us q u = absurd (true≢false (sym q))
  function_at (Some (Keyword k.Thread)) y us q u = absurd (true≢false (sym q))
  function_at _ y us q u = u

  function_out : (x : t.Function) (us rest us₁ us₂ : List Token) → us ≡ us₁ ++ us₂ → (y : Option t.TypeName) → result y us₁ → function x us
      → item_language (head_of (us ++ rest)) (t.FunctionItem x) us
  function_out x us rest us₁ us₂ e None (place, l) u = let q : head_of (us ++ rest) ≡ Some (Keyword k.Void) = rw (e, l) refl in rw q (x, u, refl)
  function_out x us rest us₁ us₂ e (Some y) m u =
      function_at (head_of (us ++ rest)) (t.FunctionItem x) us (rw (e, append_assoc us₁ us₂ rest) (type_name_begins y us₁ (us₂ ++ rest) m)) (x, u, refl)

  item_out : (y : t.Item) (us rest : List Token) → item y us → item_language (head_of (us ++ rest)) y us
  item_out (t.MutexItem x y) us rest (us₁, us₂, e, (w, l), (us₃, us₄, e', m, (us₅, us₆, e₂, n, (c, v)))) =
      let q : head_of (us ++ rest) ≡ Some (Keyword k.Mutex) = rw (e, l) refl in
      rw q (w, us₁, us₂, e, l, (x, us₃, us₄, e', m, (y, us₅, us₆, e₂, n, (c, v, refl))))
  item_out (t.PersistentItem x) us rest (us₁, us₂, e, (w, l), m) =
      let q : head_of (us ++ rest) ≡ Some (Keyword k.Persistent) = rw (e, l) refl in rw q (x, (us₁, us₂, e, (w, l), m), refl)
  item_out (t.ThreadItem x) us rest (us₁, us₂, e, (w, l), (us₃, us₄, e', m, n)) =
      let q : head_of (us ++ rest) ≡ Some (Keyword k.Thread) = rw (e, l) refl in rw q (w, us₁, us₂, e, l, (x.name, us₃, us₄, e', m, (x.block, n, refl)))
  item_out (t.FunctionItem x) us rest (us₁, us₂, e, u, m) = function_out x us rest us₁ us₂ e x.type_name u (us₁, us₂, e, u, m)

  pub good_item : (fuel fuel' b : ℕ) → b ≤ fuel → b ≤ fuel' → Good b item item Anything (parse_item language fuel) (parse_item language fuel')
  good_item fuel fuel' b h h' = good_head {K = item_language} (item_good fuel fuel' b h h') (λ y us rest u f. item_out y us rest u)

  item_strict : Strict item
  item_strict (t.MutexItem x y) us (us₁, us₂, e, (w, l), m) = rw (e, l) (zero-lt-suc (length us₂))
  item_strict (t.PersistentItem x) us (us₁, us₂, e, (w, l), m) = rw (e, l) (zero-lt-suc (length us₂))
  item_strict (t.ThreadItem x) us (us₁, us₂, e, (w, l), m) = rw (e, l) (zero-lt-suc (length us₂))
  item_strict (t.FunctionItem x) us (us₁, us₂, e, u, (us₃, us₄, e', l, m)) =
      let a : length us ≡ length us₁ + length us₂ = ap length e ∙ length-append us₁ us₂ in
      let b : 0 < length us₂ = rw (e', l) (zero-lt-suc (length us₄)) in omega (arith, a, b)

  -- nothing may follow
  abbrev pub AtEnd : Option Lexeme → Type 0
  AtEnd h = h ≡ None

  abbrev ItemsParts : Spelling (List t.Item)
  ItemsParts = item ▷ (λ y. all_of item ▹ (λ ys. y ∷ ys))

  abbrev items_language : Option Lexeme → Spelling (List t.Item)
  items_language None = just []
  items_language (Some x) = ItemsParts

  items_step : {b c : ℕ} → b ≤ suc c → {I I' : Parser t.Item} → Good b item item Anything I I' → (fuel fuel' : ℕ)
      → Good c (all_of item) (all_of item) AtEnd (items_over I fuel) (items_over I' fuel') →
      Good b (all_of item) (all_of item) AtEnd (items_over I (suc fuel)) (items_over I' (suc fuel'))
  items_step {b = b} {c = c} bc {I = I} {I' = I'} g fuel fuel' r = good_head {K = items_language} at out
    where
      at : (h : Option Lexeme) → Good b (all_of item) (items_language h) AtEnd
          (elim h as (λ h. Parser (List t.Item)) [ None ↦ give [] | Some x ↦ do y ← I; ys ← items_over I fuel; give (y ∷ ys) ])
          (elim h as (λ h. Parser (List t.Item)) [ None ↦ give [] | Some x ↦ do y ← I'; ys ← items_over I' fuel'; give (y ∷ ys) ])
      at None = good_to {U' = all_of item} {K' = just []} (good_give []) (λ y us (q, e). subst (λ y. all_of item y us) q e) (λ y us u. u) (λ h f. tt)
      at (Some x) =
          good_to {U = ItemsParts} {K = ItemsParts} {F = AtEnd}
          (good_then_less {M = λ y. all_of item ▹ (λ ys. y ∷ ys)} {F = Anything} {G = AtEnd} bc item_strict g (λ y. good_map (λ ys. y ∷ ys) r)
          (λ x y us rest m f. tt))
          (λ y us (x, us₁, us₂, e, u, (xs, m, q)). subst (λ y. all_of item y us) q (us₁, us₂, e, u, m)) (λ y us u. u) (λ h f. f)

      some_head : (us rest : List Token) → 0 < length us → (x : Lexeme) × (head_of (us ++ rest) ≡ Some x)
      some_head [] rest h = let z : ⊥ = omega (arith, h) in absurd z
      some_head (u ∷ us) rest h = (u.lexeme, refl)

      out : (y : List t.Item) (us rest : List Token) → all_of item y us → AtEnd (head_of rest) → items_language (head_of (us ++ rest)) y us
      out [] us rest u f = let q : head_of (us ++ rest) ≡ None = rw u f in rw q (refl, u)
      out (x ∷ xs) us rest (us₁, us₂, e, u, m) f =
          let s : 0 < length us₁ = item_strict x us₁ u in
          let a : length us ≡ length us₁ + length us₂ = ap length e ∙ length-append us₁ us₂ in
          let (l, q) = some_head us rest (omega (arith, s, a)) in
          rw q (x, us₁, us₂, e, u, (xs, m, refl))

  items_good : (fuel fuel' b : ℕ) → b ≤ fuel → b ≤ fuel' → {I I' : Parser t.Item} → Good b item item Anything I I' → Good 0 item item Anything I I
      → Good b (all_of item) (all_of item) AtEnd (items_over I fuel) (items_over I' fuel')
  items_good zero fuel' b h h' g g₀ = good_small h (λ ts. ([], refl, [], [], refl))
  items_good (suc fuel) zero b h h' g g₀ =
      good_small h' (items_step {b = 0} {c = 0} (omega arith) g₀ fuel fuel (items_good fuel fuel 0 (omega arith) (omega arith) g₀ g₀)).sure
  items_good (suc fuel) (suc fuel') b h h' g g₀ =
      items_step {b = b} {c = b - 1} (omega arith) g fuel fuel'
      (items_good fuel fuel' (b - 1) (omega (arith, h)) (omega (arith, h')) (good_less g (omega arith)) g₀)

  pub good_items : (fuel fuel' b : ℕ) → b ≤ fuel → b ≤ fuel' → Good b program program AtEnd (parse_items language fuel) (parse_items language fuel')
  good_items fuel fuel' b h h' =
      good_to {U = ItemsParts} {K = ItemsParts} {F = AtEnd}
      (good_then {M = λ y. all_of item ▹ (λ ys. y ∷ ys)} {F = Anything} {G = AtEnd} (good_item fuel fuel' b h h')
      (λ y. good_map (λ ys. y ∷ ys) (items_good fuel fuel' b h h' (good_item fuel fuel' b h h') (good_item fuel fuel 0 (omega arith) (omega arith))))
      (λ x y us rest m f. tt))
      (λ y us (x, us₁, us₂, e, u, (xs, m, q)). subst (λ y. program y us) q (us₁, us₂, e, u, m)) down (λ h f. f)
    where
      down : (y : List t.Item) (us : List Token) → program y us → ItemsParts y us
      down [] us u = absurd u
      down (x ∷ xs) us (us₁, us₂, e, u, m) = (x, us₁, us₂, e, u, (xs, m, refl))
