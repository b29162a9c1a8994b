-- The parser's steps, one equation for each.
use Rattle.std.proofs.Common.{◌≡◌, ℕ, suc, ◌+◌, ◌-◌, ◌<◌, ◌≤◌, List, [], ◌∷◌, ◌++◌, Option, Some, Bool}
use Rattle.std.proofs.Common.{true, false, refl, ap, sym, subst, ◌∙◌, append_assoc, append-nil, arith}
use Rattle.ido_base.specs.declared.place.Place.{Place}
use Rattle.c_tree.specs.Tokens.{Token, Lexeme, Name}
use Rattle.c_tree.specs.declared.token.Punctuator.TheVariants as p
use Rattle.c_tree.specs.Trees as t
use Rattle.c_tree.specs.Elaboration.{target_place}
use Rattle.c_reader.specs.links.ParserFunctions.{Parsed, Parser, Read, Wrong, give, follow, ◌>>=◌, ◌>>◌, head_of, by_head, where_head, taking, head_is}
use Rattle.c_reader.specs.links.ParserFunctions.{is_mark, is_operator_at, operator_in, operand_over, operand_after_name, conditional_after}
use Rattle.c_reader.specs.links.ParserFunctions.{parse_operand, parse_expression, parse_index, parse_name, parse_mark, parse_change}
use Rattle.c_reader.specs.links.ParserFunctions.{parse_more_of, parse_some_of, parse_followed, declaration_over, call_after, assigned_from}
use Rattle.c_reader.specs.links.ParserSteps.{operators_past, operators_from, right_operand, more_of, expression_past_name, right_past_name, right_side}
use Rattle.c_reader.specs.links.ParserSteps.{maybe_initial, statement_past_target, statement_past_name, parse_named_statement}
use Rattle.c_reader.specs.links.ParserSteps.{parse_followed_statement, parse_declaration_statement}

-- fuel that is there
pub burnt : {X : Type 0} (f : ℕ → X) (fuel : ℕ) → 0 < fuel → f fuel ≡ f (suc (fuel - 1))
burnt f fuel some = let e : fuel ≡ suc (fuel - 1) = omega arith in ap f e

pub operand_at : (fuel : ℕ) (ts : List Token) → 0 < fuel → parse_operand fuel ts ≡ operand_over (parse_operand (fuel - 1)) (parse_expression (fuel - 1)) ts
unfolding parse_operand
operand_at fuel ts some = burnt (λ n. parse_operand n ts) fuel some

pub operand_at_none : (fuel : ℕ) (ts : List Token) → fuel ≡ 0 → parse_operand fuel ts ≡ Wrong ts
unfolding parse_operand
operand_at_none fuel ts none = ap (λ n. parse_operand n ts) none

pub expression_at_none : (fuel : ℕ) (ts : List Token) → fuel ≡ 0 → parse_expression fuel ts ≡ Wrong ts
unfolding parse_expression
expression_at_none fuel ts none = ap (λ n. parse_expression n ts) none

pub expression_at_suc : (fuel : ℕ) (ts : List Token)
    → parse_expression (suc fuel) ts ≡ follow (parse_operand (suc fuel) ts)
    (λ x rest. follow (operators_past (suc fuel) 10 x rest) (λ y. conditional_after (parse_expression fuel) y))
unfolding parse_expression operators_past
expression_at_suc fuel ts = refl

pub expression_at : (fuel : ℕ) (ts : List Token) → 0 < fuel
    → parse_expression fuel ts ≡ follow (parse_operand fuel ts)
    (λ x rest. follow (operators_past fuel 10 x rest) (λ y. conditional_after (parse_expression (fuel - 1)) y))
expression_at fuel ts some =
    let e : fuel ≡ suc (fuel - 1) = omega arith in
    subst
    (λ (n : ℕ). parse_expression n ts ≡ follow (parse_operand n ts)
    (λ x rest. follow (operators_past n 10 x rest) (λ y. conditional_after (parse_expression (fuel - 1)) y)))
    (sym e)
    (expression_at_suc (fuel - 1) ts)

pub after_name_is : (fuel : ℕ) (x : t.Name) (ts : List Token)
    → expression_past_name fuel x ts ≡ follow (operand_after_name (parse_expression fuel) x ts)
    (λ y rest. follow (operators_past fuel 10 y rest) (λ z. conditional_after (parse_expression fuel) z))
unfolding expression_past_name operators_past
after_name_is fuel x ts = refl

-- ---- Operators with two operands

pub after_none : (fuel levels : ℕ) (left : t.Expression) (ts : List Token) → levels ≡ 0 → operators_past fuel levels left ts ≡ Read left ts
unfolding operators_past
after_none fuel levels left ts none = ap (λ n. operators_past fuel n left ts) none

after_suc : (fuel levels : ℕ) (left : t.Expression) (ts : List Token)
    → operators_past fuel (suc levels) left ts ≡ follow (operators_past fuel levels left ts) (operators_from fuel levels fuel)
unfolding operators_past operators_from
after_suc fuel levels left ts = refl

pub after_some : (fuel levels : ℕ) (left : t.Expression) (ts : List Token) → 0 < levels
    → operators_past fuel levels left ts ≡ follow (operators_past fuel (levels - 1) left ts) (operators_from fuel (levels - 1) fuel)
after_some fuel levels left ts some = burnt (λ n. operators_past fuel n left ts) levels some ∙ after_suc fuel (levels - 1) left ts

pub from_end : (fuel levels at : ℕ) (left : t.Expression) (ts : List Token) → fuel ≤ at → operators_from fuel levels (fuel - at) left ts ≡ Wrong ts
unfolding operators_from
from_end fuel levels at left ts done = let e : fuel - at ≡ 0 = omega arith in ap (λ n. operators_from fuel levels n left ts) e

from_suc : (fuel levels count : ℕ) (left : t.Expression) (ts : List Token) → operators_from fuel levels (suc count) left ts
    ≡ where_head (head_is (is_operator_at (10 - levels)))
    (do o ← taking (operator_in (10 - levels)); y ← right_operand fuel levels; operators_from fuel levels count (t.Binary o left y)) (give left) ts
unfolding operators_from
from_suc fuel levels count left ts = refl

pub from_some : (fuel levels at : ℕ) (left : t.Expression) (ts : List Token) → at < fuel → operators_from fuel levels (fuel - at) left ts
    ≡ where_head (head_is (is_operator_at (10 - levels)))
    (do o ← taking (operator_in (10 - levels)); y ← right_operand fuel levels; operators_from fuel levels (fuel - (at + 1)) (t.Binary o left y)) (give left) ts
from_some fuel levels at left ts below =
    let e : fuel - at ≡ suc (fuel - (at + 1)) = omega arith in ap (λ n. operators_from fuel levels n left ts) e ∙ from_suc fuel levels (fuel - (at + 1)) left ts

-- ---- Lists

-- what follows on a choice by the next token
pub where_followed : {A B : Type 0} (test : Option Lexeme → Bool) (then otherwise : Parser A) (g : A → Parser B) (ts : List Token)
    → follow (where_head test then otherwise ts) g ≡ where_head test (then >>= g) (otherwise >>= g) ts
where_followed {A = A} {B = B} test then otherwise g ts = go (test (head_of ts))
  where
    go : (b : Bool) → follow (elim b as (λ p. Parsed A) [ true ↦ then ts | false ↦ otherwise ts ]) g
        ≡ elim b as (λ p. Parsed B) [ true ↦ (then >>= g) ts | false ↦ (otherwise >>= g) ts ]
    go true = refl
    go false = refl

-- answers where the branches of a choice agree
pub where_same : {A : Type 0} (test : Option Lexeme → Bool) (then then' otherwise : Parser A) (ts : List Token) → then ts ≡ then' ts
    → where_head test then otherwise ts ≡ where_head test then' otherwise ts
where_same {A = A} test then then' otherwise ts e = ap (λ (r : Parsed A). elim (test (head_of ts)) as (λ p. Parsed A) [ true ↦ r | false ↦ otherwise ts ]) e

-- one more in front of what follows
pub one_more : {A : Type 0} (found : List A) (x : A) (r : Parsed (List A))
    → follow (follow r (λ xs. give (x ∷ xs))) (λ xs. give (found ++ xs)) ≡ follow r (λ xs. give (found ++ x ∷ [] ++ xs))
one_more found x (Read xs rest) = ap (λ l. Read l rest) (sym (append_assoc found (x ∷ []) xs))
one_more found x (Wrong rest) = refl

then_more : {A : Type 0} (part : Parser A) (count : ℕ) (found : List A) (ts : List Token)
    → follow ((do x ← part; xs ← parse_more_of count part; give (x ∷ xs)) ts) (λ xs. give (found ++ xs))
    ≡ (do x ← part; more_of part count (found ++ x ∷ [])) ts
unfolding more_of
then_more {A = A} part count found ts = go (part ts)
  where
    go : (r : Parsed A) → follow (follow r (λ x. parse_more_of count part >>= λ xs. give (x ∷ xs))) (λ xs. give (found ++ xs))
        ≡ follow r (λ x. more_of part count (found ++ x ∷ []))
    go (Read x rest) = one_more found x (parse_more_of count part rest)
    go (Wrong rest) = refl

comma_more : {A : Type 0} (part : Parser A) (count : ℕ) (found : List A) (ts : List Token)
    → follow ((do parse_mark p.Comma; x ← part; xs ← parse_more_of count part; give (x ∷ xs)) ts) (λ xs. give (found ++ xs))
    ≡ (do parse_mark p.Comma; x ← part; more_of part count (found ++ x ∷ [])) ts
comma_more {A = A} part count found ts = go (parse_mark p.Comma ts)
  where
    go : (r : Parsed Place) → follow (follow r (λ c. part >>= λ x. parse_more_of count part >>= λ xs. give (x ∷ xs))) (λ xs. give (found ++ xs))
        ≡ follow r (λ c. part >>= λ x. more_of part count (found ++ x ∷ []))
    go (Read c rest) = then_more part count found rest
    go (Wrong rest) = refl

more_suc : {A : Type 0} (part : Parser A) (count : ℕ) (found : List A) (ts : List Token)
    → more_of part (suc count) found ts ≡ where_head (head_is (is_mark p.Comma)) (do parse_mark p.Comma; x ← part; more_of part count (found ++ x ∷ []))
    (give found) ts
unfolding more_of
more_suc part count found ts =
    where_followed (head_is (is_mark p.Comma)) (do parse_mark p.Comma; x ← part; xs ← parse_more_of count part; give (x ∷ xs)) (give [])
    (λ xs. give (found ++ xs)) ts
    ∙ where_same (head_is (is_mark p.Comma)) ((do parse_mark p.Comma; x ← part; xs ← parse_more_of count part; give (x ∷ xs)) >>= λ xs. give (found ++ xs))
    (do parse_mark p.Comma; x ← part; more_of part count (found ++ x ∷ [])) (give (found ++ [])) ts (comma_more part count found ts)
    ∙ ap (λ l. where_head (head_is (is_mark p.Comma)) (do parse_mark p.Comma; x ← part; more_of part count (found ++ x ∷ [])) (give l) ts) (append-nil found)

pub more_end : {A : Type 0} (part : Parser A) (fuel at : ℕ) (found : List A) (ts : List Token) → fuel ≤ at → more_of part (fuel - at) found ts ≡ Wrong ts
unfolding more_of
more_end part fuel at found ts done = let e : fuel - at ≡ 0 = omega arith in ap (λ n. more_of part n found ts) e

pub more_some : {A : Type 0} (part : Parser A) (fuel at : ℕ) (found : List A) (ts : List Token) → at < fuel
    → more_of part (fuel - at) found ts ≡ where_head (head_is (is_mark p.Comma))
    (do parse_mark p.Comma; x ← part; more_of part (fuel - (at + 1)) (found ++ x ∷ [])) (give found) ts
more_some part fuel at found ts below =
    let e : fuel - at ≡ suc (fuel - (at + 1)) = omega arith in ap (λ n. more_of part n found ts) e ∙ more_suc part (fuel - (at + 1)) found ts

pub more_start : {A : Type 0} (part : Parser A) (fuel : ℕ) (ts : List Token) → parse_some_of fuel part ts ≡ (do x ← part; more_of part (fuel - 0) (x ∷ [])) ts
unfolding more_of
more_start part fuel ts = let e : fuel - 0 ≡ fuel = omega arith in rw e refl

-- ---- Right sides

pub right_after_name_is : (fuel : ℕ) (x : t.Name) (ts : List Token) → right_past_name fuel x ts
    ≡ where_head (head_is (is_mark p.OpenParenthesis)) (do c ← call_after fuel x; give (t.Result c)) (do y ← expression_past_name fuel x; give (t.Value y)) ts
unfolding right_past_name expression_past_name
right_after_name_is fuel x ts = refl

abbrev pub right_side_by : (fuel : ℕ) → Option Lexeme → Parser t.Initial
right_side_by fuel (Some (Name bytes)) = do x ← parse_name; right_past_name fuel x
right_side_by fuel _ = do x ← parse_expression fuel; give (t.Value x)

pub right_side_is : (fuel : ℕ) (ts : List Token) → right_side fuel ts ≡ by_head (right_side_by fuel) ts
unfolding right_side right_past_name
right_side_is fuel ts = refl

pub maybe_initial_is : (fuel : ℕ) (ts : List Token) → maybe_initial fuel ts
    ≡ where_head (head_is (is_mark p.Assign)) (do parse_mark p.Assign; right_side fuel) (give t.Absent) ts
unfolding maybe_initial right_side
maybe_initial_is fuel ts = refl

-- ---- Statements

pub statement_after_target_is : (fuel : ℕ) (x : t.Lvalue) (ts : List Token) → statement_past_target fuel x ts
    ≡ where_head (head_is (is_mark p.Assign))
    (do parse_mark p.Assign; y ← right_side fuel; give (assigned_from x y))
    (do y ← parse_change fuel; give (t.Assign (record { place = target_place x; target = x; change = y }))) ts
unfolding statement_past_target right_side
statement_after_target_is fuel x ts = refl

pub statement_after_name_is : (fuel : ℕ) (x : t.Name) (ts : List Token) → statement_past_name fuel x ts
    ≡ where_head (head_is (is_mark p.OpenParenthesis))
    (do c ← call_after fuel x; give (t.CallOnly c))
    (do i ← parse_index (parse_expression fuel); statement_past_target fuel (t.Target x i)) ts
unfolding statement_past_name statement_past_target
statement_after_name_is fuel x ts = refl

pub named_statement_is : (fuel : ℕ) (ts : List Token) → parse_named_statement fuel ts
    ≡ (do s ← (do x ← parse_name; statement_past_name fuel x); parse_mark p.Semicolon; give s) ts
unfolding parse_named_statement statement_past_name
named_statement_is fuel ts = refl

pub followed_statement_is : (fuel : ℕ) (ts : List Token) → parse_followed_statement fuel ts
    ≡ (do s ← (do x ← parse_followed; statement_past_target fuel x); parse_mark p.Semicolon; give s) ts
unfolding parse_followed_statement statement_past_target
followed_statement_is fuel ts = refl

pub declaration_statement_is : (fuel : ℕ) (ts : List Token)
    → parse_declaration_statement fuel ts ≡ (do x ← (do x ← declaration_over (maybe_initial fuel); give (t.Declare x)); parse_mark p.Semicolon; give x) ts
unfolding parse_declaration_statement maybe_initial
declaration_statement_is fuel ts = refl
