-- Worked rows: tokens of short texts.
use Rattle.std.proofs.Common.{◌≡◌, ℕ, ◌^◌, Some, None, List, [], ◌∷◌, ◌++◌, refl, pos}
use Rattle.std.specs.Prelude.{codes}
use Rattle.ido_ints.specs.declared.kinds.Kind.TheVariants.{Int, UnsignedInt, Long, UnsignedLong}
use Rattle.ido_ints.specs.declared.operators.Binary.TheVariants as b
use Rattle.ido_ints.specs.TypedNumbers.{typed}
use Rattle.c_tree.specs.declared.rule.Rule as r
use Rattle.c_tree.specs.declared.rule.Rule.TheVariants as rule
use Rattle.c_tree.specs.declared.token.Keyword.TheVariants as k
use Rattle.c_tree.specs.declared.token.Punctuator.TheVariants as p
use Rattle.c_tree.specs.Tokens.{Lexeme, Name, Keyword, Number, Punctuator, Token}
use Rattle.c_tree.specs.LexicalScan.{Scanned, prefix, plain_scanned}

-- a token at a place
abbrev at : (place : ℕ) → Lexeme → Token
at place lexeme = record { place = record { 0 = place }; lexeme = lexeme }

-- the whole text is these tokens
abbrev all : List Token → Scanned
all tokens = record { tokens = tokens; fault = None }

-- after these tokens, a rule is broken at a place
abbrev up_to : List Token → r.Rule → (place : ℕ) → Scanned
up_to tokens broken place = record { tokens = tokens; fault = Some (record { rule = broken; place = record { 0 = place } }) }

-- ---- Blanks and comments

nothing : plain_scanned [] ≡ all []
unfolding plain_scanned prefix
nothing = refl

-- a space, a tab, a CR and an LF
blanks : plain_scanned (32 ∷ 9 ∷ 13 ∷ 10 ∷ codes "x") ≡ all (at 4 (Name (codes "x")) ∷ [])
unfolding plain_scanned prefix
blanks = refl

line_comment_at_the_end : plain_scanned (codes "a//b") ≡ all (at 0 (Name (codes "a")) ∷ [])
unfolding plain_scanned prefix
line_comment_at_the_end = refl

after_a_line_comment : plain_scanned (codes "//a*/" ++ 10 ∷ codes "b") ≡ all (at 6 (Name (codes "b")) ∷ [])
unfolding plain_scanned prefix
after_a_line_comment = refl

closed_comment : plain_scanned (codes "a/*/**/b") ≡ all (at 0 (Name (codes "a")) ∷ at 7 (Name (codes "b")) ∷ [])
unfolding plain_scanned prefix
closed_comment = refl

comment_without_end : plain_scanned (codes "a /*/ b") ≡ up_to (at 0 (Name (codes "a")) ∷ []) rule.Byte 2
unfolding plain_scanned prefix
comment_without_end = refl

-- ---- Words

reserved_word : plain_scanned (codes "int _int") ≡ all (at 0 (Keyword k.Int) ∷ at 4 (Name (codes "_int")) ∷ [])
unfolding plain_scanned prefix
reserved_word = refl

longer_than_a_reserved_word : plain_scanned (codes "do1") ≡ all (at 0 (Name (codes "do1")) ∷ [])
unfolding plain_scanned prefix
longer_than_a_reserved_word = refl

-- ---- Punctuators

three_pluses : plain_scanned (codes "+++") ≡ all (at 0 (Punctuator p.Increment) ∷ at 2 (Punctuator (p.Binary b.Add)) ∷ [])
unfolding plain_scanned prefix
three_pluses = refl

shifted : plain_scanned (codes "<<=") ≡ all (at 0 (Punctuator (p.Update b.ShiftLeft)) ∷ [])
unfolding plain_scanned prefix
shifted = refl

greater_and_equal : plain_scanned (codes ">>>==") ≡ all (at 0 (Punctuator (p.Binary b.ShiftRight)) ∷ at 2 (Punctuator (p.Binary b.GreaterEqual)) ∷
    at 4 (Punctuator p.Assign) ∷ [])
unfolding plain_scanned prefix
greater_and_equal = refl

dollar : plain_scanned (codes "a$b") ≡ up_to (at 0 (Name (codes "a")) ∷ []) rule.Byte 1
unfolding plain_scanned prefix
dollar = refl

-- ---- Numbers

zero_and_octal : plain_scanned (codes "0 017") ≡ all (at 0 (Number (typed Int (pos 0))) ∷ at 2 (Number (typed Int (pos 15))) ∷ [])
unfolding plain_scanned prefix
zero_and_octal = refl

no_octal : plain_scanned (codes "08") ≡ up_to [] rule.Number 0
unfolding plain_scanned prefix
no_octal = refl

both_suffixes : plain_scanned (codes "0x1FuL") ≡ all (at 0 (Number (typed UnsignedLong (pos 31))) ∷ [])
unfolding plain_scanned prefix
both_suffixes = refl

past_int : plain_scanned (codes "2147483648") ≡ all (at 0 (Number (typed Long (pos (2 ^ 31)))) ∷ [])
unfolding plain_scanned prefix
past_int = refl

past_int_in_hexadecimal : plain_scanned (codes "0X80000000") ≡ all (at 0 (Number (typed UnsignedInt (pos (2 ^ 31)))) ∷ [])
unfolding plain_scanned prefix
past_int_in_hexadecimal = refl

past_long : plain_scanned (codes "9223372036854775808") ≡ up_to [] rule.Number 0
unfolding plain_scanned prefix
past_long = refl

past_long_in_hexadecimal : plain_scanned (codes "0x8000000000000000") ≡ all (at 0 (Number (typed UnsignedLong (pos (2 ^ 63)))) ∷ [])
unfolding plain_scanned prefix
past_long_in_hexadecimal = refl

two_suffixes_lockstep : plain_scanned (codes "1uu") ≡ up_to [] rule.Number 0
unfolding plain_scanned prefix
two_suffixes_lockstep = refl

no_digit_in_hexadecimal : plain_scanned (codes "a 0x") ≡ up_to (at 0 (Name (codes "a")) ∷ []) rule.Number 2
unfolding plain_scanned prefix
no_digit_in_hexadecimal = refl
