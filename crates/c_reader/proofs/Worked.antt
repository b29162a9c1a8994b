-- Worked rows of the parser. Each token stands at the place of its number.
use Rattle.std.specs.Prelude.{◌≡◌, ℕ, ◌+◌, List, [], ◌∷◌, ◌++◌, Some, None, true, refl, pos}
use Rattle.ido_base.specs.declared.place.Place.{Place}
use Rattle.ido_ints.specs.TypedNumbers.{Typed, typed}
use Rattle.ido_ints.specs.declared.kinds.Kind.TheVariants as kind
use Rattle.ido_ints.specs.declared.operators.Unary.TheVariants as unary
use Rattle.ido_ints.specs.declared.operators.Binary.TheVariants as b
use Rattle.c_tree.specs.declared.language.Language.TheVariants.{Plain, Full}
use Rattle.c_tree.specs.Tokens.{Token, Lexeme, Name, Keyword, Number, Punctuator}
use Rattle.c_tree.specs.declared.token.Keyword.TheVariants as k
use Rattle.c_tree.specs.declared.token.Punctuator.TheVariants as p
use Rattle.c_tree.specs.Trees as t
use Rattle.c_reader.specs.links.ParserFunctions.{Read, Wrong, parse_expression, parse_statement, parse_program}

abbrev at : ℕ → Place
at n = record { 0 = n }

abbrev tokens_from : ℕ → List Lexeme → List Token
tokens_from n [] = []
tokens_from n (x ∷ xs) = record { place = at n; lexeme = x } ∷ tokens_from (n + 1) xs

abbrev number : ℕ → Typed
number n = typed kind.Int (pos n)

abbrev digit : ℕ → Lexeme
digit n = Number (number n)

abbrev letter : ℕ → Lexeme
letter n = Name (n ∷ [])

abbrev named : ℕ → ℕ → t.Name
named n place = record { text = n ∷ []; place = at place }

abbrev minus : Lexeme
minus = Punctuator (p.Binary b.Sub)

-- `1 - 2 - 3;` is `(1 - 2) - 3`
left_to_right :
    parse_expression 7 (tokens_from 0 (digit 1 ∷ minus ∷ digit 2 ∷ minus ∷ digit 3 ∷ Punctuator p.Semicolon ∷ [])) ≡
    Read (t.Binary b.Sub (t.Binary b.Sub (t.Number (at 0) (number 1)) (t.Number (at 2) (number 2))) (t.Number (at 4) (number 3)))
    (tokens_from 5 (Punctuator p.Semicolon ∷ []))
unfolding parse_expression
left_to_right = refl

-- `1 - 2 * 3 - 4`
stronger_first :
    parse_expression 8 (tokens_from 0 (digit 1 ∷ minus ∷ digit 2 ∷ Punctuator (p.Binary b.Mul) ∷ digit 3 ∷ minus ∷ digit 4 ∷ [])) ≡
    Read (t.Binary b.Sub (t.Binary b.Sub (t.Number (at 0) (number 1)) (t.Binary b.Mul (t.Number (at 2) (number 2)) (t.Number (at 4) (number 3))))
    (t.Number (at 6) (number 4))) []
unfolding parse_expression
stronger_first = refl

-- `a ? b : c ? d : e` is `a ? b : (c ? d : e)`
to_the_right :
    parse_expression 10 (tokens_from 0 (letter 97 ∷ Punctuator p.Question ∷ letter 98 ∷ Punctuator p.Colon ∷ letter 99 ∷ Punctuator p.Question ∷ letter 100 ∷
    Punctuator p.Colon ∷ letter 101 ∷ [])) ≡
    Read (t.Conditional (t.Named (named 97 0)) (t.Named (named 98 2)) (t.Conditional (t.Named (named 99 4)) (t.Named (named 100 6)) (t.Named (named 101 8)))) []
unfolding parse_expression
to_the_right = refl

-- `(short int) - a` is a cast
cast :
    parse_expression 8 (tokens_from 0 (Punctuator p.OpenParenthesis ∷ Keyword k.Short ∷ Keyword k.Int ∷ Punctuator p.CloseParenthesis ∷ minus ∷ letter 97 ∷ []))
    ≡
    Read (t.Cast (at 0) kind.Short (t.Unary (at 4) unary.Minus (t.Named (named 97 5)))) []
unfolding parse_expression
cast = refl

-- `(a) - b` is none
parenthesised :
    parse_expression 8 (tokens_from 0 (Punctuator p.OpenParenthesis ∷ letter 97 ∷ Punctuator p.CloseParenthesis ∷ minus ∷ letter 98 ∷ [])) ≡
    Read (t.Binary b.Sub (t.Parenthesised (at 0) (t.Named (named 97 1))) (t.Named (named 98 4))) []
unfolding parse_expression
parenthesised = refl

-- `if (a) { if (b) {} else ;`: after `else` the `;` is wrong
else_needs_block :
    parse_statement Plain 14 (tokens_from 0 (Keyword k.If ∷ Punctuator p.OpenParenthesis ∷ letter 97 ∷ Punctuator p.CloseParenthesis ∷ Punctuator p.OpenBrace ∷
    Keyword k.If ∷ Punctuator p.OpenParenthesis ∷ letter 98 ∷ Punctuator p.CloseParenthesis ∷ Punctuator p.OpenBrace ∷ Punctuator p.CloseBrace ∷
    Keyword k.Else ∷ Punctuator p.Semicolon ∷ [])) ≡
    Wrong (tokens_from 12 (Punctuator p.Semicolon ∷ []))
unfolding parse_expression parse_statement
else_needs_block = refl

-- `if (a) {} else if (b) {} else {}` has two arms and a last block
else_if :
    parse_statement Plain 17 (tokens_from 0 (Keyword k.If ∷ Punctuator p.OpenParenthesis ∷ letter 97 ∷ Punctuator p.CloseParenthesis ∷ Punctuator p.OpenBrace ∷
    Punctuator p.CloseBrace ∷ Keyword k.Else ∷ Keyword k.If ∷ Punctuator p.OpenParenthesis ∷ letter 98 ∷ Punctuator p.CloseParenthesis ∷
    Punctuator p.OpenBrace ∷ Punctuator p.CloseBrace ∷ Keyword k.Else ∷ Punctuator p.OpenBrace ∷ Punctuator p.CloseBrace ∷ [])) ≡
    Read (t.If (at 0) (t.arm_and (t.Named (named 97 2)) (t.Braced (at 4) t.no_statement (at 5))
    (t.arm_and (t.Named (named 98 9)) (t.Braced (at 11) t.no_statement (at 12)) t.no_arm)) (t.Else (t.Braced (at 14) t.no_statement (at 15)))) []
unfolding parse_expression parse_statement
else_if = refl

-- `x = f (;`: the token after the parenthesis is wrong
wrong_argument : parse_statement Plain 6
    (tokens_from 0 (letter 120 ∷ Punctuator p.Assign ∷ letter 102 ∷ Punctuator p.OpenParenthesis ∷ Punctuator p.Semicolon ∷ []))
    ≡ Wrong (tokens_from 4 (Punctuator p.Semicolon ∷ []))
unfolding parse_expression parse_statement
wrong_argument = refl

-- `x = f() + 1;`: a call is the whole right side
call_alone :
    parse_statement Plain 9 (tokens_from 0 (letter 120 ∷ Punctuator p.Assign ∷ letter 102 ∷ Punctuator p.OpenParenthesis ∷ Punctuator p.CloseParenthesis ∷
    Punctuator (p.Binary b.Add) ∷ digit 1 ∷ Punctuator p.Semicolon ∷ [])) ≡
    Wrong (tokens_from 5 (Punctuator (p.Binary b.Add) ∷ digit 1 ∷ Punctuator p.Semicolon ∷ []))
unfolding parse_expression parse_statement
call_alone = refl

-- `mutex m; thread t { lock(m); }`
small_program :
    parse_program Plain (tokens_from 0 (Keyword k.Mutex ∷ letter 109 ∷ Punctuator p.Semicolon ∷ Keyword k.Thread ∷ letter 116 ∷ Punctuator p.OpenBrace ∷
    Keyword k.Lock ∷ Punctuator p.OpenParenthesis ∷ letter 109 ∷ Punctuator p.CloseParenthesis ∷ Punctuator p.Semicolon ∷ Punctuator p.CloseBrace ∷ [])) ≡
    Read (t.MutexItem (named 109 1) None ∷ t.ThreadItem (record {
      name = named 116 4;
      block = t.Braced (at 5) (t.statement_and (t.Lock (at 6) (named 109 8) None) t.no_statement) (at 11);
    }) ∷ []) []
unfolding parse_expression parse_statement parse_program
small_program = refl

-- ---- What only the full language has

abbrev brackets_of : List Lexeme → List Lexeme → List Lexeme
brackets_of inside after = Punctuator p.OpenBracket ∷ (inside ++ Punctuator p.CloseBracket ∷ after)

-- `mutex m[4];`
abbrev mutexes : List Token
mutexes = tokens_from 0 (Keyword k.Mutex ∷ letter 109 ∷ brackets_of (digit 4 ∷ []) (Punctuator p.Semicolon ∷ []))

array_read : parse_program Full mutexes ≡ Read (t.MutexItem (named 109 1) (Some (record { place = at 3; value = number 4 })) ∷ []) []
unfolding parse_expression parse_statement parse_program
array_read = refl

array_wrong : parse_program Plain mutexes ≡ Wrong (tokens_from 2 (brackets_of (digit 4 ∷ []) (Punctuator p.Semicolon ∷ [])))
unfolding parse_expression parse_statement parse_program
array_wrong = refl

-- `lock(m[i]);`
abbrev locked : List Token
locked = tokens_from 0 (Keyword k.Lock ∷ Punctuator p.OpenParenthesis ∷ letter 109 ∷ brackets_of (letter 105 ∷ [])
    (Punctuator p.CloseParenthesis ∷ Punctuator p.Semicolon ∷ []))

key_read : parse_statement Full 9 locked ≡ Read (t.Lock (at 0) (named 109 2) (Some (t.Named (named 105 4)))) []
unfolding parse_expression parse_statement
key_read = refl

key_wrong : parse_statement Plain 9 locked
    ≡ Wrong (tokens_from 3 (brackets_of (letter 105 ∷ []) (Punctuator p.CloseParenthesis ∷ Punctuator p.Semicolon ∷ [])))
unfolding parse_expression parse_statement
key_wrong = refl

-- a key is needed between brackets
no_key : parse_statement Full 8 (tokens_from 0 (Keyword k.Lock ∷ Punctuator p.OpenParenthesis ∷ letter 109 ∷ brackets_of []
    (Punctuator p.CloseParenthesis ∷ Punctuator p.Semicolon ∷ []))) ≡
    Wrong (tokens_from 4 (Punctuator p.CloseBracket ∷ Punctuator p.CloseParenthesis ∷ Punctuator p.Semicolon ∷ []))
unfolding parse_expression parse_statement
no_key = refl

-- `persistent(m[]) int a[4];`
abbrev guarded : List Token
guarded = tokens_from 0 (Keyword k.Persistent ∷ Punctuator p.OpenParenthesis ∷ letter 109 ∷ brackets_of []
    (Punctuator p.CloseParenthesis ∷ Keyword k.Int ∷ letter 97 ∷ brackets_of (digit 4 ∷ []) (Punctuator p.Semicolon ∷ [])))

guard_read : parse_program Full guarded ≡ Read (t.PersistentItem (record {
  guard = record { mutex = named 109 2; each = true };
  type_name = t.OfKind kind.Int;
  name = named 97 7;
  length = Some (record { place = at 9; value = number 4 });
  initialiser = None;
}) ∷ []) []
unfolding parse_expression parse_statement parse_program
guard_read = refl

guard_wrong : parse_program Plain guarded ≡ Wrong (tokens_from 3 (brackets_of []
    (Punctuator p.CloseParenthesis ∷ Keyword k.Int ∷ letter 97 ∷ brackets_of (digit 4 ∷ []) (Punctuator p.Semicolon ∷ []))))
unfolding parse_expression parse_statement parse_program
guard_wrong = refl

abbrev star : Lexeme
star = Punctuator p.Star

-- `*a = &b[*c];`
followed_read : parse_statement Full 12 (tokens_from 0 (star ∷ letter 97 ∷ Punctuator p.Assign ∷ Punctuator p.Ampersand ∷ letter 98 ∷
    brackets_of (star ∷ letter 99 ∷ []) (Punctuator p.Semicolon ∷ []))) ≡
    Read (t.Assign (record {
      place = at 0;
      target = t.Followed (at 0) (named 97 1);
      change = t.Set (t.Address (at 3) (named 98 4) (t.Referent (at 6) (named 99 7)));
    })) []
unfolding parse_expression parse_statement
followed_read = refl

-- `a * *b` has an operator, and then an element of a reference
multiplied_read : parse_expression 5 (tokens_from 0 (letter 97 ∷ star ∷ star ∷ letter 98 ∷ [])) ≡
    Read (t.Binary b.Mul (t.Named (named 97 0)) (t.Referent (at 2) (named 98 3))) []
unfolding parse_expression
multiplied_read = refl

-- the plain language's `*` begins no operand
plain_star : parse_expression 5 (tokens_from 0 (Punctuator (p.Binary b.Mul) ∷ letter 98 ∷ []))
    ≡ Wrong (tokens_from 0 (Punctuator (p.Binary b.Mul) ∷ letter 98 ∷ []))
unfolding parse_expression
plain_star = refl

-- `ref(a) b;`
declared_read : parse_statement Full 9 (tokens_from 0 (Keyword k.Ref ∷ Punctuator p.OpenParenthesis ∷ letter 97 ∷ Punctuator p.CloseParenthesis ∷ letter 98 ∷
    Punctuator p.Semicolon ∷ [])) ≡
    Read (t.Declare (record { place = at 0; type_name = t.RefTo (named 97 2); name = named 98 4; initial = t.Absent })) []
unfolding parse_expression parse_statement
declared_read = refl

-- only a name is followed, and only an element has an address
number_followed : parse_expression 5 (tokens_from 0 (star ∷ digit 1 ∷ [])) ≡ Wrong (tokens_from 1 (digit 1 ∷ []))
unfolding parse_expression
number_followed = refl

scalar_address : parse_expression 5 (tokens_from 0 (Punctuator p.Ampersand ∷ letter 97 ∷ minus ∷ [])) ≡ Wrong (tokens_from 2 (minus ∷ []))
unfolding parse_expression
scalar_address = refl

-- `mutex ref;`, where `ref` is reserved
reserved_wrong : parse_program Full (tokens_from 0 (Keyword k.Mutex ∷ Keyword k.Ref ∷ Punctuator p.Semicolon ∷ [])) ≡
    Wrong (tokens_from 1 (Keyword k.Ref ∷ Punctuator p.Semicolon ∷ []))
unfolding parse_expression parse_statement parse_program
reserved_wrong = refl

-- an empty text ends too early
no_program : parse_program Plain [] ≡ Wrong []
unfolding parse_expression parse_statement parse_program
no_program = refl
