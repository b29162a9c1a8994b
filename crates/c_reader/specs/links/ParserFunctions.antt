-- The parser as a function: what is read at the front of a list of tokens, or at which token it is wrong.
use Rattle.std.specs.Prelude.{ℕ, zero, suc, ◌+◌, ◌-◌, List, [], ◌∷◌, length, Option, Some, None, Bool, true, false, ◌||◌, nat_eq}
use Rattle.std.specs.Option.{option_map}
use Rattle.ido_base.specs.declared.place.Place.{Place}
use Rattle.ido_ints.specs.TypedNumbers.{Typed}
use Rattle.ido_ints.specs.declared.kinds.Kind.{Kind}
use Rattle.ido_ints.specs.declared.kinds.Kind.TheVariants as kind
use Rattle.ido_ints.specs.declared.operators.Unary.{Unary}
use Rattle.ido_ints.specs.declared.operators.Unary.TheVariants as unary
use Rattle.ido_ints.specs.declared.operators.Binary.{Binary}
use Rattle.ido_ints.specs.declared.operators.Binary.TheVariants as binary
use Rattle.c_tree.specs.declared.language.Language.{Language}
use Rattle.c_tree.specs.declared.language.Language.TheVariants.{Plain, Full}
use Rattle.c_tree.specs.Tokens.{Token, Lexeme, Name, Keyword, Number, Punctuator}
use Rattle.c_tree.specs.declared.token.Keyword as kw
use Rattle.c_tree.specs.declared.token.Keyword.TheVariants as k
use Rattle.c_tree.specs.declared.token.Punctuator as pn
use Rattle.c_tree.specs.declared.token.Punctuator.TheVariants as p
use Rattle.c_tree.specs.Trees as t
use Rattle.c_tree.specs.Grammar.{precedence}
use Rattle.c_tree.specs.Elaboration.{target_place}

-- ---- Parsers

-- a tree and the tokens after it; or the tokens from the wrong one on, none where they end too early
pub data Parsed (A : Type 0) : Type 0 where
  Read : A → (rest : List Token) → Parsed A
  Wrong : (rest : List Token) → Parsed A

-- what reads the front of a list of tokens
abbrev pub Parser : Type 0 → Type 0
Parser A = List Token → Parsed A

-- reads nothing
abbrev pub give : {A : Type 0} → A → Parser A
give x ts = Read x ts

-- the next token is wrong
abbrev pub wrong : {A : Type 0} → Parser A
wrong ts = Wrong ts

-- what follows on an answer
abbrev pub follow : {A B : Type 0} → Parsed A → (A → Parser B) → Parsed B
follow (Read x rest) next = next x rest
follow (Wrong rest) next = Wrong rest

infixr 5 ◌>>=◌
-- one parser and then another, which may depend on what the first read
abbrev pub ◌>>=◌ : {A B : Type 0} → Parser A → (A → Parser B) → Parser B
(first >>= next) ts = follow (first ts) next

infixr 5 ◌>>◌
-- one parser and then another
abbrev pub ◌>>◌ : {A B : Type 0} → Parser A → Parser B → Parser B
(first >> next) ts = follow (first ts) (λ x. next)

-- the lexeme of the next token
abbrev pub head_of : List Token → Option Lexeme
head_of [] = None
head_of (t ∷ ts) = Some t.lexeme

-- a parser that is chosen by the next token
abbrev pub by_head : {A : Type 0} → (Option Lexeme → Parser A) → Parser A
by_head branch ts = branch (head_of ts) ts

-- a token that the test finds something in
abbrev pub taking : {A : Type 0} → (Token → Option A) → Parser A
taking found [] = Wrong []
taking found (t ∷ ts) = elim (found t) [ Some x ↦ Read x ts | None ↦ Wrong (t ∷ ts) ]

-- the one parser where a test of the next token says so, else the other
abbrev pub where_head : {A : Type 0} → (Option Lexeme → Bool) → (then otherwise : Parser A) → Parser A
where_head test then otherwise ts = elim (test (head_of ts)) [ true ↦ then ts | false ↦ otherwise ts ]

-- ---- Tests of tokens

-- a number of its own for each operator
abbrev pub number_of_operator : Binary → ℕ
number_of_operator binary.Mul = 0
number_of_operator binary.Div = 1
number_of_operator binary.Rem = 2
number_of_operator binary.Add = 3
number_of_operator binary.Sub = 4
number_of_operator binary.ShiftLeft = 5
number_of_operator binary.ShiftRight = 6
number_of_operator binary.Less = 7
number_of_operator binary.Greater = 8
number_of_operator binary.LessEqual = 9
number_of_operator binary.GreaterEqual = 10
number_of_operator binary.Equal = 11
number_of_operator binary.NotEqual = 12
number_of_operator binary.And = 13
number_of_operator binary.Xor = 14
number_of_operator binary.Or = 15
number_of_operator binary.LogicalAnd = 16
number_of_operator binary.LogicalOr = 17

-- a number of its own for each punctuator
abbrev pub number_of_mark : pn.Punctuator → ℕ
number_of_mark p.OpenParenthesis = 0
number_of_mark p.CloseParenthesis = 1
number_of_mark p.OpenBracket = 2
number_of_mark p.CloseBracket = 3
number_of_mark p.OpenBrace = 4
number_of_mark p.CloseBrace = 5
number_of_mark p.Semicolon = 6
number_of_mark p.Comma = 7
number_of_mark p.Question = 8
number_of_mark p.Colon = 9
number_of_mark p.Complement = 10
number_of_mark p.Not = 11
number_of_mark p.Assign = 12
number_of_mark p.Increment = 13
number_of_mark p.Decrement = 14
number_of_mark p.Star = 15
number_of_mark p.Ampersand = 16
number_of_mark (p.Binary x) = 20 + number_of_operator x
number_of_mark (p.Update x) = 40 + number_of_operator x

-- a number of its own for each reserved word
abbrev pub number_of_word : kw.Keyword → ℕ
number_of_word k.Mutex = 0
number_of_word k.Persistent = 1
number_of_word k.Thread = 2
number_of_word k.Lock = 3
number_of_word k.Unlock = 4
number_of_word k.Void = 5
number_of_word k.Char = 6
number_of_word k.Short = 7
number_of_word k.Int = 8
number_of_word k.Long = 9
number_of_word k.Signed = 10
number_of_word k.Unsigned = 11
number_of_word k.If = 12
number_of_word k.Else = 13
number_of_word k.While = 14
number_of_word k.Do = 15
number_of_word k.For = 16
number_of_word k.Return = 17
number_of_word k.Ref = 18
number_of_word k.Null = 19

-- a lexeme is this punctuator
abbrev pub is_mark : pn.Punctuator → Lexeme → Bool
is_mark x (Punctuator y) = nat_eq (number_of_mark x) (number_of_mark y)
is_mark x (Name bytes) = false
is_mark x (Keyword y) = false
is_mark x (Number value) = false

-- a lexeme is this reserved word
abbrev pub is_word : kw.Keyword → Lexeme → Bool
is_word x (Keyword y) = nat_eq (number_of_word x) (number_of_word y)
is_word x (Name bytes) = false
is_word x (Number value) = false
is_word x (Punctuator y) = false

-- a test of the next token's lexeme: false at the end
abbrev pub head_is : (Lexeme → Bool) → Option Lexeme → Bool
head_is test None = false
head_is test (Some x) = test x

-- a token begins a kind
abbrev pub begins_kind : Lexeme → Bool
begins_kind x = is_word k.Char x || is_word k.Short x || is_word k.Int x || is_word k.Long x || is_word k.Signed x || is_word k.Unsigned x

-- a token begins a type
abbrev pub begins_type : Lexeme → Bool
begins_type x = begins_kind x || is_word k.Ref x

-- a token begins a statement
abbrev pub begins_statement : Lexeme → Bool
begins_statement (Name bytes) = true
begins_statement (Number value) = false
begins_statement (Keyword x) =
    begins_type (Keyword x) || is_word k.If (Keyword x) || is_word k.While (Keyword x) || is_word k.Do (Keyword x) || is_word k.For (Keyword x) ||
    is_word k.Lock (Keyword x) || is_word k.Unlock (Keyword x)
begins_statement (Punctuator x) =
    is_mark p.OpenBrace (Punctuator x) || is_mark p.Semicolon (Punctuator x) || is_mark p.Increment (Punctuator x) || is_mark p.Decrement (Punctuator x) ||
    is_mark p.Star (Punctuator x)

-- the operator with two operands that a token is
abbrev pub operator_of : Lexeme → Option Binary
operator_of (Punctuator (p.Binary x)) = Some x
operator_of (Punctuator p.Star) = Some binary.Mul
operator_of (Punctuator p.Ampersand) = Some binary.And
operator_of _ = None

-- the operator with two operands that a lexeme is, where it has this precedence
abbrev pub operator_at : (precedence : ℕ) → Lexeme → Option Binary
operator_at n x = elim (operator_of x) [
  | Some operator ↦ elim (nat_eq (precedence operator) n) [ true ↦ Some operator | false ↦ None ]
  | None ↦ None
]

-- the operator with two operands that a token is, where it has this precedence
abbrev pub operator_in : (precedence : ℕ) → Token → Option Binary
operator_in n t = operator_at n t.lexeme

-- a lexeme is an operator with two operands of this precedence
abbrev pub is_operator_at : (precedence : ℕ) → Lexeme → Bool
is_operator_at n x = elim (operator_at n x) [ Some operator ↦ true | None ↦ false ]

-- the operator with one operand that a token is
abbrev pub unary_of : Lexeme → Option Unary
unary_of (Punctuator (p.Binary binary.Add)) = Some unary.Plus
unary_of (Punctuator (p.Binary binary.Sub)) = Some unary.Minus
unary_of (Punctuator p.Complement) = Some unary.Complement
unary_of (Punctuator p.Not) = Some unary.Not
unary_of _ = None

-- ---- Tokens

-- the token that passes the test: its place
abbrev pub parse_lexeme : (Lexeme → Bool) → Parser Place
parse_lexeme test = taking (λ t. elim (test t.lexeme) [ true ↦ Some t.place | false ↦ None ])

-- the token that is this punctuator: its place
abbrev pub parse_mark : pn.Punctuator → Parser Place
parse_mark x = parse_lexeme (is_mark x)

-- the token that is this reserved word: its place
abbrev pub parse_word : kw.Keyword → Parser Place
parse_word x = parse_lexeme (is_word x)

-- the name that a token is
abbrev pub name_in : Token → Option t.Name
name_in t = elim t.lexeme [ Name bytes ↦ Some (record { text = bytes; place = t.place }) | _ ↦ None ]

-- a name
abbrev pub parse_name : Parser t.Name
parse_name = taking name_in

-- the place and the value of the number that a token is
abbrev pub number_in : Token → Option (Place × Typed)
number_in t = elim t.lexeme [ Number value ↦ Some (t.place, value) | _ ↦ None ]

-- a number: its place and its value
abbrev pub parse_number : Parser (Place × Typed)
parse_number = taking number_in

-- the place of the next token, which stays
abbrev pub here : Parser Place
here [] = Wrong []
here (t ∷ ts) = Read t.place (t ∷ ts)

-- ---- Parts in a row

-- the part, where the next token passes the test
abbrev pub parse_maybe : {A : Type 0} → (Lexeme → Bool) → Parser A → Parser (Option A)
parse_maybe test part = where_head (head_is test) (do x ← part; give (Some x)) (give None)

-- the part, unless the next token passes the test
abbrev pub parse_unless : {A : Type 0} → (Lexeme → Bool) → Parser A → Parser (Option A)
parse_unless test part = where_head (head_is test) (give None) (do x ← part; give (Some x))

-- a comma and a thing, any number of times
abbrev pub parse_more_of : {A : Type 0} → (fuel : ℕ) → Parser A → Parser (List A)
parse_more_of zero part = wrong
parse_more_of (suc fuel) part = where_head (head_is (is_mark p.Comma)) (do parse_mark p.Comma; x ← part; xs ← parse_more_of fuel part; give (x ∷ xs)) (give [])

-- things with commas between them, one at least
abbrev pub parse_some_of : {A : Type 0} → (fuel : ℕ) → Parser A → Parser (List A)
parse_some_of fuel part = do x ← part; xs ← parse_more_of fuel part; give (x ∷ xs)

-- ---- Types

-- a word `int` that may stand there
abbrev pub parse_int : Parser (Option Place)
parse_int = parse_maybe (is_word k.Int) (parse_word k.Int)

-- a kind, by the word after `signed`
abbrev pub signed_by : Option Lexeme → Parser Kind
signed_by (Some (Keyword k.Char)) = do parse_word k.Char; give kind.SignedChar
signed_by (Some (Keyword k.Short)) = do parse_word k.Short; parse_int; give kind.Short
signed_by (Some (Keyword k.Int)) = do parse_word k.Int; give kind.Int
signed_by (Some (Keyword k.Long)) = do parse_word k.Long; parse_int; give kind.Long
signed_by _ = give kind.Int

-- a kind, by the word after `unsigned`
abbrev pub unsigned_by : Option Lexeme → Parser Kind
unsigned_by (Some (Keyword k.Char)) = do parse_word k.Char; give kind.UnsignedChar
unsigned_by (Some (Keyword k.Short)) = do parse_word k.Short; parse_int; give kind.UnsignedShort
unsigned_by (Some (Keyword k.Int)) = do parse_word k.Int; give kind.UnsignedInt
unsigned_by (Some (Keyword k.Long)) = do parse_word k.Long; parse_int; give kind.UnsignedLong
unsigned_by _ = give kind.UnsignedInt

-- a kind, by the first word of its type
abbrev pub type_by : Option Lexeme → Parser Kind
type_by (Some (Keyword k.Char)) = do parse_word k.Char; give kind.Char
type_by (Some (Keyword k.Short)) = do parse_word k.Short; parse_int; give kind.Short
type_by (Some (Keyword k.Int)) = do parse_word k.Int; give kind.Int
type_by (Some (Keyword k.Long)) = do parse_word k.Long; parse_int; give kind.Long
type_by (Some (Keyword k.Signed)) = do parse_word k.Signed; by_head signed_by
type_by (Some (Keyword k.Unsigned)) = do parse_word k.Unsigned; by_head unsigned_by
type_by _ = wrong

-- a kind
abbrev pub parse_type : Parser Kind
parse_type = by_head type_by

-- a type, by its first token
abbrev pub type_name_by : Option Lexeme → Parser t.TypeName
type_name_by (Some (Keyword k.Ref)) =
    do parse_word k.Ref; parse_mark p.OpenParenthesis; x ← parse_name; parse_mark p.CloseParenthesis; give (t.RefTo x)
type_name_by _ = do x ← parse_type; give (t.OfKind x)

-- a type
abbrev pub parse_type_name : Parser t.TypeName
parse_type_name = by_head type_name_by

-- ---- Expressions

-- the index after a name, where there is one
abbrev pub parse_index : (expression : Parser t.Expression) → Parser (Option t.Expression)
parse_index expression = parse_maybe (is_mark p.OpenBracket) (do parse_mark p.OpenBracket; x ← expression; parse_mark p.CloseBracket; give x)

-- a name with or without an index
abbrev pub element : t.Name → Option t.Expression → t.Expression
element x None = t.Named x
element x (Some index) = t.Element x index

-- the operand that begins with this name, read from after the name
abbrev pub operand_after_name : (expression : Parser t.Expression) → t.Name → Parser t.Expression
operand_after_name expression x = do i ← parse_index expression; give (element x i)

-- a cast or an expression in parentheses, after the opening one
abbrev pub operand_after_opening : (operand expression : Parser t.Expression) → (opening : Place) → Parser t.Expression
operand_after_opening operand expression opening =
    where_head (head_is begins_kind)
    (do x ← parse_type; parse_mark p.CloseParenthesis; y ← operand; give (t.Cast opening x y))
    (do x ← expression; parse_mark p.CloseParenthesis; give (t.Parenthesised opening x))

-- the place and the operator with one operand that a token is
abbrev pub unary_in : Token → Option (Place × Unary)
unary_in t = option_map (λ x. (t.place, x)) (unary_of t.lexeme)

-- the address of an element, after the name of its array
abbrev pub address_after_name : (expression : Parser t.Expression) → (place : Place) → t.Name → Parser t.Expression
address_after_name expression place x = do parse_mark p.OpenBracket; y ← expression; parse_mark p.CloseBracket; give (t.Address place x y)

-- an operand, by its first token
abbrev pub operand_by : (operand expression : Parser t.Expression) → Option Lexeme → Parser t.Expression
operand_by operand expression (Some (Number value)) = do x ← parse_number; give (t.Number x.0 x.1)
operand_by operand expression (Some (Name bytes)) = do x ← parse_name; operand_after_name expression x
operand_by operand expression (Some (Punctuator p.OpenParenthesis)) =
    do opening ← parse_mark p.OpenParenthesis; operand_after_opening operand expression opening
operand_by operand expression (Some (Keyword k.Null)) = do place ← parse_word k.Null; give (t.Null place)
operand_by operand expression (Some (Punctuator p.Star)) = do place ← parse_mark p.Star; x ← parse_name; give (t.Referent place x)
operand_by operand expression (Some (Punctuator p.Ampersand)) =
    do place ← parse_mark p.Ampersand; x ← parse_name; address_after_name expression place x
operand_by operand expression _ = do x ← taking unary_in; y ← operand; give (t.Unary x.0 x.1 y)

-- an operand: the parsers of operands and expressions serve inside it, after its first token
abbrev pub operand_over : (operand expression : Parser t.Expression) → Parser t.Expression
operand_over operand expression = by_head (operand_by operand expression)

-- the operators of this precedence that follow on a left operand; the parser is that of their right operands
abbrev pub operators_at : (precedence : ℕ) → (right : Parser t.Expression) → (fuel : ℕ) → (left : t.Expression) → Parser t.Expression
operators_at n right zero left = wrong
operators_at n right (suc fuel) left =
    where_head (head_is (is_operator_at n)) (do o ← taking (operator_in n); y ← right; operators_at n right fuel (t.Binary o left y)) (give left)

-- the operators of the so many greatest precedences that follow on an operand: 0 for none, 10 for all
abbrev pub operators_after : (operand : Parser t.Expression) → (fuel : ℕ) → (levels : ℕ) → (left : t.Expression) → Parser t.Expression
operators_after operand fuel zero left = give left
operators_after operand fuel (suc levels) left = do
  x ← operators_after operand fuel levels left
  operators_at (10 - levels) (do y ← operand; operators_after operand fuel levels y) fuel x

-- `?` and what follows, after a condition
abbrev pub conditional_after : (expression : Parser t.Expression) → (condition : t.Expression) → Parser t.Expression
conditional_after expression x = where_head (head_is (is_mark p.Question))
    (do parse_mark p.Question; y ← expression; parse_mark p.Colon; z ← expression; give (t.Conditional x y z))
    (give x)

-- the expression that begins with this operand, read from after the operand
abbrev pub expression_after : (operand expression : Parser t.Expression) → (fuel : ℕ) → (left : t.Expression) → Parser t.Expression
expression_after operand expression fuel left = do x ← operators_after operand fuel 10 left; conditional_after expression x

unfoldable mutual
  -- a number, a name, an element, an expression in parentheses, or an operator or a cast before an operand
  pub parse_operand : (fuel : ℕ) → Parser t.Expression
  parse_operand zero ts = Wrong ts
  parse_operand (suc fuel) ts = operand_over (parse_operand fuel) (parse_expression fuel) ts

  -- an expression
  pub parse_expression : (fuel : ℕ) → Parser t.Expression
  parse_expression zero ts = Wrong ts
  parse_expression (suc fuel) ts =
      (do
        x ← operand_over (parse_operand fuel) (parse_expression fuel)
        expression_after (operand_over (parse_operand fuel) (parse_expression fuel)) (parse_expression fuel) (suc fuel) x) ts

-- the expression that begins with this name, read from after the name
abbrev pub expression_after_name : (fuel : ℕ) → t.Name → Parser t.Expression
expression_after_name fuel x = do y ← operand_after_name (parse_expression fuel) x; expression_after (parse_operand fuel) (parse_expression fuel) fuel y

-- ---- Assignments and calls

-- the target that begins with this name, read from after the name
abbrev pub target_after_name : (fuel : ℕ) → t.Name → Parser t.Lvalue
target_after_name fuel x = do i ← parse_index (parse_expression fuel); give (t.Target x i)

-- the element of a reference
abbrev pub parse_followed : Parser t.Lvalue
parse_followed = do place ← parse_mark p.Star; x ← parse_name; give (t.Followed place x)

-- what is assigned
abbrev pub parse_target : (fuel : ℕ) → Parser t.Lvalue
parse_target fuel = where_head (head_is (is_mark p.Star)) parse_followed (do x ← parse_name; target_after_name fuel x)

-- the operator of an update
abbrev pub update_in : Token → Option Binary
update_in t = elim t.lexeme [ Punctuator (p.Update x) ↦ Some x | _ ↦ None ]

-- a change of a target, by the first token after the target
abbrev pub change_by : (fuel : ℕ) → Option Lexeme → Parser t.Change
change_by fuel (Some (Punctuator p.Assign)) = do parse_mark p.Assign; x ← parse_expression fuel; give (t.Set x)
change_by fuel (Some (Punctuator p.Increment)) = do parse_mark p.Increment; give t.Increment
change_by fuel (Some (Punctuator p.Decrement)) = do parse_mark p.Decrement; give t.Decrement
change_by fuel _ = do o ← taking update_in; x ← parse_expression fuel; give (t.Update o x)

-- what stands after a target
abbrev pub parse_change : (fuel : ℕ) → Parser t.Change
parse_change fuel = by_head (change_by fuel)

-- an assignment, by its first token
abbrev pub assignment_by : (fuel : ℕ) → Option Lexeme → Parser t.Assignment
assignment_by fuel (Some (Punctuator p.Increment)) =
    do place ← parse_mark p.Increment; x ← parse_target fuel; give (record { place = place; target = x; change = t.Increment })
assignment_by fuel (Some (Punctuator p.Decrement)) =
    do place ← parse_mark p.Decrement; x ← parse_target fuel; give (record { place = place; target = x; change = t.Decrement })
assignment_by fuel _ = do x ← parse_target fuel; y ← parse_change fuel; give (record { place = target_place x; target = x; change = y })

-- an assignment, which makes no call
abbrev pub parse_assignment : (fuel : ℕ) → Parser t.Assignment
parse_assignment fuel = by_head (assignment_by fuel)

-- the arguments of a call and their closing parenthesis, after the opening one
abbrev pub parse_arguments : (fuel : ℕ) → Parser (List t.Expression)
parse_arguments fuel = do
  xs ← where_head (head_is (is_mark p.CloseParenthesis)) (give []) (parse_some_of fuel (parse_expression fuel))
  parse_mark p.CloseParenthesis
  give xs

-- the call of this name, read from after the name
abbrev pub call_after : (fuel : ℕ) → t.Name → Parser t.Call
call_after fuel x = do parse_mark p.OpenParenthesis; xs ← parse_arguments fuel; give (record { function = x; arguments = xs })

-- a call of this name, or the expression that begins with it, read from after the name
abbrev pub right_after_name : (fuel : ℕ) → t.Name → Parser t.Initial
right_after_name fuel x =
    where_head (head_is (is_mark p.OpenParenthesis)) (do c ← call_after fuel x; give (t.Result c)) (do y ← expression_after_name fuel x; give (t.Value y))

-- a right side, by its first token
abbrev pub right_by : (fuel : ℕ) → Option Lexeme → Parser t.Initial
right_by fuel (Some (Name bytes)) = do x ← parse_name; right_after_name fuel x
right_by fuel _ = do x ← parse_expression fuel; give (t.Value x)

-- an expression or a call
abbrev pub parse_right : (fuel : ℕ) → Parser t.Initial
parse_right fuel = by_head (right_by fuel)

-- ---- Statements without blocks

-- what a local begins with, where it is written
abbrev pub parse_initial : (fuel : ℕ) → Parser t.Initial
parse_initial fuel = where_head (head_is (is_mark p.Assign)) (do parse_mark p.Assign; parse_right fuel) (give t.Absent)

-- what a local begins with, where it is written: an expression, and not a call
abbrev pub parse_initial_of_first : (fuel : ℕ) → Parser t.Initial
parse_initial_of_first fuel = where_head (head_is (is_mark p.Assign)) (do parse_mark p.Assign; x ← parse_expression fuel; give (t.Value x)) (give t.Absent)

-- a declaration: the parser is that of what its local begins with
abbrev pub declaration_over : (initial : Parser t.Initial) → Parser t.Declaration
declaration_over initial =
    do place ← here; x ← parse_type_name; n ← parse_name; y ← initial; give (record { place = place; type_name = x; name = n; initial = y })

-- the first part of a `for`, before its semicolon
abbrev pub parse_first : (fuel : ℕ) → Parser t.First
parse_first fuel =
    where_head (head_is (is_mark p.Semicolon)) (give t.NoFirst)
    (where_head (head_is begins_type)
    (do x ← declaration_over (parse_initial_of_first fuel); give (t.Declared x))
    (do x ← parse_assignment fuel; give (t.Assigned x)))

-- `(condition)`
abbrev pub parse_condition : (fuel : ℕ) → Parser t.Expression
parse_condition fuel = do parse_mark p.OpenParenthesis; x ← parse_expression fuel; parse_mark p.CloseParenthesis; give x

-- the key of a lock's name, where it has one
abbrev pub parse_key : Language → (fuel : ℕ) → Parser (Option t.Expression)
parse_key Plain fuel = give None
parse_key Full fuel = parse_index (parse_expression fuel)

-- the name of a lock, in parentheses
abbrev pub parse_lock_name : Language → (fuel : ℕ) → Parser (t.Name × Option t.Expression)
parse_lock_name l fuel = do parse_mark p.OpenParenthesis; x ← parse_name; y ← parse_key l fuel; parse_mark p.CloseParenthesis; give (x, y)

-- an assignment of the right side to the target
abbrev pub assigned_from : t.Lvalue → t.Initial → t.Statement
assigned_from x (t.Value y) = t.Assign (record { place = target_place x; target = x; change = t.Set y })
assigned_from x (t.Result c) = t.AssignResult x c
assigned_from x t.Absent = t.Empty (target_place x)

-- what stands after the target of a statement, before its semicolon
abbrev pub statement_after_target : (fuel : ℕ) → t.Lvalue → Parser t.Statement
statement_after_target fuel x = where_head (head_is (is_mark p.Assign))
    (do parse_mark p.Assign; y ← parse_right fuel; give (assigned_from x y))
    (do y ← parse_change fuel; give (t.Assign (record { place = target_place x; target = x; change = y })))

-- what stands after the name that a statement begins with, before its semicolon
abbrev pub statement_after_name : (fuel : ℕ) → t.Name → Parser t.Statement
statement_after_name fuel x = where_head (head_is (is_mark p.OpenParenthesis))
    (do c ← call_after fuel x; give (t.CallOnly c))
    (do i ← parse_index (parse_expression fuel); statement_after_target fuel (t.Target x i))

-- a statement that a semicolon ends
abbrev pub ended : Parser t.Statement → Parser t.Statement
ended part = do x ← part; parse_mark p.Semicolon; give x

-- ---- Blocks, and the statements that have them

-- statements, up to a token that begins none
abbrev pub statements_over : (statement : Parser t.Statement) → (fuel : ℕ) → Parser t.Statements
statements_over statement zero = wrong
statements_over statement (suc fuel) =
    where_head (head_is begins_statement) (do x ← statement; xs ← statements_over statement fuel; give (t.statement_and x xs)) (give t.no_statement)

-- a block of such statements
abbrev pub block_over : (statement : Parser t.Statement) → (fuel : ℕ) → Parser t.Block
block_over statement fuel = do
  opening ← parse_mark p.OpenBrace
  xs ← statements_over statement fuel
  closing ← parse_mark p.CloseBrace
  give (t.Braced opening xs closing)

-- one more arm before the others
abbrev pub with_arm : t.Expression → t.Block → t.Arms × t.Otherwise → t.Arms × t.Otherwise
with_arm x b rest = (t.arm_and x b rest.0, rest.1)

-- what stands after the block of an `if`: the arms of `else if`, and the last block
abbrev pub arms_after : (block : Parser t.Block) → (fuel : ℕ) → Parser (t.Arms × t.Otherwise)
arms_after block zero = wrong
arms_after block (suc fuel) = where_head (head_is (is_word k.Else))
    (do
      parse_word k.Else
      where_head (head_is (is_word k.If))
          (do parse_word k.If; x ← parse_condition (suc fuel); b ← block; rest ← arms_after block fuel; give (with_arm x b rest))
          (do b ← block; give (t.no_arm, t.Else b)))
    (give (t.no_arm, t.Nothing))

-- an `if` of its arms and its last block
abbrev pub if_of : (place : Place) → t.Arms × t.Otherwise → t.Statement
if_of place x = t.If place x.0 x.1

-- a statement, by its first token
abbrev pub statement_by : Language → (block : Parser t.Block) → (fuel : ℕ) → Option Lexeme → Parser t.Statement
statement_by l block fuel (Some (Name bytes)) = ended (do x ← parse_name; statement_after_name fuel x)
statement_by l block fuel (Some (Punctuator p.OpenBrace)) = do b ← block; give (t.BlockOf b)
statement_by l block fuel (Some (Punctuator p.Semicolon)) = do place ← parse_mark p.Semicolon; give (t.Empty place)
statement_by l block fuel (Some (Punctuator p.Increment)) = ended (do x ← parse_assignment fuel; give (t.Assign x))
statement_by l block fuel (Some (Punctuator p.Decrement)) = ended (do x ← parse_assignment fuel; give (t.Assign x))
statement_by l block fuel (Some (Punctuator p.Star)) = ended (do x ← parse_followed; statement_after_target fuel x)
statement_by l block fuel (Some (Keyword k.If)) = do
  place ← parse_word k.If
  x ← parse_condition fuel
  b ← block
  rest ← arms_after block fuel
  give (if_of place (with_arm x b rest))
statement_by l block fuel (Some (Keyword k.While)) = do place ← parse_word k.While; x ← parse_condition fuel; b ← block; give (t.While place x b)
statement_by l block fuel (Some (Keyword k.Do)) = do
  place ← parse_word k.Do
  b ← block
  parse_word k.While
  x ← parse_condition fuel
  parse_mark p.Semicolon
  give (t.Do place b x)
statement_by l block fuel (Some (Keyword k.For)) = do
  place ← parse_word k.For
  parse_mark p.OpenParenthesis
  start ← parse_first fuel
  parse_mark p.Semicolon
  x ← parse_unless (is_mark p.Semicolon) (parse_expression fuel)
  parse_mark p.Semicolon
  last ← parse_unless (is_mark p.CloseParenthesis) (parse_assignment fuel)
  parse_mark p.CloseParenthesis
  b ← block
  give (t.For place start x last b)
statement_by l block fuel (Some (Keyword k.Lock)) =
    do place ← parse_word k.Lock; x ← parse_lock_name l fuel; parse_mark p.Semicolon; give (t.Lock place x.0 x.1)
statement_by l block fuel (Some (Keyword k.Unlock)) =
    do place ← parse_word k.Unlock; x ← parse_lock_name l fuel; parse_mark p.Semicolon; give (t.Unlock place x.0 x.1)
statement_by l block fuel _ = ended (do x ← declaration_over (parse_initial fuel); give (t.Declare x))

-- a statement, where this parser reads its blocks
abbrev pub statement_over : Language → (block : Parser t.Block) → (fuel : ℕ) → Parser t.Statement
statement_over l block fuel = by_head (statement_by l block fuel)

-- a statement
unfoldable pub parse_statement : Language → (fuel : ℕ) → Parser t.Statement
parse_statement l zero ts = Wrong ts
parse_statement l (suc fuel) ts = statement_over l (block_over (parse_statement l fuel) fuel) (suc fuel) ts

-- statements, up to a token that begins none
abbrev pub parse_statements : Language → (fuel : ℕ) → Parser t.Statements
parse_statements l fuel = statements_over (parse_statement l fuel) fuel

-- a block
abbrev pub parse_block : Language → (fuel : ℕ) → Parser t.Block
parse_block l fuel = block_over (parse_statement l fuel) fuel

-- ---- Items

-- `return` with or without a value
abbrev pub parse_return : (fuel : ℕ) → Parser t.Return
parse_return fuel = do
  place ← parse_word k.Return
  x ← parse_unless (is_mark p.Semicolon) (parse_expression fuel)
  parse_mark p.Semicolon
  give (record { place = place; value = x })

-- the body of a function
abbrev pub parse_body : Language → (fuel : ℕ) → Parser t.Body
parse_body l fuel = do
  opening ← parse_mark p.OpenBrace
  xs ← parse_statements l fuel
  x ← parse_maybe (is_word k.Return) (parse_return fuel)
  closing ← parse_mark p.CloseBrace
  give (record { opening = opening; statements = xs; returned = x; closing = closing })

-- a parameter
abbrev pub parse_parameter : Parser t.Parameter
parse_parameter = do x ← parse_type_name; n ← parse_name; give (record { type_name = x; name = n })

-- the parameters of a function, between its parentheses
abbrev pub parse_parameters : (fuel : ℕ) → Parser (List t.Parameter)
parse_parameters fuel =
    where_head (head_is (is_mark p.CloseParenthesis)) (give [])
    (where_head (head_is (is_word k.Void)) (do parse_word k.Void; give []) (parse_some_of fuel parse_parameter))

-- the type of a function's result, or `void`
abbrev pub parse_result : Parser (Option t.TypeName)
parse_result = where_head (head_is (is_word k.Void)) (do parse_word k.Void; give None) (do x ← parse_type_name; give (Some x))

-- a function
abbrev pub parse_function : Language → (fuel : ℕ) → Parser t.Function
parse_function l fuel = do
  x ← parse_result
  n ← parse_name
  parse_mark p.OpenParenthesis
  xs ← parse_parameters fuel
  parse_mark p.CloseParenthesis
  b ← parse_body l fuel
  give (record { type_name = x; name = n; parameters = xs; body = b })

-- a `-` that may stand there
abbrev pub parse_sign : Parser Bool
parse_sign = where_head (head_is (is_mark (p.Binary binary.Sub))) (do parse_mark (p.Binary binary.Sub); give true) (give false)

-- a number of an initialiser
abbrev pub parse_signed : Parser t.Signed
parse_signed = do place ← here; negative ← parse_sign; x ← parse_number; give (record { place = place; negative = negative; value = x.1 })

-- the numbers after the first one in braces, and the closing brace
abbrev pub parse_numbers_to_end : (fuel : ℕ) → Parser (List t.Signed)
parse_numbers_to_end zero = wrong
parse_numbers_to_end (suc fuel) = where_head (head_is (is_mark p.Comma))
    (do
      parse_mark p.Comma
      where_head (head_is (is_mark p.CloseBrace))
          (do parse_mark p.CloseBrace; give [])
          (do x ← parse_signed; xs ← parse_numbers_to_end fuel; give (x ∷ xs)))
    (do parse_mark p.CloseBrace; give [])

-- what a persistent variable begins with
abbrev pub parse_initialiser : (fuel : ℕ) → Parser t.Initialiser
parse_initialiser fuel = where_head (head_is (is_mark p.OpenBrace))
    (do place ← parse_mark p.OpenBrace; x ← parse_signed; xs ← parse_numbers_to_end fuel; give (t.InBraces place (x ∷ xs)))
    (do x ← parse_signed; give (t.Single x))

-- the length of an array, in its brackets
abbrev pub parse_length : Parser t.Length
parse_length = do parse_mark p.OpenBracket; x ← parse_number; parse_mark p.CloseBracket; give (record { place = x.0; value = x.1 })

-- the length of an array of mutexes, where there is one
abbrev pub parse_mutex_length : Language → Parser (Option t.Length)
parse_mutex_length Plain = give None
parse_mutex_length Full = parse_maybe (is_mark p.OpenBracket) parse_length

-- whether brackets are there, with nothing in them
abbrev pub parse_bracket_pair : Parser Bool
parse_bracket_pair = where_head (head_is (is_mark p.OpenBracket)) (do parse_mark p.OpenBracket; parse_mark p.CloseBracket; give true) (give false)

-- whether a guard has brackets
abbrev pub parse_brackets : Language → Parser Bool
parse_brackets Plain = give false
parse_brackets Full = parse_bracket_pair

-- what guards a variable, in parentheses
abbrev pub parse_guard : Language → Parser t.Guard
parse_guard l =
    do parse_mark p.OpenParenthesis; x ← parse_name; y ← parse_brackets l; parse_mark p.CloseParenthesis; give (record { mutex = x; each = y })

-- a persistent variable
abbrev pub parse_persistent : Language → (fuel : ℕ) → Parser t.Persistent
parse_persistent l fuel = do
  parse_word k.Persistent
  guard ← parse_guard l
  x ← parse_type_name
  n ← parse_name
  size ← parse_maybe (is_mark p.OpenBracket) parse_length
  y ← parse_maybe (is_mark p.Assign) (do parse_mark p.Assign; parse_initialiser fuel)
  parse_mark p.Semicolon
  give (record { guard = guard; type_name = x; name = n; length = size; initialiser = y })

-- an item, by its first token
abbrev pub item_by : Language → (fuel : ℕ) → Option Lexeme → Parser t.Item
item_by l fuel (Some (Keyword k.Mutex)) = do parse_word k.Mutex; x ← parse_name; y ← parse_mutex_length l; parse_mark p.Semicolon; give (t.MutexItem x y)
item_by l fuel (Some (Keyword k.Persistent)) = do x ← parse_persistent l fuel; give (t.PersistentItem x)
item_by l fuel (Some (Keyword k.Thread)) = do parse_word k.Thread; x ← parse_name; b ← parse_block l fuel; give (t.ThreadItem (record { name = x; block = b }))
item_by l fuel _ = do x ← parse_function l fuel; give (t.FunctionItem x)

-- an item
abbrev pub parse_item : Language → (fuel : ℕ) → Parser t.Item
parse_item l fuel = by_head (item_by l fuel)

-- items up to the end, fewer than the fuel
abbrev pub items_over : (item : Parser t.Item) → (fuel : ℕ) → Parser (List t.Item)
items_over item zero = wrong
items_over item (suc fuel) = by_head (elim [ None ↦ give [] | Some x ↦ do y ← item; ys ← items_over item fuel; give (y ∷ ys) ])

-- one item and more, up to the end, of fewer tokens than the fuel
abbrev pub parse_items : Language → (fuel : ℕ) → Parser (List t.Item)
parse_items l fuel = do x ← parse_item l fuel; xs ← items_over (parse_item l fuel) fuel; give (x ∷ xs)

-- a whole program
unfoldable pub parse_program : Language → Parser (List t.Item)
parse_program l ts = parse_items l (suc (length ts)) ts
