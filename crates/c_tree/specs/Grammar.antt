-- The grammar of the source language: which tokens spell which tree. Each production stands at the tree that it makes.
use Rattle.std.specs.Prelude.{◌≡◌, ℕ, ◌+◌, ◌≤◌, List, [], ◌∷◌, Option, Some, None, Bool, true, false, Contains}
use Rattle.ido_ints.specs.declared.kinds.Kind.{Kind}
use Rattle.ido_ints.specs.declared.kinds.Kind.TheVariants as kind
use Rattle.ido_ints.specs.declared.operators.Unary.{Unary}
use Rattle.ido_ints.specs.declared.operators.Unary.TheVariants as unary
use Rattle.ido_ints.specs.declared.operators.Binary.{Binary}
use Rattle.ido_ints.specs.declared.operators.Binary.TheVariants as binary
use Rattle.c_tree.specs.declared.language.Language.{Language}
use Rattle.c_tree.specs.declared.language.Language.TheVariants.{Plain, Full}
use Rattle.c_tree.specs.Tokens.{Token}
use Rattle.c_tree.specs.declared.token.Keyword.{Keyword}
use Rattle.c_tree.specs.declared.token.Keyword.TheVariants as k
use Rattle.c_tree.specs.declared.token.Punctuator.{Punctuator}
use Rattle.c_tree.specs.declared.token.Punctuator.TheVariants as p
use Rattle.c_tree.specs.Trees as t
use Rattle.c_tree.specs.Languages.{empty, never, provided, ◌⋅◌, ◌or◌, starting_at, word, word_at, mark, mark_at}
use Rattle.c_tree.specs.Languages.{number, number_at, name, words, all_of, some_of, list_of, maybe}

-- ---- Languages

-- what only the full language has
abbrev pub in_full : Language → (List Token → Type 0) → List Token → Type 0
in_full Plain P = never
in_full Full P = P

-- ---- Types

-- the words that a kind may be written with (C11 6.7.2, paragraph 2)
abbrev pub spellings : Kind → List (List Keyword)
spellings kind.Char = (k.Char ∷ []) ∷ []
spellings kind.UnsignedChar = (k.Unsigned ∷ k.Char ∷ []) ∷ []
spellings kind.SignedChar = (k.Signed ∷ k.Char ∷ []) ∷ []
spellings kind.Short = (k.Short ∷ []) ∷ (k.Short ∷ k.Int ∷ []) ∷ (k.Signed ∷ k.Short ∷ []) ∷ (k.Signed ∷ k.Short ∷ k.Int ∷ []) ∷ []
spellings kind.UnsignedShort = (k.Unsigned ∷ k.Short ∷ []) ∷ (k.Unsigned ∷ k.Short ∷ k.Int ∷ []) ∷ []
spellings kind.Int = (k.Int ∷ []) ∷ (k.Signed ∷ []) ∷ (k.Signed ∷ k.Int ∷ []) ∷ []
spellings kind.UnsignedInt = (k.Unsigned ∷ []) ∷ (k.Unsigned ∷ k.Int ∷ []) ∷ []
spellings kind.Long = (k.Long ∷ []) ∷ (k.Long ∷ k.Int ∷ []) ∷ (k.Signed ∷ k.Long ∷ []) ∷ (k.Signed ∷ k.Long ∷ k.Int ∷ []) ∷ []
spellings kind.UnsignedLong = (k.Unsigned ∷ k.Long ∷ []) ∷ (k.Unsigned ∷ k.Long ∷ k.Int ∷ []) ∷ []

-- a kind
abbrev pub type : Kind → List Token → Type 0
type x ts = (ks : List Keyword) × Contains (spellings x) ks × words ks ts

-- a kind, or `ref(array)`
abbrev pub type_name : t.TypeName → List Token → Type 0
type_name (t.OfKind x) = type x
type_name (t.RefTo array) = word k.Ref ⋅ mark p.OpenParenthesis ⋅ name array ⋅ mark p.CloseParenthesis

-- ---- Expressions (C11 6.5)

-- how tightly an operator binds: from `||` to `*`
abbrev pub precedence : Binary → ℕ
precedence binary.LogicalOr = 1
precedence binary.LogicalAnd = 2
precedence binary.Or = 3
precedence binary.Xor = 4
precedence binary.And = 5
precedence binary.Equal = 6
precedence binary.NotEqual = 6
precedence binary.Less = 7
precedence binary.Greater = 7
precedence binary.LessEqual = 7
precedence binary.GreaterEqual = 7
precedence binary.ShiftLeft = 8
precedence binary.ShiftRight = 8
precedence binary.Add = 9
precedence binary.Sub = 9
precedence binary.Mul = 10
precedence binary.Div = 10
precedence binary.Rem = 10

-- operands that no operator with two operands may part
abbrev pub highest_precedence : ℕ
highest_precedence = 11

abbrev pub unary_mark : Unary → Punctuator
unary_mark unary.Plus = p.Binary binary.Add
unary_mark unary.Minus = p.Binary binary.Sub
unary_mark unary.Complement = p.Complement
unary_mark unary.Not = p.Not

-- how an operator with two operands is written: each language has its own token for `*` and for `&`
abbrev pub operator : Binary → List Token → Type 0
operator binary.Mul = mark (p.Binary binary.Mul) or mark p.Star
operator binary.And = mark (p.Binary binary.And) or mark p.Ampersand
operator x = mark (p.Binary x)

-- an expression whose operators, outside brackets, bind at least so tightly: 0 for any expression
abbrev pub expression_from : t.Expression → ℕ → List Token → Type 0
expression_from (t.Number place value) n = number_at place value
expression_from (t.Named x) n = name x
expression_from (t.Element array index) n = name array ⋅ mark p.OpenBracket ⋅ expression_from index 0 ⋅ mark p.CloseBracket
expression_from (t.Null place) n = word_at place k.Null
expression_from (t.Address place array index) n =
    mark_at place p.Ampersand ⋅ name array ⋅ mark p.OpenBracket ⋅ expression_from index 0 ⋅ mark p.CloseBracket
expression_from (t.Referent place reference) n = mark_at place p.Star ⋅ name reference
expression_from (t.Parenthesised place inner) n = mark_at place p.OpenParenthesis ⋅ expression_from inner 0 ⋅ mark p.CloseParenthesis
expression_from (t.Unary place x operand) n = mark_at place (unary_mark x) ⋅ expression_from operand highest_precedence
expression_from (t.Cast place x operand) n = mark_at place p.OpenParenthesis ⋅ type x ⋅ mark p.CloseParenthesis ⋅ expression_from operand highest_precedence
expression_from (t.Binary x left right) n =
    provided (n ≤ precedence x) (expression_from left (precedence x) ⋅ operator x ⋅ expression_from right (precedence x + 1))
expression_from (t.Conditional condition then otherwise) n =
    provided (n ≡ 0) (expression_from condition 1 ⋅ mark p.Question ⋅ expression_from then 0 ⋅ mark p.Colon ⋅ expression_from otherwise 0)

abbrev pub expression : t.Expression → List Token → Type 0
expression x = expression_from x 0

-- ---- Assignments (C11 6.5.16) and calls (6.5.2.2)

abbrev pub index : Option t.Expression → List Token → Type 0
index None = empty
index (Some x) = mark p.OpenBracket ⋅ expression x ⋅ mark p.CloseBracket

abbrev pub target : t.Lvalue → List Token → Type 0
target (t.Target x i) = name x ⋅ index i
target (t.Followed place reference) = mark_at place p.Star ⋅ name reference

abbrev pub changed : t.Lvalue → t.Change → List Token → Type 0
changed x (t.Set value) = target x ⋅ mark p.Assign ⋅ expression value
changed x (t.Update operator value) = target x ⋅ mark (p.Update operator) ⋅ expression value
changed x t.Increment = target x ⋅ mark p.Increment or mark p.Increment ⋅ target x
changed x t.Decrement = target x ⋅ mark p.Decrement or mark p.Decrement ⋅ target x

abbrev pub assignment : t.Assignment → List Token → Type 0
assignment x = starting_at x.place (changed x.target x.change)

abbrev pub call : t.Call → List Token → Type 0
call x = name x.function ⋅ mark p.OpenParenthesis ⋅ list_of expression x.arguments ⋅ mark p.CloseParenthesis

-- ---- Statements (C11 6.8) and declarations of locals (6.7)

abbrev pub initial : t.Initial → List Token → Type 0
initial t.Absent = empty
initial (t.Value x) = mark p.Assign ⋅ expression x
initial (t.Result x) = mark p.Assign ⋅ call x

abbrev pub declaration : t.Declaration → List Token → Type 0
declaration x = starting_at x.place (type_name x.type_name ⋅ name x.name ⋅ initial x.initial)

-- the first part of a `for` makes no call
abbrev pub initial_of_first : t.Initial → List Token → Type 0
initial_of_first t.Absent = empty
initial_of_first (t.Value x) = mark p.Assign ⋅ expression x
initial_of_first (t.Result x) = never

abbrev pub first : t.First → List Token → Type 0
first t.NoFirst = empty
first (t.Declared x) = starting_at x.place (type_name x.type_name ⋅ name x.name ⋅ initial_of_first x.initial)
first (t.Assigned x) = assignment x

-- `(condition)`
abbrev pub condition : t.Expression → List Token → Type 0
condition x = mark p.OpenParenthesis ⋅ expression x ⋅ mark p.CloseParenthesis

-- the key of a lock's name
abbrev pub key : Language → Option t.Expression → List Token → Type 0
key l None = empty
key l (Some x) = in_full l (mark p.OpenBracket ⋅ expression x ⋅ mark p.CloseBracket)

module _ (l : Language) where
  abbrev mutual
    pub statement : t.Statement → List Token → Type 0
    statement (t.BlockOf x) = block x
    statement (t.Empty place) = mark_at place p.Semicolon
    statement (t.Declare x) = declaration x ⋅ mark p.Semicolon
    statement (t.Assign x) = assignment x ⋅ mark p.Semicolon
    statement (t.AssignResult x c) = target x ⋅ mark p.Assign ⋅ call c ⋅ mark p.Semicolon
    statement (t.CallOnly c) = call c ⋅ mark p.Semicolon
    statement (t.If place arms otherwise) = starting_at place (arms_of arms) ⋅ otherwise_of otherwise
    statement (t.While place x inside) = word_at place k.While ⋅ condition x ⋅ block inside
    statement (t.Do place inside x) = word_at place k.Do ⋅ block inside ⋅ word k.While ⋅ condition x ⋅ mark p.Semicolon
    statement (t.For place start x last inside) =
        word_at place k.For ⋅ mark p.OpenParenthesis ⋅ first start ⋅ mark p.Semicolon ⋅ maybe expression x ⋅ mark p.Semicolon ⋅ maybe assignment last
        ⋅ mark p.CloseParenthesis ⋅ block inside
    statement (t.Lock place mutex x) = word_at place k.Lock ⋅ mark p.OpenParenthesis ⋅ name mutex ⋅ key l x ⋅ mark p.CloseParenthesis ⋅ mark p.Semicolon
    statement (t.Unlock place mutex x) = word_at place k.Unlock ⋅ mark p.OpenParenthesis ⋅ name mutex ⋅ key l x ⋅ mark p.CloseParenthesis ⋅ mark p.Semicolon

    pub block : t.Block → List Token → Type 0
    block (t.Braced opening inside closing) = mark_at opening p.OpenBrace ⋅ statements inside ⋅ mark_at closing p.CloseBrace

    pub statements : t.Statements → List Token → Type 0
    statements t.no_statement = empty
    statements (t.statement_and x rest) = statement x ⋅ statements rest

    -- `if`, and then `else if` (C11 6.8.4.1)
    pub arms_of : t.Arms → List Token → Type 0
    arms_of t.no_arm = never
    arms_of (t.arm_and x inside rest) = word k.If ⋅ condition x ⋅ block inside ⋅ more_arms_of rest

    pub more_arms_of : t.Arms → List Token → Type 0
    more_arms_of t.no_arm = empty
    more_arms_of (t.arm_and x inside rest) = word k.Else ⋅ word k.If ⋅ condition x ⋅ block inside ⋅ more_arms_of rest

    pub otherwise_of : t.Otherwise → List Token → Type 0
    otherwise_of t.Nothing = empty
    otherwise_of (t.Else inside) = word k.Else ⋅ block inside

-- ---- Items: functions (C11 6.9.1), variables and their initialisers (6.7.9), threads and mutexes

abbrev pub returned : t.Return → List Token → Type 0
returned x = word_at x.place k.Return ⋅ maybe expression x.value ⋅ mark p.Semicolon

abbrev pub parameter : t.Parameter → List Token → Type 0
parameter x = type_name x.type_name ⋅ name x.name

-- the parameters of a function; none at all may be written as `void`
abbrev pub parameters : List t.Parameter → List Token → Type 0
parameters [] = empty or word k.Void
parameters (x ∷ xs) = some_of parameter (x ∷ xs)

abbrev pub result : Option t.TypeName → List Token → Type 0
result None = word k.Void
result (Some x) = type_name x

abbrev pub sign : (negative : Bool) → List Token → Type 0
sign true = mark (p.Binary binary.Sub)
sign false = empty

abbrev pub signed : t.Signed → List Token → Type 0
signed x = starting_at x.place (sign x.negative ⋅ number x.value)

abbrev pub initialiser : t.Initialiser → List Token → Type 0
initialiser (t.Single x) = signed x
initialiser (t.InBraces place xs) = mark_at place p.OpenBrace ⋅ some_of signed xs ⋅ (empty or mark p.Comma) ⋅ mark p.CloseBrace

abbrev pub length_of : t.Length → List Token → Type 0
length_of x = mark p.OpenBracket ⋅ number_at x.place x.value ⋅ mark p.CloseBracket

abbrev pub assigned : t.Initialiser → List Token → Type 0
assigned x = mark p.Assign ⋅ initialiser x

-- the brackets of a guard whose mutexes each guard one element
abbrev pub brackets : Language → (each : Bool) → List Token → Type 0
brackets l false = empty
brackets l true = in_full l (mark p.OpenBracket ⋅ mark p.CloseBracket)

abbrev pub mutex_length : Language → Option t.Length → List Token → Type 0
mutex_length l None = empty
mutex_length l (Some x) = in_full l (length_of x)

module _ (l : Language) where
  abbrev pub body : t.Body → List Token → Type 0
  body x = mark_at x.opening p.OpenBrace ⋅ statements l x.statements ⋅ maybe returned x.returned ⋅ mark_at x.closing p.CloseBrace

  abbrev pub function : t.Function → List Token → Type 0
  function x = result x.type_name ⋅ name x.name ⋅ mark p.OpenParenthesis ⋅ parameters x.parameters ⋅ mark p.CloseParenthesis ⋅ body x.body

  abbrev pub persistent : t.Persistent → List Token → Type 0
  persistent x =
      word k.Persistent ⋅ mark p.OpenParenthesis ⋅ name x.guard.mutex ⋅ brackets l x.guard.each ⋅ mark p.CloseParenthesis ⋅ type_name x.type_name ⋅ name x.name
      ⋅ maybe length_of x.length
      ⋅ maybe assigned x.initialiser ⋅ mark p.Semicolon

  abbrev pub item : t.Item → List Token → Type 0
  item (t.MutexItem x length) = word k.Mutex ⋅ name x ⋅ mutex_length l length ⋅ mark p.Semicolon
  item (t.PersistentItem x) = persistent x
  item (t.ThreadItem x) = word k.Thread ⋅ name x.name ⋅ block l x.block
  item (t.FunctionItem x) = function x

  -- a whole program: one item at least
  abbrev pub program : List t.Item → List Token → Type 0
  program [] = never
  program (x ∷ xs) = item x ⋅ all_of item xs
