-- The tokens of a text. Each is the longest that begins at its place.
use Rattle.std.specs.Prelude.{ℕ, zero, suc, ◌+◌, List, [], ◌∷◌, length, drop, take_while, find, map, Option, Some}
use Rattle.std.specs.Prelude.{None, Bool, not, ◌&&◌, ◌||◌, nat_eq, nat_le, ◌==◌, if◌then◌else◌, codes}
use Rattle.std.specs.Option.{option_map}
use Rattle.std.specs.Cmp.Lexicographic.{pointwise}
use Rattle.std.specs.List.{starts_with}
use Rattle.std.specs.Char.{is_digit}
use Rattle.std.specs.Str.Parse.{digits_value}
use Rattle.ido_base.specs.declared.place.Place.{Place}
use Rattle.ido_base.specs.Places.{line_feed}
use Rattle.ido_ints.specs.TypedNumbers.{Typed}
use Rattle.ido_ints.specs.Literals.{literal_of}
use Rattle.ido_ints.specs.declared.literals.Base.{Base}
use Rattle.ido_ints.specs.declared.literals.Base.TheVariants.{Decimal, Octal, Hexadecimal}
use Rattle.ido_ints.specs.declared.literals.Suffix.{Suffix}
use Rattle.ido_ints.specs.declared.literals.Suffix.TheVariants.{Absent, U, L, Ul}
use Rattle.ido_ints.specs.declared.operators.Binary.TheVariants as b
use Rattle.c_tree.specs.declared.token.Keyword as kw
use Rattle.c_tree.specs.declared.token.Keyword.TheVariants as k
use Rattle.c_tree.specs.declared.token.Punctuator as pn
use Rattle.c_tree.specs.declared.token.Punctuator.TheVariants as p
use Rattle.c_tree.specs.declared.language.Language.{Language}
use Rattle.c_tree.specs.declared.language.Language.TheVariants.{Plain, Full}
use Rattle.c_tree.specs.declared.rule.Rule as r
use Rattle.c_tree.specs.declared.rule.Rule.TheVariants as rule
use Rattle.c_tree.specs.Tokens.{Lexeme, Name, Keyword, Number, Punctuator, Token}

-- ---- Words (C11 6.4.1, 6.4.2)

abbrev pub is_between : (low high byte : ℕ) → Bool
is_between low high byte = nat_le low byte && nat_le byte high

-- a letter, or `_`
abbrev pub is_letter : (byte : ℕ) → Bool
is_letter c = is_between 65 90 c || is_between 97 122 c || c == 95

abbrev pub is_decimal : (byte : ℕ) → Bool
is_decimal c = is_between 48 57 c

-- what a word goes on with
abbrev pub is_word_byte : (byte : ℕ) → Bool
is_word_byte c = is_letter c || is_decimal c

abbrev pub same : List ℕ → List ℕ → Bool
same = pointwise nat_eq

abbrev pub reserved : List (List ℕ × kw.Keyword)
reserved =
    (codes "mutex", k.Mutex) ∷ (codes "persistent", k.Persistent) ∷ (codes "thread", k.Thread) ∷ (codes "lock", k.Lock) ∷ (codes "unlock", k.Unlock) ∷
    (codes "void", k.Void) ∷ (codes "char", k.Char) ∷ (codes "short", k.Short) ∷ (codes "int", k.Int) ∷ (codes "long", k.Long) ∷
    (codes "signed", k.Signed) ∷ (codes "unsigned", k.Unsigned) ∷ (codes "if", k.If) ∷ (codes "else", k.Else) ∷ (codes "while", k.While) ∷
    (codes "do", k.Do) ∷ (codes "for", k.For) ∷ (codes "return", k.Return) ∷ []

-- what a word is
abbrev pub word_lexeme : List ℕ → Lexeme
word_lexeme bytes = elim (find (λ e. same e.0 bytes) reserved) [
  | Some entry ↦ Keyword entry.1
  | None ↦ Name bytes
]

-- ---- Numbers (C11 6.4.4.1)

abbrev pub to_lower : (byte : ℕ) → ℕ
to_lower c = if is_between 65 90 c then c + 32 else c

-- `u`, `l`, `ul` or `lu` in any case, or nothing
abbrev pub suffix_of : List ℕ → Option Suffix
suffix_of [] = Some Absent
suffix_of (c ∷ []) = if to_lower c == 117 then Some U else if to_lower c == 108 then Some L else None
suffix_of (c ∷ d ∷ []) = if (to_lower c == 117 && to_lower d == 108) || (to_lower c == 108 && to_lower d == 117) then Some Ul else None
suffix_of (c ∷ d ∷ e ∷ es) = None

-- digits of a radix, and a suffix after them
abbrev pub literal_in : Base → (radix : ℕ) → List ℕ → Option Typed
literal_in base radix bytes =
    let digits = take_while (λ c. is_digit c radix) bytes in
    elim (suffix_of (drop (length digits) bytes)) [
      | Some suffix ↦ literal_of base suffix (digits_value radix digits)
      | None ↦ None
    ]

-- at least one digit after `0x`
abbrev pub hexadecimal : List ℕ → Option Typed
hexadecimal [] = None
hexadecimal (c ∷ cs) = if is_digit c 16 then literal_in Hexadecimal 16 (c ∷ cs) else None

-- a number that begins with `0`: what stands after it decides
abbrev pub from_zero : List ℕ → Option Typed
from_zero [] = literal_in Octal 8 (48 ∷ [])
from_zero (c ∷ cs) = if to_lower c == 120 then hexadecimal cs else literal_in Octal 8 (48 ∷ c ∷ cs)

-- the value that the bytes spell, where they are a number
abbrev pub number_of : List ℕ → Option Typed
number_of [] = None
number_of (c ∷ cs) = if c == 48 then from_zero cs else literal_in Decimal 10 (c ∷ cs)

-- ---- Punctuators (C11 6.4.6), a longer one before each of its prefixes

abbrev pub punctuators : List (List ℕ × pn.Punctuator)
punctuators =
    (codes "<<=", p.Update b.ShiftLeft) ∷ (codes ">>=", p.Update b.ShiftRight) ∷
    (codes "<<", p.Binary b.ShiftLeft) ∷ (codes ">>", p.Binary b.ShiftRight) ∷ (codes "<=", p.Binary b.LessEqual) ∷ (codes ">=", p.Binary b.GreaterEqual) ∷
    (codes "==", p.Binary b.Equal) ∷ (codes "!=", p.Binary b.NotEqual) ∷ (codes "&&", p.Binary b.LogicalAnd) ∷ (codes "||", p.Binary b.LogicalOr) ∷
    (codes "++", p.Increment) ∷ (codes "--", p.Decrement) ∷
    (codes "+=", p.Update b.Add) ∷ (codes "-=", p.Update b.Sub) ∷ (codes "*=", p.Update b.Mul) ∷ (codes "/=", p.Update b.Div) ∷ (codes "%=", p.Update b.Rem) ∷
    (codes "&=", p.Update b.And) ∷ (codes "|=", p.Update b.Or) ∷ (codes "^=", p.Update b.Xor) ∷
    (codes "(", p.OpenParenthesis) ∷ (codes ")", p.CloseParenthesis) ∷ (codes "[", p.OpenBracket) ∷ (codes "]", p.CloseBracket) ∷
    (codes "{", p.OpenBrace) ∷ (codes "}", p.CloseBrace) ∷ (codes ";", p.Semicolon) ∷ (codes ",", p.Comma) ∷ (codes "?", p.Question) ∷ (codes ":", p.Colon) ∷
    (codes "=", p.Assign) ∷ (codes "+", p.Binary b.Add) ∷ (codes "-", p.Binary b.Sub) ∷ (codes "*", p.Binary b.Mul) ∷ (codes "/", p.Binary b.Div) ∷
    (codes "%", p.Binary b.Rem) ∷ (codes "&", p.Binary b.And) ∷ (codes "|", p.Binary b.Or) ∷ (codes "^", p.Binary b.Xor) ∷
    (codes "~", p.Complement) ∷ (codes "!", p.Not) ∷ (codes "<", p.Binary b.Less) ∷ (codes ">", p.Binary b.Greater) ∷ []

-- ---- What stands at the front of a text

-- bytes between tokens, by their number; a token and its number of bytes; a rule that is broken here; nothing
pub data Prefix : Type 0 where
  Blank : (bytes : ℕ) → Prefix
  Lexed : Lexeme → (bytes : ℕ) → Prefix
  Broken : r.Rule → Prefix
  End : Prefix

-- space, tab, CR, LF
abbrev pub is_blank : (byte : ℕ) → Bool
is_blank c = c == 32 || c == 9 || c == 13 || c == 10

-- how many bytes stand before the first `*/`, and those two; none where there is none
abbrev pub through_comment : List ℕ → Option ℕ
through_comment [] = None
through_comment (c ∷ []) = None
through_comment (c ∷ d ∷ ds) = if c == 42 && d == 47 then Some 2 else option_map (λ n. n + 1) (through_comment (d ∷ ds))

-- a comment up to the end of its line
abbrev pub line_comment : List ℕ → Prefix
line_comment text = Blank (length (take_while (λ c. not (c == line_feed)) text))

-- a comment that an end closes; without it, its `/` begins no token
abbrev pub closed_comment : List ℕ → Prefix
closed_comment text = elim (through_comment (drop 2 text)) [
  | Some n ↦ Blank (n + 2)
  | None ↦ Broken rule.Byte
]

abbrev pub word_prefix : List ℕ → Prefix
word_prefix text = let bytes = take_while is_word_byte text in Lexed (word_lexeme bytes) (length bytes)

abbrev pub number_prefix : List ℕ → Prefix
number_prefix text = let bytes = take_while is_word_byte text in elim (number_of bytes) [
  | Some value ↦ Lexed (Number value) (length bytes)
  | None ↦ Broken rule.Number
]

abbrev pub punctuator_prefix : List ℕ → Prefix
punctuator_prefix text = elim (find (λ e. starts_with nat_eq text e.0) punctuators) [
  | Some entry ↦ Lexed (Punctuator entry.1) (length entry.0)
  | None ↦ Broken rule.Byte
]

-- what stands at the front of a text, by its first byte
abbrev pub prefix_from : (first : ℕ) → (text : List ℕ) → Prefix
prefix_from c text =
    if is_blank c then Blank 1
    else if starts_with nat_eq text (codes "//") then line_comment text
    else if starts_with nat_eq text (codes "/*") then closed_comment text
    else if is_letter c then word_prefix text
    else if is_decimal c then number_prefix text
    else punctuator_prefix text

unfoldable pub prefix : List ℕ → Prefix
prefix [] = End
prefix (c ∷ cs) = prefix_from c (c ∷ cs)

-- ---- The tokens of a text

-- a rule that is broken at a place
pub record Fault : Type 0 where
  pub rule : r.Rule
  pub place : Place

-- the tokens up to the end, or up to the first place where none begins; `ends` is the text's length
pub record Scanned : Type 0 where
  pub tokens : List Token
  pub fault : Option Fault

abbrev pub nothing_more : Scanned
nothing_more = record { tokens = []; fault = None }

abbrev pub with_token : Token → Scanned → Scanned
with_token t s = record s { tokens = t ∷ s.tokens }

-- what stands at a place and after it, of a text with fewer bytes than the first number
abbrev pub scanned_from : (more : ℕ) → (place : ℕ) → List ℕ → Scanned
scanned_from zero place text = nothing_more
scanned_from (suc more) place text = elim (prefix text) [
  | Blank bytes ↦ scanned_from more (place + bytes) (drop bytes text)
  | Lexed lexeme bytes ↦ with_token (record { place = record { 0 = place }; lexeme = lexeme }) (scanned_from more (place + bytes) (drop bytes text))
  | Broken rule ↦ record { tokens = []; fault = Some (record { rule = rule; place = record { 0 = place } }) }
  | End ↦ nothing_more
]

-- the tokens of a text in which two words aren't reserved, and `*` and `&` are operators with two operands alone
unfoldable pub plain_scanned : (text : List ℕ) → Scanned
plain_scanned text = scanned_from (suc (length text)) 0 text

-- ---- Languages

-- the words that the full language reserves, too
abbrev pub more_reserved : List (List ℕ × kw.Keyword)
more_reserved = (codes "ref", k.Ref) ∷ (codes "null", k.Null) ∷ []

abbrev pub full_name : List ℕ → Lexeme
full_name bytes = elim (find (λ e. same e.0 bytes) more_reserved) [
  | Some entry ↦ Keyword entry.1
  | None ↦ Name bytes
]

-- its `*` and `&` may begin operands
abbrev pub full_mark : pn.Punctuator → pn.Punctuator
full_mark (p.Binary b.Mul) = p.Star
full_mark (p.Binary b.And) = p.Ampersand
full_mark x = x

abbrev pub full_lexeme : Lexeme → Lexeme
full_lexeme (Name bytes) = full_name bytes
full_lexeme (Keyword x) = Keyword x
full_lexeme (Number value) = Number value
full_lexeme (Punctuator x) = Punctuator (full_mark x)

abbrev pub full_token : Token → Token
full_token t = record t { lexeme = full_lexeme t.lexeme }

abbrev pub tokens_in : Language → List Token → List Token
tokens_in Plain ts = ts
tokens_in Full ts = map full_token ts

abbrev pub in_language : Language → Scanned → Scanned
in_language l s = record s { tokens = tokens_in l s.tokens }

unfoldable pub scanned : Language → (text : List ℕ) → Scanned
scanned l text = in_language l (plain_scanned text)
