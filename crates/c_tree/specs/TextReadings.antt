-- What a text is read as: its tree, or the first rule that it breaks.
use Rattle.std.specs.Prelude.{◌≡◌, ℕ, ◌+◌, ◌-◌, List, [], ◌∷◌, ◌++◌, length, Some, None, Bool, true, false, ◌||◌, nat_lt}
use Rattle.ido_base.specs.declared.place.Place.{Place}
use Rattle.ido_base.specs.declared.limits.TheConstants.{MOST_NESTING}
use Rattle.c_tree.specs.declared.token.Punctuator as pn
use Rattle.c_tree.specs.declared.token.Punctuator.TheVariants as p
use Rattle.c_tree.specs.declared.rule.Rule as r
use Rattle.c_tree.specs.declared.rule.Rule.TheVariants as rule
use Rattle.c_tree.specs.declared.language.Language.{Language}
use Rattle.c_tree.specs.Trees.{Item}
use Rattle.c_tree.specs.Tokens.{Lexeme, Name, Keyword, Number, Punctuator, Token}
use Rattle.c_tree.specs.Grammar.{program}
use Rattle.c_tree.specs.LexicalScan.{scanned}

-- ---- Prefixes of programs

-- the tokens begin a program: more may follow them
abbrev pub BeginsProgram : Language → List Token → Type 0
BeginsProgram l ts = (more : List Token) × (xs : List Item) × program l xs (ts ++ more)

-- the tokens spell a whole program
abbrev pub IsWhole : Language → List Token → Type 0
IsWhole l ts = (xs : List Item) × program l xs ts

-- ---- Nesting

-- braces that are open, and brackets and operators since the last `;`, `,`, `{` or `}`
pub record Nesting : Type 0 where
  pub braces : ℕ
  pub others : ℕ

abbrev pub outside : Nesting
outside = record { braces = 0; others = 0 }

abbrev pub within_mark : pn.Punctuator → Nesting → Nesting
within_mark p.OpenBrace n = record { braces = n.braces + 1; others = 0 }
within_mark p.CloseBrace n = record { braces = n.braces - 1; others = 0 }
within_mark p.Semicolon n = record n { others = 0 }
within_mark p.Comma n = record n { others = 0 }
within_mark p.OpenParenthesis n = record n { others = n.others + 1 }
within_mark p.OpenBracket n = record n { others = n.others + 1 }
within_mark p.Question n = record n { others = n.others + 1 }
within_mark (p.Binary operator) n = record n { others = n.others + 1 }
within_mark p.Star n = record n { others = n.others + 1 }
within_mark p.Ampersand n = record n { others = n.others + 1 }
within_mark p.Complement n = record n { others = n.others + 1 }
within_mark p.Not n = record n { others = n.others + 1 }
within_mark p.CloseParenthesis n = n
within_mark p.CloseBracket n = n
within_mark p.Colon n = n
within_mark p.Assign n = n
within_mark (p.Update operator) n = n
within_mark p.Increment n = n
within_mark p.Decrement n = n

abbrev pub within_lexeme : Lexeme → Nesting → Nesting
within_lexeme (Punctuator x) n = within_mark x n
within_lexeme (Name bytes) n = n
within_lexeme (Keyword x) n = n
within_lexeme (Number value) n = n

abbrev pub is_high : Nesting → Bool
is_high n = nat_lt MOST_NESTING n.braces || nat_lt MOST_NESTING n.others

-- some token nests too high, from this nesting on
abbrev pub is_high_from : Nesting → List Token → Bool
is_high_from n [] = false
is_high_from n (t ∷ ts) = let m = within_lexeme t.lexeme n in is_high m || is_high_from m ts

unfoldable pub nests_high : List Token → Bool
nests_high ts = is_high_from outside ts

-- ---- The first rule that a text breaks

-- a token that the tokens before it can't go on with
pub record IsWrong (l : Language) (before : List Token) (t : Token) : Type 0 where
  pub begun : BeginsProgram l before
  pub wrong : BeginsProgram l (before ++ t ∷ []) → ⊥

-- the text is refused by the rule at the place: no rule is broken at an earlier one
pub data IsRefused (l : Language) (text : List ℕ) (found : r.Rule) (place : Place) : Type 0 where
  -- no token begins there
  no_token : (scanned l text).fault ≡ Some (record { rule = found; place = place }) → BeginsProgram l (scanned l text).tokens →
      nests_high (scanned l text).tokens ≡ false
      → IsRefused l text found place
  -- the token there is wrong
  wrong_token : (before : List Token) (t : Token) (after : List Token) → (scanned l text).tokens ≡ before ++ t ∷ after → nests_high before ≡ false
      → IsWrong l before t → t.place ≡ place → found ≡ rule.Syntax → IsRefused l text found place
  -- the token there isn't wrong, but nests too high
  too_high : (before : List Token) (t : Token) (after : List Token) → (scanned l text).tokens ≡ before ++ t ∷ after → nests_high before ≡ false
      → BeginsProgram l (before ++ t ∷ []) → nests_high (before ++ t ∷ []) ≡ true → t.place ≡ place → found ≡ rule.High → IsRefused l text found place
  -- the text ends too early
  wrong_end : (scanned l text).fault ≡ None → nests_high (scanned l text).tokens ≡ false → BeginsProgram l (scanned l text).tokens →
      (IsWhole l (scanned l text).tokens → ⊥)
      → place ≡ record { 0 = length text } → found ≡ rule.Syntax → IsRefused l text found place

-- the text is these items
pub record IsRead (l : Language) (text : List ℕ) (xs : List Item) : Type 0 where
  pub scanned_whole : (scanned l text).fault ≡ None
  pub low : nests_high (scanned l text).tokens ≡ false
  pub spelled : program l xs (scanned l text).tokens
