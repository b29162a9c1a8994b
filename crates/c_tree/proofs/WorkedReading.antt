-- Worked rows: a text that is a program, and nesting.
use Rattle.std.proofs.Common.{◌≡◌, ℕ, List, [], ◌∷◌, ◌++◌, map, replicate, Some, None, true, false, refl}
use Rattle.std.specs.Prelude.{codes}
use Rattle.ido_ints.specs.declared.operators.Binary.TheVariants as b
use Rattle.c_tree.specs.declared.token.Keyword.TheVariants as k
use Rattle.c_tree.specs.declared.token.Punctuator as pn
use Rattle.c_tree.specs.declared.token.Punctuator.TheVariants as p
use Rattle.c_tree.specs.declared.language.Language.TheVariants.{Plain, Full}
use Rattle.c_tree.specs.Trees as t
use Rattle.c_tree.specs.Tokens.{Token, Lexeme, Name, Keyword, Number, Punctuator}
use Rattle.c_tree.specs.Languages.{◌⋅◌}
use Rattle.c_tree.specs.Languages as languages
use Rattle.c_tree.specs.Grammar.{program, item, statement, key, brackets, mutex_length}
use Rattle.c_tree.specs.TextReadings.{IsWhole, nests_high}
use Rattle.c_tree.proofs.Samples.{at, int, name, length_at}

abbrev token : ℕ → Lexeme → Token
token place lexeme = record { place = at place; lexeme = lexeme }

-- ---- `mutex m;`

abbrev word : Token
word = token 0 (Keyword k.Mutex)

abbrev named : Token
named = token 6 (Name (codes "m"))

abbrev end : Token
end = token 7 (Punctuator p.Semicolon)

is_program : program Plain (t.MutexItem (name (codes "m") 6) None ∷ []) (word ∷ named ∷ end ∷ [])
is_program = (
  word ∷ named ∷ end ∷ [],
  [],
  refl,
  (word ∷ [], named ∷ end ∷ [], refl, (at 0, refl), (named ∷ [], end ∷ [], refl, refl, ([], end ∷ [], refl, refl, (at 7, refl)))),
  refl,
)

is_whole : IsWhole Plain (word ∷ named ∷ end ∷ [])
is_whole = (t.MutexItem (name (codes "m") 6) None ∷ [], is_program)

-- ---- What only the full language has

abbrev opening : ℕ → Token
opening place = token place (Punctuator p.OpenBracket)

abbrev closing : ℕ → Token
closing place = token place (Punctuator p.CloseBracket)

abbrev one_at : ℕ → Token
one_at place = token place (Number (int 1))

-- `mutex m[1];`
is_array : item Full (t.MutexItem (name (codes "m") 6) (Some (length_at 8 (int 1))))
    (word ∷ named ∷ opening 7 ∷ one_at 8 ∷ closing 9 ∷ token 10 (Punctuator p.Semicolon) ∷ [])
is_array = (
  word ∷ [],
  _,
  refl,
  (at 0, refl),
  (
    named ∷ [],
    _,
    refl,
    refl,
    (
      opening 7 ∷ one_at 8 ∷ closing 9 ∷ [],
      _,
      refl,
      (opening 7 ∷ [], _, refl, (at 7, refl), (one_at 8 ∷ [], _, refl, refl, (at 9, refl))),
      (at 10, refl),
    ),
  ),
)

-- `lock(m[1]);`
has_key : statement Full (t.Lock (at 0) (name (codes "m") 5) (Some (t.Number (at 7) (int 1))))
    (token 0 (Keyword k.Lock) ∷ token 4 (Punctuator p.OpenParenthesis) ∷ token 5 (Name (codes "m")) ∷ opening 6 ∷ one_at 7 ∷ closing 8 ∷
    token 9 (Punctuator p.CloseParenthesis) ∷ token 10 (Punctuator p.Semicolon) ∷ [])
has_key = (
  token 0 (Keyword k.Lock) ∷ [],
  _,
  refl,
  refl,
  (
    token 4 (Punctuator p.OpenParenthesis) ∷ [],
    _,
    refl,
    (at 4, refl),
    (
      token 5 (Name (codes "m")) ∷ [],
      _,
      refl,
      refl,
      (
        opening 6 ∷ one_at 7 ∷ closing 8 ∷ [],
        _,
        refl,
        (opening 6 ∷ [], _, refl, (at 6, refl), (one_at 7 ∷ [], _, refl, refl, (at 8, refl))),
        (token 9 (Punctuator p.CloseParenthesis) ∷ [], _, refl, (at 9, refl), (at 10, refl)),
      ),
    ),
  ),
)

-- `m[]` of `persistent(m[])`
has_brackets : (languages.name (name (codes "m") 11) ⋅ brackets Full true) (token 11 (Name (codes "m")) ∷ opening 12 ∷ closing 13 ∷ [])
has_brackets = (token 11 (Name (codes "m")) ∷ [], _, refl, refl, (opening 12 ∷ [], _, refl, (at 12, refl), (at 13, refl)))

-- of the other language none of them is a part
no_array : (x : t.Length) (ts : List Token) → mutex_length Plain (Some x) ts → ⊥
no_array x ts u = u

no_key : (x : t.Expression) (ts : List Token) → key Plain (Some x) ts → ⊥
no_key x ts u = u

no_brackets : (ts : List Token) → brackets Plain true ts → ⊥
no_brackets ts u = u

-- ---- Nesting

abbrev marks : List pn.Punctuator → List Token
marks xs = map (λ x. token 0 (Punctuator x)) xs

many_low : nests_high (marks (replicate 128 p.OpenParenthesis)) ≡ false
unfolding nests_high
many_low = refl

one_too_many : nests_high (marks (replicate 128 p.OpenParenthesis ++ p.Binary b.Sub ∷ [])) ≡ true
unfolding nests_high
one_too_many = refl

-- a closing bracket takes nothing back, a `;` everything
closed : nests_high (marks (replicate 128 p.OpenBracket ++ p.CloseBracket ∷ p.OpenBracket ∷ [])) ≡ true
unfolding nests_high
closed = refl

separated : nests_high (marks (replicate 128 p.OpenBracket ++ p.Semicolon ∷ p.OpenBracket ∷ [])) ≡ false
unfolding nests_high
separated = refl

-- braces count while they are open
braces_open : nests_high (marks (replicate 129 p.OpenBrace)) ≡ true
unfolding nests_high
braces_open = refl

braces_closed : nests_high (marks (replicate 128 p.OpenBrace ++ p.CloseBrace ∷ p.OpenBrace ∷ [])) ≡ false
unfolding nests_high
braces_closed = refl
