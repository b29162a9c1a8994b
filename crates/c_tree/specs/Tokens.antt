-- Tokens.
use Rattle.std.specs.Prelude.{ℕ, List}
use Rattle.ido_base.specs.declared.place.Place.{Place}
use Rattle.ido_ints.specs.TypedNumbers.{Typed}
use Rattle.c_tree.specs.declared.token.Keyword as k
use Rattle.c_tree.specs.declared.token.Punctuator as p

-- what a token is: a word that isn't reserved, with its bytes; a reserved word; a number, of the kind of its literal; a punctuator
pub data Lexeme : Type 0 where
  Name : (bytes : List ℕ) → Lexeme
  Keyword : k.Keyword → Lexeme
  Number : Typed → Lexeme
  Punctuator : p.Punctuator → Lexeme

-- a token and the place of its first byte
pub record Token : Type 0 where
  pub place : Place
  pub lexeme : Lexeme
