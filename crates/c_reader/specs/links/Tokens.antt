-- The tokens that the types of `token` represent.
use Rattle.std.specs.Prelude.{List, map, pos}
use Rattle.ido_ints.specs.TypedNumbers.{Typed, typed_reduced}
use Rattle.c_tree.specs.Tokens as t
use Rattle.c_reader.specs.declared.token.Literal.{Literal}
use Rattle.c_reader.specs.declared.token.Lexeme.{Lexeme}
use Rattle.c_reader.specs.declared.token.Lexeme.TheVariants.{Name, Keyword, Number, Punctuator}
use Rattle.c_reader.specs.declared.token.Token.{Token}

abbrev pub value_of : Literal → Typed
value_of x = typed_reduced x.kind (pos x.number)

abbrev pub lexeme_of : Lexeme → t.Lexeme
lexeme_of (Name bytes) = t.Name bytes.now
lexeme_of (Keyword word) = t.Keyword word
lexeme_of (Number literal) = t.Number (value_of literal)
lexeme_of (Punctuator mark) = t.Punctuator mark

abbrev pub token_of : Token → t.Token
token_of x = record { place = x.place; lexeme = lexeme_of x.lexeme }

abbrev pub tokens_of : List Token → List t.Token
tokens_of xs = map token_of xs
