-- Languages of tokens: which lists of tokens belong to a part of a text.
use Rattle.std.specs.Prelude.{◌≡◌, ◌⊎◌, List, [], ◌∷◌, ◌++◌, map, Option, Some, None}
use Rattle.ido_base.specs.declared.place.Place.{Place}
use Rattle.ido_ints.specs.TypedNumbers.{Typed}
use Rattle.c_tree.specs.Tokens.{Token, Lexeme, Name, Keyword, Number, Punctuator}
use Rattle.c_tree.specs.declared.token.Keyword as k
use Rattle.c_tree.specs.declared.token.Punctuator as p
use Rattle.c_tree.specs.declared.token.Punctuator.TheVariants as marks
use Rattle.c_tree.specs.Trees as t

-- ---- Operations on languages

-- no token
abbrev pub empty : List Token → Type 0
empty ts = ts ≡ []

-- concatenation: a list of the one and after it a list of the other
infixr 6 ◌⋅◌
abbrev pub ◌⋅◌ : (List Token → Type 0) → (List Token → Type 0) → List Token → Type 0
(P ⋅ Q) ts = (us : List Token) × (vs : List Token) × (ts ≡ us ++ vs) × P us × Q vs

-- no list
abbrev pub never : List Token → Type 0
never ts = ⊥

-- a list of the language, where the premise holds
abbrev pub provided : Type 0 → (List Token → Type 0) → List Token → Type 0
provided A P ts = A × P ts

-- a list of the one or of the other
infixr 5 ◌or◌
abbrev pub ◌or◌ : (List Token → Type 0) → (List Token → Type 0) → List Token → Type 0
(P or Q) ts = P ts ⊎ Q ts

-- the first token stands at this place
abbrev pub first_place : List Token → Option Place
first_place [] = None
first_place (t ∷ ts) = Some t.place

abbrev pub starting_at : Place → (List Token → Type 0) → List Token → Type 0
starting_at place P ts = (first_place ts ≡ Some place) × P ts

-- ---- Tokens

-- one token of this kind
abbrev pub lexeme : Lexeme → List Token → Type 0
lexeme x ts = (place : Place) × (ts ≡ record { place = place; lexeme = x } ∷ [])

-- one token of this kind, at this place
abbrev pub lexeme_at : Place → Lexeme → List Token → Type 0
lexeme_at place x ts = ts ≡ record { place = place; lexeme = x } ∷ []

abbrev pub word : k.Keyword → List Token → Type 0
word x = lexeme (Keyword x)

abbrev pub word_at : Place → k.Keyword → List Token → Type 0
word_at place x = lexeme_at place (Keyword x)

abbrev pub mark : p.Punctuator → List Token → Type 0
mark x = lexeme (Punctuator x)

abbrev pub mark_at : Place → p.Punctuator → List Token → Type 0
mark_at place x = lexeme_at place (Punctuator x)

abbrev pub number : Typed → List Token → Type 0
number value = lexeme (Number value)

abbrev pub number_at : Place → Typed → List Token → Type 0
number_at place value = lexeme_at place (Number value)

abbrev pub name : t.Name → List Token → Type 0
name x = lexeme_at x.place (Name x.text)

-- these reserved words, one after the other
abbrev pub words : List k.Keyword → List Token → Type 0
words ks ts = map (λ t. t.lexeme) ts ≡ map Keyword ks

-- ---- Lists

-- each thing's tokens, one after the other
abbrev pub all_of : {A : Type 0} → (A → List Token → Type 0) → List A → List Token → Type 0
all_of P [] = empty
all_of P (x ∷ xs) = P x ⋅ all_of P xs

-- a comma and a thing, any number of times
abbrev pub more_of : {A : Type 0} → (A → List Token → Type 0) → List A → List Token → Type 0
more_of P xs = all_of (λ x. mark marks.Comma ⋅ P x) xs

-- things with commas between them, one at least
abbrev pub some_of : {A : Type 0} → (A → List Token → Type 0) → List A → List Token → Type 0
some_of P [] = never
some_of P (x ∷ xs) = P x ⋅ more_of P xs

-- things with commas between them, or none
abbrev pub list_of : {A : Type 0} → (A → List Token → Type 0) → List A → List Token → Type 0
list_of P [] = empty
list_of P (x ∷ xs) = P x ⋅ more_of P xs

-- a thing, where there is one
abbrev pub maybe : {A : Type 0} → (A → List Token → Type 0) → Option A → List Token → Type 0
maybe P None = empty
maybe P (Some x) = P x
