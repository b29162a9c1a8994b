-- Tests of tokens decide, and the parsers of single tokens keep their languages.
use Rattle.std.proofs.Common.{◌≡◌, ℕ, zero, suc, ◌+◌, List, [], ◌∷◌, Option, Some, None, Bool, true, false, sym, refl, ap, ◌∙◌, zero-lt-suc}
use Rattle.std.proofs.lemmas.Bool.{eqb-true, eq-eqb}
use Rattle.ido_base.specs.declared.place.Place.{Place}
use Rattle.ido_ints.specs.TypedNumbers.{Typed}
use Rattle.ido_ints.specs.declared.operators.Binary as bo
use Rattle.ido_ints.specs.declared.operators.Binary.TheVariants as binary
use Rattle.c_tree.specs.Tokens.{Token, Lexeme, Name, Keyword, Number, Punctuator}
use Rattle.c_tree.specs.declared.token.Keyword as kw
use Rattle.c_tree.specs.declared.token.Keyword.TheVariants as k
use Rattle.c_tree.specs.declared.token.Punctuator as pn
use Rattle.c_tree.specs.declared.token.Punctuator.TheVariants as p
use Rattle.c_tree.specs.Trees as t
use Rattle.c_tree.specs.Languages.{word_at, mark_at, number_at, name}
use Rattle.c_reader.specs.links.ParserFunctions.{is_mark, is_word, number_of_mark, number_of_word, number_of_operator, parse_mark}
use Rattle.c_reader.specs.links.ParserFunctions.{parse_word, parse_name, parse_number, parse_lexeme, name_in, number_in}
use Rattle.c_reader.proofs.CorrectParsers.{Spelling, Good, found_in, Anything, Strict, good_taking, good_to}

-- ---- Numbers of marks and words represent them

nth : {A : Type 0} → List A → ℕ → Option A
nth [] n = None
nth (x ∷ xs) zero = Some x
nth (x ∷ xs) (suc n) = nth xs n

all_marks : List pn.Punctuator
all_marks =
    p.OpenParenthesis ∷ p.CloseParenthesis ∷ p.OpenBracket ∷ p.CloseBracket ∷ p.OpenBrace ∷ p.CloseBrace ∷ p.Semicolon ∷ p.Comma ∷ p.Question ∷ p.Colon ∷
    p.Complement ∷ p.Not ∷ p.Assign ∷ p.Increment ∷ p.Decrement ∷ p.Star ∷ p.Ampersand ∷ p.Not ∷ p.Not ∷ p.Not ∷
    p.Binary binary.Mul ∷ p.Binary binary.Div ∷ p.Binary binary.Rem ∷ p.Binary binary.Add ∷ p.Binary binary.Sub ∷ p.Binary binary.ShiftLeft ∷
    p.Binary binary.ShiftRight ∷
    p.Binary binary.Less ∷ p.Binary binary.Greater ∷ p.Binary binary.LessEqual ∷ p.Binary binary.GreaterEqual ∷ p.Binary binary.Equal ∷
    p.Binary binary.NotEqual ∷
    p.Binary binary.And ∷ p.Binary binary.Xor ∷ p.Binary binary.Or ∷ p.Binary binary.LogicalAnd ∷ p.Binary binary.LogicalOr ∷ p.Not ∷ p.Not ∷
    p.Update binary.Mul ∷ p.Update binary.Div ∷ p.Update binary.Rem ∷ p.Update binary.Add ∷ p.Update binary.Sub ∷ p.Update binary.ShiftLeft ∷
    p.Update binary.ShiftRight ∷
    p.Update binary.Less ∷ p.Update binary.Greater ∷ p.Update binary.LessEqual ∷ p.Update binary.GreaterEqual ∷ p.Update binary.Equal ∷
    p.Update binary.NotEqual ∷
    p.Update binary.And ∷ p.Update binary.Xor ∷ p.Update binary.Or ∷ p.Update binary.LogicalAnd ∷ p.Update binary.LogicalOr ∷ []

all_words : List kw.Keyword
all_words =
    k.Mutex ∷ k.Persistent ∷ k.Thread ∷ k.Lock ∷ k.Unlock ∷ k.Void ∷ k.Char ∷ k.Short ∷ k.Int ∷ k.Long ∷ k.Signed ∷ k.Unsigned ∷ k.If ∷ k.Else ∷ k.While ∷
    k.Do ∷ k.For ∷ k.Return ∷ k.Ref ∷ k.Null ∷ []

mark_back : (x : pn.Punctuator) → nth all_marks (number_of_mark x) ≡ Some x
unfolding nth all_marks
mark_back p.OpenParenthesis = refl
mark_back p.CloseParenthesis = refl
mark_back p.OpenBracket = refl
mark_back p.CloseBracket = refl
mark_back p.OpenBrace = refl
mark_back p.CloseBrace = refl
mark_back p.Semicolon = refl
mark_back p.Comma = refl
mark_back p.Question = refl
mark_back p.Colon = refl
mark_back p.Complement = refl
mark_back p.Not = refl
mark_back p.Assign = refl
mark_back p.Increment = refl
mark_back p.Decrement = refl
mark_back p.Star = refl
mark_back p.Ampersand = refl
mark_back (p.Binary x) = of x
  where
    of : (x : bo.Binary) → nth all_marks (20 + number_of_operator x) ≡ Some (p.Binary x)
    of binary.Mul = refl
    of binary.Div = refl
    of binary.Rem = refl
    of binary.Add = refl
    of binary.Sub = refl
    of binary.ShiftLeft = refl
    of binary.ShiftRight = refl
    of binary.Less = refl
    of binary.Greater = refl
    of binary.LessEqual = refl
    of binary.GreaterEqual = refl
    of binary.Equal = refl
    of binary.NotEqual = refl
    of binary.And = refl
    of binary.Xor = refl
    of binary.Or = refl
    of binary.LogicalAnd = refl
    of binary.LogicalOr = refl
mark_back (p.Update x) = of x
  where
    of : (x : bo.Binary) → nth all_marks (40 + number_of_operator x) ≡ Some (p.Update x)
    of binary.Mul = refl
    of binary.Div = refl
    of binary.Rem = refl
    of binary.Add = refl
    of binary.Sub = refl
    of binary.ShiftLeft = refl
    of binary.ShiftRight = refl
    of binary.Less = refl
    of binary.Greater = refl
    of binary.LessEqual = refl
    of binary.GreaterEqual = refl
    of binary.Equal = refl
    of binary.NotEqual = refl
    of binary.And = refl
    of binary.Xor = refl
    of binary.Or = refl
    of binary.LogicalAnd = refl
    of binary.LogicalOr = refl

word_back : (x : kw.Keyword) → nth all_words (number_of_word x) ≡ Some x
unfolding nth all_words
word_back k.Mutex = refl
word_back k.Persistent = refl
word_back k.Thread = refl
word_back k.Lock = refl
word_back k.Unlock = refl
word_back k.Void = refl
word_back k.Char = refl
word_back k.Short = refl
word_back k.Int = refl
word_back k.Long = refl
word_back k.Signed = refl
word_back k.Unsigned = refl
word_back k.If = refl
word_back k.Else = refl
word_back k.While = refl
word_back k.Do = refl
word_back k.For = refl
word_back k.Return = refl
word_back k.Ref = refl
word_back k.Null = refl

abbrev or_else : {A : Type 0} → A → Option A → A
or_else d None = d
or_else d (Some x) = x

pub some_same : {A : Type 0} (x y : A) → Some x ≡ Some y → x ≡ y
some_same x y e = ap (or_else x) e

same_mark : (x y : pn.Punctuator) → number_of_mark x ≡ number_of_mark y → x ≡ y
same_mark x y e = some_same x y (sym (mark_back x) ∙ ap (nth all_marks) e ∙ mark_back y)

same_word : (x y : kw.Keyword) → number_of_word x ≡ number_of_word y → x ≡ y
same_word x y e = some_same x y (sym (word_back x) ∙ ap (nth all_words) e ∙ word_back y)

pub is_mark-true : (x : pn.Punctuator) (l : Lexeme) → is_mark x l ≡ true → l ≡ Punctuator x
is_mark-true x (Punctuator y) e = ap Punctuator (sym (same_mark x y (eqb-true (number_of_mark x) (number_of_mark y) e)))
is_mark-true x (Name bytes) e = cc
is_mark-true x (Keyword y) e = cc
is_mark-true x (Number value) e = cc

pub is_mark-same : (x : pn.Punctuator) → is_mark x (Punctuator x) ≡ true
is_mark-same x = eq-eqb (number_of_mark x) (number_of_mark x) refl

pub is_word-true : (x : kw.Keyword) (l : Lexeme) → is_word x l ≡ true → l ≡ Keyword x
is_word-true x (Keyword y) e = ap Keyword (sym (same_word x y (eqb-true (number_of_word x) (number_of_word y) e)))
is_word-true x (Name bytes) e = cc
is_word-true x (Punctuator y) e = cc
is_word-true x (Number value) e = cc

pub is_word-same : (x : kw.Keyword) → is_word x (Keyword x) ≡ true
is_word-same x = eq-eqb (number_of_word x) (number_of_word x) refl

-- ---- Single tokens

-- a token of this lexeme, by its place
abbrev pub marked : pn.Punctuator → Spelling Place
marked x place = mark_at place x

abbrev pub worded : kw.Keyword → Spelling Place
worded x place = word_at place x

abbrev pub named : Spelling t.Name
named x = name x

abbrev pub numbered : Spelling (Place × Typed)
numbered x = number_at x.0 x.1

-- the token that passes a test for one lexeme
abbrev place_where : (Lexeme → Bool) → Token → Option Place
place_where test t = elim (test t.lexeme) [ true ↦ Some t.place | false ↦ None ]

lexeme_found : (test : Lexeme → Bool) (x : Lexeme) → ((l : Lexeme) → test l ≡ true → l ≡ x) → (place : Place) (us : List Token)
    → found_in (place_where test) place us → us ≡ record { place = place; lexeme = x } ∷ []
lexeme_found test x only place us (t, e, f) = go (test t.lexeme) refl f
  where
    go : (b : Bool) → test t.lexeme ≡ b → elim b as (λ b. Option Place) [ true ↦ Some t.place | false ↦ None ] ≡ Some place
        → us ≡ record { place = place; lexeme = x } ∷ []
    go true q f = rw (e, ← only t.lexeme q, ← some_same t.place place f) refl
    go false q f = cc

lexeme_finds : (test : Lexeme → Bool) (x : Lexeme) → test x ≡ true → (place : Place) (us : List Token) → us ≡ record { place = place; lexeme = x } ∷ []
    → found_in (place_where test) place us
lexeme_finds test x passes place us e = (record { place = place; lexeme = x }, e, rw (passes, place_where) refl)

good_lexeme : {b : ℕ} (test : Lexeme → Bool) (x : Lexeme) → ((l : Lexeme) → test l ≡ true → l ≡ x) → test x ≡ true →
    Good b (λ place ts. ts ≡ record { place = place; lexeme = x } ∷ []) (λ place ts. ts ≡ record { place = place; lexeme = x } ∷ []) Anything
    (parse_lexeme test) (parse_lexeme test)
good_lexeme test x only passes =
    let z : Place = record { 0 = 0 } in
    good_to (good_taking (place_where test) (record { place = z; lexeme = x }) z (rw (passes, place_where) refl)) (lexeme_found test x only)
    (lexeme_finds test x passes) (λ h f. f)

pub good_mark : {b : ℕ} (x : pn.Punctuator) → Good b (marked x) (marked x) Anything (parse_mark x) (parse_mark x)
good_mark x = good_lexeme (is_mark x) (Punctuator x) (is_mark-true x) (is_mark-same x)

pub good_word : {b : ℕ} (x : kw.Keyword) → Good b (worded x) (worded x) Anything (parse_word x) (parse_word x)
good_word x = good_lexeme (is_word x) (Keyword x) (is_word-true x) (is_word-same x)

pub marked-strict : (x : pn.Punctuator) → Strict (marked x)
marked-strict x place us e = rw e (zero-lt-suc 0)

pub worded-strict : (x : kw.Keyword) → Strict (worded x)
worded-strict x place us e = rw e (zero-lt-suc 0)

name_found : (x : t.Name) (us : List Token) → found_in name_in x us → name x us
name_found x us (o, e, f) = go o.lexeme refl f
  where
    go : (l : Lexeme) → o.lexeme ≡ l → elim l as (λ l. Option t.Name) [ Name bytes ↦ Some (record { text = bytes; place = o.place }) | _ ↦ None ] ≡ Some x
        → name x us
    go (Name bytes) q f =
        let s : record { text = bytes; place = o.place } ≡ x = some_same (record { text = bytes; place = o.place }) x f in rw (e, ← s, ← q) refl
    go (Keyword y) q f = cc
    go (Number y) q f = cc
    go (Punctuator y) q f = cc

pub good_name : {b : ℕ} → Good b named named Anything parse_name parse_name
good_name =
    let z : Place = record { 0 = 0 } in
    good_to (good_taking name_in (record { place = z; lexeme = Name [] }) (record { text = []; place = z }) refl) name_found
    (λ x us e. (record { place = x.place; lexeme = Name x.text }, e, refl)) (λ h f. f)

pub named-strict : Strict named
named-strict x us e = rw e (zero-lt-suc 0)

number_found : (x : Place × Typed) (us : List Token) → found_in number_in x us → numbered x us
number_found x us (o, e, f) = go o.lexeme refl f
  where
    go : (l : Lexeme) → o.lexeme ≡ l → elim l as (λ l. Option (Place × Typed)) [ Number value ↦ Some (o.place, value) | _ ↦ None ] ≡ Some x → numbered x us
    go (Number value) q f = let s : (o.place, value) ≡ x = some_same (o.place, value) x f in rw (e, ← s, ← q) refl
    go (Name y) q f = cc
    go (Keyword y) q f = cc
    go (Punctuator y) q f = cc

pub good_number : {b : ℕ} → (z : Typed) → Good b numbered numbered Anything parse_number parse_number
good_number z =
    let o : Place = record { 0 = 0 } in
    good_to (good_taking number_in (record { place = o; lexeme = Number z }) (o, z) refl) number_found
    (λ x us e. (record { place = x.0; lexeme = Number x.1 }, e, refl)) (λ h f. f)

pub numbered-strict : Strict numbered
numbered-strict x us e = rw e (zero-lt-suc 0)
