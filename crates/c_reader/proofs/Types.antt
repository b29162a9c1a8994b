-- The parser of types keeps their language.
use Rattle.std.proofs.Common.{◌≡◌, ℕ, zero, suc, List, [], ◌∷◌, ◌++◌, Option, Some, None, true, false}
use Rattle.std.proofs.Common.{sym, refl, ap, subst, inl, inr, arith, lit<, le_of_suc-le-suc, true≢false}
use Rattle.std.specs.Prelude.{◌⊎◌, Contains}
use Rattle.ido_base.specs.declared.place.Place.{Place}
use Rattle.ido_ints.specs.declared.kinds.Kind.{Kind}
use Rattle.ido_ints.specs.declared.kinds.Kind.TheVariants as kind
use Rattle.c_tree.specs.Tokens.{Token, Lexeme, Keyword}
use Rattle.c_tree.specs.declared.token.Keyword as kw
use Rattle.c_tree.specs.declared.token.Keyword.TheVariants as k
use Rattle.c_tree.specs.Languages.{maybe, words}
use Rattle.c_tree.specs.Trees as t
use Rattle.c_tree.specs.declared.token.Punctuator.TheVariants as p
use Rattle.c_tree.specs.Grammar.{type, type_name, spellings}
use Rattle.c_reader.specs.links.ParserFunctions.{give, by_head, head_of, head_is, is_word, parse_word, parse_int}
use Rattle.c_reader.specs.links.ParserFunctions.{signed_by, unsigned_by, type_by, parse_type, begins_kind, begins_type, type_name_by, parse_type_name, ◌>>◌}
use Rattle.c_reader.proofs.CorrectParsers.{Spelling, Good, ◌▷◌, ◌▹◌, just, nothing, Anything, good_give, good_to, good_map, good_head, good_then, good_wrong}
use Rattle.c_reader.proofs.Tokens.{worded, marked, named, good_word, good_mark, good_name}
use Rattle.c_reader.proofs.OptionalParts.{Unless, good_maybe}

-- ---- Spellings, one token at a time

abbrev token : Place → kw.Keyword → Token
token place x = record { place = place; lexeme = Keyword x }

abbrev Spelled : List kw.Keyword → List Token → Type 0
Spelled [] us = us ≡ []
Spelled (x ∷ xs) us = (place : Place) × (vs : List Token) × (us ≡ token place x ∷ vs) × Spelled xs vs

abbrev OneOf : List (List kw.Keyword) → List Token → Type 0
OneOf [] us = ⊥
OneOf (ks ∷ kss) us = Spelled ks us ⊎ OneOf kss us

abbrev first_or : {A : Type 0} → A → List A → A
first_or d [] = d
first_or d (x ∷ xs) = x

abbrev rest_of : {A : Type 0} → List A → List A
rest_of [] = []
rest_of (x ∷ xs) = xs

words-spelled : (ks : List kw.Keyword) (us : List Token) → words ks us → Spelled ks us
words-spelled [] [] e = refl
words-spelled [] (u ∷ us) e = cc
words-spelled (x ∷ xs) [] e = cc
words-spelled (x ∷ xs) (u ∷ us) e =
    let q : u.lexeme ≡ Keyword x = ap (first_or u.lexeme) e in
    (u.place, us, ap (λ l. record { place = u.place; lexeme = l } ∷ us) q, words-spelled xs us (ap rest_of e))

one_of : (kss : List (List kw.Keyword)) (ks : List kw.Keyword) (us : List Token) → Contains kss ks → words ks us → OneOf kss us
one_of [] ks us (n, h, e) w = omega (arith, h)
one_of (ks' ∷ kss) ks us (zero, h, e) w = inl (words-spelled ks' us (subst (λ x. words x us) (sym e) w))
one_of (ks' ∷ kss) ks us (suc n, h, e) w = inr (one_of kss ks us (n, le_of_suc-le-suc h, e) w)

type-one_of : (x : Kind) (us : List Token) → type x us → OneOf (spellings x) us
type-one_of x us (ks, c, w) = one_of (spellings x) ks us c w

-- the words of a type, by kind and spelling: what the first word may be
abbrev pub TypeEnd : Option Lexeme → Type 0
TypeEnd h =
    (head_is (is_word k.Char) h ≡ false) × (head_is (is_word k.Short) h ≡ false) × (head_is (is_word k.Int) h ≡ false) × (head_is (is_word k.Long) h ≡ false)

int_part : {b : ℕ} → Good b (maybe (worded k.Int)) (maybe (worded k.Int)) (Unless (is_word k.Int) Anything) parse_int parse_int
int_part = good_maybe (is_word k.Int) (good_word k.Int) (λ x us rest u. rw u refl)

-- one word, for one kind
abbrev Alone : kw.Keyword → Kind → Spelling Kind
Alone w x = worded w ▹ (λ p. x)

-- one word and perhaps `int`, for one kind
abbrev WithInt : kw.Keyword → Kind → Spelling Kind
WithInt w x = worded w ▷ (λ p. maybe (worded k.Int) ▹ (λ i. x))

alone : {b : ℕ} {U : Spelling Kind} (w : kw.Keyword) (x : Kind) → ((y : Kind) (us : List Token) → Alone w x y us → U y us)
    → Good b U (Alone w x) TypeEnd (do parse_word w; give x) (do parse_word w; give x)
alone w x up = good_to (good_map (λ p. x) (good_word w)) up (λ y us u. u) (λ h f. tt)

with_int : {b : ℕ} {U : Spelling Kind} (w : kw.Keyword) (x : Kind) → ((y : Kind) (us : List Token) → WithInt w x y us → U y us) →
    Good b U (WithInt w x) TypeEnd (do parse_word w; parse_int; give x) (do parse_word w; parse_int; give x)
with_int w x up = good_to {F = Unless (is_word k.Int) Anything} (good_then (good_word w) (λ p. good_map (λ i. x) int_part) (λ p y us rest m f. tt)) up
    (λ y us u. u) (λ h f. (tt, f.2))

-- ---- After `signed`, and after `unsigned`

-- what makes the kind when this word stands before it
abbrev After : kw.Keyword → Spelling Kind
After w x us = (place : Place) → type x (token place w ∷ us)

abbrev signed_language : Option Lexeme → Spelling Kind
signed_language (Some (Keyword k.Char)) = Alone k.Char kind.SignedChar
signed_language (Some (Keyword k.Short)) = WithInt k.Short kind.Short
signed_language (Some (Keyword k.Int)) = Alone k.Int kind.Int
signed_language (Some (Keyword k.Long)) = WithInt k.Long kind.Long
signed_language _ = just kind.Int

-- from spellings: one, two and three words
one_word : (x : Kind) (w : kw.Keyword) → Contains (spellings x) (w ∷ []) → (place : Place) → type x (token place w ∷ [])
one_word x w c place = (w ∷ [], c, refl)

two_words : (x : Kind) (w v : kw.Keyword) → Contains (spellings x) (w ∷ v ∷ []) → (place place' : Place) → type x (token place w ∷ token place' v ∷ [])
two_words x w v c place place' = (w ∷ v ∷ [], c, refl)

three_words : (x : Kind) (w v u : kw.Keyword) → Contains (spellings x) (w ∷ v ∷ u ∷ []) → (place place' place'' : Place)
    → type x (token place w ∷ token place' v ∷ token place'' u ∷ [])
three_words x w v u c place place' place'' = (w ∷ v ∷ u ∷ [], c, refl)

-- the kinds of a word alone, and with `int`
alone_up : (w : kw.Keyword) (x : Kind) → Contains (spellings x) (w ∷ []) → (y : Kind) (us : List Token) → Alone w x y us → type y us
alone_up w x c y us (p, e, q) = rw (e, ← q) (one_word x w c p)

int_up : (w : kw.Keyword) (x : Kind) → Contains (spellings x) (w ∷ []) → Contains (spellings x) (w ∷ k.Int ∷ []) → (y : Kind) (us : List Token)
    → WithInt w x y us → type y us
int_up w x c d y us (p, us', vs, e, l, (None, m, q)) = rw (e, l, m, ← q) (one_word x w c p)
int_up w x c d y us (p, us', vs, e, l, (Some i, m, q)) = rw (e, l, m, ← q) (two_words x w k.Int d p i)

after_alone_up : (v w : kw.Keyword) (x : Kind) → Contains (spellings x) (v ∷ w ∷ []) → (y : Kind) (us : List Token) → Alone w x y us → After v y us
after_alone_up v w x c y us (p, e, q) place = rw (e, ← q) (two_words x v w c place p)

after_int_up : (v w : kw.Keyword) (x : Kind) → Contains (spellings x) (v ∷ w ∷ []) → Contains (spellings x) (v ∷ w ∷ k.Int ∷ []) → (y : Kind) (us : List Token)
    → WithInt w x y us → After v y us
after_int_up v w x c d y us (p, us', vs, e, l, (None, m, q)) place = rw (e, l, m, ← q) (two_words x v w c place p)
after_int_up v w x c d y us (p, us', vs, e, l, (Some i, m, q)) place = rw (e, l, m, ← q) (three_words x v w k.Int d place p i)

after_none_up : (v : kw.Keyword) (x : Kind) → Contains (spellings x) (v ∷ []) → (y : Kind) (us : List Token) → just x y us → After v y us
after_none_up v x c y us (q, e) place = rw (e, ← q) (one_word x v c place)

after_none : {b : ℕ} (v : kw.Keyword) (x : Kind) → Contains (spellings x) (v ∷ []) → Good b (After v) (just x) TypeEnd (give x) (give x)
after_none v x c = good_to (good_give x) (after_none_up v x c) (λ y us u. u) (λ h f. tt)

signed_good : {b : ℕ} (h : Option Lexeme) → Good b (After k.Signed) (signed_language h) TypeEnd (signed_by h) (signed_by h)
signed_good (Some (Keyword k.Char)) = alone k.Char kind.SignedChar (after_alone_up k.Signed k.Char kind.SignedChar (0, lit< tt, refl))
signed_good (Some (Keyword k.Short)) = with_int k.Short kind.Short (after_int_up k.Signed k.Short kind.Short (2, lit< tt, refl) (3, lit< tt, refl))
signed_good (Some (Keyword k.Int)) = alone k.Int kind.Int (after_alone_up k.Signed k.Int kind.Int (2, lit< tt, refl))
signed_good (Some (Keyword k.Long)) = with_int k.Long kind.Long (after_int_up k.Signed k.Long kind.Long (2, lit< tt, refl) (3, lit< tt, refl))
signed_good _ = after_none k.Signed kind.Int (1, lit< tt, refl)

at_0 : Place
at_0 = record { 0 = 0 }

same_first : {w v : kw.Keyword} (p q : Place) (us vs : List Token) → token p w ∷ us ≡ token q v ∷ vs → Keyword w ≡ Keyword v
same_first {w = w} p q us vs e = ap (λ l. lexeme_or (Keyword w) l) e
  where
    lexeme_or : Lexeme → List Token → Lexeme
    lexeme_or d [] = d
    lexeme_or d (t ∷ ts) = t.lexeme

signed_other : (h : Option Lexeme) → TypeEnd h → signed_language h kind.Int []
signed_other (Some (Keyword k.Char)) f = absurd (true≢false f.0)
signed_other (Some (Keyword k.Short)) f = absurd (true≢false f.1)
signed_other (Some (Keyword k.Int)) f = absurd (true≢false f.2)
signed_other (Some (Keyword k.Long)) f = absurd (true≢false f.3)
signed_other _ f = (refl, refl)

signed_out : (x : Kind) (us rest : List Token) → OneOf (spellings x) (token at_0 k.Signed ∷ us) → TypeEnd (head_of rest)
    → signed_language (head_of (us ++ rest)) x us
signed_out kind.Char us rest (inl (p0, v0, e0, e1)) f = let q : Keyword k.Signed ≡ Keyword k.Char = same_first at_0 p0 us v0 e0 in cc
signed_out kind.Char us rest (inr z) f = elim z [ ]
signed_out kind.UnsignedChar us rest (inl (p0, v0, e0, (p1, v1, e1, e2))) f = let q : Keyword k.Signed ≡ Keyword k.Unsigned = same_first at_0 p0 us v0 e0 in cc
signed_out kind.UnsignedChar us rest (inr z) f = elim z [ ]
signed_out kind.SignedChar us rest (inl (p0, v0, e0, (p1, v1, e1, e2))) f = let r : us ≡ v0 = ap rest_of e0 in rw (r, e1, e2) ((p1, refl, refl))
signed_out kind.SignedChar us rest (inr z) f = elim z [ ]
signed_out kind.Short us rest (inl (p0, v0, e0, e1)) f = let q : Keyword k.Signed ≡ Keyword k.Short = same_first at_0 p0 us v0 e0 in cc
signed_out kind.Short us rest (inr (inl (p0, v0, e0, (p1, v1, e1, e2)))) f = let q : Keyword k.Signed ≡ Keyword k.Short = same_first at_0 p0 us v0 e0 in cc
signed_out kind.Short us rest (inr (inr (inl (p0, v0, e0, (p1, v1, e1, e2))))) f =
    let r : us ≡ v0 = ap rest_of e0 in rw (r, e1, e2) ((p1, token p1 k.Short ∷ [], [], refl, refl, (None, refl, refl)))
signed_out kind.Short us rest (inr (inr (inr (inl (p0, v0, e0, (p1, v1, e1, (p2, v2, e2, e3))))))) f =
    let r : us ≡ v0 = ap rest_of e0 in rw (r, e1, e2, e3) ((p1, token p1 k.Short ∷ [], token p2 k.Int ∷ [], refl, refl, (Some p2, refl, refl)))
signed_out kind.Short us rest (inr (inr (inr (inr z)))) f = elim z [ ]
signed_out kind.UnsignedShort us rest (inl (p0, v0, e0, (p1, v1, e1, e2))) f = let q : Keyword k.Signed ≡ Keyword k.Unsigned = same_first at_0 p0 us v0 e0 in cc
signed_out kind.UnsignedShort us rest (inr (inl (p0, v0, e0, (p1, v1, e1, (p2, v2, e2, e3))))) f =
    let q : Keyword k.Signed ≡ Keyword k.Unsigned = same_first at_0 p0 us v0 e0 in cc
signed_out kind.UnsignedShort us rest (inr (inr z)) f = elim z [ ]
signed_out kind.Int us rest (inl (p0, v0, e0, e1)) f = let q : Keyword k.Signed ≡ Keyword k.Int = same_first at_0 p0 us v0 e0 in cc
signed_out kind.Int us rest (inr (inl (p0, v0, e0, e1))) f = let r : us ≡ v0 = ap rest_of e0 in rw (r, e1) (signed_other (head_of rest) f)
signed_out kind.Int us rest (inr (inr (inl (p0, v0, e0, (p1, v1, e1, e2))))) f = let r : us ≡ v0 = ap rest_of e0 in rw (r, e1, e2) ((p1, refl, refl))
signed_out kind.Int us rest (inr (inr (inr z))) f = elim z [ ]
signed_out kind.UnsignedInt us rest (inl (p0, v0, e0, e1)) f = let q : Keyword k.Signed ≡ Keyword k.Unsigned = same_first at_0 p0 us v0 e0 in cc
signed_out kind.UnsignedInt us rest (inr (inl (p0, v0, e0, (p1, v1, e1, e2)))) f =
    let q : Keyword k.Signed ≡ Keyword k.Unsigned = same_first at_0 p0 us v0 e0 in cc
signed_out kind.UnsignedInt us rest (inr (inr z)) f = elim z [ ]
signed_out kind.Long us rest (inl (p0, v0, e0, e1)) f = let q : Keyword k.Signed ≡ Keyword k.Long = same_first at_0 p0 us v0 e0 in cc
signed_out kind.Long us rest (inr (inl (p0, v0, e0, (p1, v1, e1, e2)))) f = let q : Keyword k.Signed ≡ Keyword k.Long = same_first at_0 p0 us v0 e0 in cc
signed_out kind.Long us rest (inr (inr (inl (p0, v0, e0, (p1, v1, e1, e2))))) f =
    let r : us ≡ v0 = ap rest_of e0 in rw (r, e1, e2) ((p1, token p1 k.Long ∷ [], [], refl, refl, (None, refl, refl)))
signed_out kind.Long us rest (inr (inr (inr (inl (p0, v0, e0, (p1, v1, e1, (p2, v2, e2, e3))))))) f =
    let r : us ≡ v0 = ap rest_of e0 in rw (r, e1, e2, e3) ((p1, token p1 k.Long ∷ [], token p2 k.Int ∷ [], refl, refl, (Some p2, refl, refl)))
signed_out kind.Long us rest (inr (inr (inr (inr z)))) f = elim z [ ]
signed_out kind.UnsignedLong us rest (inl (p0, v0, e0, (p1, v1, e1, e2))) f = let q : Keyword k.Signed ≡ Keyword k.Unsigned = same_first at_0 p0 us v0 e0 in cc
signed_out kind.UnsignedLong us rest (inr (inl (p0, v0, e0, (p1, v1, e1, (p2, v2, e2, e3))))) f =
    let q : Keyword k.Signed ≡ Keyword k.Unsigned = same_first at_0 p0 us v0 e0 in cc
signed_out kind.UnsignedLong us rest (inr (inr z)) f = elim z [ ]

abbrev unsigned_language : Option Lexeme → Spelling Kind
unsigned_language (Some (Keyword k.Char)) = Alone k.Char kind.UnsignedChar
unsigned_language (Some (Keyword k.Short)) = WithInt k.Short kind.UnsignedShort
unsigned_language (Some (Keyword k.Int)) = Alone k.Int kind.UnsignedInt
unsigned_language (Some (Keyword k.Long)) = WithInt k.Long kind.UnsignedLong
unsigned_language _ = just kind.UnsignedInt

unsigned_good : {b : ℕ} (h : Option Lexeme) → Good b (After k.Unsigned) (unsigned_language h) TypeEnd (unsigned_by h) (unsigned_by h)
unsigned_good (Some (Keyword k.Char)) = alone k.Char kind.UnsignedChar (after_alone_up k.Unsigned k.Char kind.UnsignedChar (0, lit< tt, refl))
unsigned_good (Some (Keyword k.Short)) =
    with_int k.Short kind.UnsignedShort (after_int_up k.Unsigned k.Short kind.UnsignedShort (0, lit< tt, refl) (1, lit< tt, refl))
unsigned_good (Some (Keyword k.Int)) = alone k.Int kind.UnsignedInt (after_alone_up k.Unsigned k.Int kind.UnsignedInt (1, lit< tt, refl))
unsigned_good (Some (Keyword k.Long)) =
    with_int k.Long kind.UnsignedLong (after_int_up k.Unsigned k.Long kind.UnsignedLong (0, lit< tt, refl) (1, lit< tt, refl))
unsigned_good _ = after_none k.Unsigned kind.UnsignedInt (0, lit< tt, refl)

unsigned_other : (h : Option Lexeme) → TypeEnd h → unsigned_language h kind.UnsignedInt []
unsigned_other (Some (Keyword k.Char)) f = absurd (true≢false f.0)
unsigned_other (Some (Keyword k.Short)) f = absurd (true≢false f.1)
unsigned_other (Some (Keyword k.Int)) f = absurd (true≢false f.2)
unsigned_other (Some (Keyword k.Long)) f = absurd (true≢false f.3)
unsigned_other _ f = (refl, refl)

unsigned_out : (x : Kind) (us rest : List Token) → OneOf (spellings x) (token at_0 k.Unsigned ∷ us) → TypeEnd (head_of rest)
    → unsigned_language (head_of (us ++ rest)) x us
unsigned_out kind.Char us rest (inl (p0, v0, e0, e1)) f = let q : Keyword k.Unsigned ≡ Keyword k.Char = same_first at_0 p0 us v0 e0 in cc
unsigned_out kind.Char us rest (inr z) f = elim z [ ]
unsigned_out kind.UnsignedChar us rest (inl (p0, v0, e0, (p1, v1, e1, e2))) f = let r : us ≡ v0 = ap rest_of e0 in rw (r, e1, e2) ((p1, refl, refl))
unsigned_out kind.UnsignedChar us rest (inr z) f = elim z [ ]
unsigned_out kind.SignedChar us rest (inl (p0, v0, e0, (p1, v1, e1, e2))) f = let q : Keyword k.Unsigned ≡ Keyword k.Signed = same_first at_0 p0 us v0 e0 in cc
unsigned_out kind.SignedChar us rest (inr z) f = elim z [ ]
unsigned_out kind.Short us rest (inl (p0, v0, e0, e1)) f = let q : Keyword k.Unsigned ≡ Keyword k.Short = same_first at_0 p0 us v0 e0 in cc
unsigned_out kind.Short us rest (inr (inl (p0, v0, e0, (p1, v1, e1, e2)))) f = let q : Keyword k.Unsigned ≡ Keyword k.Short = same_first at_0 p0 us v0 e0 in cc
unsigned_out kind.Short us rest (inr (inr (inl (p0, v0, e0, (p1, v1, e1, e2))))) f =
    let q : Keyword k.Unsigned ≡ Keyword k.Signed = same_first at_0 p0 us v0 e0 in cc
unsigned_out kind.Short us rest (inr (inr (inr (inl (p0, v0, e0, (p1, v1, e1, (p2, v2, e2, e3))))))) f =
    let q : Keyword k.Unsigned ≡ Keyword k.Signed = same_first at_0 p0 us v0 e0 in cc
unsigned_out kind.Short us rest (inr (inr (inr (inr z)))) f = elim z [ ]
unsigned_out kind.UnsignedShort us rest (inl (p0, v0, e0, (p1, v1, e1, e2))) f =
    let r : us ≡ v0 = ap rest_of e0 in rw (r, e1, e2) ((p1, token p1 k.Short ∷ [], [], refl, refl, (None, refl, refl)))
unsigned_out kind.UnsignedShort us rest (inr (inl (p0, v0, e0, (p1, v1, e1, (p2, v2, e2, e3))))) f =
    let r : us ≡ v0 = ap rest_of e0 in rw (r, e1, e2, e3) ((p1, token p1 k.Short ∷ [], token p2 k.Int ∷ [], refl, refl, (Some p2, refl, refl)))
unsigned_out kind.UnsignedShort us rest (inr (inr z)) f = elim z [ ]
unsigned_out kind.Int us rest (inl (p0, v0, e0, e1)) f = let q : Keyword k.Unsigned ≡ Keyword k.Int = same_first at_0 p0 us v0 e0 in cc
unsigned_out kind.Int us rest (inr (inl (p0, v0, e0, e1))) f = let q : Keyword k.Unsigned ≡ Keyword k.Signed = same_first at_0 p0 us v0 e0 in cc
unsigned_out kind.Int us rest (inr (inr (inl (p0, v0, e0, (p1, v1, e1, e2))))) f =
    let q : Keyword k.Unsigned ≡ Keyword k.Signed = same_first at_0 p0 us v0 e0 in cc
unsigned_out kind.Int us rest (inr (inr (inr z))) f = elim z [ ]
unsigned_out kind.UnsignedInt us rest (inl (p0, v0, e0, e1)) f = let r : us ≡ v0 = ap rest_of e0 in rw (r, e1) (unsigned_other (head_of rest) f)
unsigned_out kind.UnsignedInt us rest (inr (inl (p0, v0, e0, (p1, v1, e1, e2)))) f = let r : us ≡ v0 = ap rest_of e0 in rw (r, e1, e2) ((p1, refl, refl))
unsigned_out kind.UnsignedInt us rest (inr (inr z)) f = elim z [ ]
unsigned_out kind.Long us rest (inl (p0, v0, e0, e1)) f = let q : Keyword k.Unsigned ≡ Keyword k.Long = same_first at_0 p0 us v0 e0 in cc
unsigned_out kind.Long us rest (inr (inl (p0, v0, e0, (p1, v1, e1, e2)))) f = let q : Keyword k.Unsigned ≡ Keyword k.Long = same_first at_0 p0 us v0 e0 in cc
unsigned_out kind.Long us rest (inr (inr (inl (p0, v0, e0, (p1, v1, e1, e2))))) f =
    let q : Keyword k.Unsigned ≡ Keyword k.Signed = same_first at_0 p0 us v0 e0 in cc
unsigned_out kind.Long us rest (inr (inr (inr (inl (p0, v0, e0, (p1, v1, e1, (p2, v2, e2, e3))))))) f =
    let q : Keyword k.Unsigned ≡ Keyword k.Signed = same_first at_0 p0 us v0 e0 in cc
unsigned_out kind.Long us rest (inr (inr (inr (inr z)))) f = elim z [ ]
unsigned_out kind.UnsignedLong us rest (inl (p0, v0, e0, (p1, v1, e1, e2))) f =
    let r : us ≡ v0 = ap rest_of e0 in rw (r, e1, e2) ((p1, token p1 k.Long ∷ [], [], refl, refl, (None, refl, refl)))
unsigned_out kind.UnsignedLong us rest (inr (inl (p0, v0, e0, (p1, v1, e1, (p2, v2, e2, e3))))) f =
    let r : us ≡ v0 = ap rest_of e0 in rw (r, e1, e2, e3) ((p1, token p1 k.Long ∷ [], token p2 k.Int ∷ [], refl, refl, (Some p2, refl, refl)))
unsigned_out kind.UnsignedLong us rest (inr (inr z)) f = elim z [ ]

-- ---- Types

abbrev type_language : Option Lexeme → Spelling Kind
type_language (Some (Keyword k.Char)) = Alone k.Char kind.Char
type_language (Some (Keyword k.Short)) = WithInt k.Short kind.Short
type_language (Some (Keyword k.Int)) = Alone k.Int kind.Int
type_language (Some (Keyword k.Long)) = WithInt k.Long kind.Long
type_language (Some (Keyword k.Signed)) = worded k.Signed ▷ (λ p. After k.Signed)
type_language (Some (Keyword k.Unsigned)) = worded k.Unsigned ▷ (λ p. After k.Unsigned)
type_language _ = nothing

past_up : (w : kw.Keyword) (y : Kind) (us : List Token) → (worded w ▷ (λ p. After w)) y us → type y us
past_up w y us (p, us', vs, e, l, m) = rw (e, l) (m p)

after_signed : {b : ℕ} → Good b (After k.Signed) (After k.Signed) TypeEnd (by_head signed_by) (by_head signed_by)
after_signed = good_head {K = signed_language} signed_good (λ x us rest u f. signed_out x us rest (type-one_of x (token at_0 k.Signed ∷ us) (u at_0)) f)

after_unsigned : {b : ℕ} → Good b (After k.Unsigned) (After k.Unsigned) TypeEnd (by_head unsigned_by) (by_head unsigned_by)
after_unsigned =
    good_head {K = unsigned_language} unsigned_good (λ x us rest u f. unsigned_out x us rest (type-one_of x (token at_0 k.Unsigned ∷ us) (u at_0)) f)

type_good : {b : ℕ} (h : Option Lexeme) → Good b type (type_language h) TypeEnd (type_by h) (type_by h)
type_good (Some (Keyword k.Char)) = alone k.Char kind.Char (alone_up k.Char kind.Char (0, lit< tt, refl))
type_good (Some (Keyword k.Short)) = with_int k.Short kind.Short (int_up k.Short kind.Short (0, lit< tt, refl) (1, lit< tt, refl))
type_good (Some (Keyword k.Int)) = alone k.Int kind.Int (alone_up k.Int kind.Int (0, lit< tt, refl))
type_good (Some (Keyword k.Long)) = with_int k.Long kind.Long (int_up k.Long kind.Long (0, lit< tt, refl) (1, lit< tt, refl))
type_good (Some (Keyword k.Signed)) =
    good_to (good_then (good_word k.Signed) (λ p. after_signed) (λ p y us rest m f. tt)) (past_up k.Signed) (λ y us u. u) (λ h f. f)
type_good (Some (Keyword k.Unsigned)) =
    good_to (good_then (good_word k.Unsigned) (λ p. after_unsigned) (λ p y us rest m f. tt)) (past_up k.Unsigned) (λ y us u. u) (λ h f. f)
type_good _ = good_wrong kind.Int (token at_0 k.Int ∷ []) (one_word kind.Int k.Int (0, lit< tt, refl) at_0)

type_out : (x : Kind) (us rest : List Token) → OneOf (spellings x) us → type_language (head_of (us ++ rest)) x us
type_out kind.Char us rest (inl (p0, v0, e0, e1)) = rw (e0, e1) (p0, refl, refl)
type_out kind.Char us rest (inr z) = elim z [ ]
type_out kind.UnsignedChar us rest (inl (p0, v0, e0, (p1, v1, e1, e2))) =
    rw (e0, e1, e2) (p0, token p0 k.Unsigned ∷ [], token p1 k.Char ∷ [], refl, refl, λ p. two_words kind.UnsignedChar k.Unsigned k.Char (0, lit< tt, refl) p p1)
type_out kind.UnsignedChar us rest (inr z) = elim z [ ]
type_out kind.SignedChar us rest (inl (p0, v0, e0, (p1, v1, e1, e2))) =
    rw (e0, e1, e2) (p0, token p0 k.Signed ∷ [], token p1 k.Char ∷ [], refl, refl, λ p. two_words kind.SignedChar k.Signed k.Char (0, lit< tt, refl) p p1)
type_out kind.SignedChar us rest (inr z) = elim z [ ]
type_out kind.Short us rest (inl (p0, v0, e0, e1)) = rw (e0, e1) (p0, token p0 k.Short ∷ [], [], refl, refl, (None, refl, refl))
type_out kind.Short us rest (inr (inl (p0, v0, e0, (p1, v1, e1, e2)))) =
    rw (e0, e1, e2) (p0, token p0 k.Short ∷ [], token p1 k.Int ∷ [], refl, refl, (Some p1, refl, refl))
type_out kind.Short us rest (inr (inr (inl (p0, v0, e0, (p1, v1, e1, e2))))) =
    rw (e0, e1, e2) (p0, token p0 k.Signed ∷ [], token p1 k.Short ∷ [], refl, refl, λ p. two_words kind.Short k.Signed k.Short (2, lit< tt, refl) p p1)
type_out kind.Short us rest (inr (inr (inr (inl (p0, v0, e0, (p1, v1, e1, (p2, v2, e2, e3))))))) =
    rw (e0, e1, e2, e3) (
      p0,
      token p0 k.Signed ∷ [],
      token p1 k.Short ∷ token p2 k.Int ∷
          [],
      refl,
      refl,
      λ p. three_words kind.Short k.Signed k.Short k.Int (3, lit< tt, refl) p p1 p2,
    )
type_out kind.Short us rest (inr (inr (inr (inr z)))) = elim z [ ]
type_out kind.UnsignedShort us rest (inl (p0, v0, e0, (p1, v1, e1, e2))) =
    rw (e0, e1, e2) (
      p0,
      token p0 k.Unsigned ∷ [],
      token p1 k.Short ∷
          [],
      refl,
      refl,
      λ p. two_words kind.UnsignedShort k.Unsigned k.Short (0, lit< tt, refl) p p1,
    )
type_out kind.UnsignedShort us rest (inr (inl (p0, v0, e0, (p1, v1, e1, (p2, v2, e2, e3))))) =
    rw (e0, e1, e2, e3) (
      p0,
      token p0 k.Unsigned ∷ [],
      token p1 k.Short ∷ token p2 k.Int ∷
          [],
      refl,
      refl,
      λ p. three_words kind.UnsignedShort k.Unsigned k.Short k.Int (1, lit< tt, refl) p p1 p2,
    )
type_out kind.UnsignedShort us rest (inr (inr z)) = elim z [ ]
type_out kind.Int us rest (inl (p0, v0, e0, e1)) = rw (e0, e1) (p0, refl, refl)
type_out kind.Int us rest (inr (inl (p0, v0, e0, e1))) =
    rw (e0, e1) (p0, token p0 k.Signed ∷ [], [], refl, refl, λ p. one_word kind.Int k.Signed (1, lit< tt, refl) p)
type_out kind.Int us rest (inr (inr (inl (p0, v0, e0, (p1, v1, e1, e2))))) =
    rw (e0, e1, e2) (p0, token p0 k.Signed ∷ [], token p1 k.Int ∷ [], refl, refl, λ p. two_words kind.Int k.Signed k.Int (2, lit< tt, refl) p p1)
type_out kind.Int us rest (inr (inr (inr z))) = elim z [ ]
type_out kind.UnsignedInt us rest (inl (p0, v0, e0, e1)) =
    rw (e0, e1) (p0, token p0 k.Unsigned ∷ [], [], refl, refl, λ p. one_word kind.UnsignedInt k.Unsigned (0, lit< tt, refl) p)
type_out kind.UnsignedInt us rest (inr (inl (p0, v0, e0, (p1, v1, e1, e2)))) =
    rw (e0, e1, e2) (p0, token p0 k.Unsigned ∷ [], token p1 k.Int ∷ [], refl, refl, λ p. two_words kind.UnsignedInt k.Unsigned k.Int (1, lit< tt, refl) p p1)
type_out kind.UnsignedInt us rest (inr (inr z)) = elim z [ ]
type_out kind.Long us rest (inl (p0, v0, e0, e1)) = rw (e0, e1) (p0, token p0 k.Long ∷ [], [], refl, refl, (None, refl, refl))
type_out kind.Long us rest (inr (inl (p0, v0, e0, (p1, v1, e1, e2)))) =
    rw (e0, e1, e2) (p0, token p0 k.Long ∷ [], token p1 k.Int ∷ [], refl, refl, (Some p1, refl, refl))
type_out kind.Long us rest (inr (inr (inl (p0, v0, e0, (p1, v1, e1, e2))))) =
    rw (e0, e1, e2) (p0, token p0 k.Signed ∷ [], token p1 k.Long ∷ [], refl, refl, λ p. two_words kind.Long k.Signed k.Long (2, lit< tt, refl) p p1)
type_out kind.Long us rest (inr (inr (inr (inl (p0, v0, e0, (p1, v1, e1, (p2, v2, e2, e3))))))) =
    rw (e0, e1, e2, e3) (
      p0,
      token p0 k.Signed ∷ [],
      token p1 k.Long ∷ token p2 k.Int ∷
          [],
      refl,
      refl,
      λ p. three_words kind.Long k.Signed k.Long k.Int (3, lit< tt, refl) p p1 p2,
    )
type_out kind.Long us rest (inr (inr (inr (inr z)))) = elim z [ ]
type_out kind.UnsignedLong us rest (inl (p0, v0, e0, (p1, v1, e1, e2))) =
    rw (e0, e1, e2) (p0, token p0 k.Unsigned ∷ [], token p1 k.Long ∷ [], refl, refl, λ p. two_words kind.UnsignedLong k.Unsigned k.Long (0, lit< tt, refl) p p1)
type_out kind.UnsignedLong us rest (inr (inl (p0, v0, e0, (p1, v1, e1, (p2, v2, e2, e3))))) =
    rw (e0, e1, e2, e3) (
      p0,
      token p0 k.Unsigned ∷ [],
      token p1 k.Long ∷ token p2 k.Int ∷
          [],
      refl,
      refl,
      λ p. three_words kind.UnsignedLong k.Unsigned k.Long k.Int (1, lit< tt, refl) p p1 p2,
    )
type_out kind.UnsignedLong us rest (inr (inr z)) = elim z [ ]

pub good_type : {b : ℕ} → Good b type type TypeEnd parse_type parse_type
good_type = good_head {K = type_language} type_good (λ x us rest u f. type_out x us rest (type-one_of x us u))

-- a type begins with one of its words
first_word : (x : Kind) (us rest : List Token) → OneOf (spellings x) us → head_is begins_kind (head_of (us ++ rest)) ≡ true
first_word kind.Char us rest (inl (p, v, e, s)) = rw e refl
first_word kind.Char us rest (inr z) = elim z [ ]
first_word kind.UnsignedChar us rest (inl (p, v, e, s)) = rw e refl
first_word kind.UnsignedChar us rest (inr z) = elim z [ ]
first_word kind.SignedChar us rest (inl (p, v, e, s)) = rw e refl
first_word kind.SignedChar us rest (inr z) = elim z [ ]
first_word kind.Short us rest (inl (p, v, e, s)) = rw e refl
first_word kind.Short us rest (inr (inl (p, v, e, s))) = rw e refl
first_word kind.Short us rest (inr (inr (inl (p, v, e, s)))) = rw e refl
first_word kind.Short us rest (inr (inr (inr (inl (p, v, e, s))))) = rw e refl
first_word kind.Short us rest (inr (inr (inr (inr z)))) = elim z [ ]
first_word kind.UnsignedShort us rest (inl (p, v, e, s)) = rw e refl
first_word kind.UnsignedShort us rest (inr (inl (p, v, e, s))) = rw e refl
first_word kind.UnsignedShort us rest (inr (inr z)) = elim z [ ]
first_word kind.Int us rest (inl (p, v, e, s)) = rw e refl
first_word kind.Int us rest (inr (inl (p, v, e, s))) = rw e refl
first_word kind.Int us rest (inr (inr (inl (p, v, e, s)))) = rw e refl
first_word kind.Int us rest (inr (inr (inr z))) = elim z [ ]
first_word kind.UnsignedInt us rest (inl (p, v, e, s)) = rw e refl
first_word kind.UnsignedInt us rest (inr (inl (p, v, e, s))) = rw e refl
first_word kind.UnsignedInt us rest (inr (inr z)) = elim z [ ]
first_word kind.Long us rest (inl (p, v, e, s)) = rw e refl
first_word kind.Long us rest (inr (inl (p, v, e, s))) = rw e refl
first_word kind.Long us rest (inr (inr (inl (p, v, e, s)))) = rw e refl
first_word kind.Long us rest (inr (inr (inr (inl (p, v, e, s))))) = rw e refl
first_word kind.Long us rest (inr (inr (inr (inr z)))) = elim z [ ]
first_word kind.UnsignedLong us rest (inl (p, v, e, s)) = rw e refl
first_word kind.UnsignedLong us rest (inr (inl (p, v, e, s))) = rw e refl
first_word kind.UnsignedLong us rest (inr (inr z)) = elim z [ ]

pub type_begins : (x : Kind) (us rest : List Token) → type x us → head_is begins_kind (head_of (us ++ rest)) ≡ true
type_begins x us rest u = first_word x us rest (type-one_of x us u)

-- ---- Types, with references

abbrev RefLanguage : Spelling t.TypeName
RefLanguage = worded k.Ref ▷ (λ w. marked p.OpenParenthesis ▷ (λ o. named ▷ (λ x. marked p.CloseParenthesis ▹ (λ c. t.RefTo x))))

abbrev type_name_language : Option Lexeme → Spelling t.TypeName
type_name_language (Some (Keyword k.Ref)) = RefLanguage
type_name_language _ = type ▹ t.OfKind

type_name_good : {b : ℕ} (h : Option Lexeme) → Good b type_name (type_name_language h) TypeEnd (type_name_by h) (type_name_by h)
type_name_good (Some (Keyword k.Ref)) =
    good_to {U = RefLanguage} {K = RefLanguage} {F = Anything}
    (good_then {M = λ w. marked p.OpenParenthesis ▷ (λ o. named ▷ (λ x. marked p.CloseParenthesis ▹ (λ c. t.RefTo x)))} {F = Anything} {G = Anything}
    (good_word k.Ref)
    (λ w. good_then {M = λ o. named ▷ (λ x. marked p.CloseParenthesis ▹ (λ c. t.RefTo x))} {F = Anything} {G = Anything} (good_mark p.OpenParenthesis)
    (λ o. good_then {M = λ x. marked p.CloseParenthesis ▹ (λ c. t.RefTo x)} {F = Anything} {G = Anything} good_name
    (λ x. good_map (λ c. t.RefTo x) (good_mark p.CloseParenthesis)) (λ x y us rest m f. tt))
    (λ o y us rest m f. tt))
    (λ w y us rest m f. tt))
    (λ y us (w, us₁, us₂, e, l, (o, us₃, us₄, e', m, (x, us₅, us₆, e₂, n, (c, r, q)))).
    subst (λ y. type_name y us) q (us₁, us₂, e, (w, l), (us₃, us₄, e', (o, m), (us₅, us₆, e₂, n, (c, r)))))
    (λ y us u. u) (λ h f. tt)
type_name_good _ =
    good_to {U' = type_name} {K' = type ▹ t.OfKind} (good_map t.OfKind good_type) (λ y us (x, u, q). subst (λ y. type_name y us) q u) (λ y us u. u) (λ h f. f)

-- a word of a kind leads to a kind
kind_at : (h : Option Lexeme) (y : t.TypeName) (us : List Token) → head_is begins_kind h ≡ true → (type ▹ t.OfKind) y us → type_name_language h y us
kind_at (Some (Keyword k.Ref)) y us q u = absurd (true≢false (sym q))
kind_at _ y us q u = u

type_name_out : (y : t.TypeName) (us rest : List Token) → type_name y us → type_name_language (head_of (us ++ rest)) y us
type_name_out (t.OfKind x) us rest u = kind_at (head_of (us ++ rest)) (t.OfKind x) us (type_begins x us rest u) (x, u, refl)
type_name_out (t.RefTo x) us rest (us₁, us₂, e, (w, l), (us₃, us₄, e', (o, m), (us₅, us₆, e₂, n, (c, r)))) =
    let q : head_of (us ++ rest) ≡ Some (Keyword k.Ref) = rw (e, l) refl in
    rw q (w, us₁, us₂, e, l, (o, us₃, us₄, e', m, (x, us₅, us₆, e₂, n, (c, r, refl))))

pub good_type_name : {b : ℕ} → Good b type_name type_name TypeEnd parse_type_name parse_type_name
good_type_name = good_head {K = type_name_language} type_name_good (λ y us rest u f. type_name_out y us rest u)

kind_is_type : (h : Option Lexeme) → head_is begins_kind h ≡ true → head_is begins_type h ≡ true
kind_is_type None q = cc
kind_is_type (Some x) q = rw (q, begins_type) refl

pub type_name_begins : (y : t.TypeName) (us rest : List Token) → type_name y us → head_is begins_type (head_of (us ++ rest)) ≡ true
type_name_begins (t.OfKind x) us rest u = kind_is_type (head_of (us ++ rest)) (type_begins x us rest u)
type_name_begins (t.RefTo x) us rest (us₁, us₂, e, (w, l), m) = rw (e, l) refl
