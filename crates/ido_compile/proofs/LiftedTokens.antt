-- What is spelled in the plain language is spelled so in the full one, where no name of it is a word that the full language reserves.
use Rattle.std.proofs.Common.{◌≡◌, refl, sym, ◌∙◌, ap, ap₂, subst, ℕ, List, [], ◌∷◌, ◌++◌, find, Option, Some, None, Bool, true, false, cond, ⊎_elim, inl, inr}
use Rattle.std.proofs.Common.{true≢false}
use Rattle.std.specs.List.{AllByRecursion}
use Rattle.std.proofs.lemmas.Option.{none-some, same_Some}
use Rattle.ido_base.specs.declared.place.Place.{Place}
use Rattle.ido_ints.specs.TypedNumbers.{Typed}
use Rattle.ido_ints.specs.declared.kinds.Kind.{Kind}
use Rattle.ido_ints.specs.declared.operators.Binary.{Binary}
use Rattle.ido_ints.specs.declared.operators.Binary.TheVariants as binary
use Rattle.ido_ints.specs.declared.operators.Unary.{Unary}
use Rattle.ido_ints.specs.declared.operators.Unary.TheVariants as unary
use Rattle.c_tree.specs.LexicalScan.{full_lexeme, full_mark, full_name, full_token, more_reserved, same}
use Rattle.c_tree.specs.Tokens.{Token, Lexeme, Name, Keyword, Punctuator}
use Rattle.c_tree.specs.declared.token.Keyword as kw
use Rattle.c_tree.specs.declared.token.Punctuator as pn
use Rattle.c_tree.specs.declared.token.Punctuator.TheVariants as p
use Rattle.c_tree.specs.Trees as t
use Rattle.c_tree.specs.Languages.{empty, never, provided, ◌⋅◌, ◌or◌, first_place, starting_at, word, word_at, mark, mark_at}
use Rattle.c_tree.specs.Languages.{number, number_at, name, words}
use Rattle.c_tree.specs.Grammar.{operator, type, unary_mark}
use Rattle.std.specs.Prelude.{map}
use Rattle.ido_compile.proofs.ReservedNames.{Apart, apart_first, apart_last, first_word, is_new, is_new_word, opened, opens_word, other_words, type_opened}

-- ---- Tokens of the full language

abbrev pub fuller : List Token → List Token
fuller ts = map full_token ts

pub both_fuller : (us vs : List Token) → fuller (us ++ vs) ≡ fuller us ++ fuller vs
both_fuller [] vs = refl
both_fuller (u ∷ us) vs = ap (λ (ts : List Token). full_token u ∷ ts) (both_fuller us vs)

-- as tokens of the full language they are apart
abbrev pub IsApart : List Token → Type 0
IsApart ts = (o : Bool) × Apart o (fuller ts)

parts_apart : (ts us vs : List Token) → ts ≡ us ++ vs → (o : Bool) → Apart o (fuller ts) → Apart o (fuller us ++ fuller vs)
parts_apart ts us vs e o a = subst (Apart o) (ap (λ (xs : List Token). fuller xs) e ∙ both_fuller us vs) a

pub first_apart : (ts us vs : List Token) → ts ≡ us ++ vs → IsApart ts → IsApart us
first_apart ts us vs e a = (a.0, apart_first a.0 (fuller us) (fuller vs) (parts_apart ts us vs e a.0 a.1))

pub last_apart : (ts us vs : List Token) → ts ≡ us ++ vs → IsApart ts → IsApart vs
last_apart ts us vs e a = (opened a.0 (fuller us), apart_last a.0 (fuller us) (fuller vs) (parts_apart ts us vs e a.0 a.1))

-- tokens of the one are, as tokens of the full language, of the other
pub record Lifted (P Q : List Token → Type 0) : Type 0 where
  pub by : (ts : List Token) → IsApart ts → P ts → Q (fuller ts)

pub lift_seq : {P Q R S : List Token → Type 0} → Lifted P Q → Lifted R S → Lifted (P ⋅ R) (Q ⋅ S)
lift_seq h k = record {
  by = λ ts a d. (
    fuller d.0,
    fuller d.1,
    ap (λ (xs : List Token). fuller xs) d.2 ∙ both_fuller d.0 d.1,
    h.by d.0 (first_apart ts d.0 d.1 d.2 a) d.3,
    k.by d.1 (last_apart ts d.0 d.1 d.2 a) d.4,
  );
}

pub lift_or : {P Q R S : List Token → Type 0} → Lifted P Q → Lifted R S → Lifted (P or R) (Q or S)
lift_or h k = record { by = λ ts a d. ⊎_elim (λ e. inl (h.by ts a e)) (λ e. inr (k.by ts a e)) d }

pub lift_provided : (A : Type 0) {P Q : List Token → Type 0} → Lifted P Q → Lifted (provided A P) (provided A Q)
lift_provided A h = record { by = λ ts a d. (d.0, h.by ts a d.1) }

first_fuller : (ts : List Token) → first_place (fuller ts) ≡ first_place ts
first_fuller [] = refl
first_fuller (u ∷ us) = refl

pub lift_starting : (place : Place) {P Q : List Token → Type 0} → Lifted P Q → Lifted (starting_at place P) (starting_at place Q)
lift_starting place h = record { by = λ ts a d. (first_fuller ts ∙ d.0, h.by ts a d.1) }

pub lift_never : {Q : List Token → Type 0} → Lifted never Q
lift_never = record { by = λ ts a d. absurd d }

pub lift_empty : Lifted empty empty
lift_empty = record { by = λ ts a e. ap (λ (xs : List Token). fuller xs) e }

-- ---- Single tokens

pub lift_mark_at : (place : Place) (x : pn.Punctuator) → full_mark x ≡ x → Lifted (mark_at place x) (mark_at place x)
lift_mark_at place x is = record {
  by = λ ts a e.
      ap (λ (xs : List Token). fuller xs) e
      ∙ ap (λ (m : pn.Punctuator). record { place = place; lexeme = Punctuator m } ∷ []) is;
}

pub lift_mark : (x : pn.Punctuator) → full_mark x ≡ x → Lifted (mark x) (mark x)
lift_mark x is = record { by = λ ts a d. (d.0, (lift_mark_at d.0 x is).by ts a d.1) }

pub lift_word_at : (place : Place) (x : kw.Keyword) → Lifted (word_at place x) (word_at place x)
lift_word_at place x = record { by = λ ts a e. ap (λ (xs : List Token). fuller xs) e }

pub lift_word : (x : kw.Keyword) → Lifted (word x) (word x)
lift_word x = record { by = λ ts a d. (d.0, ap (λ (xs : List Token). fuller xs) d.1) }

pub lift_number_at : (place : Place) (value : Typed) → Lifted (number_at place value) (number_at place value)
lift_number_at place value = record { by = λ ts a e. ap (λ (xs : List Token). fuller xs) e }

pub lift_number : (value : Typed) → Lifted (number value) (number value)
lift_number value = record { by = λ ts a d. (d.0, ap (λ (xs : List Token). fuller xs) d.1) }

-- an operator's own token
own : (x y : pn.Punctuator) → full_mark x ≡ y → (ts : List Token) → mark x ts → mark y (fuller ts)
own x y is ts d = (
  d.0,
  ap (λ (xs : List Token). fuller xs) d.1
      ∙ ap (λ (m : pn.Punctuator). record { place = d.0; lexeme = Punctuator m } ∷ []) is,
)

pub lift_operator : (x : Binary) → Lifted (operator x) (operator x)
lift_operator binary.Mul = record {
  by = λ ts a d. inr (⊎_elim (λ e. own (p.Binary binary.Mul) p.Star refl ts e) (λ e. own p.Star p.Star refl ts e) d);
}
lift_operator binary.And = record {
  by = λ ts a d. inr (⊎_elim (λ e. own (p.Binary binary.And) p.Ampersand refl ts e) (λ e. own p.Ampersand p.Ampersand refl ts e) d);
}
lift_operator x = lift_mark (p.Binary x) refl

pub lift_unary : (place : Place) (x : Unary) → Lifted (mark_at place (unary_mark x)) (mark_at place (unary_mark x))
lift_unary place unary.Plus = lift_mark_at place (p.Binary binary.Add) refl
lift_unary place unary.Minus = lift_mark_at place (p.Binary binary.Sub) refl
lift_unary place unary.Complement = lift_mark_at place p.Complement refl
lift_unary place unary.Not = lift_mark_at place p.Not refl

words_fuller : (ks : List kw.Keyword) (ts : List Token) → words ks ts → words ks (fuller ts)
words_fuller [] [] e = refl
words_fuller [] (u ∷ us) e = absurd (cc)
words_fuller (x ∷ xs) [] e = absurd (cc)
words_fuller (x ∷ xs) (u ∷ us) e =
    ap₂ ◌∷◌ (ap (λ (l : Lexeme). full_lexeme l) (first_word x xs u us e)) (words_fuller xs us (other_words x xs u us e))

pub lift_type : (x : Kind) → Lifted (type x) (type x)
lift_type x = record { by = λ ts a d. (d.0, d.1, words_fuller d.0 ts d.2) }

-- ---- Names

-- it is a name in the full language too
abbrev pub IsFree : List ℕ → Type 0
IsFree text = full_name text ≡ Name text

pub lift_name : (x : t.Name) → IsFree x.text → Lifted (name x) (name x)
lift_name x free = record {
  by = λ ts a e.
      ap (λ (xs : List Token). fuller xs) e
      ∙ ap (λ (l : Lexeme). record { place = x.place; lexeme = l } ∷ []) free;
}

-- what is found is in the list, and passes the test
pub find_both : {A : Type 0} (P : A → Type 0) (test : A → Bool) (xs : List A) (x : A) → AllByRecursion P xs → find test xs ≡ Some x →
    P x × (test x ≡ true)
find_both P test [] x h e = absurd (none-some x e)
find_both P test (y ∷ ys) x h e = go (test y) refl (λ k. find_both P test ys x h.1 k) e
  where
    go : (c : Bool) → test y ≡ c → (find test ys ≡ Some x → P x × (test x ≡ true)) → cond c (Some y) (find test ys) ≡ Some x → P x × (test x ≡ true)
    go true is more k =
        let found : y ≡ x = same_Some y x k in
        (subst P found h.0, subst (λ z. test z ≡ true) found is)
    go false is more k = more k

free_by : (text : List ℕ) → is_new (full_name text) ≡ false → IsFree text
free_by text h = by (find (λ (y : List ℕ × kw.Keyword). same y.0 text) more_reserved) refl h
  where
    by : (o : Option (List ℕ × kw.Keyword)) → find (λ (y : List ℕ × kw.Keyword). same y.0 text) more_reserved ≡ o → is_new (elim o as (λ _. Lexeme) [
      | Some entry ↦ Keyword entry.1
      | None ↦ Name text
    ]) ≡ false → elim o as (λ _. Lexeme) [
      | Some entry ↦ Keyword entry.1
      | None ↦ Name text
    ] ≡ Name text
    by None e k = refl
    by (Some entry) e k =
        let found = find_both (λ (y : List ℕ × kw.Keyword). is_new_word y.1 ≡ true) (λ (y : List ℕ × kw.Keyword). same y.0 text) more_reserved entry
        (refl, (refl, tt)) e in
        absurd (true≢false (sym found.0 ∙ k))

-- a name after what opens a declaration
pub name_after : (ts us vs ns rest : List Token) (y : t.Name) → ts ≡ us ++ vs → vs ≡ ns ++ rest → name y ns → ((o : Bool) → opened o (fuller us) ≡ true) →
    IsApart ts → IsFree y.text
name_after ts us vs ns rest y e f is opening a =
    let own : Token = record { place = y.place; lexeme = Name y.text } in
    let after : Apart (opened a.0 (fuller us)) (fuller vs) = apart_last a.0 (fuller us) (fuller vs) (parts_apart ts us vs e a.0 a.1) in
    let there : Apart true (fuller vs) = subst (λ (o : Bool). Apart o (fuller vs)) (opening a.0) after in
    let spelled : vs ≡ own ∷ rest = f ∙ ap (λ (xs : List Token). xs ++ rest) is in
    let first : Apart true (full_token own ∷ fuller rest) = subst (λ (xs : List Token). Apart true (fuller xs)) spelled there in
    free_by y.text first.0

pub word_opens : (x : kw.Keyword) → opens_word x ≡ true → (ts : List Token) → word x ts → (o : Bool) → opened o (fuller ts) ≡ true
word_opens x h ts d o = subst (λ (xs : List Token). opened o (fuller xs) ≡ true) (sym d.1) h

pub type_opens : (x : Kind) (ts : List Token) → IsApart ts → type x ts → (o : Bool) → opened o (fuller ts) ≡ true
type_opens x ts a d o = type_opened x (fuller ts) ((lift_type x).by ts a d) o
