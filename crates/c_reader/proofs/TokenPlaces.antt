-- A parser that takes the place of the next token and leaves it there.
use Rattle.std.proofs.Common.{◌≡◌, ℕ, ◌<◌, List, [], ◌∷◌, ◌++◌, length, Option, Some, sym, refl, ap, subst, arith}
use Rattle.ido_base.specs.declared.place.Place.{Place}
use Rattle.c_tree.specs.Tokens.{Token, Lexeme}
use Rattle.c_tree.specs.Languages.{first_place}
use Rattle.c_reader.specs.links.ParserFunctions.{Parsed, Read, Wrong, Parser, here, ◌>>=◌, head_of}
use Rattle.c_reader.proofs.CorrectParsers.{Spelling, Good, Meets, ParseLockstep, Strict}
use Rattle.c_reader.proofs.Tokens.{some_same}

-- a list of the language that belongs to the place of its first token
abbrev pub At : {B : Type 0} → (Place → Spelling B) → Spelling B
At M y us = (place : Place) × (first_place us ≡ Some place) × M place y us

abbrev first_or : Token → List Token → Token
first_or d [] = d
first_or d (t ∷ ts) = t

prefix_place : (t : Token) (ts us rest : List Token) → t ∷ ts ≡ us ++ rest → 0 < length us → first_place us ≡ Some t.place
prefix_place t ts [] rest e h = let z : ⊥ = omega (arith, h) in absurd z
prefix_place t ts (u ∷ us) rest e h = ap (λ x. Some (first_or t x).place) (sym e)

has_first : (us : List Token) → 0 < length us → (place : Place) × (first_place us ≡ Some place)
has_first [] h = let z : ⊥ = omega (arith, h) in absurd z
has_first (u ∷ us) h = (u.place, refl)

pub good_here : {B : Type 0} {b : ℕ} {F : Option Lexeme → Type 0} (M : Place → Spelling B) {P P' : Place → Parser B} → ((place : Place) → Strict (M place)) →
    ((place place' : Place) (y : B) (us : List Token) → M place y us → (y' : B) × M place' y' us) →
    ((place : Place) → Good b (M place) (M place) F (P place) (P' place)) → Good b (At M) (At M) F (here >>= P) (here >>= P')
good_here {B = B} {b = b} {F = F} M {P = P} {P' = P'} strict shape g = record { sure = sure; lockstep = lockstep; whole = whole }
  where
    some_of_it : (place : Place) (y : B) (us : List Token) → M place y us → (y' : B) × At M y' us
    some_of_it place y us m =
        let (first, f) = has_first us (strict place y us m) in
        let (y', m') = shape place first y us m in
        (y', (first, f, m'))

    at : (t : Token) (ts : List Token) (r : Parsed B) → Meets (M t.place) (t ∷ ts) r → Meets (At M) (t ∷ ts) r
    at t ts (Read y rest) (us, e, m) = (us, e, (t.place, prefix_place t ts us rest e (strict t.place y us m), m))
    at t ts (Wrong rest) (us, e, more, y, m) = let (y', a) = some_of_it t.place y (us ++ more) m in (us, e, more, y', a)

    sure : (ts : List Token) → Meets (At M) ts ((here >>= P) ts)
    sure [] = let z : Place = record { 0 = 0 } in none z (P z []) ((g z).sure [])
      where
        none : (z : Place) (r : Parsed B) → Meets (M z) [] r → Meets (At M) [] (Wrong [])
        none z (Read y rest) (us, e, m) = let (y', a) = some_of_it z y us m in ([], refl, us, y', a)
        none z (Wrong rest) (us, e, more, y, m) = let (y', a) = some_of_it z y (us ++ more) m in ([], refl, us ++ more, y', a)
    sure (t ∷ ts) = at t ts (P t.place (t ∷ ts)) ((g t.place).sure (t ∷ ts))

    lockstep : (us : List Token) (t : Token) (w w' : List Token) → length us < b →
        ParseLockstep t w w' ((here >>= P) (us ++ t ∷ w)) ((here >>= P') (us ++ t ∷ w'))
    lockstep [] t w w' h = (g t.place).lockstep [] t w w' h
    lockstep (u ∷ us) t w w' h = (g u.place).lockstep (u ∷ us) t w w' h

    whole : (y : B) (us rest : List Token) → At M y us → length us < b → F (head_of rest) → (here >>= P) (us ++ rest) ≡ Read y rest
    whole y [] rest (place, f, m) h e = let s : 0 < 0 = strict place y [] m in let z : ⊥ = omega (arith, s) in absurd z
    whole y (u ∷ us) rest (place, f, m) h e =
        subst (λ z. P z (u ∷ us ++ rest) ≡ Read y rest) (sym (some_same u.place place f)) ((g place).whole y (u ∷ us) rest m h e)
