-- Tokens that don't nest too high spell a tree whose blocks aren't deep, and whose expressions aren't high.
use Rattle.std.proofs.Common.{◌≡◌, ℕ, zero, suc, ◌+◌, ◌≤◌, Bool, true, false, ◌||◌, List, [], ◌∷◌, ◌++◌, Option}
use Rattle.std.proofs.Common.{Some, None, Result, Ok, Err, IfOk, refl, sym, ap, ◌∙◌, subst, arith, ⊎_elim}
use Rattle.std.specs.Prelude.{nat_lt}
use Rattle.std.specs.List.{AllByRecursion}
use Rattle.std.proofs.lemmas.Bool.Decides.{nat_tests}
use Rattle.ido_base.specs.declared.place.Place.{Place}
use Rattle.ido_ints.specs.declared.operators.Unary.TheVariants as unary
use Rattle.ido_ints.specs.declared.operators.Binary.TheVariants as binary
use Rattle.c_tree.specs.declared.language.Language.{Language}
use Rattle.c_tree.specs.declared.language.Language.TheVariants.{Plain, Full}
use Rattle.c_tree.specs.Tokens.{Token, Lexeme, Name, Keyword, Number, Punctuator}
use Rattle.c_tree.specs.declared.token.Keyword as kw
use Rattle.c_tree.specs.declared.token.Keyword.TheVariants as k
use Rattle.c_tree.specs.declared.token.Punctuator as pn
use Rattle.c_tree.specs.declared.token.Punctuator.TheVariants as p
use Rattle.c_tree.specs.Trees as t
use Rattle.c_tree.specs.Languages.{empty, provided, ◌⋅◌, ◌or◌, starting_at, lexeme, lexeme_at, words, all_of, more_of, some_of, list_of, maybe}
use Rattle.c_tree.specs.Grammar as g
use Rattle.c_tree.specs.LexicalScan.{Scanned, scanned}
use Rattle.c_tree.specs.Views.{items_of}
use Rattle.c_tree.specs.declared.tree.Tree.{Tree}
use Rattle.c_tree.specs.declared.refusal.SourceError.{SourceError}
use Rattle.c_tree.specs.TextReadings.{Nesting, outside, within_lexeme, within_mark, is_high, is_high_from, nests_high, IsRead}
use Rattle.c_reader.specs.Depths.{index_of, height, IsLow, IsLowIf, IsLowChange, IsLowAssignment, IsLowLast, IsLowCall, IsLowInitial, IsLowFirst, IsFlat}
use Rattle.c_reader.specs.Depths.{IsFlatBlock, AreFlat, AreFlatArms, IsFlatOtherwise, IsLowReturn, IsFlatBody, IsFlatItem, IsShallow}
use Rattle.c_reader.proofs.Nestings.{nesting_after, is_high_from-prefix}

-- ---- Nesting after two lists of tokens

after_both : (n : Nesting) (us vs : List Token) → nesting_after n (us ++ vs) ≡ nesting_after (nesting_after n us) vs
after_both n [] vs = refl
after_both n (x ∷ us) vs = after_both (within_lexeme x.lexeme n) us vs

or_parts : (a b : Bool) → (a || b) ≡ false → (a ≡ false) × (b ≡ false)
or_parts true b e = cc
or_parts false b e = (refl, e)

low_past : (n : Nesting) (us vs : List Token) → is_high_from n (us ++ vs) ≡ false → is_high_from (nesting_after n us) vs ≡ false
low_past n [] vs e = e
low_past n (x ∷ us) vs e =
    let m : Nesting = within_lexeme x.lexeme n in
    low_past m us vs (or_parts (is_high m) (is_high_from m (us ++ vs)) e).1

not_more : (k : ℕ) → nat_lt 128 k ≡ false → k ≤ 128
not_more k e = grind (arith, nat_tests)

low_parts : (n : Nesting) → is_high n ≡ false → (n.braces ≤ 128) × (n.others ≤ 128)
low_parts n e = let parts = or_parts (nat_lt 128 n.braces) (nat_lt 128 n.others) e in (not_more n.braces parts.0, not_more n.others parts.1)

-- the nesting after some tokens that don't nest too high
low_after : (n : Nesting) (x : Token) (ts : List Token) → is_high_from n (x ∷ ts) ≡ false → (nesting_after n (x ∷ ts)).others ≤ 128
low_after n x [] e = (low_parts (within_lexeme x.lexeme n) (or_parts (is_high (within_lexeme x.lexeme n)) false e).0).1
low_after n x (y ∷ ts) e = low_after (within_lexeme x.lexeme n) y ts
    (or_parts (is_high (within_lexeme x.lexeme n)) (is_high_from (within_lexeme x.lexeme n) (y ∷ ts)) e).1

-- ---- Tokens of expressions

-- the tokens free no brace, and nest so much higher
record Rises (h : ℕ) (P : List Token → Type 0) : Type 0 where
  go : (ts : List Token) → P ts → (n : Nesting) → ((nesting_after n ts).braces ≡ n.braces) × (n.others + h ≤ (nesting_after n ts).others)

rises_one : (h : ℕ) (x : Lexeme) → ((n : Nesting) → ((within_lexeme x n).braces ≡ n.braces) × (n.others + h ≤ (within_lexeme x n).others)) → Rises h (lexeme x)
rises_one h x f = record {
  go = λ ts (place, e) n. subst
      (λ (us : List Token). ((nesting_after n us).braces ≡ n.braces) × (n.others + h ≤ (nesting_after n us).others)) (sym e) (f n);
}

rises_at : (h : ℕ) (place : Place) (x : Lexeme) →
    ((n : Nesting) → ((within_lexeme x n).braces ≡ n.braces) × (n.others + h ≤ (within_lexeme x n).others)) → Rises h (lexeme_at place x)
rises_at h place x f = record {
  go = λ ts e n. subst
      (λ (us : List Token). ((nesting_after n us).braces ≡ n.braces) × (n.others + h ≤ (nesting_after n us).others)) (sym e) (f n);
}

rises_both : (h j : ℕ) (P Q : List Token → Type 0) → Rises h P → Rises j Q → Rises (h + j) (P ⋅ Q)
rises_both h j P Q a b = record {
  go = λ ts (us, vs, e, x, y) n.
      let f = a.go us x n in
      let s = b.go vs y (nesting_after n us) in
      let same = ap (λ (zs : List Token). nesting_after n zs) e ∙ after_both n us vs in
      let higher : n.others + (h + j) ≤ (nesting_after (nesting_after n us) vs).others = let first = f.1 in let second = s.1 in omega (arith, first, second) in
      (ap (λ (m : Nesting). m.braces) same ∙ s.0 ∙ f.0, subst (λ (m : Nesting). n.others + (h + j) ≤ m.others) (sym same) higher);
}

-- an expression rises by as much as it is high, but for its last node
record IsSpelt (x : t.Expression) (P : List Token → Type 0) : Type 0 where
  rise : ℕ
  long : height x ≤ rise + 1
  rises : Rises rise P

same_mark : (n : Nesting) → (n.braces ≡ n.braces) × (n.others + 0 ≤ n.others)
same_mark n = (refl, omega arith)

opening : (n : Nesting) → (n.braces ≡ n.braces) × (n.others + 1 ≤ n.others + 1)
opening n = (refl, omega arith)

words_same : (ks : List kw.Keyword) (ts : List Token) → words ks ts → (n : Nesting) → nesting_after n ts ≡ n
words_same [] [] h n = refl
words_same [] (x ∷ ts) h n = cc
words_same (w ∷ ks) [] h n = cc
words_same (w ∷ ks) (x ∷ ts) h n =
    let first : x.lexeme ≡ Keyword w = cc in
    let rest : words ks ts = cc in
    ap (λ (l : Lexeme). nesting_after (within_lexeme l n) ts) first ∙ words_same ks ts rest n

rises_type : (x : _) → Rises 0 (g.type x)
rises_type x = record {
  go = λ ts (ks, made, h) n.
      let same = words_same ks ts h n in
      (ap (λ (m : Nesting). m.braces) same, subst (λ (m : Nesting). n.others + 0 ≤ m.others) (sym same) (omega arith));
}

unary_opens : (x : _) → (n : Nesting) → ((within_mark (g.unary_mark x) n).braces ≡ n.braces) × (n.others + 1 ≤ (within_mark (g.unary_mark x) n).others)
unary_opens unary.Plus n = opening n
unary_opens unary.Minus n = opening n
unary_opens unary.Complement n = opening n
unary_opens unary.Not n = opening n

rises_provided : (h : ℕ) (A : Type 0) (P : List Token → Type 0) → Rises h P → Rises h (provided A P)
rises_provided h A P a = record { go = λ ts (c, x) n. a.go ts x n }

rises_either : (h : ℕ) (P Q : List Token → Type 0) → Rises h P → Rises h Q → Rises h (P or Q)
rises_either h P Q a b = record { go = λ ts u n. ⊎_elim (λ x. a.go ts x n) (λ y. b.go ts y n) u }

rises_operator : (o : _) → Rises 1 (g.operator o)
rises_operator binary.Mul = rises_either 1 _ _ (rises_one 1 (Punctuator (p.Binary binary.Mul)) opening) (rises_one 1 (Punctuator p.Star) opening)
rises_operator binary.And = rises_either 1 _ _ (rises_one 1 (Punctuator (p.Binary binary.And)) opening) (rises_one 1 (Punctuator p.Ampersand) opening)
rises_operator o = rises_one 1 (Punctuator (p.Binary o)) opening

spelt : (x : t.Expression) (precedence : ℕ) → IsSpelt x (g.expression_from x precedence)
spelt (t.Number place value) s = record { rise = 0; long = omega arith; rises = rises_at 0 place (Number value) same_mark }
spelt (t.Named x) s = record { rise = 0; long = omega arith; rises = rises_at 0 x.place (Name x.text) same_mark }
spelt (t.Element array index) s =
    let i = spelt index 0 in
    let long = i.long in
    record {
      rise = 0 + (1 + (i.rise + 0));
      long = omega (arith, long);
      rises = rises_both 0 (1 + (i.rise + 0)) _ _ (rises_at 0 array.place (Name array.text) same_mark)
          (rises_both 1 (i.rise + 0) _ _ (rises_one 1 (Punctuator p.OpenBracket) opening)
          (rises_both i.rise 0 _ _ i.rises (rises_one 0 (Punctuator p.CloseBracket) same_mark)));
    }
spelt (t.Null place) s = record { rise = 0; long = omega arith; rises = rises_at 0 place (Keyword k.Null) same_mark }
spelt (t.Address place array index) s =
    let i = spelt index 0 in
    let long = i.long in
    record {
      rise = 1 + (0 + (1 + (i.rise + 0)));
      long = omega (arith, long);
      rises = rises_both 1 (0 + (1 + (i.rise + 0))) _ _ (rises_at 1 place (Punctuator p.Ampersand) opening)
          (rises_both 0 (1 + (i.rise + 0)) _ _ (rises_at 0 array.place (Name array.text) same_mark)
          (rises_both 1 (i.rise + 0) _ _ (rises_one 1 (Punctuator p.OpenBracket) opening)
          (rises_both i.rise 0 _ _ i.rises (rises_one 0 (Punctuator p.CloseBracket) same_mark))));
    }
spelt (t.Referent place reference) s = record {
  rise = 1 + 0;
  long = omega arith;
  rises = rises_both 1 0 _ _ (rises_at 1 place (Punctuator p.Star) opening) (rises_at 0 reference.place (Name reference.text) same_mark);
}
spelt (t.Parenthesised place inner) s =
    let i = spelt inner 0 in
    let long = i.long in
    record {
      rise = 1 + (i.rise + 0);
      long = omega (arith, long);
      rises = rises_both 1 (i.rise + 0) _ _ (rises_at 1 place (Punctuator p.OpenParenthesis) opening)
          (rises_both i.rise 0 _ _ i.rises (rises_one 0 (Punctuator p.CloseParenthesis) same_mark));
    }
spelt (t.Unary place operator operand) s =
    let i = spelt operand g.highest_precedence in
    let long = i.long in
    record {
      rise = 1 + i.rise;
      long = omega (arith, long);
      rises = rises_both 1 i.rise _ _
          (rises_at 1 place (Punctuator (g.unary_mark operator)) (unary_opens operator)) i.rises;
    }
spelt (t.Cast place kind operand) s =
    let i = spelt operand g.highest_precedence in
    let long = i.long in
    record {
      rise = 1 + (0 + (0 + i.rise));
      long = omega (arith, long);
      rises = rises_both 1 (0 + (0 + i.rise)) _ _ (rises_at 1 place (Punctuator p.OpenParenthesis) opening)
          (rises_both 0 (0 + i.rise) _ _ (rises_type kind) (rises_both 0 i.rise _ _ (rises_one 0 (Punctuator p.CloseParenthesis) same_mark) i.rises));
    }
spelt (t.Binary operator left right) s =
    let l = spelt left (g.precedence operator) in
    let r = spelt right (g.precedence operator + 1) in
    let first = l.long in
    let second = r.long in
    record {
      rise = l.rise + (1 + r.rise);
      long = omega (arith, first, second);
      rises = rises_provided (l.rise + (1 + r.rise)) _ _
          (rises_both l.rise (1 + r.rise) _ _ l.rises (rises_both 1 r.rise _ _ (rises_operator operator) r.rises));
    }
spelt (t.Conditional condition chosen otherwise) s =
    let a = spelt condition 1 in
    let b = spelt chosen 0 in
    let c = spelt otherwise 0 in
    let first = a.long in
    let second = b.long in
    let third = c.long in
    record {
      rise = a.rise + (1 + (b.rise + (0 + c.rise)));
      long = omega (arith, first, second, third);
      rises = rises_provided (a.rise + (1 + (b.rise + (0 + c.rise)))) _ _ (rises_both a.rise (1 + (b.rise + (0 + c.rise))) _ _ a.rises
          (rises_both 1 (b.rise + (0 + c.rise)) _ _ (rises_one 1 (Punctuator p.Question) opening)
          (rises_both b.rise (0 + c.rise) _ _ b.rises (rises_both 0 c.rise _ _ (rises_one 0 (Punctuator p.Colon) same_mark) c.rises))));
    }

-- ---- Tokens of parts

-- tokens that don't nest too high leave as many braces free as before, and what is said holds where so many more may be free
record Holds (A : ℕ → Type 0) (P : List Token → Type 0) : Type 0 where
  go : (ts : List Token) → P ts → (n : Nesting) (room : ℕ) → n.braces + room ≡ 128 → is_high_from n ts ≡ false →
      ((nesting_after n ts).braces ≡ n.braces) × A room

-- tokens that close a brace and don't nest too high leave one brace fewer open, and what is said holds where so many more may be free
record Closes (A : ℕ → Type 0) (P : List Token → Type 0) : Type 0 where
  go : (ts : List Token) → P ts → (n : Nesting) (braces room : ℕ) → n.braces ≡ braces + 1 → n.braces + room ≡ 128 → is_high_from n ts ≡ false →
      ((nesting_after n ts).braces ≡ braces) × A room

abbrev Always : ℕ → Type 0
Always room = Unit {0}

holds_rising : (h : ℕ) (P : List Token → Type 0) → Rises h P → Holds Always P
holds_rising h P a = record { go = λ ts x n room e low. ((a.go ts x n).0, tt) }

holds_lexeme : (x : Lexeme) → ((n : Nesting) → (within_lexeme x n).braces ≡ n.braces) → Holds Always (lexeme x)
holds_lexeme x f = record { go = λ ts (place, e) n room free low. (ap (λ (us : List Token). (nesting_after n us).braces) e ∙ f n, tt) }

holds_at : (place : Place) (x : Lexeme) → ((n : Nesting) → (within_lexeme x n).braces ≡ n.braces) → Holds Always (lexeme_at place x)
holds_at place x f = record { go = λ ts e n room free low. (ap (λ (us : List Token). (nesting_after n us).braces) e ∙ f n, tt) }

holds_empty : Holds Always empty
holds_empty = record { go = λ ts e n room free low. (ap (λ (us : List Token). (nesting_after n us).braces) e, tt) }

holds_less : (A B : ℕ → Type 0) (P : List Token → Type 0) → ((room : ℕ) → A room → B room) → Holds A P → Holds B P
holds_less A B P f a = record { go = λ ts x n room free low. let r = a.go ts x n room free low in (r.0, f room r.1) }

module _ (A B : ℕ → Type 0) (P Q : List Token → Type 0) where
  holds_both : Holds A P → Holds B Q → Holds (λ room. A room × B room) (P ⋅ Q)
  holds_both a b = record {
    go = λ ts (us, vs, e, x, y) n room free low.
        let all : is_high_from n (us ++ vs) ≡ false = subst (λ (zs : List Token). is_high_from n zs ≡ false) e low in
        let f = a.go us x n room free (is_high_from-prefix n us vs all) in
        let s = b.go vs y (nesting_after n us) room (ap (λ m. m + room) f.0 ∙ free) (low_past n us vs all) in
        (ap (λ (zs : List Token). (nesting_after n zs).braces) e ∙ ap (λ (m : Nesting). m.braces) (after_both n us vs) ∙ s.0 ∙ f.0, (f.1, s.1));
  }

  closes_both : Holds A P → Closes B Q → Closes (λ room. A room × B room) (P ⋅ Q)
  closes_both a b = record {
    go = λ ts (us, vs, e, x, y) n braces room one free low.
        let all : is_high_from n (us ++ vs) ≡ false = subst (λ (zs : List Token). is_high_from n zs ≡ false) e low in
        let f = a.go us x n room free (is_high_from-prefix n us vs all) in
        let s = b.go vs y (nesting_after n us) braces room (f.0 ∙ one) (ap (λ m. m + room) f.0 ∙ free) (low_past n us vs all) in
        (ap (λ (zs : List Token). (nesting_after n zs).braces) e ∙ ap (λ (m : Nesting). m.braces) (after_both n us vs) ∙ s.0, (f.1, s.1));
  }

  holds_either : Holds A P → Holds A Q → Holds A (P or Q)
  holds_either a b = record { go = λ ts x n room free low. ⊎_elim (λ y. a.go ts y n room free low) (λ y. b.go ts y n room free low) x }

-- what says nothing is left out
then : (A : ℕ → Type 0) (P Q : List Token → Type 0) → Holds Always P → Holds A Q → Holds A (P ⋅ Q)
then A P Q a b = holds_less (λ room. Always room × A room) A (P ⋅ Q) (λ room h. h.1) (holds_both Always A P Q a b)

and_then : (A : ℕ → Type 0) (P Q : List Token → Type 0) → Holds A P → Holds Always Q → Holds A (P ⋅ Q)
and_then A P Q a b = holds_less (λ room. A room × Always room) A (P ⋅ Q) (λ room h. h.0) (holds_both A Always P Q a b)

holds_starting : (A : ℕ → Type 0) (place : Place) (P : List Token → Type 0) → Holds A P → Holds A (starting_at place P)
holds_starting A place P a = record { go = λ ts (first, x) n room free low. a.go ts x n room free low }

closes_less : (A B : ℕ → Type 0) (P : List Token → Type 0) → ((room : ℕ) → A room → B room) → Closes A P → Closes B P
closes_less A B P f a = record { go = λ ts x n braces room one free low. let r = a.go ts x n braces room one free low in (r.0, f room r.1) }

closes_brace : Closes Always (lexeme (Punctuator p.CloseBrace))
closes_brace = record { go = λ ts (place, e) n braces room one free low. (ap (λ (us : List Token). (nesting_after n us).braces) e ∙ omega (arith, one), tt) }

closes_brace_at : (place : Place) → Closes Always (lexeme_at place (Punctuator p.CloseBrace))
closes_brace_at place = record { go = λ ts e n braces room one free low. (ap (λ (us : List Token). (nesting_after n us).braces) e ∙ omega (arith, one), tt) }

-- a brace that is opened takes some of the room
holds_braced : (A B : ℕ → Type 0) (place : Place) (Q : List Token → Type 0) → ((room : ℕ) → A room → B (suc room)) → Closes A Q → Holds B
    (lexeme_at place (Punctuator p.OpenBrace) ⋅ Q)
holds_braced A B place Q f a = record {
  go = λ ts (us, vs, e, x, y) n room free low.
      let brace : Token = record { place = place; lexeme = Punctuator p.OpenBrace } in
      let m : Nesting = within_lexeme (Punctuator p.OpenBrace) n in
      let is : ts ≡ brace ∷ vs = e ∙ ap (λ (zs : List Token). zs ++ vs) x in
      let parts = or_parts (is_high m) (is_high_from m vs) (subst (λ (zs : List Token). is_high_from n zs ≡ false) is low) in
      within n vs y m refl room free (low_parts m parts.0).0 parts.1 (ap (λ (zs : List Token). (nesting_after n zs).braces) is);
}
  where
    within : (n : Nesting) (vs : List Token) → Q vs → (m : Nesting) → m.braces ≡ n.braces + 1 → (room : ℕ) → n.braces + room ≡ 128 → m.braces ≤ 128 →
        is_high_from m vs ≡ false → {b : ℕ} → b ≡ (nesting_after m vs).braces → (b ≡ n.braces) × B room
    within n vs y m one zero free fits low e = absurd (omega (arith, one, free, fits))
    within n vs y m one (suc room) free fits low e =
        let r = a.go vs y m n.braces room one (omega (arith, one, free)) low in
        (e ∙ r.0, f room r.1)

-- ---- Lists and options

holds_all : {X : Type 0} (A : X → Type 0) (P : X → List Token → Type 0) → ((x : X) → Holds (λ room. A x) (P x)) → (xs : List X) → Holds
    (λ room. AllByRecursion A xs) (all_of P xs)
holds_all A P f [] = holds_empty
holds_all A P f (x ∷ xs) = holds_both (λ room. A x) (λ room. AllByRecursion A xs) (P x) (all_of P xs) (f x) (holds_all A P f xs)

comma : Holds Always (lexeme (Punctuator p.Comma))
comma = holds_lexeme (Punctuator p.Comma) (λ n. refl)

holds_more : {X : Type 0} (A : X → Type 0) (P : X → List Token → Type 0) → ((x : X) → Holds (λ room. A x) (P x)) → (xs : List X) → Holds
    (λ room. AllByRecursion A xs) (more_of P xs)
holds_more A P f xs = holds_all A (λ x. lexeme (Punctuator p.Comma) ⋅ P x) (λ x. then (λ room. A x) (lexeme (Punctuator p.Comma)) (P x) comma (f x)) xs

holds_list : {X : Type 0} (A : X → Type 0) (P : X → List Token → Type 0) → ((x : X) → Holds (λ room. A x) (P x)) → (xs : List X) → Holds
    (λ room. AllByRecursion A xs) (list_of P xs)
holds_list A P f [] = holds_empty
holds_list A P f (x ∷ xs) = holds_both (λ room. A x) (λ room. AllByRecursion A xs) (P x) (more_of P xs) (f x) (holds_more A P f xs)

-- things of which nothing is said
holds_some : {X : Type 0} (P : X → List Token → Type 0) → ((x : X) → Holds Always (P x)) → (xs : List X) → Holds Always (some_of P xs)
holds_some P f [] = record { go = λ ts x n room free low. absurd x }
holds_some P f (x ∷ xs) =
    and_then Always (P x) (more_of P xs) (f x)
    (holds_less (λ room. AllByRecursion (λ y. Unit {0}) xs) Always (more_of P xs) (λ room h. tt) (holds_more (λ y. Unit {0}) P f xs))

holds_maybe : {X : Type 0} (P : X → List Token → Type 0) → ((x : X) → Holds Always (P x)) → (o : Option X) → Holds Always (maybe P o)
holds_maybe P f None = holds_empty
holds_maybe P f (Some x) = f x

-- ---- Expressions and what is made of them

low_expression : (x : t.Expression) (precedence : ℕ) → Holds (λ room. IsLow 129 x) (g.expression_from x precedence)
low_expression x s = record { go = λ ts y n room free low. let e = spelt x s in let r = e.rises.go ts y n in (r.0, fits ts n e.rise e.long r.1 low) }
  where
    fits : (ts : List Token) (n : Nesting) (rise : ℕ) → height x ≤ rise + 1 → n.others + rise ≤ (nesting_after n ts).others → is_high_from n ts ≡ false →
        height x ≤ 129
    fits [] n rise long higher low = omega (arith, long, higher)
    fits (y ∷ ts) n rise long higher low = let most = low_after n y ts low in omega (arith, long, higher, most)

low_if : (x : Option t.Expression) → Holds (λ room. IsLowIf 129 x) (maybe g.expression x)
low_if None = holds_empty
low_if (Some x) = low_expression x 0

mark : (x : pn.Punctuator) → ((n : Nesting) → (within_mark x n).braces ≡ n.braces) → Holds Always (lexeme (Punctuator x))
mark x f = holds_lexeme (Punctuator x) f

word : (x : kw.Keyword) → Holds Always (lexeme (Keyword x))
word x = holds_lexeme (Keyword x) (λ n. refl)

word_at : (place : Place) (x : kw.Keyword) → Holds Always (lexeme_at place (Keyword x))
word_at place x = holds_at place (Keyword x) (λ n. refl)

name : (x : t.Name) → Holds Always (lexeme_at x.place (Name x.text))
name x = holds_at x.place (Name x.text) (λ n. refl)

type : (x : _) → Holds Always (g.type x)
type x = holds_rising 0 (g.type x) (rises_type x)

semicolon : Holds Always (lexeme (Punctuator p.Semicolon))
semicolon = mark p.Semicolon (λ n. refl)

low_index : (x : Option t.Expression) → Holds (λ room. IsLowIf 129 x) (g.index x)
low_index None = holds_empty
low_index (Some x) = then _ _ _ (mark p.OpenBracket (λ n. refl)) (and_then _ _ _ (low_expression x 0) (mark p.CloseBracket (λ n. refl)))

low_target : (x : t.Lvalue) → Holds (λ room. IsLowIf 129 (index_of x)) (g.target x)
low_target (t.Target x i) = then _ _ _ (name x) (low_index i)
low_target (t.Followed place x) = then _ _ _ (holds_at place (Punctuator p.Star) (λ n. refl)) (name x)

low_changed : (x : t.Lvalue) (c : t.Change) → Holds (λ room. IsLowIf 129 (index_of x) × IsLowChange 129 c) (g.changed x c)
low_changed x (t.Set value) = holds_both _ _ _ _ (low_target x) (then _ _ _ (mark p.Assign (λ n. refl)) (low_expression value 0))
low_changed x (t.Update operator value) = holds_both _ _ _ _ (low_target x) (then _ _ _ (mark (p.Update operator) (λ n. refl)) (low_expression value 0))
low_changed x t.Increment =
    holds_either (λ room. IsLowIf 129 (index_of x) × Unit {0}) Always (g.target x ⋅ lexeme (Punctuator p.Increment))
    (lexeme (Punctuator p.Increment) ⋅ g.target x)
    (holds_both _ _ _ _ (low_target x) (mark p.Increment (λ n. refl)))
    (holds_less (λ room. IsLowIf 129 (index_of x)) _ _ (λ room h. (h, tt)) (then _ _ _ (mark p.Increment (λ n. refl)) (low_target x)))
low_changed x t.Decrement =
    holds_either (λ room. IsLowIf 129 (index_of x) × Unit {0}) Always (g.target x ⋅ lexeme (Punctuator p.Decrement))
    (lexeme (Punctuator p.Decrement) ⋅ g.target x)
    (holds_both _ _ _ _ (low_target x) (mark p.Decrement (λ n. refl)))
    (holds_less (λ room. IsLowIf 129 (index_of x)) _ _ (λ room h. (h, tt)) (then _ _ _ (mark p.Decrement (λ n. refl)) (low_target x)))

low_assignment : (x : t.Assignment) → Holds (λ room. IsLowAssignment 129 x) (g.assignment x)
low_assignment x = holds_starting _ x.place _ (low_changed x.target x.change)

low_last : (x : Option t.Assignment) → Holds (λ room. IsLowLast 129 x) (maybe g.assignment x)
low_last None = holds_empty
low_last (Some x) = low_assignment x

low_call : (x : t.Call) → Holds (λ room. IsLowCall 129 x) (g.call x)
low_call x =
    then _ _ _ (name x.function) (then _ _ _ (mark p.OpenParenthesis (λ n. refl))
    (and_then _ _ _ (holds_list (IsLow 129) g.expression (λ y. low_expression y 0) x.arguments) (mark p.CloseParenthesis (λ n. refl))))

low_initial : (x : t.Initial) → Holds (λ room. IsLowInitial 129 x) (g.initial x)
low_initial t.Absent = holds_empty
low_initial (t.Value x) = then _ _ _ (mark p.Assign (λ n. refl)) (low_expression x 0)
low_initial (t.Result x) = then _ _ _ (mark p.Assign (λ n. refl)) (low_call x)

type_name : (x : t.TypeName) → Holds Always (g.type_name x)
type_name (t.OfKind x) = type x
type_name (t.RefTo x) =
    then _ _ _ (word k.Ref) (then _ _ _ (mark p.OpenParenthesis (λ n. refl)) (then _ _ _ (name x) (mark p.CloseParenthesis (λ n. refl))))

low_initial_of_first : (x : t.Initial) → Holds (λ room. IsLowInitial 129 x) (g.initial_of_first x)
low_initial_of_first t.Absent = holds_empty
low_initial_of_first (t.Value x) = then _ _ _ (mark p.Assign (λ n. refl)) (low_expression x 0)
low_initial_of_first (t.Result x) = record { go = λ ts y n room free low. absurd y }

low_declaration : (x : t.Declaration) → Holds (λ room. IsLowInitial 129 x.initial) (g.declaration x)
low_declaration x = holds_starting _ x.place _ (then _ _ _ (type_name x.type_name) (then _ _ _ (name x.name) (low_initial x.initial)))

low_first : (x : t.First) → Holds (λ room. IsLowFirst 129 x) (g.first x)
low_first t.NoFirst = holds_empty
low_first (t.Declared x) = holds_starting _ x.place _ (then _ _ _ (type_name x.type_name) (then _ _ _ (name x.name) (low_initial_of_first x.initial)))
low_first (t.Assigned x) = low_assignment x

low_condition : (x : t.Expression) → Holds (λ room. IsLow 129 x) (g.condition x)
low_condition x = then _ _ _ (mark p.OpenParenthesis (λ n. refl)) (and_then _ _ _ (low_expression x 0) (mark p.CloseParenthesis (λ n. refl)))

-- ---- Statements

low_key : (language : Language) (x : Option t.Expression) → Holds (λ room. IsLowIf 129 x) (g.key language x)
low_key language None = holds_empty
low_key Plain (Some x) = record { go = λ ts y n room free low. absurd y }
low_key Full (Some x) = then _ _ _ (mark p.OpenBracket (λ n. refl)) (and_then _ _ _ (low_expression x 0) (mark p.CloseBracket (λ n. refl)))

of_lock : (language : Language) (place : Place) (x : kw.Keyword) (mutex : t.Name) (key : Option t.Expression) → Holds (λ room. IsLowIf 129 key)
    (lexeme_at place (Keyword x) ⋅ lexeme (Punctuator p.OpenParenthesis) ⋅ lexeme_at mutex.place (Name mutex.text) ⋅ g.key language key ⋅ lexeme
    (Punctuator p.CloseParenthesis) ⋅ lexeme (Punctuator p.Semicolon))
of_lock language place x mutex key =
    then _ _ _ (word_at place x)
    (then _ _ _ (mark p.OpenParenthesis (λ n. refl))
    (then _ _ _ (name mutex) (and_then _ _ _ (low_key language key) (then _ _ _ (mark p.CloseParenthesis (λ n. refl)) semicolon))))

module _ (language : Language) where
  mutual
    flat : (x : t.Statement) → Holds (λ room. IsFlat 129 room x) (g.statement language x)
    flat (t.BlockOf x) = flat_block x
    flat (t.Empty place) = holds_at place (Punctuator p.Semicolon) (λ n. refl)
    flat (t.Declare x) = and_then _ _ _ (low_declaration x) semicolon
    flat (t.Assign x) = and_then _ _ _ (low_assignment x) semicolon
    flat (t.AssignResult x c) = holds_both _ _ _ _ (low_target x) (then _ _ _ (mark p.Assign (λ n. refl)) (and_then _ _ _ (low_call c) semicolon))
    flat (t.CallOnly c) = and_then _ _ _ (low_call c) semicolon
    flat (t.If place arms otherwise) = holds_both _ _ _ _ (holds_starting _ place _ (flat_arms arms)) (flat_otherwise otherwise)
    flat (t.While place x inside) = then _ _ _ (word_at place k.While) (holds_both _ _ _ _ (low_condition x) (flat_block inside))
    flat (t.Do place inside x) =
        then _ _ _ (word_at place k.Do) (holds_both _ _ _ _ (flat_block inside) (then _ _ _ (word k.While) (and_then _ _ _ (low_condition x) semicolon)))
    flat (t.For place start x last inside) =
        holds_less (λ room. IsLowFirst 129 start × (IsLowIf 129 x × (IsLowLast 129 last × IsFlatBlock 129 room inside))) _ _
        (λ room h. (h.0, h.1.0, h.1.1.0, h.1.1.1))
        (then _ _ _ (word_at place k.For) (then _ _ _ (mark p.OpenParenthesis (λ n. refl))
        (holds_both _ _ _ _ (low_first start) (then _ _ _ semicolon (holds_both _ _ _ _ (low_if x) (then _ _ _ semicolon
        (holds_both _ _ _ _ (low_last last) (then _ _ _ (mark p.CloseParenthesis (λ n. refl)) (flat_block inside)))))))))
    flat (t.Lock place mutex key) = of_lock language place k.Lock mutex key
    flat (t.Unlock place mutex key) = of_lock language place k.Unlock mutex key

    flat_block : (x : t.Block) → Holds (λ room. IsFlatBlock 129 room x) (g.block language x)
    flat_block (t.Braced opening inside closing) =
        holds_braced (λ room. AreFlat 129 room inside × Unit {0}) _ opening _ (λ room h. h.0) (closes_both _ _ _ _ (all_flat inside) (closes_brace_at closing))

    all_flat : (xs : t.Statements) → Holds (λ room. AreFlat 129 room xs) (g.statements language xs)
    all_flat t.no_statement = holds_empty
    all_flat (t.statement_and x rest) = holds_both _ _ _ _ (flat x) (all_flat rest)

    flat_arms : (xs : t.Arms) → Holds (λ room. AreFlatArms 129 room xs) (g.arms_of language xs)
    flat_arms t.no_arm = record { go = λ ts y n room free low. absurd y }
    flat_arms (t.arm_and x inside rest) =
        holds_less (λ room. IsLow 129 x × (IsFlatBlock 129 room inside × AreFlatArms 129 room rest)) _ _ (λ room h. (h.0, h.1.0, h.1.1))
        (then _ _ _ (word k.If) (holds_both _ _ _ _ (low_condition x) (holds_both _ _ _ _ (flat_block inside) (more_flat_arms rest))))

    more_flat_arms : (xs : t.Arms) → Holds (λ room. AreFlatArms 129 room xs) (g.more_arms_of language xs)
    more_flat_arms t.no_arm = holds_empty
    more_flat_arms (t.arm_and x inside rest) =
        holds_less (λ room. IsLow 129 x × (IsFlatBlock 129 room inside × AreFlatArms 129 room rest)) _ _ (λ room h. (h.0, h.1.0, h.1.1))
        (then _ _ _ (word k.Else) (then _ _ _ (word k.If)
        (holds_both _ _ _ _ (low_condition x) (holds_both _ _ _ _ (flat_block inside) (more_flat_arms rest)))))

    flat_otherwise : (x : t.Otherwise) → Holds (λ room. IsFlatOtherwise 129 room x) (g.otherwise_of language x)
    flat_otherwise t.Nothing = holds_empty
    flat_otherwise (t.Else inside) = then _ _ _ (word k.Else) (flat_block inside)

-- ---- Items

low_return : (x : Option t.Return) → Holds (λ room. IsLowReturn 129 x) (maybe g.returned x)
low_return None = holds_empty
low_return (Some x) = then _ _ _ (word_at x.place k.Return) (and_then _ _ _ (low_if x.value) semicolon)

parameters : (xs : List t.Parameter) → Holds Always (g.parameters xs)
parameters [] = holds_either Always Always empty (lexeme (Keyword k.Void)) holds_empty (word k.Void)
parameters (x ∷ xs) = holds_some g.parameter (λ y. then _ _ _ (type_name y.type_name) (name y.name)) (x ∷ xs)

result : (x : Option _) → Holds Always (g.result x)
result None = word k.Void
result (Some x) = type_name x

signed : (x : t.Signed) → Holds Always (g.signed x)
signed x = holds_starting _ x.place _ (then _ _ _ (sign x.negative) (holds_lexeme (Number x.value) (λ n. refl)))
  where
    sign : (negative : Bool) → Holds Always (g.sign negative)
    sign true = mark (p.Binary _) (λ n. refl)
    sign false = holds_empty

initialiser : (x : t.Initialiser) → Holds Always (g.initialiser x)
initialiser (t.Single x) = signed x
initialiser (t.InBraces place xs) =
    holds_braced Always Always place _ (λ room h. tt)
    (closes_less _ Always _ (λ room h. tt) (closes_both _ _ _ _ (holds_some g.signed signed xs)
    (closes_both _ _ _ _ (holds_either Always Always empty (lexeme (Punctuator p.Comma)) holds_empty comma) closes_brace)))

length_of : (x : t.Length) → Holds Always (g.length_of x)
length_of x = then _ _ _ (mark p.OpenBracket (λ n. refl)) (then _ _ _ (holds_at x.place (Number x.value) (λ n. refl)) (mark p.CloseBracket (λ n. refl)))

assigned : (x : t.Initialiser) → Holds Always (g.assigned x)
assigned x = then _ _ _ (mark p.Assign (λ n. refl)) (initialiser x)

mutex_length : (language : Language) (x : Option t.Length) → Holds Always (g.mutex_length language x)
mutex_length language None = holds_empty
mutex_length Plain (Some x) = record { go = λ ts y n room free low. absurd y }
mutex_length Full (Some x) = length_of x

brackets : (language : Language) (each : Bool) → Holds Always (g.brackets language each)
brackets language false = holds_empty
brackets Plain true = record { go = λ ts y n room free low. absurd y }
brackets Full true = then _ _ _ (mark p.OpenBracket (λ n. refl)) (mark p.CloseBracket (λ n. refl))

low_from : (ts : List Token) → nests_high ts ≡ false → is_high_from outside ts ≡ false
unfolding nests_high
low_from ts e = e

module _ (language : Language) where
  flat_body : (x : t.Body) → Holds (λ room. IsFlatBody 129 room x) (g.body language x)
  flat_body x =
      holds_braced (λ room. AreFlat 129 room x.statements × (IsLowReturn 129 x.returned × Unit {0})) _ x.opening _ (λ room h. (h.0, h.1.0))
      (closes_both _ _ _ _ (all_flat language x.statements) (closes_both _ _ _ _ (low_return x.returned) (closes_brace_at x.closing)))

  flat_item : (x : t.Item) → Holds (λ room. IsFlatItem 129 room x) (g.item language x)
  flat_item (t.MutexItem x length) = then _ _ _ (word k.Mutex) (then _ _ _ (name x) (then _ _ _ (mutex_length language length) semicolon))
  flat_item (t.PersistentItem x) =
      then _ _ _ (word k.Persistent) (then _ _ _ (mark p.OpenParenthesis (λ n. refl)) (then _ _ _ (name x.guard.mutex)
      (then _ _ _ (brackets language x.guard.each) (then _ _ _ (mark p.CloseParenthesis (λ n. refl))
      (then _ _ _ (type_name x.type_name)
      (then _ _ _ (name x.name)
      (then _ _ _ (holds_maybe g.length_of length_of x.length) (then _ _ _ (holds_maybe g.assigned assigned x.initialiser) semicolon))))))))
  flat_item (t.ThreadItem x) = then _ _ _ (word k.Thread) (then _ _ _ (name x.name) (flat_block language x.block))
  flat_item (t.FunctionItem x) =
      then _ _ _ (result x.type_name) (then _ _ _ (name x.name) (then _ _ _ (mark p.OpenParenthesis (λ n. refl)) (then _ _ _ (parameters x.parameters)
      (then _ _ _ (mark p.CloseParenthesis (λ n. refl)) (flat_body x.body)))))

  flat_items : (xs : List t.Item) → Holds (λ room. AllByRecursion (IsFlatItem 129 room) xs) (all_of (g.item language) xs)
  flat_items [] = holds_empty
  flat_items (x ∷ xs) = holds_both _ _ _ _ (flat_item x) (flat_items xs)

  program : (xs : List t.Item) → Holds (λ room. AllByRecursion (IsFlatItem 129 room) xs) (g.program language xs)
  program [] = record { go = λ ts y n room free low. absurd y }
  program (x ∷ xs) = holds_both _ _ _ _ (flat_item x) (flat_items xs)

  pub shallow : (text : List ℕ) (xs : List t.Item) → IsRead language text xs → IsShallow 128 129 xs
  shallow text xs x = ((program xs).go (scanned language text).tokens x.spelled outside 128 refl (low_from (scanned language text).tokens x.low)).1

  -- as the reader tells it
  pub shallow_told : (text : List ℕ) (s : Scanned) (r : Result Tree SourceError) → s ≡ scanned language text
      → IfOk r (λ tree. (given : List ℕ) → s ≡ scanned language given → IsRead language given (items_of tree)) →
      IfOk r (λ tree. IsShallow 128 129 (items_of tree))
  shallow_told text s (Ok tree) e told = shallow text (items_of tree) (told text e)
  shallow_told text s (Err x) e told = tt
