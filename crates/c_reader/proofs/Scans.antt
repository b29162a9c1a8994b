-- The tokens of a text, one after another.
use Rattle.std.proofs.Common.{◌≡◌, ℕ, ◌+◌, ◌<◌, ◌≤◌, zero, suc, Some, None, List, [], ◌∷◌, ◌++◌, length}
use Rattle.std.proofs.Common.{drop, refl, ap, sym, subst, ◌∙◌, arith, length-drop, append_assoc}
use Rattle.c_tree.specs.Tokens.{Lexeme, Token}
use Rattle.c_tree.specs.LexicalScan.{Prefix, Blank, Lexed, Broken, End, prefix, Scanned, scanned_from, plain_scanned}
use Rattle.c_reader.proofs.Sizes.{IsPart, prefix-IsPart}

abbrev token_at : (place : ℕ) → Lexeme → Token
token_at place lexeme = record { place = record { 0 = place }; lexeme = lexeme }

-- what stands at a place and after it, by what stands there
abbrev after_prefix : (more place : ℕ) → List ℕ → Prefix → Scanned
after_prefix more place text f = elim f [
  | Blank bytes ↦ scanned_from more (place + bytes) (drop bytes text)
  | Lexed lexeme bytes ↦ record (scanned_from more (place + bytes) (drop bytes text))
      { tokens = token_at place lexeme ∷ (scanned_from more (place + bytes) (drop bytes text)).tokens }
  | Broken rule ↦ record { tokens = []; fault = Some (record { rule = rule; place = record { 0 = place } }) }
  | End ↦ record { tokens = []; fault = None }
]

-- the rest of a text that is left after the tokens that were found
pub record IsTextLeft (text rest : List ℕ) (found : List Token) : Type 0 where
  pub place : ℕ
  pub at : place + length rest ≡ length text
  -- more than the bytes that are left
  pub more : ℕ
  pub enough : length rest ≤ more
  pub tokens : found ++ (scanned_from (suc more) place rest).tokens ≡ (plain_scanned text).tokens
  pub fault : (scanned_from (suc more) place rest).fault ≡ (plain_scanned text).fault

pub IsLeft-start : (text : List ℕ) → IsTextLeft text text []
unfolding plain_scanned
IsLeft-start text = record {
  place = 0;
  at = omega arith;
  more = length text;
  enough = omega arith;
  tokens = refl;
  fault = refl;
}

-- what stands at the front is some of what is left
pub some_of : (rest : List ℕ) (f : Prefix) → f ≡ prefix rest → IsPart rest f
some_of rest f e = let P : Prefix → Type 0 = IsPart rest in subst P (sym e) (prefix-IsPart rest)

pub IsLeft-Blank : (text rest : List ℕ) (found : List Token) (n : ℕ) → IsTextLeft text rest found → Blank n ≡ prefix rest → IsTextLeft text (drop n rest) found
IsLeft-Blank text rest found n l e = by l.more l.enough l.tokens l.fault
  where
    some : (0 < n) × (n ≤ length rest)
    some = some_of rest (Blank n) e

    by : (more : ℕ) → length rest ≤ more → found ++ (scanned_from (suc more) l.place rest).tokens ≡ (plain_scanned text).tokens
        → (scanned_from (suc more) l.place rest).fault ≡ (plain_scanned text).fault → IsTextLeft text (drop n rest) found
    by zero enough t f = absurd (omega (arith, some.0, some.1))
    by (suc m) enough t f = record {
      place = l.place + n;
      at = omega (arith, l.at, some.1, length-drop n rest);
      more = m;
      enough = omega (arith, some.0, some.1, length-drop n rest);
      tokens = ap (λ x. found ++ (after_prefix (suc m) l.place rest x).tokens) e ∙ t;
      fault = ap (λ x. (after_prefix (suc m) l.place rest x).fault) e ∙ f;
    }

pub IsLeft-Lexed : (text rest : List ℕ) (found : List Token) (place : ℕ) (lexeme : Lexeme) (n : ℕ) → IsTextLeft text rest found → Lexed lexeme n ≡ prefix rest
    → place + length rest ≡ length text → IsTextLeft text (drop n rest) (found ++ token_at place lexeme ∷ [])
IsLeft-Lexed text rest found place lexeme n l e at = by l.more l.enough l.tokens l.fault
  where
    some : (0 < n) × (n ≤ length rest)
    some = some_of rest (Lexed lexeme n) e

    same : l.place ≡ place
    same = omega (arith, l.at, at)

    by : (more : ℕ) → length rest ≤ more → found ++ (scanned_from (suc more) l.place rest).tokens ≡ (plain_scanned text).tokens
        → (scanned_from (suc more) l.place rest).fault ≡ (plain_scanned text).fault → IsTextLeft text (drop n rest) (found ++ token_at place lexeme ∷ [])
    by zero enough t f = absurd (omega (arith, some.0, some.1))
    by (suc m) enough t f = record {
      place = place + n;
      at = omega (arith, at, some.1, length-drop n rest);
      more = m;
      enough = omega (arith, some.0, some.1, length-drop n rest);
      tokens = append_assoc found (token_at place lexeme ∷ []) (scanned_from (suc m) (place + n) (drop n rest)).tokens
          ∙ ap (λ p. found ++ (after_prefix (suc m) p rest (Lexed lexeme n)).tokens) (sym same)
          ∙ ap (λ x. found ++ (after_prefix (suc m) l.place rest x).tokens) e ∙ t;
      fault = ap (λ p. (after_prefix (suc m) p rest (Lexed lexeme n)).fault) (sym same) ∙ ap (λ x. (after_prefix (suc m) l.place rest x).fault) e ∙ f;
    }
