-- The tokens of a text, one after another, from its front.
use Rattle.std.proofs.Common.{◌≡◌, ℕ, ◌+◌, ◌<◌, zero, suc, Some, None, List, [], ◌∷◌, length, drop, refl, ap, subst, ◌∙◌, arith, length-drop}
use Rattle.c_tree.specs.declared.language.Language.TheVariants.{Full}
use Rattle.c_tree.specs.Tokens.{Lexeme, Token}
use Rattle.c_tree.specs.LexicalScan.{Prefix, Blank, Lexed, Broken, End, prefix, Scanned, scanned_from, scanned, plain_scanned}
use Rattle.c_tree.specs.LexicalScan.{in_language, full_lexeme, with_token}

abbrev pub token : ℕ → Lexeme → Token
token place lexeme = record { place = record { 0 = place }; lexeme = lexeme }

-- the tokens, and no fault
abbrev pub whole : List Token → Scanned
whole ts = record { tokens = ts; fault = None }

-- from so many bytes after a place on the text has these tokens, whatever stood before it
pub record Scans (base past : ℕ) (text : List ℕ) (ts : List Token) : Type 0 where
  pub scanned : (more : ℕ) → length text < more → in_language Full (scanned_from more (base + past) text) ≡ whole ts

-- what stands at a place and after it, by what stands there
abbrev after_prefix : (more place : ℕ) → List ℕ → Prefix → Scanned
after_prefix more place text f = elim f [
  | Blank bytes ↦ scanned_from more (place + bytes) (drop bytes text)
  | Lexed lexeme bytes ↦ with_token (token place lexeme) (scanned_from more (place + bytes) (drop bytes text))
  | Broken rule ↦ record { tokens = []; fault = Some (record { rule = rule; place = record { 0 = place } }) }
  | End ↦ record { tokens = []; fault = None }
]

pub at_end : (base past : ℕ) → Scans base past [] []
unfolding prefix
at_end base past = record { scanned = by }
  where
    by : (more : ℕ) → 0 < more → in_language Full (scanned_from more (base + past) []) ≡ whole []
    by zero h = absurd (omega arith)
    by (suc more) h = refl

pub rebased : (base past : ℕ) (text : List ℕ) (ts : List Token) → Scans (base + past) 0 text ts → Scans base past text ts
rebased base past text ts s = record {
  scanned = λ more h.
      let same : base + past + 0 ≡ base + past = omega arith in
      subst (λ p. in_language Full (scanned_from more p text) ≡ whole ts) same (s.scanned more h);
}

-- bytes between tokens
pub blanks : (base past n : ℕ) (text rest : List ℕ) (ts : List Token) → prefix text ≡ Blank n → drop n text ≡ rest → length rest < length text
    → Scans base (past + n) rest ts → Scans base past text ts
blanks base past n text rest ts front left fewer s = record { scanned = by }
  where
    by : (more : ℕ) → length text < more → in_language Full (scanned_from more (base + past) text) ≡ whole ts
    by zero h = absurd (omega arith)
    by (suc more) h =
        let same : base + (past + n) ≡ base + past + n = omega arith in
        ap (λ f. in_language Full (after_prefix more (base + past) text f)) front
        ∙ ap (λ r. in_language Full (scanned_from more (base + past + n) r)) left
        ∙ subst (λ p. in_language Full (scanned_from more p rest) ≡ whole ts) same (s.scanned more (omega arith))

-- a token
pub tokens : (base past n : ℕ) (text rest : List ℕ) (x y : Lexeme) (ts : List Token) → prefix text ≡ Lexed x n → full_lexeme x ≡ y → drop n text ≡ rest
    → length rest < length text → Scans base (past + n) rest ts → Scans base past text (token (base + past) y ∷ ts)
tokens base past n text rest x y ts front means left fewer s = record { scanned = by }
  where
    by : (more : ℕ) → length text < more → in_language Full (scanned_from more (base + past) text) ≡ whole (token (base + past) y ∷ ts)
    by zero h = absurd (omega arith)
    by (suc more) h =
        let same : base + (past + n) ≡ base + past + n = omega arith in
        let rest_is : in_language Full (scanned_from more (base + past + n) rest) ≡ whole ts =
        subst (λ p. in_language Full (scanned_from more p rest) ≡ whole ts) same (s.scanned more (omega arith)) in
        ap (λ f. in_language Full (after_prefix more (base + past) text f)) front
        ∙ ap (λ r. in_language Full (with_token (token (base + past) x) (scanned_from more (base + past + n) r))) left
        ∙ ap (λ (z : Scanned). with_token (token (base + past) (full_lexeme x)) z) rest_is
        ∙ ap (λ z. whole (token (base + past) z ∷ ts)) means

-- ---- By their bytes

pub blank : {base past c : ℕ} {cs : List ℕ} {ts : List Token} → prefix (c ∷ cs) ≡ Blank 1 → Scans base (past + 1) cs ts → Scans base past (c ∷ cs) ts
blank {base} {past} {c} {cs} {ts} front s = blanks base past 1 (c ∷ cs) cs ts front refl (omega arith) s

-- a token of so many bytes after its first one
pub lexed : {base past c : ℕ} {cs : List ℕ} {x y : Lexeme} {ts : List Token} → (n : ℕ) → prefix (c ∷ cs) ≡ Lexed x (suc n) → full_lexeme x ≡ y
    → Scans base (past + suc n) (drop n cs) ts → Scans base past (c ∷ cs) (token (base + past) y ∷ ts)
lexed {base} {past} {c} {cs} {x} {y} {ts} n front means s =
    tokens base past (suc n) (c ∷ cs) (drop n cs) x y ts front means refl (omega (arith, length-drop n cs)) s

-- a whole text
pub scanned_whole : (text : List ℕ) (ts : List Token) → Scans 0 0 text ts → scanned Full text ≡ whole ts
unfolding scanned plain_scanned
scanned_whole text ts s = s.scanned (suc (length text)) (omega arith)
