-- What stands at the front of a text is some of it.
use Rattle.std.proofs.Common.{◌≡◌, ℕ, ◌+◌, ◌<◌, ◌≤◌, Bool, true, false, not, ◌&&◌, ◌||◌, cond, Option, Some}
use Rattle.std.proofs.Common.{None, List, [], ◌∷◌, length, take, drop, refl, ap, sym, ◌∙◌, arith, length-drop}
use Rattle.std.specs.Prelude.{find, nat_eq, nat_le, ◌==◌, codes}
use Rattle.std.specs.List.{prefix_len, starts_with, list_all}
use Rattle.std.specs.Option.{option_map}
use Rattle.std.proofs.lemmas.Bool.{and_parts}
use Rattle.std.proofs.lemmas.Bool.Decides.{nat_tests}
use Rattle.std.proofs.lemmas.List.Sums.{prefix_len-le-length}
use Rattle.std.proofs.lemmas.List.Folds.{length-prefix_len}
use Rattle.ido_ints.specs.TypedNumbers.{Typed}
use Rattle.c_tree.specs.declared.token.Punctuator as pn
use Rattle.c_tree.specs.declared.rule.Rule.TheVariants as rule
use Rattle.c_tree.specs.Tokens.{Number, Punctuator}
use Rattle.c_tree.specs.LexicalScan.{Prefix, Blank, Lexed, Broken, End, prefix, prefix_from, is_blank, is_letter, is_decimal, is_word_byte, through_comment}
use Rattle.c_tree.specs.LexicalScan.{line_comment, closed_comment, word_prefix, number_of, number_prefix, punctuators, punctuator_prefix}

-- as many bytes as are told stand in the text, at least one
abbrev pub IsPart : (text : List ℕ) → Prefix → Type 0
IsPart text (Blank bytes) = (0 < bytes) × (bytes ≤ length text)
IsPart text (Lexed lexeme bytes) = (0 < bytes) × (bytes ≤ length text)
IsPart text (Broken rule) = Unit {0}
IsPart text End = Unit {0}

-- ---- Runs of bytes

run_some : (p : ℕ → Bool) (c : ℕ) (cs : List ℕ) → p c ≡ true
    → (0 < length (take (prefix_len p (c ∷ cs)) (c ∷ cs))) × (length (take (prefix_len p (c ∷ cs)) (c ∷ cs)) ≤ length (c ∷ cs))
run_some p c cs e =
    let all : length (take (prefix_len p (c ∷ cs)) (c ∷ cs)) ≡ prefix_len p (c ∷ cs) = length-prefix_len p (c ∷ cs) in
    let some : prefix_len p (c ∷ cs) ≡ 1 + prefix_len p cs = rw e refl in
    (omega (arith, all, some), omega (arith, all, prefix_len-le-length p (c ∷ cs)))

-- ---- Texts with a known front

abbrev begins : List ℕ → (word : List ℕ) → Bool
begins text word = starts_with nat_eq text word

begins_length : (text word : List ℕ) → begins text word ≡ true → length word ≤ length text
begins_length text [] e = omega arith
begins_length [] (d ∷ ds) e = cc
begins_length (c ∷ cs) (d ∷ ds) e = let rest = begins_length cs ds (and_parts (d == c) (begins cs ds) e).1 in omega arith

begins_first : (c d : ℕ) (cs ds : List ℕ) → begins (c ∷ cs) (d ∷ ds) ≡ true → c ≡ d
begins_first c d cs ds e = let first = (and_parts (d == c) (begins cs ds) e).0 in grind (arith, nat_tests)

-- ---- Comments

through_within : (text : List ℕ) (n : ℕ) → through_comment text ≡ Some n → n ≤ length text
through_within [] n e = cc
through_within (c ∷ []) n e = cc
through_within (c ∷ d ∷ ds) n e = by (c == 42 && d == 47) (through_comment (d ∷ ds)) (through_within (d ∷ ds)) e
  where
    by : (b : Bool) (x : Option ℕ) → ((m : ℕ) → x ≡ Some m → m ≤ length (d ∷ ds)) → cond b (Some 2) (option_map (λ m. m + 1) x) ≡ Some n
        → n ≤ length (c ∷ d ∷ ds)
    by true x h q = let two : 2 ≡ n = cc in omega arith
    by false (Some m) h q =
        let more : m + 1 ≡ n = cc in
        let within : m ≤ length (d ∷ ds) = h m refl in
        omega arith
    by false None h q = cc

begins_with_slash : (c : ℕ) (cs : List ℕ) → begins (c ∷ cs) (codes "//") ≡ true → not (c == 10) ≡ true
begins_with_slash c cs e = let first : c ≡ 47 = begins_first c 47 cs (47 ∷ []) e in rw first refl

line_some : (c : ℕ) (cs : List ℕ) → begins (c ∷ cs) (codes "//") ≡ true → IsPart (c ∷ cs) (line_comment (c ∷ cs))
line_some c cs e = run_some (λ d. not (d == 10)) c cs (begins_with_slash c cs e)

closed_some : (text : List ℕ) → begins text (codes "/*") ≡ true → IsPart text (closed_comment text)
closed_some text e = by (through_comment (drop 2 text)) refl
  where
    by : (x : Option ℕ) → through_comment (drop 2 text) ≡ x → IsPart text (elim x [ Some n ↦ Blank (n + 2) | None ↦ Broken rule.Byte ])
    by (Some n) h =
        let two : 2 ≤ length text = begins_length text (codes "/*") e in
        let within : n ≤ length (drop 2 text) = through_within (drop 2 text) n h in
        (omega arith, omega (arith, within, length-drop 2 text))
    by None h = tt

-- ---- Words and numbers

letter_goes_on : (c : ℕ) → is_letter c ≡ true → is_word_byte c ≡ true
letter_goes_on c e = rw e refl

decimal_goes_on : (c : ℕ) → is_decimal c ≡ true → is_word_byte c ≡ true
decimal_goes_on c e = rw e (or_true (is_letter c))
  where
    or_true : (b : Bool) → (b || true) ≡ true
    or_true true = refl
    or_true false = refl

word_some : (c : ℕ) (cs : List ℕ) → is_letter c ≡ true → IsPart (c ∷ cs) (word_prefix (c ∷ cs))
word_some c cs e = run_some is_word_byte c cs (letter_goes_on c e)

number_some : (c : ℕ) (cs : List ℕ) → is_decimal c ≡ true → IsPart (c ∷ cs) (number_prefix (c ∷ cs))
number_some c cs e = by (number_of (take (prefix_len is_word_byte (c ∷ cs)) (c ∷ cs)))
  where
    by : (x : Option Typed) → IsPart (c ∷ cs) (elim x [
      | Some value ↦ Lexed (Number value)
          (length (take (prefix_len is_word_byte (c ∷ cs)) (c ∷ cs)))
      | None ↦ Broken rule.Number
    ])
    by (Some v) = run_some is_word_byte c cs (decimal_goes_on c e)
    by None = tt

-- ---- Punctuators

-- what is found passes a test that each element of the list passes, and the test of the search
found_passes : {X : Type 0} (p q : X → Bool) (xs : List X) (x : X) → list_all q xs ≡ true → find p xs ≡ Some x → (p x ≡ true) × (q x ≡ true)
found_passes p q [] x all e = cc
found_passes {X} p q (y ∷ ys) x all e = by (found_passes p q ys x (and_parts (q y) (list_all q ys) all).1) (p y) refl e
  where
    by : (find p ys ≡ Some x → (p x ≡ true) × (q x ≡ true)) → (b : Bool) → p y ≡ b → cond b (Some y) (find p ys) ≡ Some x → (p x ≡ true) × (q x ≡ true)
    by later true h f = let same : y ≡ x = cc in (ap p (sym same) ∙ h, ap q (sym same) ∙ (and_parts (q y) (list_all q ys) all).0)
    by later false h f = later f

-- each punctuator has some byte
is_long : List ℕ × pn.Punctuator → Bool
is_long e = nat_le 1 (length e.0)

all_long : list_all is_long punctuators ≡ true
unfolding is_long
all_long = refl

punctuator_some : (text : List ℕ) → IsPart text (punctuator_prefix text)
unfolding is_long
punctuator_some text = by (find (λ e. begins text e.0) punctuators) refl
  where
    by : (x : Option (List ℕ × pn.Punctuator)) → find (λ e. begins text e.0) punctuators ≡ x
        → IsPart text (elim x [ Some entry ↦ Lexed (Punctuator entry.1) (length entry.0) | None ↦ Broken rule.Byte ])
    by (Some e) h =
        let passes = found_passes (λ e. begins text e.0) is_long punctuators e all_long h in
        (grind (arith, nat_tests, passes.1), begins_length text e.0 passes.0)
    by None h = tt

-- ---- By the first byte

choose : {A : Type 0} (P : A → Type 0) (b : Bool) (x y : A) → (b ≡ true → P x) → (b ≡ false → P y) → P (cond b x y)
choose P true x y f g = f refl
choose P false x y f g = g refl

from_some : (c : ℕ) (cs : List ℕ) → IsPart (c ∷ cs) (prefix_from c (c ∷ cs))
from_some c cs =
    let text : List ℕ = c ∷ cs in
    let P : Prefix → Type 0 = IsPart text in
    let number : Prefix = cond (is_decimal c) (number_prefix text) (punctuator_prefix text) in
    let word : Prefix = cond (is_letter c) (word_prefix text) number in
    let closed : Prefix = cond (begins text (codes "/*")) (closed_comment text) word in
    let line : Prefix = cond (begins text (codes "//")) (line_comment text) closed in
    choose P (is_blank c) (Blank 1) line (λ _. (omega arith, omega arith))
    (λ _. choose P (begins text (codes "//")) (line_comment text) closed (line_some c cs)
    (λ _. choose P (begins text (codes "/*")) (closed_comment text) word (closed_some text)
    (λ _. choose P (is_letter c) (word_prefix text) number (word_some c cs)
    (λ _. choose P (is_decimal c) (number_prefix text) (punctuator_prefix text) (number_some c cs) (λ _. punctuator_some text)))))

pub prefix-IsPart : (text : List ℕ) → IsPart text (prefix text)
unfolding prefix
prefix-IsPart [] = tt
prefix-IsPart (c ∷ cs) = from_some c cs
