-- A text whose tokens are whole has the same ones with an LF at its end, and so it is accepted with one.
use Rattle.std.proofs.Common.{◌≡◌, ℕ, zero, suc, ◌+◌, ◌<◌, ◌≤◌, List, [], ◌∷◌, ◌++◌, length, take, drop, Bool, true, false, Option, Some, None}
use Rattle.std.proofs.Common.{refl, sym, ap, ap₂, subst, ◌∙◌, arith, codes, length-append}
use Rattle.std.specs.Prelude.{◌&&◌, ◌||◌, ◌==◌, not, nat_eq, find, take_while, if◌then◌else◌}
use Rattle.std.specs.Cmp.Lexicographic.{pointwise}
use Rattle.std.specs.List.{prefix_len, starts_with}
use Rattle.std.specs.Option.{option_map}
use Rattle.std.proofs.lemmas.Bool.{and_parts}
use Rattle.std.proofs.lemmas.List.{drop-append-le, length-drop}
use Rattle.std.proofs.lemmas.Option.{none-some, same_Some}
use Rattle.ido_base.specs.Places.{line_feed}
use Rattle.c_tree.specs.declared.language.Language.{Language}
use Rattle.c_tree.specs.declared.rule.Rule as r
use Rattle.c_tree.specs.declared.rule.Rule.TheVariants as rule
use Rattle.c_tree.specs.declared.token.Punctuator as pn
use Rattle.c_tree.specs.LexicalScan.{Prefix, Blank, Lexed, Broken, End, Scanned, closed_comment, is_blank, is_decimal, is_letter, is_word_byte, line_comment}
use Rattle.c_tree.specs.LexicalScan.{in_language, number_of, number_prefix, plain_scanned, prefix, punctuator_prefix, punctuators, scanned, scanned_from}
use Rattle.c_tree.specs.LexicalScan.{through_comment, with_token, word_lexeme, word_prefix}
use Rattle.c_tree.specs.Tokens.{Lexeme, Number, Punctuator}
use Rattle.c_tree.specs.Trees.{Item}
use Rattle.c_tree.specs.TextReadings.{IsRead}
use Rattle.c_tree.specs.TextReadings as readings
use Rattle.c_tree.specs.Grammar.{program}
use Rattle.c_tree.specs.AcceptedTexts.{IsTyped}
use Rattle.c_tree.specs.Flats.{Flat}
use Rattle.c_tree.specs.Programs.{Program}
use Rattle.log_schemes.specs.declared.log.Log.{Log}
use Rattle.thread_code.specs.Plans.{language_of}
use Rattle.ido_compile.specs.LoggedTexts.{IsAcceptedAs}

abbrev feed : List ℕ
feed = 10 ∷ []

-- ---- What stands at the front of a text, with an LF at its end

-- no LF is among the bytes
abbrev no_feed : List ℕ → Bool
no_feed [] = true
no_feed (q ∷ qs) = not (nat_eq q 10) && no_feed qs

not_true : (b : Bool) → not b ≡ true → b ≡ false
not_true true e = absurd (cc e)
not_true false e = refl

starts_same : (pattern text : List ℕ) → no_feed pattern ≡ true → starts_with nat_eq (text ++ feed) pattern ≡ starts_with nat_eq text pattern
starts_same [] text free = refl
starts_same (q ∷ qs) [] free =
    let parts = and_parts (not (nat_eq q 10)) (no_feed qs) free in
    ap (λ (b : Bool). b && pointwise nat_eq qs (take (length qs) [])) (not_true (nat_eq q 10) parts.0)
starts_same (q ∷ qs) (x ∷ xs) free =
    let parts = and_parts (not (nat_eq q 10)) (no_feed qs) free in
    ap (λ (b : Bool). nat_eq q x && b) (starts_same qs xs parts.1)

starts_within : (pattern text : List ℕ) → starts_with nat_eq text pattern ≡ true → length pattern ≤ length text
starts_within [] text is = omega arith
starts_within (q ∷ qs) [] is = absurd (cc is)
starts_within (q ∷ qs) (x ∷ xs) is =
    let parts = and_parts (nat_eq q x) (starts_with nat_eq xs qs) is in
    omega (arith, starts_within qs xs parts.1)

taken_next : (p : ℕ → Bool) (x : ℕ) (xs : List ℕ) → take_while p (x ∷ xs) ≡ (if p x then x ∷ take_while p xs else [])
taken_next p x xs =
    let more : 1 + prefix_len p xs ≡ suc (prefix_len p xs) = omega arith in
    let by : (b : Bool) → take (if b then 1 + prefix_len p xs else 0) (x ∷ xs) ≡ (if b then x ∷ take_while p xs else []) =
    λ b. elim b as (λ b. take (if b then 1 + prefix_len p xs else 0) (x ∷ xs) ≡ (if b then x ∷ take_while p xs else [])) [
      | true ↦ ap (λ (n : ℕ). take n (x ∷ xs)) more
      | false ↦ refl
    ] in
    by (p x)

taken_same : (p : ℕ → Bool) → p 10 ≡ false → (text : List ℕ) → take_while p (text ++ feed) ≡ take_while p text
taken_same p stops [] = taken_next p 10 [] ∙ ap (λ (b : Bool). if b then 10 ∷ take_while p [] else []) stops
taken_same p stops (x ∷ xs) =
    taken_next p x (xs ++ feed) ∙ ap (λ (more : List ℕ). if p x then x ∷ more else []) (taken_same p stops xs) ∙ sym (taken_next p x xs)

taken_within : (p : ℕ → Bool) (text : List ℕ) → length (take_while p text) ≤ length text
taken_within p [] = omega arith
taken_within p (x ∷ xs) =
    let by : (b : Bool) → length (if b then x ∷ take_while p xs else []) ≤ suc (length xs) =
    λ b. elim b as (λ b. length (if b then x ∷ take_while p xs else []) ≤ suc (length xs)) [
      | true ↦ omega (arith, taken_within p xs)
      | false ↦ omega arith
    ] in
    subst (λ (ys : List ℕ). length ys ≤ suc (length xs)) (sym (taken_next p x xs)) (by (p x))

some_taken : (p : ℕ → Bool) (x : ℕ) (xs : List ℕ) → p x ≡ true → 1 ≤ length (take_while p (x ∷ xs))
some_taken p x xs passes =
    let some : 1 ≤ length (x ∷ take_while p xs) = omega arith in
    let is : take_while p (x ∷ xs) ≡ x ∷ take_while p xs =
    taken_next p x xs ∙ ap (λ (b : Bool). if b then x ∷ take_while p xs else []) passes in
    subst (λ (ys : List ℕ). 1 ≤ length ys) (sym is) some

-- what stands at the front stays, unless none begins there
data Stays (text : List ℕ) : Prefix → Prefix → Type 0 where
  blank : (n : ℕ) → 1 ≤ n → n ≤ length text → Stays text (Blank n) (Blank n)
  lexed : (lexeme : Lexeme) (n : ℕ) → 1 ≤ n → n ≤ length text → Stays text (Lexed lexeme n) (Lexed lexeme n)
  broken : (found : r.Rule) (other : Prefix) → Stays text (Broken found) other

-- ---- Comments

abbrev ThroughSame : (text : List ℕ) (n : ℕ) → Type 0
ThroughSame text n = (through_comment (text ++ feed) ≡ Some n) × (n ≤ length text)

through_more : (d : ℕ) (ds : List ℕ) (found : Option ℕ) → through_comment (d ∷ ds) ≡ found →
    ((m : ℕ) → through_comment (d ∷ ds) ≡ Some m → ThroughSame (d ∷ ds) m) → (n : ℕ) → option_map (λ k. k + 1) found ≡ Some n →
    (option_map (λ k. k + 1) (through_comment (d ∷ ds ++ feed)) ≡ Some n) × (n ≤ suc (length (d ∷ ds)))
through_more d ds None is all n e = absurd (none-some n e)
through_more d ds (Some m) is all n e =
    let more = all m is in
    let same : m + 1 ≡ n = same_Some (m + 1) n e in (
      ap (option_map (λ k. k + 1)) more.0 ∙ e,
      omega (arith, same, more.1),
    )

through_same : (text : List ℕ) (n : ℕ) → through_comment text ≡ Some n → ThroughSame text n
through_same [] n e = absurd (none-some n e)
through_same (c ∷ []) n e = absurd (none-some n e)
through_same (c ∷ d ∷ ds) n e =
    let P : Bool → Type 0 = λ b. (if b then Some 2 else option_map (λ k. k + 1) (through_comment (d ∷ ds))) ≡ Some n →
    ((if b then Some 2 else option_map (λ k. k + 1) (through_comment (d ∷ ds ++ feed))) ≡ Some n) × (n ≤ length (c ∷ d ∷ ds)) in
    let by : (b : Bool) → P b = λ b. elim b as P [
      | true ↦ λ two. let same : 2 ≡ n = same_Some 2 n two in (two, omega (arith, same))
      | false ↦ λ more. through_more d ds (through_comment (d ∷ ds)) refl (through_same (d ∷ ds)) n more
    ] in
    by (c == 42 && d == 47) e

abbrev comment_by : Option ℕ → Prefix
comment_by found = elim found [ Some n ↦ Blank (n + 2) | None ↦ Broken rule.Byte ]

closed_by : (text : List ℕ) → 2 ≤ length text → (found : Option ℕ) → through_comment (drop 2 text) ≡ found →
    Stays text (comment_by found) (closed_comment (text ++ feed))
closed_by text long None is = broken rule.Byte (closed_comment (text ++ feed))
closed_by text long (Some n) is =
    let more = through_same (drop 2 text) n is in
    let there : through_comment (drop 2 (text ++ feed)) ≡ Some n = ap through_comment (drop-append-le 2 text feed long) ∙ more.0 in
    let fits : n + 2 ≤ length text = omega (arith, more.1, length-drop 2 text, long) in
    subst (λ (o : Option ℕ). Stays text (Blank (n + 2)) (comment_by o)) (sym there) (blank (n + 2) (omega arith) fits)

-- ---- Punctuators

abbrev Entry : Type 0
Entry = List ℕ × pn.Punctuator

-- each has bytes, and no LF among them
abbrev are_apart : List Entry → Bool
are_apart [] = true
are_apart (e ∷ es) = (no_feed e.0 && not (length e.0 == 0)) && are_apart es

abbrev begins : List ℕ → Entry → Bool
begins text e = starts_with nat_eq text e.0

find_same : (text : List ℕ) (es : List Entry) → are_apart es ≡ true → find (begins (text ++ feed)) es ≡ find (begins text) es
find_same text [] apart = refl
find_same text (e ∷ es) apart =
    let parts = and_parts (no_feed e.0 && not (length e.0 == 0)) (are_apart es) apart in
    let own = and_parts (no_feed e.0) (not (length e.0 == 0)) parts.0 in
    ap₂ (λ (b : Bool) (o : Option Entry). if b then Some e else o) (starts_same e.0 text own.0) (find_same text es parts.1)

some_bytes : (n : ℕ) → not (n == 0) ≡ true → 1 ≤ n
some_bytes zero e = absurd (cc e)
some_bytes (suc n) e = omega arith

abbrev Found : (text : List ℕ) (entry : Entry) → Type 0
Found text entry = (1 ≤ length entry.0) × (length entry.0 ≤ length text)

found_entry : (text : List ℕ) (es : List Entry) (entry : Entry) → are_apart es ≡ true → find (begins text) es ≡ Some entry → Found text entry
found_entry text [] entry apart e = absurd (none-some entry e)
found_entry text (first ∷ es) entry apart e =
    let parts = and_parts (no_feed first.0 && not (length first.0 == 0)) (are_apart es) apart in
    let own = and_parts (no_feed first.0) (not (length first.0 == 0)) parts.0 in
    let P : Bool → Type 0 = λ b. begins text first ≡ b → (if b then Some first else find (begins text) es) ≡ Some entry → Found text entry in
    let by : (b : Bool) → P b = λ b. elim b as P [
      | true ↦ λ is there. subst (Found text) (same_Some first entry there) (some_bytes (length first.0) own.1, starts_within first.0 text is)
      | false ↦ λ is there. found_entry text es entry parts.1 there
    ] in
    by (begins text first) refl e

abbrev mark_by : Option Entry → Prefix
mark_by found = elim found [ Some entry ↦ Lexed (Punctuator entry.1) (length entry.0) | None ↦ Broken rule.Byte ]

mark_stays : (text : List ℕ) → Stays text (punctuator_prefix text) (punctuator_prefix (text ++ feed))
mark_stays text =
    let by : (found : Option Entry) → find (begins text) punctuators ≡ found → Stays text (mark_by found) (mark_by found) =
    λ found. elim found as (λ o. find (begins text) punctuators ≡ o → Stays text (mark_by o) (mark_by o)) [
      | None ↦ λ is. broken rule.Byte (Broken rule.Byte)
      | Some entry ↦ λ is. let fits = found_entry text punctuators entry refl is in lexed (Punctuator entry.1) (length entry.0) fits.0 fits.1
    ] in
    subst (λ (o : Option Entry). Stays text (punctuator_prefix text) (mark_by o)) (sym (find_same text punctuators refl))
    (by (find (begins text) punctuators) refl)

-- ---- All of them

or_right : (a b : Bool) → (a || b) ≡ false → b ≡ false
or_right true b e = absurd (cc e)
or_right false b e = e

module _ (c : ℕ) (cs : List ℕ) where
  abbrev text : List ℕ
  text = c ∷ cs

  line_stays : is_blank c ≡ false → Stays text (line_comment text) (line_comment (text ++ feed))
  line_stays other =
      let p : ℕ → Bool = λ (b : ℕ). not (b == line_feed) in
      let passes : p c ≡ true = ap not (or_right (c == 32 || c == 9 || c == 13) (c == 10) other) in
      subst (λ (bytes : List ℕ). Stays text (line_comment text) (Blank (length bytes))) (sym (taken_same p refl text))
      (blank (length (take_while p text)) (some_taken p c cs passes) (taken_within p text))

  word_stays : is_word_byte c ≡ true → Stays text (word_prefix text) (word_prefix (text ++ feed))
  word_stays passes =
      subst (λ (bytes : List ℕ). Stays text (word_prefix text) (Lexed (word_lexeme bytes) (length bytes))) (sym (taken_same is_word_byte refl text))
      (lexed (word_lexeme (take_while is_word_byte text)) (length (take_while is_word_byte text)) (some_taken is_word_byte c cs passes)
      (taken_within is_word_byte text))

  abbrev number_by : List ℕ → Prefix
  number_by bytes = elim (number_of bytes) [ Some value ↦ Lexed (Number value) (length bytes) | None ↦ Broken rule.Number ]

  number_stays : is_word_byte c ≡ true → Stays text (number_prefix text) (number_prefix (text ++ feed))
  number_stays passes =
      let bytes = take_while is_word_byte text in
      let one = some_taken is_word_byte c cs passes in
      let all = taken_within is_word_byte text in
      subst (λ (bs : List ℕ). Stays text (number_prefix text) (number_by bs)) (sym (taken_same is_word_byte refl text))
      (elim (number_of bytes) as (λ o.
      Stays text (elim o [ Some value ↦ Lexed (Number value) (length bytes) | None ↦ Broken rule.Number ])
      (elim o [ Some value ↦ Lexed (Number value) (length bytes) | None ↦ Broken rule.Number ])) [
        | Some value ↦ lexed (Number value) (length bytes) one all
        | None ↦ broken rule.Number (Broken rule.Number)
      ])

  abbrev chosen : (is_gap is_line is_comment letter decimal : Bool) → (all : List ℕ) → Prefix
  chosen is_gap is_line is_comment letter decimal all =
      if is_gap then Blank 1
      else if is_line then line_comment all
      else if is_comment then closed_comment all
      else if letter then word_prefix all
      else if decimal then number_prefix all
      else punctuator_prefix all

  chosen_stays : (is_gap is_line is_comment letter decimal : Bool) → is_blank c ≡ is_gap → starts_with nat_eq text (codes "/*") ≡ is_comment →
      is_letter c ≡ letter → is_decimal c ≡ decimal →
      Stays text (chosen is_gap is_line is_comment letter decimal text) (chosen is_gap is_line is_comment letter decimal (text ++ feed))
  chosen_stays true is_line is_comment letter decimal gap comment word number = blank 1 (omega arith) (omega arith)
  chosen_stays false true is_comment letter decimal gap comment word number = line_stays gap
  chosen_stays false false true letter decimal gap comment word number =
      closed_by text (starts_within (codes "/*") text comment) (through_comment (drop 2 text)) refl
  chosen_stays false false false true decimal gap comment word number = word_stays (ap (λ (b : Bool). b || is_decimal c) word)
  chosen_stays false false false false true gap comment word number = number_stays (ap₂ (λ (a b : Bool). a || b) word number)
  chosen_stays false false false false false gap comment word number = mark_stays text

  prefix_stays : Stays text (prefix text) (prefix (text ++ feed))
  unfolding prefix
  prefix_stays =
      let line = starts_with nat_eq text (codes "//") in
      let comment = starts_with nat_eq text (codes "/*") in
      subst (λ (b : Bool). Stays text (prefix text) (chosen (is_blank c) b (starts_with nat_eq (text ++ feed) (codes "/*")) (is_letter c) (is_decimal c)
      (text ++ feed))) (sym (starts_same (codes "//") text refl))
      (subst (λ (b : Bool). Stays text (prefix text) (chosen (is_blank c) line b (is_letter c) (is_decimal c) (text ++ feed)))
      (sym (starts_same (codes "/*") text refl))
      (chosen_stays (is_blank c) line comment (is_letter c) (is_decimal c) refl refl refl refl))

-- ---- The scan

-- what is scanned of a text, by what stands at its front
abbrev scanned_by : (more place : ℕ) (text : List ℕ) → Prefix → Scanned
scanned_by more place text front = elim front [
  | Blank bytes ↦ scanned_from more (place + bytes) (drop bytes text)
  | Lexed lexeme bytes ↦ with_token (record { place = record { 0 = place }; lexeme = lexeme }) (scanned_from more (place + bytes) (drop bytes text))
  | Broken found ↦ record { tokens = []; fault = Some (record { rule = found; place = record { 0 = place } }) }
  | End ↦ record { tokens = []; fault = None }
]

abbrev Goes : (more : ℕ) → Type 0
Goes more = (place : ℕ) (text : List ℕ) → length text < more → (scanned_from more place text).fault ≡ None →
    scanned_from (suc more) place (text ++ feed) ≡ scanned_from more place text

step : (more : ℕ) → Goes more → (place : ℕ) (text : List ℕ) → length text < suc more → (front other : Prefix) → Stays text front other →
    (scanned_by more place text front).fault ≡ None → scanned_by (suc more) place (text ++ feed) other ≡ scanned_by more place text front
step more goes place text few front other (blank n one within) none =
    ap (scanned_from (suc more) (place + n)) (drop-append-le n text feed within)
    ∙ goes (place + n) (drop n text) (omega (arith, length-drop n text, few, one, within)) none
step more goes place text few front other (lexed lexeme n one within) none =
    ap (with_token (record { place = record { 0 = place }; lexeme = lexeme }))
    (ap (scanned_from (suc more) (place + n)) (drop-append-le n text feed within)
    ∙ goes (place + n) (drop n text) (omega (arith, length-drop n text, few, one, within)) none)
step more goes place text few front other (broken found x) none = absurd (none-some _ (sym none))

scans : (more : ℕ) → Goes more
unfolding prefix
scans zero place text few none = absurd (omega (arith, few))
scans (suc more) place [] few none = refl
scans (suc more) place (c ∷ cs) few none =
    step more (scans more) place (c ∷ cs) few (prefix (c ∷ cs)) (prefix (c ∷ cs ++ feed)) (prefix_stays c cs) none

plain_ended : (text : List ℕ) → (plain_scanned text).fault ≡ None → plain_scanned (text ++ feed) ≡ plain_scanned text
unfolding plain_scanned
plain_ended text none =
    let long : length (text ++ feed) ≡ suc (length text) = omega (arith, length-append text feed) in
    ap (λ (n : ℕ). scanned_from (suc n) 0 (text ++ feed)) long ∙ scans (suc (length text)) 0 text (omega arith) none

scanned_ended : (l : Language) (text : List ℕ) → (scanned l text).fault ≡ None → scanned l (text ++ feed) ≡ scanned l text
unfolding scanned
scanned_ended l text none = ap (in_language l) (plain_ended text none)

read_ended : (l : Language) (text : List ℕ) (xs : List Item) → IsRead l text xs → IsRead l (text ++ 10 ∷ []) xs
read_ended l text xs is =
    let same = sym (scanned_ended l text is.scanned_whole) in
    record {
      scanned_whole = subst (λ (s : Scanned). s.fault ≡ None) same is.scanned_whole;
      low = subst (λ (s : Scanned). readings.nests_high s.tokens ≡ false) same is.low;
      spelled = subst (λ (s : Scanned). program l xs s.tokens) same is.spelled;
    }

-- ---- Accepted texts

typed_ended : (l : Language) (text : List ℕ) (x : Program) → IsTyped l text x → IsTyped l (text ++ 10 ∷ []) x
typed_ended l text x is = record { items = is.items; read = read_ended l text is.items is.read; faultless = is.faultless; typed = is.typed }

pub accepted_ended : (log : Log) (text : List ℕ) (flat : Flat) → IsAcceptedAs log text flat → IsAcceptedAs log (text ++ 10 ∷ []) flat
accepted_ended log text flat is =
    let form = is.form in
    let ranged = form.ranged in
    record {
      form = record {
        program = form.program;
        ranged = record { typed = typed_ended (language_of log) text form.program ranged.typed; fits = ranged.fits; never_null = ranged.never_null };
        ends = form.ends;
        short = form.short;
        flattened = form.flattened;
      };
      disciplined = is.disciplined;
      room = is.room;
      shallow = is.shallow;
    }
