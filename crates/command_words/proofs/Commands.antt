-- What `clap` tells of words.
use Rattle.std.proofs.Common.{◌≡◌, refl, ℕ, ◌-◌, ◌^◌, ◌<◌, ◌≤◌, List, [], ◌∷◌, ◌++◌, sym, ◌∙◌, ap, ap₂, subst, Bool}
use Rattle.std.proofs.Common.{true, false, Option, Some, None, Result, Ok, Err, inl, inr, length, ◌==◌, append_assoc, arith}
use Rattle.std.proofs.lemmas.Bool.{eqb-true}
use Rattle.std.proofs.lemmas.List.{append-nil}
use Rattle.std.proofs.lemmas.Slice.Eq.{bytes_eq-Decides}
use Rattle.std.specs.Prelude.{◌≢◌, MatchBool, option_and_then, option_map, unwrap_or, Box, if◌then◌else◌}
use Rattle.std.specs.Box.{box_value}
use Rattle.std.specs.Result.{result_ok}
use Rattle.std.specs.Str.{bytes_eq}
use Rattle.std.specs.Str.Parse.{ParsesBool, ParsesUnsigned, digits_value, false_text, true_text, without_leading_plus}
use Rattle.clap.specs.Matches.{ReadsOne}
use Rattle.clap.specs.Values.{IsUnsignedIn}
use Rattle.clap.specs.ValueTests.{is_unsigned_in}
use Rattle.clap.specs.Words.{App, HasKind, HasMatchesOf, IsAmong, Kinds, Row, Text, fault_of, is_simple, is_simple_and_free}
use Rattle.clap.specs.Words.{kind_of, subcommand_name_of, subcommand_of, subcommand_rows, subcommand_rows_of}
use Rattle.clap.specs.Walk.{is_empty}
use Rattle.clap.specs.declared.builder.value_parser.ValueParser.TheVariants as parser
use Rattle.clap.specs.declared.error.Error.{Error}
use Rattle.clap.specs.declared.error.kind.ErrorKind.{ErrorKind}
use Rattle.clap.specs.declared.error.kind.ErrorKind.TheVariants as kind
use Rattle.clap.specs.declared.parser.matches.ArgMatches.{ArgMatches}
use Rattle.clap.specs.declared.parser.matches.ArgMatches.TheViews.{out-ArgMatches, out-SubCommand}
use Rattle.clap.specs.declared.parser.matches.SubCommand.{SubCommand}
use Rattle.clap.proofs.OnLiterals.{clap_on_literals}
use Rattle.clap.proofs.ValueTestLemmas.{accepts-Accepts, Accepts-accepts}
use Rattle.command_words.specs.Commands.{command_by_name, command_of, is_true, number_of, numbers_of, table}
use Rattle.command_words.specs.declared.command.Command as c

simple : is_simple table ≡ true
unfolding clap_on_literals
simple = refl

free : is_simple_and_free table ≡ true
unfolding clap_on_literals
free = refl

-- ---- Numbers

module _ (bits : ℕ) (some : 0 < 2 ^ bits) (fits : 2 ^ bits ≤ 2 ^ 64) where
  number_is : (text : Text) → IsUnsignedIn 0 (2 ^ bits - 1) text → number_of bits text ≡ Some (digits_value 10 (without_leading_plus text))
  number_is text is =
      let n = digits_value 10 (without_leading_plus text) in
      ap (λ (b : Bool). let o : Option ℕ = if b then Some n else None in o) (Accepts-accepts false (parser.Unsigned 0 (2 ^ bits - 1)) text is)

  no_number : (text : Text) → (IsUnsignedIn 0 (2 ^ bits - 1) text → ⊥) → number_of bits text ≡ None
  no_number text not = by (is_unsigned_in 0 (2 ^ bits - 1) text) refl
    where
      by : (b : Bool) → is_unsigned_in 0 (2 ^ bits - 1) text ≡ b → number_of bits text ≡ None
      by true e = absurd (not (accepts-Accepts false (parser.Unsigned 0 (2 ^ bits - 1)) text e))
      by false e = ap (λ (b : Bool). let o : Option ℕ = if b then Some (digits_value 10 (without_leading_plus text)) else None in o) e

  -- what a text is parsed as
  pub parsed_number : {E : Type 0} (text : Text) (r : Result ℕ E) → ParsesUnsigned bits 10 text r → result_ok r ≡ number_of bits text
  parsed_number text (Ok n) parsed =
      ap Some parsed.1 ∙ sym (number_is text (parsed.0.0, omega (arith, parsed.0.1, fits), omega arith, omega (arith, parsed.0.1)))
  parsed_number text (Err e) not = sym (no_number text (λ is. not (is.0, omega (arith, is.3, some))))

  -- what a text is read as that stands for a number
  pub read_number : {E : Type 0} (gives : Text → Result ℕ E → Type 0) → ((t : Text) (r : Result ℕ E) → gives t r → ParsesUnsigned bits 10 t r) →
      (text : Text) (value : Option ℕ) → ReadsOne gives text value → value ≡ number_of bits text
  read_number {E} gives parses text (Some n) read = parsed_number {E = E} text (Ok n) (parses text (Ok n) read)
  read_number {E} gives parses text None read = parsed_number {E = E} text (Err read.0) (parses text (Err read.0) read.1)

  pub read_named : {E : Type 0} (gives : Text → Result ℕ E → Type 0) → ((t : Text) (r : Result ℕ E) → gives t r → ParsesUnsigned bits 10 t r) →
      (text : Option Text) (value : Option ℕ) → (text ≡ None → value ≡ None) → ((t : Text) → text ≡ Some t → ReadsOne gives t value) →
      value ≡ option_and_then (number_of bits) text
  read_named gives parses None value none some_is = none refl
  read_named gives parses (Some t) value none some_is = read_number gives parses t value (some_is t refl)

-- ---- Flags

flag_is : (text : Text) (b : Bool) → MatchBool b (text ≡ true_text) (text ≡ false_text) → b ≡ is_true (Some text)
flag_is text true is = subst (λ (t : Text). true ≡ is_true (Some t)) (sym is) refl
flag_is text false is = subst (λ (t : Text). false ≡ is_true (Some t)) (sym is) refl

no_flag : (text : Text) (b : Bool) → text ≢ true_text → bytes_eq text true_text ≡ b → false ≡ b
no_flag text true other e = absurd (other ((bytes_eq-Decides text true_text).0 e))
no_flag text false other e = refl

-- what a text is read as that stands for a flag
pub read_flag : {E : Type 0} (gives : Text → Result Bool E → Type 0) → ((t : Text) (r : Result Bool E) → gives t r → ParsesBool t r) →
    (text : Option Text) (value : Option Bool) → (text ≡ None → value ≡ None) → ((t : Text) → text ≡ Some t → ReadsOne gives t value) →
    unwrap_or value false ≡ is_true text
read_flag gives parses None value none some_is = ap (λ (v : Option Bool). unwrap_or v false) (none refl)
read_flag gives parses (Some t) (Some b) none some_is = flag_is t b (parses t (Ok b) (some_is t refl))
read_flag gives parses (Some t) None none some_is =
    let read = some_is t refl in
    no_flag t (bytes_eq t true_text) (parses t (Err read.0) read.1).0 refl

-- ---- Crash words

-- numbers before those of texts
abbrev pub after_numbers : List ℕ → Option (List ℕ) → Option (List ℕ)
after_numbers ns o = option_map (λ ms. ns ++ ms) o

after_one : (ns : List ℕ) (n : ℕ) (o : Option (List ℕ)) → after_numbers (ns ++ n ∷ []) o ≡ after_numbers ns (option_map (λ ms. n ∷ ms) o)
after_one ns n None = refl
after_one ns n (Some ms) = ap Some (append_assoc ns (n ∷ []) ms)

pub number_more : (t : Text) (ts : List Text) (ns more : List ℕ) (n : ℕ) (all : Option (List ℕ)) → number_of 64 t ≡ Some n → more ≡ ns ++ n ∷ [] →
    all ≡ after_numbers ns (numbers_of (t ∷ ts)) → all ≡ after_numbers more (numbers_of ts)
number_more t ts ns more n all is more_is so_far =
    so_far ∙ ap (λ (o : Option ℕ). after_numbers ns (option_and_then (λ n. option_map (λ ms. n ∷ ms) (numbers_of ts)) o)) is
    ∙ sym (after_one ns n (numbers_of ts)) ∙ ap (λ ms. after_numbers ms (numbers_of ts)) (sym more_is)

pub none_more : (t : Text) (ts : List Text) (ns : List ℕ) (all : Option (List ℕ)) → number_of 64 t ≡ None → all ≡ after_numbers ns (numbers_of (t ∷ ts)) →
    None ≡ all
none_more t ts ns all is so_far =
    sym (so_far ∙ ap (λ (o : Option ℕ). after_numbers ns (option_and_then (λ n. option_map (λ ms. n ∷ ms) (numbers_of ts)) o)) is)

pub no_more : (ts : List Text) (ns : List ℕ) (all : Option (List ℕ)) → ts ≡ [] → all ≡ after_numbers ns (numbers_of ts) → Some ns ≡ all
no_more ts ns all none so_far =
    sym (so_far ∙ ap (λ (ts : List Text). after_numbers ns (numbers_of ts)) none ∙ ap Some (append-nil ns))

-- ---- Commands

-- the command of a name and of the rows of its own words, where there is one
abbrev named : Option (Text × List Row) → Option c.Command
named o = option_and_then (λ p. command_by_name p.0 p.1) o

name_of_rows : {Z : Type 0} (o : Option (Box SubCommand Z)) →
    option_map (λ b. (out-SubCommand (box_value b)).name.now) o ≡ option_map (λ p. p.0) (subcommand_rows o)
name_of_rows None = refl
name_of_rows (Some b) = refl

named_by_rows : (m : ArgMatches) → subcommand_name_of m ≡ option_map (λ p. p.0) (subcommand_rows_of m)
named_by_rows m = name_of_rows (out-ArgMatches m).subcommand

both_of : (name : Text) (rows : List Row) (o : Option (Text × List Row)) → Some name ≡ option_map (λ p. p.0) o → Some rows ≡ option_map (λ p. p.1) o →
    command_by_name name rows ≡ named o
both_of name rows None n r = absurd (cc n)
both_of name rows (Some p) n r =
    let names : name ≡ p.0 = cc in
    let same : rows ≡ p.1 = cc in
    ap₂ command_by_name names same

none_of : (o : Option (Text × List Row)) → None ≡ option_map (λ p. p.0) o → None ≡ named o
none_of None n = refl
none_of (Some p) n = absurd (cc n)

met : (a : App) (words : List Text) (m : ArgMatches) → a ≡ table → HasMatchesOf a words m → (is_simple_and_free a ≡ true → fault_of a words ≡ []) →
    named (subcommand_rows_of m) ≡ command_of words
unfolding command_of
met a words m is matches faultless =
    let none : fault_of table words ≡ [] = sym (ap (λ (x : App). fault_of x words) is) ∙ faultless (ap is_simple_and_free is ∙ free) in
    let rows : subcommand_rows_of m ≡ subcommand_of table words = (matches (ap is_simple is ∙ simple)).1 ∙ ap (λ (x : App). subcommand_of x words) is in
    ap named rows
    ∙ sym (ap (λ (k : Kinds). let o : Option c.Command = if is_empty k then named (subcommand_of table words) else None in o) none)

-- where the words are taken, with a command or without
pub taken : (a : App) (words : List Text) (m : ArgMatches) (name : Text) (rows : List Row) (result : Option c.Command) → a ≡ table → HasMatchesOf a words m →
    (is_simple_and_free a ≡ true → fault_of a words ≡ []) → Some name ≡ subcommand_name_of m → Some rows ≡ option_map (λ p. p.1) (subcommand_rows_of m) →
    result ≡ command_by_name name rows → result ≡ command_of words
taken a words m name rows result is matches faultless name_is rows_are e =
    e ∙ both_of name rows (subcommand_rows_of m) (name_is ∙ named_by_rows m) rows_are ∙ met a words m is matches faultless

pub none_taken : (a : App) (words : List Text) (m : ArgMatches) → a ≡ table → HasMatchesOf a words m → (is_simple_and_free a ≡ true → fault_of a words ≡ []) →
    None ≡ subcommand_name_of m → None ≡ command_of words
none_taken a words m is matches faultless none = none_of (subcommand_rows_of m) (none ∙ named_by_rows m) ∙ met a words m is matches faultless

-- ---- Words that aren't taken

some_fault : (k : ErrorKind) (ks : Kinds) (o : Option c.Command) → IsAmong k ks → None ≡ (let r : Option c.Command = if is_empty ks then o else None in r)
some_fault k [] o h = absurd h
some_fault k (x ∷ ks) o h = by (is_empty (x ∷ ks)) refl
  where
    by : (b : Bool) → (length (x ∷ ks) == 0) ≡ b → None ≡ (let r : Option c.Command = if b then o else None in r)
    by true e = absurd (omega (arith, eqb-true (length (x ∷ ks)) 0 e))
    by false e = refl

pub refused : (a : App) (words : List Text) (e : Error) → a ≡ table → (kind_of e ≡ kind.OutOfMemory → ⊥) →
    (is_simple_and_free a ≡ true → HasKind (fault_of a words) e) → None ≡ command_of words
unfolding command_of
refused a words e is other fault = by (fault (ap is_simple_and_free is ∙ free))
  where
    by : HasKind (fault_of a words) e → None ≡ command_of words
    by (inl h) = absurd (other h)
    by (inr h) =
        some_fault (kind_of e) (fault_of table words) (named (subcommand_of table words)) (subst (λ (x : App). IsAmong (kind_of e) (fault_of x words)) is h)
