-- The token of a number that is written in decimal.
use Rattle.std.proofs.Common.{◌≡◌, ℕ, ◌+◌, ◌-◌, ◌^◌, ◌<◌, zero, suc, Option, Some, None, List, [], ◌∷◌, ◌++◌, length, drop, get_or}
use Rattle.std.proofs.Common.{Bool, true, false, cond, refl, ap, subst, ◌∙◌, arith}
use Rattle.std.specs.Prelude.{decimal, pos, take_while, ◌==◌, if◌then◌else◌}
use Rattle.std.specs.Char.{digit_value, is_digit}
use Rattle.std.specs.Fmt.{digits}
use Rattle.std.specs.Int.{IsInRange}
use Rattle.std.specs.Str.Parse.{AllDigits, IsNumeral, digits_value}
use Rattle.std.proofs.Math.Seq.{drop-length}
use Rattle.std.proofs.lemmas.Bool.{lt-ltb}
use Rattle.std.proofs.lemmas.Bool.Decides.{nat_tests}
use Rattle.std.proofs.lemmas.Fmt.{decimal_is_IsNumeral, first_decimal}
use Rattle.std.proofs.lemmas.List.Sums.{take_while-cons}
use Rattle.std.proofs.lemmas.Str.Parse.{digit_from_value}
use Rattle.ido_ints.specs.declared.kinds.Kind.TheVariants as kind
use Rattle.ido_ints.specs.declared.literals.Base.TheVariants.{Decimal}
use Rattle.ido_ints.specs.declared.literals.Suffix.TheVariants.{Absent}
use Rattle.ido_ints.specs.Kinds.{holds}
use Rattle.ido_ints.specs.Literals.{literal_of}
use Rattle.ido_ints.specs.TypedNumbers.{Typed, typed}
use Rattle.c_tree.specs.Tokens.{Number}
use Rattle.c_tree.specs.LexicalScan.{Prefix, Lexed, Broken, prefix, number_prefix, number_of, literal_in, is_word_byte, suffix_of, from_zero}
use Rattle.c_tree.specs.declared.rule.Rule.TheVariants as rule
use Rattle.generated_programs.proofs.Cases.{below_ten}

-- what a number is read as, where it is read
abbrev read_or : Typed → Option Typed → Typed
read_or v None = v
read_or v (Some w) = w

-- what the decimal digits of a number are read as
unfoldable pub numeral : ℕ → Typed
numeral n = read_or (typed kind.Int (pos 0)) (number_of (decimal n))

-- ---- Digits

abbrev AtDigit : ℕ → Type 0
AtDigit c = (text : List ℕ) → (prefix (c ∷ text) ≡ number_prefix (c ∷ text)) × (is_word_byte c ≡ true)

at_digit : (e : ℕ) → e < 10 → AtDigit (48 + e)
unfolding prefix
at_digit = below_ten (λ e. AtDigit (48 + e)) (λ text. (refl, refl)) (λ text. (refl, refl)) (λ text. (refl, refl)) (λ text. (refl, refl))
    (λ text. (refl, refl)) (λ text. (refl, refl)) (λ text. (refl, refl)) (λ text. (refl, refl)) (λ text. (refl, refl)) (λ text. (refl, refl))

digit : (c : ℕ) → digit_value c < 10 → AtDigit c
digit c h =
    let range : IsInRange 48 57 c = digit_from_value c h in
    let is : 48 + (c - 48) ≡ c = omega arith in
    subst AtDigit is (at_digit (c - 48) (omega arith))

-- the digits go on up to a byte that no word has
word_digits : (ds : List ℕ) (c : ℕ) (rest : List ℕ) → AllDigits 10 ds → is_word_byte c ≡ false → take_while is_word_byte (ds ++ c ∷ rest) ≡ ds
word_digits [] c rest h stop = take_while-cons is_word_byte c rest ∙ ap (λ b. cond b (c ∷ take_while is_word_byte rest) []) stop
word_digits (d ∷ ds) c rest h stop =
    take_while-cons is_word_byte d (ds ++ c ∷ rest)
    ∙ ap (λ b. cond b (d ∷ take_while is_word_byte (ds ++ c ∷ rest)) []) (digit d h.0 []).1
    ∙ ap (λ xs. d ∷ xs) (word_digits ds c rest h.1 stop)

all_digits : (ds : List ℕ) → AllDigits 10 ds → take_while (λ c. is_digit c 10) ds ≡ ds
all_digits [] h = refl
all_digits (d ∷ ds) h =
    take_while-cons (λ c. is_digit c 10) d ds
    ∙ ap (λ b. cond b (d ∷ take_while (λ c. is_digit c 10) ds) []) (lt-ltb (digit_value d) 10 h.0)
    ∙ ap (λ xs. d ∷ xs) (all_digits ds h.1)

-- ---- Values

-- some kind holds it
held : (n : ℕ) → n < 2 ^ 32 → (v : Typed) × (literal_of Decimal Absent n ≡ Some v)
held n small = by (holds kind.Int (pos n)) refl
  where
    long : holds kind.Long (pos n) ≡ true
    long = grind (arith, nat_tests)

    by : (b : Bool) → holds kind.Int (pos n) ≡ b → (v : Typed) × (literal_of Decimal Absent n ≡ Some v)
    by true e = (typed kind.Int (pos n), rw e refl)
    by false e = (typed kind.Long (pos n), rw (e, long) refl)

abbrev literal_by : List ℕ → (digits : List ℕ) → Option Typed
literal_by bytes digits = elim (suffix_of (drop (length digits) bytes)) [
  | Some suffix ↦ literal_of Decimal suffix (digits_value 10 digits)
  | None ↦ None
]

literal_by_all : (ds : List ℕ) → AllDigits 10 ds → literal_in Decimal 10 ds ≡ literal_of Decimal Absent (digits_value 10 ds)
literal_by_all ds h =
    ap (literal_by ds) (all_digits ds h)
    ∙ ap (λ rest. elim (suffix_of rest) [ Some suffix ↦ literal_of Decimal suffix (digits_value 10 ds) | None ↦ None ]) (drop-length ds)

-- digits that don't begin with a zero
literal_digits : (ds : List ℕ) → 48 < get_or ds 0 0 → AllDigits 10 ds → number_of ds ≡ literal_of Decimal Absent (digits_value 10 ds)
literal_digits [] first h = absurd (omega arith)
literal_digits (d ∷ ds) first h =
    let no_zero : (d == 48) ≡ false = grind (arith, nat_tests) in
    ap (λ b. if b then from_zero ds else literal_in Decimal 10 (d ∷ ds)) no_zero ∙ literal_by_all (d ∷ ds) h

is_read : (n : ℕ) → n < 2 ^ 32 → (v : Typed) × (number_of (decimal n) ≡ Some v)
unfolding digits
is_read zero small = (typed kind.Int (pos 0), refl)
is_read (suc n) small =
    let h : IsNumeral 10 (decimal (suc n)) × (digits_value 10 (decimal (suc n)) ≡ suc n) = decimal_is_IsNumeral (suc n) (omega arith) in
    let v = held (suc n) small in (
      v.0,
      literal_digits (decimal (suc n)) (first_decimal (suc n) (omega arith) (omega arith)) h.0.1
          ∙ ap (literal_of Decimal Absent) h.1 ∙ v.1,
    )

pub reads_numeral : (n : ℕ) → n < 2 ^ 32 → number_of (decimal n) ≡ Some (numeral n)
unfolding numeral
reads_numeral n small = by (number_of (decimal n)) (is_read n small)
  where
    by : (o : Option Typed) → (v : Typed) × (o ≡ Some v) → o ≡ Some (read_or (typed kind.Int (pos 0)) o)
    by None (v, e) = cc
    by (Some w) (v, e) = refl

-- ---- Tokens

abbrev number_by : (bytes : List ℕ) → Prefix
number_by bytes = elim (number_of bytes) [
  | Some value ↦ Lexed (Number value) (length bytes)
  | None ↦ Broken rule.Number
]

front_digits : (ds rest : List ℕ) → 0 < length ds → AllDigits 10 ds → prefix (ds ++ rest) ≡ number_prefix (ds ++ rest)
front_digits [] rest some h = absurd (omega arith)
front_digits (d ∷ ds) rest some h = (digit d h.0 (ds ++ rest)).0

-- a number before a byte that no word has
pub number_lexed : (n : ℕ) → n < 2 ^ 32 → (c : ℕ) (rest : List ℕ) → is_word_byte c ≡ false
    → prefix (decimal n ++ c ∷ rest) ≡ Lexed (Number (numeral n)) (length (decimal n))
number_lexed n small c rest stop =
    let h : IsNumeral 10 (decimal n) × (digits_value 10 (decimal n) ≡ n) = decimal_is_IsNumeral n (omega arith) in
    front_digits (decimal n) (c ∷ rest) h.0.0 h.0.1
    ∙ ap number_by (word_digits (decimal n) c rest h.0.1 stop)
    ∙ ap (λ (o : Option Typed). elim o [ Some value ↦ Lexed (Number value) (length (decimal n)) | None ↦ Broken rule.Number ]) (reads_numeral n small)
