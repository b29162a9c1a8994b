-- Numbers, as literals have them.
use Rattle.std.proofs.Common.{◌≡◌, ℕ, ◌+◌, ◌*◌, ◌<◌, ◌≤◌, Option, Some, None, List, length, take, drop, get_or, ap, sym, ◌∙◌, arith, pos}
use Rattle.std.specs.Option.{option_map}
use Rattle.std.specs.Char.{digit_value, is_digit}
use Rattle.std.specs.List.{prefix_len}
use Rattle.std.specs.Str.Parse.{digits_value}
use Rattle.std.proofs.lemmas.Int.Digits.{digits_value_more}
use Rattle.std.proofs.lemmas.Str.Parse.{digits_value-take-le}
use Rattle.std.proofs.lemmas.List.Folds.{length-prefix_len}
use Rattle.ido_ints.specs.declared.kinds.Kind.{Kind}
use Rattle.ido_ints.specs.declared.literals.Base.{Base}
use Rattle.ido_ints.specs.declared.literals.Suffix.{Suffix}
use Rattle.ido_ints.specs.TypedNumbers.{Typed, typed}
use Rattle.ido_ints.specs.Literals.{literal_kind_of, literal_of}
use Rattle.ido_ints.proofs.Public.{literal_kind_of-Holds, reduced_held}
use Rattle.c_tree.specs.LexicalScan.{suffix_of, literal_in}
use Rattle.c_reader.specs.links.Tokens.{value_of}

-- where one more digit passes a limit, so does the whole number
pub limit-le-digits_value : (radix : ℕ) (digits : List ℕ) (limit n i : ℕ) → 0 < radix → i < length digits → n ≡ digits_value radix (take i digits)
    → limit ≤ n * radix + digit_value (get_or digits i 0) → limit ≤ digits_value radix digits
limit-le-digits_value radix digits limit n i positive within so_far passes =
    let more : digits_value radix (take (i + 1) digits) ≡ n * radix + digit_value (get_or digits i 0) = rw so_far (digits_value_more radix digits i within) in
    omega (arith, more, digits_value-take-le radix digits (i + 1) positive)

-- a literal of a kind has the value that the kind gives it
pub literal_of_kind : (base : Base) (suffix : Suffix) (n : ℕ) (k : Kind) → literal_kind_of base suffix n ≡ Some k
    → Some (value_of (record { kind = k; number = n })) ≡ literal_of base suffix n
literal_of_kind base suffix n k e =
    ap (λ z. Some (typed k z)) (reduced_held k (pos n) (literal_kind_of-Holds base suffix n k e)) ∙ ap (option_map (λ j. typed j (pos n))) (sym e)

-- ---- Digits and a suffix

abbrev digits_at : (radix : ℕ) → List ℕ → ℕ
digits_at radix bytes = prefix_len (λ c. is_digit c radix) bytes

abbrev literal_by : Base → (radix : ℕ) → (digits : List ℕ) → Option Suffix → Option Typed
literal_by base radix digits o = elim o [ Some suffix ↦ literal_of base suffix (digits_value radix digits) | None ↦ None ]

-- where the digits end
literal_in_at : (base : Base) (radix : ℕ) (bytes : List ℕ) (m : ℕ) → m ≡ digits_at radix bytes
    → literal_by base radix (take m bytes) (suffix_of (drop m bytes)) ≡ literal_in base radix bytes
literal_in_at base radix bytes m e =
    ap (λ n. literal_by base radix (take n bytes) (suffix_of (drop n bytes))) e
    ∙ ap (λ n. literal_by base radix (take (digits_at radix bytes) bytes) (suffix_of (drop n bytes))) (sym (length-prefix_len (λ c. is_digit c radix) bytes))

pub literal_in-suffix : (base : Base) (radix : ℕ) (bytes : List ℕ) (m : ℕ) (suffix : Suffix) → m ≡ digits_at radix bytes
    → suffix_of (drop m bytes) ≡ Some suffix → literal_of base suffix (digits_value radix (take m bytes)) ≡ literal_in base radix bytes
literal_in-suffix base radix bytes m suffix e h =
    ap (literal_by base radix (take m bytes)) (sym h) ∙ literal_in_at base radix bytes m e
