-- The number that digits spell, up to a limit.
use Rattle.std.proofs.Common.{◌≡◌, ℕ, ◌+◌, ◌-◌, ◌*◌, ◌<◌, ◌≤◌, List, length, take, drop, get_or, Bool, true, false, nat_lt, min, refl, ◌∙◌, arith}
use Rattle.std.proofs.lemmas.Bool.{ltb-true, lt-ltb}
use Rattle.std.specs.Char.{digit_value}
use Rattle.std.specs.List.{list_all, prefix_len}
use Rattle.std.specs.Str.Parse.{digits_value}
use Rattle.std.proofs.lemmas.Int.Digits.{digits_value_more}
use Rattle.std.proofs.lemmas.List.Sums.{prefix_len-drop_yes}
use Rattle.std.proofs.lemmas.List.Folds.{list_all_more}
use Rattle.run_scripts.specs.Schedules.{is_digit}

not_below : (a b : ℕ) → b ≤ a → nat_lt a b ≡ false
not_below a b h = by_test (nat_lt a b) refl
  where
    by_test : (x : Bool) → nat_lt a b ≡ x → x ≡ false
    by_test true e = absurd (omega (arith, ltb-true a b e, h))
    by_test false e = refl

digit_value_of : (c : ℕ) → 48 ≤ c → c < 58 → digit_value c ≡ c - 48
digit_value_of c low high = rw (digit_value, not_below c 48 low, lt-ltb c 58 high) refl

is_digit_of : (c : ℕ) → 48 ≤ c → c < 58 → is_digit c ≡ true
is_digit_of c low high = rw (is_digit, lt-ltb 47 c (omega (arith, low)), lt-ltb c 58 high) refl

pub all_more : (text : List ℕ) (i : ℕ) → i < length text → list_all is_digit (take i text) ≡ true → 48 ≤ get_or text i 0 → get_or text i 0 < 58 →
    list_all is_digit (take (i + 1) text) ≡ true
all_more text i within all low high = list_all_more is_digit text i 0 within ∙ rw (all, is_digit_of (get_or text i 0) low high) refl

-- one digit more at the front of a text
pub digit_more : (text : List ℕ) (i : ℕ) → i < length text → 48 ≤ get_or text i 0 → get_or text i 0 < 58 →
    prefix_len is_digit (drop i text) ≡ 1 + prefix_len is_digit (drop (i + 1) text)
digit_more text i within low high = prefix_len-drop_yes is_digit text i 0 within (is_digit_of (get_or text i 0) low high)

pub value_more : (text : List ℕ) (i n : ℕ) → i < length text → 48 ≤ get_or text i 0 → get_or text i 0 < 58 → n ≡ min (digits_value 10 (take i text)) 4294967296
    → min (n * 10 + (get_or text i 0 - 48)) 4294967296 ≡ min (digits_value 10 (take (i + 1) text)) 4294967296
value_more text i n within low high so_far =
    let more = digits_value_more 10 text i within in
    let digit = digit_value_of (get_or text i 0) low high in
    omega (arith, more, digit, so_far, low, high)
