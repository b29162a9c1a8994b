-- A schedule as it is written: `schedule 0*4 1*2`, the first word being optional.
use Rattle.std.specs.Prelude.{ℕ, ◌+◌, List, [], ◌∷◌, ◌++◌, length, replicate, Bool, not, nat_eq, nat_lt, ◌==◌, ◌&&◌, if◌then◌else◌, codes}
use Rattle.std.specs.List.{list_all, before_first, after_first}
use Rattle.std.specs.Cmp.Lexicographic.{pointwise}
use Rattle.std.specs.Str.Parse.{digits_value}
use Rattle.ido_base.specs.declared.limits.TheConstants.{MOST_STEPS}
use Rattle.run_scripts.specs.Pieces.{Piece, words_at}

-- ---- What a word says

-- a fault of a schedule
pub data Fault : Type 0 where
  -- a word of another form
  BadWord : (place : ℕ) → Fault
  -- a number that is too great
  BadNumber : (place : ℕ) → Fault
  -- the word by which there are too many steps
  TooMany : (place : ℕ) → Fault

-- the schedules of lives, one for each, or the first fault
pub data Read : Type 0 where
  Lives : List (List ℕ) → Read
  Refused : Fault → Read

-- numbers are below this
abbrev pub number_limit : ℕ
number_limit = 4294967296

abbrev pub is_digit : (byte : ℕ) → Bool
is_digit c = nat_lt 47 c && nat_lt c 58

-- the bytes are a numeral: there is one at least, and each is a decimal digit
abbrev pub is_numeral : List ℕ → Bool
is_numeral bytes = nat_lt 0 (length bytes) && list_all is_digit bytes

abbrev pub is_star : (byte : ℕ) → Bool
is_star c = c == 42

-- the bytes before the first `*` and after it
abbrev pub thread_text : List ℕ → List ℕ
thread_text bytes = before_first is_star bytes

abbrev pub count_text : List ℕ → List ℕ
count_text bytes = after_first is_star bytes

-- `T*N`, N at least 1
abbrev pub is_run : List ℕ → Bool
is_run bytes = is_numeral (thread_text bytes) && is_numeral (count_text bytes) && nat_lt 0 (digits_value 10 (count_text bytes))

abbrev pub thread_number : List ℕ → ℕ
thread_number bytes = digits_value 10 (thread_text bytes)

abbrev pub count_number : List ℕ → ℕ
count_number bytes = digits_value 10 (count_text bytes)

-- where the count begins
abbrev pub count_place : Piece → ℕ
count_place w = w.place + length (thread_text w.bytes) + 1

-- the word begins a schedule
abbrev pub is_schedule : List ℕ → Bool
is_schedule bytes = pointwise nat_eq bytes (codes "schedule")

-- what words spell after so many steps in all: those of lives that have ended, and those of the life that goes on
abbrev pub lives_from : (done : ℕ) → (ended : List (List ℕ)) → (steps : List ℕ) → List Piece → Read
lives_from done ended steps [] = Lives (ended ++ steps ∷ [])
lives_from done ended steps (w ∷ ws) =
    if is_schedule w.bytes then lives_from done (ended ++ steps ∷ []) [] ws
    else if not (is_run w.bytes) then Refused (BadWord w.place)
    else if not (nat_lt (thread_number w.bytes) number_limit) then Refused (BadNumber w.place)
    else if not (nat_lt (count_number w.bytes) number_limit) then Refused (BadNumber (count_place w))
    else if nat_lt MOST_STEPS (done + count_number w.bytes) then Refused (TooMany w.place)
    else lives_from (done + count_number w.bytes) ended (steps ++ replicate (count_number w.bytes) (thread_number w.bytes)) ws

-- the first word may be `schedule`, with which no life ends
abbrev pub lives_of_words : List Piece → Read
lives_of_words [] = Lives ([] ∷ [])
lives_of_words (w ∷ ws) = if is_schedule w.bytes then lives_from 0 [] [] ws else lives_from 0 [] [] (w ∷ ws)

unfoldable pub read : List ℕ → Read
read text = lives_of_words (words_at 0 text)
