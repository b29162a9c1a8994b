-- Worked rows of the definitions.
use Rattle.std.proofs.Common.{◌≡◌, ℕ, List, [], ◌∷◌, Option, Some, None, refl, true, false}
use Rattle.ido_base.specs.declared.location.Shape.{Shape}
use Rattle.ido_base.specs.declared.location.Location.{Location}
use Rattle.ido_base.specs.Words.{Word, word_of, live_value, durable_value, word_at, stored, entry_of, drained, evicted}
use Rattle.ido_base.specs.Layout.{variable_at}
use Rattle.ido_base.specs.Locations.{overlap, same}
use Rattle.ido_base.specs.Places.{line_of, column_of}

-- char a[3]; long x; short b
shapes : List Shape
shapes = record { bytes = 1; length = 3 } ∷ record { bytes = 8; length = 1 } ∷ record { bytes = 2; length = 1 } ∷ []

aligned_after_bytes : variable_at shapes 1 0 ≡ 0x1000_0008
unfolding shapes
aligned_after_bytes = refl

last_variable : variable_at shapes 2 0 ≡ 0x1000_0010
unfolding shapes
last_variable = refl

eight_words : List Word
eight_words = word_of 5 ∷ word_of 0 ∷ word_of 0 ∷ word_of 0 ∷ word_of 0 ∷ word_of 0 ∷ word_of 0 ∷ word_of 0 ∷ []

-- the byte at 1 of a word that holds 5
one_byte : live_value (word_at (stored eight_words 1 1 0x1FF) 0) ≡ 0xFF05
unfolding eight_words
one_byte = refl

-- what an older entry writes back is no newer than what it was queued with
older_entry : durable_value (word_at (drained (stored (stored eight_words 0 8 6) 0 8 7) (entry_of (stored eight_words 0 8 6) 0)) 0) ≡ 6
unfolding eight_words
older_entry = refl

-- what an older entry writes back never lowers what is durable
newer_durable : durable_value (word_at (drained (evicted (stored (stored eight_words 0 8 6) 0 8 7) 0 1) (entry_of (stored eight_words 0 8 6) 0)) 0) ≡ 7
unfolding eight_words
newer_durable = refl

masked_out : durable_value (word_at (evicted (stored eight_words 0 8 6) 0 254) 0) ≡ 5
unfolding eight_words
masked_out = refl

abbrev part : (lo hi : ℕ) → Option ℕ → Location
part lo hi key = record { variable = 0; lo = lo; hi = hi; key = key }

halves_apart : overlap (part 0 7 None) (part 8 15 None) ≡ false
halves_apart = refl

halves_meet : overlap (part 0 8 None) (part 8 15 None) ≡ true
halves_meet = refl

one_element : same (part 3 3 None) (part 3 3 None) ≡ true
one_element = refl

no_element : same (part 0 7 None) (part 0 7 None) ≡ false
no_element = refl

-- `a[i]` and `a[j]` of an array of 8, each with the mutex of its own key
one_key : same (part 0 7 (Some 2)) (part 0 7 (Some 2)) ≡ true
one_key = refl

two_keys : same (part 0 7 (Some 2)) (part 0 7 (Some 3)) ≡ false
two_keys = refl

two_keys_apart : overlap (part 0 7 (Some 2)) (part 0 7 (Some 3)) ≡ false
two_keys_apart = refl

one_key_meets : overlap (part 0 7 (Some 2)) (part 0 7 (Some 2)) ≡ true
one_key_meets = refl

-- an element without a key may be that of any key
no_key_meets : overlap (part 0 7 None) (part 0 7 (Some 2)) ≡ true
no_key_meets = refl

no_key_is_no_key : same (part 0 7 None) (part 0 7 None) ≡ false
no_key_is_no_key = refl

second_line : line_of (97 ∷ 10 ∷ 98 ∷ []) 2 ≡ 2
second_line = refl

first_column : column_of (97 ∷ 10 ∷ 98 ∷ []) 2 ≡ 1
first_column = refl
