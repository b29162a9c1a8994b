-- What memory has of a hart's points and banks.
use Rattle.std.specs.Prelude.{◌≡◌, ◌⊎◌, ℕ, List}
use Rattle.ido_base.specs.Words.{Word, word_at}
use Rattle.log_schemes.specs.Layout.{point_at}
use Rattle.machine_model.specs.Machine.{World, bank_of, durable_point, live_at}
use Rattle.log_states.specs.Logs.{bank_word}

-- the point is the hart's live or its durable one
abbrev pub IsPointOf : World → (h point : ℕ) → Type 0
IsPointOf w h point = (point ≡ live_at w.words (point_at w.log h)) ⊎ (point ≡ durable_point w.log w.words h)

-- what stands in a slot of the bank of the hart's log that the point names
abbrev pub named_in : World → (h point slot : ℕ) → (words : List Word) → Word
named_in w h point slot words = word_at words (bank_word w.log h (bank_of point) slot)
