-- Words of memory with a history: what a line may still lose, and what it can't.
use Rattle.std.specs.Prelude.{ℕ, zero, suc, ◌+◌, ◌-◌, ◌*◌, ◌/◌, ◌%◌, ◌^◌, max, List, [], ◌∷◌, ◌++◌, map}
use Rattle.std.specs.Prelude.{length, take, drop, slice_index, slice_index_or, slice_set, ◌==◌, if◌then◌else◌}

-- an 8-byte word: its values since the start or the last crash, the oldest first, and which of them is the durable one
pub record Word : Type 0 where
  pub values : List ℕ
  pub durable : ℕ

-- a word that has this value, durably, and no other past
abbrev pub word_of : ℕ → Word
word_of n = record { values = n ∷ []; durable = 0 }

abbrev pub last_position : Word → ℕ
last_position w = length w.values - 1

-- what a load reads
abbrev pub live_value : Word → ℕ
live_value w = slice_index w.values (last_position w)

-- what a crash leaves
abbrev pub durable_value : Word → ℕ
durable_value w = slice_index w.values w.durable

-- a store appends
abbrev pub with_value : Word → ℕ → Word
with_value w n = record { values = w.values ++ n ∷ []; durable = w.durable }

-- a write-back persists a word up to a position, and never lowers its durable position
abbrev pub written_back : Word → ℕ → Word
written_back w position = record { values = w.values; durable = max w.durable position }

-- a crash keeps the durable value alone
abbrev pub after_crash : Word → Word
after_crash w = word_of (durable_value w)

-- the word of that number; one that never was stored to where there is none
abbrev pub word_at : List Word → ℕ → Word
word_at words i = slice_index_or words i (word_of 0)

-- count bytes of a word's value from the given byte on, little-endian
abbrev pub part : (value byte count : ℕ) → ℕ
part value byte count = value / 2 ^ (8 * byte) % 2 ^ (8 * count)

-- the value with these bytes of it replaced
abbrev pub with_part : (value byte count new : ℕ) → ℕ
with_part value byte count new = value % 2 ^ (8 * byte) + new % 2 ^ (8 * count) * 2 ^ (8 * byte) + value / 2 ^ (8 * (byte + count)) * 2 ^ (8 * (byte + count))

-- what count bytes hold now, from the byte of that number on, in the word that has them
abbrev pub loaded : List Word → (number count : ℕ) → ℕ
loaded words number count = part (live_value (word_at words (number / 8))) (number % 8) count

-- a store of count bytes at the byte of that number
abbrev pub stored : List Word → (number count value : ℕ) → List Word
stored words number count value =
    slice_set words (number / 8) (with_value (word_at words (number / 8)) (with_part (live_value (word_at words (number / 8))) (number % 8) count value))

-- a queued line, with the position that each of its eight words had when it was cleaned
pub record Entry : Type 0 where
  pub line : ℕ
  pub positions : List ℕ

abbrev pub line_words : List Word → ℕ → List Word
line_words words line = take 8 (drop (8 * line) words)

-- what a clean of a line queues
abbrev pub entry_of : List Word → ℕ → Entry
entry_of words line = record { line = line; positions = map last_position (line_words words line) }

-- the words from `at` on are written back to these positions
abbrev pub persisted : List Word → ℕ → List ℕ → List Word
persisted words at [] = words
persisted words at (p ∷ ps) = persisted (slice_set words at (written_back (word_at words at) p)) (at + 1) ps

-- a queued line is written back
abbrev pub drained : List Word → Entry → List Word
drained words e = persisted words (8 * e.line) e.positions

-- of count words from `at` on, those that the mask chooses (bit i the i-th) are written back to their last position
abbrev pub evicted_from : List Word → (at mask count : ℕ) → List Word
evicted_from words at mask zero = words
evicted_from words at mask (suc count) =
    evicted_from (if mask % 2 == 1 then slice_set words at (written_back (word_at words at) (last_position (word_at words at))) else words) (at + 1)
    (mask / 2) count

-- a line is evicted
abbrev pub evicted : List Word → (line mask : ℕ) → List Word
evicted words line mask = evicted_from words (8 * line) mask 8

-- all memory after a crash
abbrev pub crashed : List Word → List Word
crashed words = map after_crash words
