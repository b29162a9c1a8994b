-- What is kept of words, and which histories it represents.
use Rattle.std.specs.Prelude.{◌≡◌, ℕ, ◌+◌, ◌<◌, ◌≤◌, List, length, map, slice_index, slice_index_or}
use Rattle.ido_base.specs.Words.{Word, word_at, live_value, durable_value}
use Rattle.line_memory.specs.declared.cell.Cell.{Cell}
use Rattle.line_memory.specs.declared.queue.Saved.{Saved}

-- what is kept of a word that has this value, durably, and no other past
abbrev pub cell_of : ℕ → Cell
cell_of n = record { live = n; version = 0; durable = n; durable_version = 0 }

-- the cell of that number
abbrev pub cell_at : List Cell → ℕ → Cell
cell_at cells i = slice_index_or cells i (cell_of 0)

-- the cell keeps the newest value of the word and its durable one, each with its position; none is beyond the number of stores
pub record RepresentsCell (cell : Cell) (word : Word) (stores : ℕ) : Type 0 where
  pub live : cell.live ≡ live_value word
  pub version : length word.values ≡ cell.version + 1
  pub durable : cell.durable ≡ durable_value word
  pub durable_version : cell.durable_version ≡ word.durable
  pub order : word.durable < length word.values
  pub counted : cell.version ≤ stores

-- as many cells as words, and each represents its word
pub record CellsStand (cells : List Cell) (words : List Word) (stores : ℕ) : Type 0 where
  pub size : length cells ≡ length words
  pub each : (i : ℕ) → i < length cells → RepresentsCell (cell_at cells i) (word_at words i) stores

-- a cell's newest value
abbrev pub newest_of : Cell → Saved
newest_of cell = record { value = cell.live; version = cell.version }

-- what is saved of the k-th word
abbrev pub saved_at : List Saved → ℕ → Saved
saved_at saved k = slice_index_or saved k (record { value = 0; version = 0 })

abbrev pub versions_in : List Saved → List ℕ
versions_in saved = map (λ one. one.version) saved

-- of each of the eight words from `at` on, the version is a position in its history, and the value stands there
pub record Remembers (saved : List Saved) (at : ℕ) (words : List Word) : Type 0 where
  pub within : (k : ℕ) → k < 8 → (saved_at saved k).version < length (word_at words (at + k)).values
  pub same : (k : ℕ) → k < 8 → (saved_at saved k).value ≡ slice_index (word_at words (at + k)).values (saved_at saved k).version
