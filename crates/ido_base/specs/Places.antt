-- Places in a text, as they are printed.
use Rattle.std.specs.List.{prefix_len}
use Rattle.std.specs.Prelude.{ℕ, ◌+◌, List, take, reverse, count_by, ◌==◌, not}

-- the line feed, which ends a line
abbrev pub line_feed : ℕ
line_feed = 10

-- the line of the place, from 1
abbrev pub line_of : List ℕ → (place : ℕ) → ℕ
line_of text place = 1 + count_by (λ c. c == line_feed) (take place text)

-- the byte column of the place in its line, from 1: one more than the bytes after the last line feed before it
abbrev pub column_of : List ℕ → (place : ℕ) → ℕ
column_of text place = 1 + prefix_len (λ c. not (c == line_feed)) (reverse (take place text))
