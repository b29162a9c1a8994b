-- Where variables stand in memory, and which word an address is in. After the variables' lines come those of logs.
use Rattle.std.specs.Prelude.{ℕ, zero, suc, ◌+◌, ◌-◌, ◌*◌, ◌/◌, ◌%◌, List, [], ◌∷◌, ◌++◌, take, drop}
use Rattle.std.specs.Prelude.{replicate, Bool, nat_lt, nat_le, ◌==◌, ◌&&◌, ◌||◌, if◌then◌else◌}
use Rattle.std.specs.Int.{w64, from_le_bytes}
use Rattle.ido_base.specs.declared.location.Shape.{Shape}
use Rattle.ido_base.specs.declared.limits.TheConstants.{LINE_BYTES, VARIABLE_LINES}

-- bytes of a line
abbrev pub line_bytes : ℕ
line_bytes = LINE_BYTES

-- the address of the first variable
abbrev pub variables_base : ℕ
variables_base = 0x1000_0000

-- the address of the first thread's log
abbrev pub logs_base : ℕ
logs_base = 0x2000_0000

-- the variables' lines, 0 to 1023
abbrev pub variable_lines : ℕ
variable_lines = VARIABLE_LINES

-- an access of count bytes is aligned to its size
abbrev pub aligned : (address count : ℕ) → Bool
aligned address count = address % count == 0

-- the number of the byte at an address that is in range, counted over all lines
abbrev pub byte_number : (address : ℕ) → ℕ
byte_number address = if nat_lt address logs_base then address - variables_base else line_bytes * variable_lines + (address - logs_base)

-- the number of the word at an address that is in range
abbrev pub word_number : (address : ℕ) → ℕ
word_number address = byte_number address / 8

-- ---- Variables, in order of declaration, each at the next address aligned to its element's size

-- the least multiple of the size from n on
abbrev pub aligned_up : (n size : ℕ) → ℕ
aligned_up n size = (n + size - 1) / size * size

-- how many bytes after the base a variable begins, where the ones before it end at n
abbrev pub start_from : (n : ℕ) → List Shape → (variable : ℕ) → ℕ
start_from n [] variable = n
start_from n (s ∷ ss) zero = aligned_up n s.bytes
start_from n (s ∷ ss) (suc variable) = start_from (aligned_up n s.bytes + s.bytes * s.length) ss variable

-- how many bytes after the base the last variable ends, where the ones before these end at n
abbrev pub end_from : (n : ℕ) → List Shape → ℕ
end_from n [] = n
end_from n (s ∷ ss) = end_from (aligned_up n s.bytes + s.bytes * s.length) ss

-- the address of an element of a variable
abbrev pub variable_at : List Shape → (variable element : ℕ) → ℕ
variable_at shapes variable element = variables_base + start_from 0 shapes variable + element_bytes shapes variable * element
  where
    element_bytes : List Shape → ℕ → ℕ
    element_bytes [] v = 0
    element_bytes (s ∷ ss) zero = s.bytes
    element_bytes (s ∷ ss) (suc v) = element_bytes ss v

-- ---- Contents of all words

-- bytes as little-endian words, so many of them; zeros after the last byte
abbrev pub words_of_bytes : List ℕ → (count : ℕ) → List ℕ
words_of_bytes bytes zero = []
words_of_bytes bytes (suc count) = from_le_bytes w64 (take 8 bytes) ∷ words_of_bytes (drop 8 bytes) count

-- all words, where so many words of the variables are given and after them those of the logs
unfoldable pub spread_words : (variable_words : ℕ) → List ℕ → List ℕ
spread_words variable_words words = take variable_words words ++ replicate (8 * variable_lines - variable_words) 0 ++ drop variable_words words
