-- Code as a machine runs it: for each thread its instructions, and the words that are none.
use Rattle.std.specs.Prelude.{ℕ, ◌+◌, ◌-◌, ◌*◌, ◌/◌, ◌%◌, List, map, length, take, slice_get, slice_index_or}
use Rattle.std.specs.Prelude.{[], nat_le, ◌==◌, ◌&&◌, if◌then◌else◌, Option, Some, None, sum_by}
use Rattle.ido_base.specs.declared.limits.TheConstants.{CODE_BASE}
use Rattle.rv64_isa.specs.declared.object.Slot.{Slot}
use Rattle.rv64_isa.specs.declared.object.Slot.TheVariants.{Row, NoRow}
use Rattle.rv64_isa.specs.Formats.{decoded, word_of}

-- what a machine keeps of a word
abbrev pub slot_of : (word : ℕ) → Slot
slot_of word = elim (decoded word) [
  | Some instr ↦ Row instr
  | None ↦ NoRow word
]

-- the word that a slot is kept of
abbrev pub slot_word : Slot → ℕ
slot_word (Row instr) = word_of instr
slot_word (NoRow word) = word

-- the address of the first thread's first word
abbrev pub code_base : ℕ
code_base = CODE_BASE

-- where a thread's code begins: thread after thread
abbrev pub code_start : List (List Slot) → (thread : ℕ) → ℕ
code_start program thread = code_base + 4 * sum_by length (take thread program)

abbrev pub code_of : List (List Slot) → (thread : ℕ) → List Slot
code_of program thread = slice_index_or program thread []

-- what stands at a pc in a thread's own code; none where that has no word there
abbrev pub fetched : List (List Slot) → (thread pc : ℕ) → Option Slot
fetched program thread pc =
    if nat_le (code_start program thread) pc && (pc % 4 == 0) then slice_get (code_of program thread) ((pc - code_start program thread) / 4) else None
