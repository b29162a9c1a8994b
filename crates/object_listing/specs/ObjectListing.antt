-- The listing of an object: of each thread its number, and a line for each word.
use Rattle.std.specs.Prelude.{ℕ, ◌+◌, ◌*◌, List, [], ◌∷◌, ◌++◌, length, Option, Some, None, codes, decimal}
use Rattle.rv64_isa.specs.Formats.{decoded}
use Rattle.rv64_isa.specs.Programs.{code_base}
use Rattle.rv64_isa.specs.declared.instr.Instr.{Instr}
use Rattle.run_scripts.specs.Reports.{line}
use Rattle.object_listing.specs.Instructions.{hex_word, instruction_text}

-- a word that no instruction has is told by its digits alone; none stands in an object that is read
abbrev pub maybe_text : (address : ℕ) → Option Instr → List ℕ
maybe_text address (Some instr) = instruction_text address instr
maybe_text address None = []

-- `00010000 00100293 addi x5, x0, 1`
unfoldable pub word_line : (address word : ℕ) → List ℕ
word_line address word = line (hex_word address ++ codes " " ++ hex_word word ++ codes " " ++ maybe_text address (decoded word))

-- words from an address on
abbrev pub word_lines : (address : ℕ) → (words : List ℕ) → List ℕ
word_lines address [] = []
word_lines address (word ∷ words) = word_line address word ++ word_lines (address + 4) words

-- `thread 0`
unfoldable pub thread_line : (thread : ℕ) → List ℕ
thread_line thread = line (codes "thread " ++ decimal thread)

-- the code of threads, from this one on: thread after thread
abbrev pub thread_lines : (thread address : ℕ) → (code : List (List ℕ)) → List ℕ
thread_lines thread address [] = []
thread_lines thread address (words ∷ code) = thread_line thread ++ word_lines address words ++ thread_lines (thread + 1) (address + 4 * length words) code

abbrev pub listing : (code : List (List ℕ)) → List ℕ
listing code = thread_lines 0 code_base code
