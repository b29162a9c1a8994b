-- That a thread's program does what its code with labels does.
use Rattle.std.specs.Prelude.{◌≡◌, ℕ, ◌+◌, ◌*◌, ◌≤◌, List, [], ◌∷◌, length, map, slice_get, Some, take, drop, count_by}
use Rattle.std.specs.List.{AllByRecursion}
use Rattle.rv64_isa.specs.declared.instr.Instr.{Instr}
use Rattle.rv64_isa.specs.declared.object.CodeItem.{CodeItem}
use Rattle.rv64_isa.specs.declared.object.CodeItem.TheVariants.{Instruction}
use Rattle.rv64_isa.specs.declared.object.Slot.{Slot}
use Rattle.rv64_isa.specs.declared.object.Slot.TheVariants.{Row, NoRow}
use Rattle.rv64_isa.specs.declared.object.ThreadMarks.{ThreadMarks}
use Rattle.rv64_isa.specs.Rows.{Effect, Continues, row}
use Rattle.rv64_link.specs.LabelledCode.{does, positions_from, is_mark, is_resume, least_words_of, most_words_of, is_fence, fences_of}

-- the instruction at an address, in code that begins at an address
abbrev pub IsInstructionAt : (start : ℕ) → (code : List Slot) → (address : ℕ) → Instr → Type 0
IsInstructionAt start code address instr = (i : ℕ) × (address ≡ start + 4 * i) × (slice_get code i ≡ Some (Row instr))

-- at a pc, with these registers, the instruction has the effect; or it takes two words, the first changes nothing but the pc, and the
-- second has it
pub data HasEffect (start : ℕ) (code : List Slot) (registers : List ℕ) (pc after : ℕ) (effect : Effect) : Type 0 where
  in_one : (instr : Instr) → IsInstructionAt start code pc instr → row instr registers pc ≡ effect → HasEffect start code registers pc after effect
  in_two : (instr next : Instr) → after ≡ pc + 8 → IsInstructionAt start code pc instr → row instr registers pc ≡ Continues registers (pc + 4)
      → IsInstructionAt start code (pc + 4) next → row next registers (pc + 4) ≡ effect → HasEffect start code registers pc after effect

-- from the one address to the other there is room for the words of an item
pub record IsRoom (item : CodeItem) (from to : ℕ) : Type 0 where
  pub words : ℕ
  pub to_is : to ≡ from + 4 * words
  pub least : least_words_of item ≤ words
  pub most : words ≤ most_words_of item

abbrev pub IsInstruction : Slot → Type 0
IsInstruction (Row instr) = Unit {0}
IsInstruction (NoRow word) = ⊥

-- from the one address to the other the code has instructions alone, so many of them FENCEs
pub record AreInstructions (start : ℕ) (code : List Slot) (from to fences : ℕ) : Type 0 where
  -- the number of the first of these words, and how many they are
  pub first : ℕ
  pub count : ℕ
  pub from_is : from ≡ start + 4 * first
  pub to_is : to ≡ from + 4 * count
  pub inside : first + count ≤ length code
  pub rows : AllByRecursion IsInstruction (take count (drop first code))
  pub fences_are : count_by is_fence (take count (drop first code)) ≡ fences

-- Each position has an address, item after item, and there the code does what the item does; labels and marks take no room.
-- `nodes` and `resumes` are the addresses of the items that the marks stand before.
pub record IsLinked (start : ℕ) (items : List CodeItem) (code : List Slot) (nodes resumes : List ℕ) : Type 0 where
  pub address_of : ℕ → ℕ
  pub begins : address_of 0 ≡ start
  pub ends : address_of (length items) ≡ start + 4 * length code
  pub room : (p : ℕ) (item : CodeItem) → slice_get items p ≡ Some item → IsRoom item (address_of p) (address_of (p + 1))
  -- an instruction stands as it is
  pub stands : (p : ℕ) (instr : Instr) → slice_get items p ≡ Some (Instruction instr) → IsInstructionAt start code (address_of p) instr
  pub lockstep : (p : ℕ) (item : CodeItem) (x : List ℕ) (effect : Effect) → slice_get items p ≡ Some item → does items address_of p x item ≡ Some effect →
      HasEffect start code x (address_of p) (address_of (p + 1)) effect
  pub nodes_are : nodes ≡ map address_of (positions_from 0 is_mark items)
  pub resumes_are : resumes ≡ map address_of (positions_from 0 is_resume items)
  -- all words are instructions, and no FENCE is added
  pub words : (p : ℕ) (item : CodeItem) → slice_get items p ≡ Some item → AreInstructions start code (address_of p) (address_of (p + 1)) (fences_of item)

-- the code of threads, thread after thread from an address on
abbrev pub AreLinked : (start : ℕ) → List (List CodeItem) → List (List Slot) → List ThreadMarks → Type 0
AreLinked start [] [] [] = Unit {0}
AreLinked start (items ∷ threads) (code ∷ program) (m ∷ marks) =
    IsLinked start items code m.nodes.items m.resumes.items × AreLinked (start + 4 * length code) threads program marks
AreLinked start _ _ _ = ⊥
