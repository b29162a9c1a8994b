-- What code with labels does. A position is a number of an item in the list; that of the end is its length.
use Rattle.std.specs.Prelude.{ℕ, ◌+◌, List, [], ◌∷◌, Option, Some, None, Bool, true, false, ◌==◌, if◌then◌else◌, sum_by}
use Rattle.rv64_isa.specs.declared.object.CodeItem.{CodeItem}
use Rattle.rv64_isa.specs.declared.object.CodeItem.TheVariants.{Instruction, BranchTo, JumpTo, Here, MarkNext, ResumeNext}
use Rattle.rv64_isa.specs.declared.object.Slot.{Slot}
use Rattle.rv64_isa.specs.declared.object.Slot.TheVariants.{Row}
use Rattle.rv64_isa.specs.declared.instr.Instr.TheVariants.{Fence}
use Rattle.rv64_isa.specs.Arithmetic.{is_taken}
use Rattle.rv64_isa.specs.Rows.{Effect, Continues, row, read, written}

abbrev pub stands_here : (label : ℕ) → CodeItem → Bool
stands_here label (Instruction instr) = false
stands_here label (BranchTo condition rs1 rs2 to) = false
stands_here label (JumpTo rd to) = false
stands_here label (Here here) = label == here.0
stands_here label MarkNext = false
stands_here label ResumeNext = false

-- where a label stands: its first position; that of the end where it stands nowhere
abbrev pub label_position : (label : ℕ) → List CodeItem → ℕ
label_position label [] = 0
label_position label (item ∷ items) = if stands_here label item then 0 else 1 + label_position label items

abbrev pub is_mark : CodeItem → Bool
is_mark (Instruction instr) = false
is_mark (BranchTo condition rs1 rs2 to) = false
is_mark (JumpTo rd to) = false
is_mark (Here here) = false
is_mark MarkNext = true
is_mark ResumeNext = false

abbrev pub is_resume : CodeItem → Bool
is_resume (Instruction instr) = false
is_resume (BranchTo condition rs1 rs2 to) = false
is_resume (JumpTo rd to) = false
is_resume (Here here) = false
is_resume MarkNext = false
is_resume ResumeNext = true

-- the positions of items that pass a test, the first of them being at a position
abbrev pub positions_from : (at : ℕ) → (CodeItem → Bool) → List CodeItem → List ℕ
positions_from at test [] = []
positions_from at test (item ∷ items) = if test item then at ∷ positions_from (at + 1) test items else positions_from (at + 1) test items

-- What the item at a position does with these registers, where each position has an address; labels and marks do nothing. A
-- branch or jump leads to where its label stands, all other items to the next.
abbrev pub does : (items : List CodeItem) → (address_of : ℕ → ℕ) → (position : ℕ) → (registers : List ℕ) → CodeItem → Option Effect
does items at p x (Instruction instr) = Some (row instr x (at p))
does items at p x (BranchTo condition rs1 rs2 to) =
    Some (Continues x (if is_taken condition (read x rs1) (read x rs2) then at (label_position to.0 items) else at (p + 1)))
does items at p x (JumpTo rd to) = Some (Continues (written x rd (at (p + 1))) (at (label_position to.0 items)))
does items at p x (Here here) = None
does items at p x MarkNext = None
does items at p x ResumeNext = None

-- words that an item takes at most: a far branch takes two
abbrev pub most_words_of : CodeItem → ℕ
most_words_of (Instruction instr) = 1
most_words_of (BranchTo condition rs1 rs2 to) = 2
most_words_of (JumpTo rd to) = 1
most_words_of (Here here) = 0
most_words_of MarkNext = 0
most_words_of ResumeNext = 0

-- words that an item takes at least: labels and marks take none
abbrev pub least_words_of : CodeItem → ℕ
least_words_of (Instruction instr) = 1
least_words_of (BranchTo condition rs1 rs2 to) = 1
least_words_of (JumpTo rd to) = 1
least_words_of (Here here) = 0
least_words_of MarkNext = 0
least_words_of ResumeNext = 0

-- ---- FENCEs

abbrev pub is_fence : Slot → Bool
is_fence (Row Fence) = true
is_fence _ = false

abbrev pub one_if : Bool → ℕ
one_if b = if b then 1 else 0

-- how many of its words are FENCEs
abbrev pub fences_of : CodeItem → ℕ
fences_of (Instruction instr) = one_if (is_fence (Row instr))
fences_of (BranchTo condition rs1 rs2 to) = 0
fences_of (JumpTo rd to) = 0
fences_of (Here here) = 0
fences_of MarkNext = 0
fences_of ResumeNext = 0

abbrev pub fences_in : List CodeItem → ℕ
fences_in items = sum_by fences_of items
