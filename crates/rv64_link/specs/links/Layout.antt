-- How items become words: the words' numbers, counted through all threads.
use Rattle.std.specs.Prelude.{ℕ, ◌+◌, ◌-◌, ◌*◌, ◌%◌, ◌^◌, List, [], ◌∷◌, ◌++◌, get_or, Bool, nat_le, ◌&&◌, if◌then◌else◌}
use Rattle.rv64_isa.specs.declared.instr.Instr.TheVariants.{Jal, Branch}
use Rattle.rv64_isa.specs.declared.instr.Condition.{Condition}
use Rattle.rv64_isa.specs.declared.instr.Condition.TheVariants.{Beq, Bne, Blt, Bge, Bltu, Bgeu}
use Rattle.rv64_isa.specs.declared.object.CodeItem.{CodeItem}
use Rattle.rv64_isa.specs.declared.object.CodeItem.TheVariants.{Instruction, BranchTo, JumpTo, Here, MarkNext, ResumeNext}
use Rattle.rv64_isa.specs.declared.object.Slot.{Slot}
use Rattle.rv64_isa.specs.declared.object.Slot.TheVariants.{Row}
use Rattle.rv64_link.specs.LabelledCode.{label_position}

-- items that a near branch may pass: each is at most two words
abbrev pub is_near : (from to : ℕ) → Bool
is_near from to = nat_le (to - from) 511 && nat_le (from - to) 511

abbrev pub inverse : Condition → Condition
inverse Beq = Bne
inverse Bne = Beq
inverse Blt = Bge
inverse Bge = Blt
inverse Bltu = Bgeu
inverse Bgeu = Bltu

-- the offset from one word to another, of so many bits
abbrev pub offset : (bits from to : ℕ) → ℕ
offset bits from to = 4 * (to + 2 ^ 30 - from) % 2 ^ bits

abbrev pub size : (all : List CodeItem) → (p : ℕ) → CodeItem → ℕ
size all p (Instruction instr) = 1
size all p (BranchTo condition rs1 rs2 to) = if is_near p (label_position to.0 all) then 1 else 2
size all p (JumpTo rd to) = 1
size all p (Here here) = 0
size all p MarkNext = 0
size all p ResumeNext = 0

-- the number of the first word of each item, and of the end
abbrev pub numbers : (all : List CodeItem) → (first p : ℕ) → List CodeItem → List ℕ
numbers all first p [] = first ∷ []
numbers all first p (item ∷ items) = first ∷ numbers all (first + size all p item) (p + 1) items

abbrev pub number_at : List ℕ → (p : ℕ) → ℕ
number_at ns p = get_or ns p 0

abbrev pub branch_slots : Condition → (rs1 rs2 : ℕ) → (near : Bool) → (from to : ℕ) → List Slot
branch_slots condition rs1 rs2 near from to = if near then Row (Branch condition rs1 rs2 (offset 13 from to)) ∷ []
    else Row (Branch (inverse condition) rs1 rs2 8) ∷ Row (Jal 0 (offset 21 (from + 1) to)) ∷ []

-- the words of the item at a position
abbrev pub slots_of : (all : List CodeItem) → (ns : List ℕ) → (p : ℕ) → CodeItem → List Slot
slots_of all ns p (Instruction instr) = Row instr ∷ []
slots_of all ns p (BranchTo condition rs1 rs2 to) =
    branch_slots condition rs1 rs2 (is_near p (label_position to.0 all)) (number_at ns p) (number_at ns (label_position to.0 all))
slots_of all ns p (JumpTo rd to) = Row (Jal rd (offset 21 (number_at ns p) (number_at ns (label_position to.0 all)))) ∷ []
slots_of all ns p (Here here) = []
slots_of all ns p MarkNext = []
slots_of all ns p ResumeNext = []

abbrev pub slots : (all : List CodeItem) → (ns : List ℕ) → (p : ℕ) → List CodeItem → List Slot
slots all ns p [] = []
slots all ns p (item ∷ items) = slots_of all ns p item ++ slots all ns (p + 1) items
