-- The items of pieces. What they do is said in Pieces.
use Rattle.std.specs.Prelude.{ℕ, List, [], ◌∷◌, ◌++◌, map, Bool, if◌then◌else◌}
use Rattle.rv64_isa.specs.declared.instr.Instr.{Instr}
use Rattle.rv64_isa.specs.declared.instr.Instr.TheVariants.{Store, OpImmediate, CboClean, Ecall}
use Rattle.rv64_isa.specs.declared.instr.StoreKind.{StoreKind}
use Rattle.rv64_isa.specs.declared.instr.StoreKind.TheVariants.{Sd}
use Rattle.rv64_isa.specs.declared.instr.ImmediateOperation.TheVariants.{Addi}
use Rattle.rv64_isa.specs.declared.object.CodeItem.{CodeItem}
use Rattle.rv64_isa.specs.declared.object.Label.{Label}
use Rattle.operator_code.specs.declared.branches.Test.{Test}
use Rattle.rv64_isa.specs.declared.object.CodeItem.TheVariants.{Instruction, BranchTo, MarkNext, ResumeNext}

-- code without labels
abbrev pub plain : List Instr → List CodeItem
plain code = map Instruction code

-- x28's place takes x29, and is cleaned or not
abbrev pub store_code : StoreKind → (cleans : Bool) → List Instr
store_code kind cleans = Store kind 29 28 0 ∷ (if cleans then CboClean 28 ∷ [] else [])

abbrev pub store_items : StoreKind → (cleans : Bool) → List CodeItem
store_items kind cleans = MarkNext ∷ plain (store_code kind cleans)

-- leaves all registers as they are
abbrev pub nothing : Instr
nothing = OpImmediate Addi 0 0 0

-- code, but an instruction at least
abbrev pub some_code : List Instr → List Instr
some_code [] = nothing ∷ []
some_code (instr ∷ code) = instr ∷ code

abbrev pub computing_items : List Instr → List CodeItem
computing_items code = MarkNext ∷ plain (some_code code)

abbrev pub choice_items : List Instr → Test → Label → List CodeItem
choice_items code test to = (MarkNext ∷ plain code) ++ (BranchTo test.condition test.rs1 test.rs2 to ∷ [])

-- the registers of a call of one lock, whose number the code leaves in x10
abbrev pub asking_items : (numbering : List Instr) → (call : ℕ) → List CodeItem
asking_items numbering call = plain numbering ++ Instruction (OpImmediate Addi 17 0 call) ∷ []

abbrev pub end_items : List CodeItem
end_items = MarkNext ∷ plain (OpImmediate Addi 17 0 3 ∷ []) ++ Instruction Ecall ∷ []

-- code that computes, and the store of x29's eight bytes at x28's place
abbrev pub write_items : List Instr → List CodeItem
write_items code = computing_items code ++ Instruction (Store Sd 29 28 0) ∷ []

abbrev pub boundary_items : (boundary : List Instr) → List CodeItem
boundary_items boundary = plain boundary ++ ResumeNext ∷ []

abbrev pub lock_items : (numbering boundary : List Instr) → List CodeItem
lock_items numbering boundary = asking_items numbering 1 ++ (MarkNext ∷ Instruction Ecall ∷ boundary_items boundary)

-- it is resumed nowhere where the boundary ends a section
abbrev pub unlock_items : (numbering : List Instr) → (ends : Bool) → (boundary : List Instr) → List CodeItem
unlock_items numbering ends boundary =
    (MarkNext ∷ plain boundary) ++ (asking_items numbering 2 ++ (Instruction Ecall ∷ (if ends then [] else ResumeNext ∷ [])))
