-- What an instruction does, apart from memory and locks (RISC-V unprivileged ISA; Zicbom).
-- `load_bytes`, `load_signed` and `load_result` are by section "Load and Store Instructions".
use Rattle.std.specs.Prelude.{ℕ, ◌+◌, ◌*◌, ◌/◌, ◌%◌, ◌^◌, List, slice_index, slice_set, Bool, true, false, ◌==◌, if◌then◌else◌}
use Rattle.rv64_isa.specs.declared.instr.Instr.{Instr}
use Rattle.rv64_isa.specs.declared.instr.Instr.TheVariants.{Lui, Auipc, Jal, Jalr, Branch, Load, Store, OpImmediate}
use Rattle.rv64_isa.specs.declared.instr.Instr.TheVariants.{ShiftImmediate, ShiftImmediateWord, Op, CboClean, Fence, Ecall}
use Rattle.rv64_isa.specs.declared.instr.LoadKind.{LoadKind}
use Rattle.rv64_isa.specs.declared.instr.LoadKind.TheVariants.{Lb, Lh, Lw, Ld, Lbu, Lhu, Lwu}
use Rattle.rv64_isa.specs.declared.instr.StoreKind.{StoreKind}
use Rattle.rv64_isa.specs.declared.instr.StoreKind.TheVariants.{Sb, Sh, Sw, Sd}
use Rattle.rv64_isa.specs.Arithmetic.{sign_extended, result_of, operation_of, shift_of, word_shift_of, is_taken}

pub data Effect : Type 0 where
  -- goes on with these registers, at this pc
  Continues : (registers : List ℕ) → (pc : ℕ) → Effect
  -- loads so many bytes, sign-extended or not, into a register
  Loads : (address bytes : ℕ) → (signed : Bool) → (register : ℕ) → Effect
  -- stores the low bytes of a value
  Stores : (address bytes value : ℕ) → Effect
  -- cleans the line of an address
  Cleans : (address : ℕ) → Effect
  Fences : Effect
  Calls : Effect

-- what register r holds
abbrev pub read : List ℕ → (r : ℕ) → ℕ
read registers r = slice_index registers r

-- register r holds this value from now on; x0 stays 0
abbrev pub written : List ℕ → (r value : ℕ) → List ℕ
written registers r value = if r == 0 then registers else slice_set registers r value

abbrev pub next : (pc : ℕ) → ℕ
next pc = (pc + 4) % 2 ^ 64

-- an address or a pc, displaced by an immediate of so many bits
abbrev pub displaced : (base bits immediate : ℕ) → ℕ
displaced base bits immediate = (base + sign_extended bits 64 immediate) % 2 ^ 64

-- a 20-bit immediate in its place, the upper 20 of 32 bits, sign-extended
abbrev pub upper : (immediate : ℕ) → ℕ
upper immediate = sign_extended 32 64 (immediate * 2 ^ 12)

abbrev pub load_bytes : LoadKind → ℕ
load_bytes Lb = 1
load_bytes Lh = 2
load_bytes Lw = 4
load_bytes Ld = 8
load_bytes Lbu = 1
load_bytes Lhu = 2
load_bytes Lwu = 4

abbrev pub load_signed : LoadKind → Bool
load_signed Lb = true
load_signed Lh = true
load_signed Lw = true
load_signed Ld = true
load_signed Lbu = false
load_signed Lhu = false
load_signed Lwu = false

abbrev pub store_bytes : StoreKind → ℕ
store_bytes Sb = 1
store_bytes Sh = 2
store_bytes Sw = 4
store_bytes Sd = 8

unfoldable pub row : Instr → (registers : List ℕ) → (pc : ℕ) → Effect
row (Lui rd immediate) x pc = Continues (written x rd (upper immediate)) (next pc)
row (Auipc rd immediate) x pc = Continues (written x rd ((pc + upper immediate) % 2 ^ 64)) (next pc)
row (Jal rd offset) x pc = Continues (written x rd (next pc)) (displaced pc 21 offset)
row (Jalr rd rs1 offset) x pc = Continues (written x rd (next pc)) (displaced (read x rs1) 12 offset / 2 * 2)
row (Branch condition rs1 rs2 offset) x pc = Continues x (if is_taken condition (read x rs1) (read x rs2) then displaced pc 13 offset else next pc)
row (Load kind rd rs1 offset) x pc = Loads (displaced (read x rs1) 12 offset) (load_bytes kind) (load_signed kind) rd
row (Store kind rs2 rs1 offset) x pc = Stores (displaced (read x rs1) 12 offset) (store_bytes kind) (read x rs2)
row (OpImmediate operation rd rs1 immediate) x pc =
    Continues (written x rd (result_of (operation_of operation) (read x rs1) (sign_extended 12 64 immediate))) (next pc)
row (ShiftImmediate operation rd rs1 count) x pc = Continues (written x rd (result_of (shift_of operation) (read x rs1) count)) (next pc)
row (ShiftImmediateWord operation rd rs1 count) x pc = Continues (written x rd (result_of (word_shift_of operation) (read x rs1) count)) (next pc)
row (Op operation rd rs1 rs2) x pc = Continues (written x rd (result_of operation (read x rs1) (read x rs2))) (next pc)
row (CboClean rs1) x pc = Cleans (read x rs1)
row Fence x pc = Fences
row Ecall x pc = Calls

-- what a load of so many bytes leaves in its register
abbrev pub load_result : (bytes : ℕ) → (signed : Bool) → (value : ℕ) → ℕ
load_result bytes signed value = if signed then sign_extended (8 * bytes) 64 value else value
