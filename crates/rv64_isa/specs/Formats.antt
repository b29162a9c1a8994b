-- The word of each instruction (RISC-V unprivileged ISA, "Immediate Encoding Variants", "RV32/64G Instruction Set
-- Listings"; Zicbom, "cbo.clean"), and the instruction of a word.
use Rattle.std.specs.Prelude.{◌≡◌, ℕ, ◌+◌, ◌*◌, ◌/◌, ◌%◌, ◌^◌, ◌<◌, ◌==◌, if◌then◌else◌, Option, Some, None, option_map}
use Rattle.rv64_isa.specs.declared.instr.Instr.{Instr}
use Rattle.rv64_isa.specs.declared.instr.Instr.TheVariants.{Lui, Auipc, Jal, Jalr, Branch, Load, Store, OpImmediate}
use Rattle.rv64_isa.specs.declared.instr.Instr.TheVariants.{ShiftImmediate, ShiftImmediateWord, Op, CboClean, Fence, Ecall}
use Rattle.rv64_isa.specs.declared.instr.Operation.{Operation}
use Rattle.rv64_isa.specs.declared.instr.Operation.TheVariants.{Add, Sub, Sll, Slt, Sltu, Xor, Srl, Sra, Or, And, Mul, Mulh, Mulhsu, Mulhu, Div}
use Rattle.rv64_isa.specs.declared.instr.Operation.TheVariants.{Divu, Rem, Remu, Addw, Subw, Sllw, Srlw, Sraw, Mulw, Divw, Divuw, Remw, Remuw}
use Rattle.rv64_isa.specs.declared.instr.ImmediateOperation.{ImmediateOperation}
use Rattle.rv64_isa.specs.declared.instr.ImmediateOperation.TheVariants.{Addi, Slti, Sltiu, Xori, Ori, Andi, Addiw}
use Rattle.rv64_isa.specs.declared.instr.ShiftOperation.{ShiftOperation}
use Rattle.rv64_isa.specs.declared.instr.ShiftOperation.TheVariants.{Slli, Srli, Srai}
use Rattle.rv64_isa.specs.declared.instr.Condition.{Condition}
use Rattle.rv64_isa.specs.declared.instr.Condition.TheVariants.{Beq, Bne, Blt, Bge, Bltu, Bgeu}
use Rattle.rv64_isa.specs.declared.instr.LoadKind.{LoadKind}
use Rattle.rv64_isa.specs.declared.instr.LoadKind.TheVariants.{Lb, Lh, Lw, Ld, Lbu, Lhu, Lwu}
use Rattle.rv64_isa.specs.declared.instr.StoreKind.{StoreKind}
use Rattle.rv64_isa.specs.declared.instr.StoreKind.TheVariants.{Sb, Sh, Sw, Sd}

-- ---- What an instruction holds. Fields are the numbers that stand in the word; offsets of B and J are even.

abbrev pub IsOffset : (bits offset : ℕ) → Type 0
IsOffset bits offset = (offset < 2 ^ bits) × (offset % 2 ≡ 0)

abbrev pub IsInstruction : Instr → Type 0
IsInstruction (Lui rd immediate) = (rd < 32) × (immediate < 2 ^ 20)
IsInstruction (Auipc rd immediate) = (rd < 32) × (immediate < 2 ^ 20)
IsInstruction (Jal rd offset) = (rd < 32) × IsOffset 21 offset
IsInstruction (Jalr rd rs1 offset) = (rd < 32) × (rs1 < 32) × (offset < 2 ^ 12)
IsInstruction (Branch condition rs1 rs2 offset) = (rs1 < 32) × (rs2 < 32) × IsOffset 13 offset
IsInstruction (Load kind rd rs1 offset) = (rd < 32) × (rs1 < 32) × (offset < 2 ^ 12)
IsInstruction (Store kind rs2 rs1 offset) = (rs2 < 32) × (rs1 < 32) × (offset < 2 ^ 12)
IsInstruction (OpImmediate operation rd rs1 immediate) = (rd < 32) × (rs1 < 32) × (immediate < 2 ^ 12)
IsInstruction (ShiftImmediate operation rd rs1 count) = (rd < 32) × (rs1 < 32) × (count < 64)
IsInstruction (ShiftImmediateWord operation rd rs1 count) = (rd < 32) × (rs1 < 32) × (count < 32)
IsInstruction (Op operation rd rs1 rs2) = (rd < 32) × (rs1 < 32) × (rs2 < 32)
IsInstruction (CboClean rs1) = rs1 < 32
IsInstruction Fence = Unit {0}
IsInstruction Ecall = Unit {0}

-- ---- The word of an instruction, by the ISA's formats. Each field stands at its lowest bit.

abbrev pub format_r : (opcode funct3 funct7 rd rs1 rs2 : ℕ) → ℕ
format_r opcode funct3 funct7 rd rs1 rs2 = opcode + 2 ^ 7 * rd + 2 ^ 12 * funct3 + 2 ^ 15 * rs1 + 2 ^ 20 * rs2 + 2 ^ 25 * funct7

abbrev pub format_i : (opcode funct3 rd rs1 immediate : ℕ) → ℕ
format_i opcode funct3 rd rs1 immediate = opcode + 2 ^ 7 * rd + 2 ^ 12 * funct3 + 2 ^ 15 * rs1 + 2 ^ 20 * immediate

-- imm[4:0] stands in rd's place, imm[11:5] in funct7's
abbrev pub format_s : (opcode funct3 rs1 rs2 immediate : ℕ) → ℕ
format_s opcode funct3 rs1 rs2 immediate = opcode + 2 ^ 7 * (immediate % 2 ^ 5) + 2 ^ 12 * funct3 + 2 ^ 15 * rs1 + 2 ^ 20 * rs2 + 2 ^ 25 * (immediate / 2 ^ 5)

-- imm[11] at bit 7, imm[4:1] at 8, imm[10:5] at 25, imm[12] at 31
abbrev pub format_b : (opcode funct3 rs1 rs2 offset : ℕ) → ℕ
format_b opcode funct3 rs1 rs2 offset =
    opcode + 2 ^ 7 * (offset / 2 ^ 11 % 2) + 2 ^ 8 * (offset / 2 % 2 ^ 4) + 2 ^ 12 * funct3 + 2 ^ 15 * rs1 + 2 ^ 20 * rs2 + 2 ^ 25 * (offset / 2 ^ 5 % 2 ^ 6)
    + 2 ^ 31 * (offset / 2 ^ 12)

abbrev pub format_u : (opcode rd immediate : ℕ) → ℕ
format_u opcode rd immediate = opcode + 2 ^ 7 * rd + 2 ^ 12 * immediate

-- imm[19:12] at bit 12, imm[11] at 20, imm[10:1] at 21, imm[20] at 31
abbrev pub format_j : (opcode rd offset : ℕ) → ℕ
format_j opcode rd offset =
    opcode + 2 ^ 7 * rd + 2 ^ 12 * (offset / 2 ^ 12 % 2 ^ 8) + 2 ^ 20 * (offset / 2 ^ 11 % 2) + 2 ^ 21 * (offset / 2 % 2 ^ 10) + 2 ^ 31 * (offset / 2 ^ 20)

abbrev pub condition_funct3 : Condition → ℕ
condition_funct3 Beq = 0b000
condition_funct3 Bne = 0b001
condition_funct3 Blt = 0b100
condition_funct3 Bge = 0b101
condition_funct3 Bltu = 0b110
condition_funct3 Bgeu = 0b111

abbrev pub load_funct3 : LoadKind → ℕ
load_funct3 Lb = 0b000
load_funct3 Lh = 0b001
load_funct3 Lw = 0b010
load_funct3 Ld = 0b011
load_funct3 Lbu = 0b100
load_funct3 Lhu = 0b101
load_funct3 Lwu = 0b110

abbrev pub store_funct3 : StoreKind → ℕ
store_funct3 Sb = 0b000
store_funct3 Sh = 0b001
store_funct3 Sw = 0b010
store_funct3 Sd = 0b011

abbrev pub immediate_opcode : ImmediateOperation → ℕ
immediate_opcode Addiw = 0b0011011
immediate_opcode Addi = 0b0010011
immediate_opcode Slti = 0b0010011
immediate_opcode Sltiu = 0b0010011
immediate_opcode Xori = 0b0010011
immediate_opcode Ori = 0b0010011
immediate_opcode Andi = 0b0010011

abbrev pub immediate_funct3 : ImmediateOperation → ℕ
immediate_funct3 Addi = 0b000
immediate_funct3 Slti = 0b010
immediate_funct3 Sltiu = 0b011
immediate_funct3 Xori = 0b100
immediate_funct3 Ori = 0b110
immediate_funct3 Andi = 0b111
immediate_funct3 Addiw = 0b000

abbrev pub shift_funct3 : ShiftOperation → ℕ
shift_funct3 Slli = 0b001
shift_funct3 Srli = 0b101
shift_funct3 Srai = 0b101

-- bit 30 of the word tells SRAI from SRLI: the upper six bits of a 12-bit immediate are 010000
abbrev pub shift_upper : ShiftOperation → ℕ
shift_upper Slli = 0
shift_upper Srli = 0
shift_upper Srai = 2 ^ 10

abbrev pub op_opcode : Operation → ℕ
op_opcode Add = 0b0110011
op_opcode Sub = 0b0110011
op_opcode Sll = 0b0110011
op_opcode Slt = 0b0110011
op_opcode Sltu = 0b0110011
op_opcode Xor = 0b0110011
op_opcode Srl = 0b0110011
op_opcode Sra = 0b0110011
op_opcode Or = 0b0110011
op_opcode And = 0b0110011
op_opcode Mul = 0b0110011
op_opcode Mulh = 0b0110011
op_opcode Mulhsu = 0b0110011
op_opcode Mulhu = 0b0110011
op_opcode Div = 0b0110011
op_opcode Divu = 0b0110011
op_opcode Rem = 0b0110011
op_opcode Remu = 0b0110011
op_opcode Addw = 0b0111011
op_opcode Subw = 0b0111011
op_opcode Sllw = 0b0111011
op_opcode Srlw = 0b0111011
op_opcode Sraw = 0b0111011
op_opcode Mulw = 0b0111011
op_opcode Divw = 0b0111011
op_opcode Divuw = 0b0111011
op_opcode Remw = 0b0111011
op_opcode Remuw = 0b0111011

abbrev pub op_funct3 : Operation → ℕ
op_funct3 Add = 0b000
op_funct3 Sub = 0b000
op_funct3 Sll = 0b001
op_funct3 Slt = 0b010
op_funct3 Sltu = 0b011
op_funct3 Xor = 0b100
op_funct3 Srl = 0b101
op_funct3 Sra = 0b101
op_funct3 Or = 0b110
op_funct3 And = 0b111
op_funct3 Mul = 0b000
op_funct3 Mulh = 0b001
op_funct3 Mulhsu = 0b010
op_funct3 Mulhu = 0b011
op_funct3 Div = 0b100
op_funct3 Divu = 0b101
op_funct3 Rem = 0b110
op_funct3 Remu = 0b111
op_funct3 Addw = 0b000
op_funct3 Subw = 0b000
op_funct3 Sllw = 0b001
op_funct3 Srlw = 0b101
op_funct3 Sraw = 0b101
op_funct3 Mulw = 0b000
op_funct3 Divw = 0b100
op_funct3 Divuw = 0b101
op_funct3 Remw = 0b110
op_funct3 Remuw = 0b111

abbrev pub op_funct7 : Operation → ℕ
op_funct7 Add = 0b0000000
op_funct7 Sub = 0b0100000
op_funct7 Sll = 0b0000000
op_funct7 Slt = 0b0000000
op_funct7 Sltu = 0b0000000
op_funct7 Xor = 0b0000000
op_funct7 Srl = 0b0000000
op_funct7 Sra = 0b0100000
op_funct7 Or = 0b0000000
op_funct7 And = 0b0000000
op_funct7 Mul = 0b0000001
op_funct7 Mulh = 0b0000001
op_funct7 Mulhsu = 0b0000001
op_funct7 Mulhu = 0b0000001
op_funct7 Div = 0b0000001
op_funct7 Divu = 0b0000001
op_funct7 Rem = 0b0000001
op_funct7 Remu = 0b0000001
op_funct7 Addw = 0b0000000
op_funct7 Subw = 0b0100000
op_funct7 Sllw = 0b0000000
op_funct7 Srlw = 0b0000000
op_funct7 Sraw = 0b0100000
op_funct7 Mulw = 0b0000001
op_funct7 Divw = 0b0000001
op_funct7 Divuw = 0b0000001
op_funct7 Remw = 0b0000001
op_funct7 Remuw = 0b0000001

unfoldable pub word_of : Instr → ℕ
word_of (Lui rd immediate) = format_u 0b0110111 rd immediate
word_of (Auipc rd immediate) = format_u 0b0010111 rd immediate
word_of (Jal rd offset) = format_j 0b1101111 rd offset
word_of (Jalr rd rs1 offset) = format_i 0b1100111 0b000 rd rs1 offset
word_of (Branch condition rs1 rs2 offset) = format_b 0b1100011 (condition_funct3 condition) rs1 rs2 offset
word_of (Load kind rd rs1 offset) = format_i 0b0000011 (load_funct3 kind) rd rs1 offset
word_of (Store kind rs2 rs1 offset) = format_s 0b0100011 (store_funct3 kind) rs1 rs2 offset
word_of (OpImmediate operation rd rs1 immediate) = format_i (immediate_opcode operation) (immediate_funct3 operation) rd rs1 immediate
word_of (ShiftImmediate operation rd rs1 count) = format_i 0b0010011 (shift_funct3 operation) rd rs1 (shift_upper operation + count)
word_of (ShiftImmediateWord operation rd rs1 count) = format_i 0b0011011 (shift_funct3 operation) rd rs1 (shift_upper operation + count)
word_of (Op operation rd rs1 rs2) = format_r (op_opcode operation) (op_funct3 operation) (op_funct7 operation) rd rs1 rs2
word_of (CboClean rs1) = format_i 0b0001111 0b010 0 rs1 1
word_of Fence = 0x0330_000F
word_of Ecall = 0x0000_0073

-- ---- The instruction of a word, from the six fields of the format R: each of the other formats' fields is made of these

-- bits of a word, from the lowest one on
abbrev pub bits_of : (word at count : ℕ) → ℕ
bits_of word at count = word / 2 ^ at % 2 ^ count

abbrev pub condition_at : (funct3 : ℕ) → Option Condition
condition_at f =
    if f == 0b000 then Some Beq else if f == 0b001 then Some Bne else if f == 0b100 then Some Blt else if f == 0b101 then Some Bge else if f == 0b110
    then Some Bltu else if f == 0b111 then Some Bgeu else None

abbrev pub load_at : (funct3 : ℕ) → Option LoadKind
load_at f =
    if f == 0b000 then Some Lb else if f == 0b001 then Some Lh else if f == 0b010 then Some Lw else if f == 0b011 then Some Ld else if f == 0b100 then Some Lbu
    else if f == 0b101 then Some Lhu else if f == 0b110 then Some Lwu else None

abbrev pub store_at : (funct3 : ℕ) → Option StoreKind
store_at f = if f == 0b000 then Some Sb else if f == 0b001 then Some Sh else if f == 0b010 then Some Sw else if f == 0b011 then Some Sd else None

abbrev pub immediate_operation_at : (funct3 : ℕ) → Option ImmediateOperation
immediate_operation_at f =
    if f == 0b000 then Some Addi else if f == 0b010 then Some Slti else if f == 0b011 then Some Sltiu else if f == 0b100 then Some Xori else if f == 0b110
    then Some Ori else if f == 0b111 then Some Andi else None

-- the shift by funct3 and what stands above the count
abbrev pub shift_at : (funct3 upper : ℕ) → Option ShiftOperation
shift_at f upper =
    if f == 0b001 then (if upper == 0 then Some Slli else None) else if f == 0b101
    then (if upper == 0 then Some Srli else if upper == 2 ^ 10 then Some Srai else None) else None

abbrev pub base_operation_at : (funct3 : ℕ) → Option Operation
base_operation_at f =
    if f == 0b000 then Some Add else if f == 0b001 then Some Sll else if f == 0b010 then Some Slt else if f == 0b011 then Some Sltu else if f == 0b100
    then Some Xor else if f == 0b101 then Some Srl else if f == 0b110 then Some Or else if f == 0b111 then Some And else None

abbrev pub alternate_operation_at : (funct3 : ℕ) → Option Operation
alternate_operation_at f = if f == 0b000 then Some Sub else if f == 0b101 then Some Sra else None

abbrev pub multiply_operation_at : (funct3 : ℕ) → Option Operation
multiply_operation_at f =
    if f == 0b000 then Some Mul else if f == 0b001 then Some Mulh else if f == 0b010 then Some Mulhsu else if f == 0b011 then Some Mulhu else if f == 0b100
    then Some Div else if f == 0b101 then Some Divu else if f == 0b110 then Some Rem else if f == 0b111 then Some Remu else None

abbrev pub base_word_operation_at : (funct3 : ℕ) → Option Operation
base_word_operation_at f = if f == 0b000 then Some Addw else if f == 0b001 then Some Sllw else if f == 0b101 then Some Srlw else None

abbrev pub alternate_word_operation_at : (funct3 : ℕ) → Option Operation
alternate_word_operation_at f = if f == 0b000 then Some Subw else if f == 0b101 then Some Sraw else None

abbrev pub multiply_word_operation_at : (funct3 : ℕ) → Option Operation
multiply_word_operation_at f =
    if f == 0b000 then Some Mulw else if f == 0b100 then Some Divw else if f == 0b101 then Some Divuw else if f == 0b110 then Some Remw else if f == 0b111
    then Some Remuw else None

abbrev pub operation_at : (funct3 funct7 : ℕ) → Option Operation
operation_at f upper =
    if upper == 0b0000000 then base_operation_at f else if upper == 0b0100000 then alternate_operation_at f else if upper == 0b0000001
    then multiply_operation_at f else None

abbrev pub word_operation_at : (funct3 funct7 : ℕ) → Option Operation
word_operation_at f upper =
    if upper == 0b0000000 then base_word_operation_at f else if upper == 0b0100000 then alternate_word_operation_at f else if upper == 0b0000001
    then multiply_word_operation_at f else None

-- the immediate of the format I
abbrev pub immediate_of : (rs2 funct7 : ℕ) → ℕ
immediate_of rs2 funct7 = rs2 + 2 ^ 5 * funct7

-- the immediate of the format S
abbrev pub store_immediate_of : (rd funct7 : ℕ) → ℕ
store_immediate_of rd funct7 = rd + 2 ^ 5 * funct7

-- the immediate of the format U
abbrev pub upper_immediate_of : (funct3 rs1 rs2 funct7 : ℕ) → ℕ
upper_immediate_of funct3 rs1 rs2 funct7 = funct3 + 2 ^ 3 * rs1 + 2 ^ 8 * rs2 + 2 ^ 13 * funct7

-- the offset of the format B
abbrev pub branch_offset_of : (rd funct7 : ℕ) → ℕ
branch_offset_of rd funct7 = 2 * (rd / 2) + 2 ^ 5 * (funct7 % 2 ^ 6) + 2 ^ 11 * (rd % 2) + 2 ^ 12 * (funct7 / 2 ^ 6)

-- the offset of the format J
abbrev pub jump_offset_of : (funct3 rs1 rs2 funct7 : ℕ) → ℕ
jump_offset_of funct3 rs1 rs2 funct7 =
    2 * (rs2 / 2) + 2 ^ 5 * (funct7 % 2 ^ 6) + 2 ^ 11 * (rs2 % 2) + 2 ^ 12 * funct3 + 2 ^ 15 * rs1 + 2 ^ 20 * (funct7 / 2 ^ 6)

-- opcode 0010011: the shifts have six-bit counts
abbrev pub immediate_at : (rd funct3 rs1 rs2 funct7 : ℕ) → Option Instr
immediate_at rd funct3 rs1 rs2 funct7 = elim (immediate_operation_at funct3) [
  | Some operation ↦ Some (OpImmediate operation rd rs1 (immediate_of rs2 funct7))
  | None ↦ option_map (λ operation. ShiftImmediate operation rd rs1 (rs2 + 2 ^ 5 * (funct7 % 2))) (shift_at funct3 (2 ^ 6 * (funct7 / 2)))
]

-- opcode 0011011: ADDIW, and shifts with five-bit counts
abbrev pub immediate_word_at : (rd funct3 rs1 rs2 funct7 : ℕ) → Option Instr
immediate_word_at rd funct3 rs1 rs2 funct7 = if funct3 == 0b000 then Some (OpImmediate Addiw rd rs1 (immediate_of rs2 funct7))
    else option_map (λ operation. ShiftImmediateWord operation rd rs1 rs2) (shift_at funct3 (2 ^ 5 * funct7))

-- opcode 0001111: FENCE as the one word, and CBO.CLEAN
abbrev pub memory_at : (rd funct3 rs1 rs2 funct7 : ℕ) → Option Instr
memory_at rd funct3 rs1 rs2 funct7 = if rd == 0 then (
    if funct3 == 0b000 then (if rs1 == 0 then (if immediate_of rs2 funct7 == 0x033 then Some Fence else None) else None)
    else if funct3 == 0b010 then (if immediate_of rs2 funct7 == 1 then Some (CboClean rs1) else None)
    else None) else None

-- opcode 1110011: ECALL as the one word
abbrev pub system_at : (rd funct3 rs1 rs2 funct7 : ℕ) → Option Instr
system_at rd funct3 rs1 rs2 funct7 =
    if rd == 0 then (if funct3 == 0b000 then (if rs1 == 0 then (if immediate_of rs2 funct7 == 0 then Some Ecall else None) else None) else None) else None

abbrev pub decoded_fields : (opcode rd funct3 rs1 rs2 funct7 : ℕ) → Option Instr
decoded_fields opcode rd funct3 rs1 rs2 funct7 =
    if opcode == 0b0110111 then Some (Lui rd (upper_immediate_of funct3 rs1 rs2 funct7))
    else if opcode == 0b0010111 then Some (Auipc rd (upper_immediate_of funct3 rs1 rs2 funct7))
    else if opcode == 0b1101111 then Some (Jal rd (jump_offset_of funct3 rs1 rs2 funct7))
    else if opcode == 0b1100111 then (if funct3 == 0b000 then Some (Jalr rd rs1 (immediate_of rs2 funct7)) else None)
    else if opcode == 0b1100011 then option_map (λ condition. Branch condition rs1 rs2 (branch_offset_of rd funct7)) (condition_at funct3)
    else if opcode == 0b0000011 then option_map (λ kind. Load kind rd rs1 (immediate_of rs2 funct7)) (load_at funct3)
    else if opcode == 0b0100011 then option_map (λ kind. Store kind rs2 rs1 (store_immediate_of rd funct7)) (store_at funct3)
    else if opcode == 0b0010011 then immediate_at rd funct3 rs1 rs2 funct7
    else if opcode == 0b0011011 then immediate_word_at rd funct3 rs1 rs2 funct7
    else if opcode == 0b0110011 then option_map (λ operation. Op operation rd rs1 rs2) (operation_at funct3 funct7)
    else if opcode == 0b0111011 then option_map (λ operation. Op operation rd rs1 rs2) (word_operation_at funct3 funct7)
    else if opcode == 0b0001111 then memory_at rd funct3 rs1 rs2 funct7
    else if opcode == 0b1110011 then system_at rd funct3 rs1 rs2 funct7
    else None

-- the instruction of a word below 2^32, none where no instruction has it
-- Nobody has to believe it, nor what it stands on: the clauses of `decode` prove it the inverse of `word_of`.
unfoldable pub decoded : (word : ℕ) → Option Instr
decoded w = decoded_fields (bits_of w 0 7) (bits_of w 7 5) (bits_of w 12 3) (bits_of w 15 5) (bits_of w 20 5) (bits_of w 25 7)
