-- The text of an instruction, as assemblers of RISC-V write it: registers as `x5`, immediates in signed decimal, targets as addresses.
use Rattle.std.specs.Prelude.{ℕ, suc, ◌+◌, ◌-◌, ◌/◌, ◌%◌, ◌^◌, List, [], ◌∷◌, ◌++◌, ℤ, pos, negsuc, false, nat_lt, if◌then◌else◌, codes, decimal}
use Rattle.std.specs.Fmt.{digits, signed_decimal}
use Rattle.rv64_isa.specs.Rows.{displaced}
use Rattle.rv64_isa.specs.declared.instr.Instr.{Instr}
use Rattle.rv64_isa.specs.declared.instr.Instr.TheVariants.{Lui, Auipc, Jal, Jalr, Branch, Load, Store, OpImmediate}
use Rattle.rv64_isa.specs.declared.instr.Instr.TheVariants.{ShiftImmediate, ShiftImmediateWord, Op, CboClean, Fence, Ecall}
use Rattle.rv64_isa.specs.declared.instr.Operation.{Operation}
use Rattle.rv64_isa.specs.declared.instr.Operation.TheVariants.{Add, Sub, Sll, Slt, Sltu, Xor, Srl, Sra, Or, And, Mul, Mulh, Mulhsu, Mulhu, Div}
use Rattle.rv64_isa.specs.declared.instr.Operation.TheVariants.{Divu, Rem, Remu, Addw, Subw, Sllw, Srlw, Sraw, Mulw, Divw, Divuw, Remw, Remuw}
use Rattle.rv64_isa.specs.declared.instr.ImmediateOperation.{ImmediateOperation}
use Rattle.rv64_isa.specs.declared.instr.ImmediateOperation.TheVariants.{Addi, Slti, Sltiu, Xori, Ori, Andi, Addiw}
use Rattle.rv64_isa.specs.declared.instr.ShiftOperation.{ShiftOperation}
use Rattle.rv64_isa.specs.declared.instr.ShiftOperation.TheVariants.{Slli, Srli, Srai}
use Rattle.rv64_isa.specs.declared.instr.Condition.{Condition}
use Rattle.rv64_isa.specs.declared.instr.Condition.TheVariants.{Beq, Bne, Blt, Bge, Bltu, Bgeu}
use Rattle.rv64_isa.specs.declared.instr.LoadKind.{LoadKind}
use Rattle.rv64_isa.specs.declared.instr.LoadKind.TheVariants.{Lb, Lh, Lw, Ld, Lbu, Lhu, Lwu}
use Rattle.rv64_isa.specs.declared.instr.StoreKind.{StoreKind}
use Rattle.rv64_isa.specs.declared.instr.StoreKind.TheVariants.{Sb, Sh, Sw, Sd}

-- ---- Numbers

-- a hexadecimal digit, in lower case
abbrev pub hex_digit : (n : ℕ) → ℕ
hex_digit n = if nat_lt n 10 then 48 + n else 87 + n

-- the hexadecimal digit of a number at a place, from the lowest one
abbrev pub hex_at : (n place : ℕ) → ℕ
hex_at n place = hex_digit (n / 16 ^ place % 16)

-- the low 32 bits as eight digits
unfoldable pub hex_word : ℕ → List ℕ
hex_word n = hex_at n 7 ∷ hex_at n 6 ∷ hex_at n 5 ∷ hex_at n 4 ∷ hex_at n 3 ∷ hex_at n 2 ∷ hex_at n 1 ∷ hex_at n 0 ∷ []

-- what so many bits say in two's complement
abbrev pub signed : (bits n : ℕ) → ℤ
signed bits n = if nat_lt n (2 ^ (bits - 1)) then pos n else negsuc (2 ^ bits - suc n)

-- an address displaced by an offset of so many bits; 32 bits of it are told
abbrev pub target : (address bits offset : ℕ) → ℕ
target address bits offset = displaced address bits offset % 2 ^ 32

-- ---- Names

abbrev pub operation_name : Operation → List ℕ
operation_name Add = codes "add"
operation_name Sub = codes "sub"
operation_name Sll = codes "sll"
operation_name Slt = codes "slt"
operation_name Sltu = codes "sltu"
operation_name Xor = codes "xor"
operation_name Srl = codes "srl"
operation_name Sra = codes "sra"
operation_name Or = codes "or"
operation_name And = codes "and"
operation_name Mul = codes "mul"
operation_name Mulh = codes "mulh"
operation_name Mulhsu = codes "mulhsu"
operation_name Mulhu = codes "mulhu"
operation_name Div = codes "div"
operation_name Divu = codes "divu"
operation_name Rem = codes "rem"
operation_name Remu = codes "remu"
operation_name Addw = codes "addw"
operation_name Subw = codes "subw"
operation_name Sllw = codes "sllw"
operation_name Srlw = codes "srlw"
operation_name Sraw = codes "sraw"
operation_name Mulw = codes "mulw"
operation_name Divw = codes "divw"
operation_name Divuw = codes "divuw"
operation_name Remw = codes "remw"
operation_name Remuw = codes "remuw"

abbrev pub immediate_name : ImmediateOperation → List ℕ
immediate_name Addi = codes "addi"
immediate_name Slti = codes "slti"
immediate_name Sltiu = codes "sltiu"
immediate_name Xori = codes "xori"
immediate_name Ori = codes "ori"
immediate_name Andi = codes "andi"
immediate_name Addiw = codes "addiw"

abbrev pub shift_name : ShiftOperation → List ℕ
shift_name Slli = codes "slli"
shift_name Srli = codes "srli"
shift_name Srai = codes "srai"

abbrev pub word_shift_name : ShiftOperation → List ℕ
word_shift_name Slli = codes "slliw"
word_shift_name Srli = codes "srliw"
word_shift_name Srai = codes "sraiw"

abbrev pub condition_name : Condition → List ℕ
condition_name Beq = codes "beq"
condition_name Bne = codes "bne"
condition_name Blt = codes "blt"
condition_name Bge = codes "bge"
condition_name Bltu = codes "bltu"
condition_name Bgeu = codes "bgeu"

abbrev pub load_name : LoadKind → List ℕ
load_name Lb = codes "lb"
load_name Lh = codes "lh"
load_name Lw = codes "lw"
load_name Ld = codes "ld"
load_name Lbu = codes "lbu"
load_name Lhu = codes "lhu"
load_name Lwu = codes "lwu"

abbrev pub store_name : StoreKind → List ℕ
store_name Sb = codes "sb"
store_name Sh = codes "sh"
store_name Sw = codes "sw"
store_name Sd = codes "sd"

-- ---- Instructions

abbrev pub register : (r : ℕ) → List ℕ
register r = codes "x" ++ decimal r

-- `addi x5, x0, 1`: a name, two registers and a third operand
unfoldable pub of_three : (name : List ℕ) → (first second : ℕ) → (third : List ℕ) → List ℕ
of_three name first second third = name ++ codes " " ++ register first ++ codes ", " ++ register second ++ codes ", " ++ third

-- `ld x5, 0(x28)`: a name, a register, and a base with its offset
unfoldable pub of_base : (name : List ℕ) → (first base offset : ℕ) → List ℕ
of_base name first base offset =
    name ++ codes " " ++ register first ++ codes ", " ++ signed_decimal (signed 12 offset) ++ codes "(" ++ register base ++ codes ")"

-- `lui x5, 0x20000`
unfoldable pub of_upper : (name : List ℕ) → (rd immediate : ℕ) → List ℕ
of_upper name rd immediate = name ++ codes " " ++ register rd ++ codes ", 0x" ++ digits 16 false immediate

-- `jal x0, 00010010`
unfoldable pub of_jump : (address rd offset : ℕ) → List ℕ
of_jump address rd offset = codes "jal " ++ register rd ++ codes ", " ++ hex_word (target address 21 offset)

-- `cbo.clean (x31)`
unfoldable pub of_clean : (rs1 : ℕ) → List ℕ
of_clean rs1 = codes "cbo.clean (" ++ register rs1 ++ codes ")"

-- an instruction that stands at the address
abbrev pub instruction_text : (address : ℕ) → Instr → List ℕ
instruction_text address (Lui rd immediate) = of_upper (codes "lui") rd immediate
instruction_text address (Auipc rd immediate) = of_upper (codes "auipc") rd immediate
instruction_text address (Jal rd offset) = of_jump address rd offset
instruction_text address (Jalr rd rs1 offset) = of_base (codes "jalr") rd rs1 offset
instruction_text address (Branch condition rs1 rs2 offset) = of_three (condition_name condition) rs1 rs2 (hex_word (target address 13 offset))
instruction_text address (Load kind rd rs1 offset) = of_base (load_name kind) rd rs1 offset
instruction_text address (Store kind rs2 rs1 offset) = of_base (store_name kind) rs2 rs1 offset
instruction_text address (OpImmediate operation rd rs1 immediate) = of_three (immediate_name operation) rd rs1 (signed_decimal (signed 12 immediate))
instruction_text address (ShiftImmediate operation rd rs1 count) = of_three (shift_name operation) rd rs1 (decimal count)
instruction_text address (ShiftImmediateWord operation rd rs1 count) = of_three (word_shift_name operation) rd rs1 (decimal count)
instruction_text address (Op operation rd rs1 rs2) = of_three (operation_name operation) rd rs1 (register rs2)
instruction_text address (CboClean rs1) = of_clean rs1
instruction_text address Fence = codes "fence rw, rw"
instruction_text address Ecall = codes "ecall"
