-- Names for the pieces of code. What it does is said in Straight and Computing.
use Rattle.std.specs.Prelude.{ℕ, ◌+◌, ◌/◌, ◌%◌, ◌^◌, List, [], ◌∷◌, ◌++◌, ◌==◌, if◌then◌else◌}
use Rattle.rv64_isa.specs.declared.instr.Instr.{Instr}
use Rattle.rv64_isa.specs.declared.instr.Instr.TheVariants.{Lui, OpImmediate, ShiftImmediate, Op}
use Rattle.rv64_isa.specs.declared.instr.Operation.TheVariants.{Sub, Slt, Sltu}
use Rattle.rv64_isa.specs.declared.instr.Condition.{Condition}
use Rattle.rv64_isa.specs.declared.instr.Condition.TheVariants.{Beq, Bne, Blt, Bge, Bltu, Bgeu}
use Rattle.rv64_isa.specs.declared.instr.ImmediateOperation.TheVariants.{Addi, Addiw, Andi, Xori, Sltiu}
use Rattle.rv64_isa.specs.declared.instr.ShiftOperation.{ShiftOperation}
use Rattle.rv64_isa.specs.declared.instr.ShiftOperation.TheVariants.{Slli, Srli, Srai}
use Rattle.ido_ints.specs.declared.kinds.Kind.{Kind}
use Rattle.ido_ints.specs.declared.kinds.Kind.TheVariants.{Char, UnsignedChar, SignedChar, Short, UnsignedShort, Int, UnsignedInt, Long, UnsignedLong}

-- a number of 32 bits, sign-extended
abbrev pub word_code : (rd number : ℕ) → List Instr
word_code rd number =
    Lui rd ((number + 2048) % 2 ^ 32 / 4096) ∷ [] ++ (if number % 4096 == 0 then [] else OpImmediate Addiw rd rd (number % 4096) ∷ [])

-- one more digit after the code of the upper ones
abbrev pub with_digit : (rd count low : ℕ) → List Instr → List Instr
with_digit rd count low code = code ++ ShiftImmediate Slli rd rd count ∷ [] ++ (if low == 0 then [] else OpImmediate Addi rd rd low ∷ [])

abbrev pub up_and_back : ShiftOperation → (count rd rs : ℕ) → List Instr
up_and_back back count rd rs = ShiftImmediate Slli rd rs count ∷ ShiftImmediate back rd rd count ∷ []

abbrev pub extension : Kind → (rd rs : ℕ) → List Instr
extension Char rd rs = OpImmediate Andi rd rs 255 ∷ []
extension UnsignedChar rd rs = OpImmediate Andi rd rs 255 ∷ []
extension SignedChar rd rs = up_and_back Srai 56 rd rs
extension Short rd rs = up_and_back Srai 48 rd rs
extension UnsignedShort rd rs = up_and_back Srli 48 rd rs
extension Int rd rs = OpImmediate Addiw rd rs 0 ∷ []
extension UnsignedInt rd rs = OpImmediate Addiw rd rs 0 ∷ []
extension Long rd rs = up_and_back Srli 32 rd rs
extension UnsignedLong rd rs = up_and_back Srli 32 rd rs

abbrev pub flag_code : Condition → (rd rs1 rs2 : ℕ) → List Instr
flag_code Beq rd r s = Op Sub rd r s ∷ OpImmediate Sltiu rd rd 1 ∷ []
flag_code Bne rd r s = Op Sub rd r s ∷ Op Sltu rd 0 rd ∷ []
flag_code Blt rd r s = Op Slt rd r s ∷ []
flag_code Bge rd r s = Op Slt rd r s ∷ OpImmediate Xori rd rd 1 ∷ []
flag_code Bltu rd r s = Op Sltu rd r s ∷ []
flag_code Bgeu rd r s = Op Sltu rd r s ∷ OpImmediate Xori rd rd 1 ∷ []
