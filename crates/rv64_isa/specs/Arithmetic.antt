-- What the operations of RV64I and of the extension M compute, and when branches are taken (RISC-V unprivileged
-- ISA, "RV64I Base Integer Instruction Set" and "M" Extension), on numbers below 2^64 in two's complement.
-- `quotient` to `remainder_unsigned` are by section "Division Operations" of M, `is_taken` by "Conditional Branches", `result_of` by RV64I and M.
use Rattle.std.specs.Prelude.{ℕ, ◌+◌, ◌-◌, ◌*◌, ◌/◌, ◌%◌, ◌^◌, Bool, not, nat_lt, nat_le, ◌==◌, if◌then◌else◌, bit_and, bit_or, bit_xor}
use Rattle.rv64_isa.specs.declared.instr.Operation.{Operation}
use Rattle.rv64_isa.specs.declared.instr.Operation.TheVariants.{Add, Sub, Sll, Slt, Sltu, Xor, Srl, Sra, Or, And, Mul, Mulh, Mulhsu, Mulhu, Div}
use Rattle.rv64_isa.specs.declared.instr.Operation.TheVariants.{Divu, Rem, Remu, Addw, Subw, Sllw, Srlw, Sraw, Mulw, Divw, Divuw, Remw, Remuw}
use Rattle.rv64_isa.specs.declared.instr.ImmediateOperation.{ImmediateOperation}
use Rattle.rv64_isa.specs.declared.instr.ImmediateOperation.TheVariants.{Addi, Slti, Sltiu, Xori, Ori, Andi, Addiw}
use Rattle.rv64_isa.specs.declared.instr.ShiftOperation.{ShiftOperation}
use Rattle.rv64_isa.specs.declared.instr.ShiftOperation.TheVariants.{Slli, Srli, Srai}
use Rattle.rv64_isa.specs.declared.instr.Condition.{Condition}
use Rattle.rv64_isa.specs.declared.instr.Condition.TheVariants.{Beq, Bne, Blt, Bge, Bltu, Bgeu}

-- the number of so many bits is negative in two's complement
abbrev pub is_negative : (bits n : ℕ) → Bool
is_negative bits n = nat_le (2 ^ (bits - 1)) n

-- a number of so many bits with its sign bit copied up to a greater width
abbrev pub sign_extended : (bits width n : ℕ) → ℕ
sign_extended bits width n = if is_negative bits n then n + (2 ^ width - 2 ^ bits) else n

-- the low 32 bits, sign-extended: what the W forms leave
abbrev pub word_result : ℕ → ℕ
word_result n = sign_extended 32 64 (n % 2 ^ 32)

-- the amount of a number of so many bits, without its sign
abbrev pub magnitude : (bits n : ℕ) → ℕ
magnitude bits n = if is_negative bits n then 2 ^ bits - n else n

-- the number of this amount, negative or not
abbrev pub with_sign : (bits : ℕ) → Bool → (n : ℕ) → ℕ
with_sign bits negative n = if negative then (2 ^ bits - n) % 2 ^ bits else n

-- just one of two holds
abbrev pub differ : Bool → Bool → Bool
differ a b = if a then not b else b

-- division rounds towards zero; by zero it gives all ones, and the least number by -1 itself
abbrev pub quotient : (bits a b : ℕ) → ℕ
quotient bits a b = if b == 0 then 2 ^ bits - 1 else with_sign bits (differ (is_negative bits a) (is_negative bits b)) (magnitude bits a / magnitude bits b)

-- the remainder has the sign of the dividend; by zero it is the dividend
abbrev pub remainder : (bits a b : ℕ) → ℕ
remainder bits a b = if b == 0 then a else with_sign bits (is_negative bits a) (magnitude bits a % magnitude bits b)

abbrev pub quotient_unsigned : (bits a b : ℕ) → ℕ
quotient_unsigned bits a b = if b == 0 then 2 ^ bits - 1 else a / b

abbrev pub remainder_unsigned : (bits a b : ℕ) → ℕ
remainder_unsigned bits a b = if b == 0 then a else a % b

-- a shift to the right that copies the sign bit
abbrev pub shifted_arithmetic : (bits a count : ℕ) → ℕ
shifted_arithmetic bits a count = if is_negative bits a then 2 ^ bits - 1 - (2 ^ bits - 1 - a) / 2 ^ count else a / 2 ^ count

-- the order in two's complement is that of the numbers moved up by 2^63
abbrev pub signed_less : (a b : ℕ) → Bool
signed_less a b = nat_lt ((a + 2 ^ 63) % 2 ^ 64) ((b + 2 ^ 63) % 2 ^ 64)

abbrev pub flag : Bool → ℕ
flag b = if b then 1 else 0

unfoldable pub result_of : Operation → (a b : ℕ) → ℕ
result_of Add a b = (a + b) % 2 ^ 64
result_of Sub a b = (a + (2 ^ 64 - b)) % 2 ^ 64
result_of Sll a b = a * 2 ^ (b % 64) % 2 ^ 64
result_of Slt a b = flag (signed_less a b)
result_of Sltu a b = flag (nat_lt a b)
result_of Xor a b = bit_xor a b
result_of Srl a b = a / 2 ^ (b % 64)
result_of Sra a b = shifted_arithmetic 64 a (b % 64)
result_of Or a b = bit_or a b
result_of And a b = bit_and a b
result_of Mul a b = a * b % 2 ^ 64
result_of Mulh a b = sign_extended 64 128 a * sign_extended 64 128 b % 2 ^ 128 / 2 ^ 64
result_of Mulhsu a b = sign_extended 64 128 a * b % 2 ^ 128 / 2 ^ 64
result_of Mulhu a b = a * b / 2 ^ 64
result_of Div a b = quotient 64 a b
result_of Divu a b = quotient_unsigned 64 a b
result_of Rem a b = remainder 64 a b
result_of Remu a b = remainder_unsigned 64 a b
result_of Addw a b = word_result (a + b)
result_of Subw a b = word_result (a + (2 ^ 64 - b))
result_of Sllw a b = word_result (a * 2 ^ (b % 32))
result_of Srlw a b = word_result (a % 2 ^ 32 / 2 ^ (b % 32))
result_of Sraw a b = word_result (shifted_arithmetic 32 (a % 2 ^ 32) (b % 32))
result_of Mulw a b = word_result (a * b)
result_of Divw a b = word_result (quotient 32 (a % 2 ^ 32) (b % 2 ^ 32))
result_of Divuw a b = word_result (quotient_unsigned 32 (a % 2 ^ 32) (b % 2 ^ 32))
result_of Remw a b = word_result (remainder 32 (a % 2 ^ 32) (b % 2 ^ 32))
result_of Remuw a b = word_result (remainder_unsigned 32 (a % 2 ^ 32) (b % 2 ^ 32))

-- an operation on an immediate is that on two registers, with the immediate sign-extended
abbrev pub operation_of : ImmediateOperation → Operation
operation_of Addi = Add
operation_of Slti = Slt
operation_of Sltiu = Sltu
operation_of Xori = Xor
operation_of Ori = Or
operation_of Andi = And
operation_of Addiw = Addw

-- a shift by a count is that by a register
abbrev pub shift_of : ShiftOperation → Operation
shift_of Slli = Sll
shift_of Srli = Srl
shift_of Srai = Sra

abbrev pub word_shift_of : ShiftOperation → Operation
word_shift_of Slli = Sllw
word_shift_of Srli = Srlw
word_shift_of Srai = Sraw

unfoldable pub is_taken : Condition → (a b : ℕ) → Bool
is_taken Beq a b = a == b
is_taken Bne a b = not (a == b)
is_taken Blt a b = signed_less a b
is_taken Bge a b = not (signed_less a b)
is_taken Bltu a b = nat_lt a b
is_taken Bgeu a b = not (nat_lt a b)
