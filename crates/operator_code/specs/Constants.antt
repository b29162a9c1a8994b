-- Operators whose second operand is a constant, in one instruction.
use Rattle.std.specs.Prelude.{◌-◌, ◌%◌, ◌<◌, ◌^◌, ℕ, List, [], ◌∷◌, ℤ, Bool, true, false, nat_lt, ◌||◌}
use Rattle.ido_ints.specs.declared.operators.Binary.{Binary}
use Rattle.ido_ints.specs.declared.operators.Binary.TheVariants.{Add, Sub, And, Xor, Or, ShiftLeft, ShiftRight}
use Rattle.ido_ints.specs.TypedNumbers.{register_form_of}
use Rattle.rv64_isa.specs.declared.instr.Instr.{Instr}
use Rattle.rv64_isa.specs.declared.instr.Instr.TheVariants.{OpImmediate, ShiftImmediate, ShiftImmediateWord}
use Rattle.rv64_isa.specs.Rows.{read}
use Rattle.operator_code.specs.declared.operation.BinaryOperation.{BinaryOperation}
use Rattle.operator_code.specs.declared.immediates.ImmediateForm.{ImmediateForm}
use Rattle.operator_code.specs.declared.immediates.ImmediateForm.TheVariants.{Number, Shift, ShiftWord}
use Rattle.operator_code.specs.ComputingCode.{AreRegisters, Computes, AreOperands, given_by}

-- the instruction with these registers
abbrev pub instruction_in : ImmediateForm → (rd rs : ℕ) → Instr
instruction_in (Number operation bits) rd rs = OpImmediate operation rd rs bits
instruction_in (Shift operation count) rd rs = ShiftImmediate operation rd rs count
instruction_in (ShiftWord operation count) rd rs = ShiftImmediateWord operation rd rs count

-- rd gets what the operator gives for the operand in rs and the constant, which is in its register form
pub record IsWithConstant (o : BinaryOperation) (constant : ℕ) (form : ImmediateForm) : Type 0 where
  pub computes : (x : List ℕ) (rd rs : ℕ) → 0 < rd → AreRegisters x → (a b : ℤ) → AreOperands o a b (read x rs) constant →
      Computes (instruction_in form rd rs ∷ []) x rd (register_form_of (given_by o a b))

-- one of the numbers that 12 bits stand for: from -2^11 to 2^11 - 1, modulo 2^64
abbrev pub is_immediate : ℕ → Bool
is_immediate n = nat_lt n (2 ^ 11) || nat_lt (2 ^ 64 - 1 - n) (2 ^ 11)

-- where there is an instruction with the constant; a difference is the sum with its negative, and a shift takes every count
abbrev pub has_immediate : Binary → (constant : ℕ) → Bool
has_immediate Add n = is_immediate n
has_immediate Sub n = is_immediate ((2 ^ 64 - n) % 2 ^ 64)
has_immediate And n = is_immediate n
has_immediate Xor n = is_immediate n
has_immediate Or n = is_immediate n
has_immediate ShiftLeft n = true
has_immediate ShiftRight n = true
has_immediate operator n = false
