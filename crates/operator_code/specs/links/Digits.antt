-- Constants as they are built: a register gets some number whose low bits are those that are wanted.
use Rattle.std.specs.Prelude.{◌≡◌, ℕ, ◌%◌, ◌^◌, ◌<◌, List}
use Rattle.rv64_isa.specs.declared.instr.Instr.{Instr}
use Rattle.operator_code.specs.StraightLineCode.{IsConstant}

pub record IsConstantOfBits (register bits number : ℕ) (code : List Instr) : Type 0 where
  pub value : ℕ
  pub small : value < 2 ^ 64
  pub low_bits : value % 2 ^ bits ≡ number
  pub constant : IsConstant register value code
