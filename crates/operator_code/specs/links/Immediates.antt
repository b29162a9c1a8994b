-- Operations with a constant in place of their second register.
use Rattle.std.specs.Prelude.{ℕ, ◌-◌, ◌%◌, ◌^◌, ◌<◌, List, [], ◌∷◌, Bool, true, false}
use Rattle.rv64_isa.specs.declared.instr.Operation.{Operation}
use Rattle.rv64_isa.specs.declared.instr.Operation.TheVariants.{Add, Addw, Sub, Subw, And, Or, Xor, Sll, Srl, Sra, Sllw, Srlw, Sraw}
use Rattle.rv64_isa.specs.Rows.{read}
use Rattle.rv64_isa.specs.Arithmetic.{result_of}
use Rattle.operator_code.specs.declared.immediates.ImmediateForm.{ImmediateForm}
use Rattle.operator_code.specs.ComputingCode.{Computes}
use Rattle.operator_code.specs.Constants.{instruction_in, is_immediate}

-- rd gets what the operation gives for rs and the constant
pub record HasForm (operation : Operation) (constant : ℕ) (form : ImmediateForm) : Type 0 where
  pub computes : (x : List ℕ) (rd rs : ℕ) → 0 < rd → Computes (instruction_in form rd rs ∷ []) x rd (result_of operation (read x rs) constant)

-- the operation's constant is held by an immediate
abbrev pub takes : Operation → (constant : ℕ) → Bool
takes Add n = is_immediate n
takes Addw n = is_immediate n
takes Sub n = is_immediate ((2 ^ 64 - n) % 2 ^ 64)
takes Subw n = is_immediate ((2 ^ 64 - n) % 2 ^ 64)
takes And n = is_immediate n
takes Or n = is_immediate n
takes Xor n = is_immediate n
takes Sll n = true
takes Srl n = true
takes Sra n = true
takes Sllw n = true
takes Srlw n = true
takes Sraw n = true
takes operation n = false
