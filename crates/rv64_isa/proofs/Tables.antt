-- The tables from funct3 and funct7 to the kinds of instructions undo those from kinds to numbers.
use Rattle.std.proofs.Common.{◌≡◌, ℕ, IfSome, arith}
use Rattle.rv64_isa.specs.Formats.{condition_at, condition_funct3, load_at, load_funct3, store_at, store_funct3, immediate_operation_at, immediate_opcode}
use Rattle.rv64_isa.specs.Formats.{immediate_funct3, shift_at, shift_funct3, shift_upper, operation_at, word_operation_at, op_opcode, op_funct3, op_funct7}

pub condition_at-some : (f : ℕ) → IfSome (condition_at f) (λ c. condition_funct3 c ≡ f)
condition_at-some f = grind arith

pub load_at-some : (f : ℕ) → IfSome (load_at f) (λ k. load_funct3 k ≡ f)
load_at-some f = grind arith

pub store_at-some : (f : ℕ) → IfSome (store_at f) (λ k. store_funct3 k ≡ f)
store_at-some f = grind arith

pub immediate_operation_at-some : (f : ℕ) → IfSome (immediate_operation_at f) (λ o. (immediate_opcode o ≡ 0b0010011) × (immediate_funct3 o ≡ f))
immediate_operation_at-some f = grind arith

pub shift_at-some : (f upper : ℕ) → IfSome (shift_at f upper) (λ o. (shift_funct3 o ≡ f) × (shift_upper o ≡ upper))
shift_at-some f upper = grind arith

pub operation_at-some : (f upper : ℕ) → IfSome (operation_at f upper) (λ o. (op_opcode o ≡ 0b0110011) × (op_funct3 o ≡ f) × (op_funct7 o ≡ upper))
operation_at-some f upper = grind arith

pub word_operation_at-some : (f upper : ℕ) → IfSome (word_operation_at f upper) (λ o. (op_opcode o ≡ 0b0111011) × (op_funct3 o ≡ f) × (op_funct7 o ≡ upper))
word_operation_at-some f upper = grind arith
