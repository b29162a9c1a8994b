-- Worked rows of the definitions.
use Rattle.std.proofs.Common.{◌≡◌, ◌-◌, ◌^◌, List, [], ◌∷◌, ◌++◌, refl, Some, None, replicate}
use Rattle.rv64_isa.specs.declared.instr.Instr.TheVariants.{Lui, Jal, Branch, Store, OpImmediate, ShiftImmediate, Op, CboClean, Fence}
use Rattle.rv64_isa.specs.declared.instr.Operation.TheVariants.{Mul, Mulh, Mulhu, Mulhsu, Divw, Remw}
use Rattle.rv64_isa.specs.declared.instr.Condition.TheVariants.{Beq}
use Rattle.rv64_isa.specs.declared.instr.ImmediateOperation.TheVariants.{Addi}
use Rattle.rv64_isa.specs.declared.instr.ShiftOperation.TheVariants.{Srai}
use Rattle.rv64_isa.specs.declared.instr.StoreKind.TheVariants.{Sd}
use Rattle.rv64_isa.specs.declared.object.Slot.{Slot}
use Rattle.rv64_isa.specs.declared.object.Slot.TheVariants.{Row}
use Rattle.rv64_isa.specs.Formats.{word_of, decoded}
use Rattle.rv64_isa.specs.Arithmetic.{result_of}
use Rattle.rv64_isa.specs.Rows.{row}

addi_word : word_of (OpImmediate Addi 5 0 1) ≡ 0x0010_0293
unfolding word_of
addi_word = refl

clean_word : word_of (CboClean 31) ≡ 0x001F_A00F
unfolding word_of
clean_word = refl

store_word : word_of (Store Sd 29 28 0) ≡ 0x01DE_3023
unfolding word_of
store_word = refl

mul_word : word_of (Op Mul 5 6 7) ≡ 0x0273_02B3
unfolding word_of
mul_word = refl

-- beq x1, x2, -8 and jal x1, -2048
branch_word : word_of (Branch Beq 1 2 (2 ^ 13 - 8)) ≡ 0xFE20_8CE3
unfolding word_of
branch_word = refl

jump_word : word_of (Jal 1 (2 ^ 21 - 2048)) ≡ 0x801F_F0EF
unfolding word_of
jump_word = refl

decoded_branch : decoded 0xFE20_8CE3 ≡ Some (Branch Beq 1 2 (2 ^ 13 - 8))
unfolding decoded
decoded_branch = refl

decoded_jump : decoded 0x801F_F0EF ≡ Some (Jal 1 (2 ^ 21 - 2048))
unfolding decoded
decoded_jump = refl

decoded_srai : decoded (word_of (ShiftImmediate Srai 9 10 63)) ≡ Some (ShiftImmediate Srai 9 10 63)
unfolding word_of decoded
decoded_srai = refl

decoded_fence : decoded 0x0330_000F ≡ Some Fence
unfolding decoded
decoded_fence = refl

no_break : decoded 0x0010_0073 ≡ None
unfolding decoded
no_break = refl

mulhsu_ones : result_of Mulhsu (2 ^ 64 - 1) (2 ^ 64 - 1) ≡ 2 ^ 64 - 1
unfolding result_of
mulhsu_ones = refl

mulhu_ones : result_of Mulhu (2 ^ 64 - 1) (2 ^ 64 - 1) ≡ 2 ^ 64 - 2
unfolding result_of
mulhu_ones = refl

mulh_ones : result_of Mulh (2 ^ 64 - 1) (2 ^ 64 - 1) ≡ 0
unfolding result_of
mulh_ones = refl

divw_by_zero : result_of Divw 7 0 ≡ 2 ^ 64 - 1
unfolding result_of
divw_by_zero = refl

remw_by_zero : result_of Remw 7 0 ≡ 7
unfolding result_of
remw_by_zero = refl
