-- What the listing's definitions compute.
use Rattle.std.specs.Prelude.{◌≡◌, ℕ, ◌-◌, ◌^◌, List, [], ◌∷◌, ◌++◌, refl, codes}
use Rattle.std.specs.Fmt.{digits}
use Rattle.rv64_isa.specs.Formats.{decoded}
use Rattle.rv64_isa.specs.declared.instr.Instr.TheVariants.{Lui, Jal, Jalr, Branch, Store, OpImmediate, ShiftImmediateWord, CboClean}
use Rattle.rv64_isa.specs.declared.instr.ImmediateOperation.TheVariants.{Addi}
use Rattle.rv64_isa.specs.declared.instr.ShiftOperation.TheVariants.{Srai}
use Rattle.rv64_isa.specs.declared.instr.Condition.TheVariants.{Beq}
use Rattle.rv64_isa.specs.declared.instr.StoreKind.TheVariants.{Sd}
use Rattle.object_listing.specs.Instructions.{hex_word, of_three, of_base, of_upper, of_jump, of_clean, instruction_text}
use Rattle.object_listing.specs.ObjectListing.{word_line, thread_line, listing}

negative_immediate : instruction_text 0 (OpImmediate Addi 1 0 (2 ^ 12 - 1)) ≡ codes "addi x1, x0, -1"
unfolding of_three digits
negative_immediate = refl

upper_without_zeros : instruction_text 0 (Lui 5 0x0A000) ≡ codes "lui x5, 0xa000"
unfolding of_upper digits
upper_without_zeros = refl

upper_of_zero : instruction_text 0 (Lui 0 0) ≡ codes "lui x0, 0x0"
unfolding of_upper digits
upper_of_zero = refl

store_by_its_base : instruction_text 0 (Store Sd 29 28 0) ≡ codes "sd x29, 0(x28)"
unfolding of_base digits
store_by_its_base = refl

jump_register : instruction_text 0 (Jalr 0 1 (2 ^ 12 - 8)) ≡ codes "jalr x0, -8(x1)"
unfolding of_base digits
jump_register = refl

branch_back : instruction_text 0x0001_0008 (Branch Beq 5 0 (2 ^ 13 - 8)) ≡ codes "beq x5, x0, 00010000"
unfolding of_three hex_word digits
branch_back = refl

-- targets wrap
jump_below_zero : instruction_text 4 (Jal 0 (2 ^ 21 - 8)) ≡ codes "jal x0, fffffffc"
unfolding of_jump hex_word digits
jump_below_zero = refl

shift_of_a_word : instruction_text 0 (ShiftImmediateWord Srai 4 1 31) ≡ codes "sraiw x4, x1, 31"
unfolding of_three digits
shift_of_a_word = refl

clean : instruction_text 0 (CboClean 31) ≡ codes "cbo.clean (x31)"
unfolding of_clean digits
clean = refl

two_words : listing ((0x0010_0293 ∷ 0x0000_0073 ∷ []) ∷ []) ≡ codes "thread 0\n00010000 00100293 addi x5, x0, 1\n00010004 00000073 ecall\n"
unfolding word_line thread_line of_three hex_word digits decoded
two_words = refl

-- the second thread's code stands after the first's
two_threads : listing ((0x0330_000F ∷ []) ∷ (0x0000_006F ∷ []) ∷ [])
    ≡ codes "thread 0\n00010000 0330000f fence rw, rw\nthread 1\n00010004 0000006f jal x0, 00010004\n"
unfolding word_line thread_line of_jump hex_word digits decoded
two_threads = refl

-- the code of `i = i + 1` in a section where each write has a record: the local's word in the frame is read, the record has one lock and a write of eight bytes
-- to that word, the point is stored, and then the write; each is cleaned before a fence, but the write, whose clean is the last
logged_words : List ℕ
logged_words =
    0x2000_0E37 ∷ 0x200E_0E1B ∷ 0x2000_0FB7 ∷ 0x200F_B283 ∷ 0x0012_8E93 ∷ 0x4001_C193 ∷ 0x2000_0FB7 ∷ 0x003F_8F33 ∷ 0x0010_0393 ∷ 0x047F_3023
    ∷ 0x0000_0293 ∷ 0x065F_3023 ∷ 0x0080_0393 ∷ 0x047F_3C23 ∷ 0x05CF_3423 ∷ 0x05DF_3823 ∷ 0x040F_0393 ∷ 0x0013_A00F ∷ 0x0330_000F ∷ 0x0000_0F17
    ∷ 0x01CF_0F13 ∷ 0x00A1_D393 ∷ 0x007F_0F33 ∷ 0x01EF_B023 ∷ 0x001F_A00F ∷ 0x0330_000F ∷ 0x01DE_3023 ∷ 0x001E_200F ∷ []

logged_assignment : listing (logged_words ∷ [])
    ≡ codes "thread 0\n"
    ++ codes "00010000 20000e37 lui x28, 0x20000\n00010004 200e0e1b addiw x28, x28, 512\n00010008 20000fb7 lui x31, 0x20000\n"
    ++ codes "0001000c 200fb283 ld x5, 512(x31)\n00010010 00128e93 addi x29, x5, 1\n00010014 4001c193 xori x3, x3, 1024\n"
    ++ codes "00010018 20000fb7 lui x31, 0x20000\n0001001c 003f8f33 add x30, x31, x3\n00010020 00100393 addi x7, x0, 1\n"
    ++ codes "00010024 047f3023 sd x7, 64(x30)\n00010028 00000293 addi x5, x0, 0\n0001002c 065f3023 sd x5, 96(x30)\n"
    ++ codes "00010030 00800393 addi x7, x0, 8\n00010034 047f3c23 sd x7, 88(x30)\n00010038 05cf3423 sd x28, 72(x30)\n"
    ++ codes "0001003c 05df3823 sd x29, 80(x30)\n00010040 040f0393 addi x7, x30, 64\n00010044 0013a00f cbo.clean (x7)\n"
    ++ codes "00010048 0330000f fence rw, rw\n0001004c 00000f17 auipc x30, 0x0\n00010050 01cf0f13 addi x30, x30, 28\n"
    ++ codes "00010054 00a1d393 srli x7, x3, 10\n00010058 007f0f33 add x30, x30, x7\n0001005c 01efb023 sd x30, 0(x31)\n"
    ++ codes "00010060 001fa00f cbo.clean (x31)\n00010064 0330000f fence rw, rw\n00010068 01de3023 sd x29, 0(x28)\n"
    ++ codes "0001006c 001e200f cbo.clean (x28)\n"
unfolding logged_words word_line thread_line of_three of_base of_upper of_clean hex_word digits decoded
logged_assignment = refl
