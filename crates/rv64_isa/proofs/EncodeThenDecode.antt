-- An instruction's word is read back as it.
use Rattle.std.proofs.Common.{◌≡◌, ℕ, ◌+◌, ◌*◌, ◌/◌, ◌%◌, ◌^◌, ◌<◌, Some, refl, ap, ◌∙◌, arith}
use Rattle.rv64_isa.specs.declared.instr.Instr.{Instr}
use Rattle.rv64_isa.specs.declared.instr.Instr.TheVariants.{Lui, Auipc, Jal, Jalr, Branch, Load, Store, OpImmediate}
use Rattle.rv64_isa.specs.declared.instr.Instr.TheVariants.{ShiftImmediate, ShiftImmediateWord, Op, CboClean, Fence, Ecall}
use Rattle.rv64_isa.specs.declared.instr.Condition.{Condition}
use Rattle.rv64_isa.specs.declared.instr.Condition.TheVariants.{Beq, Bne, Blt, Bge, Bltu, Bgeu}
use Rattle.rv64_isa.specs.declared.instr.LoadKind.{LoadKind}
use Rattle.rv64_isa.specs.declared.instr.LoadKind.TheVariants.{Lb, Lh, Lw, Ld, Lbu, Lhu, Lwu}
use Rattle.rv64_isa.specs.declared.instr.StoreKind.{StoreKind}
use Rattle.rv64_isa.specs.declared.instr.StoreKind.TheVariants.{Sb, Sh, Sw, Sd}
use Rattle.rv64_isa.specs.declared.instr.ImmediateOperation.{ImmediateOperation}
use Rattle.rv64_isa.specs.declared.instr.ImmediateOperation.TheVariants.{Addi, Slti, Sltiu, Xori, Ori, Andi, Addiw}
use Rattle.rv64_isa.specs.declared.instr.ShiftOperation.{ShiftOperation}
use Rattle.rv64_isa.specs.declared.instr.ShiftOperation.TheVariants.{Slli, Srli, Srai}
use Rattle.rv64_isa.specs.declared.instr.Operation.{Operation}
use Rattle.rv64_isa.specs.declared.instr.Operation.TheVariants.{Add, Sub, Sll, Slt, Sltu, Xor, Srl, Sra, Or, And, Mul, Mulh, Mulhsu, Mulhu, Div}
use Rattle.rv64_isa.specs.declared.instr.Operation.TheVariants.{Divu, Rem, Remu, Addw, Subw, Sllw, Srlw, Sraw, Mulw, Divw, Divuw, Remw, Remuw}
use Rattle.rv64_isa.specs.Formats.{IsInstruction, word_of, decoded, decoded_fields, bits_of, format_r, condition_funct3}
use Rattle.rv64_isa.specs.Formats.{load_funct3, store_funct3, immediate_opcode, immediate_funct3, immediate_of, store_immediate_of}
use Rattle.rv64_isa.specs.Formats.{branch_offset_of, jump_offset_of, upper_immediate_of, op_opcode, op_funct3, op_funct7}
use Rattle.rv64_isa.proofs.Digits.{AreFields, format_r-opcode, format_r-rd, format_r-funct3, format_r-rs1, format_r-rs2, format_r-funct7}

-- equal arguments of a function of six give equal results
same_six : {A : Type 0} (g : ℕ → ℕ → ℕ → ℕ → ℕ → ℕ → A) (o d f a b s o' d' f' a' b' s' : ℕ) → o ≡ o' → d ≡ d' → f ≡ f' → a ≡ a' → b ≡ b' → s ≡ s' →
    g o d f a b s ≡ g o' d' f' a' b' s'
same_six g o d f a b s o' d' f' a' b' s' p q r t u v = cc

decoded-format : (o d f a b s : ℕ) → AreFields o d f a b s → decoded (format_r o f s d a b) ≡ decoded_fields o d f a b s
unfolding decoded
decoded-format o d f a b s h =
    same_six (λ o d f a b s. decoded_fields o d f a b s) _ _ _ _ _ _ o d f a b s (format_r-opcode o d f a b s h) (format_r-rd o d f a b s h)
    (format_r-funct3 o d f a b s h) (format_r-rs1 o d f a b s h) (format_r-rs2 o d f a b s h) (format_r-funct7 o d f a b s h)

-- the word has these fields, which are read as this instruction
read : (w o d f a b s : ℕ) (i : Instr) → AreFields o d f a b s → w ≡ format_r o f s d a b → decoded_fields o d f a b s ≡ Some i → decoded w ≡ Some i
read w o d f a b s i h e r = ap decoded e ∙ decoded-format o d f a b s h ∙ r

-- ---- What the fields of each instruction are read as

condition_fields : (c : Condition) (d a b s : ℕ) → decoded_fields 0b1100011 d (condition_funct3 c) a b s ≡ Some (Branch c a b (branch_offset_of d s))
condition_fields Beq d a b s = refl
condition_fields Bne d a b s = refl
condition_fields Blt d a b s = refl
condition_fields Bge d a b s = refl
condition_fields Bltu d a b s = refl
condition_fields Bgeu d a b s = refl

load_fields : (k : LoadKind) (d a b s : ℕ) → decoded_fields 0b0000011 d (load_funct3 k) a b s ≡ Some (Load k d a (immediate_of b s))
load_fields Lb d a b s = refl
load_fields Lh d a b s = refl
load_fields Lw d a b s = refl
load_fields Ld d a b s = refl
load_fields Lbu d a b s = refl
load_fields Lhu d a b s = refl
load_fields Lwu d a b s = refl

store_fields : (k : StoreKind) (d a b s : ℕ) → decoded_fields 0b0100011 d (store_funct3 k) a b s ≡ Some (Store k b a (store_immediate_of d s))
store_fields Sb d a b s = refl
store_fields Sh d a b s = refl
store_fields Sw d a b s = refl
store_fields Sd d a b s = refl

immediate_fields : (o : ImmediateOperation) (d a b s : ℕ) →
    decoded_fields (immediate_opcode o) d (immediate_funct3 o) a b s ≡ Some (OpImmediate o d a (immediate_of b s))
immediate_fields Addi d a b s = refl
immediate_fields Slti d a b s = refl
immediate_fields Sltiu d a b s = refl
immediate_fields Xori d a b s = refl
immediate_fields Ori d a b s = refl
immediate_fields Andi d a b s = refl
immediate_fields Addiw d a b s = refl

operation_fields : (o : Operation) (d a b : ℕ) → decoded_fields (op_opcode o) d (op_funct3 o) a b (op_funct7 o) ≡ Some (Op o d a b)
operation_fields Add d a b = refl
operation_fields Sub d a b = refl
operation_fields Sll d a b = refl
operation_fields Slt d a b = refl
operation_fields Sltu d a b = refl
operation_fields Xor d a b = refl
operation_fields Srl d a b = refl
operation_fields Sra d a b = refl
operation_fields Or d a b = refl
operation_fields And d a b = refl
operation_fields Mul d a b = refl
operation_fields Mulh d a b = refl
operation_fields Mulhsu d a b = refl
operation_fields Mulhu d a b = refl
operation_fields Div d a b = refl
operation_fields Divu d a b = refl
operation_fields Rem d a b = refl
operation_fields Remu d a b = refl
operation_fields Addw d a b = refl
operation_fields Subw d a b = refl
operation_fields Sllw d a b = refl
operation_fields Srlw d a b = refl
operation_fields Sraw d a b = refl
operation_fields Mulw d a b = refl
operation_fields Divw d a b = refl
operation_fields Divuw d a b = refl
operation_fields Remw d a b = refl
operation_fields Remuw d a b = refl

condition_funct3-below : (c : Condition) → condition_funct3 c < 2 ^ 3
condition_funct3-below c = grind arith

load_funct3-below : (k : LoadKind) → load_funct3 k < 2 ^ 3
load_funct3-below k = grind arith

store_funct3-below : (k : StoreKind) → store_funct3 k < 2 ^ 3
store_funct3-below k = grind arith

immediate_funct3-below : (o : ImmediateOperation) → (immediate_opcode o < 2 ^ 7) × (immediate_funct3 o < 2 ^ 3)
immediate_funct3-below o = grind arith

op_funct3-below : (o : Operation) → (op_opcode o < 2 ^ 7) × (op_funct3 o < 2 ^ 3) × (op_funct7 o < 2 ^ 7)
op_funct3-below o = grind arith

-- ---- The fields of each immediate make it up again

immediate_of-parts : (n : ℕ) → immediate_of (n % 2 ^ 5) (n / 2 ^ 5) ≡ n
immediate_of-parts n = omega arith

upper_immediate_of-parts : (n : ℕ) → upper_immediate_of (n % 2 ^ 3) (n / 2 ^ 3 % 2 ^ 5) (n / 2 ^ 8 % 2 ^ 5) (n / 2 ^ 13) ≡ n
upper_immediate_of-parts n = omega arith

branch_offset_of-parts : (n : ℕ) → n % 2 ≡ 0 → branch_offset_of (n / 2 ^ 11 % 2 + 2 * (n / 2 % 2 ^ 4)) (n / 2 ^ 5 % 2 ^ 6 + 2 ^ 6 * (n / 2 ^ 12)) ≡ n
branch_offset_of-parts n h = omega arith

jump_offset_of-parts : (n : ℕ) → n % 2 ≡ 0 →
    jump_offset_of (n / 2 ^ 12 % 2 ^ 3) (n / 2 ^ 15 % 2 ^ 5) (n / 2 ^ 11 % 2 + 2 * (n / 2 % 2 ^ 4)) (n / 2 ^ 5 % 2 ^ 6 + 2 ^ 6 * (n / 2 ^ 20)) ≡ n
jump_offset_of-parts n h = omega arith

count-parts : (n : ℕ) → n % 2 ^ 5 + 2 ^ 5 * (n / 2 ^ 5) ≡ n
count-parts n = omega arith

fits : (o d f a b s : ℕ) → o < 2 ^ 7 → d < 2 ^ 5 → f < 2 ^ 3 → a < 2 ^ 5 → b < 2 ^ 5 → s < 2 ^ 7 → AreFields o d f a b s
fits o d f a b s p q r t u v = record { opcode_fits = p; rd_fits = q; funct3_fits = r; rs1_fits = t; rs2_fits = u; funct7_fits = v }

-- ---- The six fields of each word, and its instruction

lui_read : (d n : ℕ) → d < 32 → n < 2 ^ 20 → decoded (word_of (Lui d n)) ≡ Some (Lui d n)
unfolding word_of
lui_read d n h k =
    read _ 0b0110111 d (n % 2 ^ 3) (n / 2 ^ 3 % 2 ^ 5) (n / 2 ^ 8 % 2 ^ 5) (n / 2 ^ 13) _
    (fits _ _ _ _ _ _ (omega arith) h (omega arith) (omega arith) (omega arith) (omega arith)) (omega arith)
    (ap (λ m. Some (Lui d m)) (upper_immediate_of-parts n))

auipc_read : (d n : ℕ) → d < 32 → n < 2 ^ 20 → decoded (word_of (Auipc d n)) ≡ Some (Auipc d n)
unfolding word_of
auipc_read d n h k =
    read _ 0b0010111 d (n % 2 ^ 3) (n / 2 ^ 3 % 2 ^ 5) (n / 2 ^ 8 % 2 ^ 5) (n / 2 ^ 13) _
    (fits _ _ _ _ _ _ (omega arith) h (omega arith) (omega arith) (omega arith) (omega arith)) (omega arith)
    (ap (λ m. Some (Auipc d m)) (upper_immediate_of-parts n))

jal_read : (d n : ℕ) → d < 32 → n < 2 ^ 21 → n % 2 ≡ 0 → decoded (word_of (Jal d n)) ≡ Some (Jal d n)
unfolding word_of
jal_read d n h k e =
    read _ 0b1101111 d (n / 2 ^ 12 % 2 ^ 3) (n / 2 ^ 15 % 2 ^ 5) (n / 2 ^ 11 % 2 + 2 * (n / 2 % 2 ^ 4)) (n / 2 ^ 5 % 2 ^ 6 + 2 ^ 6 * (n / 2 ^ 20)) _
    (fits _ _ _ _ _ _ (omega arith) h (omega arith) (omega arith) (omega arith) (omega arith)) (omega arith)
    (ap (λ m. Some (Jal d m)) (jump_offset_of-parts n e))

jalr_read : (d a n : ℕ) → d < 32 → a < 32 → n < 2 ^ 12 → decoded (word_of (Jalr d a n)) ≡ Some (Jalr d a n)
unfolding word_of
jalr_read d a n h k l =
    read _ 0b1100111 d 0b000 a (n % 2 ^ 5) (n / 2 ^ 5) _ (fits _ _ _ _ _ _ (omega arith) h (omega arith) k (omega arith) (omega arith)) (omega arith)
    (ap (λ m. Some (Jalr d a m)) (immediate_of-parts n))

branch_read : (c : Condition) (a b n : ℕ) → a < 32 → b < 32 → n < 2 ^ 13 → n % 2 ≡ 0 → decoded (word_of (Branch c a b n)) ≡ Some (Branch c a b n)
unfolding word_of
branch_read c a b n h k l e =
    read _ 0b1100011 (n / 2 ^ 11 % 2 + 2 * (n / 2 % 2 ^ 4)) (condition_funct3 c) a b (n / 2 ^ 5 % 2 ^ 6 + 2 ^ 6 * (n / 2 ^ 12)) _
    (fits _ _ _ _ _ _ (omega arith) (omega arith) (condition_funct3-below c) h k (omega arith)) (omega arith)
    (condition_fields c _ a b _ ∙ ap (λ m. Some (Branch c a b m)) (branch_offset_of-parts n e))

load_read : (k : LoadKind) (d a n : ℕ) → d < 32 → a < 32 → n < 2 ^ 12 → decoded (word_of (Load k d a n)) ≡ Some (Load k d a n)
unfolding word_of
load_read k d a n h l m =
    read _ 0b0000011 d (load_funct3 k) a (n % 2 ^ 5) (n / 2 ^ 5) _ (fits _ _ _ _ _ _ (omega arith) h (load_funct3-below k) l (omega arith) (omega arith))
    (omega arith) (load_fields k d a _ _ ∙ ap (λ m. Some (Load k d a m)) (immediate_of-parts n))

store_read : (k : StoreKind) (b a n : ℕ) → b < 32 → a < 32 → n < 2 ^ 12 → decoded (word_of (Store k b a n)) ≡ Some (Store k b a n)
unfolding word_of
store_read k b a n h l m =
    read _ 0b0100011 (n % 2 ^ 5) (store_funct3 k) a b (n / 2 ^ 5) _ (fits _ _ _ _ _ _ (omega arith) (omega arith) (store_funct3-below k) l h (omega arith))
    (omega arith) (store_fields k _ a b _ ∙ ap (λ m. Some (Store k b a m)) (immediate_of-parts n))

immediate_read : (o : ImmediateOperation) (d a n : ℕ) → d < 32 → a < 32 → n < 2 ^ 12 → decoded (word_of (OpImmediate o d a n)) ≡ Some (OpImmediate o d a n)
unfolding word_of
immediate_read o d a n h l m =
    read _ (immediate_opcode o) d (immediate_funct3 o) a (n % 2 ^ 5) (n / 2 ^ 5) _
    (fits _ _ _ _ _ _ ((immediate_funct3-below o).0) h ((immediate_funct3-below o).1) l (omega arith) (omega arith)) (omega arith)
    (immediate_fields o d a _ _ ∙ ap (λ m. Some (OpImmediate o d a m)) (immediate_of-parts n))

shift_read : (o : ShiftOperation) (d a n : ℕ) → d < 32 → a < 32 → n < 64 → decoded (word_of (ShiftImmediate o d a n)) ≡ Some (ShiftImmediate o d a n)
unfolding word_of
shift_read Slli d a n h l m = let high : n / 2 ^ 5 / 2 ≡ 0 = omega arith in let low : n / 2 ^ 5 % 2 ≡ n / 2 ^ 5 = omega arith in
    read _ 0b0010011 d 0b001 a (n % 2 ^ 5) (n / 2 ^ 5) _ (fits _ _ _ _ _ _ (omega arith) h (omega arith) l (omega arith) (omega arith)) (omega arith)
    (rw (high, low) (ap (λ m. Some (ShiftImmediate Slli d a m)) (count-parts n)))
shift_read Srli d a n h l m = let high : n / 2 ^ 5 / 2 ≡ 0 = omega arith in let low : n / 2 ^ 5 % 2 ≡ n / 2 ^ 5 = omega arith in
    read _ 0b0010011 d 0b101 a (n % 2 ^ 5) (n / 2 ^ 5) _ (fits _ _ _ _ _ _ (omega arith) h (omega arith) l (omega arith) (omega arith)) (omega arith)
    (rw (high, low) (ap (λ m. Some (ShiftImmediate Srli d a m)) (count-parts n)))
shift_read Srai d a n h l m = let high : (n / 2 ^ 5 + 2 ^ 5) / 2 ≡ 2 ^ 4 = omega arith in let low : (n / 2 ^ 5 + 2 ^ 5) % 2 ≡ n / 2 ^ 5 = omega arith in
    read _ 0b0010011 d 0b101 a (n % 2 ^ 5) (n / 2 ^ 5 + 2 ^ 5) _ (fits _ _ _ _ _ _ (omega arith) h (omega arith) l (omega arith) (omega arith)) (omega arith)
    (rw (high, low) (ap (λ m. Some (ShiftImmediate Srai d a m)) (count-parts n)))

shift_word_read : (o : ShiftOperation) (d a n : ℕ) → d < 32 → a < 32 → n < 32 →
    decoded (word_of (ShiftImmediateWord o d a n)) ≡ Some (ShiftImmediateWord o d a n)
unfolding word_of
shift_word_read Slli d a n h l m = read _ 0b0011011 d 0b001 a n 0 _ (fits _ _ _ _ _ _ (omega arith) h (omega arith) l m (omega arith)) (omega arith) refl
shift_word_read Srli d a n h l m = read _ 0b0011011 d 0b101 a n 0 _ (fits _ _ _ _ _ _ (omega arith) h (omega arith) l m (omega arith)) (omega arith) refl
shift_word_read Srai d a n h l m = read _ 0b0011011 d 0b101 a n (2 ^ 5) _ (fits _ _ _ _ _ _ (omega arith) h (omega arith) l m (omega arith)) (omega arith) refl

operation_read : (o : Operation) (d a b : ℕ) → d < 32 → a < 32 → b < 32 → decoded (word_of (Op o d a b)) ≡ Some (Op o d a b)
unfolding word_of
operation_read o d a b h k l =
    read _ (op_opcode o) d (op_funct3 o) a b (op_funct7 o) _ (fits _ _ _ _ _ _ ((op_funct3-below o).0) h ((op_funct3-below o).1) k l ((op_funct3-below o).2))
    refl (operation_fields o d a b)

clean_read : (a : ℕ) → a < 32 → decoded (word_of (CboClean a)) ≡ Some (CboClean a)
unfolding word_of
clean_read a h = read _ 0b0001111 0 0b010 a 1 0 _ (fits _ _ _ _ _ _ (omega arith) (omega arith) (omega arith) h (omega arith) (omega arith)) (omega arith) refl

pub decoded-word_of : (i : Instr) → IsInstruction i → decoded (word_of i) ≡ Some i
unfolding word_of decoded
decoded-word_of (Lui d n) h = lui_read d n h.0 h.1
decoded-word_of (Auipc d n) h = auipc_read d n h.0 h.1
decoded-word_of (Jal d n) h = jal_read d n h.0 h.1.0 h.1.1
decoded-word_of (Jalr d a n) h = jalr_read d a n h.0 h.1 h.2
decoded-word_of (Branch c a b n) h = branch_read c a b n h.0 h.1 h.2.0 h.2.1
decoded-word_of (Load k d a n) h = load_read k d a n h.0 h.1 h.2
decoded-word_of (Store k b a n) h = store_read k b a n h.0 h.1 h.2
decoded-word_of (OpImmediate o d a n) h = immediate_read o d a n h.0 h.1 h.2
decoded-word_of (ShiftImmediate o d a n) h = shift_read o d a n h.0 h.1 h.2
decoded-word_of (ShiftImmediateWord o d a n) h = shift_word_read o d a n h.0 h.1 h.2
decoded-word_of (Op o d a b) h = operation_read o d a b h.0 h.1 h.2
decoded-word_of (CboClean a) h = clean_read a h
decoded-word_of Fence h = refl
decoded-word_of Ecall h = refl

-- what the fields of a word are read as is what the word is read as
pub decoded_at : (w o d f a b s : ℕ) → o ≡ bits_of w 0 7 → d ≡ bits_of w 7 5 → f ≡ bits_of w 12 3 → a ≡ bits_of w 15 5 → b ≡ bits_of w 20 5 →
    s ≡ bits_of w 25 7 → decoded_fields o d f a b s ≡ decoded w
unfolding decoded
decoded_at w o d f a b s p q r t u v = same_six (λ o d f a b s. decoded_fields o d f a b s) o d f a b s _ _ _ _ _ _ p q r t u v
