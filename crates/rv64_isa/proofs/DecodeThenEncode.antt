-- The instruction that is read from a word has that word.
use Rattle.std.proofs.Common.{◌≡◌, ℕ, ◌+◌, ◌*◌, ◌/◌, ◌%◌, ◌^◌, ◌<◌, ◌==◌, true, false, if◌then◌else◌}
use Rattle.std.proofs.Common.{Option, Some, None, IfSome, refl, sym, ◌∙◌, arith, eqb-true}
use Rattle.std.specs.Option.{option_map}
use Rattle.std.proofs.lemmas.Option.{IfSome_then}
use Rattle.rv64_isa.specs.declared.instr.Instr.{Instr}
use Rattle.rv64_isa.specs.declared.instr.Instr.TheVariants.{Lui, Auipc, Jal, Jalr, Branch, Load, Store, OpImmediate}
use Rattle.rv64_isa.specs.declared.instr.Instr.TheVariants.{ShiftImmediate, ShiftImmediateWord, Op, CboClean, Fence, Ecall}
use Rattle.rv64_isa.specs.declared.instr.Condition.{Condition}
use Rattle.rv64_isa.specs.declared.instr.LoadKind.{LoadKind}
use Rattle.rv64_isa.specs.declared.instr.StoreKind.{StoreKind}
use Rattle.rv64_isa.specs.declared.instr.ImmediateOperation.{ImmediateOperation}
use Rattle.rv64_isa.specs.declared.instr.ImmediateOperation.TheVariants.{Addiw}
use Rattle.rv64_isa.specs.declared.instr.ShiftOperation.{ShiftOperation}
use Rattle.rv64_isa.specs.declared.instr.Operation.{Operation}
use Rattle.rv64_isa.specs.Formats.{IsInstruction, word_of, decoded, decoded_fields, format_r, condition_at, condition_funct3, load_at, load_funct3}
use Rattle.rv64_isa.specs.Formats.{store_at, store_funct3, immediate_operation_at, immediate_opcode, immediate_funct3, shift_at, shift_funct3}
use Rattle.rv64_isa.specs.Formats.{shift_upper, operation_at, word_operation_at, op_opcode, op_funct3, op_funct7, immediate_of, store_immediate_of}
use Rattle.rv64_isa.specs.Formats.{branch_offset_of, jump_offset_of, upper_immediate_of, immediate_at, immediate_word_at, memory_at, system_at}
use Rattle.rv64_isa.proofs.Digits.{AreFields, are_fields-bits, format_r-bits}
use Rattle.rv64_isa.proofs.Tables.{condition_at-some, load_at-some, store_at-some, immediate_operation_at-some}
use Rattle.rv64_isa.proofs.Tables.{shift_at-some, operation_at-some, word_operation_at-some}

-- i is an instruction, and its word has these six fields
record HasFields (o d f a b s : ℕ) (i : Instr) : Type 0 where
  pub word : word_of i ≡ format_r o f s d a b
  pub instruction : IsInstruction i

-- ---- A choice has what each side has

IfSome-if : {A : Type 0} (P : A → Type 0) (m n : ℕ) (x y : Option A) → (m ≡ n → IfSome x P) → IfSome y P → IfSome (if m == n then x else y) P
IfSome-if P m n x y h k = elim (m == n) as (λ t. (m == n) ≡ t → IfSome (if t then x else y) P) [
  | true ↦ λ e. h (eqb-true m n e)
  | false ↦ λ e. k
] refl

IfSome-option_map : {A B : Type 0} (g : A → B) (Q : A → Type 0) (P : B → Type 0) (x : Option A) → IfSome x Q → ((v : A) → Q v → P (g v)) →
    IfSome (option_map g x) P
IfSome-option_map g Q P None h k = tt
IfSome-option_map g Q P (Some v) h k = k v h

-- ---- What is read from the fields of each opcode

lui_fields : (o d f a b s : ℕ) → AreFields o d f a b s → o ≡ 0b0110111 → HasFields o d f a b s (Lui d (upper_immediate_of f a b s))
unfolding word_of
lui_fields o d f a b s h e = record { word = omega arith; instruction = (h.rd_fits, omega arith) }

auipc_fields : (o d f a b s : ℕ) → AreFields o d f a b s → o ≡ 0b0010111 → HasFields o d f a b s (Auipc d (upper_immediate_of f a b s))
unfolding word_of
auipc_fields o d f a b s h e = record { word = omega arith; instruction = (h.rd_fits, omega arith) }

jal_fields : (o d f a b s : ℕ) → AreFields o d f a b s → o ≡ 0b1101111 → HasFields o d f a b s (Jal d (jump_offset_of f a b s))
unfolding word_of
jal_fields o d f a b s h e = record { word = omega arith; instruction = (h.rd_fits, (omega arith, omega arith)) }

jalr_fields : (o d f a b s : ℕ) → AreFields o d f a b s → o ≡ 0b1100111 → f ≡ 0b000 → HasFields o d f a b s (Jalr d a (immediate_of b s))
unfolding word_of
jalr_fields o d f a b s h e k = record { word = omega arith; instruction = (h.rd_fits, h.rs1_fits, omega arith) }

branch_fields : (o d f a b s : ℕ) → AreFields o d f a b s → o ≡ 0b1100011 → (c : Condition) → condition_funct3 c ≡ f →
    HasFields o d f a b s (Branch c a b (branch_offset_of d s))
unfolding word_of
branch_fields o d f a b s h e c k = record { word = omega arith; instruction = (h.rs1_fits, h.rs2_fits, (omega arith, omega arith)) }

load_fields : (o d f a b s : ℕ) → AreFields o d f a b s → o ≡ 0b0000011 → (c : LoadKind) → load_funct3 c ≡ f →
    HasFields o d f a b s (Load c d a (immediate_of b s))
unfolding word_of
load_fields o d f a b s h e c k = record { word = omega arith; instruction = (h.rd_fits, h.rs1_fits, omega arith) }

store_fields : (o d f a b s : ℕ) → AreFields o d f a b s → o ≡ 0b0100011 → (c : StoreKind) → store_funct3 c ≡ f →
    HasFields o d f a b s (Store c b a (store_immediate_of d s))
unfolding word_of
store_fields o d f a b s h e c k = record { word = omega arith; instruction = (h.rs2_fits, h.rs1_fits, omega arith) }

immediate_fields : (o d f a b s : ℕ) → AreFields o d f a b s → (c : ImmediateOperation) → immediate_opcode c ≡ o → immediate_funct3 c ≡ f →
    HasFields o d f a b s (OpImmediate c d a (immediate_of b s))
unfolding word_of
immediate_fields o d f a b s h c e k = record { word = omega arith; instruction = (h.rd_fits, h.rs1_fits, omega arith) }

shift_fields : (o d f a b s : ℕ) → AreFields o d f a b s → o ≡ 0b0010011 → (c : ShiftOperation) → shift_funct3 c ≡ f → shift_upper c ≡ 2 ^ 6 * (s / 2) →
    HasFields o d f a b s (ShiftImmediate c d a (b + 2 ^ 5 * (s % 2)))
unfolding word_of
shift_fields o d f a b s h e c k l = record { word = omega arith; instruction = (h.rd_fits, h.rs1_fits, omega arith) }

shift_word_fields : (o d f a b s : ℕ) → AreFields o d f a b s → o ≡ 0b0011011 → (c : ShiftOperation) → shift_funct3 c ≡ f → shift_upper c ≡ 2 ^ 5 * s →
    HasFields o d f a b s (ShiftImmediateWord c d a b)
unfolding word_of
shift_word_fields o d f a b s h e c k l = record { word = omega arith; instruction = (h.rd_fits, h.rs1_fits, h.rs2_fits) }

operation_fields : (o d f a b s : ℕ) → AreFields o d f a b s → (c : Operation) → op_opcode c ≡ o → op_funct3 c ≡ f → op_funct7 c ≡ s →
    HasFields o d f a b s (Op c d a b)
unfolding word_of
operation_fields o d f a b s h c e k l = record { word = omega arith; instruction = (h.rd_fits, h.rs1_fits, h.rs2_fits) }

clean_fields : (o d f a b s : ℕ) → AreFields o d f a b s → o ≡ 0b0001111 → d ≡ 0 → f ≡ 0b010 → immediate_of b s ≡ 1 → HasFields o d f a b s (CboClean a)
unfolding word_of
clean_fields o d f a b s h e k l m = record { word = omega arith; instruction = h.rs1_fits }

fence_fields : (o d f a b s : ℕ) → AreFields o d f a b s → o ≡ 0b0001111 → d ≡ 0 → f ≡ 0b000 → a ≡ 0 → immediate_of b s ≡ 0x033 → HasFields o d f a b s Fence
unfolding word_of
fence_fields o d f a b s h e k l m n = record { word = omega arith; instruction = tt }

ecall_fields : (o d f a b s : ℕ) → AreFields o d f a b s → o ≡ 0b1110011 → d ≡ 0 → f ≡ 0b000 → a ≡ 0 → immediate_of b s ≡ 0 → HasFields o d f a b s Ecall
unfolding word_of
ecall_fields o d f a b s h e k l m n = record { word = omega arith; instruction = tt }

-- ---- What is found of the opcodes with several rows

memory_found : (o d f a b s : ℕ) → AreFields o d f a b s → o ≡ 0b0001111 → IfSome (memory_at d f a b s) (HasFields o d f a b s)
memory_found o d f a b s h e =
    let P : Instr → Type 0 = HasFields o d f a b s in
    IfSome-if P d 0 _ None (λ rd. IfSome-if P f 0b000 _ _
    (λ funct3. IfSome-if P a 0 _ None (λ rs1. IfSome-if P (immediate_of b s) 0x033 (Some Fence) None (λ n. fence_fields o d f a b s h e rd funct3 rs1 n) tt) tt)
    (IfSome-if P f 0b010 _ None (λ funct3. IfSome-if P (immediate_of b s) 1 (Some (CboClean a)) None (λ n. clean_fields o d f a b s h e rd funct3 n) tt) tt)) tt

system_found : (o d f a b s : ℕ) → AreFields o d f a b s → o ≡ 0b1110011 → IfSome (system_at d f a b s) (HasFields o d f a b s)
system_found o d f a b s h e =
    let P : Instr → Type 0 = HasFields o d f a b s in
    IfSome-if P d 0 _ None (λ rd. IfSome-if P f 0b000 _ None
    (λ funct3. IfSome-if P a 0 _ None (λ rs1. IfSome-if P (immediate_of b s) 0 (Some Ecall) None (λ n. ecall_fields o d f a b s h e rd funct3 rs1 n) tt) tt) tt)
    tt

shift_found : (o d f a b s : ℕ) → AreFields o d f a b s → o ≡ 0b0010011 →
    IfSome (option_map (λ c. ShiftImmediate c d a (b + 2 ^ 5 * (s % 2))) (shift_at f (2 ^ 6 * (s / 2)))) (HasFields o d f a b s)
shift_found o d f a b s h e =
    IfSome-option_map (λ c. ShiftImmediate c d a (b + 2 ^ 5 * (s % 2))) (λ c. (shift_funct3 c ≡ f) × (shift_upper c ≡ 2 ^ 6 * (s / 2))) (HasFields o d f a b s)
    (shift_at f (2 ^ 6 * (s / 2))) (shift_at-some f (2 ^ 6 * (s / 2))) (λ c k. shift_fields o d f a b s h e c k.0 k.1)

immediate_found : (o d f a b s : ℕ) → AreFields o d f a b s → o ≡ 0b0010011 → IfSome (immediate_at d f a b s) (HasFields o d f a b s)
immediate_found o d f a b s h e =
    let P : Instr → Type 0 = HasFields o d f a b s in
    elim (immediate_operation_at f) as (λ r. IfSome r (λ c. (immediate_opcode c ≡ 0b0010011) × (immediate_funct3 c ≡ f)) → IfSome (elim r [
      | Some c ↦ Some (OpImmediate c d a (immediate_of b s))
      | None ↦ option_map (λ c. ShiftImmediate c d a (b + 2 ^ 5 * (s % 2))) (shift_at f (2 ^ 6 * (s / 2)))
    ]) P) [
      | Some c ↦ λ k. immediate_fields o d f a b s h c (k.0 ∙ sym e) k.1
      | None ↦ λ k. shift_found o d f a b s h e
    ] (immediate_operation_at-some f)

immediate_word_found : (o d f a b s : ℕ) → AreFields o d f a b s → o ≡ 0b0011011 → IfSome (immediate_word_at d f a b s) (HasFields o d f a b s)
immediate_word_found o d f a b s h e = IfSome-if (HasFields o d f a b s) f 0b000 (Some (OpImmediate Addiw d a (immediate_of b s))) _
    (λ k. immediate_fields o d f a b s h Addiw (sym e) (sym k))
    (IfSome-option_map (λ c. ShiftImmediateWord c d a b) (λ c. (shift_funct3 c ≡ f) × (shift_upper c ≡ 2 ^ 5 * s)) (HasFields o d f a b s)
    (shift_at f (2 ^ 5 * s)) (shift_at-some f (2 ^ 5 * s)) (λ c k. shift_word_fields o d f a b s h e c k.0 k.1))

decoded_fields-found : (o d f a b s : ℕ) → AreFields o d f a b s → IfSome (decoded_fields o d f a b s) (HasFields o d f a b s)
decoded_fields-found o d f a b s h =
    let P : Instr → Type 0 = HasFields o d f a b s in
    IfSome-if P o 0b0110111 (Some (Lui d (upper_immediate_of f a b s))) _ (lui_fields o d f a b s h) (
    IfSome-if P o 0b0010111 (Some (Auipc d (upper_immediate_of f a b s))) _ (auipc_fields o d f a b s h) (
    IfSome-if P o 0b1101111 (Some (Jal d (jump_offset_of f a b s))) _ (jal_fields o d f a b s h) (
    IfSome-if P o 0b1100111 _ _ (λ e. IfSome-if P f 0b000 (Some (Jalr d a (immediate_of b s))) None (jalr_fields o d f a b s h e) tt) (
    IfSome-if P o 0b1100011 _ _ (λ e.
    IfSome-option_map (λ c. Branch c a b (branch_offset_of d s)) (λ c. condition_funct3 c ≡ f) P (condition_at f) (condition_at-some f)
    (branch_fields o d f a b s h e)) (
    IfSome-if P o 0b0000011 _ _ (λ e.
    IfSome-option_map (λ c. Load c d a (immediate_of b s)) (λ c. load_funct3 c ≡ f) P (load_at f) (load_at-some f) (load_fields o d f a b s h e)) (
    IfSome-if P o 0b0100011 _ _ (λ e.
    IfSome-option_map (λ c. Store c b a (store_immediate_of d s)) (λ c. store_funct3 c ≡ f) P (store_at f) (store_at-some f) (store_fields o d f a b s h e)) (
    IfSome-if P o 0b0010011 _ _ (immediate_found o d f a b s h) (
    IfSome-if P o 0b0011011 _ _ (immediate_word_found o d f a b s h) (
    IfSome-if P o 0b0110011 _ _ (λ e.
    IfSome-option_map (λ c. Op c d a b) (λ c. (op_opcode c ≡ 0b0110011) × (op_funct3 c ≡ f) × (op_funct7 c ≡ s)) P (operation_at f s) (operation_at-some f s)
    (λ c k. operation_fields o d f a b s h c (k.0 ∙ sym e) k.1 k.2)) (
    IfSome-if P o 0b0111011 _ _ (λ e.
    IfSome-option_map (λ c. Op c d a b) (λ c. (op_opcode c ≡ 0b0111011) × (op_funct3 c ≡ f) × (op_funct7 c ≡ s)) P (word_operation_at f s)
    (word_operation_at-some f s) (λ c k. operation_fields o d f a b s h c (k.0 ∙ sym e) k.1 k.2)) (
    IfSome-if P o 0b0001111 _ _ (memory_found o d f a b s h) (
    IfSome-if P o 0b1110011 _ None (system_found o d f a b s h) tt))))))))))))

-- what is read from a word below 2^32 is an instruction that has the word
pub decoded-found : (w : ℕ) → w < 2 ^ 32 → IfSome (decoded w) (λ i. IsInstruction i × (word_of i ≡ w))
unfolding decoded
decoded-found w h = IfSome_then (decoded w) (decoded_fields-found _ _ _ _ _ _ (are_fields-bits w h)) (λ i k. (k.instruction, k.word ∙ format_r-bits w h))
