-- The value of a test: 1 or 0.
use Rattle.std.proofs.Common.{◌≡◌, refl, ℕ, ◌+◌, ◌-◌, ◌%◌, ◌^◌, ◌<◌, List, [], ◌∷◌, ap, ◌∙◌, subst, arith, Bool, true, false}
use Rattle.std.specs.Prelude.{nat_lt, not, ◌==◌, slice_set, bit_xor}
use Rattle.std.proofs.lemmas.Bool.Decides.{nat_tests}
use Rattle.rv64_isa.specs.declared.instr.Instr.TheVariants.{OpImmediate, Op}
use Rattle.rv64_isa.specs.declared.instr.Operation.{Operation}
use Rattle.rv64_isa.specs.declared.instr.Operation.TheVariants.{Sub, Slt, Sltu}
use Rattle.rv64_isa.specs.declared.instr.ImmediateOperation.TheVariants.{Xori, Sltiu}
use Rattle.rv64_isa.specs.declared.instr.Condition.{Condition}
use Rattle.rv64_isa.specs.declared.instr.Condition.TheVariants.{Beq, Bne, Blt, Bge, Bltu, Bgeu}
use Rattle.rv64_isa.specs.Rows.{read}
use Rattle.rv64_isa.specs.Arithmetic.{result_of, signed_less, flag, is_taken}
use Rattle.operator_code.specs.ComputingCode.{IsFlag}
use Rattle.operator_code.specs.links.OperatorInstructions.{made}
use Rattle.operator_code.specs.links.InstructionLists.{flag_code}
use Rattle.operator_code.proofs.Registers.{read_same, read_other}
use Rattle.operator_code.proofs.InstructionPairs.{Sets, one, two, as_value, op_sets, immediate_sets}
use Rattle.operator_code.proofs.UnaryOperators.{below_one, above_zero}

turned_flag : (b : Bool) → bit_xor (flag b) 1 ≡ flag (not b)
turned_flag true = refl
turned_flag false = refl

-- the difference is 0 just where the numbers are equal
difference_zero : (a b : ℕ) → a < 2 ^ 64 → b < 2 ^ 64 → ((a + (2 ^ 64 - b)) % 2 ^ 64 == 0) ≡ (a == b)
difference_zero a b h k = by (a == b) refl
  where
    by : (t : Bool) → (a == b) ≡ t → ((a + (2 ^ 64 - b)) % 2 ^ 64 == 0) ≡ t
    by true e =
        let same : a ≡ b = grind (arith, nat_tests) in
        let none : (a + (2 ^ 64 - b)) % 2 ^ 64 ≡ 0 = omega (arith, h, k, same) in
        grind (arith, nat_tests)
    by false e =
        let apart : (a ≡ b) → ⊥ = grind (arith, nat_tests) in
        let some : 0 < (a + (2 ^ 64 - b)) % 2 ^ 64 = omega (arith, h, k, apart) in
        grind (arith, nat_tests)

-- one instruction
by_one : (operation : Operation) (condition : Condition) (rd r s : ℕ) → 0 < rd → ((a b : ℕ) → result_of operation a b ≡ flag (is_taken condition a b)) →
    IsFlag (made condition r s) rd (Op operation rd r s ∷ [])
by_one operation condition rd r s some law = record {
  computes = λ x are h k. as_value _ x rd _ _ (law (read x r) (read x s)) (one (Op operation rd r s) x rd _ (op_sets operation x rd r s some));
}

-- one instruction, and its flag turned
by_turning : (operation : Operation) (condition : Condition) (rd r s : ℕ) → 0 < rd → rd < 32 →
    ((a b : ℕ) → bit_xor (result_of operation a b) 1 ≡ flag (is_taken condition a b)) →
    IsFlag (made condition r s) rd (Op operation rd r s ∷ OpImmediate Xori rd rd 1 ∷ [])
unfolding result_of
by_turning operation condition rd r s some small law = record {
  computes = λ x are h k.
      let u : ℕ = result_of operation (read x r) (read x s) in
      let y : List ℕ = slice_set x rd u in
      let second : Sets (OpImmediate Xori rd rd 1) y rd (bit_xor u 1) =
      subst (λ (n : ℕ). Sets (OpImmediate Xori rd rd 1) y rd (bit_xor n 1)) (read_same x rd u are.count small) (immediate_sets Xori y rd rd 1 some) in
      as_value _ x rd (bit_xor u 1) _ (law (read x r) (read x s))
      (two (Op operation rd r s) (OpImmediate Xori rd rd 1) x rd u (bit_xor u 1) (op_sets operation x rd r s some) second);
}

by_equal : (rd r s : ℕ) → 0 < rd → rd < 32 → IsFlag (made Beq r s) rd (Op Sub rd r s ∷ OpImmediate Sltiu rd rd 1 ∷ [])
unfolding result_of is_taken
by_equal rd r s some small = record {
  computes = λ x are h k.
      let u : ℕ = (read x r + (2 ^ 64 - read x s)) % 2 ^ 64 in
      let y : List ℕ = slice_set x rd u in
      let second : Sets (OpImmediate Sltiu rd rd 1) y rd (flag (nat_lt u 1)) =
      subst (λ (n : ℕ). Sets (OpImmediate Sltiu rd rd 1) y rd (flag (nat_lt n 1))) (read_same x rd u are.count small)
      (immediate_sets Sltiu y rd rd 1 some) in
      as_value _ x rd (flag (nat_lt u 1)) _ (ap flag (below_one u ∙ difference_zero (read x r) (read x s) h k))
      (two (Op Sub rd r s) (OpImmediate Sltiu rd rd 1) x rd u (flag (nat_lt u 1)) (op_sets Sub x rd r s some) second);
}

by_unequal : (rd r s : ℕ) → 0 < rd → rd < 32 → IsFlag (made Bne r s) rd (Op Sub rd r s ∷ Op Sltu rd 0 rd ∷ [])
unfolding result_of is_taken
by_unequal rd r s some small = record {
  computes = λ x are h k.
      let u : ℕ = (read x r + (2 ^ 64 - read x s)) % 2 ^ 64 in
      let y : List ℕ = slice_set x rd u in
      let apart : (0 == rd) ≡ false = grind (arith, nat_tests) in
      let zero_is : read y 0 ≡ 0 = read_other x rd 0 u apart ∙ are.zero_is in
      let second : Sets (Op Sltu rd 0 rd) y rd (flag (nat_lt 0 u)) =
      subst (λ (n : ℕ). Sets (Op Sltu rd 0 rd) y rd (flag (nat_lt 0 n))) (read_same x rd u are.count small)
      (subst (λ (n : ℕ). Sets (Op Sltu rd 0 rd) y rd (flag (nat_lt n (read y rd)))) zero_is (op_sets Sltu y rd 0 rd some)) in
      as_value _ x rd (flag (nat_lt 0 u)) _ (ap flag (above_zero u ∙ ap not (difference_zero (read x r) (read x s) h k)))
      (two (Op Sub rd r s) (Op Sltu rd 0 rd) x rd u (flag (nat_lt 0 u)) (op_sets Sub x rd r s some) second);
}

pub flagged : (condition : Condition) (rd r s : ℕ) → 0 < rd → rd < 32 → IsFlag (made condition r s) rd (flag_code condition rd r s)
unfolding result_of is_taken
flagged Beq rd r s some small = by_equal rd r s some small
flagged Bne rd r s some small = by_unequal rd r s some small
flagged Blt rd r s some small = by_one Slt Blt rd r s some (λ a b. refl)
flagged Bltu rd r s some small = by_one Sltu Bltu rd r s some (λ a b. refl)
flagged Bge rd r s some small = by_turning Slt Bge rd r s some small (λ a b. turned_flag (signed_less a b))
flagged Bgeu rd r s some small = by_turning Sltu Bgeu rd r s some small (λ a b. turned_flag (nat_lt a b))
