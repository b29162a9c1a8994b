-- The instructions of each conversion.
use Rattle.std.proofs.Common.{◌≡◌, refl, ℕ, ◌+◌, ◌%◌, ◌^◌, ◌<◌, List, [], ◌∷◌, ap, sym, ◌∙◌, subst, arith, false, true}
use Rattle.std.specs.Prelude.{ℤ, pos, slice_set}
use Rattle.std.proofs.Math.Nat.{mod-eq_of_lt}
use Rattle.ido_ints.specs.declared.kinds.Kind.{Kind}
use Rattle.ido_ints.specs.declared.kinds.Kind.TheVariants.{Char, UnsignedChar, SignedChar, Short, UnsignedShort, Int, UnsignedInt, Long, UnsignedLong}
use Rattle.ido_ints.specs.Kinds.{Holds}
use Rattle.ido_ints.specs.Reduction.{reduced, register_of}
use Rattle.ido_ints.proofs.Public.{Same, register_below, register-reduced_32, register-reduced_64}
use Rattle.rv64_isa.specs.declared.instr.Instr.{Instr}
use Rattle.rv64_isa.specs.declared.instr.Instr.TheVariants.{OpImmediate, ShiftImmediate}
use Rattle.rv64_isa.specs.declared.instr.ImmediateOperation.{ImmediateOperation}
use Rattle.rv64_isa.specs.declared.instr.ImmediateOperation.TheVariants.{Addi, Andi, Addiw}
use Rattle.rv64_isa.specs.declared.instr.ShiftOperation.{ShiftOperation}
use Rattle.rv64_isa.specs.declared.instr.ShiftOperation.TheVariants.{Slli, Srli, Srai}
use Rattle.rv64_isa.specs.Rows.{read}
use Rattle.rv64_isa.specs.Arithmetic.{sign_extended, result_of, operation_of, shift_of, word_result}
use Rattle.operator_code.specs.ComputingCode.{IsCopy, IsConversion}
use Rattle.operator_code.specs.links.OperatorInstructions.{keeps}
use Rattle.operator_code.specs.links.InstructionLists.{extension}
use Rattle.operator_code.proofs.Registers.{read_same}
use Rattle.operator_code.proofs.InstructionPairs.{Sets, none, one, two, as_value, immediate_sets, shift_sets}
use Rattle.operator_code.proofs.RegisterExtensions.{low_8, low_16, low_32, low_byte, low_half, word_form}
use Rattle.operator_code.proofs.RegisterExtensions.{extended_byte, extended_half, unsigned_word, keeps_law, loses}

pub moved : (rd rs : ℕ) → 0 < rd → IsCopy rd rs (OpImmediate Addi rd rs 0 ∷ [])
unfolding result_of
moved rd rs some = record {
  computes = λ x are small. as_value _ x rd _ (read x rs)
      (ap (λ (n : ℕ). n % 2 ^ 64) (let e : read x rs + 0 ≡ read x rs = omega arith in e) ∙ mod-eq_of_lt small)
      (one (OpImmediate Addi rd rs 0) x rd _ (immediate_sets Addi x rd rs 0 some));
}

pub unmoved : (rd rs : ℕ) → rd ≡ rs → IsCopy rd rs []
unmoved rd rs e = record { computes = λ x are small. as_value [] x rd (read x rd) (read x rs) (ap (λ (r : ℕ). read x r) e) (none x rd) }

pub kept : (from to : Kind) (rd rs : ℕ) (code : List Instr) → keeps from to ≡ true → IsCopy rd rs code → IsConversion from to rd rs code
kept from to rd rs code e c = record {
  computes = λ x are z carried.
      let small : read x rs < 2 ^ 64 = subst (λ (n : ℕ). n < 2 ^ 64) (sym carried.form) (register_below from z) in
      as_value code x rd (read x rs) _ (carried.form ∙ sym (keeps_law from to e z carried.held)) (c.computes x are small);
}

-- one instruction, of an immediate
by_immediate : (operation : ImmediateOperation) (bits : ℕ) (from to : Kind) (rd rs : ℕ) → 0 < rd →
    ((r : ℕ) (z : ℤ) → r ≡ register_of from z → result_of (operation_of operation) r (sign_extended 12 64 bits) ≡ register_of to (reduced to z)) →
    IsConversion from to rd rs (OpImmediate operation rd rs bits ∷ [])
by_immediate operation bits from to rd rs some law = record {
  computes = λ x are z carried. as_value _ x rd _ _ (law (read x rs) z carried.form)
      (one (OpImmediate operation rd rs bits) x rd _ (immediate_sets operation x rd rs bits some));
}

-- two shifts
by_shifts : (back : ShiftOperation) (count : ℕ) (from to : Kind) (rd rs : ℕ) → 0 < rd → rd < 32 →
    ((r : ℕ) (z : ℤ) → Holds from z → r ≡ register_of from z → result_of (shift_of back) (result_of (shift_of Slli) r count) count ≡
    register_of to (reduced to z)) →
    IsConversion from to rd rs (ShiftImmediate Slli rd rs count ∷ ShiftImmediate back rd rd count ∷ [])
by_shifts back count from to rd rs some small law = record {
  computes = λ x are z carried.
      let u : ℕ = result_of (shift_of Slli) (read x rs) count in
      let v : ℕ = result_of (shift_of back) u count in
      let y : List ℕ = slice_set x rd u in
      let second : Sets (ShiftImmediate back rd rd count) y rd v =
      subst (λ (n : ℕ). Sets (ShiftImmediate back rd rd count) y rd (result_of (shift_of back) n count)) (read_same x rd u are.count small)
      (shift_sets back y rd rd count some) in
      as_value _ x rd v _ (law (read x rs) z carried.held carried.form)
      (two (ShiftImmediate Slli rd rs count) (ShiftImmediate back rd rd count) x rd u v (shift_sets Slli x rd rs count some) second);
}

at_form : (n : ℕ) (from : Kind) (r : ℕ) (z : ℤ) → Same n (pos (register_of from z)) z → r ≡ register_of from z → Same n (pos r) z
at_form n from r z s e = subst (λ (m : ℕ). Same n (pos m) z) (sym e) s

to_char : (from : Kind) (rd rs : ℕ) → 0 < rd → IsConversion from Char rd rs (OpImmediate Andi rd rs 255 ∷ [])
unfolding result_of
to_char from rd rs some = by_immediate Andi 255 from Char rd rs some (λ r z e. low_byte r z (at_form (2 ^ 8) from r z (low_8 from z) e))

to_unsigned_char : (from : Kind) (rd rs : ℕ) → 0 < rd → IsConversion from UnsignedChar rd rs (OpImmediate Andi rd rs 255 ∷ [])
unfolding result_of
to_unsigned_char from rd rs some = by_immediate Andi 255 from UnsignedChar rd rs some (λ r z e. low_byte r z (at_form (2 ^ 8) from r z (low_8 from z) e))

plain : (r : ℕ) → r + 0 ≡ r
plain r = omega arith

to_int : (from : Kind) (rd rs : ℕ) → 0 < rd → IsConversion from Int rd rs (OpImmediate Addiw rd rs 0 ∷ [])
unfolding result_of
to_int from rd rs some = by_immediate Addiw 0 from Int rd rs some
    (λ r z e. ap word_result (plain r) ∙ word_form r z (at_form (2 ^ 32) from r z (low_32 from z) e))

to_unsigned_int : (from : Kind) (rd rs : ℕ) → 0 < rd → IsConversion from UnsignedInt rd rs (OpImmediate Addiw rd rs 0 ∷ [])
unfolding result_of
to_unsigned_int from rd rs some = by_immediate Addiw 0 from UnsignedInt rd rs some
    (λ r z e. ap word_result (plain r) ∙ word_form r z (at_form (2 ^ 32) from r z (low_32 from z) e) ∙ sym (register-reduced_32 UnsignedInt refl z))

to_signed_char : (from : Kind) (rd rs : ℕ) → 0 < rd → rd < 32 →
    IsConversion from SignedChar rd rs (ShiftImmediate Slli rd rs 56 ∷ ShiftImmediate Srai rd rd 56 ∷ [])
unfolding result_of
to_signed_char from rd rs some small = by_shifts Srai 56 from SignedChar rd rs some small
    (λ r z h e. extended_byte r z (at_form (2 ^ 8) from r z (low_8 from z) e))

to_short : (from : Kind) (rd rs : ℕ) → 0 < rd → rd < 32 → IsConversion from Short rd rs (ShiftImmediate Slli rd rs 48 ∷ ShiftImmediate Srai rd rd 48 ∷ [])
unfolding result_of
to_short from rd rs some small = by_shifts Srai 48 from Short rd rs some small
    (λ r z h e. extended_half r z (at_form (2 ^ 16) from r z (low_16 from z) e))

to_unsigned_short : (from : Kind) (rd rs : ℕ) → 0 < rd → rd < 32 →
    IsConversion from UnsignedShort rd rs (ShiftImmediate Slli rd rs 48 ∷ ShiftImmediate Srli rd rd 48 ∷ [])
unfolding result_of
to_unsigned_short from rd rs some small = by_shifts Srli 48 from UnsignedShort rd rs some small
    (λ r z h e. low_half r z (at_form (2 ^ 16) from r z (low_16 from z) e))

unsigned_to_long : (rd rs : ℕ) → 0 < rd → rd < 32 → IsConversion UnsignedInt Long rd rs (ShiftImmediate Slli rd rs 32 ∷ ShiftImmediate Srli rd rd 32 ∷ [])
unfolding result_of
unsigned_to_long rd rs some small = by_shifts Srli 32 UnsignedInt Long rd rs some small
    (λ r z h e. unsigned_word r Long z refl h e ∙ sym (register-reduced_64 Long refl z))

unsigned_to_unsigned_long : (rd rs : ℕ) → 0 < rd → rd < 32 →
    IsConversion UnsignedInt UnsignedLong rd rs (ShiftImmediate Slli rd rs 32 ∷ ShiftImmediate Srli rd rd 32 ∷ [])
unfolding result_of
unsigned_to_unsigned_long rd rs some small = by_shifts Srli 32 UnsignedInt UnsignedLong rd rs some small
    (λ r z h e. unsigned_word r UnsignedLong z refl h e ∙ sym (register-reduced_64 UnsignedLong refl z))

to_long : (from : Kind) (rd rs : ℕ) → keeps from Long ≡ false → 0 < rd → rd < 32 →
    IsConversion from Long rd rs (ShiftImmediate Slli rd rs 32 ∷ ShiftImmediate Srli rd rd 32 ∷ [])
to_long from rd rs e some small =
    subst (λ (k : Kind). IsConversion k Long rd rs (ShiftImmediate Slli rd rs 32 ∷ ShiftImmediate Srli rd rd 32 ∷ [])) (sym (loses from e))
    (unsigned_to_long rd rs some small)

to_unsigned_long : (from : Kind) (rd rs : ℕ) → keeps from UnsignedLong ≡ false → 0 < rd → rd < 32 →
    IsConversion from UnsignedLong rd rs (ShiftImmediate Slli rd rs 32 ∷ ShiftImmediate Srli rd rd 32 ∷ [])
to_unsigned_long from rd rs e some small =
    subst (λ (k : Kind). IsConversion k UnsignedLong rd rs (ShiftImmediate Slli rd rs 32 ∷ ShiftImmediate Srli rd rd 32 ∷ [])) (sym (loses from e))
    (unsigned_to_unsigned_long rd rs some small)

pub extended : (from to : Kind) (rd rs : ℕ) → keeps from to ≡ false → 0 < rd → rd < 32 → IsConversion from to rd rs (extension to rd rs)
extended from Char rd rs e some small = to_char from rd rs some
extended from UnsignedChar rd rs e some small = to_unsigned_char from rd rs some
extended from SignedChar rd rs e some small = to_signed_char from rd rs some small
extended from Short rd rs e some small = to_short from rd rs some small
extended from UnsignedShort rd rs e some small = to_unsigned_short from rd rs some small
extended from Int rd rs e some small = to_int from rd rs some
extended from UnsignedInt rd rs e some small = to_unsigned_int from rd rs some
extended from Long rd rs e some small = to_long from rd rs e some small
extended from UnsignedLong rd rs e some small = to_unsigned_long from rd rs e some small
