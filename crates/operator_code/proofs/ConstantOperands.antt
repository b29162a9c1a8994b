-- Instructions with a constant in place of their second register.
use Rattle.std.proofs.Common.{◌≡◌, ℕ, ◌+◌, ◌-◌, ◌*◌, ◌/◌, ◌%◌, ◌^◌, ◌<◌, ◌≤◌, ◌⊎◌, inl, inr, refl, ap, sym, ◌∙◌, arith, Bool, true, false, Option, Some, None}
use Rattle.std.specs.Prelude.{◌==◌, if◌then◌else◌}
use Rattle.ido_ints.specs.declared.kinds.Kind.{Kind}
use Rattle.ido_ints.specs.declared.operators.Binary.{Binary}
use Rattle.ido_ints.specs.declared.operators.Binary.TheVariants as b
use Rattle.ido_ints.specs.Kinds.{bits_of, is_signed}
use Rattle.rv64_isa.specs.declared.instr.Instr.TheVariants.{OpImmediate, ShiftImmediate, ShiftImmediateWord}
use Rattle.rv64_isa.specs.declared.instr.ImmediateOperation.{ImmediateOperation}
use Rattle.rv64_isa.specs.declared.instr.ShiftOperation.{ShiftOperation}
use Rattle.rv64_isa.specs.declared.instr.ShiftOperation.TheVariants.{Slli, Srli, Srai}
use Rattle.rv64_isa.specs.declared.instr.Operation.{Operation}
use Rattle.rv64_isa.specs.declared.instr.Operation.TheVariants.{Add, Addw, Sub, Subw, Sll, Srl, Sra, Sllw, Srlw, Sraw}
use Rattle.rv64_isa.specs.declared.instr.Operation.TheVariants.{Mul, Mulw, Div, Divu, Divw, Divuw, Rem, Remu, Remw, Remuw}
use Rattle.rv64_isa.specs.Rows.{read}
use Rattle.rv64_isa.specs.Arithmetic.{sign_extended, word_result, shifted_arithmetic, result_of, operation_of, shift_of, word_shift_of}
use Rattle.operator_code.specs.declared.immediates.ImmediateForm.{ImmediateForm}
use Rattle.operator_code.specs.declared.immediates.ImmediateForm.TheVariants.{Number, Shift, ShiftWord}
use Rattle.operator_code.specs.Constants.{is_immediate, has_immediate}
use Rattle.operator_code.specs.links.Immediates.{HasForm, takes}
use Rattle.operator_code.specs.links.OperatorInstructions.{instruction_of}
use Rattle.operator_code.proofs.InstructionPairs.{one, as_value, immediate_sets, shift_sets, shift_word_sets}
use Rattle.operator_code.proofs.Registers.{Signed12, signed12}
use Rattle.operator_code.proofs.ConstantSteps.{near_test}

-- the low bits of a number near 0 stand for it
pub low_bits : (n : ℕ) → n < 2 ^ 64 → is_immediate n ≡ true → sign_extended 12 64 (n % 4096) ≡ n
low_bits n small near = by (near_test 2048 n (2 ^ 64) near) (signed12 (n % 4096))
  where
    by : (n < 2048) ⊎ ((2048 ≤ n) × (2 ^ 64 - 1 - n < 2048)) → Signed12 (n % 4096) → sign_extended 12 64 (n % 4096) ≡ n
    by (inl l) (inl s) = s.1 ∙ omega (arith, s.0)
    by (inl l) (inr s) = absurd (omega (arith, s.0))
    by (inr l) (inl s) = absurd (omega (arith, s.0, l.1))
    by (inr l) (inr s) = s.1 ∙ omega (arith, s.0, l.1)

pub number_form : (i : ImmediateOperation) (bits n : ℕ) → sign_extended 12 64 bits ≡ n → HasForm (operation_of i) n (Number i bits)
number_form i bits n e = record {
  computes = λ x rd rs some.
      as_value _ x rd (result_of (operation_of i) (read x rs) (sign_extended 12 64 bits)) _ (ap (λ (m : ℕ). result_of (operation_of i) (read x rs) m) e)
      (one (OpImmediate i rd rs bits) x rd _ (immediate_sets i x rd rs bits some));
}

-- ---- Differences

as_sum : (a c : ℕ) → result_of Add a ((2 ^ 64 - c) % 2 ^ 64) ≡ result_of Sub a c
unfolding result_of
as_sum a c = omega arith

as_word_sum : (a c : ℕ) → result_of Addw a ((2 ^ 64 - c) % 2 ^ 64) ≡ result_of Subw a c
unfolding result_of
as_word_sum a c =
    let e : (a + (2 ^ 64 - c) % 2 ^ 64) % 2 ^ 32 ≡ (a + (2 ^ 64 - c)) % 2 ^ 32 = omega arith in
    ap (λ (m : ℕ). sign_extended 32 64 m) e

pub difference : (c : ℕ) (form : ImmediateForm) → HasForm Add ((2 ^ 64 - c) % 2 ^ 64) form → HasForm Sub c form
difference c form h = record { computes = λ x rd rs some. as_value _ x rd _ _ (as_sum (read x rs) c) (h.computes x rd rs some) }

pub word_difference : (c : ℕ) (form : ImmediateForm) → HasForm Addw ((2 ^ 64 - c) % 2 ^ 64) form → HasForm Subw c form
word_difference c form h = record { computes = λ x rd rs some. as_value _ x rd _ _ (as_word_sum (read x rs) c) (h.computes x rd rs some) }

-- ---- Shifts

by_low_count : (i : ShiftOperation) (a c : ℕ) → result_of (shift_of i) a (c % 64) ≡ result_of (shift_of i) a c
unfolding result_of
by_low_count Slli a c = let e : c % 64 % 64 ≡ c % 64 = omega arith in ap (λ (n : ℕ). a * 2 ^ n % 2 ^ 64) e
by_low_count Srli a c = let e : c % 64 % 64 ≡ c % 64 = omega arith in ap (λ (n : ℕ). a / 2 ^ n) e
by_low_count Srai a c = let e : c % 64 % 64 ≡ c % 64 = omega arith in ap (λ (n : ℕ). shifted_arithmetic 64 a n) e

by_low_word_count : (i : ShiftOperation) (a c : ℕ) → result_of (word_shift_of i) a (c % 32) ≡ result_of (word_shift_of i) a c
unfolding result_of
by_low_word_count Slli a c = let e : c % 32 % 32 ≡ c % 32 = omega arith in ap (λ (n : ℕ). word_result (a * 2 ^ n)) e
by_low_word_count Srli a c = let e : c % 32 % 32 ≡ c % 32 = omega arith in ap (λ (n : ℕ). word_result (a % 2 ^ 32 / 2 ^ n)) e
by_low_word_count Srai a c = let e : c % 32 % 32 ≡ c % 32 = omega arith in ap (λ (n : ℕ). word_result (shifted_arithmetic 32 (a % 2 ^ 32) n)) e

pub shift_form : (i : ShiftOperation) (c : ℕ) → HasForm (shift_of i) c (Shift i (c % 64))
shift_form i c = record {
  computes = λ x rd rs some. as_value _ x rd _ _ (by_low_count i (read x rs) c)
      (one (ShiftImmediate i rd rs (c % 64)) x rd _ (shift_sets i x rd rs (c % 64) some));
}

pub shift_word_form : (i : ShiftOperation) (c : ℕ) → HasForm (word_shift_of i) c (ShiftWord i (c % 32))
shift_word_form i c = record {
  computes = λ x rd rs some. as_value _ x rd _ _ (by_low_word_count i (read x rs) c)
      (one (ShiftImmediateWord i rd rs (c % 32)) x rd _ (shift_word_sets i x rd rs (c % 32) some));
}

-- ---- Where there is a form

takes_of : Option Operation → (constant : ℕ) → Bool
takes_of None n = false
takes_of (Some i) n = takes i n

either : (t : Bool) (i j : Operation) (n : ℕ) (by : Bool) → takes i n ≡ by → takes j n ≡ by → takes (if t then i else j) n ≡ by
either true i j n by e f = e
either false i j n by e f = f

takes_is : (operator : Binary) (k : Kind) (n : ℕ) → takes_of (instruction_of operator k) n ≡ has_immediate operator n
unfolding takes_of
takes_is b.Add k n = either (bits_of k == 64) Add Addw n (is_immediate n) refl refl
takes_is b.Sub k n = either (bits_of k == 64) Sub Subw n (is_immediate ((2 ^ 64 - n) % 2 ^ 64)) refl refl
takes_is b.Mul k n = either (bits_of k == 64) Mul Mulw n false refl refl
takes_is b.Div k n = either (bits_of k == 64) (if is_signed k then Div else Divu) (if is_signed k then Divw else Divuw) n false
    (either (is_signed k) Div Divu n false refl refl) (either (is_signed k) Divw Divuw n false refl refl)
takes_is b.Rem k n = either (bits_of k == 64) (if is_signed k then Rem else Remu) (if is_signed k then Remw else Remuw) n false
    (either (is_signed k) Rem Remu n false refl refl) (either (is_signed k) Remw Remuw n false refl refl)
takes_is b.ShiftLeft k n = either (bits_of k == 64) Sll Sllw n true refl refl
takes_is b.ShiftRight k n = either (bits_of k == 64) (if is_signed k then Sra else Srl) (if is_signed k then Sraw else Srlw) n true
    (either (is_signed k) Sra Srl n true refl refl) (either (is_signed k) Sraw Srlw n true refl refl)
takes_is operator k n = refl

pub where_some : (operator : Binary) (k : Kind) (n : ℕ) (i : Operation) → instruction_of operator k ≡ Some i → takes i n ≡ has_immediate operator n
unfolding takes_of
where_some operator k n i e = sym (ap (λ (o : Option Operation). takes_of o n) e) ∙ takes_is operator k n
