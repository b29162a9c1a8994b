-- One and two instructions, and what each of them computes.
use Rattle.std.proofs.Common.{◌≡◌, ℕ, ◌+◌, ◌<◌, List, [], ◌∷◌, refl, ap, sym, ◌∙◌}
use Rattle.std.specs.Prelude.{slice_set}
use Rattle.std.proofs.lemmas.List.{set-set, set-get_or}
use Rattle.rv64_isa.specs.declared.instr.Instr.{Instr}
use Rattle.rv64_isa.specs.declared.instr.Instr.TheVariants.{OpImmediate, ShiftImmediate, ShiftImmediateWord, Op}
use Rattle.rv64_isa.specs.declared.instr.Operation.{Operation}
use Rattle.rv64_isa.specs.declared.instr.ImmediateOperation.{ImmediateOperation}
use Rattle.rv64_isa.specs.declared.instr.ShiftOperation.{ShiftOperation}
use Rattle.rv64_isa.specs.Rows.{Continues, row, read, next}
use Rattle.rv64_isa.specs.Arithmetic.{sign_extended, result_of, operation_of, shift_of, word_shift_of}
use Rattle.operator_code.specs.ComputingCode.{Computes}
use Rattle.operator_code.proofs.Runs.{RunsFrom, stop, go}
use Rattle.operator_code.proofs.Constants.{written_is}

-- the instruction computes a value into a register
pub record Sets (i : Instr) (x : List ℕ) (rd value : ℕ) : Type 0 where
  pub goes : (pc : ℕ) → row i x pc ≡ Continues (slice_set x rd value) (next pc)

pub op_sets : (operation : Operation) (x : List ℕ) (rd rs1 rs2 : ℕ) → 0 < rd →
    Sets (Op operation rd rs1 rs2) x rd (result_of operation (read x rs1) (read x rs2))
unfolding row
op_sets operation x rd rs1 rs2 some = record {
  goes = λ pc. ap (λ (y : List ℕ). Continues y (next pc)) (written_is x rd (result_of operation (read x rs1) (read x rs2)) some);
}

pub immediate_sets : (operation : ImmediateOperation) (x : List ℕ) (rd rs1 bits : ℕ) → 0 < rd →
    Sets (OpImmediate operation rd rs1 bits) x rd (result_of (operation_of operation) (read x rs1) (sign_extended 12 64 bits))
unfolding row
immediate_sets operation x rd rs1 bits some = record {
  goes = λ pc. ap (λ (y : List ℕ). Continues y (next pc))
      (written_is x rd (result_of (operation_of operation) (read x rs1) (sign_extended 12 64 bits)) some);
}

pub shift_sets : (operation : ShiftOperation) (x : List ℕ) (rd rs1 count : ℕ) → 0 < rd →
    Sets (ShiftImmediate operation rd rs1 count) x rd (result_of (shift_of operation) (read x rs1) count)
unfolding row
shift_sets operation x rd rs1 count some = record {
  goes = λ pc. ap (λ (y : List ℕ). Continues y (next pc)) (written_is x rd (result_of (shift_of operation) (read x rs1) count) some);
}

pub shift_word_sets : (operation : ShiftOperation) (x : List ℕ) (rd rs1 count : ℕ) → 0 < rd →
    Sets (ShiftImmediateWord operation rd rs1 count) x rd (result_of (word_shift_of operation) (read x rs1) count)
unfolding row
shift_word_sets operation x rd rs1 count some = record {
  goes = λ pc. ap (λ (y : List ℕ). Continues y (next pc)) (written_is x rd (result_of (word_shift_of operation) (read x rs1) count) some);
}

pub as_value : (code : List Instr) (x : List ℕ) (rd v w : ℕ) → v ≡ w → Computes code x rd v → Computes code x rd w
as_value code x rd v w e c = record { unseen = c.unseen; changes = λ pc. c.changes pc ∙ ap (λ (n : ℕ). slice_set x rd n) e }

-- nothing keeps the value that a register holds
pub none : (x : List ℕ) (rd : ℕ) → Computes [] x rd (read x rd)
none x rd = record { unseen = λ pc. refl; changes = λ pc. sym (set-get_or x rd 0) }

pub one : (i : Instr) (x : List ℕ) (rd v : ℕ) → Sets i x rd v → Computes (i ∷ []) x rd v
one i x rd v s = record { unseen = λ pc. (run pc).sees; changes = λ pc. (run pc).leaves }
  where
    run : (pc : ℕ) → RunsFrom (i ∷ []) x pc [] (slice_set x rd v)
    run pc = go i [] x (slice_set x rd v) pc [] (slice_set x rd v) (s.goes pc) (stop (slice_set x rd v) (pc + 4))

-- two instructions of which the second has the first's value; both operands are read before
pub two : (i j : Instr) (x : List ℕ) (rd u v : ℕ) → Sets i x rd u → Sets j (slice_set x rd u) rd v → Computes (i ∷ j ∷ []) x rd v
two i j x rd u v s t = record { unseen = λ pc. (run pc).sees; changes = λ pc. (run pc).leaves ∙ set-set x rd u v }
  where
    run : (pc : ℕ) → RunsFrom (i ∷ j ∷ []) x pc [] (slice_set (slice_set x rd u) rd v)
    run pc =
        let y : List ℕ = slice_set x rd u in
        let z : List ℕ = slice_set y rd v in
        go i (j ∷ []) x y pc [] z (s.goes pc) (go j [] y z (pc + 4) [] z (t.goes (pc + 4)) (stop z (pc + 4 + 4)))
