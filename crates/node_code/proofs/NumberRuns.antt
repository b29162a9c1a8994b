-- A number that is a constant, by one instruction.
use Rattle.std.proofs.Common.{◌≡◌, ◌≢◌, ℕ, ◌+◌, ◌*◌, ◌^◌, ◌<◌, List, length, Some, refl, ap, sym, ◌∙◌, arith, lit<}
use Rattle.std.specs.Prelude.{slice_set}
use Rattle.std.proofs.Math.Nat.{mod-eq_of_lt}
use Rattle.std.proofs.lemmas.Bool.{true≢false}
use Rattle.std.proofs.lemmas.List.{get_or-set_other}
use Rattle.log_schemes.specs.declared.log.Log.{Log}
use Rattle.rv64_isa.specs.declared.instr.Instr.{Instr}
use Rattle.rv64_isa.specs.declared.instr.Instr.TheVariants.{OpImmediate}
use Rattle.rv64_isa.specs.declared.instr.ImmediateOperation.TheVariants.{Addi}
use Rattle.rv64_isa.specs.declared.instr.Operation.TheVariants.{Add}
use Rattle.rv64_isa.specs.Arithmetic.{result_of, sign_extended}
use Rattle.rv64_isa.specs.Rows.{Effect, Continues, next, read, row}
use Rattle.memory_layout.specs.Roles.{is_temporary}
use Rattle.operator_code.proofs.Public.{add_small, length-changed, read_other, read_same, small_immediate}
use Rattle.boundary_code.specs.Boundaries.{IsUnderWay}
use Rattle.code_runs.specs.ComputingRuns as r
use Rattle.node_code.specs.Numbers.{LeavesNumber}
use Rattle.node_code.specs.links.BoundaryCode.{number_code}

number_is : (number : ℕ) → number < 2048 → result_of Add 0 (sign_extended 12 64 number) ≡ number
number_is number small =
    ap (λ (m : ℕ). result_of Add 0 m) (small_immediate number small)
    ∙ (add_small 0 number (omega (arith, small)) ∙ (let e : 0 + number ≡ number = omega arith in e))

number_row : (y : List ℕ) (number pc : ℕ) → read y 0 ≡ 0 → number < 2048 →
    row (OpImmediate Addi 5 0 number) y pc ≡ Continues (slice_set y 5 number) (next pc)
unfolding row
number_row y number pc zero_is small =
    ap (λ (m : ℕ). Continues (slice_set y 5 (result_of Add m (sign_extended 12 64 number))) (next pc)) zero_is
    ∙ ap (λ (m : ℕ). Continues (slice_set y 5 m) (next pc)) (number_is number small)

-- of a call's lock
pub lock_row : (y : List ℕ) (number pc : ℕ) → read y 0 ≡ 0 → number < 2048 →
    row (OpImmediate Addi 10 0 number) y pc ≡ Continues (slice_set y 10 number) (next pc)
unfolding row
lock_row y number pc zero_is small =
    ap (λ (m : ℕ). Continues (slice_set y 10 (result_of Add m (sign_extended 12 64 number))) (next pc)) zero_is
    ∙ ap (λ (m : ℕ). Continues (slice_set y 10 m) (next pc)) (number_is number small)

-- a boundary needs x5 for nothing else
number_under : (log : Log) (thread bank : ℕ) (x y : List ℕ) (number : ℕ) → IsUnderWay log thread bank x y → IsUnderWay log thread bank x (slice_set y 5 number)
number_under log thread bank x y number under = record {
  count = length-changed y 5 number under.count;
  zero_is = read_other y 5 0 number refl ∙ under.zero_is;
  offset = read_other y 5 3 number refl ∙ under.offset;
  logged = read_other y 5 31 number refl ∙ under.logged;
  base = read_other y 5 30 number refl ∙ under.base;
  others = λ q plain other.
      let apart : q ≢ 5 = λ same. true≢false (sym (ap (λ (n : ℕ). is_temporary n) same) ∙ plain) in
      get_or-set_other y 5 q number 0 apart ∙ under.others q plain other;
}

pub constant_leaves : (around : r.Environment) (log : Log) (thread : ℕ) (x : List ℕ) (number : ℕ) → number < 2048 →
    LeavesNumber around log thread x number (number_code number)
constant_leaves around log thread x number small = record {
  leaves = λ bank y address below under stands room.
      let i : Instr = OpImmediate Addi 5 0 number in
      let z : List ℕ = slice_set y 5 number in
      let low : address + 4 < 2 ^ 64 = omega (arith, room) in
      let on : next address ≡ address + 4 = mod-eq_of_lt low in
      let end : address + 4 ≡ address + 4 * length (number_code number) = omega arith in
      let does : r.after around (r.config y address) (row i y address) ≡ Some (r.config z (address + 4)) =
      ap (λ (f : Effect). r.after around (r.config y address) f) (number_row y number address under.zero_is small)
      ∙ ap (λ (pc : ℕ). Some (r.config z pc)) on in
      record {
        registers = z;
        run = record {
          steps = 1;
          leads = (
            r.config z (address + 4),
            record { instr = i; stands = stands.0; does = does; forward = omega arith },
            ap (λ (pc : ℕ). r.config z pc) end,
          );
        };
        short = omega arith;
        number_is = read_same y 5 number under.count (lit< tt);
        under_way = number_under log thread bank x y number under;
      };
}
