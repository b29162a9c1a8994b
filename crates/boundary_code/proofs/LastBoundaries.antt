-- What a section's last boundary does.
use Rattle.std.proofs.Common.{◌≡◌, ℕ, ◌+◌, ◌-◌, ◌*◌, ◌%◌, ◌^◌, ◌<◌, List, [], ◌∷◌, ◌++◌, length, refl, ap, sym}
use Rattle.std.proofs.Common.{◌∙◌, Bool, true, lit<, if◌then◌else◌}
use Rattle.std.specs.Prelude.{slice_set}
use Rattle.std.proofs.lemmas.List.{get_or-set_other}
use Rattle.ido_base.specs.declared.limits.TheConstants.{MOST_THREADS}
use Rattle.log_schemes.specs.Layout.{log_of, bank_bytes, point_at}
use Rattle.log_schemes.specs.declared.log.Log.{Log}
use Rattle.rv64_isa.specs.declared.instr.Instr.{Instr}
use Rattle.rv64_isa.specs.declared.instr.Instr.TheVariants.{Fence}
use Rattle.rv64_isa.specs.Rows.{Stores, Cleans, Fences, row, read}
use Rattle.operator_code.specs.StraightLineCode.{IsConstant}
use Rattle.boundary_code.specs.Boundaries.{Boundary, IsOnSide, bank_effects, commit, commit_effects, is_empty}
use Rattle.boundary_code.specs.links.BoundaryParts.{HasEffects, HasOffset, KeepsRegisters, IsStraightCodeOf, resume_address}
use Rattle.boundary_code.specs.links.InstructionLists.{last_list}
use Rattle.operator_code.proofs.Public.{RunsFrom, along, fence, constant_runs, read_same, read_other}
use Rattle.boundary_code.proofs.Registers.{not_temporary}
use Rattle.boundary_code.proofs.Points.{commit_run}

fence_is : (z : List ℕ) (pc : ℕ) → row Fence z pc ≡ Fences
unfolding row
fence_is z pc = refl

last_runs : (log : Log) (thread : ℕ) (address : List Instr) (x : List ℕ) (pc bank : ℕ) → thread < MOST_THREADS → IsConstant 31 (log_of log thread) address →
    IsOnSide log bank x → RunsFrom (last_list address) x pc (commit_effects log thread 0) (slice_set x 31 (log_of log thread))
last_runs log thread address x pc bank t c at =
    let y : List ℕ = slice_set x 31 (log_of log thread) in
    let middle : ℕ = pc + 4 * length address in
    along address (Fence ∷ commit 0) x y y pc [] (commit_effects log thread 0)
    (constant_runs 31 (log_of log thread) address x pc c at.count at.zero_is)
    (fence Fence (commit 0) y middle (Stores (point_at log thread) 8 0 ∷ Cleans (point_at log thread) ∷ Fences ∷ []) y (fence_is y middle)
    (commit_run log y 0 thread 0 (middle + 4) t (read_same x 31 (log_of log thread) at.count (lit< tt))
    (read_other x 31 0 (log_of log thread) refl ∙ at.zero_is)))

last-effects : (b : Boundary) (address : List Instr) → b.thread < MOST_THREADS → is_empty b.locks ≡ true → IsConstant 31 (log_of b.log b.thread) address →
    HasEffects b (last_list address)
last-effects b address t none c = record {
  does = λ x pc bank at. (last_runs b.log b.thread address x pc bank t c at).sees ∙
      sym (ap (λ (z : Bool). if z then commit_effects b.log b.thread 0
      else bank_effects b (1 - bank) x ++ commit_effects b.log b.thread ((resume_address b (last_list address) pc + (1 - bank)) % 2 ^ 64)) none);
}

last-offset : (log : Log) (locks : List ℕ) (thread : ℕ) (address : List Instr) → thread < MOST_THREADS → is_empty locks ≡ true →
    IsConstant 31 (log_of log thread) address → HasOffset log locks (last_list address)
last-offset log locks thread address t none c = record {
  leaves =
      λ x pc bank at. ap (λ (w : List ℕ). read w 3) (last_runs log thread address x pc bank t c at).leaves ∙ read_other x 31 3 (log_of log thread) refl ∙
      at.offset ∙ sym (ap (λ (z : Bool). bank_bytes log * (if z then bank else 1 - bank)) none);
}

last-others : (log : Log) (thread : ℕ) (address : List Instr) → thread < MOST_THREADS → IsConstant 31 (log_of log thread) address →
    KeepsRegisters log (last_list address)
last-others log thread address t c = record {
  keeps = λ x pc bank at r s n. ap (λ (w : List ℕ). read w r) (last_runs log thread address x pc bank t c at).leaves ∙
      get_or-set_other x 31 r (log_of log thread) 0 (not_temporary r 31 refl s);
}

pub last_does : (b : Boundary) (address : List Instr) → b.thread < MOST_THREADS → is_empty b.locks ≡ true → IsConstant 31 (log_of b.log b.thread) address →
    IsStraightCodeOf b (last_list address)
last_does b address thread none constant = record {
  effects_are = last-effects b address thread none constant;
  offset = last-offset b.log b.locks b.thread address thread none constant;
  keeps = last-others b.log b.thread address thread constant;
}
