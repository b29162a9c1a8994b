-- Whether registers and pc of a hart are those of a local state.
use Rattle.std.proofs.Common.{◌≡◌, ◌≢◌, ◌↔◌, ℕ, List, Some, Bool, true, false, IsTrue, nat_eq, refl, ap, sym, ◌∙◌}
use Rattle.std.proofs.Common.{get_or, map, slice_get}
use Rattle.std.specs.Bool.{MatchBool}
use Rattle.std.specs.Cmp.Lexicographic.{pointwise, told_text}
use Rattle.std.proofs.lemmas.Bool.{eqb-true}
use Rattle.machine_model.specs.declared.phase.Phase.{Phase}
use Rattle.machine_model.specs.Machine.{Hart as HartModel}
use Rattle.hart_core.specs.declared.hart.Hart.{Hart}
use Rattle.hart_core.specs.declared.local.LocalState.{LocalState}
use Rattle.ido_machine.specs.Harts.{local_state_of}
use Rattle.ido_machine.proofs.Lists.{get_map}

module _ (it : Hart) (model : HartModel) (s : LocalState) (registers : model.registers ≡ it.registers) (pc : model.pc ≡ it.pc) where
  -- the state of the hart in the code is that of the model
  pub state_is : let here : LocalState = record { registers = it.registers; pc = it.pc } in here ≡ local_state_of model
  state_is =
      let at : List ℕ → ℕ → LocalState = λ xs n. record { registers = xs; pc = n } in
      ap (λ (xs : List ℕ). at xs it.pc) (sym registers) ∙ ap (at model.registers) (sym pc)

  pub same_pc : (equal : Bool) → equal ≡ pointwise nat_eq it.registers s.registers → it.pc ≡ s.pc →
      IsTrue equal ↔ (s ≡ local_state_of model)
  same_pc equal is same = by_told equal (told_text it.registers s.registers equal is)
    where
      by_told : (b : Bool) → MatchBool b (it.registers ≡ s.registers) (it.registers ≢ s.registers) → IsTrue b ↔ (s ≡ local_state_of model)
      by_told true told =
          let at : List ℕ → ℕ → LocalState = λ xs n. record { registers = xs; pc = n } in
          (λ _. ap (λ (xs : List ℕ). at xs s.pc) (sym told) ∙ ap (at it.registers) (sym same) ∙ state_is, λ _. refl)
      by_told false told = (λ e. cc, λ e. absurd (told (ap (λ (t : LocalState). t.registers) (state_is ∙ sym e))))

  pub other_pc : (it.pc ≡ s.pc → ⊥) → IsTrue (nat_eq it.pc s.pc) ↔ (s ≡ local_state_of model)
  other_pc other = (
    λ e. absurd (other (eqb-true it.pc s.pc e)),
    λ e. absurd (other (ap (λ (t : LocalState). t.pc) (state_is ∙ sym e))),
  )

-- a phase that was read is that of the hart
pub phase_is : (harts : List HartModel) (phases : List Phase) (number : ℕ) (model : HartModel) (found default : Phase) →
    map (λ hart. hart.phase) harts ≡ phases → slice_get harts number ≡ Some model → found ≡ get_or phases number default → found ≡ model.phase
phase_is harts phases number model found default are there is =
    is ∙ ap (λ (all : List Phase). get_or all number default) (sym are) ∙ get_map (λ (hart : HartModel). hart.phase) harts number model default there
