-- What stands of a local run as it goes ahead, and where a life adopts it.
use Rattle.std.proofs.Common.{◌≡◌, ℕ, zero, suc, ◌+◌, ◌≤◌, List, Option}
use Rattle.std.proofs.Common.{Some, None, Bool, true, false, cond, ◌==◌, refl, ap, sym, subst, ◌∙◌, arith}
use Rattle.std.specs.List.{list_any}
use Rattle.rv64_isa.specs.declared.object.Slot.{Slot}
use Rattle.machine_model.specs.declared.phase.Phase.{Phase}
use Rattle.machine_model.specs.declared.phase.Phase.TheVariants.{Take, Wait, Resume, Run, Done, Ended}
use Rattle.machine_model.specs.Machine.{Hart}
use Rattle.machine_model.specs.Schedule.{is_running}
use Rattle.hart_core.specs.declared.local.LocalState.{LocalState}
use Rattle.hart_core.specs.LocalSteps.{PlacedCode, executed_locally, fetched_in, local_run, local_step, then_locally}
use Rattle.ido_machine.specs.Harts.{local_state_of}
use Rattle.run_tracker.specs.declared.local.LocalRun.TheInside.{Inside}
use Rattle.ido_machine.specs.declared.signs.Entry.{Entry}
use Rattle.ido_machine.specs.declared.signs.SignTable.{SignTable}
use Rattle.ido_machine.specs.links.LocalRuns.{mark_at, signs_passed}
use Rattle.run_tracker.proofs.LocalRuns.{instruction_before}
use Rattle.run_tracker.specs.LocalRuns.{LocalCourse, IsAtBeginning, state_in}
use Rattle.run_tracker.specs.links.LocalRepresentation.{LocalInv, marks_at, marks_passed}
use Rattle.ido_machine.specs.links.SignTables.{IsTableOf, is_plain, placed_in, sign_at, sign_in, slots_in}
use Rattle.ido_machine.proofs.Public.{word_mark}

pub running_phase : (phase : Phase) → is_running phase ≡ true → phase ≡ Run
running_phase Run e = refl
running_phase Take e = cc
running_phase Wait e = cc
running_phase Resume e = cc
running_phase Done e = cc
running_phase Ended e = cc

-- a local instruction stands somewhere
pub some_slot : (code : PlacedCode) (s t : LocalState) → local_step code s ≡ Some t → (slot : Slot) × (fetched_in code s.pc ≡ Some slot)
some_slot code s t e = by_slot (fetched_in code s.pc) refl e
  where
    by_slot : (found : Option Slot) → fetched_in code s.pc ≡ found → executed_locally found s ≡ Some t → (slot : Slot) × (fetched_in code s.pc ≡ Some slot)
    by_slot None is e = cc
    by_slot (Some slot) is e = (slot, is)

-- one instruction more, which passes a mark or not
pub goes_on : (run : Inside) (state : LocalState) (mark : Bool) (passed : ℕ) → LocalInv run → local_step (placed_in run.table) run.state ≡ Some state →
    mark ≡ (sign_at run.table run.state.pc).mark → passed ≡ run.passed + cond mark 1 0 → is_running run.phase ≡ true →
    LocalInv (record run { state = state; made = run.made + 1; passed = passed })
goes_on run state mark passed stands step mark_is passed_is running =
    let marks : List ℕ = run.addresses.items in
    let one : run.made + 1 ≡ suc run.made = omega arith in
    let code : PlacedCode = placed_in run.table in
    let slot = some_slot code run.state state step in
    let tells : mark ≡ list_any (λ m. m == run.state.pc) marks =
    mark_is ∙ word_mark code run.state.pc slot.0 slot.1 run.table marks stands.table in
    record {
      table = stands.table;
      state = ap (local_run code run.first) one ∙ ap (then_locally code) stands.state ∙ step;
      passed =
          passed_is ∙ ap (λ (b : Bool). run.passed + cond b 1 0) tells
          ∙ ap (λ (n : ℕ). n + marks_at marks (Some run.state)) stands.passed
          ∙ ap (λ (found : Option LocalState). marks_passed marks code run.first run.made + marks_at marks found) (sym stands.state)
          ∙ ap (marks_passed marks code run.first) (sym one);
      few = few mark passed_is;
      running = λ _. running_phase run.phase running;
    }
  where
    few : (b : Bool) → passed ≡ run.passed + cond b 1 0 → passed ≤ run.made + 1
    few true e = omega (arith, e, stands.few)
    few false e = omega (arith, e, stands.few)

-- the signs tell how many marks are passed
pub signs_are : (table : SignTable) (addresses : List ℕ) → IsTableOf table table.start (slots_in table.entries.items) addresses →
    (first : LocalState) (n : ℕ) (last : LocalState) → local_run (placed_in table) first n ≡ Some last →
    signs_passed table first n ≡ marks_passed addresses (placed_in table) first n
signs_are table addresses is first zero last run = refl
signs_are table addresses is first (suc n) last run =
    let code : PlacedCode = placed_in table in
    let before = instruction_before code first n last run in
    let slot = some_slot code before.0 last before.2 in
    let tells : (sign_at table before.0.pc).mark ≡ list_any (λ m. m == before.0.pc) addresses =
    word_mark code before.0.pc slot.0 slot.1 table addresses is in
    ap (λ (k : ℕ). k + mark_at table (local_run code first n)) (signs_are table addresses is first n before.0 before.1)
    ∙ ap (λ (found : Option LocalState). marks_passed addresses code first n + mark_at table found) before.1
    ∙ ap (λ (b : Bool). marks_passed addresses code first n + cond b 1 0) tells
    ∙ ap (λ (found : Option LocalState). marks_passed addresses code first n + marks_at addresses found) (sym before.1)

-- a table of the same code words
pub copied : (old new : SignTable) (start : ℕ) (code : List Slot) (addresses : List ℕ) → new.start ≡ old.start → new.entries.items ≡ old.entries.items →
    IsTableOf old start code addresses → IsTableOf new start code addresses
copied old new start code addresses starts entries is = record {
  starts = starts ∙ is.starts;
  slots = ap slots_in entries ∙ is.slots;
  marks = λ k below. ap (λ (xs : List Entry). (sign_in xs k).mark) entries ∙ is.marks k below;
  fences = λ k slot there. ap (λ (xs : List Entry). (sign_in xs k).fence) entries ∙ is.fences k slot there;
  stores = λ k slot there. ap (λ (xs : List Entry). (sign_in xs k).store) entries ∙ is.stores k slot there;
  plains = λ k. subst (λ (xs : List Entry). (sign_in xs k).plain ≡ is_plain (sign_in xs k)) (sym entries) (is.plains k);
}

-- ---- A run whose hart is still as it was at its beginning

module _ (code : PlacedCode) (run : LocalCourse) (hart : Hart) (begins : IsAtBeginning run hart) (same : run.code ≡ code) where
  pub adopted_state : (made : ℕ) (s : LocalState) → made ≡ run.made → state_in run ≡ Some s → local_run code (local_state_of hart) made ≡ Some s
  adopted_state made s made_is e =
      ap (local_run code (local_state_of hart)) made_is ∙ ap (λ (c : PlacedCode). local_run c (local_state_of hart) run.made) (sym same)
      ∙ ap (λ (first : LocalState). local_run run.code first run.made) (sym begins.1) ∙ e

  pub adopted_marks : (marks : List ℕ) (made passed : ℕ) → made ≡ run.made → run.marks ≡ marks →
      passed ≡ marks_passed run.marks run.code run.first run.made → passed ≡ marks_passed marks code (local_state_of hart) made
  adopted_marks marks made passed made_is marks_are e =
      e ∙ ap (λ (ms : List ℕ). marks_passed ms run.code run.first run.made) marks_are
      ∙ ap (λ (c : PlacedCode). marks_passed marks c run.first run.made) same
      ∙ ap (λ (first : LocalState). marks_passed marks code first run.made) begins.1
      ∙ ap (marks_passed marks code (local_state_of hart)) (sym made_is)
