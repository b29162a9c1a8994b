-- Steps that store nothing to a thread's log.
use Rattle.std.proofs.Common.{◌≡◌, ℕ, ◌+◌, ◌*◌, ◌/◌, ◌%◌, List, ap, arith, refl, sym, ◌∙◌, subst}
use Rattle.std.proofs.lemmas.Bool.{true≢false}
use Rattle.ido_base.specs.Layout.{byte_number}
use Rattle.log_schemes.specs.Layout.{frame_at, log_of}
use Rattle.log_schemes.specs.SchemeFacts.{frame_index}
use Rattle.rv64_isa.specs.declared.object.Slot.{Slot}
use Rattle.rv64_isa.specs.Rows.{Effect, Stores}
use Rattle.machine_model.specs.Machine.{Hart, World}
use Rattle.machine_model.specs.Schedule.{effect_at}
use Rattle.log_states.specs.Logs.{log_word}
use Rattle.log_states.specs.Stages.{is_store}
use Rattle.log_states.specs.Machines.{IsNext, IsLogEffect, StoresWord, CleansLine, PassesFence, StoresNothing, StoresToFrame, StoresToVariable}
use Rattle.log_states.specs.Machines.{StoresToOtherLog}
use Rattle.log_states.proofs.Heads.{address_of, bytes_of}
use Rattle.log_states.proofs.Numbers.{word_of_log, variables_are_apart, logs_are_apart, frame_in_log, whole_frame_word}
use Rattle.log_states.proofs.Machines.{some_same}

-- a hart has one next effect
pub one_effect : (program : List (List Slot)) (w : World) (g : ℕ) (hart other : Hart) (e f : Effect) → IsNext program w g hart e →
    IsNext program w g other f → e ≡ f
one_effect program w g hart other e f one two =
    let same : hart ≡ other = some_same hart other (sym one.here ∙ two.here) in
    some_same e f (sym one.is ∙ ap (λ (x : Hart). effect_at program g x) same ∙ two.is)

pub stores_nothing : StoresNothing
stores_nothing program named w g thread hart effect one none other address bytes value two i below meets =
    let same : effect ≡ Stores address bytes value = one_effect program w g hart other effect (Stores address bytes value) one two in
    absurd (true≢false (sym (ap is_store same) ∙ none))

pub stores_to_variable : StoresToVariable
stores_to_variable program named w g thread hart place count stored one inside other address bytes value two i below meets =
    let same : Stores place count stored ≡ Stores address bytes value =
    one_effect program w g hart other (Stores place count stored) (Stores address bytes value) one two in
    absurd (variables_are_apart w.log thread place i inside (ap (λ (a : ℕ). byte_number a / 8) (ap address_of same) ∙ meets))

pub stores_to_other_log : StoresToOtherLog
stores_to_other_log program named w g thread hart effect apart one is other address bytes value two i below meets =
    absurd (by is (one_effect program w g hart other effect (Stores address bytes value) one two))
  where
    by : IsLogEffect w.log g effect → effect ≡ Stores address bytes value → ⊥
    by (StoresWord k v inside here) same =
        let place : address ≡ log_of w.log g + 8 * k = ap address_of (sym same ∙ here) in
        let word : byte_number (log_of w.log g + 8 * k) / 8 ≡ log_word w.log g k = word_of_log w.log g k in
        logs_are_apart w.log thread g i k apart below inside (sym word ∙ (ap (λ (a : ℕ). byte_number a / 8) (sym place) ∙ meets))
    by (CleansLine k inside here) same = absurd (true≢false (sym (ap is_store same) ∙ ap is_store here))
    by (PassesFence here) same = absurd (true≢false (sym (ap is_store same) ∙ ap is_store here))

pub stores_to_frame : StoresToFrame
stores_to_frame program named w thread hart word stored one is unnamed other address bytes value two i below meets =
    let same : Stores (frame_at w.log thread word) 8 stored ≡ Stores address bytes value =
    one_effect program w thread hart other (Stores (frame_at w.log thread word) 8 stored) (Stores address bytes value) one two in
    let place : frame_at w.log thread word ≡ address = ap address_of same in
    let index : i ≡ frame_index word = omega (arith, ap (λ (a : ℕ). byte_number a / 8) place, meets, frame_in_log w.log thread word) in (
      refl,
      record { word = word; is = index; in_frame = is; unnamed = unnamed },
      subst (λ (a : ℕ). byte_number a % 8 ≡ 0) place (whole_frame_word w.log thread word),
      sym (ap bytes_of same),
    )
