-- A step of a hart whose next instruction is local.
use Rattle.std.proofs.Common.{◌≡◌, ◌⊎◌, ℕ, List, length, slice_get, Option, Some, None, Bool}
use Rattle.std.proofs.Common.{true, false, not, ◌&&◌, if◌then◌else◌, refl, ap, sym, subst, ◌∙◌, arith, inl, inr}
use Rattle.std.proofs.lemmas.Bool.{cases_eq}
use Rattle.machine_events.specs.declared.event.Event.TheVariants.{Step}
use Rattle.machine_events.specs.declared.event.Reply.TheVariants.{Moved}
use Rattle.ido_base.specs.Words.{word_at, last_position}
use Rattle.ido_base.specs.Locks.{holds_none}
use Rattle.rv64_isa.specs.declared.object.Slot.{Slot}
use Rattle.rv64_isa.specs.declared.object.Slot.TheVariants.{Row, NoRow}
use Rattle.machine_model.specs.declared.phase.Phase.TheVariants.{Run, Done}
use Rattle.rv64_isa.specs.Rows.{Effect, Continues, Loads, Stores, Cleans, Fences, Calls, row}
use Rattle.rv64_isa.specs.Programs.{fetched}
use Rattle.machine_model.specs.Machine.{Hart, World, Outcome, happens, stepped, phase_step, run_step, hart_step, executed}
use Rattle.machine_model.specs.Machine.{applied, moved, with_hart, done_if_over, over_after, after_event, reply_to}
use Rattle.machine_model.specs.Schedule.{Steps, completes, completing, has_moved, is_fence, is_mark, is_point_store, is_running}
use Rattle.machine_model.specs.Schedule.{finishes_fence, stores_point, steps_after, with_step, with_all_kept}
use Rattle.hart_core.specs.declared.local.LocalState.{LocalState}
use Rattle.hart_core.specs.LocalSteps.{placed_code, continued, executed_locally, local_step}
use Rattle.hart_core.proofs.Public.{found_set}
use Rattle.ido_machine.specs.Harts.{local_state_of, with_local_state}
use Rattle.run_tracker.specs.links.AccountRepresentation.{AreOpen, point_word}
use Rattle.run_tracker.proofs.Events.{begun_if, noted_is}
use Rattle.run_tracker.proofs.EventCounts.{completes-other}
use Rattle.run_tracker.proofs.SignObservations.{completes_one, one_moved, passes_one, slot_tells}
use Rattle.run_tracker.proofs.StepsStayOpen.{all_kept_none, open-noted}

-- a hart that holds the same locks as before isn't over
not_over : (recovering none : Bool) → (recovering && (not none && none)) ≡ false
not_over false none = refl
not_over true true = refl
not_over true false = refl

module _ (program : List (List Slot)) (w : World) (h : ℕ) (hart : Hart) (s : LocalState) (there : slice_get w.harts h ≡ Some hart)
    (running : hart.phase ≡ Run) (local : local_step (placed_code program h) (local_state_of hart) ≡ Some s) where
  -- the hart after it
  abbrev pub gone : Hart
  gone = with_local_state hart s

  effect_goes : (effect : Effect) → continued effect ≡ Some s → applied w h hart effect ≡ moved w h gone
  effect_goes (Continues registers pc) e =
      let same : LocalState = record { registers = registers; pc = pc } in
      let is : same ≡ s = cc in
      ap (λ (t : LocalState). moved w h (with_local_state hart t)) is
  effect_goes (Loads address bytes signed register) e = cc
  effect_goes (Stores address bytes value) e = cc
  effect_goes (Cleans address) e = cc
  effect_goes Fences e = cc
  effect_goes Calls e = cc

  slot_goes : (slot : Option Slot) → executed_locally slot (local_state_of hart) ≡ Some s → executed w h hart slot ≡ moved w h gone
  slot_goes None e = cc
  slot_goes (Some (NoRow word)) e = cc
  slot_goes (Some (Row instr)) e = effect_goes (row instr hart.registers hart.pc) e

  run_goes : run_step program w h hart ≡ moved w h gone
  run_goes =
      let o : hart_step program w h hart ≡ moved w h gone = slot_goes (fetched program h hart.pc) local in
      let over : over_after w (with_hart w h gone) h ≡ false = not_over w.recovering (holds_none w.holders h) in
      let done : World = with_hart (with_hart w h gone) h (record gone { phase = Done }) in
      let after : Option Hart → Outcome = λ found. (done_if_over w h found (with_hart w h gone), Moved) in
      let ends : Bool → Outcome = λ b. ((if b then done else with_hart w h gone), Moved) in
      ap (λ (x : Outcome). (done_if_over w h (slice_get x.0.harts h) x.0, x.1)) o ∙ ap after (found_set w.harts h hart gone there) ∙ ap ends over

  goes : happens program w (Step h) ≡ moved w h gone
  unfolding happens
  goes = ap (stepped program w h) there ∙ ap (phase_step program w h hart) running ∙ run_goes

  pub world_is : after_event program w (Step h) ≡ with_hart w h gone
  world_is = ap (λ (o : Outcome). o.0) goes

  pub reply_is : reply_to program w (Step h) ≡ Moved
  reply_is = ap (λ (o : Outcome). o.1) goes

  one : completing program w h ≡ Some hart
  one = one_moved program w h hart there (ap is_running running) (ap has_moved reply_is)

  -- ---- It neither stores the point nor finishes a fence

  module _ (test : Effect → Bool) (never : (registers : List ℕ) (pc : ℕ) → test (Continues registers pc) ≡ false) where
    effect_not : (effect : Effect) → continued effect ≡ Some s → test effect ≡ false
    effect_not (Continues registers pc) e = never registers pc
    effect_not (Loads address bytes signed register) e = cc
    effect_not (Stores address bytes value) e = cc
    effect_not (Cleans address) e = cc
    effect_not Fences e = cc
    effect_not Calls e = cc

    slot_not : (slot : Option Slot) → executed_locally slot (local_state_of hart) ≡ Some s → slot_tells test hart slot ≡ false
    slot_not None e = cc
    slot_not (Some (NoRow word)) e = cc
    slot_not (Some (Row instr)) e = effect_not (row instr hart.registers hart.pc) e

    completes_not : completes test program w (Step h) h ≡ false
    completes_not = completes_one program w h test hart (fetched program h hart.pc) one refl ∙ slot_not (fetched program h hart.pc) local

  none_completes : (test : ℕ → Effect → Bool) → ((g : ℕ) (registers : List ℕ) (pc : ℕ) → test g (Continues registers pc) ≡ false) →
      (g : ℕ) → completes (test g) program w (Step h) g ≡ false
  none_completes test never g = by_place (cases_eq g h)
    where
      by_place : (g ≡ h) ⊎ (g ≡ h → ⊥) → completes (test g) program w (Step h) g ≡ false
      by_place (inl same) = subst (λ (k : ℕ). completes (test k) program w (Step h) k ≡ false) (sym same) (completes_not (test h) (never h))
      by_place (inr ne) = completes-other (test g) program w h g ne

  pub no_point : (g : ℕ) → stores_point program w (Step h) g ≡ false
  no_point = none_completes (λ g. is_point_store w.log g) (λ g registers pc. refl)

  pub no_fence : (g : ℕ) → finishes_fence program w (Step h) g ≡ false
  no_fence = none_completes (λ g. is_fence) (λ g registers pc. refl)

  -- ---- It begins a step of the source where it is a mark, and none is kept

  module _ (marks : List (List ℕ)) (steps : Steps) (is_open : AreOpen (length program) w.log w.words steps) where
    with_step-is : with_step marks program w h steps ≡ begun_if (is_mark marks h hart.pc) h steps
    with_step-is =
        sym (noted_is marks program w h steps (is_mark marks h hart.pc) false
        (last_position (word_at (after_event program w (Step h)).words (point_word w.log h)))
        (sym (passes_one program w h marks hart one)) (sym (no_point h)) refl)

    pub steps_are : steps_after marks program w (Step h) steps ≡ begun_if (is_mark marks h hart.pc) h steps
    unfolding steps_after
    steps_are =
        ap (λ (v : World). with_all_kept w.log v.words (length program) (with_step marks program w h steps)) world_is
        ∙ ap (with_all_kept w.log w.words (length program)) with_step-is
        ∙ all_kept_none (length program) w.log w.words (length program) (begun_if (is_mark marks h hart.pc) h steps) (omega arith)
        (open-noted (length program) w.log w.words w.words (is_mark marks h hart.pc) false h 0 steps (λ e. cc) (λ j. refl) is_open)
