-- Recovery goes on along every event but a crash.
use Rattle.std.proofs.Common.{◌≡◌, ◌≢◌, inl, inr, ℕ, ◌/◌, ◌==◌, List, [], ◌∷◌, ◌++◌, set, length, refl, ap, sym, ◌∙◌, subst, true, Option, Some, None}
use Rattle.std.specs.Prelude.{slice_get, nat_lt}
use Rattle.std.proofs.lemmas.Bool.{cond_both}
use Rattle.std.proofs.lemmas.Option.{none-some, same_Some}
use Rattle.machine_events.specs.declared.event.Event.{Event}
use Rattle.machine_events.specs.declared.event.Event.TheVariants.{Step, Evict, Crash, Start}
use Rattle.ido_base.specs.Words.{Entry, entry_of, drained, stored}
use Rattle.ido_base.specs.Locks.{is_held_by, has_lock, least_held}
use Rattle.ido_base.specs.Layout.{aligned, byte_number}
use Rattle.log_schemes.specs.Layout.{in_range}
use Rattle.rv64_isa.specs.declared.object.Slot.{Slot}
use Rattle.rv64_isa.specs.declared.object.Slot.TheVariants.{Row, NoRow}
use Rattle.machine_model.specs.declared.phase.Phase.{Phase}
use Rattle.machine_model.specs.declared.phase.Phase.TheVariants.{Take, Wait, Resume, Run, Done, Ended}
use Rattle.rv64_isa.specs.Rows.{Effect, Continues, Loads, Stores, Cleans, Fences, Calls, row, read, next}
use Rattle.rv64_isa.specs.Programs.{fetched}
use Rattle.machine_model.specs.Machine.{Hart, World, Outcome, moved, with_holder, drain_one, access, cleaned, fenced, acquired, released, ended, called}
use Rattle.machine_model.specs.Machine.{applied, executed, hart_step, over_after, done_if_over, stepped, happens, after_event}
use Rattle.machine_model.specs.Frames.{IsWellFormedWorld, Touches, IsHeldOn, Stays, Takes, Gives}
use Rattle.machine_model.proofs.Public.{get-set_same, steps_touch}
use Rattle.flow_graph.proofs.Public.{get_cases}
use Rattle.log_states.specs.Logs.{Record, framed_of, nothing_recorded}
use Rattle.log_states.specs.Machines.{IsElsewhere}
use Rattle.log_states.proofs.Public.{contains_none, steps_keep, evictions_keep}
use Rattle.hart_runs.specs.Calls.{IsInPhase}
use Rattle.hart_runs.proofs.Public.{by_phase}
use Rattle.recovered_threads.specs.RecordDescriptions.{locks_of}
use Rattle.recovered_threads.specs.RecoveryStates.{HoldsAll, HoldsOnly, Gathers, HasGathered, AreGathering}
use Rattle.recovered_threads.specs.RecoveryStates.{IsRecoveredHart, AreGathered, AreRecovering, gathering}
use Rattle.recovered_threads.specs.RecoveryStates.{gathered, StoresApart}
use Rattle.recovered_threads.specs.RecoveryStates.{Awaits, all_have, one_takes}
use Rattle.recovered_threads.specs.Laws.{AreRecordsApart, EventsRecover}
use Rattle.recovered_threads.proofs.ChangedWorlds.{same_there, same_or_other}
use Rattle.recovered_threads.proofs.GatheringSteps.{gathers_on, gathered_on, takes_never_wait, waits_for_takers, gathered_go_on}
use Rattle.machine_model.specs.Schedule.{KeepsOn}

-- ---- A step of a hart that executes instructions leaves it executing, or done, or ended

GoneOn : Phase → Type 0
GoneOn Take = ⊥
GoneOn Wait = ⊥
GoneOn Resume = ⊥
GoneOn Run = Unit {0}
GoneOn Done = Unit {0}
GoneOn Ended = Unit {0}

HasGoneOn : (h : ℕ) → World → Type 0
HasGoneOn h v = (hart : Hart) → slice_get v.harts h ≡ Some hart → GoneOn hart.phase

module _ (w : World) (h : ℕ) (hart : Hart) (here : slice_get w.harts h ≡ Some hart) (runs : GoneOn hart.phase) where
  stays : HasGoneOn h w
  unfolding HasGoneOn
  stays other there = subst (λ (x : Hart). GoneOn x.phase) (same_there (slice_get w.harts h) hart other here there) runs

  moves : (v : World) (new : Hart) → v.harts ≡ w.harts → GoneOn new.phase → HasGoneOn h (moved v h new).0
  unfolding HasGoneOn
  moves v new same goes other there =
      let old : slice_get v.harts h ≡ Some hart = ap (λ (hs : List Hart). slice_get hs h) same ∙ here in
      subst (λ (x : Hart). GoneOn x.phase) (same_there (slice_get (set v.harts h new) h) new other (get-set_same v.harts h new hart old) there) goes

  drains : (queue : List Entry) → HasGoneOn h (drain_one w h hart queue).0
  drains [] = stays
  drains (e ∷ es) = moves (record w { words = drained w.words e }) (record hart { queue = es }) refl runs

  fences : (queue : List Entry) → HasGoneOn h (fenced w h hart queue).0
  fences [] = moves w (record hart { pc = next hart.pc }) refl runs
  fences (e ∷ es) = drains (e ∷ es)

  accesses : (address bytes : ℕ) (o : Outcome) → HasGoneOn h o.0 → HasGoneOn h (access w address bytes o).0
  accesses address bytes o k =
      cond_both (in_range w.log (length w.harts) address bytes) _ _ (λ (x : Outcome). HasGoneOn h x.0)
      (λ _. cond_both (aligned address bytes) _ _ (λ (x : Outcome). HasGoneOn h x.0) (λ _. k) (λ _. stays))
      (λ _. stays)

  cleans : (line : ℕ) → HasGoneOn h (cleaned w h hart line).0
  cleans line =
      cond_both (nat_lt (length hart.queue) 16) _ _ (λ (x : Outcome). HasGoneOn h x.0)
      (λ e. moves w (record hart { pc = next hart.pc; queue = hart.queue ++ entry_of w.words line ∷ [] }) refl runs)
      (λ _. drains hart.queue)

  acquires : (lock : ℕ) (holder : Option (Option ℕ)) → HasGoneOn h (acquired w h hart lock holder).0
  acquires lock None = stays
  acquires lock (Some None) = moves (with_holder w lock (Some h)) (record hart { pc = next hart.pc }) refl runs
  acquires lock (Some (Some holder)) = stays

  releases : (lock : ℕ) (holder : Option (Option ℕ)) → HasGoneOn h (released w h hart lock holder).0
  releases lock None = stays
  releases lock (Some holder) =
      cond_both (is_held_by h holder) _ _ (λ (x : Outcome). HasGoneOn h x.0)
      (λ _. moves (with_holder w lock None) (record hart { pc = next hart.pc }) refl runs) (λ _. stays)

  ends : (lock : Option ℕ) → HasGoneOn h (ended w h hart lock).0
  unfolding GoneOn
  ends None = moves w (record hart { pc = next hart.pc; phase = Ended }) refl tt
  ends (Some lock) = stays

  calls : (number lock : ℕ) → HasGoneOn h (called w h hart number lock).0
  calls number lock =
      cond_both (number == 1) _ _ (λ (x : Outcome). HasGoneOn h x.0) (λ _. acquires lock (slice_get w.holders lock))
      (λ _. cond_both (number == 2) _ _ (λ (x : Outcome). HasGoneOn h x.0) (λ _. releases lock (slice_get w.holders lock))
      (λ _. cond_both (number == 3) _ _ (λ (x : Outcome). HasGoneOn h x.0) (λ _. ends (least_held w.holders h)) (λ _. stays)))

  applies : (effect : Effect) → HasGoneOn h (applied w h hart effect).0
  applies (Continues registers pc) = moves w (record hart { registers = registers; pc = pc }) refl runs
  applies (Loads address bytes signed register) = accesses address bytes _ (moves w _ refl runs)
  applies (Stores address bytes value) =
      accesses address bytes _ (moves (record w { words = stored w.words (byte_number address) bytes value }) (record hart { pc = next hart.pc }) refl runs)
  applies (Cleans address) = accesses address 1 _ (cleans (byte_number address / 64))
  applies Fences = fences hart.queue
  applies Calls = calls (read hart.registers 17) (read hart.registers 10)

  executes : (fetched : Option Slot) → HasGoneOn h (executed w h hart fetched).0
  executes None = stays
  executes (Some (NoRow word)) = stays
  executes (Some (Row instr)) = applies (row instr hart.registers hart.pc)

settles : (h : ℕ) (w v : World) (o : Option Hart) → slice_get v.harts h ≡ o → HasGoneOn h v → HasGoneOn h (done_if_over w h o v)
unfolding HasGoneOn GoneOn
settles h w v None e goes = goes
settles h w v (Some hart) e goes =
    cond_both (over_after w v h) _ _ (λ (u : World). HasGoneOn h u)
    (λ _ other there. subst (λ (x : Hart). GoneOn x.phase) (same_there (slice_get (set v.harts h (record hart { phase = Done })) h)
    (record hart { phase = Done }) other (get-set_same v.harts h (record hart { phase = Done }) hart e) there) tt)
    (λ _. goes)

running_goes : (program : List (List Slot)) (w : World) (h : ℕ) (hart : Hart) → slice_get w.harts h ≡ Some hart → hart.phase ≡ Run →
    HasGoneOn h (after_event program w (Step h))
unfolding GoneOn
running_goes program w h hart here runs =
    let o : Outcome = hart_step program w h hart in
    let goes : HasGoneOn h o.0 = executes w h hart here (subst (λ (phase : Phase). GoneOn phase) (sym runs) tt) (fetched program h hart.pc) in
    subst (λ (x : Outcome). HasGoneOn h x.0) (sym (by_phase program w h hart here Run runs)) (settles h w o.0 (slice_get o.0.harts h) refl goes)

-- ---- A ready hart along the events of others

module _ (program : List (List Slot)) (w : World) (g h : ℕ) (r : Record) (sound : IsWellFormedWorld w) (other : h ≢ g) where
  abbrev after : World
  after = after_event program w (Step g)

  touches : Touches g w after
  touches = steps_touch program w g sound

  still_all : HoldsAll w h r → HoldsAll after h r
  still_all all lock holder there has = by (touches.holders lock)
    where
      by : IsHeldOn g (slice_get w.holders lock) (slice_get after.holders lock) → holder ≡ Some h
      by (Stays same) = all lock holder (sym same ∙ there) has
      by (Takes old new) = absurd (none-some h (all lock None old has))
      by (Gives old new) = absurd (other (sym (same_Some g h (all lock (Some g) old has))))

  still_only : HoldsOnly w h r → HoldsOnly after h r
  still_only only lock there = by (touches.holders lock)
    where
      by : IsHeldOn g (slice_get w.holders lock) (slice_get after.holders lock) → has_lock (locks_of r) lock ≡ true
      by (Stays same) = only lock (sym same ∙ there)
      by (Takes old new) = absurd (other (sym (same_Some g h (same_there (slice_get after.holders lock) (Some g) (Some h) new there))))
      by (Gives old new) = absurd (none-some h (same_there (slice_get after.holders lock) None (Some h) new there))

  -- the other stores nothing to this log, whichever words of it are named
  apart_by : (named : List ℕ) → IsElsewhere program w named g h → IsElsewhere program w (framed_of r) g h
  apart_by named elsewhere hart address bytes value is i inside meets = absurd (other (sym (elsewhere hart address bytes value is i inside meets).0))

  pub ready_stays : {named : List ℕ} → IsElsewhere program w named g h → IsRecoveredHart w h r → IsRecoveredHart after h r
  ready_stays {named} elsewhere is = record {
    inside = is.inside;
    all = still_all is.all;
    only = still_only is.only;
    log = steps_keep program (framed_of r) g h nothing_recorded r w [] sound is.log (λ word none. absurd (contains_none word none)) (λ word has. has)
        (apart_by named elsewhere);
  }

-- ---- Events

-- of a hart that has gone on nothing is said
gone_gathered : (v : World) (h : ℕ) (r : Record) (phase : Phase) → GoneOn phase → HasGathered v h r phase
unfolding GoneOn
gone_gathered v h r Take g = absurd g
gone_gathered v h r Wait g = absurd g
gone_gathered v h r Resume g = absurd g
gone_gathered v h r Run g = tt
gone_gathered v h r Done g = tt
gone_gathered v h r Ended g = tt

module _ (program : List (List Slot)) (w : World) (records : ℕ → Record) (sound : IsWellFormedWorld w) where
  running_gathered : (g : ℕ) (hart : Hart) → slice_get w.harts g ≡ Some hart → hart.phase ≡ Run → ((h : ℕ) → h ≢ g → IsElsewhere program w [] g h) →
      AreGathered w records →
      AreGathered (after_event program w (Step g)) records
  unfolding HasGoneOn
  running_gathered g hart here runs elsewhere are = record { each = each }
    where
      each : (h : ℕ) (new : Hart) → slice_get (after_event program w (Step g)).harts h ≡ Some new →
          HasGathered (after_event program w (Step g)) h (records h) new.phase
      each h new there = elim (same_or_other h g) [
        | inl same ↦ gone_gathered (after_event program w (Step g)) h (records h) new.phase
            (running_goes program w g hart here runs new (ap (slice_get (after_event program w (Step g)).harts) (sym same) ∙ there))
        | inr other ↦ gathered_on w (after_event program w (Step g)) h (records h) new.phase
            (ready_stays program w g h (records h) sound other (elsewhere h other))
            (are.each h new (sym ((steps_touch program w g sound).others h other) ∙ there))
      ]

  -- an eviction
  evicted_gathering : (line mask : ℕ) → AreGathering w records → AreGathering (after_event program w (Evict line mask)) records
  unfolding happens
  evicted_gathering line mask are = record {
    each = λ h hart there. gathers_on w (after_event program w (Evict line mask)) h (records h) hart.phase (λ all. all) (are.each h hart there);
    logs = λ h below. evictions_keep program line mask h nothing_recorded (records h) w [] (are.logs h below);
    held = λ lock h there. let own = are.held lock h there in record { exists = own.exists; has = own.has };
  }

  evicted_gathered : (line mask : ℕ) → AreGathered w records → AreGathered (after_event program w (Evict line mask)) records
  unfolding happens
  evicted_gathered line mask are = record {
    each = λ h hart there. gathered_on w (after_event program w (Evict line mask)) h (records h) hart.phase
        (λ is. record {
          inside = is.inside;
          all = is.all;
          only = is.only;
          log = evictions_keep program line mask h nothing_recorded (records h) w [] is.log;
        })
        (are.each h hart there);
  }

  -- a step
  same_world : (g : ℕ) (o : Outcome) → happens program w (Step g) ≡ o → o.0 ≡ w → AreRecovering w records →
      AreRecovering (after_event program w (Step g)) records
  same_world g o does same are = subst (λ (v : World). AreRecovering v records) (sym (ap (λ (x : Outcome). x.0) does ∙ same)) are

  awaited : (g : ℕ) → AreGathering w records → Awaits program w records g → AreRecovering (after_event program w (Step g)) records
  awaited g are (all_have none moves resumes after) = gathered after
  awaited g are (one_takes taking takes does) = same_world g _ does refl (gathering are)

  module _ (g : ℕ) (hart : Hart) (here : slice_get w.harts g ≡ Some hart) (apart : AreRecordsApart (length w.harts) records)
      (elsewhere : (h : ℕ) → h ≢ g → IsElsewhere program w [] g h) where
    in_phase : (phase : Phase) → hart.phase ≡ phase → IsInPhase w g phase
    in_phase phase is = record { hart = hart; here = here; phase_is = is }

    step_gathering : (phase : Phase) → hart.phase ≡ phase → AreGathering w records → Gathers w g (records g) phase →
        AreRecovering (after_event program w (Step g)) records
    step_gathering Take is are of = gathering (takes_never_wait program w records g are apart (in_phase Take is)).1
    step_gathering Wait is are of = awaited g are (waits_for_takers program w records g are (in_phase Wait is))
    step_gathering Resume is are of = absurd of
    step_gathering Run is are of = absurd of
    step_gathering Done is are of = same_world g _ (by_phase program w g hart here Done is) refl (gathering are)
    step_gathering Ended is are of = absurd of

    step_gathered : (phase : Phase) → hart.phase ≡ phase → AreGathered w records → HasGathered w g (records g) phase →
        AreRecovering (after_event program w (Step g)) records
    step_gathered Take is are of = absurd of
    step_gathered Wait is are of = gathered (gathered_go_on program w records g Wait are (inl refl) (in_phase Wait is)).1
    step_gathered Resume is are of = gathered (gathered_go_on program w records g Resume are (inr refl) (in_phase Resume is)).1
    step_gathered Run is are of = gathered (running_gathered g hart here is elsewhere are)
    step_gathered Done is are of = same_world g _ (by_phase program w g hart here Done is) refl (gathered are)
    step_gathered Ended is are of = same_world g _ (by_phase program w g hart here Ended is) refl (gathered are)

    steps : AreRecovering w records → AreRecovering (after_event program w (Step g)) records
    steps (gathering are) = step_gathering hart.phase refl are (are.each g hart here)
    steps (gathered are) = step_gathered hart.phase refl are (are.each g hart here)

  -- a step of a hart that isn't there changes nothing
  no_hart : (g : ℕ) → slice_get w.harts g ≡ None → AreRecovering w records → AreRecovering (after_event program w (Step g)) records
  unfolding happens
  no_hart g none are = subst (λ (v : World). AreRecovering v records) (sym (ap (λ (o : Option Hart). (stepped program w g o).0) none)) are

  by_event : (event : Event) → AreRecordsApart (length w.harts) records → KeepsOn event → StoresApart program w event → AreRecovering w records →
      AreRecovering (after_event program w event) records
  by_event (Step g) apart on elsewhere are = elim (get_cases w.harts g) [
    | inl none ↦ no_hart g none are
    | inr found ↦ steps g found.0 found.1 apart (λ h. elsewhere g h refl) are
  ]
  by_event (Evict line mask) apart on elsewhere (gathering are) = gathering (evicted_gathering line mask are)
  by_event (Evict line mask) apart on elsewhere (gathered are) = gathered (evicted_gathered line mask are)
  by_event Crash apart on elsewhere are = absurd on
  by_event Start apart on elsewhere are = absurd on

pub events_recover : EventsRecover
events_recover program w records event sound apart on elsewhere are = by_event program w records sound event apart on elsewhere are
