-- Records follow locks.
use Rattle.std.proofs.Common.{◌≡◌, ◌≢◌, ◌⊎◌, inl, inr, refl, ℕ, ◌<◌, List, [], length, ap, sym, ◌∙◌, subst, Bool, false, Option, Some}
use Rattle.std.proofs.Common.{slice_get, arith, ◌==◌, if◌then◌else◌}
use Rattle.std.proofs.lemmas.Bool.{false_from_ne_true, true≢false}
use Rattle.std.proofs.lemmas.Option.{slice_get_within}
use Rattle.machine_events.specs.declared.event.Event.TheVariants.{Step}
use Rattle.ido_base.specs.Locks.{has_lock}
use Rattle.ido_base.specs.Words.{Word}
use Rattle.log_schemes.specs.declared.log.Log.{Log}
use Rattle.machine_model.specs.declared.phase.Phase.{Phase}
use Rattle.machine_model.specs.declared.phase.Phase.TheVariants.{Take, Wait, Resume, Run, Done, Ended}
use Rattle.machine_model.specs.Machine.{Hart, World, after_event, is_taking, record_of}
use Rattle.machine_model.proofs.Public.{log_stays}
use Rattle.flow_graph.proofs.Public.{found_in}
use Rattle.hart_runs.specs.Calls.{IsInPhase}
use Rattle.recovery_semantics.specs.Laws.{HasUnlocked}
use Rattle.recovery_semantics.proofs.Public.{held_before}
use Rattle.recovered_threads.specs.RecordDescriptions.{locks_of}
use Rattle.recovered_threads.specs.RecoveryStates.{Gathers, HasGathered, HoldsAll, HoldsOnly}
use Rattle.recovered_threads.proofs.Public.{locks_are_held, logs_have_locks}
use Rattle.thread_runs.specs.Laws.{MarksPass}
use Rattle.crash_simulation.specs.AbstractRuns.{kept_of, now_of}
use Rattle.crash_simulation.specs.AccountRelation.{MachinesResume}
use Rattle.crash_simulation.specs.Laws.{EventsStand}
use Rattle.crash_simulation.specs.SimulationRelation.{AreHeld, AreLocked, Simulates, gathered, gathering, records_of}
use Rattle.crash_simulation.specs.Systems.{System, IsSystem, flat_of, thread_count}
use Rattle.crash_simulation.specs.ThreadGhosts.{Rests, ThreadGhost}
use Rattle.crash_simulation.proofs.Public.{as_source, giving_of, left, lates, left_describes, left_kept, log_of, orderly, phase_of, resumed}
use Rattle.compiler_correctness.specs.Compilation.{HartHolds}
use Rattle.compiler_correctness.specs.Laws.{MachinesRecord, translation_of}
use Rattle.compiler_correctness.specs.Translations.{world}
use Rattle.resumption_facts.specs.RecordsFollowLocks.{IsRecorded, RecordsFollowLocks}
use Rattle.resumption_facts.proofs.Calls.{CallsNow, LeavesWords, call_leaves}
use Rattle.resumption_facts.proofs.Releases.{gives_at_call}

module _ (y : System) (s : IsSystem y) (w : World) (stands : Simulates y s w) (h : ℕ) (below : h < thread_count y) where
  open stands use {abstract as b}

  abbrev ghost : ThreadGhost
  ghost = stands.ghosts h

  abbrev IsKept : ℕ → Type 0
  IsKept lock = slice_get b.config.kept.holders lock ≡ Some (Some h)

  exists : h < length (now_of y b).graph_threads
  exists =
      subst (λ (k : ℕ). k < length (now_of y b).graph_threads) (s.codes.number h below)
      (slice_get_within (now_of y b).graph_threads _ (stands.each h below).graph_thread (stands.each h below).walks)

  -- what the thread holds by what is kept its hart holds, once harts have gathered their locks
  pub kept_is_held : AreHeld w stands.ghosts (now_of y b) → (lock : ℕ) → IsKept lock → HartHolds w h lock
  kept_is_held held lock has = elim (held_before (flat_of y) b.config h lock (resumed y s b).resumed.invariant has) [
    | inl still ↦ held.holds lock h (ap (λ (hs : List (Option ℕ)). slice_get hs lock) (as_source y s b).now_matches.holders ∙ still)
    | inr unlocked ↦
        held.giving lock h exists
        (giving_of y w b (s.codes.each h below) ghost lock (subst (λ (k : ℕ). HasUnlocked b.config k lock) (sym (s.codes.number h below)) unlocked)
        (stands.each h below))
  ]

  -- what is recorded is the thread's by what is kept
  pub recorded_is_kept : (lock : ℕ) → IsRecorded w h lock → IsKept lock
  recorded_is_kept lock among =
      ap (λ (hs : List (Option ℕ)). slice_get hs lock) (sym (as_source y s b).kept_matches.holders)
      ∙ ((locks_are_held y.plan (s.codes.each h below) (kept_of y b) (lates y s w stands h) (left y s w stands h) s.plan (orderly y s b)
      (left_describes y s w stands h below) lock).0
      (ap (λ (locks : List ℕ). has_lock locks lock) (sym (logs_have_locks h ghost.old ghost.new w ghost.rest (log_of y s w stands h below))) ∙ among)
      ∙ ap (λ (k : ℕ). Some (Some k)) (s.codes.number h below))

  -- ---- In recovery

  -- while it rests its record is the new one's
  record_rests : Rests y b.config (s.codes.each h below).thread.number ghost → record_of w.log w.words h ≡ locks_of ghost.new
  record_rests rests =
      logs_have_locks h ghost.old ghost.new w ghost.rest (log_of y s w stands h below)
      ∙ ap locks_of (left_kept y s w stands h below ∙ ap (λ (done : Bool). if done then ghost.new else ghost.old) rests.committed)

  -- a lock of what is kept is there
  there : (lock : ℕ) → IsKept lock → (holder : Option ℕ) × (slice_get w.holders lock ≡ Some holder)
  there lock has =
      let inside = slice_get_within b.config.kept.holders lock _ has in
      let count : length b.config.kept.holders ≡ length (flat_of y).mutexes =
      ap (λ (hs : List (Option ℕ)). length hs) (sym (as_source y s b).kept_matches.holders) ∙ (orderly y s b).locks in
      found_in w.holders lock (omega (arith, inside, count, stands.machine.mutexes))

  all_held : Rests y b.config (s.codes.each h below).thread.number ghost → HoldsAll w h ghost.new → (lock : ℕ) → IsKept lock → IsRecorded w h lock →
      HartHolds w h lock
  all_held rests all lock has among =
      let at = there lock has in
      at.1 ∙ ap (λ (o : Option ℕ). Some o) (all lock at.0 at.1 (ap (λ (locks : List ℕ). has_lock locks lock) (sym (record_rests rests)) ∙ among))

  module _ (hart : Hart) (here : slice_get w.harts h ≡ Some hart) where
    in_phase : (phase : Phase) → hart.phase ≡ phase → IsInPhase w h phase
    in_phase phase is = record { hart = hart; here = here; phase_is = is }

    -- where it waits or is resumed it holds them all
    waiting : hart.phase ≡ Wait → AreLocked y w b stands.ghosts → HoldsAll w h ghost.new
    waiting is (gathering none gathers) = (subst (Gathers w h (records_of stands.ghosts h)) is (gathers.each h hart here)).1
    waiting is (gathered ag held) = (subst (HasGathered w h (records_of stands.ghosts h)) is (ag.each h hart here)).all

    resuming : hart.phase ≡ Resume → AreLocked y w b stands.ghosts → HoldsAll w h ghost.new × HoldsOnly w h ghost.new
    resuming is (gathering none gathers) = absurd (subst (Gathers w h (records_of stands.ghosts h)) is (gathers.each h hart here))
    resuming is (gathered ag held) = let r = subst (HasGathered w h (records_of stands.ghosts h)) is (ag.each h hart here) in (r.all, r.only)

    running : (hart.phase ≡ Run) ⊎ (hart.phase ≡ Ended) → AreLocked y w b stands.ghosts → AreHeld w stands.ghosts (now_of y b)
    running (inl is) (gathering none gathers) = absurd (subst (Gathers w h (records_of stands.ghosts h)) is (gathers.each h hart here))
    running (inr is) (gathering none gathers) = absurd (subst (Gathers w h (records_of stands.ghosts h)) is (gathers.each h hart here))
    running is (gathered ag held) = held

    none_recorded : hart.phase ≡ Done → (lock : ℕ) → IsRecorded w h lock → ⊥
    none_recorded is lock among =
        let rests = phase_of y s w h stands Done (in_phase Done is) below in
        let empty : locks_of ghost.new ≡ [] = ap (λ (p : ℕ). if p == 0 then [] else ghost.new.locks) rests.1 in
        true≢false (sym among ∙ ap (λ (locks : List ℕ). has_lock locks lock) (record_rests rests.0 ∙ empty))

    by_phase : (phase : Phase) → hart.phase ≡ phase → phase ≢ Take → (lock : ℕ) → IsKept lock → IsRecorded w h lock → HartHolds w h lock
    by_phase Take is taken lock has among = absurd (taken refl)
    by_phase Wait is taken lock has among = all_held (phase_of y s w h stands Wait (in_phase Wait is) below) (waiting is stands.locks) lock has among
    by_phase Resume is taken lock has among = all_held (phase_of y s w h stands Resume (in_phase Resume is) below) (resuming is stands.locks).0 lock has among
    by_phase Run is taken lock has among = kept_is_held (running (inl is) stands.locks) lock has
    by_phase Done is taken lock has among = absurd (none_recorded is lock among)
    by_phase Ended is taken lock has among = kept_is_held (running (inr is) stands.locks) lock has

    pub recorded_is_held : hart.phase ≢ Take → (lock : ℕ) → IsRecorded w h lock → HartHolds w h lock
    recorded_is_held taken lock among = by_phase hart.phase refl taken lock (recorded_is_kept lock among) among

    pub held_is_recorded : hart.phase ≡ Resume → (lock : ℕ) → HartHolds w h lock → IsRecorded w h lock
    held_is_recorded is lock holds =
        ap (λ (locks : List ℕ). has_lock locks lock) (record_rests (phase_of y s w h stands Resume (in_phase Resume is) below))
        ∙ (resuming is stands.locks).1 lock holds

-- ---- A lock that is given back

module _ (marks : MarksPass) (stand : EventsStand) (y : System) (s : IsSystem y) (w : World) (stands : Simulates y s w) (h : ℕ) (below : h < thread_count y)
    (lock : ℕ) (has : HartHolds w h lock) (given : ¬ (HartHolds (after_event y.runs.program w (Step h)) h lock)) where
  abbrev after : World
  after = after_event y.runs.program w (Step h)

  later : Simulates y s after
  later = stand y s w (Step h) stands

  at : CallsNow y w h
  at = gives_at_call marks y s w stands h lock has given

  leaves : LeavesWords y.runs.program w h at.number at.at after
  leaves = call_leaves y.runs.program w h at.number at.at

  none_then : (hart : Hart) → slice_get after.harts h ≡ Some hart → IsRecorded after h lock → ⊥
  none_then hart here among =
      given (recorded_is_held y s after later h below hart here
      (λ takes. true≢false (sym (ap is_taking takes) ∙ leaves.past hart here)) lock among)

  same_record : record_of after.log after.words h ≡ record_of w.log w.words h
  same_record =
      ap (λ (log : Log). record_of log after.words h) (log_stays y.runs.program w (Step h) stands.machine.sound)
      ∙ ap (λ (words : List Word). record_of w.log words h) leaves.words

  pub given_is_unrecorded : has_lock (record_of w.log w.words h) lock ≡ false
  given_is_unrecorded =
      let there = found_in after.harts h (omega (arith, below, later.machine.count)) in
      false_from_ne_true (has_lock (record_of w.log w.words h) lock) (λ among.
      none_then there.0 there.1 (ap (λ (locks : List ℕ). has_lock locks lock) same_record ∙ among))

-- ---- After any events

pub records_follow_locks : MachinesResume → MachinesRecord → MarksPass → EventsStand → RecordsFollowLocks
records_follow_locks machines records marks stand y s events h hart here =
    let w = world (translation_of y) events in
    let stands : Simulates y s w = (machines y s events).is.stands in
    let below : h < thread_count y = (let inside = slice_get_within w.harts h hart here in omega (arith, inside, stands.machine.count)) in
    record {
      is = λ lock. ((records y s events).each h hart here).record_is lock;
      taken = λ taken lock among. recorded_is_held y s w stands h below hart here taken lock among;
      resumed = λ is lock holds. held_is_recorded y s w stands h below hart here is lock holds;
      given = λ lock has given. given_is_unrecorded marks stand y s w stands h below lock has given;
    }
