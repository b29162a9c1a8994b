-- Points and records of threads: points are those of records that describe them, records the locks that threads hold, and between sections there is no point.
use Rattle.recovered_threads.specs.RecordDescriptions.{DescribesAs}
use Rattle.std.proofs.Common.{◌≡◌, ◌≢◌, ◌⊎◌, inl, inr, ℕ, ◌<◌, List, [], ap, sym, ◌∙◌, subst, Bool, false, ◌↔◌, ◌∷◌, ◌++◌, ap₂, arith, true, Option, Some, refl}
use Rattle.std.proofs.Common.{length, slice_index_or, if◌then◌else◌, slice_get}
use Rattle.std.specs.List.{Contains}
use Rattle.std.proofs.lemmas.Bool.{cases_Bool, false_from_ne_true, true≢false}
use Rattle.log_schemes.specs.Layout.{point_at}
use Rattle.code_runs.specs.CodeTraces.{Program}
use Rattle.machine_model.specs.Machine.{World, durable_point, live_at, resume_of, Hart, record_of}
use Rattle.flow_graph.specs.Actions.{FlowState}
use Rattle.log_states.specs.Logs.{Record, point_in, IsRecorded}
use Rattle.log_states.specs.Stages.{is_committed}
use Rattle.log_states.specs.Machines.{config_of}
use Rattle.log_states.proofs.Public.{live_is, ends, durable_is}
use Rattle.recovered_threads.specs.RecordDescriptions.{Code, Describes, locks_of}
use Rattle.crash_simulation.specs.Systems.{System, IsSystem, thread_count, flat_of}
use Rattle.crash_simulation.specs.AbstractRuns.{kept_of, now_of}
use Rattle.crash_simulation.specs.ThreadGhosts.{ThreadGhost, InPhase}
use Rattle.crash_simulation.specs.SimulationRelation.{Simulates, IsGiving, AreHeld, AreLocked, gathering, gathered, records_of}
use Rattle.crash_simulation.specs.InstructionSteps.{Site}
use Rattle.crash_simulation.proofs.Public.{lates, left, left_describes, left_point, log_of, orderly, unlocked_last, takes_move, as_source, view, same_number}
use Rattle.crash_simulation.proofs.Public.{begins_at, giving_of, resumed, phase_of, schedule_is}
use Rattle.compiler_correctness.proofs.AbstractRunAccount.{points_name_as, now_runs, now_is, kept_holders, none_points, none_points_as, kept_runs}
use Rattle.std.proofs.lemmas.Option.{slice_get_within}
use Rattle.ido_base.specs.Locks.{has_lock, holds_none}
use Rattle.c_tree.specs.Source as m
use Rattle.recovery_semantics.specs.Configs.{now}
use Rattle.recovery_semantics.specs.Laws.{LastUnlocks, HasUnlocked}
use Rattle.machine_model.specs.Schedule.{LifeSchedules, Steps, harts_of, schedules}
use Rattle.source_machine.specs.Mutexes.{locks}
use Rattle.thread_runs.specs.Laws.{MarksPass}
use Rattle.recovered_threads.specs.RecoveryStates.{Gathers}
use Rattle.recovered_threads.proofs.Public.{logs_have_locks, locks_are_held, records_are_apart, holds_none_is, none_if, points_have_locks}
use Rattle.crash_simulation.specs.AccountRelation.{SimulatesLives, MachinesResume, first_beginning}
use Rattle.compiler_correctness.specs.Translations.{source, source_at}
use Rattle.compiler_correctness.specs.Compilation.{AreRecords, ThreadHolds, HasJustUnlocked, HoldsAsThread, IsOn, IsOutside, HasEnded}
use Rattle.machine_model.specs.Machine.{has_stopped}
use Rattle.compiler_correctness.specs.Laws.{translation_of, MachinesRecord, MachinesAreWhole}
use Rattle.compiler_correctness.proofs.LockCalls.{takes_as}
use Rattle.machine_model.specs.declared.phase.Phase.{Phase}
use Rattle.machine_model.specs.declared.phase.Phase.TheVariants.{Done, Ended}
use Rattle.flow_graph.proofs.Public.{found_in}
use Rattle.recovery_semantics.proofs.Public.{held_before}

-- ---- The live and the durable point of a thread are those of records that describe it

-- ---- In a machine that simulates an abstract run

module _ (y : System) (s : IsSystem y) (w : World) (stands : Simulates y s w) (n : ℕ) (below : n < thread_count y) where
  abbrev thread_code : Code y.plan
  thread_code = s.codes.each n below

  abbrev thread_ghost : ThreadGhost
  thread_ghost = stands.ghosts n

  abbrev kept : FlowState
  kept = kept_of y stands.abstract

  abbrev present : FlowState
  present = now_of y stands.abstract

  -- what is committed is taken so
  caught_up : is_committed w.log n (config_of w (log_of y s w stands n below).hart thread_ghost.rest) ≡ thread_ghost.committed
  caught_up =
      subst (λ (k : ℕ). is_committed w.log k (record { words = w.words; queue = []; rest = thread_ghost.rest }) ≡ thread_ghost.committed)
      (s.codes.number n below) (stands.caught_up n below (λ e. e))

  -- the new record describes the kept state where it is the one that is kept, and else the state now
  new_describes : DescribesAs y.plan thread_code kept thread_ghost.late thread_ghost.new ⊎ Describes y.plan thread_code present thread_ghost.new
  new_describes = elim (cases_Bool thread_ghost.committed) [
    | inl done ↦
        inl (subst (λ (b : Bool). DescribesAs y.plan thread_code kept thread_ghost.late (if b then thread_ghost.new else thread_ghost.old)) done
        (stands.each n below).records.describes)
    | inr not_yet ↦ inr ((stands.each n below).records.will_describe not_yet)
  ]

  old_describes : thread_ghost.committed ≡ false → DescribesAs y.plan thread_code kept thread_ghost.late thread_ghost.old
  old_describes not_yet =
      subst (λ (b : Bool). DescribesAs y.plan thread_code kept thread_ghost.late (if b then thread_ghost.new else thread_ghost.old)) not_yet
      (stands.each n below).records.describes

  -- what is so of all such records is so of the live point, and of the durable one
  module _ (P : ℕ → Type 0) (of_kept : (r : Record) → DescribesAs y.plan thread_code kept thread_ghost.late r → P r.point)
      (of_now : (r : Record) → Describes y.plan thread_code present r → P r.point) where
    new_is : DescribesAs y.plan thread_code kept thread_ghost.late thread_ghost.new ⊎ Describes y.plan thread_code present thread_ghost.new →
        P thread_ghost.new.point
    new_is (inl describes) = of_kept thread_ghost.new describes
    new_is (inr describes) = of_now thread_ghost.new describes

    pub of_live : P (live_at w.words (point_at w.log n))
    of_live =
        elim (live_is w.log n thread_ghost.old thread_ghost.new (config_of w (log_of y s w stands n below).hart thread_ghost.rest)
        (log_of y s w stands n below).log) [
          | inl new ↦ subst P (sym new) (new_is new_describes)
          | inr old ↦ subst P (sym old.0) (of_kept thread_ghost.old (old_describes (sym caught_up ∙ old.1)))
        ]

    pub of_durable : P (durable_point w.log w.words n)
    of_durable = subst P (sym (left_point y s w stands n below)) (of_kept (left y s w stands n) (left_describes y s w stands n below))

  -- ---- Points name addresses at which recovery may resume

  resumes_are : thread_code.program.resumes ≡ slice_index_or y.runs.resumes n []
  resumes_are =
      ap (λ (program : Program). program.resumes) (s.own n below).program ∙ ap (λ (k : ℕ). slice_index_or y.runs.resumes k []) (s.codes.number n below)

  abbrev Names : ℕ → Type 0
  Names point = point ≢ 0 → Contains (slice_index_or y.runs.resumes n []) (resume_of point)

  names : (state : FlowState) (late : Bool) (r : Record) → DescribesAs y.plan thread_code state late r → Names r.point
  names state late r describes some =
      subst (λ (addresses : List ℕ). Contains addresses (resume_of r.point)) resumes_are (points_name_as y.plan thread_code state late r describes some)

  pub live_names : live_at w.words (point_at w.log n) ≢ 0 → Contains (slice_index_or y.runs.resumes n []) (resume_of (live_at w.words (point_at w.log n)))
  live_names = of_live Names (names kept thread_ghost.late) (names present false)

  pub durable_names : durable_point w.log w.words n ≢ 0 → Contains (slice_index_or y.runs.resumes n []) (resume_of (durable_point w.log w.words n))
  durable_names = of_durable Names (names kept thread_ghost.late) (names present false)

-- ---- The records of threads are the locks that they hold after the kept steps

module _ (y : System) (s : IsSystem y) (w : World) (stands : Simulates y s w) where
  open stands use {abstract as b}

  -- ---- Records

  pub recorded_is : (n : ℕ) → n < thread_count y → record_of w.log w.words n ≡ locks_of (left y s w stands n)
  recorded_is n below = let c = stands.ghosts n in logs_have_locks n c.old c.new w c.rest (log_of y s w stands n below)

  record_held : (n : ℕ) → n < thread_count y → (lock : ℕ) →
      (has_lock (record_of w.log w.words n) lock ≡ true) ↔ (slice_get (kept_of y b).holders lock ≡ Some (Some n))
  record_held n below lock =
      subst (λ (locks : List ℕ). (has_lock locks lock ≡ true) ↔ (slice_get (kept_of y b).holders lock ≡ Some (Some n))) (sym (recorded_is n below))
      (subst (λ (k : ℕ). (has_lock (locks_of (left y s w stands n)) lock ≡ true) ↔ (slice_get (kept_of y b).holders lock ≡ Some (Some k)))
      (s.codes.number n below)
      (locks_are_held y.plan (s.codes.each n below) (kept_of y b) (lates y s w stands n) (left y s w stands n) s.plan (orderly y s b)
      (left_describes y s w stands n below) lock))

  records_apart : (g h lock : ℕ) → g < thread_count y → h < thread_count y → g ≢ h → has_lock (record_of w.log w.words h) lock ≡ true →
      has_lock (record_of w.log w.words g) lock ≡ false
  records_apart g h lock gb hb other mine = false_from_ne_true (has_lock (record_of w.log w.words g) lock) (λ also.
      other (records_are_apart y.plan s.codes (kept_of y b) (lates y s w stands) (left y s w stands) s.plan (orderly y s b)
      (left_describes y s w stands) g h lock gb hb
      (ap (λ (locks : List ℕ). has_lock locks lock) (sym (recorded_is g gb)) ∙ also)
      (ap (λ (locks : List ℕ). has_lock locks lock) (sym (recorded_is h hb)) ∙ mine)))

  -- ---- Locks of a hart that executes instructions

  module _ (h : ℕ) (hart : Hart) (there : slice_get w.harts h ≡ Some hart) where
    held_by : IsOn hart → AreLocked y w b stands.ghosts → AreHeld w stands.ghosts (now_of y b)
    held_by (inl is) (gathering none gathers) = absurd (subst (Gathers w h (records_of stands.ghosts h)) is (gathers.each h hart there))
    held_by (inr is) (gathering none gathers) = absurd (subst (Gathers w h (records_of stands.ghosts h)) is (gathers.each h hart there))
    held_by is (gathered ag held) = held

    pub are_held : IsOn hart → AreHeld w stands.ghosts (now_of y b)
    are_held is = held_by is stands.locks

module _ (y : System) (s : IsSystem y) (w : World) (account : Steps) {r : ℕ → ℕ}
    (resumes : SimulatesLives y s (first_beginning y) w account r) (h : ℕ) (hart : Hart)
    (there : slice_get w.harts h ≡ Some hart) where
  open resumes.is use {stands}

  -- those schedules, and one of this life
  abbrev with_this : (schedule : List ℕ) → LifeSchedules
  with_this schedule = record { earlier = account.earlier; schedule = schedule }

  below : h < thread_count y
  below = let inside = slice_get_within w.harts h hart there in omega (arith, inside, stands.machine.count)

  -- after a schedule that leads to all steps that are begun
  module _ (schedule : List ℕ) (is : source (translation_of y) (account.earlier ++ schedule ∷ []) ≡ now stands.abstract.config) where
    holders : (now_of y stands.abstract).holders ≡ (source (translation_of y) (account.earlier ++ schedule ∷ [])).holders
    holders = (as_source y s stands.abstract).now_matches.holders ∙ ap (λ (z : m.State). z.holders) (sym is)

    -- what the thread has still to give back its last step of that schedule has unlocked
    abbrev IsLastUnlocked : Type 0
    IsLastUnlocked = (mutex : ℕ) → (stands.ghosts h).giving ≡ Some mutex → LastUnlocks (source_at (translation_of y) account.earlier) schedule h mutex

    held_or_unlocked : IsLastUnlocked → (lock : ℕ) →
        (slice_get (now_of y stands.abstract).holders lock ≡ Some (Some h)) ⊎ IsGiving stands.ghosts (now_of y stands.abstract) lock h →
        ThreadHolds (source (translation_of y) (account.earlier ++ schedule ∷ [])) h lock
        ⊎ HasJustUnlocked (translation_of y) (with_this schedule) h lock
    held_or_unlocked last lock (inl has) = inl (ap (λ (hs : List (Option ℕ)). slice_get hs lock) (sym holders) ∙ has)
    held_or_unlocked last lock (inr gives) = inr (record {
      last = last lock gives.gives;
      free = ap (λ (hs : List (Option ℕ)). slice_get hs lock) (sym holders) ∙ gives.free;
    })

    pub agree : MarksPass → IsLastUnlocked → IsOn hart → HoldsAsThread (translation_of y) w (with_this schedule) h
    agree marks last on =
        let held = are_held y s w stands h hart there on in
        record {
          held = λ lock has. held.holds lock h (ap (λ (hs : List (Option ℕ)). slice_get hs lock) holders ∙ has);
          holds = λ lock has. held_or_unlocked last lock (held.held lock h has);
          taking = λ a. ap (λ (z : m.State). locks z h) is ∙ (takes_as marks y s w h stands a).locks_it;
          holds_only = λ a lock has. ap (λ (hs : List (Option ℕ)). slice_get hs lock) (sym holders) ∙ (takes_as marks y s w h stands a).holds_only lock has;
        }

  -- by the account's schedule
  last_unlocked : (mutex : ℕ) → (stands.ghosts h).giving ≡ Some mutex →
      LastUnlocks (source_at (translation_of y) account.earlier) (account.kept ++ harts_of account.pending) h mutex
  last_unlocked mutex gives =
      let b = stands.abstract in
      let code = s.codes.each h below in
      let lists : b.schedule ++ b.config.uncommitted ≡ account.kept ++ harts_of account.pending =
      ap₂ ◌++◌ (sym (schedule_is y s w account resumes)) (sym resumes.is.counted.pending) in
      subst (λ (from : m.State). LastUnlocks from (account.kept ++ harts_of account.pending) h mutex) (begins_at y s w account resumes)
      (subst (λ (us : List ℕ). LastUnlocks b.origin.source us h mutex) lists
      (subst (λ (n : ℕ). LastUnlocks b.origin.source (b.schedule ++ b.config.uncommitted) n mutex) (s.codes.number h below)
      (unlocked_last y s w b code (stands.ghosts h) (stands.each h below) mutex gives)))

  record_is : (lock : ℕ) → (has_lock (record_of w.log w.words h) lock ≡ true) ↔ ThreadHolds (source (translation_of y) (schedules account)) h lock
  record_is lock =
      subst (λ (hs : List (Option ℕ)). (has_lock (record_of w.log w.words h) lock ≡ true) ↔ (slice_get hs lock ≡ Some (Some h)))
      (kept_holders y s w account resumes) (record_held y s w stands h below lock)

pub records_at : MarksPass → (y : System) (s : IsSystem y) (w : World) (account : Steps) {r : ℕ → ℕ} →
    SimulatesLives y s (first_beginning y) w account r → AreRecords (translation_of y) w account
records_at marks y s w account resumes = record {
  kept = kept_runs y s w account resumes;
  now_runs = now_runs y s w account resumes;
  each = λ h hart there.
      let under = below y s w account resumes h hart there in
      record {
        locks_agree = λ on.
            agree y s w account resumes h hart there _ (now_is y s w account resumes) marks (last_unlocked y s w account resumes h hart there) on;
        record_is = λ lock. record_is y s w account resumes h hart there lock;
        apart = λ g lock gb other. records_apart y s w resumes.is.stands g h lock (omega (arith, gb, s.count)) under other;
        takes = λ is. takes_move y s w h resumes.is.stands (record { hart = hart; here = there; phase_is = is });
        live_point = live_names y s w resumes.is.stands h under;
        durable_point_names = durable_names y s w resumes.is.stands h under;
      };
}

pub machines_record : MarksPass → MachinesResume → MachinesRecord
machines_record marks machines y s events = records_at marks y s _ _ (machines y s events)

-- ---- Between sections there is no point

module _ (y : System) (s : IsSystem y) (w : World) (stands : Simulates y s w) (n : ℕ) (below : n < thread_count y) where
  abbrev site : Site y s w n
  site = record { stands = stands; below = below }

  open view site use {b, code, c as ghost, t as thread}

  same : code.thread.number ≡ n
  same = same_number site

  -- ---- A hart that runs and holds nothing

  module _ (none : holds_none w.holders n ≡ true) (held : AreHeld w stands.ghosts (now_of y b)) where
    not_now : (lock : ℕ) → slice_get (now_of y b).holders lock ≡ Some (Some n) → ⊥
    not_now lock has = holds_none_is n w.holders lock none (held.holds lock n has)

    exists : n < length (now_of y b).graph_threads
    exists =
        subst (λ (k : ℕ). k < length (now_of y b).graph_threads) same
        (slice_get_within (now_of y b).graph_threads code.thread.number thread.graph_thread thread.walks)

    not_given : (mutex : ℕ) → ghost.giving ≡ Some mutex → ⊥
    not_given mutex gives = holds_none_is n w.holders mutex none (held.giving mutex n exists gives)

    -- the thread of a hart that runs and holds nothing has unlocked nothing by a step that isn't kept, and holds nothing by what is kept
    not_kept : (lock : ℕ) → slice_get (kept_of y b).holders lock ≡ Some (Some n) → ⊥
    not_kept lock has =
        let source = as_source y s b in
        elim (held_before (flat_of y) b.config n lock (resumed y s b).resumed.invariant
        (ap (λ (hs : List (Option ℕ)). slice_get hs lock) (sym source.kept_matches.holders) ∙ has)) [
          | inl still ↦ not_now lock (ap (λ (hs : List (Option ℕ)). slice_get hs lock) source.now_matches.holders ∙ still)
          | inr unlocked ↦ not_given lock (giving_of y w b code ghost lock (subst (λ (k : ℕ). HasUnlocked b.config k lock) (sym same) unlocked) thread)
        ]

    of_kept : (r : Record) → DescribesAs y.plan code (kept_of y b) ghost.late r → r.point ≡ 0
    of_kept r describes = none_points_as y.plan code (kept_of y b) ghost.late r describes
        (subst (λ (k : ℕ). holds_none (kept_of y b).holders k ≡ true) (sym same) (none_if 0 n (kept_of y b).holders not_kept))

    of_present : (r : Record) → Describes y.plan code (now_of y b) r → r.point ≡ 0
    of_present r describes = none_points y.plan code (now_of y b) r describes
        (subst (λ (k : ℕ). holds_none (now_of y b).holders k ≡ true) (sym same) (none_if 0 n (now_of y b).holders not_now))

    live_zero : live_at w.words (point_at w.log n) ≡ 0
    live_zero = of_live y s w stands n below (λ point. point ≡ 0) of_kept of_present

    durable_zero : durable_point w.log w.words n ≡ 0
    durable_zero = of_durable y s w stands n below (λ point. point ≡ 0) of_kept of_present

  -- ---- A hart that has stopped

  module _ (hart : Hart) (there : slice_get w.harts n ≡ Some hart) where
    phase : (p : Phase) → hart.phase ≡ p → InPhase y w b code ghost hart thread.graph_thread p
    phase p is = phase_of y s w n stands p (record { hart = hart; here = there; phase_is = is }) below

    stopped : (p : Phase) → hart.phase ≡ p → has_stopped p ≡ true → (ghost.rest ≡ []) × (ghost.new.point ≡ 0)
    stopped Done is e = let r = phase Done is in (r.0.rest, r.1)
    stopped Ended is e = let r = phase Ended is in (r.0.goes.rest, r.1)
    stopped p is e = absurd (true≢false (sym e))

    over : ghost.rest ≡ [] → IsRecorded w.log n ghost.new w.words
    over rest = let log = log_of y s w stands n below in ends w.log n ghost.old ghost.new (config_of w log.hart ghost.rest) log.log rest

    pub live_outside : IsOutside w n hart → live_at w.words (point_at w.log n) ≡ 0
    live_outside (inl e) = let r = stopped hart.phase refl e in (over r.0).point.live ∙ r.1
    live_outside (inr e) = live_zero e.1 (are_held y s w stands n hart there (inl e.0))

    pub durable_outside : IsOutside w n hart → durable_point w.log w.words n ≡ 0
    durable_outside (inl e) = let r = stopped hart.phase refl e in durable_is (point_in w.log w.words n) ghost.new.point (over r.0).point ∙ r.1
    durable_outside (inr e) = durable_zero e.1 (are_held y s w stands n hart there (inl e.0))

    pub ended_now : hart.phase ≡ Ended → HasEnded (now b.config) n
    ended_now is =
        let source = as_source y s b in
        let walks = ap (slice_get (now_of y b).graph_threads) (sym same) ∙ thread.walks in
        let inside = slice_get_within (now_of y b).graph_threads n thread.graph_thread walks in
        let found = found_in (now b.config).threads n (omega (arith, inside, source.now_matches.count)) in
        record {
          it = found.0;
          there = found.1;
          ended = sym (source.now_matches.each n thread.graph_thread found.0 walks found.1).ended ∙ (phase Ended is).0.execution;
        }

  pub no_locks : record_of w.log w.words n ≡ [] → durable_point w.log w.words n ≡ 0
  no_locks e =
      left_point y s w stands n below
      ∙ (points_have_locks y.plan code (kept_of y b) (lates y s w stands n) (left y s w stands n) s.plan (orderly y s b)
      (left_describes y s w stands n below)).0
      (sym (recorded_is y s w stands n below) ∙ e)

pub machines_are_whole : MachinesResume → MachinesAreWhole
machines_are_whole machines y s events h hart there =
    let resumes = machines y s events in
    let stands = resumes.is.stands in
    let below : h < thread_count y = (let inside = slice_get_within _ h hart there in omega (arith, inside, stands.machine.count)) in
    record {
      ended = λ is. subst (λ (z : m.State). HasEnded z h) (sym (now_is y s _ _ resumes)) (ended_now y s _ stands h below hart there is);
      no_live_point = live_outside y s _ stands h below hart there;
      no_durable_point = durable_outside y s _ stands h below hart there;
      recorded = no_locks y s _ stands h below;
    }
