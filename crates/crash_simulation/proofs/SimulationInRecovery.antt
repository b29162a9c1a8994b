-- Steps of harts that gather their locks, of those that recovery resumes, and of those that have stopped.
use Rattle.recovered_threads.proofs.Public.{late_harts_go_on}
use Rattle.crash_simulation.specs.ThreadGhosts.{at_past}
use Rattle.recovered_threads.specs.RecoveryStates.{ResumesLate}
use Rattle.crash_simulation.proofs.Common.{Bool, DescribesAs, IsReady, Run, Seen, cases_Bool, false}
use Rattle.crash_simulation.proofs.Common.{true, AssignsAlike, HasView, IsPlaced, IsSameTo, Log, LogView, NodePlace, Word, frame_at, frame_in, home_of}
use Rattle.crash_simulation.proofs.Common.{live_value, run_keeps, solo, the_core, the_entry}
use Rattle.expr_code.specs.declared.home.Home.TheVariants.{InFrame}
use Rattle.machine_model.specs.Machine.{live_at}
use Rattle.thread_code.proofs.Public.{enters_again, ready_again}
use Rattle.recovered_threads.specs.RecordDescriptions.{AreCounted, CountsOn, MayGoOn}
use Rattle.recovered_threads.specs.RecoveryStates.{view_resumed}
use Rattle.source_machine.proofs.Public.{solo as solo_law}
use Rattle.crash_simulation.proofs.AssignmentsAlike.{assigns_alike}
use Rattle.crash_simulation.proofs.NodeEnvironments.{placed_here}
use Rattle.crash_simulation.proofs.ReadyHarts.{ready_side, write_comes}
use Rattle.crash_simulation.proofs.ChosenNodes.{chosen_writes}
use Rattle.crash_simulation.proofs.NodeEffects.{some_node}
use Rattle.crash_simulation.proofs.Common.{Graph, None, is_some}
use Rattle.recovered_threads.specs.RecordDescriptions.{ComesNext}
use Rattle.crash_simulation.proofs.StatesMatchSource.{as_source, now_good}
use Rattle.crash_simulation.proofs.StatesMatchSource.{resumed as resumed_source}
use Rattle.crash_simulation.proofs.ThreadViews.{owed_on}
use Rattle.crash_simulation.proofs.Common.{◌≡◌, ◌≢◌, ℕ, List, sym, ◌∙◌, ap, arith, subst, Option, Some, refl, ◌<◌, [], ◌++◌, length, ◌⊎◌, inl, inr, slice_get}
use Rattle.crash_simulation.proofs.Common.{◌≤◌, ap₂, Contains, none-some, Step, Reply, Still, Waits, Barrier, lock_number, Hart, World, happens, after_event}
use Rattle.crash_simulation.proofs.Common.{Outcome, with_holder, moved, resume_of, Effect, Phase, Done, Take, Wait, Resume, Ended, GraphThread, FlowState}
use Rattle.crash_simulation.proofs.Common.{seen_by, graph_after, NodeAt, lowered, Action, Node, End, successors, now, memory_in, flow_solo, seen_effects}
use Rattle.crash_simulation.proofs.Common.{config, Record, side_of, IsInPhase, has_all, takes_one, is_kept_from, all_have, one_takes, TakesLocks, AwaitsOthers}
use Rattle.crash_simulation.proofs.Common.{IsRunningAt, cleans_in, takes_step, waits_step, resumes_step, stopped_stay, IsNodeOf, Arrives, IsOnFragment}
use Rattle.crash_simulation.proofs.Common.{on_machine, GoesOnFrom, unlocks_go_on, fragments_see_all, cores_see_all, locks_go_on, AreRecordsApart, Code}
use Rattle.crash_simulation.proofs.Common.{ResumesAt, past_lock, at_chosen, AllDescribe, past_unlock, Gathers, HasGathered, AreGathered}
use Rattle.crash_simulation.proofs.Common.{AreGathering, Awaits, IsRecoveredHart, ResumesThread, same_there, same_or_other, takes_never_wait, waits_for_takers}
use Rattle.crash_simulation.proofs.Common.{gathered_go_on, records_are_apart, gathered_are_kept, harts_go_on, kept_of, now_of, Site, TakesStand, WaitsStand}
use Rattle.crash_simulation.proofs.Common.{StoppedStand, ResumesStand, SimulatesBut, Simulates, anybody, AreHeld, AreLocked, gathering, gathered, records_of}
use Rattle.crash_simulation.proofs.Common.{IsMachineOf, System, IsSystem, thread_count, flat_of, places_of, Rests, on_fragment, at_core, InPhase, ThreadInv}
use Rattle.crash_simulation.proofs.Common.{IsRunningThread, IsInAttempt, IsChosen}
use Rattle.recovered_threads.specs.RecoveryStates as r
use Rattle.crash_simulation.proofs.LocksAfterStep.{held_alike}
use Rattle.crash_simulation.proofs.StatesMatchSource.{orderly}
use Rattle.crash_simulation.proofs.KeptThreads.{phase_moves, others_stand}
use Rattle.crash_simulation.proofs.ThreadViews.{IsQuiet, describes_over, moves_alone}
use Rattle.crash_simulation.proofs.ThreadsOfMachines.{machine_stays, phase_of}
use Rattle.crash_simulation.proofs.CommitSimulation.{commit_stutters}
use Rattle.crash_simulation.proofs.LoadFreeEnvironment.{bare, bare_agrees, bare_meets, bare_answers, placed, bare_loaded}
use Rattle.crash_simulation.proofs.GraphAfterBegin.{alone}
use Rattle.crash_simulation.proofs.OwnHartSteps.{view, same_number}
use Rattle.crash_simulation.proofs.StepsAfterMarks.{entry_soon, core_less, whole_soon, most_is, fits_by}

-- the machine simulates the same abstract run, in memory that is as it was, with the same ghost states
pub record SimulatesStill (y : System) (s : IsSystem y) (w v : World) (old : Simulates y s w) : Type 0 where
  pub words : v.words ≡ w.words
  pub each : (n : ℕ) (below : n < thread_count y) → ThreadInv y v old.abstract (s.codes.each n below) (old.ghosts n)
  pub locks : AreLocked y v old.abstract old.ghosts

module _ (y : System) (s : IsSystem y) (w : World) (h : ℕ) (stands : Simulates y s w) where
  open stands use {abstract as b}

  abbrev after : World
  after = after_event y.runs.program w (Step h)

  abbrev pub still_simulates : SimulatesStill y s w after stands → SimulatesBut y s after anybody
  still_simulates still = record {
    machine = machine_stays y s w (Step h) stands.machine;
    abstract = b;
    memory = ap (memory_in (places_of y)) still.words ∙ stands.memory;
    ghosts = stands.ghosts;
    each = still.each;
    locks = still.locks;
    caught_up = λ n below none. absurd (none tt);
  }

  -- ---- The hart moves alone

  pub moved_is : (v : World) (old new : Hart) → slice_get w.harts h ≡ Some old → happens y.runs.program w (Step h) ≡ moved v h new → v.words ≡ w.words →
      v.harts ≡ w.harts → new.queue ≡ old.queue → IsQuiet w after h old new
  moved_is v old new here = moves_alone y.runs.program w v h old new stands.machine.sound here

  pub quiet_stands : (old new : Hart) → slice_get w.harts h ≡ Some old → IsQuiet w after h old new →
      ((below : h < thread_count y) → InPhase y after b (s.codes.each h below) (stands.ghosts h) new (stands.each h below).graph_thread new.phase) →
      AreLocked y after b stands.ghosts → SimulatesStill y s w after stands
  quiet_stands old new here q own locks = record { words = q.words; each = each; locks = locks }
    where
      mine : (below : h < thread_count y) → ThreadInv y after b (s.codes.each h below) (stands.ghosts h)
      mine below =
          let t = stands.each h below in
          let number = s.codes.number h below in
          let is : old ≡ t.log.hart = same_there (slice_get w.harts h) old t.log.hart here (ap (slice_get w.harts) (sym number) ∙ t.log.here) in
          phase_moves after (stands.ghosts h).giving (stands.ghosts h).before_mark (λ mutex gives. gives) t new (record {
            words = q.words;
            log = q.log;
            here = ap (slice_get after.harts) number ∙ q.here;
            queue = q.queue ∙ ap (λ (x : Hart). x.queue) is;
          }) (own below)

      each : (n : ℕ) (below : n < thread_count y) → ThreadInv y after b (s.codes.each n below) (stands.ghosts n)
      each n below = elim (same_or_other n h) [
        | inl same ↦ subst (λ (k : ℕ). (inside : k < thread_count y) → ThreadInv y after b (s.codes.each k inside) (stands.ghosts k)) (sym same) mine below
        | inr other ↦
            others_stand w h b (s.codes.each n below) (stands.ghosts n) q.words stands.machine.sound (λ e. other (sym (e ∙ s.codes.number n below)))
            (stands.each n below)
      ]

  -- nothing happens
  pub nothing_happens : (reply : Reply) → happens y.runs.program w (Step h) ≡ (w, reply) → SimulatesStill y s w after stands
  nothing_happens reply does =
      subst (λ (v : World). SimulatesStill y s w v stands) (sym (ap (λ (o : Outcome). o.0) does))
      (record { words = refl; each = stands.each; locks = stands.locks })

  -- ---- While locks are gathered

  abbrev records : ℕ → Record
  records = records_of stands.ghosts

  module _ (none : b.config.uncommitted ≡ []) (gathers : AreGathering w records) where
    rest_in : (n : ℕ) (code : Code y.plan) (hart : Hart) (graph_thread : GraphThread) (phase : Phase) → Gathers w n (records n) phase →
        InPhase y w b code (stands.ghosts n) hart graph_thread phase → Rests y b.config code.thread.number (stands.ghosts n)
    rest_in n code hart graph_thread phase h5 h6 = grind arith

    pub all_rest : (n : ℕ) (below : n < thread_count y) → Rests y b.config (s.codes.each n below).thread.number (stands.ghosts n)
    all_rest n below =
        let t = stands.each n below in
        let number : (s.codes.each n below).thread.number ≡ n = s.codes.number n below in
        rest_in n (s.codes.each n below) t.log.hart t.graph_thread t.log.hart.phase
        (gathers.each n t.log.hart (ap (slice_get w.harts) (sym number) ∙ t.log.here)) t.phase

    abbrev lates : ℕ → Bool
    lates n = (stands.ghosts n).late

    pub all_describe : AllDescribe y.plan s.codes (kept_of y b) lates records
    all_describe n below = describes_over y b (s.codes.each n below) (stands.ghosts n) (stands.each n below).records (all_rest n below).committed

    pub apart : AreRecordsApart (length w.harts) records
    apart =
        subst (λ (n : ℕ). AreRecordsApart n records) (sym stands.machine.count)
        (records_are_apart y.plan s.codes (kept_of y b) lates records s.plan (orderly y s b) all_describe)

    -- ---- Take

    takes : IsInPhase w h Take → SimulatesStill y s w after stands
    takes i = by (takes_step y.runs.program w h i)
      where
        rests : (below : h < thread_count y) → Rests y b.config (s.codes.each h below).thread.number (stands.ghosts h)
        rests below = phase_of y s w h stands Take i below

        locked : AreLocked y after b stands.ghosts
        locked = gathering none (takes_never_wait y.runs.program w records h gathers apart i).1

        by : TakesLocks y.runs.program w h i.hart → SimulatesStill y s w after stands
        by (has_all all does) =
            let new = record i.hart { phase = Wait } in quiet_stands i.hart new i.here (moved_is w i.hart new i.here does refl refl refl) rests locked
        by (takes_one lock r does) =
            quiet_stands i.hart i.hart i.here (moved_is (with_holder w lock (Some h)) i.hart i.hart i.here does refl refl refl)
            (λ below. subst (λ (p : Phase).
            InPhase y after b (s.codes.each h below) (stands.ghosts h) i.hart (stands.each h below).graph_thread p) (sym i.phase_is) (rests below)) locked
        by (is_kept_from lock k r other does) = nothing_happens (Waits lock k) does

    -- ---- Wait

    now_is : now_of y b ≡ kept_of y b
    now_is = ap (graph_after (lowered (flat_of y)) (kept_of y b)) none

    held_as_kept : ((k : ℕ) → ¬ (IsInPhase w k Take)) → AreHeld w stands.ghosts (now_of y b)
    held_as_kept nobody =
        let kept = orderly y s b in
        let locks : w.holders ≡ (kept_of y b).holders =
        gathered_are_kept y.plan s.codes (kept_of y b) w lates records s.plan kept all_describe gathers nobody stands.machine.count
        (stands.machine.mutexes ∙ sym kept.locks) in
        let same : w.holders ≡ (now_of y b).holders = locks ∙ ap (λ (z : FlowState). z.holders) (sym now_is) in
        record {
          held = λ lock n there. inl (ap (λ (hs : List (Option ℕ)). slice_get hs lock) (sym same) ∙ there);
          holds = λ lock n there. ap (λ (hs : List (Option ℕ)). slice_get hs lock) same ∙ there;
          giving = λ lock n exists gives.
              let inside : n < thread_count y = omega (arith, exists, ap (λ (z : FlowState). length z.graph_threads) now_is, kept.count) in
              absurd (none-some lock (sym (all_rest n inside).giving ∙ gives));
          given = λ lock n exists gives there.
              let inside : n < thread_count y = omega (arith, exists, ap (λ (z : FlowState). length z.graph_threads) now_is, kept.count) in
              none-some lock (sym (all_rest n inside).giving ∙ gives);
        }

  -- a hart that waits is let through
  waits : (i : IsInPhase w h Wait) → AreLocked y w b stands.ghosts → SimulatesStill y s w after stands
  waits i locks = by (waits_step y.runs.program w h i) locks
    where
      go : happens y.runs.program w (Step h) ≡ moved w h (record i.hart { phase = Resume }) → AreGathered after records →
          AreHeld w stands.ghosts (now_of y b) → SimulatesStill y s w after stands
      go does ag held =
          let new = record i.hart { phase = Resume } in
          quiet_stands i.hart new i.here (moved_is w i.hart new i.here does refl refl refl) (λ below. phase_of y s w h stands Wait i below)
          (gathered ag (held_alike w after stands.ghosts stands.ghosts (now_of y b)
          (ap (λ (o : Outcome). o.0.holders) does) (λ n. refl) held))

      first : (n : b.config.uncommitted ≡ []) (gathers : AreGathering w records) → ((k : ℕ) → ¬ (IsInPhase w k Take)) →
          happens y.runs.program w (Step h) ≡ moved w h (record i.hart { phase = Resume }) → Awaits y.runs.program w records h →
          SimulatesStill y s w after stands
      first none gathers nobody does (r.all_have others reply isin ag) = go does ag (held_as_kept none gathers nobody)
      first none gathers nobody does (r.one_takes k ik stays) = absurd (nobody k ik)

      by : AwaitsOthers y.runs.program w h i.hart → AreLocked y w b stands.ghosts → SimulatesStill y s w after stands
      by (one_takes k ik does) locked = nothing_happens (Barrier k) does
      by (all_have nobody does) (gathering none gathers) = first none gathers nobody does (waits_for_takers y.runs.program w records h gathers i)
      by (all_have nobody does) (gathered ag held) = go does (gathered_go_on y.runs.program w records h Wait ag (inl refl) i).1 held

  -- ---- Whichever is so of its locks

  pub takes_still : IsInPhase w h Take → SimulatesStill y s w after stands
  takes_still i = elim stands.locks [
    | gathering none gathers ↦ takes none gathers i
    | gathered ag held ↦ absurd (subst (HasGathered w h (records h)) i.phase_is (ag.each h i.hart i.here))
  ]

  pub waits_still : IsInPhase w h Wait → SimulatesStill y s w after stands
  waits_still i = waits i stands.locks

  pub stopped_still : (phase : Phase) → (phase ≡ Done) ⊎ (phase ≡ Ended) → IsInPhase w h phase → SimulatesStill y s w after stands
  stopped_still phase stopped i = nothing_happens Still (stopped_stay y.runs.program w h phase stopped i)

  -- what is committed then is taken so
  pub goes_on : SimulatesStill y s w after stands → Simulates y s after
  goes_on still = commit_stutters y s after (still_simulates still)

pub takes_stand : TakesStand
takes_stand y s w h stands i = goes_on y s w h stands (takes_still y s w h stands i)

pub waits_stand : WaitsStand
waits_stand y s w h stands i = goes_on y s w h stands (waits_still y s w h stands i)

pub stopped_stand : StoppedStand
stopped_stand y s w h phase stands stopped i = goes_on y s w h stands (stopped_still y s w h stands phase stopped i)

-- ---- A hart that recovery resumes goes on at the node of its graph thread

module _ (y : System) (s : IsSystem y) (w : World) (h : ℕ) (stands : Simulates y s w) (i : IsInPhase w h Resume)
    (ag : AreGathered w (records_of stands.ghosts)) (held : AreHeld w stands.ghosts (now_of y stands.abstract)) where
  open stands use {abstract as b}
  open resumes_step y.runs.program w h i use {after as new, does, queue}

  abbrev resumed : World
  resumed = after_event y.runs.program w (Step h)

  module _ (below : h < thread_count y) where
    abbrev site : Site y s w h
    site = record { stands = stands; below = below }

    open view site use {code, c as ghost, n, places}

    rests : Rests y b.config n ghost
    rests = phase_of y s w h stands Resume i below

    describes : DescribesAs y.plan code (kept_of y b) ghost.late ghost.new
    describes = describes_over y b code ghost (stands.each h below).records rests.committed

    ready : IsRecoveredHart w n ghost.new
    ready = subst (λ (k : ℕ). IsRecoveredHart w k ghost.new) (sym (same_number site))
        (subst (HasGathered w h ghost.new) i.phase_is (ag.each h i.hart i.here))

    abbrev here_phase : IsInPhase w n Resume
    here_phase = record { hart = i.hart; here = ap (slice_get w.harts) (same_number site) ∙ i.here; phase_is = i.phase_is }

    machine : IsMachineOf y resumed
    machine = machine_stays y s w (Step h) stands.machine

    -- the thread's log as memory has it
    abbrev seen_log : LogView
    seen_log = record { side = side_of ghost.new; frame = live_at w.words }

    goes : IsInAttempt y b.config n ghost
    goes = record { going = rests.begun ∙ sym rests.done; rest = rests.rest; giving = rests.giving; committed = rests.committed }

    placed_now : IsPlaced y.plan code.thread places w.log (length w.harts)
    placed_now = placed_here site

    -- the resumed thread's graph thread is that of the kept state
    graph_thread_there : (graph_thread : GraphThread) → slice_get (kept_of y b).graph_threads n ≡ Some graph_thread →
        graph_thread ≡ (stands.each h below).graph_thread
    graph_thread_there graph_thread there =
        let kept : slice_get (now_of y b).graph_threads n ≡ slice_get (kept_of y b).graph_threads n =
        alone y s b n ∙ ap (λ (k : ℕ). slice_get (flow_solo (flat_of y) (kept_of y b) n k).graph_threads n) rests.begun in
        same_there (slice_get (kept_of y b).graph_threads n) graph_thread (stands.each h below).graph_thread there (sym kept ∙ (stands.each h below).walks)

    -- it is in phase once it runs there
    own_by_run : (next : Hart) → slice_get resumed.harts h ≡ Some next → next.phase ≡ Run →
        IsRunningThread y resumed b code ghost next (stands.each h below).graph_thread →
        InPhase y resumed b code ghost new (stands.each h below).graph_thread new.phase
    own_by_run next there runs is_running =
        let here : slice_get resumed.harts h ≡ Some new = (moved_is y s w h stands w i.hart new i.here does refl refl queue).here in
        let is : next ≡ new = same_there (slice_get resumed.harts h) next new there here in
        subst (λ (x : Hart). InPhase y resumed b code ghost x (stands.each h below).graph_thread x.phase) is
        (subst (InPhase y resumed b code ghost next (stands.each h below).graph_thread) (sym runs) is_running)

    -- ---- One that is on time

    module _ (on_time : ghost.late ≡ false) where
      go : ResumesThread y.runs.program code (kept_of y b) w i.hart ghost.new
      go = harts_go_on y.runs.program y.plan code (kept_of y b) w ghost.new stands.machine.log
          (subst (λ (late : Bool). DescribesAs y.plan code (kept_of y b) late ghost.new) on_time describes) ready here_phase

      open go.told use {graph_thread, own as of_thread}

      there : slice_get resumed.harts h ≡ Some go.after
      there = (moved_is y s w h stands w i.hart go.after i.here
          (subst (λ (k : ℕ). happens y.runs.program w (Step k) ≡ moved w k go.after) (same_number site) go.does) refl refl go.queue).here

      same_words : resumed.words ≡ w.words
      same_words = (moved_is y s w h stands w i.hart go.after i.here
          (subst (λ (k : ℕ). happens y.runs.program w (Step k) ≡ moved w k go.after) (same_number site) go.does) refl refl go.queue).words

      has_view : HasView resumed n seen_log
      has_view word framed = ap (λ (ws : List Word). live_value (frame_in resumed.log ws n word)) same_words

      short : length go.after.queue ≤ 16
      short = machine.short h go.after there

      abbrev IsHere : ℕ → Type 0
      IsHere address = IsRunningAt resumed n (config go.after.registers address)

      -- a word of the frame on which it counts has its number
      counted_on : (place : NodePlace) → place ≡ go.told.place → (local address : ℕ) → CountsOn y.plan code.thread graph_thread.at place local →
          home_of code.thread.locals local ≡ InFrame address → live_at w.words address ≡ go.told.view.frame address
      counted_on place same local address counts home =
          let own = placed_now.words local address home in
          let d = go.frame own.word (record {
            local = local;
            counted = subst (λ (x : NodePlace). CountsOn y.plan code.thread graph_thread.at x local) same counts;
            home = home ∙ ap (λ (k : ℕ). InFrame k) (own.is ∙ ap (λ (l : Log). frame_at l n own.word) (sym stands.machine.log));
          }) in
          ap (live_at w.words) own.is ∙ (d.live
          ∙ ap go.told.view.frame (ap (λ (l : Log). frame_at l n own.word) stands.machine.log ∙ sym own.is))

      abbrev may_there : NodePlace → Type 0
      may_there place = MayGoOn y.plan code.thread graph_thread.at place (seen_by (kept_of y b) graph_thread) seen_log go.told.owed go.after.registers

      may_now : (place : NodePlace) → place ≡ go.told.place →
          MayGoOn y.plan code.thread graph_thread.at place (seen_by (kept_of y b) graph_thread) (view_resumed ghost.new go.told.view) go.told.owed
          go.after.registers →
          may_there place
      may_now the_entry same may =
          enters_again y.plan code.thread graph_thread.at (seen_by (kept_of y b) graph_thread) (view_resumed ghost.new go.told.view) seen_log go.after.registers
          go.after.registers (places.live graph_thread.at) (code.is.live graph_thread.at of_thread) may may.at_side
          (λ local address live home. counted_on the_entry same local address live home) (λ register has. refl)
      may_now the_core same may = (
        ready_again y.plan code.thread graph_thread.at (seen_by (kept_of y b) graph_thread) (view_resumed ghost.new go.told.view) seen_log go.told.owed
            go.after.registers go.after.registers (places.kept graph_thread.at) (code.is.kept graph_thread.at of_thread) may.0
            (ready_side y code graph_thread.at (seen_by (kept_of y b) graph_thread) (view_resumed ghost.new go.told.view) go.told.owed go.after.registers may.0)
            (λ local address counts home. counted_on the_core same local address counts home) (λ register has. refl),
        may.1,
      )

      kept_alike : AssignsAlike y.plan code.thread (kept_of y b) (now_of y b)
      kept_alike =
          let r = (resumed_source y s b).resumed.invariant in
          let source = as_source y s b in
          assigns_alike y.plan s.plan code.thread (now_of y b) (kept_of y b) (now b.config) b.config.kept source.now_matches source.kept_matches
          (now_good y s b)
          (run_keeps (flat_of y) b.config.kept b.config.uncommitted r.keeps)
          (subst (λ (k : ℕ). IsSameTo (flat_of y) (now b.config) (solo b.config.kept n k) n) rests.begun
          (solo_law (flat_of y) b.config.kept b.config.uncommitted n r.keeps r.runs r.hands).same)
          (alone y s b n ∙ ap (λ (k : ℕ). slice_get (flow_solo (flat_of y) (kept_of y b) n k).graph_threads n) rests.begun)

      -- of a write that comes after a chosen boundary its record is told
      chosen_told : IsChosen y.plan.graph y.plan.boundaries graph_thread.at → ComesNext y.plan graph_thread.at the_core ghost.new.written →
          is_some ghost.new.written ≡ true
      chosen_told chosen next =
          let found = some_node (flat_of y) s.plan.formed (kept_of y b) b.config.kept n (as_source y s b).kept_matches graph_thread go.told.there in
          let at : NodeAt y.plan.graph graph_thread.at found.0 = subst (λ (g : Graph). NodeAt g graph_thread.at found.0) (sym s.plan.lowered) found.1 in
          ap is_some (next found.0 at) ∙ write_comes (chosen_writes y s graph_thread.at found.0 at chosen)

      runs_at_core : IsChosen y.plan.graph y.plan.boundaries graph_thread.at → ComesNext y.plan graph_thread.at the_core ghost.new.written →
          may_there the_core → AreCounted y.plan code.thread graph_thread.at the_core ghost.new.framed → IsHere (places.core graph_thread.at) →
          IsRunningThread y resumed b code ghost go.after graph_thread
      runs_at_core chosen next may counted at = at_core (record {
        view = seen_log;
        at_side = λ some. refl;
        frame = has_view;
        owed = go.told.owed;
        registers = go.after.registers;
        core =
            cores_see_all y.plan code.thread places resumed n graph_thread.at (seen_by (kept_of y b) graph_thread) seen_log go.told.owed go.after.registers
            (now_of y b).variables (record { own = of_thread; at = at; ready = may.0 });
        owes = owed_on y code ghost ghost (kept_of y b) (now_of y b) graph_thread go.told.owed go.told.there kept_alike refl
            (record { number = may.1; beside = λ logged. counted });
        goes = record { goes = goes; cleans = rests.cleans; execution = go.told.goes_on };
        fresh = λ is_chosen. rests.done;
        told = λ is_chosen. chosen_told chosen next;
        untold = λ plain. absurd (plain chosen);
        soon =
            let all = entry_soon y s h below graph_thread.at (length go.after.queue) of_thread short in
            whole_soon y n ghost.before_mark _ rests.whole (omega (arith, all, core_less y.plan places graph_thread.at));
      })

      -- resumed a lock or an unlock, whose code leads to the node
      runs_after : ghost.new.written ≡ None → may_there the_entry → (from : ℕ) (is : Node) → IsNodeOf code.thread from → NodeAt y.plan.graph from is →
          Contains (successors is.action) graph_thread.at → is.action ≢ End → GoesOnFrom from graph_thread.at y.plan code.thread →
          IsHere (places.after from) → IsRunningThread y resumed b code ghost go.after graph_thread
      runs_after untold enters from is own found follows other leads at =
          let environment = bare y s resumed h below in
          let seen = seen_by (kept_of y b) graph_thread in
          let fragment = leads y.runs.program code.program code.is resumed n environment seen seen_log go.after.registers
          (placed y s resumed h below machine.log machine.count) (bare_meets y s resumed h below) (bare_agrees y s resumed h below) at enters in
          let none : ghost.cleans ++ ghost.rest ≡ [] = ap₂ ◌++◌ rests.cleans rests.rest in
          on_fragment Arrives fragment.steps (record {
            environment = environment;
            answers = bare_answers y s resumed h below (now b.config);
            loaded = bare_loaded y s resumed h below b ghost;
            view = seen_log;
            at_side = λ some. refl;
            frame = has_view;
            fragment = subst (IsOnFragment y.plan code.thread places (on_machine y.runs.program resumed n environment) _ fragment.steps) (sym none)
                (fragments_see_all y.plan code.thread places y.runs.program resumed n environment _ fragment.steps [] (now_of y b).variables fragment.on);
            fits = (goes, go.told.goes_on, λ is none_begun. ap is_some untold);
            owes = tt;
            soon =
                let fit = fits_by y s h below from is own found graph_thread.at of_thread follows other in
                let no_cleans : cleans_in (seen_effects (ghost.cleans ++ ghost.rest)) ≡ 0 = ap (λ (es : List Effect). cleans_in (seen_effects es)) none in
                whole_soon y n ghost.before_mark _ rests.whole (omega (arith, fragment.short, short, most_is y s h below, no_cleans, fit));
          })

      runs_by : (place : NodePlace) (address : ℕ) → ResumesAt y.plan code graph_thread.at place address →
          ComesNext y.plan graph_thread.at place ghost.new.written → may_there place →
          AreCounted y.plan code.thread graph_thread.at place ghost.new.framed → IsHere address → IsRunningThread y resumed b code ghost go.after graph_thread
      runs_by _ _ (at_chosen chosen) next may counted at = runs_at_core chosen next may counted at
      runs_by _ _ (past_lock from lock is own found locks) next may counted at =
          runs_after next may from is own found (subst (λ (z : Action). Contains (successors z) graph_thread.at) (sym locks) (0, omega arith, refl))
          (λ ends. cc)
          (locks_go_on y.plan code.thread from graph_thread.locals (lock_number graph_thread.locals lock) graph_thread.at
          (record { own = own; is = is; at = found; lock = lock; locks = locks; number = refl })) at
      runs_by _ _ (past_unlock from lock is own found unlocks holds) next may counted at =
          runs_after next may from is own found (subst (λ (z : Action). Contains (successors z) graph_thread.at) (sym unlocks) (0, omega arith, refl))
          (λ ends. cc)
          (unlocks_go_on y.plan code.thread from graph_thread.locals (lock_number graph_thread.locals lock) graph_thread.at
          (record { own = own; is = is; at = found; lock = lock; unlocks = unlocks; number = refl })) at

      own_on_time : InPhase y resumed b code ghost new (stands.each h below).graph_thread new.phase
      own_on_time = own_by_run go.after there go.runs (subst (IsRunningThread y resumed b code ghost go.after) (graph_thread_there graph_thread go.told.there)
          (runs_by go.told.place (resume_of ghost.new.point) go.told.resumes go.told.written (may_now go.told.place refl go.may) go.told.framed (record {
            hart = go.after;
            here = ap (slice_get resumed.harts) (same_number site) ∙ there;
            runs = go.runs;
            is = ap (config go.after.registers) go.pc;
          })))

    -- ---- One that is late: at the core of the assignment

    module _ (late : ghost.late ≡ true) where
      go_late : ResumesLate y.runs.program code (kept_of y b) w i.hart ghost.new
      go_late = late_harts_go_on y.runs.program y.plan code (kept_of y b) w ghost.new stands.machine.log
          (subst (λ (l : Bool). DescribesAs y.plan code (kept_of y b) l ghost.new) late describes) ready here_phase

      open go_late use {told as past, after as next}

      quiet : IsQuiet w resumed h i.hart next
      quiet = moved_is y s w h stands w i.hart next i.here
          (subst (λ (k : ℕ). happens y.runs.program w (Step k) ≡ moved w k next) (same_number site) go_late.does) refl refl go_late.queue

      abbrev seen_past : Seen
      seen_past = seen_by (kept_of y b) past.graph_thread

      -- a word of the frame on which it counts has its number
      counted_past : (local address : ℕ) → CountsOn y.plan code.thread past.node the_core local → home_of code.thread.locals local ≡ InFrame address →
          live_at w.words address ≡ past.view.frame address
      counted_past local address counts home =
          let own = placed_now.words local address home in
          let d = go_late.frame own.word (record {
            local = local;
            counted = counts;
            home = home ∙ ap (λ (k : ℕ). InFrame k) (own.is ∙ ap (λ (l : Log). frame_at l n own.word) (sym stands.machine.log));
          }) in
          ap (live_at w.words) own.is ∙ (d.live
          ∙ ap past.view.frame (ap (λ (l : Log). frame_at l n own.word) stands.machine.log ∙ sym own.is))

      ready_past : IsReady y.plan code.thread past.node seen_past seen_log past.owed next.registers
      ready_past =
          ready_again y.plan code.thread past.node seen_past (view_resumed ghost.new past.view) seen_log past.owed next.registers next.registers
          (places.kept past.node) (code.is.kept past.node past.own_node) go_late.ready
          (ready_side y code past.node seen_past (view_resumed ghost.new past.view) past.owed next.registers go_late.ready)
          (λ local address counts home. counted_past local address counts home) (λ register has. refl)

      there_past : IsRunningAt resumed n (config next.registers (places.core past.node))
      there_past = record {
        hart = next;
        here = ap (slice_get resumed.harts) (same_number site) ∙ quiet.here;
        runs = go_late.runs;
        is = ap (config next.registers) (go_late.pc ∙ past.resumes);
      }

      runs_past : IsRunningThread y resumed b code ghost next past.graph_thread
      runs_past = at_past (record {
        late = late;
        view = seen_log;
        at_side = λ some. refl;
        frame = λ word framed. ap (λ (ws : List Word). live_value (frame_in resumed.log ws n word)) quiet.words;
        node = past.node;
        logged = past.logged;
        goes_to = past.goes;
        owed = past.owed;
        number = past.number;
        registers = next.registers;
        core = cores_see_all y.plan code.thread places resumed n past.node seen_past seen_log past.owed next.registers (now_of y b).variables
            (record { own = past.own_node; at = there_past; ready = ready_past });
        beside = past.framed;
        goes = record { goes = goes; cleans = rests.cleans; execution = past.goes_on };
        soon = whole_soon y n ghost.before_mark _ rests.whole (omega (arith, machine.short h next quiet.here, most_is y s h below));
      })

      own_late : InPhase y resumed b code ghost new (stands.each h below).graph_thread new.phase
      own_late = own_by_run next quiet.here go_late.runs
          (subst (IsRunningThread y resumed b code ghost next) (graph_thread_there past.graph_thread past.there) runs_past)

    own : InPhase y resumed b code ghost new (stands.each h below).graph_thread new.phase
    own = elim (cases_Bool ghost.late) [
      | inl late ↦ own_late late
      | inr on_time ↦ own_on_time on_time
    ]

  resumes : SimulatesStill y s w resumed stands
  resumes =
      quiet_stands y s w h stands i.hart new i.here (moved_is y s w h stands w i.hart new i.here does refl refl queue) own
      (gathered (gathered_go_on y.runs.program w (records_of stands.ghosts) h Resume ag (inr refl) i).1
      (held_alike w resumed stands.ghosts stands.ghosts (now_of y b) (ap (λ (o : Outcome). o.0.holders) does) (λ n. refl) held))

pub resumes_still : (y : System) (s : IsSystem y) (w : World) (h : ℕ) (stands : Simulates y s w) → IsInPhase w h Resume →
    SimulatesStill y s w (after_event y.runs.program w (Step h)) stands
resumes_still y s w h stands i = elim stands.locks [
  | gathering none gathers ↦ absurd (subst (Gathers w h (records_of stands.ghosts h)) i.phase_is (gathers.each h i.hart i.here))
  | gathered ag held ↦ resumes y s w h stands i ag held
]

pub resumes_stand : ResumesStand
resumes_stand y s w h stands i = goes_on y s w h stands (resumes_still y s w h stands i)
