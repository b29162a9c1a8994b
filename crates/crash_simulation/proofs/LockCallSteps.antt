-- A hart at its call, and at one that asks for a mutex: it takes it, or waits.
use Rattle.crash_simulation.proofs.Common.{DescribesAs}
use Rattle.crash_simulation.proofs.Common.{cond-true, is_some, node_of, option_map, steps_begun}
use Rattle.crash_simulation.specs.InstructionSteps.{IsTold}
use Rattle.crash_simulation.specs.ThreadGhosts.{tells_write}
use Rattle.crash_simulation.proofs.ChosenNodes.{chosen_writes}
use Rattle.crash_simulation.proofs.ReadyHarts.{lock_plain}
use Rattle.crash_simulation.proofs.Common.{is_empty}
use Rattle.log_states.proofs.Public.{points_end}
use Rattle.crash_simulation.proofs.LastReleases.{holds_some}
use Rattle.crash_simulation.proofs.Common.{◌∷◌, ◌⊎◌, ◌/◌, ◌*◌, ◌==◌, pos, Cleans, IsFrameFlushed, IsFrameWord, IsSectioned, Log, MovesTo, after_lock}
use Rattle.crash_simulation.proofs.Common.{contains_none, fences_ahead, frame_ahead, frame_at, frame_in, held_names_before, last_position, log_stays}
use Rattle.crash_simulation.proofs.Common.{opens_section, steps_move, the_entry, view_after, words_in, Bool}
use Rattle.crash_simulation.proofs.BeginningFrames.{boundary_cleans, frame_comes, opening_cleans}
use Rattle.crash_simulation.proofs.CompletedEffects.{step_last}
use Rattle.crash_simulation.proofs.FrameFlushes.{frame_still}
use Rattle.crash_simulation.proofs.FrameWords.{all_words}
use Rattle.crash_simulation.proofs.LoadFreeEnvironment.{resettled_in}
use Rattle.crash_simulation.proofs.NodeEnvironments.{agrees_here, frame_answered, frame_guarded, meets_here, placed_here, reading, reads, reads_own}
use Rattle.crash_simulation.proofs.NodeEnvironments.{frame_loaded}
use Rattle.crash_simulation.proofs.PendingFlushes.{frames_stay}
use Rattle.crash_simulation.proofs.PointsInSections.{point_held, point_where}
use Rattle.crash_simulation.proofs.ThreadViews.{frame_stays, log_moved, view_stays}
use Rattle.crash_simulation.proofs.Common.{◌≡◌, ◌≢◌, ℕ, List, sym, ◌∙◌, ap, arith, subst, true, false, Option, Some, None, refl, suc, ◌+◌, ◌<◌, [], ◌++◌}
use Rattle.crash_simulation.proofs.Common.{length, inl, inr, slice_get, ◌&&◌, not, true≢false, length-set, ◌≤◌, ℤ, ⊎_elim, Contains, is_none, cond-false}
use Rattle.crash_simulation.proofs.Common.{none-some, same_Some, slice_get_within, holds_none, held_from, Step, LockName, locks, locks_same, Hart}
use Rattle.crash_simulation.proofs.Common.{World, happens, Outcome, with_holder, moved, gone_on, Effect, Calls, row, is_running, stores_point, Ecall, Phase}
use Rattle.crash_simulation.proofs.Common.{get-set_same, GraphThread, FlowState, Action, Lock, End, successors, get_cases, set_same, no_more, Boundary}
use Rattle.crash_simulation.proofs.Common.{boundary_effects, solo, now, attempt_of, Invariant, begun, ConfigStep, synchronises, Synchronises, HasUnlocked}
use Rattle.crash_simulation.proofs.Common.{HasLocked, memory_in, counted_own, unequal_of, goes_alone, left_is_free, held_before, MarkedEnvironment}
use Rattle.crash_simulation.proofs.Common.{recorded_by, LogInv, Record, IsElsewhere, IsNext, stores_nothing, one_effect, side_follows, boundaries_fence}
use Rattle.crash_simulation.proofs.Common.{boundary_stores, takes, IsAtCall, calls_count, effect_is, queues_stay_short, keeping, IsCalling, Enters, IsLockOf}
use Rattle.crash_simulation.proofs.Common.{ExitPoint, IsOnFragment, on_machine, Asks, Took, TakesMutex, call_there, fragments_see_all, cleans_on, locks_take}
use Rattle.crash_simulation.proofs.Common.{locks_wait, same_there, holds_none_is, AbstractRun, kept_of, now_of, is_bound, was_unlocked, Site}
use Rattle.crash_simulation.proofs.Common.{nothing_released, stays, MayStore, nothing, goes, OnFragmentNow, abstract_next, thread_of, begins_step, AreHeld}
use Rattle.crash_simulation.proofs.Common.{most_ahead, System, IsSystem, thread_count, flat_of, places_of, ThreadGhost, on_fragment, InPhase, ThreadInv}
use Rattle.crash_simulation.proofs.Common.{GoesClean, InFragment, finishes_fence, boundary_fences, AreFencesCounted, last_store_after, first_access_after}
use Rattle.crash_simulation.proofs.Common.{config_of, durable_there}
use Rattle.crash_simulation.specs.InstructionSteps as moving
use Rattle.crash_simulation.proofs.BoundaryFences.{begins_fences, same_fences}
use Rattle.log_states.proofs.Public.{ends}
use Rattle.crash_simulation.proofs.CompletedEffects.{accessed_by, last_by, step_durable}
use Rattle.crash_simulation.proofs.ReadBytes.{none_bound, reads_same}
use Rattle.crash_simulation.proofs.LogWords.{recorded_settled}
use Rattle.crash_simulation.proofs.LastReleases.{no_release, holders_stay_none, none_leaving, and_none}
use Rattle.crash_simulation.proofs.StatesMatchSource.{resumed, kept_matches, orderly, now_orderly, now_good}
use Rattle.crash_simulation.proofs.Boundaries.{after_lock_in, IsBeginning, BoundaryIsRecoverable, boundaries_begin}
use Rattle.crash_simulation.proofs.LoadFreeEnvironment.{none_ahead}
use Rattle.crash_simulation.proofs.LocksAtCalls.{locks_it, mutex_there, taken, takes_it, source_takes}
use Rattle.crash_simulation.proofs.PendingFlushes.{Passage, stored_same, still_reached, reaches_same}
use Rattle.crash_simulation.proofs.OwnHartSteps.{log_begins, step_to, view, StepOf, held_still, own_giving, locks_to}
use Rattle.crash_simulation.proofs.ThreadViews.{IsQuiet, begins_with, describes_over, log_at, moves_alone, none_clean, records_begin}
use Rattle.crash_simulation.proofs.UncommittedSteps.{leads_on}
use Rattle.crash_simulation.proofs.RecordsAfterCrash.{caught_is_over}
use Rattle.crash_simulation.proofs.LocksAfterStep.{GoneOn, held_taken}
use Rattle.crash_simulation.proofs.PendingReleases.{giving_of}
use Rattle.crash_simulation.proofs.GraphAfterBegin.{follows_on, matches_now}
use Rattle.crash_simulation.proofs.WriteBackSteps.{not_bound}
use Rattle.crash_simulation.proofs.ReadyHarts.{right_empty}
use Rattle.crash_simulation.proofs.FragmentSteps.{not_twice}
use Rattle.crash_simulation.proofs.StepsAfterMarks.{fits_by, most_is}

-- a hart that has no lock is found to have none
pub none_from : (n at : ℕ) (holders : List (Option ℕ)) → ((lock : ℕ) → slice_get holders lock ≢ Some (Some n)) → held_from at holders n ≡ None
none_from n at [] free = refl
none_from n at (None ∷ holders) free = none_from n (at + 1) holders (λ lock. free (suc lock))
none_from n at (Some u ∷ holders) free =
    cond-false (n == u) (Some at) (held_from (at + 1) holders n) (unequal_of n u (λ e. free 0 (ap (λ (k : ℕ). Some (Some k)) (sym e))))
    ∙ none_from n (at + 1) holders (λ lock. free (suc lock))

lock_or_end : (lock : LockName) (next : ℕ) → Lock lock next ≡ End → ⊥
lock_or_end lock next e = cc

-- ---- A hart at the end of its fragment

-- where harts hold what their threads do
pub record AtEnd (y : System) (s : IsSystem y) (w : World) (h : ℕ) (exit : ExitPoint) : Type 0 where
  pub site : Site y s w h
  pub held : AreHeld w site.stands.ghosts (now_of y site.stands.abstract)
  pub o : OnFragmentNow site exit 0

module _ {y : System} {s : IsSystem y} {w : World} {h : ℕ} {exit : ExitPoint} (at : AtEnd y s w h exit) where
  open view at.site use {b, code, c, t, n, v, places, graph_thread, seen}

  abbrev pub z : MarkedEnvironment
  z = reading at.site []

  abbrev pub FragmentTo : MarkedEnvironment → ExitPoint → (steps : ℕ) → List Effect → Type 0
  FragmentTo x to steps effects = IsOnFragment y.plan code.thread places (on_machine y.runs.program w n x)
      (record { exit = to; node = graph_thread.at; seen = seen; view = at.o.view }) steps effects

  pub invariant : Invariant (flat_of y) b.config
  invariant = (resumed y s b).resumed.invariant

  pub exists_now : n < length (now_of y b).graph_threads
  exists_now = slice_get_within (now_of y b).graph_threads n graph_thread t.walks

  pub now_holders : (now_of y b).holders ≡ (now b.config).holders
  now_holders = (matches_now y s b).holders

  -- what the thread holds in what is kept it holds now, where none of its steps has unlocked it
  pub kept_held : ((mutex : ℕ) → ¬ (HasUnlocked b.config n mutex)) → ((lock : ℕ) → slice_get (now_of y b).holders lock ≢ Some (Some n)) →
      holds_none (kept_of y b).holders n ≡ true
  kept_held never free =
      ap is_none (none_from n 0 (kept_of y b).holders (λ lock there.
      let kept : slice_get b.config.kept.holders lock ≡ Some (Some n) =
      ap (λ (hs : List (Option ℕ)). slice_get hs lock) (sym (kept_matches y s b).holders) ∙ there in
      ⊎_elim (λ has. free lock (ap (λ (hs : List (Option ℕ)). slice_get hs lock) now_holders ∙ has)) (never lock)
      (held_before (flat_of y) b.config n lock invariant kept)))

  -- nothing is ahead, and no answer counts
  pub fragment_over : FragmentTo z exit 0 []
  fragment_over = resettled_in y s w h at.site.below at.o.environment _ (c.cleans ++ c.rest) at.o.fragment z (meets_here at.site (reads at.site []))
      (agrees_here at.site (reads at.site []))

  pub none_left : c.cleans ++ c.rest ≡ []
  none_left = none_ahead y s w h at.site.below at.o.environment _ (c.cleans ++ c.rest) at.o.fragment

  pub rest_over : c.rest ≡ []
  rest_over = right_empty c.cleans c.rest none_left

  pub hart_is : fragment_over.on.hart ≡ t.log.hart
  hart_is = same_there (slice_get w.harts n) fragment_over.on.hart t.log.hart fragment_over.on.here t.log.here

  pub committed_over : c.committed ≡ true
  committed_over = caught_is_over y w b code c t rest_over (at.site.stands.caught_up h at.site.below (λ e. e))

  -- the record that is taken as committed describes the kept state
  pub describes_new : DescribesAs y.plan code (kept_of y b) c.late c.new
  describes_new = describes_over y b code c t.records committed_over

  -- the hart's instruction is a call, which stores nothing
  module _ {number : ℕ} (a : IsAtCall y.runs.program w n number) where
    calls_next : IsNext y.runs.program w n a.hart Calls
    unfolding row
    calls_next = record { here = a.here; runs = ap is_running a.runs; is = effect_is y.runs.program w n a.hart a.here a.runs Ecall a.calls }

    pub call_stores : (hart : Hart) (effect : Effect) → IsNext y.runs.program w n hart effect → MayStore y b n effect
    call_stores hart effect is = subst (MayStore y b n) (one_effect y.runs.program w n a.hart hart Calls effect calls_next is) (nothing Calls refl)

    pub last_still : (word : ℕ) → c.last_stores word ≡ last_store_after y.runs.program w (Step n) n word (c.last_stores word)
    last_still word = last_by y.runs.program w n word (c.last_stores word) a.hart Calls calls_next refl

    pub accesses_still : (byte : ℕ) → c.first_accesses byte ≡ first_access_after y.runs.program w (Step n) n byte (c.first_accesses byte)
    accesses_still byte = accessed_by y.runs.program w n byte (c.first_accesses byte) a.hart Calls calls_next refl

    pub call_elsewhere : IsElsewhere y.runs.program w all_words n n
    call_elsewhere = stores_nothing y.runs.program all_words w n n a.hart Calls calls_next refl

    pub points_none : stores_point y.runs.program w (Step n) n ≡ (not (is_bound c) && is_bound c)
    points_none = (calls_count y.runs.program w n number a).1 ∙ not_twice (is_bound c)

    pub fences_still : AreFencesCounted (boundary_fences y.plan.log) (finishes_fence y.runs.program w (Step n) n) (stores_point y.runs.program w (Step n) n)
        c.rest c.rest
    fences_still = let counts = calls_count y.runs.program w n number a in same_fences (boundary_fences y.plan.log) _ _ c.rest counts.2 counts.1

  -- ---- The step moves the hart alone

  pub record MovesHart : Type 0 where
    pub u : World
    pub new : Hart
    pub does : happens y.runs.program w (Step n) ≡ moved u n new
    pub words : u.words ≡ w.words
    pub harts : u.harts ≡ w.harts
    pub queue : new.queue ≡ t.log.hart.queue

  module _ (m : MovesHart) where
    pub alone : IsQuiet w v n t.log.hart m.new
    alone = moves_alone y.runs.program w m.u n t.log.hart m.new at.site.stands.machine.sound t.log.here m.does m.words m.harts m.queue

    pub holders_after : v.holders ≡ m.u.holders
    holders_after = ap (λ (x : Outcome). x.0.holders) m.does

    pub memory_after : memory_in (places_of y) v.words ≡ b.config.memory
    memory_after = ap (memory_in (places_of y)) (alone.words) ∙ at.site.stands.memory

-- ---- A lock

module _ {y : System} {s : IsSystem y} {w : World} {h mutex next : ℕ} (at : AtEnd y s w h (Asks mutex next)) where
  open view at.site use {b, code, ghosts, c, t, n, v, places, graph_thread, seen}

  abbrev pub asks : FragmentTo at (z at) (Asks mutex next) 0 []
  asks = fragment_over at

  goes_clean : GoesClean y b.config n c false graph_thread
  goes_clean = at.o.fits.0

  pub lock_here : IsLockOf y.plan code.thread graph_thread.at graph_thread.locals mutex next
  lock_here = asks.of_graph

  at_lock : IsAtCall y.runs.program w n takes
  at_lock =
      let calls = subst (λ (a : Action). IsCalling y.plan code.thread places a graph_thread.at) lock_here.locks
      (code.is.code graph_thread.at lock_here.is lock_here.own lock_here.at).calls in
      call_there asks graph_thread.at refl calls.0 takes asks.has.call

  -- another thread has the mutex
  waits : (holder : ℕ) → slice_get w.holders mutex ≡ Some (Some holder) → StepOf at.site n
  waits holder has =
      let l = locks_wait calls_count y.plan code.thread y.runs.program code.program code.is w n (z at) graph_thread.at mutex next
      seen at.o.view [] holder asks has in
      let still : v ≡ w = ap (λ (x : Outcome). x.0) l.0 in
      let goes_on : (u : ThreadInv y w b code c) × GoneOn u.log.hart.phase =
      (t, subst (λ (x : Hart). GoneOn x.phase) (hart_is at) (subst GoneOn (sym asks.on.runs) tt)) in
      let on = subst (λ (x : World). (u : ThreadInv y x b code c) × GoneOn u.log.hart.phase) (sym still) goes_on in
      record {
        next = b;
        led = stays;
        memory = ap (λ (x : World). memory_in (places_of y) x.words) still ∙ at.site.stands.memory;
        stores_own = call_stores at at_lock;
        new = c;
        own = on.0;
        gone = on.1;
        held = held_still at.site b c (ap (λ (x : World). x.holders) still) refl refl refl;
        counted = record {
          late = refl;
          marks = λ on_time. l.1 y.runs.marks;
          unlocked = λ lock gives. was_unlocked refl gives;
          points = points_none at at_lock;
          bound = λ e. e;
          fences = fences_still at at_lock;
          nears = moving.waits mutex holder l.0 refl;
          told = refl;
          begins_told = λ on_time no. absurd (true≢false (sym no));
          last = last_still at at_lock;
          accesses = accesses_still at at_lock;
        };
        released = nothing_released (holders_stay_none y.runs.program w n (ap (λ (x : World). x.holders) still)) refl;
      }

  -- the mutex is free
  module _ (free : slice_get w.holders mutex ≡ Some None) where
    it : TakesMutex y.plan code.thread places (on_machine y.runs.program w n (z at)) mutex next
        (record { exit = Asks mutex next; node = graph_thread.at; seen = seen; view = at.o.view }) asks.on.hart asks.registers
    it = locks_take calls_count y.plan code.thread y.runs.program code.program code.is w n (z at) graph_thread.at mutex next
        seen at.o.view [] (placed_here at.site) (reads_own at.site []) asks (frame_answered at.site [] at.o.view at.o.frame next) free

    abbrev b_next : Boundary
    b_next = keeping y.plan code.thread places (opens_section y.plan code.thread places graph_thread.at) graph_thread.locals next

    abbrev resume : ℕ
    resume = places.after graph_thread.at

    -- ---- The source takes it, too

    now_is_free : slice_get (now_of y b).holders mutex ≡ Some None
    now_is_free = elim (get_cases (now_of y b).holders mutex) [
      | inl none ↦
          let count = (now_orderly y s b).locks in
          absurd (omega (arith, no_more (now_of y b).holders mutex none, count, mutex_there y s b code graph_thread t.walks mutex next lock_here))
      | inr found ↦ by found.0 found.1
    ]
      where
        by : (holder : Option ℕ) → slice_get (now_of y b).holders mutex ≡ Some holder → slice_get (now_of y b).holders mutex ≡ Some None
        by None there = there
        by (Some u) there = absurd (none-some u (same_Some None (Some u) (sym free ∙ at.held.holds mutex u there)))

    kept_is_free : (other : ℕ) → other ≢ n → slice_get b.config.kept.holders mutex ≢ Some (Some other)
    kept_is_free other differs kept =
        let in_kept : slice_get (kept_of y b).holders mutex ≡ Some (Some other) =
        ap (λ (hs : List (Option ℕ)). slice_get hs mutex) (kept_matches y s b).holders ∙ kept in
        let inside : other < thread_count y = (orderly y s b).holders mutex other in_kept in
        ⊎_elim
        (λ has. none-some other (same_Some None (Some other)
        (sym now_is_free ∙ (ap (λ (hs : List (Option ℕ)). slice_get hs mutex) (now_holders at) ∙ has))))
        (λ u.
        let gives : (ghosts other).giving ≡ Some mutex =
        giving_of y w b (s.codes.each other inside) (ghosts other) mutex
        (subst (λ (k : ℕ). HasUnlocked b.config k mutex) (sym (s.codes.number other inside)) u) (at.site.stands.each other inside) in
        let graph_threads = (now_orderly y s b).count in
        none-some other (same_Some None (Some other) (sym free ∙ at.held.giving mutex other (omega (arith, inside, graph_threads)) gives)))
        (held_before (flat_of y) b.config other mutex (invariant at) kept)

    step : Synchronises b.config n
    step =
        let source = source_takes y s b code graph_thread t.walks mutex next lock_here now_is_free in
        let locks_mutex : locks (now b.config) n ≡ Some mutex = locks_it y s b code graph_thread t.walks mutex next lock_here in
        record {
          going = goes_clean.goes.going;
          next = source.0;
          is = source.1;
          mutex = mutex;
          passes = inl locks_mutex;
          own = left_is_free (flat_of y) b.config n (invariant at) (λ m other locks_m differs kept.
              kept_is_free other differs (ap (slice_get b.config.kept.holders) (same_Some mutex m (sym locks_mutex ∙ locks_m)) ∙ kept));
        }

    abbrev happened : ConfigStep b.config (begun b.config n b.config.memory b.config.attempts)
    happened = synchronises n step

    abbrev then_abstract : AbstractRun y
    then_abstract = abstract_next y b _ (leads_on y b _ happened refl tt).0 (leads_on y b _ happened refl tt).1

    now_is : now_of y then_abstract ≡ taken y s b code graph_thread t.walks mutex next lock_here
    now_is = same_Some _ _ (sym (follows_on y s b _ happened refl) ∙ takes_it y s b code graph_thread t.walks mutex next lock_here now_is_free)

    abbrev moved_thread : GraphThread
    moved_thread = record graph_thread { at = next }

    walks : slice_get (now_of y then_abstract).graph_threads n ≡ Some moved_thread
    walks = ap (λ (x : FlowState). slice_get x.graph_threads n) now_is ∙ set_same (now_of y b).graph_threads n moved_thread graph_thread t.walks

    -- ---- The boundary after the lock begins

    beginning : IsBeginning y.plan code (now_of y then_abstract) b_next at.o.view resume asks.registers
    beginning = record {
      graph_thread = moved_thread;
      there = walks;
      goes_on = goes_clean.execution;
      own = it.on.on.own;
      place = the_entry;
      boundary = after_lock graph_thread.at lock_here.lock lock_here.is lock_here.own lock_here.at lock_here.locks;
      owed = pos 0;
      may = subst (λ (vs : List (List ℤ)). Enters y.plan code.thread next
          (record { locals = graph_thread.locals; pending = graph_thread.pending; variables = vs }) at.o.view asks.registers)
          (sym (ap (λ (x : FlowState). x.variables) now_is)) asks.has.enters;
      address = after_lock_in y s h at.site.below graph_thread.at graph_thread.locals mutex next lock_here;
    }

    begins_there : BoundaryIsRecoverable y.plan code (now_of y then_abstract) b_next next the_entry at.o.view resume asks.registers
    unfolding beginning
    begins_there = boundaries_begin code s.plan (now_orderly y s then_abstract) (now_good y s then_abstract) beginning

    abbrev frame : ℕ → ℕ
    frame = words_in y.plan.log n at.o.view

    abbrev then_record : Record
    then_record = recorded_by b_next begins_there.framed frame at.o.view.side resume asks.registers

    abbrev then_ghost : ThreadGhost
    then_ghost = begins_with c then_record (boundary_effects b_next at.o.view.side resume asks.registers) None (most_ahead y n)

    -- the boundary opens a section, or the thread is in one
    opens_or_inside : (b_next.opens ≡ true) ⊎ (c.new.point ≢ 0)
    opens_or_inside = by (held_names_before y.plan code.thread graph_thread.at) refl
      where
        by : (names : List LockName) → held_names_before y.plan code.thread graph_thread.at ≡ names → (b_next.opens ≡ true) ⊎ (c.new.point ≢ 0)
        by [] none = inl (ap (λ (names : List LockName). length names == 0) none)
        by (name ∷ names) some = inr (point_held y s b code goes_clean.goes.going graph_thread t.walks asks.own c.late c.new (describes_new at)
            (λ none. (let both = sym some ∙ none in cc)))

    log_first : LogInv n c.new then_record w then_ghost.rest
    log_first = log_begins at.site b_next refl refl begins_there.framed frame at.o.view.side resume asks.registers (rest_over at) asks.has.enters.at_side
        at.o.at_side begins_there.recoverable
        (frame_comes at.site b_next refl refl begins_there.framed at.o.view at.o.frame begins_there.exist (none_left at) (λ locked. opens_or_inside))

    moves_then : MovesTo n all_words w log_first.hart then_ghost.rest v then_ghost.rest
    moves_then = steps_move y.runs.program all_words w n n log_first.hart then_ghost.rest at.site.stands.machine.sound log_first.here
        (call_elsewhere at at_lock)

    log_then : LogInv n c.new then_ghost.new v then_ghost.rest
    log_then = log_moved log_first moves_then

    open it.on.on.on use {hart as new}

    abbrev moving_hart : MovesHart at
    moving_hart = record {
      u = with_holder w mutex (Some n);
      new = gone_on asks.on.hart;
      does = it.does;
      words = refl;
      harts = refl;
      queue = ap (λ (x : Hart). x.queue) (hart_is at);
    }

    -- ---- The thread

    locked : HasLocked then_abstract.config n mutex
    locked =
        let alone = goes_alone (flat_of y) b.config n (invariant at) goes_clean.goes.going in
        record {
          begun = counted_own n b.config.uncommitted ∙ ap suc goes_clean.goes.going;
          locks_it = locks_same (now b.config) (solo b.config.kept n (attempt_of b.config n).done) n (sym alone.own)
              ∙ locks_it y s b code graph_thread t.walks mutex next lock_here;
        }

    abbrev passage : Passage y code
    passage = step_to at.site v (b.config.uncommitted ++ n ∷ []) b.config.memory b.config.attempts (leads_on y b _ happened refl tt) then_ghost new

    then_fragment : InFragment y v then_abstract code then_ghost new moved_thread (Took graph_thread.at) it.on.steps
    then_fragment = record {
      environment = z at;
      answers = frame_guarded at.site (now then_abstract.config);
      loaded = frame_loaded at.site then_abstract then_ghost;
      view = view_after b_next at.o.view;
      at_side = side_follows b_next begins_there.framed frame at.o.view.side resume asks.registers begins_there.recoverable;
      frame = view_stays log_first moves_then at.o.view at.o.frame;
      fragment = fragments_see_all y.plan code.thread places y.runs.program v n (z at)
          (record { exit = Took graph_thread.at; node = next; seen = seen; view = view_after b_next at.o.view }) it.on.steps
          then_ghost.rest (now_of y then_abstract).variables it.on.on;
      fits = record {
        execution = goes_clean.execution;
        cleans = refl;
        gives = refl;
        written = refl;
        before = λ no. (mutex, locked);
        after = λ yes. absurd (true≢false (sym yes));
      };
      owes = tt;
      soon =
          let queue : length new.queue ≤ 16 =
          queues_stay_short y.runs.program w (Step n) at.site.stands.machine.short n new it.on.on.on.here in
          let fit = fits_by y s h at.site.below graph_thread.at lock_here.is lock_here.own lock_here.at next it.on.on.own
          (subst (λ (x : Action). Contains (successors x) next) (sym lock_here.locks) (0, omega arith, refl))
          (λ ends. lock_or_end lock_here.lock next (sym lock_here.locks ∙ ends)) in
          let cleans = cleans_on (z at) it.on.steps _ _ _ it.on.on.on.walks in (
            omega (arith, it.on.short, boundary_cleans b_next at.o.view.side resume asks.registers, cleans, queue, fit, most_is y s h at.site.below),
            omega arith,
          );
    }

    frame_then : IsSectioned then_ghost → (word : ℕ) → IsFrameWord v.log word → IsFrameFlushed y v then_abstract code then_ghost new word
    frame_then sectioned word framed = ⊎_elim opened inside opens_or_inside
      where
        log : v.log ≡ w.log
        log = log_stays y.runs.program w (Step n) at.site.stands.machine.sound

        is : IsFrameWord w.log word
        is = subst (λ (l : Log). IsFrameWord l word) log framed

        fenced : then_ghost.committed ≡ false → fences_ahead then_ghost.rest < 2 →
            last_position (frame_in v.log v.words n word) ≤ (frame_in v.log v.words n word).durable
        fenced un few = let two = boundaries_fence b_next at.o.view.side resume asks.registers in absurd (omega (arith, two, few))

        opened : b_next.opens ≡ true → IsFrameFlushed y v then_abstract code then_ghost new word
        opened opens = record {
          comes = frame_ahead (8 * (word / 8)) (subst (λ (l : Log). Contains then_ghost.rest (Cleans (frame_at l n (8 * (word / 8)))))
              (at.site.stands.machine.log ∙ sym log) (opening_cleans b_next at.o.view.side resume asks.registers word opens
              (subst (λ (l : Log). IsFrameWord l word) (sym at.site.stands.machine.log) is) locks_held)) (omega arith);
          fenced = fenced;
        }
          where
            -- the mutex that it has taken is among them
            locks_held : b_next.locks ≢ []
            locks_held none =
                point_where code (now_of y then_abstract) false _ begins_there.describes (holds_some n (now_of y then_abstract).holders mutex
                (ap (λ (x : FlowState). slice_get x.holders mutex) now_is ∙ get-set_same (now_of y b).holders mutex (Some n) None now_is_free))
                (points_end b_next begins_there.framed frame at.o.view.side resume asks.registers (ap is_empty none))

        inside : c.new.point ≢ 0 → IsFrameFlushed y v then_abstract code then_ghost new word
        inside some =
            frame_still y w v b then_abstract code c then_ghost t.log.hart new log (frame_stays log_first moves_then)
            (reaches_same passage (alone at moving_hart).words
            (ap (λ (x : Hart). x.queue) (same_there (slice_get v.harts n) new (gone_on asks.on.hart) it.on.on.on.here (alone at moving_hart).here)
            ∙ (alone at moving_hart).queue))
            (λ other has. absurd (contains_none _ (subst (λ (es : List Effect). Contains es (Cleans (frame_at w.log n other))) (none_left at) has))) word framed
            fenced (t.stored.frame (inl some) word is)

    one_begun : steps_begun then_abstract.config n ≡ suc (steps_begun b.config n)
    one_begun = counted_own n b.config.uncommitted

    thread_then : ThreadInv y v then_abstract code then_ghost
    thread_then = record {
      log = log_at log_then new it.on.on.on.here;
      records = records_begin y then_abstract code then_ghost refl (describes_new at) begins_there.describes;
      graph_thread = moved_thread;
      walks = walks;
      phase =
          subst (λ (p : Phase). InPhase y v then_abstract code then_ghost new moved_thread p) (sym it.on.on.on.runs)
          (on_fragment (Took graph_thread.at) it.on.steps then_fragment);
      stored = stored_same passage none_clean
          (still_reached passage goes_clean.cleans (reaches_same passage (alone at moving_hart).words
          (ap (λ (x : Hart). x.queue) (same_there (slice_get v.harts n) new (gone_on asks.on.hart) it.on.on.on.here (alone at moving_hart).here)
          ∙ (alone at moving_hart).queue)))
          (λ u e position since. since)
          (λ u e f un few. let two = boundaries_fence b_next at.o.view.side resume asks.registers in absurd (omega (arith, two, few))) refl
          (step_durable y.runs.program w n at.site.stands.machine.sound) (λ word position is. inl is)
          (λ word position among low.
          let settled = recorded_settled w.log n c.new w.words (ends w.log n c.old c.new (config_of w t.log.hart c.rest) t.log.log (rest_over at)) word among in
          durable_there (step_durable y.runs.program w n at.site.stands.machine.sound word position (omega (arith, low, settled))))
          (frames_stay passage (log_stays y.runs.program w (Step n) at.site.stands.machine.sound) (step_last y.runs.program w n at.site.stands.machine.sound))
          frame_then t.stored;
      has_read = reads_same passage (λ byte. refl) (none_bound c goes_clean.goes.committed)
          (ap not (boundary_stores b_next at.o.view.side resume asks.registers)) refl
          (λ there. inr (none_bound c goes_clean.goes.committed, omega (arith, one_begun))) (omega (arith, one_begun)) t.has_read;
    }

    told_new : tells_write c ≡ is_some c.new.written
    told_new = ap (λ (r : Record). is_some r.written) (cond-true c.committed c.new c.old (committed_over at))

    told_here : c.late ≡ false → true ≡ true → steps_begun b.config n ≡ 0 → (node : ℕ) → node_of (now_of y b) n ≡ Some node → IsTold y node (tells_write c)
    told_here on_time begun first node stands =
        let same : graph_thread.at ≡ node = same_Some _ _ (sym (ap (option_map (λ (z : GraphThread). z.at)) t.walks) ∙ stands) in
        subst (λ (k : ℕ). IsTold y k (tells_write c)) same (
          λ chosen. absurd (lock_plain (chosen_writes y s graph_thread.at lock_here.is lock_here.at chosen) lock_here.locks),
          λ plain. told_new ∙ at.o.fits.1 on_time first,
        )

    takes_mutex : StepOf at.site n
    unfolding thread_then
    takes_mutex = record {
      next = then_abstract;
      led = goes _ happened refl (leads_on y b _ happened refl tt).0 (leads_on y b _ happened refl tt).1;
      memory = memory_after at moving_hart;
      stores_own = call_stores at at_lock;
      new = then_ghost;
      own = thread_then;
      gone = subst GoneOn (sym it.on.on.on.runs) tt;
      held = λ held. held_taken (locks_to at.site then_abstract then_ghost
          (ap (λ (x : FlowState). length x.graph_threads) now_is ∙ length-set (now_of y b).graph_threads n moved_thread)) held mutex free now_is_free
          (holders_after at moving_hart) (ap (λ (x : FlowState). x.holders) now_is) (sym (own_giving at.site) ∙ goes_clean.goes.giving) refl;
      counted = record {
        late = refl;
        marks = λ on_time. it.mark y.runs.marks refl;
        unlocked = λ lock gives. absurd (none-some lock gives);
        points = it.counts.0 ∙ sym (ap (λ (x : Bool). not (is_bound c) && x) (ap not (boundary_stores b_next at.o.view.side resume asks.registers))
            ∙ and_none (not (is_bound c)));
        bound = λ was. absurd (not_bound c goes_clean.goes.committed was);
        fences =
            subst (λ (rest : List Effect). AreFencesCounted (boundary_fences y.plan.log) (finishes_fence y.runs.program w (Step n) n)
            (stores_point y.runs.program w (Step n) n) rest then_ghost.rest) (sym goes_clean.goes.rest)
            (begins_fences (boundary_fences y.plan.log) _ _ then_ghost.rest it.counts.1 it.counts.0
            (boundaries_fence b_next at.o.view.side resume asks.registers) (boundary_stores b_next at.o.view.side resume asks.registers));
        nears = begins_step (it.mark y.runs.marks refl);
        told = sym told_new;
        begins_told = told_here;
        last = last_still at at_lock;
        accesses = accesses_still at at_lock;
      };
      released = nothing_released (no_release y.runs.program w n (λ none. absurd (holds_none_is n v.holders mutex none
          (ap (λ (hs : List (Option ℕ)). slice_get hs mutex) (holders_after at moving_hart) ∙ get-set_same w.holders mutex (Some n) None free))))
          (sym (none_leaving c goes_clean.goes.giving));
    }

  pub asks_step : StepOf at.site n
  asks_step = elim (get_cases w.holders mutex) [
    | inl none ↦
        let within = mutex_there y s b code graph_thread t.walks mutex next lock_here in
        absurd (omega (arith, no_more w.holders mutex none, at.site.stands.machine.mutexes, within))
    | inr found ↦ by found.0 found.1
  ]
    where
      by : (holder : Option ℕ) → slice_get w.holders mutex ≡ Some holder → StepOf at.site n
      by None there = takes_mutex there
      by (Some holder) there = waits holder there

-- ---- What crates above ask

module _ {y : System} {s : IsSystem y} {w : World} {h : ℕ} (site : Site y s w h) (held : AreHeld w site.stands.ghosts (now_of y site.stands.abstract)) where
  abbrev pub at_end : {exit : ExitPoint} → OnFragmentNow site exit 0 → AtEnd y s w h exit
  at_end o = record { site = site; held = held; o = o }

  pub fragment : {exit : ExitPoint} (o : OnFragmentNow site exit 0) → FragmentTo (at_end o) (z (at_end o)) exit 0 []
  fragment o = fragment_over (at_end o)

  pub lock : {mutex next : ℕ} → OnFragmentNow site (Asks mutex next) 0 →
      IsLockOf y.plan (s.codes.each h site.below).thread (thread_of site).graph_thread.at (thread_of site).graph_thread.locals mutex next
  lock o = lock_here (at_end o)
