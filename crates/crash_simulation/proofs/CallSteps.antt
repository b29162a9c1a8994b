-- A step of a hart at its call: it takes a mutex or waits, gives one back, or ends.
use Rattle.crash_simulation.proofs.LastReleases.{describes_test_as}
use Rattle.crash_simulation.proofs.PointsInSections.{point_free}
use Rattle.crash_simulation.proofs.Common.{◌≡◌, ◌≢◌, ℕ, List, sym, ◌∙◌, ap, arith, subst, true, false, Option, Some, None, refl, suc, ◌+◌, [], ◌++◌, length}
use Rattle.crash_simulation.proofs.Common.{Bool, ◌⊎◌, inl, inr, ◌==◌, slice_set, slice_get, ◌&&◌, if◌then◌else◌, true≢false, is_some, ◌-◌, ⊎_elim, is_none}
use Rattle.crash_simulation.proofs.Common.{cases_Bool, and_parts, cond-true, cond-false, nat_tests, none-some, same_Some, holds_none, Entry, Step, Hart, World}
use Rattle.crash_simulation.proofs.Common.{happens, with_holder, moved, gone_on, Effect, passes_mark, Phase, Done, Run, Ended, steps_touch, get-set_same}
use Rattle.crash_simulation.proofs.Common.{get-set_other, Action, now, attempt_of, steps_begun, HasUnlocked, held_now, seen_effects, IsAtCall, phase_after}
use Rattle.crash_simulation.proofs.Common.{cleans_in, steps_left, calls_count, IsCalling, IsUnlockOf, ExitPoint, Arrives, Gives, Ends, IsOnFragment, IsEndOf}
use Rattle.crash_simulation.proofs.Common.{on_machine, AreMarksOf, GivesMutex, unlocks_go_on, call_there, unlocks_give, ends_end, same_there, same_or_other}
use Rattle.crash_simulation.proofs.Common.{holds_none_is, kept_of, now_of, is_bound, is_leaving, was_unlocked, Releases, nothing_released, last_released, stays}
use Rattle.crash_simulation.proofs.Common.{CallsStep, halts, is_nearer, IsGiving, entry_ahead, most_ahead, IsSoon, System, IsSystem, flat_of, Rests}
use Rattle.crash_simulation.proofs.Common.{ThreadGhost, on_fragment, InPhase, ThreadInv, IsRunningThread, GoesClean, IsBounded}
use Rattle.crash_simulation.proofs.Common.{boundary_fences}
use Rattle.node_code.specs.Pieces.{gives, ends}
use Rattle.crash_simulation.specs.InstructionSteps as moving
use Rattle.crash_simulation.proofs.BoundaryFences.{same_fences}
use Rattle.crash_simulation.proofs.LastReleases.{holds_some, no_release, holders_stay_none, is_release, none_leaving}
use Rattle.crash_simulation.proofs.LocksAfterStep.{GoneOn, runs_held, held_given}
use Rattle.crash_simulation.proofs.OwnHartSteps.{view, StepOf, own_step, own_giving, locks_to, held_still}
use Rattle.crash_simulation.proofs.LockCallSteps.{none_from, AtEnd, MovesHart, FragmentTo, z, invariant, exists_now, now_holders}
use Rattle.crash_simulation.proofs.LockCallSteps.{kept_held, fragment_over, none_left, rest_over, hart_is, committed_over, call_stores, points_none, alone}
use Rattle.crash_simulation.proofs.LockCallSteps.{holders_after, memory_after, describes_new, asks_step, fences_still, last_still, accesses_still}
use Rattle.crash_simulation.proofs.StatesMatchSource.{kept_matches}
use Rattle.crash_simulation.proofs.KeptThreads.{phase_moves}
use Rattle.crash_simulation.proofs.LoadFreeEnvironment.{placed}
use Rattle.crash_simulation.proofs.LocksAtCalls.{ends_free}
use Rattle.crash_simulation.proofs.StepsAfterMarks.{less_soon}
use Rattle.crash_simulation.proofs.FragmentSteps.{not_twice}
use Rattle.crash_simulation.proofs.Common.{Word, frame_in}
use Rattle.ido_base.specs.Growth.{IsPersisted}
use Rattle.ido_base.proofs.Public.{persisted_refl}
use Rattle.crash_simulation.proofs.NodeEnvironments.{frame_guarded, placed_here, frame_loaded}
use Rattle.crash_simulation.proofs.ThreadViews.{view_persists}

-- ---- An unlock

module _ {y : System} {s : IsSystem y} {w : World} {h from mutex : ℕ} (at : AtEnd y s w h (Gives from mutex)) where
  open view at.site use {b, code, ghosts, c, t, n, v, places, graph_thread, seen}

  abbrev pub giving : FragmentTo at (z at) (Gives from mutex) 0 []
  giving = fragment_over at

  bounded : IsBounded y b.config n c graph_thread (Some mutex) false (HasUnlocked b.config n mutex)
  bounded = at.o.fits

  unlock : IsUnlockOf y.plan code.thread from graph_thread.locals mutex graph_thread.at
  unlock = giving.of_graph

  at_unlock : IsAtCall y.runs.program w n gives
  at_unlock =
      let calls = subst (λ (a : Action). IsCalling y.plan code.thread places a from) unlock.unlocks (code.is.code from unlock.is unlock.own unlock.at).calls in
      call_there giving from refl calls.0 gives giving.has.call

  none_begun : steps_begun b.config n ≡ 0
  none_begun = bounded.after (committed_over at)

  none_done : (attempt_of b.config n).done ≡ 0
  none_done = ⊎_elim (λ e. omega (arith, none_begun, e)) (λ q. absurd (omega (arith, none_begun, q.0))) ((invariant at).tried n).begun

  gives_it : (ghosts n).giving ≡ Some mutex
  gives_it = sym (own_giving at.site) ∙ bounded.gives

  pub owns : slice_get w.holders mutex ≡ Some (Some n)
  owns = at.held.giving mutex n (exists_now at) gives_it

  given : GivesMutex y.plan code.thread places (on_machine y.runs.program w n (z at)) from mutex
      (record { exit = Gives from mutex; node = graph_thread.at; seen = seen; view = at.o.view }) giving.on.hart giving.registers
  given = unlocks_give calls_count y.plan code.thread y.runs.program code.program code.is w n (z at) from mutex graph_thread.at
      seen at.o.view [] (placed_here at.site) giving owns

  abbrev left_holders : List (Option ℕ)
  left_holders = slice_set w.holders mutex None

  abbrev given_hart : Hart
  given_hart = record (gone_on giving.on.hart) { phase = phase_after w n left_holders }

  given_queue : given_hart.queue ≡ t.log.hart.queue
  given_queue = ap (λ (x : Hart). x.queue) (hart_is at)

  abbrev given_move : MovesHart at
  given_move = record { u = with_holder w mutex None; new = given_hart; does = given.does; words = refl; harts = refl; queue = given_queue }

  not_now : slice_get (now_of y b).holders mutex ≢ Some (Some n)
  not_now = at.held.given mutex n (exists_now at) gives_it

  abbrev is_over : Bool
  is_over = w.recovering && holds_none left_holders n

  abbrev given_ghost : ThreadGhost
  given_ghost = record c { giving = None; before_mark = if is_over then most_ahead y n else c.before_mark - 1 }

  -- where the hart is left with no lock, the thread has none in what is kept
  kept_none : holds_none left_holders n ≡ true → holds_none (kept_of y b).holders n ≡ true
  kept_none none =
      kept_held at (λ m u. omega (arith, u.begun, none_begun)) (λ lock has. elim (same_or_other lock mutex) [
        | inl is ↦ not_now (ap (slice_get (now_of y b).holders) (sym is) ∙ has)
        | inr other ↦ holds_none_is n left_holders lock none (get-set_other w.holders mutex lock None other ∙ at.held.holds lock n has)
      ])

  is_settled : is_over ≡ true → Rests y b.config n given_ghost
  is_settled over = record {
    begun = none_begun;
    done = none_done;
    rest = rest_over at;
    cleans = bounded.cleans;
    giving = refl;
    committed = committed_over at;
    whole = cond-true is_over (most_ahead y n) (c.before_mark - 1) over;
  }

  -- one step less is ahead
  nearer : (c.before_mark ≡ suc (c.before_mark - 1)) × IsSoon y n (c.before_mark - 1)
      (length t.log.hart.queue + (places.words from - 3 + entry_ahead y.plan places graph_thread.at))
  nearer = grind (arith, nat_tests)

  goes_on_running : is_over ≡ false → phase_after w n left_holders ≡ Run → IsRunningThread y v b code given_ghost given_hart graph_thread
  goes_on_running more run =
      let on = unlocks_go_on y.plan code.thread from graph_thread.locals mutex graph_thread.at unlock y.runs.program code.program code.is v n (z at)
      seen at.o.view giving.registers
      (placed y s v h at.site.below (at.site.stands.machine.log ∙ sym (alone at given_move).log)
      ((steps_touch y.runs.program w n at.site.stands.machine.sound).count ∙ at.site.stands.machine.count))
      giving.meets given.agrees (given.at run) given.enters in
      on_fragment Arrives on.steps (record {
        environment = z at;
        answers = frame_guarded at.site (now b.config);
        loaded = frame_loaded at.site b given_ghost;
        view = at.o.view;
        at_side = at.o.at_side;
        frame = view_persists w v n at.o.view (alone at given_move).log (λ own is. subst (λ (ws : List Word). IsPersisted (frame_in w.log w.words n own)
            (frame_in w.log ws n own)) (sym (alone at given_move).words) (persisted_refl _)) at.o.frame;
        fragment = subst (λ (es : List Effect). IsOnFragment y.plan code.thread places (on_machine y.runs.program v n (z at))
            (record { exit = Arrives; node = graph_thread.at; seen = seen; view = at.o.view }) on.steps es) (sym (none_left at)) on.on;
        fits = (
          record { going = none_begun ∙ sym none_done; rest = rest_over at; giving = refl; committed = committed_over at },
          bounded.execution,
          λ on_time none. bounded.written,
        );
        owes = tt;
        soon =
            let queue : length given_hart.queue ≡ length t.log.hart.queue = ap (λ (q : List Entry). length q) given_queue in
            let no_cleans : cleans_in (seen_effects (c.cleans ++ c.rest)) ≡ 0 = ap (λ (es : List Effect). cleans_in (seen_effects es)) (none_left at) in
            subst (λ (k : ℕ). IsSoon y n k (steps_left on.steps (seen_effects (c.cleans ++ c.rest)) given_hart.queue
            + entry_ahead y.plan places graph_thread.at)) (sym (cond-false is_over (most_ahead y n) (c.before_mark - 1) more))
            (less_soon y n (c.before_mark - 1) _ _ nearer.1 (omega (arith, queue, no_cleans)));
      })

  given_phase : InPhase y v b code given_ghost given_hart graph_thread given_hart.phase × GoneOn given_hart.phase
  given_phase = elim (cases_Bool is_over) [
    | inl over ↦
        by Done (cond-true is_over Done Run over)
        ((is_settled over, point_free code (kept_of y b) c.late c.new (describes_new at) (kept_none (and_parts w.recovering _ over).1)), tt)
    | inr more ↦ let run = cond-false is_over Done Run more in by Run run (goes_on_running more run, tt)
  ]
    where
      by : (phase : Phase) → given_hart.phase ≡ phase → InPhase y v b code given_ghost given_hart graph_thread phase × GoneOn phase →
          InPhase y v b code given_ghost given_hart graph_thread given_hart.phase × GoneOn given_hart.phase
      by phase is both = subst (λ (p : Phase). InPhase y v b code given_ghost given_hart graph_thread p × GoneOn p) (sym is) both

  given_thread : ThreadInv y v b code given_ghost
  given_thread = phase_moves v None given_ghost.before_mark (λ lock gives. absurd (none-some lock gives)) t given_hart (alone at given_move) given_phase.0

  -- ---- What it releases

  -- where the thread has none in what is kept, the hart is left with no lock
  left_none : holds_none (kept_of y b).holders n ≡ true → holds_none left_holders n ≡ true
  left_none none =
      ap is_none (none_from n 0 left_holders (λ lock there. elim (same_or_other lock mutex) [
        | inl is ↦
            none-some n (same_Some _ _ (sym (get-set_same w.holders mutex None (Some n) owns) ∙ (ap (slice_get left_holders) (sym is) ∙ there)))
        | inr other ↦ not_kept lock other (at.held.held lock n (sym (get-set_other w.holders mutex lock None other) ∙ there))
      ]))
    where
      not_kept : (lock : ℕ) → lock ≢ mutex → (slice_get (now_of y b).holders lock ≡ Some (Some n)) ⊎ IsGiving ghosts (now_of y b) lock n → ⊥
      not_kept lock other (inr g) = other (same_Some lock mutex (sym g.gives ∙ gives_it))
      not_kept lock other (inl has) =
          ⊎_elim
          (λ kept. holds_none_is n (kept_of y b).holders lock none (ap (λ (hs : List (Option ℕ)). slice_get hs lock) (kept_matches y s b).holders ∙ kept))
          (λ l. omega (arith, l.begun, none_begun))
          (held_now (flat_of y) b.config n lock (invariant at) (ap (λ (hs : List (Option ℕ)). slice_get hs lock) (sym (now_holders at)) ∙ has))

  leaving_is : is_leaving c ≡ holds_none (kept_of y b).holders n
  leaving_is =
      let test : (c.new.point == 0) ≡ holds_none (kept_of y b).holders n = describes_test_as y code (kept_of y b) c.late c.new (describes_new at) in
      let gives : c.giving ≡ Some mutex = bounded.gives in
      let done : c.committed ≡ true = committed_over at in
      λ i. done i && (is_some (gives i) && test i)

  given_released : Releases y w n c given_ghost
  given_released =
      let same : holds_none v.holders n ≡ holds_none left_holders n = ap (λ (hs : List (Option ℕ)). holds_none hs n) (holders_after at given_move) in
      elim (cases_Bool (holds_none left_holders n)) [
        | inl none ↦
            last_released (is_release y.runs.program w n (holds_some n w.holders mutex owns) (same ∙ none)) (leaving_is ∙ kept_none none)
            (none_leaving given_ghost refl)
        | inr some ↦
            nothing_released (no_release y.runs.program w n (λ none. absurd (true≢false (sym none ∙ (same ∙ some)))))
            (none_leaving given_ghost refl ∙ sym (leaving_is ∙ elim (cases_Bool (holds_none (kept_of y b).holders n)) [
              | inl none ↦ absurd (true≢false (sym (left_none none) ∙ some))
              | inr kept ↦ kept
            ]))
      ]

  gives_step : StepOf at.site n
  gives_step = record {
    next = b;
    led = stays;
    memory = memory_after at given_move;
    stores_own = call_stores at at_unlock;
    new = given_ghost;
    own = given_thread;
    gone = subst (λ (x : Hart). GoneOn x.phase)
        (same_there (slice_get v.harts n) given_hart given_thread.log.hart (alone at given_move).here given_thread.log.here) given_phase.1;
    held = λ held. held_given (locks_to at.site b given_ghost refl) held mutex owns not_now (holders_after at given_move) refl gives_it refl;
    counted = record {
      late = refl;
      marks = λ on_time. given.no_mark y.runs.marks refl;
      unlocked = λ lock gives. absurd (none-some lock gives);
      points = given.counts.0 ∙ not_twice (is_bound c);
      bound = λ e. e;
      fences = same_fences (boundary_fences y.plan.log) _ _ c.rest given.counts.1 given.counts.0;
      nears = elim (cases_Bool is_over) [
        | inl over ↦ halts given_hart (alone at given_move).here (inl (cond-true is_over Done Run over))
        | inr more ↦ is_nearer (nearer.0 ∙ ap suc (sym (cond-false is_over (most_ahead y n) (c.before_mark - 1) more)))
      ];
      told = refl;
      begins_told = λ on_time no. absurd (true≢false (sym no));
      last = last_still at at_unlock;
      accesses = accesses_still at at_unlock;
    };
    released = given_released;
  }

-- ---- The end

module _ {y : System} {s : IsSystem y} {w : World} {h : ℕ} (at : AtEnd y s w h Ends) where
  open view at.site use {b, code, ghosts, c, t, n, v, places, graph_thread, seen}

  abbrev pub ending : FragmentTo at (z at) Ends 0 []
  ending = fragment_over at

  ends_clean : GoesClean y b.config n c true graph_thread
  ends_clean = at.o.fits

  last : IsEndOf y.plan code.thread graph_thread.at
  last = ending.of_graph

  at_end : IsAtCall y.runs.program w n ends
  at_end =
      let calls = subst (λ (a : Action). IsCalling y.plan code.thread places a graph_thread.at) last.ends
      (code.is.code graph_thread.at last.is last.own last.at).calls in
      call_there ending graph_thread.at refl calls.0 ends ending.has

  none_now : (lock : ℕ) → slice_get (now_of y b).holders lock ≢ Some (Some n)
  none_now = ends_free y s b code graph_thread t.walks last

  pub none_here : (lock : ℕ) → slice_get w.holders lock ≢ Some (Some n)
  none_here lock there =
      ⊎_elim (λ has. none_now lock has) (λ gives. none-some lock (sym (sym (own_giving at.site) ∙ ends_clean.goes.giving) ∙ gives.gives))
      (at.held.held lock n there)

  ended : (happens y.runs.program w (Step n) ≡ moved w n (record (gone_on ending.on.hart) { phase = Ended })) ×
      ((marks : List (List ℕ)) → AreMarksOf marks n (z at) → passes_mark marks y.runs.program w n ≡ false)
  ended = ends_end calls_count y.plan code.thread y.runs.program code.program code.is w n (z at) graph_thread.at
      seen at.o.view [] ending (none_from n 0 w.holders none_here)

  abbrev ended_move : MovesHart at
  ended_move = record {
    u = w;
    new = record (gone_on ending.on.hart) { phase = Ended };
    does = ended.0;
    words = refl;
    harts = refl;
    queue = ap (λ (x : Hart). x.queue) (hart_is at);
  }

  ended_thread : ThreadInv y v b code c
  ended_thread =
      let point = point_free code (kept_of y b) c.late c.new (describes_new at)
      (kept_held at (λ m u. omega (arith, u.begun, ends_clean.goes.going)) none_now) in
      phase_moves v c.giving c.before_mark (λ lock gives. gives) t ended_move.new (alone at ended_move) (ends_clean, point)

  ends_step : StepOf at.site n
  ends_step = record {
    next = b;
    led = stays;
    memory = memory_after at ended_move;
    stores_own = call_stores at at_end;
    new = c;
    own = ended_thread;
    gone = subst (λ (x : Hart). GoneOn x.phase)
        (same_there (slice_get v.harts n) ended_move.new ended_thread.log.hart (alone at ended_move).here ended_thread.log.here) tt;
    held = held_still at.site b c (holders_after at ended_move) refl refl refl;
    counted = record {
      late = refl;
      marks = λ on_time. ended.1 y.runs.marks refl;
      unlocked = λ lock gives. was_unlocked refl gives;
      points = points_none at at_end;
      bound = λ e. e;
      fences = fences_still at at_end;
      nears = halts ended_move.new (alone at ended_move).here (inr refl);
      told = refl;
      begins_told = λ on_time no. absurd (true≢false (sym no));
      last = last_still at at_end;
      accesses = accesses_still at at_end;
    };
    released = nothing_released (holders_stay_none y.runs.program w n (holders_after at ended_move)) refl;
  }

-- ---- Whichever it is

by_call : {y : System} {s : IsSystem y} {w : World} {h : ℕ} (exit : ExitPoint) (at : AtEnd y s w h exit) →
    moving.IsCalling exit → StepOf at.site (view at.site).n
by_call _ at (moving.asks mutex next) = asks_step at
by_call _ at (moving.gives from mutex) = gives_step at
by_call _ at moving.ends = ends_step at

pub calls_step : CallsStep
calls_step y s w h site i exit o calls =
    let z = site.stands in
    let held = (runs_held y s w z.abstract z.ghosts h z.machine.log z.machine.sound i z.locks).1 in
    own_step site i (by_call exit (record { site = site; held = held; o = o }) calls)
