-- A hart that executes instructions is in a fragment, at a call, at the store of a local outside sections, or at the code of a node that takes no mutex.
use Rattle.crash_simulation.specs.ThreadGhosts.{at_past}
use Rattle.crash_simulation.proofs.Common.{cond-true}
use Rattle.crash_simulation.specs.ThreadGhosts.{tells_write}
use Rattle.crash_simulation.proofs.Common.{LockName, is_some}
use Rattle.thread_code.specs.NodeCodeEffects.{bytes_written}
use Rattle.crash_simulation.proofs.Common.{◌≡◌, ℕ, List, ◌∷◌, sym, ◌∙◌, ap, arith, subst, true, false, Option, Some, None, refl, suc, ◌+◌, ◌<◌, [], ◌++◌}
use Rattle.crash_simulation.proofs.Common.{length, Bool, ◌⊎◌, inl, inr, zero, slice_get, ◌&&◌, not, true≢false, ◌≤◌, ap₂, ◌*◌, ⊎_elim, list_any, none-some}
use Rattle.crash_simulation.proofs.Common.{same_Some, slice_get_within, Log, lock_number, Hart, World, Effect, Phase, Run, GraphThread, effect_of, IsChosen}
use Rattle.crash_simulation.proofs.Common.{IsUnlock, NodeAt, Action, Node, Graph, Lock, Unlock, Boundary, boundary_effects, now, IsGoing, MarkedEnvironment}
use Rattle.crash_simulation.proofs.Common.{seen_effects, recorded_by, LogInv, is_store, is_committed, side_follows, boundaries_fence, boundary_stores}
use Rattle.crash_simulation.proofs.Common.{begins_uncommitted, IsInPhase, cleans_in, steps_left, IsAnswered, source_of, ExitPoint, Arrives, Gives, Ends}
use Rattle.crash_simulation.proofs.Common.{IsOnFragment, on_machine, Keeps, Asks, Took, IsOnSomeFragment, cleans_on, nodes_begin, arrivals_end, took_end}
use Rattle.crash_simulation.proofs.Common.{at_end, Code, Gathers, AreGathered, same_there, AbstractRun, now_of, is_bound, SaysSame, Site, IsReadyToStep}
use Rattle.crash_simulation.proofs.Common.{with_ghost, gives, ends, OnFragmentNow, asks, AtCoreNow, SimulatesReady, RunsReady, Simulates, AreLocked}
use Rattle.crash_simulation.proofs.Common.{gathering, gathered, records_of, entry_ahead, IsSoon, call_weight, core_ahead, System, IsSystem, thread_count}
use Rattle.crash_simulation.proofs.Common.{flat_of, ThreadGhost, on_fragment, at_core, InPhase, ThreadInv, IsRunningThread, HasCommittedLog, InFragment}
use Rattle.crash_simulation.proofs.Common.{boundary_fences, AreFencesCounted, same_or_other}
use Rattle.flow_graph.specs.IdempotentCuts.{unlocks}
use Rattle.crash_simulation.specs.InstructionSteps.{IsCalling}
use Rattle.flow_graph.specs.Actions as a
use Rattle.crash_simulation.specs.InstructionSteps as moving
use Rattle.crash_simulation.proofs.LocksAfterStep.{held_alike, each_ghost, other_ghost, own_ghost}
use Rattle.crash_simulation.proofs.BoundaryFences.{begins_fences, same_fences}
use Rattle.crash_simulation.proofs.ThreadsOfMachines.{each_placed}
use Rattle.crash_simulation.proofs.LoadFreeEnvironment.{bare, bare_answers, bare_reads, none_ahead, resettled, resettled_in, bare_loaded}
use Rattle.crash_simulation.proofs.NodeEnvironments.{agrees_here, answered_here, answers_guarded, frame_answered, frame_guarded, guards_here, meets_here}
use Rattle.crash_simulation.proofs.NodeEnvironments.{frame_loaded, ahead_loaded, ones, placed_here, reading, reads, reads_own}
use Rattle.crash_simulation.proofs.PointsInSections.{point_before}
use Rattle.crash_simulation.proofs.FrameFlushes.{frame_still}
use Rattle.crash_simulation.proofs.Boundaries.{BoundaryIsRecoverable, boundaries_begin, core_in}
use Rattle.crash_simulation.proofs.PendingFlushes.{Passage, frames_stay, stored_same, still_reached, reaches_same}
use Rattle.log_states.proofs.Public.{ends as log_ends}
use Rattle.crash_simulation.proofs.Common.{config_of, durable_there, ◌≢◌, ℤ, pos, Contains, IsFrameFlushed, IsFrameWord, IsLogged, IsNumberAssigned, IsOnSide}
use Rattle.crash_simulation.proofs.Common.{IsReady, IsSectioned, LogView, Seen, before_core, contains_none, frame_at, keeping_before, the_core, to_assign}
use Rattle.crash_simulation.proofs.Common.{to_enter, view_after, HasGathered, words_in, Cleans, Computes, FrameIsComing, Record, lowered}
use Rattle.ido_base.proofs.Public.{persisted_refl}
use Rattle.crash_simulation.proofs.BeginningFrames.{frame_comes}
use Rattle.log_states.proofs.Public.{point_says}
use Rattle.thread_runs.specs.Laws.{BoundaryRun, IsOwing}
use Rattle.crash_simulation.proofs.LogWords.{recorded_settled}
use Rattle.crash_simulation.proofs.StatesMatchSource.{resumed, now_orderly, now_good}
use Rattle.crash_simulation.proofs.StepsAfterMarks.{weight_is, core_less, less_soon}
use Rattle.crash_simulation.proofs.LastReleases.{none_leaving}
use Rattle.crash_simulation.proofs.NodeEffects.{some_node}
use Rattle.crash_simulation.proofs.ChosenNodes.{WritesHere, assigns_there, chosen_core, chosen_entry, chosen_writes, stores_there}
use Rattle.crash_simulation.proofs.GraphAfterBegin.{matches_now}
use Rattle.crash_simulation.proofs.OwnHartSteps.{view, log_begins, step_to}
use Rattle.crash_simulation.proofs.ThreadViews.{begins_with, describes_over, none_clean, records_begin}
use Rattle.crash_simulation.proofs.ReadBytes.{none_bound, reads_same}
use Rattle.crash_simulation.proofs.RecordsAfterCrash.{caught_is_over}

-- ---- Lists

left_empty : {A : Type 0} (xs ys : List A) → xs ++ ys ≡ [] → xs ≡ []
left_empty [] ys h = refl
left_empty (x ∷ xs) ys h = cc

pub right_empty : {A : Type 0} (xs ys : List A) → xs ++ ys ≡ [] → ys ≡ []
right_empty [] ys h = h
right_empty (x ∷ xs) ys h = cc

-- ---- Nodes

-- the node at which the graph thread is
record HasNodeThere (y : System) (graph_thread : GraphThread) : Type 0 where
  is : Node
  at : NodeAt y.plan.graph graph_thread.at is

-- a boundary stands before it by choice, or none does
chosen_or_not : (y : System) (node : ℕ) (is : Node) → NodeAt y.plan.graph node is →
    (IsChosen y.plan.graph y.plan.boundaries node) ⊎ ¬ (IsChosen y.plan.graph y.plan.boundaries node)
chosen_or_not y node is at = by (slice_get y.plan.boundaries.before node) refl
  where
    is_unlock : Action → Bool
    is_unlock (Unlock lock next) = true
    is_unlock action = false

    free : is_unlock is.action ≡ false → ¬ (IsUnlock y.plan.graph node)
    free none (unlocks x lock next there action) =
        true≢false (sym (ap is_unlock action) ∙ (ap (λ (z : Node). is_unlock z.action) (same_Some x is (sym there ∙ at)) ∙ none))

    stands_by : slice_get y.plan.boundaries.before node ≡ Some true → (action : Action) → is.action ≡ action →
        (IsChosen y.plan.graph y.plan.boundaries node) ⊎ ¬ (IsChosen y.plan.graph y.plan.boundaries node)
    stands_by there (Unlock lock next) e = inr (λ chosen. chosen.free (unlocks is lock next at e))
    stands_by there action e = inl (record { stands = there; free = free (ap is_unlock e) })

    by : (o : Option Bool) → slice_get y.plan.boundaries.before node ≡ o →
        (IsChosen y.plan.graph y.plan.boundaries node) ⊎ ¬ (IsChosen y.plan.graph y.plan.boundaries node)
    by None e = inr (λ chosen. none-some true (sym e ∙ chosen.stands))
    by (Some false) e = inr (λ chosen. true≢false (sym (same_Some false true (sym e ∙ chosen.stands))))
    by (Some true) e = stands_by e is.action refl

-- ---- What a node owes

-- the number that it gives its local, if it assigns one
abbrev given : Option a.Effect → ℤ
given (Some (a.Sets local number next)) = number
given o = pos 0

owing : (action : Action) (seen : Seen) → IsOwing action seen (given (effect_of action seen))
owing action seen local number next does = ap given does

pub ready_side : (y : System) (code : Code y.plan) (node : ℕ) (seen : Seen) (view : LogView) (owed : ℤ) (registers : List ℕ) →
    IsReady y.plan code.thread node seen view owed registers → IsOnSide y.plan.log view.side registers
ready_side _ _ _ _ _ _ _ (to_enter plain enters) = enters.at_side
ready_side _ _ _ _ _ _ _ (to_assign logged may) = may.at_side

-- ---- Writes

pub write_comes : {action : Action} → WritesHere action → is_some (bytes_written action) ≡ true
write_comes (stores_there t) = ap (λ (a : Action). is_some (bytes_written a)) t.is
write_comes (assigns_there t) = ap (λ (a : Action). is_some (bytes_written a)) t.is

-- no lock is one
pub lock_plain : {action : Action} {lock : LockName} {next : ℕ} → WritesHere action → action ≡ Lock lock next → ⊥
lock_plain (stores_there t) locks = (let both = sym t.is ∙ locks in cc)
lock_plain (assigns_there t) locks = (let both = sym t.is ∙ locks in cc)

-- ---- A thread in a machine that simulates an abstract run

-- in a fragment through the boundary before its node
abbrev OnKeeps : (y : System) (w : World) (b : AbstractRun y) (code : Code y.plan) (c : ThreadGhost) → ThreadInv y w b code c → Type 0
OnKeeps y w b code c t = (owed : ℤ) × (steps : ℕ) × InFragment y w b code c t.log.hart t.graph_thread (Keeps owed) steps

module _ {y : System} {s : IsSystem y} {w : World} {h : ℕ} (site : Site y s w h) where
  open view site use {b, code, c, t, n, places, graph_thread, seen}
  open site.stands.machine use {log as logs}

  abbrev Ready : Type 0
  Ready = IsReadyToStep site

  abbrev bare_here : MarkedEnvironment
  bare_here = bare y s w h site.below

  abbrev FragmentWith : MarkedEnvironment → LogView → (steps : ℕ) → ExitPoint → List Effect → Type 0
  FragmentWith z seen_log steps exit effects = IsOnFragment y.plan code.thread places (on_machine y.runs.program w n z)
      (record { exit = exit; node = graph_thread.at; seen = seen; view = seen_log }) steps effects

  -- in a fragment to that exit point, with so many instructions ahead
  abbrev IsAt : ExitPoint → (steps : ℕ) → Type 0
  IsAt = OnFragmentNow site

  there : HasNodeThere y graph_thread
  there =
      let found = some_node (flat_of y) s.plan.formed (now_of y b) (now b.config) n (matches_now y s b) graph_thread t.walks in
      record { is = found.0; at = subst (λ (g : Graph). NodeAt g graph_thread.at found.0) (sym s.plan.lowered) found.1 }

  -- a fragment that ends where the thread makes a call
  fragment_ready : {exit : ExitPoint} (steps : ℕ) → IsAt exit steps → IsCalling exit → Ready
  fragment_ready {exit} zero o calling = moving.calls exit o calling
  fragment_ready {exit} (suc k) o calling = moving.on_fragment exit k o

  -- ---- At a node's code

  core_by : (core : AtCoreNow site) (action : Action) → there.is.action ≡ action → Ready
  core_by core (Lock lock next) e =
      let mutex : ℕ = lock_number seen.locals lock in
      let some : IsOnSomeFragment y.plan code.thread places (on_machine y.runs.program w n (reading site []))
      (record { exit = Asks mutex next; node = graph_thread.at; seen = seen; view = core.view }) (places.words graph_thread.at) [] =
      nodes_begin y.plan code.thread y.runs.program code.program code.is w n (reading site []) graph_thread.at seen core.view core.owed core.registers there.is
      (a.Takes mutex next) (placed_here site) (meets_here site (reads site [])) (agrees_here site (reads site [])) (reads_own site [])
      there.at (ap (λ (z : Action). effect_of z seen) e)
      (λ logged local number to does. core.owes.number there.is local number to there.at logged does)
      (λ plain. (
        subst (λ (z : Action). IsAnswered (source_of y.plan code.thread seen) (reading site []).around.loads z) (sym e) tt,
        frame_answered site [] core.view core.frame graph_thread.at,
      )) tt core.core in
      let none : c.cleans ++ c.rest ≡ [] = ap₂ ◌++◌ core.goes.cleans core.goes.goes.rest in
      let o : IsAt (Asks mutex next) some.steps = record {
        environment = reading site [];
        answers = frame_guarded site (now b.config);
        loaded = frame_loaded site b c;
        view = core.view;
        at_side = core.at_side;
        frame = core.frame;
        fragment = subst (FragmentWith (reading site []) core.view some.steps (Asks mutex next)) (sym none) some.on;
        fits = (core.goes, core.untold (λ chosen. lock_plain (chosen_writes y s graph_thread.at there.is there.at chosen) e));
        owes = tt;
        soon =
            let whole : core_ahead y.plan places graph_thread.at ≡ 2 * places.words graph_thread.at =
            weight_is call_weight y.plan places graph_thread.at there.is there.at ∙ ap (λ (z : Action). call_weight z (places.words graph_thread.at)) e in
            let no_cleans : cleans_in (seen_effects (c.cleans ++ c.rest)) ≡ 0 = ap (λ (es : List Effect). cleans_in (seen_effects es)) none in
            less_soon y n c.before_mark _ _ core.soon (omega (arith, some.short, whole, no_cleans));
      } in
      fragment_ready some.steps o (asks mutex next)
  core_by core action e = moving.at_core core (λ is lock next at locks.
      let z = sym e ∙ (ap (λ (x : Node). x.action) (same_Some there.is is (sym there.at ∙ at)) ∙ locks) in cc)

  core_ready : AtCoreNow site → Ready
  core_ready core = core_by core there.is.action refl

  -- ---- At a fragment's end

  -- nothing is ahead there
  none_left : {exit : ExitPoint} → IsAt exit 0 → c.cleans ++ c.rest ≡ []
  none_left a = none_ahead y s w h site.below a.environment _ (c.cleans ++ c.rest) a.fragment

  settled : {exit : ExitPoint} → IsAt exit 0 → c.committed ≡ true
  settled a = caught_is_over y w b code c t (right_empty c.cleans c.rest (none_left a)) (site.stands.caught_up h site.below (λ e. e))

  -- in an environment that answers no loads
  alone_on : {exit : ExitPoint} (a : IsAt exit 0) → FragmentWith bare_here a.view 0 exit []
  alone_on a = resettled y s w h site.below a.environment _ (c.cleans ++ c.rest) a.fragment

  -- after the boundary before its node
  keeps_ready : {owed : ℤ} → IsAt (Keeps owed) 0 → Ready
  keeps_ready {owed} a = core_ready (record {
    view = a.view;
    at_side = a.at_side;
    frame = a.frame;
    owed = owed;
    registers = fragment.registers;
    core = record { own = fragment.own; at = at_end w n environment _ _ fragment.on; ready = fragment.has };
    owes = a.owes;
    goes = record {
      goes = record { going = fits.1; rest = right_empty c.cleans c.rest (none_left a); giving = fits.2.gives; committed = settled a };
      cleans = fits.2.cleans;
      execution = fits.2.execution;
    };
    fresh = λ k. sym fits.1 ∙ fits.2.after (settled a);
    told = λ k. fits.2.written;
    untold = λ plain. absurd (plain fits.0);
    soon = less_soon y n c.before_mark _ _ soon (omega arith);
  })
    where
      open a use {environment, fragment, fits, soon}

  -- at the entry of a node with no boundary before it
  plain_ready : IsAt Arrives 0 → ¬ (IsChosen y.plan.graph y.plan.boundaries graph_thread.at) → Ready
  plain_ready a plain =
      let again = alone_on a in
      let none : ¬ (IsLogged y.plan code.thread graph_thread.at) = λ logged. plain ((placed_here site).recorded graph_thread.at again.own logged) in
      core_ready (record {
        view = a.view;
        at_side = a.at_side;
        frame = a.frame;
        owed = pos 0;
        registers = again.registers;
        core = (arrivals_end y.plan code.thread y.runs.program code.program code.is w n bare_here graph_thread.at seen a.view []
            (placed_here site) (bare_reads y s w h site.below) there.is there.at again).plain plain (pos 0);
        owes = record { number = λ is local number next at logged does. absurd (none logged); beside = λ logged. absurd (none logged) };
        goes = record { goes = a.fits.0; cleans = left_empty c.cleans c.rest (none_left a); execution = a.fits.1 };
        fresh = λ k. absurd (plain k);
        told = λ k. absurd (plain k);
        untold = λ none_chosen. a.fits.2;
        soon = let less = core_less y.plan places graph_thread.at in less_soon y n c.before_mark _ _ a.soon (omega (arith, less));
      })

  -- ---- At the entry of a node with a boundary before it by choice

  module _ (at : IsAt Arrives 0) (chosen : IsChosen y.plan.graph y.plan.boundaries graph_thread.at) (i : IsInPhase w h Run) where
    open at use {view as old, at_side, fits, soon}
    open fits.0 use {going, rest as no_rest, giving as no_giving, committed as no_boundary}

    in_lowered : NodeAt (lowered (flat_of y)) graph_thread.at there.is
    in_lowered = subst (λ (g : Graph). NodeAt g graph_thread.at there.is) s.plan.lowered there.at

    abbrev here : MarkedEnvironment
    here = reading site (ones site going there.is in_lowered)

    fragment : FragmentWith here old 0 Arrives []
    fragment = resettled_in y s w h site.below at.environment _ (c.cleans ++ c.rest) at.fragment here
        (meets_here site (reads site (ones site going there.is in_lowered))) (agrees_here site (reads site (ones site going there.is in_lowered)))

    abbrev owed : ℤ
    owed = given (effect_of there.is.action seen)

    run : BoundaryRun y.plan code.thread places (on_machine y.runs.program w n here) there.is.action graph_thread.at seen old owed
    run = (arrivals_end y.plan code.thread y.runs.program code.program code.is w n here graph_thread.at seen old []
        (placed_here site) (reads_own site (ones site going there.is in_lowered)) there.is there.at fragment).chosen chosen
        (answered_here site going there.is in_lowered) (frame_answered site (ones site going there.is in_lowered) old at.frame graph_thread.at) owed
        (owing there.is.action seen)

    open run use {registers, on as keeps}

    abbrev boundary : Boundary
    boundary = keeping_before y.plan code.thread places there.is.action graph_thread.locals graph_thread.at

    abbrev resume : ℕ
    resume = places.core graph_thread.at

    numbered : IsNumberAssigned y.plan code.thread graph_thread.at seen owed
    numbered is local number next found logged does =
        owing there.is.action seen local number next (ap (λ (x : Node). effect_of x.action seen) (same_Some there.is is (sym there.at ∙ found)) ∙ does)

    begins : BoundaryIsRecoverable y.plan code (now_of y b) boundary graph_thread.at the_core old resume registers
    begins = boundaries_begin code s.plan (now_orderly y s b) (now_good y s b) (record {
      graph_thread = graph_thread;
      there = t.walks;
      goes_on = fits.1;
      own = fragment.own;
      place = the_core;
      boundary = before_core there.is there.at chosen;
      owed = owed;
      may = (run.ready, numbered);
      address = core_in y s h site.below graph_thread.at there.is fragment.own there.at;
    })

    abbrev frame : ℕ → ℕ
    frame = words_in y.plan.log n old

    abbrev new_record : Record
    new_record = recorded_by boundary begins.framed frame old.side resume registers

    abbrev ghost : ThreadGhost
    ghost = begins_with c new_record (boundary_effects boundary old.side resume registers) None c.before_mark

    was_in_section : new_record.point ≢ 0 → c.new.point ≢ 0
    was_in_section some = point_before y s b code going c.late c.new (describes_over y b code c t.records no_boundary) begins.describes some

    sectioned : IsSectioned ghost → IsSectioned c
    sectioned (inl some) = inl (was_in_section some)
    sectioned (inr both) = inl both.0

    comes : FrameIsComing boundary begins.framed frame w.words t.log.hart.queue
    comes = frame_comes site boundary refl refl begins.framed old at.frame begins.exist (none_left at)
        (λ locked. inr (was_in_section (point_says boundary begins.framed frame old.side resume registers begins.recoverable locked).0))

    log : LogInv n c.new ghost.new w ghost.rest
    log = log_begins site boundary refl refl begins.framed frame old.side resume registers no_rest
        (ready_side y code graph_thread.at seen old owed registers run.ready) at_side begins.recoverable comes

    same_hart : log.hart ≡ t.log.hart
    same_hart = same_there (slice_get w.harts n) log.hart t.log.hart log.here t.log.here

    runs : log.hart.phase ≡ Run
    runs = ap (λ (x : Hart). x.phase) (same_there (slice_get w.harts h) log.hart i.hart (ap (slice_get w.harts) (sym (s.codes.number h site.below)) ∙ log.here)
        i.here) ∙ i.phase_is

    -- the fragment up to its end
    abbrev keeps_now : InFragment y w b code ghost log.hart graph_thread (Keeps owed) keeps.steps
    keeps_now = record {
      environment = here;
      answers = answers_guarded site (ones site going there.is in_lowered) (now b.config) (guards_here site going there.is in_lowered);
      loaded = ahead_loaded site going there.is in_lowered chosen ghost;
      view = view_after boundary old;
      at_side = side_follows boundary begins.framed frame old.side resume registers begins.recoverable;
      frame = at.frame;
      fragment = keeps.on;
      fits = (
        chosen,
        going,
        record {
          execution = fits.1;
          cleans = refl;
          gives = refl;
          written = write_comes (chosen_writes y s graph_thread.at there.is there.at chosen);
          before = λ e. fits.2;
          after = λ e. absurd (true≢false (sym e));
        },
      );
      owes = record { number = numbered; beside = λ logged. begins.counted };
      soon = soon_then;
    }
      where
        soon_then : IsSoon y n c.before_mark (steps_left keeps.steps (seen_effects ghost.rest) log.hart.queue + core_ahead y.plan places graph_thread.at)
        soon_then =
            let few : cleans_in (seen_effects ghost.rest) ≤ keeps.steps = cleans_on here keeps.steps _ _ (seen_effects ghost.rest) keeps.on.on.walks in
            let whole : entry_ahead y.plan places graph_thread.at ≡ 2 * places.words graph_thread.at =
            chosen_entry y s graph_thread.at there.is there.at chosen places in
            let none : core_ahead y.plan places graph_thread.at ≡ 0 = chosen_core y s graph_thread.at there.is there.at chosen places in
            less_soon y n c.before_mark _ _ soon (omega (arith, few, keeps.short, ap (λ (x : Hart). length x.queue) same_hart, whole, none))

    abbrev passage : Passage y code
    passage = step_to site w b.config.uncommitted b.config.memory b.config.attempts (b.execution, b.respects) ghost log.hart

    -- the boundary has its stores ahead: no steps are bound to it
    unbound : is_bound ghost ≡ is_bound c
    unbound = ap (λ (some : Bool). not some) (boundary_stores boundary old.side resume registers)
        ∙ sym (ap (λ (done : Bool). not done && not (list_any is_store c.rest)) no_boundary)

    frame_then : (word : ℕ) → IsFrameWord w.log word → IsSectioned ghost → IsFrameFlushed y w b code ghost log.hart word
    frame_then word framed is =
        frame_still y w w b b code c ghost t.log.hart log.hart refl (λ own own_is. persisted_refl _)
        (reaches_same passage refl (ap (λ (x : Hart). x.queue) same_hart))
        (λ other has. absurd (contains_none _ (subst (λ (es : List Effect). Contains es (Cleans (frame_at w.log n other))) (none_left at) has))) word framed
        (λ un few. let two = boundaries_fence boundary old.side resume registers in absurd (omega (arith, two, few)))
        (t.stored.frame (sectioned is) word framed)

    abbrev thread : ThreadInv y w b code ghost
    thread = record {
      log = log;
      records = records_begin y b code ghost refl (describes_over y b code c t.records no_boundary) begins.describes;
      graph_thread = graph_thread;
      walks = t.walks;
      phase = subst (λ (p : Phase). InPhase y w b code ghost log.hart graph_thread p) (sym runs) (on_fragment (Keeps owed) keeps.steps keeps_now);
      stored = stored_same passage none_clean
          (still_reached passage (left_empty c.cleans c.rest (none_left at)) (reaches_same passage refl (ap (λ (x : Hart). x.queue) same_hart)))
          (λ u e position since. since)
          (λ u e f un few. let two = boundaries_fence boundary old.side resume registers in absurd (omega (arith, two, few))) refl
          (λ j position low. low) (λ word position is. inl is)
          (λ word position among low.
          let settled = recorded_settled w.log n c.new w.words (log_ends w.log n c.old c.new (config_of w t.log.hart c.rest) t.log.log no_rest) word among in
          durable_there (omega (arith, low, settled))) (frames_stay passage refl (λ j position low. low))
          (λ is word framed. frame_then word framed is) t.stored;
      has_read = reads_same passage (λ byte. refl) (none_bound c no_boundary) (unbound ∙ none_bound c no_boundary) refl
          (λ there. inl (record { graph_thread = there.graph_thread; found = there.found; no_store = there.no_store })) (omega arith) t.has_read;
    }

    caught : HasCommittedLog y w b code ghost thread
    caught = ap (λ (l : Log). is_committed l n (record { words = w.words; queue = log.hart.queue; rest = ghost.rest })) (sym logs)
        ∙ begins_uncommitted boundary old.side resume registers w.words log.hart.queue

    -- the record that is kept is the same
    said : tells_write ghost ≡ tells_write c
    said = ap (λ (r : Record). is_some r.written) (sym (cond-true c.committed c.new c.old no_boundary))

    says : SaysSame ghost c
    says = record {
      bound = unbound;
      leaving = none_leaving ghost refl ∙ sym (none_leaving c no_giving);
      giving = sym no_giving;
      ahead = refl;
      last = refl;
      accesses = refl;
      told = said;
      late = refl;
    }

    -- ---- The machine, where that is the thread's ghost state

    abbrev new : ℕ → ThreadGhost
    new = with_ghost site.stands.ghosts h ghost

    abbrev Given : (m : ℕ) (within : m < thread_count y) → ThreadGhost → Type 0
    Given m within g = (z : ThreadInv y w b (s.codes.each m within) g) × HasCommittedLog y w b (s.codes.each m within) g z ×
        (m ≡ h → OnKeeps y w b (s.codes.each m within) g z)

    all : (m : ℕ) (within : m < thread_count y) → Given m within (new m)
    all = each_placed (thread_count y) site.stands.ghosts h site.below ghost Given (thread, caught, λ e. (owed, keeps.steps, keeps_now))
        (λ m within other. (site.stands.each m within, site.stands.caught_up m within (λ e. e), λ e. absurd (other e)))

    says_same : (m : ℕ) → SaysSame (new m) (site.stands.ghosts m)
    says_same = each_ghost site.stands.ghosts h ghost (λ (m : ℕ) (g : ThreadGhost). SaysSame g (site.stands.ghosts m)) says
        (λ m other. record { bound = refl; leaving = refl; giving = refl; ahead = refl; last = refl; accesses = refl; told = refl; late = refl })

    -- its boundary has begun
    fences_begin : (m : ℕ) → AreFencesCounted (boundary_fences y.plan.log) false false (site.stands.ghosts m).rest (new m).rest
    fences_begin m = elim (same_or_other m h) [
      | inl is ↦
          subst (λ (k : ℕ). AreFencesCounted (boundary_fences y.plan.log) false false (site.stands.ghosts k).rest (new k).rest) (sym is)
          (coe 0 1 (i. AreFencesCounted (boundary_fences y.plan.log) false false ((sym no_rest) i) ((sym (own_ghost site.stands.ghosts h ghost)) i).rest)
          (begins_fences (boundary_fences y.plan.log) false false ghost.rest refl refl (boundaries_fence boundary old.side resume registers)
          (boundary_stores boundary old.side resume registers)))
      | inr apart ↦
          coe 0 1 (i. AreFencesCounted (boundary_fences y.plan.log) false false (site.stands.ghosts m).rest
          ((sym (other_ghost site.stands.ghosts h ghost m apart)) i).rest)
          (same_fences (boundary_fences y.plan.log) false false (site.stands.ghosts m).rest refl refl)
    ]

    gathered_on : AreGathered w (records_of site.stands.ghosts) → AreGathered w (records_of new)
    gathered_on ag = record {
      each = each_ghost site.stands.ghosts h ghost (λ (m : ℕ) (g : ThreadGhost). (hart : Hart) → slice_get w.harts m ≡ Some hart →
          HasGathered w m g.new hart.phase)
          (λ hart found. subst (HasGathered w h ghost.new)
          (sym (ap (λ (x : Hart). x.phase) (same_there (slice_get w.harts h) hart i.hart found i.here) ∙ i.phase_is)) tt)
          (λ m other hart found. ag.each m hart found);
    }

    locked_on : AreLocked y w b site.stands.ghosts → AreLocked y w b new
    locked_on (gathering none gathers) = absurd (subst (Gathers w h (records_of site.stands.ghosts h)) i.phase_is (gathers.each h i.hart i.here))
    locked_on (gathered ag held) = gathered (gathered_on ag) (held_alike w w site.stands.ghosts new (now_of y b) refl (λ m. (says_same m).giving) held)

    abbrev begun : Simulates y s w
    begun = record {
      machine = site.stands.machine;
      abstract = b;
      memory = site.stands.memory;
      ghosts = new;
      each = λ m within. (all m within).0;
      locks = locked_on site.stands.locks;
      caught_up = λ m within none. (all m within).1;
    }

  -- ---- In a fragment, whatever it leads to

  keeps_at : (owed : ℤ) (steps : ℕ) → IsAt (Keeps owed) steps → Ready
  keeps_at number zero a = keeps_ready a
  keeps_at number (suc k) a = moving.on_fragment (Keeps number) k a

module _ {y : System} {s : IsSystem y} {w : World} {h : ℕ} (site : Site y s w h) (i : IsInPhase w h Run) where
  open view site use {b, code, c, t, n, graph_thread}

  abbrev Result : Type 0
  Result = SimulatesReady y s w h site.stands

  as_it_is : IsReadyToStep site → SimulatesReady y s w h site.stands
  as_it_is ready = record {
    site = site;
    similar = record {
      abstract = refl;
      same = λ n. record { bound = refl; leaving = refl; giving = refl; ahead = refl; last = refl; accesses = refl; told = refl; late = refl };
      fences = λ n. same_fences (boundary_fences y.plan.log) false false (site.stands.ghosts n).rest refl refl;
    };
    ready = ready;
  }

  -- before its end
  goes_on : {exit : ExitPoint} (k : ℕ) → IsAt site exit (suc k) → Result
  goes_on {exit} k a = as_it_is (moving.on_fragment exit k a)

  calling : {exit : ExitPoint} {steps : ℕ} → IsCalling exit → IsAt site exit steps → Result
  calling {exit} {steps} calls a = as_it_is (fragment_ready site steps a calls)

  arrives : (steps : ℕ) → IsAt site Arrives steps → Result
  arrives (suc k) a = goes_on k a
  arrives zero a = elim (chosen_or_not y graph_thread.at (there site).is (there site).at) [
    | inl chosen ↦
        let k = (all site a chosen i h site.below).2 refl in
        let anew : Site y s w h = record { stands = begun site a chosen i; below = site.below } in
        record {
          site = anew;
          similar = record { abstract = refl; same = says_same site a chosen i; fences = fences_begin site a chosen i };
          ready = keeps_at anew k.0 k.1 k.2;
        }
    | inr plain ↦ as_it_is (plain_ready site a plain)
  ]

  -- after the boundary that follows a lock
  took : (from : ℕ) → IsAt site (Took from) 0 → Result
  took from a =
      let none = none_left site a in
      let some = took_end y.plan _ y.runs.program _ code.is w n (bare_here site) from _ _ a.view [] (placed_here site) (alone_on site a) in
      let going : IsGoing b.config n = ⊎_elim (λ e. e)
      (λ e. absurd (omega (arith, e.0, a.fits.after (settled site a)))) ((resumed y s b).resumed.invariant.tried n).begun in
      arrives some.steps (record {
        environment = bare_here site;
        answers = bare_answers y s w h site.below (now b.config);
        loaded = bare_loaded y s w h site.below b c;
        view = a.view;
        at_side = a.at_side;
        frame = a.frame;
        fragment = subst (FragmentWith site (bare_here site) a.view some.steps Arrives) (sym none) some.on;
        fits = (
          record { going = going; rest = right_empty c.cleans c.rest none; giving = a.fits.gives; committed = settled site a },
          a.fits.execution,
          λ on_time none. a.fits.written,
        );
        owes = tt;
        soon = less_soon y n c.before_mark _ _ a.soon (omega (arith, some.short));
      })

  by_exit : (exit : ExitPoint) (steps : ℕ) → IsAt site exit steps → Result
  by_exit Arrives steps = arrives steps
  by_exit (Keeps owed) steps = λ a. as_it_is (keeps_at site owed steps a)
  by_exit (Computes from local number) zero = λ a. as_it_is (moving.stores_local (moving.outside from local number a))
  by_exit (Computes from local number) (suc k) = goes_on k
  by_exit (Asks mutex next) steps = calling (asks mutex next)
  by_exit (Took from) zero = took from
  by_exit (Took from) (suc k) = goes_on k
  by_exit (Gives from mutex) steps = calling (gives from mutex)
  by_exit Ends steps = calling ends

  in_run : IsRunningThread y w b code c t.log.hart graph_thread → Result
  in_run (on_fragment exit steps o) = by_exit exit steps o
  in_run (at_core core) = as_it_is (core_ready site core)
  in_run (at_past past) = as_it_is (moving.stores_local (moving.again past))

  ready : Result
  ready =
      let same : t.log.hart ≡ i.hart =
      same_there (slice_get w.harts h) t.log.hart i.hart (ap (slice_get w.harts) (sym (s.codes.number h site.below)) ∙ t.log.here)
      i.here in
      in_run (subst (λ (p : Phase). InPhase y w b code c t.log.hart graph_thread p) (ap (λ (x : Hart). x.phase) same ∙ i.phase_is) t.phase)

pub runs_ready : RunsReady
runs_ready y s w h stands i = ready (record { stands = stands; below = omega (arith, slice_get_within w.harts h i.hart i.here, stands.machine.count) }) i
