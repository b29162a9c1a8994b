-- A hart at the code of a node that gives a mutex back: it passes its mark, and the boundary before the call begins.
use Rattle.crash_simulation.proofs.Common.{kept_of}
use Rattle.crash_simulation.proofs.Common.{counted_own}
use Rattle.crash_simulation.proofs.OwnHartSteps.{told_at, told_new}
use Rattle.crash_simulation.proofs.Common.{recorded_in, ◌||◌, ◌++◌, ◌≢◌, ap₂, pos, Cleans, Contains, FrameIsComing, IsFrameFlushed, IsFrameWord, IsReady}
use Rattle.crash_simulation.proofs.Common.{IsSectioned, Log, LogView, contains_none, frame_at, frame_in, frame_word, last_position, of_unlock, steps_move}
use Rattle.crash_simulation.proofs.Common.{the_entry, view_after, words_in}
use Rattle.ido_base.specs.Growth.{IsPersisted}
use Rattle.ido_base.proofs.Public.{same_last}
use Rattle.crash_simulation.proofs.FrameFlushes.{frame_still}
use Rattle.crash_simulation.proofs.FrameWords.{all_words}
use Rattle.crash_simulation.proofs.LastReleases.{holds_some}
use Rattle.crash_simulation.proofs.MarkSteps.{stays_all}
use Rattle.crash_simulation.proofs.NodeEnvironments.{frame_answered, frame_guarded, reads, reads_own, frame_loaded}
use Rattle.crash_simulation.proofs.PendingFlushes.{frames_stay}
use Rattle.crash_simulation.proofs.PointsInSections.{held_in_kept, point_where}
use Rattle.crash_simulation.proofs.BeginningFrames.{frame_comes, frame_queued}
use Rattle.crash_simulation.proofs.ThreadViews.{frame_stays, view_persists}
use Rattle.crash_simulation.proofs.CompletedEffects.{step_last}
use Rattle.crash_simulation.proofs.Common.{◌≡◌, ℕ, List, ◌∷◌, sym, ◌∙◌, ap, arith, subst, true, false, Option, Some, refl, suc, ◌+◌, ◌<◌, [], length, Bool}
use Rattle.crash_simulation.proofs.Common.{inr, slice_get, ◌&&◌, if◌then◌else◌, not, true≢false, ◌≤◌, ◌*◌, list_any, none-some, same_Some, slice_get_within}
use Rattle.crash_simulation.proofs.Common.{PersistsThrough, log_of, Reply, LockName, lock_number, unlocks, unlocks_held, Hart, World, Effect, Fences}
use Rattle.crash_simulation.proofs.Common.{has_moved, is_point_store, Phase, Seen, GraphThread, FlowState, seen_by, effect_of, NodeAt, lowered, Action, Node}
use Rattle.crash_simulation.proofs.Common.{Unlock, Boundary, boundary_effects, now, history_at, Memory, begun, ConfigStep, synchronises, Synchronises}
use Rattle.crash_simulation.proofs.Common.{HasUnlocked, memory_in, MarkedEnvironment, recorded_by, LogInv, Record, config_of, IsNext, MovesTo, IsLogEffect}
use Rattle.crash_simulation.proofs.Common.{StoresWord, CleansLine, PassesFence, is_boundary_effect, is_store, fences_ahead, stores_nothing}
use Rattle.crash_simulation.proofs.Common.{point_store_is_last, boundaries_stay_in, not_done, own_steps_move, side_follows, boundaries_fence, fences_settle}
use Rattle.crash_simulation.proofs.Common.{keeping, Enters, IsAnswered, source_of, Gives, MarksPass, run_at, fragments_see_all, unlocks_enter, AbstractRun}
use Rattle.crash_simulation.proofs.Common.{now_of, is_bound, nothing_released, MayStore, nothing, goes, abstract_next, begins_step, begins_unlock, most_ahead}
use Rattle.crash_simulation.proofs.Common.{System, IsSystem, flat_of, places_of, ThreadGhost, on_fragment, InPhase, ThreadInv, IsFlushed, is_fence}
use Rattle.crash_simulation.proofs.Common.{boundary_fences, AreFencesCounted, boundary_stores, ◌⊎◌, inl, ⊎_elim, word_at, log_stays, Step, first_access_after}
use Rattle.crash_simulation.proofs.Common.{last_store_after, stores_point, IsWordOf, durable_there}
use Rattle.crash_simulation.proofs.ReadBytes.{none_bound, passed_answers, reads_after}
use Rattle.log_states.proofs.Public.{ends}
use Rattle.flow_graph.proofs.Public.{moved}
use Rattle.flow_graph.specs.Actions as a
use Rattle.crash_simulation.proofs.StatesMatchSource.{resumed, now_orderly, now_good}
use Rattle.crash_simulation.proofs.GraphAfterBegin.{after_effect, graph_thread_is, graph_threads_count, follows_on}
use Rattle.crash_simulation.proofs.OwnHartSteps.{log_begins, step_to, view, StepOf, own_giving, locks_to, AtNode}
use Rattle.crash_simulation.proofs.ThreadViews.{begins_with, describes_over, log_at, log_moved, none_clean, records_begin}
use Rattle.crash_simulation.proofs.MarksAtNodes.{Doing, MarkIn, AtMark, Passes, environment, stage_then, in_graph, at_plan, graph_step_is, at_some_mark}
use Rattle.crash_simulation.proofs.MarksAtNodes.{old_hart, passed_soon}
use Rattle.crash_simulation.proofs.MarkSteps.{is_next, may_each, holders_stay, reaches_on}
use Rattle.crash_simulation.proofs.LastReleases.{holders_stay_none, none_leaving}
use Rattle.crash_simulation.proofs.Boundaries.{after_unlock_in, BoundaryIsRecoverable, boundaries_begin}
use Rattle.crash_simulation.proofs.LocksAfterStep.{GoneOn, held_unlocked}
use Rattle.crash_simulation.proofs.NodeEffects.{source_steps, unlocks_it, unlock_locks_none}
use Rattle.crash_simulation.proofs.ConfigAfterBegin.{alone_unlocks}
use Rattle.crash_simulation.proofs.UncommittedSteps.{leads_on}
use Rattle.crash_simulation.proofs.PendingFlushes.{LastsAre, Passage, stored_same, still_reached, fence_settles}
use Rattle.crash_simulation.proofs.FragmentSteps.{Made, no_effect, no_point, cleans_first, bounds_first, made_by, words_same, log_may, log_memory}
use Rattle.crash_simulation.proofs.BoundaryFences.{begins_fences, joined_fences, next_fences}
use Rattle.crash_simulation.proofs.CompletedEffects.{last_by, last_store_is, step_durable, stores_none}
use Rattle.crash_simulation.proofs.LogWords.{recorded_settled, stored_for}
use Rattle.crash_simulation.proofs.WriteBackSteps.{mark_step, not_bound}

-- a node that gives a lock back
pub record UnlocksAt (node : Node) : Type 0 where
  pub lock : LockName
  pub next_node : ℕ
  pub action : node.action ≡ Unlock lock next_node

module _ {y : System} {s : IsSystem y} {w : World} {h : ℕ} (site : AtNode y s w h) (node : Node)
    (at : NodeAt (lowered (flat_of y)) (view site.hart).graph_thread.at node) (unlocking : UnlocksAt node) where
  open view site.hart use {b, code, ghosts, c, t, n, v, places, graph_thread, seen}
  open unlocking use {next_node, action}
  open unlocking use {lock as name}

  abbrev mutex : ℕ
  mutex = lock_number graph_thread.locals name

  abbrev e : a.Effect
  e = a.Gives mutex next_node

  pub does : effect_of node.action seen ≡ Some e
  does = ap (λ (z : Action). effect_of z seen) action

  abbrev doing : Doing site
  doing = record { node = node; at = at; effect = e; free = refl; does = does; reads = reads site.hart [] }

  abbrev here : MarkedEnvironment
  here = environment site doing

  pub mark : MarkIn site doing
  mark = at_some_mark site doing (reads_own site.hart [])
      (λ none. (
        subst (λ (z : Action). IsAnswered (source_of y.plan code.thread seen) here.around.loads z) (sym action) tt,
        frame_answered site.hart [] site.core.view site.core.frame graph_thread.at,
      )) tt

  abbrev at_mark : AtMark site
  at_mark = record { doing = doing; mark = mark }

  -- ---- The source

  unlocks_now : unlocks (now b.config) n ≡ Some mutex
  unlocks_now = unlocks_it (in_graph site doing) name next_node action

  pub passing : Synchronises b.config n
  passing =
      let stepped = source_steps (in_graph site doing) _ (graph_step_is site doing) in
      record {
        going = site.core.goes.goes.going;
        next = stepped.0;
        is = stepped.1;
        mutex = mutex;
        passes = inr unlocks_now;
        own = λ over. none-some over.mutex (sym (unlock_locks_none (in_graph site doing) name next_node action) ∙ over.takes);
      }

  abbrev happened : ConfigStep b.config (begun b.config n b.config.memory b.config.attempts)
  happened = synchronises n passing

  abbrev next : AbstractRun y
  next = abstract_next y b (begun b.config n b.config.memory b.config.attempts) (leads_on y b _ happened refl tt).0 (leads_on y b _ happened refl tt).1

  state : now_of y next ≡ after_effect (now_of y b) n graph_thread e
  state = same_Some _ _ (sym (follows_on y s b _ happened refl) ∙ graph_step_is site doing)

  abbrev graph_thread_next : GraphThread
  graph_thread_next = moved graph_thread e

  walks_next : slice_get (now_of y next).graph_threads n ≡ Some graph_thread_next
  walks_next = ap (λ (z : FlowState). slice_get z.graph_threads n) state ∙ graph_thread_is (now_of y b) n graph_thread e t.walks

  has_unlocked : HasUnlocked next.config n mutex
  has_unlocked = record {
    begun = counted_own n b.config.uncommitted ∙ ap suc site.core.goes.goes.going;
    unlocks_it = alone_unlocks (flat_of y) b.config (resumed y s b).resumed.invariant n site.core.goes.goes.going ∙ unlocks_now;
  }

  -- the thread has the mutex now
  owned : slice_get (now_of y b).holders mutex ≡ Some (Some n)
  owned =
      let o = now_orderly y s b in
      let there = unlocks_it (record { formed = s.plan.formed; matches = o.matches; graph_thread = graph_thread; found = t.walks; node = node; at = at }) name
      next_node action in
      ap (λ (hs : List (Option ℕ)). slice_get hs mutex) o.matches.holders ∙ unlocks_held (flat_of y) o.source n mutex o.keeps there

  -- ---- The boundary

  abbrev boundary : Boundary
  boundary = keeping y.plan code.thread places false graph_thread.locals next_node

  abbrev resume : ℕ
  resume = places.after graph_thread.at

  abbrev effects_all : List Effect
  effects_all = boundary_effects boundary site.core.view.side resume site.core.registers

  abbrev frame : ℕ → ℕ
  frame = words_in y.plan.log n site.core.view

  enters_next : Enters y.plan code.thread next_node (seen_by (now_of y next) graph_thread_next) site.core.view site.core.registers
  enters_next =
      let seen_same : seen ≡ seen_by (now_of y next) graph_thread_next = ap (λ (z : FlowState). seen_by z graph_thread_next) (sym state) in
      unlocks_enter y.plan code (now_of y next) graph_thread_next graph_thread.at name site.core.view site.core.owed node site.core.registers s.plan
      (now_orderly y s next) walks_next (at_plan site doing) action
      (subst (λ (z : Seen). IsReady y.plan code.thread graph_thread.at z site.core.view site.core.owed site.core.registers) seen_same site.core.core.ready)

  pub begins : BoundaryIsRecoverable y.plan code (now_of y next) boundary next_node the_entry site.core.view resume site.core.registers
  begins = boundaries_begin code s.plan (now_orderly y s next) (now_good y s next) (record {
    graph_thread = graph_thread_next;
    there = walks_next;
    goes_on = site.core.goes.execution;
    own = mark.at.own;
    place = the_entry;
    boundary = of_unlock graph_thread.at name node site.core.core.own (at_plan site doing) action;
    owed = pos 0;
    may = enters_next;
    address = after_unlock_in y s h site.hart.below graph_thread.at graph_thread.locals mutex next_node
        (record { own = site.core.core.own; is = node; at = at_plan site doing; lock = name; unlocks = action; number = refl });
  })

  abbrev new_record : Record
  new_record = recorded_by boundary begins.framed frame site.core.view.side resume site.core.registers

  -- the thread holds a mutex, so that its record has a point
  in_section : c.new.point ≢ 0
  in_section = point_where code (kept_of y b) c.late c.new (describes_over y b code c t.records site.core.goes.goes.committed)
      (held_in_kept y s b code site.core.goes.goes.going (holds_some n (now_of y b).holders mutex owned))

  none_ahead : c.cleans ++ c.rest ≡ []
  none_ahead = ap₂ ◌++◌ site.core.goes.cleans site.core.goes.goes.rest

  comes : FrameIsComing boundary begins.framed frame w.words t.log.hart.queue
  comes = frame_comes site.hart boundary refl refl begins.framed site.core.view site.core.frame begins.exist none_ahead (λ locked. inr in_section)

  pub log_first : LogInv n c.new new_record w effects_all
  log_first =
      log_begins site.hart boundary refl refl begins.framed frame site.core.view.side resume site.core.registers site.core.goes.goes.rest enters_next.at_side
      site.core.at_side begins.recoverable comes

  -- ---- The mark is passed

  module _ (p : Passes site at_mark) where
    open mark.at.on use {hart}

    abbrev next_is : IsNext y.runs.program w n hart p.forward.effect
    next_is = is_next site at_mark p

    -- what is counted of it, where this is ahead of the boundary then
    abbrev FencesCounted : List Effect → Type 0
    FencesCounted rest = AreFencesCounted (boundary_fences y.plan.log) (is_fence p.forward.effect) (is_point_store w.log n p.forward.effect) [] rest

    -- what the first instruction is to the boundary
    record IsFirst : Type 0 where
      log : LogInv n c.new new_record v p.later
      persists : (own : ℕ) → IsFrameWord w.log own → IsPersisted (frame_in w.log w.words n own) (frame_in w.log v.words n own)
      may : MayStore y b n p.forward.effect
      memory : memory_in (places_of y) v.words ≡ memory_in (places_of y) w.words
      point : is_point_store w.log n p.forward.effect ≡ not (list_any is_store p.later)
      fenced : fences_ahead p.later < 2 → p.forward.effect ≡ Fences
      fences : FencesCounted p.later
      lasts : (word position : ℕ) → last_store_after y.runs.program w (Step n) n word (c.last_stores word) ≡ Some position →
          (c.last_stores word ≡ Some position) ⊎ (IsWordOf w.log n new_record word × (position ≤ last_position (word_at v.words word)))

    same_words : v.words ≡ p.forward.contents.words
    same_words = ap (λ (z : World). z.words) p.forward.world

    two_fences : fences_ahead effects_all ≡ 2
    two_fences = boundaries_fence boundary site.core.view.side resume site.core.registers

    some_stores : list_any is_store effects_all ≡ true
    some_stores = boundary_stores boundary site.core.view.side resume site.core.registers

    -- where the point is still to be stored after it, it isn't the point's store
    stores_ahead : is_store p.forward.effect ≡ false → list_any is_store effects_all ≡ list_any is_store p.later →
        is_point_store w.log n p.forward.effect ≡ not (list_any is_store p.later)
    stores_ahead none same = no_point w.log n p.forward.effect none ∙ ap not (sym some_stores ∙ same)

    none_more : 0 + fences_ahead p.later ≡ fences_ahead p.later
    none_more = omega arith

    -- it makes the first effect of the boundary
    module _ (rest : effects_all ≡ p.forward.effect ∷ p.later) where
      log_rest : LogInv n c.new new_record w (p.forward.effect ∷ p.later)
      log_rest = subst (λ (rest : List Effect). LogInv n c.new new_record w rest) rest log_first

      abbrev log_found : LogInv n c.new new_record w (p.forward.effect ∷ p.later)
      log_found = log_at log_rest hart mark.at.on.here

      open log_found use {log as log_as}

      inside : IsLogEffect w.log n p.forward.effect × (is_boundary_effect p.forward.effect ≡ true)
      inside = boundaries_stay_in w.log n c.new new_record (config_of w hart (p.forward.effect ∷ p.later)) p.forward.effect p.later log_as refl

      moves : MovesTo n all_words w hart (p.forward.effect ∷ p.later) v p.later
      moves =
          subst (λ (reply : Reply). MovesTo n all_words w hart (p.forward.effect ∷ p.later) v (if has_moved reply then p.later else p.forward.effect ∷ p.later))
          p.forward.reply (own_steps_move y.runs.program all_words w n hart p.forward.effect p.later next_is inside.1)

      lasts_by : (f : Effect) → p.forward.effect ≡ f → is_store f ≡ false → (word position : ℕ) →
          last_store_after y.runs.program w (Step n) n word (c.last_stores word) ≡ Some position →
          (c.last_stores word ≡ Some position) ⊎ (IsWordOf w.log n new_record word × (position ≤ last_position (word_at v.words word)))
      lasts_by f made none word position is =
          inl (last_by y.runs.program w n word (c.last_stores word) hart p.forward.effect next_is
          (stores_none word p.forward.effect (ap is_store made ∙ none)) ∙ is)

      first_by : is_point_store w.log n p.forward.effect ≡ not (list_any is_store p.later) → (fences_ahead p.later < 2 → p.forward.effect ≡ Fences) →
          ((word position : ℕ) → last_store_after y.runs.program w (Step n) n word (c.last_stores word) ≡ Some position →
          (c.last_stores word ≡ Some position) ⊎ (IsWordOf w.log n new_record word × (position ≤ last_position (word_at v.words word)))) → IsFirst
      first_by point fenced lasts = record {
        log = log_moved log_found moves;
        persists = frame_stays log_found moves;
        may = log_may y b w n site.hart.stands.machine.log p.forward.effect inside.0;
        memory = ap (memory_in (places_of y)) same_words
            ∙ log_memory y s w n p.forward.effect hart.queue p.forward.contents p.forward.changes inside.0;
        point = point;
        fenced = fenced;
        fences =
            joined_fences (boundary_fences y.plan.log) (is_fence p.forward.effect) (is_point_store w.log n p.forward.effect) [] effects_all p.later
            (begins_fences (boundary_fences y.plan.log) false false effects_all refl refl two_fences some_stores)
            (subst (λ (es : List Effect). AreFencesCounted (boundary_fences y.plan.log) (is_fence p.forward.effect)
            (is_point_store w.log n p.forward.effect) es p.later) (sym rest)
            (next_fences (boundary_fences y.plan.log) _ _ p.forward.effect p.later refl (λ stores. point)
            (λ none. no_point w.log n p.forward.effect none)));
        lasts = lasts;
      }

      point_kept : (f : Effect) → p.forward.effect ≡ f → is_store f ≡ false → is_point_store w.log n p.forward.effect ≡ not (list_any is_store p.later)
      point_kept f is none = stores_ahead (ap is_store is ∙ none)
          (ap (list_any is_store) rest ∙ ap (λ (some : Bool). some || list_any is_store p.later) (ap is_store is ∙ none))

      unfenced : (f : Effect) → p.forward.effect ≡ f → fences_ahead (f ∷ p.later) ≡ fences_ahead p.later → fences_ahead p.later < 2 → p.forward.effect ≡ Fences
      unfenced f is none few = grind (arith, two_fences)

      first_of : IsLogEffect w.log n p.forward.effect → IsFirst
      first_of (StoresWord i value below is) = first_by
          (ap (is_point_store w.log n) is ∙ point_store_is_last w.log n c.new new_record (config_of w hart (p.forward.effect ∷ p.later))
          (log_of w.log n + 8 * i) 8 value p.later log_as (ap (λ (x : Effect). x ∷ p.later) is)) (unfenced _ is none_more)
          (λ word position last.
          let own =
          last_store_is y.runs.program w n word (c.last_stores word) hart (log_of w.log n + 8 * i) 8 value position
          (subst (IsNext y.runs.program w n hart) is next_is) last in
          ⊎_elim (λ was. inl was) (λ made. inr (
            subst (IsWordOf w.log n new_record) (sym made.0)
                (stored_for w.log n c.new new_record (config_of w hart (p.forward.effect ∷ p.later)) log_as (log_of w.log n + 8 * i) 8 value p.later
                (ap (λ (x : Effect). x ∷ p.later) is) log_as.stage),
            made.1,
          )) own)
      first_of (CleansLine i below is) = first_by (point_kept _ is refl) (unfenced _ is none_more) (lasts_by _ is refl)
      first_of (PassesFence is) = first_by (point_kept _ is refl) (λ few. is) (lasts_by _ is refl)

    by_made : Made [] effects_all p.later p.forward.effect → IsFirst
    by_made (no_effect none unfenced same) = record {
      log = log_moved (log_at (subst (λ (rest : List Effect). LogInv n c.new new_record w rest) (sym same) log_first) hart mark.at.on.here)
          (steps_move y.runs.program all_words w n n hart p.later site.hart.stands.machine.sound mark.at.on.here
          (stores_nothing y.runs.program all_words w n n hart p.forward.effect next_is none));
      persists = stays_all site at_mark p (stores_nothing y.runs.program all_words w n n hart p.forward.effect next_is none);
      may = nothing p.forward.effect none;
      memory = ap (memory_in (places_of y)) (same_words ∙ words_same p.forward.effect (record { words = w.words; queue = hart.queue })
          p.forward.contents none p.forward.changes);
      point = stores_ahead none (ap (list_any is_store) (sym same));
      fenced = λ few. absurd (omega (arith, few, two_fences, ap fences_ahead same));
      fences =
          begins_fences (boundary_fences y.plan.log) _ _ p.later unfenced (no_point w.log n p.forward.effect none) (ap fences_ahead same ∙ two_fences)
          (ap (list_any is_store) same ∙ some_stores);
      lasts = λ word position is.
          inl (last_by y.runs.program w n word (c.last_stores word) hart p.forward.effect next_is (stores_none word p.forward.effect none) ∙ is);
    }
    by_made (cleans_first address others is cleans later) = absurd (not_done (Cleans address) others cleans)
    by_made (bounds_first none rest) = first_of rest (inside rest).0

    first : IsFirst
    first = by_made (made_by [] effects_all p.later p.forward.effect none_clean (sym mark.seen_are ∙ p.effects_are))

    -- ---- The thread

    abbrev new : ThreadGhost
    new = record (begins_with c new_record p.later (Some mutex) (most_ahead y n)) {
      last_stores = λ word. last_store_after y.runs.program w (Step n) n word (c.last_stores word);
      first_accesses = λ byte. first_access_after y.runs.program w (Step n) n byte (c.first_accesses byte);
    }

    abbrev view_next : LogView
    view_next = view_after boundary site.core.view

    phase : InPhase y v next code new p.on.on.hart graph_thread_next p.on.on.hart.phase
    phase =
        subst (λ (q : Phase). InPhase y v next code new p.on.on.hart graph_thread_next q) (sym p.on.on.runs)
        (on_fragment (Gives graph_thread.at mutex) mark.steps (record {
          environment = here;
          answers = frame_guarded site.hart (now next.config);
          loaded = frame_loaded site.hart next new;
          view = view_next;
          at_side = side_follows boundary begins.framed frame site.core.view.side resume site.core.registers begins.recoverable;
          frame = view_persists w v n site.core.view (log_stays y.runs.program w (Step n) site.hart.stands.machine.sound) first.persists site.core.frame;
          fragment =
              fragments_see_all y.plan code.thread places y.runs.program v n here (stage_then site doing) mark.steps p.later (now_of y next).variables p.on;
          fits = record {
            execution = site.core.goes.execution;
            cleans = refl;
            gives = refl;
            written = refl;
            before = λ un. has_unlocked;
            after = λ over. absurd (true≢false (sym over));
          };
          owes = tt;
          soon = (passed_soon site at_mark p, omega arith);
        }))

    abbrev step : Passage y code
    step = step_to site.hart v (b.config.uncommitted ++ n ∷ []) b.config.memory b.config.attempts (leads_on y b _ happened refl tt) new p.on.on.hart

    memory_same : memory_in (places_of y) v.words ≡ b.config.memory
    memory_same = first.memory ∙ site.hart.stands.memory

    -- what it has stored is durable after a fence
    settled : (u i : ℕ) (f : IsFlushed y w b code c t.log.hart u i) → p.forward.effect ≡ Fences → f.position ≤ (history_at b.config.memory u i).durable
    settled u i f fence =
        subst (λ (m : Memory). f.position ≤ (history_at m u i).durable) memory_same
        (fence_settles step s site.hart.stands.memory site.core.goes.cleans (inr (mutex, inr has_unlocked.unlocks_it))
        (λ j position reached. fences_settle y.runs.program w n (run_at y.plan code.thread places mark.at) p.forward fence j position
        (subst (λ (x : Hart). PersistsThrough w.words x.queue j position) (sym (old_hart site at_mark)) reached)) u i f)

    lasts_then : LastsAre step
    lasts_then word position is =
        ⊎_elim (λ was. inl was)
        (λ own. inr (recorded_in (subst (λ (l : Log). IsWordOf l n new_record word) (sym (log_stays y.runs.program w (Step n) site.hart.stands.machine.sound))
        own.0)
        own.1))
        (first.lasts word position is)

    points : stores_point y.runs.program w (Step n) n ≡ (not (is_bound c) && is_bound new)
    points = p.point ∙ first.point ∙ ap (λ (q : Bool). not q && is_bound new)
        (sym (ap (λ (q : Bool). is_bound (record c { committed = q })) site.core.goes.goes.committed))

    bound : is_bound c ≡ true → is_bound new ≡ true
    bound is = absurd (not_bound c site.core.goes.goes.committed is)

    frame_then : IsSectioned new → (word : ℕ) → IsFrameWord v.log word → IsFrameFlushed y v next code new p.on.on.hart word
    frame_then sectioned word framed =
        let log = log_stays y.runs.program w (Step n) site.hart.stands.machine.sound in
        let is : IsFrameWord w.log word = subst (λ (l : Log). IsFrameWord l word) log framed in
        let f = t.stored.frame (inl in_section) word is in
        let reached = frame_queued site.hart none_ahead (inl in_section) word is in
        frame_still y w v b next code c new t.log.hart p.on.on.hart log first.persists (reaches_on site at_mark p)
        (λ other has. absurd (contains_none _ (subst (λ (es : List Effect). Contains es (Cleans (frame_at w.log n other))) none_ahead has))) word framed
        (λ un few.
        let low = fences_settle y.runs.program w n (run_at y.plan code.thread places mark.at) p.forward (first.fenced few) (frame_word w.log n word)
        (last_position (frame_in w.log w.words n word))
        (subst (λ (x : Hart). PersistsThrough w.words x.queue (frame_word w.log n word) (last_position (frame_in w.log w.words n word)))
        (sym (old_hart site at_mark)) reached) in
        let same = same_last _ _ (first.persists word is) in
        subst (λ (l : Log). last_position (frame_in l v.words n word) ≤ (frame_in l v.words n word).durable) (sym log) (omega (arith, low, same))) f

    abbrev own : ThreadInv y v next code new
    own = record {
      log = log_at first.log p.on.on.hart p.on.on.here;
      records = records_begin y next code new refl (describes_over y b code c t.records site.core.goes.goes.committed) begins.describes;
      graph_thread = graph_thread_next;
      walks = walks_next;
      phase = phase;
      stored = stored_same step none_clean (still_reached step site.core.goes.cleans (reaches_on site at_mark p)) (λ u i position since. since)
          (λ u i f un few. settled u i f (first.fenced few)) refl
          (step_durable y.runs.program w n site.hart.stands.machine.sound) lasts_then
          (λ word position among low.
          let settled =
          recorded_settled w.log n c.new w.words (ends w.log n c.old c.new (config_of w t.log.hart c.rest) t.log.log site.core.goes.goes.rest) word among in
          durable_there (step_durable y.runs.program w n site.hart.stands.machine.sound word position (omega (arith, low, settled))))
          (frames_stay step (log_stays y.runs.program w (Step n) site.hart.stands.machine.sound) (step_last y.runs.program w n site.hart.stands.machine.sound))
          frame_then t.stored;
      has_read =
          let one_begun = counted_own n b.config.uncommitted in
          reads_after step (record {
            hart = hart;
            effect = p.forward.effect;
            is_next = next_is;
            environment = here;
            answered = passed_answers here _ p.forward.by p.forward.effect p.forward.leads;
            loaded = frame_loaded site.hart next new;
          }) t.has_read bound (omega arith) (omega arith) (λ there. inr (none_bound c site.core.goes.goes.committed, omega (arith, one_begun)))
          (omega (arith, one_begun)) (λ byte. refl) points (λ variable number byte writes of. inl writes);
    }

    -- ---- Locks

    abbrev still_held : v.holders ≡ w.holders
    still_held = holders_stay site at_mark p

    unlock_passes : StepOf site.hart n
    unlock_passes = record {
      next = next;
      led = goes _ happened refl step.leads.0 step.leads.1;
      memory = memory_same;
      stores_own = may_each site at_mark p first.may;
      new = new;
      own = own;
      gone = subst GoneOn (sym p.on.on.runs) tt;
      held =
          λ held. held_unlocked (locks_to site.hart next new
          (ap (λ (z : FlowState). length z.graph_threads) state ∙ graph_threads_count (now_of y b) n graph_thread e)) held mutex owned still_held
          (ap (λ (z : FlowState). z.holders) state) (sym (own_giving site.hart) ∙ site.core.goes.goes.giving) refl
          (slice_get_within (now_of y next).graph_threads n graph_thread_next walks_next);
      counted = record {
        late = refl;
        marks = λ on_time. p.mark y.runs.marks refl;
        unlocked = λ lock gives. begins_unlock refl (unlocks_now ∙ gives);
        points = points;
        bound = bound;
        fences =
            coe 0 1 (i. AreFencesCounted (boundary_fences y.plan.log) ((sym p.fence) i) ((sym p.point) i) ((sym site.core.goes.goes.rest) i) p.later)
            first.fences;
        nears = begins_step (p.mark y.runs.marks refl);
        told = sym (told_new site);
        begins_told = told_at site;
        last = λ word. refl;
        accesses = λ byte. refl;
      };
      released = nothing_released (holders_stay_none y.runs.program w n still_held) (sym (none_leaving c site.core.goes.goes.giving));
    }

  pub unlock_step : MarksPass → StepOf site.hart n
  unlock_step marks = mark_step site at_mark marks unlock_passes
