-- A hart that stores the local of a logged assignment once more, which its thread is past; and any that stores a local.
use Rattle.crash_simulation.proofs.Common.{Record, cond-true, is_some, ◌≡◌, ◌≢◌, ℕ, ℤ, List, [], ◌∷◌, ◌++◌, sym, ◌∙◌, ap, arith, subst, refl, suc, ◌+◌}
use Rattle.crash_simulation.proofs.Common.{◌<◌}
use Rattle.crash_simulation.proofs.Common.{◌^◌, inl, inr, ⊎_elim, slice_get, not, none-some, true, false, true≢false, World, Hart, Effect, Stores}
use Rattle.crash_simulation.proofs.Common.{Step, Log}
use Rattle.crash_simulation.proofs.Common.{is_running, memory_in, stores_point, finishes_fence, Arrives, IsOnFragment, on_machine, Cleans, Some, LockName}
use Rattle.crash_simulation.proofs.Common.{run_at, effects_of, Site, LocalStoresStep, System, IsSystem, ThreadGhost, InFragment, IsFrameWord, MarksPass}
use Rattle.crash_simulation.proofs.Common.{FragmentsGoOn}
use Rattle.crash_simulation.proofs.Common.{with_word, frame_at, read, same_there, places_of, ◌==◌, ap₂, now, typed, seen_effects, IsAtSomeMark}
use Rattle.crash_simulation.proofs.Common.{steps_left, beyond, Contains, contains_none, contains_first, contains_cases, ne_eqb, eq-eqb, AreFencesCounted}
use Rattle.crash_simulation.proofs.Common.{Changes, Contents}
use Rattle.crash_simulation.proofs.Common.{HasView, IsElsewhere, IsLogEffect, IsNext, IsOwnWord, IsSectioned, IsSoon, IsLogged}
use Rattle.crash_simulation.proofs.Common.{Plan}
use Rattle.crash_simulation.proofs.Common.{IsWordOf, InPhase, LogInv, MayStore, PersistsThrough, Phase, Program, Stage, StoresWord, ThreadInv, Thread, home_of}
use Rattle.crash_simulation.proofs.Common.{boundary_fences, config_of, ends_committed, forward_reaches, frame_word, frame_in, in_frame, is_bound, is_fence}
use Rattle.crash_simulation.proofs.Common.{begins_step}
use Rattle.crash_simulation.proofs.Common.{is_point_store, is_store, last_store_after, log_stays, nothing_recorded, nothing_released, on_fragment, one_effect}
use Rattle.crash_simulation.proofs.Common.{recorded_in, stays, steps_keep, PassesMark, Stays, marks_are_bounded, most_ahead, entry_ahead, is_clean}
use Rattle.crash_simulation.proofs.Common.{same_or_other}
use Rattle.crash_simulation.proofs.Common.{framed_of, assigned_is_apart, IsReady, to_assign, to_enter, Action, Node, IsFrameFlushed, same_Some}
use Rattle.crash_simulation.proofs.Common.{last_position}
use Rattle.crash_simulation.proofs.Common.{held_names_before, successors, End, frame_ahead, frame_reached, IsFrameComing, IsNodeOf}
use Rattle.expr_code.specs.declared.home.Home.TheVariants.{InFrame}
use Rattle.flow_graph.specs.Nodes.{Eval, Store, Test, Lock, Unlock}
use Rattle.flow_graph.specs.Actions as a
use Rattle.ido_base.specs.Growth.{IsPersisted}
use Rattle.ido_base.proofs.Public.{same_last}
use Rattle.c_tree.specs.Exprs as e
use Rattle.std.proofs.Common.{zero}
use Rattle.std.specs.Prelude.{slice_set}
use Rattle.log_schemes.specs.SchemeFacts.{frame_index}
use Rattle.log_states.specs.Logs.{HasLog}
use Rattle.log_states.proofs.Public.{frame_inside, frame_not_point, scheme, stores_to_frame}
use Rattle.thread_code.specs.NodeCodeEffects.{seen_after}
use Rattle.thread_runs.specs.CodeFragments.{IsSetBy, effects_set, exit_set, stage_after, view_set}
use Rattle.thread_runs.specs.Laws.{left_of}
use Rattle.thread_runs.proofs.Public.{assignments_begin}
use Rattle.memory_layout.specs.Roles.{pending_value}
use Rattle.crash_simulation.specs.InstructionSteps.{AtPastNow, again, outside}
use Rattle.crash_simulation.proofs.Boundaries.{carried_small, local_kind}
use Rattle.crash_simulation.proofs.BoundaryFences.{same_fences}
use Rattle.crash_simulation.proofs.CompletedEffects.{last_store_is, step_durable, step_last}
use Rattle.crash_simulation.proofs.FragmentSteps.{held_up_stores_none, log_may, log_memory}
use Rattle.crash_simulation.proofs.FrameStores.{StoresInFrame, others_persist, view_stored}
use Rattle.crash_simulation.proofs.FrameWords.{from_nothing}
use Rattle.crash_simulation.proofs.LastReleases.{and_none, holders_stay_none, none_leaving}
use Rattle.crash_simulation.proofs.LocalStoreSteps.{store_step}
use Rattle.crash_simulation.proofs.LocksAfterStep.{GoneOn}
use Rattle.crash_simulation.proofs.LoggedNodeSteps.{framed_in}
use Rattle.crash_simulation.proofs.PendingFlushes.{LastsAre, Passage, frames_stay, still_reached, stored_same}
use Rattle.crash_simulation.proofs.StepsAfterMarks.{fits_by, most_is}
use Rattle.crash_simulation.proofs.StoreNodeSteps.{same_tail}
use Rattle.crash_simulation.proofs.ThreadViews.{describes_over, log_at, records_over}
use Rattle.crash_simulation.proofs.WriteBackSteps.{not_bound}
use Rattle.crash_simulation.proofs.Common.{◌&&◌, first_access_after}
use Rattle.crash_simulation.proofs.LoadFreeEnvironment.{bare, bare_agrees, bare_answers, bare_loaded, bare_meets, bare_reads}
use Rattle.crash_simulation.proofs.ReadBytes.{reads_after}
use Rattle.crash_simulation.proofs.NodeEnvironments.{placed_here}
use Rattle.crash_simulation.proofs.OwnHartSteps.{going, held_still, step_to, view, StepOf, own_step}

-- ---- Logged assignments

-- which local an evaluation assigns
abbrev local_in : Action → ℕ
local_in (Eval (e.ToLocal place local kind) value next) = local
local_in (Eval (e.ToVariable place variable kind) value next) = 0
local_in (Eval (e.ToElement place variable kind index) value next) = 0
local_in (Store variable kind next) = 0
local_in (Test condition holds fails) = 0
local_in (Lock lock next) = 0
local_in (Unlock lock next) = 0
local_in End = 0

-- a node assigns one local
one_local : (p : Plan) (t : Thread) (node : ℕ) (one other : IsLogged p t node) → one.local ≡ other.local
one_local p t node one other =
    ap local_in (sym one.assigns.action
    ∙ (ap (λ (n : Node). n.action) (same_Some one.assigns.is other.assigns.is (sym one.assigns.at ∙ other.assigns.at)) ∙ other.assigns.action))

-- names that are held are some
record AreSome (names : List LockName) : Type 0 where
  name : LockName
  held : List LockName
  are : names ≡ name ∷ held

some_names : (names : List LockName) → names ≢ [] → AreSome names
some_names [] some = absurd (some refl)
some_names (name ∷ held) some = record { name = name; held = held; are = refl }

-- what a list has at a place is set there
set_there : (xs : List ℤ) (k : ℕ) (x : ℤ) → slice_get xs k ≡ Some x → slice_set xs k x ≡ xs
set_there [] k x there = refl
set_there (y ∷ ys) zero x there = ap (λ (z : ℤ). z ∷ ys) (sym (same_Some y x there))
set_there (y ∷ ys) (suc k) x there = ap (λ (zs : List ℤ). y ∷ zs) (set_there ys k x there)

module _ {y : System} {s : IsSystem y} {w : World} {h : ℕ} (site : Site y s w h) (o : AtPastNow site) where
  open view site use {b, code, c, t, n, v, places, graph_thread, seen}
  open o use {node, logged, owed, registers, view as old}
  open logged use {local, assigns}

  -- its registers have the word of the local, and the number in 64 bits
  pub record HasWord : Type 0 where
    pub word : ℕ
    pub home : home_of code.thread.locals local ≡ InFrame word
    pub small : read registers pending_value < 2 ^ 64

  pub has_word : HasWord
  has_word = by o.core.ready
    where
      by : IsReady y.plan code.thread node seen old owed registers → HasWord
      by (to_enter none enters) = absurd (none logged)
      by (to_assign other may) =
          let kind = local_kind y.plan s.plan code.thread code.of other.local may.assigned.word may.assigned.home in
          record {
            word = may.assigned.word;
            home = subst (λ (l : ℕ). home_of code.thread.locals l ≡ InFrame may.assigned.word) (one_local y.plan code.thread node other logged)
                may.assigned.home;
            small = carried_small registers pending_value (typed kind.0 owed) (may.assigned.carries kind.0 kind.1);
          }

  open has_word use {word, home, small}

  abbrev set : a.Effect
  set = a.Sets local owed assigns.next

  pub mark : IsAtSomeMark y.plan code.thread places (on_machine y.runs.program w n (bare y s w h site.below)) node seen old registers set
  mark = assignments_begin y.plan code.thread y.runs.program code.program code.is w n (bare y s w h site.below) node seen old owed registers logged word home
      (placed_here site) (bare_meets y s w h site.below) (bare_agrees y s w h site.below) (bare_reads y s w h site.below)
      (λ place count value found. absurd (none-some value found)) o.core

  -- ---- The store

  pub own_word : IsOwnWord w.log n word
  own_word = (placed_here site).words local word home

  abbrev own : ℕ
  own = own_word.word

  framed : IsFrameWord w.log own
  framed = record { frame = own_word.framed; exists = own_word.exists }

  abbrev address : ℕ
  address = frame_at w.log n own

  abbrev value : ℕ
  value = read registers pending_value

  abbrev cleans : List Effect
  cleans = Cleans address ∷ []

  open o.goes use {goes, cleans as no_cleans, execution}
  open site.stands.machine use {log as logs, sound, short}

  held : AreSome (held_names_before y.plan code.thread node)
  held = some_names _ logged.holds

  seen_are : mark.effects ≡ Stores word 8 value ∷ Cleans word ∷ []
  seen_are = coe 0 1 (i. mark.effects ≡ effects_set y.plan code.thread places (home i) (held.are i) registers) mark.seen_are

  abbrev stage : Stage
  stage = stage_after y.plan code.thread places node seen old registers set

  abbrev stage_at : Stage
  stage_at = record { exit = Arrives; node = graph_thread.at; seen = seen; view = with_word old word value }

  -- what the thread sees has the number already
  stage_is : stage ≡ stage_at
  stage_is = (λ i. record {
    exit = exit_set y.plan code.thread places (home i) (held.are i) node local owed;
    node = assigns.next;
    seen = seen_after set seen;
    view = view_set y.plan code.thread places (home i) (held.are i) registers old;
  }) ∙ (λ i. record {
    exit = Arrives;
    node = o.goes_to i;
    seen = record seen { locals = set_there graph_thread.locals local owed o.number i };
    view = with_word old word value;
  })

  no_rest : c.rest ≡ []
  no_rest = goes.rest

  same_log : v.log ≡ w.log
  same_log = log_stays y.runs.program w (Step n) sound

  -- its record doesn't name the word
  unnamed : Contains (framed_of c.new) own → ⊥
  unnamed has =
      assigned_is_apart y.plan code.thread node own s.plan code.of o.core.own logged
      (home ∙ ap (λ (k : ℕ). InFrame k) (own_word.is ∙ ap (λ (l : Log). frame_at l n own) (sym logs))) ((o.beside own).0 (framed_in c.new own has))

  abbrev Passes : Type 0
  Passes = PassesMark y.plan code.thread places (on_machine y.runs.program w n (bare y s w h site.below)) set stage mark.steps mark.effects mark.at

  abbrev Waits : Type 0
  Waits = Stays y.plan code.thread places (on_machine y.runs.program w n (bare y s w h site.below)) set stage mark.steps mark.effects mark.at

  pub stores_it : (effect : Effect) → IsSetBy y.plan code.thread places (home_of code.thread.locals local) stage.exit stage.view effect →
      effect ≡ Stores word 8 value
  stores_it effect made =
      let by : effect ≡ Stores word 8 ((with_word old word value).frame word) =
      coe 0 1 (i. IsSetBy y.plan code.thread places (home i) (exit_set y.plan code.thread places (home i) (held.are i) node local owed)
      (view_set y.plan code.thread places (home i) (held.are i) registers old) effect) made in
      by ∙ ap (Stores word 8) (cond-true (word == word) value (old.frame word) (eq-eqb word word refl))

  module _ (p : Passes) where
    made : p.forward.effect ≡ Stores word 8 value
    made = stores_it p.forward.effect p.made

    effect_is : p.forward.effect ≡ Stores address 8 value
    effect_is = made ∙ ap (λ (k : ℕ). Stores k 8 value) own_word.is

    later_is : p.later ≡ cleans
    later_is = same_tail (Stores word 8 value) (Stores word 8 value) (Cleans word ∷ []) p.later
        (sym seen_are ∙ (p.effects_are ∙ ap (λ (x : Effect). effects_of x ++ p.later) made))
        ∙ ap (λ (k : ℕ). Cleans k ∷ []) own_word.is

    abbrev hart : Hart
    hart = mark.at.on.hart

    hart_is : hart ≡ t.log.hart
    hart_is = same_there (slice_get w.harts n) hart t.log.hart mark.at.on.here t.log.here

    next_is : IsNext y.runs.program w n hart (Stores address 8 value)
    next_is = subst (IsNext y.runs.program w n hart) effect_is
        (record { here = mark.at.on.here; runs = ap is_running mark.at.on.runs; is = p.forward.effect_is })

    in_own_log : IsLogEffect w.log n p.forward.effect
    in_own_log = StoresWord (frame_index own) value (frame_inside w.log own framed)
        (effect_is ∙ ap (λ (k : ℕ). Stores k 8 value) ((scheme w.log).frame.address n own))

    elsewhere : IsElsewhere y.runs.program w (framed_of c.new) n n
    elsewhere = stores_to_frame y.runs.program (framed_of c.new) w n hart own value next_is framed unnamed

    log_then : LogInv n nothing_recorded c.new v []
    log_then = log_at (steps_keep y.runs.program (framed_of c.new) n n nothing_recorded c.new w [] sound
        (from_nothing (subst (λ (rest : List Effect). LogInv n c.old c.new w rest) no_rest t.log)) (λ word has. absurd (contains_none word has))
        (λ word has. has) elsewhere) p.on.on.hart p.on.on.here

    abbrev stored : StoresInFrame w v n
    stored = record {
      own = own;
      is = framed;
      value = value;
      small = small;
      words = ap (λ (z : World). z.words) p.forward.world ∙ ap (λ (x : Contents). x.words) (subst (λ (x : Effect). Changes
          (record { words = w.words; queue = hart.queue }) x p.forward.contents) effect_is p.forward.changes);
      log = same_log;
      before = t.log.log.log;
      after = subst (λ (l : Log). HasLog l n v.words) same_log log_then.log.log;
    }

    abbrev new : ThreadGhost
    new = going c cleans (most_ahead y n) (λ k. last_store_after y.runs.program w (Step n) n k (c.last_stores k))
        (λ byte. first_access_after y.runs.program w (Step n) n byte (c.first_accesses byte))

    memory_same : memory_in (places_of y) v.words ≡ b.config.memory
    memory_same = ap (λ (z : World). memory_in (places_of y) z.words) p.forward.world
        ∙ (log_memory y s w n p.forward.effect hart.queue p.forward.contents p.forward.changes in_own_log ∙ site.stands.memory)

    holders_stay : v.holders ≡ w.holders
    holders_stay = ap (λ (z : World). z.holders) p.forward.world

    abbrev passage : Passage y code
    passage = step_to site v b.config.uncommitted b.config.memory b.config.attempts (b.execution, b.respects) new p.on.on.hart

    -- ---- The fragment after it

    abbrev left : ℕ
    left = left_of y.plan code.thread places p.on

    next_own : IsNodeOf code.thread graph_thread.at
    next_own = subst (λ (z : Stage). IsNodeOf code.thread z.node) stage_is p.on.own

    soon : IsSoon y n (most_ahead y n) (left + entry_ahead y.plan places graph_thread.at)
    soon =
        let bounded = marks_are_bounded y.plan code.thread places y.runs.program w n (bare y s w h site.below) set stage mark.steps mark.effects
        short mark.at in
        let fit = fits_by y s h site.below node assigns.is o.core.own assigns.at graph_thread.at next_own
        (subst (λ (k : ℕ). Contains (successors assigns.is.action) k) o.goes_to
        (subst (λ (z : Action). Contains (successors z) assigns.next) (sym assigns.action) (contains_first assigns.next [])))
        (λ ends. (let z = sym assigns.action ∙ ends in cc)) in
        (omega (arith, p.less, mark.short, bounded, fit, most_is y s h site.below), omega arith)

    fragment_then : InFragment y v b code new p.on.on.hart graph_thread Arrives mark.steps
    fragment_then = record {
      environment = bare y s w h site.below;
      answers = bare_answers y s w h site.below (now b.config);
      loaded = bare_loaded y s w h site.below b new;
      view = with_word old word value;
      at_side = o.at_side;
      frame = subst (λ (k : ℕ). HasView v n (with_word old k value)) (sym own_word.is) (view_stored stored old o.frame);
      fragment = subst (λ (es : List Effect). IsOnFragment y.plan code.thread places (on_machine y.runs.program v n (bare y s w h site.below)) stage_at
          mark.steps es) later_is
          (subst (λ (z : Stage). IsOnFragment y.plan code.thread places (on_machine y.runs.program v n (bare y s w h site.below)) z mark.steps p.later)
          stage_is p.on);
      fits = (
        record { going = goes.going; rest = refl; giving = refl; committed = refl },
        execution,
        λ on_time. absurd (true≢false (sym o.late ∙ on_time)),
      );
      owes = tt;
      soon = subst (λ (es : List Effect). IsSoon y n (most_ahead y n) (steps_left mark.steps (seen_effects es) p.on.on.hart.queue
          + beyond y.plan places Arrives graph_thread.at)) later_is soon;
    }

    -- ---- What is stored

    reaches : (j position : ℕ) → PersistsThrough w.words t.log.hart.queue j position → PersistsThrough v.words p.on.on.hart.queue j position
    reaches j position r = subst (λ (x : Hart). PersistsThrough v.words x.queue j position) (sym p.same)
        (forward_reaches y.runs.program w n (run_at y.plan code.thread places mark.at) p.forward j position
        (subst (λ (x : Hart). PersistsThrough w.words x.queue j position) (sym hart_is) r))

    lasts : LastsAre passage
    lasts k position is = elim (last_store_is y.runs.program w n k (c.last_stores k) hart address 8 value position next_is is) [
      | inl was ↦ inl was
      | inr made_here ↦ inr (in_frame own (subst (λ (l : Log). IsFrameWord l own) (sym same_log) framed)
          (ap (λ (l : Log). frame_word l n own) same_log ∙ sym made_here.0) made_here.1)
    ]

    only_clean : (one : Effect) → Contains cleans one → is_clean one ≡ true
    only_clean one has = elim (contains_cases (Cleans address) [] one has) [
      | inl same ↦ ap is_clean same
      | inr none ↦ absurd (contains_none one none)
    ]

    -- its frame is on its way: the word that it stores by the clean that comes, the others as they were
    frame_then : IsSectioned new → (other : ℕ) → IsFrameWord v.log other → IsFrameFlushed y v b code new p.on.on.hart other
    frame_then sectioned other at = record { comes = ⊎_elim own_comes other_comes (same_or_other other own); fenced = λ un. absurd (true≢false un) }
      where
        is : IsFrameWord w.log other
        is = subst (λ (l : Log). IsFrameWord l other) same_log at

        was : IsSectioned new → IsSectioned c
        was (inl some) = inl some
        was (inr both) = absurd (both.1 refl)

        own_comes : other ≡ own → IsFrameComing y v b code new p.on.on.hart other
        own_comes same =
            frame_ahead other (subst (λ (l : Log). Contains (cleans ++ []) (Cleans (frame_at l n other))) (sym same_log)
            (subst (λ (k : ℕ). Contains (cleans ++ []) (Cleans (frame_at w.log n k))) (sym same) (contains_first (Cleans address) []))) refl

        reached : IsPersisted (frame_in w.log w.words n other) (frame_in w.log v.words n other) → IsFrameComing y w b code c t.log.hart other →
            IsFrameComing y v b code new p.on.on.hart other
        reached persisted (frame_reached r) =
            frame_reached (subst (λ (l : Log). PersistsThrough v.words p.on.on.hart.queue (frame_word l n other) (last_position (frame_in l v.words n other)))
            (sym same_log)
            (subst (λ (position : ℕ). PersistsThrough v.words p.on.on.hart.queue (frame_word w.log n other) position) (sym (same_last _ _ persisted))
            (reaches (frame_word w.log n other) (last_position (frame_in w.log w.words n other)) r)))
        reached persisted (frame_ahead line has at_line) =
            absurd (contains_none _ (subst (λ (es : List Effect). Contains es (Cleans (frame_at w.log n line))) (ap₂ ◌++◌ no_cleans no_rest) has))

        other_comes : other ≢ own → IsFrameComing y v b code new p.on.on.hart other
        other_comes apart = reached (others_persist stored other apart) (t.stored.frame (was sectioned) other is).comes

    points : stores_point y.runs.program w (Step n) n ≡ (not (is_bound c) && is_bound new)
    points = p.point ∙ (ap (is_point_store w.log n) effect_is ∙ (ne_eqb _ _ (frame_not_point w.log n own) ∙ sym (and_none (not (is_bound c)))))

    bound : is_bound c ≡ true → is_bound new ≡ true
    bound was = absurd (not_bound c goes.committed was)

    thread_then : ThreadInv y v b code new
    unfolding log_then
    thread_then = record {
      log = log_then;
      records = records_over y b code new refl refl (ends_committed v.log n nothing_recorded c.new (config_of v log_then.hart []) log_then.log refl)
          (describes_over y b code c t.records goes.committed);
      graph_thread = graph_thread;
      walks = t.walks;
      phase = subst (λ (phase : Phase). InPhase y v b code new p.on.on.hart graph_thread phase) (sym p.on.on.runs) (on_fragment Arrives mark.steps
          fragment_then);
      stored = stored_same passage only_clean (still_reached passage no_cleans reaches) (λ u i position since. since) (λ u i f un. absurd (true≢false un)) refl
          (step_durable y.runs.program w n sound) lasts
          (λ k position is low. recorded_in (subst (λ (l : Log). IsWordOf l n c.new k) (sym same_log) is)
          (step_last y.runs.program w n sound k position low))
          (frames_stay passage same_log (step_last y.runs.program w n sound)) frame_then t.stored;
      has_read = reads_after passage (record {
        hart = hart;
        effect = Stores address 8 value;
        is_next = next_is;
        environment = bare y s w h site.below;
        answered = tt;
        loaded = bare_loaded y s w h site.below b new;
      }) t.has_read bound (omega arith) (omega arith)
          (λ there. inl (record { graph_thread = there.graph_thread; found = there.found; no_store = there.no_store })) (omega arith) (λ byte. refl) points
          (λ variable number byte writes of. inl writes);
    }

    completes : StepOf site n
    unfolding log_then thread_then
    completes = record {
      next = b;
      led = stays;
      memory = memory_same;
      stores_own = λ other effect is. subst (MayStore y b n) (one_effect y.runs.program w n hart other p.forward.effect effect
          (subst (IsNext y.runs.program w n hart) (sym effect_is) next_is) is) (log_may y b w n logs p.forward.effect in_own_log);
      new = new;
      own = thread_then;
      gone = subst GoneOn (sym p.on.on.runs) tt;
      held = held_still site b new holders_stay refl refl (sym goes.giving);
      counted = record {
        late = refl;
        marks = λ on_time. absurd (true≢false (sym o.late ∙ on_time));
        unlocked = λ mutex gives. absurd (none-some mutex gives);
        points = points;
        bound = bound;
        fences =
            subst (λ (rest : List Effect). AreFencesCounted (boundary_fences y.plan.log) (finishes_fence y.runs.program w (Step n) n)
            (stores_point y.runs.program w (Step n) n) rest []) (sym no_rest)
            (same_fences (boundary_fences y.plan.log) _ _ [] (p.fence ∙ ap is_fence effect_is)
            (p.point ∙ (ap (is_point_store w.log n) effect_is ∙ ne_eqb _ _ (frame_not_point w.log n own))));
        nears = begins_step (p.mark y.runs.marks
            (sym (mark.at.meets.marks ∙ ap (λ (q : Program). q.nodes) (code.is.of_program ∙ (s.own h site.below).program))));
        told = ap (λ (r : Record). is_some r.written) (sym (cond-true c.committed c.new c.old goes.committed));
        begins_told = λ on_time no. absurd (true≢false (sym no));
        last = λ k. refl;
        accesses = λ byte. refl;
      };
      released = nothing_released (holders_stay_none y.runs.program w n holders_stay) (sym (none_leaving c goes.giving));
    }

  -- a store is never held up
  pub store_again : MarksPass → StepOf site n
  store_again marks = ⊎_elim completes (λ (u : Waits). absurd (true≢false
      (sym (ap is_store (stores_it u.drains.effect (mark.at.made u.drains.effect u.drains.effect_is)))
      ∙ held_up_stores_none u.drains.effect mark.at.on.hart.queue u.drains.held_up)))
      (marks y.plan code.thread places y.runs.program w n (bare y s w h site.below) set stage mark.steps mark.effects sound mark.at)

-- ---- Whichever it stores

pub local_stores_step : FragmentsGoOn → MarksPass → LocalStoresStep
local_stores_step law marks y s w h site i (outside from local number o) = own_step site i (store_step site from local number o law)
local_stores_step law marks y s w h site i (again o) = own_step site i (store_again site o marks)
