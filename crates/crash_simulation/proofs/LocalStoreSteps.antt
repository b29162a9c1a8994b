-- A hart that stores a local outside sections, whose number is computed and whose mark is passed.
use Rattle.crash_simulation.proofs.Common.{Record, cond-true, is_some, ◌≡◌, ℕ, ℤ, List, [], ◌∷◌, ◌++◌, sym, ◌∙◌, ap, arith, subst, refl, suc, ◌+◌, ◌-◌, ◌<◌}
use Rattle.crash_simulation.proofs.Common.{◌^◌, length, inl, inr, ⊎_elim, slice_get, not, none-some, true, true≢false, World, Hart, Effect, Stores, Step, Log}
use Rattle.crash_simulation.proofs.Common.{is_running, memory_in, stores_point, finishes_fence, Computes, Arrives, FragmentsGoOn, IsOnFragment, on_machine}
use Rattle.crash_simulation.proofs.Common.{run_of, effects_of, Site, OnFragmentNow, System, IsSystem, ThreadGhost, InFragment, IsFrameWord}
use Rattle.crash_simulation.proofs.Common.{with_word, frame_at, computes_end, read, same_there, places_of, ◌==◌, ap₂, if◌then◌else◌, now, typed, seen_effects}
use Rattle.crash_simulation.proofs.Common.{steps_left, cleans_in, beyond, Contains, contains_none, ne_eqb, AreFencesCounted, AreNamed, Changes, Contents}
use Rattle.crash_simulation.proofs.Common.{HasView, IsElsewhere, IsInAttempt, IsLogEffect, IsNext, IsOwnWord, IsSectioned, IsSoon, IsWellFormedWorld}
use Rattle.crash_simulation.proofs.Common.{IsWordOf, InPhase, LogInv, MayStore, PersistsThrough, Phase, Program, Stage, StoresWord, ThreadInv}
use Rattle.crash_simulation.proofs.Common.{boundary_fences, config_of, ends_committed, forward_reaches, frame_word, in_frame, is_bound, is_fence, is_nearer}
use Rattle.crash_simulation.proofs.Common.{is_point_store, is_store, last_store_after, log_stays, nothing_recorded, nothing_released, on_fragment, one_effect}
use Rattle.crash_simulation.proofs.Common.{recorded_in, stays, steps_keep}
use Rattle.log_schemes.specs.SchemeFacts.{frame_index}
use Rattle.log_states.specs.Logs.{HasLog}
use Rattle.log_states.proofs.Public.{frame_inside, frame_not_point, scheme, stores_to_frame}
use Rattle.thread_runs.specs.Laws.{CompletesInstruction}
use Rattle.crash_simulation.proofs.Boundaries.{carried_small, local_kind}
use Rattle.crash_simulation.proofs.BoundaryFences.{same_fences}
use Rattle.crash_simulation.proofs.CompletedEffects.{last_store_is, step_durable, step_last}
use Rattle.crash_simulation.proofs.FragmentSteps.{held_up_stores_none, log_may, log_memory}
use Rattle.crash_simulation.proofs.FrameStores.{StoresInFrame, view_stored}
use Rattle.crash_simulation.proofs.FrameWords.{from_nothing}
use Rattle.crash_simulation.proofs.LastReleases.{and_none, holders_stay_none, none_leaving}
use Rattle.crash_simulation.proofs.LocksAfterStep.{GoneOn}
use Rattle.crash_simulation.proofs.OwnHartSteps.{going, held_still, step_to}
use Rattle.crash_simulation.proofs.PendingFlushes.{LastsAre, Passage, frames_stay, still_reached, stored_same}
use Rattle.crash_simulation.proofs.ThreadViews.{describes_over, log_at, none_clean, records_over}
use Rattle.crash_simulation.proofs.WriteBackSteps.{not_bound}
use Rattle.memory_layout.specs.Roles.{pending_value}
use Rattle.thread_runs.specs.Laws.{IsAtStore}
use Rattle.crash_simulation.proofs.Common.{◌&&◌, first_access_after}
use Rattle.crash_simulation.proofs.LoadFreeEnvironment.{bare, bare_answers, bare_loaded, resettled}
use Rattle.crash_simulation.proofs.ReadBytes.{reads_after}
use Rattle.crash_simulation.proofs.NodeEnvironments.{placed_here}
use Rattle.crash_simulation.proofs.OwnHartSteps.{view, StepOf}

-- nothing is after it
last_made : (word value : ℕ) (later : List Effect) → Stores word 8 value ∷ [] ≡ Stores word 8 value ∷ later → later ≡ []
last_made word value later e = cc

module _ {y : System} {s : IsSystem y} {w : World} {h : ℕ} (site : Site y s w h) (from local : ℕ) (number : ℤ)
    (o : OnFragmentNow site (Computes from local number) 0) where
  open view site use {b, code, c, t, n, v, places, graph_thread, seen}

  -- in an environment that answers no loads
  pub fragment : IsOnFragment y.plan code.thread places (on_machine y.runs.program w n (bare y s w h site.below))
      (record { exit = Computes from local number; node = graph_thread.at; seen = seen; view = o.view }) 0 []
  fragment = resettled y s w h site.below o.environment _ (c.cleans ++ c.rest) o.fragment

  -- its next instruction is the store
  pub at_store : IsAtStore y.plan code.thread places (on_machine y.runs.program w n (bare y s w h site.below)) from fragment.of_graph.word
      (read fragment.registers pending_value)
      (record { exit = Computes from local number; node = graph_thread.at; seen = seen; view = o.view })
  at_store = computes_end y.plan code.thread places y.runs.program w n (bare y s w h site.below) from local number graph_thread.at seen o.view []
      (placed_here site) fragment (λ at count value found. absurd (none-some value found))

  -- ---- The store

  own_word : IsOwnWord w.log n fragment.of_graph.word
  own_word = (placed_here site).words local fragment.of_graph.word fragment.of_graph.home

  abbrev own : ℕ
  own = own_word.word

  framed : IsFrameWord w.log own
  framed = record { frame = own_word.framed; exists = own_word.exists }

  abbrev address : ℕ
  address = frame_at w.log n own

  abbrev value : ℕ
  value = read fragment.registers pending_value

  open o.fits.0 use {goes, cleans as no_cleans, execution}

  no_rest : c.rest ≡ []
  no_rest = goes.rest

  sound : IsWellFormedWorld w
  sound = site.stands.machine.sound

  same_log : v.log ≡ w.log
  same_log = log_stays y.runs.program w (Step n) sound

  -- 64 bits
  small : value < 2 ^ 64
  small =
      let may = fragment.has in
      let kind = local_kind y.plan s.plan code.thread code.of local fragment.of_graph.word fragment.of_graph.home in
      carried_small fragment.registers pending_value (typed kind.0 number) (may.assigned.carries kind.0 kind.1)

  abbrev stage : Stage
  stage = record { exit = Arrives; node = graph_thread.at; seen = seen; view = with_word o.view fragment.of_graph.word value }

  module _ (g : CompletesInstruction y.plan code.thread places (on_machine y.runs.program w n (bare y s w h site.below)) stage at_store.steps
      (Stores fragment.of_graph.word 8 value ∷ []) at_store.on) where
    made : g.forward.effect ≡ Stores fragment.of_graph.word 8 value
    made = at_store.first g.forward.effect g.forward.effect_is

    effect_is : g.forward.effect ≡ Stores address 8 value
    effect_is = made ∙ ap (λ (k : ℕ). Stores k 8 value) own_word.is

    later_is : g.later ≡ []
    later_is = last_made fragment.of_graph.word value g.later (g.effects_are ∙ ap (λ (x : Effect). effects_of x ++ g.later) made)

    abbrev hart : Hart
    hart = at_store.on.on.hart

    hart_is : hart ≡ t.log.hart
    hart_is = same_there (slice_get w.harts n) hart t.log.hart at_store.on.on.here t.log.here

    next_is : IsNext y.runs.program w n hart (Stores address 8 value)
    next_is = subst (IsNext y.runs.program w n hart) effect_is
        (record { here = at_store.on.on.here; runs = ap is_running at_store.on.on.runs; is = g.forward.effect_is })

    in_own_log : IsLogEffect w.log n g.forward.effect
    in_own_log = StoresWord (frame_index own) value (frame_inside w.log own framed)
        (effect_is ∙ ap (λ (k : ℕ). Stores k 8 value) ((scheme w.log).frame.address n own))

    -- no record counts on it
    among : AreNamed [] c.new
    among word has = subst (λ (words : List ℕ). Contains words word) (ap (λ (point : ℕ). if point == 0 then [] else c.new.framed) o.fits.1) has

    elsewhere : IsElsewhere y.runs.program w [] n n
    elsewhere = stores_to_frame y.runs.program [] w n hart own value next_is framed (contains_none own)

    log_then : LogInv n nothing_recorded c.new v []
    log_then = log_at (steps_keep y.runs.program [] n n nothing_recorded c.new w [] sound
        (from_nothing (subst (λ (rest : List Effect). LogInv n c.old c.new w rest) no_rest t.log)) (λ word has. has) among elsewhere)
        g.on.on.hart g.on.on.here

    abbrev stored : StoresInFrame w v n
    stored = record {
      own = own;
      is = framed;
      value = value;
      small = small;
      words = ap (λ (z : World). z.words) g.forward.world ∙ ap (λ (x : Contents). x.words) (subst (λ (x : Effect). Changes
          (record { words = w.words; queue = hart.queue }) x g.forward.contents) effect_is g.forward.changes);
      log = same_log;
      before = t.log.log.log;
      after = subst (λ (l : Log). HasLog l n v.words) same_log log_then.log.log;
    }

    abbrev new : ThreadGhost
    new = going c [] (c.before_mark - 1) (λ word. last_store_after y.runs.program w (Step n) n word (c.last_stores word))
        (λ byte. first_access_after y.runs.program w (Step n) n byte (c.first_accesses byte))

    memory_same : memory_in (places_of y) v.words ≡ b.config.memory
    memory_same = ap (λ (z : World). memory_in (places_of y) z.words) g.forward.world
        ∙ (log_memory y s w n g.forward.effect hart.queue g.forward.contents g.forward.changes in_own_log ∙ site.stands.memory)

    holders_stay : v.holders ≡ w.holders
    holders_stay = ap (λ (z : World). z.holders) g.forward.world

    abbrev passage : Passage y code
    passage = step_to site v b.config.uncommitted b.config.memory b.config.attempts (b.execution, b.respects) new g.on.on.hart

    goes_next : IsInAttempt y b.config n new
    goes_next = record { going = goes.going; rest = refl; giving = refl; committed = refl }

    nearer : (c.before_mark ≡ suc (c.before_mark - 1)) × IsSoon y n (c.before_mark - 1)
        (steps_left at_store.steps (seen_effects []) g.on.on.hart.queue + beyond y.plan places Arrives graph_thread.at)
    nearer =
        let queue : length hart.queue ≡ length t.log.hart.queue = ap (λ (x : Hart). length x.queue) hart_is in
        let none : cleans_in (seen_effects (c.cleans ++ c.rest)) ≡ 0 =
        ap (λ (es : List Effect). cleans_in (seen_effects es)) (ap₂ ◌++◌ no_cleans no_rest) in
        let less = g.less in
        let left : steps_left at_store.steps (seen_effects g.later) g.on.on.hart.queue ≡ steps_left at_store.steps (seen_effects []) g.on.on.hart.queue =
        ap (λ (es : List Effect). steps_left at_store.steps (seen_effects es) g.on.on.hart.queue) later_is in
        (omega (arith, o.soon.0, at_store.short, queue, none), (omega (arith, o.soon.0, at_store.short, queue, none, less, left), omega (arith, o.soon.1)))

    fragment_then : InFragment y v b code new g.on.on.hart graph_thread Arrives at_store.steps
    fragment_then = record {
      environment = bare y s w h site.below;
      answers = bare_answers y s w h site.below (now b.config);
      loaded = bare_loaded y s w h site.below b new;
      view = with_word o.view fragment.of_graph.word value;
      at_side = o.at_side;
      frame = subst (λ (k : ℕ). HasView v n (with_word o.view k value)) (sym own_word.is) (view_stored stored o.view o.frame);
      fragment = subst (λ (es : List Effect). IsOnFragment y.plan code.thread places (on_machine y.runs.program v n (bare y s w h site.below)) stage
          at_store.steps es)
          later_is g.on;
      fits = (goes_next, execution, o.fits.2);
      owes = tt;
      soon = nearer.1;
    }

    reaches : (j position : ℕ) → PersistsThrough w.words t.log.hart.queue j position → PersistsThrough v.words g.on.on.hart.queue j position
    reaches j position r = subst (λ (x : Hart). PersistsThrough v.words x.queue j position) (sym g.same)
        (forward_reaches y.runs.program w n (run_of y.plan code.thread places at_store.on) g.forward j position
        (subst (λ (x : Hart). PersistsThrough w.words x.queue j position) (sym hart_is) r))

    lasts : LastsAre passage
    lasts word position is = elim (last_store_is y.runs.program w n word (c.last_stores word) hart address 8 value position next_is is) [
      | inl was ↦ inl was
      | inr made_here ↦ inr (in_frame own (subst (λ (l : Log). IsFrameWord l own) (sym same_log) framed)
          (ap (λ (l : Log). frame_word l n own) same_log ∙ sym made_here.0) made_here.1)
    ]

    points : stores_point y.runs.program w (Step n) n ≡ (not (is_bound c) && is_bound new)
    points = g.point ∙ (ap (is_point_store w.log n) effect_is ∙ (ne_eqb _ _ (frame_not_point w.log n own) ∙ sym (and_none (not (is_bound c)))))

    bound : is_bound c ≡ true → is_bound new ≡ true
    bound was = absurd (not_bound c goes.committed was)

    outside : IsSectioned new → ⊥
    outside (inl some) = some o.fits.1
    outside (inr both) = both.1 refl

    thread_then : ThreadInv y v b code new
    unfolding log_then
    thread_then = record {
      log = log_then;
      records = records_over y b code new refl refl (ends_committed v.log n nothing_recorded c.new (config_of v log_then.hart []) log_then.log refl)
          (describes_over y b code c t.records goes.committed);
      graph_thread = graph_thread;
      walks = t.walks;
      phase = subst (λ (p : Phase). InPhase y v b code new g.on.on.hart graph_thread p) (sym g.on.on.runs) (on_fragment Arrives at_store.steps fragment_then);
      stored = stored_same passage none_clean (still_reached passage no_cleans reaches) (λ u e position since. since) (λ u e f un. absurd (true≢false un)) refl
          (step_durable y.runs.program w n sound) lasts
          (λ word position is low. recorded_in (subst (λ (l : Log). IsWordOf l n c.new word) (sym same_log) is)
          (step_last y.runs.program w n sound word position low))
          (frames_stay passage same_log (step_last y.runs.program w n sound)) (λ sectioned. absurd (outside sectioned)) t.stored;
      has_read = reads_after passage (record {
        hart = hart;
        effect = Stores address 8 value;
        is_next = next_is;
        environment = bare y s w h site.below;
        answered = tt;
        loaded = bare_loaded y s w h site.below b new;
      }) t.has_read bound (omega arith) (omega arith)
          (λ there. inl (record { graph_thread = there.graph_thread; found = there.found; no_store = there.no_store })) (omega arith) (λ byte. refl) points
          (λ variable number byte writes of. inl writes);
    }

    completes : FragmentsGoOn → StepOf site n
    unfolding log_then thread_then
    completes law = record {
      next = b;
      led = stays;
      memory = memory_same;
      stores_own = λ other effect is. subst (MayStore y b n) (one_effect y.runs.program w n hart other g.forward.effect effect
          (subst (IsNext y.runs.program w n hart) (sym effect_is) next_is) is) (log_may y b w n site.stands.machine.log g.forward.effect in_own_log);
      new = new;
      own = thread_then;
      gone = subst GoneOn (sym g.on.on.runs) tt;
      held = held_still site b new holders_stay refl refl (sym goes.giving);
      counted = record {
        late = refl;
        marks = λ on_time.
            (law y.plan code.thread places y.runs.program w n (bare y s w h site.below) stage at_store.steps (Stores fragment.of_graph.word 8 value ∷ []) sound
            at_store.on).1 y.runs.marks (sym (at_store.on.meets.marks ∙ ap (λ (p : Program). p.nodes) (code.is.of_program ∙ (s.own h site.below).program)));
        unlocked = λ mutex gives. absurd (none-some mutex gives);
        points = points;
        bound = bound;
        fences =
            subst (λ (rest : List Effect). AreFencesCounted (boundary_fences y.plan.log) (finishes_fence y.runs.program w (Step n) n)
            (stores_point y.runs.program w (Step n) n) rest []) (sym no_rest)
            (same_fences (boundary_fences y.plan.log) _ _ [] (g.fence ∙ ap is_fence effect_is)
            (g.point ∙ (ap (is_point_store w.log n) effect_is ∙ ne_eqb _ _ (frame_not_point w.log n own))));
        nears = is_nearer nearer.0;
        told = ap (λ (r : Record). is_some r.written) (sym (cond-true c.committed c.new c.old goes.committed));
        begins_told = λ on_time no. absurd (true≢false (sym no));
        last = λ word. refl;
        accesses = λ byte. refl;
      };
      released = nothing_released (holders_stay_none y.runs.program w n holders_stay) (sym (none_leaving c goes.giving));
    }

  -- a store is never held up
  pub store_step : FragmentsGoOn → StepOf site n
  store_step law = ⊎_elim (λ g. completes g law) (λ u. absurd (true≢false
      (sym (ap is_store (at_store.first u.drains.effect u.drains.effect_is)) ∙ held_up_stores_none u.drains.effect at_store.on.on.hart.queue u.drains.held_up)))
      (law y.plan code.thread places y.runs.program w n (bare y s w h site.below) stage at_store.steps (Stores fragment.of_graph.word 8 value ∷ []) sound
      at_store.on).0
