-- A hart passes the mark of a node that begins no boundary: what is the same of all of them.
use Rattle.crash_simulation.specs.ThreadGhosts.{IsUntold}
use Rattle.crash_simulation.proofs.OwnHartSteps.{told_at, told_new}
use Rattle.crash_simulation.proofs.Common.{◌≡◌, ℕ, List, ◌∷◌, sym, ◌∙◌, ap, arith, subst, true, false, Some, refl, ◌+◌, [], ◌++◌, length, Bool, inl, inr}
use Rattle.crash_simulation.proofs.Common.{slice_get, not, true≢false, append-nil, ◌≤◌, ℤ, Contains, nat_tests, none-some, same_Some, PersistsThrough, Hart}
use Rattle.crash_simulation.proofs.Common.{World, Effect, is_running, is_point_store, Phase, GraphThread, FlowState, seen_by, graph_step, lowered, Writes}
use Rattle.crash_simulation.proofs.Common.{WritesAt, now, attempt_of, history_at, Memory, IsSince, begun, ConfigStep, kept_steps, memory_in}
use Rattle.crash_simulation.proofs.Common.{RespectsBoundaries, flow_now, seen_effects, IsElsewhere, IsNext, one_effect, steps_left, is_clean, forward_reaches}
use Rattle.crash_simulation.proofs.Common.{Ends, IsOnFragment, on_machine, Stage, stage_after, stage_sees, run_at, fragments_see_all, AbstractRun, kept_of}
use Rattle.crash_simulation.proofs.Common.{now_of, is_bound, nothing_released, MayStore, goes, IsDoneBy, begins_step, is_begun, most_ahead, beyond, System}
use Rattle.crash_simulation.proofs.Common.{IsSystem, flat_of, places_of, ThreadGhost, on_fragment, InPhase, ThreadInv, ExitInv, AnswersGuarded, IsFlushed}
use Rattle.crash_simulation.proofs.Common.{IsInAttempt, ◌<◌, ◌&&◌, steps_begun, counted_own, IsOnItsWay, last_store_after, first_access_after, AnswersLoaded}
use Rattle.crash_simulation.proofs.Common.{HasRead, suc}
use Rattle.crash_simulation.proofs.ReadBytes.{AccessesWritten, none_bound, passed_answers, reads_after}
use Rattle.crash_simulation.proofs.Common.{last_position, word_at, Log, log_stays, IsWordOf, recorded_in}
use Rattle.crash_simulation.proofs.CompletedEffects.{step_last}
use Rattle.crash_simulation.proofs.Common.{is_fence, finishes_fence, stores_point, Step, boundary_fences, AreFencesCounted, ◌⊎◌, ap₂, AreNamed, Cleans}
use Rattle.crash_simulation.proofs.Common.{ExitOwes, HasView, Home, InRegister, IsFrameComing, IsFrameFlushed, IsFrameWord, IsSectioned, LockName}
use Rattle.crash_simulation.proofs.Common.{contains_none, frame_ahead, frame_at, frame_in, frame_reached, frame_word, held_names_before, home_of, steps_move}
use Rattle.expr_code.specs.declared.home.Home.TheVariants.{InFrame}
use Rattle.ido_base.specs.Growth.{IsPersisted}
use Rattle.ido_base.proofs.Public.{same_last}
use Rattle.thread_runs.specs.CodeFragments.{exit_set, view_set}
use Rattle.crash_simulation.proofs.FrameWords.{all_words}
use Rattle.crash_simulation.proofs.PendingFlushes.{frames_stay}
use Rattle.crash_simulation.proofs.ThreadViews.{frame_stays}
use Rattle.flow_graph.proofs.Public.{moved}
use Rattle.flow_graph.specs.Actions as a
use Rattle.crash_simulation.proofs.OwnHartSteps.{step_to, going, view, StepOf, held_still, log_going, records_going, AtNode}
use Rattle.crash_simulation.proofs.MarksAtNodes.{AtMark, environment, stage_then, graph_step_is, Passes, old_hart, passed_soon}
use Rattle.crash_simulation.proofs.BoundaryFences.{same_fences}
use Rattle.crash_simulation.proofs.LocksAfterStep.{GoneOn}
use Rattle.crash_simulation.proofs.LastReleases.{holders_stay_none, none_leaving, and_none}
use Rattle.crash_simulation.proofs.ConfigAfterBegin.{one_longer, goes_still, done_longer, wrote}
use Rattle.crash_simulation.proofs.GraphAfterBegin.{after_effect, graph_thread_is, graph_threads_count}
use Rattle.crash_simulation.proofs.UncommittedSteps.{leads_on}
use Rattle.crash_simulation.proofs.WriteBackSteps.{not_bound}
use Rattle.crash_simulation.proofs.PendingFlushes.{Passage, run_after, ComesNow, flushed_still, still_reached}

-- a number is computed before it is stored
abbrev pub SetsIn : Home → List LockName → Type 0
SetsIn (InFrame word) [] = Unit {0}
SetsIn home held = ⊥

-- ---- Effects that leave the mutexes

abbrev pub is_plain : a.Effect → Bool
is_plain (a.Takes mutex next) = false
is_plain (a.Gives mutex next) = false
is_plain e = true

pub plain_holders : (s : FlowState) (t : ℕ) (graph_thread : GraphThread) (e : a.Effect) → is_plain e ≡ true →
    (after_effect s t graph_thread e).holders ≡ s.holders
plain_holders s t graph_thread e plain = grind (arith, nat_tests)

-- a step that passes the mark
module _ {y : System} {s : IsSystem y} {w : World} {h : ℕ} (site : AtNode y s w h) (m : AtMark site) (p : Passes site m) where
  open view site.hart use {b, t, n, v}

  pub is_next : IsNext y.runs.program w n m.mark.at.on.hart p.forward.effect
  is_next = record { here = m.mark.at.on.here; runs = ap is_running m.mark.at.on.runs; is = p.forward.effect_is }

  -- where a step stores nothing to its log the words of its frame keep their values
  pub stays_all : IsElsewhere y.runs.program w all_words n n → (own : ℕ) → IsFrameWord w.log own →
      IsPersisted (frame_in w.log w.words n own) (frame_in w.log v.words n own)
  stays_all elsewhere =
      let moves = steps_move y.runs.program all_words w n n t.log.hart (view site.hart).c.rest site.hart.stands.machine.sound t.log.here elsewhere in
      frame_stays t.log moves

  pub may_each : MayStore y b n p.forward.effect → (other : Hart) (effect : Effect) → IsNext y.runs.program w n other effect → MayStore y b n effect
  may_each may other effect is = subst (MayStore y b n) (one_effect y.runs.program w n m.mark.at.on.hart other p.forward.effect effect is_next is) may

  pub holders_stay : v.holders ≡ w.holders
  holders_stay = ap (λ (z : World). z.holders) p.forward.world

  pub reaches_on : (j position : ℕ) → PersistsThrough w.words t.log.hart.queue j position → PersistsThrough v.words p.on.on.hart.queue j position
  reaches_on j position r = subst (λ (x : Hart). PersistsThrough v.words x.queue j position) (sym p.same)
      (forward_reaches y.runs.program w n (run_at y.plan (view site.hart).code.thread (view site.hart).places m.mark.at) p.forward j position
      (subst (λ (x : Hart). PersistsThrough w.words x.queue j position) (sym (old_hart site m)) r))

module _ {y : System} {s : IsSystem y} {w : World} {h : ℕ} (site : AtNode y s w h) where
  open view site.hart use {b, code, c, t, n, v, places, graph_thread, seen}

  -- the stage after the mark
  abbrev pub stage_of : a.Effect → Stage
  stage_of e = stage_after y.plan code.thread places graph_thread.at seen site.core.view site.core.registers e

  -- once the variables are seen as they are then
  stage_is : (variables : List (List ℤ)) (e : a.Effect) → is_plain e ≡ true →
      stage_sees variables (stage_of e) ≡
      record {
        exit = (stage_of e).exit;
        node = (moved graph_thread e).at;
        seen = record { locals = (moved graph_thread e).locals; pending = (moved graph_thread e).pending; variables = variables };
        view = (stage_of e).view;
      }
  stage_is variables (a.Sets local number to) plain = refl
  stage_is variables (a.Owes store to) plain = refl
  stage_is variables (a.Makes store to) plain = refl
  stage_is variables (a.Goes to) plain = refl
  stage_is variables (a.Takes mutex to) plain = absurd (true≢false (sym plain))
  stage_is variables (a.Gives mutex to) plain = absurd (true≢false (sym plain))
  stage_is variables a.Ends plain = refl

  set_side : (home : Home) (held : List LockName) → (view_set y.plan code.thread places home held site.core.registers site.core.view).side ≡ site.core.view.side
  set_side (InRegister register) held = refl
  set_side (InFrame word) [] = refl
  set_side (InFrame word) (name ∷ held) = refl

  -- the side stays
  side_is : (e : a.Effect) → is_plain e ≡ true → (stage_of e).view.side ≡ site.core.view.side
  side_is (a.Sets local number to) plain = set_side (home_of code.thread.locals local) (held_names_before y.plan code.thread graph_thread.at)
  side_is (a.Owes store to) plain = refl
  side_is (a.Makes store to) plain = refl
  side_is (a.Goes to) plain = refl
  side_is (a.Takes mutex to) plain = absurd (true≢false (sym plain))
  side_is (a.Gives mutex to) plain = absurd (true≢false (sym plain))
  side_is a.Ends plain = refl

  -- a store of a local outside sections is still to come, where the home is in the frame and no lock is held
  abbrev pub SetsLater : a.Effect → Type 0
  SetsLater (a.Sets local number to) = SetsIn (home_of code.thread.locals local) (held_names_before y.plan code.thread graph_thread.at)
  SetsLater e = ⊥

  -- a step that passes the mark of a node which leaves the mutexes as they are: what it does, and what happens by it
  pub record Passing : Type 0 where
    pub mark : AtMark site
    pub passes : Passes site mark
    pub plain : is_plain mark.doing.effect ≡ true
    -- what is cleaned after it
    pub cleans : List Effect
    pub later : passes.later ≡ cleans
    pub clean : (one : Effect) → Contains cleans one → is_clean one ≡ true
    pub ends : mark.doing.effect ≡ a.Ends → cleans ≡ []
    pub sets_later : SetsLater mark.doing.effect → (cleans ≡ []) × (c.new.point ≡ 0)
    -- its log then
    pub frame : HasView v n (stage_of mark.doing.effect).view
    -- what it stores
    pub named : List ℕ
    pub among : AreNamed named c.new
    pub elsewhere : IsElsewhere y.runs.program w named n n
    pub may : MayStore y b n passes.forward.effect
    pub no_point : is_point_store w.log n passes.forward.effect ≡ false
    pub no_fence : is_fence passes.forward.effect ≡ false
    -- the step of the source
    pub memory : Memory
    pub memory_is : memory_in (places_of y) v.words ≡ memory
    pub happened : ConfigStep b.config (begun b.config n memory (one_longer b.config n))
    pub leads : graph_step (lowered (flat_of y)) (now_of y b) n ≡ Some (flow_now (flat_of y) (kept_of y b) (begun b.config n memory (one_longer b.config n)))
    pub by_it : IsDoneBy n happened
    pub none_kept : kept_steps happened ≡ []
    pub minded : RespectsBoundaries (flat_of y) y.plan.boundaries (kept_of y b) happened
    pub is_step : is_begun happened ≡ true

  module _ (o : Passing) where
    abbrev pub new : ThreadGhost
    new = going c o.cleans (most_ahead y n) (λ word. last_store_after y.runs.program w (Step n) n word (c.last_stores word))
        (λ byte. first_access_after y.runs.program w (Step n) n byte (c.first_accesses byte))

    open o.passes.on.on use {hart as later_hart}

    abbrev pub passage : Passage y code
    passage = step_to site.hart v (b.config.uncommitted ++ n ∷ []) o.memory (one_longer b.config n) (leads_on y b _ o.happened o.none_kept o.minded) new
        later_hart

    abbrev pub next : AbstractRun y
    next = run_after passage

    open o.mark.doing use {effect}

    abbrev then_thread : GraphThread
    then_thread = moved graph_thread effect

    -- the state of the graph after it
    pub state : now_of y next ≡ after_effect (now_of y b) n graph_thread effect
    state = same_Some _ _ (sym o.leads ∙ graph_step_is site o.mark.doing)

    -- an element that was on its way is so still
    abbrev pub flushed_on : (u i : ℕ) → ((p : ℕ) → IsSince (history_at b.config.memory u i) p → IsSince (history_at o.memory u i) p) → ComesNow passage →
        IsFlushed y w b code c t.log.hart u i → IsFlushed y v next code new later_hart u i
    flushed_on u i since comes f =
        let longer = done_longer b.config n in
        flushed_still passage (still_reached passage site.core.goes.cleans (reaches_on site o.mark o.passes)) u i since f (λ un. absurd (true≢false un))
        (omega (arith, longer)) (omega (arith, longer)) comes

    -- a word that was stored for its record is so still
    pub passed_record : (word position : ℕ) → IsWordOf w.log n c.new word → position ≤ last_position (word_at w.words word) →
        IsOnItsWay y v next code new later_hart word position
    passed_record word position among low =
        let sound = site.hart.stands.machine.sound in
        recorded_in (subst (λ (l : Log). IsWordOf l n c.new word) (sym (log_stays y.runs.program w (Step n) sound)) among)
        (step_last y.runs.program w n sound word position low)

    -- what the thread had stored before is on its way still
    pub flushed_passed : (u i : ℕ) → (WritesAt b.config.kept n (attempt_of b.config n).done u i → ⊥) →
        ((p : ℕ) → IsSince (history_at b.config.memory u i) p → IsSince (history_at o.memory u i) p) → ComesNow passage →
        Writes next.config.kept n (attempt_of next.config n).done u i → IsFlushed y v next code new later_hart u i
    flushed_passed u i none since comes writes =
        let longer = done_longer b.config n in
        elim (wrote b.config.kept n (attempt_of b.config n).done u i (subst (λ (k : ℕ). Writes b.config.kept n k u i) longer writes)) [
          | inl old ↦ flushed_on u i since comes (t.stored.flushed u i old)
          | inr at_once ↦ absurd (none at_once)
        ]

    pub goes_next : IsInAttempt y next.config n new
    goes_next = record { going = goes_still b.config n o.memory site.core.goes.goes.going; rest = refl; giving = refl; committed = refl }

    begun_next : 0 < steps_begun next.config n
    begun_next = omega (arith, counted_own n b.config.uncommitted)

    untold : IsUntold y next.config n new new.new
    untold on_time none = absurd (omega (arith, none, begun_next))

    arrives_next : IsInAttempt y next.config n new × (graph_thread.ended ≡ false) × IsUntold y next.config n new new.new
    arrives_next = (goes_next, site.core.goes.execution, untold)

    set_fits : (home : Home) (held : List LockName) (local : ℕ) (number : ℤ) (moved_to : GraphThread) → moved_to.ended ≡ false →
        (SetsIn home held → (o.cleans ≡ []) × (c.new.point ≡ 0)) →
        ExitInv y next.config n new moved_to (exit_set y.plan code.thread places home held graph_thread.at local number)
    set_fits (InRegister register) held local number moved_to execution later = (goes_next, execution, untold)
    set_fits (InFrame word) [] local number moved_to execution later =
        (record { goes = goes_next; cleans = (later tt).0; execution = execution }, (later tt).1, untold)
    set_fits (InFrame word) (name ∷ held) local number moved_to execution later = (goes_next, execution, untold)

    fits_by : (f : a.Effect) → is_plain f ≡ true → (f ≡ a.Ends → o.cleans ≡ []) → (SetsLater f → (o.cleans ≡ []) × (c.new.point ≡ 0)) →
        ExitInv y next.config n new (moved graph_thread f) (stage_of f).exit
    fits_by (a.Sets local number to) plain ends later =
        set_fits (home_of code.thread.locals local) (held_names_before y.plan code.thread graph_thread.at) local number
        (moved graph_thread (a.Sets local number to))
        site.core.goes.execution later
    fits_by (a.Owes store to) plain ends later = arrives_next
    fits_by (a.Makes store to) plain ends later = arrives_next
    fits_by (a.Goes to) plain ends later = arrives_next
    fits_by (a.Takes mutex to) plain ends later = absurd (true≢false (sym plain))
    fits_by (a.Gives mutex to) plain ends later = absurd (true≢false (sym plain))
    fits_by a.Ends plain ends later = record { goes = goes_next; cleans = ends refl; execution = refl }

    -- no boundary comes then
    owes_none : (f : a.Effect) → is_plain f ≡ true → ExitOwes y code new then_thread.at (seen_by (now_of y next) then_thread) (stage_of f).exit
    owes_none (a.Sets local number to) plain = set_owes (home_of code.thread.locals local) (held_names_before y.plan code.thread graph_thread.at) local number
      where
        set_owes : (home : Home) (held : List LockName) (local : ℕ) (number : ℤ) → ExitOwes y code new then_thread.at (seen_by (now_of y next) then_thread)
            (exit_set y.plan code.thread places home held graph_thread.at local number)
        set_owes (InRegister register) held local number = tt
        set_owes (InFrame word) [] local number = tt
        set_owes (InFrame word) (name ∷ held) local number = tt
    owes_none (a.Owes store to) plain = tt
    owes_none (a.Makes store to) plain = tt
    owes_none (a.Goes to) plain = tt
    owes_none (a.Takes mutex to) plain = tt
    owes_none (a.Gives mutex to) plain = tt
    owes_none a.Ends plain = tt

    -- a word that was stored in its frame is so still
    pub passed_frame : (own word position : ℕ) → IsFrameWord w.log own → frame_word w.log n own ≡ word → position ≤ last_position (word_at w.words word) →
        IsOnItsWay y v next code new later_hart word position
    passed_frame = frames_stay passage (log_stays y.runs.program w (Step n) site.hart.stands.machine.sound)
        (step_last y.runs.program w n site.hart.stands.machine.sound)

    was_sectioned : IsSectioned new → IsSectioned c
    was_sectioned (inl some) = inl some
    was_sectioned (inr both) = absurd (both.1 refl)

    -- its frame is on its way still, where its words keep their values or are to be cleaned
    pub frames_passed : ((own : ℕ) → IsFrameWord w.log own → IsPersisted (frame_in w.log w.words n own) (frame_in w.log v.words n own)
        ⊎ Contains o.cleans (Cleans (frame_at w.log n own))) → IsSectioned new → (own : ℕ) → IsFrameWord v.log own →
        IsFrameFlushed y v next code new later_hart own
    frames_passed each sectioned own framed = elim (each own is) [
      | inl persisted ↦ record { comes = reached persisted (t.stored.frame (was_sectioned sectioned) own is).comes; fenced = λ un. absurd (true≢false un) }
      | inr cleaned ↦ record {
        comes = frame_ahead own (subst (λ (l : Log). Contains (o.cleans ++ []) (Cleans (frame_at l n own))) (sym logs)
            (subst (λ (es : List Effect). Contains es (Cleans (frame_at w.log n own))) (sym (append-nil o.cleans)) cleaned)) refl;
        fenced = λ un. absurd (true≢false un);
      }
    ]
      where
        logs : v.log ≡ w.log
        logs = log_stays y.runs.program w (Step n) site.hart.stands.machine.sound

        is : IsFrameWord w.log own
        is = subst (λ (l : Log). IsFrameWord l own) logs framed

        reached : IsPersisted (frame_in w.log w.words n own) (frame_in w.log v.words n own) → IsFrameComing y w b code c t.log.hart own →
            IsFrameComing y v next code new later_hart own
        reached persisted (frame_reached r) =
            frame_reached (subst (λ (l : Log). PersistsThrough v.words later_hart.queue (frame_word l n own) (last_position (frame_in l v.words n own)))
            (sym logs)
            (subst (λ (position : ℕ). PersistsThrough v.words later_hart.queue (frame_word w.log n own) position) (sym (same_last _ _ persisted))
            (reaches_on site o.mark o.passes (frame_word w.log n own) (last_position (frame_in w.log w.words n own)) r)))
        reached persisted (frame_ahead other has line) =
            absurd (contains_none _ (subst (λ (es : List Effect). Contains es (Cleans (frame_at w.log n other)))
            (ap₂ ◌++◌ site.core.goes.cleans site.core.goes.goes.rest) has))

    module _ (answers : AnswersGuarded y (now next.config) n (environment site o.mark.doing))
        (flushed : (u i : ℕ) → Writes next.config.kept n (attempt_of next.config n).done u i → IsFlushed y v next code new later_hart u i)
        (last : (word position : ℕ) → new.last_stores word ≡ Some position → IsOnItsWay y v next code new later_hart word position)
        (loaded : AnswersLoaded y next n new (environment site o.mark.doing)) (stored : AccessesWritten passage)
        (frames : IsSectioned new → (own : ℕ) → IsFrameWord v.log own → IsFrameFlushed y v next code new later_hart own) where
      abbrev FragmentTo : Stage → List Effect → Type 0
      FragmentTo stage effects =
          IsOnFragment y.plan code.thread places (on_machine y.runs.program v n (environment site o.mark.doing)) stage o.mark.mark.steps effects

      fragment : FragmentTo
          (record {
            exit = (stage_of effect).exit;
            node = then_thread.at;
            seen = seen_by (now_of y next) then_thread;
            view = (stage_of effect).view;
          }) (o.cleans ++ [])
      fragment =
          subst (FragmentTo _) (o.later ∙ sym (append-nil o.cleans))
          (subst (λ (z : Stage). FragmentTo z o.passes.later) (stage_is (now_of y next).variables effect o.plain)
          (fragments_see_all y.plan code.thread places y.runs.program v n (environment site o.mark.doing) (stage_then site o.mark.doing) o.mark.mark.steps
          o.passes.later (now_of y next).variables o.passes.on))

      soon_after : steps_left o.mark.mark.steps (seen_effects (o.cleans ++ [])) later_hart.queue
          + beyond y.plan places (stage_of effect).exit then_thread.at ≤ most_ahead y n
      soon_after =
          subst (λ (es : List Effect). steps_left o.mark.mark.steps (seen_effects es) later_hart.queue + beyond y.plan places
          (stage_of effect).exit then_thread.at ≤ most_ahead y n) (o.later ∙ sym (append-nil o.cleans))
          (subst (λ (stage : Stage). steps_left o.mark.mark.steps (seen_effects o.passes.later) later_hart.queue + beyond y.plan
          places stage.exit stage.node ≤ most_ahead y n) (stage_is (now_of y next).variables effect o.plain) (passed_soon site o.mark o.passes))

      phase : InPhase y v next code new later_hart then_thread later_hart.phase
      phase = subst (λ (p : Phase). InPhase y v next code new later_hart then_thread p) (sym o.passes.on.on.runs)
          (on_fragment (stage_of effect).exit o.mark.mark.steps (record {
            environment = environment site o.mark.doing;
            answers = answers;
            loaded = loaded;
            view = (stage_of effect).view;
            at_side = λ some. site.core.at_side some ∙ sym (side_is effect o.plain);
            frame = o.frame;
            fragment = fragment;
            fits = fits_by effect o.plain o.ends o.sets_later;
            owes = owes_none effect o.plain;
            soon = (soon_after, omega arith);
          }))

      points : stores_point y.runs.program w (Step n) n ≡ (not (is_bound c) && is_bound new)
      points = o.passes.point ∙ o.no_point ∙ sym (and_none (not (is_bound c)))

      bound : is_bound c ≡ true → is_bound new ≡ true
      bound is = absurd (not_bound c site.core.goes.goes.committed is)

      one_begun : steps_begun next.config n ≡ suc (steps_begun b.config n)
      one_begun = counted_own n b.config.uncommitted

      has_read : HasRead y next n new
      has_read =
          let longer = done_longer b.config n in
          reads_after passage (record {
            hart = o.mark.mark.at.on.hart;
            effect = o.passes.forward.effect;
            is_next = is_next site o.mark o.passes;
            environment = environment site o.mark.doing;
            answered = passed_answers (environment site o.mark.doing) _ o.passes.forward.by o.passes.forward.effect o.passes.forward.leads;
            loaded = loaded;
          }) t.has_read bound (omega (arith, longer)) (omega (arith, longer))
          (λ there. inr (none_bound c site.core.goes.goes.committed, omega (arith, one_begun)))
          (omega (arith, one_begun)) (λ byte. refl) points stored

      abbrev own : ThreadInv y v next code new
      own =
          let log = log_going site o.named o.among o.elsewhere later_hart o.passes.on.on.here in
          record {
            log = log;
            records = records_going site next refl o.cleans (most_ahead y n) new.last_stores new.first_accesses log;
            graph_thread = then_thread;
            walks = ap (λ (z : FlowState). slice_get z.graph_threads n) state ∙ graph_thread_is (now_of y b) n graph_thread effect t.walks;
            phase = phase;
            stored = record { cleans = o.clean; flushed = flushed; last = last; frame = frames };
            has_read = has_read;
          }

      pub passed_step : StepOf site.hart n
      passed_step = record {
        next = next;
        led = goes _ o.happened o.by_it passage.leads.0 passage.leads.1;
        memory = o.memory_is;
        stores_own = may_each site o.mark o.passes o.may;
        new = new;
        own = own;
        gone = subst GoneOn (sym o.passes.on.on.runs) tt;
        held = held_still site.hart next new (holders_stay site o.mark o.passes)
            (ap (λ (z : FlowState). z.holders) state ∙ plain_holders (now_of y b) n graph_thread effect o.plain)
            (ap (λ (z : FlowState). length z.graph_threads) state ∙ graph_threads_count (now_of y b) n graph_thread effect)
            (sym site.core.goes.goes.giving);
        counted = record {
          late = refl;
          marks = λ on_time. o.passes.mark y.runs.marks refl ∙ sym o.is_step;
          unlocked = λ mutex gives. absurd (none-some mutex gives);
          points = points;
          bound = bound;
          fences =
              subst (λ (rest : List Effect). AreFencesCounted (boundary_fences y.plan.log) (finishes_fence y.runs.program w (Step n) n)
              (stores_point y.runs.program w (Step n) n) rest []) (sym site.core.goes.goes.rest)
              (same_fences (boundary_fences y.plan.log) _ _ [] (o.passes.fence ∙ o.no_fence) (o.passes.point ∙ o.no_point));
          nears = begins_step (o.passes.mark y.runs.marks refl);
          told = sym (told_new site);
          begins_told = told_at site;
          last = λ word. refl;
          accesses = λ byte. refl;
        };
        released =
            nothing_released (holders_stay_none y.runs.program w n (holders_stay site o.mark o.passes)) (sym (none_leaving c site.core.goes.goes.giving));
      }
