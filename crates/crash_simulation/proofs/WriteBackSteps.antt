-- A hart at its node's code that writes an entry of its queue back stays there.
use Rattle.crash_simulation.proofs.Common.{Record, cond-true, is_some, ◌≡◌, ℕ, List, ◌∷◌, sym, ◌∙◌, ap, arith, subst, true, false, refl, suc, ◌+◌, [], length}
use Rattle.crash_simulation.proofs.Common.{Bool, not, true≢false, ◌-◌, ⊎_elim, nat_tests, none-some, AreEntries, PersistsThrough, Entry, write_backs_raise}
use Rattle.crash_simulation.proofs.Common.{World, is_running, Memory, persists, memory_in, memory_persisted, since_is_persisted, IsNext, is_store, ◌++◌}
use Rattle.crash_simulation.proofs.Common.{stores_nothing, one_effect, drains_reach, MarksPass, stays_are_at_core, AbstractRun, is_bound, nothing_released}
use Rattle.crash_simulation.proofs.Common.{is_nearer, MayStore, nothing, goes, IsSoon, core_ahead, System, IsSystem, places_of, ThreadGhost, InPhase}
use Rattle.crash_simulation.proofs.Common.{ThreadInv, IsInAttempt, Effect, finishes_fence, stores_point, Step, boundary_fences, AreFencesCounted, ap₂, inr}
use Rattle.crash_simulation.proofs.Common.{Cleans, Contains, IsFrameFlushed, IsFrameWord, IsSectioned, at_core, contains_none, frame_at, frame_in, steps_move}
use Rattle.ido_base.specs.Growth.{ArePersisted, IsPersisted}
use Rattle.crash_simulation.proofs.Common.{Hart, run_at}
use Rattle.crash_simulation.proofs.FrameFlushes.{frame_still}
use Rattle.crash_simulation.proofs.FrameWords.{all_named, all_words}
use Rattle.crash_simulation.proofs.PendingFlushes.{frames_stay}
use Rattle.crash_simulation.proofs.ThreadViews.{frame_stays, view_persists}
use Rattle.recovery_semantics.specs.ElementHistories as histories
use Rattle.crash_simulation.proofs.BoundaryFences.{same_fences}
use Rattle.crash_simulation.proofs.CompletedEffects.{accessed_by, last_by, step_durable, step_last, stores_none}
use Rattle.crash_simulation.proofs.Common.{inl, log_stays, Log, IsWordOf, recorded_in}
use Rattle.crash_simulation.proofs.LastReleases.{holders_stay_none, none_leaving, and_none}
use Rattle.crash_simulation.proofs.PendingFlushes.{Passage, run_after, still_reached, stored_same}
use Rattle.crash_simulation.proofs.ThreadViews.{none_clean}
use Rattle.crash_simulation.proofs.OwnHartSteps.{step_to, going, view, StepOf, held_still, log_going, records_going, AtNode}
use Rattle.crash_simulation.proofs.MarksAtNodes.{AtMark, environment, stage_then, Passes, WritesBack, old_hart}
use Rattle.crash_simulation.proofs.LocksAfterStep.{GoneOn}
use Rattle.crash_simulation.proofs.UncommittedSteps.{leads_on}
use Rattle.crash_simulation.proofs.FragmentSteps.{held_up_accesses_none, held_up_stores_none}
use Rattle.crash_simulation.proofs.ReadBytes.{none_bound, reads_same}

-- a committed boundary binds nothing
pub not_bound : (c : ThreadGhost) → c.committed ≡ true → is_bound c ≡ true → ⊥
not_bound c committed bound = true≢false (sym bound ∙ ap (λ (b : Bool). is_bound (record c { committed = b })) committed)

module _ {y : System} {s : IsSystem y} {w : World} {h : ℕ} (site : AtNode y s w h) (m : AtMark site) (stays : WritesBack site m) where
  open view site.hart use {b, code, c, t, n, v, places, graph_thread, seen}
  open site.hart.stands use {memory as memory_is}
  open site.hart.stands.machine use {sound}
  open m.mark.at.on use {hart}
  open stays.still.on use {hart as later_hart}
  open stays use {drains as d}

  is_next : IsNext y.runs.program w n hart d.effect
  is_next = record { here = m.mark.at.on.here; runs = ap is_running m.mark.at.on.runs; is = d.effect_is }

  no_store : is_store d.effect ≡ false
  no_store = held_up_stores_none d.effect hart.queue d.held_up

  abbrev memory : Memory
  memory = memory_in (places_of y) v.words

  memory_persists : histories.ArePersisted b.config.memory memory
  memory_persists =
      let entries : AreEntries w.words (d.entry ∷ d.rest) =
      subst (λ (q : List Entry). AreEntries w.words q) d.queue_is (sound.queues n hart m.mark.at.on.here) in
      let persisted : ArePersisted w.words v.words =
      subst (λ (z : World). ArePersisted w.words z.words) (sym d.world) (write_backs_raise w.words d.entry entries.0) in
      subst (λ (m : Memory). histories.ArePersisted m memory) memory_is (memory_persisted (places_of y) w.words v.words persisted)

  abbrev new : ThreadGhost
  new = going c [] (c.before_mark - 1) c.last_stores c.first_accesses

  abbrev passage : Passage y code
  passage = step_to site.hart v b.config.uncommitted memory b.config.attempts (leads_on y b _ (persists memory memory_persists) refl tt) new later_hart

  abbrev next : AbstractRun y
  next = run_after passage

  goes_here : IsInAttempt y b.config n c
  goes_here = site.core.goes.goes

  holders_stay : v.holders ≡ w.holders
  holders_stay = ap (λ (z : World). z.holders) d.world

  -- the words of its frame keep their values
  frame_same : (own : ℕ) → IsFrameWord w.log own → IsPersisted (frame_in w.log w.words n own) (frame_in w.log v.words n own)
  frame_same =
      let moves = steps_move y.runs.program all_words w n n t.log.hart c.rest sound t.log.here
      (stores_nothing y.runs.program all_words w n n hart d.effect is_next no_store) in
      frame_stays t.log moves

  -- the queue is one entry shorter
  nearer : (c.before_mark ≡ suc (c.before_mark - 1)) × IsSoon y n (c.before_mark - 1) (length later_hart.queue + core_ahead y.plan places graph_thread.at)
  nearer = grind (arith, nat_tests)

  phase : InPhase y v next code new later_hart graph_thread later_hart.phase
  phase = subst (InPhase y v next code new later_hart graph_thread) (sym stays.still.on.runs) (at_core (record {
    view = site.core.view;
    at_side = site.core.at_side;
    frame = view_persists w v n site.core.view (log_stays y.runs.program w (Step n) sound) frame_same site.core.frame;
    owed = site.core.owed;
    registers = site.core.registers;
    core = stays_are_at_core y.plan code.thread places y.runs.program w n (environment site m.doing) m.doing.effect (stage_then site m.doing) m.mark.steps
        m.mark.effects m.mark.at stays graph_thread.at seen site.core.view site.core.owed site.core.registers site.core.core;
    owes = record { number = site.core.owes.number; beside = site.core.owes.beside };
    goes = record { goes = goes_next; cleans = refl; execution = site.core.goes.execution };
    fresh = site.core.fresh;
    told = site.core.told;
    untold = site.core.untold;
    soon = nearer.1;
  }))
    where
      goes_next : IsInAttempt y next.config n new
      goes_next = record { going = goes_here.going; rest = refl; giving = refl; committed = refl }

  reaches : (j position : ℕ) → PersistsThrough w.words t.log.hart.queue j position → PersistsThrough v.words later_hart.queue j position
  reaches j position r = subst (λ (x : Hart). PersistsThrough v.words x.queue j position) (sym stays.same)
      (drains_reach y.runs.program w n (run_at y.plan code.thread places m.mark.at) d j position
      (subst (λ (x : Hart). PersistsThrough w.words x.queue j position) (sym (old_hart site m)) r))

  frame_then : IsSectioned new → (own : ℕ) → IsFrameWord v.log own → IsFrameFlushed y v next code new later_hart own
  frame_then sectioned own framed =
      let log = log_stays y.runs.program w (Step n) sound in
      frame_still y w v b next code c new t.log.hart later_hart log frame_same reaches
      (λ other has. absurd (contains_none _ (subst (λ (es : List Effect). Contains es (Cleans (frame_at w.log n other)))
      (ap₂ ◌++◌ site.core.goes.cleans goes_here.rest) has))) own framed (λ un. absurd (true≢false un))
      (t.stored.frame (was sectioned) own (subst (λ (l : Log). IsFrameWord l own) log framed))
    where
      was : IsSectioned new → IsSectioned c
      was (inl some) = inl some
      was (inr both) = absurd (both.1 refl)

  abbrev own : ThreadInv y v next code new
  own =
      let log = log_going site all_words (all_named w.log c.new t.log.log.follows.new_is)
      (stores_nothing y.runs.program all_words w n n hart d.effect is_next no_store) later_hart stays.still.on.here in
      record {
        log = log;
        records = records_going site next refl [] (c.before_mark - 1) c.last_stores c.first_accesses log;
        graph_thread = graph_thread;
        walks = t.walks;
        phase = phase;
        stored = stored_same passage none_clean (still_reached passage site.core.goes.cleans reaches)
            (λ u i p since. since_is_persisted b.config.memory memory u i p memory_persists since) (λ u i f un. absurd (true≢false un)) refl
            (step_durable y.runs.program w n sound) (λ word position is. inl is)
            (λ word position among low. recorded_in (subst (λ (l : Log). IsWordOf l n c.new word) (sym (log_stays y.runs.program w (Step n) sound)) among)
            (step_last y.runs.program w n sound word position low))
            (frames_stay passage (log_stays y.runs.program w (Step n) sound) (step_last y.runs.program w n sound)) frame_then t.stored;
        has_read = reads_same passage (λ byte. refl) (none_bound c goes_here.committed) refl refl
            (λ there. inl (record { graph_thread = there.graph_thread; found = there.found; no_store = there.no_store })) (omega arith) t.has_read;
      }

  stays_step : StepOf site.hart n
  stays_step = record {
    next = next;
    led = goes _ (persists memory memory_persists) tt passage.leads.0 passage.leads.1;
    memory = refl;
    stores_own = λ other effect is. subst (MayStore y b n) (one_effect y.runs.program w n hart other d.effect effect is_next is) (nothing d.effect no_store);
    new = new;
    own = own;
    gone = subst GoneOn (sym stays.still.on.runs) tt;
    held = held_still site.hart next new holders_stay refl refl (sym goes_here.giving);
    counted = record {
      late = refl;
      marks = λ on_time. stays.no_mark y.runs.marks;
      unlocked = λ mutex gives. absurd (none-some mutex gives);
      points = stays.counts.0 ∙ sym (and_none (not (is_bound c)));
      bound = λ bound. absurd (not_bound c goes_here.committed bound);
      fences =
          subst (λ (rest : List Effect). AreFencesCounted (boundary_fences y.plan.log) (finishes_fence y.runs.program w (Step n) n)
          (stores_point y.runs.program w (Step n) n) rest []) (sym goes_here.rest)
          (same_fences (boundary_fences y.plan.log) _ _ [] stays.counts.1 stays.counts.0);
      nears = is_nearer nearer.0;
      told = ap (λ (r : Record). is_some r.written) (sym (cond-true c.committed c.new c.old goes_here.committed));
      begins_told = λ on_time no. absurd (true≢false (sym no));
      last = λ word. last_by y.runs.program w n word (c.last_stores word) hart d.effect is_next (stores_none word d.effect no_store);
      accesses = λ byte.
          accessed_by y.runs.program w n byte (c.first_accesses byte) hart d.effect is_next (held_up_accesses_none d.effect hart.queue d.held_up);
    };
    released = nothing_released (holders_stay_none y.runs.program w n holders_stay) (sym (none_leaving c goes_here.giving));
  }

-- a step at a mark passes it, or is such a one
pub mark_step : {y : System} {s : IsSystem y} {w : World} {h : ℕ} (site : AtNode y s w h) (m : AtMark site) → MarksPass →
    (Passes site m → StepOf site.hart (view site.hart).n) → StepOf site.hart (view site.hart).n
mark_step {y} {s} {w} {h} site m marks passes =
    let c = view site.hart in
    ⊎_elim passes (stays_step site m)
    (marks y.plan c.code.thread c.places y.runs.program w c.n (environment site m.doing) m.doing.effect (stage_then site m.doing) m.mark.steps
    m.mark.effects site.hart.stands.machine.sound m.mark.at)
