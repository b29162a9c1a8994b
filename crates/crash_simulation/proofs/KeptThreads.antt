-- A thread whose hart makes no step: after what others do, and where nobody does anything, its invariant still holds.
use Rattle.crash_simulation.specs.ThreadGhosts.{at_past}
use Rattle.crash_simulation.proofs.Common.{DescribesAs}
use Rattle.crash_simulation.proofs.Common.{◌≡◌, ◌≢◌, ℕ, List, sym, ◌∙◌, ap, arith, subst, true, false, Option, Some, refl, suc, ◌<◌, [], ◌++◌, length, inr}
use Rattle.crash_simulation.proofs.Common.{slice_get, append-nil, ◌≤◌, ℤ, ◌/◌, le-max_right, PersistsThrough, AreChanged, byte_number, variable_at, Word, Entry}
use Rattle.crash_simulation.proofs.Common.{Event, Step, are_persisted_refl, changed_refl, IsWellFormed, Guards, held_by, run_keeps, leaves_held}
use Rattle.crash_simulation.proofs.Common.{IsWellFormedWorld, Hart, World, after_event, Effect, Phase, Done, Run, Ended, log_stays, Seen, GraphThread}
use Rattle.crash_simulation.proofs.Common.{FlowState, graph_step, lowered, graph_threads_after, set_other, Writes, Attempt, solo, WritesAt, now, Config}
use Rattle.crash_simulation.proofs.Common.{attempt_of, Invariant, history_at, Memory, IsSince, IsStored, steps_begun, stores, begun, persists, ConfigStep}
use Rattle.crash_simulation.proofs.Common.{steps_locally, synchronises, commits, crashes, Execution, LastUnlocks, IsKeptBy, counted_other, goes_alone}
use Rattle.crash_simulation.proofs.Common.{since_is_persisted, store_same, store_inner, writes_more, after_more, more_empty, events_keep, writers_apart}
use Rattle.crash_simulation.proofs.Common.{since_stays, held_same, RespectsAll, flow_kept, flow_now, node_after, Origin, line_of, CleansSince, graph_stands}
use Rattle.crash_simulation.proofs.Common.{graph_follows, MarkedEnvironment, log_word, IsUnstored, config_of, MovesTo, Moves, Elsewhere, Agrees, IsOfOthers}
use Rattle.crash_simulation.proofs.Common.{others_leave, others_reach, IsOnFragment, on_machine, Stage, IsAtCore, fragments_see_all, cores_see_all}
use Rattle.crash_simulation.proofs.Common.{others_keep_fragments, others_keep_cores, Code, same_there, same_or_other, others_describe, AbstractRun}
use Rattle.crash_simulation.proofs.Common.{kept_of, now_of, attempts_of, StepsOrStutters, stays, goes, IsDoneBy, abstract_next, System, IsSystem, flat_of}
use Rattle.crash_simulation.proofs.Common.{shapes_of, ThreadGhost, on_fragment, at_core, InPhase, ThreadInv, IsRunningThread, AnswersGuarded, is_reached}
use Rattle.crash_simulation.proofs.Common.{is_ahead, IsComing, IsFlushed, HasStored, durable_there, comes_with, recorded_in, IsWordOf, record_kept}
use Rattle.crash_simulation.proofs.Common.{AnswersLoaded, Element, HasRead, IsReadAt, Log, last_position, word_at, ⊎_elim, IsReadable, of_element, of_frame}
use Rattle.flow_graph.specs.Paths.{element}
use Rattle.crash_simulation.proofs.CompletedEffects.{others_last}
use Rattle.recovery_semantics.specs.Events.{Stores}
use Rattle.c_tree.specs.Flats as f
use Rattle.c_tree.specs.Source as m
use Rattle.flow_graph.proofs.Public as keeping
use Rattle.crash_simulation.proofs.StatesMatchSource.{resumed}
use Rattle.crash_simulation.proofs.Common.{AssignsAlike, HasView, IsFrameWord, LogView, frame_word, in_frame, inl}
use Rattle.crash_simulation.specs.ThreadGhosts.{IsLoaded, IsLoadedFirst, StandsAtNoStore, in_own_frame, just_read, loaded_ahead, own_word, read_ahead}
use Rattle.crash_simulation.specs.ThreadGhosts.{read_first}
use Rattle.crash_simulation.proofs.AssignmentsAlike.{begun_alike}
use Rattle.crash_simulation.proofs.FrameFlushes.{FrameStays, durable_still, frame_still}
use Rattle.crash_simulation.proofs.FrameWords.{all_words}
use Rattle.crash_simulation.proofs.ThreadViews.{IsQuiet, IsStill, clean_on, committed_on, exit_on, frame_stays, log_moved, owed_on, owes_on, rests_on}
use Rattle.crash_simulation.proofs.ThreadViews.{view_stays, goes_on}

-- ---- A step of one thread leaves the others where they are

-- a thread is where it was, in the source and in its graph, and what it has stored is as it was
pub record IsUnmoved (x : f.Flat) (o : Origin x) (schedule : List ℕ) (old next : Config) (thread : ℕ) : Type 0 where
  pub kept : next.kept ≡ old.kept
  pub begun : steps_begun next thread ≡ steps_begun old thread
  pub attempt : attempt_of next thread ≡ attempt_of old thread
  pub graph_thread : slice_get (flow_now x (flow_kept x o schedule) next).graph_threads thread
      ≡ slice_get (flow_now x (flow_kept x o schedule) old).graph_threads thread
  -- what it holds, in both
  pub held : held_by thread (now next).holders ≡ held_by thread (now old).holders
  pub holds : held_by thread (flow_now x (flow_kept x o schedule) next).holders ≡ held_by thread (flow_now x (flow_kept x o schedule) old).holders
  pub since : (v e position : ℕ) → Writes old.kept thread (attempt_of old thread).done v e → IsSince (history_at old.memory v e) position →
      IsSince (history_at next.memory v e) position
  pub durable : (v e : ℕ) → (history_at old.memory v e).durable ≤ (history_at next.memory v e).durable

-- as it is where nothing happens
pub stays_unmoved : (x : f.Flat) (o : Origin x) (schedule : List ℕ) (old : Config) (thread : ℕ) → IsUnmoved x o schedule old old thread
stays_unmoved x o schedule old thread = grind arith

-- ---- Durable positions

-- a store leaves them
stored_low : (old new : Memory) (i j : ℕ) (number : ℤ) → IsStored old new i j number → (v e : ℕ) → (history_at old v e).durable ≤ (history_at new v e).durable
stored_low old new i j number h5 v e = grind (arith, same_or_other)

-- ---- Steps of another thread

module _ (x : f.Flat) (w : IsWellFormed x) (o : Origin x) (schedule : List ℕ) (old : Config) (i : Invariant x old)
    (by : IsKeptBy o.source old.kept schedule) (n : ℕ) where
  abbrev kept : FlowState
  kept = flow_kept x o schedule

  module _ (u : ℕ) (other : n ≢ u) where
    -- a step that it begins leaves the thread, where it leaves its attempt, and of what that has written the positions
    begun_past : (memory : Memory) (attempts : List Attempt) (source : m.State) → m.source_step (now old) u ≡ Some source →
        (h : ConfigStep old (begun old u memory attempts)) →
        graph_step (lowered x) (flow_now x kept old) u ≡ Some (flow_now x (flow_kept x o (schedule ++ [])) (begun old u memory attempts)) →
        attempt_of (begun old u memory attempts) n ≡ attempt_of old n →
        ((v e position : ℕ) → Writes old.kept n (attempt_of old n).done v e → IsSince (history_at old.memory v e) position →
        IsSince (history_at memory v e) position) →
        ((v e : ℕ) → (history_at old.memory v e).durable ≤ (history_at memory v e).durable) → IsUnmoved x o schedule old (begun old u memory attempts) n
    begun_past memory attempts source is h follows attempt since durable =
        let next : Config = begun old u memory attempts in
        let st = keeping.stepped (lowered x) (flow_now x kept old) (flow_now x (flow_kept x o (schedule ++ [])) next) u follows in
        let held : held_by n (now next).holders ≡ held_by n (now old).holders =
        ap (λ (s : m.State). held_by n s.holders) (after_more old.kept source old.uncommitted u i.runs is)
        ∙ leaves_held x (now old) source u n (run_keeps x old.kept old.uncommitted i.keeps) is other in
        let before = (graph_stands x o old schedule w i by).now_matches in
        let after = (graph_stands x o next schedule w (events_keep x old next i h) by).now_matches in
        record {
          kept = refl;
          begun = counted_other u n old.uncommitted (λ e. other (sym e));
          attempt = attempt;
          graph_thread =
              ap (λ (ks : List ℕ). slice_get (flow_now x (flow_kept x o ks) next).graph_threads n) (sym (more_empty schedule))
              ∙ (ap (λ (ws : List GraphThread). slice_get ws n)
              (graph_threads_after (flow_now x kept old) (flow_now x (flow_kept x o (schedule ++ [])) next) u st.graph_thread st.effect st.is)
              ∙ set_other (flow_now x kept old).graph_threads u n (keeping.moved st.graph_thread st.effect) other);
          held = held;
          holds = ap (held_by n) after.holders ∙ (held ∙ ap (held_by n) (sym before.holders));
          since = since;
          durable = durable;
        }

    -- a thread that stores writes an element that no other has written
    module _ (memory : Memory) (attempts : List Attempt) (h : Stores old u memory attempts) where
      abbrev then_config : Config
      then_config = begun old u memory attempts

      open attempt_of old u use {done}

      mine : (v e : ℕ) → Writes old.kept n (attempt_of old n).done v e → Writes old.kept n (attempt_of then_config n).longest v e
      mine v e written =
          subst (λ (a : Attempt). Writes old.kept n a.longest v e) (sym (h.attempt.others n other))
          (writes_more old.kept n (attempt_of old n).done (attempt_of old n).longest v e (i.tried n).within written)

      its : Writes old.kept u (attempt_of then_config u).longest h.store.variable h.store.element
      its = grind (arith, goes_alone, le-max_right, store_same)

      apart : (v e : ℕ) → Writes old.kept n (attempt_of old n).done v e → v ≡ h.store.variable → e ≡ h.store.element → ⊥
      apart v e written same equal =
          writers_apart x then_config n u h.store.variable h.store.element (events_keep x old then_config i (stores u memory attempts h)) (λ k. other (sym k))
          (subst (λ (k : ℕ). Writes old.kept n (attempt_of then_config n).longest k h.store.element) same
          (subst (λ (k : ℕ). Writes old.kept n (attempt_of then_config n).longest v k) equal (mine v e written))) its

  -- what happens by one thread leaves the others
  pub unmoved_by : (thread : ℕ) → n ≢ thread → (next : Config) (h : ConfigStep old next) → IsDoneBy thread h → IsUnmoved x o schedule old next n
  unmoved_by thread differs _ (steps_locally u attempts h) own =
      let other : n ≢ u = λ e. differs (e ∙ own) in
      begun_past u other old.memory attempts h.step.next h.step.is (steps_locally u attempts h)
      (graph_follows x o old (begun old u old.memory attempts) schedule w i by (steps_locally u attempts h)) (h.attempt.others n other)
      (λ v e q written s. s) (λ v e. omega arith)
  unmoved_by thread differs _ (stores u memory attempts h) own =
      let other : n ≢ u = λ e. differs (e ∙ own) in
      let step = store_inner (now old) u h.store h.ahead in
      begun_past u other memory attempts step.next step.is (stores u memory attempts h)
      (graph_follows x o old (begun old u memory attempts) schedule w i by (stores u memory attempts h)) (h.attempt.others n other)
      (λ v e q written s. since_stays old.memory memory h.store.variable h.store.element h.store.number h.stored v e q
      (apart u other memory attempts h v e written) s)
      (stored_low old.memory memory h.store.variable h.store.element h.store.number h.stored)
  unmoved_by thread differs _ (synchronises u h) own =
      begun_past u (λ e. differs (e ∙ own)) old.memory old.attempts h.next h.is (synchronises u h)
      (graph_follows x o old (begun old u old.memory old.attempts) schedule w i by (synchronises u h)) refl (λ v e q written s. s) (λ v e. omega arith)
  unmoved_by thread differs _ (persists memory h) own = record {
    kept = refl;
    begun = refl;
    attempt = refl;
    graph_thread = refl;
    held = refl;
    holds = refl;
    since = λ v e q written s. since_is_persisted old.memory memory v e q h s;
    durable = λ v e. (h.each v e).no_lower;
  }
  unmoved_by thread differs _ (commits u attempts h) own = absurd own
  unmoved_by thread differs _ (crashes attempts h) own = absurd own

-- ---- A thread that is left alone

-- ---- What is left of it

-- of the machine: its hart is as it was, its log is a move further, and where it was in its code it is
pub record IsLeftAlone (y : System) (w v : World) (b : AbstractRun y) (code : Code y.plan) (c : ThreadGhost) : Type 0 where
  pub log : v.log ≡ w.log
  pub here : (hart : Hart) → slice_get w.harts code.thread.number ≡ Some hart → slice_get v.harts code.thread.number ≡ Some hart
  pub moves : (hart : Hart) → slice_get w.harts code.thread.number ≡ Some hart →
      Moves w.log code.thread.number all_words (config_of w hart c.rest) (config_of v hart c.rest)
  pub fragments : (z : MarkedEnvironment) → AnswersGuarded y (now b.config) code.thread.number z → (stage : Stage) (steps : ℕ) →
      IsOnFragment y.plan code.thread code.is.places (on_machine y.runs.program w code.thread.number z) stage steps (c.cleans ++ c.rest) →
      IsOnFragment y.plan code.thread code.is.places (on_machine y.runs.program v code.thread.number z) stage steps (c.cleans ++ c.rest)
  pub cores : (at : ℕ) (seen : Seen) (view : LogView) (owed : ℤ) (registers : List ℕ) →
      IsAtCore y.plan code.thread code.is.places w code.thread.number at seen view owed registers →
      IsAtCore y.plan code.thread code.is.places v code.thread.number at seen view owed registers
  pub reach : (queue : List Entry) (j position : ℕ) → PersistsThrough w.words queue j position → PersistsThrough v.words queue j position
  pub longer : (j position : ℕ) → position ≤ last_position (word_at w.words j) → position ≤ last_position (word_at v.words j)

-- a log makes no move where memory is as it was, and its hart's queue
pub moves_nowhere : (w v : World) (thread : ℕ) (old new : Hart) (rest : List Effect) → v.words ≡ w.words → new.queue ≡ old.queue →
    Moves w.log thread all_words (config_of w old rest) (config_of v new rest)
moves_nowhere w v thread old new rest words queue =
    Elsewhere [] refl (subst (AreChanged w.words) (sym words) (changed_refl w.words))
    (subst (IsUnstored w.log thread all_words w.words) (sym words) (λ i below. inl ((are_persisted_refl w.words).each (log_word w.log thread i))))
    (queue ∙ sym (append-nil old.queue)) tt

-- what an environment answers is guarded where the thread guards what it did
pub answers_kept : (y : System) (s next : m.State) (n : ℕ) → ((v e : ℕ) → Guards (flat_of y) s n v e → Guards (flat_of y) next n v e) →
    (z : MarkedEnvironment) → AnswersGuarded y s n z → AnswersGuarded y next n z
answers_kept y s next n guards z answers address bytes value e = by (answers address bytes value e)
  where
    by : IsReadable y s n address bytes → IsReadable y next n address bytes
    by (of_element g) = of_element (record { variable = g.variable; number = g.number; at = g.at; guards = guards g.variable g.number g.guards })
    by (of_frame own eight) = of_frame own eight

module _ (y : System) (b next : AbstractRun y) (code : Code y.plan) (c : ThreadGhost) where
  open code.thread use {number as n}

  -- of the source: how far the thread is, and what it holds; its records, and what it has written, cleaned and stored
  pub record IsKept : Type 0 where
    pub on : IsStill b.config next.config n c c
    pub guards : (v e : ℕ) → Guards (flat_of y) (now b.config) n v e → Guards (flat_of y) (now next.config) n v e
    pub graph_thread : slice_get (now_of y next).graph_threads n ≡ slice_get (now_of y b).graph_threads n
    pub holds : held_by n (now_of y next).holders ≡ held_by n (now_of y b).holders
    pub alike : AssignsAlike y.plan code.thread (now_of y b) (now_of y next)
    pub describes : DescribesAs y.plan code (kept_of y b) c.late (record_kept c) → DescribesAs y.plan code (kept_of y next) c.late (record_kept c)
    pub last : (mutex : ℕ) → LastUnlocks b.origin.source b.schedule n mutex → LastUnlocks next.origin.source next.schedule n mutex
    pub nodes : (k : ℕ) → k < (attempt_of b.config n).done → node_after (flat_of y) (kept_of y next) n k ≡ node_after (flat_of y) (kept_of y b) n k
    pub writes_back : (k v e : ℕ) → k < (attempt_of b.config n).done → WritesAt next.config.kept n k v e → WritesAt b.config.kept n k v e
    pub writes_on : (k v e : ℕ) → k < (attempt_of b.config n).done → WritesAt b.config.kept n k v e → WritesAt next.config.kept n k v e
    pub since : (v e position : ℕ) → Writes b.config.kept n (attempt_of b.config n).done v e →
        IsSince (history_at b.config.memory v e) position → IsSince (history_at next.config.memory v e) position
    pub durable : (v e : ℕ) → (history_at b.config.memory v e).durable ≤ (history_at next.config.memory v e).durable
    pub reads : (k : ℕ) (one : Element) → k < (attempt_of b.config n).done → IsReadAt (flat_of y) (kept_of y b) b.config.kept n k one →
        IsReadAt (flat_of y) (kept_of y next) next.config.kept n k one

  -- ---- Its invariant

  module _ (still : IsKept) where
    written_back : (v e : ℕ) → Writes next.config.kept n (attempt_of next.config n).done v e → Writes b.config.kept n (attempt_of b.config n).done v e
    written_back v e written = grind arith

    cleaned_back : (first line : ℕ) → CleansSince (attempts_of y next) n first (attempt_of next.config n).done line →
        CleansSince (attempts_of y b) n first (attempt_of b.config n).done line
    cleaned_back first line cleans = grind arith

    stands_there : StandsAtNoStore y b n → StandsAtNoStore y next n
    stands_there there = record { graph_thread = there.graph_thread; found = still.graph_thread ∙ there.found; no_store = there.no_store }

    -- what it has loaded
    read_on : (giving : Option ℕ) (before_mark : ℕ) → HasRead y b n c → HasRead y next n (record c { giving = giving; before_mark = before_mark })
    read_on giving before_mark reads = record {
      read = λ byte is. first (reads.read byte is);
      written = λ unbound variable number byte writes. reads.written unbound variable number byte (written_back variable number writes);
    }
      where
        first : {byte : ℕ} → IsLoadedFirst y b n c byte → IsLoadedFirst y next n (record c { giving = giving; before_mark = before_mark }) byte
        first (read_first r) = read_first (record {
          variable = r.variable;
          number = r.number;
          of = r.of;
          step = r.step;
          below = omega (arith, r.below, still.on.done);
          read = still.reads r.step (element r.variable r.number) r.below r.read;
          unwritten = λ writes.
              let sooner = writes.within in
              r.unwritten (record {
                before = writes.before;
                within = writes.within;
                at = still.writes_back writes.before r.variable r.number (omega (arith, r.below, sooner)) writes.at;
              });
          unbound = r.unbound;
        })
        first (in_own_frame own) = in_own_frame own
        first (loaded_ahead r) = loaded_ahead (record {
          framed = r.framed;
          variable = r.variable;
          number = r.number;
          of = r.of;
          since = ⊎_elim (λ there. inl (stands_there there)) (λ gone. inr (gone.0, omega (arith, gone.1, still.on.begun))) r.since;
        })

    -- what its environment answers may be loaded still
    loaded_on : (z : MarkedEnvironment) → AnswersLoaded y b n c z → AnswersLoaded y next n c z
    loaded_on z loaded address bytes value e = by (loaded address bytes value e)
      where
        by : IsLoaded y b n c address bytes → IsLoaded y next n c address bytes
        by (just_read j) = just_read (record {
          variable = j.variable;
          number = j.number;
          at = j.at;
          goes = goes_on y still.on j.goes;
          step = j.step;
          last = j.last ∙ sym still.on.done;
          read = still.reads j.step (element j.variable j.number) (omega (arith, j.last)) j.read;
        })
        by (own_word own eight) = own_word own eight
        by (read_ahead variable number at framed there) = read_ahead variable number at framed (stands_there there)

    module _ (w v : World)
        (reach : (queue : List Entry) (j position : ℕ) → PersistsThrough w.words queue j position → PersistsThrough v.words queue j position)
        (longer : (j position : ℕ) → position ≤ last_position (word_at w.words j) → position ≤ last_position (word_at v.words j)) where
      coming_on : (hart later : Hart) → later.queue ≡ hart.queue → (u e position : ℕ) → IsComing y w c.cleans hart u e position →
          IsComing y v c.cleans later u e position
      coming_on hart later queue u e position (is_reached r) =
          let word : ℕ = byte_number (variable_at (shapes_of y) u e) / 8 in
          is_reached (subst (λ (q : List Entry). PersistsThrough v.words q word position) (sym queue) (reach hart.queue word position r))
      coming_on hart later queue u e position (is_ahead variable element ahead line) = is_ahead variable element ahead line

      -- an element is on its way still, where its hart has the same queue
      abbrev flushed_on : (hart later : Hart) → later.queue ≡ hart.queue → (giving : Option ℕ) (before_mark : ℕ) (u e : ℕ) → IsFlushed y w b code c hart u e →
          IsFlushed y v next code (record c { giving = giving; before_mark = before_mark }) later u e
      flushed_on hart later queue giving before_mark u e f = record {
        before = f.before;
        within = omega (arith, f.within, still.on.done);
        writes = still.writes_on f.before u e f.within f.writes;
        position = f.position;
        since = still.since u e f.position (record { before = f.before; within = f.within; at = f.writes }) f.since;
        comes = λ cleans. coming_on hart later queue u e f.position (f.comes (cleaned_back f.before (line_of (shapes_of y) u e) cleans));
        fenced = λ un few. let low = f.fenced un few in let high = still.durable u e in omega (arith, low, high);
      }

      -- what it has stored
      stored_on : (hart later : Hart) → later.queue ≡ hart.queue → v.log ≡ w.log → FrameStays w v n hart later (c.cleans ++ c.rest) (c.cleans ++ c.rest) →
          (giving : Option ℕ) (before_mark : ℕ) → HasStored y w b code c hart →
          HasStored y v next code (record c { giving = giving; before_mark = before_mark }) later
      stored_on hart later queue log whole giving before_mark stored = record {
        cleans = stored.cleans;
        flushed = λ u e written. flushed_on hart later queue giving before_mark u e (stored.flushed u e (written_back u e written));
        last = λ word position is. elim (stored.last word position is) [
          | durable_there low ↦ durable_there (reach [] word position low)
          | comes_with u e f at low ↦ comes_with u e (flushed_on hart later queue giving before_mark u e f) at low
          | recorded_in among low ↦ recorded_in (subst (λ (l : Log). IsWordOf l n c.new word) (sym log) among) (longer word position low)
          | in_frame own framed at low ↦
              in_frame own (subst (λ (l : Log). IsFrameWord l own) (sym log) framed) (ap (λ (l : Log). frame_word l n own) log ∙ at) (longer word position low)
        ];
        frame = λ sectioned word framed.
            let f = stored.frame sectioned word (subst (λ (l : Log). IsFrameWord l word) log framed) in
            frame_still y w v b next code c (record c { giving = giving; before_mark = before_mark }) hart later log whole
            (λ j position r. subst (λ (q : List Entry). PersistsThrough v.words q j position) (sym queue) (reach hart.queue j position r))
            (λ other has. inl has) word framed
            (λ un few. durable_still y w v b next code c (record c { giving = giving; before_mark = before_mark }) hart later log whole word framed
            (f.fenced un few)) f;
      }

      -- all of it, whichever its phase, where it has no more to give back
      pub stands_with : (giving : Option ℕ) (before_mark : ℕ) → ((mutex : ℕ) → giving ≡ Some mutex → c.giving ≡ Some mutex) → (t : ThreadInv y w b code c)
          (m : MovesTo n all_words w t.log.hart c.rest v c.rest) → m.next.queue ≡ t.log.hart.queue →
          InPhase y v next code (record c { giving = giving; before_mark = before_mark }) m.next t.graph_thread m.next.phase →
          ThreadInv y v next code (record c { giving = giving; before_mark = before_mark })
      stands_with giving before_mark gives t m queue phase = record {
        log = log_moved t.log m;
        records = record {
          no_sooner = λ is. committed_on t.log m (t.records.no_sooner is);
          describes = still.describes t.records.describes;
          will_describe = λ un. others_describe y.plan code (now_of y b) (now_of y next) false c.new (t.records.will_describe un) still.graph_thread still.holds
              still.alike;
          unlocked = λ mutex gave over. still.last mutex (t.records.unlocked mutex (gives mutex gave) over);
        };
        graph_thread = t.graph_thread;
        walks = still.graph_thread ∙ t.walks;
        phase = phase;
        stored = stored_on t.log.hart m.next queue m.log (frame_stays t.log m) giving before_mark t.stored;
        has_read = read_on giving before_mark t.has_read;
      }

    module _ (w v : World) (left : IsLeftAlone y w v b code c) (views : (view : LogView) → HasView w n view → HasView v n view) where
      runs_on : (hart : Hart) (graph_thread : GraphThread) → slice_get (now_of y b).graph_threads n ≡ Some graph_thread →
          IsRunningThread y w b code c hart graph_thread → IsRunningThread y v next code c hart graph_thread
      runs_on hart graph_thread walks (on_fragment exit steps o) = on_fragment exit steps (record {
        environment = o.environment;
        answers = answers_kept y (now b.config) (now next.config) n still.guards o.environment o.answers;
        loaded = loaded_on o.environment o.loaded;
        view = o.view;
        at_side = o.at_side;
        frame = views o.view o.frame;
        fragment = fragments_see_all y.plan code.thread code.is.places y.runs.program v n o.environment _ steps _ (now_of y next).variables
            (left.fragments o.environment o.answers _ steps o.fragment);
        fits = exit_on y still.on graph_thread exit o.fits;
        owes = owes_on y code c c (now_of y b) (now_of y next) graph_thread exit walks still.alike refl o.owes;
        soon = o.soon;
      })
      runs_on hart graph_thread walks (at_core o) = at_core (record {
        view = o.view;
        at_side = o.at_side;
        frame = views o.view o.frame;
        owed = o.owed;
        registers = o.registers;
        core = cores_see_all y.plan code.thread code.is.places v n graph_thread.at _ o.view o.owed o.registers (now_of y next).variables
            (left.cores graph_thread.at _ o.view o.owed o.registers o.core);
        owes = owed_on y code c c (now_of y b) (now_of y next) graph_thread o.owed walks still.alike refl o.owes;
        goes = clean_on y still.on false graph_thread o.goes;
        fresh = λ chosen. still.on.done ∙ o.fresh chosen;
        told = o.told;
        untold = λ plain on_time none. o.untold plain on_time (sym still.on.begun ∙ none);
        soon = o.soon;
      })
      runs_on hart graph_thread walks (at_past o) = at_past (record {
        late = o.late;
        view = o.view;
        at_side = o.at_side;
        frame = views o.view o.frame;
        node = o.node;
        logged = o.logged;
        goes_to = o.goes_to;
        owed = o.owed;
        number = o.number;
        registers = o.registers;
        core = cores_see_all y.plan code.thread code.is.places v n o.node _ o.view o.owed o.registers (now_of y next).variables
            (left.cores o.node _ o.view o.owed o.registers o.core);
        beside = o.beside;
        goes = clean_on y still.on false graph_thread o.goes;
        soon = o.soon;
      })

      in_phase_on : (hart : Hart) (graph_thread : GraphThread) (phase : Phase) → slice_get (now_of y b).graph_threads n ≡ Some graph_thread →
          InPhase y w b code c hart graph_thread phase →
          InPhase y v next code c hart graph_thread phase
      in_phase_on hart graph_thread Run walks p = runs_on hart graph_thread walks p
      in_phase_on hart graph_thread Done walks p = (rests_on y still.on refl p.0, p.1)
      in_phase_on hart graph_thread Ended walks p = (clean_on y still.on true graph_thread p.0, p.1)
      in_phase_on hart graph_thread phase walks p = rests_on y still.on refl p

    pub stands_kept : (w v : World) → IsLeftAlone y w v b code c → ThreadInv y w b code c → ThreadInv y v next code c
    stands_kept w v left t =
        let m : MovesTo n all_words w t.log.hart c.rest v c.rest =
        record { next = t.log.hart; there = left.here t.log.hart t.log.here; log = left.log; moves = left.moves t.log.hart t.log.here } in
        stands_with w v left.reach left.longer c.giving c.before_mark (λ mutex gives. gives) t m refl
        (in_phase_on w v left (view_stays t.log m) t.log.hart t.graph_thread t.log.hart.phase t.walks t.phase)

-- ---- After what others do, a step of another hart or an eviction

module _ (y : System) (b : AbstractRun y) (code : Code y.plan) (c : ThreadGhost) where
  open code.thread use {number as n}

  -- ---- In the source

  module _ (next : Config) (execution : Execution (flat_of y) b.origin.source next b.schedule)
      (respects : RespectsAll (flat_of y) y.plan.boundaries b.origin execution)
      (still : IsUnmoved (flat_of y) b.origin b.schedule b.config next n)
      (alike : AssignsAlike y.plan code.thread (now_of y b) (now_of y (abstract_next y b next execution respects))) where
    done_same : (attempt_of next n).done ≡ (attempt_of b.config n).done
    done_same = ap (λ (a : Attempt). a.done) still.attempt

    begun_after : steps_begun b.config n ≡ suc (attempt_of b.config n).done → steps_begun next n ≡ suc (attempt_of next n).done
    begun_after begun = still.begun ∙ (begun ∙ ap suc (sym done_same))

    -- where its attempt ends
    solo_same : solo next.kept n (attempt_of next n).done ≡ solo b.config.kept n (attempt_of b.config n).done
    solo_same = λ i. solo (still.kept i) n (done_same i)

    reads_still : (k : ℕ) (one : Element) → k < (attempt_of b.config n).done → IsReadAt (flat_of y) (kept_of y b) b.config.kept n k one →
        IsReadAt (flat_of y) (kept_of y b) next.kept n k one
    reads_still k one within r = subst (λ (z : m.State). IsReadAt (flat_of y) (kept_of y b) z n k one) (sym still.kept) r

    is_kept : IsKept y b (abstract_next y b next execution respects) code c
    is_kept = grind (arith, alike, held_same, begun_after, done_same, solo_same, reads_still)

  -- ---- In the machine

  -- the event is none of the thread's hart: it moves the thread's log, and memory goes on to agree with what the thread reads
  pub record IsOfOther (w : World) (event : Event) : Type 0 where
    pub sound : IsWellFormedWorld w
    pub of_others : IsOfOthers n event
    pub moves : (hart : Hart) → slice_get w.harts n ≡ Some hart → MovesTo n all_words w hart c.rest (after_event y.runs.program w event) c.rest
    pub agrees : (z : MarkedEnvironment) → AnswersGuarded y (now b.config) n z → Agrees y.runs.program w n z →
        Agrees y.runs.program (after_event y.runs.program w event) n z

  module _ (w : World) (event : Event) (of : IsOfOther w event) where
    abbrev after : World
    after = after_event y.runs.program w event

    same_hart : slice_get after.harts n ≡ slice_get w.harts n
    same_hart = (others_leave y.runs.program w n event of.sound of.of_others).0

    is_left_alone : IsLeftAlone y w after b code c
    is_left_alone = record {
      log = log_stays y.runs.program w event of.sound;
      here = λ hart there. same_hart ∙ there;
      moves = λ hart there.
          let moved = of.moves hart there in
          subst (λ (x : Hart). Moves w.log n all_words (config_of w hart c.rest) (config_of after x c.rest))
          (same_there (slice_get after.harts n) moved.next hart moved.there (same_hart ∙ there)) moved.moves;
      fragments = λ z answers stage steps o. others_keep_fragments y.plan code.thread code.is.places y.runs.program w n z stage steps _ event of.sound
          of.of_others o (of.agrees z answers o.agrees);
      cores = λ at seen view owed registers o.
          others_keep_cores y.plan code.thread code.is.places y.runs.program w n at seen view owed registers event of.sound of.of_others o;
      reach = λ queue j position r. others_reach y.runs.program w n event of.sound of.of_others queue j position r;
      longer = others_last y.runs.program w n event of.sound of.of_others;
    }

    -- where nothing happens to the source
    pub stands_still : ThreadInv y w b code c → ThreadInv y after b code c
    stands_still t =
        stands_kept y b b code c (is_kept b.config b.execution b.respects (stays_unmoved (flat_of y) b.origin b.schedule b.config n)
        (λ graph_thread is found at logged. refl)) w after is_left_alone t

    -- whatever another thread's step is to it
    pub led_on : (s : IsSystem y) (thread : ℕ) → n ≢ thread → (next : AbstractRun y) → StepsOrStutters y b thread next → ThreadInv y w b code c →
        ThreadInv y after next code c
    led_on s thread differs _ stays t = stands_still t
    led_on s thread differs _ (goes next h by execution respects) t =
        let r = (resumed y s b).resumed in
        let unmoved = unmoved_by (flat_of y) s.plan.formed b.origin b.schedule b.config r.invariant r.kept n thread differs next h by in
        stands_kept y b (abstract_next y b next execution respects) code c (is_kept next execution respects unmoved
        (begun_alike y s b (abstract_next y b next execution respects) code.thread refl unmoved.begun)) w after is_left_alone t

-- ---- Where memory is as it was

-- it agrees
agrees_on : (y : System) (w v : World) (h : ℕ) (s : MarkedEnvironment) → v.words ≡ w.words → length v.harts ≡ length w.harts → v.log ≡ w.log →
    Agrees y.runs.program w h s → Agrees y.runs.program v h s
agrees_on y w v h s h5 h6 h7 h8 = grind arith

-- the thread is as it was but for its phase, and for what it has to give back
pub phase_moves : {y : System} {w : World} (v : World) {b : AbstractRun y} {code : Code y.plan} {c : ThreadGhost} (giving : Option ℕ) (before_mark : ℕ) →
    ((mutex : ℕ) → giving ≡ Some mutex → c.giving ≡ Some mutex) → (t : ThreadInv y w b code c) (hart : Hart) →
    IsQuiet w v code.thread.number t.log.hart hart →
    InPhase y v b code (record c { giving = giving; before_mark = before_mark }) hart t.graph_thread hart.phase →
    ThreadInv y v b code (record c { giving = giving; before_mark = before_mark })
phase_moves {y} {w} v {b} {code} {c} giving before_mark gives t hart q phase =
    let n = code.thread.number in
    stands_with y b b code c (is_kept y b code c b.config b.execution b.respects (stays_unmoved (flat_of y) b.origin b.schedule b.config n)
    (λ graph_thread is found at logged. refl)) w v
    (λ queue j position. subst (λ (ws : List Word). PersistsThrough ws queue j position) (sym q.words))
    (λ j position. subst (λ (ws : List Word). position ≤ last_position (word_at ws j)) (sym q.words)) giving before_mark gives t
    (record { next = hart; there = q.here; log = q.log; moves = moves_nowhere w v n t.log.hart hart c.rest q.words q.queue }) q.queue phase

-- a step of another hart that leaves memory leaves the thread
pub others_stand : {y : System} (w : World) (g : ℕ) (b : AbstractRun y) (code : Code y.plan) (c : ThreadGhost) →
    (after_event y.runs.program w (Step g)).words ≡ w.words → IsWellFormedWorld w → g ≢ code.thread.number → ThreadInv y w b code c →
    ThreadInv y (after_event y.runs.program w (Step g)) b code c
others_stand {y} w g b code c words sound other =
    let n = code.thread.number in
    let left = others_leave y.runs.program w n (Step g) sound other in
    let log = log_stays y.runs.program w (Step g) sound in
    stands_still y b code c w (Step g) (record {
      sound = sound;
      of_others = other;
      moves =
          λ hart here. record {
            next = hart;
            there = left.0 ∙ here;
            log = log;
            moves = moves_nowhere w (after_event y.runs.program w (Step g)) n hart hart c.rest words refl;
          };
      agrees = λ z answers agrees. agrees_on y w (after_event y.runs.program w (Step g)) n z words left.1 log agrees;
    })
