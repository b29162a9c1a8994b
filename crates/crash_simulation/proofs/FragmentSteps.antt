-- A step of a hart in a fragment: it makes the next of the effects ahead, or none, or writes an entry back.
use Rattle.crash_simulation.proofs.Common.{Computes, IsFrameComing, IsFrameFlushed, IsFrameWord, IsSectioned, IsSoon, beyond, frame_ahead, frame_at, frame_in}
use Rattle.crash_simulation.proofs.Common.{frame_reached, frame_word, log_stays, now_of}
use Rattle.ido_base.proofs.Public.{same_last}
use Rattle.crash_simulation.proofs.FrameFlushes.{frame_still}
use Rattle.crash_simulation.proofs.FrameWords.{all_words, frame_line, none_after_fence}
use Rattle.crash_simulation.proofs.ThreadViews.{frame_stays, owes_on, view_stays}
use Rattle.crash_simulation.proofs.PendingFlushes.{frames_stay}
use Rattle.crash_simulation.proofs.Common.{◌≡◌, ℕ, List, ◌∷◌, sym, ◌∙◌, ap, arith, subst, true, false, Some, refl, suc, ◌+◌, ◌<◌, [], ◌++◌, length, Bool, ◌⊎◌}
use Rattle.crash_simulation.proofs.Common.{inl, inr, slice_get, ◌&&◌, if◌then◌else◌, not, true≢false, ◌≤◌, ◌-◌, ◌*◌, ◌%◌, ⊎_elim, ◌/◌, Contains, list_any}
use Rattle.crash_simulation.proofs.Common.{option_map, nat_tests, AreEntries, PersistsThrough, byte_number, variable_at, log_words, log_of, Word, Entry}
use Rattle.crash_simulation.proofs.Common.{last_position, word_at, Step, Reply, Log, write_backs_raise, Hart, World, Effect, Stores, Continues, Loads, Cleans}
use Rattle.crash_simulation.proofs.Common.{Fences, Calls, has_moved, is_running, stores_point, effect_at, is_point_store, Phase, GraphThread, variables_apart}
use Rattle.crash_simulation.proofs.Common.{attempt_of, history_at, Memory, ArePersisted, persists, memory_in, memory_persisted, memory_stays}
use Rattle.crash_simulation.proofs.Common.{since_is_persisted, IsBeforeBoundary, flow_solo, graph_stands, Program, seen_effects, log_word, config_of, IsNext}
use Rattle.crash_simulation.proofs.Common.{MovesTo, IsLogEffect, StoresWord, CleansLine, PassesFence, is_boundary_effect, is_store, fences_ahead, address_of}
use Rattle.crash_simulation.proofs.Common.{stores_nothing, one_effect, point_store_is_last, boundaries_stay_in, not_done, contains_cases, contains_first}
use Rattle.crash_simulation.proofs.Common.{contains_later, own_steps_move, steps_move, word_of_log, beyond_variables, OnRun, steps_left, Contents, Changes}
use Rattle.crash_simulation.proofs.Common.{is_clean, forward_reaches, drains_reach, cleans_reach_now, fences_settle, ExitPoint, Arrives, Gives, Ends}
use Rattle.crash_simulation.proofs.Common.{IsOnFragment, on_machine, Keeps, Asks, Took, Stage, effects_of, FragmentsGoOn, run_of, IsHeldUp, same_there}
use Rattle.crash_simulation.proofs.Common.{AbstractRun, kept_of, is_bound, was_unlocked, Site, FragmentsStep, nothing_released, is_nearer, MayStore, nothing}
use Rattle.crash_simulation.proofs.Common.{in_log, goes, OnFragmentNow, System, IsSystem, flat_of, shapes_of, places_of, ThreadGhost, on_fragment, InPhase}
use Rattle.crash_simulation.proofs.Common.{ThreadInv, ExitInv, InFragment, is_reached, is_ahead, IsFlushed, is_fence, finishes_fence, boundary_fences}
use Rattle.crash_simulation.proofs.Common.{AreFencesCounted, last_store_after, IsWordOf, recorded_in, first_access_after, AnswersLoaded, MarkedEnvironment}
use Rattle.crash_simulation.specs.ThreadGhosts.{IsLoaded, StandsAtNoStore, just_read, own_word, read_ahead}
use Rattle.ido_base.specs.Growth as growth
use Rattle.hart_runs.specs.RunSteps as steps
use Rattle.thread_runs.specs.Laws as runs
use Rattle.crash_simulation.proofs.BoundaryFences.{same_fences, next_fences}
use Rattle.crash_simulation.proofs.ReadBytes.{AreAnswered, passed_answers, reads_after}
use Rattle.crash_simulation.proofs.CompletedEffects.{last_by, makes_access, last_store_is, step_durable, step_last, stores_none}
use Rattle.crash_simulation.proofs.LogWords.{stored_for}
use Rattle.crash_simulation.proofs.OwnHartSteps.{step_to, view, StepOf, own_step, held_still}
use Rattle.crash_simulation.proofs.PendingFlushes.{Passage, StillComes, run_after, stored_same, fence_settles}
use Rattle.crash_simulation.proofs.ThreadViews.{IsStill, committed_on, exit_on, goes_on, log_moved, moves_at}
use Rattle.crash_simulation.proofs.Elements.{room, word_of_element, position_within}
use Rattle.crash_simulation.proofs.LastReleases.{holders_stay_none, and_none}
use Rattle.crash_simulation.proofs.UncommittedSteps.{leads_on}
use Rattle.crash_simulation.proofs.StatesMatchSource.{resumed}
use Rattle.crash_simulation.proofs.LocksAfterStep.{GoneOn}

-- ---- Which of the effects ahead a step makes

-- none; the first clean of the store's code; or the first of the boundary's
pub data Made (cleans rest later : List Effect) (effect : Effect) : Type 0 where
  no_effect : is_store effect ≡ false → is_fence effect ≡ false → later ≡ cleans ++ rest → Made cleans rest later effect
  cleans_first : (address : ℕ) (others : List Effect) → effect ≡ Cleans address → cleans ≡ Cleans address ∷ others → later ≡ others ++ rest →
      Made cleans rest later effect
  bounds_first : cleans ≡ [] → rest ≡ effect ∷ later → Made cleans rest later effect

clean_is : (effect : Effect) → is_clean effect ≡ true → (address : ℕ) × (effect ≡ Cleans address)
clean_is effect h = grind (arith, nat_tests)

first_made : (cleans rest later : List Effect) (effect : Effect) → ((e : Effect) → Contains cleans e → is_clean e ≡ true) →
    cleans ++ rest ≡ effect ∷ later → Made cleans rest later effect
first_made [] rest later effect all h = bounds_first refl h
first_made (x ∷ others) rest later effect all h =
    let first : x ≡ effect = cc in
    let after : others ++ rest ≡ later = cc in
    let c = clean_is x (all x (contains_first x others)) in
    cleans_first c.0 others (sym first ∙ c.1) (ap (λ (e : Effect). e ∷ others) c.1) (sym after)

pub made_by : (cleans rest later : List Effect) (effect : Effect) → ((e : Effect) → Contains cleans e → is_clean e ≡ true) →
    cleans ++ rest ≡ effects_of effect ++ later → Made cleans rest later effect
made_by cleans rest later (Continues registers pc) all h = no_effect refl refl (sym h)
made_by cleans rest later (Loads address bytes signed register) all h = no_effect refl refl (sym h)
made_by cleans rest later Calls all h = no_effect refl refl (sym h)
made_by cleans rest later effect all h = first_made cleans rest later effect all h

-- what stores nothing leaves words
pub words_same : (effect : Effect) (old new : Contents) → is_store effect ≡ false → Changes old effect new → new.words ≡ old.words
words_same effect old new none c = grind (arith, nat_tests)

pub held_up_stores_none : (effect : Effect) (queue : List Entry) → steps.IsHeldUp queue effect → is_store effect ≡ false
held_up_stores_none effect queue h = grind (arith, nat_tests)

pub held_up_accesses_none : (effect : Effect) (queue : List Entry) → steps.IsHeldUp queue effect → makes_access effect ≡ false
held_up_accesses_none effect queue h = grind (arith, nat_tests)

held_up_answered : (z : MarkedEnvironment) (effect : Effect) (queue : List Entry) → steps.IsHeldUp queue effect → AreAnswered z effect
held_up_answered z effect queue h = grind (arith, nat_tests)

-- ---- Lines

-- the bytes of a line have one line's number
line_number : (a d : ℕ) → a / 64 ≡ d / 64 → byte_number a / 64 ≡ byte_number d / 64
line_number a d same = grind (arith, nat_tests)

-- ---- What is counted

pub no_point : (log : Log) (thread : ℕ) (effect : Effect) → is_store effect ≡ false → is_point_store log thread effect ≡ false
no_point log thread effect none = grind (arith, nat_tests)

pub not_twice : (b : Bool) → false ≡ (not b && b)
not_twice b = grind (arith, nat_tests)

-- ---- Effects of the log

pub log_may : (y : System) (b : AbstractRun y) (w : World) (n : ℕ) → y.plan.log ≡ w.log → (effect : Effect) → IsLogEffect w.log n effect → MayStore y b n effect
log_may y b w n logs effect (StoresWord i value below same) = subst (MayStore y b n) (sym same) (in_log (log_of w.log n + 8 * i) value i
    (subst (λ (l : Log). i < log_words l) (sym logs) below)
    (subst (λ (l : Log). byte_number (log_of w.log n + 8 * i) / 8 ≡ log_word l n i) (sym logs) (word_of_log w.log n i)))
log_may y b w n logs effect (CleansLine i below same) = nothing effect (ap is_store same)
log_may y b w n logs effect (PassesFence same) = nothing effect (ap is_store same)

-- they leave variables as they are
pub log_memory : (y : System) → IsSystem y → (w : World) (n : ℕ) (effect : Effect) (queue : List Entry) (new : Contents) →
    Changes (record { words = w.words; queue = queue }) effect new → IsLogEffect w.log n effect →
    memory_in (places_of y) new.words ≡ memory_in (places_of y) w.words
log_memory y s w n effect queue new changes (StoresWord i value below same) =
    let place : ℕ = log_of w.log n + 8 * i in
    let stores : Changes (record { words = w.words; queue = queue }) (Stores place 8 value) new =
    subst (λ (e : Effect). Changes (record { words = w.words; queue = queue }) e new) same changes in
    let apart = variables_apart (flat_of y).variables 8192 (room y s) (omega arith) in
    ap (λ (x : Contents). memory_in (places_of y) x.words) stores ∙ memory_stays (places_of y) w.words (byte_number place) 8 value
    (λ u e kind at there meets. let low = (apart.whole u e kind at there).1 in let far = beyond_variables w.log n i in
    omega (arith, low, far, meets))
log_memory y s w n effect queue new changes (CleansLine i below same) =
    ap (memory_in (places_of y)) (words_same effect (record { words = w.words; queue = queue }) new (ap is_store same) changes)
log_memory y s w n effect queue new changes (PassesFence same) =
    ap (memory_in (places_of y)) (words_same effect (record { words = w.words; queue = queue }) new (ap is_store same) changes)

-- ---- What a step in a fragment makes of the thread

module _ {y : System} {s : IsSystem y} {w : World} {h : ℕ} (site : Site y s w h) (exit : ExitPoint) (left : ℕ)
    (o : OnFragmentNow site exit (suc left)) (law : FragmentsGoOn) where
  open view site use {b, code, c, t, n, v, places, graph_thread, seen}
  open site.stands use {memory as memory_is}
  open site.stands.machine use {log as logs, sound}

  abbrev stage : Stage
  stage = record { exit = exit; node = graph_thread.at; seen = seen; view = o.view }

  abbrev FragmentIn : World → (steps : ℕ) → List Effect → Type 0
  FragmentIn u steps effects = IsOnFragment y.plan code.thread places (on_machine y.runs.program u n o.environment) stage steps effects

  fragment : FragmentIn w (suc left) (c.cleans ++ c.rest)
  fragment = o.fragment

  abbrev run : OnRun w n
  run = run_of y.plan code.thread places fragment

  hart_is : t.log.hart ≡ fragment.on.hart
  hart_is = same_there (slice_get w.harts n) t.log.hart fragment.on.hart t.log.here fragment.on.here

  abbrev old_memory : Memory
  old_memory = memory_in (places_of y) w.words

  abbrev new_memory : Memory
  new_memory = memory_in (places_of y) v.words

  -- what the attempt has stored is durable once so many fences are ahead
  abbrev Settles : List Effect → Type 0
  Settles rest = (u e : ℕ) → c.committed ≡ false → fences_ahead rest < 2 → (f : IsFlushed y w b code c t.log.hart u e) →
      f.position ≤ (history_at new_memory u e).durable

  -- and so is its frame
  abbrev FrameSettles : List Effect → Type 0
  FrameSettles rest = c.committed ≡ false → fences_ahead rest < 2 → (word : ℕ) → IsFrameWord w.log word → IsFrameFlushed y w b code c t.log.hart word →
      last_position (frame_in w.log w.words n word) ≤ (frame_in w.log v.words n word).durable

  -- the line's newest words are queued
  abbrev IsQueued : Hart → (address : ℕ) → Type 0
  IsQueued hart address = (k : ℕ) → k < 8 →
      PersistsThrough v.words hart.queue (8 * (byte_number address / 64) + k) (last_position (word_at w.words (8 * (byte_number address / 64) + k)))

  abbrev ghost_with : (rest cleans : List Effect) → ThreadGhost
  ghost_with rest cleans = record c {
    rest = rest;
    cleans = cleans;
    before_mark = c.before_mark - 1;
    last_stores = λ word. last_store_after y.runs.program w (Step n) n word (c.last_stores word);
    first_accesses = λ byte. first_access_after y.runs.program w (Step n) n byte (c.first_accesses byte);
  }

  -- what is counted of the step, where this is ahead of the boundary then
  abbrev FencesCounted : List Effect → Type 0
  FencesCounted rest = AreFencesCounted (boundary_fences y.plan.log) (finishes_fence y.runs.program w (Step n) n) (stores_point y.runs.program w (Step n) n)
      c.rest rest

  -- ---- Whatever it makes

  -- what the step does to the hart: it is in the fragment still, one step less is ahead of it, and its queue reaches what it reached
  record Does : Type 0 where
    later : List Effect
    more : ℕ
    on : FragmentIn v more later
    less : suc (steps_left more (seen_effects later) on.on.hart.queue) ≡ steps_left (suc left) (seen_effects (c.cleans ++ c.rest)) fragment.on.hart.queue
    reach : (j position : ℕ) → PersistsThrough w.words fragment.on.hart.queue j position → PersistsThrough v.words on.on.hart.queue j position
    effect : Effect
    next : IsNext y.runs.program w n fragment.on.hart effect
    answered : AreAnswered o.environment effect
    holders : v.holders ≡ w.holders

  -- what of the boundary and of the store's cleans is ahead then
  record Ahead (d : Does) : Type 0 where
    rest : List Effect
    cleans : List Effect
    later_is : d.later ≡ cleans ++ rest
    all : (effect : Effect) → Contains cleans effect → is_clean effect ≡ true
    no_rest : c.rest ≡ [] → rest ≡ []
    no_cleans : c.cleans ≡ [] → cleans ≡ []
    still : (address : ℕ) → Contains c.cleans (Cleans address) → Contains cleans (Cleans address) ⊎ IsQueued d.on.on.hart address
    still_all : (address : ℕ) → Contains (c.cleans ++ c.rest) (Cleans address) → Contains (cleans ++ rest) (Cleans address) ⊎ IsQueued d.on.on.hart address

  -- what is last after the step was so before, or is stored for the record
  abbrev LastsHere : Type 0
  LastsHere = (word position : ℕ) → last_store_after y.runs.program w (Step n) n word (c.last_stores word) ≡ Some position →
      (c.last_stores word ≡ Some position) ⊎ (IsWordOf w.log n c.new word × (position ≤ last_position (word_at v.words word)))

  module _ (d : Does) (ahead : Ahead d) (persisted : ArePersisted old_memory new_memory) (move : MovesTo n all_words w fragment.on.hart c.rest v ahead.rest)
      (settled : Settles ahead.rest) (frames : FrameSettles ahead.rest) (may : MayStore y b n d.effect) (lasts : LastsHere)
      (points : stores_point y.runs.program w (Step n) n ≡ (not (is_bound c) && is_bound (ghost_with ahead.rest ahead.cleans)))
      (bound : is_bound c ≡ true → is_bound (ghost_with ahead.rest ahead.cleans) ≡ true) (fences : FencesCounted ahead.rest) where
    open ahead use {rest, cleans, later_is}

    persisting : ArePersisted b.config.memory new_memory
    persisting = subst (λ (m : Memory). ArePersisted m new_memory) memory_is persisted

    abbrev new : ThreadGhost
    new = ghost_with rest cleans

    open d.on.on use {hart}

    abbrev passage : Passage y code
    passage = step_to site v b.config.uncommitted new_memory b.config.attempts (leads_on y b _ (persists new_memory persisting) refl tt) new hart

    abbrev next : AbstractRun y
    next = run_after passage

    abbrev moves : MovesTo n all_words w t.log.hart c.rest v rest
    moves = moves_at move t.log.hart hart (sym hart_is) d.on.on.here

    coming : StillComes passage
    coming u e position within (is_reached r) =
        is_reached (d.reach (word_of_element y s u e) position
        (subst (λ (x : Hart). PersistsThrough w.words x.queue (word_of_element y s u e) position) hart_is r))
    coming u e position within (is_ahead variable element found line) =
        ⊎_elim (λ still. is_ahead variable element still line)
        (λ now.
        let address : ℕ = variable_at (shapes_of y) variable element in
        let word : ℕ = word_of_element y s u e in
        let same : 8 * (byte_number address / 64) + word % 8 ≡ word = omega (arith, line_number address (variable_at (shapes_of y) u e) line) in
        let all : PersistsThrough v.words hart.queue word (last_position (word_at w.words word)) =
        subst (λ (j : ℕ). PersistsThrough v.words hart.queue j (last_position (word_at w.words j))) same (now (word % 8) (omega arith)) in
        is_reached (⊎_elim (λ low. omega (arith, low, all)) (λ zero. omega (arith, zero))
        (position_within y s w.words u e position (subst (λ (m : Memory). position < length (history_at m u e).values) (sym memory_is) within))))
        (ahead.still (variable_at (shapes_of y) variable element) found)

    nearer : (c.before_mark ≡ suc (c.before_mark - 1)) × IsSoon y n (c.before_mark - 1)
        (steps_left d.more (seen_effects d.later) hart.queue + beyond y.plan places exit graph_thread.at)
    nearer = grind (arith, nat_tests)

    -- what holds at the fragment's exit point goes on to hold
    still : IsStill b.config next.config n c new
    still = grind arith

    stands_still : StandsAtNoStore y b n → StandsAtNoStore y next n
    stands_still there = record { graph_thread = there.graph_thread; found = there.found; no_store = there.no_store }

    loaded : AnswersLoaded y next n new o.environment
    loaded address bytes value e = by (o.loaded address bytes value e)
      where
        by : IsLoaded y b n c address bytes → IsLoaded y next n new address bytes
        by (just_read j) = just_read
            (record { variable = j.variable; number = j.number; at = j.at; goes = goes_on y still j.goes; step = j.step; last = j.last; read = j.read })
        by (own_word own eight) = own_word own eight
        by (read_ahead variable number at framed there) = read_ahead variable number at framed (stands_still there)

    fragment_after : InFragment y v next code new hart graph_thread exit d.more
    fragment_after = record {
      environment = o.environment;
      answers = o.answers;
      loaded = loaded;
      view = o.view;
      at_side = o.at_side;
      frame = view_stays t.log moves o.view o.frame;
      fragment = subst (λ (es : List Effect). FragmentIn v d.more es) later_is d.on;
      fits = exit_on y still graph_thread exit o.fits;
      owes = owes_on y code c new (now_of y b) (now_of y b) graph_thread exit t.walks (λ other is found at logged. refl) refl o.owes;
      soon = subst (λ (es : List Effect). IsSoon y n (c.before_mark - 1)
          (steps_left d.more (seen_effects es) hart.queue + beyond y.plan places exit graph_thread.at))
          later_is nearer.1;
    }

    in_log_then : (word : ℕ) → IsWordOf w.log n c.new word → IsWordOf v.log n c.new word
    in_log_then word among = subst (λ (l : Log). IsWordOf l n c.new word) (sym (log_stays y.runs.program w (Step n) sound)) among

    -- its frame is on its way still
    frame_after : IsSectioned new → (word : ℕ) → IsFrameWord v.log word → IsFrameFlushed y v next code new hart word
    frame_after sectioned word framed =
        let log = log_stays y.runs.program w (Step n) sound in
        let is : IsFrameWord w.log word = subst (λ (l : Log). IsFrameWord l word) log framed in
        let f = t.stored.frame (was_sectioned sectioned) word is in
        let persists = frame_stays t.log moves in
        frame_still y w v b next code c new t.log.hart hart log persists
        (λ j position r. d.reach j position (subst (λ (x : Hart). PersistsThrough w.words x.queue j position) hart_is r))
        (λ other found. ⊎_elim (λ still. inl still) (λ queued. inr (λ own own_is line.
        let address : ℕ = frame_at w.log n other in
        let place : ℕ = frame_word w.log n own in
        let same : 8 * (byte_number address / 64) + place % 8 ≡ place = frame_line w.log n other own line in
        subst (λ (j : ℕ). PersistsThrough v.words hart.queue j (last_position (word_at w.words j))) same (queued (place % 8) (omega arith))))
        (ahead.still_all (frame_at w.log n other) found)) word framed
        (λ un few.
        let low = frames un few word is f in
        let stays = persists word is in
        subst (λ (l : Log). last_position (frame_in l v.words n word) ≤ (frame_in l v.words n word).durable) (sym log)
        (omega (arith, low, same_last _ _ stays))) f
      where
        was_sectioned : IsSectioned new → IsSectioned c
        was_sectioned (inl some) = inl some
        was_sectioned (inr both) = inr (both.0, λ none. both.1 (ahead.no_rest none))

    thread_after : ThreadInv y v next code new
    thread_after = record {
      log = log_moved t.log moves;
      records = record {
        no_sooner = λ is. committed_on t.log moves (t.records.no_sooner is);
        describes = t.records.describes;
        will_describe = t.records.will_describe;
        unlocked = t.records.unlocked;
      };
      graph_thread = graph_thread;
      walks = t.walks;
      phase = subst (λ (p : Phase). InPhase y v next code new hart graph_thread p) (sym d.on.on.runs) (on_fragment exit d.more fragment_after);
      stored = stored_same passage ahead.all coming (λ u e position since. since_is_persisted b.config.memory new_memory u e position persisting since)
          (λ u e f un few. settled u e un few f) refl (step_durable y.runs.program w n sound)
          (λ word position is. ⊎_elim (λ was. inl was) (λ own. inr (recorded_in (in_log_then word own.0) own.1)) (lasts word position is))
          (λ word position among low. recorded_in (in_log_then word among) (step_last y.runs.program w n sound word position low))
          (frames_stay passage (log_stays y.runs.program w (Step n) sound) (step_last y.runs.program w n sound)) frame_after t.stored;
      has_read = reads_after passage
          (record { hart = fragment.on.hart; effect = d.effect; is_next = d.next; environment = o.environment; answered = d.answered; loaded = loaded })
          t.has_read bound (omega arith) (omega arith) (λ there. inl (stands_still there)) (omega arith) (λ byte. refl) points
          (λ variable number byte writes of. inl writes);
    }

    step_made : StepOf site n
    unfolding thread_after
    step_made = record {
      next = next;
      led = goes _ (persists new_memory persisting) tt passage.leads.0 passage.leads.1;
      memory = refl;
      stores_own = λ other effect is. subst (MayStore y b n) (one_effect y.runs.program w n fragment.on.hart other d.effect effect d.next is) may;
      new = new;
      own = thread_after;
      gone = subst GoneOn (sym d.on.on.runs) tt;
      held = held_still site next new d.holders refl refl refl;
      counted = record {
        late = refl;
        marks = λ on_time.
            (law y.plan code.thread places y.runs.program w n o.environment stage left (c.cleans ++ c.rest) sound fragment).1 y.runs.marks
            (sym (fragment.meets.marks ∙ ap (λ (p : Program). p.nodes) (code.is.of_program ∙ (s.own h site.below).program)));
        unlocked = λ mutex gives. was_unlocked refl gives;
        points = points;
        bound = bound;
        fences = fences;
        nears = is_nearer nearer.0;
        told = refl;
        begins_told = λ on_time no. absurd (true≢false (sym no));
        last = λ word. refl;
        accesses = λ byte. refl;
      };
      released = nothing_released (holders_stay_none y.runs.program w n d.holders) refl;
    }

  -- ---- Memory

  same_persisted : new_memory ≡ old_memory → ArePersisted old_memory new_memory
  same_persisted same = grind (arith, nat_tests)

  settled_still : (persisted : ArePersisted old_memory new_memory) (rest : List Effect) → fences_ahead rest ≡ fences_ahead c.rest → Settles rest
  settled_still persisted rest same u e un few f = grind (arith, nat_tests)

  -- and its frame, where the words of that stay
  frames_still : (rest : List Effect) (move : MovesTo n all_words w fragment.on.hart c.rest v rest) → fences_ahead rest ≡ fences_ahead c.rest →
      FrameSettles rest
  frames_still rest move same un few word is f =
      let was = f.fenced un (omega (arith, few, same)) in
      let stays = frame_stays t.log (moves_at move t.log.hart move.next (sym hart_is) move.there) word is in
      omega (arith, was, stays.no_lower)

  next_is : (effect : Effect) → effect_at y.runs.program n fragment.on.hart ≡ Some effect → IsNext y.runs.program w n fragment.on.hart effect
  next_is effect at = record { here = fragment.on.here; runs = ap is_running fragment.on.runs; is = at }

  -- a step that stores nothing leaves the last stores
  lasts_none : (d : Does) → is_store d.effect ≡ false → LastsHere
  lasts_none d none word position is =
      inl (last_by y.runs.program w n word (c.last_stores word) fragment.on.hart d.effect d.next (stores_none word d.effect none) ∙ is)

  -- a step that stores nothing leaves the log
  still_moves : (d : Does) → is_store d.effect ≡ false → MovesTo n all_words w fragment.on.hart c.rest v c.rest
  still_moves d none =
      steps_move y.runs.program all_words w n n fragment.on.hart c.rest sound fragment.on.here
      (stores_nothing y.runs.program all_words w n n fragment.on.hart d.effect d.next none)

  abbrev all_ahead : (d : Does) → d.later ≡ c.cleans ++ c.rest → Ahead d
  all_ahead d is = record {
    rest = c.rest;
    cleans = c.cleans;
    later_is = is;
    all = t.stored.cleans;
    no_rest = λ e. e;
    no_cleans = λ e. e;
    still = λ address found. inl found;
    still_all = λ address found. inl found;
  }

  -- ---- A step that is held up

  held_up : IsHeldUp y.plan code.thread places (on_machine y.runs.program w n o.environment) stage left (c.cleans ++ c.rest) fragment → StepOf site n
  held_up u =
      let d = u.drains in
      let none = held_up_stores_none d.effect fragment.on.hart.queue d.held_up in
      let entries : AreEntries w.words (d.entry ∷ d.rest) =
      subst (λ (q : List Entry). AreEntries w.words q) d.queue_is (sound.queues n fragment.on.hart fragment.on.here) in
      let persisted : ArePersisted old_memory new_memory =
      memory_persisted (places_of y) w.words v.words
      (subst (λ (ws : List Word). growth.ArePersisted w.words ws) (sym (ap (λ (z : World). z.words) d.world)) (write_backs_raise w.words d.entry entries.0)) in
      let does : Does = record {
        later = c.cleans ++ c.rest;
        more = suc left;
        on = u.on;
        less = u.less;
        reach = λ j position r. subst (λ (x : Hart). PersistsThrough v.words x.queue j position) (sym u.same)
            (drains_reach y.runs.program w n run d j position r);
        effect = d.effect;
        next = next_is d.effect d.effect_is;
        answered = held_up_answered o.environment d.effect fragment.on.hart.queue d.held_up;
        holders = ap (λ (z : World). z.holders) d.world;
      } in
      step_made does (all_ahead does refl) persisted (still_moves does none) (settled_still persisted c.rest refl)
      (frames_still c.rest (still_moves does none) refl) (nothing d.effect none)
      (lasts_none does none)
      (u.counts.0 ∙ not_twice (is_bound c)) (λ e. e) (same_fences (boundary_fences y.plan.log) _ _ c.rest u.counts.1 u.counts.0)

  -- ---- A step that goes on

  module _ (g : runs.CompletesInstruction y.plan code.thread places (on_machine y.runs.program w n o.environment) stage left
      (c.cleans ++ c.rest) fragment) where
    open g.forward use {effect}

    abbrev old : Contents
    old = record { words = w.words; queue = fragment.on.hart.queue }

    abbrev does : Does
    does = record {
      later = g.later;
      more = left;
      on = g.on;
      less = g.less;
      reach = λ j position r. subst (λ (x : Hart). PersistsThrough v.words x.queue j position) (sym g.same)
          (forward_reaches y.runs.program w n run g.forward j position r);
      effect = effect;
      next = next_is effect g.forward.effect_is;
      answered = passed_answers o.environment _ g.forward.by effect g.forward.leads;
      holders = ap (λ (z : World). z.holders) g.forward.world;
    }

    words_are : v.words ≡ g.forward.contents.words
    words_are = ap (λ (z : World). z.words) g.forward.world

    -- nothing but cleans
    makes_none : (ahead : Ahead does) → ahead.rest ≡ c.rest → is_store effect ≡ false → is_fence effect ≡ false → StepOf site n
    makes_none ahead same none unfenced =
        let persisted = same_persisted (ap (memory_in (places_of y)) (words_are ∙ words_same effect old g.forward.contents none g.forward.changes)) in
        let move = subst (MovesTo n all_words w fragment.on.hart c.rest v) (sym same) (still_moves does none) in
        step_made does ahead persisted move
        (settled_still persisted ahead.rest (ap fences_ahead same)) (frames_still ahead.rest move (ap fences_ahead same)) (nothing effect none)
        (lasts_none does none)
        (g.point ∙ no_point w.log n effect none ∙ not_twice (is_bound c)
        ∙ ap (λ (es : List Effect). not (is_bound c) && is_bound (record c { rest = es })) (sym same))
        (λ e. ap (λ (es : List Effect). is_bound (record c { rest = es })) same ∙ e)
        (subst FencesCounted (sym same)
        (same_fences (boundary_fences y.plan.log) _ _ c.rest (g.fence ∙ unfenced) (g.point ∙ no_point w.log n effect none)))

    -- the first clean of the store's code
    abbrev clean_ahead : (address : ℕ) (others : List Effect) → effect ≡ Cleans address → c.cleans ≡ Cleans address ∷ others → g.later ≡ others ++ c.rest →
        Ahead does
    clean_ahead address others is_that cleans later = record {
      rest = c.rest;
      cleans = others;
      later_is = later;
      all = λ e found. t.stored.cleans e (subst (λ (es : List Effect). Contains es e) (sym cleans) (contains_later (Cleans address) others e found));
      no_rest = λ e. e;
      no_cleans = λ e. absurd (not_done (Cleans address) others (sym e ∙ cleans));
      still = λ place found. ⊎_elim
          (λ first. let at : address ≡ place = sym (ap address_of first) in inr (subst (IsQueued g.on.on.hart) at now))
          (λ later. inl later)
          (contains_cases (Cleans address) others (Cleans place) (subst (λ (es : List Effect). Contains es (Cleans place)) cleans found));
      still_all = λ place found. ⊎_elim
          (λ first. let at : address ≡ place = sym (ap address_of first) in inr (subst (IsQueued g.on.on.hart) at now))
          (λ later. inl later)
          (contains_cases (Cleans address) (others ++ c.rest) (Cleans place)
          (subst (λ (es : List Effect). Contains (es ++ c.rest) (Cleans place)) cleans found));
    }
      where
        now : IsQueued g.on.on.hart address
        now k l =
            subst (λ (x : Hart). PersistsThrough v.words x.queue (8 * (byte_number address / 64) + k)
            (last_position (word_at w.words (8 * (byte_number address / 64) + k)))) (sym g.same)
            (cleans_reach_now y.runs.program w n run sound g.forward address k is_that l)

    -- the first effect of the boundary
    module _ (no_cleans : c.cleans ≡ []) (rest : c.rest ≡ effect ∷ g.later) where
      inside : IsLogEffect w.log n effect × (is_boundary_effect effect ≡ true)
      inside = boundaries_stay_in w.log n c.old c.new (config_of w t.log.hart c.rest) effect g.later t.log.log rest

      moves_log : MovesTo n all_words w fragment.on.hart c.rest v g.later
      moves_log =
          subst (λ (es : List Effect). MovesTo n all_words w fragment.on.hart es v g.later) (sym rest)
          (subst (λ (r : Reply). MovesTo n all_words w fragment.on.hart (effect ∷ g.later) v (if has_moved r then g.later else effect ∷ g.later))
          g.forward.reply (own_steps_move y.runs.program all_words w n fragment.on.hart effect g.later does.next inside.1))

      abbrev here : Passage y code
      here = step_to site v b.config.uncommitted b.config.memory b.config.attempts (b.execution, b.respects) c g.on.on.hart

      some_rest : c.rest ≡ [] → ⊥
      some_rest none = not_done effect g.later (sym none ∙ rest)

      -- the attempt stands before the boundary
      before_by : (exit : ExitPoint) → ExitInv y b.config n c graph_thread exit → c.committed ≡ false → 0 < (attempt_of b.config n).done →
          IsBeforeBoundary (flat_of y) y.plan.boundaries (kept_of y b) b.config n
      before_by Arrives f un some = absurd (some_rest f.0.rest)
      before_by (Computes from local number) f un some = absurd (some_rest f.0.goes.rest)
      before_by (Keeps owed) f un some =
          let r = (resumed y s b).resumed in
          let alone = (graph_stands (flat_of y) b.origin b.config b.schedule s.plan.formed r.invariant r.kept).alone n in
          let there : slice_get (flow_solo (flat_of y) (kept_of y b) n (attempt_of b.config n).done).graph_threads n ≡ Some graph_thread =
          ap (λ (k : ℕ). slice_get (flow_solo (flat_of y) (kept_of y b) n k).graph_threads n) (sym f.1) ∙ (sym alone ∙ t.walks) in
          inl (record { node = graph_thread.at; steps = some; at = ap (option_map (λ (x : GraphThread). x.at)) there; stands = f.0.stands })
      before_by (Asks mutex _) f un some = absurd (some_rest f.0.goes.rest)
      before_by (Took from) f un some = let l = f.before un in inr (l.0, inl l.1.locks_it)
      before_by (Gives from mutex) f un some = inr (mutex, inr (f.before un).unlocks_it)
      before_by Ends f un some = absurd (some_rest f.goes.rest)

      -- what the attempt has stored is durable after the fence
      fence_settled : effect ≡ Fences → Settles g.later
      fence_settled is_fence u e un few f =
          fence_settles here s memory_is no_cleans (before_by exit o.fits un (omega (arith, f.within)))
          (λ j position r. fences_settle y.runs.program w n run g.forward is_fence j position
          (subst (λ (x : Hart). PersistsThrough w.words x.queue j position) hart_is r)) u e f

      -- and so is its frame
      frame_fenced : effect ≡ Fences → FrameSettles g.later
      frame_fenced is_fence un few word is f = by f.comes
        where
          by : IsFrameComing y w b code c t.log.hart word → last_position (frame_in w.log w.words n word) ≤ (frame_in w.log v.words n word).durable
          by (frame_reached r) =
              fences_settle y.runs.program w n run g.forward is_fence (frame_word w.log n word) (last_position (frame_in w.log w.words n word))
              (subst (λ (x : Hart). PersistsThrough w.words x.queue (frame_word w.log n word) (last_position (frame_in w.log w.words n word))) hart_is r)
          by (frame_ahead other has line) =
              let place : ℕ = frame_at w.log n other in
              let rest_is : c.rest ≡ Fences ∷ g.later = rest ∙ ap (λ (e : Effect). e ∷ g.later) is_fence in
              let found : Contains (Fences ∷ g.later) (Cleans place) =
              subst (λ (es : List Effect). Contains es (Cleans place)) rest_is
              (subst (λ (es : List Effect). Contains (es ++ c.rest) (Cleans place)) no_cleans has) in
              absurd (⊎_elim (λ first. cc)
              (λ later. none_after_fence w.log n c.old c.new (config_of w t.log.hart c.rest) t.log.log g.later rest_is other later)
              (contains_cases Fences g.later (Cleans place) found))

      -- variables are as they were
      persisted : ArePersisted old_memory new_memory
      persisted = same_persisted (ap (memory_in (places_of y)) words_are
          ∙ log_memory y s w n effect fragment.on.hart.queue g.forward.contents g.forward.changes inside.0)

      lasts_in_log : IsLogEffect w.log n effect → LastsHere
      lasts_in_log (StoresWord i value below same) word position last =
          ⊎_elim (λ was. inl was) (λ made. inr (
            subst (IsWordOf w.log n c.new) (sym made.0)
                (stored_for w.log n c.old c.new (config_of w t.log.hart c.rest) t.log.log (log_of w.log n + 8 * i) 8 value g.later
                (rest ∙ ap (λ (x : Effect). x ∷ g.later) same) t.log.log.stage),
            made.1,
          ))
          (last_store_is y.runs.program w n word (c.last_stores word) fragment.on.hart (log_of w.log n + 8 * i) 8 value position
          (subst (IsNext y.runs.program w n fragment.on.hart) same does.next) last)
      lasts_in_log (CleansLine i below same) word position last = lasts_none does (ap is_store same) word position last
      lasts_in_log (PassesFence same) word position last = lasts_none does (ap is_store same) word position last

      -- the line's newest words are queued after its clean
      line_queued : (address : ℕ) → effect ≡ Cleans address → IsQueued g.on.on.hart address
      line_queued address is_that k l =
          subst (λ (x : Hart). PersistsThrough v.words x.queue (8 * (byte_number address / 64) + k)
          (last_position (word_at w.words (8 * (byte_number address / 64) + k)))) (sym g.same)
          (cleans_reach_now y.runs.program w n run sound g.forward address k is_that l)

      made_or_ahead : (address : ℕ) → Contains (c.cleans ++ c.rest) (Cleans address) → Contains (c.cleans ++ g.later) (Cleans address)
          ⊎ IsQueued g.on.on.hart address
      made_or_ahead address has = ⊎_elim (λ first. inr (line_queued address (sym first)))
          (λ later. inl (subst (λ (es : List Effect). Contains (es ++ g.later) (Cleans address)) (sym no_cleans) later))
          (contains_cases effect g.later (Cleans address) (subst (λ (es : List Effect). Contains es (Cleans address)) rest
          (subst (λ (es : List Effect). Contains (es ++ c.rest) (Cleans address)) no_cleans has)))

      -- a store of the point binds the steps, and no other effect does
      abbrev then_bound : ThreadGhost
      then_bound = ghost_with g.later c.cleans

      makes_bound : Settles g.later → FrameSettles g.later → stores_point y.runs.program w (Step n) n ≡ (not (is_bound c) && is_bound then_bound) →
          (is_bound c ≡ true → is_bound then_bound ≡ true) → FencesCounted g.later → StepOf site n
      makes_bound settled frames points bound fences = step_made does (record {
        rest = g.later;
        cleans = c.cleans;
        later_is = ap (λ (es : List Effect). es ++ g.later) (sym no_cleans);
        all = t.stored.cleans;
        no_rest = λ none. absurd (some_rest none);
        no_cleans = λ e. e;
        still = λ address found. inl found;
        still_all = made_or_ahead;
      }) persisted moves_log settled frames (log_may y b w n logs effect inside.0) (lasts_in_log inside.0) points bound fences

      -- the effect is no more ahead
      fences_counted : (is_store effect ≡ true → stores_point y.runs.program w (Step n) n ≡ not (list_any is_store g.later)) → FencesCounted g.later
      fences_counted last =
          subst (λ (es : List Effect). AreFencesCounted (boundary_fences y.plan.log) (finishes_fence y.runs.program w (Step n) n)
          (stores_point y.runs.program w (Step n) n) es g.later) (sym rest)
          (next_fences (boundary_fences y.plan.log) _ _ effect g.later g.fence last (λ none. g.point ∙ no_point w.log n effect none))

      fences_same : (e : Effect) → effect ≡ e → fences_ahead (e ∷ g.later) ≡ fences_ahead g.later → fences_ahead g.later ≡ fences_ahead c.rest
      fences_same e same none = sym (ap fences_ahead (rest ∙ ap (λ (x : Effect). x ∷ g.later) same) ∙ none)

      none_more : 0 + fences_ahead g.later ≡ fences_ahead g.later
      none_more = omega arith

      bound_same : (e : Effect) → effect ≡ e → is_store e ≡ false → is_bound then_bound ≡ is_bound c
      bound_same e same none = grind (arith, nat_tests)

      makes_no_store : (e : Effect) → effect ≡ e → is_store e ≡ false → Settles g.later → FrameSettles g.later → StepOf site n
      makes_no_store e same no_store settled frames =
          let bound = bound_same e same no_store in
          makes_bound settled frames
          (g.point ∙ no_point w.log n effect (ap is_store same ∙ no_store) ∙ not_twice (is_bound c)
          ∙ ap (λ (b : Bool). not (is_bound c) && b) (sym bound)) (λ was. bound ∙ was)
          (fences_counted (λ stores. absurd (true≢false (sym stores ∙ (ap is_store same ∙ no_store)))))

      -- a word of the log
      module _ (i value : ℕ) (below : i < log_words w.log) (same : effect ≡ Stores (log_of w.log n + 8 * i) 8 value) where
        abbrev place : ℕ
        place = log_of w.log n + 8 * i

        rest_is : c.rest ≡ Stores place 8 value ∷ g.later
        rest_is = rest ∙ ap (λ (x : Effect). x ∷ g.later) same

        some_store : list_any is_store c.rest ≡ true
        some_store = ap (list_any is_store) rest_is

        unbound : is_bound c ≡ false
        unbound = ap (λ (any : Bool). not c.committed && not any) some_store ∙ and_none (not c.committed)

        uncommitted : c.committed ≡ false
        uncommitted = grind (arith, nat_tests)

        last_stored : stores_point y.runs.program w (Step n) n ≡ not (list_any is_store g.later)
        last_stored =
            g.point ∙ ap (is_point_store w.log n) same
            ∙ point_store_is_last w.log n c.old c.new (config_of w t.log.hart c.rest) place 8 value g.later t.log.log rest_is

        points_are : stores_point y.runs.program w (Step n) n ≡ (not (is_bound c) && is_bound then_bound)
        points_are = last_stored
            ∙ sym (ap (λ (b : Bool). not b && is_bound then_bound) unbound
            ∙ ap (λ (b : Bool). not b && not (list_any is_store g.later)) uncommitted)

        makes_log_store : StepOf site n
        makes_log_store =
            let fences = fences_same (Stores place 8 value) same none_more in
            makes_bound (settled_still persisted g.later fences) (frames_still g.later moves_log fences) points_are
            (λ was. absurd (true≢false (sym was ∙ unbound))) (fences_counted (λ stores. last_stored))

      makes_log : IsLogEffect w.log n effect → StepOf site n
      makes_log (StoresWord i value below same) = makes_log_store i value below same
      makes_log (CleansLine i below same) =
          makes_no_store (Cleans (log_of w.log n + 8 * i)) same refl
          (settled_still persisted g.later (fences_same (Cleans (log_of w.log n + 8 * i)) same none_more))
          (frames_still g.later moves_log (fences_same (Cleans (log_of w.log n + 8 * i)) same none_more))
      makes_log (PassesFence same) = makes_no_store Fences same refl (fence_settled same) (frame_fenced same)

    made : Made c.cleans c.rest g.later effect → StepOf site n
    made (no_effect none unfenced later) = makes_none (all_ahead does later) refl none unfenced
    made (cleans_first address others is_that cleans later) = makes_none (clean_ahead address others is_that cleans later) refl (ap is_store is_that)
        (ap is_fence is_that)
    made (bounds_first none rest) = makes_log none rest (inside none rest).0

    goes_forward : StepOf site n
    goes_forward = made (made_by c.cleans c.rest g.later effect t.stored.cleans g.effects_are)

  pub one_step : StepOf site n
  one_step = ⊎_elim goes_forward held_up
      (law y.plan code.thread places y.runs.program w n o.environment stage left (c.cleans ++ c.rest) sound fragment).0

-- ---- In the machine

pub fragments_step : FragmentsGoOn → FragmentsStep
fragments_step law y s w h site i exit left o = own_step site i (one_step site exit left o law)
