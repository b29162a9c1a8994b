-- A thread's begun steps are kept: what that is to it and to the others, and that their invariants still hold.
use Rattle.crash_simulation.proofs.Common.{DescribesAs}
use Rattle.crash_simulation.specs.ThreadGhosts.{IsLoaded, IsLoadedFirst, StandsAtNoStore, in_own_frame, just_read, loaded_ahead, own_word, read_ahead}
use Rattle.crash_simulation.specs.ThreadGhosts.{read_first}
use Rattle.crash_simulation.proofs.Common.{Bool, None, inl, ⊎_elim, ◌≡◌, ◌≢◌, ℕ, List, ◌∷◌, sym, ◌∙◌, ap, arith, subst, true, false, Option, Some, refl, suc}
use Rattle.crash_simulation.proofs.Common.{◌<◌, [], ◌++◌, zero, replicate, slice_set, slice_get, true≢false, ◌≤◌, option_map, cases_Bool, get_or-set_other}
use Rattle.crash_simulation.proofs.Common.{State, Guards, StateKeeps, held_by, IsSameTo, run_keeps, locks_same, unlocks_same, Hart, World, Phase, GraphThread}
use Rattle.crash_simulation.proofs.Common.{FlowState, Matches, no_attempt, Attempt, IsAttempted, attempt_at, solo, WritesAt, IsInner, now, attempt_of}
use Rattle.crash_simulation.proofs.Common.{Invariant, steps_begun, IsSettled, commits, settled_by, then, HasUnlocked, LastUnlocks, IsKeptBy, HasLocked}
use Rattle.crash_simulation.proofs.Common.{none_left, same_other, inner_along, writes_at_same, none_of_other, others_left, rest_after, path, last_after}
use Rattle.crash_simulation.proofs.Common.{last_alone, last_stays, unlocked_is_last, SettlesThere, flow_solo, node_after, GraphThreadsSettle, own_step}
use Rattle.crash_simulation.proofs.Common.{graph_follows, step_lockstep, matched_after, inner_runs, graph_settles, Record, ExitPoint, Code, Describes}
use Rattle.crash_simulation.proofs.Common.{others_describe, AbstractRun, kept_of, now_of, System, IsSystem, flat_of, ThreadGhost, on_fragment, InPhase}
use Rattle.crash_simulation.proofs.Common.{ThreadInv, IsBounded, ExitInv, committed, InFragment, record_kept, Memory, memory_in, history_at, places_of}
use Rattle.crash_simulation.proofs.Common.{word_at, log_facts, config_of, durable_there, comes_with, recorded_in}
use Rattle.crash_simulation.proofs.LogWords.{committed_settled}
use Rattle.crash_simulation.proofs.Common.{AnswersGuarded, AssignsAlike, ExitOwes, IsFrameFlushed, IsOnFragment, on_machine, seen_by, Keeps, IsOnItsWay}
use Rattle.crash_simulation.proofs.Common.{Thread, frame_ahead, frame_reached, in_frame}
use Rattle.source_machine.proofs.Public.{solo as solo_law}
use Rattle.crash_simulation.proofs.AssignmentsAlike.{alike_back, assigns_alike}
use Rattle.crash_simulation.proofs.StatesMatchSource.{kept_good, now_good}
use Rattle.crash_simulation.proofs.Elements.{word_durable}
use Rattle.crash_simulation.proofs.StatesMatchSource.{resumed, kept_matches, as_source}
use Rattle.crash_simulation.proofs.PendingReleases.{IsAtBoundary, at_keeps, at_took, at_gives, under_way, bounded_of}
use Rattle.crash_simulation.proofs.KeptThreads.{moves_nowhere, IsKept, IsLeftAlone, stands_kept}
use Rattle.crash_simulation.proofs.Common.{AnswersLoaded, Element, HasRead, IsReadAt, MarkedEnvironment, and_parts, element_lock, held_same, is_bound}
use Rattle.crash_simulation.proofs.Common.{is_store, list_any, not, ◌&&◌}
use Rattle.crash_simulation.proofs.ThreadViews.{none_stored}

-- ---- Attempts

own_emptied : (attempts : List Attempt) (t : ℕ) → attempt_at (slice_set attempts t no_attempt) t ≡ no_attempt
own_emptied [] t = refl
own_emptied (a ∷ rest) zero = refl
own_emptied (a ∷ rest) (suc t) = own_emptied rest t

-- the thread has no attempt now
pub is_emptied : (attempts : List Attempt) (t : ℕ) → IsAttempted attempts (slice_set attempts t no_attempt) t no_attempt
is_emptied attempts t = grind (arith, get_or-set_other, own_emptied)

-- the thread's begun steps may be kept
pub record MaySettle (y : System) (b : AbstractRun y) (thread : ℕ) : Type 0 where
  pub settled : IsSettled b.config thread (slice_set b.config.attempts thread no_attempt)
  pub there : SettlesThere (flat_of y) y.plan.boundaries (kept_of y b) b.config thread

module _ (y : System) (s : IsSystem y) (b : AbstractRun y) where
  open b use {config as old}
  open y.plan use {flat as x}

  pub invariant : Invariant x old
  invariant = (resumed y s b).resumed.invariant

  pub kept_by : IsKeptBy b.origin.source old.kept b.schedule
  kept_by = (resumed y s b).resumed.kept

  -- a thread with no step begun: a record that describes it now describes what is kept
  pub none_describes : (code : Code y.plan) (r : Record) → steps_begun old code.thread.number ≡ 0 → Describes y.plan code (now_of y b) r →
      Describes y.plan code (kept_of y b) r
  none_describes code r none describes =
      let u = code.thread.number in
      let i = invariant in
      let graph_thread : slice_get (now_of y b).graph_threads u ≡ slice_get (kept_of y b).graph_threads u =
      (as_source y s b).alone u ∙ ap (λ (k : ℕ). slice_get (flow_solo x (kept_of y b) u k).graph_threads u) none in
      let same : IsSameTo x (now old) old.kept u =
      subst (λ (k : ℕ). IsSameTo x (now old) (solo old.kept u k) u) none (solo_law x old.kept old.uncommitted u i.keeps i.runs i.hands).same in
      others_describe y.plan code (now_of y b) (kept_of y b) false r describes (sym graph_thread)
      (ap (held_by u) (as_source y s b).kept_matches.holders ∙ (sym same.held ∙ ap (held_by u) (sym (as_source y s b).now_matches.holders)))
      (alike_back y.plan code.thread (now_of y b) (kept_of y b) graph_thread
      (assigns_alike y.plan s.plan code.thread (now_of y b) (kept_of y b) (now old) old.kept (as_source y s b).now_matches
      (as_source y s b).kept_matches (now_good y s b) (run_keeps x old.kept old.uncommitted i.keeps) same graph_thread))

  -- ---- Thread t's are kept

  module _ (t : ℕ) (may : MaySettle y b t) where
    abbrev attempts : List Attempt
    attempts = slice_set old.attempts t no_attempt

    abbrev pub committed_run : AbstractRun y
    committed_run = record {
      origin = b.origin;
      config = settled_by old t attempts;
      schedule = b.schedule ++ replicate (steps_begun old t) t;
      execution = then b.execution (commits t attempts may.settled);
      respects = (b.respects, may.there);
    }

    open settled_by old t attempts use {kept as K'}

    -- all states now are as they were
    pub now_same : now_of y committed_run ≡ now_of y b
    now_same = graph_follows x b.origin old (settled_by old t attempts) b.schedule s.plan.formed invariant kept_by (commits t attempts may.settled)

    pub source_same : now (settled_by old t attempts) ≡ now old
    source_same = rest_after x old t invariant

    graph_threads : GraphThreadsSettle x b.origin old b.schedule t (kept_of y committed_run)
    graph_threads = graph_settles x b.origin old b.schedule t s.plan.formed invariant kept_by

    -- ---- The thread

    pub own_begun : steps_begun committed_run.config t ≡ 0
    own_begun = none_left t (steps_begun old t) old.uncommitted refl

    pub own_done : (attempt_of committed_run.config t).done ≡ 0
    own_done = ap (λ (a : Attempt). a.done) may.settled.attempt.own

    -- and a logged assignment at which it stands does the same
    own_alike : (u : Thread) → u.number ≡ t → AssignsAlike y.plan u (now_of y b) (kept_of y committed_run)
    own_alike u number =
        let i = invariant in
        let threads = subst (λ (k : ℕ). slice_get (kept_of y committed_run).graph_threads k ≡ slice_get (now_of y b).graph_threads k) (sym number)
        graph_threads.own in
        alike_back y.plan u (now_of y b) (kept_of y committed_run) (sym threads)
        (assigns_alike y.plan s.plan u (now_of y b) (kept_of y committed_run) (now old) committed_run.config.kept
        (as_source y s b).now_matches (kept_matches y s committed_run) (now_good y s b) (run_keeps x old.kept old.uncommitted i.keeps)
        (subst (IsSameTo x (now old) committed_run.config.kept) (sym number) (solo_law x old.kept old.uncommitted t i.keeps i.runs i.hands).same)
        (sym threads))

    -- a record that describes the state now describes what is kept then
    pub own_describes : (code : Code y.plan) (r : Record) → code.thread.number ≡ t → Describes y.plan code (now_of y b) r →
        Describes y.plan code (kept_of y committed_run) r
    own_describes code r number describes =
        let i = invariant in
        let held : held_by t (kept_of y committed_run).holders ≡ held_by t (now_of y b).holders =
        ap (held_by t) (kept_matches y s committed_run).holders
        ∙ (sym (solo_law x old.kept old.uncommitted t i.keeps i.runs i.hands).same.held ∙ ap (held_by t) (sym (as_source y s b).now_matches.holders)) in
        others_describe y.plan code (now_of y b) (kept_of y committed_run) false r describes
        (subst (λ (k : ℕ). slice_get (kept_of y committed_run).graph_threads k ≡ slice_get (now_of y b).graph_threads k) (sym number) graph_threads.own)
        (subst (λ (k : ℕ). held_by k (kept_of y committed_run).holders ≡ held_by k (now_of y b).holders) (sym number) held)
        (own_alike code.thread number)

    -- the unlock that ends its attempt is its last step that is kept then
    pub unlock_kept : (mutex : ℕ) → HasUnlocked old t mutex → LastUnlocks b.origin.source committed_run.schedule t mutex
    unlock_kept mutex h =
        let alone = subst (λ (n : ℕ). LastUnlocks old.kept (replicate n t) t mutex) (sym h.begun)
        (last_alone old.kept t (attempt_of old t).done mutex h.unlocks_it) in
        last_after b.origin.source b.schedule (replicate (steps_begun old t) t) t mutex kept_by.runs
        (subst (λ (z : State). LastUnlocks z (replicate (steps_begun old t) t) t mutex) (sym kept_by.is) alone)

    -- ---- Another thread

    module _ (u : ℕ) (apart : u ≢ t) where
      -- its last step that is kept stays so
      pub unlock_stays : (mutex : ℕ) → LastUnlocks b.origin.source b.schedule u mutex → LastUnlocks b.origin.source committed_run.schedule u mutex
      unlock_stays mutex l = last_stays b.origin.source b.schedule (replicate (steps_begun old t) t) u mutex (none_of_other t u (steps_begun old t) apart) l

      open attempt_of old u use {done, longest}

      pub attempt_same : attempt_of committed_run.config u ≡ attempt_of old u
      attempt_same = may.settled.attempt.others u apart

      pub done_same : (attempt_of committed_run.config u).done ≡ (attempt_of old u).done
      done_same = ap (λ (a : Attempt). a.done) attempt_same

      pub begun_same : steps_begun committed_run.config u ≡ steps_begun old u
      begun_same = others_left t u (steps_begun old t) old.uncommitted apart

      source_path : (k : ℕ) → k ≤ longest → IsSameTo x (solo K' u k) (solo old.kept u k) u
      source_path k l = path x old t invariant u k apart l

      pub locked_on : (mutex : ℕ) → HasLocked old u mutex → HasLocked committed_run.config u mutex
      locked_on mutex h1 = grind (arith, locks_same, begun_same, done_same, invariant, source_path)

      pub unlocked_on : (mutex : ℕ) → HasUnlocked old u mutex → HasUnlocked committed_run.config u mutex
      unlocked_on mutex h1 = grind (arith, unlocks_same, begun_same, done_same, invariant, source_path)

      -- another thread writes the same along its attempts
      pub writes_on : (k v e : ℕ) → k ≤ longest → WritesAt old.kept u k v e → WritesAt K' u k v e
      writes_on k v e l w = writes_at_same K' old.kept u k v e (source_path k l).own w

      pub writes_at_before : (k v e : ℕ) → k ≤ longest → WritesAt K' u k v e → WritesAt old.kept u k v e
      writes_at_before k v e l w = writes_at_same old.kept K' u k v e (sym (source_path k l).own) w

      -- another thread's graph thread is the same
      graph_thread_same : slice_get (kept_of y committed_run).graph_threads u ≡ slice_get (kept_of y b).graph_threads u
      graph_thread_same = graph_threads.others u apart

      keeps' : StateKeeps x K'
      keeps' = run_keeps x old.kept (replicate (steps_begun old t) t) invariant.keeps

      inner : IsInner old.kept u longest
      inner = (invariant.tried u).inner

      inner' : IsInner K' u longest
      inner' = inner_along x u longest K' old.kept keeps' invariant.keeps (same_other x old t invariant u apart) inner

      match : Matches x (kept_of y b) old.kept
      match = kept_matches y s b

      match' : Matches x (kept_of y committed_run) K'
      match' = kept_matches y s committed_run

      graph_threads_along : (k : ℕ) → k ≤ longest →
          slice_get (flow_solo x (kept_of y committed_run) u k).graph_threads u ≡ slice_get (flow_solo x (kept_of y b) u k).graph_threads u
      graph_threads_along zero l = graph_thread_same
      graph_threads_along (suc k) l =
          let w = s.plan.formed in
          let below : k < longest = omega (arith, l) in
          let runs : k ≤ longest = omega (arith, l) in
          let one = own_step x w (kept_of y committed_run) K' (inner' k below).next u k match' (inner_runs k longest K' u inner' runs) (inner' k below).is in
          let two = own_step x w (kept_of y b) old.kept (inner k below).next u k match (inner_runs k longest old.kept u inner runs) (inner k below).is in
          ap (λ (z : FlowState). slice_get z.graph_threads u) one.after
          ∙ (step_lockstep x w u (matched_after x w (replicate k u) (kept_of y committed_run) K' match')
          (matched_after x w (replicate k u) (kept_of y b) old.kept match)
          (run_keeps x K' (replicate k u) keeps') (source_path k runs) one.next two.next (graph_threads_along k runs) one.is two.is
          ∙ ap (λ (z : FlowState). slice_get z.graph_threads u) (sym two.after))

      pub node_same : (k : ℕ) → k ≤ longest → node_after x (kept_of y committed_run) u k ≡ node_after x (kept_of y b) u k
      node_same k l = ap (option_map (λ (z : GraphThread). z.at)) (graph_threads_along k l)

      -- another thread reads the same along its attempts
      pub reads_on : (k : ℕ) (one : Element) → k ≤ longest → IsReadAt x (kept_of y b) old.kept u k one → IsReadAt x (kept_of y committed_run) K' u k one
      reads_on k one l r = record {
        graph_thread = r.graph_thread;
        found = graph_threads_along k l ∙ r.found;
        node = r.node;
        at = r.at;
        seen = r.seen;
        reads = r.reads;
        lies = r.lies;
        kept_guards = held_same u old.kept.holders K'.holders (element_lock x.variables one.variable one.element)
            (sym (same_other x old t invariant u apart).held) r.kept_guards;
      }

      others_alike : (v : Thread) → v.number ≡ u → AssignsAlike y.plan v (kept_of y b) (kept_of y committed_run)
      others_alike v number =
          let threads = subst (λ (k : ℕ). slice_get (kept_of y committed_run).graph_threads k ≡ slice_get (kept_of y b).graph_threads k) (sym number)
          graph_thread_same in
          assigns_alike y.plan s.plan v (kept_of y committed_run) (kept_of y b) committed_run.config.kept old.kept (kept_matches y s committed_run)
          (kept_matches y s b) (kept_good y s committed_run) keeps'
          (subst (IsSameTo x committed_run.config.kept old.kept) (sym number) (same_other x old t invariant u apart)) threads

      -- another thread's record goes on to describe the kept state
      pub describes_on : (code : Code y.plan) (late : Bool) (r : Record) → code.thread.number ≡ u → DescribesAs y.plan code (kept_of y b) late r →
          DescribesAs y.plan code (kept_of y committed_run) late r
      describes_on code late r number describes =
          let held : held_by u (kept_of y committed_run).holders ≡ held_by u (kept_of y b).holders =
          ap (held_by u) (kept_matches y s committed_run).holders
          ∙ ((same_other x old t invariant u apart).held ∙ ap (held_by u) (sym (kept_matches y s b).holders)) in
          others_describe y.plan code (kept_of y b) (kept_of y committed_run) late r describes
          (subst (λ (k : ℕ). slice_get (kept_of y committed_run).graph_threads k ≡ slice_get (kept_of y b).graph_threads k) (sym number) graph_thread_same)
          (subst (λ (k : ℕ). held_by k (kept_of y committed_run).holders ≡ held_by k (kept_of y b).holders) (sym number) held)
          (others_alike code.thread number)

-- ---- Invariants where steps are kept

-- the ghost state, with its boundary taken as committed: it isn't late then
abbrev pub taken : ThreadGhost → ThreadGhost
taken c = record c { committed = true; late = false }

-- ---- The thread itself, whose boundary is committed: none of its steps is begun

-- of the source: the state now stays, none of its steps is begun, and what described that state describes the kept one
pub record IsTakenUp (y : System) (b next : AbstractRun y) (code : Code y.plan) (c : ThreadGhost) : Type 0 where
  pub states : now_of y next ≡ now_of y b
  pub sources : now next.config ≡ now b.config
  pub begun : steps_begun next.config code.thread.number ≡ 0
  pub done : (attempt_of next.config code.thread.number).done ≡ 0
  pub describes : Describes y.plan code (now_of y b) c.new → Describes y.plan code (kept_of y next) c.new
  pub unlocks : (mutex : ℕ) → HasUnlocked b.config code.thread.number mutex → LastUnlocks next.origin.source next.schedule code.thread.number mutex

module _ (y : System) (w : World) (b next : AbstractRun y) (code : Code y.plan) (c : ThreadGhost) (up : IsTakenUp y b next code c) where
  open code.thread use {number as n}

  fragment_stays : (hart : Hart) (graph_thread : GraphThread) (exit : ExitPoint) (steps : ℕ) (o : InFragment y w b code c hart graph_thread exit steps) →
      AnswersLoaded y next n (taken c) o.environment → ExitInv y next.config n (taken c) graph_thread exit →
      InFragment y w next code (taken c) hart graph_thread exit steps
  fragment_stays hart graph_thread exit steps o loaded fits = record {
    environment = o.environment;
    answers = subst (λ (z : State). AnswersGuarded y z n o.environment) (sym up.sources) o.answers;
    loaded = loaded;
    view = o.view;
    at_side = o.at_side;
    frame = o.frame;
    fragment = subst (λ (z : FlowState). IsOnFragment y.plan code.thread code.is.places (on_machine y.runs.program w n o.environment)
        (record { exit = exit; node = graph_thread.at; seen = seen_by z graph_thread; view = o.view }) steps (c.cleans ++ c.rest)) (sym up.states) o.fragment;
    fits = fits;
    owes = subst (λ (z : FlowState). ExitOwes y code (taken c) graph_thread.at (seen_by z graph_thread) exit) (sym up.states) (owes_taken exit o.owes);
    soon = o.soon;
  }
    where
      owes_taken : (to : ExitPoint) → ExitOwes y code c graph_thread.at (seen_by (now_of y b) graph_thread) to →
          ExitOwes y code (taken c) graph_thread.at (seen_by (now_of y b) graph_thread) to
      owes_taken (Keeps owed) owes = record { number = owes.number; beside = owes.beside }
      owes_taken to owes = tt

  stands_there : StandsAtNoStore y b n → StandsAtNoStore y next n
  stands_there there = record {
    graph_thread = there.graph_thread;
    found = ap (λ (z : FlowState). slice_get z.graph_threads n) up.states ∙ there.found;
    no_store = there.no_store;
  }

  -- while a boundary is under way nothing has just been read
  loaded_taken : (z : MarkedEnvironment) → c.committed ≡ false → AnswersLoaded y b n c z → AnswersLoaded y next n (taken c) z
  loaded_taken z not_yet loaded address bytes value e = by (loaded address bytes value e)
    where
      by : IsLoaded y b n c address bytes → IsLoaded y next n (taken c) address bytes
      by (just_read j) = absurd (true≢false (sym j.goes.committed ∙ not_yet))
      by (own_word own eight) = own_word own eight
      by (read_ahead variable number at framed there) = read_ahead variable number at framed (stands_there there)

  bounded : {Before After : Type 0} (graph_thread : GraphThread) (giving : Option ℕ) (write_comes : Bool) →
      IsBounded y b.config n c graph_thread giving write_comes Before → IsBounded y next.config n (taken c) graph_thread giving write_comes After
  bounded graph_thread giving write_comes f = record {
    execution = f.execution;
    cleans = f.cleans;
    gives = f.gives;
    written = f.written;
    before = λ un. absurd (true≢false un);
    after = λ over. up.begun;
  }

  own_fits : (graph_thread : GraphThread) (exit : ExitPoint) → IsAtBoundary exit → ExitInv y b.config n c graph_thread exit →
      ExitInv y next.config n (taken c) graph_thread exit
  own_fits graph_thread _ (at_keeps owed) f = (f.0, up.begun ∙ sym up.done, bounded graph_thread None true f.2)
  own_fits graph_thread _ (at_took from) f = bounded graph_thread None false f
  own_fits graph_thread _ (at_gives from mutex) f = bounded graph_thread (Some mutex) false f

  -- its frame is on its way still
  frame_taken : (hart : Hart) (word : ℕ) → IsFrameFlushed y w b code c hart word → IsFrameFlushed y w next code (taken c) hart word
  frame_taken hart word f = record {
    comes = elim f.comes [
      | frame_reached r ↦ frame_reached r
      | frame_ahead other has line ↦ frame_ahead other has line
    ];
    fenced = λ un. absurd (true≢false un);
  }

  -- what it has stored last is durable, or in its frame
  last_durable : IsSystem y → memory_in (places_of y) w.words ≡ b.config.memory → (t : ThreadInv y w b code c) → c.committed ≡ false →
      committed w n c t.log.hart ≡ true → (word position : ℕ) → c.last_stores word ≡ Some position →
      IsOnItsWay y w next code (taken c) t.log.hart word position
  last_durable s memory t not_yet sooner word position is = elim (t.stored.last word position is) [
    | durable_there low ↦ durable_there low
    | comes_with v e f at low ↦
        let fenced = f.fenced not_yet (log_facts.bank_before_point.fenced w.log n c.old c.new (config_of w t.log.hart c.rest) t.log.log sooner) in
        let durable =
        word_durable y s w.words v e f.position (subst (λ (m : Memory). f.position ≤ (history_at m v e).durable) (sym memory) fenced) in
        durable_there (subst (λ (k : ℕ). position ≤ (word_at w.words k).durable) at (omega (arith, low, durable)))
    | recorded_in among low ↦
        let settled = committed_settled w.log n c.old c.new (config_of w t.log.hart c.rest) t.log.log sooner word among in
        durable_there (omega (arith, low, settled))
    | in_frame own framed at low ↦ in_frame own framed at low
  ]

  -- its steps are bound
  bound : (hart : Hart) → c.committed ≡ false → committed w n c hart ≡ true → is_bound c ≡ true
  bound hart not_yet sooner =
      let stored = (and_parts (not (list_any is_store c.rest)) _ sooner).0 in
      λ i. not (not_yet i) && stored i

  -- bound steps have read nothing since the point was stored
  read_taken : (hart : Hart) → c.committed ≡ false → committed w n c hart ≡ true → HasRead y b n c → HasRead y next n (taken c)
  read_taken hart not_yet sooner reads = record {
    read = λ byte is. by (reads.read byte is);
    written = λ unbound variable number byte writes of. absurd (omega (arith, writes.within, up.done));
  }
    where
      by : {byte : ℕ} → IsLoadedFirst y b n c byte → IsLoadedFirst y next n (taken c) byte
      by (read_first r) = absurd (true≢false (sym (bound hart not_yet sooner) ∙ r.unbound))
      by (in_own_frame own) = in_own_frame own
      by (loaded_ahead r) = loaded_ahead (record {
        framed = r.framed;
        variable = r.variable;
        number = r.number;
        of = r.of;
        since = ⊎_elim (λ there. inl (stands_there there)) (λ gone. absurd (true≢false (sym (bound hart not_yet sooner) ∙ gone.0))) r.since;
      })

  pub own_stands : IsSystem y → memory_in (places_of y) w.words ≡ b.config.memory → (t : ThreadInv y w b code c) → c.committed ≡ false →
      committed w n c t.log.hart ≡ true → ThreadInv y w next code (taken c)
  own_stands s memory t not_yet sooner =
      let u = under_way y w b code c t not_yet in
      record {
        log = t.log;
        records = record {
          no_sooner = λ e. sooner;
          describes = up.describes (t.records.will_describe not_yet);
          will_describe = λ un. absurd (true≢false un);
          unlocked = λ mutex gives over. up.unlocks mutex ((bounded_of y w b code c mutex gives t).before not_yet);
        };
        graph_thread = t.graph_thread;
        walks = ap (λ (z : FlowState). slice_get z.graph_threads n) up.states ∙ t.walks;
        phase = subst (λ (p : Phase). InPhase y w next code (taken c) t.log.hart t.graph_thread p) (sym u.runs)
            (on_fragment u.to u.steps (fragment_stays t.log.hart t.graph_thread u.to u.steps u.on
            (loaded_taken u.on.environment not_yet u.on.loaded) (own_fits t.graph_thread u.to u.exit u.on.fits)));
        stored = none_stored y w next code (taken c) t.log.hart up.done t.stored.cleans (last_durable s memory t not_yet sooner)
            (λ sectioned word framed. frame_taken t.log.hart word (t.stored.frame sectioned word framed));
        has_read = read_taken t.log.hart not_yet sooner t.has_read;
      }

-- ---- Another thread

-- where nothing happens to the machine
left_as_it_is : (y : System) (w : World) (b : AbstractRun y) (code : Code y.plan) (c : ThreadGhost) → IsLeftAlone y w w b code c
left_as_it_is y w b code c = record {
  log = refl;
  here = λ hart there. there;
  moves = λ hart there. moves_nowhere w w code.thread.number hart hart c.rest refl refl;
  fragments = λ z answers stage steps o. o;
  cores = λ at seen view owed registers o. o;
  reach = λ queue j position r. r;
  longer = λ j position low. low;
}

module _ (y : System) (s : IsSystem y) (b : AbstractRun y) (k : ℕ) (may : MaySettle y b k) (code : Code y.plan) (apart : code.thread.number ≢ k)
    (c : ThreadGhost) where
  abbrev kept_then : AbstractRun y
  kept_then = committed_run y s b k may

  open code.thread use {number as u}

  longest_within : (j : ℕ) → j < (attempt_of b.config u).done → j ≤ (attempt_of b.config u).longest
  longest_within j within = let inside = ((invariant y s b).tried u).within in omega (arith, within, inside)

  other_kept : IsKept y b kept_then code c
  other_kept = record {
    on = record {
      begun = begun_same y s b k may u apart;
      done = done_same y s b k may u apart;
      locked = locked_on y s b k may u apart;
      unlocked = unlocked_on y s b k may u apart;
      rest = λ none. none;
      cleans = λ none. none;
      giving = refl;
      committed = refl;
      record_is = refl;
      old_is = refl;
      late_is = refl;
    };
    guards = λ v e g. subst (λ (z : State). Guards (flat_of y) z u v e) (sym (source_same y s b k may)) g;
    graph_thread = ap (λ (z : FlowState). slice_get z.graph_threads u) (now_same y s b k may);
    holds = ap (λ (z : FlowState). held_by u z.holders) (now_same y s b k may);
    alike = subst (λ (z : FlowState). AssignsAlike y.plan code.thread (now_of y b) z) (sym (now_same y s b k may)) (λ graph_thread is found at logged. refl);
    describes = λ d. describes_on y s b k may u apart code c.late (record_kept c) refl d;
    last = λ mutex l. unlock_stays y s b k may u apart mutex l;
    nodes = λ j within. node_same y s b k may u apart j (longest_within j within);
    writes_back = λ j v e within written. writes_at_before y s b k may u apart j v e (longest_within j within) written;
    writes_on = λ j v e within written. writes_on y s b k may u apart j v e (longest_within j within) written;
    since = λ v e position written i. i;
    durable = λ v e. omega arith;
    reads = λ j one within r. reads_on y s b k may u apart j one (longest_within j within) r;
  }

  pub other_stands : (w : World) → ThreadInv y w b code c → ThreadInv y w kept_then code c
  other_stands w t = stands_kept y b kept_then code c other_kept w w (left_as_it_is y w b code c) t

-- ---- A mutex that a thread has still to give back is unlocked by its last step of all that are begun

module _ (y : System) (s : IsSystem y) (w : World) (b : AbstractRun y) (code : Code y.plan) (c : ThreadGhost) (t : ThreadInv y w b code c) (mutex : ℕ)
    (gives : c.giving ≡ Some mutex) where
  pub unlocked_last : LastUnlocks b.origin.source (b.schedule ++ b.config.uncommitted) code.thread.number mutex
  unlocked_last =
      let n = code.thread.number in
      let bounded = bounded_of y w b code c mutex gives t in
      let kept = kept_by y s b in
      ⊎_elim
      (λ yes. last_stays b.origin.source b.schedule b.config.uncommitted n mutex (bounded.after yes) (t.records.unlocked mutex gives yes))
      (λ no. last_after b.origin.source b.schedule b.config.uncommitted n mutex kept.runs
      (subst (λ (z : State). LastUnlocks z b.config.uncommitted n mutex) (sym kept.is)
      (unlocked_is_last (flat_of y) b.config n mutex (invariant y s b) (bounded.before no))))
      (cases_Bool c.committed)
