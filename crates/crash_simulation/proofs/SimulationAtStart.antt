-- After a crash, and where recovery begins with words that describe an origin, the machine simulates an abstract run.

use Rattle.crash_simulation.proofs.Common.{DescribesAs}
use Rattle.crash_simulation.proofs.Common.{Bool, IsPastAssignment}
use Rattle.crash_simulation.proofs.Common.{◌≤◌, true≢false, IsFrameFlushed, IsFrameWord, IsSectioned, NodePlace, frame_reached, frame_word, last_position}
use Rattle.crash_simulation.proofs.Common.{word_at}
use Rattle.ido_base.proofs.Public.{higher_all}
use Rattle.crash_simulation.proofs.FrameWords.{anew_settled}
use Rattle.crash_simulation.proofs.Common.{◌≡◌, ℕ, List, ◌∷◌, sym, ◌∙◌, ap, arith, subst, true, false, Option, Some, None, refl, suc, ◌<◌, [], ◌++◌, length}
use Rattle.crash_simulation.proofs.Common.{zero}
use Rattle.crash_simulation.proofs.Common.{replicate, slice_get, append-nil, map, Contains, option_map, length-replicate, none-some, same_Some, word_count}
use Rattle.crash_simulation.proofs.Common.{Word, durable_value, word_of, Crash, Log, steps_of, IsWellFormedWorld, Hart, World, happens, after_event}
use Rattle.crash_simulation.proofs.Common.{after_crash_of, resume_of, Slot, Phase, crashes_simulate, GraphThread, graph_after, AreCuts, at_boundary, NodeAt}
use Rattle.crash_simulation.proofs.Common.{lowered, Action, Graph, successors, found_in, durable_variables, well_formed_placed, crashes_hold}
use Rattle.crash_simulation.proofs.Common.{durable_are_memory, Attempt, attempt_at, attempt_of, Memory, durable_number, crashed, AreStable, crashes, IsAgain}
use Rattle.crash_simulation.proofs.Common.{then, first_config, memory_in, crashed_are_stable, none_yet, Resumes, BeginsAtBoundaries, flow_kept, node_of}
use Rattle.crash_simulation.proofs.Common.{Origin, LogInv, Record, nothing_recorded, config_of, contains_first, ends_committed, AreShort, queues_stay_short}
use Rattle.crash_simulation.proofs.Common.{Code, ResumesAt, Describes, past_lock, at_chosen, AllDescribe, past_unlock, between, inside, Gathers, AreGathering}
use Rattle.crash_simulation.proofs.Common.{crashes_gather, AbstractRun, kept_of, now_of, CrashSimulates, IsRecoveredFrom, RecoveredWordsSimulate, Simulates}
use Rattle.crash_simulation.proofs.Common.{gathering, IsMachineOf, most_ahead, System, IsSystem, thread_count, flat_of, places_of, Rests, ThreadGhost}
use Rattle.crash_simulation.proofs.Common.{InPhase, ThreadInv}
use Rattle.recovery_semantics.specs.Executions.{begins}
use Rattle.flow_graph.specs.IdempotentCuts as cutting
use Rattle.region_attempts.specs.AttemptsInRegion as attempts
use Rattle.crash_simulation.proofs.StatesMatchSource.{orderly, begins_orderly}
use Rattle.crash_simulation.proofs.RecordsAfterCrash.{over_is_caught, lates as left_lates, left, log_of, left_describes}
use Rattle.crash_simulation.specs.Accesses.{load}
use Rattle.crash_simulation.proofs.ReadBytes.{none_read}
use Rattle.crash_simulation.proofs.ThreadViews.{none_clean, none_stored, records_over}
use Rattle.crash_simulation.proofs.ThreadsOfMachines.{machine_stays}
use Rattle.crash_simulation.proofs.LastReleases.{holds_some}

-- what a crash leaves in memory
pub crashes_leave : (program : List (List Slot)) (w : World) → (after_event program w Crash).words ≡ map word_of (map durable_value w.words)
unfolding happens after_crash_of
crashes_leave program w = refl

-- ---- A machine whose harts begin to gather the locks of records simulates an abstract run at the state that these describe

-- the machine's harts gather the locks of the records, which describe what the abstract run has kept: no more is begun
pub record BeginsAgain (y : System) (s : IsSystem y) (v : World) (abstract : AbstractRun y) (lates : ℕ → Bool) (records : ℕ → Record) : Type 0 where
  pub machine : IsMachineOf y v
  pub memory : memory_in (places_of y) v.words ≡ abstract.config.memory
  pub none : abstract.config.uncommitted ≡ []
  pub fresh : (n : ℕ) → (attempt_of abstract.config n).done ≡ 0
  pub gathers : AreGathering v records
  pub describe : AllDescribe y.plan s.codes (kept_of y abstract) lates records
  -- all that is stored is durable
  pub settled : (word : ℕ) → last_position (word_at v.words word) ≤ (word_at v.words word).durable

-- a thread that has begun nothing since the boundary of its record, where a run begins
abbrev pub resting_ghost : System → (late : Bool) → Record → (n : ℕ) → ThreadGhost
resting_ghost y late r n = record {
  old = nothing_recorded;
  new = r;
  rest = [];
  committed = true;
  cleans = [];
  giving = None;
  before_mark = most_ahead y n;
  late = late;
  last_stores = λ word. None;
  first_accesses = λ byte. None;
}

pub resting_thread : (y : System) (v : World) (b : AbstractRun y) (code : Code y.plan) (late : Bool) (r : Record) (n : ℕ) (graph_thread : GraphThread)
    (log : LogInv code.thread.number nothing_recorded r v []) → DescribesAs y.plan code (kept_of y b) late r →
    (attempt_of b.config code.thread.number).done ≡ 0 →
    slice_get (now_of y b).graph_threads code.thread.number ≡ Some graph_thread →
    InPhase y v b code (resting_ghost y late r n) log.hart graph_thread log.hart.phase →
    (IsSectioned (resting_ghost y late r n) → (word : ℕ) → IsFrameWord v.log word → IsFrameFlushed y v b code (resting_ghost y late r n) log.hart word) →
    ThreadInv y v b code (resting_ghost y late r n)
resting_thread y v b code late r n graph_thread log describes none walks phase frames = record {
  log = log;
  records = records_over y b code (resting_ghost y late r n) refl refl
      (ends_committed v.log code.thread.number nothing_recorded r (config_of v log.hart []) log.log refl) describes;
  graph_thread = graph_thread;
  walks = walks;
  phase = phase;
  stored = none_stored y v b code (resting_ghost y late r n) log.hart none none_clean (λ word position is. absurd (none-some position is)) frames;
  has_read = none_read y b code.thread.number (resting_ghost y late r n) none (λ byte is. none-some load is);
}

module _ (y : System) (s : IsSystem y) (v : World) (abstract : AbstractRun y) (lates : ℕ → Bool) (records : ℕ → Record)
    (again : BeginsAgain y s v abstract lates records) where
  abbrev pub gathering_ghosts : ℕ → ThreadGhost
  gathering_ghosts n = resting_ghost y (lates n) (records n) n

  in_phase : (code : Code y.plan) (n : ℕ) (hart : Hart) (graph_thread : GraphThread) (phase : Phase) → Gathers v n (records n) phase →
      Rests y abstract.config code.thread.number (gathering_ghosts n) → InPhase y v abstract code (gathering_ghosts n) hart graph_thread phase
  in_phase code n hart graph_thread phase h5 h6 = grind arith

  pub gathering_thread : (n : ℕ) (below : n < thread_count y) → ThreadInv y v abstract (s.codes.each n below) (gathering_ghosts n)
  gathering_thread n below =
      let code = s.codes.each n below in
      let same : code.thread.number ≡ n = s.codes.number n below in
      let there = again.gathers.logs n (omega (arith, below, again.machine.count)) in
      let log : LogInv code.thread.number nothing_recorded (records n) v [] =
      subst (λ (k : ℕ). LogInv k nothing_recorded (records n) v []) (sym same) there in
      let found = found_in (kept_of y abstract).graph_threads code.thread.number (omega (arith, below, same, (orderly y s abstract).count)) in
      let none = again.fresh code.thread.number in
      let rests : Rests y abstract.config code.thread.number (gathering_ghosts n) = record {
        begun = ap (steps_of code.thread.number) again.none;
        done = none;
        rest = refl;
        cleans = refl;
        giving = refl;
        committed = refl;
        whole = ap (most_ahead y) (sym same);
      } in
      resting_thread y v abstract code (lates n) (records n) n found.0 log (again.describe n below) none
      (ap (λ (us : List ℕ). slice_get (graph_after (lowered (flat_of y)) (kept_of y abstract) us).graph_threads code.thread.number) again.none ∙ found.1)
      (in_phase code n log.hart found.0 log.hart.phase (again.gathers.each n log.hart (ap (slice_get v.harts) (sym same) ∙ log.here)) rests)
      (λ sectioned word framed. record {
        comes = frame_reached (let low = again.settled (frame_word v.log code.thread.number word) in
            let later = (higher_all v.words log.hart.queue).each (frame_word v.log code.thread.number word) in omega (arith, low, later));
        fenced = λ un. absurd (true≢false un);
      })

  abbrev pub gathering_simulates : Simulates y s v
  gathering_simulates = record {
    machine = again.machine;
    abstract = abstract;
    memory = again.memory;
    ghosts = gathering_ghosts;
    each = gathering_thread;
    locks = gathering again.none again.gathers;
    caught_up = λ n below all. over_is_caught y v abstract (s.codes.each n below) (gathering_ghosts n) (gathering_thread n below) refl refl;
  }

-- ---- After a crash the machine simulates an abstract run at what is kept

-- ---- Attempts

pub again : Attempt → Attempt
again a = record { done = 0; longest = a.longest }

pub done_again : (attempts : List Attempt) (t : ℕ) → (attempt_at (map again attempts) t).done ≡ 0
unfolding again
done_again [] t = refl
done_again (a ∷ rest) zero = refl
done_again (a ∷ rest) (suc t) = done_again rest t

longest_again : (attempts : List Attempt) (t : ℕ) → (attempt_at (map again attempts) t).longest ≡ (attempt_at attempts t).longest
unfolding again
longest_again [] t = refl
longest_again (a ∷ rest) zero = refl
longest_again (a ∷ rest) (suc t) = longest_again rest t

-- ---- The config after a crash

module _ (y : System) (s : IsSystem y) (w : World) (stands : Simulates y s w) where
  open stands use {abstract as b}

  abbrev after : World
  after = after_event y.runs.program w Crash

  pub is_again : IsAgain b.config.attempts (map again b.config.attempts)
  is_again = record { done = done_again b.config.attempts; longest = longest_again b.config.attempts }

  abbrev crashed_run : AbstractRun y
  crashed_run = record {
    origin = b.origin;
    config = record { kept = b.config.kept; uncommitted = []; memory = crashed b.config.memory; attempts = map again b.config.attempts };
    schedule = b.schedule ++ [];
    execution = then b.execution (crashes (map again b.config.attempts) is_again);
    respects = (b.respects, tt);
  }

  -- ---- Each thread

  pub machine : IsMachineOf y after
  machine = machine_stays y s w Crash stands.machine

  pub gathers : AreGathering after (left y s w stands)
  gathers =
      crashes_gather y.runs.program w (λ n. (stands.ghosts n).old) (λ n. (stands.ghosts n).new) (left y s w stands)
      (λ n. (stands.ghosts n).rest) (s.count ∙ sym stands.machine.count)
      (λ n below. log_of y s w stands n (omega (arith, below, stands.machine.count))) (λ n below. refl)

  pub describe : AllDescribe y.plan s.codes (kept_of y crashed_run) (left_lates y s w stands) (left y s w stands)
  describe n below =
      subst (λ (us : List ℕ). DescribesAs y.plan (s.codes.each n below) (flow_kept (flat_of y) b.origin us) (left_lates y s w stands n) (left y s w stands n))
      (sym (append-nil b.schedule))
      (left_describes y s w stands n below)

  abbrev pub stands_after : Simulates y s after
  stands_after = gathering_simulates y s after crashed_run (left_lates y s w stands) (left y s w stands) (record {
    machine = machine;
    memory = crashes_hold (places_of y) y.runs.program w ∙ ap crashed stands.memory;
    none = refl;
    fresh = done_again b.config.attempts;
    gathers = gathers;
    describe = describe;
    settled = λ word. subst (λ (ws : List Word). last_position (word_at ws word) ≤ (word_at ws word).durable) (sym (crashes_leave y.runs.program w))
        (anew_settled (map durable_value w.words) word);
  })

pub crash_simulates : CrashSimulates
crash_simulates y s w stands = stands_after y s w stands

-- ---- Words whose records describe an origin: the abstract run begins there

-- words without a past are what they leave
left_again : (words : List ℕ) → map durable_value (map word_of words) ≡ words
left_again [] = refl
left_again (n ∷ words) = λ i. n ∷ left_again words i

-- another crash leaves the machine as it is
pub crashed_again : (log : Log) (program : List (List Slot)) (locks : ℕ) (words : List ℕ) →
    after_event program (after_crash_of log program locks words) Crash ≡ after_crash_of log program locks words
unfolding happens after_crash_of
crashed_again log program locks words = λ i. after_crash_of log program (length-replicate locks (let none : Option ℕ = None in none) i) (left_again words i)

module _ (y : System) (s : IsSystem y) (o : Origin (flat_of y)) (words : List ℕ) (is : IsRecoveredFrom y s o words) where
  abbrev v : World
  v = after_crash_of y.runs.log y.runs.program y.runs.mutexes words

  pub words_are : v.words ≡ map word_of words
  unfolding after_crash_of
  words_are = refl

  pub recovered_holders : v.holders ≡ replicate y.runs.mutexes None
  unfolding after_crash_of
  recovered_holders = refl

  pub stand : IsWellFormedWorld v × (length v.harts ≡ length y.runs.program)
  stand = crashes_simulate y.runs.log y.runs.program y.runs.mutexes words (is.size ∙ ap (word_count y.runs.log) (sym s.count))

  pub recovered_log : y.plan.log ≡ v.log
  unfolding after_crash_of
  recovered_log = s.log

  -- a world without harts that a crash leaves so
  abbrev no_harts : World
  no_harts = record { log = y.runs.log; words = map word_of words; harts = []; holders = replicate y.runs.mutexes None; recovering = true }

  pub harts_come_back : after_event y.runs.program no_harts Crash ≡ v
  unfolding happens
  harts_come_back = λ i. after_crash_of y.runs.log y.runs.program (length-replicate y.runs.mutexes (let none : Option ℕ = None in none) i) (left_again words i)

  pub short : AreShort v
  short = subst AreShort harts_come_back (queues_stay_short y.runs.program no_harts Crash (λ h hart there. absurd (none-some hart there)))

  -- ---- Variables

  abbrev memory : Memory
  memory = memory_in (places_of y) v.words

  pub left_memory : memory ≡ crashed memory
  left_memory =
      ap (λ (z : World). memory_in (places_of y) z.words) (sym (crashed_again y.runs.log y.runs.program y.runs.mutexes words))
      ∙ crashes_hold (places_of y) y.runs.program v

  pub stable : AreStable o.source memory
  stable =
      let numbers : o.source.variables ≡ map (map durable_number) memory =
      sym is.variables ∙ (ap (λ (ws : List Word). durable_variables ws (flat_of y).variables) (sym words_are)
      ∙ durable_are_memory (flat_of y).variables v.words (well_formed_placed (flat_of y) s.plan.formed).room) in
      subst (AreStable o.source) (sym left_memory) (crashed_are_stable o.source memory numbers)

  -- ---- Boundaries

  pub cuts : AreCuts (lowered (flat_of y)) y.plan.boundaries
  cuts = subst (λ (g : Graph). AreCuts g y.plan.boundaries) s.plan.lowered s.plan.cuts

  -- a thread stands where its record resumes it
  pub resumes_at : (code : Code y.plan) (node : ℕ) (place : NodePlace) (address : ℕ) → ResumesAt y.plan code node place address →
      Resumes (lowered (flat_of y)) y.plan.boundaries node
  resumes_at code node _ address (at_chosen chosen) = attempts.begins (at_boundary chosen.stands)
  resumes_at code node _ address (past_lock from lock it own there takes) =
      let at : NodeAt (lowered (flat_of y)) from it = subst (λ (g : Graph). NodeAt g from it) s.plan.lowered there in
      attempts.begins (cutting.past_lock from (cuts.past_locks from (cutting.locks it lock node at takes)) (record {
        is = it;
        at = at;
        goes = subst (λ (a : Action). Contains (successors a) node) (sym takes) (contains_first node []);
      }))
  resumes_at code node _ address (past_unlock from lock it own there gives holds) =
      let at : NodeAt (lowered (flat_of y)) from it = subst (λ (g : Graph). NodeAt g from it) s.plan.lowered there in
      attempts.past_unlock from (cutting.unlocks it lock node at gives) (record {
        is = it;
        at = at;
        goes = subst (λ (a : Action). Contains (successors a) node) (sym gives) (contains_first node []);
      })

  boundary_on_time : (code : Code y.plan) (mutex node : ℕ) (r : Record) → slice_get o.flow.holders mutex ≡ Some (Some code.thread.number) →
      node_of o.flow code.thread.number ≡ Some node → Describes y.plan code o.flow r → Resumes (lowered (flat_of y)) y.plan.boundaries node
  boundary_on_time code mutex node r held at (between none point) =
      absurd (true≢false (sym none ∙ holds_some code.thread.number o.flow.holders mutex held))
  boundary_on_time code mutex node r held at (inside some i) =
      let same : i.graph_thread.at ≡ node = same_Some i.graph_thread.at node (ap (option_map (λ (g : GraphThread). g.at)) (sym i.there) ∙ at) in
      subst (λ (k : ℕ). Resumes (lowered (flat_of y)) y.plan.boundaries k) same (resumes_at code i.graph_thread.at i.place (resume_of r.point) i.resumes)

  -- one that is late stands at the node after the assignment
  boundary_late : (code : Code y.plan) (node : ℕ) (r : Record) → node_of o.flow code.thread.number ≡ Some node → IsPastAssignment y.plan code o.flow r →
      Resumes (lowered (flat_of y)) y.plan.boundaries node
  boundary_late code node r at past =
      let a = past.logged.assigns in
      let same : a.next ≡ node = past.goes ∙ same_Some past.graph_thread.at node (ap (option_map (λ (g : GraphThread). g.at)) (sym past.there) ∙ at) in
      let there : NodeAt (lowered (flat_of y)) past.node a.is = subst (λ (g : Graph). NodeAt g past.node a.is) s.plan.lowered a.at in
      subst (λ (k : ℕ). Resumes (lowered (flat_of y)) y.plan.boundaries k) same
      (attempts.past_assignment past.node past.chosen.stands
      (record { is = a.is; at = there; place = a.place; local = past.logged.local; kind = a.kind; value = a.assigned; next = a.next; action = a.action })
      (record { is = a.is; at = there; goes = subst (λ (z : Action). Contains (successors z) a.next) (sym a.action) (contains_first a.next []) }))

  pub boundary_by : (code : Code y.plan) (mutex node : ℕ) (late : Bool) (r : Record) → slice_get o.flow.holders mutex ≡ Some (Some code.thread.number) →
      node_of o.flow code.thread.number ≡ Some node → DescribesAs y.plan code o.flow late r → Resumes (lowered (flat_of y)) y.plan.boundaries node
  boundary_by code mutex node false r held at describes = boundary_on_time code mutex node r held at describes
  boundary_by code mutex node true r held at past = boundary_late code node r at past

  pub at_boundaries : BeginsAtBoundaries (flat_of y) y.plan.boundaries o
  at_boundaries t mutex node held at =
      let there : slice_get o.flow.holders mutex ≡ Some (Some t) = ap (λ (hs : List (Option ℕ)). slice_get hs mutex) o.matches.holders ∙ held in
      let below : t < thread_count y = (begins_orderly y.plan s.plan o).holders mutex t there in
      let number : (s.codes.each t below).thread.number ≡ t = s.codes.number t below in
      boundary_by (s.codes.each t below) mutex node (is.recovers.lates t) (is.recovers.records t)
      (subst (λ (k : ℕ). slice_get o.flow.holders mutex ≡ Some (Some k)) (sym number) there)
      (subst (λ (k : ℕ). node_of o.flow k ≡ Some node) (sym number) at) (is.recovers.describe t below)

  -- ---- The abstract run

  abbrev recovered_run : AbstractRun y
  recovered_run = record {
    origin = o;
    config = first_config (flat_of y) o.source memory;
    schedule = [];
    execution = begins memory stable;
    respects = at_boundaries;
  }

  abbrev pub recovered_stands : Simulates y s v
  recovered_stands = gathering_simulates y s v recovered_run is.recovers.lates is.recovers.records (record {
    machine = record {
      count = stand.1 ∙ s.count;
      log = recovered_log;
      mutexes = ap (λ (hs : List (Option ℕ)). length hs) recovered_holders ∙ length-replicate y.runs.mutexes (let none : Option ℕ = None in none) ∙ s.mutexes;
      sound = stand.0;
      short = short;
    };
    memory = refl;
    none = refl;
    fresh = λ n. ap (λ (a : Attempt). a.done) (none_yet (flat_of y).threads n);
    gathers = is.recovers.gathering;
    describe = is.recovers.describe;
    settled = λ word. subst (λ (ws : List Word). last_position (word_at ws word) ≤ (word_at ws word).durable) (sym words_are) (anew_settled words word);
  })

pub recovered_words_simulate : RecoveredWordsSimulate
recovered_words_simulate y s o words is = record { stands = recovered_stands y s o words is; begins = refl }
