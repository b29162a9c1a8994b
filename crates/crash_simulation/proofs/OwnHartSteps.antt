-- A step of a thread's own hart: what the machine is to know of it.
use Rattle.crash_simulation.proofs.Common.{false}
use Rattle.crash_simulation.proofs.Common.{Bool, Record, cond-true, is_some, node_of, option_map, same_Some, steps_begun}
use Rattle.crash_simulation.specs.InstructionSteps.{IsTold}
use Rattle.crash_simulation.specs.ThreadGhosts.{tells_write}
use Rattle.crash_simulation.proofs.Common.{◌≡◌, ℕ, List, sym, ◌∙◌, ap, arith, subst, true, Option, Some, None, refl, [], length, slice_get, nat_tests, Step}
use Rattle.crash_simulation.proofs.Common.{Log, Hart, World, after_event, Effect, Run, Seen, GraphThread, FlowState, seen_by, boundary_effects, IsOnSide}
use Rattle.crash_simulation.proofs.Common.{Attempt, Memory, memory_in, recorded_by, IsRecoverable, LogInv, IsSideOf, IsElsewhere, config_of, IsNext}
use Rattle.crash_simulation.proofs.Common.{steps_keep, ends_committed, begins_standing, IsInPhase, Places, Code, DescribesAs, AbstractRun, kept_of, now_of}
use Rattle.crash_simulation.proofs.Common.{begins, Site, OwnStep, Releases, StepsOrStutters, with_ghost, MayStore, thread_of, IsCounted, AtCoreNow, AreHeld}
use Rattle.crash_simulation.proofs.Common.{System, IsSystem, places_of, ThreadGhost, ThreadInv, committed, HasRecords, AreNamed, Boundary, FrameIsComing}
use Rattle.crash_simulation.proofs.Common.{contains_none, nothing_recorded, same_there}
use Rattle.crash_simulation.proofs.FrameWords.{from_nothing}
use Rattle.crash_simulation.specs.Accesses.{Access}
use Rattle.crash_simulation.proofs.PendingFlushes.{Leads, Passage}
use Rattle.crash_simulation.proofs.LocksAfterStep.{GoneOn, LockStep, locked_after}
use Rattle.crash_simulation.proofs.ThreadViews.{describes_over, log_at, records_over}

-- the ghost state of a thread on its way between boundaries, with these cleans and steps ahead, where its hart has stored last, and what it has accessed first
abbrev pub going : ThreadGhost → (cleans : List Effect) → (before_mark : ℕ) → (last_stores : ℕ → Option ℕ) → (first_accesses : ℕ → Option Access) → ThreadGhost
going c cleans before_mark last_stores first_accesses = record {
  old = nothing_recorded;
  new = c.new;
  rest = [];
  committed = true;
  cleans = cleans;
  giving = None;
  before_mark = before_mark;
  late = c.late;
  last_stores = last_stores;
  first_accesses = first_accesses;
}

-- ---- The step

-- its thread: the run, the thread's code and ghost state, its invariant, where its graph thread is, and the machine after a step of the hart
pub record View (y : System) (w : World) : Type 0 where
  pub b : AbstractRun y
  pub code : Code y.plan
  pub ghosts : ℕ → ThreadGhost
  pub c : ThreadGhost
  pub t : ThreadInv y w b code c
  pub n : ℕ
  pub v : World
  pub places : Places
  pub graph_thread : GraphThread
  pub seen : Seen

-- a hart at the code of its thread's node
pub record AtNode (y : System) (s : IsSystem y) (w : World) (h : ℕ) : Type 0 where
  pub hart : Site y s w h
  pub core : AtCoreNow hart

module _ {y : System} {s : IsSystem y} {w : World} {h : ℕ} (site : Site y s w h) where
  abbrev pub view : View y w
  view = record {
    b = site.stands.abstract;
    code = s.codes.each h site.below;
    ghosts = site.stands.ghosts;
    c = site.stands.ghosts h;
    t = thread_of site;
    n = (s.codes.each h site.below).thread.number;
    v = after_event y.runs.program w (Step (s.codes.each h site.below).thread.number);
    places = (s.codes.each h site.below).is.places;
    graph_thread = (thread_of site).graph_thread;
    seen = seen_by (now_of y site.stands.abstract) (thread_of site).graph_thread;
  }

  open view use {b, code, ghosts, c, t, n, v, places}

  -- the thread in a later machine, with what is begun and in memory then
  abbrev pub step_to : World → (pending : List ℕ) (memory : Memory) (attempts : List Attempt) → Leads y b pending memory attempts → ThreadGhost → Hart →
      Passage y code
  step_to later pending memory attempts leads new after = record {
    w = w;
    b = b;
    c = c;
    old = t.log.hart;
    v = later;
    pending = pending;
    memory = memory;
    attempts = attempts;
    leads = leads;
    new = new;
    after = after;
  }

  -- its log where a boundary begins
  pub log_begins : (boundary : Boundary) → boundary.log ≡ y.plan.log → boundary.thread ≡ n → (framed : List ℕ) (frame : ℕ → ℕ) (side resume : ℕ)
      (x : List ℕ) → c.rest ≡ [] → IsOnSide y.plan.log side x → IsSideOf c.new side → IsRecoverable boundary resume x →
      FrameIsComing boundary framed frame w.words t.log.hart.queue →
      LogInv n c.new (recorded_by boundary framed frame side resume x) w (boundary_effects boundary side resume x)
  log_begins boundary log thread framed frame side resume x over on is recoverable comes =
      let here : LogInv n c.old c.new w [] = subst (λ (rest : List Effect). LogInv n c.old c.new w rest) over t.log in
      let own : LogInv boundary.thread c.old c.new w [] = subst (λ (k : ℕ). LogInv k c.old c.new w []) (sym thread) here in
      subst (λ (k : ℕ). LogInv k c.new (recorded_by boundary framed frame side resume x) w (boundary_effects boundary side resume x)) thread
      (begins_standing boundary framed frame c.old c.new side resume x w (log ∙ site.stands.machine.log) own
      (record { registers = subst (λ (l : Log). IsOnSide l side x) site.stands.machine.log on; is = is }) recoverable
      (subst (λ (hart : Hart). FrameIsComing boundary framed frame w.words hart.queue)
      (same_there (slice_get w.harts n) t.log.hart own.hart t.log.here (ap (slice_get w.harts) (sym thread) ∙ own.here)) comes))

  pub same_number : n ≡ h
  same_number = s.codes.number h site.below

  -- what OwnStep says, of the thread's number
  pub record StepOf (k : ℕ) : Type 0 where
    pub next : AbstractRun y
    pub led : StepsOrStutters y b k next
    pub memory : memory_in (places_of y) (after_event y.runs.program w (Step k)).words ≡ next.config.memory
    pub stores_own : (hart : Hart) (effect : Effect) → IsNext y.runs.program w k hart effect → MayStore y b k effect
    pub new : ThreadGhost
    pub own : ThreadInv y (after_event y.runs.program w (Step k)) next code new
    pub gone : GoneOn own.log.hart.phase
    pub held : AreHeld w ghosts (now_of y b) → AreHeld (after_event y.runs.program w (Step k)) (with_ghost ghosts k new) (now_of y next)
    pub counted : IsCounted y w b k (begins led) c new
    pub released : Releases y w k c new

  pub own_step : IsInPhase w h Run → StepOf n → OwnStep y s w h site.stands
  own_step i o =
      let p : StepOf h = subst StepOf same_number o in
      let later = after_event y.runs.program w (Step h) in
      let here : slice_get later.harts h ≡ Some p.own.log.hart = ap (slice_get later.harts) (sym same_number) ∙ p.own.log.here in
      record {
        below = site.below;
        next = p.next;
        led = p.led;
        memory = p.memory;
        stores_own = p.stores_own;
        ghost = p.new;
        own = p.own;
        locks = locked_after y s w b ghosts h site.stands.machine.log site.stands.machine.sound i p.next p.new p.own.log.hart here p.gone
            p.stores_own site.stands.locks p.held;
        counted = p.counted;
        released = p.released;
      }

  -- ---- Locks

  pub own_giving : c.giving ≡ (ghosts n).giving
  own_giving = ap (λ (k : ℕ). (ghosts k).giving) (sym same_number)

  abbrev pub locks_to : (next : AbstractRun y) → ThreadGhost → length (now_of y next).graph_threads ≡ length (now_of y b).graph_threads → LockStep
  locks_to next new count = record { w = w; v = v; ghosts = ghosts; h = n; ghost = new; now = now_of y b; next = now_of y next; count = count }

  -- where holders stay, and what the thread gives back
  pub held_still : (next : AbstractRun y) (new : ThreadGhost) → v.holders ≡ w.holders → (now_of y next).holders ≡ (now_of y b).holders →
      length (now_of y next).graph_threads ≡ length (now_of y b).graph_threads → new.giving ≡ c.giving →
      AreHeld w ghosts (now_of y b) → AreHeld v (with_ghost ghosts n new) (now_of y next)
  held_still next new holders now_holders count gives held = grind (arith, nat_tests)

-- ---- The thread, between boundaries

module _ {y : System} {s : IsSystem y} {w : World} {h : ℕ} (site : AtNode y s w h) where
  open view site.hart use {b, code, c, t, n, v}

  -- its log after a step that stores nothing to that
  abbrev pub log_going : (named : List ℕ) → AreNamed named c.new → IsElsewhere y.runs.program w named n n → (hart : Hart) → slice_get v.harts n ≡ Some hart →
      LogInv n nothing_recorded c.new v []
  log_going named among elsewhere = log_at (steps_keep y.runs.program named n n nothing_recorded c.new w [] site.hart.stands.machine.sound
      (from_nothing (subst (λ (rest : List Effect). LogInv n c.old c.new w rest) site.core.goes.goes.rest t.log))
      (λ word has. absurd (contains_none word has)) among elsewhere)

  -- what it says then, where the same is kept
  pub records_going : (next : AbstractRun y) → kept_of y next ≡ kept_of y b → (cleans : List Effect) (before_mark : ℕ) (last_stores : ℕ → Option ℕ)
      (first_accesses : ℕ → Option Access) (log : LogInv n nothing_recorded c.new v []) →
      HasRecords y next code (going c cleans before_mark last_stores first_accesses)
      (committed v n (going c cleans before_mark last_stores first_accesses) log.hart)
  records_going next same cleans before_mark last_stores first_accesses log =
      records_over y next code (going c cleans before_mark last_stores first_accesses) refl refl
      (ends_committed v.log n nothing_recorded c.new (config_of v log.hart []) log.log refl)
      (subst (λ (kept : FlowState). DescribesAs y.plan code kept c.late c.new) (sym same) (describes_over y b code c t.records site.core.goes.goes.committed))

  -- what the kept record tells of a write
  pub told_new : tells_write c ≡ is_some c.new.written
  told_new = ap (λ (r : Record). is_some r.written) (cond-true c.committed c.new c.old site.core.goes.goes.committed)

  pub told_at : {begun : Bool} → c.late ≡ false → begun ≡ true → steps_begun b.config n ≡ 0 → (node : ℕ) →
      node_of (now_of y b) n ≡ Some node → IsTold y node (tells_write c)
  told_at on_time begun first node stands =
      let same : (view site.hart).graph_thread.at ≡ node = same_Some _ _ (sym (ap (option_map (λ (z : GraphThread). z.at)) t.walks) ∙ stands) in
      subst (λ (k : ℕ). IsTold y k (tells_write c)) same
      (λ chosen. told_new ∙ site.core.told chosen, λ plain. told_new ∙ site.core.untold plain on_time first)
