-- Where threads begin with whole bodies, in memory whose numbers are stable, the machine simulates an abstract run that begins there.
use Rattle.crash_simulation.proofs.Common.{false}
use Rattle.crash_simulation.proofs.Common.{IsPlan, IsThread, Thread}
use Rattle.crash_simulation.proofs.Common.{IsSectioned, LogView, inl, inr}
use Rattle.expr_code.specs.declared.home.Home.TheVariants.{InFrame}
use Rattle.flow_graph.specs.Liveness.{IsLive}
use Rattle.machine_model.specs.Machine.{live_at}
use Rattle.thread_code.specs.RegistersAtNodes.{frame_loads}
use Rattle.recovered_threads.proofs.Public.{stands_in_word}
use Rattle.crash_simulation.proofs.Common.{◌≡◌, ℕ, List, ◌∷◌, sym, ◌∙◌, ap, arith, subst, Option, Some, None, refl, suc, ◌+◌, ◌<◌, [], length, zero}
use Rattle.crash_simulation.proofs.Common.{replicate, slice_get, map, ℤ, pos, add-zero, option_map, length-replicate, none-some, same_Some, slice_get_within}
use Rattle.crash_simulation.proofs.Common.{slice_get-map, typed, Kind, Holds-zero, first_world, Hart, World, fresh_hart, numbers_from, start_of, code_start}
use Rattle.crash_simulation.proofs.Common.{Phase, Run, starts_simulate, Seen, GraphThread, seen_by, graph_thread_start, lowered, parts, part, Action, Store}
use Rattle.crash_simulation.proofs.Common.{Graph, Part, starts_hold, zero_form, fresh_on_side, Attempt, now, attempt_of, Memory, AreStable, first_config}
use Rattle.crash_simulation.proofs.Common.{memory_in, none_yet, fresh_are_stable, Origin, free_at_boundaries, start_free, start_origin, Program, config}
use Rattle.crash_simulation.proofs.Common.{LogInv, nothing_recorded, starts_standing, HomeCarries, home_of, Home, InRegister, starts_are_short, Plan}
use Rattle.crash_simulation.proofs.Common.{IsNodeOf, IsPendingIn, Enters, locals_are, Arrives, threads_start, Code, between, HasGathered, AbstractRun}
use Rattle.crash_simulation.proofs.Common.{kept_of, now_of, StartSimulates, Simulates, gathered, IsMachineOf, most_ahead, System, IsSystem, thread_count}
use Rattle.crash_simulation.proofs.Common.{flat_of, places_of, ThreadGhost, on_fragment, InPhase, ThreadInv, InFragment}
use Rattle.flow_graph.specs.Lowering.{thread_count as node_count}
use Rattle.recovery_semantics.specs.Executions.{begins}
use Rattle.c_tree.specs.Flats as f
use Rattle.c_tree.specs.Source as m
use Rattle.crash_simulation.proofs.StatesMatchSource.{free_holds_none, none_holds, repeated_or}
use Rattle.crash_simulation.proofs.RecordsAfterCrash.{over_is_caught}
use Rattle.crash_simulation.proofs.StepsAfterMarks.{entry_soon}
use Rattle.crash_simulation.proofs.LoadFreeEnvironment.{bare, bare_agrees, bare_meets, bare_answers, bare_loaded}
use Rattle.region_attempts.specs.Laws.{HoldsNothing}
use Rattle.crash_simulation.proofs.SimulationAtStart.{resting_ghost, resting_thread}

-- ---- Lists

pub row_of : {A : Type 0} (g : ℕ → A) (at count i : ℕ) → i < count → slice_get (map g (numbers_from at count)) i ≡ Some (g (at + i))
row_of g at zero i below = absurd (omega (arith, below))
row_of {A} g at (suc count) zero below = ap (λ (n : ℕ). Some (g n)) (sym (add-zero at))
row_of {A} g at (suc count) (suc i) below =
    let same : at + 1 + i ≡ at + suc i = omega arith in
    row_of g (at + 1) count i (omega (arith, below)) ∙ ap (λ (n : ℕ). Some (g n)) same

part_has_nodes : (ts : List f.Thread) (first n : ℕ) (own : Part) → slice_get (parts ts first) n ≡ Some own → own.first < own.end
part_has_nodes [] first n own h = absurd (none-some own h)
part_has_nodes (t ∷ ts) first zero own h = subst (λ (o : Part). o.first < o.end) (same_Some (part t first) own h) (omega arith)
part_has_nodes (t ∷ ts) first (suc n) own h = part_has_nodes ts (first + node_count t) n own h

-- what is pending of no store
pub pending_free : (p : Plan) (action : Action) (seen : Seen) (x : List ℕ) → seen.pending ≡ None → IsPendingIn p action seen x
pending_free p (Store variable kind next) seen x none = λ store h. absurd (none-some store (sym none ∙ h))
pending_free p action seen x none = tt

-- ---- What is live there

-- no local that stands in the frame is live at a thread's first node
none_live_first : (p : Plan) (plan : IsPlan p) (t : Thread) (is : IsThread p t) → (local word : ℕ) → home_of t.locals local ≡ InFrame word →
    IsLive p.graph local t.part.first → ⊥
none_live_first p plan t is local word home live =
    plan.assigned_first (stands_in_word p plan t is local word home).2.frame t.number t.part is.nodes local live

-- ---- What a life begins with

-- a hart at the first word of its code, with all registers 0; it may have queued something
pub record IsAtFirstWord (y : System) (v : World) (n : ℕ) : Type 0 where
  pub hart : Hart
  pub here : slice_get v.harts n ≡ Some hart
  pub registers : hart.registers ≡ replicate 32 0
  pub pc : hart.pc ≡ code_start y.runs.program n
  pub runs : hart.phase ≡ Run

-- all harts stand so with nothing recorded, no lock is held, and the origin's threads have whole bodies and hold nothing
pub record BeginsLife (y : System) (o : Origin (flat_of y)) (v : World) : Type 0 where
  pub machine : IsMachineOf y v
  pub stable : AreStable o.source (memory_in (places_of y) v.words)
  pub whole : o.flow.graph_threads ≡ map graph_thread_start (lowered (flat_of y)).threads
  pub all_free : o.flow.holders ≡ replicate (length (flat_of y).mutexes) None
  pub free : HoldsNothing (flat_of y) o
  pub fresh : (n : ℕ) → n < thread_count y → IsAtFirstWord y v n
  pub logs : (n : ℕ) → n < thread_count y → LogInv n nothing_recorded nothing_recorded v []
  pub unheld : (lock thread : ℕ) → slice_get v.holders lock ≡ Some (Some thread) → ⊥

-- ---- The abstract run begins at the origin

module _ (y : System) (s : IsSystem y) (o : Origin (flat_of y)) (v : World) (life : BeginsLife y o v) where
  abbrev memory : Memory
  memory = memory_in (places_of y) v.words

  abbrev abstract : AbstractRun y
  abstract = record {
    origin = o;
    config = first_config (flat_of y) o.source memory;
    schedule = [];
    execution = begins memory life.stable;
    respects = free_at_boundaries (flat_of y) y.plan.boundaries o life.free;
  }

  abbrev ghosts : ℕ → ThreadGhost
  ghosts n = resting_ghost y false nothing_recorded n

  none_done : (n : ℕ) → (attempt_of abstract.config n).done ≡ 0
  none_done n = ap (λ (a : Attempt). a.done) (none_yet (flat_of y).threads n)

  -- nobody holds a mutex of the graph's state
  pub flow_free : (lock thread : ℕ) → slice_get o.flow.holders lock ≡ Some (Some thread) → ⊥
  flow_free lock thread held = life.free lock thread (ap (λ (hs : List (Option ℕ)). slice_get hs lock) (sym o.matches.holders) ∙ held)

  pub not_held : (lock : ℕ) (holder : Option ℕ) → slice_get o.flow.holders lock ≡ Some holder → holder ≡ None
  not_held lock None there = refl
  not_held lock (Some thread) there = absurd (flow_free lock thread there)

  abbrev graph_thread : Code y.plan → GraphThread
  graph_thread code = graph_thread_start code.thread.part

  part_there : (code : Code y.plan) → slice_get (lowered (flat_of y)).threads code.thread.number ≡ Some code.thread.part
  part_there code = subst (λ (graph : Graph). slice_get graph.threads code.thread.number ≡ Some code.thread.part) s.plan.lowered code.of.nodes

  pub walks : (code : Code y.plan) → slice_get (now_of y abstract).graph_threads code.thread.number ≡ Some (graph_thread code)
  walks code =
      ap (λ (ts : List GraphThread). slice_get ts code.thread.number) life.whole
      ∙ (slice_get-map graph_thread_start (lowered (flat_of y)).threads code.thread.number ∙ ap (option_map graph_thread_start) (part_there code))

  has_nodes : (n : ℕ) (own : Part) → slice_get (lowered (flat_of y)).threads n ≡ Some own → own.first < own.end
  unfolding lowered
  has_nodes n own there = part_has_nodes (flat_of y).threads 0 n own there

  first_node : (code : Code y.plan) → IsNodeOf code.thread code.thread.part.first
  first_node code = record { from_first = omega arith; below_end = has_nodes code.thread.number code.thread.part (part_there code) }

  -- the thread's log as memory has it
  abbrev seen_log : LogView
  seen_log = record { side = 0; frame = live_at v.words }

  -- a register has 0; a local that is live at the first node is in no word of the frame
  zero_carried : (code : Code y.plan) (local : ℕ) (k : Kind) (home : Home) → home_of code.thread.locals local ≡ home →
      IsLive y.plan.graph local code.thread.part.first → HomeCarries (frame_loads seen_log) (replicate 32 0) home (typed k (pos 0))
  zero_carried code local k (InRegister register) at live = record { held = Holds-zero k; form = repeated_or 32 register 0 ∙ sym (zero_form k) }
  zero_carried code local k (InFrame word) at live = absurd (none_live_first y.plan s.plan code.thread code.of local word at live)

  enters : (code : Code y.plan) →
      Enters y.plan code.thread code.thread.part.first (seen_by (now_of y abstract) (graph_thread code)) seen_log (replicate 32 0)
  enters code = record {
    at_side = fresh_on_side y.plan.log;
    count = length-replicate code.thread.part.locals (pos 0) ∙ locals_are y.plan code.thread s.plan code.of;
    locals = λ local k there live.
        let value = repeated_or code.thread.part.locals local (pos 0) in
        subst (λ (z : ℤ). HomeCarries (frame_loads seen_log) (replicate 32 0) (home_of code.thread.locals local) (typed k z)) (sym value)
        (zero_carried code local k (home_of code.thread.locals local) refl live);
    pending = λ is at. pending_free y.plan is.action (seen_by (now_of y abstract) (graph_thread code)) (replicate 32 0) refl;
  }

  on_its_fragment : (n : ℕ) (below : n < thread_count y) (hart : Hart) → slice_get v.harts (s.codes.each n below).thread.number ≡ Some hart →
      InFragment y v abstract (s.codes.each n below) (ghosts n) hart (graph_thread (s.codes.each n below)) Arrives 0
  on_its_fragment n below hart here =
      let code = s.codes.each n below in
      let number = code.thread.number in
      let same = s.codes.number n below in
      let at = life.fresh number (omega (arith, below, same)) in
      let start : code_start y.runs.program number ≡ code.program.start = ap (λ (p : Program). p.start) (sym (s.own n below).program) in
      record {
        environment = bare y s v n below;
        answers = bare_answers y s v n below (now abstract.config);
        loaded = bare_loaded y s v n below abstract (ghosts n);
        view = seen_log;
        at_side = λ none. absurd (none refl);
        frame = λ word framed. refl;
        fragment =
            threads_start y.plan code.thread y.runs.program code.program code.is v number (bare y s v n below)
            (seen_by (now_of y abstract) (graph_thread code)) seen_log (replicate 32 0) (bare_meets y s v n below) (bare_agrees y s v n below) (first_node code)
            (record {
              hart = at.hart;
              here = at.here;
              runs = at.runs;
              is = ap (λ (registers : List ℕ). config registers at.hart.pc) at.registers ∙ ap (config (replicate 32 0)) (at.pc ∙ start);
            })
            (enters code);
        fits = (record { going = sym (none_done number); rest = refl; giving = refl; committed = refl }, refl, λ on_time none. refl);
        owes = tt;
        soon =
            let all = entry_soon y s n below code.thread.part.first (length hart.queue) (first_node code) (life.machine.short number hart here) in
            let is : most_ahead y number ≡ most_ahead y n = ap (most_ahead y) same in
            (omega (arith, all, is), omega (arith, is));
      }

  outside : (n : ℕ) → IsSectioned (ghosts n) → ⊥
  outside n (inl some) = some refl
  outside n (inr both) = both.1 refl

  pub thread : (n : ℕ) (below : n < thread_count y) → ThreadInv y v abstract (s.codes.each n below) (ghosts n)
  thread n below =
      let code = s.codes.each n below in
      let number = code.thread.number in
      let inside : number < thread_count y = omega (arith, below, s.codes.number n below) in
      let log = life.logs number inside in
      let at = life.fresh number inside in
      let runs : Run ≡ log.hart.phase = sym at.runs ∙ ap (λ (h : Hart). h.phase) (same_Some _ _ (sym at.here ∙ log.here)) in
      let none = free_holds_none number 0 (kept_of y abstract).holders not_held in
      resting_thread y v abstract code false nothing_recorded n (graph_thread code) log (between none refl) (none_done number) (walks code)
      (subst (λ (p : Phase). InPhase y v abstract code (ghosts n) log.hart (graph_thread code) p) runs
      (on_fragment Arrives 0 (on_its_fragment n below log.hart log.here))) (λ sectioned. absurd (outside n sectioned))

  pub all_run : (h : ℕ) (hart : Hart) → slice_get v.harts h ≡ Some hart → HasGathered v h nothing_recorded hart.phase
  all_run h hart there =
      let at = life.fresh h (omega (arith, slice_get_within v.harts h hart there, life.machine.count)) in
      let runs : Run ≡ hart.phase = sym at.runs ∙ ap (λ (x : Hart). x.phase) (same_Some _ _ (sym at.here ∙ there)) in
      subst (λ (p : Phase). HasGathered v h nothing_recorded p) runs tt

  abbrev pub life_stands : Simulates y s v
  life_stands = record {
    machine = life.machine;
    abstract = abstract;
    memory = refl;
    ghosts = ghosts;
    each = thread;
    locks = gathered (record { each = all_run }) (record {
      held = λ lock n there. absurd (life.unheld lock n there);
      holds = λ lock n there. absurd (flow_free lock n there);
      giving = λ lock n inside gives. absurd (none-some lock gives);
      given = λ lock n inside gives there. none-some lock gives;
    });
    caught_up = λ n below all. over_is_caught y v abstract (s.codes.each n below) (ghosts n) (thread n below) refl refl;
  }

-- ---- The start: the first life begins at the source's

module _ (y : System) (s : IsSystem y) where
  abbrev pub first : World
  first = first_world y.runs

  abbrev pub first_origin : Origin (flat_of y)
  first_origin = start_origin (flat_of y) s.plan.formed s.disciplined

  hart_first : (n : ℕ) → n < length y.runs.program → slice_get first.harts n ≡ Some (fresh_hart y.runs.program Run n)
  unfolding start_of
  hart_first n below =
      row_of (fresh_hart y.runs.program Run) 0 (length y.runs.program) n below ∙ ap (λ (k : ℕ). Some (fresh_hart y.runs.program Run k)) (omega arith)

  holders_are : first.holders ≡ replicate y.runs.mutexes None
  unfolding start_of
  holders_are = refl

  log_is : y.plan.log ≡ first.log
  unfolding start_of
  log_is = s.log

  pub first_life : BeginsLife y first_origin first
  first_life = record {
    machine = record {
      count = (starts_simulate y.runs.log y.runs.program y.runs.mutexes y.runs.initial).1 ∙ s.count;
      log = log_is;
      mutexes = ap length holders_are ∙ length-replicate y.runs.mutexes None ∙ s.mutexes;
      sound = (starts_simulate y.runs.log y.runs.program y.runs.mutexes y.runs.initial).0;
      short = starts_are_short y.runs.log y.runs.program y.runs.mutexes y.runs.initial;
    };
    stable = subst (AreStable first_origin.source)
        (sym (starts_hold y.runs.log (flat_of y) y.runs.program y.runs.mutexes y.runs.initial s.plan.formed s.initial))
        (fresh_are_stable (m.start (flat_of y)));
    whole = refl;
    all_free = refl;
    free = start_free (flat_of y) s.plan.formed s.disciplined;
    fresh = λ n below. record {
      hart = fresh_hart y.runs.program Run n;
      here = hart_first n (omega (arith, below, s.count));
      registers = refl;
      pc = refl;
      runs = refl;
    };
    logs = λ n below. starts_standing y.runs.log y.runs.program y.runs.mutexes n y.runs.initial (omega (arith, below, s.count));
    unheld = λ lock n there. none_holds y.runs.mutexes lock n (ap (λ (hs : List (Option ℕ)). slice_get hs lock) (sym holders_are) ∙ there);
  }

  abbrev pub stands : Simulates y s first
  stands = life_stands y s first_origin first first_life

pub start_simulates : StartSimulates
start_simulates y s = stands y s
