-- The machine simulates an abstract run after all events, and its account is that run's.
use Rattle.crash_simulation.proofs.RecordsAfterCrash.{lates}
use Rattle.crash_simulation.specs.InstructionSteps.{again, outside}
use Rattle.crash_simulation.proofs.LastReleases.{describes_test_as}
use Rattle.crash_simulation.proofs.Common.{LocalStoresStep, stores_local}
use Rattle.crash_simulation.proofs.Common.{◌≡◌, ◌≢◌, ℕ, List, ◌∷◌, sym, ◌∙◌, ap, arith, subst, true, false, Option, Some, None, refl, ◌+◌, ◌<◌, [], ◌++◌}
use Rattle.crash_simulation.proofs.Common.{length, Bool, inl, inr, ◌==◌, slice_get, ◌&&◌, not, true≢false, ◌≤◌, ap₂, none-some, same_Some, holds_none}
use Rattle.crash_simulation.proofs.Common.{last_position, Event, Step, Evict, Crash, State, after_from, runs_from, ended_from, first_world, Hart, World}
use Rattle.crash_simulation.proofs.Common.{happens, after_event, stepped, after_events, durable_point, after_crash_of, Steps, is_running, completing}
use Rattle.crash_simulation.proofs.Common.{passes_mark, with_step, with_all_kept, steps_after, steps_along, releases_last, Slot, Phase, Done}
use Rattle.crash_simulation.proofs.Common.{Take, Wait, Resume, Run, Ended, log_stays, below_or_past, now, Program, point_in, IsInPhase, AreMarksOf}
use Rattle.crash_simulation.proofs.Common.{FragmentsGoOn, AbstractRun, kept_of, AreCounted, Beginning, SimulatesCounted, MachinesResume, first_beginning}
use Rattle.crash_simulation.proofs.Common.{is_bound, begins, IsUnlocked, was_unlocked, Site, IsReadyToStep, calls, OwnStep, FragmentsStep, CoresStep, Nears}
use Rattle.crash_simulation.proofs.Common.{EventsStand, RunsSimulate, SectionsEndAtPoints, loses_point, RecoveredAreCounted, sections_kept, one_if}
use Rattle.crash_simulation.proofs.Common.{IsReleasedOf, ended_in_machine, SectionsAreKept, SimulatesBut, Simulates, anybody, System, IsSystem, thread_count}
use Rattle.crash_simulation.proofs.Common.{flat_of, ThreadGhost, lowered, now_of}
use Rattle.crash_simulation.proofs.Common.{boundary_fences, AreFencesCounted}
use Rattle.crash_simulation.proofs.Common.{is_fence, finishes_fence, is_point_store, stores_point, same_or_other, last_store_after, first_access_after}
use Rattle.std.specs.Prelude.{if◌then◌else◌}
use Rattle.machine_events.specs.declared.event.Event.TheVariants.{Start}
use Rattle.source_machine.specs.Lives.{end_lives, ends_life}
use Rattle.machine_model.specs.Schedule.{KeepsOn, begins_life, released_along}
use Rattle.crash_simulation.specs.StorePositions.{stores_into}
use Rattle.crash_simulation.proofs.BoundaryFences.{joined_fences, same_fences}
use Rattle.crash_simulation.specs.Accesses.{Access}
use Rattle.crash_simulation.proofs.CompletedEffects.{accessed_none, completes_none, completes_other, last_unless}
use Rattle.crash_simulation.specs.BoundaryPassages.{passages}
use Rattle.crash_simulation.proofs.BoundaryPassages.{ArePassed, FollowsBegun, led_graph, passed_from, step_passed, then_passes}
use Rattle.crash_simulation.specs.AccountRelation.{SimulatesLives, beginning_after, next_beginning}
use Rattle.crash_simulation.specs.ReleasedSections.{ended_by}
use Rattle.crash_simulation.specs.InstructionSteps.{on_fragment, at_core}
use Rattle.crash_simulation.proofs.LifeAccounts.{begins_at, from_after, one_more, one_more_ends, schedule_is}
use Rattle.crash_simulation.proofs.LifeStarts.{HasBegun, start_goes, start_then_counted}
use Rattle.crash_simulation.proofs.AccountsBeforeCommit.{released_by, none_released, stays_done, phase_releases, kept_crashed, recovered_counted}
use Rattle.crash_simulation.proofs.ReadBytes.{none_bound}
use Rattle.crash_simulation.proofs.AccountsBeforeCommit.{start_counted, crash_counted, evicted_counted, own_step_counted, GoesOnBy, led_now}
use Rattle.crash_simulation.proofs.LastReleases.{holders_stay_none, at_most_one}
use Rattle.crash_simulation.proofs.LoadFreeEnvironment.{none_ahead}
use Rattle.crash_simulation.proofs.ReadyHarts.{right_empty, runs_ready}
use Rattle.crash_simulation.proofs.CallSteps.{calls_step}
use Rattle.crash_simulation.proofs.RecordsAfterCrash.{caught_is_over, left, left_describes, left_point}
use Rattle.crash_simulation.proofs.SimulationInRecovery.{SimulatesStill, still_simulates, takes_still, waits_still, stopped_still, resumes_still}
use Rattle.crash_simulation.proofs.StepSimulation.{simulates_after, evicted_simulates}
use Rattle.crash_simulation.proofs.LongestAttempts.{AreFurthest, led_of}
use Rattle.crash_simulation.proofs.CommitSimulation.{all_caught_up, none_waits}
use Rattle.crash_simulation.proofs.Sections.{AreSameSections, EndAsLeft, led_sections, same_end, same_then_end, kept_between}
use Rattle.crash_simulation.proofs.AccountUpdates.{begun_by, account_stays, no_mark, nothing_counted, AgreeOnSteps}
use Rattle.crash_simulation.proofs.LocksAfterStep.{own_ghost, other_ghost}
use Rattle.crash_simulation.proofs.OwnHartSteps.{view, same_number}
use Rattle.crash_simulation.proofs.StatesMatchSource.{kept_matches}
use Rattle.crash_simulation.proofs.AccountUpdates as positions
use Rattle.crash_simulation.proofs.SimulationAtStart as starting

-- ---- Where steps are bound, no step is begun

module _ (law : FragmentsGoOn) {y : System} {s : IsSystem y} {w : World} {h : ℕ} (site : Site y s w h) where
  open site use {stands, below}
  open view site use {code, c, t, n, places, graph_thread, seen}

  abbrev PassesNone : Type 0
  PassesNone = is_bound c ≡ true → passes_mark y.runs.marks y.runs.program w h ≡ false

  never_bound : c.committed ≡ true → PassesNone
  never_bound committed bound = absurd (true≢false (sym bound ∙ none_bound c committed))

  passes_none : IsReadyToStep site → PassesNone
  passes_none (on_fragment exit steps o) bound =
      let marks : AreMarksOf y.runs.marks n o.environment =
      sym (o.fragment.meets.marks ∙ ap (λ (p : Program). p.nodes) (code.is.of_program ∙ (s.own h below).program)) in
      subst (λ (k : ℕ). passes_mark y.runs.marks y.runs.program w k ≡ false) (same_number site)
      ((law y.plan code.thread places y.runs.program w n o.environment _ steps _ stands.machine.sound o.fragment).1 y.runs.marks marks)
  passes_none (calls exit o is) bound =
      let over : c.rest ≡ [] = right_empty c.cleans c.rest (none_ahead y s w h below o.environment _ _ o.fragment) in
      never_bound (caught_is_over y w stands.abstract code c t over (stands.caught_up h below (λ e. e))) bound
  passes_none (stores_local (again o)) bound = never_bound o.goes.goes.committed bound
  passes_none (stores_local (outside from local number o)) bound =
      let over : c.rest ≡ [] = right_empty c.cleans c.rest (none_ahead y s w h below o.environment _ _ o.fragment) in
      never_bound (caught_is_over y w stands.abstract code c t over (stands.caught_up h below (λ e. e))) bound
  passes_none (at_core o free) bound = never_bound o.goes.goes.committed bound

-- ---- Harts and their marks

pub step_of : (h n : ℕ) → Step h ≡ Step n → h ≡ n
step_of h n e = cc

pub not_running : (w : World) (h : ℕ) (hart : Hart) → slice_get w.harts h ≡ Some hart → is_running hart.phase ≡ false → IsInPhase w h Run → ⊥
not_running w h hart here off i = true≢false (sym (ap is_running (ap (λ (x : Hart). x.phase) (same_Some hart i.hart (sym here ∙ i.here)) ∙ i.phase_is)) ∙ off)

start_no_crash : Start ≡ Crash → ⊥
start_no_crash e = cc e

-- ---- What an event does

-- the steps of the source that it begins
abbrev pub begun_in : System → World → Event → List ℕ
begun_in y w (Step h) = begun_by (passes_mark y.runs.marks y.runs.program w h) h []
begun_in y w (Evict line mask) = []
begun_in y w Crash = []
begun_in y w Start = []

-- the account of the steps then, but for those that are kept by it
abbrev account_by : System → World → Event → Steps → Steps
account_by y w (Step h) steps = with_step y.runs.marks y.runs.program w h steps
account_by y w event steps = steps

-- what is kept by an event by which the life goes on
kept_by : (y : System) (w : World) (event : Event) (steps : Steps) → KeepsOn event →
    with_all_kept w.log (after_event y.runs.program w event).words (length y.runs.program) (account_by y w event steps)
    ≡ steps_after y.runs.marks y.runs.program w event steps
unfolding steps_after
kept_by y w (Step h) steps on = refl
kept_by y w (Evict line mask) steps on = refl
kept_by y w Crash steps on = absurd on
kept_by y w Start steps on = absurd on

-- it begins no other life
pub none_begins : (w : World) (event : Event) → KeepsOn event → begins_life w event ≡ false
none_begins w (Step h) on = refl
none_begins w (Evict line mask) on = refl
none_begins w Crash on = absurd on
none_begins w Start on = absurd on

-- where the account begins then
abbrev pub beginning_by : (y : System) → World → Event → AbstractRun y → Beginning → Beginning
beginning_by y w event b g = if begins_life w event then next_beginning y g b.schedule else g

module _ (y : System) (s : IsSystem y) (w : World) (event : Event) (old : Simulates y s w) where
  open y.runs use {marks, program}

  abbrev later_world : World
  later_world = after_event program w event

  -- the boundaries that the thread's steps pass which are begun by it
  abbrev pub passed_in : (thread : ℕ) → ℕ
  passed_in n = passages (lowered (flat_of y)) y.plan.boundaries (now_of y old.abstract) (begun_in y w event) n

  -- no thread stands late
  abbrev pub AreOnTime : {u : World} {waiting : ℕ → Type 0} → SimulatesBut y s u waiting → Type 0
  AreOnTime z = (n : ℕ) → n < thread_count y → (z.ghosts n).late ≡ false

  -- the source goes on by these steps; a thread has to give back what it had, or what its step unlocks; and the graph goes on by the steps, which
  -- pass boundaries
  -- as points are stored
  pub record Accounts {waiting : ℕ → Type 0} (new : SimulatesBut y s later_world waiting) : Type 0 where
    pub source : now new.abstract.config ≡ after_from (now old.abstract.config) (begun_in y w event)
    pub runs : runs_from (now old.abstract.config) (begun_in y w event) ≡ true
    pub unlocked : (n mutex : ℕ) → event ≡ Step n → (new.ghosts n).giving ≡ Some mutex →
        IsUnlocked (now old.abstract.config) n (passes_mark marks program w n) (old.ghosts n).giving mutex
    pub graph : FollowsBegun y (now_of y old.abstract) (now_of y new.abstract) (begun_in y w event)
    pub passed : (n : ℕ) → n < thread_count y → ArePassed y (stores_point program w event n) (passed_in n)
        old.abstract (old.ghosts n) new.abstract (new.ghosts n) n
    pub on_time : AreOnTime new

  -- while the life goes on, each attempt comes as far as any before; a hart that executes instructions is one step nearer to its next mark by its own steps;
  -- what is finished of fences no boundary has more ahead; a store of a hart is its last one then, and an access its first one if there was none; and where no
  -- thread was late, the account goes on
  pub record Continues {waiting : ℕ → Type 0} (new : SimulatesBut y s later_world waiting) : Type 0 where
    pub counted : AreOnTime old → Accounts new
    pub tried : AreFurthest old.abstract.config → AreFurthest new.abstract.config
    pub others : (n : ℕ) → event ≢ Step n → (new.ghosts n).giving ≡ (old.ghosts n).giving
    pub stays : (n : ℕ) → (event ≡ Step n → IsInPhase w n Run → ⊥) → (new.ghosts n).before_mark ≡ (old.ghosts n).before_mark
    pub nears : (n : ℕ) → event ≡ Step n → IsInPhase w n Run → Nears y w n (passes_mark marks program w n) (old.ghosts n).before_mark (new.ghosts n).before_mark
    pub fences : (n : ℕ) → AreFencesCounted (boundary_fences y.plan.log) (finishes_fence program w event n) (stores_point program w event n)
        (old.ghosts n).rest (new.ghosts n).rest
    pub last : (n word : ℕ) → (new.ghosts n).last_stores word ≡ last_store_after program w event n word ((old.ghosts n).last_stores word)
    pub accesses : (n byte : ℕ) → (new.ghosts n).first_accesses byte ≡ first_access_after program w event n byte ((old.ghosts n).first_accesses byte)

  -- the steps are accounted so, and what the machine released
  abbrev IsCountedThen : {waiting : ℕ → Type 0} → SimulatesBut y s later_world waiting → (account : Steps → Steps) → Type 0
  IsCountedThen new account = (g : Beginning) (steps : Steps) (r : ℕ → ℕ) → AreCounted y g w old.abstract old.ghosts steps r →
      AreCounted y (beginning_by y w event old.abstract g) later_world new.abstract new.ghosts (account steps) (released_by program w event r)

  -- the machine simulates an abstract run then, but commits may still be to be taken; sections are kept as they were
  record Moves : Type 0 where
    next : SimulatesBut y s later_world anybody
    counted : IsCountedThen next (account_by y w event)
    sections : (n : ℕ) → AreSameSections y old.abstract next.abstract n
    on : Continues next

  -- the machine simulates an abstract run then, and sections of each thread end as it has left them, in the life that goes on; where another one begins, the
  -- one before has ended
  pub record GoesOn : Type 0 where
    pub next : Simulates y s later_world
    pub counted : IsCountedThen next (steps_after marks program w event)
    pub ends : begins_life w event ≡ false → (n : ℕ) → EndAsLeft y old.abstract next.abstract n
    pub on : KeepsOn event → Continues next
    pub whole : begins_life w event ≡ true → ends_life old.abstract.origin.source old.abstract.schedule ≡ true
    pub anew : begins_life w event ≡ true → HasBegun y s later_world next
    -- where harts have stored last, and what they have accessed first
    pub last : (n word : ℕ) → (next.ghosts n).last_stores word ≡ last_store_after program w event n word ((old.ghosts n).last_stores word)
    pub accesses : (n byte : ℕ) → (next.ghosts n).first_accesses byte ≡ first_access_after program w event n byte ((old.ghosts n).first_accesses byte)
    -- a crash cuts boundaries off, and nothing else does
    pub fences : event ≢ Crash → (n : ℕ) → n < thread_count y →
        AreFencesCounted (boundary_fences y.plan.log) (finishes_fence program w event n) (stores_point program w event n) (old.ghosts n).rest
        (next.ghosts n).rest
    pub cut_off : event ≡ Crash → (n : ℕ) → (next.ghosts n).rest ≡ []

  no_crash : KeepsOn event → event ≢ Crash
  no_crash keeps is = subst KeepsOn is keeps

  -- what is committed then is taken so
  commits_move : KeepsOn event → Moves → GoesOn
  commits_move keeps moves =
      let c = all_caught_up y s later_world moves.next in
      let logs = log_stays program w event old.machine.sound in
      record {
        next = none_waits y s later_world moves.next c;
        counted = λ g steps r counted.
            subst (λ (z : Steps). AreCounted y (beginning_by y w event old.abstract g) later_world c.stands.abstract c.stands.ghosts z
            (released_by program w event r))
            ((λ i. with_all_kept (logs i) later_world.words ((sym s.count) i) (account_by y w event steps)) ∙ kept_by y w event steps keeps)
            (c.counted (beginning_by y w event old.abstract g) (account_by y w event steps) (released_by program w event r) (moves.counted g steps r counted));
        ends = λ none n. same_then_end y old.abstract moves.next.abstract n c.stands.abstract (moves.sections n) (c.ends n);
        whole = λ begins. absurd (true≢false (sym begins ∙ none_begins w event keeps));
        anew = λ begins. absurd (true≢false (sym begins ∙ none_begins w event keeps));
        fences = λ other n below.
            coe 0 1 (j. AreFencesCounted (boundary_fences y.plan.log) (finishes_fence program w event n) (stores_point program w event n) (old.ghosts n).rest
            ((sym (c.rest n)) j)) (moves.on.fences n);
        cut_off = λ is. absurd (no_crash keeps is);
        last = last_then;
        accesses = accesses_then;
        on = λ on. record {
          counted = λ on_time.
              let were = moves.on.counted on_time in
              record {
                source = c.source ∙ were.source;
                runs = were.runs;
                unlocked = λ n mutex own gives. were.unlocked n mutex own (sym (c.giving n) ∙ gives);
                graph = record { runs = were.graph.runs; is = c.states ∙ were.graph.is };
                passed = λ n below.
                    then_passes y (stores_point program w event n) (passed_in n) old.abstract moves.next.abstract c.stands.abstract (old.ghosts n)
                    (moves.next.ghosts n) (c.stands.ghosts n) n (were.passed n below) (c.passed n below (were.on_time n below));
                on_time = λ n below. c.on_time n below (were.on_time n below);
              };
          tried = λ furthest. c.tried (moves.on.tried furthest);
          others = λ n other. c.giving n ∙ moves.on.others n other;
          stays = λ n other. c.ahead n ∙ moves.on.stays n other;
          nears = λ n own i.
              coe 0 1 (j. Nears y w n (passes_mark marks program w n) (old.ghosts n).before_mark (sym (c.ahead n) j)) (moves.on.nears n own i);
          fences = λ n.
              coe 0 1 (j. AreFencesCounted (boundary_fences y.plan.log) (finishes_fence program w event n) (stores_point program w event n) (old.ghosts n).rest
              ((sym (c.rest n)) j)) (moves.on.fences n);
          last = last_then;
          accesses = accesses_then;
        };
      }
    where
      last_then : (n word : ℕ) → ((all_caught_up y s later_world moves.next).stands.ghosts n).last_stores word
          ≡ last_store_after program w event n word ((old.ghosts n).last_stores word)
      last_then n word =
          ap (λ (m : ℕ → Option ℕ). m word) ((all_caught_up y s later_world moves.next).last n) ∙ moves.on.last n word

      accesses_then : (n byte : ℕ) → ((all_caught_up y s later_world moves.next).stands.ghosts n).first_accesses byte
          ≡ first_access_after program w event n byte ((old.ghosts n).first_accesses byte)
      accesses_then n byte =
          ap (λ (m : ℕ → Option Access). m byte) ((all_caught_up y s later_world moves.next).accesses n) ∙ moves.on.accesses n byte

-- ---- Whatever happens

pub not_there : (y : System) (w : World) (h : ℕ) → slice_get w.harts h ≡ None → w ≡ after_event y.runs.program w (Step h)
unfolding happens
not_there y w h none = sym (ap (λ (o : Option Hart). (stepped y.runs.program w h o).0) none)

module _ (fragments_step : FragmentsStep) (cores_step : CoresStep) (local_stores_step : LocalStoresStep) where
  pub own_by : (y : System) (s : IsSystem y) (w : World) (h : ℕ) (site : Site y s w h) → IsInPhase w h Run → IsReadyToStep site → OwnStep y s w h site.stands
  own_by y s w h site i (on_fragment exit steps o) = fragments_step y s w h site i exit steps o
  own_by y s w h site i (calls exit o is) = calls_step y s w h site i exit o is
  own_by y s w h site i (stores_local o) = local_stores_step y s w h site i o
  own_by y s w h site i (at_core o free) = cores_step y s w h site i o free

  pub runs_simulate : RunsSimulate
  runs_simulate y s w h stands i =
      let r = runs_ready y s w h stands i in
      simulates_after y s w h r.site.stands i (own_by y s w h r.site i r.ready)

  module _ (law : FragmentsGoOn) where
    -- ---- A step

    module _ (y : System) (s : IsSystem y) (w : World) (h : ℕ) (old : Simulates y s w) where
      abbrev after : World
      after = after_event y.runs.program w (Step h)

      abbrev marked : Bool
      marked = passes_mark y.runs.marks y.runs.program w h

      abbrev StepMoves : Type 0
      StepMoves = Moves y s w (Step h) old

      -- one that counts nothing, releases nothing and leaves the abstract run
      still_moves : SimulatesStill y s w after old → completing y.runs.program w h ≡ None → releases_last y.runs.program w (Step h) h ≡ false →
          ¬ (IsInPhase w h Run) → StepMoves
      still_moves still none releases off =
          let unmarked : marked ≡ false = no_mark y.runs.marks y.runs.program w h none in
          let begun : begun_in y w (Step h) ≡ [] = ap (λ (b : Bool). begun_by b h []) unmarked in
          let logs = log_stays y.runs.program w (Step h) old.machine.sound in
          record {
            next = still_simulates y s w h old still;
            counted = λ g steps r counted.
                subst (λ (z : Steps). AreCounted y g after old.abstract old.ghosts z (released_by y.runs.program w (Step h) r))
                (sym (nothing_counted y.runs.marks y.runs.program w h none steps))
                (account_stays y (record { source = refl; schedule = refl; uncommitted = refl })
                (λ n. record { bound = refl; leaving = refl; giving = refl; ahead = refl; last = refl; accesses = refl; told = refl; late = refl })
                (stays_done y.runs.program w h old.machine.sound)
                (λ n i. last_position (point_in (logs i) (still.words i) n)) (none_released y.runs.program w h releases r) counted);
            sections = λ n. record { sections = refl; between = refl };
            on = record {
              counted = λ on_time. record {
                source = ap (after_from (now old.abstract.config)) (sym begun);
                runs = ap (runs_from (now old.abstract.config)) begun;
                unlocked = λ n mutex is gives.
                    was_unlocked (subst (λ (k : ℕ). passes_mark y.runs.marks y.runs.program w k ≡ false) (step_of h n is) unmarked) gives;
                graph = subst (λ (us : List ℕ). FollowsBegun y (now_of y old.abstract) (now_of y old.abstract) us) (sym begun)
                    (record { runs = refl; is = refl });
                passed = λ n below.
                    let unstored = ap one_if (completes_none (is_point_store w.log n) y.runs.program w h n none) in
                    let unpassed : passed_in y s w (Step h) old n ≡ 0 =
                    ap (λ (us : List ℕ). passages (lowered (flat_of y)) y.plan.boundaries (now_of y old.abstract) us n) begun in
                    omega (arith, unstored, unpassed);
                on_time = on_time;
              };
              tried = λ furthest. furthest;
              others = λ n other. refl;
              stays = λ n other. refl;
              nears = λ n is i. absurd (off (subst (λ (k : ℕ). IsInPhase w k Run) (sym (step_of h n is)) i));
              fences = λ n.
                  same_fences (boundary_fences y.plan.log) _ _ (old.ghosts n).rest (completes_none is_fence y.runs.program w h n none)
                  (completes_none (is_point_store w.log n) y.runs.program w h n none);
              last = λ n word.
                  last_unless y.runs.program w h word ((old.ghosts n).last_stores word) n (completes_none (stores_into word) y.runs.program w h n none);
              accesses = λ n byte.
                  accessed_none y.runs.program w h byte ((old.ghosts n).first_accesses byte) n (λ test. completes_none test y.runs.program w h n none);
            };
          }

      -- what it counts, where no thread was late
      runs_counted : (i : IsInPhase w h Run) → AreOnTime y s w (Step h) old old →
          Accounts y s w (Step h) old (simulates_after y s w h (runs_ready y s w h old i).site.stands i (own_by y s w h (runs_ready y s w h old i).site i
          (runs_ready y s w h old i).ready))
      runs_counted i on_time =
          let r = runs_ready y s w h old i in
          let site = r.site in
          let o = own_by y s w h site i r.ready in
          let ghosts = site.stands.ghosts in
          let later : SimulatesBut y s after anybody = simulates_after y s w h site.stands i o in
          let marks : begins o.led ≡ marked = sym (o.counted.marks ((r.similar.same h).late ∙ on_time h site.below)) in
          let on =
          coe 0 1 (j. GoesOnBy (now (r.similar.abstract j).config) (now o.next.config) (begun_by (marks j) h []))
          (led_now y s site.stands.abstract h o.next o.led) in
          record {
            source = on.0;
            runs = on.1;
            unlocked = λ n mutex is.
                subst (λ (k : ℕ). (later.ghosts k).giving ≡ Some mutex → IsUnlocked (now old.abstract.config) k
                (passes_mark y.runs.marks y.runs.program w k) (old.ghosts k).giving mutex) (step_of h n is)
                (λ gives. coe 0 1 (j. IsUnlocked (now (r.similar.abstract j).config) h (marks j) ((r.similar.same h).giving j) mutex)
                (o.counted.unlocked mutex (ap (λ (c : ThreadGhost). c.giving) (sym (own_ghost ghosts h o.ghost)) ∙ gives)));
            graph =
                coe 0 1 (j. FollowsBegun y (now_of y (r.similar.abstract j)) (now_of y o.next) (begun_by (marks j) h []))
                (led_graph y s site.stands.abstract h o.next o.led);
            passed = λ n below.
                coe 0 1 (j. ArePassed y (stores_point y.runs.program w (Step h) n)
                (passages (lowered (flat_of y)) y.plan.boundaries (now_of y (r.similar.abstract j)) (begun_by (marks j) h []) n)
                (r.similar.abstract j) (old.ghosts n) o.next (later.ghosts n) n)
                (passed_from y (stores_point y.runs.program w (Step h) n)
                (passages (lowered (flat_of y)) y.plan.boundaries (now_of y site.stands.abstract) (begun_by (begins o.led) h []) n)
                site.stands.abstract o.next (old.ghosts n) (site.stands.ghosts n) (later.ghosts n) n (r.similar.same n).bound (r.similar.same n).told
                (step_passed y s w h site.stands o ((r.similar.same h).late ∙ on_time h site.below)
                (λ k apart. completes_other (is_point_store w.log k) y.runs.program w h k apart) n));
            on_time = λ n below. elim (same_or_other n h) [
              | inl same ↦
                  subst (λ (k : ℕ). (later.ghosts k).late ≡ false) (sym same)
                  (ap (λ (c : ThreadGhost). c.late) (own_ghost ghosts h o.ghost) ∙ (o.counted.late ∙ ((r.similar.same h).late ∙ on_time h site.below)))
              | inr apart ↦ ap (λ (c : ThreadGhost). c.late) (other_ghost ghosts h o.ghost n apart) ∙ ((r.similar.same n).late ∙ on_time n below)
            ];
          }

      runs_move : IsInPhase w h Run → StepMoves
      runs_move i =
          let r = runs_ready y s w h old i in
          let site = r.site in
          let o = own_by y s w h site i r.ready in
          let ghosts = site.stands.ghosts in
          let later : SimulatesBut y s after anybody = simulates_after y s w h site.stands i o in
          record {
            next = later;
            counted = λ g steps releases counted.
                let agree =
                coe 0 1 (j. AgreeOnSteps y old.abstract ((sym r.similar.abstract) j)) (record { source = refl; schedule = refl; uncommitted = refl }) in
                own_step_counted y s w h site.stands i o (account_stays y agree r.similar.same (λ n d. d) (λ n. refl) (λ n. refl) counted)
                (passes_none law site r.ready);
            sections = λ n. coe 0 1 (j. AreSameSections y (r.similar.abstract j) o.next n) (led_sections y site.stands.abstract h o.next o.led n);
            on = record {
              counted = λ on_time. runs_counted i on_time;
              tried = λ furthest.
                  (led_of y site.stands.abstract h o.next o.led).config.tried (coe 0 1 (j. AreFurthest ((sym r.similar.abstract) j).config) furthest);
              others = λ n other.
                  ap (λ (c : ThreadGhost). c.giving) (other_ghost ghosts h o.ghost n (λ same. other (ap Step (sym same)))) ∙ (r.similar.same n).giving;
              stays = λ n other.
                  ap (λ (c : ThreadGhost). c.before_mark) (other_ghost ghosts h o.ghost n
                  (λ same. other (ap Step (sym same)) (subst (λ (k : ℕ). IsInPhase w k Run) (sym same) i))) ∙ (r.similar.same n).ahead;
              nears = λ n is running.
                  subst (λ (k : ℕ). Nears y w k (passes_mark y.runs.marks y.runs.program w k) (old.ghosts k).before_mark
                  (later.ghosts k).before_mark) (step_of h n is)
                  (coe 0 1 (j. Nears y w h marked ((r.similar.same h).ahead j) ((sym (own_ghost ghosts h o.ghost)) j).before_mark) o.counted.nears);
              fences = λ n.
                  joined_fences (boundary_fences y.plan.log) (finishes_fence y.runs.program w (Step h) n) (stores_point y.runs.program w (Step h) n)
                  (old.ghosts n).rest (ghosts n).rest (later.ghosts n).rest (r.similar.fences n) (elim (same_or_other n h) [
                    | inl same ↦
                        subst (λ (k : ℕ). AreFencesCounted (boundary_fences y.plan.log) (finishes_fence y.runs.program w (Step h) k)
                        (stores_point y.runs.program w (Step h) k) (ghosts k).rest (later.ghosts k).rest) (sym same)
                        (coe 0 1 (j. AreFencesCounted (boundary_fences y.plan.log) (finishes_fence y.runs.program w (Step h) h)
                        (stores_point y.runs.program w (Step h) h) (ghosts h).rest ((sym (own_ghost ghosts h o.ghost)) j).rest) o.counted.fences)
                    | inr apart ↦
                        coe 0 1 (j. AreFencesCounted (boundary_fences y.plan.log) (finishes_fence y.runs.program w (Step h) n)
                        (stores_point y.runs.program w (Step h) n) (ghosts n).rest ((sym (other_ghost ghosts h o.ghost n apart)) j).rest)
                        (same_fences (boundary_fences y.plan.log) _ _ (ghosts n).rest (completes_other is_fence y.runs.program w h n apart)
                        (completes_other (is_point_store w.log n) y.runs.program w h n apart))
                  ]);
              last = λ n word. elim (same_or_other n h) [
                | inl same ↦
                    subst (λ (k : ℕ). (later.ghosts k).last_stores word
                    ≡ last_store_after y.runs.program w (Step h) k word ((old.ghosts k).last_stores word)) (sym same)
                    (ap (λ (c : ThreadGhost). c.last_stores word) (own_ghost ghosts h o.ghost)
                    ∙ (o.counted.last word
                    ∙ ap (λ (m : ℕ → Option ℕ). last_store_after y.runs.program w (Step h) h word (m word)) (r.similar.same h).last))
                | inr apart ↦
                    ap (λ (c : ThreadGhost). c.last_stores word) (other_ghost ghosts h o.ghost n apart)
                    ∙ (ap (λ (m : ℕ → Option ℕ). m word) (r.similar.same n).last
                    ∙ last_unless y.runs.program w h word ((old.ghosts n).last_stores word) n (completes_other (stores_into word) y.runs.program w h n apart))
              ];
              accesses = λ n byte. elim (same_or_other n h) [
                | inl same ↦
                    subst (λ (k : ℕ). (later.ghosts k).first_accesses byte
                    ≡ first_access_after y.runs.program w (Step h) k byte ((old.ghosts k).first_accesses byte)) (sym same)
                    (ap (λ (c : ThreadGhost). c.first_accesses byte) (own_ghost ghosts h o.ghost)
                    ∙ (o.counted.accesses byte
                    ∙ ap (λ (m : ℕ → Option Access). first_access_after y.runs.program w (Step h) h byte (m byte)) (r.similar.same h).accesses))
                | inr apart ↦
                    ap (λ (c : ThreadGhost). c.first_accesses byte) (other_ghost ghosts h o.ghost n apart)
                    ∙ (ap (λ (m : ℕ → Option Access). m byte) (r.similar.same n).accesses
                    ∙ accessed_none y.runs.program w h byte ((old.ghosts n).first_accesses byte) n
                    (λ test. completes_other test y.runs.program w h n apart))
              ];
            };
          }

      idle_moves : (phase : Phase) → is_running phase ≡ false → IsInPhase w h phase → SimulatesStill y s w after old → StepMoves
      idle_moves phase off i still =
          still_moves still (positions.not_running y.runs.program w h i.hart phase i.here i.phase_is off) (phase_releases y.runs.program w h phase off i)
          (not_running w h i.hart i.here (ap is_running i.phase_is ∙ off))

      in_phase_moves : (phase : Phase) → IsInPhase w h phase → StepMoves
      in_phase_moves Take i = idle_moves Take refl i (takes_still y s w h old i)
      in_phase_moves Wait i = idle_moves Wait refl i (waits_still y s w h old i)
      in_phase_moves Resume i = idle_moves Resume refl i (resumes_still y s w h old i)
      in_phase_moves Run i = runs_move i
      in_phase_moves Done i = idle_moves Done refl i (stopped_still y s w h old Done (inl refl) i)
      in_phase_moves Ended i = idle_moves Ended refl i (stopped_still y s w h old Ended (inr refl) i)

      step_moves : (o : Option Hart) → slice_get w.harts h ≡ o → StepMoves
      step_moves None none =
          still_moves (subst (λ (v : World). SimulatesStill y s w v old) (not_there y w h none)
          (record { words = refl; each = old.each; locks = old.locks })) (positions.not_there y.runs.program w h none)
          (holders_stay_none y.runs.program w h (ap (λ (v : World). v.holders) (sym (not_there y w h none))))
          (λ i. none-some i.hart (sym none ∙ i.here))
      step_moves (Some hart) here = in_phase_moves hart.phase (record { hart = hart; here = here; phase_is = refl })

    -- ---- Whatever happens

    eviction_moves : (y : System) (s : IsSystem y) (w : World) (line mask : ℕ) (old : Simulates y s w) → Moves y s w (Evict line mask) old
    eviction_moves y s w line mask old = record {
      next = evicted_simulates y s w line mask old;
      counted = λ g steps r counted. evicted_counted y s w line mask old steps r counted;
      sections = λ n. record { sections = refl; between = refl };
      on = record {
        counted = λ on_time. record {
          source = refl;
          runs = refl;
          unlocked = λ n mutex is gives. cc;
          graph = record { runs = refl; is = refl };
          passed = λ n below. omega arith;
          on_time = on_time;
        };
        tried = λ furthest. furthest;
        others = λ n other. refl;
        stays = λ n other. refl;
        nears = λ n is i. cc;
        fences = λ n. same_fences (boundary_fences y.plan.log) false false (old.ghosts n).rest refl refl;
        last = λ n word. refl;
        accesses = λ n byte. refl;
      };
    }

    pub event_goes_on : (y : System) (s : IsSystem y) (w : World) (event : Event) (old : Simulates y s w) → GoesOn y s w event old
    event_goes_on y s w (Step h) old = commits_move y s w (Step h) old tt (step_moves y s w h old (slice_get w.harts h) refl)
    event_goes_on y s w (Evict line mask) old = commits_move y s w (Evict line mask) old tt (eviction_moves y s w line mask old)
    event_goes_on y s w Crash old = record {
      next = starting.stands_after y s w old;
      counted = λ g steps r counted. crash_counted y s w old steps r counted;
      ends = λ none n.
          same_end y old.abstract (starting.stands_after y s w old).abstract n
          (record { sections = kept_crashed y s w old n; between = refl });
      on = λ on. absurd on;
      whole = λ begins. absurd (true≢false (sym begins));
      anew = λ begins. absurd (true≢false (sym begins));
      last = λ n word. refl;
      accesses = λ n byte. refl;
      fences = λ other. absurd (other refl);
      cut_off = λ is n. refl;
    }
    event_goes_on y s w Start old =
        let o = start_goes y s w old in record {
          next = o.next;
          counted = start_then_counted y s w old;
          ends = o.ends;
          on = λ on. absurd on;
          whole = o.whole;
          anew = o.anew;
          last = o.last;
          accesses = o.accesses;
          fences = λ other n below. o.fences n below;
          cut_off = λ is. absurd (start_no_crash is);
        }

    pub events_stand : EventsStand
    events_stand y s w event old = (event_goes_on y s w event old).next

    -- ---- The account goes on in its life, or in the one that begins

    -- what the account is then
    pub counted_then : (y : System) (s : IsSystem y) {g : Beginning} (w : World) (event : Event) (steps : Steps) (r : ℕ → ℕ)
        (is : SimulatesCounted y s g w steps r)
        (begins : Bool) → begins_life w event ≡ begins →
        AreCounted y (if begins then next_beginning y g is.stands.abstract.schedule else g) (after_event y.runs.program w event)
        (event_goes_on y s w event is.stands).next.abstract (event_goes_on y s w event is.stands).next.ghosts
        (steps_after y.runs.marks y.runs.program w event steps) (released_by y.runs.program w event r)
    counted_then y s {g} w event steps r is begins e =
        let o = event_goes_on y s w event is.stands in
        subst (λ (b : Bool). AreCounted y (if b then next_beginning y g is.stands.abstract.schedule else g) (after_event y.runs.program w event) o.next.abstract
        o.next.ghosts (steps_after y.runs.marks y.runs.program w event steps) (released_by y.runs.program w event r)) e (o.counted g steps r is.counted)

    abbrev pub event_carried : (y : System) (s : IsSystem y) {g : Beginning} (w : World) (event : Event) (steps : Steps) (r : ℕ → ℕ) →
        begins_life w event ≡ false → SimulatesCounted y s g w steps r →
        SimulatesCounted y s g (after_event y.runs.program w event) (steps_after y.runs.marks y.runs.program w event steps)
        (released_by y.runs.program w event r)
    event_carried y s w event steps r none is =
        record { stands = (event_goes_on y s w event is.stands).next; counted = counted_then y s w event steps r is false none }

    abbrev pub life_goes_on : (y : System) (s : IsSystem y) {first : Beginning} (w : World) (event : Event) (steps : Steps) (r : ℕ → ℕ) →
        begins_life w event ≡ false → SimulatesLives y s first w steps r →
        SimulatesLives y s first (after_event y.runs.program w event) (steps_after y.runs.marks y.runs.program w event steps)
        (released_by y.runs.program w event r)
    life_goes_on y s w event steps r none z = record { lives = z.lives; ended = z.ended; is = event_carried y s w event steps r none z.is }

    -- the life before has ended with what its execution has kept
    pub one_more_ended : (y : System) (s : IsSystem y) {first : Beginning} (w : World) (event : Event) (steps : Steps) (r : ℕ → ℕ) →
        begins_life w event ≡ true → (z : SimulatesLives y s first w steps r) →
        end_lives (flat_of y) first.from (z.lives ++ z.is.stands.abstract.schedule ∷ []) ≡ true
    one_more_ended y s {first} w event steps r begins z =
        let b = z.is.stands.abstract in
        one_more_ends (flat_of y) first.from z.lives b.schedule z.ended
        (ap (λ (from : State). ends_life from b.schedule) (sym (z.is.counted.begins ∙ from_after y first z.lives))
        ∙ (event_goes_on y s w event z.is.stands).whole begins)

    pub one_more_counted : (y : System) (s : IsSystem y) {first : Beginning} (w : World) (event : Event) (steps : Steps) (r : ℕ → ℕ) →
        begins_life w event ≡ true → (z : SimulatesLives y s first w steps r) →
        AreCounted y (beginning_after y first (z.lives ++ z.is.stands.abstract.schedule ∷ [])) (after_event y.runs.program w event)
        (event_goes_on y s w event z.is.stands).next.abstract (event_goes_on y s w event z.is.stands).next.ghosts
        (steps_after y.runs.marks y.runs.program w event steps) (released_by y.runs.program w event r)
    one_more_counted y s {first} w event steps r begins z =
        let o = event_goes_on y s w event z.is.stands in
        subst (λ (g : Beginning). AreCounted y g (after_event y.runs.program w event) o.next.abstract o.next.ghosts
        (steps_after y.runs.marks y.runs.program w event steps) (released_by y.runs.program w event r))
        (sym (one_more y first z.lives z.is.stands.abstract.schedule)) (counted_then y s w event steps r z.is true begins)

    abbrev pub life_begins : (y : System) (s : IsSystem y) {first : Beginning} (w : World) (event : Event) (steps : Steps) (r : ℕ → ℕ) →
        begins_life w event ≡ true → SimulatesLives y s first w steps r →
        SimulatesLives y s first (after_event y.runs.program w event) (steps_after y.runs.marks y.runs.program w event steps)
        (released_by y.runs.program w event r)
    life_begins y s w event steps r begins z = record {
      lives = z.lives ++ z.is.stands.abstract.schedule ∷ [];
      ended = one_more_ended y s w event steps r begins z;
      is = record { stands = (event_goes_on y s w event z.is.stands).next; counted = one_more_counted y s w event steps r begins z };
    }

    pub life_carried : (y : System) (s : IsSystem y) {first : Beginning} (w : World) (event : Event) (steps : Steps) (r : ℕ → ℕ) →
        SimulatesLives y s first w steps r →
        SimulatesLives y s first (after_event y.runs.program w event) (steps_after y.runs.marks y.runs.program w event steps)
        (released_by y.runs.program w event r)
    life_carried y s {first} w event steps r z = by (begins_life w event) refl
      where
        by : (begins : Bool) → begins_life w event ≡ begins →
            SimulatesLives y s first (after_event y.runs.program w event) (steps_after y.runs.marks y.runs.program w event steps)
            (released_by y.runs.program w event r)
        by true e = life_begins y s w event steps r e z
        by false e = life_goes_on y s w event steps r e z

    -- along events
    lives_carried : (y : System) (s : IsSystem y) {first : Beginning} (events : List Event) (w : World) (steps : Steps) (r : ℕ → ℕ) →
        SimulatesLives y s first w steps r →
        SimulatesLives y s first (after_events y.runs.program w events) (steps_along y.runs.marks y.runs.program w events steps)
        (λ n. released_along y.runs.program w events n (r n))
    lives_carried y s [] w steps r z = z
    lives_carried y s (event ∷ events) w steps r z =
        lives_carried y s events (after_event y.runs.program w event) _ (released_by y.runs.program w event r) (life_carried y s w event steps r z)

    pub machines_resume : MachinesResume
    machines_resume y s events =
        lives_carried y s events (first_world y.runs) _ (λ n. 0) (record { lives = []; ended = refl; is = start_counted y s })

    pub recovered_are_counted : RecoveredAreCounted
    recovered_are_counted y s o words kept is on_time events =
        lives_carried y s events (after_crash_of y.runs.log y.runs.program y.runs.mutexes words) _ (λ n. 0)
        (record { lives = []; ended = refl; is = recovered_counted y s o words kept is on_time })

    -- ---- Its sections are kept

    -- as many sections are kept as are released, or one more
    abbrev IsNear : (released kept : ℕ) → Type 0
    IsNear released kept = (released ≤ kept) × (kept ≤ released + 1)

    near_of : (y : System) (w : World) (b : AbstractRun y) (n : ℕ) (c : ThreadGhost) (released : ℕ) → IsReleasedOf y w b n c released →
        IsNear released (sections_kept y b n)
    near_of y w b n c released h6 = grind (arith, at_most_one)

    pub sections_are_kept : SectionsAreKept
    sections_are_kept y s events h =
        let z = machines_resume y s events in
        let t = z.is.stands in
        let near : IsNear (ended_in_machine y events h) (sections_kept y t.abstract h) = elim (below_or_past h (thread_count y)) [
          | inl below ↦ near_of y _ t.abstract h (t.ghosts h) (ended_in_machine y events h) (z.is.counted.each h below).released
          | inr past ↦ let same = z.is.counted.beyond h past in (omega (arith, same), omega (arith, same))
        ] in
        subst (IsNear (ended_in_machine y events h))
        (ap₂ (λ (from : State) (us : List ℕ). ended_from from us h) (begins_at y s _ _ z) (sym (schedule_is y s _ _ z))) near

-- ---- Along two lists of events

pub worlds_join : (program : List (List Slot)) (events more : List Event) (w : World) →
    after_events program w (events ++ more) ≡ after_events program (after_events program w events) more
worlds_join program [] more w = refl
worlds_join program (event ∷ events) more w = worlds_join program events more (after_event program w event)

pub steps_join : (marks : List (List ℕ)) (program : List (List Slot)) (events more : List Event) (w : World) (s : Steps) →
    steps_along marks program w (events ++ more) s ≡ steps_along marks program (after_events program w events) more (steps_along marks program w events s)
steps_join marks program [] more w s = refl
steps_join marks program (event ∷ events) more w s = steps_join marks program events more (after_event program w event) (steps_after marks program w event s)

-- ---- The durable point is 0 exactly where the thread stands between sections in what is kept

module _ (y : System) (s : IsSystem y) (w : World) (stands : Simulates y s w) (n : ℕ) (below : n < thread_count y) where
  open stands use {abstract as b}

  point_says : kept_between y b n ≡ (durable_point w.log w.words n == 0)
  point_says =
      ap (λ (hs : List (Option ℕ)). holds_none hs n) (sym (kept_matches y s b).holders)
      ∙ (ap (λ (k : ℕ). holds_none (kept_of y b).holders k) (sym (s.codes.number n below))
      ∙ (sym (describes_test_as y (s.codes.each n below) (kept_of y b) (lates y s w stands n) (left y s w stands n) (left_describes y s w stands n below))
      ∙ ap (λ (k : ℕ). k == 0) (sym (left_point y s w stands n below))))

-- ---- An event

module _ (fragments_step : FragmentsStep) (cores_step : CoresStep) (local_stores_step : LocalStoresStep) (law : FragmentsGoOn) where
  module _ (y : System) (s : IsSystem y) (w : World) (steps : Steps) (r : ℕ → ℕ)
      (was : SimulatesLives y s (first_beginning y) w steps r) where
    -- the sections that are kept, by the account's steps
    kept_is : (v : World) (later : Steps) {releases : ℕ → ℕ} (z : SimulatesLives y s (first_beginning y) v later releases) (n : ℕ) →
        sections_kept y z.is.stands.abstract n ≡ ended_by y later n
    kept_is v later z n = ap₂ (λ (from : State) (us : List ℕ). ended_from from us n) (begins_at y s v later z) (sym (schedule_is y s v later z))

    ends_at_point : (event : Event) (n : ℕ) → n < thread_count y → begins_life w event ≡ false →
        ended_by y (steps_after y.runs.marks y.runs.program w event steps) n
        ≡ ended_by y steps n + one_if (loses_point w (after_event y.runs.program w event) n)
    ends_at_point event n below none =
        let e = event_goes_on fragments_step cores_step local_stores_step law y s w event was.is.stands in
        let later = steps_after y.runs.marks y.runs.program w event steps in
        let next = life_goes_on fragments_step cores_step local_stores_step law y s w event steps r none was in
        let before = kept_is w steps was n in
        let was_held = point_says y s w was.is.stands n below in
        let is_held = point_says y s (after_event y.runs.program w event) e.next n below in
        sym (kept_is (after_event y.runs.program w event) later next n)
        ∙ (e.ends none n ∙ (λ i. before i + one_if (not (was_held i) && is_held i)))

  -- ---- Whatever has happened

  pub sections_end_at_points : SectionsEndAtPoints
  sections_end_at_points y s events event h below none =
      let z = machines_resume fragments_step cores_step local_stores_step law y s events in
      ap (λ (later : Steps). ended_by y later h)
      (steps_join y.runs.marks y.runs.program events (event ∷ []) (first_world y.runs) _) ∙ ends_at_point y s _ _ _ z event h below none
