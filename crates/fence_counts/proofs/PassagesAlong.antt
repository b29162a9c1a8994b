-- Along the events of a life in which power stays on: the boundaries that a thread passes, and the points that its hart stores.
use Rattle.std.proofs.Common.{◌≡◌, refl, ℕ, zero, suc, ◌+◌, ◌*◌, ◌<◌, List, [], ◌∷◌, ◌++◌, map, Bool, true, false, not, ◌&&◌, if◌then◌else◌, slice_get}
use Rattle.std.proofs.Common.{Option, Some, None, ap, sym, subst, ◌∙◌, arith, ◌==◌}
use Rattle.std.proofs.lemmas.Bool.{true≢false}
use Rattle.std.proofs.lemmas.Option.{none-some, same_Some, slice_get_within}
use Rattle.std.specs.List.{list_any}
use Rattle.machine_events.specs.declared.event.Event.{Event}
use Rattle.machine_events.specs.declared.event.Event.TheVariants.{Start}
use Rattle.machine_events.specs.Cores.{point_stores}
use Rattle.c_tree.specs.Flats as f
use Rattle.c_tree.specs.Source as m
use Rattle.c_tree.specs.Source.{State}
use Rattle.source_machine.specs.Lives.{begun_after, restart}
use Rattle.log_schemes.specs.Schemes.{locals_of}
use Rattle.log_schemes.specs.declared.locals.Locals.{Locals}
use Rattle.log_schemes.specs.declared.locals.Locals.TheVariants.{Registers, Frame}
use Rattle.machine_model.specs.Executables.{first_world}
use Rattle.machine_model.specs.declared.phase.Phase.TheVariants.{Ended}
use Rattle.machine_model.specs.Machine.{Hart, World, after_event, after_events}
use Rattle.machine_model.specs.Schedule.{Steps, begins_life, only_life, stores_point, steps_after, steps_along}
use Rattle.flow_graph.specs.Nodes.{Graph}
use Rattle.flow_graph.specs.IdempotentCuts.{Boundaries}
use Rattle.flow_graph.specs.Lockstep.{Matches}
use Rattle.flow_graph.specs.Lowering.{lowered}
use Rattle.flow_graph.specs.Actions.{FlowState, graph_step, graph_after, graph_runs}
use Rattle.flow_graph.proofs.Public.{Good, found_in, good_after}
use Rattle.recovery_semantics.specs.Events.{steps_begun}
use Rattle.region_attempts.specs.GraphStates.{flow_solo, node_of}
use Rattle.log_states.specs.Stages.{is_store}
use Rattle.recovered_threads.specs.RecordDescriptions.{IsOrderly}
use Rattle.run_tracker.specs.ObjectLives.{LifeConfig, living}
use Rattle.thread_runs.specs.Laws.{FragmentsGoOn}
use Rattle.crash_simulation.specs.Systems.{System, IsSystem, flat_of, thread_count}
use Rattle.crash_simulation.specs.AbstractRuns.{kept_of, now_of}
use Rattle.crash_simulation.specs.AccountRelation.{MachinesResume, SimulatesLives, first_beginning}
use Rattle.crash_simulation.specs.BoundaryPassages.{graph_anew, passages, passages_at}
use Rattle.crash_simulation.specs.InstructionSteps.{FragmentsStep, CoresStep, LocalStoresStep, is_bound}
use Rattle.crash_simulation.specs.ReleasedSections.{one_if}
use Rattle.crash_simulation.specs.SimulationRelation.{Simulates}
use Rattle.crash_simulation.specs.ThreadGhosts.{ThreadGhost}
use Rattle.crash_simulation.proofs.Public.{ArePassed, FollowsBegun, HasBegun, as_source, begun_in, event_goes_on, first_life, first_origin, going_ahead}
use Rattle.crash_simulation.proofs.Public.{has_begun, kept_good, life_begins, life_goes_on, none_begins, now_orderly, passages_ahead, phase_of, points_ahead}
use Rattle.crash_simulation.proofs.Public.{released_by, start_counted, steps_join, told_of, worlds_join}
use Rattle.compiler_correctness.proofs.Public.{begun_after as begun_more, begun_none, begun_state}
use Rattle.compiler_correctness.specs.Laws.{translation_of}
use Rattle.compiler_correctness.specs.Translations.{GoOn, source_at, steps, world}
use Rattle.fence_counts.specs.FenceCounts.{BeginsLife, EndedLivesFence, boundaries_passed, boundaries_passed_by, first_begins, later_begins, life_start}
use Rattle.fence_counts.proofs.EndedThreads.{EndAtEnds, run_ends, starts_end}
use Rattle.fence_counts.proofs.FencesAlong.{in_life}
use Rattle.fence_counts.proofs.KeptEnds.{NoneEnded, none_kept}
use Rattle.fence_counts.proofs.LoggedPassages.{passages_are_logged}

-- ---- One schedule after another

module _ (g : Graph) where
  abbrev runs_in : List ℕ → Option FlowState → Bool
  runs_in us o = elim o [
    | None ↦ false
    | Some next ↦ graph_runs g next us
  ]

  abbrev after_in : FlowState → List ℕ → Option FlowState → FlowState
  after_in s us o = elim o [
    | None ↦ s
    | Some next ↦ graph_after g next us
  ]

  runs_by : (us vs : List ℕ) (s : FlowState) (o : Option FlowState) → runs_in us o ≡ true →
      ((next : FlowState) → graph_runs g next us ≡ true → graph_runs g next (us ++ vs) ≡ graph_runs g (graph_after g next us) vs) →
      runs_in (us ++ vs) o ≡ graph_runs g (after_in s us o) vs
  runs_by us vs s None runs later = absurd (true≢false (sym runs))
  runs_by us vs s (Some next) runs later = later next runs

  runs_append : (us vs : List ℕ) (s : FlowState) → graph_runs g s us ≡ true → graph_runs g s (us ++ vs) ≡ graph_runs g (graph_after g s us) vs
  runs_append [] vs s runs = refl
  runs_append (u ∷ us) vs s runs = runs_by us vs s (graph_step g s u) runs (runs_append us vs)

  after_by : (us vs : List ℕ) (s : FlowState) (o : Option FlowState) → runs_in us o ≡ true →
      ((next : FlowState) → graph_runs g next us ≡ true → graph_after g next (us ++ vs) ≡ graph_after g (graph_after g next us) vs) →
      after_in s (us ++ vs) o ≡ graph_after g (after_in s us o) vs
  after_by us vs s None runs later = absurd (true≢false (sym runs))
  after_by us vs s (Some next) runs later = later next runs

  after_append : (us vs : List ℕ) (s : FlowState) → graph_runs g s us ≡ true → graph_after g s (us ++ vs) ≡ graph_after g (graph_after g s us) vs
  after_append [] vs s runs = refl
  after_append (u ∷ us) vs s runs = after_by us vs s (graph_step g s u) runs (after_append us vs)

  module _ (b : Boundaries) (n : ℕ) where
    abbrev passed_in : FlowState → (u : ℕ) → List ℕ → Option FlowState → ℕ
    passed_in s u us o = elim o [
      | None ↦ 0
      | Some next ↦ (if u == n then passages_at g b (node_of s n) else 0) + passages g b next us n
    ]

    passed_by : (u : ℕ) (us vs : List ℕ) (s : FlowState) (o : Option FlowState) → runs_in us o ≡ true →
        ((next : FlowState) → graph_runs g next us ≡ true →
        passages g b next (us ++ vs) n ≡ passages g b next us n + passages g b (graph_after g next us) vs n) →
        passed_in s u (us ++ vs) o ≡ passed_in s u us o + passages g b (after_in s us o) vs n
    passed_by u us vs s None runs later = absurd (true≢false (sym runs))
    passed_by u us vs s (Some next) runs later = let more = later next runs in omega (arith, more)

    passages_append : (us vs : List ℕ) (s : FlowState) → graph_runs g s us ≡ true →
        passages g b s (us ++ vs) n ≡ passages g b s us n + passages g b (graph_after g s us) vs n
    passages_append [] vs s runs = omega arith
    passages_append (u ∷ us) vs s runs = passed_by u us vs s (graph_step g s u) runs (passages_append us vs)

-- ---- Where lives begin

start_whole : (ts : List f.Thread) (t : ℕ) (thread : m.Thread) → slice_get (map m.thread_start ts) t ≡ Some thread → thread.ended ≡ false
start_whole [] t thread there = absurd (none-some thread there)
start_whole (x ∷ xs) zero thread there = ap (λ (z : m.Thread). z.ended) (sym (same_Some (m.thread_start x) thread there))
start_whole (x ∷ xs) (suc t) thread there = start_whole xs t thread there

-- whatever lives have come before, all threads are at their start
whole_after : (x : f.Flat) (s : State) (earlier : List (List ℕ)) → s.threads ≡ map m.thread_start x.threads →
    (begun_after x s earlier).threads ≡ map m.thread_start x.threads
whole_after x s [] whole = whole
whole_after x s (schedule ∷ earlier) whole = whole_after x (restart x (m.after_from s schedule)) earlier refl

-- ---- Along a life

module _ (fragments_step : FragmentsStep) (cores_step : CoresStep) (local_stores_step : LocalStoresStep) (law : FragmentsGoOn) (y : System) (s : IsSystem y)
    (h : ℕ) (below : h < thread_count y)
  where
    abbrev G : Graph
    G = lowered (flat_of y)

    abbrev B : Boundaries
    B = y.plan.boundaries

    abbrev at : World → LifeConfig
    at w = record { runs = y.runs; kept_before = only_life []; ended_before = []; world = w }

    abbrev ghost_in : {w : World} → Simulates y s w → ThreadGhost
    ghost_in stands = stands.ghosts h

    -- the thread has passed as many boundaries by the begun steps as points are stored, but for those that are ahead
    record ArePassedSince {w : World} (stands : Simulates y s w) (from : FlowState) (begun : List ℕ) (stored : ℕ) : Type 0 where
      runs : graph_runs G from begun ≡ true
      is : now_of y stands.abstract ≡ graph_after G from begun
      even : stored + passages_ahead y stands.abstract (told_of (ghost_in stands)) h ≡ passages G B from begun h + points_ahead y (ghost_in stands)

    -- an event more of the life
    module _ {w : World} (stands : Simulates y s w) (from : FlowState) (begun : List ℕ) (stored : ℕ) (since : ArePassedSince stands from begun stored)
        (event : Event) {next : Simulates y s (after_event y.runs.program w event)} (more : List ℕ)
        (goes : FollowsBegun y (now_of y stands.abstract) (now_of y next.abstract) more)
        (passed : ArePassed y (stores_point y.runs.program w event h) (passages G B (now_of y stands.abstract) more h)
        stands.abstract (ghost_in stands) next.abstract (ghost_in next) h) where
      then_since : ArePassedSince next from (begun ++ more) (one_if (stores_point y.runs.program w event h) + stored)
      then_since =
          let split = passages_append G B h begun more from since.runs in
          let same : passages G B (graph_after G from begun) more h ≡ passages G B (now_of y stands.abstract) more h =
          ap (λ (z : FlowState). passages G B z more h) (sym since.is) in
          record {
            runs = runs_append G begun more from since.runs ∙ (ap (λ (z : FlowState). graph_runs G z more) (sym since.is) ∙ goes.runs);
            is = goes.is ∙ (ap (λ (z : FlowState). graph_after G z more) since.is ∙ sym (after_append G begun more from since.runs));
            even = omega (arith, split, same, since.even, passed);
          }

    -- a machine whose steps are counted
    record Lives (w : World) (account : Steps) : Type 0 where
      releases : ℕ → ℕ
      carried : SimulatesLives y s (first_beginning y) w account releases

    abbrev stands_in : {w : World} {account : Steps} → Lives w account → Simulates y s w
    stands_in lives = lives.carried.is.stands

    record Comes (w : World) (events : List Event) (account : Steps) (from : FlowState) (stored : ℕ) : Type 0 where
      lives : Lives (after_events y.runs.program w events) (steps_along y.runs.marks y.runs.program w events account)
      since : ArePassedSince (stands_in lives) from (steps_along y.runs.marks y.runs.program w events account).begun
          (point_stores living (at w) events h + stored)

    along : (events : List Event) → GoOn events → (w : World) (account : Steps) (lives : Lives w account) (from : FlowState) (stored : ℕ) →
        ArePassedSince (stands_in lives) from account.begun stored → Comes w events account from stored
    along [] on w account lives from stored since = record {
      lives = lives;
      since = record { runs = since.runs; is = since.is; even = omega (arith, since.even) };
    }
    along (event ∷ events) on w account lives from stored since =
        let stands = stands_in lives in
        let o = event_goes_on fragments_step cores_step local_stores_step law y s w event stands in
        let keeps = (o.on on.0).counted (λ n inside. (lives.carried.is.counted.each n inside).on_time) in
        let one = one_if (stores_point y.runs.program w event h) in
        let account_then = steps_after y.runs.marks y.runs.program w event account in
        let lives_then : Lives (after_event y.runs.program w event) account_then = record {
          releases = released_by y.runs.program w event lives.releases;
          carried =
              life_goes_on fragments_step cores_step local_stores_step law y s w event account lives.releases (none_begins w event on.0) lives.carried;
        } in
        let next = then_since stands from account.begun stored since event (begun_in y w event) keeps.graph (keeps.passed h below) in
        let later = along events on.1 (after_event y.runs.program w event) account_then lives_then from (one + stored)
        (subst (λ (us : List ℕ). ArePassedSince o.next from us (one + stored)) (sym (begun_more y w event on.0 account)) next) in
        record {
          lives = later.lives;
          since = record { runs = later.since.runs; is = later.since.is; even = omega (arith, later.since.even) };
        }

    -- ---- Where it begins

    record BeginsAt (w : World) (account : Steps) : Type 0 where
      lives : Lives w account
      begun : HasBegun y s w (stands_in lives)
      none : account.begun ≡ []

    abbrev source_there : {w : World} {account : Steps} → (lives : Lives w account) →
        source_at (translation_of y) account.earlier ≡ (stands_in lives).abstract.origin.source
    source_there {w} {account} lives = begun_state y s w account lives.carried

    first : BeginsAt (first_world y.runs) (steps (translation_of y) [])
    first = record {
      lives = record { releases = λ n. 0; carried = record { lives = []; ended = refl; is = start_counted y s } };
      begun = has_begun y s (first_origin y s) (first_world y.runs) (first_life y s);
      none = refl;
    }

    -- a start by which another one begins
    later : {w : World} {account : Steps} (lives : Lives w account) → begins_life w Start ≡ true →
        BeginsAt (after_event y.runs.program w Start) (steps_after y.runs.marks y.runs.program w Start account)
    later {w} {account} lives may = record {
      lives = record {
        releases = released_by y.runs.program w Start lives.releases;
        carried = life_begins fragments_step cores_step local_stores_step law y s w Start account lives.releases may lives.carried;
      };
      begun = (event_goes_on fragments_step cores_step local_stores_step law y s w Start (stands_in lives)).anew may;
      none = begun_none y w account may;
    }

    begins_same : {w v : World} {account other : Steps} → w ≡ v → account ≡ other → BeginsAt w account → BeginsAt v other
    begins_same world_is account_is b = coe 0 1 (i. BeginsAt (world_is i) (account_is i)) b

    module _ (machines : MachinesResume) where
      resumed_after : (before : List Event) → Lives (world (translation_of y) before) (steps (translation_of y) before)
      resumed_after before = record { releases = _; carried = machines y s before }

      begins : (before : List Event) → BeginsLife (translation_of y) before → BeginsAt (world (translation_of y) before) (steps (translation_of y) before)
      begins _ first_begins = first
      begins _ (later_begins before may) =
          begins_same (sym (worlds_join y.runs.program before (Start ∷ []) (first_world y.runs)))
          (sym (steps_join y.runs.marks y.runs.program before (Start ∷ []) (first_world y.runs) (steps (translation_of y) [])))
          (later (resumed_after before) may)

      -- ---- Where the hart has ended

      -- no thread has ended in what is kept, since none has where the life begins
      none_ended : {w : World} {account : Steps} (lives : Lives w account) → NoneEnded (kept_of y (stands_in lives).abstract)
      none_ended {w} {account} lives =
          let b = (stands_in lives).abstract in
          none_kept y s b.origin (λ t graph_thread there.
          let found = found_in b.origin.source.threads t
          (let within = slice_get_within b.origin.flow.graph_threads t graph_thread there in omega (arith, within, b.origin.matches.count)) in
          (b.origin.matches.each t graph_thread found.0 there found.1).ended
          ∙ start_whole (flat_of y).threads t found.0
          (ap (λ (ts : List m.Thread). slice_get ts t) (sym (whole_after (flat_of y) (m.start (flat_of y)) account.earlier refl)
          ∙ ap (λ (z : State). z.threads) (source_there lives)) ∙ found.1))
          b.execution b.respects

      ends_even : {w : World} {account : Steps} (lives : Lives w account) → EndAtEnds G (now_of y (stands_in lives).abstract) → (hart : Hart) →
          slice_get w.harts h ≡ Some hart → hart.phase ≡ Ended →
          passages_ahead y (stands_in lives).abstract (told_of (ghost_in (stands_in lives))) h ≡ points_ahead y (ghost_in (stands_in lives))
      ends_even {w} lives ends hart here ended =
          let stands = stands_in lives in
          let b = stands.abstract in
          let c = ghost_in stands in
          let code = s.codes.each h below in
          let t = stands.each h below in
          let goes = (phase_of y s w h stands Ended (record { hart = hart; here = here; phase_is = ended }) below).0 in
          let fresh : steps_begun b.config code.thread.number ≡ 0 → told_of c ≡ 0 = λ none.
          absurd (true≢false (sym goes.execution ∙ none_ended lives code.thread.number t.graph_thread
          (ap (λ (k : ℕ). slice_get (flow_solo (flat_of y) (kept_of y b) code.thread.number k).graph_threads code.thread.number) (sym none)
          ∙ (sym ((as_source y s b).alone code.thread.number) ∙ t.walks)))) in
          let ahead = going_ahead y s b code.thread.number (told_of c) goes.goes.going fresh in
          let unbound : is_bound c ≡ false = ap (λ (done : Bool). not done && not (list_any is_store c.rest)) goes.goes.committed in
          subst (λ (k : ℕ). passages_ahead y b (told_of c) k ≡ points_ahead y c) (s.codes.number h below) (omega (arith, ahead, ap one_if unbound))

      -- the boundaries that the life has passed are as said, wherever locals stand
      passed_so : (before : List Event) (b : BeginsAt (world (translation_of y) before) (steps (translation_of y) before)) (us : List ℕ) (locals : Locals) →
          locals ≡ locals_of y.runs.log →
          passages G B (life_start (translation_of y) before) us h ≡ boundaries_passed_by locals (translation_of y) before us h
      passed_so before b us Registers is = refl
      passed_so before b us Frame is =
          let z = (stands_in b.lives).abstract in
          let source = source_there b.lives in
          let from : now_of y z ≡ life_start (translation_of y) before =
          b.begun.graph_is ∙ ap (λ (v : State). graph_anew (flat_of y) v.variables) (sym source) in
          let frame : locals_of y.plan.log ≡ Frame = ap locals_of s.log ∙ sym is in
          passages_are_logged y s frame h below us (life_start (translation_of y) before)
          (source_at (translation_of y) (steps (translation_of y) before).earlier)
          (coe 0 1 (i. Matches (flat_of y) (from i) ((b.begun.now_is ∙ sym source) i)) (as_source y s z).now_matches)
          (subst (IsOrderly y.plan) from (now_orderly y s z))
          (subst (Good (flat_of y)) from (good_after (flat_of y) z.config.uncommitted s.plan.formed (kept_of y z) (kept_good y s z)))

      pub passes : (before life : List Event) → BeginsLife (translation_of y) before → GoOn life → (hart : Hart) →
          slice_get (world (translation_of y) (before ++ life)).harts h ≡ Some hart → hart.phase ≡ Ended →
          point_stores living (at (world (translation_of y) before)) life h ≡ boundaries_passed (translation_of y) before life h
      passes before life begin on hart here ended =
          let w = world (translation_of y) before in
          let account = steps (translation_of y) before in
          let b = begins before begin in
          let from = life_start (translation_of y) before in
          let start : now_of y (stands_in b.lives).abstract ≡ from =
          b.begun.graph_is ∙ ap (λ (z : State). graph_anew (flat_of y) z.variables) (sym (source_there b.lives)) in
          let since : ArePassedSince (stands_in b.lives) from account.begun 0 =
          subst (λ (us : List ℕ). ArePassedSince (stands_in b.lives) from us 0) (sym b.none)
          (record { runs = refl; is = start; even = omega (arith, b.begun.even h below) }) in
          let all = along life on w account b.lives from 0 since in
          let there : slice_get (after_events y.runs.program w life).harts h ≡ Some hart =
          subst (λ (v : World). slice_get v.harts h ≡ Some hart) (worlds_join y.runs.program before life (first_world y.runs)) here in
          let ends : EndAtEnds G (now_of y (stands_in all.lives).abstract) =
          subst (EndAtEnds G) (sym all.since.is) (run_ends G _ from (starts_end G from G.threads refl)) in
          let even = ends_even all.lives ends hart there ended in
          let joined : (steps (translation_of y) (before ++ life)).begun ≡ (steps_along y.runs.marks y.runs.program w life account).begun =
          ap (λ (z : Steps). z.begun) (steps_join y.runs.marks y.runs.program before life (first_world y.runs) (steps (translation_of y) [])) in
          let same : boundaries_passed (translation_of y) before life h
          ≡ passages G B from (steps_along y.runs.marks y.runs.program w life account).begun h =
          ap (λ (us : List ℕ). boundaries_passed_by (locals_of y.runs.log) (translation_of y) before us h) joined
          ∙ sym (passed_so before b (steps_along y.runs.marks y.runs.program w life account).begun (locals_of y.runs.log) refl) in
          omega (arith, all.since.even, even, same)

pub lives_fence : FragmentsStep → CoresStep → LocalStoresStep → FragmentsGoOn → MachinesResume → EndedLivesFence
lives_fence fragments_step cores_step local_stores_step law machines y s before life h below begin on hart here ended =
    let inside : h < thread_count y = omega (arith, below, s.count) in
    let points = passes fragments_step cores_step local_stores_step law y s h inside machines before life begin on hart here ended in
    let fences = in_life fragments_step cores_step local_stores_step law y s h inside before life begin on hart here ended in
    record { points = points; fences = fences ∙ ap (λ (k : ℕ). 2 * k) points }
