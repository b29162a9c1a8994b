-- What is finished of fences along events, and what is stored of points.
use Rattle.std.proofs.Common.{◌≡◌, ◌≢◌, refl, ℕ, ◌+◌, ◌*◌, ◌<◌, ◌≤◌, List, [], ◌∷◌, ◌++◌, Bool}
use Rattle.std.proofs.Common.{true, false, if◌then◌else◌, slice_get, Some, ap, sym, subst, arith}
use Rattle.machine_events.specs.declared.event.Event.{Event}
use Rattle.machine_events.specs.declared.event.Event.TheVariants.{Step, Evict, Crash, Start}
use Rattle.machine_events.specs.Cores.{finished_fences, point_stores}
use Rattle.machine_model.specs.Executables.{first_world}
use Rattle.machine_model.specs.declared.phase.Phase.TheVariants.{Ended}
use Rattle.machine_model.specs.Machine.{Hart, World, after_event, after_events}
use Rattle.machine_model.specs.Schedule.{only_life, finishes_fence, stores_point}
use Rattle.rv64_isa.specs.Rows.{Effect}
use Rattle.run_tracker.specs.ObjectLives.{LifeConfig, living}
use Rattle.log_states.specs.Machines.{config_of}
use Rattle.log_states.specs.Stages.{fences_ahead}
use Rattle.thread_runs.specs.Laws.{FragmentsGoOn}
use Rattle.crash_simulation.specs.Systems.{System, IsSystem, thread_count}
use Rattle.crash_simulation.specs.BoundaryFences.{fences_due, AreFencesCounted}
use Rattle.crash_simulation.specs.InstructionSteps.{FragmentsStep, CoresStep, LocalStoresStep}
use Rattle.crash_simulation.specs.SimulationRelation.{Simulates}
use Rattle.crash_simulation.proofs.Public.{GoesOn, event_goes_on, first_life, first_origin, has_begun, life_stands, phase_of, worlds_join}
use Rattle.compiler_correctness.specs.Laws.{translation_of}
use Rattle.compiler_correctness.specs.Translations.{GoOn, world}
use Rattle.fence_counts.specs.FenceCounts.{crashes_in, AreFencesOfPoints, BeginsLife, FencesFollowPoints, opening}
use Rattle.fence_counts.specs.FenceCounts.{first_begins, later_begins}
use Rattle.fence_counts.proofs.UnbalancedLogs.{AreWithinOne, within_one}

-- so many fences are finished, so many points stored and so many crashes made, where this is ahead of the boundary under way
pub record AreNear (fences finished stored crashes : ℕ) (rest : List Effect) : Type 0 where
  pub no_more : finished + fences_ahead rest ≤ fences * stored + fences_due fences rest + crashes
  pub no_less : fences * stored + fences_due fences rest ≤ finished + fences_ahead rest + crashes

-- the counts at last
pub record AreApart (fences finished stored crashes : ℕ) : Type 0 where
  pub no_more : finished ≤ fences * stored + 1 + crashes
  pub no_less : fences * stored ≤ finished + 1 + crashes

step_no_crash : (g : ℕ) → Step g ≢ Crash
step_no_crash g e = cc e

evict_no_crash : (line mask : ℕ) → Evict line mask ≢ Crash
evict_no_crash line mask e = cc e

start_no_crash : Start ≢ Crash
start_no_crash e = cc e

-- ---- By one event

event_near : (finishes stores : Bool) (finished stored crashes : ℕ) (old new : List Effect) → AreFencesCounted 2 finishes stores old new →
    AreNear 2 finished stored crashes old →
    AreNear 2 ((if finishes then 1 else 0) + finished) ((if stores then 1 else 0) + stored) crashes new
event_near true true finished stored crashes old new counted near =
    record { no_more = omega (arith, counted, near.no_more); no_less = omega (arith, counted, near.no_less) }
event_near true false finished stored crashes old new counted near =
    record { no_more = omega (arith, counted, near.no_more); no_less = omega (arith, counted, near.no_less) }
event_near false true finished stored crashes old new counted near =
    record { no_more = omega (arith, counted, near.no_more); no_less = omega (arith, counted, near.no_less) }
event_near false false finished stored crashes old new counted near =
    record { no_more = omega (arith, counted, near.no_more); no_less = omega (arith, counted, near.no_less) }

-- a crash cuts the boundary off
crash_near : (finished stored crashes : ℕ) (old new : List Effect) → new ≡ [] → AreWithinOne 2 old → AreNear 2 finished stored crashes old →
    AreNear 2 finished stored (1 + crashes) new
crash_near finished stored crashes old new none within near =
    subst (AreNear 2 finished stored (1 + crashes)) (sym none)
    (record { no_more = omega (arith, within.0, within.1, near.no_more); no_less = omega (arith, within.0, within.1, near.no_less) })

last_near : (finished stored crashes : ℕ) (rest : List Effect) → AreWithinOne 2 rest → AreNear 2 finished stored crashes rest →
    AreApart 2 finished stored crashes
last_near finished stored crashes rest within near =
    record { no_more = omega (arith, within.0, within.1, near.no_more); no_less = omega (arith, within.0, within.1, near.no_less) }

-- ---- Along events

module _ (fragments_step : FragmentsStep) (cores_step : CoresStep) (local_stores_step : LocalStoresStep) (law : FragmentsGoOn) (y : System) (s : IsSystem y)
    (h : ℕ) (below : h < thread_count y)
  where
    abbrev at : World → LifeConfig
    at w = record { runs = y.runs; kept_before = only_life []; ended_before = []; world = w }

    abbrev finished_in : World → List Event → ℕ
    finished_in w events = finished_fences living (at w) events h

    abbrev stored_in : World → List Event → ℕ
    stored_in w events = point_stores living (at w) events h

    within : (w : World) (stands : Simulates y s w) → AreWithinOne 2 (stands.ghosts h).rest
    within w stands =
        let t = stands.each h below in
        let c = stands.ghosts h in
        within_one w.log (s.codes.each h below).thread.number c.old c.new (config_of w t.log.hart c.rest) t.log.log

    -- what comes of the counts after the events, where they are near before
    record Comes (w : World) (events : List Event) (finished stored crashes : ℕ) : Type 0 where
      stands : Simulates y s (after_events y.runs.program w events)
      near : AreNear 2 (finished_in w events + finished) (stored_in w events + stored) (crashes_in events + crashes) (stands.ghosts h).rest

    again : (one a x more b z c : ℕ) (rest : List Effect) → AreNear 2 (a + (one + x)) (b + (more + z)) c rest → AreNear 2 (one + a + x) (more + b + z) c rest
    again one a x more b z c rest h = record { no_more = omega (arith, h.no_more); no_less = omega (arith, h.no_less) }

    abbrev then_goes : (event : Event) (w : World) (stands : Simulates y s w) → GoesOn y s w event stands
    then_goes event w stands = event_goes_on fragments_step cores_step local_stores_step law y s w event stands

    abbrev finishes : World → Event → Bool
    finishes w event = finishes_fence y.runs.program w event h

    abbrev stores : World → Event → Bool
    stores w event = stores_point y.runs.program w event h

    -- an event that cuts no boundary off
    goes_near : (event : Event) (w : World) (stands : Simulates y s w) (finished stored crashes : ℕ) → event ≢ Crash →
        AreNear 2 finished stored crashes (stands.ghosts h).rest →
        AreNear 2 ((if finishes w event then 1 else 0) + finished) ((if stores w event then 1 else 0) + stored) crashes
        ((then_goes event w stands).next.ghosts h).rest
    goes_near event w stands finished stored crashes other near =
        let o = then_goes event w stands in
        event_near (finishes w event) (stores w event) finished stored crashes (stands.ghosts h).rest (o.next.ghosts h).rest (o.fences other h below) near

    -- an event more, by which the life goes on or another one begins
    one_more : (event : Event) (events : List Event) (w : World) (finished stored crashes : ℕ) →
        Comes (after_event y.runs.program w event) events ((if finishes w event then 1 else 0) + finished)
        ((if stores w event then 1 else 0) + stored) crashes →
        crashes_in (event ∷ events) ≡ crashes_in events → Comes w (event ∷ events) finished stored crashes
    one_more event events w finished stored crashes later same = record {
      stands = later.stands;
      near = again (if finishes w event then 1 else 0) (finished_in (after_event y.runs.program w event) events) finished (if stores w event then 1 else 0)
          (stored_in (after_event y.runs.program w event) events) stored (crashes_in (event ∷ events) + crashes) (later.stands.ghosts h).rest
          (subst (λ (k : ℕ). AreNear 2 (finished_in (after_event y.runs.program w event) events + ((if finishes w event then 1 else 0) + finished))
          (stored_in (after_event y.runs.program w event) events + ((if stores w event then 1 else 0) + stored)) (k + crashes) (later.stands.ghosts h).rest)
          (sym same) later.near);
    }

    along : (events : List Event) (w : World) (stands : Simulates y s w) (finished stored crashes : ℕ) →
        AreNear 2 finished stored crashes (stands.ghosts h).rest →
        Comes w events finished stored crashes
    along [] w stands finished stored crashes near =
        record { stands = stands; near = record { no_more = omega (arith, near.no_more); no_less = omega (arith, near.no_less) } }
    along (Step g ∷ events) w stands finished stored crashes near =
        one_more (Step g) events w finished stored crashes (along events (after_event y.runs.program w (Step g)) (then_goes (Step g) w stands).next _ _ crashes
        (goes_near (Step g) w stands finished stored crashes (step_no_crash g) near)) refl
    along (Evict line mask ∷ events) w stands finished stored crashes near =
        one_more (Evict line mask) events w finished stored crashes (along events (after_event y.runs.program w (Evict line mask))
        (then_goes (Evict line mask) w stands).next _ _ crashes (goes_near (Evict line mask) w stands finished stored crashes (evict_no_crash line mask) near))
        refl
    along (Start ∷ events) w stands finished stored crashes near =
        one_more Start events w finished stored crashes (along events (after_event y.runs.program w Start) (then_goes Start w stands).next _ _ crashes
        (goes_near Start w stands finished stored crashes start_no_crash near)) refl
    along (Crash ∷ events) w stands finished stored crashes near =
        let o = then_goes Crash w stands in
        let later = along events (after_event y.runs.program w Crash) o.next finished stored (1 + crashes)
        (crash_near finished stored crashes (stands.ghosts h).rest (o.next.ghosts h).rest (o.cut_off refl h) (within w stands) near) in
        record { stands = later.stands; near = record { no_more = omega (arith, later.near.no_more); no_less = omega (arith, later.near.no_less) } }

    -- no boundary is under way of a hart that has ended
    ended_rests : (w : World) (stands : Simulates y s w) (hart : Hart) → slice_get w.harts h ≡ Some hart → hart.phase ≡ Ended → (stands.ghosts h).rest ≡ []
    ended_rests w stands hart here ended =
        (phase_of y s w h stands Ended (record { hart = hart; here = here; phase_is = ended }) below).0.goes.rest

    -- ---- From the start

    abbrev begun : Simulates y s (first_world y.runs)
    begun = life_stands y s (first_origin y s) (first_world y.runs) (first_life y s)

    rests_near : (w : World) (stands : Simulates y s w) → (stands.ghosts h).rest ≡ [] → AreNear 2 0 0 0 (stands.ghosts h).rest
    rests_near w stands none = subst (AreNear 2 0 0 0) (sym none) (record { no_more = omega arith; no_less = omega arith })

    first_rests : (begun.ghosts h).rest ≡ []
    first_rests = (has_begun y s (first_origin y s) (first_world y.runs) (first_life y s)).none_ahead h

    from_first : (events : List Event) → Comes (first_world y.runs) events 0 0 0
    from_first events = along events (first_world y.runs) begun 0 0 0 (rests_near (first_world y.runs) begun first_rests)

    pub from_start : (events : List Event) → AreFencesOfPoints (translation_of y) events h
    from_start events =
        let all = from_first events in
        let last = last_near _ _ _ (all.stands.ghosts h).rest (within _ all.stands) all.near in
        record { no_more = omega (arith, last.no_more); no_less = omega (arith, last.no_less) }

    -- ---- A life without a crash

    -- where a life begins nothing is ahead of the hart
    record BeginsAt (w : World) : Type 0 where
      stands : Simulates y s w
      rests : (stands.ghosts h).rest ≡ []

    begins : (before : List Event) → BeginsLife (translation_of y) before → BeginsAt (world (translation_of y) before)
    begins _ first_begins = record { stands = begun; rests = first_rests }
    begins _ (later_begins before may) =
        let w = world (translation_of y) before in
        let o = then_goes Start w (from_first before).stands in
        subst BeginsAt (sym (worlds_join y.runs.program before (Start ∷ []) (first_world y.runs)))
        (record { stands = o.next; rests = (o.anew may).none_ahead h })

    no_crashes : (life : List Event) → GoOn life → crashes_in life ≡ 0
    no_crashes [] on = refl
    no_crashes (Step g ∷ life) on = no_crashes life on.1
    no_crashes (Evict line mask ∷ life) on = no_crashes life on.1
    no_crashes (Crash ∷ life) on = absurd on.0
    no_crashes (Start ∷ life) on = absurd on.0

    -- as many fences are finished in the life as boundaries have whose point is stored in it
    abbrev pub HaveFences : (before life : List Event) → Type 0
    HaveFences before life =
        finished_fences living (record (opening (translation_of y)) { world = world (translation_of y) before }) life h
        ≡ 2 * point_stores living (record (opening (translation_of y)) { world = world (translation_of y) before }) life h

    pub in_life : (before life : List Event) → BeginsLife (translation_of y) before → GoOn life → (hart : Hart) →
        slice_get (world (translation_of y) (before ++ life)).harts h ≡ Some hart → hart.phase ≡ Ended → HaveFences before life
    in_life before life begin on hart here ended =
        let w = world (translation_of y) before in
        let b = begins before begin in
        let all = along life w b.stands 0 0 0 (rests_near w b.stands b.rests) in
        let there : slice_get (after_events y.runs.program w life).harts h ≡ Some hart =
        subst (λ (v : World). slice_get v.harts h ≡ Some hart) (worlds_join y.runs.program before life (first_world y.runs)) here in
        let none = ended_rests _ all.stands hart there ended in
        let none_ahead : fences_ahead (all.stands.ghosts h).rest ≡ 0 = ap fences_ahead none in
        let none_due : fences_due 2 (all.stands.ghosts h).rest ≡ 0 = ap (fences_due 2) none in
        omega (arith, all.near.no_more, all.near.no_less, none_ahead, none_due, no_crashes life on)

pub fences_follow_points : FragmentsStep → CoresStep → LocalStoresStep → FragmentsGoOn → FencesFollowPoints
fences_follow_points fragments_step cores_step local_stores_step law y s events h below =
    from_start fragments_step cores_step local_stores_step law y s h (omega (arith, below, s.count)) events
