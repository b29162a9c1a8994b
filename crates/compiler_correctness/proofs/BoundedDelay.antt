-- Each hart of a compiled program soon begins the next step of its thread, or stops: what the simulation says is ahead of it falls with each of its active
-- steps, and where it has stopped, as much may be ahead as at most, since another life may begin.
use Rattle.std.proofs.Common.{◌≡◌, ◌⊎◌, inl, inr, refl, ℕ, suc, ◌<◌, ◌≤◌, List, [], ◌∷◌, length, ap, arith, sym, ◌∙◌, subst, Option, Some, None}
use Rattle.std.proofs.Common.{Bool, true, false, slice_get, ◌==◌, ◌&&◌, ◌-◌, not}
use Rattle.std.proofs.lemmas.Bool.{and_parts, cases_eq, cases_Bool, ne_eqb, true≢false}
use Rattle.std.proofs.lemmas.Option.{none-some, same_Some, slice_get_within}
use Rattle.machine_events.specs.declared.event.Event.{Event}
use Rattle.machine_events.specs.declared.event.Event.TheVariants.{Step, Evict, Crash, Start}
use Rattle.machine_events.specs.declared.event.Reply.TheVariants.{Waits}
use Rattle.rv64_isa.specs.declared.object.Slot.{Slot}
use Rattle.machine_model.specs.declared.phase.Phase.{Phase}
use Rattle.machine_model.specs.declared.phase.Phase.TheVariants.{Take, Wait, Resume, Run, Done, Ended}
use Rattle.machine_model.specs.Executables.{first_world}
use Rattle.machine_model.specs.Machine.{Hart, World, Outcome, after_event, can_start, has_stopped, have_stopped, is_settled, reply_to, happens}
use Rattle.machine_model.specs.Schedule.{KeepsOn, Steps, first_steps, is_running, only_life, passes_mark}
use Rattle.machine_model.specs.Frames.{IsWellFormedWorld}
use Rattle.machine_model.proofs.Public.{each_stopped, steps_touch}
use Rattle.flow_graph.proofs.Public.{get_cases, no_more}
use Rattle.hart_runs.specs.Calls.{IsInPhase}
use Rattle.thread_runs.specs.Laws.{FragmentsGoOn}
use Rattle.crash_simulation.specs.Systems.{System, IsSystem, thread_count}
use Rattle.log_schemes.specs.declared.log.Log.{Log}
use Rattle.boundary_code.specs.Boundaries.{frame_lines}
use Rattle.crash_simulation.specs.StepsToMark.{most_ahead}
use Rattle.crash_simulation.specs.ThreadGhosts.{IsRunningThread, InPhase, on_fragment, at_core, at_past}
use Rattle.crash_simulation.specs.SimulationRelation.{Simulates}
use Rattle.crash_simulation.specs.Laws.{EventsStand}
use Rattle.crash_simulation.specs.InstructionSteps.{FragmentsStep, CoresStep, LocalStoresStep, Nears, begins_step, waits, is_nearer, halts}
use Rattle.crash_simulation.proofs.Public.{start_simulates, phase_of, GoesOn, event_goes_on, and_none, step_of, not_running, not_there, steps_join, worlds_join}
use Rattle.compiler_correctness.specs.Translations.{GoOn, HaveNoCrash, Translation, steps, world}
use Rattle.compiler_correctness.specs.Delays.{is_active_step, active_steps, begun_by, has_waited, IsStopped, GetsOn, GetsOnAmong, delay}
use Rattle.compiler_correctness.specs.Laws.{DelaysAreBounded, translation_of}
use Rattle.compiler_correctness.proofs.ImageWords.{stands_along}
use Rattle.compiler_correctness.proofs.MachineLockstep.{nothing_starts}
use Rattle.compiler_correctness.proofs.MarksReached as nearing

-- ---- Steps that aren't active, and harts that have stopped

module _ (program : List (List Slot)) (w : World) (h : ℕ) where
  abbrev active : Option Hart → Bool
  active o = elim o [
    | None ↦ false
    | Some x ↦ is_running x.phase && not (has_waited (reply_to program w (Step h)))
  ]

  none_active : (g : ℕ) → active (slice_get w.harts h) ≡ false → is_active_step program w (Step g) h ≡ false
  none_active g e = ap (λ (b : Bool). (g == h) && b) e ∙ and_none (g == h)

  other_active : (g : ℕ) → (g == h) ≡ false → is_active_step program w (Step g) h ≡ false
  other_active g e = ap (λ (b : Bool). b && active (slice_get w.harts h)) e

  off_active : (hart : Hart) → slice_get w.harts h ≡ Some hart → is_running hart.phase ≡ false → is_active_step program w (Step h) h ≡ false
  off_active hart here off =
      none_active h (ap active here ∙ ap (λ (b : Bool). b && not (has_waited (reply_to program w (Step h)))) off)

  stopped_by : (hart : Hart) → slice_get w.harts h ≡ Some hart → (phase : Phase) → hart.phase ≡ phase → has_stopped phase ≡ true → IsStopped w h
  stopped_by hart here phase is stopped = record { hart = hart; here = here; stopped = ap has_stopped is ∙ stopped }

  -- a hart that has stopped is in no other phase
  not_stopped : (hart : Hart) → slice_get w.harts h ≡ Some hart → has_stopped hart.phase ≡ false → IsStopped w h → ⊥
  not_stopped hart here off s =
      true≢false (sym s.stopped ∙ (ap (λ (x : Hart). has_stopped x.phase) (same_Some s.hart hart (sym s.here ∙ here)) ∙ off))

-- what has become of a hart doesn't depend on the rest of a world
same_stop : (w v : World) (h : ℕ) → slice_get v.harts h ≡ slice_get w.harts h → IsStopped w h → IsStopped v h
same_stop w v h e s = record { hart = s.hart; here = e ∙ s.here; stopped = s.stopped }

evict_harts : (program : List (List Slot)) (w : World) (line mask h : ℕ) →
    slice_get (after_event program w (Evict line mask)).harts h ≡ slice_get w.harts h
unfolding happens
evict_harts program w line mask h = refl

module _ (fragments_step : FragmentsStep) (cores_step : CoresStep) (local_stores_step : LocalStoresStep) (law : FragmentsGoOn) (y : System) (s : IsSystem y)
    (h : ℕ) where
  abbrev ahead : (w : World) → Simulates y s w → ℕ
  ahead w stands = (stands.ghosts h).before_mark

  -- no more than the most is ahead of a hart that hasn't stopped
  most_by : (w : World) (stands : Simulates y s w) (below : h < thread_count y) (hart : Hart) → slice_get w.harts h ≡ Some hart → (phase : Phase) →
      hart.phase ≡ phase → IsStopped w h ⊎ (ahead w stands ≤ most_ahead y h)
  most_by w stands below hart here phase is = by phase is
    where
      number : most_ahead y (s.codes.each h below).thread.number ≡ most_ahead y h
      number = ap (most_ahead y) (s.codes.number h below)

      of : (p : Phase) → hart.phase ≡ p → InPhase y w stands.abstract (s.codes.each h below) (stands.ghosts h) hart
          (stands.each h below).graph_thread p
      of p e = phase_of y s w h stands p (record { hart = hart; here = here; phase_is = e }) below

      rested : ahead w stands ≡ most_ahead y (s.codes.each h below).thread.number → ahead w stands ≤ most_ahead y h
      rested whole = let same = number in omega (arith, whole, same)

      running : IsRunningThread y w stands.abstract (s.codes.each h below) (stands.ghosts h) hart
          (stands.each h below).graph_thread → ahead w stands ≤ most_ahead y h
      running (on_fragment exit steps o) = let most = o.soon.1 in let same = number in omega (arith, most, same)
      running (at_core o) = let most = o.soon.1 in let same = number in omega (arith, most, same)
      running (at_past o) = let most = o.soon.1 in let same = number in omega (arith, most, same)

      by : (p : Phase) → hart.phase ≡ p → IsStopped w h ⊎ (ahead w stands ≤ most_ahead y h)
      by Run e = inr (running (of Run e))
      by Done e = inl (stopped_by y.runs.program w h hart here Done e refl)
      by Ended e = inl (stopped_by y.runs.program w h hart here Ended e refl)
      by p e = inr (rested (of p e).whole)

  -- ---- What is ahead falls

  below_of : (v : World) → Simulates y s v → (hart : Hart) → slice_get v.harts h ≡ Some hart → h < thread_count y
  below_of v stands hart here =
      let inside = slice_get_within v.harts h hart here in
      let count = stands.machine.count in
      omega (arith, inside, count)

  -- of a hart that is there and goes on no more than so much is ahead; and where it has stopped, as much may be as at most
  record IsNear (w : World) (left : ℕ) : Type 0 where
    stands : Simulates y s w
    soon : h < thread_count y → IsStopped w h ⊎ (ahead w stands ≤ left)
    rests : IsStopped w h → most_ahead y h ≤ left

  abbrev Nearer : World → Event → (left : ℕ) → Type 0
  Nearer w event left = nearing.GetsNearer y.runs h IsNear w event left

  -- where as much may be ahead as at most
  most_near : (w : World) (left : ℕ) → Simulates y s w → most_ahead y h ≤ left → IsNear w left
  most_near w left stands most = record {
    stands = stands;
    soon = λ below. elim (get_cases w.harts h) [
      | inl missing ↦ absurd (let long = no_more w.harts h missing in let count = stands.machine.count in omega (arith, below, long, count))
      | inr there ↦ elim (most_by w stands below there.0 there.1 there.0.phase refl) [
        | inl stopped ↦ inl stopped
        | inr few ↦ inr (omega (arith, few, most))
      ]
    ];
    rests = λ stopped. most;
  }

  module _ (w : World) (left : ℕ) (near : IsNear w left) where
    abbrev then_near : (event : Event) → GoesOn y s w event near.stands
    then_near event = event_goes_on fragments_step cores_step local_stores_step law y s w event near.stands

    -- where nothing happens
    same_near : (event : Event) → after_event y.runs.program w event ≡ w → is_active_step y.runs.program w event h ≡ false → Nearer w event left
    same_near event same idle = nearing.idles idle (subst (λ (v : World). IsNear v left) (sym same) near)

    -- where the hart is as before
    stays : (event : Event) → KeepsOn event → (event ≡ Step h → IsInPhase w h Run → ⊥) → is_active_step y.runs.program w event h ≡ false →
        slice_get (after_event y.runs.program w event).harts h ≡ slice_get w.harts h → Nearer w event left
    stays event on other idle hart =
        let same = ((then_near event).on on).stays h other in
        nearing.idles idle (record {
          stands = (then_near event).next;
          soon = λ below. elim (near.soon below) [
            | inl stopped ↦ inl (same_stop w (after_event y.runs.program w event) h hart stopped)
            | inr soon ↦ inr (omega (arith, soon, same))
          ];
          rests = λ stopped. near.rests (same_stop (after_event y.runs.program w event) w h (sym hart) stopped);
        })

    -- ---- A step of its own

    -- a hart in recovery has as much ahead as at most
    rests_on : (hart : Hart) → slice_get w.harts h ≡ Some hart → is_running hart.phase ≡ false → has_stopped hart.phase ≡ false →
        (h < thread_count y → ahead w near.stands ≡ most_ahead y h) → Nearer w (Step h) left
    rests_on hart here off going whole =
        let below = below_of w near.stands hart here in
        let apart = not_running w h hart here off in
        let same = ((then_near (Step h)).on tt).stays h (λ is. apart) in
        let most : most_ahead y h ≤ left = elim (near.soon below) [
          | inl stopped ↦ near.rests stopped
          | inr soon ↦ let all = whole below in omega (arith, soon, all)
        ] in
        nearing.idles (off_active y.runs.program w h hart here off) (record {
          stands = (then_near (Step h)).next;
          soon = λ inside. let all = whole inside in inr (omega (arith, same, all, most));
          rests = λ stopped. most;
        })

    waits_idle : (mutex holder : ℕ) → happens y.runs.program w (Step h) ≡ (w, Waits mutex holder) → is_active_step y.runs.program w (Step h) h ≡ false
    waits_idle mutex holder does = none_active y.runs.program w h h (by (slice_get w.harts h))
      where
        idle : (runs : Bool) → (runs && not (has_waited (reply_to y.runs.program w (Step h)))) ≡ false
        idle true = ap (λ (o : Outcome). not (has_waited o.1)) does
        idle false = refl

        by : (o : Option Hart) → active y.runs.program w h o ≡ false
        by None = refl
        by (Some x) = idle (is_running x.phase)

    gets_on_by : IsInPhase w h Run → (passes_mark y.runs.marks y.runs.program w h ≡ true) ⊎ IsStopped (after_event y.runs.program w (Step h)) h →
        Nearer w (Step h) left
    gets_on_by i on = nearing.gets_on (record { is = refl; executes = i; gets_on = on })

    abbrev stepped_world : World
    stepped_world = after_event y.runs.program w (Step h)

    -- where one step less is ahead, the hart has stopped, or is nearer
    nearer_by : IsInPhase w h Run → ahead w near.stands ≤ left → ahead w near.stands ≡ suc (ahead stepped_world (then_near (Step h)).next) →
        Nearer w (Step h) left
    nearer_by i soon one = by (get_cases stepped_world.harts h)
      where
        near_then : (IsStopped stepped_world h → ⊥) → Nearer w (Step h) left
        near_then going = nearing.nears (left - 1) (omega (arith, soon, one)) (record {
          stands = (then_near (Step h)).next;
          soon = λ there. inr (omega (arith, soon, one));
          rests = λ stopped. absurd (going stopped);
        })

        by : (slice_get stepped_world.harts h ≡ None) ⊎ ((x : Hart) × (slice_get stepped_world.harts h ≡ Some x)) → Nearer w (Step h) left
        by (inl missing) = near_then (λ stopped. none-some stopped.hart (sym missing ∙ stopped.here))
        by (inr there) = elim (cases_Bool (has_stopped there.0.phase)) [
          | inl on ↦ gets_on_by i (inr (stopped_by y.runs.program stepped_world h there.0 there.1 there.0.phase refl on))
          | inr off ↦ near_then (not_stopped y.runs.program stepped_world h there.0 there.1 off)
        ]

    runs : IsInPhase w h Run → Nearer w (Step h) left
    runs i = by (((then_near (Step h)).on tt).nears h refl i)
      where
        below : h < thread_count y
        below = below_of w near.stands i.hart i.here

        by : Nears y w h (passes_mark y.runs.marks y.runs.program w h) (ahead w near.stands)
            (ahead (after_event y.runs.program w (Step h)) (then_near (Step h)).next)
            → Nearer w (Step h) left
        by (begins_step passes) = gets_on_by i (inl passes)
        by (waits mutex holder does same) = same_near (Step h) (ap (λ (o : Outcome). o.0) does) (waits_idle mutex holder does)
        by (is_nearer one) = elim (near.soon below) [
          | inl stopped ↦ absurd (not_stopped y.runs.program w h i.hart i.here (ap has_stopped i.phase_is) stopped)
          | inr soon ↦ nearer_by i soon one
        ]
        by (halts hart here stopped) = gets_on_by i (inr (elim stopped [
          | inl done ↦ stopped_by y.runs.program (after_event y.runs.program w (Step h)) h hart here Done done refl
          | inr ended ↦ stopped_by y.runs.program (after_event y.runs.program w (Step h)) h hart here Ended ended refl
        ]))

    stopped_stays : (hart : Hart) → slice_get w.harts h ≡ Some hart → (phase : Phase) → hart.phase ≡ phase → has_stopped phase ≡ true →
        is_running phase ≡ false → Nearer w (Step h) left
    stopped_stays hart here phase is stopped off =
        same_near (Step h) (nearing.still y.runs.marks y.runs.program h w (stopped_by y.runs.program w h hart here phase is stopped))
        (off_active y.runs.program w h hart here (ap is_running is ∙ off))

    in_recovery : (hart : Hart) → slice_get w.harts h ≡ Some hart → (phase : Phase) (i : hart.phase ≡ phase) → is_running phase ≡ false →
        has_stopped phase ≡ false → ((below : h < thread_count y) → ahead w near.stands ≡ most_ahead y (s.codes.each h below).thread.number) →
        Nearer w (Step h) left
    in_recovery hart here phase is off going whole =
        rests_on hart here (ap is_running is ∙ off) (ap has_stopped is ∙ going) (λ below. whole below ∙ ap (most_ahead y) (s.codes.number h below))

    own_by_phase : (hart : Hart) → slice_get w.harts h ≡ Some hart → (phase : Phase) → hart.phase ≡ phase → Nearer w (Step h) left
    own_by_phase hart here Take is =
        in_recovery hart here Take is refl refl (λ below. (phase_of y s w h near.stands Take (record { hart = hart; here = here; phase_is = is }) below).whole)
    own_by_phase hart here Wait is =
        in_recovery hart here Wait is refl refl (λ below. (phase_of y s w h near.stands Wait (record { hart = hart; here = here; phase_is = is }) below).whole)
    own_by_phase hart here Resume is =
        in_recovery hart here Resume is refl refl (λ below.
        (phase_of y s w h near.stands Resume (record { hart = hart; here = here; phase_is = is }) below).whole)
    own_by_phase hart here Run is = runs (record { hart = hart; here = here; phase_is = is })
    own_by_phase hart here Done is = stopped_stays hart here Done is refl refl
    own_by_phase hart here Ended is = stopped_stays hart here Ended is refl refl

    own : Nearer w (Step h) left
    own = elim (get_cases w.harts h) [
      | inl missing ↦
          same_near (Step h) (sym (not_there y w h missing)) (none_active y.runs.program w h h (ap (active y.runs.program w h) missing))
      | inr there ↦ own_by_phase there.0 there.1 there.0.phase refl
    ]

    -- ---- Another life

    abbrev next : Simulates y s (after_event y.runs.program w Start)
    next = (then_near Start).next

    -- each hart has stopped
    begins : can_start w ≡ true → Nearer w Start left
    begins may = nearing.idles refl (by (get_cases w.harts h))
      where
        all : have_stopped w.harts ≡ true
        all = (and_parts (is_settled w) (have_stopped w.harts) may).1

        nobody : slice_get w.harts h ≡ None → h < thread_count y → ⊥
        nobody missing below =
            let long = no_more w.harts h missing in
            let count = near.stands.machine.count in
            omega (arith, below, long, count)

        by : (slice_get w.harts h ≡ None) ⊎ ((x : Hart) × (slice_get w.harts h ≡ Some x)) → IsNear (after_event y.runs.program w Start) left
        by (inl missing) = record {
          stands = next;
          soon = λ below. absurd (nobody missing below);
          rests = λ stopped. absurd (nobody missing (below_of (after_event y.runs.program w Start) next stopped.hart stopped.here));
        }
        by (inr there) =
            most_near (after_event y.runs.program w Start) left next
            (near.rests (record { hart = there.0; here = there.1; stopped = each_stopped w.harts all h there.0 there.1 }))

    falls : (event : Event) → HaveNoCrash (event ∷ []) → Nearer w event left
    falls (Step g) on = elim (cases_eq g h) [
      | inl is ↦ subst (λ (k : ℕ). Nearer w (Step k) left) (sym is) own
      | inr other ↦ stays (Step g) tt (λ is i. other (step_of g h is)) (other_active y.runs.program w h g (ne_eqb g h other))
          ((steps_touch y.runs.program w g near.stands.machine.sound).others h (λ e. other (sym e)))
    ]
    falls (Evict line mask) on = stays (Evict line mask) tt (λ is i. cc) refl (evict_harts y.runs.program w line mask h)
    falls Crash on = absurd on
    falls Start on = elim (cases_Bool (can_start w)) [
      | inl may ↦ begins may
      | inr none ↦ same_near Start (nothing_starts y.runs.program w none) refl
    ]

  pub delays : (w : World) → Simulates y s w → (more : List Event) → HaveNoCrash more → delay (translation_of y) h ≤ active_steps y.runs.program w more h →
      GetsOnAmong y.runs w more h
  delays w stands more none many =
      nearing.gets_on_along y.runs h IsNear (λ u event left on there. falls u left there event on) more w (most_ahead y h) none
      (most_near w (most_ahead y h) stands (omega arith))
      (let lines : length (frame_lines y.plan.log true) ≡ length (frame_lines y.runs.log true) = ap (λ (l : Log). length (frame_lines l true)) s.log in
      omega (arith, many, lines))

pub delays_are_bounded : EventsStand → FragmentsStep → CoresStep → LocalStoresStep → FragmentsGoOn → DelaysAreBounded
delays_are_bounded stand fragments_step cores_step local_stores_step law y s events more h =
    delays fragments_step cores_step local_stores_step law y s h _ (stands_along stand y s events (first_world y.runs) (start_simulates y s)) more

-- while the life goes on, a hart that gets on has begun more steps in the end, or has stopped
pub gets_on_after : (c : Translation) (events more : List Event) (h : ℕ) → length c.runs.program ≡ length (world c events).harts →
    IsWellFormedWorld (world c events) → GoOn more → GetsOnAmong c.runs (world c events) more h → GetsOn c events more h
gets_on_after c events more h count sound on among =
    let first = first_world c.runs in
    let account : Steps = first_steps (only_life []) in
    elim (nearing.begun_among c.runs h more (world c events) (steps c events) count sound on among) [
      | inl begun ↦
          inl (subst (λ (z : Steps). begun_by (steps c events) h < begun_by z h) (sym (steps_join c.runs.marks c.runs.program events more first account)) begun)
      | inr stopped ↦ inr (subst (λ (z : World). IsStopped z h) (sym (worlds_join c.runs.program events more first)) stopped)
    ]
