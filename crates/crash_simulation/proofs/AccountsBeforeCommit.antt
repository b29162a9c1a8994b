-- The machine's account and its releases after an event, where commits are still to be taken.
use Rattle.crash_simulation.proofs.Common.{◌≡◌, ◌≢◌, ℕ, List, ◌∷◌, sym, ◌∙◌, ap, arith, subst, true, false, Some, None, refl, suc, ◌+◌, ◌<◌, [], ◌++◌}
use Rattle.crash_simulation.proofs.Common.{Bool, inl, inr, ◌==◌, slice_get, ◌&&◌, if◌then◌else◌, not, true≢false, append-nil, ap₂, is_some}
use Rattle.crash_simulation.proofs.Common.{cases_Bool, and_parts, eqb-true, last_position, Event, Step, Evict, Crash, Log, ended_from, goes_on}
use Rattle.crash_simulation.proofs.Common.{first_world, IsWellFormedWorld, World, happens, after_event, after_crash_of, Outcome, Steps, is_running, passes_mark}
use Rattle.crash_simulation.proofs.Common.{stores_point, with_step, steps_after, releases_last, LifeSchedules, only_life}
use Rattle.crash_simulation.proofs.Common.{first_steps, Slot, Phase, Done, Take, Wait, Resume, Run, Ended, log_stays, evictions_touch, steps_touch}
use Rattle.crash_simulation.proofs.Common.{get-set_same, step_earlier, now, Origin, point_in, Record}
use Rattle.crash_simulation.proofs.Common.{IsInPhase, has_all, takes_one, is_kept_from, all_have, one_takes, takes_step, waits_step, resumes_step, stopped_stay}
use Rattle.crash_simulation.proofs.Common.{Gathers, same_there, same_or_other, holds_none_is, AbstractRun, IsCountedOf, IsAccountedOf, AreCounted, Beginning}
use Rattle.crash_simulation.proofs.Common.{AreStoredAt, stored_at, last_stored, SimulatesCounted}
use Rattle.crash_simulation.proofs.Common.{first_beginning, is_bound, is_leaving, begins, OwnStep, Releases}
use Rattle.crash_simulation.proofs.Common.{nothing_released, last_released, StepsOrStutters, with_ghost, IsRecoveredFrom, sections_kept, one_if, IsReleasedOf}
use Rattle.crash_simulation.proofs.Common.{in_step, cut_off, Simulates, System, IsSystem, thread_count, flat_of, ThreadGhost}
use Rattle.machine_model.specs.Schedule.{begins_life}
use Rattle.c_tree.specs.Source as m
use Rattle.crash_simulation.proofs.LastReleases.{no_release, holders_stay_none, other_release, none_leaving}
use Rattle.crash_simulation.proofs.RecordsAfterCrash.{left, left_kept}
use Rattle.crash_simulation.proofs.ThreadsOfMachines.{phase_of, each_placed}
use Rattle.crash_simulation.proofs.Sections.{led_sections}
use Rattle.crash_simulation.proofs.DisjointStores.{elsewhere}
use Rattle.crash_simulation.proofs.StepSimulation.{evicted_simulates}
use Rattle.crash_simulation.proofs.StatesMatchSource.{resumed}
use Rattle.crash_simulation.proofs.LongestAttempts.{StepsInRun, led_of}
use Rattle.crash_simulation.proofs.AccountUpdates.{begun_by, counted_by, kept_same, pending_is, other_counted, still_accounted}
use Rattle.crash_simulation.proofs.AccountUpdates.{account_stays, own_counted, own_last_stays, other_last_stays, evicted_last_stays}
use Rattle.crash_simulation.proofs.LifeBeginnings as life
use Rattle.crash_simulation.proofs.SimulationAtStart as starting

-- ---- Sections that are kept, and the machine's releases

-- the releases of the life that goes on, with an event
abbrev pub released_by : List (List Slot) → World → Event → (released : ℕ → ℕ) → (thread : ℕ) → ℕ
released_by program w event released n = if begins_life w event then 0 else released n + one_if (releases_last program w event n)

pub none_more : (n : ℕ) → n ≡ n + 0
none_more n = omega arith

-- ---- Steps that release no hart's last mutex

module _ (program : List (List Slot)) (w : World) (h : ℕ) where
  abbrev then_world : World
  then_world = after_event program w (Step h)

  abbrev ReleasesNone : Type 0
  ReleasesNone = releases_last program w (Step h) h ≡ false

  -- the step leaves the holders
  none_by : {o : Outcome} → happens program w (Step h) ≡ o → o.0.holders ≡ w.holders → ReleasesNone
  none_by does same = holders_stay_none program w h (ap (λ (o : Outcome). o.0.holders) does ∙ same)

  pub phase_releases : (phase : Phase) → is_running phase ≡ false → IsInPhase w h phase → ReleasesNone
  phase_releases Take e i = elim (takes_step program w h i) [
    | has_all all does ↦ none_by does refl
    | is_kept_from lock k r other does ↦ none_by does refl
    | takes_one lock r does ↦
        no_release program w h (λ none. absurd (holds_none_is h then_world.holders lock none
        (ap (λ (o : Outcome). slice_get o.0.holders lock) does ∙ get-set_same w.holders lock (Some h) None r.there)))
  ]
  phase_releases Wait e i = elim (waits_step program w h i) [
    | all_have nobody does ↦ none_by does refl
    | one_takes k ik does ↦ none_by does refl
  ]
  phase_releases Resume e i = none_by (resumes_step program w h i).does refl
  phase_releases Run e i = absurd (true≢false e)
  phase_releases Done e i = none_by (stopped_stay program w h Done (inl refl) i) refl
  phase_releases Ended e i = none_by (stopped_stay program w h Ended (inr refl) i) refl

  -- a hart that has stopped stays so
  pub stays_done : IsWellFormedWorld w → (n : ℕ) → IsInPhase w n Done → IsInPhase then_world n Done
  stays_done sound n i = elim (same_or_other n h) [
    | inl same ↦
        let own : IsInPhase w h Done = subst (λ (k : ℕ). IsInPhase w k Done) same i in
        let still : then_world ≡ w = ap (λ (o : Outcome). o.0) (stopped_stay program w h Done (inl refl) own) in
        subst (λ (v : World). IsInPhase v n Done) (sym still) i
    | inr other ↦ record { hart = i.hart; here = (steps_touch program w h sound).others n other ∙ i.here; phase_is = i.phase_is }
  ]

  pub other_released : (released : ℕ → ℕ) (n : ℕ) → n ≢ h → released_by program w (Step h) released n ≡ released n
  other_released released n other = omega (arith, ap one_if (other_release program w h n other))

  -- each thread's, where the hart's own step releases none
  pub none_released : ReleasesNone → (released : ℕ → ℕ) (n : ℕ) → released_by program w (Step h) released n ≡ released n
  none_released none released n = elim (same_or_other n h) [
    | inl same ↦ omega (arith, ap one_if (subst (λ (k : ℕ). releases_last program w (Step h) k ≡ false) (sym same) none))
    | inr other ↦ other_released released n other
  ]

-- ---- A step of a hart that executes instructions

module _ (y : System) (s : IsSystem y) (w : World) (h : ℕ) (stands : Simulates y s w) (i : IsInPhase w h Run) (o : OwnStep y s w h stands)
    (r : ℕ → ℕ) where
  abbrev then_own : ℕ → ℕ
  then_own = released_by y.runs.program w (Step h) r

  pub kept_own : (n : ℕ) → sections_kept y o.next n ≡ sections_kept y stands.abstract n
  kept_own n = (led_sections y stands.abstract h o.next o.led n).sections

  own_lag : Releases y w h (stands.ghosts h) o.ghost → r h + one_if (is_leaving (stands.ghosts h)) ≡ then_own h + one_if (is_leaving o.ghost)
  own_lag (nothing_released none same) = omega (arith, ap one_if none, ap one_if same)
  own_lag (last_released releases was is) = omega (arith, ap one_if releases, ap one_if was, ap one_if is)

  pub released_own : IsReleasedOf y w stands.abstract h (stands.ghosts h) (r h) →
      IsReleasedOf y (after_event y.runs.program w (Step h)) o.next h o.ghost (then_own h)
  released_own h0 = grind (arith, same_there, slice_get, true≢false, kept_own, own_lag)

-- ---- A crash

pub kept_crashed : (y : System) (s : IsSystem y) (w : World) (stands : Simulates y s w) (n : ℕ) →
    sections_kept y (starting.stands_after y s w stands).abstract n ≡ sections_kept y stands.abstract n
kept_crashed y s w stands n = ap (λ (us : List ℕ). ended_from stands.abstract.origin.source us n) (append-nil stands.abstract.schedule)

module _ (y : System) (s : IsSystem y) (w : World) (stands : Simulates y s w) (r : ℕ → ℕ) where
  abbrev crashed : World
  crashed = after_event y.runs.program w Crash

  phase_none : (n : ℕ) (phase : Phase) → (left y s w stands n).point ≡ 0 → Gathers crashed n (left y s w stands n) phase → phase ≡ Done
  phase_none n phase h2 h3 = grind (arith)

  -- where a record without a point is kept, the hart is left with nothing to do
  crashed_done : (n : ℕ) → n < thread_count y → (stands.ghosts n).committed ≡ true → (stands.ghosts n).new.point ≡ 0 → IsInPhase crashed n Done
  crashed_done n below committed none =
      let c = stands.ghosts n in
      let point : (left y s w stands n).point ≡ 0 =
      ap (λ (r : Record). r.point) (left_kept y s w stands n below) ∙ (ap (λ (done : Bool). (if done then c.new else c.old).point) committed ∙ none) in
      let gathers = starting.gathers y s w stands in
      let log = gathers.logs n (omega (arith, below, (starting.machine y s w stands).count)) in
      record { hart = log.hart; here = log.here; phase_is = phase_none n log.hart.phase point (gathers.each n log.hart log.here) }

  pub crashed_by : (n : ℕ) → n < thread_count y → IsReleasedOf y w stands.abstract n (stands.ghosts n) (r n) →
      IsReleasedOf y crashed (starting.stands_after y s w stands).abstract n ((starting.stands_after y s w stands).ghosts n) (r n + 0)
  crashed_by n below (cut_off i e) =
      let rests = phase_of y s w n stands Done i below in
      cut_off (crashed_done n below rests.0.committed rests.1) (kept_crashed y s w stands n ∙ (e ∙ ap suc (none_more (r n))))
  crashed_by n below (in_step e) =
      let c = stands.ghosts n in
      elim (cases_Bool (is_leaving c)) [
        | inl leaves ↦
            let one = and_parts c.committed (is_some c.giving && (c.new.point == 0)) leaves in
            let two = and_parts (is_some c.giving) (c.new.point == 0) one.1 in
            cut_off (crashed_done n below one.0 (eqb-true c.new.point 0 two.1)) (omega (arith, kept_crashed y s w stands n, e, ap one_if leaves))
        | inr stays ↦ in_step (omega (arith, kept_crashed y s w stands n, e, ap one_if stays))
      ]

-- ---- The account

-- ---- Starts and crashes

-- the account of a machine that begins, after what was kept before
pub begun_counted : (y : System) (s : IsSystem y) (g : Beginning) {w : World} (stands : Simulates y s w) →
    stands.abstract.origin.source ≡ g.from → stands.abstract.schedule ≡ [] → stands.abstract.config.uncommitted ≡ [] →
    ((n : ℕ) → (stands.ghosts n).giving ≡ None) → ((n : ℕ) → n < thread_count y → (stands.ghosts n).late ≡ false) →
    AreCounted y g w stands.abstract stands.ghosts (first_steps (record { earlier = g.earlier; schedule = g.kept })) (λ n. 0)
begun_counted y s g {w} stands from none uncommitted fresh on_time = record {
  begins = from;
  earlier = refl;
  kept = sym (append-nil g.kept) ∙ ap (λ (us : List ℕ). g.kept ++ us) (sym none);
  pending = sym uncommitted;
  each = λ n below. record {
    on_time = on_time n below;
    counted = tt;
    released = in_step (ap (λ (us : List ℕ). m.ended_from stands.abstract.origin.source us n) none
        ∙ ap (λ (z : Bool). 0 + one_if z) (sym (none_leaving (stands.ghosts n) (fresh n))));
  };
  beyond = λ n outside. ap (λ (us : List ℕ). m.ended_from stands.abstract.origin.source us n) none;
}

abbrev pub first_counted : (y : System) (s : IsSystem y) (g : Beginning) {w : World} (stands : Simulates y s w) → stands.abstract.origin.source ≡ g.from →
    stands.abstract.schedule ≡ [] → stands.abstract.config.uncommitted ≡ [] →
    ((n : ℕ) → (stands.ghosts n).giving ≡ None) → ((n : ℕ) → n < thread_count y → (stands.ghosts n).late ≡ false) →
    SimulatesCounted y s g w (first_steps (record { earlier = g.earlier; schedule = g.kept })) (λ n. 0)
first_counted y s g {w} stands from none uncommitted fresh on_time = record {
  stands = stands;
  counted = begun_counted y s g stands from none uncommitted fresh on_time;
}

abbrev pub start_counted : (y : System) (s : IsSystem y) →
    SimulatesCounted y s (first_beginning y) (first_world y.runs) (first_steps (only_life [])) (λ n. 0)
start_counted y s = first_counted y s (first_beginning y) (life.stands y s) refl refl refl (λ n. refl) (λ n below. refl)

abbrev pub recovered_counted : (y : System) (s : IsSystem y) (o : Origin (flat_of y)) (words : List ℕ) (kept : LifeSchedules)
    (is : IsRecoveredFrom y s o words) → ((n : ℕ) → n < thread_count y → is.recovers.lates n ≡ false) →
    SimulatesCounted y s (record { from = o.source; earlier = kept.earlier; kept = kept.schedule })
    (after_crash_of y.runs.log y.runs.program y.runs.mutexes words) (first_steps kept) (λ n. 0)
recovered_counted y s o words kept is on_time =
    first_counted y s (record { from = o.source; earlier = kept.earlier; kept = kept.schedule }) (starting.recovered_stands y s o words is) refl refl refl
    (λ n. refl) on_time

pub crash_counted : (y : System) (s : IsSystem y) {g : Beginning} (w : World) (stands : Simulates y s w) (steps : Steps) (r : ℕ → ℕ) →
    AreCounted y g w stands.abstract stands.ghosts steps r →
    AreCounted y g (after_event y.runs.program w Crash) (starting.stands_after y s w stands).abstract (starting.stands_after y s w stands).ghosts
    (steps_after y.runs.marks y.runs.program w Crash steps) (released_by y.runs.program w Crash r)
unfolding steps_after
crash_counted y s {g} w stands steps r counted = record {
  begins = counted.begins;
  earlier = counted.earlier;
  kept = counted.kept ∙ ap (λ (us : List ℕ). g.kept ++ us) (sym (append-nil stands.abstract.schedule));
  pending = refl;
  each = λ n below. record {
    on_time = (counted.each n below).on_time;
    counted = tt;
    released = crashed_by y s w stands r n below (counted.each n below).released;
  };
  beyond = λ n outside. kept_crashed y s w stands n ∙ (counted.beyond n outside ∙ none_more (r n));
}

-- ---- An eviction

pub evicted_counted : (y : System) (s : IsSystem y) {g : Beginning} (w : World) (line mask : ℕ) (stands : Simulates y s w) (steps : Steps) (r : ℕ → ℕ) →
    AreCounted y g w stands.abstract stands.ghosts steps r →
    AreCounted y g (after_event y.runs.program w (Evict line mask)) (evicted_simulates y s w line mask stands).abstract stands.ghosts steps
    (released_by y.runs.program w (Evict line mask) r)
evicted_counted y s w line mask stands steps r counted =
    account_stays y (record { source = refl; schedule = refl; uncommitted = refl })
    (λ n. record { bound = refl; leaving = refl; giving = refl; ahead = refl; last = refl; accesses = refl; told = refl; late = refl })
    (λ n i. let here = ap (λ (v : World). slice_get v.harts n) (evictions_touch y.runs.program w line mask).1 ∙ i.here in
    record { hart = i.hart; here = here; phase_is = i.phase_is })
    (evicted_last_stays y.runs.program w line mask) (λ n. sym (none_more (r n))) counted

-- ---- What happens to the source by a thread

-- the source goes on from its state now by the step that is begun
abbrev pub GoesOnBy : (was is : m.State) → List ℕ → Type 0
GoesOnBy was is us = (is ≡ m.after_from was us) × (m.runs_from was us ≡ true)

led_by : (y : System) (s : IsSystem y) (b next : AbstractRun y) (thread : ℕ) (begun : Bool) → next.config.kept ≡ b.config.kept →
    next.config.uncommitted ≡ begun_by begun thread b.config.uncommitted → GoesOnBy (now b.config) (now next.config) (begun_by begun thread [])
led_by y s b next thread false kept pending = (ap₂ m.after_from kept pending, refl)
led_by y s b next thread true kept pending =
    let g = goes_on b.config.kept b.config.uncommitted (thread ∷ []) (resumed y s b).resumed.invariant.runs in
    (ap₂ m.after_from kept pending ∙ g.after, sym g.runs ∙ (sym (ap₂ m.runs_from kept pending) ∙ (resumed y s next).resumed.invariant.runs))

pub led_now : (y : System) (s : IsSystem y) (b : AbstractRun y) (thread : ℕ) (next : AbstractRun y) (led : StepsOrStutters y b thread next) →
    GoesOnBy (now b.config) (now next.config) (begun_by (begins led) thread [])
led_now y s b thread next led = let l = (led_of y b thread next led).config in led_by y s b next thread (begins led) l.kept l.pending

-- ---- A step of a hart that executes instructions

module _ (y : System) (s : IsSystem y) (w : World) (h : ℕ) (stands : Simulates y s w) (i : IsInPhase w h Run) (o : OwnStep y s w h stands) {steps : Steps}
    {r : ℕ → ℕ} {g : Beginning} (counted : AreCounted y g w stands.abstract stands.ghosts steps r)
    (none : is_bound (stands.ghosts h) ≡ true → passes_mark y.runs.marks y.runs.program w h ≡ false) where
  open stands use {abstract as b}

  abbrev after : World
  after = after_event y.runs.program w (Step h)

  abbrev old : ThreadGhost
  old = stands.ghosts h

  abbrev position : ℕ
  position = last_position (point_in w.log after.words h)

  abbrev begun : Bool
  begun = passes_mark y.runs.marks y.runs.program w h

  abbrev points : Bool
  points = stores_point y.runs.program w (Step h) h

  abbrev then_steps : Steps
  then_steps = with_step y.runs.marks y.runs.program w h steps

  lead : StepsInRun y b o.next h (begins o.led)
  lead = led_of y b h o.next o.led

  pending : o.next.config.uncommitted ≡ begun_by begun h b.config.uncommitted
  pending = lead.config.pending ∙ ap (λ (x : Bool). begun_by x h b.config.uncommitted) (sym (o.counted.marks (counted.each h o.below).on_time))

  -- the hart's point is the last that it stored
  own_stays : is_bound old ≡ true → last_stored after h ≡ last_stored w h
  own_stays e = own_last_stays y.runs.program w h i.hart stands.machine.sound i.here (o.counted.points ∙ ap (λ (x : Bool). not x && is_bound o.ghost) e)

  same_log : after.log ≡ w.log
  same_log = log_stays y.runs.program w (Step h) stands.machine.sound

  own : IsCountedOf after h o.ghost then_steps.pending
  own =
      let now_last = last_stored after h in
      let counted_now = own_counted (is_bound old) (is_bound o.ghost) begun (last_stored w h) now_last h steps o.counted.bound own_stays none
      (counted.each h o.below).counted in
      let P : Bool → Log → Type 0 = λ p l.
      AreStoredAt h (stored_at (is_bound o.ghost) now_last) (counted_by begun p h (last_position (point_in l after.words h)) steps).pending in
      coe 0 1 (j. P ((sym o.counted.points) j) (same_log j)) counted_now

  abbrev then_released : ℕ → ℕ
  then_released = released_by y.runs.program w (Step h) r

  other : (n : ℕ) → n < thread_count y → n ≢ h → IsAccountedOf y after o.next n (stands.ghosts n) then_steps.pending (then_released n)
  other n below differs = still_accounted y n (record {
    bound = refl;
    leaving = refl;
    late = λ on_time. on_time;
    sections = kept_own y s w h stands i o r n;
    last = λ e. other_last_stays y.runs.program w h n i.hart stands.machine.sound i.here
        [] (elsewhere y s w h b stands.machine.log o.stores_own n (λ same. differs (sym same)) []) (λ same. differs (sym same));
    done = stays_done y.runs.program w h stands.machine.sound n;
  }) (other_counted begun points h position n steps differs) (other_released y.runs.program w h r n differs) (counted.each n below)

  pub own_step_counted : AreCounted y g after o.next (with_ghost stands.ghosts h o.ghost) then_steps then_released
  own_step_counted = record {
    begins = ap (λ (o : Origin (flat_of y)). o.source) lead.origin ∙ counted.begins;
    earlier = step_earlier y.runs.marks y.runs.program w h steps ∙ counted.earlier;
    kept = kept_same begun points h position steps ∙ (counted.kept ∙ ap (λ (us : List ℕ). g.kept ++ us) (sym lead.schedule));
    pending = pending_is begun points h position steps ∙ (ap (begun_by begun h) counted.pending ∙ sym pending);
    each = each_placed (thread_count y) stands.ghosts h o.below o.ghost
        (λ (n : ℕ) (below : n < thread_count y) (c : ThreadGhost). IsAccountedOf y after o.next n c then_steps.pending (then_released n))
        (record {
          on_time = o.counted.late ∙ (counted.each h o.below).on_time;
          counted = own;
          released = released_own y s w h stands i o r (counted.each h o.below).released;
        }) other;
    beyond = λ n outside. kept_own y s w h stands i o r n
        ∙ (counted.beyond n outside ∙ sym (other_released y.runs.program w h r n (λ e. omega (arith, outside, o.below, e))));
  }
