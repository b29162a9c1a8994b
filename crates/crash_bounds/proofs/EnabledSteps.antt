-- Enabled steps of a hart are active ones, but for those by which it enters recovery, and these are no more than it needs for that.
use Rattle.std.proofs.Common.{◌≡◌, inl, inr, refl, ℕ, suc, ◌+◌, ◌-◌, ◌<◌, ◌≤◌, List, [], ◌∷◌, length, map, ap, sym, ◌∙◌, subst, arith, not}
use Rattle.std.proofs.Common.{Bool, true, false, Option, Some, None}
use Rattle.std.specs.Prelude.{slice_get, ◌==◌, ◌&&◌, if◌then◌else◌}
use Rattle.std.proofs.lemmas.Bool.{and_parts, cases_Bool, eqb-true}
use Rattle.std.proofs.lemmas.Option.{slice_get_within}
use Rattle.log_schemes.specs.declared.log.Log.{Log}
use Rattle.machine_events.specs.declared.event.Event.{Event}
use Rattle.machine_events.specs.declared.event.Event.TheVariants.{Step, Evict, Crash, Start}
use Rattle.machine_events.specs.declared.event.Reply.{Reply}
use Rattle.machine_events.specs.declared.event.Reply.TheVariants.{Moved, Drained, Waits, Barrier, Still, Stuck, Device}
use Rattle.machine_events.specs.Cores.{is_idle}
use Rattle.ido_base.specs.Words.{durable_value}
use Rattle.rv64_isa.specs.declared.object.Slot.{Slot}
use Rattle.machine_model.specs.declared.phase.Phase.{Phase}
use Rattle.machine_model.specs.declared.phase.Phase.TheVariants.{Take, Wait, Resume, Run, Done, Ended}
use Rattle.machine_model.specs.Frames.{IsWellFormedWorld}
use Rattle.machine_model.specs.Machine.{Hart, World, Outcome, after_crash_of, after_event, after_events, happens, record_of, reply_to, start_of, stepped}
use Rattle.machine_model.specs.Schedule.{KeepsOn, is_running}
use Rattle.machine_model.proofs.Public.{after_start, steps_touch}
use Rattle.eviction_laws.specs.Evictions.{NoneEnters}
use Rattle.eviction_laws.proofs.Public.{lives_enter_none, others_enter_none, starts_enter_none}
use Rattle.hart_runs.proofs.Public.{stopped_stay}
use Rattle.compiler_correctness.specs.Translations.{GoOn}
use Rattle.compiler_correctness.specs.Delays.{is_active_step, active_steps, has_waited}
use Rattle.crash_bounds.specs.Rounds.{KeepsAtMost}
use Rattle.compiler_correctness.specs.Translations.{HaveNoCrash}
use Rattle.crash_bounds.specs.Rates.{is_enabled_step, enabled_steps, AreEnabled, entry_bound, sum_below}
use Rattle.crash_bounds.proofs.ActiveSteps.{IsSound, active, counted, sound_then}
use Rattle.crash_bounds.proofs.CountedLocks.{missing_most}
use Rattle.crash_bounds.proofs.EnteringHarts.{IsEntering, none_takes, IsWithin, TakesMove, event_lowers, step_goes, taking_enters}
use Rattle.crash_bounds.proofs.EnteringHarts.{left, left_most, left_out, missing_of}
use Rattle.crash_bounds.proofs.RoundsOfHarts.{TakesMoveAlong, crash_leaves, first_entering}
use Rattle.crash_bounds.proofs.SumsOfHarts.{one_below, sum_joins}

-- ---- At any moment

-- harts take their locks, or none does; and in a life without a crash none enters recovery
pub record Enters (w : World) : Type 0 where
  pub entering : IsEntering w
  pub none : w.recovering ≡ false → NoneEnters w

no_crash : (event : Event) → KeepsOn event → HaveNoCrash (event ∷ [])
no_crash (Step h) on = tt
no_crash (Evict line mask) on = tt
no_crash Crash on = absurd on
no_crash Start on = absurd on

none_taking : (w : World) → NoneEnters w → IsEntering w
none_taking w none = none_takes (λ h hart there. taking_enters hart.phase (none h hart there))

pub enters_first : (log : Log) (program : List (List Slot)) (locks : ℕ) (initial : List ℕ) → Enters (start_of log program locks initial)
enters_first log program locks initial = record {
  entering = none_taking (start_of log program locks initial) (starts_enter_none log program locks initial);
  none = λ _. starts_enter_none log program locks initial;
}

module _ (program : List (List Slot)) where
  crash_enters : (w : World) → Enters (after_crash_of w.log program (length w.holders) (map durable_value w.words))
  unfolding after_crash_of
  crash_enters w = record {
    entering = first_entering w.log program (length w.holders) (map durable_value w.words);
    none = λ e. absurd (let never : true ≡ false = e in cc);
  }

  evict_recovers : (w : World) (line mask : ℕ) → (after_event program w (Evict line mask)).recovering ≡ w.recovering
  unfolding happens
  evict_recovers w line mask = refl

  enters_then : (w : World) (event : Event) → IsWellFormedWorld w → TakesMove program w → Enters w → Enters (after_event program w event)
  enters_then w (Step h) sound moves enters = record {
    entering = (event_lowers program w (Step h) tt moves enters.entering).entering;
    none = λ e. lives_enter_none program w (Step h) tt (enters.none (sym (steps_touch program w h sound).recovering ∙ e));
  }
  enters_then w (Evict line mask) sound moves enters = record {
    entering = (event_lowers program w (Evict line mask) tt moves enters.entering).entering;
    none = λ e. lives_enter_none program w (Evict line mask) tt (enters.none (sym (evict_recovers w line mask) ∙ e));
  }
  enters_then w Crash sound moves enters = subst Enters (sym (crash_leaves program w)) (crash_enters w)
  enters_then w Start sound moves enters = after_start program w Enters (record {
    entering = none_taking _ (others_enter_none program w);
    none = λ _. others_enter_none program w;
  }) enters

  pub enters_along : (events : List Event) (w : World) → IsSound program w → TakesMoveAlong program w events → Enters w →
      Enters (after_events program w events)
  enters_along [] w sound moves enters = enters
  enters_along (event ∷ events) w sound moves enters =
      enters_along events (after_event program w event) (sound_then program w event sound) moves.1 (enters_then w event sound.formed moves.0 enters)

pub within_entry : (w : World) (locks : ℕ) → Enters w → KeepsAtMost w.log locks → (h : ℕ) → IsWithin w h (entry_bound w locks)
within_entry w locks enters few h hart there = elim (cases_Bool w.recovering) [
  | inl crashed ↦
      let bound = left_most (missing_of w h) hart.phase in
      let missing = missing_most w.holders (record_of w.log w.words h) h in
      let kept = few w.words h in
      subst (λ (b : Bool). left (missing_of w h) hart.phase ≤ (if b then locks + 3 else 0)) (sym crashed) (omega (arith, bound, missing, kept))
  | inr powered ↦
      let nothing = left_out (missing_of w h) hart.phase (enters.none powered h hart there) in
      subst (λ (b : Bool). left (missing_of w h) hart.phase ≤ (if b then locks + 3 else 0)) (sym powered) (omega (arith, nothing))
]

-- ---- An enabled step

is_awake : (r : Reply) → is_idle r ≡ false → has_waited r ≡ false
is_awake Moved e = refl
is_awake Drained e = refl
is_awake (Waits lock holder) e = absurd (let never : true ≡ false = e in cc)
is_awake (Barrier hart) e = refl
is_awake Still e = refl
is_awake (Stuck cause) e = refl
is_awake Device e = refl

not_idle : (b : Bool) → not b ≡ true → b ≡ false
not_idle true e = absurd (let never : false ≡ true = e in cc)
not_idle false e = refl

same_number : (h : ℕ) → (h == h) ≡ true
same_number h = grind arith

module _ (program : List (List Slot)) where
  own_enabled : (w : World) (event : Event) (h : ℕ) → is_enabled_step program w event h ≡ true →
      (event ≡ Step h) × (is_idle (reply_to program w (Step h)) ≡ false)
  own_enabled w (Step g) h is =
      let parts = and_parts (g == h) (not (is_idle (reply_to program w (Step h)))) is in
      (ap (λ (n : ℕ). Step n) (eqb-true g h parts.0), not_idle (is_idle (reply_to program w (Step h))) parts.1)
  own_enabled w (Evict line mask) h is = absurd (let never : false ≡ true = is in cc)
  own_enabled w Crash h is = absurd (let never : false ≡ true = is in cc)
  own_enabled w Start h is = absurd (let never : false ≡ true = is in cc)

  none_there : (w : World) (h : ℕ) → slice_get w.harts h ≡ None → happens program w (Step h) ≡ (w, Still)
  unfolding happens
  none_there w h missing = ap (stepped program w h) missing

  -- an enabled step is active, or leaves the hart one less to need
  record Spends (w : World) (h most : ℕ) : Type 0 where
    needs : ℕ
    within : IsWithin (after_event program w (Step h)) h needs
    spent : suc needs ≤ most + counted (is_active_step program w (Step h) h)

  module _ (w : World) (h most : ℕ) (entering : IsEntering w) (moves : TakesMove program w) (busy : is_idle (reply_to program w (Step h)) ≡ false)
      (within : IsWithin w h most) where
    idle_never : happens program w (Step h) ≡ (w, Still) → ⊥
    idle_never does = let never : true ≡ false = sym (ap (λ (o : Outcome). is_idle o.1) does) ∙ busy in cc

    enters : 1 ≤ most → Spends w h most
    enters some = record {
      needs = most - 1;
      within = (step_goes program w entering moves h).alone busy (most - 1) (subst (λ (n : ℕ). IsWithin w h n) (omega (arith, some)) within);
      spent = omega (arith, some);
    }

    module _ (hart : Hart) (here : slice_get w.harts h ≡ Some hart) where
      runs : hart.phase ≡ Run → Spends w h most
      runs is =
          let running : is_running hart.phase ≡ true = ap is_running is in
          let on : active program h w (slice_get w.harts h) ≡ true =
          ap (active program h w) here ∙ (ap (λ (b : Bool). b && not (has_waited (reply_to program w (Step h)))) running
          ∙ ap not (is_awake (reply_to program w (Step h)) busy)) in
          let acts : is_active_step program w (Step h) h ≡ true =
          ap (λ (b : Bool). b && active program h w (slice_get w.harts h)) (same_number h) ∙ on in
          let one = ap counted acts in
          record {
            needs = most;
            within = (step_goes program w entering moves h).is.lowers h most within;
            spent = omega (arith, one);
          }

      by_phase : (phase : Phase) → hart.phase ≡ phase → Spends w h most
      by_phase Take is = enters (let needs = ap (left (missing_of w h)) is in let bound = within hart here in omega (arith, needs, bound))
      by_phase Wait is = enters (let needs = ap (left (missing_of w h)) is in let bound = within hart here in omega (arith, needs, bound))
      by_phase Resume is = enters (let needs = ap (left (missing_of w h)) is in let bound = within hart here in omega (arith, needs, bound))
      by_phase Run is = runs is
      by_phase Done is = absurd (idle_never (stopped_stay program w h Done (inl refl) (record { hart = hart; here = here; phase_is = is })))
      by_phase Ended is = absurd (idle_never (stopped_stay program w h Ended (inr refl) (record { hart = hart; here = here; phase_is = is })))

    by_hart : (found : Option Hart) → slice_get w.harts h ≡ found → Spends w h most
    by_hart None missing = absurd (idle_never (none_there w h missing))
    by_hart (Some hart) here = by_phase hart here hart.phase refl

    spends : Spends w h most
    spends = by_hart (slice_get w.harts h) refl

  -- ---- Along events

  pub enabled_few : (h : ℕ) (events : List Event) (w : World) (most : ℕ) → GoOn events → TakesMoveAlong program w events → IsEntering w → IsWithin w h most →
      enabled_steps program w events h ≤ most + active_steps program w events h
  enabled_few h [] w most on moves entering within = omega arith
  enabled_few h (event ∷ events) w most on moves entering within =
      let v = after_event program w event in
      let lowers = event_lowers program w event (no_crash event on.0) moves.0 entering in
      elim (cases_Bool (is_enabled_step program w event h)) [
        | inl is ↦
            let own = own_enabled w event h is in
            let s = spends w h most entering moves.0 own.1 within in
            let needs = s.needs in
            let then_within : IsWithin v h s.needs =
            subst (λ (e : Event). IsWithin (after_event program w e) h s.needs) (sym own.0) s.within in
            let rest = enabled_few h events v s.needs on.1 moves.1 lowers.entering then_within in
            let one = ap counted is in
            let same = ap (λ (e : Event). counted (is_active_step program w e h)) own.0 in
            let spent = s.spent in
            omega (arith, one, rest, spent, same)
        | inr off ↦
            let rest = enabled_few h events v most on.1 moves.1 lowers.entering (lowers.lowers h most within) in
            let none = ap counted off in
            omega (arith, none, rest)
      ]

  -- ---- Where all events are enabled steps

  pub enabled_on : (events : List Event) (w : World) → AreEnabled program w events → GoOn events
  enabled_on [] w all = tt
  enabled_on (Step h ∷ events) w all = (tt, enabled_on events (after_event program w (Step h)) all.1)
  enabled_on (Evict line mask ∷ events) w all = absurd all
  enabled_on (Crash ∷ events) w all = absurd all
  enabled_on (Start ∷ events) w all = absurd all

  enabled_there : (w : World) (h : ℕ) → is_idle (reply_to program w (Step h)) ≡ false → (found : Option Hart) → slice_get w.harts h ≡ found → h < length w.harts
  enabled_there w h busy None missing =
      let does = none_there w h missing in
      absurd (let never : true ≡ false = sym (ap (λ (o : Outcome). is_idle o.1) does) ∙ busy in cc)
  enabled_there w h busy (Some hart) here = slice_get_within w.harts h hart here

  pub enabled_all : (events : List Event) (w : World) → IsSound program w → AreEnabled program w events →
      length events ≤ sum_below (length program) (λ h. enabled_steps program w events h)
  enabled_all [] w sound all = omega arith
  enabled_all (Step g ∷ events) w sound all =
      let v = after_event program w (Step g) in
      let rest = enabled_all events v (sound_then program w (Step g) sound) all.1 in
      let below : g < length program =
      (let there = enabled_there w g all.0 (slice_get w.harts g) refl in let same = sound.count in omega (arith, there, same)) in
      let first : ℕ → ℕ = λ h. counted (is_enabled_step program w (Step g) h) in
      let joins : sum_below (length program) (λ h. enabled_steps program w (Step g ∷ events) h)
      ≡ sum_below (length program) first + sum_below (length program) (λ h. enabled_steps program v events h) =
      sum_joins (length program) first (λ h. enabled_steps program v events h) in
      let is : is_enabled_step program w (Step g) g ≡ true =
      ap (λ (b : Bool). b && not (is_idle (reply_to program w (Step g)))) (same_number g) ∙ ap not all.0 in
      let one : first g ≡ 1 = ap counted is in
      let least = one_below (length program) g first below in
      omega (arith, rest, joins, one, least)
  enabled_all (Evict line mask ∷ events) w sound all = absurd all
  enabled_all (Crash ∷ events) w sound all = absurd all
  enabled_all (Start ∷ events) w sound all = absurd all
