-- How many steps are left of a run.
use Rattle.std.proofs.Common.{◌≡◌, ◌≢◌, ◌⊎◌, inl, inr, ℕ, zero, suc, ◌+◌, ◌≤◌, List, [], ◌∷◌, ◌++◌}
use Rattle.std.proofs.Common.{length, refl, ap, arith, sym, ◌∙◌, subst, cond, Bool, true, false}
use Rattle.std.specs.Prelude.{◌==◌}
use Rattle.std.specs.List.{list_any}
use Rattle.std.proofs.lemmas.Bool.{cases_eq, cond_both}
use Rattle.std.proofs.Math.ListN.{length-append}
use Rattle.machine_events.specs.declared.event.Event.{Event}
use Rattle.machine_events.specs.declared.event.Event.TheVariants.{Step, Evict, Crash, Start}
use Rattle.ido_base.specs.Words.{Entry}
use Rattle.rv64_isa.specs.declared.object.Slot.{Slot}
use Rattle.rv64_isa.specs.Rows.{Effect, Continues, Loads, Stores, Cleans, Fences, Calls}
use Rattle.machine_model.specs.Machine.{Hart, World, after_event}
use Rattle.machine_model.specs.Frames.{IsWellFormedWorld}
use Rattle.machine_model.proofs.Public.{queues_stand}
use Rattle.code_runs.specs.ComputingRuns.{LocalConfig}
use Rattle.code_runs.specs.CodeTraces.{MarkedEnvironment, Observation, Mark, Does, outside, marked}
use Rattle.hart_runs.specs.HartsOnRuns.{Agrees, IsRunningAt, IsOnTrace, OnRun}
use Rattle.hart_runs.specs.RunSteps.{Contents, Changes, GoesForward, Drains, cleans_in, steps_left}
use Rattle.hart_runs.specs.Laws.{IsOfOthers, stretch, IsOnSameTrace, IsNearer, AreCrashless, is_step_of, own_steps, AgreesOnTheFragment, ComesTo}
use Rattle.hart_runs.proofs.RunStepEffects.{steps_go_on}
use Rattle.hart_runs.proofs.OtherEventsKeepRuns.{others_keep_runs}
use Rattle.machine_model.specs.Schedule.{KeepsOn}

-- ---- Cleans

pub cleans_of_both : (a b : List Observation) → cleans_in (a ++ b) ≡ cleans_in a + cleans_in b
cleans_of_both [] b = omega arith
cleans_of_both (Mark ∷ a) b = cleans_of_both a b
cleans_of_both (Does e ∷ a) b = let more : cleans_in (a ++ b) ≡ cleans_in a + cleans_in b = cleans_of_both a b in omega (arith, more)

pub cleans_of_mark : (marks : List ℕ) (pc : ℕ) → cleans_in (marked marks pc) ≡ 0
cleans_of_mark marks pc = cond_both (list_any (λ mark. mark == pc) marks) (Mark ∷ []) [] (λ (x : List Observation). cleans_in x ≡ 0) (λ _. refl) (λ _. refl)

-- an instruction leaves as many entries more in the queue as it is a clean
pub queue_grows : (e : Effect) (old new : Contents) → Changes old e new → length new.queue ≡ length old.queue + cleans_in (outside e)
queue_grows (Continues registers pc) old new c = let q : length new.queue ≡ length old.queue = ap (λ (x : Contents). length x.queue) c in omega (arith, q)
queue_grows (Loads address bytes signed register) old new c = let q : length new.queue ≡ length old.queue =
    ap (λ (x : Contents). length x.queue) c in omega (arith, q)
queue_grows (Stores address bytes value) old new c = let q : length new.queue ≡ length old.queue = ap (λ (x : Contents). length x.queue) c in omega (arith, q)
queue_grows (Cleans address) old new c = ap (λ (x : Contents). length x.queue) c.1 ∙ length-append old.queue _
queue_grows Fences old new c = let q : length new.queue ≡ length old.queue = ap (λ (x : Contents). length x.queue) c.1 in omega (arith, q)
queue_grows Calls old new c = absurd c

-- ---- Each step of the hart

module _ (program : List (List Slot)) (w : World) (h : ℕ) (run : OnRun w h) where
  forward_nearer : GoesForward program w h run →
      IsNearer (after_event program w (Step h)) h run.environment run.to (steps_left (suc run.steps) run.seen run.on.hart.queue)
  forward_nearer f =
      let queue : length f.on.hart.queue ≡ length f.contents.queue = ap (λ (x : Hart). length x.queue) f.same in
      let grows : length f.contents.queue ≡ length run.on.hart.queue + cleans_in (outside f.effect) = queue_grows f.effect _ f.contents f.changes in
      let both : cleans_in run.seen ≡ cleans_in (marked run.environment.marks run.on.hart.pc ++ outside f.effect) + cleans_in f.later =
      ap cleans_in f.seen_is ∙ cleans_of_both (marked run.environment.marks run.on.hart.pc ++ outside f.effect) f.later in
      let first : cleans_in (marked run.environment.marks run.on.hart.pc ++ outside f.effect)
      ≡ cleans_in (marked run.environment.marks run.on.hart.pc) + cleans_in
      (outside f.effect) =
      cleans_of_both (marked run.environment.marks run.on.hart.pc) (outside f.effect) in
      let none : cleans_in (marked run.environment.marks run.on.hart.pc) ≡ 0 = cleans_of_mark run.environment.marks run.on.hart.pc in
      record { steps = run.steps; seen = f.later; on = f.on; less = omega (arith, queue, grows, both, first, none) }

  drains_nearer : Drains program w h run →
      IsNearer (after_event program w (Step h)) h run.environment run.to (steps_left (suc run.steps) run.seen run.on.hart.queue)
  drains_nearer d =
      let queue : length d.on.hart.queue ≡ length d.rest = ap (λ (x : Hart). length x.queue) d.same in
      let whole : length run.on.hart.queue ≡ suc (length d.rest) = ap (λ (q : List Entry). length q) d.queue_is in
      record { steps = suc run.steps; seen = run.seen; on = d.on; less = omega (arith, queue, whole) }

  nearer : GoesForward program w h run ⊎ Drains program w h run →
      IsNearer (after_event program w (Step h)) h run.environment run.to (steps_left (suc run.steps) run.seen run.on.hart.queue)
  nearer (inl f) = forward_nearer f
  nearer (inr d) = drains_nearer d

pub steps_lower : (program : List (List Slot)) (w : World) (h : ℕ) (run : OnRun w h) → Agrees program w h run.environment →
    IsNearer (after_event program w (Step h)) h run.environment run.to (steps_left (suc run.steps) run.seen run.on.hart.queue)
steps_lower program w h run agrees = nearer program w h run (steps_go_on program w h run agrees)

-- ---- Along events

-- at the end of a run the hart is there
there : (w : World) (h : ℕ) (s : MarkedEnvironment) (seen : List Observation) (to : LocalConfig) → IsOnTrace w h s 0 seen to → IsRunningAt w h to
there w h s seen to on = record { hart = on.hart; here = on.here; runs = on.runs; is = on.walks.0 }

at_once : (program : List (List Slot)) (w : World) (h : ℕ) (s : MarkedEnvironment) (seen : List Observation) (to : LocalConfig)
    (events : List Event) (most : ℕ) →
    IsOnTrace w h s 0 seen to → ComesTo program w h events to most
at_once program w h s seen to events most on = record { prefix = []; suffix = events; parts = refl; at = there w h s seen to on; soon = omega arith }

later : (program : List (List Slot)) (w : World) (h : ℕ) (event : Event) (events : List Event) (to : LocalConfig) (own less most : ℕ) →
    ((more : List Event) → own_steps h (event ∷ more) ≡ own + own_steps h more) → own + less ≤ most →
    ComesTo program (after_event program w event) h events to less →
    ComesTo program w h (event ∷ events) to most
later program w h event events to own less most counted fits c = record {
  prefix = event ∷ c.prefix;
  suffix = c.suffix;
  parts = ap (λ (x : List Event). event ∷ x) c.parts;
  at = c.at;
  soon = (let count : own_steps h (event ∷ c.prefix) ≡ own + own_steps h c.prefix = counted c.prefix in let soon = c.soon in omega (arith, count, soon, fits));
}

agrees_later : (program : List (List Slot)) (w : World) (h : ℕ) (s : MarkedEnvironment) (to : LocalConfig) (event : Event) (events : List Event) →
    AgreesOnTheFragment program w h s to (event ∷ events) →
    AgreesOnTheFragment program (after_event program w event) h s to events
agrees_later program w h s to event events a prefix suffix parts steps seen on =
    a (event ∷ prefix) suffix (ap (λ (x : List Event). event ∷ x) parts) steps seen on

-- an event is a step of the hart, or leaves it as it is
kind_of : (h : ℕ) (event : Event) → KeepsOn event → (event ≡ Step h) ⊎ (IsOfOthers h event × (is_step_of h event ≡ false))
kind_of h (Step g) on = elim (cases_eq g h) [
  | inl is ↦ inl (ap (λ (x : ℕ). Step x) is)
  | inr other ↦ inr (other, grind (arith, other))
]
kind_of h (Evict line mask) on = inr (tt, refl)
kind_of h Crash on = absurd on
kind_of h Start on = absurd on

own_test : (h : ℕ) → is_step_of h (Step h) ≡ true
own_test h = grind arith

module _ (program : List (List Slot)) {w : World} {h : ℕ} {s : MarkedEnvironment} {steps : ℕ} {seen : List Observation} {to : LocalConfig} (event : Event)
    (events : List Event) (sound : IsWellFormedWorld w) (on : IsOnTrace w h s (suc steps) seen to) where
  -- what a hart comes to by the other events, it comes to after this one
  goes_on : AgreesOnTheFragment program w h s to (event ∷ events) → steps_left (suc steps) seen on.hart.queue ≤ own_steps h (event ∷ events) →
      ((k : ℕ) (rest : List Observation) (x : IsOnTrace (after_event program w event) h s k rest to) → steps_left k rest x.hart.queue ≤ own_steps h events →
      ComesTo program (after_event program w event) h events to (steps_left k rest x.hart.queue)) →
      (event ≡ Step h) ⊎ (IsOfOthers h event × (is_step_of h event ≡ false)) →
      ComesTo program w h (event ∷ events) to (steps_left (suc steps) seen on.hart.queue)
  goes_on agrees left rest_comes (inl is) =
      let near : IsNearer (after_event program w event) h s to (steps_left (suc steps) seen on.hart.queue) =
      subst (λ (x : Event). IsNearer (after_event program w x) h s to (steps_left (suc steps) seen on.hart.queue)) (sym is)
      (steps_lower program w h (record { environment = s; steps = steps; seen = seen; to = to; on = on }) (agrees [] (event ∷ events) refl steps seen on)) in
      let own : is_step_of h event ≡ true = ap (λ (x : Event). is_step_of h x) is ∙ own_test h in
      let counted : (more : List Event) → own_steps h (event ∷ more) ≡ 1 + own_steps h more = λ more. ap (λ (b : Bool). cond b 1 0 + own_steps h more) own in
      let count : own_steps h (event ∷ events) ≡ 1 + own_steps h events = counted events in
      later program w h event events to 1 (steps_left near.steps near.seen near.on.hart.queue) (steps_left (suc steps) seen on.hart.queue) counted
      (omega (arith, near.less))
      (rest_comes near.steps near.seen near.on (omega (arith, near.less, count, left)))
  goes_on agrees left rest_comes (inr other) =
      let kept : IsOnSameTrace (after_event program w event) h (stretch s (suc steps) seen to) on.hart =
      others_keep_runs program w h event sound other.0 s (suc steps) seen to on in
      let counted : (more : List Event) → own_steps h (event ∷ more) ≡ 0 + own_steps h more =
      λ more. ap (λ (b : Bool). cond b 1 0 + own_steps h more) other.1 in
      let count : own_steps h (event ∷ events) ≡ 0 + own_steps h events = counted events in
      let queue : length kept.on.hart.queue ≡ length on.hart.queue = ap (λ (y : Hart). length y.queue) kept.same in
      later program w h event events to 0 (steps_left (suc steps) seen kept.on.hart.queue) (steps_left (suc steps) seen on.hart.queue) counted
      (omega (arith, queue))
      (rest_comes (suc steps) seen kept.on (omega (arith, queue, count, left)))

pub harts_come : (program : List (List Slot)) (w : World) (h : ℕ) (s : MarkedEnvironment) (steps : ℕ) (seen : List Observation) (to : LocalConfig)
    (events : List Event) →
    length program ≡ length w.harts → IsWellFormedWorld w → (on : IsOnTrace w h s steps seen to) → AreCrashless events →
    AgreesOnTheFragment program w h s to events →
    steps_left steps seen on.hart.queue ≤ own_steps h events → ComesTo program w h events to (steps_left steps seen on.hart.queue)
harts_come program w h s zero seen to events count sound on crashless agrees left = at_once program w h s seen to events _ on
harts_come program w h s (suc steps) seen to [] count sound on crashless agrees left = absurd (let z : ⊥ = omega (arith, left) in z)
harts_come program w h s (suc steps) seen to (event ∷ events) count sound on crashless agrees left =
    let stays : IsWellFormedWorld (after_event program w event) × (length (after_event program w event).harts ≡ length w.harts) =
    queues_stand program w event count sound in
    goes_on program event events sound on agrees left
    (λ k rest x l. harts_come program (after_event program w event) h s k rest to events (count ∙ sym stays.1) stays.0 x crashless.1
    (agrees_later program w h s to event events agrees) l)
    (kind_of h event crashless.0)
