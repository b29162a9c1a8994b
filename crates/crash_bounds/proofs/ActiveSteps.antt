-- A hart makes no more active steps than its delay until it begins a step of its thread, nor between two of these, nor after the last one.
use Rattle.std.proofs.Common.{◌≡◌, ◌⊎◌, inl, inr, refl, ℕ, zero, suc, ◌+◌, ◌*◌, ◌<◌, ◌≤◌, List, [], ◌∷◌, ◌++◌, length, ap, sym, ◌∙◌, subst, arith}
use Rattle.std.proofs.Common.{append_assoc, Bool, true, false, Option, Some, None, not}
use Rattle.std.specs.Prelude.{slice_get, ◌==◌, ◌&&◌, if◌then◌else◌}
use Rattle.std.proofs.lemmas.Bool.{cases_eq, cases_Bool, cases_lt}
use Rattle.std.proofs.lemmas.Nat.{mul-le}
use Rattle.std.proofs.Math.Nat.{mul-suc}
use Rattle.machine_events.specs.declared.event.Event.{Event}
use Rattle.machine_events.specs.declared.event.Event.TheVariants.{Step, Evict, Crash, Start}
use Rattle.machine_events.specs.declared.event.Reply.TheVariants.{Still}
use Rattle.rv64_isa.specs.declared.object.Slot.{Slot}
use Rattle.machine_model.specs.declared.phase.Phase.{Phase}
use Rattle.machine_model.specs.declared.phase.Phase.TheVariants.{Take, Wait, Resume, Run, Done, Ended}
use Rattle.machine_model.specs.Executables.{first_world}
use Rattle.machine_model.specs.Frames.{IsWellFormedWorld}
use Rattle.machine_model.specs.Machine.{Hart, World, Outcome, after_event, after_events, happens, has_stopped, reply_to}
use Rattle.machine_model.specs.Schedule.{KeepsOn, Steps, first_steps, is_running, only_life, steps_after, steps_along}
use Rattle.machine_model.proofs.Public.{queues_stand, starts_simulate, steps_touch}
use Rattle.hart_runs.proofs.Public.{stopped_stay}
use Rattle.compiler_correctness.specs.Translations.{Translation, GoOn, world, steps}
use Rattle.compiler_correctness.specs.Delays.{is_active_step, active_steps, begun_by, has_waited, IsStopped, GetsOn}
use Rattle.crash_bounds.specs.Rates.{begun_among}
use Rattle.crash_bounds.proofs.BegunSteps.{Gains, gains, gained_by}

abbrev pub counted : Bool → ℕ
counted b = if b then 1 else 0

and_false : (b : Bool) → (b && false) ≡ false
and_false true = refl
and_false false = refl

-- ---- Events one after another

pub go_both : (first rest : List Event) → GoOn (first ++ rest) → GoOn first × GoOn rest
go_both [] rest on = (tt, on)
go_both (event ∷ first) rest on = let more = go_both first rest on.1 in ((on.0, more.0), more.1)

pub worlds_both : (program : List (List Slot)) (first rest : List Event) (w : World) →
    after_events program w (first ++ rest) ≡ after_events program (after_events program w first) rest
worlds_both program [] rest w = refl
worlds_both program (event ∷ first) rest w = worlds_both program first rest (after_event program w event)

pub steps_both : (marks : List (List ℕ)) (program : List (List Slot)) (first rest : List Event) (w : World) (s : Steps) →
    steps_along marks program w (first ++ rest) s ≡ steps_along marks program (after_events program w first) rest (steps_along marks program w first s)
steps_both marks program [] rest w s = refl
steps_both marks program (event ∷ first) rest w s = steps_both marks program first rest (after_event program w event) (steps_after marks program w event s)

-- harts and queues stay well formed
pub record IsSound (program : List (List Slot)) (w : World) : Type 0 where
  pub count : length program ≡ length w.harts
  pub formed : IsWellFormedWorld w

pub sound_then : (program : List (List Slot)) (w : World) (event : Event) → IsSound program w → IsSound program (after_event program w event)
sound_then program w event is =
    let next = queues_stand program w event is.count is.formed in
    record { count = is.count ∙ sym next.1; formed = next.0 }

sound_along : (program : List (List Slot)) (events : List Event) (w : World) → IsSound program w → IsSound program (after_events program w events)
sound_along program [] w is = is
sound_along program (event ∷ events) w is = sound_along program events (after_event program w event) (sound_then program w event is)

pub sound_first : (c : Translation) → IsSound c.runs.program (first_world c.runs)
sound_first c =
    let starts = starts_simulate c.runs.log c.runs.program c.runs.mutexes c.runs.initial in
    record { count = sym starts.1; formed = starts.0 }

pub sound_world : (c : Translation) (events : List Event) → IsSound c.runs.program (world c events)
sound_world c events = sound_along c.runs.program events (first_world c.runs) (sound_first c)

-- ---- A hart that has stopped

stopped_running : (phase : Phase) → has_stopped phase ≡ true → is_running phase ≡ false
stopped_running Take e = refl
stopped_running Wait e = refl
stopped_running Resume e = refl
stopped_running Run e = absurd (let never : false ≡ true = e in cc)
stopped_running Done e = refl
stopped_running Ended e = refl

stopped_cases : (phase : Phase) → has_stopped phase ≡ true → (phase ≡ Done) ⊎ (phase ≡ Ended)
stopped_cases Take e = absurd (let never : false ≡ true = e in cc)
stopped_cases Wait e = absurd (let never : false ≡ true = e in cc)
stopped_cases Resume e = absurd (let never : false ≡ true = e in cc)
stopped_cases Run e = absurd (let never : false ≡ true = e in cc)
stopped_cases Done e = inl refl
stopped_cases Ended e = inr refl

module _ (program : List (List Slot)) (h : ℕ) where
  pub stopped_still : (w : World) → IsStopped w h → happens program w (Step h) ≡ (w, Still)
  stopped_still w s =
      stopped_stay program w h s.hart.phase (stopped_cases s.hart.phase s.stopped) (record { hart = s.hart; here = s.here; phase_is = refl })

  stays_by_step : (w : World) (g : ℕ) → IsSound program w → IsStopped w h → IsStopped (after_event program w (Step g)) h
  stays_by_step w g sound s = elim (cases_eq g h) [
    | inl is ↦
        subst (λ (x : ℕ). IsStopped (after_event program w (Step x)) h) (sym is)
        (subst (λ (v : World). IsStopped v h) (sym (ap (λ (o : Outcome). o.0) (stopped_still w s))) s)
    | inr other ↦ record {
      hart = s.hart;
      here = (steps_touch program w g sound.formed).others h (λ e. other (sym e)) ∙ s.here;
      stopped = s.stopped;
    }
  ]

  stays : (w : World) (event : Event) → IsSound program w → KeepsOn event → IsStopped w h → IsStopped (after_event program w event) h
  unfolding happens
  stays w (Step g) sound on s = stays_by_step w g sound s
  stays w (Evict line mask) sound on s = record { hart = s.hart; here = s.here; stopped = s.stopped }
  stays w Crash sound on s = absurd on
  stays w Start sound on s = absurd on

  abbrev pub active : World → Option Hart → Bool
  active w o = elim o [
    | None ↦ false
    | Some x ↦ is_running x.phase && not (has_waited (reply_to program w (Step h)))
  ]

  stopped_idle : (w : World) (event : Event) → IsStopped w h → is_active_step program w event h ≡ false
  stopped_idle w (Step g) s =
      let off : active w (slice_get w.harts h) ≡ false =
      ap (active w) s.here ∙ ap (λ (b : Bool). b && not (has_waited (reply_to program w (Step h)))) (stopped_running s.hart.phase s.stopped) in
      ap (λ (b : Bool). (g == h) && b) off ∙ and_false (g == h)
  stopped_idle w (Evict line mask) s = refl
  stopped_idle w Crash s = refl
  stopped_idle w Start s = refl

  stopped_none : (events : List Event) (w : World) → IsSound program w → GoOn events → IsStopped w h → active_steps program w events h ≡ 0
  stopped_none [] w sound on s = refl
  stopped_none (event ∷ events) w sound on s =
      let here = ap counted (stopped_idle w event s) in
      let rest = stopped_none events (after_event program w event) (sound_then program w event sound) on.1 (stays w event sound on.0 s) in
      omega (arith, here, rest)

  -- ---- The events until so many active steps are made

  active_both : (first rest : List Event) (w : World) →
      active_steps program w (first ++ rest) h ≡ active_steps program w first h + active_steps program (after_events program w first) rest h
  active_both [] rest w = omega arith
  active_both (event ∷ first) rest w = let more = active_both first rest (after_event program w event) in omega (arith, more)

  record Splits (w : World) (more : List Event) (count : ℕ) : Type 0 where
    first : List Event
    rest : List Event
    is : more ≡ first ++ rest
    so_many : active_steps program w first h ≡ count

  split : (more : List Event) (w : World) (count : ℕ) → count ≤ active_steps program w more h → Splits w more count
  split more w zero many = record { first = []; rest = more; is = refl; so_many = refl }
  split [] w (suc count) many = absurd (omega (arith, many))
  split (event ∷ more) w (suc count) many = elim (cases_Bool (is_active_step program w event h)) [
    | inl is ↦
        let one = ap counted is in
        let s = split more (after_event program w event) count (omega (arith, many, one)) in
        let so = s.so_many in
        record { first = event ∷ s.first; rest = s.rest; is = ap (λ (es : List Event). event ∷ es) s.is; so_many = omega (arith, one, so) }
    | inr off ↦
        let none = ap counted off in
        let s = split more (after_event program w event) (suc count) (omega (arith, many, none)) in
        let so = s.so_many in
        record { first = event ∷ s.first; rest = s.rest; is = ap (λ (es : List Event). event ∷ es) s.is; so_many = omega (arith, none, so) }
  ]

-- ---- What a life gains

pub gained : (c : Translation) (events more : List Event) → GoOn more → Gains (steps c events) (steps c (events ++ more))
gained c events more on =
    let first = first_steps (only_life []) in
    subst (λ (t : Steps). Gains (steps c events) t) (sym (steps_both c.runs.marks c.runs.program events more (first_world c.runs) first))
    (gains c.runs.marks c.runs.program more (world c events) (steps c events) on)

-- ---- The rate of a hart

module _ (c : Translation) (h most : ℕ) (some : 1 ≤ most)
    (delays : (events more : List Event) → GoOn more → most ≤ active_steps c.runs.program (world c events) more h → GetsOn c events more h) where
  abbrev made : (events more : List Event) → ℕ
  made events more = active_steps c.runs.program (world c events) more h

  abbrev IsSlow : (events more : List Event) → Type 0
  IsSlow events more = made events more ≤ most * suc (begun_among c events more h)

  -- where the first of the events are as many as the delay, and the others are so
  joined : (events first rest : List Event) → GoOn first → GoOn rest → made events first ≡ most → most < made events (first ++ rest) →
      IsSlow (events ++ first) rest → IsSlow events (first ++ rest)
  joined events first rest on then_on so_many over slow = elim (delays events first on (omega (arith, so_many))) [
    | inl begins ↦
        let grows = gained_by (steps c (events ++ first)) (steps c ((events ++ first) ++ rest)) (gained c (events ++ first) rest then_on) h in
        let regrouped = ap (λ (es : List Event). begun_by (steps c es) h) (append_assoc events first rest) in
        let fewer : suc (begun_among c (events ++ first) rest h) ≤ begun_among c events (first ++ rest) h = omega (arith, begins, grows, regrouped) in
        let product = mul-le most (suc (begun_among c (events ++ first) rest h)) most (begun_among c events (first ++ rest) h) (omega arith) fewer in
        let last = mul-suc most (begun_among c events (first ++ rest) h) in
        omega (arith, both, so_many, slow, product, last)
    | inr stopped ↦
        let none = stopped_none c.runs.program h rest (world c (events ++ first)) (sound_world c (events ++ first)) then_on stopped in
        absurd (omega (arith, both, so_many, none, over))
  ]
    where
      both : made events (first ++ rest) ≡ made events first + made (events ++ first) rest
      both =
          active_both c.runs.program h first rest (world c events)
          ∙ ap (λ (w : World). made events first + active_steps c.runs.program w rest h) (sym (worlds_both c.runs.program events first (first_world c.runs)))

  -- where more than the delay are made, and less are slow
  by_split : (fuel : ℕ) (events more : List Event) → ((before later : List Event) → GoOn later → made before later ≤ fuel → IsSlow before later) →
      GoOn more → made events more ≤ suc fuel → most < made events more → Splits c.runs.program h (world c events) more most → IsSlow events more
  by_split fuel events more less on few over s =
      let parts = go_both s.first s.rest (subst GoOn s.is on) in
      let past : most < made events (s.first ++ s.rest) = subst (λ (es : List Event). most < made events es) s.is over in
      let all : made events (s.first ++ s.rest) ≤ suc fuel = subst (λ (es : List Event). made events es ≤ suc fuel) s.is few in
      let both : made events (s.first ++ s.rest) ≡ made events s.first + made (events ++ s.first) s.rest =
      active_both c.runs.program h s.first s.rest (world c events)
      ∙ ap (λ (w : World). made events s.first + active_steps c.runs.program w s.rest h)
      (sym (worlds_both c.runs.program events s.first (first_world c.runs))) in
      let so = s.so_many in
      let later = less (events ++ s.first) s.rest parts.1 (omega (arith, all, both, so, some)) in
      subst (λ (es : List Event). IsSlow events es) (sym s.is) (joined events s.first s.rest parts.0 parts.1 s.so_many past later)

  slow_by : (fuel : ℕ) (events more : List Event) → GoOn more → made events more ≤ fuel → IsSlow events more
  slow_by zero events more on few = omega (arith, few)
  slow_by (suc fuel) events more on few = elim (cases_lt most (made events more)) [
    | inl over ↦
        by_split fuel events more (λ before later then_on less. slow_by fuel before later then_on less) on few over
        (split c.runs.program h more (world c events) most (omega (arith, over)))
    | inr within ↦
        let product = mul-suc most (begun_among c events more h) in
        omega (arith, product, within)
  ]

  pub slow : (events more : List Event) → GoOn more → IsSlow events more
  slow events more on = slow_by (made events more) events more on (omega arith)
