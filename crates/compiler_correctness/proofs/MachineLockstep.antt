-- In a life without a crash all steps that have begun lead the source to where the machine is.
use Rattle.std.proofs.Common.{◌≡◌, refl, ℕ, suc, List, [], ◌∷◌, ◌++◌, length, map, ap, arith, sym, ◌∙◌, subst, Bool, true, false, ℤ, ◌≢◌, inl, inr, Some, ◌+◌}
use Rattle.std.proofs.Common.{slice_index_or, pos, append-nil}
use Rattle.std.specs.Prelude.{if◌then◌else◌}
use Rattle.std.proofs.lemmas.Bool.{true≢false}
use Rattle.std.proofs.lemmas.Option.{none-some}
use Rattle.machine_events.specs.declared.event.Event.{Event}
use Rattle.machine_events.specs.declared.event.Event.TheVariants.{Step, Evict, Crash, Start}
use Rattle.ido_base.specs.Words.{last_position}
use Rattle.c_tree.specs.Flats as f
use Rattle.c_tree.specs.Source as m
use Rattle.source_machine.specs.Mutexes.{unlocks}
use Rattle.source_machine.proofs.Public.{sizes_stay, goes_on}
use Rattle.machine_model.specs.Executables.{first_world}
use Rattle.machine_model.specs.Frames.{IsWellFormedWorld}
use Rattle.machine_model.specs.Machine.{World, Outcome, after_crash_of, after_event, after_events, can_start, happens}
use Rattle.machine_model.specs.Schedule.{KeepsOn, Steps, next_life, only_life, passes_mark, stores_point, first_steps, with_step, steps_after, steps_along}
use Rattle.rv64_isa.specs.declared.object.Slot.{Slot}
use Rattle.machine_model.proofs.Public.{outcome_of, starts_by, steps_touch}
use Rattle.recovery_semantics.specs.ElementHistories.{History, Memory, history_of, live_number}
use Rattle.recovery_semantics.specs.Configs.{Config, Invariant, now}
use Rattle.recovery_semantics.specs.Laws.{LastUnlocks}
use Rattle.recovery_semantics.proofs.Public.{last_now, last_stays, none_of_other}
use Rattle.log_states.specs.Logs.{point_in}
use Rattle.thread_runs.specs.Laws.{MarksPass, FragmentsGoOn}
use Rattle.recovered_threads.proofs.Public.{same_or_other}
use Rattle.variable_words.proofs.Public.{well_formed_placed, live_are_memory}
use Rattle.crash_simulation.specs.Systems.{System, IsSystem, flat_of}
use Rattle.crash_simulation.specs.ThreadGhosts.{ThreadGhost}
use Rattle.crash_simulation.specs.SimulationRelation.{SimulatesBut, Simulates}
use Rattle.crash_simulation.specs.InstructionSteps.{IsUnlocked, was_unlocked, begins_unlock, FragmentsStep, CoresStep, LocalStoresStep}
use Rattle.crash_simulation.specs.AccountRelation.{SimulatesLives, beginning_after, first_beginning}
use Rattle.crash_simulation.proofs.Public.{resumed, AreFurthest, counted_by, begun_by, begun_in, AreOnTime, Continues, event_goes_on, first_life, first_origin}
use Rattle.crash_simulation.proofs.Public.{has_begun, HasBegun}
use Rattle.crash_simulation.proofs.Public.{life_begins, life_goes_on, none_begins, none_more, released_by, start_counted}
use Rattle.compiler_correctness.specs.Translations.{Translation, source}
use Rattle.compiler_correctness.specs.Compilation.{IsInStep}
use Rattle.compiler_correctness.proofs.LaterLives.{begun_state, runnable, source_is}
use Rattle.compiler_correctness.specs.Laws.{translation_of, MachinesKeepStep}
use Rattle.compiler_correctness.proofs.Records.{agree}
use Rattle.compiler_correctness.proofs.MarksReached.{kept_begun}

-- ---- Live memory, where each attempt has come as far as any before

numbers_same : (hs : List History) (ns : List ℤ) → length hs ≡ length ns →
    ((e : ℕ) → live_number (slice_index_or hs e (history_of (pos 0))) ≡ slice_index_or ns e (pos 0)) → map live_number hs ≡ ns
numbers_same [] [] l same = refl
numbers_same [] (n ∷ ns) l same = absurd (omega (arith, l))
numbers_same (h ∷ hs) [] l same = absurd (omega (arith, l))
numbers_same (h ∷ hs) (n ∷ ns) l same = λ i. same 0 i ∷ numbers_same hs ns (omega (arith, l)) (λ e. same (suc e)) i

pub variables_same : (hss : List (List History)) (nss : List (List ℤ)) → map length hss ≡ map length nss →
    ((v e : ℕ) → live_number (slice_index_or (slice_index_or hss v []) e (history_of (pos 0))) ≡ slice_index_or (slice_index_or nss v []) e (pos 0)) →
    map (map live_number) hss ≡ nss
variables_same [] [] l same = refl
variables_same [] (ns ∷ nss) l same = cc
variables_same (hs ∷ hss) [] l same = cc
variables_same (hs ∷ hss) (ns ∷ nss) l same =
    let one : length hs ≡ length ns = cc in
    let more : map length hss ≡ map length nss = cc in
    λ i. numbers_same hs ns one (same 0) i ∷ variables_same hss nss more (λ v. same (suc v)) i

live_is_now : (x : f.Flat) (z : Config) → Invariant x z → AreFurthest z → map (map live_number) z.memory ≡ (now z).variables
live_is_now x z i furthest = variables_same z.memory (now z).variables (i.size ∙ sym (sizes_stay z.kept z.uncommitted).1) (λ v e.
    i.live v e (λ thread ahead. let whole = furthest thread in let from = ahead.not_done in let to = ahead.within in absurd (omega (arith, whole, from, to))))

-- ---- In step

-- what a thread has still to give back its last step that has begun has unlocked
abbrev pub AreLastUnlocked : (from : m.State) → (ghosts : ℕ → ThreadGhost) → (begun : List ℕ) → Type 0
AreLastUnlocked from ghosts begun = (n mutex : ℕ) → (ghosts n).giving ≡ Some mutex → LastUnlocks from begun n mutex

-- all steps that have begun in this life can be stepped, and lead to the state now; and no attempt goes over what an earlier one did
pub record InStep (y : System) (s : IsSystem y) (w : World) (stands : Simulates y s w) (from : m.State) (begun : List ℕ) : Type 0 where
  pub runs : m.runs_from from begun ≡ true
  pub leads : m.after_from from begun ≡ now stands.abstract.config
  pub furthest : AreFurthest stands.abstract.config
  pub unlocked : AreLastUnlocked from stands.ghosts begun

-- where this life begins
abbrev pub beginning : (y : System) {s : IsSystem y} {w : World} {steps : Steps} {releases : ℕ → ℕ} → SimulatesLives y s (first_beginning y) w steps releases →
    m.State
beginning y z = (beginning_after y (first_beginning y) z.lives).from

-- how a machine and the source stand in a life without a crash
pub record Going (y : System) (s : IsSystem y) (w : World) (steps : Steps) (releases : ℕ → ℕ) : Type 0 where
  pub carried : SimulatesLives y s (first_beginning y) w steps releases
  pub in_step : w.recovering ≡ false → InStep y s w carried.is.stands (beginning y carried) steps.begun

-- where the life has only begun, nothing is begun
pub begins_in_step : (y : System) (s : IsSystem y) (w : World) (steps : Steps) (releases : ℕ → ℕ)
    (carried : SimulatesLives y s (first_beginning y) w steps releases) → HasBegun y s w carried.is.stands → steps.begun ≡ [] →
    InStep y s w carried.is.stands (beginning y carried) steps.begun
begins_in_step y s w steps releases carried new none = record {
  runs = ap (m.runs_from (beginning y carried)) none;
  leads = ap (m.after_from (beginning y carried)) none ∙ (sym carried.is.counted.begins ∙ sym new.now_is);
  furthest = new.furthest;
  unlocked = λ n mutex gives. absurd (none-some mutex (sym (new.none_giving n) ∙ gives));
}

-- ---- What is begun

begun_is : (begun points : Bool) (h position : ℕ) (s : Steps) → (counted_by begun points h position s).begun ≡ s.begun ++ begun_by begun h []
begun_is false false h position s = sym (append-nil s.begun)
begun_is false true h position s = sym (append-nil s.begun)
begun_is true false h position s = refl
begun_is true true h position s = refl

pub begun_after : (y : System) (w : World) (event : Event) → KeepsOn event → (steps : Steps) →
    (steps_after y.runs.marks y.runs.program w event steps).begun ≡ steps.begun ++ begun_in y w event
unfolding steps_after
begun_after y w (Step h) on steps =
    let after : World = after_event y.runs.program w (Step h) in
    kept_begun w.log after.words (length y.runs.program) (with_step y.runs.marks y.runs.program w h steps)
    ∙ begun_is (passes_mark y.runs.marks y.runs.program w h) (stores_point y.runs.program w (Step h) h) h (last_position (point_in w.log after.words h)) steps
begun_after y w (Evict line mask) on steps =
    kept_begun w.log (after_event y.runs.program w (Evict line mask)).words (length y.runs.program) steps ∙ sym (append-nil steps.begun)
begun_after y w Crash on steps = absurd on
begun_after y w Start on steps = absurd on

-- a life without a crash was one without a crash before
still_powered : (program : List (List Slot)) (w : World) (event : Event) → IsWellFormedWorld w → KeepsOn event →
    (after_event program w event).recovering ≡ false → w.recovering ≡ false
unfolding happens
still_powered program w (Step h) sound on none = sym (steps_touch program w h sound).recovering ∙ none
still_powered program w (Evict line mask) sound on none = none
still_powered program w Crash sound on none = absurd on
still_powered program w Start sound on none = absurd on

crash_recovers : (program : List (List Slot)) (w : World) → (after_event program w Crash).recovering ≡ true
unfolding happens after_crash_of
crash_recovers program w = refl

-- a start that begins no life changes nothing
pub nothing_starts : (program : List (List Slot)) (w : World) → can_start w ≡ false → after_event program w Start ≡ w
nothing_starts program w none = ap (λ (o : Outcome). o.0) (starts_by program w ∙ ap (outcome_of program w) none)

pub begun_none : (y : System) (w : World) (steps : Steps) → can_start w ≡ true → (steps_after y.runs.marks y.runs.program w Start steps).begun ≡ []
unfolding steps_after
begun_none y w steps may = ap (λ (b : Bool). (if b then next_life steps else steps).begun) may

pub steps_stay : (y : System) (w : World) (steps : Steps) → can_start w ≡ false → steps_after y.runs.marks y.runs.program w Start steps ≡ steps
unfolding steps_after
steps_stay y w steps none = ap (λ (b : Bool). if b then next_life steps else steps) none

module _ (fragments_step : FragmentsStep) (cores_step : CoresStep) (local_stores_step : LocalStoresStep) (law : FragmentsGoOn) (y : System)
    (s : IsSystem y) where
  module _ (w : World) (steps : Steps) (releases : ℕ → ℕ) (going : Going y s w steps releases) where
    abbrev old : Simulates y s w
    old = going.carried.is.stands

    abbrev z : m.State
    z = now old.abstract.config

    abbrev from : m.State
    from = beginning y going.carried

    -- ---- What is still to be given back

    stays_last : (n mutex g : ℕ) → n ≢ g → (b : Bool) → LastUnlocks from steps.begun n mutex → LastUnlocks from (steps.begun ++ begun_by b g []) n mutex
    stays_last n mutex g other true l = last_stays from steps.begun (g ∷ []) n mutex (none_of_other g n 1 other) l
    stays_last n mutex g other false l = subst (λ (ts : List ℕ). LastUnlocks from ts n mutex) (sym (append-nil steps.begun)) l

    -- no thread is late
    on_time : (event : Event) → AreOnTime y s w event old old
    on_time event n below = (going.carried.is.counted.each n below).on_time

    module _ (was : InStep y s w old from steps.begun) where
      own_last : (h mutex : ℕ) (begun : Bool) → IsUnlocked z h begun (old.ghosts h).giving mutex →
          LastUnlocks from (steps.begun ++ begun_by begun h []) h mutex
      own_last h mutex _ (was_unlocked none gave) =
          subst (λ (b : Bool). LastUnlocks from (steps.begun ++ begun_by b h []) h mutex) (sym none)
          (subst (λ (ts : List ℕ). LastUnlocks from ts h mutex) (sym (append-nil steps.begun)) (was.unlocked h mutex gave))
      own_last h mutex _ (begins_unlock some unlocks_it) =
          subst (λ (b : Bool). LastUnlocks from (steps.begun ++ begun_by b h []) h mutex) (sym some)
          (last_now from steps.begun h mutex (ap (λ (x : m.State). unlocks x h) was.leads ∙ unlocks_it))

      then_unlocked : (event : Event) {waiting : ℕ → Type 0} (new : SimulatesBut y s (after_event y.runs.program w event) waiting) →
          Continues y s w event old new → KeepsOn event → AreLastUnlocked from new.ghosts (steps.begun ++ begun_in y w event)
      then_unlocked (Step h) new on keeps n mutex gives = elim (same_or_other n h) [
        | inl same ↦
            subst (λ (k : ℕ). LastUnlocks from (steps.begun ++ begun_in y w (Step k)) n mutex) same
            (own_last n mutex (passes_mark y.runs.marks y.runs.program w n) ((on.counted (on_time (Step h))).unlocked n mutex (ap Step (sym same)) gives))
        | inr other ↦
            stays_last n mutex h other (passes_mark y.runs.marks y.runs.program w h)
            (was.unlocked n mutex (sym (on.others n (λ e. other (let same : h ≡ n = cc in sym same))) ∙ gives))
      ]
      then_unlocked (Evict line mask) new on keeps n mutex gives =
          subst (λ (ts : List ℕ). LastUnlocks from ts n mutex) (sym (append-nil steps.begun))
          (was.unlocked n mutex (sym (on.others n (λ e. cc)) ∙ gives))
      then_unlocked Crash new on keeps n mutex gives = absurd keeps
      then_unlocked Start new on keeps n mutex gives = absurd keeps

      then_in_step : (event : Event) → KeepsOn event →
          InStep y s (after_event y.runs.program w event) (event_goes_on fragments_step cores_step local_stores_step law y s w event old).next from
          (steps_after y.runs.marks y.runs.program w event steps).begun
      then_in_step event keeps =
          let on = (event_goes_on fragments_step cores_step local_stores_step law y s w event old).on keeps in
          let begun = begun_after y w event keeps steps in
          let more = goes_on from steps.begun (begun_in y w event) was.runs in
          record {
            runs = ap (m.runs_from from) begun
                ∙ (more.runs ∙ (ap (λ (x : m.State). m.runs_from x (begun_in y w event)) was.leads ∙ (on.counted (on_time event)).runs));
            leads = ap (m.after_from from) begun
                ∙ (more.after ∙ (ap (λ (x : m.State). m.after_from x (begun_in y w event)) was.leads ∙ sym (on.counted (on_time event)).source));
            furthest = on.tried was.furthest;
            unlocked = λ n mutex gives.
                subst (λ (ts : List ℕ). LastUnlocks from ts n mutex) (sym begun) (then_unlocked event _ on keeps n mutex gives);
          }

    -- ---- Each event

    abbrev GoingThen : Event → Type 0
    GoingThen event =
        Going y s (after_event y.runs.program w event) (steps_after y.runs.marks y.runs.program w event steps) (released_by y.runs.program w event releases)

    event_going : (event : Event) → KeepsOn event → GoingThen event
    event_going event keeps = record {
      carried = life_goes_on fragments_step cores_step local_stores_step law y s w event steps releases (none_begins w event keeps) going.carried;
      in_step = λ none. then_in_step (going.in_step (still_powered y.runs.program w event old.machine.sound keeps none)) event keeps;
    }

    crash_going : GoingThen Crash
    crash_going = record {
      carried = life_goes_on fragments_step cores_step local_stores_step law y s w Crash steps releases refl going.carried;
      in_step = λ none. absurd (true≢false (sym (crash_recovers y.runs.program w) ∙ none));
    }

    -- another life begins in step
    begins_going : can_start w ≡ true → GoingThen Start
    begins_going may =
        let o = event_goes_on fragments_step cores_step local_stores_step law y s w Start old in
        let carried = life_begins fragments_step cores_step local_stores_step law y s w Start steps releases may going.carried in
        record { carried = carried; in_step = λ none. begins_in_step y s _ _ _ carried (o.anew may) (begun_none y w steps may) }

    -- or nothing changes
    same_going : can_start w ≡ false → GoingThen Start
    same_going none =
        let same = nothing_starts y.runs.program w none in
        let account = steps_stay y w steps none in
        let released : (n : ℕ) → releases n ≡ released_by y.runs.program w Start releases n =
        λ n. none_more (releases n) ∙ ap (λ (b : Bool). if b then 0 else releases n + 0) (sym none) in
        coe 0 1 (i. Going y s ((sym same) i) ((sym account) i) (λ n. released n i)) going

    start_event_going : (may : Bool) → can_start w ≡ may → GoingThen Start
    start_event_going true may = begins_going may
    start_event_going false none = same_going none

    pub each_going : (event : Event) → GoingThen event
    each_going (Step h) = event_going (Step h) tt
    each_going (Evict line mask) = event_going (Evict line mask) tt
    each_going Crash = crash_going
    each_going Start = start_event_going (can_start w) refl

  -- the account goes on at this world and these steps, for some number of releases of each hart
  abbrev StaysInStep : (w : World) → Steps → Type 0
  StaysInStep w steps = (releases : ℕ → ℕ) × Going y s w steps releases

  all_going : (events : List Event) (w : World) (steps : Steps) (releases : ℕ → ℕ) → Going y s w steps releases →
      StaysInStep (after_events y.runs.program w events) (steps_along y.runs.marks y.runs.program w events steps)
  all_going [] w steps releases going = (releases, going)
  all_going (event ∷ events) w steps releases going = all_going events _ _ _ (each_going w steps releases going event)

start_going : (y : System) (s : IsSystem y) → Going y s (first_world y.runs) (first_steps (only_life [])) (λ n. 0)
start_going y s =
    let new = has_begun y s (first_origin y s) (first_world y.runs) (first_life y s) in
    record {
      carried = record { lives = []; ended = refl; is = start_counted y s };
      in_step = λ none. record {
        runs = refl;
        leads = refl;
        furthest = new.furthest;
        unlocked = λ n mutex gives. absurd (none-some mutex (sym (new.none_giving n) ∙ gives));
      };
    }

-- ---- Machines keep step with the source

pub in_step_at : MarksPass → (y : System) (s : IsSystem y) (w : World) (account : Steps) (releases : ℕ → ℕ) → Going y s w account releases →
    w.recovering ≡ false → IsInStep (translation_of y) w account
in_step_at marks y s w account releases going none =
    let in_step = going.in_step none in
    let resumes = going.carried in
    let is = resumes.is in
    let c : Translation = translation_of y in
    let begun : List ℕ = account.begun in
    let same : is.stands.abstract.origin.source ≡ beginning y resumes = is.counted.begins in
    let leads : source c (account.earlier ++ begun ∷ []) ≡ now is.stands.abstract.config =
    source_is y s w account resumes begun ∙ (ap (λ (from : m.State). m.after_from from begun) same ∙ in_step.leads) in
    record {
      runs = runnable y s w account resumes begun (ap (λ (from : m.State). m.runs_from from begun) same ∙ in_step.runs);
      variables =
          live_are_memory (flat_of y).variables w.words (well_formed_placed (flat_of y) s.plan.formed).room
          ∙ (ap (λ (memory : Memory). map (map live_number) memory) is.stands.memory
          ∙ (live_is_now (flat_of y) is.stands.abstract.config (resumed y s is.stands.abstract).resumed.invariant in_step.furthest
          ∙ ap (λ (z : m.State). z.variables) (sym leads)));
      locks_agree = λ h hart there on.
          agree y s w account resumes h hart there begun leads marks
          (λ mutex gives. subst (λ (from : m.State). LastUnlocks from begun h mutex) (sym same ∙ sym (begun_state y s w account resumes))
          (in_step.unlocked h mutex gives)) on;
    }

pub machines_keep_step : MarksPass → FragmentsStep → CoresStep → LocalStoresStep → FragmentsGoOn → MachinesKeepStep
machines_keep_step marks fragments_step cores_step local_stores_step law y s events none =
    let stays = all_going fragments_step cores_step local_stores_step law y s events _ _ _ (start_going y s) in
    in_step_at marks y s _ _ stays.0 stays.1 none
