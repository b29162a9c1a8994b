-- A run that is begun from an image is the one in which power is lost.
use Rattle.std.proofs.Common.{◌≡◌, refl, ℕ, zero, suc, List, [], ◌∷◌, ◌++◌, length, map, sym, ◌∙◌, ap, ap₂, subst, Bool, true, false}
use Rattle.std.specs.Prelude.{if◌then◌else◌}
use Rattle.std.proofs.lemmas.List.{append-nil, append_assoc, length-replicate}
use Rattle.machine_model.proofs.Public.{first_stays, log_stays, queues_stand, starts_simulate}
use Rattle.log_schemes.specs.declared.log.Log.{Log}
use Rattle.machine_events.specs.declared.event.Event.{Event}
use Rattle.machine_events.specs.declared.event.Event.TheVariants.{Step, Evict, Crash, Start}
use Rattle.ido_base.specs.Words.{Word, last_position, durable_value}
use Rattle.c_tree.specs.Source.{is_between}
use Rattle.rv64_isa.specs.declared.object.Slot.{Slot}
use Rattle.machine_model.specs.Executables.{first_world}
use Rattle.machine_model.specs.Machine.{World, can_start, is_settled, start_of, after_crash_of, happens, after_event, after_events}
use Rattle.machine_model.specs.Schedule.{Steps, passes_mark, stores_point, with_begun, with_stored, with_kept, with_all_kept, with_step}
use Rattle.machine_model.specs.Schedule.{HaveNoStart, begins_life, next_life}
use Rattle.machine_model.specs.Schedule.{LifeSchedules, all_lives, kept_lives, only_life, schedules, steps_after, steps_along, first_steps}
use Rattle.machine_model.specs.Frames.{IsWellFormedWorld}
use Rattle.variable_words.specs.Variables.{durable_variables}
use Rattle.log_states.specs.Logs.{point_in}
use Rattle.crash_simulation.proofs.Public.{counted_by, mutexes_stay, worlds_join, steps_join}
use Rattle.compiler_correctness.specs.Translations.{Translation, world, steps, source, IsRunnable}
use Rattle.compiler_correctness.specs.Compilation.{BeginLives}
use Rattle.compiler_correctness.specs.Images.{image_of, first_from, world_from, steps_from, IsCrashed}
use Rattle.compiler_correctness.specs.Laws.{translation_of, SettledMachinesAreKept, KeptStepsGrow, ImagesAreCrashes, ImagesAreResumed}

-- ---- As many locks as ever

-- the machine's world is well-formed, and it has so many locks
record HasLocks (how : Log) (program : List (List Slot)) (locks : ℕ) (w : World) : Type 0 where
  pub sound : IsWellFormedWorld w
  pub harts : length program ≡ length w.harts
  pub log : w.log ≡ how
  pub holders : length w.holders ≡ locks

module _ (log : Log) (program : List (List Slot)) (locks : ℕ) where
  still : (w : World) (event : Event) → HasLocks log program locks w → HasLocks log program locks (after_event program w event)
  still w event has =
      let stands = queues_stand program w event has.harts has.sound in
      record {
        sound = stands.0;
        harts = has.harts ∙ sym stands.1;
        log = log_stays program w event has.sound ∙ has.log;
        holders = mutexes_stay program w event has.sound ∙ has.holders;
      }

  along : (events : List Event) (w : World) → HasLocks log program locks w → HasLocks log program locks (after_events program w events)
  along [] w has = has
  along (event ∷ events) w has = along events (after_event program w event) (still w event has)

  at_start : (initial : List ℕ) → HasLocks log program locks (start_of log program locks initial)
  unfolding start_of
  at_start initial =
      let stands = starts_simulate log program locks initial in
      record { sound = stands.0; harts = sym stands.1; log = refl; holders = length-replicate locks _ }

-- ---- The account after what was begun before

abbrev prefixed : List ℕ → Steps → Steps
prefixed prefix s = record s { begun = prefix ++ s.begun }

module _ (prefix : List ℕ) where
  begun_prefixed : (h : ℕ) (s : Steps) → with_begun h (prefixed prefix s) ≡ prefixed prefix (with_begun h s)
  begun_prefixed h s = ap (λ (begun : List ℕ). record (with_begun h s) { begun = begun }) (append_assoc prefix s.begun (h ∷ []))

  kept_prefixed : (log : Log) (words : List Word) (count : ℕ) (s : Steps) →
      with_all_kept log words count (prefixed prefix s) ≡ prefixed prefix (with_all_kept log words count s)
  kept_prefixed log words zero s = refl
  kept_prefixed log words (suc h) s = ap (with_kept log words h) (kept_prefixed log words h s)

  counted_prefixed : (begun points : Bool) (h position : ℕ) (s : Steps) →
      counted_by begun points h position (prefixed prefix s) ≡ prefixed prefix (counted_by begun points h position s)
  counted_prefixed true false h position s = begun_prefixed h s
  counted_prefixed true true h position s = ap (with_stored h position) (begun_prefixed h s)
  counted_prefixed false false h position s = refl
  counted_prefixed false true h position s = refl

  module _ (marks : List (List ℕ)) (program : List (List Slot)) where
    event_prefixed : (w : World) (event : Event) (s : Steps) → begins_life w event ≡ false →
        steps_after marks program w event (prefixed prefix s) ≡ prefixed prefix (steps_after marks program w event s)
    unfolding steps_after
    event_prefixed w (Step h) s none =
        let words = (after_event program w (Step h)).words in
        ap (with_all_kept w.log words (length program))
        (counted_prefixed (passes_mark marks program w h) (stores_point program w (Step h) h) h (last_position (point_in w.log words h)) s)
        ∙ kept_prefixed w.log words (length program) (with_step marks program w h s)
    event_prefixed w (Evict line mask) s none = kept_prefixed w.log (after_event program w (Evict line mask)).words (length program) s
    event_prefixed w Crash s none = refl
    event_prefixed w Start s none =
        ap (λ (may : Bool). if may then next_life (prefixed prefix s) else prefixed prefix s) none
        ∙ ap (λ (may : Bool). prefixed prefix (if may then next_life s else s)) (sym none)

    along_prefixed : (events : List Event) (w : World) (s : Steps) → HaveNoStart events →
        steps_along marks program w events (prefixed prefix s) ≡ prefixed prefix (steps_along marks program w events s)
    along_prefixed [] w s none = refl
    along_prefixed (event ∷ events) w s none =
        let first = first_stays event events none in
        ap (steps_along marks program (after_event program w event) events) (event_prefixed w event s (first.0 w))
        ∙ along_prefixed events (after_event program w event) (steps_after marks program w event s) first.1

-- the one account is the other with a prefix to what was begun; a start drops that
record IsPrefixed (s t : Steps) : Type 0 where
  prefix : List ℕ
  is : t ≡ prefixed prefix s

module _ (marks : List (List ℕ)) (program : List (List Slot)) where
  event_stays_prefixed : (prefix : List ℕ) (w : World) (event : Event) (s : Steps) →
      IsPrefixed (steps_after marks program w event s) (steps_after marks program w event (prefixed prefix s))
  unfolding steps_after
  event_stays_prefixed prefix w (Step h) s = record { prefix = prefix; is = event_prefixed prefix marks program w (Step h) s refl }
  event_stays_prefixed prefix w (Evict line mask) s = record { prefix = prefix; is = event_prefixed prefix marks program w (Evict line mask) s refl }
  event_stays_prefixed prefix w Crash s = record { prefix = prefix; is = event_prefixed prefix marks program w Crash s refl }
  event_stays_prefixed prefix w Start s = by (can_start w)
    where
      by : (may : Bool) → IsPrefixed (if may then next_life s else s) (if may then next_life (prefixed prefix s) else prefixed prefix s)
      by true = record { prefix = []; is = refl }
      by false = record { prefix = prefix; is = refl }

  along_stays_prefixed : (events : List Event) (w : World) (s t : Steps) → IsPrefixed s t →
      IsPrefixed (steps_along marks program w events s) (steps_along marks program w events t)
  along_stays_prefixed [] w s t same = same
  along_stays_prefixed (event ∷ events) w s t first =
      along_stays_prefixed events (after_event program w event) (steps_after marks program w event s) (steps_after marks program w event t)
      (subst (λ (z : Steps). IsPrefixed (steps_after marks program w event s) (steps_after marks program w event z)) (sym first.is)
      (event_stays_prefixed first.prefix w event s))

-- ---- The crash

module _ (c : Translation) (before : List Event) where
  has : HasLocks c.runs.log c.runs.program c.runs.mutexes (world c before)
  has = along c.runs.log c.runs.program c.runs.mutexes before (first_world c.runs) (at_start c.runs.log c.runs.program c.runs.mutexes c.runs.initial)

  crash_is : after_event c.runs.program (world c before) Crash ≡ first_from c (image_of c before)
  unfolding happens
  crash_is = ap₂ (λ (l : Log) (locks : ℕ). after_crash_of l c.runs.program locks (map durable_value (world c before).words)) has.log has.holders

  dropped_is : steps_after c.runs.marks c.runs.program (world c before) Crash (steps c before) ≡
      prefixed (steps c before).begun (first_steps (kept_lives (steps c before)))
  unfolding steps_after
  dropped_is =
      ap (λ (begun : List ℕ). let z : Steps = record (steps c before) { begun = begun; pending = [] } in z) (sym (append-nil (steps c before).begun))

  module _ (events : List Event) where
    world_same : world_from c (image_of c before) events ≡ world c (before ++ Crash ∷ events)
    world_same =
        sym (worlds_join c.runs.program before (Crash ∷ events) (first_world c.runs)
        ∙ ap (λ (w : World). after_events c.runs.program w events) crash_is)

    -- the account where power is lost then, in the words of the other one's beginning
    steps_join_here : steps c (before ++ Crash ∷ events)
        ≡ steps_along c.runs.marks c.runs.program (first_from c (image_of c before)) events
        (prefixed (steps c before).begun (first_steps (kept_lives (steps c before))))
    steps_join_here =
        steps_join c.runs.marks c.runs.program before (Crash ∷ events) (first_world c.runs) (first_steps (only_life []))
        ∙ ap₂ (λ (w : World) (s : Steps). steps_along c.runs.marks c.runs.program w events s) crash_is dropped_is

    steps_same : HaveNoStart events → prefixed (steps c before).begun (steps_from c (image_of c before) events) ≡ steps c (before ++ Crash ∷ events)
    steps_same none =
        sym (steps_join_here
        ∙ along_prefixed (steps c before).begun c.runs.marks c.runs.program events (first_from c (image_of c before))
        (first_steps (kept_lives (steps c before))) none)

    steps_prefixed : IsPrefixed (steps_from c (image_of c before) events) (steps c (before ++ Crash ∷ events))
    steps_prefixed =
        let first = first_steps (kept_lives (steps c before)) in
        subst (IsPrefixed (steps_from c (image_of c before) events)) (sym steps_join_here)
        (along_stays_prefixed c.runs.marks c.runs.program events (first_from c (image_of c before)) first (prefixed (steps c before).begun first)
        (record { prefix = (steps c before).begun; is = refl }))

    crashed : IsCrashed c before events
    crashed = record {
      world_is = world_same;
      begun_is = λ none. ap (λ (s : Steps). s.begun) (steps_same none);
      kept_is = sym (ap kept_lives steps_prefixed.is);
      pending_is = sym (ap (λ (s : Steps). s.pending) steps_prefixed.is);
    }

pub images_are_crashes : ImagesAreCrashes
images_are_crashes c before events = crashed c before events

-- ---- What is kept

pub images_are_resumed : KeptStepsGrow → SettledMachinesAreKept → ImagesAreResumed
images_are_resumed grow kept y s before events =
    let c = translation_of y in
    let same = crashed c before events in
    let all = kept y s (before ++ Crash ∷ events) in
    record {
      runs = subst (λ (lives : LifeSchedules). IsRunnable c (all_lives lives)) (sym same.kept_is) all.runs;
      grows = subst (λ (lives : LifeSchedules). BeginLives (all_lives lives) (schedules (steps c before))) (sym same.kept_is) (grow c before (Crash ∷ events));
      between = λ settled thread.
          ap (λ (lives : LifeSchedules). is_between (source c (all_lives lives)) thread) same.kept_is
          ∙ all.between (ap is_settled (sym same.world_is) ∙ settled) thread;
      variables = λ settled.
          ap (λ (w : World). durable_variables w.words c.flat.variables) same.world_is
          ∙ (all.variables (ap is_settled (sym same.world_is) ∙ settled)
          ∙ ap (λ (lives : LifeSchedules). (source c (all_lives lives)).variables) (sym same.kept_is));
    }
