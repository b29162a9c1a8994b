-- Lives that go on from a settled image: until another one begins nothing happens, and that one begins as after the kept schedules.
use Rattle.recovered_threads.specs.RecordDescriptions.{DescribesAs}
use Rattle.recovered_threads.specs.RecoveryStates.{Gathers}
use Rattle.log_states.specs.Logs.{Record}
use Rattle.std.proofs.Common.{◌≡◌, ◌≢◌, inl, inr, refl, ℕ, zero, suc, ◌+◌, ◌<◌, List, [], ◌∷◌, ◌++◌, length, map, ap, ap₂, arith, sym, ◌∙◌}
use Rattle.std.proofs.Common.{subst, ℤ, Bool, true, false, ◌&&◌, ◌==◌, Option, Some, None, slice_get, append-nil, length-append}
use Rattle.std.specs.Prelude.{if◌then◌else◌}
use Rattle.std.proofs.lemmas.Bool.{and_parts, cases_lt, true≢false}
use Rattle.std.proofs.lemmas.List.{length-replicate}
use Rattle.std.proofs.lemmas.Option.{same_Some, slice_get_within}
use Rattle.machine_events.specs.declared.event.Event.{Event}
use Rattle.machine_events.specs.declared.event.Event.TheVariants.{Step, Evict, Crash, Start}
use Rattle.ido_base.specs.Growth.{ArePersisted, IsPersisted}
use Rattle.ido_base.specs.Locks.{has_lock}
use Rattle.ido_base.specs.Words.{Word, durable_value, evicted, last_position, live_value, word_at, word_of}
use Rattle.ido_base.proofs.Public.{evictions_raise}
use Rattle.log_schemes.specs.declared.log.Log.{Log}
use Rattle.log_schemes.specs.Layout.{point_at}
use Rattle.log_schemes.specs.Schemes.{locks_read}
use Rattle.ido_base.specs.Layout.{word_number}
use Rattle.c_tree.specs.Flats as f
use Rattle.c_tree.specs.Source.{State, after_from, ended_from, is_between, runs_from, start}
use Rattle.source_machine.specs.Lives.{after_lives, are_between, begun_after, end_lives, ends_life, restart, runs_lives}
use Rattle.source_machine.proofs.Public.{after_life, runs_life}
use Rattle.machine_model.specs.declared.phase.Phase.{Phase}
use Rattle.machine_model.specs.declared.phase.Phase.TheVariants.{Take, Run, Done, Ended}
use Rattle.machine_model.specs.Machine.{Hart, World, after_crash_of, after_event, after_events, can_start, durable_point, fresh_hart, happens}
use Rattle.machine_model.specs.Machine.{is_settled, live_at, phase_after_crash, phase_step, record_of, recorded, reply_to, stepped}
use Rattle.machine_model.specs.Schedule.{LifeSchedules, Steps, all_lives, completing, effect_at, first_steps, has_moved, is_mark}
use Rattle.machine_model.specs.Schedule.{is_point_store, is_running, next_life, passes_mark, released_along, released_count, schedules, steps_after}
use Rattle.machine_model.specs.Schedule.{steps_along, stores_point, with_all_kept, with_kept, with_step}
use Rattle.recovered_threads.proofs.Public.{holds_none_is}
use Rattle.flow_graph.proofs.Public.{get_cases}
use Rattle.variable_words.specs.Variables.{durable_variables}
use Rattle.thread_runs.specs.Laws.{MarksPass, FragmentsGoOn}
use Rattle.region_attempts.specs.Origins.{Origin}
use Rattle.crash_simulation.specs.Systems.{System, IsSystem, flat_of, thread_count}
use Rattle.crash_simulation.specs.SimulationRelation.{Simulates}
use Rattle.crash_simulation.specs.AccountRelation.{Beginning, SimulatesLives, beginning_after, first_beginning, next_beginning}
use Rattle.crash_simulation.specs.InstructionSteps.{FragmentsStep, CoresStep, LocalStoresStep}
use Rattle.crash_simulation.specs.InstructionSteps.{is_leaving}
use Rattle.crash_simulation.specs.RecoveredWords.{IsRecoveredFrom, RecoveredAreCounted}
use Rattle.crash_simulation.specs.ReleasedSections.{IsReleasedOf, sections_kept}
use Rattle.crash_simulation.specs.ReleasedSections as releasing
use Rattle.crash_simulation.proofs.Public.{and_none, at_most_one, begins_at, counted_by, earlier_after, event_goes_on, from_after, kept_after, life_begins}
use Rattle.crash_simulation.proofs.Public.{not_there, released_by, resumed, row_of, schedule_is}
use Rattle.compiler_correctness.specs.Translations.{Translation, IsRunnable, source, source_at}
use Rattle.compiler_correctness.specs.Compilation.{AreRecords, IsInStep, IsOn, ThreadHolds}
use Rattle.compiler_correctness.specs.Images.{Image, first_from, steps_from, world_from}
use Rattle.compiler_correctness.specs.Laws.{SettledImagesGoOn, translation_of}
use Rattle.compiler_correctness.specs.SettledImages.{AreSectionsWithin, IsSettledImage}
use Rattle.compiler_correctness.proofs.AbstractRunAccount.{kept_between, kept_is, kept_runs, settled_variables}
use Rattle.compiler_correctness.proofs.KeptSchedulePrefix.{along_lives}
use Rattle.compiler_correctness.proofs.MachineLockstep.{Going, begins_in_step, begun_none, each_going, in_step_at, nothing_starts, steps_stay}
use Rattle.compiler_correctness.proofs.Records.{records_at}

-- ---- Words without a past

no_past : (ws : List ℕ) (j : ℕ) → (x : ℕ) × (word_at (map word_of ws) j ≡ word_of x)
no_past [] j = (0, refl)
no_past (w ∷ ws) zero = (w, refl)
no_past (w ∷ ws) (suc j) = no_past ws j

-- such a word is the same where more of it is durable
persisted_same : (old new : Word) (x : ℕ) → IsPersisted old new → old ≡ word_of x → new ≡ old
persisted_same old new x r is =
    let last : last_position old ≡ 0 = ap last_position is in
    let durable : old.durable ≡ 0 = ap (λ (u : Word). u.durable) is in
    let no_higher = r.no_higher (omega (arith, durable)) in
    ap₂ (λ (values : List ℕ) (position : ℕ). let u : Word = record { values = values; durable = position } in u) r.values
    (omega (arith, no_higher, last, durable))

same_words : (xs ys : List Word) → length xs ≡ length ys → ((j : ℕ) → word_at xs j ≡ word_at ys j) → xs ≡ ys
same_words [] [] size each = refl
same_words [] (y ∷ ys) size each = absurd (omega (arith, size))
same_words (x ∷ xs) [] size each = absurd (omega (arith, size))
same_words (x ∷ xs) (y ∷ ys) size each = λ i. each 0 i ∷ same_words xs ys (omega (arith, size)) (λ j. each (suc j)) i

evicted_same : (ws : List ℕ) (line mask : ℕ) → evicted (map word_of ws) line mask ≡ map word_of ws
evicted_same ws line mask =
    let r : ArePersisted (map word_of ws) (evicted (map word_of ws) line mask) = evictions_raise (map word_of ws) line mask in
    same_words (evicted (map word_of ws) line mask) (map word_of ws) r.size (λ j.
    let past = no_past ws j in
    persisted_same (word_at (map word_of ws) j) (word_at (evicted (map word_of ws) line mask) j) past.0 (r.each j) past.1)

durable_same : (ws : List ℕ) → map durable_value (map word_of ws) ≡ ws
durable_same [] = refl
durable_same (w ∷ ws) = ap (λ (rest : List ℕ). w ∷ rest) (durable_same ws)

live_same : (ws : List ℕ) (j : ℕ) → live_value (word_at (map word_of ws) j) ≡ durable_value (word_at (map word_of ws) j)
live_same ws j = let past = no_past ws j in ap live_value past.1 ∙ sym (ap durable_value past.1)

-- ---- An account with nothing pending

module _ (kept : LifeSchedules) where
  abbrev before : Steps
  before = first_steps kept

  all_keep_none : (log : Log) (ws : List Word) (count : ℕ) → with_all_kept log ws count before ≡ before
  all_keep_none log ws zero = refl
  all_keep_none log ws (suc h) = ap (with_kept log ws h) (all_keep_none log ws h) ∙ (λ i. record before { kept = append-nil before.kept i })

-- ---- The source after the schedules

between_all : (s : State) (count : ℕ) → ((thread : ℕ) → is_between s thread ≡ true) → are_between s count ≡ true
between_all s zero each = refl
between_all s (suc n) each = ap₂ (λ (a b : Bool). a && b) (between_all s n each) (each n)

module _ (x : f.Flat) where
  ends_both : (s : State) (earlier : List (List ℕ)) (last : List ℕ) → end_lives x s earlier ≡ true → ends_life (begun_after x s earlier) last ≡ true →
      end_lives x s (earlier ++ last ∷ []) ≡ true
  ends_both s [] last all one = ap (λ (b : Bool). b && true) one
  ends_both s (schedule ∷ rest) last all one =
      let t : State = restart x (after_from s schedule) in
      let parts = and_parts (ends_life s schedule) (end_lives x t rest) all in
      ap₂ (λ (a b : Bool). a && b) parts.0 (ends_both t rest last parts.1 one)

  begun_last : (s : State) (earlier : List (List ℕ)) (last : List ℕ) →
      begun_after x s (earlier ++ last ∷ []) ≡ restart x (after_from (begun_after x s earlier) last)
  begun_last s [] last = refl
  begun_last s (schedule ∷ rest) last = begun_last (restart x (after_from s schedule)) rest last

  module _ (kept : LifeSchedules) (runs : runs_lives x (start x) (all_lives kept) ≡ true)
      (between : (thread : ℕ) → is_between (after_lives x (start x) (all_lives kept)) thread ≡ true) where
    abbrev begun : State
    begun = begun_after x (start x) kept.earlier

    parts : (end_lives x (start x) kept.earlier ≡ true) × (runs_from begun kept.schedule ≡ true)
    parts =
        and_parts (end_lives x (start x) kept.earlier) (runs_from begun kept.schedule) (sym (runs_life x (start x) kept.earlier kept.schedule) ∙ runs)

    after_is : after_lives x (start x) (all_lives kept) ≡ after_from begun kept.schedule
    after_is =
        after_life x (start x) kept.earlier kept.schedule
        ∙ ap (λ (b : Bool). if b then after_from begun kept.schedule else after_lives x (start x) kept.earlier) parts.0

    all_end : end_lives x (start x) (all_lives kept) ≡ true
    all_end =
        ends_both (start x) kept.earlier kept.schedule parts.0
        (ap₂ (λ (a b : Bool). a && b) parts.1
        (between_all (after_from begun kept.schedule) (length begun.threads) (λ thread.
        ap (λ (z : State). is_between z thread) (sym after_is) ∙ between thread)))

    next_begins : begun_after x (start x) (all_lives kept) ≡ restart x (after_lives x (start x) (all_lives kept))
    next_begins = begun_last (start x) kept.earlier kept.schedule ∙ ap (restart x) (sym after_is)

-- ---- Lists that add nothing

none_more : {A : Type 0} (xs ys : List A) → xs ≡ xs ++ ys → ys ≡ []
none_more xs [] is = refl
none_more xs (y ∷ ys) is = let long = length-append xs (y ∷ ys) in absurd (let same = ap length is in omega (arith, long, same))

none_long : {A : Type 0} (xs : List A) → length xs ≡ 0 → xs ≡ []
none_long [] none = refl
none_long (x ∷ xs) none = absurd (omega (arith, none))

more_earlier : (y : System) (g : Beginning) (lives : List (List ℕ)) → length (beginning_after y g lives).earlier ≡ length g.earlier + length lives
more_earlier y g [] = omega arith
more_earlier y g (one ∷ rest) =
    let next = more_earlier y (next_beginning y g one) rest in
    let long = length-append g.earlier ((g.kept ++ one) ∷ []) in
    omega (arith, next, long)

-- ---- The machine that begins with the image

module _ (y : System) (s : IsSystem y) (o : Origin (flat_of y)) (image : Image) (from : IsRecoveredFrom y s o image.words)
    (settled : IsSettledImage (translation_of y) image) (counted : RecoveredAreCounted) where
  abbrev c : Translation
  c = translation_of y

  abbrev kept : LifeSchedules
  kept = image.kept

  abbrev w0 : World
  w0 = first_from c image

  abbrev s0 : Steps
  s0 = first_steps kept

  abbrev g0 : Beginning
  g0 = record { from = o.source; earlier = kept.earlier; kept = kept.schedule }

  abbrev releases : ℕ → ℕ
  releases n = 0

  abbrev fresh : ℕ → Hart
  fresh h = fresh_hart y.runs.program (phase_after_crash (durable_point y.runs.log (map word_of image.words) h)) h

  found : (h : ℕ) → h < length y.runs.program → slice_get w0.harts h ≡ Some (fresh (0 + h))
  unfolding after_crash_of
  found h below = row_of fresh 0 (length y.runs.program) h below

  -- no thread is late, since none has a point
  on_time : (n : ℕ) → n < thread_count y → from.recovers.lates n ≡ false
  on_time n below =
      let inside : n < length y.runs.program = omega (arith, below, s.count) in
      let zeroth : 0 + n ≡ n = omega arith in
      by (from.recovers.lates n) (from.recovers.records n) (from.recovers.describe n below)
      (subst (Gathers w0 n (from.recovers.records n)) (ap (λ (k : ℕ). (fresh k).phase) zeroth ∙ ap phase_after_crash (settled.points n inside))
      (from.recovers.gathering.each n (fresh (0 + n)) (found n inside)))
    where
      by : (late : Bool) (r : Record) → DescribesAs y.plan (s.codes.each n below) o.flow late r → r.point ≡ 0 → late ≡ false
      by false r describes none = refl
      by true r past none = absurd (past.point none)

  abbrev z0 : SimulatesLives y s g0 w0 s0 releases
  z0 = counted y s o image.words kept from on_time []

  abbrev stands : Simulates y s w0
  stands = z0.is.stands

  words_are : w0.words ≡ map word_of image.words
  unfolding after_crash_of
  words_are = refl

  log_is : w0.log ≡ y.runs.log
  unfolding after_crash_of
  log_is = refl

  recovers : w0.recovering ≡ true
  unfolding after_crash_of
  recovers = refl

  no_point : (h : ℕ) → h < length y.runs.program → durable_point w0.log w0.words h ≡ 0
  no_point h below = ap₂ (λ (l : Log) (ws : List Word). durable_point l ws h) log_is words_are ∙ settled.points h below

  no_live_point : (h : ℕ) → h < length y.runs.program → live_at w0.words (point_at w0.log h) ≡ 0
  no_live_point h below =
      ap (λ (ws : List Word). live_at ws (point_at w0.log h)) words_are ∙ live_same image.words (word_number (point_at w0.log h))
      ∙ ap (λ (ws : List Word). durable_value (word_at ws (word_number (point_at w0.log h)))) (sym words_are) ∙ no_point h below

  below_of : (h : ℕ) (hart : Hart) → slice_get w0.harts h ≡ Some hart → h < length y.runs.program
  below_of h hart there =
      let inside = slice_get_within w0.harts h hart there in
      let count = stands.machine.count in
      omega (arith, inside, count, s.count)

  -- each hart is done
  done : (h : ℕ) (hart : Hart) → slice_get w0.harts h ≡ Some hart → hart.phase ≡ Done
  done h hart there =
      let below = below_of h hart there in
      ap (λ (z : Hart). z.phase) (same_Some hart (fresh (0 + h)) (sym there ∙ found h below))
      ∙ ap phase_after_crash (settled.points (0 + h) (omega (arith, below)))

  -- ---- Nothing happens

  stepped_by : (hart : Hart) (h : ℕ) → slice_get w0.harts h ≡ Some hart → hart.phase ≡ Done → after_event y.runs.program w0 (Step h) ≡ w0
  unfolding happens
  stepped_by hart h there is =
      ap (λ (found : Option Hart). (stepped y.runs.program w0 h found).0) there
      ∙ ap (λ (phase : Phase). (phase_step y.runs.program w0 h hart phase).0) is

  steps_nothing : (h : ℕ) → after_event y.runs.program w0 (Step h) ≡ w0
  steps_nothing h = elim (get_cases w0.harts h) [
    | inl missing ↦ sym (not_there y w0 h missing)
    | inr there ↦ stepped_by there.0 h there.1 (done h there.0 there.1)
  ]

  evicts_nothing : (line mask : ℕ) → after_event y.runs.program w0 (Evict line mask) ≡ w0
  unfolding happens
  evicts_nothing line mask =
      ap (λ (ws : List Word). let v : World = record w0 { words = ws } in v)
      (ap (λ (ws : List Word). evicted ws line mask) words_are ∙ evicted_same image.words line mask ∙ sym words_are)

  loses_nothing : after_event y.runs.program w0 Crash ≡ w0
  unfolding happens after_crash_of
  loses_nothing =
      ap₂ (after_crash_of y.runs.log y.runs.program) (length-replicate y.runs.mutexes (let none : Option ℕ = None in none)) (durable_same image.words)

  abbrev completing_if : (h : ℕ) → Hart → Bool → Option Hart
  completing_if h hart runs = if runs && has_moved (reply_to y.runs.program w0 (Step h)) then Some hart else None

  abbrev completing_of : (h : ℕ) → Option Hart → Option Hart
  completing_of h found = elim found [
    | Some hart ↦ completing_if h hart (is_running hart.phase)
    | None ↦ None
  ]

  completes_nothing : (h : ℕ) → completing y.runs.program w0 h ≡ None
  completes_nothing h = elim (get_cases w0.harts h) [
    | inl missing ↦ ap (completing_of h) missing
    | inr there ↦ ap (completing_of h) there.1 ∙ ap (completing_if h there.0) (ap is_running (done h there.0 there.1))
  ]

  abbrev mark_of : (h : ℕ) → Option Hart → Bool
  mark_of h found = elim found [
    | Some hart ↦ is_mark y.runs.marks h hart.pc
    | None ↦ false
  ]

  no_mark : (h : ℕ) → passes_mark y.runs.marks y.runs.program w0 h ≡ false
  no_mark h = ap (mark_of h) (completes_nothing h)

  abbrev store_of : (h : ℕ) → Option Hart → Bool
  store_of h found = (h == h) && elim found [
    | None ↦ false
    | Some hart ↦ elim (effect_at y.runs.program h hart) [
      | None ↦ false
      | Some effect ↦ is_point_store w0.log h effect
    ]
  ]

  no_store : (h : ℕ) → stores_point y.runs.program w0 (Step h) h ≡ false
  no_store h = ap (store_of h) (completes_nothing h) ∙ and_none (h == h)

  accounts_nothing : (h : ℕ) → with_step y.runs.marks y.runs.program w0 h s0 ≡ s0
  accounts_nothing h =
      let position = last_position (word_at (after_event y.runs.program w0 (Step h)).words (word_number (point_at w0.log h))) in
      ap₂ (λ (begun points : Bool). counted_by begun points h position s0) (no_mark h) (no_store h)

  abbrev account : Event → Steps
  account event = steps_after y.runs.marks y.runs.program w0 event s0

  step_account : (h : ℕ) → account (Step h) ≡ s0
  unfolding steps_after
  step_account h =
      let ws = (after_event y.runs.program w0 (Step h)).words in
      ap (λ (z : Steps). with_all_kept w0.log ws (length y.runs.program) z) (accounts_nothing h)
      ∙ all_keep_none kept w0.log ws (length y.runs.program)

  evict_account : (line mask : ℕ) → account (Evict line mask) ≡ s0
  unfolding steps_after
  evict_account line mask =
      all_keep_none kept w0.log (after_event y.runs.program w0 (Evict line mask)).words (length y.runs.program)

  crash_account : account Crash ≡ s0
  unfolding steps_after
  crash_account = refl

  next_account : can_start w0 ≡ true → account Start ≡ next_life s0
  unfolding steps_after
  next_account may = ap (λ (b : Bool). if b then next_life s0 else s0) may

  -- ---- Another life begins

  module _ (fragments_step : FragmentsStep) (cores_step : CoresStep) (local_stores_step : LocalStoresStep) (law : FragmentsGoOn) where
    no_lives : z0.lives ≡ []
    no_lives =
        let long = more_earlier y g0 z0.lives in
        let same = ap length z0.is.counted.earlier in
        none_long z0.lives (omega (arith, long, same))

    no_schedule : stands.abstract.schedule ≡ []
    no_schedule =
        none_more kept.schedule stands.abstract.schedule
        (z0.is.counted.kept ∙ ap (λ (lives : List (List ℕ)). (beginning_after y g0 lives).kept ++ stands.abstract.schedule) no_lives)

    module _ (may : can_start w0 ≡ true) where
      abbrev v : World
      v = after_event y.runs.program w0 Start

      abbrev s1 : Steps
      s1 = account Start

      abbrev r1 : ℕ → ℕ
      r1 = released_by y.runs.program w0 Start releases

      abbrev z1 : SimulatesLives y s g0 v s1 r1
      z1 = life_begins fragments_step cores_step local_stores_step law y s w0 Start s0 releases may z0

      abbrev first : Beginning
      first = first_beginning y

      abbrev x : f.Flat
      x = flat_of y

      abbrev then_stands : Simulates y s v
      then_stands = (event_goes_on fragments_step cores_step local_stores_step law y s w0 Start stands).next

      lives_then : z1.lives ≡ [] ∷ []
      lives_then = ap₂ (λ (lives : List (List ℕ)) (schedule : List ℕ). lives ++ schedule ∷ []) no_lives no_schedule

      variables_same : o.source.variables ≡ (source c (all_lives kept)).variables
      variables_same = sym from.variables ∙ settled.variables

      begins : then_stands.abstract.origin.source ≡ (beginning_after y first (all_lives kept)).from
      begins =
          z1.is.counted.begins ∙ from_after y g0 z1.lives ∙ ap (begun_after x o.source) lives_then
          ∙ ap (λ (numbers : List (List ℤ)). let z : State = record (start x) { variables = numbers } in z) variables_same
          ∙ sym (next_begins x kept settled.runs settled.between) ∙ sym (from_after y first (all_lives kept))

      same_releases : (r : ℕ → ℕ) → r1 ≡ released_by y.runs.program w0 Start r
      same_releases r = λ i n.
          (ap (λ (b : Bool). if b then 0 else releases n + 0) may ∙ sym (ap (λ (b : Bool). if b then 0 else r n + 0) may)) i

      no_schedule_then : then_stands.abstract.schedule ≡ []
      no_schedule_then =
          let is = z1.is.counted.kept in
          let none : s1.kept ≡ [] = ap (λ (z : Steps). z.kept) (next_account may) in
          let long = length-append (beginning_after y g0 z1.lives).kept then_stands.abstract.schedule in
          none_long then_stands.abstract.schedule (omega (arith, long, ap length is, ap length none))

      abbrev carried : SimulatesLives y s first v s1 r1
      carried = record {
        lives = all_lives kept;
        ended = all_end x kept settled.runs settled.between;
        is = record {
          stands = then_stands;
          counted = record {
            begins = begins;
            earlier = ap (λ (z : Steps). z.earlier) (next_account may) ∙ sym (earlier_after y first (all_lives kept) refl);
            kept =
                ap (λ (z : Steps). z.kept) (next_account may)
                ∙ sym (ap₂ (λ (a b : List ℕ). a ++ b) (kept_after y first (all_lives kept) refl) no_schedule_then);
            pending = z1.is.counted.pending;
            each = z1.is.counted.each;
            beyond = z1.is.counted.beyond;
          };
        };
      }

      -- whatever was counted of releases before
      goes_then : (r : ℕ → ℕ) → Going y s v s1 (released_by y.runs.program w0 Start r)
      goes_then r =
          let o = event_goes_on fragments_step cores_step local_stores_step law y s w0 Start stands in
          subst (λ (counts : ℕ → ℕ). Going y s v s1 counts) (same_releases r)
          (record { carried = carried; in_step = λ none. begins_in_step y s v s1 r1 carried (o.anew may) (begun_none y w0 s0 may) })

    -- ---- Along events

    data CarriesOn (w : World) (steps : Steps) (r : ℕ → ℕ) : Type 0 where
      idles : w ≡ w0 → steps ≡ s0 → CarriesOn w steps r
      goes : Going y s w steps r → CarriesOn w steps r

    abbrev CarriesOnThen : Event → (r : ℕ → ℕ) → Type 0
    CarriesOnThen event r = CarriesOn (after_event y.runs.program w0 event) (account event) (released_by y.runs.program w0 event r)

    begins_by : (r : ℕ → ℕ) (may : Bool) → can_start w0 ≡ may → CarriesOnThen Start r
    begins_by r true may = goes (goes_then may r)
    begins_by r false none = idles (nothing_starts y.runs.program w0 none) (steps_stay y w0 s0 none)

    first_event : (event : Event) (r : ℕ → ℕ) → CarriesOnThen event r
    first_event (Step h) r = idles (steps_nothing h) (step_account h)
    first_event (Evict line mask) r = idles (evicts_nothing line mask) (evict_account line mask)
    first_event Crash r = idles loses_nothing crash_account
    first_event Start r = begins_by r (can_start w0) refl

    next_event : (event : Event) (w : World) (steps : Steps) (r : ℕ → ℕ) → CarriesOn w steps r →
        CarriesOn (after_event y.runs.program w event) (steps_after y.runs.marks y.runs.program w event steps) (released_by y.runs.program w event r)
    next_event event w steps r (idles here same) =
        coe 0 1 (i. CarriesOn (after_event y.runs.program ((sym here) i) event) (steps_after y.runs.marks y.runs.program ((sym here) i) event ((sym same) i))
        (released_by y.runs.program ((sym here) i) event r)) (first_event event r)
    next_event event w steps r (goes going) = goes (each_going fragments_step cores_step local_stores_step law y s w steps r going event)

    along : (events : List Event) (w : World) (steps : Steps) (r : ℕ → ℕ) → CarriesOn w steps r →
        CarriesOn (after_events y.runs.program w events) (steps_along y.runs.marks y.runs.program w events steps)
        (λ n. released_along y.runs.program w events n (r n))
    along [] w steps r carries = carries
    along (event ∷ events) w steps r carries =
        along events (after_event y.runs.program w event) (steps_after y.runs.marks y.runs.program w event steps) (released_by y.runs.program w event r)
        (next_event event w steps r carries)

    -- ---- What is so until another life begins

    no_record : (h : ℕ) → h < length y.runs.program → record_of w0.log w0.words h ≡ []
    no_record h below = ap (λ (point : ℕ). if point == 0 then [] else locks_read w0.log (recorded w0.log w0.words h)) (no_point h below)

    holds_none_now : (h lock : ℕ) → ThreadHolds (source c (all_lives kept)) h lock → ⊥
    holds_none_now h lock held = holds_none_is h (source c (all_lives kept)).holders lock (settled.between h) held

    not_on : (hart : Hart) → hart.phase ≡ Done → IsOn hart → ⊥
    not_on hart is (inl runs) = let both : Done ≡ Run = sym is ∙ runs in cc
    not_on hart is (inr ended) = let both : Done ≡ Ended = sym is ∙ ended in cc

    not_taking : (hart : Hart) → hart.phase ≡ Done → hart.phase ≡ Take → ⊥
    not_taking hart is takes = let both : Done ≡ Take = sym is ∙ takes in cc

    idle_records : AreRecords c w0 s0
    idle_records = record {
      kept = settled.runs;
      now_runs =
          ap (λ (schedule : List ℕ). runs_lives (flat_of y) (start (flat_of y)) (kept.earlier ++ schedule ∷ [])) (append-nil kept.schedule) ∙ settled.runs;
      each = λ h hart there.
          let below = below_of h hart there in
          let is = done h hart there in
          let none : (lock : ℕ) → has_lock (record_of w0.log w0.words h) lock ≡ false =
          λ lock. ap (λ (locks : List ℕ). has_lock locks lock) (no_record h below) in
          record {
            locks_agree = λ on. absurd (not_on hart is on);
            record_is = λ lock. (λ has. absurd (true≢false (sym has ∙ none lock)), λ held. absurd (holds_none_now h lock held));
            apart = λ g lock gb other has. absurd (true≢false (sym has ∙ none lock));
            takes = λ taking. absurd (not_taking hart is taking);
            live_point = λ some. absurd (some (no_live_point h below));
            durable_point_names = λ some. absurd (some (no_point h below));
          };
    }

    idle_variables : durable_variables w0.words (flat_of y).variables ≡ (source c (all_lives kept)).variables
    idle_variables = ap (λ (ws : List Word). durable_variables ws (flat_of y).variables) words_are ∙ settled.variables

    -- ---- All of it

    module _ (marks : MarksPass) (w : World) (steps : Steps) (r : ℕ → ℕ) where
      in_step : CarriesOn w steps r → w.recovering ≡ false → IsInStep c w steps
      in_step (idles here same) none = absurd (true≢false (sym recovers ∙ (sym (ap (λ (z : World). z.recovering) here) ∙ none)))
      in_step (goes going) none = in_step_at marks y s w steps r going none

      records : CarriesOn w steps r → AreRecords c w steps
      records (idles here same) = coe 0 1 (i. AreRecords c ((sym here) i) ((sym same) i)) idle_records
      records (goes going) = records_at marks y s w steps going.carried

      runs : CarriesOn w steps r → IsRunnable c (schedules steps)
      runs (idles here same) = ap (λ (z : Steps). runs_lives (flat_of y) (start (flat_of y)) (schedules z)) same ∙ settled.runs
      runs (goes going) = kept_runs y s w steps going.carried

      between : CarriesOn w steps r → is_settled w ≡ true → (thread : ℕ) → is_between (source c (schedules steps)) thread ≡ true
      between (idles here same) at_rest thread = ap (λ (z : Steps). is_between (source c (schedules z)) thread) same ∙ settled.between thread
      between (goes going) at_rest thread =
          ap (λ (z : State). is_between z thread) (kept_is y s w steps going.carried) ∙ kept_between y s w going.carried.is.stands at_rest thread

      variables : CarriesOn w steps r → is_settled w ≡ true →
          durable_variables w.words (flat_of y).variables ≡ (source c (schedules steps)).variables
      variables (idles here same) at_rest =
          ap (λ (z : World). durable_variables z.words (flat_of y).variables) here ∙ idle_variables
          ∙ ap (λ (z : Steps). (source c (schedules z)).variables) (sym same)
      variables (goes going) at_rest =
          settled_variables y s w going.carried.is.stands at_rest
          ∙ ap (λ (z : State). z.variables) ((resumed y s going.carried.is.stands.abstract).resumed.kept.is ∙ sym (kept_is y s w steps going.carried))

      near_of : (n : ℕ) → n < thread_count y → (going : Going y s w steps r) →
          AreSectionsWithin (r n) (sections_kept y going.carried.is.stands.abstract n)
      near_of n below going = by (going.carried.is.counted.each n below).released
        where
          by : IsReleasedOf y w going.carried.is.stands.abstract n (going.carried.is.stands.ghosts n) (r n) →
              AreSectionsWithin (r n) (sections_kept y going.carried.is.stands.abstract n)
          by (releasing.in_step is) = let one = at_most_one (is_leaving (going.carried.is.stands.ghosts n)) in (omega (arith, is), omega (arith, is, one))
          by (releasing.cut_off done is) = (omega (arith, is), omega (arith, is))

      sections : CarriesOn w steps r → steps.earlier ≢ kept.earlier → (h : ℕ) →
          AreSectionsWithin (r h) (ended_from (source_at c steps.earlier) steps.kept h)
      sections (idles here same) more h = absurd (more (ap (λ (z : Steps). z.earlier) same))
      sections (goes going) more h =
          let z = going.carried in
          let near : AreSectionsWithin (r h) (sections_kept y z.is.stands.abstract h) = elim (cases_lt h (thread_count y)) [
            | inl below ↦ near_of h below going
            | inr beyond ↦ let same = z.is.counted.beyond h beyond in (omega (arith, same), omega (arith, same))
          ] in
          subst (AreSectionsWithin (r h))
          (ap₂ (λ (state : State) (schedule : List ℕ). ended_from state schedule h) (begins_at y s w steps z) (sym (schedule_is y s w steps z))) near

pub settled_images_go_on : RecoveredAreCounted → MarksPass → FragmentsStep → CoresStep → LocalStoresStep → FragmentsGoOn → SettledImagesGoOn
settled_images_go_on counted marks fragments_step cores_step local_stores_step law y s o image from settled events =
    let c = translation_of y in
    let w = world_from c image events in
    let account = steps_from c image events in
    let r = λ (n : ℕ). released_count y.runs.program (first_from c image) events n in
    let carries = along y s o image from settled counted fragments_step cores_step local_stores_step law events _ _ (λ n. 0) (idles refl refl) in
    record {
      in_step = in_step y s o image from settled counted fragments_step cores_step local_stores_step law marks w account r carries;
      records = records y s o image from settled counted fragments_step cores_step local_stores_step law marks w account r carries;
      resumed = record {
        runs = runs y s o image from settled counted fragments_step cores_step local_stores_step law marks w account r carries;
        grows = along_lives y.runs.marks y.runs.program events (first_from c image) (first_steps image.kept);
        between = between y s o image from settled counted fragments_step cores_step local_stores_step law marks w account r carries;
        variables = variables y s o image from settled counted fragments_step cores_step local_stores_step law marks w account r carries;
      };
      sections = sections y s o image from settled counted fragments_step cores_step local_stores_step law marks w account r carries;
    }
