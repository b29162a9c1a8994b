-- What `recover` says of an image that `upgrade` wrote.
use Rattle.std.proofs.Common.{◌≡◌, Bool, ℕ, ◌+◌, ◌*◌, ◌<◌, ◌≤◌, Option, List, [], ◌∷◌, ◌++◌, length, map, take, drop, Some, None, true, false}
use Rattle.std.proofs.Common.{refl, ap, ap₂, sym, subst, ◌∙◌, arith, Ok, Err, ℤ}
use Rattle.std.specs.Prelude.{◌==◌, ◌&&◌, if◌then◌else◌, nat_lt, sum_by}
use Rattle.std.proofs.lemmas.Bool.{ltb-false}
use Rattle.std.proofs.lemmas.List.{length-map, length-replicate, length-take-le}
use Rattle.std.proofs.lemmas.Option.{none-some}
use Rattle.machine_events.specs.declared.event.Event.{Event}
use Rattle.machine_events.specs.declared.event.Event.TheVariants.{Step, Evict, Crash, Start}
use Rattle.ido_base.specs.declared.limits.TheConstants.{MOST_STEPS, VARIABLE_WORDS}
use Rattle.log_schemes.specs.declared.log.Log.{Log}
use Rattle.log_schemes.specs.declared.size.LogSize.{LogSize}
use Rattle.log_schemes.specs.declared.size.LogSize.TheVariants.{Lines16, Lines32}
use Rattle.log_schemes.specs.Schemes.{lines_of, size_of as log_size}
use Rattle.flat_compile.specs.TranslatedForms.{command_log}
use Rattle.ido_base.specs.declared.place.Place.{Place}
use Rattle.ido_base.specs.Layout.{aligned_up, end_from, spread_words, variable_lines}
use Rattle.log_schemes.specs.Layout.{log_words, word_count}
use Rattle.ido_base.specs.Words.{durable_value, word_of}
use Rattle.c_tree.specs.declared.rule.Rule.{Rule}
use Rattle.c_tree.specs.Flats.{Flat, flat_of}
use Rattle.c_tree.specs.Source.{is_between, start}
use Rattle.c_tree.specs.WellFormed.{shape_of}
use Rattle.source_machine.specs.Lives.{after_lives, ended_lives, runs_lives}
use Rattle.machine_model.specs.Frames.{IsWellFormedWorld}
use Rattle.machine_model.specs.Machine.{World, after_crash_of, durable_point, is_settled}
use Rattle.log_schemes.specs.Schemes.{numbers_from}
use Rattle.rv64_isa.specs.Programs.{slot_of}
use Rattle.machine_model.specs.Schedule.{all_lives, schedules}
use Rattle.machine_model.proofs.Public.{crashes_simulate}
use Rattle.flow_graph.specs.Lowering.{lowered}
use Rattle.file_fields.specs.Fields.{Fault, ◌>>=◌}
use Rattle.file_fields.proofs.Public.{bind_ok, ok_is}
use Rattle.variable_words.specs.Variables.{durable_variables}
use Rattle.hart_driver.specs.Legs.{IsLeg, IsTurn, Leg, has_ended, made, stop_of}
use Rattle.hart_driver.specs.declared.stop.Stop.{Stop}
use Rattle.hart_driver.specs.declared.stop.Stop.TheVariants.{Ended, Moment, Turns}
use Rattle.compiler_correctness.specs.Images as files
use Rattle.compiler_correctness.specs.Images.{IsResumedAsKept, first_from, image_in, steps_from, variable_words, world_from}
use Rattle.compiler_correctness.specs.Laws.{ImagesAreCrashes}
use Rattle.compiler_correctness.specs.SettledImages.{IsSettledImage}
use Rattle.compiler_correctness.specs.Translations.{Translation, world}
use Rattle.image_runs.specs.Laws.{AcceptedGoOn}
use Rattle.run_scripts.specs.Reports as r
use Rattle.ido_compile.specs.declared.compiler.Compiled.{Compiled}
use Rattle.ido_compile.specs.CompileAnswers.{IsCompiledAs, translation_in}
use Rattle.ido_compile.specs.LoggedTexts.{IsRefusedAs}
use Rattle.ido_compile.specs.Verdicts.{NotBoth, OneFlat}
use Rattle.crash_images.specs.Contents.{Contents, State, log_of, word_bytes}
use Rattle.crash_images.specs.ImageDecoder.{IsReadAs, image_at, logs_at, source_at, state_at, variables_at, version_in}
use Rattle.crash_images.specs.declared.version.ImageVersion.{ImageVersion}
use Rattle.crash_images.specs.declared.version.ImageVersion.TheVariants.{Second, Third, Fourth}
use Rattle.crash_images.proofs.Public.{source_version, state_in_parts}
use Rattle.image_checks.specs.declared.error.ImageError.{ImageError}
use Rattle.image_checks.specs.declared.error.ImageError.TheVariants as e
use Rattle.image_checks.specs.Checks.{IsStateFault}
use Rattle.image_checks.specs.Laws.{RunsLeaveReferences}
use Rattle.image_checks.specs.RunImages.{left_by}
use Rattle.image_checks.specs.Schedules.{schedules_of}
use Rattle.image_checks.specs.VariableReferences.{AreReferences}
use Rattle.image_checks.proofs.Public.{idle_state_sound, none_if_sound, told_again}
use Rattle.ido_cli.specs.declared.compiled_image.Image.{Image}
use Rattle.ido_cli.specs.Answers.{RecoverAnswer, file_in, no_image, of_image}
use Rattle.ido_cli.specs.CompiledImages.{BeginsCompiled, HasState, IsFaultAfter, IsImage, IsImageAnswer, no_source, no_state, no_version, refused, size_of}
use Rattle.ido_cli.specs.CompiledImages.{threads_of, unsound, whole}
use Rattle.ido_cli.specs.CompiledImages as answers
use Rattle.ido_cli.specs.Laws.{UpgradesAreRecovered, UpgradesGoOn}
use Rattle.run_tracker.specs.ObjectLives.{LifeConfig, is_stopped}
use Rattle.ido_cli.specs.Recoveries.{IsRecovery, recovering}
use Rattle.ido_cli.specs.Refusals.{image_line}
use Rattle.ido_cli.specs.Reports.{machine_state, unsettled_harts}
use Rattle.ido_cli.specs.Runs.{IsReport, named}
use Rattle.ido_cli.specs.ThreadedRuns.{leg_after}
use Rattle.ido_cli.specs.Upgrades.{IsUpgradeSaid, idle_logs, renewed, renewed_contents, too_long, unfinished}
use Rattle.ido_cli.proofs.CompiledLimits.{ready}
use Rattle.ido_cli.proofs.IdleWorlds.{all_settled, all_stopped, own_stays, point_is}
use Rattle.ido_cli.proofs.PlayedRuns.{has_room, sound_along}
use Rattle.ido_cli.proofs.RecoveredRuns.{accepted_goes_on, spread_size, words_in}
use Rattle.ido_cli.proofs.RunImageAnswers.{initial_size, none_after, not_both_ways, one_after, thread_number}
use Rattle.ido_cli.proofs.SameVariables.{same_variables}
use Rattle.ido_cli.proofs.SettledReports.{none_by_settled, none_by_status, settled_by_none}
use Rattle.ido_cli.proofs.UpgradedImages.{take_first}

-- ---- A leg whose harts have all stopped before it

is_below : (h n : ℕ) → h < n → nat_lt h n ≡ true
is_below h n below =
    let by : (b : Bool) → nat_lt h n ≡ b → b ≡ true = λ b. elim b as (λ b. nat_lt h n ≡ b → b ≡ true) [
      | true ↦ λ e. refl
      | false ↦ λ e. absurd (omega (arith, ltb-false h n e, below))
    ] in
    by (nat_lt h n) refl

no_more : (none : Bool) (n : ℕ) → n < (if none then 0 else n + 0) → ⊥
no_more true n more = absurd (omega (arith, more))
no_more false n more = absurd (omega (arith, more))

module _ (c : Translation) (file : files.Image) (turns : ℕ)
    (stopped : (h : ℕ) → h < length c.runs.program → is_stopped (first_from c (image_in c file)) h ≡ true) where
  abbrev idle_leg : Leg LifeConfig
  idle_leg = leg_after (recovering c file) turns None [] None

  stopped_now : (hart : ℕ) → hart < length c.runs.program → stop_of idle_leg hart [] ≡ None → ⊥
  stopped_now hart below none =
      let ended : has_ended idle_leg hart [] ≡ true =
      ap₂ (λ (a b : Bool). a && b) (is_below hart (length c.runs.program) below) (stopped hart below) in
      let rest : Option Stop = if made idle_leg hart [] == turns then Some Turns else (if length {A = Event} [] == idle_leg.most then Some Moment else None) in
      let has : stop_of idle_leg hart [] ≡ Some Ended = ap (λ (b : Bool). if b then Some Ended else rest) ended in
      none-some Ended (sym none ∙ has)

  no_first : (event : Event) → IsTurn idle_leg [] event → ⊥
  no_first (Step hart) turn = stopped_now hart turn.0 turn.1
  no_first (Evict line mask) turn = no_more (length c.runs.program == 0) (length c.runs.program) turn.0
  no_first Crash turn = turn
  no_first Start turn = turn

  no_event : (journal : List Event) → IsLeg idle_leg journal → journal ≡ []
  no_event [] leg = refl
  no_event (event ∷ events) leg = absurd (no_first event (leg.each [] events event refl))

-- ---- Status 0

settled_out : (source : List ℕ) (c : Translation) (w : World) (kept : List (List ℕ)) (output : List ℕ) → IsUpgradeSaid source c w kept 0 output →
    (is_settled w ≡ true) × (sum_by length kept ≤ MOST_STEPS) × IsReadAs Third (renewed_contents source c w kept) output
unfolding machine_state
settled_out source c w kept output (unfinished goes_on told) =
    let none : unsettled_harts w ≡ [] = none_by_status (unsettled_harts w) 0 told.status_is refl in
    let both : true ≡ false = sym (settled_by_none w none) ∙ goes_on in cc both
settled_out source c w kept output (too_long settled many six told) = absurd (omega (arith, six))
settled_out source c w kept output (renewed settled fits done told read) = (settled, fits, read)

-- ---- An image of a settled world, read again

module _ (one_flat : OneFlat) (never_both : NotBoth) (output source : List ℕ) (made : Compiled)
    (version : ImageVersion) (compiled : IsCompiledAs (log_of version) source made) (again : Compiled)
    (accepted : IsCompiledAs command_log source again) (w : World)
    (right : AreReferences (flat_of made.flat) (take (variable_words (translation_in made)) (map durable_value w.words)))
    (long : variable_words (translation_in made) ≤ length w.words) (kept : List (List ℕ)) (fits : sum_by length kept ≤ MOST_STEPS)
    (runs : runs_lives (flat_of made.flat) (start (flat_of made.flat)) kept ≡ true) (settled : is_settled w ≡ true)
    (spelled : IsReadAs Third (renewed_contents source (translation_in made) w kept) output) where
  abbrev c : Translation
  c = translation_in made

  abbrev flat : Flat
  flat = flat_of made.flat

  abbrev n : ℕ
  n = variable_words c

  abbrev variables : List ℕ
  variables = take n (map durable_value w.words)

  abbrev threads : ℕ
  threads = length c.runs.program

  abbrev contents : Contents
  contents = renewed_contents source c w kept

  abbrev state : State
  state = contents.state

  variables_long : length variables ≡ n
  variables_long = length-take-le n (map durable_value w.words) (omega (arith, long, length-map w.words durable_value))

  few : length variables ≤ 8192
  few = omega (arith, variables_long, compiled.translated.limits.bytes)

  made_size : word_bytes * length variables ≡ length made.translated.object.initial.items
  made_size = omega (arith, variables_long, (ready (log_of version) source made compiled).limits.whole_words)

  -- ---- The bytes

  record Begins : Type 0 where
    rest : List ℕ
    begins : source_at Third output ≡ Ok (source, rest)
    after : List ℕ
    words : variables_at (length output) (word_bytes * length variables) rest ≡ Ok (variables, after)
    logs : logs_at Third (length output) threads variables after ≡ Ok state

  begun : Begins
  unfolding image_at
  begun =
      let all : image_at Third (word_bytes * length variables) threads output ≡ Ok contents =
      spelled threads (length-replicate {A = ℕ} (log_words command_log * threads) 0) in
      let a = bind_ok (source_at Third output)
      (λ x. state_at Third (length output) (word_bytes * length variables) threads x.1 >>= λ s. Ok (record { source = x.0; state = s })) contents all in
      let b = bind_ok (state_at Third (length output) (word_bytes * length variables) threads a.0.1) (λ s. Ok (record { source = a.0.0; state = s })) contents
      a.2 in
      let read : Contents = record { source = a.0.0; state = b.0 } in
      let same : read ≡ contents = ok_is read contents b.2 in
      let parts = state_in_parts Third (length output) (word_bytes * length variables) threads a.0.1 state (b.1 ∙ ap (λ (x : Contents). Ok x.state) same) in
      record {
        rest = a.0.1;
        begins = a.1 ∙ ap (λ (x : Contents). Ok (x.source, a.0.1)) same;
        after = parts.0;
        words = parts.1;
        logs = parts.2;
      }

  known : version_in Fourth output ≡ Ok Third
  known = source_version Fourth Third output source begun.rest (omega arith) begun.begins

  -- what is so of images of the newest version is so of this one
  at_third : (P : ImageVersion → Type 0) (v : ImageVersion) → version_in Fourth output ≡ Ok v → P Third → P v
  at_third P v is third = subst P (ok_is Third v (sym known ∙ is)) third

  -- ---- The source, compiled

  module _ (d : Compiled) (b : BeginsCompiled Fourth output Third d) where
    same_bytes : ◌≡◌ {A = List ℕ × List ℕ} (b.source, b.rest) (source, begun.rest)
    same_bytes = ok_is (b.source, b.rest) (source, begun.rest) (sym b.begins ∙ begun.begins)

    here : IsCompiledAs command_log source d
    here = subst (λ (text : List ℕ). IsCompiledAs command_log text d) (ap (λ (x : List ℕ × List ℕ). x.0) same_bytes) b.compiled

    same_rest : b.rest ≡ begun.rest
    same_rest = ap (λ (x : List ℕ × List ℕ). x.1) same_bytes

    same_flat : flat_of d.flat ≡ flat
    same_flat =
        one_flat command_log (log_of version) source (flat_of d.flat) flat here.accepted compiled.accepted

    same_size : size_of d ≡ word_bytes * length variables
    same_size =
        let x = d.translated in
        let y = made.translated in
        initial_size (flat_of d.flat) x.object x.marks x.cuts here.translated
        ∙ ap (λ (z : Flat). aligned_up (end_from 0 (map shape_of z.variables)) 8) same_flat
        ∙ sym (initial_size flat y.object y.marks y.cuts compiled.translated) ∙ sym made_size

    same_threads : threads_of d ≡ threads
    same_threads =
        let x = d.translated in
        let y = made.translated in
        thread_number (flat_of d.flat) x.object x.marks x.cuts here.translated ∙ ap (λ (z : Flat). length (lowered z).threads) same_flat
        ∙ sym (thread_number flat y.object y.marks y.cuts compiled.translated) ∙ sym (length-map y.object.code.items (λ code. map slot_of code.items))

    found_variables : variables_at (length output) (size_of d) b.rest ≡ Ok (variables, begun.after)
    found_variables = ap₂ (λ (k : ℕ) (after : List ℕ). variables_at (length output) k after) same_size same_rest ∙ begun.words

    found_logs : logs_at Third (length output) (threads_of d) variables begun.after ≡ Ok state
    found_logs = ap (λ (k : ℕ). logs_at Third (length output) k variables begun.after) same_threads ∙ begun.logs

    right_here : AreReferences (flat_of d.flat) variables
    right_here = subst (λ (x : Flat). AreReferences x variables) (sym same_flat) right

  state_is : (d : Compiled) (x : State) (has : HasState Fourth output Third d x) → x ≡ state
  state_is d x has =
      let b = has.source in
      one_after (flat_of d.flat) Third (length output) (size_of d) (threads_of d) b.rest state x begun.after (found_variables d b) (found_logs d b) has.after

  -- ---- Nothing is at fault

  sound : (d : Compiled) → flat_of d.flat ≡ flat → (error : ImageError) → ¬ (IsStateFault command_log (flat_of d.flat) d.translated.resumes.items state error)
  sound d same error =
      none_if_sound command_log (flat_of d.flat) d.translated.resumes.items state error
      (idle_state_sound command_log (log_words command_log * threads) (flat_of d.flat) d.translated.resumes.items variables kept fits
      (subst (λ (x : Flat). runs_lives x (start x) kept ≡ true) (sym same) runs))

  not_here : (v : ImageVersion) (fault : Fault) → version_in Fourth output ≡ Ok v → source_at v output ≡ Err fault → ⊥
  not_here v fault is =
      at_third (λ (x : ImageVersion). source_at x output ≡ Err fault → ⊥) v is
      (λ err. not_both_ways (source_at Third output) (source, begun.rest) fault begun.begins err)

  not_refused : (v : ImageVersion) (other rest : List ℕ) (rule : Rule) (place : Place) → version_in Fourth output ≡ Ok v →
      source_at v output ≡ Ok (other, rest) → IsRefusedAs (log_of v) other rule place → ⊥
  not_refused v other rest rule place is =
      at_third (λ (x : ImageVersion). source_at x output ≡ Ok (other, rest) → IsRefusedAs (log_of x) other rule place → ⊥) v is
      (λ begins broken.
      let same : ◌≡◌ {A = List ℕ × List ℕ} (other, rest) (source, begun.rest) = ok_is (other, rest) (source, begun.rest) (sym begins ∙ begun.begins) in
      never_both command_log source (flat_of again.flat) rule place accepted.accepted
      (subst (λ (text : List ℕ). IsRefusedAs command_log text rule place) (ap (λ (x : List ℕ × List ℕ). x.0) same) broken))

  not_after : (v : ImageVersion) (d : Compiled) (begins : BeginsCompiled Fourth output v d) (error : ImageError) →
      IsFaultAfter (flat_of d.flat) v (length output) (size_of d) (threads_of d) begins.rest error → ⊥
  not_after v d begins error =
      at_third (λ (x : ImageVersion). (b : BeginsCompiled Fourth output x d) →
      IsFaultAfter (flat_of d.flat) x (length output) (size_of d) (threads_of d) b.rest error → ⊥) v begins.known
      (λ b fault. none_after (flat_of d.flat) Third (length output) (size_of d) (threads_of d) b.rest state begun.after error (found_variables d b)
      (right_here d b) (found_logs d b) fault) begins

  not_unsound : (v : ImageVersion) (d : Compiled) (x : State) (error : ImageError) → HasState Fourth output v d x →
      IsStateFault (log_of v) (flat_of d.flat) d.translated.resumes.items x error → ⊥
  not_unsound v d x error has =
      at_third (λ (y : ImageVersion). HasState Fourth output y d x → IsStateFault (log_of y) (flat_of d.flat) d.translated.resumes.items x error → ⊥)
      v has.source.known
      (λ at fault. sound d (same_flat d at.source) error
      (subst (λ (z : State). IsStateFault command_log (flat_of d.flat) d.translated.resumes.items z error) (state_is d x at) fault)) has

  -- whatever is told of the bytes as a fault, is want of memory
  none_told : (error : ImageError) → IsImageAnswer Fourth output (Err error) → error ≡ e.Memory
  none_told error (no_version fault err) = absurd (not_both_ways (version_in Fourth output) Third fault known err)
  none_told error (no_source v fault is err) = absurd (not_here v fault is err)
  none_told error (refused v other rest rule place is begins broken) = absurd (not_refused v other rest rule place is begins broken)
  none_told error (no_state v d fault begins wrong) = absurd (not_after v d begins fault wrong)
  none_told error (unsound v d x fault has wrong) = absurd (not_unsound v d x fault has wrong)
  none_told error answers.no_memory = refl

  -- ---- The run from it, which makes no event

  module _ (image : Image) (is : IsImage Fourth output image) where
    abbrev d : Compiled
    d = image.compiled

    abbrev it : Translation
    it = translation_in d

    has : HasState Fourth output Third d is.state
    has = subst (λ (v : ImageVersion). HasState Fourth output v d is.state) (sym (ok_is Third is.version (sym known ∙ is.is.source.known))) is.is

    same_form : flat_of d.flat ≡ flat
    same_form = same_flat d has.source

    words_same : image.words.items ≡ variables ++ idle_logs threads
    words_same = is.words ∙ ap (λ (x : State). x.variables ++ x.logs) (state_is d is.state has)

    lives_same : all_lives (file_in image).kept ≡ kept
    lives_same = sym is.lives ∙ ap (λ (x : State). schedules_of x.lives) (state_is d is.state has) ∙ told_again kept

    count_same : variable_words it ≡ length variables
    count_same = omega (arith, same_size d has.source)

    spread_same : (image_in it (file_in image)).words ≡ spread_words (length variables) (variables ++ idle_logs threads)
    spread_same = ap₂ spread_words count_same words_same

    -- the world that it begins with
    abbrev first : World
    first = after_crash_of it.runs.log it.runs.program it.runs.mutexes (spread_words (length variables) (variables ++ idle_logs threads))

    first_is : first_from it (image_in it (file_in image)) ≡ first
    first_is = ap (after_crash_of it.runs.log it.runs.program it.runs.mutexes) spread_same

    same_unsettled : unsettled_harts first ≡ unsettled_harts w
    same_unsettled =
        all_settled variables (log_words command_log * threads) few it.runs.log it.runs.program it.runs.mutexes ∙ sym (none_by_settled w settled)

    ends_within : end_from 0 (map shape_of flat.variables) ≤ 8 * n
    ends_within =
        let y = made.translated in
        omega (arith, initial_size flat y.object y.marks y.cuts compiled.translated, made_size, variables_long)

    same_values : durable_variables first.words flat.variables ≡ durable_variables w.words flat.variables
    same_values =
        let y = made.translated in
        same_variables first.words w.words n
        (own_stays variables (log_words command_log * threads) few it.runs.log it.runs.program it.runs.mutexes w.words n refl variables_long)
        flat.variables (has_room flat y.object y.marks y.cuts compiled.translated) ends_within

    same_reports : machine_state flat first kept ≡ machine_state flat w kept
    unfolding machine_state
    same_reports =
        ap₂ (λ (us : List ℕ) (numbers : List (List ℤ)). let s : r.ReportedState =
        record {
          unsettled = us;
          variables = named flat.variables numbers;
          ended = map (ended_lives flat (start flat) kept) (numbers_from 0 (length flat.threads));
          schedules = kept;
        } in s)
        same_unsettled same_values

    -- no hart makes a step
    stopped : (h : ℕ) → h < length it.runs.program → is_stopped (first_from it (image_in it (file_in image))) h ≡ true
    stopped h below =
        ap (λ (v : World). is_stopped v h) first_is
        ∙ all_stopped variables (log_words command_log * threads) few it.runs.log it.runs.program it.runs.mutexes h below

    -- what it begins with is settled, where the source leaves these variables by the schedules, with every thread between sections
    settled_image : ((thread : ℕ) → is_between (after_lives flat (start flat) kept) thread ≡ true) →
        durable_variables w.words flat.variables ≡ (after_lives flat (start flat) kept).variables → IsSettledImage it (image_in it (file_in image))
    unfolding after_crash_of
    settled_image between ends = record {
      points = λ h below.
          ap (λ (ws : List ℕ). durable_point it.runs.log (map word_of ws) h) spread_same
          ∙ ap durable_value (point_is variables (log_words command_log * threads) few it.runs.log h);
      runs =
          ap (λ (x : Flat). runs_lives x (start x) (all_lives (file_in image).kept)) same_form
          ∙ ap (λ (lives : List (List ℕ)). runs_lives flat (start flat) lives) lives_same ∙ runs;
      between = λ thread.
          ap (λ (x : Flat). is_between (after_lives x (start x) (all_lives (file_in image).kept)) thread) same_form
          ∙ ap (λ (lives : List (List ℕ)). is_between (after_lives flat (start flat) lives) thread) lives_same ∙ between thread;
      variables =
          ap (λ (ws : List ℕ). durable_variables (map word_of ws) it.flat.variables) spread_same
          ∙ ap (λ (x : Flat). durable_variables first.words x.variables) same_form ∙ same_values ∙ ends
          ∙ ap (λ (lives : List (List ℕ)). (after_lives flat (start flat) lives).variables) (sym lives_same)
          ∙ ap (λ (x : Flat). (after_lives x (start x) (all_lives (file_in image).kept)).variables) (sym same_form);
    }

    report_same : (more status : ℕ) (report : List ℕ) → IsRecovery it (file_in image) more status report → IsReport (machine_state flat w kept) status report
    report_same more status report recovery =
        let im = image_in it (file_in image) in
        let at_once = subst (λ (es : List Event). IsReport (machine_state it.flat (world_from it im es) (schedules (steps_from it im es))) status report)
        (no_event it (file_in image) more stopped recovery.journal recovery.leg) recovery.reported in
        let of_world = subst (λ (x : World). IsReport (machine_state it.flat x (all_lives (file_in image).kept)) status report) first_is at_once in
        let of_lives = subst (λ (ls : List (List ℕ)). IsReport (machine_state it.flat first ls) status report) lives_same of_world in
        let of_form = subst (λ (x : Flat). IsReport (machine_state x first kept) status report) same_form of_lives in
        subst (λ (s : r.ReportedState). IsReport s status report) same_reports of_form

  not_told : (status : ℕ) (report : List ℕ) (error : ImageError) → IsImageAnswer Fourth output (Err error) → image_line error ≡ Some report → ⊥
  not_told status report error told line =
      let none : image_line e.Memory ≡ Some report = subst (λ (x : ImageError). image_line x ≡ Some report) (none_told error told) line in
      none-some report none

  recovered_as : (more status : ℕ) (report : List ℕ) → RecoverAnswer more output status report → IsReport (machine_state flat w kept) status report
  recovered_as more status report (no_image error told six line) = absurd (not_told status report error told line)
  recovered_as more status report (of_image image (whole read is) on recovery) = report_same image is more status report recovery

-- ---- A world that a run from an image comes to

many_as : (size : LogSize) (threads : ℕ) → 8192 ≤ 8 * (variable_lines + lines_of size * threads)
many_as Lines16 threads = omega arith
many_as Lines32 threads = omega arith

many_words : (log : Log) (threads : ℕ) → 8192 ≤ word_count log threads
many_words log threads = many_as (log_size log) threads

module _ (input : List ℕ) (image : Image) (is : IsImage Second input image) (journal : List Event) where
  abbrev came : Translation
  came = translation_in image.compiled

  abbrev from : files.Image
  from = image_in came (file_in image)

  came_few : variable_words came ≤ VARIABLE_WORDS
  came_few = omega (arith, is.is.source.compiled.translated.limits.bytes)

  came_sound : IsWellFormedWorld (world_from came from journal)
  came_sound =
      let x = image.compiled.translated.object in
      let count : length came.runs.program ≡ length x.code.items = length-map x.code.items (λ code. map slot_of code.items) in
      let size = words_in Second input image (whole image is) ∙ ap (λ (k : ℕ). variable_words came + log_words x.log * k) (sym count) in
      let first = crashes_simulate came.runs.log came.runs.program came.runs.mutexes from.words
      (spread_size came.runs.log (variable_words came) (length came.runs.program) image.words.items came_few size) in
      (sound_along came.runs.program (first_from came from) journal (sym first.1) first.0).0

  came_long : variable_words came ≤ length (world_from came from journal).words
  came_long =
      let w = world_from came from journal in
      let many : 8192 ≤ length w.words = subst (λ (k : ℕ). 8192 ≤ k) (sym came_sound.size) (many_words w.log (length w.harts)) in
      omega (arith, came_few, many)

  -- where the image is what a run of the translation has left, its references are null or lead to elements
  came_right : RunsLeaveReferences → ImagesAreCrashes → (before : List Event) → file_in image ≡ left_by came before →
      AreReferences (flat_of image.compiled.flat) (take (variable_words came) (map durable_value (world_from came from journal).words))
  came_right references crashes before same =
      let x = image.compiled in
      let t = x.translated in
      let of_source = is.is.source.compiled in
      let n = variable_words came in
      let events = before ++ Crash ∷ journal in
      let left = map durable_value (world came events).words in
      let there : world_from came from journal ≡ world came events =
      ap (λ (i : files.Image). world_from came i journal) (ap (image_in came) same ∙ (of_source.compilation.in_file before).is_all)
      ∙ (crashes came before journal).world_is in
      let long : n ≤ length left =
      omega (arith, came_long, ap (λ (v : World). length v.words) there, length-map (world came events).words durable_value) in
      subst (λ (v : World). AreReferences (flat_of x.flat) (take n (map durable_value v.words))) (sym there)
      (subst (λ (words : List ℕ). AreReferences (flat_of x.flat) words) (take_first n left (drop (8 * variable_lines) left) long)
      (references (log_of is.version) (flat_of x.flat) t.object t.marks t.cuts events of_source.translated))

pub upgrades_are_recovered : OneFlat → NotBoth → RunsLeaveReferences → ImagesAreCrashes → UpgradesAreRecovered
upgrades_are_recovered one_flat never_both references crashes input output image source before turns more status report older same u told =
    let made = image.compiled in
    let c = translation_in made in
    let im = image_in c (file_in image) in
    let w = world_from c im u.journal in
    let kept = schedules (steps_from c im u.journal) in
    let out = settled_out source c w kept output u.said in
    let v = older.is.version in
    let compiled = subst (λ (text : List ℕ). IsCompiledAs (log_of v) text made) older.source_is older.is.is.source.compiled in
    let resumed = subst (λ (file : files.Image). IsResumedAsKept c (image_in c file) u.journal) (sym same) (compiled.compilation.files before u.journal) in
    u.goes_on before same status report
    (recovered_as one_flat never_both output source made v compiled older.again older.accepted w
    (came_right input image older.is u.journal references crashes before same) (came_long input image older.is u.journal) kept out.1 resumed.runs out.0 out.2
    more status report told)

pub upgrades_go_on : OneFlat → NotBoth → RunsLeaveReferences → ImagesAreCrashes → AcceptedGoOn → UpgradesGoOn
upgrades_go_on one_flat never_both references crashes go_on input output image source before turns older same u read is events =
    let made = image.compiled in
    let c = translation_in made in
    let im = image_in c (file_in image) in
    let w = world_from c im u.journal in
    let kept = schedules (steps_from c im u.journal) in
    let out = settled_out source c w kept output u.said in
    let v = older.is.version in
    let compiled = subst (λ (text : List ℕ). IsCompiledAs (log_of v) text made) older.source_is older.is.is.source.compiled in
    let resumed = subst (λ (file : files.Image). IsResumedAsKept c (image_in c file) u.journal) (sym same) (compiled.compilation.files before u.journal) in
    let right = came_right input image older.is u.journal references crashes before same in
    let long = came_long input image older.is u.journal in
    accepted_goes_on go_on Fourth output read (whole read is)
    (settled_image one_flat never_both output source made v compiled older.again older.accepted w right long kept out.1 resumed.runs out.0 out.2 read is
    (resumed.between out.0) (resumed.variables out.0)) events
