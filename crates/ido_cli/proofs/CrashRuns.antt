-- A life that makes the first events of a script, a crash, and rounds.
use Rattle.std.proofs.Common.{◌≡◌, ℕ, ◌+◌, ◌-◌, ◌≤◌, List, [], ◌∷◌, ◌++◌, length, take, sym, ap, ◌∙◌, subst, arith, append_assoc}
use Rattle.std.proofs.Common.{Bool, Option, Some, None, IfSome, IsSome}
use Rattle.std.specs.Prelude.{◌==◌, Err}
use Rattle.machine_events.specs.declared.event.Event.{Event}
use Rattle.log_schemes.specs.declared.log.Log.{Log}
use Rattle.machine_events.specs.declared.event.Event.TheVariants.{Crash}
use Rattle.machine_events.specs.Cores.{played}
use Rattle.c_tree.specs.Flats as f
use Rattle.c_tree.specs.Flats.{flat_of}
use Rattle.machine_model.specs.declared.object.Object.{Object}
use Rattle.rv64_isa.specs.declared.object.Marks.{Marks}
use Rattle.ido_compile.specs.LoggedTexts.{IsAcceptedAs, IsRefusedAs}
use Rattle.ido_compile.specs.CompileAnswers.{IsCompileAnswerAs}
use Rattle.ido_compile.specs.declared.error.CompileError.{CompileError}
use Rattle.ido_compile.specs.declared.error.CompileError.TheVariants as error
use Rattle.run_scripts.specs.Plays.{script_events}
use Rattle.run_scripts.specs.Rounds.{AreWholeRounds, HasRounds}
use Rattle.run_scripts.specs.Scripts as e
use Rattle.run_tracker.specs.ObjectLives.{Course, LifeConfig, living, new_life, opening_of, steps_in, with_event, world_of}
use Rattle.compiler_correctness.specs.Translations.{Translation, translation_to}
use Rattle.flow_graph.specs.declared.cuts.Cuts.{Cuts}
use Rattle.ido_cli.specs.declared.sweep.CrashPoints.{CrashPoints}
use Rattle.ido_cli.specs.Answers.{SweepAnswer, no_points, of_points, unswept}
use Rattle.ido_cli.specs.Inputs.{rest_of, source_of}
use Rattle.ido_cli.specs.Plays.{IsTranslationOf, beginning, events_by}
use Rattle.ido_cli.specs.Refusals.{IsRefusedAt, code_of, line_at, script_fault_code, script_fault_place}
use Rattle.ido_cli.specs.Reports.{machine_state}
use Rattle.ido_cli.specs.Runs.{IsReport}
use Rattle.ido_cli.specs.Sweeps.{SweptScript, most_round_steps, status_of}
use Rattle.ido_cli.specs.links.CompileRefusals.{TellsRefusal}
use Rattle.ido_cli.specs.links.CountedSections.{CountsSections}
use Rattle.ido_cli.specs.links.CrashPoints.{HasLivedTo, HasPoint, IsOutcomeAt, lines_in, translation_at}
use Rattle.ido_cli.specs.links.PlayedLives.{HasPlayed}
use Rattle.ido_cli.proofs.PlayedRuns.{as_many_threads, counts_sections, harts_of_life, run_by}
use Rattle.ido_cli.proofs.SweptTables.{told_again}
use Rattle.machine_model.specs.Schedule.{schedules}

-- ---- The life

module _ (points : CrashPoints) (k cap : ℕ) (begun : Course) (is : begun ≡ new_life points.translated.object points.translated.marks cap) where
  pub begun_room : k + most_round_steps + 1 ≤ cap → k + most_round_steps + 1 ≤ begun.cap - length begun.journal
  begun_room fits =
      let enough : k + most_round_steps + 1 ≤ cap - 0 = omega (arith, fits) in
      subst (λ (x : Course). k + most_round_steps + 1 ≤ x.cap - length x.journal) (sym is) enough

  module _ (life : Course) (opens : opening_of life ≡ opening_of begun)
      (events : life.journal ≡ begun.journal
      ++ take k (script_events living (length begun.runs.program) (played living (opening_of begun) begun.journal) (lines_in points.script))) where
    pub first_events : life.journal ≡ take k (events_by (translation_at points) (lines_in points.script))
    first_events =
        subst (λ (x : Course). life.journal
        ≡ x.journal ++ take k (script_events living (length x.runs.program) (played living (opening_of x) x.journal) (lines_in points.script))) is events

    begins : opening_of life ≡ beginning (translation_at points)
    begins = opens ∙ ap opening_of is

    pub has_lived : (crashed left : Course) → crashed ≡ with_event life Crash → opening_of left ≡ opening_of crashed →
        HasRounds living (length crashed.runs.program) most_round_steps (opening_of crashed) crashed.journal left.journal → HasLivedTo points k left
    has_lived crashed left with_crash same r =
        let c = translation_at points in
        let script = events_by (translation_at points) (lines_in points.script) in
        let crashed_opens : opening_of crashed ≡ beginning c = ap opening_of with_crash ∙ begins in
        let before : crashed.journal ≡ take k script ++ Crash ∷ [] =
        ap (λ (x : Course). x.journal) with_crash ∙ ap (λ (es : List Event). es ++ Crash ∷ []) first_events in
        record {
          begins = same ∙ crashed_opens;
          rounds = r.made;
          journal = r.is ∙ ap (λ (es : List Event). es ++ r.made) before ∙ append_assoc (take k script) (Crash ∷ []) r.made;
          in_rounds =
              subst (λ (es : List Event). AreWholeRounds living (length c.runs.program) most_round_steps (played living (beginning c) es) r.made) before
              (subst (λ (m : LifeConfig). AreWholeRounds living (length m.runs.program) most_round_steps (played living m crashed.journal) r.made) crashed_opens
              r.rounds);
        }

-- ---- Its outcome

module _ (points : CrashPoints) (k : ℕ) (life : Course) (h : HasLivedTo points k life) where
  pub lived : HasPlayed points.translated.object points.translated.marks life
      (take k (events_by (translation_at points) (lines_in points.script)) ++ Crash ∷ h.rounds)
  lived = record { begins = h.begins; journal = h.journal }

  pub harts_then : length (world_of life).harts ≡ length life.runs.program
  harts_then =
      let y = points.translated in
      harts_of_life (flat_of points.flat) y.object y.marks y.cuts life
      (take k (events_by (translation_at points) (lines_in points.script)) ++ Crash ∷ h.rounds) lived

  pub counts_then : HasPoint points k → CountsSections (flat_of points.flat) life
  counts_then can =
      let y = points.translated in
      let flat = flat_of points.flat in
      counts_sections flat y.object y.marks y.cuts life (take k (events_by (translation_at points) (lines_in points.script)) ++ Crash ∷ h.rounds) lived
      can.compilation (as_many_threads flat y.object y.marks y.cuts can.translated_is)

  pub outcome_of : HasPoint points k → (status : ℕ) (settled : Bool) (output : List ℕ) →
      IsReport (machine_state (flat_of points.flat) (world_of life) (schedules (steps_in life))) status output → settled ≡ (status == 0) →
      IsOutcomeAt points k (record { settled = settled; report = output })
  outcome_of can status settled output told zero =
      let y = points.translated in
      let flat = flat_of points.flat in
      record {
        rounds = h.rounds;
        in_rounds = h.in_rounds;
        told =
            run_by flat y.object y.marks y.cuts life (take k (events_by (translation_at points) (lines_in points.script)) ++ Crash ∷ h.rounds) lived
            can.compilation (status_of settled) output
            (subst (λ (s : ℕ). IsReport (machine_state flat (world_of life) (schedules (steps_in life))) s output)
            (told_again (machine_state flat (world_of life) (schedules (steps_in life))).unsettled status settled told.status_is zero) told);
      }

-- ---- How many events

module _ (flat : f.Flat) (object : Object) (marks : Marks) (cuts : Cuts) (lines : List e.Line) (cap : ℕ) (begun : Course)
    (is : begun ≡ new_life object marks cap) where
  abbrev made : Translation
  made = translation_to flat object marks cuts

  pub counted : (life : Course) → life.journal
      ≡ begun.journal ++ script_events living (length begun.runs.program) (played living (opening_of begun) begun.journal) lines →
      length (events_by made lines) ≡ length life.journal
  counted life all =
      sym (ap length (subst (λ (x : Course).
      life.journal ≡ x.journal ++ script_events living (length x.runs.program) (played living (opening_of x) x.journal) lines) is all))

  pub counted_few : (most : ℕ) → length (script_events living (length begun.runs.program) (played living (opening_of begun) begun.journal) lines) ≤ most →
      length (events_by made lines) ≤ most
  counted_few most few =
      subst (λ (x : Course). length (script_events living (length x.runs.program) (played living (opening_of x) x.journal) lines) ≤ most) is few

-- ---- What a source and a script are answered

module _ (log : Log) (source input : List ℕ) (is : source ≡ source_of input) where
  pub sweep_refused : (found : CompileError) → IsCompileAnswerAs log source (Err found) → (status : ℕ) (output : List ℕ) →
      TellsRefusal found source status output → SweepAnswer log input status output
  sweep_refused (error.Refused x) refused status output (one, told) =
      unswept x.rule x.place (subst (λ (text : List ℕ). IsRefusedAs log text x.rule x.place) is refused)
      (one, told ∙ ap (λ (text : List ℕ). line_at (code_of x.rule) text x.place.0) is)
  sweep_refused error.Memory refused status output none = absurd none

module _ (input rest : List ℕ) (flat : f.Flat) (log : Log) (harts : ℕ) (is : rest ≡ rest_of input) (many : harts ≡ length flat.threads)
    (accepted : IsAcceptedAs log (source_of input) flat) where
  read_is : e.read log (length flat.threads) (rest_of input) ≡ e.read log harts rest
  read_is = ap (λ (n : ℕ). e.read log n (rest_of input)) (sym many) ∙ sym (ap (e.read log harts) is)

  pub swept_fault : (o : Option e.Fault) (status : ℕ) (output : List ℕ) → IsSome o → IfSome o (λ x. e.read log harts rest ≡ e.Refused x) →
      IfSome o (λ x. IsRefusedAt 6 (script_fault_code x) input (length input - length rest + script_fault_place x) status output) →
      SweepAnswer log input status output
  swept_fault (Some x) status output some read said =
      no_points flat accepted x (read_is ∙ read)
      (subst (λ (r : List ℕ). IsRefusedAt 6 (script_fault_code x) input (length input - length r + script_fault_place x) status output) is said)
  swept_fault None status output some read said = absurd (cc some)

  pub swept_script : (lines : List e.Line) (c : Translation) (status : ℕ) (output : List ℕ) → e.read log harts rest ≡ e.Lines lines →
      IsTranslationOf log flat c →
      SweptScript c (record { lines = lines; input = input; begins = length input - length rest }) status output → SweepAnswer log input status output
  swept_script lines c status output read translation answer =
      of_points flat accepted lines (read_is ∙ read) c translation
      (subst (λ (r : List ℕ). SweptScript c (record { lines = lines; input = input; begins = length input - length r }) status output) is answer)
