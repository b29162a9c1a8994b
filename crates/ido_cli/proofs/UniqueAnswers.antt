-- Words and an input have one answer, where it stands on no compilation.
use Rattle.std.proofs.Common.{◌≡◌, ℕ, ◌+◌, List, [], ◌∷◌, length, Option, Some, None, Result, Ok}
use Rattle.std.proofs.Common.{Err, Bool, true, false, codes, sym, ap, ap₂, ◌∙◌, subst, arith}
use Rattle.machine_events.specs.declared.event.Event.{Event}
use Rattle.ido_base.specs.declared.place.Place.{Place}
use Rattle.log_schemes.specs.declared.log.Log.{Log}
use Rattle.c_tree.specs.Flats as f
use Rattle.c_tree.specs.Source.{start}
use Rattle.run_scripts.specs.Schedules as s
use Rattle.run_scripts.specs.Scripts as scripts
use Rattle.source_machine.specs.LifeRuns.{LivesNotWhole, OneLifeStop}
use Rattle.command_words.specs.declared.command.Command as c
use Rattle.command_words.specs.declared.command.Command.TheVariants as command
use Rattle.c_tree.specs.declared.rule.Rule as r
use Rattle.ido_compile.specs.LoggedTexts.{IsAcceptedAs, IsRefusedAs}
use Rattle.flat_compile.specs.TranslatedForms.{command_log}
use Rattle.machine_model.specs.Machine.{World}
use Rattle.compiler_correctness.specs.Translations.{Translation}
use Rattle.ido_cli.specs.Draws.{IsGenerated}
use Rattle.ido_cli.specs.Images.{IsImageAfter}
use Rattle.ido_cli.specs.Plays.{IsFencedRun, IsPlayed, IsRunBy, ScriptAnswer, faulty, ran as ran_by}
use Rattle.ido_cli.specs.Refusals.{IsRefusedAt, code_of, fault_code, fault_place, line_after, line_at}
use Rattle.ido_cli.specs.Refusals.{line_at_byte, line_at_step, object_fault_code, object_fault_place}
use Rattle.ido_cli.specs.Refusals.{script_fault_code, script_fault_place, stop_code}
use Rattle.object_format.specs.Contents.{Contents}
use Rattle.file_fields.specs.Fields as fields
use Rattle.object_listing.specs.ObjectListing.{listing}
use Rattle.ido_cli.specs.Runs.{RunAnswer, ran, stopped, status_by}
use Rattle.ido_cli.specs.Schemes.{log_by}
use Rattle.ido_cli.specs.Inputs.{source_of, rest_of}
use Rattle.ido_cli.specs.Answers.{CommandAnswer, CompileAnswer, uncompiled, compiled, RegionsAnswer, uncut, cut, PlayAnswer}
use Rattle.ido_cli.specs.Answers.{ScriptedAnswer, unplayed, no_script, of_script, ImageAnswer, RecoverAnswer, no_image, of_image}
use Rattle.ido_cli.specs.Answers.{OrderAnswer, unlocked, unordered, ordered}
use Rattle.lock_order.specs.LockOrder.{OrderFault, order_fault}
use Rattle.ido_cli.specs.Answers.{SeededAnswer, undrawn, drawn, LiveAnswer, unrun, ran as ran_on_threads, LoadAnswer}
use Rattle.ido_cli.specs.Answers.{SweepAnswer, no_points, of_points, unswept, UpgradeAnswer, not_older, of_older}
use Rattle.ido_cli.specs.Upgrades.{IsUpgradeSaid, renewed, too_long, unfinished}
use Rattle.ido_compile.specs.CompileAnswers.{translation_in}
use Rattle.ido_cli.specs.Sweeps.{SweptScript, status_of, swept, faulty as unswept_script}
use Rattle.run_scripts.specs.GeneratedSources.{generated_source}
use Rattle.ido_cli.specs.Answers.{SourceAnswer, unaccepted, no_schedule, of_schedules, rest_begins, ListAnswer, no_object}
use Rattle.ido_cli.specs.Answers.{of_object, AnswerToInput, IsPastLimits, past_limits, within_limits, wrong_words, taken_words}
use Rattle.ido_compile.specs.Verdicts.{OneFlat, OneFault, NotBoth}
use Rattle.ido_cli.specs.Laws.{IsUncompiled, plain, past, breaks_rule, misspelled, OneAnswer}

abbrev fails : fields.Fault → Result Contents fields.Fault
fails fault = Err fault

abbrev gives : Contents → Result Contents fields.Fault
gives object = Ok object

-- both are the same status and output
abbrev Same : (status other : ℕ) → (output written : List ℕ) → Type 0
Same status other output written = (status ≡ other) × (output ≡ written)

-- a rule that the source breaks, or what else is answered, which has another status
data Verdict (log : Log) (text : List ℕ) (status : ℕ) (output : List ℕ) : Type 0 where
  breaks : (found : r.Rule) (place : Place) → IsRefusedAs log text found place → IsRefusedAt 1 (code_of found) text place.0 status output →
      Verdict log text status output
  keeps : (flat : f.Flat) → IsAcceptedAs log text flat → (status ≡ 1 → ⊥) → Verdict log text status output

module _ (one_flat : OneFlat) (one_fault : OneFault) (not_both : NotBoth) (one_stop : OneLifeStop) (not_whole : LivesNotWhole) where
  -- ---- A run

  one_run : (x : f.Flat) (lives : List (List ℕ)) (status other : ℕ) (output written : List ℕ) → RunAnswer x lives status output →
      RunAnswer x lives other written → Same status other output written
  one_run x lives status other output written (ran runs told) (ran also more) = (told.status_is ∙ sym more.status_is, told.output_is ∙ sym more.output_is)
  one_run x lives status other output written (ran runs told) (stopped stop is e told_too) =
      let both : true ≡ false = sym runs ∙ not_whole x (start x) lives stop is in cc both
  one_run x lives status other output written (stopped stop is e told) (ran runs more) =
      let both : true ≡ false = sym runs ∙ not_whole x (start x) lives stop is in cc both
  one_run x lives status other output written (stopped stop is e told) (stopped again also h more) =
      (e ∙ sym h, told ∙ ap (λ y. line_at_step (stop_code y.kind) y.step) (one_stop x (start x) lives stop again is also) ∙ sym more)

  -- ---- An input of `source`

  one_source : (input : List ℕ) (status other : ℕ) (output written : List ℕ) → SourceAnswer input status output → SourceAnswer input other written →
      Same status other output written
  one_source input status other output written (unaccepted found place is (e, told)) (unaccepted again elsewhere also (h, more)) =
      let both = one_fault command_log (source_of input) found again place elsewhere is also in
      (e ∙ sym h, told ∙ ap₂ (λ rule (at : Place). line_at (code_of rule) (source_of input) at.0) both.0 both.1 ∙ sym more)
  one_source input status other output written (unaccepted found place is told) (no_schedule flat accepted x read more) =
      absurd (not_both command_log (source_of input) flat found place accepted is)
  one_source input status other output written (unaccepted found place is told) (of_schedules flat accepted lives read more) =
      absurd (not_both command_log (source_of input) flat found place accepted is)
  one_source input status other output written (no_schedule flat accepted x read told) (unaccepted found place is more) =
      absurd (not_both command_log (source_of input) flat found place accepted is)
  one_source input status other output written (of_schedules flat accepted lives read told) (unaccepted found place is more) =
      absurd (not_both command_log (source_of input) flat found place accepted is)
  one_source input status other output written (no_schedule flat accepted x read (e, told)) (no_schedule flat' accepted' y read' (h, more)) =
      let both : s.Refused x ≡ s.Refused y = sym read ∙ read' in
      let same : x ≡ y = cc both in
      (e ∙ sym h, told ∙ ap (λ z. line_at (fault_code z) input (rest_begins input + fault_place z)) same ∙ sym more)
  one_source input status other output written (no_schedule flat accepted x read told) (of_schedules flat' accepted' lives read' more) =
      let both : s.Refused x ≡ s.Lives lives = sym read ∙ read' in cc both
  one_source input status other output written (of_schedules flat accepted lives read told) (no_schedule flat' accepted' x read' more) =
      let both : s.Lives lives ≡ s.Refused x = sym read ∙ read' in cc both
  one_source input status other output written (of_schedules flat accepted lives read told) (of_schedules flat' accepted' lives' read' more) =
      let both : s.Lives lives ≡ s.Lives lives' = sym read ∙ read' in
      let same : lives ≡ lives' = cc both in
      let forms : flat ≡ flat' = one_flat command_log command_log (source_of input) flat flat' accepted accepted' in
      one_run flat' lives' status other output written
      (subst (λ z. RunAnswer flat' z status output) same (subst (λ z. RunAnswer z lives status output) forms told)) more

  -- ---- An input of `list`

  one_list : (input : List ℕ) (status other : ℕ) (output written : List ℕ) → ListAnswer input status output → ListAnswer input other written →
      Same status other output written
  one_list input status other output written (no_object x read e told) (no_object y read' h more) =
      let both : fails x ≡ fails y = sym read ∙ read' in
      let same : x ≡ y = cc both in
      (e ∙ sym h, told ∙ ap (λ z. line_at_byte (object_fault_code z) (object_fault_place z)) same ∙ sym more)
  one_list input status other output written (no_object x read e told) (of_object y read' h more) = let both : fails x ≡ Ok y = sym read ∙ read' in cc both
  one_list input status other output written (of_object x read e told) (no_object y read' h more) = let both : fails y ≡ Ok x = sym read' ∙ read in cc both
  one_list input status other output written (of_object x read e told) (of_object y read' h more) =
      let both : gives x ≡ gives y = sym read ∙ read' in
      let same : x ≡ y = cc both in
      (e ∙ sym h, told ∙ ap (λ z. listing z.code) same ∙ sym more)

  -- ---- An input of `order`

  one_order : (source : List ℕ) (status other : ℕ) (output written : List ℕ) → OrderAnswer source status output → OrderAnswer source other written →
      Same status other output written
  one_order source status other output written (unlocked found place is (e, told)) (unlocked again elsewhere also (h, more)) =
      let both = one_fault command_log source found again place elsewhere is also in
      (e ∙ sym h, told ∙ ap₂ (λ rule (at : Place). line_at (code_of rule) source at.0) both.0 both.1 ∙ sym more)
  one_order source status other output written (unlocked found place is told) (unordered flat accepted fault broken h more) =
      absurd (not_both command_log source flat found place accepted is)
  one_order source status other output written (unlocked found place is told) (ordered flat accepted none h more) =
      absurd (not_both command_log source flat found place accepted is)
  one_order source status other output written (unordered flat accepted fault broken e told) (unlocked found place is more) =
      absurd (not_both command_log source flat found place accepted is)
  one_order source status other output written (ordered flat accepted none e told) (unlocked found place is more) =
      absurd (not_both command_log source flat found place accepted is)
  one_order source status other output written (unordered flat is x broken e told) (unordered flat' is' y broken' h more) =
      let both : Some x ≡ Some y = sym broken ∙ ap order_fault (one_flat command_log command_log source flat flat' is is') ∙ broken' in
      let same : x ≡ y = cc both in
      (e ∙ sym h, told ∙ ap (λ (z : OrderFault). line_after (codes "L7") source z.place.0 z.earlier.0) same ∙ sym more)
  one_order source status other output written (unordered flat is x broken e told) (ordered flat' is' none h more) =
      let both : Some x ≡ None = sym broken ∙ ap order_fault (one_flat command_log command_log source flat flat' is is') ∙ none in cc both
  one_order source status other output written (ordered flat is none e told) (unordered flat' is' y broken h more) =
      let both : None ≡ Some y = sym none ∙ ap order_fault (one_flat command_log command_log source flat flat' is is') ∙ broken in cc both
  one_order source status other output written (ordered flat is none e told) (ordered flat' is' none' h more) = (e ∙ sym h, told ∙ sym more)

  -- ---- A source that is made

  one_generated : (rounds seed status other : ℕ) (output written : List ℕ) → IsGenerated rounds seed status output → IsGenerated rounds seed other written →
      Same status other output written
  one_generated rounds seed status other output written told more = (told.status_is ∙ sym more.status_is, told.output_is ∙ sym more.output_is)

  -- ---- A refused source

  one_refusal : (log : Log) (text : List ℕ) (status other : ℕ) (output written : List ℕ) → status ≡ 1 → Verdict log text status output →
      Verdict log text other written →
      Same status other output written
  one_refusal log text status other output written one (breaks found place is (e, told)) (breaks again elsewhere also (h, more)) =
      let both = one_fault log text found again place elsewhere is also in
      (e ∙ sym h, told ∙ ap₂ (λ rule (at : Place). line_at (code_of rule) text at.0) both.0 both.1 ∙ sym more)
  one_refusal log text status other output written one (breaks found place is told) (keeps flat accepted other_one) =
      absurd (not_both log text flat found place accepted is)
  one_refusal log text status other output written one (keeps flat accepted other_one) v = absurd (other_one one)

  not_one : (status n : ℕ) → status ≡ n → (n ≡ 1 → ⊥) → status ≡ 1 → ⊥
  not_one status n e other one = other (sym e ∙ one)

  not_by_unsettled : (unsettled : List ℕ) (status : ℕ) → status ≡ status_by unsettled → status ≡ 1 → ⊥
  not_by_unsettled [] status e one = omega arith
  not_by_unsettled (h ∷ hs) status e one = omega arith

  of_compile : (log : Log) (text : List ℕ) (status : ℕ) (output : List ℕ) → CompileAnswer log text status output → Verdict log text status output
  of_compile log text status output (uncompiled found place is told) = breaks found place is told
  of_compile log text status output (compiled flat is x made e told) = keeps flat is (λ one. omega (arith, e, one))

  of_regions : (least : Bool) (text : List ℕ) (status : ℕ) (output : List ℕ) → RegionsAnswer least text status output → Verdict command_log text status output
  of_regions least text status output (uncut found place is told) = breaks found place is told
  of_regions least text status output (cut flat is x made e told) = keeps flat is (λ one. omega (arith, e, one))

  of_seeded : (log : Log) (seed turns : ℕ) (crashes : List ℕ) (journal : Bool) (text : List ℕ) (status : ℕ) (output : List ℕ) →
      SeededAnswer log seed turns crashes journal text status output → Verdict log text status output
  of_seeded log seed turns crashes journal text status output (undrawn found place is told) = breaks found place is told
  of_seeded log seed turns crashes false text status output (drawn flat is c made run) = keeps flat is (not_by_unsettled _ status run.reported.status_is)
  of_seeded log seed turns crashes true text status output (drawn flat is c made told) = let zero = told.0 in keeps flat is (λ one. omega (arith, zero, one))

  of_live : (log : Log) (turns : ℕ) (crashes : List ℕ) (evict : Option ℕ) (journal : Bool) (text : List ℕ) (status : ℕ) (output : List ℕ) →
      LiveAnswer log turns crashes evict journal text status output → Verdict log text status output
  of_live log turns crashes evict journal text status output (unrun found place is told) = breaks found place is told
  of_live log turns crashes evict false text status output (ran_on_threads flat is c made events legs run) =
      keeps flat is (not_by_unsettled _ status run.reported.status_is)
  of_live log turns crashes evict true text status output (ran_on_threads flat is c made events legs told) =
      let zero = told.0 in keeps flat is (λ one. omega (arith, zero, one))

  of_load : (log : Log) (rounds seed status : ℕ) (output : List ℕ) → LoadAnswer log rounds seed status output →
      Verdict log (generated_source rounds seed) status output
  of_load log rounds seed status output answer = keeps answer.flat answer.accepted (not_by_unsettled _ status answer.summary.summed.status_is)

  module _ (log : Log) (Says : Translation → List Event → ℕ → List ℕ → Type 0)
      (others : (c : Translation) (events : List Event) (status : ℕ) (output : List ℕ) → Says c events status output → status ≡ 1 → ⊥) where
    not_of_script : (c : Translation) (lines : List scripts.Line) (input : List ℕ) (begins status : ℕ) (output : List ℕ) →
        ScriptAnswer c (Says c) (record { lines = lines; input = input; begins = begins }) status output → status ≡ 1 → ⊥
    not_of_script c lines input begins status output (faulty fault at refused) one = let is = refused.0 in omega (arith, is, one)
    not_of_script c lines input begins status output (ran_by none few said) one = others c _ status output said one

    of_scripted : (input : List ℕ) (status : ℕ) (output : List ℕ) → ScriptedAnswer log Says input status output →
        Verdict log (source_of input) status output
    of_scripted input status output (unplayed found place is told) = breaks found place is told
    of_scripted input status output (no_script flat is x read told) = keeps flat is (λ one. let six = told.0 in omega (arith, six, one))
    of_scripted input status output (of_script flat is lines read c made answer) =
        keeps flat is (not_of_script c lines input (rest_begins input) status output answer)

  of_play : (log : Log) (fences : Bool) (input : List ℕ) (status : ℕ) (output : List ℕ) → PlayAnswer log fences input status output →
      Verdict log (source_of input) status output
  of_play log false input status output answer =
      of_scripted log IsRunBy (λ c events s o run. not_by_unsettled _ s run.reported.status_is) input status output answer
  of_play log true input status output answer =
      of_scripted log IsFencedRun (λ c events s o fenced. not_by_unsettled _ s fenced.run.reported.status_is) input status output answer

  of_image_of : (log : Log) (input : List ℕ) (status : ℕ) (output : List ℕ) → ImageAnswer log input status output →
      Verdict log (source_of input) status output
  of_image_of log input status output answer =
      of_scripted log (IsImageAfter (source_of input)) (λ c events s o image one. let zero = image.status_is in omega (arith, zero, one)) input
      status output answer

  not_by_settled : (settled : Bool) (status : ℕ) → status ≡ status_of settled → status ≡ 1 → ⊥
  not_by_settled true status e one = omega (arith, e, one)
  not_by_settled false status e one = omega (arith, e, one)

  not_of_points : (c : Translation) (lines : List scripts.Line) (input : List ℕ) (begins status : ℕ) (output : List ℕ) →
      SweptScript c (record { lines = lines; input = input; begins = begins }) status output → status ≡ 1 → ⊥
  not_of_points c lines input begins status output (unswept_script fault at refused) one = let six = refused.0 in omega (arith, six, one)
  not_of_points c lines input begins status output (swept none few all) one = not_by_settled _ status all.status_is one

  of_sweep : (log : Log) (input : List ℕ) (status : ℕ) (output : List ℕ) → SweepAnswer log input status output →
      Verdict log (source_of input) status output
  of_sweep log input status output (unswept found place is told) = breaks found place is told
  of_sweep log input status output (no_points flat is x read told) = keeps flat is (λ one. let six = told.0 in omega (arith, six, one))
  of_sweep log input status output (of_points flat is lines read c made answer) =
      keeps flat is (not_of_points c lines input (rest_begins input) status output answer)

  not_of_recover : (turns : ℕ) (input : List ℕ) (status : ℕ) (output : List ℕ) → RecoverAnswer turns input status output → status ≡ 1 → ⊥
  not_of_recover turns input status output (no_image error is e told) one = omega (arith, e, one)
  not_of_recover turns input status output (of_image image is on recovery) one = not_by_unsettled _ status recovery.reported.status_is one

  not_of_upgraded : (source : List ℕ) (c : Translation) (w : World) (kept : List (List ℕ)) (status : ℕ) (output : List ℕ) →
      IsUpgradeSaid source c w kept status output → status ≡ 1 → ⊥
  not_of_upgraded source c w kept status output (unfinished goes_on told) one = not_by_unsettled _ status told.status_is one
  not_of_upgraded source c w kept status output (too_long settled many e told) one = omega (arith, e, one)
  not_of_upgraded source c w kept status output (renewed settled fits e told read) one = omega (arith, e, one)

  not_of_upgrade : (turns : ℕ) (input : List ℕ) (status : ℕ) (output : List ℕ) → UpgradeAnswer turns input status output → status ≡ 1 → ⊥
  not_of_upgrade turns input status output (not_older error is e told) one = omega (arith, e, one)
  not_of_upgrade turns input status output (of_older image source is on upgrade) one =
      not_of_upgraded source (translation_in image.compiled) _ _ status output upgrade.said one

  -- ---- A script that isn't spelled as one

  module _ (log : Log) (Says : Translation → List Event → ℕ → List ℕ → Type 0) (input : List ℕ) (flat : f.Flat)
      (is : IsAcceptedAs log (source_of input) flat)
      (x : scripts.Fault) (bad : scripts.read log (length flat.threads) (rest_of input) ≡ scripts.Refused x) where
    reading : (other : f.Flat) → IsAcceptedAs log (source_of input) other →
        scripts.read log (length other.threads) (rest_of input) ≡ scripts.Refused x
    reading other also = ap (λ (z : f.Flat). scripts.read log (length z.threads) (rest_of input))
        (one_flat log log (source_of input) other flat also is) ∙ bad

    misspelling : (status : ℕ) (output : List ℕ) → ScriptedAnswer log Says input status output →
        IsRefusedAt 6 (script_fault_code x) input (rest_begins input + script_fault_place x) status output
    misspelling status output (unplayed found place broken told) = absurd (not_both log (source_of input) flat found place is broken)
    misspelling status output (no_script other also y read told) =
        let both : scripts.Refused y ≡ scripts.Refused x = sym read ∙ reading other also in
        let same : y ≡ x = cc both in
        subst (λ z. IsRefusedAt 6 (script_fault_code z) input (rest_begins input + script_fault_place z) status output) same told
    misspelling status output (of_script other also lines read c made answer) =
        let both : scripts.Lines lines ≡ scripts.Refused x = sym read ∙ reading other also in cc both

    one_misspelling : (status other : ℕ) (output written : List ℕ) → ScriptedAnswer log Says input status output →
        ScriptedAnswer log Says input other written → Same status other output written
    one_misspelling status other output written told more =
        let one = misspelling status output told in
        let two = misspelling other written more in
        (one.0 ∙ sym two.0, one.1 ∙ sym two.1)

  -- that of a sweep
  module _ (log : Log) (input : List ℕ) (flat : f.Flat) (is : IsAcceptedAs log (source_of input) flat) (x : scripts.Fault)
      (bad : scripts.read log (length flat.threads) (rest_of input) ≡ scripts.Refused x) where
    read_again : (other : f.Flat) → IsAcceptedAs log (source_of input) other →
        scripts.read log (length other.threads) (rest_of input) ≡ scripts.Refused x
    read_again other also = ap (λ (z : f.Flat). scripts.read log (length z.threads) (rest_of input))
        (one_flat log log (source_of input) other flat also is) ∙
        bad

    no_sweep : (status : ℕ) (output : List ℕ) → SweepAnswer log input status output →
        IsRefusedAt 6 (script_fault_code x) input (rest_begins input + script_fault_place x) status output
    no_sweep status output (unswept found place broken told) = absurd (not_both log (source_of input) flat found place is broken)
    no_sweep status output (no_points other also y read told) =
        let both : scripts.Refused y ≡ scripts.Refused x = sym read ∙ read_again other also in
        let same : y ≡ x = cc both in
        subst (λ z. IsRefusedAt 6 (script_fault_code z) input (rest_begins input + script_fault_place z) status output) same told
    no_sweep status output (of_points other also lines read c made answer) =
        let both : scripts.Lines lines ≡ scripts.Refused x = sym read ∙ read_again other also in cc both

    one_missing_sweep : (status other : ℕ) (output written : List ℕ) → SweepAnswer log input status output → SweepAnswer log input other written →
        Same status other output written
    one_missing_sweep status other output written told more =
        let one = no_sweep status output told in
        let two = no_sweep other written more in
        (one.0 ∙ sym two.0, one.1 ∙ sym two.1)

  -- ---- All words

  one_within : (d : c.Command) (input : List ℕ) (status other : ℕ) (output written : List ℕ) → (IsPastLimits d input → ⊥) → IsUncompiled (Some d) input status →
      CommandAnswer d input status output → CommandAnswer d input other written → Same status other output written
  one_within d input status other output written within (past d' e over) told more =
      let same : d ≡ d' = cc e in
      absurd (within (subst (λ z. IsPastLimits z input) (sym same) over))
  one_within (command.Compile scheme) input status other output written within (plain n) told more = absurd n
  one_within (command.Compile scheme) input status other output written within (breaks_rule one) told more =
      one_refusal (log_by scheme) input status other output written one (of_compile (log_by scheme) input status output told)
      (of_compile (log_by scheme) input other written more)
  one_within (command.Compile scheme) input status other output written within (misspelled log takes flat is x bad) told more = absurd takes
  one_within (command.Regions least) input status other output written within (plain n) told more = absurd n
  one_within (command.Regions least) input status other output written within (breaks_rule one) told more =
      one_refusal command_log input status other output written one (of_regions least input status output told) (of_regions least input other written more)
  one_within (command.Regions least) input status other output written within (misspelled log takes flat is x bad) told more = absurd takes
  one_within (command.Play fences scheme) input status other output written within (plain n) told more = absurd n
  one_within (command.Play fences scheme) input status other output written within (breaks_rule one) told more =
      one_refusal (log_by scheme) (source_of input) status other output written one (of_play (log_by scheme) fences input status output told)
      (of_play (log_by scheme) fences input other written more)
  one_within (command.Play fences scheme) input status other output written within (misspelled log takes flat is x bad) told more =
      one_misspelling log (IsPlayed fences) input flat is x bad status other output written
      (subst (λ (l : Log). PlayAnswer l fences input status output) (sym takes) told)
      (subst (λ (l : Log). PlayAnswer l fences input other written) (sym takes) more)
  one_within (command.Image scheme) input status other output written within (plain n) told more = absurd n
  one_within (command.Image scheme) input status other output written within (breaks_rule one) told more =
      one_refusal (log_by scheme) (source_of input) status other output written one (of_image_of (log_by scheme) input status output told)
      (of_image_of (log_by scheme) input other written more)
  one_within (command.Image scheme) input status other output written within (misspelled log takes flat is x bad) told more =
      one_misspelling log (IsImageAfter (source_of input)) input flat is x bad status other output written
      (subst (λ (l : Log). ImageAnswer l input status output) (sym takes) told)
      (subst (λ (l : Log). ImageAnswer l input other written) (sym takes) more)
  one_within command.Order input status other output written within (plain n) told more = one_order input status other output written told more
  one_within command.Order input status other output written within (breaks_rule one) told more = one_order input status other output written told more
  one_within command.Order input status other output written within (misspelled log takes flat is x bad) told more = absurd takes
  one_within (command.Recover turns) input status other output written within (plain n) told more = absurd n
  one_within (command.Recover turns) input status other output written within (breaks_rule one) told more =
      absurd (not_of_recover turns input status output told one)
  one_within (command.Recover turns) input status other output written within (misspelled log takes flat is x bad) told more = absurd takes
  one_within (command.Upgrade turns) input status other output written within (plain n) told more = absurd n
  one_within (command.Upgrade turns) input status other output written within (breaks_rule one) told more =
      absurd (not_of_upgrade turns input status output told one)
  one_within (command.Upgrade turns) input status other output written within (misspelled log takes flat is x bad) told more = absurd takes
  one_within (command.Make rounds seed) input status other output written within (plain n) told more =
      one_generated rounds seed status other output written told more
  one_within (command.Make rounds seed) input status other output written within (breaks_rule one) told more =
      one_generated rounds seed status other output written told more
  one_within (command.Make rounds seed) input status other output written within (misspelled log takes flat is x bad) told more = absurd takes
  one_within (command.Seeded seed turns crashes journal scheme) input status other output written within (plain n) told more = absurd n
  one_within (command.Seeded seed turns crashes journal scheme) input status other output written within (breaks_rule one) told more =
      one_refusal (log_by scheme) input status other output written one (of_seeded (log_by scheme) seed turns crashes journal input status output told)
      (of_seeded (log_by scheme) seed turns crashes journal input other written more)
  one_within (command.Seeded seed turns crashes journal scheme) input status other output written within (misspelled log takes flat is x bad) told more =
      absurd takes
  one_within (command.Live turns crashes evict journal scheme) input status other output written within (plain n) told more = absurd n
  one_within (command.Live turns crashes evict journal scheme) input status other output written within (breaks_rule one) told more =
      one_refusal (log_by scheme) input status other output written one (of_live (log_by scheme) turns crashes evict journal input status output told)
      (of_live (log_by scheme) turns crashes evict journal input other written more)
  one_within (command.Live turns crashes evict journal scheme) input status other output written within (misspelled log takes flat is x bad) told more =
      absurd takes
  one_within (command.Load rounds seed scheme) input status other output written within (plain n) told more = absurd n
  one_within (command.Load rounds seed scheme) input status other output written within (breaks_rule one) told more =
      one_refusal (log_by scheme) (generated_source rounds seed) status other output written one (of_load (log_by scheme) rounds seed status output told)
      (of_load (log_by scheme) rounds seed other written more)
  one_within (command.Load rounds seed scheme) input status other output written within (misspelled log takes flat is x bad) told more = absurd takes
  one_within (command.Sweep scheme) input status other output written within (plain n) told more = absurd n
  one_within (command.Sweep scheme) input status other output written within (breaks_rule one) told more =
      one_refusal (log_by scheme) (source_of input) status other output written one (of_sweep (log_by scheme) input status output told)
      (of_sweep (log_by scheme) input other written more)
  one_within (command.Sweep scheme) input status other output written within (misspelled log takes flat is x bad) told more =
      one_missing_sweep log input flat is x bad status other output written (subst (λ (l : Log). SweepAnswer l input status output) (sym takes) told)
      (subst (λ (l : Log). SweepAnswer l input other written) (sym takes) more)
  one_within command.Source input status other output written within (plain n) told more = one_source input status other output written told more
  one_within command.Source input status other output written within (breaks_rule one) told more = one_source input status other output written told more
  one_within command.Source input status other output written within (misspelled log takes flat is x bad) told more =
      one_source input status other output written told more
  one_within command.List input status other output written within (plain n) told more = one_list input status other output written told more
  one_within command.List input status other output written within (breaks_rule one) told more = one_list input status other output written told more
  one_within command.List input status other output written within (misspelled log takes flat is x bad) told more =
      one_list input status other output written told more

  one_to_input : (d : c.Command) (input : List ℕ) (status other : ℕ) (output written : List ℕ) → IsUncompiled (Some d) input status →
      AnswerToInput d input status output → AnswerToInput d input other written → Same status other output written
  one_to_input d input status other output written n (past_limits over (e, told)) (past_limits over' (h, more)) = (e ∙ sym h, told ∙ sym more)
  one_to_input d input status other output written n (past_limits over told) (within_limits within more) = absurd (within over)
  one_to_input d input status other output written n (within_limits within told) (past_limits over more) = absurd (within over)
  one_to_input d input status other output written n (within_limits within told) (within_limits within' more) =
      one_within d input status other output written within n told more

  pub one_answer : OneAnswer
  one_answer words input status other output written n (wrong_words wrong (e, told)) (wrong_words wrong' (h, more)) = (e ∙ sym h, told ∙ sym more)
  one_answer words input status other output written n (wrong_words wrong told) (taken_words d taken more) = let both : None ≡ Some d = sym wrong ∙ taken in
      cc both
  one_answer words input status other output written n (taken_words d taken told) (wrong_words wrong more) = let both : None ≡ Some d = sym wrong ∙ taken in
      cc both
  one_answer words input status other output written n (taken_words d taken told) (taken_words d' taken' more) =
      let both : Some d ≡ Some d' = sym taken ∙ taken' in
      let same : d ≡ d' = cc both in
      one_to_input d' input status other output written (subst (λ o. IsUncompiled o input status) taken' n)
      (subst (λ z. AnswerToInput z input status output) same told) more
