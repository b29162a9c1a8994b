-- What `recover` says of the image of a run.
use Rattle.std.proofs.Common.{◌≡◌, ℕ, ◌≤◌, List, length, refl, ap, ap₂, sym, ◌∙◌, subst, arith, Result, Ok, Err, Some}
use Rattle.std.specs.Prelude.{sum_by}
use Rattle.std.proofs.lemmas.Option.{none-some}
use Rattle.machine_events.specs.declared.event.Event.{Event}
use Rattle.ido_base.specs.declared.limits.TheConstants.{MOST_EVENTS, MOST_STEPS}
use Rattle.machine_model.specs.Executables.{first_world}
use Rattle.compiler_correctness.specs.Images as files
use Rattle.compiler_correctness.specs.Translations.{Translation}
use Rattle.ido_compile.specs.CompileAnswers.{translation_in}
use Rattle.image_checks.specs.declared.error.ImageError.{ImageError}
use Rattle.image_checks.specs.RunImages.{left_by, file_contents}
use Rattle.log_schemes.specs.declared.log.Log.{Log}
use Rattle.flat_compile.specs.TranslatedForms.{IsTranslatedAs}
use Rattle.ido_compile.specs.LoggedTexts.{IsAcceptedAs}
use Rattle.crash_images.specs.ImageDecoder.{IsReadAs}
use Rattle.command_words.specs.declared.scheme.SchemeName.{SchemeName}
use Rattle.command_words.specs.declared.scheme.SchemeName.TheVariants.{Ido, Justdo}
use Rattle.ido_cli.specs.Schemes.{log_by}
use Rattle.ido_cli.specs.declared.compiled_image.Image.{Image}
use Rattle.crash_images.specs.Contents.{log_of, number_of, written_as}
use Rattle.crash_images.specs.declared.version.ImageVersion.{ImageVersion}
use Rattle.crash_images.specs.declared.version.ImageVersion.TheVariants.{First, Second, Third, Fourth}
use Rattle.ido_cli.specs.CompiledImages.{IsImageAnswer}
use Rattle.ido_cli.specs.ImagesReadAgain.{IsReadAgain, IsRunImage, again, elsewhere, no_memory, RunImagesAreRead}
use Rattle.ido_cli.specs.Answers.{RecoverAnswer, no_image, of_image, file_in}
use Rattle.ido_cli.specs.Laws.{RunImagesAreRecovered, RunsAreRecovered}
use Rattle.ido_cli.specs.Recoveries.{IsRecovery, IsRecoveredRun, recovered, refused}
use Rattle.ido_cli.specs.Refusals.{image_line}
use Rattle.machine_model.specs.Schedule.{LifeSchedules, all_lives}
use Rattle.ido_cli.proofs.LastLifeApart.{same_lives}
use Rattle.ido_cli.proofs.KeptStepsBounded.{first_kept_few}
use Rattle.run_tracker.specs.links.EarlierLives.{lives_in}

few : (c : Translation) (events : List Event) → length events ≤ MOST_EVENTS → sum_by length (all_lives (left_by c events).kept) ≤ MOST_STEPS
few c events short =
    let kept : sum_by length (all_lives (left_by c events).kept) ≤ length events =
    first_kept_few c.runs.marks c.runs.program (first_world c.runs) events in
    omega (arith, kept, short)

no_newer : (version : ImageVersion) → number_of version ≤ number_of Fourth
no_newer First = omega arith
no_newer Second = omega arith
no_newer Third = omega arith
no_newer Fourth = omega arith

-- the version that is written for the log of a scheme is one of that log
of_log : (scheme : SchemeName) → log_of (written_as (log_by scheme)) ≡ log_by scheme
of_log Ido = refl
of_log Justdo = refl

-- the file in the image that is read again is what was left
pub file_again : (image : Image) (left : files.Image) → image.words.items ≡ left.words →
    all_lives (lives_in image.lives.earlier.items image.lives.schedule.items) ≡ all_lives left.kept → file_in image ≡ left
file_again image left words schedules =
    ap₂ (λ (ws : List ℕ) (lives : LifeSchedules). let z : files.Image = record { words = ws; kept = lives } in z) words
    (same_lives (file_in image).kept left.kept schedules)

module _ (law : RunImagesAreRead) (version : ImageVersion) (source image : List ℕ) (c : Translation) (before : List Event)
    (is : IsRunImage version source c before image) (turns status : ℕ) (output : List ℕ) where
  abbrev Recovered : Type 0
  Recovered = IsRecoveredRun (log_of version) source c before turns status output

  abbrev Read : Result Image ImageError → Type 0
  Read result = IsReadAgain (log_of version) source c (left_by c before) result

  read : (result : Result Image ImageError) → IsImageAnswer Fourth image result → Read result
  read result told = law Fourth version source image c before result (no_newer version) is told

  not_read : (error : ImageError) → status ≡ 6 → image_line error ≡ Some output → Read (Err error) → Recovered
  not_read error six line (elsewhere d x of differs fault) = refused d x of differs fault six line
  not_read error six line no_memory = absurd (none-some output line)

  is_read : (found : Image) → IsRecovery (translation_in found.compiled) (file_in found) turns status output → Read (Ok found) → Recovered
  is_read found recovery (again x of words schedules) =
      recovered x.compiled of
      (subst (λ (z : files.Image). IsRecovery (translation_in x.compiled) z turns status output) (file_again x (left_by c before) words schedules) recovery)

  by : RecoverAnswer turns image status output → Recovered
  by (no_image error told six line) = not_read error six line (read (Err error) told)
  by (of_image found told on recovery) = is_read found recovery (read (Ok found) told)

pub run_images_are_recovered : RunImagesAreRead → RunImagesAreRecovered
run_images_are_recovered law version source image c before turns status output is told = by law version source image c before is turns status output told

pub runs_are_recovered : RunImagesAreRead → RunsAreRecovered
runs_are_recovered law scheme source image flat c before turns status answer output accepted of short written told =
    let log = log_by scheme in
    let version = written_as log in
    let logs : c.runs.log ≡ log = ap (λ (x : Translation). x.runs.log) of.is ∙ of.translated.log in
    let same = of_log scheme in
    let is : IsRunImage version source c before image = record {
      flat = flat;
      object = of.object;
      marks = of.marks;
      cuts = of.cuts;
      is = of.is;
      accepted = subst (λ (l : Log). IsAcceptedAs l source flat) (sym same) accepted;
      translated = subst (λ (l : Log). IsTranslatedAs l flat of.object of.marks of.cuts) (sym same) of.translated;
      few = few c before short;
      spelled = subst (λ (l : Log). IsReadAs (written_as l) (file_contents source c (left_by c before)) image) logs written.read_as;
    } in
    subst (λ (l : Log). IsRecoveredRun l source c before turns answer output) same (by law version source image c before is turns answer output told)
