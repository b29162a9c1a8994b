-- What `upgrade` says of the image of a run.
use Rattle.std.proofs.Common.{◌≡◌, ℕ, ◌≤◌, List, ap, sym, subst, ◌∙◌, arith, Result, Ok, Err, Some}
use Rattle.std.specs.Prelude.{codes}
use Rattle.std.proofs.lemmas.Option.{none-some, same_Some}
use Rattle.machine_events.specs.declared.event.Event.{Event}
use Rattle.compiler_correctness.specs.Images as files
use Rattle.compiler_correctness.specs.Translations.{Translation}
use Rattle.crash_images.specs.Contents.{log_of, number_of}
use Rattle.crash_images.specs.declared.version.ImageVersion.{ImageVersion}
use Rattle.crash_images.specs.declared.version.ImageVersion.TheVariants.{Second}
use Rattle.crash_simulation.specs.AccountRelation.{MachinesResume}
use Rattle.compiler_correctness.specs.Laws.{MachinesRecord}
use Rattle.ido_compile.specs.CompileAnswers.{translation_in}
use Rattle.ido_compile.specs.LoggedTexts.{IsRefusedAs}
use Rattle.ido_compile.specs.Verdicts.{NotBoth, OneFlat}
use Rattle.ido_compile.specs.declared.compiler.Compiled.{Compiled}
use Rattle.image_checks.specs.Laws.{RunsLeaveNoFault, RunsLeaveReferences}
use Rattle.image_checks.specs.RunImages.{left_by}
use Rattle.image_checks.specs.declared.error.ImageError.{ImageError}
use Rattle.flat_compile.specs.TranslatedForms.{command_log}
use Rattle.ido_cli.specs.declared.compiled_image.Image.{Image}
use Rattle.run_scripts.specs.Reports.{line}
use Rattle.ido_cli.specs.Answers.{UpgradeAnswer, file_in, not_older, of_older}
use Rattle.ido_cli.specs.CompiledImages.{BeginsCompiled, IsImageAnswer, whole}
use Rattle.ido_cli.specs.ImagesReadAgain.{IsReadAgain, IsRunImage, again, no_memory}
use Rattle.ido_cli.specs.ImagesReadAgain as reads
use Rattle.ido_cli.specs.Laws.{RunImagesAreUpgraded}
use Rattle.ido_cli.specs.Refusals.{image_line}
use Rattle.ido_cli.specs.Upgrades.{IsOlderFault, IsUpgrade, IsUpgradedRun, elsewhere, faulty, not_taken, refused_anew, unknown, upgraded}
use Rattle.ido_cli.proofs.RecoveredImages.{file_again}
use Rattle.ido_cli.proofs.RunImageAnswers.{run_image_source, run_images_are_read}

module _ (one_flat : OneFlat) (not_both : NotBoth) (machines : MachinesResume) (records : MachinesRecord) (no_fault : RunsLeaveNoFault)
    (references : RunsLeaveReferences) (version : ImageVersion) (source input : List ℕ) (c : Translation) (before : List Event) (turns status : ℕ)
    (output : List ℕ) (older : number_of version ≤ number_of Second) (is : IsRunImage version source c before input) where
  abbrev Upgraded : Type 0
  Upgraded = IsUpgradedRun (log_of version) source c before turns status output

  abbrev Read : Result Image ImageError → Type 0
  Read result = IsReadAgain (log_of version) source c (left_by c before) result

  read : (result : Result Image ImageError) → IsImageAnswer Second input result → Read result
  read result told =
      run_images_are_read one_flat not_both machines records no_fault references Second version source input c before result older is
      told

  source_same : (v : ImageVersion) (d : Compiled) (b : BeginsCompiled Second input v d) → b.source ≡ source
  source_same v d b =
      run_image_source one_flat not_both machines records no_fault references Second version older source input c before is v d b

  not_read : (error : ImageError) → status ≡ 6 → image_line error ≡ Some output → Read (Err error) → Upgraded
  not_read error six told (reads.elsewhere d x of differs fault) = elsewhere d x of differs fault six told
  not_read error six told no_memory = absurd (none-some output told)

  faulty_by : (error : ImageError) → status ≡ 6 → image_line error ≡ Some output → IsOlderFault input error → Upgraded
  faulty_by error six told (faulty x answer taken) = not_read error six told (read (Err error) answer)
  faulty_by error six told (refused_anew v d rule place b broken) =
      not_taken rule place (subst (λ (text : List ℕ). IsRefusedAs command_log text rule place) (source_same v d b) broken) six
      (same_Some output (line (codes "refused I4")) (sym told))
  faulty_by error six told unknown = absurd (none-some output told)

  is_read : (image : Image) (text : List ℕ) → text ≡ source → IsUpgrade text (translation_in image.compiled) (file_in image) turns status output →
      Read (Ok image) → Upgraded
  is_read image text same upgrade (again x of words schedules) =
      upgraded x.compiled of
      (subst (λ (z : files.Image). IsUpgrade source (translation_in x.compiled) z turns status output) (file_again x (left_by c before) words schedules)
      (subst (λ (t : List ℕ). IsUpgrade t (translation_in x.compiled) (file_in x) turns status output) same upgrade))

  pub by : UpgradeAnswer turns input status output → Upgraded
  by (not_older error fault six told) = faulty_by error six told fault
  by (of_older image text older on upgrade) =
      is_read image text (sym older.source_is ∙ source_same older.is.version image.compiled older.is.is.source) upgrade (read (Ok image) (whole image older.is))

pub run_images_are_upgraded : OneFlat → NotBoth → MachinesResume → MachinesRecord → RunsLeaveNoFault → RunsLeaveReferences → RunImagesAreUpgraded
run_images_are_upgraded one_flat not_both machines records no_fault references version source image c before turns status output older is told =
    by one_flat not_both machines records no_fault references version source image c before turns status output older is told
