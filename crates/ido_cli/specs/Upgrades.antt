-- What is said of an image of an older version that is brought to the newest: recovered first, so that every thread stands between sections.
use Rattle.std.specs.Prelude.{◌≡◌, ◌≢◌, ℕ, ◌+◌, ◌*◌, ◌<◌, ◌≤◌, List, [], ◌∷◌, ◌++◌, length, map, replicate, sum_by, take, true, false, Some, None, Err, codes}
use Rattle.machine_events.specs.declared.event.Event.{Event}
use Rattle.machine_events.specs.declared.event.Event.TheVariants.{Crash}
use Rattle.ido_base.specs.declared.limits.TheConstants.{MOST_STEPS}
use Rattle.log_schemes.specs.declared.log.Log.{Log}
use Rattle.flat_compile.specs.TranslatedForms.{command_log}
use Rattle.ido_base.specs.declared.place.Place.{Place}
use Rattle.log_schemes.specs.Layout.{log_words}
use Rattle.ido_base.specs.Words.{durable_value}
use Rattle.c_tree.specs.declared.rule.Rule.{Rule}
use Rattle.c_tree.specs.Flats.{flat_of}
use Rattle.run_scripts.specs.Reports.{line}
use Rattle.image_checks.specs.Checks.{IsThreadFault}
use Rattle.image_checks.specs.Logs.{logs_of}
use Rattle.image_checks.specs.RunImages.{file_state, left_by}
use Rattle.machine_model.specs.Machine.{World, is_settled}
use Rattle.machine_model.specs.Schedule.{schedules}
use Rattle.compiler_correctness.specs.Images as left
use Rattle.compiler_correctness.specs.Images.{file_of, image_in, image_of, steps_from, variable_words, world_from}
use Rattle.compiler_correctness.specs.Translations.{Translation}
use Rattle.hart_driver.specs.Legs.{IsLeg}
use Rattle.ido_compile.specs.declared.compiler.Compiled.{Compiled}
use Rattle.ido_compile.specs.CompileAnswers.{IsCompiledAs, translation_in}
use Rattle.ido_compile.specs.LoggedTexts.{IsRefusedAs}
use Rattle.crash_images.specs.Contents.{Contents, contents}
use Rattle.crash_images.specs.ImageDecoder.{IsReadAs}
use Rattle.crash_images.specs.ImageEncoder.{spelling}
use Rattle.crash_images.specs.declared.version.ImageVersion.{ImageVersion}
use Rattle.crash_images.specs.declared.version.ImageVersion.TheVariants.{Second, Third}
use Rattle.image_checks.specs.declared.error.ImageError.{ImageError}
use Rattle.image_checks.specs.declared.error.ImageError.TheVariants as e
use Rattle.ido_cli.specs.declared.compiled_image.Image.{Image}
use Rattle.ido_cli.specs.CompiledImages.{BeginsCompiled, IsImage, IsImageAnswer}
use Rattle.ido_cli.specs.Plays.{IsRunBy}
use Rattle.ido_cli.specs.Recoveries.{recovering}
use Rattle.ido_cli.specs.Refusals.{image_line, line_at_step}
use Rattle.ido_cli.specs.Reports.{machine_state}
use Rattle.ido_cli.specs.Runs.{IsReport}
use Rattle.ido_cli.specs.ThreadedRuns.{leg_after}

-- ---- What is read

-- an image of a version before the newest, of this source, which is accepted for the newest log too
pub record IsOlderImage (bytes : List ℕ) (image : Image) (source : List ℕ) : Type 0 where
  pub is : IsImage Second bytes image
  pub source_is : is.is.source.source ≡ source
  pub again : Compiled
  pub accepted : IsCompiledAs command_log source again

-- where the bytes begin with a source that is compiled for the log of its version, it isn't refused for the newest one
abbrev pub IsTakenAnew : (bytes : List ℕ) → Type 0
IsTakenAnew bytes = (version : ImageVersion) (c : Compiled) (rule : Rule) (place : Place) → (begins : BeginsCompiled Second bytes version c) →
    IsRefusedAs command_log begins.source rule place → ⊥

-- the first fault of bytes that are none
pub data IsOlderFault (bytes : List ℕ) : ImageError → Type 0 where
  -- one of an image of its version; it stands before the source's end, or the source is accepted for the newest log too
  faulty : (error : ImageError) → IsImageAnswer Second bytes (Err error) → IsTakenAnew bytes → IsOlderFault bytes error
  -- the bytes up to the end of the source have none, but the source is refused for the newest log
  refused_anew : (version : ImageVersion) (c : Compiled) (rule : Rule) (place : Place) (begins : BeginsCompiled Second bytes version c) →
      IsRefusedAs command_log begins.source rule place → IsOlderFault bytes e.Source
  -- want of memory tells nothing
  unknown : IsOlderFault bytes e.Memory

-- ---- What is said

-- the words of the logs of so many threads, none of which is inside a section
abbrev pub idle_logs : (threads : ℕ) → List ℕ
idle_logs threads = replicate (log_words command_log * threads) 0

-- an image of a world where every thread stands between sections: the durable words of the variables, logs without a word, and the kept schedules
abbrev pub renewed_contents : (source : List ℕ) → Translation → World → (kept : List (List ℕ)) → Contents
renewed_contents source c w kept = contents source (take (variable_words c) (map durable_value w.words)) (idle_logs (length c.runs.program)) kept

-- of a world with these kept schedules
pub data IsUpgradeSaid (source : List ℕ) (c : Translation) (w : World) (kept : List (List ℕ)) (status : ℕ) (output : List ℕ) : Type 0 where
  -- a hart isn't settled, as the report says
  unfinished : is_settled w ≡ false → IsReport (machine_state c.flat w kept) status output → IsUpgradeSaid source c w kept status output
  -- a file can't have so many steps
  too_long : is_settled w ≡ true → MOST_STEPS < sum_by length kept → status ≡ 6 → output ≡ line_at_step (codes "I9") (MOST_STEPS + 1) →
      IsUpgradeSaid source c w kept status output
  -- status 0, and the bytes of the image, which are read as what they spell
  renewed : is_settled w ≡ true → sum_by length kept ≤ MOST_STEPS → status ≡ 0 → output ≡ spelling Third (renewed_contents source c w kept) →
      IsReadAs Third (renewed_contents source c w kept) output → IsUpgradeSaid source c w kept status output

-- a leg as `recover` makes it, and what is said of the machine after it
pub record IsUpgrade (source : List ℕ) (c : Translation) (file : left.Image) (turns status : ℕ) (output : List ℕ) : Type 0 where
  pub journal : List Event
  pub leg : IsLeg (leg_after (recovering c file) turns None [] None) journal
  pub said : IsUpgradeSaid source c (world_from c (image_in c file) journal) (schedules (steps_from c (image_in c file) journal)) status output
  -- Where the file is what a crash leaves after events of the same translation, the report of that machine is what `play` says of these events, a crash, and
  -- the leg.
  pub goes_on : (before : List Event) → file ≡ file_of c (image_of c before) → (found : ℕ) (report : List ℕ) →
      IsReport (machine_state c.flat (world_from c (image_in c file) journal) (schedules (steps_from c (image_in c file) journal))) found report →
      IsRunBy c (before ++ Crash ∷ journal) found report

-- ---- The image of a run

-- what is said of an image of an older version that a run of a translation has left, whose threads log so
pub data IsUpgradedRun (log : Log) (source : List ℕ) (c : Translation) (before : List Event) (turns status : ℕ) (output : List ℕ) : Type 0 where
  -- It is read as what was left, and the source compiled again. Where that is the same translation, its run goes on, and so it is refused only where it has
  -- kept more steps than a file can have.
  upgraded : (again : Compiled) → IsCompiledAs log source again → IsUpgrade source (translation_in again) (left_by c before) turns status output →
      IsUpgradedRun log source c before turns status output
  -- the source is refused for the newest log
  not_taken : (rule : Rule) (place : Place) → IsRefusedAs command_log source rule place → status ≡ 6 → output ≡ line (codes "refused I4") →
      IsUpgradedRun log source c before turns status output
  -- the source is compiled to another translation, and a thread can't be resumed by its places
  elsewhere : (other : Compiled) (error : ImageError) → IsCompiledAs log source other → translation_in other ≢ c →
      IsThreadFault (flat_of other.flat) other.translated.resumes.items (logs_of log (file_state c (left_by c before)).logs) error → status ≡ 6 →
      image_line error ≡ Some output → IsUpgradedRun log source c before turns status output
