-- What reading the image file of a run again comes to.
use Rattle.std.specs.Prelude.{◌≡◌, ◌≢◌, ◌≤◌, ℕ, List, length, sum_by, Result, Ok, Err}
use Rattle.machine_events.specs.declared.event.Event.{Event}
use Rattle.ido_base.specs.declared.limits.TheConstants.{MOST_STEPS}
use Rattle.c_tree.specs.Flats.{Flat, flat_of}
use Rattle.machine_model.specs.declared.object.Object.{Object}
use Rattle.rv64_isa.specs.declared.object.Marks.{Marks}
use Rattle.flow_graph.specs.declared.cuts.Cuts.{Cuts}
use Rattle.ido_compile.specs.LoggedTexts.{IsAcceptedAs}
use Rattle.compiler_correctness.specs.Images as left
use Rattle.compiler_correctness.specs.Translations.{Translation, translation_to}
use Rattle.flat_compile.specs.TranslatedForms.{IsTranslatedAs}
use Rattle.ido_compile.specs.declared.compiler.Compiled.{Compiled}
use Rattle.ido_compile.specs.CompileAnswers.{IsCompiledAs, translation_in}
use Rattle.crash_images.specs.ImageDecoder.{IsReadAs}
use Rattle.crash_images.specs.Contents.{log_of, number_of}
use Rattle.crash_images.specs.declared.version.ImageVersion.{ImageVersion}
use Rattle.image_checks.specs.declared.error.ImageError.{ImageError}
use Rattle.image_checks.specs.declared.error.ImageError.TheVariants as e
use Rattle.log_schemes.specs.declared.log.Log.{Log}
use Rattle.image_checks.specs.Checks.{IsThreadFault}
use Rattle.image_checks.specs.Logs.{logs_of}
use Rattle.image_checks.specs.RunImages.{left_by, file_contents, file_state}
use Rattle.ido_cli.specs.declared.compiled_image.Image.{Image}
use Rattle.ido_cli.specs.CompiledImages.{IsImageAnswer}
use Rattle.machine_model.specs.Schedule.{all_lives}
use Rattle.run_tracker.specs.links.EarlierLives.{lives_in}

-- where bytes spell the file of a run of the translation, whose threads log so
pub data IsReadAgain (log : Log) (source : List ℕ) (c : Translation) (file : left.Image) : Result Image ImageError → Type 0 where
  -- the source is compiled again, and the words and the schedules are the file's
  again : (image : Image) → IsCompiledAs log source image.compiled → image.words.items ≡ file.words →
      all_lives (lives_in image.lives.earlier.items image.lives.schedule.items) ≡ all_lives file.kept → IsReadAgain log source c file (Ok image)
  -- the source is compiled to another translation, and a thread can't be resumed by its places
  elsewhere : (d : Compiled) (error : ImageError) → IsCompiledAs log source d → translation_in d ≢ c →
      IsThreadFault (flat_of d.flat) d.translated.resumes.items (logs_of log (file_state c file).logs) error → IsReadAgain log source c file (Err error)
  -- want of memory tells nothing
  no_memory : IsReadAgain log source c file (Err e.Memory)

-- a run of a translation of the source, and bytes that spell the file that it leaves, in a version of its log
pub record IsRunImage (version : ImageVersion) (source : List ℕ) (c : Translation) (events : List Event) (bytes : List ℕ) : Type 0 where
  pub flat : Flat
  pub object : Object
  pub marks : Marks
  pub cuts : Cuts
  pub is : c ≡ translation_to flat object marks cuts
  pub accepted : IsAcceptedAs (log_of version) source flat
  pub translated : IsTranslatedAs (log_of version) flat object marks cuts
  -- as many kept steps as a file may have
  pub few : sum_by length (all_lives (left_by c events).kept) ≤ MOST_STEPS
  pub spelled : IsReadAs version (file_contents source c (left_by c events)) bytes

-- the file of a run is read as what it is, or memory runs out, where the source is compiled to the same translation again, and its version isn't after the
-- newest that is asked for
abbrev pub RunImagesAreRead : Type 0
RunImagesAreRead = (newest version : ImageVersion) (source bytes : List ℕ) (c : Translation) (events : List Event) (answer : Result Image ImageError) →
    number_of version ≤ number_of newest → IsRunImage version source c events bytes → IsImageAnswer newest bytes answer →
    IsReadAgain (log_of version) source c (left_by c events) answer
