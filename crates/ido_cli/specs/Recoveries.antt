-- What is said of a run that goes on from what a crash has left, and of the image of a run.
use Rattle.std.specs.Prelude.{◌≡◌, ◌≢◌, ℕ, List, [], ◌∷◌, ◌++◌, Some, None}
use Rattle.machine_events.specs.declared.event.Event.{Event}
use Rattle.machine_events.specs.declared.event.Event.TheVariants.{Crash}
use Rattle.c_tree.specs.Flats.{flat_of}
use Rattle.compiler_correctness.specs.Translations.{Translation}
use Rattle.compiler_correctness.specs.Images.{Image, file_of, first_from, image_in, image_of, steps_from, world_from}
use Rattle.ido_compile.specs.declared.compiler.Compiled.{Compiled}
use Rattle.ido_compile.specs.CompileAnswers.{IsCompiledAs, translation_in}
use Rattle.image_checks.specs.declared.error.ImageError.{ImageError}
use Rattle.log_schemes.specs.declared.log.Log.{Log}
use Rattle.image_checks.specs.Checks.{IsThreadFault}
use Rattle.image_checks.specs.Logs.{logs_of}
use Rattle.image_checks.specs.RunImages.{file_state, left_by}
use Rattle.machine_model.specs.Schedule.{schedules}
use Rattle.run_tracker.specs.ObjectLives.{LifeConfig}
use Rattle.hart_driver.specs.Legs.{IsLeg}
use Rattle.ido_cli.specs.Plays.{IsRunBy}
use Rattle.ido_cli.specs.Refusals.{image_line}
use Rattle.ido_cli.specs.Reports.{machine_state}
use Rattle.ido_cli.specs.Runs.{IsReport}
use Rattle.ido_cli.specs.ThreadedRuns.{leg_after}

-- The machine of a translation before any event, where power returns over the words of a file. Nobody tells it how many sections have ended by its schedules:
-- the report runs the source.
abbrev pub recovering : Translation → (file : Image) → LifeConfig
recovering c file = record {
  runs = c.runs;
  kept_before = file.kept;
  ended_before = [];
  world = first_from c (image_in c file);
}

-- A leg, and then the report of the machine: status 0, and its durable variables, the ended sections and the kept schedules, exactly where each hart is
-- settled, else status 3 and the harts that aren't. Each of the kept schedules begins with that of its life in the file.
pub record IsRecovery (c : Translation) (file : Image) (turns status : ℕ) (output : List ℕ) : Type 0 where
  pub journal : List Event
  pub leg : IsLeg (leg_after (recovering c file) turns None [] None) journal
  pub reported : IsReport (machine_state c.flat (world_from c (image_in c file) journal) (schedules (steps_from c (image_in c file) journal))) status output
  -- Where the file is what a crash leaves after events of the same translation, this is what `play` says of these events, a crash, and the leg; so at
  -- status 0 the output is that of the source's own run of the schedules that are printed.
  pub goes_on : (before : List Event) → file ≡ file_of c (image_of c before) → IsRunBy c (before ++ Crash ∷ journal) status output

-- ---- The image of a run

-- what is said of the image that a run of a translation has left, whose threads log so
pub data IsRecoveredRun (log : Log) (source : List ℕ) (c : Translation) (before : List Event) (turns status : ℕ) (output : List ℕ) : Type 0 where
  -- It is read as what was left, and the source compiled again. Where that is the same translation, its run goes on: `goes_on` says so of these events.
  recovered : (again : Compiled) → IsCompiledAs log source again → IsRecovery (translation_in again) (left_by c before) turns status output →
      IsRecoveredRun log source c before turns status output
  -- the source is compiled to another translation, and a thread can't be resumed by its places
  refused : (other : Compiled) (error : ImageError) → IsCompiledAs log source other → translation_in other ≢ c →
      IsThreadFault (flat_of other.flat) other.translated.resumes.items (logs_of log (file_state c (left_by c before)).logs) error → status ≡ 6 →
      image_line error ≡ Some output → IsRecoveredRun log source c before turns status output
