-- What words and an input are answered is at most one thing; an image that `image` wrote is recovered from, and a journal is played.
use Rattle.std.specs.Prelude.{◌≡◌, ◌≤◌, ℕ, List, ◌∷◌, ◌++◌, All, length, true, false, Option, Some, None, codes, if◌then◌else◌}
use Rattle.machine_events.specs.declared.event.Event.{Event}
use Rattle.machine_events.specs.declared.event.Event.TheVariants.{Crash}
use Rattle.machine_events.specs.Cores.{IsValidNow}
use Rattle.ido_base.specs.declared.limits.TheConstants.{MOST_EVENTS}
use Rattle.c_tree.specs.Flats.{Flat}
use Rattle.ido_base.specs.declared.place.Place.{Place}
use Rattle.c_tree.specs.declared.rule.Rule.{Rule}
use Rattle.crash_images.specs.declared.version.ImageVersion.{ImageVersion}
use Rattle.crash_images.specs.declared.version.ImageVersion.TheVariants.{Second, Fourth}
use Rattle.crash_images.specs.Contents.{log_of, number_of}
use Rattle.ido_compile.specs.declared.compiler.Compiled.{Compiled}
use Rattle.ido_compile.specs.LoggedTexts.{IsAcceptedAs, IsRefusedAs}
use Rattle.run_scripts.specs.Reports.{line}
use Rattle.ido_cli.specs.CompiledImages.{BeginsCompiled, IsImage}
use Rattle.compiler_correctness.specs.Images.{image_in}
use Rattle.compiler_correctness.specs.SettledImages.{IsCarriedOn}
use Rattle.flat_compile.specs.TranslatedForms.{command_log}
use Rattle.compiler_correctness.specs.Translations.{Translation}
use Rattle.run_scripts.specs.Journals.{ends_line, journal_text}
use Rattle.run_scripts.specs.Plays.{MayStart}
use Rattle.run_scripts.specs.Scripts.{Fault, IsEviction, Refused, read}
use Rattle.command_words.specs.declared.command.Command.{Command}
use Rattle.command_words.specs.declared.scheme.SchemeName.{SchemeName}
use Rattle.log_schemes.specs.declared.log.Log.{Log}
use Rattle.ido_cli.specs.Schemes.{log_by}
use Rattle.command_words.specs.declared.command.Command.TheVariants as command
use Rattle.command_words.specs.Commands.{command_of}
use Rattle.ido_cli.specs.Images.{IsImageAfter}
use Rattle.ido_cli.specs.Inputs.{source_of, rest_of}
use Rattle.ido_cli.specs.Plays.{IsRunBy, IsTranslationOf, beginning}
use Rattle.run_tracker.specs.ObjectLives.{living}
use Rattle.ido_cli.specs.Recoveries.{IsRecoveredRun}
use Rattle.ido_cli.specs.Answers.{Answer, IsPastLimits, PlayAnswer, RecoverAnswer, UpgradeAnswer, file_in}
use Rattle.ido_compile.specs.CompileAnswers.{translation_in}
use Rattle.image_checks.specs.RunImages.{left_by}
use Rattle.ido_cli.specs.declared.compiled_image.Image.{Image}
use Rattle.ido_cli.specs.ImagesReadAgain.{IsRunImage}
use Rattle.ido_cli.specs.Upgrades.{IsOlderImage, IsUpgrade, IsUpgradedRun}

-- what is written stands on no compilation, nor on how threads ran
abbrev pub IsPlain : Option Command → Type 0
IsPlain None = Unit {0}
IsPlain (Some (command.Compile scheme)) = ⊥
IsPlain (Some command.List) = Unit {0}
IsPlain (Some (command.Regions least)) = ⊥
IsPlain (Some (command.Play fences scheme)) = ⊥
IsPlain (Some command.Source) = Unit {0}
IsPlain (Some (command.Image scheme)) = ⊥
IsPlain (Some command.Order) = Unit {0}
IsPlain (Some (command.Recover turns)) = ⊥
IsPlain (Some (command.Upgrade turns)) = ⊥
IsPlain (Some (command.Make rounds seed)) = Unit {0}
IsPlain (Some (command.Seeded seed turns crashes journal scheme)) = ⊥
IsPlain (Some (command.Live turns crashes evict journal scheme)) = ⊥
IsPlain (Some (command.Load rounds seed scheme)) = ⊥
IsPlain (Some (command.Sweep scheme)) = ⊥

-- the command takes a script after its source, and compiles that for this log
abbrev pub TakesScript : Option Command → Log → Type 0
TakesScript None log = ⊥
TakesScript (Some (command.Compile scheme)) log = ⊥
TakesScript (Some command.List) log = ⊥
TakesScript (Some (command.Regions least)) log = ⊥
TakesScript (Some (command.Play fences scheme)) log = log ≡ log_by scheme
TakesScript (Some command.Source) log = ⊥
TakesScript (Some (command.Image scheme)) log = log ≡ log_by scheme
TakesScript (Some command.Order) log = ⊥
TakesScript (Some (command.Recover turns)) log = ⊥
TakesScript (Some (command.Upgrade turns)) log = ⊥
TakesScript (Some (command.Make rounds seed)) log = ⊥
TakesScript (Some (command.Seeded seed turns crashes journal scheme)) log = ⊥
TakesScript (Some (command.Live turns crashes evict journal scheme)) log = ⊥
TakesScript (Some (command.Load rounds seed scheme)) log = ⊥
TakesScript (Some (command.Sweep scheme)) log = log ≡ log_by scheme

-- What is said stands on no compilation: the command compiles nothing, or what it is asked is refused before, since the input is past the limits, its source
-- breaks a rule, which status 1 says, or its script isn't spelled as one.
pub data IsUncompiled (c : Option Command) (input : List ℕ) (status : ℕ) : Type 0 where
  plain : IsPlain c → IsUncompiled c input status
  past : (d : Command) → c ≡ Some d → IsPastLimits d input → IsUncompiled c input status
  breaks_rule : status ≡ 1 → IsUncompiled c input status
  misspelled : (log : Log) → TakesScript c log → (flat : Flat) → IsAcceptedAs log (source_of input) flat → (x : Fault) →
      read log (length flat.threads) (rest_of input) ≡ Refused x → IsUncompiled c input status

-- words and an input have at most one such answer: a status and an output
abbrev pub OneAnswer : Type 0
OneAnswer = (words : List (List ℕ)) (input : List ℕ) (status other : ℕ) (output written : List ℕ) → IsUncompiled (command_of words) input status
    → Answer words input status output → Answer words input other written → (status ≡ other) × (output ≡ written)

-- what `image` writes of events of a source's translation, for the log of whichever scheme, `recover` reads as what they left
abbrev pub RunsAreRecovered : Type 0
RunsAreRecovered = (scheme : SchemeName) (source image : List ℕ) (flat : Flat) (c : Translation) (before : List Event) (turns status answer : ℕ)
    (output : List ℕ) → let log = log_by scheme in IsAcceptedAs log source flat → IsTranslationOf log flat c → length before ≤ MOST_EVENTS →
    IsImageAfter source c before status image → RecoverAnswer turns image answer output → IsRecoveredRun log source c before turns answer output

-- and so `recover` reads what a run of any version's log has left, as a file of that version
abbrev pub RunImagesAreRecovered : Type 0
RunImagesAreRecovered = (version : ImageVersion) (source image : List ℕ) (c : Translation) (before : List Event) (turns status : ℕ) (output : List ℕ) →
    IsRunImage version source c before image → RecoverAnswer turns image status output →
    IsRecoveredRun (log_of version) source c before turns status output

-- and `upgrade`, where the version is an older one
abbrev pub RunImagesAreUpgraded : Type 0
RunImagesAreUpgraded = (version : ImageVersion) (source image : List ℕ) (c : Translation) (before : List Event) (turns status : ℕ) (output : List ℕ) →
    number_of version ≤ number_of Second → IsRunImage version source c before image → UpgradeAnswer turns image status output →
    IsUpgradedRun (log_of version) source c before turns status output

-- What `upgrade` writes of an image that a run of the translation to which its source is compiled has left is recovered as what it is, whatever turns are
-- given: what is said is what `play` says of the events of that run, a crash, and the leg of `upgrade`.
abbrev pub UpgradesAreRecovered : Type 0
UpgradesAreRecovered = (input output : List ℕ) (image : Image) (source : List ℕ) (before : List Event) (turns more status : ℕ) (report : List ℕ) →
    IsOlderImage input image source → let c = translation_in image.compiled in file_in image ≡ left_by c before →
    (u : IsUpgrade source c (file_in image) turns 0 output) → RecoverAnswer more output status report →
    IsRunBy c (before ++ Crash ∷ u.journal) status report

-- Lives that go on from that file, whatever happens and by whichever translation its source is compiled to then, keep what those keep that began at the
-- source's start.
abbrev pub UpgradesGoOn : Type 0
UpgradesGoOn = (input output : List ℕ) (image : Image) (source : List ℕ) (before : List Event) (turns : ℕ) →
    IsOlderImage input image source → let c = translation_in image.compiled in file_in image ≡ left_by c before →
    IsUpgrade source c (file_in image) turns 0 output → (read : Image) → IsImage Fourth output read → let d = translation_in read.compiled in
    (events : List Event) → IsCarriedOn d (image_in d (file_in read)) events

-- An image of an older version whose source is refused for the newest log is answered so, whatever else is wrong with it: the source comes first.
abbrev pub OlderSourcesComeFirst : Type 0
OlderSourcesComeFirst = (turns : ℕ) (input : List ℕ) (version : ImageVersion) (c : Compiled) (rule : Rule) (place : Place) →
    (begins : BeginsCompiled Second input version c) → IsRefusedAs command_log begins.source rule place → (status : ℕ) (output : List ℕ) →
    UpgradeAnswer turns input status output → (status ≡ 6) × (output ≡ line (codes "refused I4"))

-- with an LF at its end
abbrev pub in_lines : (source : List ℕ) → List ℕ
in_lines source = if ends_line source then source else line source

-- a source of which no line is `%%`, also not the last one where an LF is put behind it
abbrev pub IsAlone : (source : List ℕ) → Type 0
IsAlone source = source_of (in_lines source) ≡ in_lines source

-- a journal of events of such a source, whose starts each of its translations for a log may make, is answered by `play` for that log with what is said of
-- these events
abbrev pub JournalsArePlayed : Type 0
JournalsArePlayed = (log : Log) (source : List ℕ) (events : List Event) (flat : Flat) (status : ℕ) (output : List ℕ) → IsAlone source →
    IsAcceptedAs log source flat →
    length events ≤ MOST_EVENTS → All (IsValidNow (length flat.threads) (IsEviction log (length flat.threads)) true) events →
    ((c : Translation) → IsTranslationOf log flat c → MayStart living (beginning c) events) →
    PlayAnswer log false (journal_text source events) status output → (c : Translation) × IsTranslationOf log flat c × IsRunBy c events status output
