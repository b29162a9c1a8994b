-- What the program answers: a status and the bytes that it writes.
use Rattle.std.specs.Prelude.{◌≡◌, ◌⊎◌, ℕ, ◌+◌, ◌-◌, ◌<◌, ◌≤◌, List, [], ◌++◌, length, Option, Some, None, Ok, Err, codes, IfSome, Bool, true, false}
use Rattle.machine_events.specs.declared.event.Event.{Event}
use Rattle.ido_base.specs.declared.place.Place.{Place}
use Rattle.ido_base.specs.declared.limits.TheConstants.{MOST_INPUT_BYTES, MOST_SOURCE_BYTES}
use Rattle.ido_outside.specs.Causes.{Rose}
use Rattle.ido_outside.specs.Sink.{Adds, AddsPrefix}
use Rattle.log_schemes.specs.declared.log.Log.{Log}
use Rattle.c_tree.specs.Flats as f
use Rattle.c_tree.specs.declared.rule.Rule as r
use Rattle.ido_compile.specs.LoggedTexts.{IsAcceptedAs, IsRefusedAs}
use Rattle.flat_compile.specs.TranslatedForms.{command_log}
use Rattle.compiler_correctness.specs.Translations.{Translation}
use Rattle.compiler_correctness.specs.Images.{Image, image_in}
use Rattle.compiler_correctness.specs.WordRuns.{RunsOn}
use Rattle.file_fields.specs.Fields as fields
use Rattle.image_checks.specs.declared.error.ImageError.{ImageError}
use Rattle.crash_images.specs.declared.version.ImageVersion.TheVariants.{Fourth}
use Rattle.ido_cli.specs.declared.compiled_image.Image as i
use Rattle.ido_cli.specs.CompiledImages.{IsImageAnswer}
use Rattle.lock_order.specs.LockOrder.{OrderFault, order_fault}
use Rattle.object_format.specs.Contents.{Contents, contents_of}
use Rattle.object_format.specs.ObjectDecoder as o
use Rattle.object_format.specs.ObjectEncoder.{spelling}
use Rattle.run_scripts.specs.GeneratedSources.{generated_source}
use Rattle.run_scripts.specs.Journals.{journal_text}
use Rattle.run_scripts.specs.Reports.{line}
use Rattle.run_scripts.specs.Schedules as s
use Rattle.run_scripts.specs.Scripts as e
use Rattle.ido_compile.specs.CompileAnswers.{translation_in}
use Rattle.command_words.specs.declared.command.Command.{Command}
use Rattle.command_words.specs.declared.command.Command.TheVariants as command
use Rattle.command_words.specs.Commands.{command_of, is_unread}
use Rattle.ido_cli.specs.Draws.{IsGenerated, drawn_by}
use Rattle.ido_cli.specs.Images.{IsImageAfter}
use Rattle.ido_cli.specs.Inputs.{source_of, rest_of}
use Rattle.object_listing.specs.ObjectListing.{listing}
use Rattle.ido_cli.specs.Loads.{IsSummaryOf}
use Rattle.ido_cli.specs.Plays.{IsPlayed, IsRunBy, IsTranslationOf, ScriptAnswer, beginning}
use Rattle.ido_cli.specs.Recoveries.{IsRecovery}
use Rattle.ido_cli.specs.Refusals.{IsRefusedAt, code_of, fault_code, fault_place, image_line, line_after, line_at_byte}
use Rattle.ido_cli.specs.Refusals.{object_fault_code, object_fault_place, script_fault_code, script_fault_place}
use Rattle.ido_cli.specs.Regions.{IsListing}
use Rattle.ido_cli.specs.Runs.{RunAnswer}
use Rattle.ido_cli.specs.Schemes.{log_by}
use Rattle.ido_cli.specs.Sweeps.{SweptScript}
use Rattle.ido_cli.specs.ThreadedRuns.{AreLegs, IsLoadedRun, evictions_by, most_leg_events}
use Rattle.ido_cli.specs.Upgrades.{IsOlderFault, IsOlderImage, IsUpgrade}
use Rattle.run_tracker.specs.links.EarlierLives.{lives_in}

-- the whole input, or the source text in it
abbrev pub IsSourcePastLimits : (input : List ℕ) → Type 0
IsSourcePastLimits input = (MOST_INPUT_BYTES < length input) ⊎ (MOST_SOURCE_BYTES < length (source_of input))

abbrev pub IsPastLimits : Command → (input : List ℕ) → Type 0
IsPastLimits (command.Compile scheme) input = MOST_SOURCE_BYTES < length input
IsPastLimits (command.Regions least) input = MOST_SOURCE_BYTES < length input
IsPastLimits (command.Play fences scheme) input = IsSourcePastLimits input
IsPastLimits command.Source input = IsSourcePastLimits input
IsPastLimits command.List input = MOST_INPUT_BYTES < length input
IsPastLimits (command.Image scheme) input = IsSourcePastLimits input
IsPastLimits command.Order input = MOST_SOURCE_BYTES < length input
IsPastLimits (command.Recover turns) input = MOST_INPUT_BYTES < length input
IsPastLimits (command.Upgrade turns) input = MOST_INPUT_BYTES < length input
IsPastLimits (command.Make rounds seed) input = ⊥
IsPastLimits (command.Seeded seed turns crashes journal scheme) input = MOST_SOURCE_BYTES < length input
IsPastLimits (command.Live turns crashes evict journal scheme) input = MOST_SOURCE_BYTES < length input
IsPastLimits (command.Load rounds seed scheme) input = ⊥
IsPastLimits (command.Sweep scheme) input = IsSourcePastLimits input

-- a status and an output: `refused` and what is refused
abbrev pub Refuses : (refused status : ℕ) → (what output : List ℕ) → Type 0
Refuses refused status what output = (status ≡ refused) × (output ≡ line (codes "refused " ++ what))

-- ---- `source`

-- where the schedule begins
abbrev pub rest_begins : (input : List ℕ) → ℕ
rest_begins input = length input - length (rest_of input)

-- what an input of a source and a schedule is answered: status and output
pub data SourceAnswer (input : List ℕ) (status : ℕ) (output : List ℕ) : Type 0 where
  unaccepted : (found : r.Rule) (place : Place) → IsRefusedAs command_log (source_of input) found place →
      IsRefusedAt 1 (code_of found) (source_of input) place.0 status output → SourceAnswer input status output
  no_schedule : (flat : f.Flat) → IsAcceptedAs command_log (source_of input) flat → (x : s.Fault) → s.read (rest_of input) ≡ s.Refused x →
      IsRefusedAt 6 (fault_code x) input (rest_begins input + fault_place x) status output → SourceAnswer input status output
  of_schedules : (flat : f.Flat) → IsAcceptedAs command_log (source_of input) flat → (lives : List (List ℕ)) → s.read (rest_of input) ≡ s.Lives lives →
      RunAnswer flat lives status output → SourceAnswer input status output

-- ---- `compile`

-- what a source is answered: the bytes of the object of a compilation for this log
pub data CompileAnswer (log : Log) (source : List ℕ) (status : ℕ) (output : List ℕ) : Type 0 where
  uncompiled : (found : r.Rule) (place : Place) → IsRefusedAs log source found place → IsRefusedAt 1 (code_of found) source place.0 status output →
      CompileAnswer log source status output
  compiled : (flat : f.Flat) → IsAcceptedAs log source flat → (c : Translation) (is : IsTranslationOf log flat c) → status ≡ 0 →
      output ≡ spelling (contents_of is.object) → CompileAnswer log source status output

-- ---- `regions`

-- what a source is answered: the nodes of its graph, the boundaries of a compilation that are chosen among them, and, where that is asked, how few they are
pub data RegionsAnswer (least : Bool) (source : List ℕ) (status : ℕ) (output : List ℕ) : Type 0 where
  uncut : (found : r.Rule) (place : Place) → IsRefusedAs command_log source found place → IsRefusedAt 1 (code_of found) source place.0 status output →
      RegionsAnswer least source status output
  cut : (flat : f.Flat) → IsAcceptedAs command_log source flat → (c : Translation) → IsTranslationOf command_log flat c → status ≡ 0 →
      IsListing least source flat c.boundaries output → RegionsAnswer least source status output

-- ---- `order`

-- what a source is answered: that each thread takes its locks in their order, or the first `lock` that breaks it
pub data OrderAnswer (source : List ℕ) (status : ℕ) (output : List ℕ) : Type 0 where
  unlocked : (found : r.Rule) (place : Place) → IsRefusedAs command_log source found place → IsRefusedAt 1 (code_of found) source place.0 status output →
      OrderAnswer source status output
  unordered : (flat : f.Flat) → IsAcceptedAs command_log source flat → (fault : OrderFault) → order_fault flat ≡ Some fault → status ≡ 1 →
      output ≡ line_after (codes "L7") source fault.place.0 fault.earlier.0 → OrderAnswer source status output
  ordered : (flat : f.Flat) → IsAcceptedAs command_log source flat → order_fault flat ≡ None → status ≡ 0 → output ≡ line (codes "ordered") →
      OrderAnswer source status output

-- ---- `play` and `image`

-- what an input of a source and a script is answered, by what is to be said of a translation for this log and the script's events
pub data ScriptedAnswer (log : Log) (Says : Translation → List Event → (status : ℕ) → (output : List ℕ) → Type 0) (input : List ℕ) (status : ℕ)
    (output : List ℕ) : Type 0 where
  unplayed : (found : r.Rule) (place : Place) → IsRefusedAs log (source_of input) found place →
      IsRefusedAt 1 (code_of found) (source_of input) place.0 status output → ScriptedAnswer log Says input status output
  no_script : (flat : f.Flat) → IsAcceptedAs log (source_of input) flat → (x : e.Fault) →
      e.read log (length flat.threads) (rest_of input) ≡ e.Refused x →
      IsRefusedAt 6 (script_fault_code x) input (rest_begins input + script_fault_place x) status output → ScriptedAnswer log Says input status output
  of_script : (flat : f.Flat) → IsAcceptedAs log (source_of input) flat → (lines : List e.Line) →
      e.read log (length flat.threads) (rest_of input) ≡ e.Lines lines →
      (c : Translation) → IsTranslationOf log flat c →
      ScriptAnswer c (Says c) (record { lines = lines; input = input; begins = rest_begins input }) status output →
      ScriptedAnswer log Says input status output

-- the report of the script's run, and the fences of each hart, where that is asked
abbrev pub PlayAnswer : Log → (fences : Bool) → (input : List ℕ) → (status : ℕ) → (output : List ℕ) → Type 0
PlayAnswer log fences input status output = ScriptedAnswer log (IsPlayed fences) input status output

-- the bytes of the image that a crash after the run would leave: it tells all lives
abbrev pub ImageAnswer : Log → (input : List ℕ) → (status : ℕ) → (output : List ℕ) → Type 0
ImageAnswer log input status output = ScriptedAnswer log (IsImageAfter (source_of input)) input status output

-- ---- `sweep`

-- what an input of a source and a script is answered, compiled for this log
pub data SweepAnswer (log : Log) (input : List ℕ) (status : ℕ) (output : List ℕ) : Type 0 where
  unswept : (found : r.Rule) (place : Place) → IsRefusedAs log (source_of input) found place →
      IsRefusedAt 1 (code_of found) (source_of input) place.0 status output → SweepAnswer log input status output
  no_points : (flat : f.Flat) → IsAcceptedAs log (source_of input) flat → (x : e.Fault) →
      e.read log (length flat.threads) (rest_of input) ≡ e.Refused x →
      IsRefusedAt 6 (script_fault_code x) input (rest_begins input + script_fault_place x) status output → SweepAnswer log input status output
  of_points : (flat : f.Flat) → IsAcceptedAs log (source_of input) flat → (lines : List e.Line) →
      e.read log (length flat.threads) (rest_of input) ≡ e.Lines lines →
      (c : Translation) → IsTranslationOf log flat c → SweptScript c (record { lines = lines; input = input; begins = rest_begins input }) status output →
      SweepAnswer log input status output

-- ---- What is told of a run

-- what is to be said of the events of a run: its report; or an input of `play` that makes them again
abbrev pub IsTold : (journal : Bool) → (source : List ℕ) → Translation → List Event → (status : ℕ) → (output : List ℕ) → Type 0
IsTold false source c events status output = IsRunBy c events status output
IsTold true source c events status output = (status ≡ 0) × (output ≡ journal_text source events)

-- ---- `seeded`

-- what a source is answered, of a drawn run of it, compiled for this log
pub data SeededAnswer (log : Log) (seed turns : ℕ) (crashes : List ℕ) (journal : Bool) (source : List ℕ) (status : ℕ) (output : List ℕ) : Type 0 where
  undrawn : (found : r.Rule) (place : Place) → IsRefusedAs log source found place → IsRefusedAt 1 (code_of found) source place.0 status output →
      SeededAnswer log seed turns crashes journal source status output
  drawn : (flat : f.Flat) → IsAcceptedAs log source flat → (c : Translation) → IsTranslationOf log flat c →
      IsTold journal source c (drawn_by c seed turns crashes) status output →
      SeededAnswer log seed turns crashes journal source status output

-- ---- `live` and `load`

-- what a source is answered, of a run of it on threads, compiled for this log: for each crash word a leg and a crash, and a leg after them. The seed, where
-- there is one, draws the evictions of all legs.
pub data LiveAnswer (log : Log) (turns : ℕ) (crashes : List ℕ) (evict : Option ℕ) (journal : Bool) (source : List ℕ) (status : ℕ) (output : List ℕ) :
    Type 0 where
  unrun : (found : r.Rule) (place : Place) → IsRefusedAs log source found place → IsRefusedAt 1 (code_of found) source place.0 status output →
      LiveAnswer log turns crashes evict journal source status output
  ran : (flat : f.Flat) → IsAcceptedAs log source flat → (c : Translation) → IsTranslationOf log flat c → (events : List Event) →
      AreLegs (beginning c) turns (evictions_by c evict) crashes [] events → IsTold journal source c events status output →
      LiveAnswer log turns crashes evict journal source status output

-- What is answered of the source that two numbers give, and of a run of it on threads, compiled for this log. The source breaks no rule, so there is no
-- status 1. Its threads take locks in their order, so some hart can step until all have stopped (`laws::ordered_lives_go_on`). Where some hart isn't settled
-- in the end, there are as many events as there may be.
pub record LoadAnswer (log : Log) (rounds seed : ℕ) (status : ℕ) (output : List ℕ) : Type 0 where
  pub flat : f.Flat
  pub accepted : IsAcceptedAs log (generated_source rounds seed) flat
  pub in_order : order_fault flat ≡ None
  pub translation : Translation
  pub translated : IsTranslationOf log flat translation
  pub events : List Event
  pub run : IsLoadedRun (beginning translation) events
  pub summary : IsSummaryOf translation events status output
  pub ends : (status ≡ 0) ⊎ (most_leg_events ≤ length events)

-- ---- `recover`

-- the file in an image
abbrev pub file_in : i.Image → Image
file_in image = record { words = image.words.items; kept = lives_in image.lives.earlier.items image.lives.schedule.items }

-- What an input of an image is answered: its first fault, or what is said of a run that goes on from it. That run is never stuck, its delays are bounded,
-- and no hart waits that takes its locks, whoever wrote the image.
pub data RecoverAnswer (turns : ℕ) (input : List ℕ) (status : ℕ) (output : List ℕ) : Type 0 where
  no_image : (error : ImageError) → IsImageAnswer Fourth input (Err error) → status ≡ 6 → image_line error ≡ Some output →
      RecoverAnswer turns input status output
  of_image : (image : i.Image) → IsImageAnswer Fourth input (Ok image) →
      RunsOn (translation_in image.compiled) (image_in (translation_in image.compiled) (file_in image)) →
      IsRecovery (translation_in image.compiled) (file_in image) turns status output → RecoverAnswer turns input status output

-- ---- `upgrade`

-- What an input of an image of an older version is answered: its first fault, where it is one too that the source is refused for the newest log; or what is
-- said of a run that goes on from it, which is the same as with `recover`.
pub data UpgradeAnswer (turns : ℕ) (input : List ℕ) (status : ℕ) (output : List ℕ) : Type 0 where
  not_older : (error : ImageError) → IsOlderFault input error → status ≡ 6 → image_line error ≡ Some output → UpgradeAnswer turns input status output
  of_older : (image : i.Image) (source : List ℕ) → IsOlderImage input image source →
      RunsOn (translation_in image.compiled) (image_in (translation_in image.compiled) (file_in image)) →
      IsUpgrade source (translation_in image.compiled) (file_in image) turns status output → UpgradeAnswer turns input status output

-- ---- `list`

-- what an input of an object is answered: its listing, or its first fault
pub data ListAnswer (input : List ℕ) (status : ℕ) (output : List ℕ) : Type 0 where
  no_object : (fault : fields.Fault) → o.read input ≡ Err fault → status ≡ 6 → output ≡ line_at_byte (object_fault_code fault) (object_fault_place fault) →
      ListAnswer input status output
  of_object : (object : Contents) → o.read input ≡ Ok object → status ≡ 0 → output ≡ listing object.code → ListAnswer input status output

-- ---- All commands

-- what an input within the limits is answered
abbrev pub CommandAnswer : Command → (input : List ℕ) → (status : ℕ) → (output : List ℕ) → Type 0
CommandAnswer (command.Compile scheme) input status output = CompileAnswer (log_by scheme) input status output
CommandAnswer (command.Regions least) input status output = RegionsAnswer least input status output
CommandAnswer (command.Play fences scheme) input status output = PlayAnswer (log_by scheme) fences input status output
CommandAnswer command.Source input status output = SourceAnswer input status output
CommandAnswer command.List input status output = ListAnswer input status output
CommandAnswer (command.Image scheme) input status output = ImageAnswer (log_by scheme) input status output
CommandAnswer command.Order input status output = OrderAnswer input status output
CommandAnswer (command.Recover turns) input status output = RecoverAnswer turns input status output
CommandAnswer (command.Upgrade turns) input status output = UpgradeAnswer turns input status output
CommandAnswer (command.Make rounds seed) input status output = IsGenerated rounds seed status output
CommandAnswer (command.Seeded seed turns crashes journal scheme) input status output =
    SeededAnswer (log_by scheme) seed turns crashes journal input status output
CommandAnswer (command.Live turns crashes evict journal scheme) input status output =
    LiveAnswer (log_by scheme) turns crashes evict journal input status output
CommandAnswer (command.Load rounds seed scheme) input status output = LoadAnswer (log_by scheme) rounds seed status output
CommandAnswer (command.Sweep scheme) input status output = SweepAnswer (log_by scheme) input status output

-- what an input of a command is answered
pub data AnswerToInput (c : Command) (input : List ℕ) (status : ℕ) (output : List ℕ) : Type 0 where
  past_limits : IsPastLimits c input → Refuses 6 status (codes "limit") output → AnswerToInput c input status output
  within_limits : (IsPastLimits c input → ⊥) → CommandAnswer c input status output → AnswerToInput c input status output

-- what words and an input are answered
pub data Answer (words : List (List ℕ)) (input : List ℕ) (status : ℕ) (output : List ℕ) : Type 0 where
  -- words that aren't taken, whatever the input is
  wrong_words : command_of words ≡ None → Refuses 2 status (codes "words") output → Answer words input status output
  taken_words : (c : Command) → command_of words ≡ Some c → AnswerToInput c input status output → Answer words input status output

-- ---- A run of the top call

-- what the outside tells before and after a run: the bytes left before, those written, and the counts of faults
pub record Outside : Type 0 where
  pub left : Option (List ℕ)
  pub written_before : Option (List ℕ)
  pub written : Option (List ℕ)
  pub source_faults_before : ℕ
  pub source_faults : ℕ
  pub sink_faults_before : ℕ
  pub sink_faults : ℕ

-- what a source and a sink tell before and after a run
abbrev pub outside : {S K : Type 0} (left : S → Option (List ℕ)) (source_faults : S → ℕ) (written : K → Option (List ℕ)) (sink_faults : K → ℕ) →
    (source_before source : S) → (sink_before sink : K) → Outside
outside left source_faults written sink_faults source_before source sink_before sink = record {
  left = left source_before;
  written_before = written sink_before;
  written = written sink;
  source_faults_before = source_faults source_before;
  source_faults = source_faults source;
  sink_faults_before = sink_faults sink_before;
  sink_faults = sink_faults sink;
}

-- the answer to an input, which is what was left where the source tells it
pub record IsAnswer (words : List (List ℕ)) (left : Option (List ℕ)) (status : ℕ) (output : List ℕ) : Type 0 where
  pub input : List ℕ
  pub told : IfSome left (λ bytes. input ≡ bytes)
  pub answer : Answer words input status output

-- the status of a run, and what it wrote
-- Where the source doesn't tell what it has left, as standard input, this says that there is an input to which status and output are the answer.
-- Where the sink doesn't tell what was written, as standard output, this says nothing of what was written.
pub data IsAnswered (words : List (List ℕ)) (o : Outside) (status : ℕ) : Type 0 where
  -- the answer, and all of it
  answered : (output : List ℕ) → IsAnswer words o.left status output → Adds o.written_before o.written output → IsAnswered words o status
  -- the words name a command that reads its input, the source failed, and nothing was written
  source_failed : is_unread (command_of words) ≡ false → status ≡ 4 → Rose o.source_faults_before o.source_faults → Adds o.written_before o.written [] →
      IsAnswered words o status
  -- the sink failed, and a prefix of the answer was written
  sink_failed : (output : List ℕ) (answer : ℕ) → status ≡ 5 → Rose o.sink_faults_before o.sink_faults → IsAnswer words o.left answer output →
      AddsPrefix o.written_before o.written output → IsAnswered words o status
  -- want of memory, and nothing was written
  no_memory : status ≡ 7 → Adds o.written_before o.written [] → IsAnswered words o status
