-- Laws of compiled programs, in the words of their readers.
use Rattle.std.specs.Prelude.{◌≡◌, ℕ, ◌<◌, List, false}
use Rattle.machine_events.specs.declared.event.Event.{Event}
use Rattle.flow_graph.specs.Lowering.{lowered}
use Rattle.log_schemes.specs.Schemes.{locals_of}
use Rattle.region_cutter.specs.BoundaryPlaces.{AreBoundariesFor}
use Rattle.region_attempts.specs.Origins.{Origin}
use Rattle.crash_simulation.specs.Systems.{System, IsSystem, flat_of, thread_count}
use Rattle.crash_simulation.specs.RecoveredWords.{IsRecoveredFrom}
use Rattle.compiler_correctness.specs.Translations.{Translation, steps, world}
use Rattle.compiler_correctness.specs.Delays.{AreDelaysBounded}
use Rattle.compiler_correctness.specs.Compilation.{IsSettledAsKept, KeptScheduleGrows, AreSectionsKept, AreRecords, AreWhole, IsInStep, NeverStuck}
use Rattle.compiler_correctness.specs.Forms.{HasForm}
use Rattle.compiler_correctness.specs.Images.{Image, image_of, file_of, image_in, IsCrashed, IsResumedAsKept, StayBetween, IsInFile}
use Rattle.compiler_correctness.specs.SettledImages.{IsCarriedOn, IsSettledImage}
use Rattle.compiler_correctness.specs.WordRuns.{RunsOn, SettlesFrom}
use Rattle.compiler_correctness.specs.Compilations.{IsCompilation}

-- what a system is to its readers
abbrev pub translation_of : System → Translation
translation_of y = record { flat = flat_of y; runs = y.runs; boundaries = y.plan.boundaries }

-- whatever has happened, where all harts stand between sections, durable variables are what the source leaves by the kept steps
abbrev pub SettledMachinesAreKept : Type 0
SettledMachinesAreKept = (y : System) → IsSystem y → (events : List Event) → IsSettledAsKept (translation_of y) events

abbrev pub KeptStepsGrow : Type 0
KeptStepsGrow = (c : Translation) (events : List Event) → KeptScheduleGrows c events

abbrev pub SectionsAreKept : Type 0
SectionsAreKept = (y : System) → IsSystem y → (events : List Event) → AreSectionsKept (translation_of y) events

abbrev pub MachinesRecord : Type 0
MachinesRecord = (y : System) → IsSystem y → (events : List Event) →
    AreRecords (translation_of y) (world (translation_of y) events) (steps (translation_of y) events)

abbrev pub MachinesAreWhole : Type 0
MachinesAreWhole = (y : System) → IsSystem y → (events : List Event) → AreWhole (translation_of y) events

abbrev pub HartsNeverStick : Type 0
HartsNeverStick = (y : System) → IsSystem y → (events : List Event) → NeverStuck (translation_of y) events

abbrev pub DelaysAreBounded : Type 0
DelaysAreBounded = (y : System) → IsSystem y → (events : List Event) →
    AreDelaysBounded (translation_of y) (world (translation_of y) events)

-- in a life without a crash, machines keep step with the source
abbrev pub MachinesKeepStep : Type 0
MachinesKeepStep = (y : System) → IsSystem y → (events : List Event) → (world (translation_of y) events).recovering ≡ false →
    IsInStep (translation_of y) (world (translation_of y) events) (steps (translation_of y) events)

-- the system's boundaries are those for where its locals stand
abbrev pub AreItsBoundaries : System → Type 0
AreItsBoundaries y = AreBoundariesFor (locals_of y.runs.log) (lowered (flat_of y)) y.plan.held y.plan.boundaries

-- compiled code has its form, where its boundaries are those
abbrev pub CompiledCodeHasForm : Type 0
CompiledCodeHasForm = (y : System) → IsSystem y → AreItsBoundaries y → HasForm (translation_of y)

-- a run is begun from an image as after the crash that left it
abbrev pub ImagesAreCrashes : Type 0
ImagesAreCrashes = (c : Translation) (before events : List Event) → IsCrashed c before events

abbrev pub ImagesAreResumed : Type 0
ImagesAreResumed = (y : System) → IsSystem y → (before events : List Event) →
    IsResumedAsKept (translation_of y) (image_of (translation_of y) before) events

-- a machine that begins with words whose records describe an origin, whoever left them, runs on
abbrev pub RecoveredWordsRunOn : Type 0
RecoveredWordsRunOn = (y : System) (s : IsSystem y) (o : Origin (flat_of y)) (image : Image) → IsRecoveredFrom y s o image.words →
    RunsOn (translation_of y) image

-- What a recovered image leaves is what the source leaves from there, with every section whole.
abbrev pub RecoveredWordsSettle : Type 0
RecoveredWordsSettle = (y : System) (s : IsSystem y) (o : Origin (flat_of y)) (image : Image) (is : IsRecoveredFrom y s o image.words) →
    ((n : ℕ) → n < thread_count y → is.recovers.lates n ≡ false) → (events : List Event) →
    SettlesFrom (translation_of y) image o.source events

-- and where the image is settled, whoever wrote it, lives that go on from it keep what those keep that began at the source's start
abbrev pub SettledImagesGoOn : Type 0
SettledImagesGoOn = (y : System) (s : IsSystem y) (o : Origin (flat_of y)) (image : Image) → IsRecoveredFrom y s o image.words →
    IsSettledImage (translation_of y) image → (events : List Event) → IsCarriedOn (translation_of y) image events

-- no hart stores between the variables and the logs
abbrev pub WordsBetweenStay : Type 0
WordsBetweenStay = (y : System) → IsSystem y → (events : List Event) → StayBetween (translation_of y) events

-- the words of the variables and of the logs are all of an image
abbrev pub FilesAreImages : Type 0
FilesAreImages = (y : System) → IsSystem y → (events : List Event) → IsInFile (translation_of y) (image_of (translation_of y) events)

abbrev pub FilesAreResumed : Type 0
FilesAreResumed = (y : System) → IsSystem y → (before events : List Event) →
    IsResumedAsKept (translation_of y) (image_in (translation_of y) (file_of (translation_of y) (image_of (translation_of y) before))) events

-- a system with the boundaries for where its locals stand is a compilation
abbrev pub SystemsAreCompilations : Type 0
SystemsAreCompilations = (y : System) → IsSystem y → AreItsBoundaries y → IsCompilation (translation_of y)
