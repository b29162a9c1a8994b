-- Which words have the shape, what they are, and what a machine does that begins with them.
use Rattle.std.specs.Prelude.{ℕ, List, length, Vec}
use Rattle.std.specs.Global.{Global}
use Rattle.machine_events.specs.declared.event.Event.{Event}
use Rattle.c_tree.specs.Flats.{Flat}
use Rattle.machine_model.specs.declared.object.Object.{Object}
use Rattle.rv64_isa.specs.declared.object.Marks.{Marks}
use Rattle.machine_model.specs.Schedule.{LifeSchedules}
use Rattle.flow_graph.specs.declared.cuts.Cuts.{Cuts}
use Rattle.region_attempts.specs.Origins.{Origin}
use Rattle.crash_simulation.specs.RecoveredWords.{IsRecoveredFrom}
use Rattle.crash_simulation.specs.Systems.{System, IsSystem, flat_of}
use Rattle.flat_compile.specs.declared.resumes.Resume.{Resume}
use Rattle.flat_compile.specs.TranslatedForms.{IsResumableAs}
use Rattle.compiler_correctness.specs.Images.{Image, image_of}
use Rattle.compiler_correctness.specs.Laws.{translation_of}
use Rattle.compiler_correctness.specs.SettledImages.{IsCarriedOn, IsSettledImage}
use Rattle.compiler_correctness.specs.Translations.{translation_to}
use Rattle.compiler_correctness.specs.WordRuns.{RunsOn}
use Rattle.crash_images.specs.Contents.{State, IsState, log_of}
use Rattle.crash_images.specs.declared.version.ImageVersion.{ImageVersion}
use Rattle.image_checks.specs.Checks.{IsWellFormedState}
use Rattle.image_checks.specs.VariableReferences.{AreReferences}
use Rattle.image_runs.specs.Shapes.{HasShape}
use Rattle.image_runs.specs.StateImages.{image_of_state, state_words}

-- ---- Which words have it

-- what stands after an image's source, where it has no fault
abbrev pub AcceptedHaveShape : Type 0
AcceptedHaveShape = (version : ImageVersion) (flat : Flat) (object : Object) (marks : Marks) (cuts : Cuts) (table : List (Vec Resume Global)) (state : State) →
    (r : IsResumableAs (log_of version) flat object marks cuts table) → IsState version (length object.initial.items) (length object.code.items) state →
    AreReferences flat state.variables → IsWellFormedState (log_of version) flat table state →
    HasShape r.translated.system.plan r.translated.is.codes (state_words state)

-- what a crash leaves of a run
abbrev pub CrashesLeaveShape : Type 0
CrashesLeaveShape = (y : System) (s : IsSystem y) (events : List Event) → HasShape y.plan s.codes (image_of (translation_of y) events).words

-- ---- What they are

-- the words are what the records of some state of the source leave, whether a run reaches it or not: an execution may begin there, and harts recover to it.
-- A thread that is resumed past the boundary of a logged assignment stands after that there, whatever number it stores
abbrev pub ShapesAreStates : Type 0
ShapesAreStates =
    (y : System) (s : IsSystem y) (words : List ℕ) → HasShape y.plan s.codes words →
    (o : Origin (flat_of y)) × IsRecoveredFrom y s o words

-- ---- What a machine does that begins with them

abbrev pub ShapesRunOn : Type 0
ShapesRunOn = (y : System) (s : IsSystem y) (image : Image) → HasShape y.plan s.codes image.words → RunsOn (translation_of y) image

-- an image without a fault is run on by the program that it is checked against, whatever its schedules are
abbrev pub AcceptedRunOn : Type 0
AcceptedRunOn = (version : ImageVersion) (flat : Flat) (object : Object) (marks : Marks) (cuts : Cuts) (table : List (Vec Resume Global)) (state : State)
    (kept : LifeSchedules) →
    IsResumableAs (log_of version) flat object marks cuts table → IsState version (length object.initial.items) (length object.code.items) state →
    AreReferences flat state.variables → IsWellFormedState (log_of version) flat table state →
    RunsOn (translation_to flat object marks cuts) (image_of_state state kept)

-- and where it is settled, lives go on from it as from the source's start, whoever wrote it
abbrev pub AcceptedGoOn : Type 0
AcceptedGoOn = (version : ImageVersion) (flat : Flat) (object : Object) (marks : Marks) (cuts : Cuts) (table : List (Vec Resume Global)) (state : State)
    (kept : LifeSchedules) →
    IsResumableAs (log_of version) flat object marks cuts table → IsState version (length object.initial.items) (length object.code.items) state →
    AreReferences flat state.variables → IsWellFormedState (log_of version) flat table state →
    let c = translation_to flat object marks cuts in
    IsSettledImage c (image_of_state state kept) → (events : List Event) → IsCarriedOn c (image_of_state state kept) events
