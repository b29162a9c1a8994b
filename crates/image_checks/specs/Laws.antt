-- What stands after a source is well formed, or has one fault; and what a run of the source has left has none.
use Rattle.std.specs.Prelude.{◌≡◌, ◌≤◌, ℕ, List, length, sum_by, Vec}
use Rattle.std.specs.Global.{Global}
use Rattle.machine_events.specs.declared.event.Event.{Event}
use Rattle.ido_base.specs.declared.limits.TheConstants.{MOST_STEPS}
use Rattle.log_schemes.specs.declared.log.Log.{Log}
use Rattle.c_tree.specs.Flats.{Flat}
use Rattle.machine_model.specs.declared.object.Object.{Object}
use Rattle.rv64_isa.specs.declared.object.Marks.{Marks}
use Rattle.machine_model.specs.Schedule.{all_lives}
use Rattle.flow_graph.specs.declared.cuts.Cuts.{Cuts}
use Rattle.flat_compile.specs.declared.resumes.Resume.{Resume}
use Rattle.flat_compile.specs.TranslatedForms.{IsResumableAs, IsTranslatedAs}
use Rattle.compiler_correctness.specs.Translations.{translation_to}
use Rattle.crash_images.specs.Contents.{State}
use Rattle.image_checks.specs.declared.error.ImageError.{ImageError}
use Rattle.image_checks.specs.Checks.{IsWellFormedState, IsStateFault}
use Rattle.image_checks.specs.RunImages.{left_by, file_state}
use Rattle.image_checks.specs.VariableReferences.{AreReferences, IsReferenceFault}

abbrev pub OneFault : Type 0
OneFault = (log : Log) (flat : Flat) (table : List (Vec Resume Global)) (s : State) (one other : ImageError) →
    IsStateFault log flat table s one → IsStateFault log flat table s other → one ≡ other

abbrev pub NoneIfSound : Type 0
NoneIfSound = (log : Log) (flat : Flat) (table : List (Vec Resume Global)) (s : State) (error : ImageError) →
    IsWellFormedState log flat table s → ¬ (IsStateFault log flat table s error)

abbrev pub OneReferenceFault : Type 0
OneReferenceFault = (flat : Flat) (words : List ℕ) (one other : ImageError) → IsReferenceFault flat words one → IsReferenceFault flat words other →
    one ≡ other

abbrev pub NoneIfReferences : Type 0
NoneIfReferences = (flat : Flat) (words : List ℕ) (error : ImageError) → AreReferences flat words → ¬ (IsReferenceFault flat words error)

-- ---- Images that runs leave

-- nothing is at fault in what a crash leaves of a run of a program, where its table tells where the translation's threads are resumed
abbrev pub RunsLeaveNoFault : Type 0
RunsLeaveNoFault = (log : Log) (flat : Flat) (object : Object) (marks : Marks) (cuts : Cuts) (table : List (Vec Resume Global)) (events : List Event) →
    IsResumableAs log flat object marks cuts table → let c = translation_to flat object marks cuts in
    sum_by length (all_lives (left_by c events).kept) ≤ MOST_STEPS → IsWellFormedState log flat table (file_state c (left_by c events))

-- every reference among the variables that a crash leaves is null, or leads to an element
abbrev pub RunsLeaveReferences : Type 0
RunsLeaveReferences = (log : Log) (flat : Flat) (object : Object) (marks : Marks) (cuts : Cuts) (events : List Event) →
    IsTranslatedAs log flat object marks cuts → let c = translation_to flat object marks cuts in
    AreReferences flat (file_state c (left_by c events)).variables
