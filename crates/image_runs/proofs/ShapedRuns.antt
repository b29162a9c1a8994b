-- A machine that begins with words that have the shape runs on, and where they are settled, lives go on from them as from the source's start.
use Rattle.std.proofs.Common.{◌≡◌, ◌∙◌, ap, ap₂, subst, sym}
use Rattle.log_schemes.specs.declared.log.Log.{Log}
use Rattle.c_tree.specs.Flats.{Flat}
use Rattle.machine_model.specs.Executables.{Executable}
use Rattle.machine_model.specs.declared.object.Object.{Object}
use Rattle.rv64_isa.specs.declared.object.Marks.{Marks}
use Rattle.flow_graph.specs.declared.cuts.Cuts.{Cuts}
use Rattle.flow_graph.specs.IdempotentCuts.{Boundaries}
use Rattle.flat_compile.specs.TranslatedForms.{IsTranslatedAs}
use Rattle.compiler_correctness.specs.Laws.{RecoveredWordsRunOn, SettledImagesGoOn, translation_of}
use Rattle.compiler_correctness.specs.SettledImages.{IsCarriedOn, IsSettledImage}
use Rattle.compiler_correctness.specs.Translations.{Translation, translation_to}
use Rattle.compiler_correctness.specs.WordRuns.{RunsOn}
use Rattle.crash_images.specs.Contents.{log_of}
use Rattle.image_runs.specs.Laws.{AcceptedGoOn, AcceptedHaveShape, AcceptedRunOn, ShapesAreStates, ShapesRunOn}
use Rattle.image_runs.specs.StateImages.{image_of_state}

pub shapes_run_on : ShapesAreStates → RecoveredWordsRunOn → ShapesRunOn
shapes_run_on states run y s image shape = let from = states y s image.words shape in run y s from.0 image from.1

-- what readers see of the system
abbrev seen_as : Flat → Executable → Boundaries → Translation
seen_as flat runs boundaries = record { flat = flat; runs = runs; boundaries = boundaries }

same_translation : (flat : Flat) (object : Object) (marks : Marks) (cuts : Cuts) (log : Log) (t : IsTranslatedAs log flat object marks cuts) →
    translation_of t.system ≡ translation_to flat object marks cuts
same_translation flat object marks cuts log t =
    ap (λ (x : Flat). seen_as x t.system.runs t.system.plan.boundaries) t.of_flat ∙ ap₂ (seen_as flat) t.runs t.at_cuts

pub accepted_run_on : AcceptedHaveShape → ShapesRunOn → AcceptedRunOn
accepted_run_on have run version flat object marks cuts table state kept r is right formed =
    let t = r.translated in
    subst (λ (c : Translation). RunsOn c (image_of_state state kept)) (same_translation flat object marks cuts (log_of version) t)
    (run t.system t.is (image_of_state state kept)
    (have version flat object marks cuts table state r is right formed))

pub accepted_go_on : AcceptedHaveShape → ShapesAreStates → SettledImagesGoOn → AcceptedGoOn
accepted_go_on have states go_on version flat object marks cuts table state kept r is right formed settled events =
    let t = r.translated in
    let image = image_of_state state kept in
    let same = same_translation flat object marks cuts (log_of version) t in
    let from =
    states t.system t.is image.words
    (have version flat object marks cuts table state r is right formed) in
    let here = subst (λ (c : Translation). IsSettledImage c image) (sym same) settled in
    subst (λ (c : Translation). IsCarriedOn c image events) same (go_on t.system t.is from.0 image from.1 here events)
