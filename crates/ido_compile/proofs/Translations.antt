-- What a compiled text is to its readers.
use Rattle.std.proofs.Common.{◌≡◌, sym, ap, ap₂, ◌∙◌, subst}
use Rattle.log_schemes.specs.declared.log.Log.{Log}
use Rattle.log_schemes.specs.Schemes.{locals_of}
use Rattle.c_tree.specs.Flats as f
use Rattle.machine_model.specs.declared.object.Object.{Object}
use Rattle.rv64_isa.specs.declared.object.Marks.{Marks}
use Rattle.machine_model.specs.Executables.{Executable}
use Rattle.flow_graph.specs.declared.cuts.Cuts.{Cuts}
use Rattle.flow_graph.specs.IdempotentCuts.{Boundaries}
use Rattle.region_cutter.specs.BoundaryPlaces.{AreBoundariesFor}
use Rattle.flow_graph.specs.Lowering.{lowered}
use Rattle.crash_simulation.specs.Systems.{flat_of}
use Rattle.compiler_correctness.specs.Translations.{Translation, translation_to}
use Rattle.compiler_correctness.specs.Compilations.{IsCompilation}
use Rattle.compiler_correctness.specs.Laws.{AreItsBoundaries, SystemsAreCompilations, translation_of}
use Rattle.flat_compile.specs.TranslatedForms.{IsTranslatedAs}
use Rattle.ido_compile.specs.CompileAnswers.{TranslationsAreCompilations}

abbrev made : f.Flat → Executable → Boundaries → Translation
made flat runs boundaries = record { flat = flat; runs = runs; boundaries = boundaries }

same_translation : (flat : f.Flat) (object : Object) (marks : Marks) (cuts : Cuts) (log : Log) (t : IsTranslatedAs log flat object marks cuts) →
    translation_of t.system ≡ translation_to flat object marks cuts
same_translation flat object marks cuts log t =
    ap (λ (x : f.Flat). made x t.system.runs t.system.plan.boundaries) t.of_flat
    ∙ ap₂ (made flat) t.runs t.at_cuts

-- all that is promised of compiled programs holds of it
pub are_compilations : SystemsAreCompilations → TranslationsAreCompilations
are_compilations law log flat object marks cuts t =
    let log_is : log ≡ t.system.runs.log = sym t.log ∙ ap (λ (x : Executable). x.log) (sym t.runs) in
    let placed : AreItsBoundaries t.system =
    subst (λ (l : Log). AreBoundariesFor (locals_of l) (lowered (flat_of t.system)) t.system.plan.held t.system.plan.boundaries) log_is
    (subst (λ (x : f.Flat). AreBoundariesFor (locals_of log) (lowered x) t.system.plan.held t.system.plan.boundaries) (sym t.of_flat)
    (subst (λ (b : Boundaries). AreBoundariesFor (locals_of log) (lowered flat) t.system.plan.held b) (sym t.at_cuts) t.placed)) in
    subst IsCompilation (same_translation flat object marks cuts log t) (law t.system t.is placed)
