-- The boundaries are those of the object.
use Rattle.std.proofs.Common.{◌≡◌, ◌∙◌, List, ap, refl, subst, sym}
use Rattle.c_tree.specs.Flats.{flat_of}
use Rattle.c_tree.specs.declared.flat.Flat.{Flat}
use Rattle.flow_graph.specs.IdempotentCuts.{boundaries_of}
use Rattle.flow_graph.specs.Lowering.{lowered}
use Rattle.flow_graph.specs.Nodes.{Graph, graph_of}
use Rattle.flat_compile.specs.TranslatedForms.{IsTranslatedAs, command_log}
use Rattle.lock_discipline.specs.HeldSetsByStep.{AreAllSetsOf}
use Rattle.ido_compile.specs.declared.error.CompileError.TheVariants as error
use Rattle.ido_compile.proofs.Public.{by_error}
use Rattle.compiler_correctness.specs.Translations.{translation_to}
use Rattle.ido_cli.specs.Answers.{cut}
use Rattle.ido_cli.specs.Regions.{AreTold, Straight, regions}
use Rattle.region_cutter.specs.declared.straight.Stretch.{Stretch}
use Rattle.ido_cli.specs.links.Regions.{HaveNodes, IsRegionsAnswer}
use Rattle.ido_cli.proofs.FewestBoundaries.{are_least, have_nodes}
use Rattle.ido_cli.proofs.HeldSteps.{have_sets}
use Rattle.ido_cli.proofs.NodeLines.{cuts_long}
use Rattle.ido_cli.proofs.regions.source_regions.Goals as goal

pub returns-in_err-flat : goal.returns-in_err-flat
returns-in_err-flat c =
    by_error (IsRegionsAnswer c.args.least c.args.source.now) c.in_err-flat.field-0.0 c.from_residual.result c.from_residual.ensures.1 c.in_err-flat.ensures

pub returns-in_err-analysis : goal.returns-in_err-analysis
returns-in_err-analysis c =
    by_error (IsRegionsAnswer c.args.least c.args.source.now) c.in_err-analysis.field-0.0
    c.from_residual-in_err-analysis.result c.from_residual-in_err-analysis.ensures.1 c.in_err-analysis.ensures.answer

pub returns-in_err-translated : goal.returns-in_err-translated
returns-in_err-translated c =
    by_error (IsRegionsAnswer c.args.least c.args.source.now) error.Memory c.from_residual-in_err-translated.result
    c.from_residual-in_err-translated.ensures.1 tt

pub returns-in_err-output : goal.returns-in_err-output
returns-in_err-output c =
    by_error (IsRegionsAnswer c.args.least c.args.source.now) error.Memory c.from_residual-in_err-output.result c.from_residual-in_err-output.ensures.1 tt

pub translate-requires-clause-analysis : goal.translate-requires-clause-analysis
translate-requires-clause-analysis c = c.in_ok-analysis.ensures.answer.1

pub translate-requires-clause-assigned_first : goal.translate-requires-clause-assigned_first
translate-requires-clause-assigned_first c = λ frame. cc frame

pub returns-in_err-stretches : goal.returns-in_err-stretches
returns-in_err-stretches c =
    by_error (IsRegionsAnswer c.args.least c.args.source.now) error.Memory c.from_residual-in_err-stretches.result
    c.from_residual-in_err-stretches.ensures.1 tt

pub regions-requires-clause-graph : goal.regions-requires-clause-graph
regions-requires-clause-graph c = c.in_ok-analysis.ensures.answer.1.lowered

pub regions-requires-clause-cuts : goal.regions-requires-clause-cuts
regions-requires-clause-cuts c =
    let made = c.in_ok-translated.translated in
    cuts_long (flat_of c.in_ok-analysis.analysis.flat.now) made.object made.marks made.cuts c.in_ok-translated.ensures.translated

pub regions-requires-clause-sets : goal.regions-requires-clause-sets
regions-requires-clause-sets c =
    let made = c.in_ok-translated.translated in
    let analysis = c.in_ok-analysis.analysis in
    have_sets (flat_of analysis.flat.now) made.object made.marks made.cuts analysis.held analysis.graph.threads.items
    c.in_ok-translated.ensures.translated c.in_ok-analysis.ensures.answer.1.held
    (ap (λ (g : Graph). g.threads) c.in_ok-analysis.ensures.answer.1.lowered)

pub regions-requires-clause-stretches : goal.regions-requires-clause-stretches
regions-requires-clause-stretches c =
    subst HaveNodes (sym c.deref.ensures.value)
    (have_nodes c.args.least (graph_of c.in_ok-analysis.analysis.graph) c.in_ok-stretches.stretches.items c.in_ok-stretches.ensures)

pub returns : goal.returns
returns c =
    let made = c.in_ok-translated.translated in
    let analysis = c.in_ok-analysis.analysis in
    let stretches = c.deref.result.now in
    let b = boundaries_of made.cuts in
    let same = c.in_ok-analysis.ensures.of_flat in
    let flat = flat_of c.in_ok-flat.flat in
    let is = subst (λ (x : Flat). IsTranslatedAs command_log (flat_of x) made.object made.marks made.cuts) same c.in_ok-translated.ensures.translated in
    let graph : graph_of analysis.graph ≡ lowered flat =
    c.in_ok-analysis.ensures.answer.1.lowered ∙ ap (λ (x : Flat). lowered (flat_of x)) same in
    let told = subst (λ (g : Graph). AreTold c.args.least g stretches) graph
    (subst (λ (ss : List Stretch). AreTold c.args.least (graph_of analysis.graph) ss) (sym c.deref.ensures.value) c.in_ok-stretches.ensures) in
    let straight : Straight = record { stretches = stretches; held = analysis.held } in
    cut flat c.in_ok-analysis.ensures.answer.0 (translation_to flat made.object made.marks made.cuts)
    (record {
      object = made.object;
      marks = made.marks;
      cuts = made.cuts;
      translated = is;
      compilation = c.translations_are_compilations.ensures command_log flat made.object made.marks made.cuts is;
      is = refl;
    }) refl
    (record {
      straight = straight;
      held = subst (λ (x : Flat). AreAllSetsOf (flat_of x) analysis.held) same c.in_ok-analysis.ensures.answer.1.held;
      told = told;
      none_fewer = are_least b c.args.least (lowered flat) stretches is.placed.fewest told;
      is =
          subst (λ (x : Flat). c.in_ok-output.output.items ≡ regions c.args.source.now (lowered (flat_of x)) b straight (flat_of x).threads) same
          c.in_ok-output.ensures;
    })
