-- What refuses the flat form refuses the text.
use Rattle.std.proofs.Common.{◌∙◌, ap, subst, sym}
use Rattle.c_tree.specs.AcceptedTexts.{IsFlattened}
use Rattle.c_tree.specs.Flats.{flat_of}
use Rattle.c_tree.specs.HoldPrices.{price_fault}
use Rattle.c_tree.specs.declared.flat.Flat.{Flat}
use Rattle.c_tree.specs.declared.language.Language.{Language}
use Rattle.flat_analysis.specs.Analyses.{IsAnalysis}
use Rattle.flat_analysis.specs.CompilableForms.{IsAcceptedForm, IsFormRefusal}
use Rattle.thread_code.specs.Plans.{language_of}
use Rattle.ido_compile.specs.links.FrontEndAnswers.{IsAnalysisAnswerAs, of_source}
use Rattle.ido_compile.proofs.FrontEndChecks.{by_error}
use Rattle.ido_compile.proofs.LoggedTexts.{form_accepted, form_refused}
use Rattle.ido_compile.proofs.compiler.checked.Goals as goal

pub returns-in_err-analysis-clause-answer : goal.returns-in_err-analysis-clause-answer
returns-in_err-analysis-clause-answer c =
    let flat = flat_of c.args.flat.now in
    let e = c.in_err-analysis.field-0.0 in
    by_error (IsAnalysisAnswerAs c.args.log c.args.text.now flat) (of_source e)
    c.from_residual.result c.from_residual.ensures.1
    (form_refused c.args.log c.args.text.now flat c.requires e
    (subst (λ (l : Language). IsFormRefusal l flat e) c.language_of.ensures c.in_err-analysis.ensures.refused))

pub analyse-requires-clause-formed : goal.analyse-requires-clause-formed
analyse-requires-clause-formed c =
    c.flattened_is_formed.ensures (language_of c.args.log) c.args.text.now (flat_of c.args.flat.now) c.requires

pub analyse-requires-clause-plain : goal.analyse-requires-clause-plain
analyse-requires-clause-plain c = λ is.
    let flat = flat_of c.args.flat.now in
    c.flattened_is_plain.ensures c.args.text.now flat
    (subst (λ (l : Language). IsFlattened l c.args.text.now flat) (sym c.language_of.ensures ∙ is) c.requires)

pub analyse-requires-clause-priced : goal.analyse-requires-clause-priced
analyse-requires-clause-priced c =
    let flat = flat_of c.args.flat.now in
    let is = c.requires in
    ap (λ (l : Language). price_fault l flat) c.language_of.ensures ∙ (ap (price_fault (language_of c.args.log)) is.flattened ∙ is.short)

pub returns-clause-answer : goal.returns-clause-answer
returns-clause-answer c =
    let flat = flat_of c.args.flat.now in
    let is = c.in_ok-analysis.ensures in
    let form : IsAcceptedForm c.language_of.result flat =
    subst (λ (x : Flat). IsAcceptedForm c.language_of.result (flat_of x)) is.of_flat is.analysed.accepted in (
      form_accepted c.args.log c.args.text.now flat c.requires (subst (λ (l : Language). IsAcceptedForm l flat) c.language_of.ensures form),
      subst (λ (l : Language). IsAnalysis l c.in_ok-analysis.analysis) c.language_of.ensures is.analysed,
    )
