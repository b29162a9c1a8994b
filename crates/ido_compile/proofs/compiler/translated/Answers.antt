-- The analysis is of this flat form.
use Rattle.std.proofs.Common.{◌∙◌, ap, subst, sym}
use Rattle.c_tree.specs.Flats.{flat_of}
use Rattle.c_tree.specs.declared.flat.Flat.{Flat}
use Rattle.flow_graph.specs.Liveness.{AreAssignedFirst}
use Rattle.flow_graph.specs.Lowering.{lowered}
use Rattle.thread_code.specs.Plans.{language_of}
use Rattle.flat_compile.specs.TranslatedForms.{IsResumableAs, IsTranslatedAs}
use Rattle.ido_compile.specs.declared.error.CompileError.TheVariants as error
use Rattle.ido_compile.specs.links.FrontEndAnswers.{IsTranslationAnswerAs}
use Rattle.ido_compile.proofs.FrontEndChecks.{by_error}
use Rattle.ido_compile.proofs.compiler.translated.Goals as goal

pub returns-in_err-analysis : goal.returns-in_err-analysis
returns-in_err-analysis c =
    by_error (IsTranslationAnswerAs c.args.log c.args.text.now (flat_of c.args.flat.now)) c.in_err-analysis.field-0.0
    c.from_residual.result c.from_residual.ensures.1 c.in_err-analysis.ensures.answer

pub returns-in_err-translated : goal.returns-in_err-translated
returns-in_err-translated c =
    by_error (IsTranslationAnswerAs c.args.log c.args.text.now (flat_of c.args.flat.now)) error.Memory
    c.from_residual-in_err-translated.result c.from_residual-in_err-translated.ensures.1 tt

pub translate-requires-clause-analysis : goal.translate-requires-clause-analysis
translate-requires-clause-analysis c = c.in_ok-analysis.ensures.answer.1

pub translate-requires-clause-assigned_first : goal.translate-requires-clause-assigned_first
translate-requires-clause-assigned_first c = λ frame.
    let is = c.in_ok-analysis.ensures in
    subst AreAssignedFirst (sym (is.answer.1.lowered ∙ ap (λ (x : Flat). lowered (flat_of x)) is.of_flat))
    (c.locals_are_assigned_first.ensures (language_of c.args.log) c.args.text.now (flat_of c.args.flat.now) c.requires)

pub returns : goal.returns
returns c =
    let log = c.args.log in
    let made = c.in_ok-translated.translated in
    let is = c.in_ok-translated.ensures in (
      c.in_ok-analysis.ensures.answer.0,
      (
        subst (λ (x : Flat). IsTranslatedAs log (flat_of x) made.object made.marks made.cuts) c.in_ok-analysis.ensures.of_flat is.translated,
        subst (λ (x : Flat). IsResumableAs log (flat_of x) made.object made.marks made.cuts made.resumes.items) c.in_ok-analysis.ensures.of_flat is.resumes,
      ),
    )
