use Rattle.std.proofs.Common.{refl, subst, Err}
use Rattle.std.proofs.lemmas.Result.{IfOk-weaker}
use Rattle.c_tree.specs.Flats.{flat_of}
use Rattle.log_schemes.specs.declared.log.Log.{Log}
use Rattle.ido_compile.specs.CompileAnswers.{IsCompileAnswerAs, translation_in}
use Rattle.ido_cli.specs.Answers.{ran}
use Rattle.ido_cli.specs.Schemes.{log_by}
use Rattle.ido_cli.proofs.CompiledLimits.{translated_by_object}
use Rattle.ido_cli.proofs.ThreadedAnswers.{live_refused}
use Rattle.ido_cli.proofs.live.live_answer.Goals as goal

pub ran-requires-clause-translated : goal.ran-requires-clause-translated
ran-requires-clause-translated g c κs within =
    translated_by_object c.log_by.result c.args.source.now c.in-Ok.compiled c.in-Ok.ensures

pub returns-in-Ok : goal.returns-in-Ok
returns-in-Ok g c =
    let x = c.in-Ok.compiled in
    let y = x.translated in
    let is = rw c.log_by.ensures at c.in-Ok.ensures in
    IfOk-weaker c.ran.result _ _
    (λ said run.
    ran (flat_of x.flat) is.accepted (translation_in x) (record {
      object = y.object;
      marks = y.marks;
      cuts = y.cuts;
      translated = is.translated;
      compilation = is.compilation;
      is = refl;
    }) run.events run.legs run.told)
    c.ran.ensures

pub returns-in-Err : goal.returns-in-Err
returns-in-Err g c =
    IfOk-weaker c.source_refused.result _ _
    (λ said told.
    live_refused (log_by c.args.asked.scheme) c.args.asked.turns c.args.asked.crashes.now c.args.asked.evict c.args.asked.journal c.args.source.now
    c.in-Err.error
    (subst (λ (l : Log). IsCompileAnswerAs l c.args.source.now (Err c.in-Err.error)) c.log_by.ensures c.in-Err.ensures) said.status said.output.items told)
    c.source_refused.ensures
