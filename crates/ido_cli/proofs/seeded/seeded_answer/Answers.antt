use Rattle.std.proofs.Common.{refl}
use Rattle.std.proofs.lemmas.Result.{IfOk-weaker}
use Rattle.c_tree.specs.Flats.{flat_of}
use Rattle.ido_compile.specs.CompileAnswers.{translation_in}
use Rattle.ido_cli.specs.Answers.{drawn}
use Rattle.ido_cli.proofs.CompiledLimits.{translated_by_object}
use Rattle.ido_cli.proofs.RefusedSources.{draw_refused}
use Rattle.ido_cli.proofs.seeded.seeded_answer.Goals as goal

pub drawn_answer-requires-clause-translated : goal.drawn_answer-requires-clause-translated
drawn_answer-requires-clause-translated c = translated_by_object c.args.log c.args.source.now c.in-Ok.compiled c.in-Ok.ensures

pub returns-in-Ok : goal.returns-in-Ok
returns-in-Ok c =
    let x = c.in-Ok.compiled in
    let y = x.translated in
    let is = c.in-Ok.ensures in
    IfOk-weaker c.drawn_answer.result _ _
    (λ said run.
    drawn (flat_of x.flat) is.accepted (translation_in x) (record {
      object = y.object;
      marks = y.marks;
      cuts = y.cuts;
      translated = is.translated;
      compilation = is.compilation;
      is = refl;
    }) run)
    c.drawn_answer.ensures

pub returns-in-Err : goal.returns-in-Err
returns-in-Err c =
    IfOk-weaker c.source_refused.result _ _
    (λ said told.
    draw_refused c.args.log c.args.seed c.args.turns c.args.crashes.now c.args.journal c.args.source.now c.in-Err.error c.in-Err.ensures said.status
    said.output.items told)
    c.source_refused.ensures
