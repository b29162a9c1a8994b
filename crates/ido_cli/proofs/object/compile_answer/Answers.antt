use Rattle.std.proofs.Common.{refl}
use Rattle.std.proofs.lemmas.Result.{IfOk-weaker}
use Rattle.c_tree.specs.Flats.{flat_of}
use Rattle.ido_compile.specs.CompileAnswers.{translation_in}
use Rattle.ido_cli.specs.Answers.{compiled}
use Rattle.ido_cli.proofs.Lengths.{four_bytes_tell}
use Rattle.ido_cli.proofs.RefusedSources.{compile_refused}
use Rattle.ido_cli.proofs.object.compile_answer.Goals as goal

pub write_object-requires : goal.write_object-requires
write_object-requires c = four_bytes_tell c.in-Ok.compiled.translated.object c.in-Ok.ensures.translated.limits

pub returns-in_ok-output-in-Ok : goal.returns-in_ok-output-in-Ok
returns-in_ok-output-in-Ok c =
    let it = c.in-Ok.compiled in
    let y = it.translated in
    compiled (flat_of it.flat) c.in-Ok.ensures.accepted (translation_in it)
    (record {
      object = y.object;
      marks = y.marks;
      cuts = y.cuts;
      translated = c.in-Ok.ensures.translated;
      compilation = c.in-Ok.ensures.compilation;
      is = refl;
    }) refl c.in_ok-output-in-Ok.ensures

pub returns-in-Err : goal.returns-in-Err
returns-in-Err c =
    IfOk-weaker c.source_refused.result _ _
    (λ said told. compile_refused c.args.log c.args.source.now c.in-Err.error c.in-Err.ensures said.status said.output.items told)
    c.source_refused.ensures
