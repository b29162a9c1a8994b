use Rattle.std.proofs.Common.{List, ℕ, subst, ◌-◌, ◌≡◌, ◌∙◌, arith, ap, length, refl}
use Rattle.std.proofs.lemmas.Result.{IfOk-weaker}
use Rattle.c_tree.specs.Flats.{flat_of}
use Rattle.run_scripts.specs.links.ScriptViews as scripts
use Rattle.std.specs.Prelude.{map}
use Rattle.ido_compile.specs.CompileAnswers.{translation_in}
use Rattle.ido_cli.specs.Inputs.{source_of}
use Rattle.ido_cli.specs.Plays.{ScriptAnswer}
use Rattle.ido_cli.specs.links.RunRequests.{Says}
use Rattle.ido_cli.proofs.PlayedRuns.{as_many_threads}
use Rattle.ido_cli.proofs.RestLengths.{rest_short}
use Rattle.ido_cli.proofs.ScriptAnswers.{script_fault_answer, script_run_answer}
use Rattle.ido_cli.proofs.RefusedSchedules.{both_ok}
use Rattle.ido_cli.proofs.play.compiled_answer.Goals as goal

pub read_script-requires : goal.read_script-requires
read_script-requires c = omega (arith, c.requires.short, ap length c.requires.rest, rest_short c.args.input.now)

pub overflow_sub-begins : goal.overflow_sub-begins
overflow_sub-begins c = omega (arith, ap length c.requires.rest, rest_short c.args.input.now)

pub script_answer-requires-clause-short_source : goal.script_answer-requires-clause-short_source
script_answer-requires-clause-short_source c = omega (arith, c.requires.short_source, ap length c.requires.compiled.text_is)

pub returns-in-Ok : goal.returns-in-Ok
returns-in-Ok c =
    let x = c.args.compiled.now in
    let y = x.translated in
    let threads = as_many_threads (flat_of x.flat) y.object y.marks y.cuts c.requires.compiled.translated in
    let many : c.len.result ≡ length y.object.code.items = omega (arith, c.len.ensures, c.args.compiled.now.translated.object.code.ok) in
    IfOk-weaker c.script_answer.result _ _
    (λ said is.
    script_run_answer c.args.input.now c.args.rest.now (flat_of x.flat) y.object.log _ c.requires.rest (many ∙ threads)
    c.requires.compiled.accepted
    (Says c.args.asked (source_of c.args.input.now)) (map scripts.line_of c.in-Ok.script.lines.items) (translation_in x)
    said.status said.output.items c.in-Ok.ensures.lines
    (record {
      object = y.object;
      marks = y.marks;
      cuts = y.cuts;
      translated = c.requires.compiled.translated;
      compilation = c.requires.compiled.compilation;
      is = refl;
    })
    (subst (λ (text : List ℕ). ScriptAnswer (translation_in x) (Says c.args.asked text (translation_in x)) (record {
      lines = map scripts.line_of c.in-Ok.script.lines.items;
      input = c.args.input.now;
      begins = length c.args.input.now - length c.args.rest.now;
    }) said.status said.output.items) c.requires.compiled.text_is is)) c.script_answer.ensures

pub returns-in-Err : goal.returns-in-Err
returns-in-Err c =
    let x = c.args.compiled.now in
    let y = x.translated in
    let threads = as_many_threads (flat_of x.flat) y.object y.marks y.cuts c.requires.compiled.translated in
    let many : c.len.result ≡ length y.object.code.items = omega (arith, c.len.ensures, c.args.compiled.now.translated.object.code.ok) in
    IfOk-weaker c.script_refused.result _ _
    (λ said both.
    script_fault_answer c.args.input.now c.args.rest.now (flat_of x.flat) y.object.log _ c.requires.rest (many ∙ threads)
    c.requires.compiled.accepted
    (Says c.args.asked (source_of c.args.input.now)) (scripts.refused_fault c.in-Err.error) said.status said.output.items both.0
    c.in-Err.ensures.refused both.1)
    (both_ok c.script_refused.result _ _ c.script_refused.ensures.fault c.script_refused.ensures.said)
