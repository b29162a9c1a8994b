use Rattle.std.proofs.Common.{◌≡◌, ◌∙◌, arith, ap, length, refl}
use Rattle.std.proofs.lemmas.Result.{IfOk-weaker}
use Rattle.c_tree.specs.Flats.{flat_of}
use Rattle.run_scripts.specs.links.ScriptViews as scripts
use Rattle.ido_compile.specs.CompileAnswers.{translation_in}
use Rattle.ido_cli.specs.links.CrashPoints.{lines_in}
use Rattle.ido_cli.proofs.PlayedRuns.{as_many_threads}
use Rattle.ido_cli.proofs.RestLengths.{rest_short}
use Rattle.ido_cli.proofs.CrashRuns.{swept_fault, swept_script}
use Rattle.ido_cli.proofs.RefusedSchedules.{both_ok}
use Rattle.ido_cli.proofs.sweep.compiled_answer.Goals as goal

pub read_script-requires : goal.read_script-requires
read_script-requires g c = omega (arith, c.requires.short, ap length c.requires.rest, rest_short c.args.input.now)

pub overflow_sub-begins : goal.overflow_sub-begins
overflow_sub-begins g c = omega (arith, ap length c.requires.rest, rest_short c.args.input.now)

pub returns-in-Ok : goal.returns-in-Ok
returns-in-Ok g c =
    let x = c.args.compiled in
    let y = x.translated in
    let threads = as_many_threads (flat_of x.flat) y.object y.marks y.cuts c.requires.compiled.translated in
    let many : c.len.result ≡ length y.object.code.items = omega (arith, c.len.ensures, y.object.code.ok) in
    IfOk-weaker c.script_answer.result _ _
    (λ said is.
    swept_script c.args.input.now c.args.rest.now (flat_of x.flat) y.object.log _ c.requires.rest (many ∙ threads)
    c.requires.compiled.accepted
    (lines_in c.in-Ok.script) (translation_in x) said.status said.output.items c.in-Ok.ensures.lines
    (record {
      object = y.object;
      marks = y.marks;
      cuts = y.cuts;
      translated = c.requires.compiled.translated;
      compilation = c.requires.compiled.compilation;
      is = refl;
    }) is) c.script_answer.ensures

pub returns-in-Err : goal.returns-in-Err
returns-in-Err g c =
    let x = c.args.compiled in
    let y = x.translated in
    let threads = as_many_threads (flat_of x.flat) y.object y.marks y.cuts c.requires.compiled.translated in
    let many : c.len.result ≡ length y.object.code.items = omega (arith, c.len.ensures, y.object.code.ok) in
    IfOk-weaker c.script_refused.result _ _
    (λ said both.
    swept_fault c.args.input.now c.args.rest.now (flat_of x.flat) y.object.log _ c.requires.rest (many ∙ threads)
    c.requires.compiled.accepted
    (scripts.refused_fault c.in-Err.error) said.status said.output.items both.0 c.in-Err.ensures.refused both.1)
    (both_ok c.script_refused.result _ _ c.script_refused.ensures.fault c.script_refused.ensures.said)
