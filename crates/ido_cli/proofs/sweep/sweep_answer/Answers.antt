use Rattle.std.proofs.Common.{List, ℕ, subst}
use Rattle.std.proofs.lemmas.Result.{IfOk-weaker}
use Rattle.ido_compile.specs.CompileAnswers.{IsCompiledAs}
use Rattle.ido_cli.proofs.CompiledLimits.{by_object}
use Rattle.ido_cli.proofs.CrashRuns.{sweep_refused}
use Rattle.ido_cli.proofs.sweep.sweep_answer.Goals as goal

pub compiled_answer-requires-clause-compiled : goal.compiled_answer-requires-clause-compiled
compiled_answer-requires-clause-compiled g c κs within =
    subst (λ (text : List ℕ). IsCompiledAs c.in-Ok.compiled.translated.object.log text c.in-Ok.compiled) c.requires.source
    (by_object c.args.log c.args.source.now c.in-Ok.compiled c.in-Ok.ensures)

pub returns-in-Ok : goal.returns-in-Ok
returns-in-Ok g c = rw c.in-Ok.ensures.translated.log at c.compiled_answer.ensures

pub returns-in-Err : goal.returns-in-Err
returns-in-Err g c =
    IfOk-weaker c.source_refused.result _ _
    (λ said tells.
    sweep_refused c.args.log c.args.source.now c.args.input.now c.requires.source c.in-Err.error c.in-Err.ensures said.status said.output.items tells)
    c.source_refused.ensures
