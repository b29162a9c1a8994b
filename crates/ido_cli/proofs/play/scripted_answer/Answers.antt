use Rattle.std.proofs.Common.{List, ℕ, length, subst, sym, ◌≤◌}
use Rattle.std.proofs.lemmas.Result.{IfOk-weaker}
use Rattle.ido_base.specs.declared.limits.TheConstants.{MOST_SOURCE_BYTES}
use Rattle.ido_compile.specs.CompileAnswers.{IsCompiledAs}
use Rattle.ido_cli.specs.Inputs.{source_of}
use Rattle.ido_cli.specs.links.RunRequests.{Says, TellsLives}
use Rattle.ido_cli.proofs.CompiledLimits.{by_object}
use Rattle.ido_cli.proofs.RefusedSources.{script_refused}
use Rattle.ido_cli.proofs.play.scripted_answer.Goals as goal

pub compiled_answer-requires-clause-short_source : goal.compiled_answer-requires-clause-short_source
compiled_answer-requires-clause-short_source c = subst (λ (text : List ℕ). length text ≤ MOST_SOURCE_BYTES) c.requires.source c.requires.short_source

pub compiled_answer-requires-clause-tells : goal.compiled_answer-requires-clause-tells
compiled_answer-requires-clause-tells c = subst TellsLives (sym c.in-Ok.ensures.translated.log) c.requires.tells

pub compiled_answer-requires-clause-compiled : goal.compiled_answer-requires-clause-compiled
compiled_answer-requires-clause-compiled c =
    subst (λ (text : List ℕ). IsCompiledAs c.in-Ok.compiled.translated.object.log text c.in-Ok.compiled) c.requires.source
    (by_object c.args.log c.args.source.now c.in-Ok.compiled c.in-Ok.ensures)

pub returns-in-Ok : goal.returns-in-Ok
returns-in-Ok c = rw c.in-Ok.ensures.translated.log at c.compiled_answer.ensures

pub returns-in-Err : goal.returns-in-Err
returns-in-Err c =
    IfOk-weaker c.source_refused.result _ _
    (λ said tells.
    script_refused c.args.source.now c.args.input.now c.requires.source c.args.log (Says c.args.asked (source_of c.args.input.now))
    c.in-Err.error c.in-Err.ensures said.status said.output.items tells)
    c.source_refused.ensures
