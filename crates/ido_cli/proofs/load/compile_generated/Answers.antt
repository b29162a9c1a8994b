use Rattle.std.proofs.Common.{Err, List, ℕ, length, ap, ◌∙◌, subst, arith}
use Rattle.log_schemes.specs.declared.log.Log.{Log}
use Rattle.ido_compile.specs.CompileAnswers.{IsCompileAnswerAs, IsCompiledAs}
use Rattle.ido_cli.specs.Schemes.{log_by}
use Rattle.ido_cli.proofs.GeneratedPrograms.{compiled_in_order, never_refused}
use Rattle.ido_cli.proofs.ThreadedAnswers.{short_source}
use Rattle.ido_cli.proofs.load.compile_generated.Goals as goal

pub compile-requires : goal.compile-requires
compile-requires c =
    let is = c.deref.ensures.value ∙ c.in_ok-source.ensures in
    let few = short_source c.args.count c.args.seed c.ranges.count.fits in
    omega (arith, ap length is, few)

pub unreachable-requires : goal.unreachable-requires
unreachable-requires c =
    never_refused c.args.scheme c.generated_are_ordered.ensures c.args.count c.args.seed c.ranges.count.fits c.one_verdict.ensures.not_both _
    (c.deref.ensures.value ∙ c.in_ok-source.ensures) _ _ c.in-Err-Refused.field-0-is
    (subst (λ (l : Log). IsCompileAnswerAs l c.deref.result.now (Err c.in-Err-Refused.field-0)) c.log_by.ensures c.in-Err-Refused.ensures)

pub returns-in-Ok-clause-compiled : goal.returns-in-Ok-clause-compiled
returns-in-Ok-clause-compiled c =
    subst (λ (s : List ℕ). IsCompiledAs (log_by c.args.scheme) s c.in-Ok.compiled) (c.deref.ensures.value ∙ c.in_ok-source.ensures)
    (rw c.log_by.ensures at c.in-Ok.ensures)

pub returns-in-Ok-clause-in_order : goal.returns-in-Ok-clause-in_order
returns-in-Ok-clause-in_order c =
    compiled_in_order c.args.scheme c.generated_are_ordered.ensures c.args.count c.args.seed c.ranges.count.fits c.one_verdict.ensures.flat c.in-Ok.compiled
    (subst (λ (s : List ℕ). IsCompiledAs (log_by c.args.scheme) s c.in-Ok.compiled) (c.deref.ensures.value ∙ c.in_ok-source.ensures)
    (rw c.log_by.ensures at c.in-Ok.ensures))
