-- The checks up to the flat form, and then those of it.
use Rattle.ido_compile.specs.links.FrontEndAnswers.{IsFrontAnswerAs}
use Rattle.ido_compile.proofs.FrontEndChecks.{by_error}
use Rattle.ido_compile.proofs.compiler.front.Goals as goal

pub returns-in_err-flat : goal.returns-in_err-flat
returns-in_err-flat c =
    by_error (IsFrontAnswerAs c.args.log c.args.text.now) c.in_err-flat.field-0.0 c.from_residual.result c.from_residual.ensures.1 c.in_err-flat.ensures

pub returns-in_err-checked : goal.returns-in_err-checked
returns-in_err-checked c =
    by_error (IsFrontAnswerAs c.args.log c.args.text.now) c.in_err-checked.field-0.0 c.from_residual-in_err-checked.result
    c.from_residual-in_err-checked.ensures.1
    c.in_err-checked.ensures.answer

pub returns : goal.returns
returns c = c.in_ok-checked.ensures.answer.0
