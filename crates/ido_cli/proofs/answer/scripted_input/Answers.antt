use Rattle.std.proofs.Common.{subst, sym}
use Rattle.ido_cli.specs.links.RunRequests.{TellsLives}
use Rattle.ido_cli.proofs.InputAnswers.{plays, scheme_tells}
use Rattle.ido_cli.proofs.answer.scripted_input.Goals as goal

pub scripted_answer-requires-clause-tells : goal.scripted_answer-requires-clause-tells
scripted_answer-requires-clause-tells c = subst TellsLives (sym c.log_by.ensures) (scheme_tells c.args.scheme)

pub returns : goal.returns
returns c =
    plays c.args.scheme c.args.asked c.args.input.now c.split.result.0.now c.scripted_answer.result c.requires
    c.if-source-gt-MOST_SOURCE_BYTES.false c.split.ensures.source (rw c.log_by.ensures at c.scripted_answer.ensures)
