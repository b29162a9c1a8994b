use Rattle.ido_cli.proofs.InputAnswers.{draws}
use Rattle.ido_cli.proofs.answer.seeded_input.Goals as goal

pub returns : goal.returns
returns c =
    draws c.args.scheme c.args.seed c.args.turns c.args.crashes.now c.args.journal c.args.input.now c.seeded_answer.result c.if-input-gt-MOST_SOURCE_BYTES.false
    (rw (c.words.ensures, c.log_by.ensures) at c.seeded_answer.ensures)
