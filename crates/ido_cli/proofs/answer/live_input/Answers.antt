use Rattle.ido_cli.proofs.InputAnswers.{lives}
use Rattle.ido_cli.proofs.answer.live_input.Goals as goal

pub returns : goal.returns
returns g c =
    lives c.args.asked.scheme c.args.asked.turns c.args.asked.crashes.now c.args.asked.evict c.args.asked.journal c.args.input.now c.live_answer.result
    c.if-input-gt-MOST_SOURCE_BYTES.false c.live_answer.ensures
