use Rattle.ido_cli.proofs.InputAnswers.{sweeps}
use Rattle.ido_cli.proofs.answer.sweep_input.Goals as goal

pub returns : goal.returns
returns g c =
    sweeps c.args.scheme c.args.input.now c.split.result.0.now c.sweep_answer.result c.requires c.if-source-gt-MOST_SOURCE_BYTES.false c.split.ensures.source
    (rw c.log_by.ensures at c.sweep_answer.ensures)
