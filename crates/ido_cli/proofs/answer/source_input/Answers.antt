use Rattle.ido_cli.proofs.InputAnswers.{runs}
use Rattle.ido_cli.proofs.answer.source_input.Goals as goal

pub returns : goal.returns
returns c =
    runs c.args.input.now c.split.result.0.now c.source_answer.result c.requires c.if-source-gt-MOST_SOURCE_BYTES.false c.split.ensures.source
    c.source_answer.ensures
