use Rattle.ido_cli.proofs.InputAnswers.{made}
use Rattle.ido_cli.proofs.answer.product_input.Goals as goal

pub returns : goal.returns
returns c =
    made c.args.product c.args.input.now c.product_answer.result c.if-input-gt-MOST_SOURCE_BYTES.false c.product_answer.ensures
