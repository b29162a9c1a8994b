use Rattle.ido_cli.proofs.TopCallAnswers.{said_to_taken_input}
use Rattle.ido_cli.proofs.top.say_to_input.Goals as goal

pub returns-clause-said : goal.returns-clause-said
returns-clause-said g c =
    said_to_taken_input c.args.command (g.S.Source.left c.args.input.now) c.in-Some.bytes.items c.in_ok-said.said
    (rw c.in-Some.is at c.in_ok-bytes.ensures.taken) (rw c.deref.ensures.value at c.in_ok-said.ensures)
