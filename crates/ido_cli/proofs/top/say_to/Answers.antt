use Rattle.ido_cli.specs.Deliveries.{to_command, to_wrong_words}
use Rattle.ido_cli.proofs.top.say_to.Goals as goal

pub returns-in_ok-said-in-Some-clause-said : goal.returns-in_ok-said-in-Some-clause-said
returns-in_ok-said-in-Some-clause-said g c = to_command c.in-Some.command c.in-Some.is c.in_ok-said-in-Some.ensures.said

pub returns-in_ok-said-in-None-clause-said : goal.returns-in_ok-said-in-None-clause-said
returns-in_ok-said-in-None-clause-said g c =
    to_wrong_words c.in-None.is (c.in_ok-said-in-None.ensures.status, c.in_ok-said-in-None.ensures.output)
