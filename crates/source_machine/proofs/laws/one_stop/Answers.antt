use Rattle.source_machine.proofs.UniqueRefusals.{one_stop, not_whole}
use Rattle.source_machine.proofs.laws.one_stop.Goals as goal

pub returns-clause-stop : goal.returns-clause-stop
returns-clause-stop c = one_stop

pub returns-clause-not_whole : goal.returns-clause-not_whole
returns-clause-not_whole c = not_whole
