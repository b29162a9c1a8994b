use Rattle.log_states.proofs.FactsByName.{log_facts}
use Rattle.log_states.proofs.laws.facts.Goals as goal

pub returns : goal.returns
returns c = log_facts
