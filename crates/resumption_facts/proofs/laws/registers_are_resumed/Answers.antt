use Rattle.resumption_facts.proofs.RegistersResumed.{registers_are_resumed}
use Rattle.resumption_facts.proofs.laws.registers_are_resumed.Goals as goal

pub returns : goal.returns
returns c = registers_are_resumed c.machines_resume.ensures c.resumed_go_on.ensures
