use Rattle.crash_bounds.proofs.Rates.{harts_get_on, machines_end, machines_get_on}
use Rattle.crash_bounds.proofs.laws.machines_get_on.Goals as goal

pub returns-clause-hart : goal.returns-clause-hart
returns-clause-hart c = harts_get_on

pub returns-clause-machine : goal.returns-clause-machine
returns-clause-machine c = machines_get_on

pub returns-clause-run : goal.returns-clause-run
returns-clause-run c = machines_end
