use Rattle.crash_bounds.proofs.Rates.{ordered_machines_settle}
use Rattle.crash_bounds.proofs.laws.ordered_machines_settle.Goals as goal

pub returns : goal.returns
returns c = ordered_machines_settle c.machines_get_on.ensures.run c.stops_are_settled.ensures
