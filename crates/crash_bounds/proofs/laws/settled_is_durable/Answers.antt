use Rattle.crash_bounds.proofs.SettledMemory.{settled_is_durable}
use Rattle.crash_bounds.proofs.laws.settled_is_durable.Goals as goal

pub returns : goal.returns
returns c = settled_is_durable c.machines_resume.ensures
