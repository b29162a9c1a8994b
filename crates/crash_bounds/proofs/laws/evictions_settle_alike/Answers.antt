use Rattle.crash_bounds.proofs.SettledAlike.{evictions_settle_alike}
use Rattle.crash_bounds.proofs.laws.evictions_settle_alike.Goals as goal

pub returns : goal.returns
returns c =
    evictions_settle_alike c.machines_resume.ensures c.machines_are_whole.ensures c.sections_are_kept.ensures c.settled_is_durable.ensures
