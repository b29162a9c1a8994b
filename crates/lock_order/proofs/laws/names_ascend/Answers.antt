use Rattle.lock_order.proofs.Runs.{names_ascend}
use Rattle.lock_order.proofs.laws.names_ascend.Goals as goal

pub returns : goal.returns
returns c = names_ascend c.others_stay.ensures.step
