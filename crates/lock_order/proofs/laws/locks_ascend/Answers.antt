use Rattle.lock_order.proofs.Runs.{locks_ascend}
use Rattle.lock_order.proofs.laws.locks_ascend.Goals as goal

pub returns : goal.returns
returns c = locks_ascend c.others_stay.ensures.step
