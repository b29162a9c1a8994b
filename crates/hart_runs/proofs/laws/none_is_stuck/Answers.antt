use Rattle.hart_runs.proofs.NoStuckHarts.{none_is_stuck}
use Rattle.hart_runs.proofs.laws.none_is_stuck.Goals as goal

pub returns : goal.returns
returns c = none_is_stuck
