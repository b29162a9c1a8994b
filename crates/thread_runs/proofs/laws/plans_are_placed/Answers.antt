use Rattle.thread_runs.proofs.PlacedPlans.{plans_are_placed}
use Rattle.thread_runs.proofs.laws.plans_are_placed.Goals as goal

pub returns : goal.returns
returns c = plans_are_placed
