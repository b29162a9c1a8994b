use Rattle.region_cutter.proofs.LocksAtStores.{chosen_are_locked, nodes_are_steps}
use Rattle.region_cutter.proofs.laws.chosen_boundaries_are_locked.Goals as goal

pub returns-clause-locked : goal.returns-clause-locked
returns-clause-locked c = chosen_are_locked

pub returns-clause-steps : goal.returns-clause-steps
returns-clause-steps c = nodes_are_steps
