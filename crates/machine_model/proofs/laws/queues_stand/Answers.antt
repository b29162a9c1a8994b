use Rattle.machine_model.proofs.Frames.{queues_stand, starts_simulate, crashes_simulate}
use Rattle.machine_model.proofs.laws.queues_stand.Goals as goal

pub returns-clause-events : goal.returns-clause-events
returns-clause-events c = queues_stand

pub returns-clause-starts : goal.returns-clause-starts
returns-clause-starts c = starts_simulate

pub returns-clause-crashes : goal.returns-clause-crashes
returns-clause-crashes c = crashes_simulate
