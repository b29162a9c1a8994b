use Rattle.deadlock_freedom.proofs.Compilations.{none_deadlocks, none_deadlocks_resumed}
use Rattle.deadlock_freedom.proofs.laws.none_deadlocks.Goals as goal

pub returns-clause-run : goal.returns-clause-run
returns-clause-run c = none_deadlocks c.locks_ascend.ensures

pub returns-clause-resumed : goal.returns-clause-resumed
returns-clause-resumed c = none_deadlocks_resumed c.locks_ascend.ensures c.images_are_crashes.ensures
