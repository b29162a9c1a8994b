use Rattle.recovered_threads.proofs.RecoveryAfterCrash.{logs_have_locks}
use Rattle.recovered_threads.proofs.RecordedLocks.{locks_are_held, points_have_locks, records_are_apart}
use Rattle.recovered_threads.proofs.laws.locks_are_held.Goals as goal

pub returns-clause-held : goal.returns-clause-held
returns-clause-held c = locks_are_held

pub returns-clause-apart : goal.returns-clause-apart
returns-clause-apart c = records_are_apart

pub returns-clause-some : goal.returns-clause-some
returns-clause-some c = points_have_locks

pub returns-clause-logged : goal.returns-clause-logged
returns-clause-logged c = logs_have_locks
