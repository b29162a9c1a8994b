use Rattle.recovered_threads.proofs.LogsDescribeState.{starts_describe, durable_locks_are_held, durable_locks_are_apart, durable_points_settle, crashes_recover}
use Rattle.recovered_threads.proofs.LogsDescribeState.{recovering_describes}
use Rattle.recovered_threads.proofs.laws.logs_describe.Goals as goal

pub returns-clause-start : goal.returns-clause-start
returns-clause-start c = starts_describe

pub returns-clause-held : goal.returns-clause-held
returns-clause-held c = durable_locks_are_held

pub returns-clause-apart : goal.returns-clause-apart
returns-clause-apart c = durable_locks_are_apart

pub returns-clause-settled : goal.returns-clause-settled
returns-clause-settled c = durable_points_settle

pub returns-clause-crash : goal.returns-clause-crash
returns-clause-crash c = crashes_recover

pub returns-clause-recovering : goal.returns-clause-recovering
returns-clause-recovering c = recovering_describes
