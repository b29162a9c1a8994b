use Rattle.source_machine.proofs.AppendedScheduleRuns.{after_appended, runs_appended, ended_appended}
use Rattle.source_machine.proofs.laws.schedules_append.Goals as goal

pub returns-clause-after : goal.returns-clause-after
returns-clause-after c = after_appended

pub returns-clause-runs : goal.returns-clause-runs
returns-clause-runs c = runs_appended

pub returns-clause-ended : goal.returns-clause-ended
returns-clause-ended c = ended_appended
