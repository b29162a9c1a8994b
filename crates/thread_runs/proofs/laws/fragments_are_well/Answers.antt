use Rattle.thread_runs.proofs.OtherEventsKeepThreads.{fragments_are_well, marks_are_well}
use Rattle.thread_runs.proofs.CallsNotStuck.{locks_are_well, unlocks_are_well, ends_are_well}
use Rattle.thread_runs.proofs.laws.fragments_are_well.Goals as goal

pub returns-clause-fragments : goal.returns-clause-fragments
returns-clause-fragments c = fragments_are_well c.none_is_stuck.ensures

pub returns-clause-marks : goal.returns-clause-marks
returns-clause-marks c = marks_are_well c.none_is_stuck.ensures

pub returns-clause-locks : goal.returns-clause-locks
returns-clause-locks c = locks_are_well c.none_is_stuck.ensures

pub returns-clause-unlocks : goal.returns-clause-unlocks
returns-clause-unlocks c = unlocks_are_well c.none_is_stuck.ensures

pub returns-clause-ends : goal.returns-clause-ends
returns-clause-ends c = ends_are_well c.none_is_stuck.ensures
