use Rattle.thread_runs.proofs.RemainingSteps.{fragments_are_bounded, marks_are_bounded}
use Rattle.thread_runs.proofs.laws.fragments_are_bounded.Goals as goal

pub returns-clause-fragments : goal.returns-clause-fragments
returns-clause-fragments c = fragments_are_bounded

pub returns-clause-marks : goal.returns-clause-marks
returns-clause-marks c = marks_are_bounded
