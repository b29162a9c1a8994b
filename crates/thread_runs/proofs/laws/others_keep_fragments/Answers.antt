use Rattle.thread_runs.proofs.OtherEventsKeepThreads.{others_keep_fragments, others_keep_marks}
use Rattle.thread_runs.proofs.ThreadsAtNodeCode.{others_keep_cores}
use Rattle.thread_runs.proofs.laws.others_keep_fragments.Goals as goal

pub returns-clause-fragments : goal.returns-clause-fragments
returns-clause-fragments c = others_keep_fragments

pub returns-clause-marks : goal.returns-clause-marks
returns-clause-marks c = others_keep_marks

pub returns-clause-cores : goal.returns-clause-cores
returns-clause-cores c = others_keep_cores
