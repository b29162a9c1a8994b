use Rattle.region_attempts.proofs.AttemptReads.{rerun_reads_nothing_overwritten}
use Rattle.region_attempts.proofs.laws.rerun_reads_nothing_overwritten.Goals as goal

pub returns : goal.returns
returns c = rerun_reads_nothing_overwritten
