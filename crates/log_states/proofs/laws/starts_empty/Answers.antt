use Rattle.log_states.proofs.RecoveredRecords as resuming
use Rattle.log_states.proofs.laws.starts_empty.Goals as goal

pub returns : goal.returns
returns c = resuming.starts_empty
