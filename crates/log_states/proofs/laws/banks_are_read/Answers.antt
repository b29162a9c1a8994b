use Rattle.log_states.proofs.KeptRecords.{banks_read}
use Rattle.log_states.proofs.laws.banks_are_read.Goals as goal

pub returns : goal.returns
returns c = banks_read
