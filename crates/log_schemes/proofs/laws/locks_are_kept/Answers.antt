use Rattle.log_schemes.proofs.KeptLocks.{locks_kept}
use Rattle.log_schemes.proofs.laws.locks_are_kept.Goals as goal

pub returns : goal.returns
returns c = locks_kept
