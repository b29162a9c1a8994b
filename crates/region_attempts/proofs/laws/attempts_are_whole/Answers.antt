use Rattle.region_attempts.proofs.WholeAttempts.{attempts_are_whole}
use Rattle.region_attempts.proofs.laws.attempts_are_whole.Goals as goal

pub returns : goal.returns
returns c = attempts_are_whole
