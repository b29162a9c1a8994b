use Rattle.region_attempts.proofs.AttemptReads.{readers_guard, readers_guard_still}
use Rattle.region_attempts.proofs.laws.readers_guard.Goals as goal

pub returns-clause-here : goal.returns-clause-here
returns-clause-here c = readers_guard

pub returns-clause-still : goal.returns-clause-still
returns-clause-still c = readers_guard_still
