use Rattle.region_attempts.proofs.AttemptsStayInRegion.{start_stays, events_stay}
use Rattle.region_attempts.proofs.laws.attempts_stay_inside.Goals as goal

pub returns-clause-start : goal.returns-clause-start
returns-clause-start c = start_stays

pub returns-clause-event : goal.returns-clause-event
returns-clause-event c = events_stay
