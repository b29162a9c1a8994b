use Rattle.log_states.proofs.BoundaryStarts.{begins}
use Rattle.log_states.proofs.EventsKeepLog.{keeps, ends, rests}
use Rattle.log_states.proofs.laws.boundaries_record.Goals as goal

pub returns-clause-begins : goal.returns-clause-begins
returns-clause-begins c = begins

pub returns-clause-event : goal.returns-clause-event
returns-clause-event c = keeps

pub returns-clause-ends : goal.returns-clause-ends
returns-clause-ends c = ends

pub returns-clause-rests : goal.returns-clause-rests
returns-clause-rests c = rests
