use Rattle.log_states.proofs.RecoveredRecords.{record_is_resumed}
use Rattle.log_states.proofs.BoundaryStarts.{point_says, side_follows, kept_are_keepable}
use Rattle.log_states.proofs.laws.records_resume.Goals as goal

pub returns-clause-record : goal.returns-clause-record
returns-clause-record c = record_is_resumed

pub returns-clause-point : goal.returns-clause-point
returns-clause-point c = point_says

pub returns-clause-side : goal.returns-clause-side
returns-clause-side c = side_follows

pub returns-clause-kept : goal.returns-clause-kept
returns-clause-kept c = kept_are_keepable
