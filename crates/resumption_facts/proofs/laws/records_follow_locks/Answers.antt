use Rattle.resumption_facts.proofs.RecordsFollowLocks.{records_follow_locks}
use Rattle.resumption_facts.proofs.laws.records_follow_locks.Goals as goal

pub returns : goal.returns
returns c = records_follow_locks c.machines_resume.ensures c.machines_record.ensures c.marks_pass.ensures c.events_stand.ensures
