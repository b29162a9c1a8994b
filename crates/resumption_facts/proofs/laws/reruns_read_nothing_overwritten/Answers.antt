use Rattle.resumption_facts.proofs.StoresFollowLoads.{frame_is_stored_at_resumption, no_load_is_overwritten}
use Rattle.resumption_facts.proofs.StoresFollowReads.{no_read_is_overwritten}
use Rattle.resumption_facts.proofs.laws.reruns_read_nothing_overwritten.Goals as goal

pub returns-clause-loads : goal.returns-clause-loads
returns-clause-loads c =
    no_load_is_overwritten c.fragments_step.ensures c.cores_step.ensures c.local_stores_step.ensures c.fragments_go_on.ensures c.marks_pass.ensures

pub returns-clause-frames : goal.returns-clause-frames
returns-clause-frames c = frame_is_stored_at_resumption c.machines_resume.ensures c.fragments_go_on.ensures c.marks_pass.ensures

pub returns-clause-steps : goal.returns-clause-steps
returns-clause-steps c = no_read_is_overwritten c.machines_resume.ensures
