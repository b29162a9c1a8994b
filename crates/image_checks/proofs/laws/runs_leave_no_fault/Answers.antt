use Rattle.image_checks.proofs.LeftFiles.{runs_leave_no_fault, runs_leave_references}
use Rattle.image_checks.proofs.laws.runs_leave_no_fault.Goals as goal

pub returns-clause-state : goal.returns-clause-state
returns-clause-state c = runs_leave_no_fault c.machines_resume.ensures c.machines_record.ensures

pub returns-clause-references : goal.returns-clause-references
returns-clause-references c = runs_leave_references c.machines_resume.ensures c.machines_record.ensures
