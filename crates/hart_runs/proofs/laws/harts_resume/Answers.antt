use Rattle.hart_runs.proofs.WorldAfterCrash.{crashes_step}
use Rattle.hart_runs.proofs.RecoverySteps.{takes_step, waits_step, resumes_step, stopped_stay}
use Rattle.hart_runs.proofs.laws.harts_resume.Goals as goal

pub returns-clause-crashes : goal.returns-clause-crashes
returns-clause-crashes c = crashes_step

pub returns-clause-takes : goal.returns-clause-takes
returns-clause-takes c = takes_step

pub returns-clause-waits : goal.returns-clause-waits
returns-clause-waits c = waits_step

pub returns-clause-resumes : goal.returns-clause-resumes
returns-clause-resumes c = resumes_step

pub returns-clause-stopped : goal.returns-clause-stopped
returns-clause-stopped c = stopped_stay
