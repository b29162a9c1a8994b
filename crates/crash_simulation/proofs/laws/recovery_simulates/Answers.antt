use Rattle.crash_simulation.proofs.SimulationInRecovery.{takes_stand, waits_stand, stopped_stand, resumes_stand}
use Rattle.crash_simulation.proofs.laws.recovery_simulates.Goals as goal

pub returns-clause-takes : goal.returns-clause-takes
returns-clause-takes c = takes_stand

pub returns-clause-waits : goal.returns-clause-waits
returns-clause-waits c = waits_stand

pub returns-clause-stopped : goal.returns-clause-stopped
returns-clause-stopped c = stopped_stand

pub returns-clause-resumes : goal.returns-clause-resumes
returns-clause-resumes c = resumes_stand
