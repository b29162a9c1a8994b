use Rattle.std.proofs.Common.{sym, ◌∙◌}
use Rattle.resume_recovery.proofs.RecoveryStepCases.{wait_ends, wait_stays}
use Rattle.resume_recovery.proofs.step.wait.Goals as goal

pub returns-in-None : goal.returns-in-None
returns-in-None c =
    λ number hart memory locks w model s same. wait_ends number hart memory locks c.args.phases.now w model s same (sym c.in-None.is ∙ c.least_taking.ensures)

pub returns-in-Some : goal.returns-in-Some
returns-in-Some c =
    λ number hart memory locks w model s same.
    wait_stays number hart memory locks c.args.phases.now w model s same c.in-Some.hart (sym c.in-Some.is ∙ c.least_taking.ensures)
