use Rattle.std.proofs.Common.{is_some, ap, sym, ◌∙◌}
use Rattle.resume_recovery.proofs.RecoveryStepCases.{wait_idle}
use Rattle.resume_recovery.proofs.step.wait_waits.Goals as goal

pub returns : goal.returns
returns c = λ w number model same. c.is_some.ensures ∙ ap is_some c.least_taking.ensures ∙ sym (wait_idle c.args.phases.now w number model same)
