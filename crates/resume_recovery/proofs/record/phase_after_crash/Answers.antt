use Rattle.std.proofs.Common.{◌∙◌, sym}
use Rattle.resume_recovery.proofs.Points.{idle_is, at_is, idle_phase, taking_phase}
use Rattle.resume_recovery.proofs.record.phase_after_crash.Goals as goal

pub returns-in-Idle : goal.returns-in-Idle
returns-in-Idle c = λ words s. idle_phase _ (idle_is _ (sym c.in-Idle.is ∙ c.point_of.ensures.point words s))

pub returns-in-At : goal.returns-in-At
returns-in-At c = λ words s. taking_phase _ (at_is _ _ _ (sym c.in-At.is ∙ c.point_of.ensures.point words s)).other
