use Rattle.std.proofs.Common.{◌∙◌, ap, sym}
use Rattle.machine_model.specs.Machine.{resume_of}
use Rattle.resume_recovery.proofs.Points.{idle_is, at_is}
use Rattle.resume_recovery.proofs.record.resume_address.Goals as goal

pub returns-in-Idle : goal.returns-in-Idle
returns-in-Idle c = λ words s. sym (ap resume_of (idle_is _ (sym c.in-Idle.is ∙ c.point_of.ensures.point words s)))

pub returns-in-At : goal.returns-in-At
returns-in-At c = λ words s. (at_is _ c.in-At.address _ (sym c.in-At.is ∙ c.point_of.ensures.point words s)).resumes
