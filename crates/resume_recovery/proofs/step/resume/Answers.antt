use Rattle.std.proofs.Common.{refl}
use Rattle.resume_recovery.proofs.RecoveryStepCases.{resume_step}
use Rattle.resume_recovery.proofs.step.resume.Goals as goal

pub returns : goal.returns
returns c =
    λ locks. resume_step c.args.number c.args.hart.now c.args.memory.now locks c.resumed_registers-hart.result c.resume_address-hart.result
    c.resumed_registers-hart.ensures c.resume_address-hart.ensures _ refl refl refl
