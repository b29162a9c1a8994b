use Rattle.std.proofs.Common.{◌≡◌, ◌<◌, length, ap, sym, ◌∙◌, arith}
use Rattle.machine_events.specs.Cores.{is_idle}
use Rattle.machine_model.specs.declared.phase.Phase.TheVariants.{Take, Run}
use Rattle.machine_model.specs.Machine.{Outcome}
use Rattle.resume_recovery.specs.RecoverySteps.{phase_at}
use Rattle.resume_recovery.proofs.Public.{phase_read}
use Rattle.ido_machine.proofs.MachineEvents.{phase_there, run_idle, stepped-is}
use Rattle.ido_machine.proofs.running.is_idle.Goals as goal

pub returns-in-Run : goal.returns-in-Run
returns-in-Run c = λ w model words log holders phases there registers pc.
    let within : c.args.number < length c.args.phases.now = omega (arith, c.requires.phased, c.requires.exists) in
    let running : phase_at c.args.phases.now c.args.number ≡ Run = phase_read c.args.phases.now c.args.number Take Run within c.in-Run.is in
    c.would_wait.ensures
    ∙ run_idle c.args.program.now c.args.number c.args.hart.now.registers c.args.hart.now.pc c.args.locks.now w model there
    (phase_there c.args.phases.now c.args.number w model there phases ∙ running) registers pc holders

pub returns-in_default : goal.returns-in_default
returns-in_default c = λ w model words log holders phases there registers pc.
    c.would_wait-in_default.ensures c.args.program.now w model words log holders phases
    ∙ sym (ap (λ (o : Outcome). is_idle o.1) (stepped-is c.args.program.now w c.args.number model (phase_at c.args.phases.now c.args.number) there
    (phase_there c.args.phases.now c.args.number w model there phases)))
