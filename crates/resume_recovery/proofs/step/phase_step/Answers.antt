use Rattle.std.proofs.Common.{◌≡◌, get_or, refl, ◌∙◌}
use Rattle.machine_events.specs.declared.event.Reply.TheVariants.{Still}
use Rattle.machine_model.specs.declared.phase.Phase.{Phase}
use Rattle.machine_model.specs.declared.phase.Phase.TheVariants.{Take, Wait, Resume}
use Rattle.hart_core.specs.StepsOnParts.{Parts}
use Rattle.resume_recovery.specs.RecoverySteps.{phase_at}
use Rattle.resume_recovery.proofs.RecoveryStepCases.{phase_read, placed_step, still_step}
use Rattle.resume_recovery.proofs.step.phase_step.Goals as goal
use Rattle.resume_recovery.proofs.step.phase_step.Goals.{in-Take, in-Wait, in-Resume, in_default}

pub returns-clause-step : goal.returns-clause-step
returns-clause-step c = elim c.match-phases-number.branch [
  | in-Take w ↦ rw (w.hart-is, w.locks-is, w.phase-is)
      (placed_step c.args.number c.args.phases.now Take w.take.result.0 c.args.hart.now c.args.hart.now c.args.memory.now c.args.locks.now w.take.new.locks
      w.take.result.1 c.requires.exists (phase_read c.args.phases.now c.args.number _ Take c.requires.exists w.in-Take.is)
      (record { each = λ program v model s same. (w.take.ensures.step c.args.hart.now).each v model s }))
  | in-Wait w ↦ rw (w.hart-is, w.locks-is, w.phase-is)
      (placed_step c.args.number c.args.phases.now Wait w.wait.result.0 c.args.hart.now c.args.hart.now c.args.memory.now c.args.locks.now c.args.locks.now
      w.wait.result.1 c.requires.exists (phase_read c.args.phases.now c.args.number _ Wait c.requires.exists w.in-Wait.is)
      (record { each = λ program v model s same. w.wait.ensures c.args.number c.args.hart.now c.args.memory.now c.args.locks.now v model s same }))
  | in-Resume w ↦ rw (w.hart-is, w.locks-is, w.phase-is)
      (placed_step c.args.number c.args.phases.now Resume w.resume.result.0 c.args.hart.now w.resume.new.hart c.args.memory.now c.args.locks.now
      c.args.locks.now w.resume.result.1 c.requires.exists (phase_read c.args.phases.now c.args.number _ Resume c.requires.exists w.in-Resume.is)
      (record { each = λ program v model s same. (w.resume.ensures c.args.locks.now).each v model s }))
  | in_default w ↦
      let now : Phase = get_or c.args.phases.now c.args.number Take in
      let at : phase_at c.args.phases.now c.args.number ≡ now = phase_read c.args.phases.now c.args.number Take now c.requires.exists refl in
      let parts : Parts = record { phase = now; hart = c.args.hart.now; memory = c.args.memory.now; locks = c.args.locks.now } in
      rw (w.hart-is, w.locks-is, w.phase-is)
      (placed_step c.args.number c.args.phases.now now now c.args.hart.now c.args.hart.now c.args.memory.now c.args.locks.now c.args.locks.now Still
      c.requires.exists at
      (still_step c.args.number parts c.args.phases.now w.in_default.not-Take w.in_default.not-Wait w.in_default.not-Resume
      (λ run. c.requires.recovering (at ∙ run))))
]
