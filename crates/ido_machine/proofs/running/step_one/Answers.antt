use Rattle.std.proofs.Common.{◌≡◌, ◌<◌, List, length, slice_get, slice_set, get_or, Some, refl, ap, sym, subst, ◌∙◌, arith}
use Rattle.machine_model.specs.declared.phase.Phase.{Phase}
use Rattle.machine_model.specs.declared.phase.Phase.TheVariants.{Take}
use Rattle.hart_core.specs.declared.hart.Hart.{Hart}
use Rattle.hart_core.specs.StepsOnParts.{Parts}
use Rattle.machine_model.specs.Machine.{happens}
use Rattle.rv64_isa.specs.Programs.{fetched}
use Rattle.machine_events.specs.declared.event.Event.TheVariants.{Step}
use Rattle.resume_recovery.specs.RecoverySteps.{phase_at}
use Rattle.resume_recovery.proofs.Public.{phase_read}
use Rattle.ido_machine.specs.Machines.{MachineState, StateEnds}
use Rattle.ido_machine.proofs.MachineEvents.{run_end, recovery_end}
use Rattle.ido_machine.proofs.Lists.{get_is, get_some}
use Rattle.ido_machine.proofs.running.step_one.Goals as goal

pub returns-in-Run-clause-step : goal.returns-in-Run-clause-step
returns-in-Run-clause-step c = λ program w s next.
    let state : MachineState =
    record { phases = c.args.phases.now; harts = c.args.harts.now; memory = c.args.memory.now; locks = c.args.locks.now; recovering = c.args.recovering } in
    let after : Parts = record { phase = c.run.new.phase; hart = c.run.new.hart; memory = c.run.new.memory; locks = c.run.new.locks } in
    let phase : Phase = get_or c.args.phases.now c.args.number Take in
    let it : Hart = get_or c.args.harts.now c.args.number c.index-harts-at.result in
    let within : c.args.number < length c.args.harts.now = omega (arith, c.requires.exists) in
    let in_phases : c.args.number < length c.args.phases.now = omega (arith, c.requires.phased, c.requires.exists) in
    let found : slice_get c.args.harts.now c.args.number ≡ Some it = get_is c.args.harts.now c.args.number c.index-harts-at.result within in
    let some = get_some w.harts c.args.number (omega (arith, s.standing.count, within)) in
    let at : c.args.next ≡ fetched program c.args.number it.pc =
    next some.0 some.1 ∙ ap (fetched program c.args.number) (s.standing.each c.args.number it some.0 found some.1).pc in
    run_end program c.args.number state phase it after c.run.result w within c.requires.threads found (phase_read c.args.phases.now c.args.number Take phase in_phases refl) c.in-Run.is
    (λ v model. c.run.ensures.step program v model at) s

pub returns-in_default : goal.returns-in_default
returns-in_default c = record {
  step = λ program w s next.
      let state : MachineState =
      record { phases = c.args.phases.now; harts = c.args.harts.now; memory = c.args.memory.now; locks = c.args.locks.now; recovering = c.args.recovering } in
      let after : Parts =
      record {
        phase = phase_at c.phase_step.new.phases c.args.number;
        hart = c.phase_step.new.hart;
        memory = c.args.memory.now;
        locks = c.phase_step.new.locks;
      } in
      let it : Hart = get_or c.args.harts.now c.args.number c.index-harts-at-in_default.result in
      let within : c.args.number < length c.args.harts.now = omega (arith, c.requires.exists) in
      let harts : List Hart = slice_set c.args.harts.now c.args.number c.phase_step.new.hart in
      subst (λ (phases : List Phase).
      StateEnds (record { phases = phases; harts = harts; memory = c.args.memory.now; locks = c.phase_step.new.locks; recovering = c.args.recovering })
      c.phase_step.result (happens program w (Step c.args.number))) (sym c.phase_step.ensures.phases)
      (recovery_end program c.args.number state it after c.phase_step.result w within c.requires.threads
      (get_is c.args.harts.now c.args.number c.index-harts-at-in_default.result within) c.phase_step.ensures.step s);
  logs = refl;
  stores = omega arith;
}
