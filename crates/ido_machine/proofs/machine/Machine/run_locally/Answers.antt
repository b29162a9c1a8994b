use Rattle.std.proofs.Common.{◌≡◌, slice_get, Some, sym, ap, ◌∙◌, rules}
use Rattle.hart_core.specs.declared.hart.Hart.{Hart}
use Rattle.hart_core.specs.declared.local.LocalState.{LocalState}
use Rattle.hart_core.specs.LocalSteps.{local_run}
use Rattle.ido_machine.specs.Harts.{local_state_of}
use Rattle.ido_machine.specs.Machines.{state_of}
use Rattle.ido_machine.specs.links.LocalRuns.{signs_passed, state_in}
use Rattle.ido_machine.specs.links.SignTables.{placed_in}
use Rattle.ido_machine.proofs.Lists.{get_is}
use Rattle.ido_machine.proofs.LocalRuns.{none_run_on}
use Rattle.ido_machine.proofs.LocalStates.{phase_is, state_is}
use Rattle.ido_machine.proofs.MachineEvents.{gone_stands}
use Rattle.ido_machine.proofs.machine.Machine.run_locally.Goals as goal

pub returns-in-Run-clause-world : goal.returns-in-Run-clause-world
returns-in-Run-clause-world c = λ w model s there.
    let machine = c.args.self.now in
    let h = c.args.hart in
    let table = c.args.table.now in
    let was : Hart = c.index_mut.result.now in
    let gone : Hart = c.run-ran.new.hart in
    let found : slice_get machine.harts.items h ≡ Some was =
    get_is machine.harts.items h was (search rules) ∙ ap Some (sym c.index_mut.ensures.value) in
    let it = s.standing.each h was model found there in
    let ran = c.run-ran.ensures.ran in
    let first : state_in was ≡ local_state_of model = state_is was model (state_in was) it.registers it.pc in
    record {
      last = state_in gone;
      run = ap (λ (x : LocalState). local_run (placed_in table) x c.run-ran.result.made) (sym first) ∙ ran.run;
      running = λ some. sym (phase_is w.harts machine.phases.items h model _ _ s.phases there c.index.ensures) ∙ c.in-Run.is;
      passed = ran.passed ∙ ap (λ (x : LocalState). signs_passed table x c.run-ran.result.made) first;
      stands =
          gone_stands (state_of machine) h was gone w model (state_in gone) (machine.logged ∙ sym machine.sized ∙ machine.harts.ok.0) found there
          (is gone was ran.queue) s;
    }
  where
    is : (gone was : Hart) → gone.queue ≡ was.queue → gone ≡ record was { registers = gone.registers; pc = gone.pc }
    is gone was same = ap (λ q. record gone { queue = q }) same

pub returns-in_default-clause-world : goal.returns-in_default-clause-world
returns-in_default-clause-world c = λ w model s there. none_run_on c.args.self.now w c.args.hart model c.args.table.now s there
