use Rattle.std.proofs.Common.{◌≡◌, slice_get, Some, refl, sym, ap, ◌∙◌, rules}
use Rattle.ido_machine.specs.Machines.{state_of}
use Rattle.ido_machine.proofs.Lists.{get_is}
use Rattle.ido_machine.proofs.MachineEvents.{gone_stands}
use Rattle.ido_machine.proofs.machine.Machine.go_to.Goals as goal

pub returns-clause-world : goal.returns-clause-world
returns-clause-world c = λ w model s there.
    let machine = c.args.self.now in
    let found : slice_get machine.harts.items c.args.hart ≡ Some c.index_mut-it.result.now =
    get_is machine.harts.items c.args.hart c.index_mut-it.result.now (search rules) ∙ ap Some (sym c.index_mut-it.ensures.value) in
    gone_stands (state_of machine) c.args.hart c.index_mut-it.result.now _ w model c.args.state.now (machine.logged ∙ sym machine.sized ∙ machine.harts.ok.0)
    found there refl s
