use Rattle.std.proofs.Common.{◌≡◌, slice_get, Some, sym, ap, ◌∙◌, rules}
use Rattle.ido_machine.proofs.Lists.{get_is}
use Rattle.ido_machine.proofs.LocalStates.{state_is}
use Rattle.ido_machine.proofs.machine.Machine.local_state.Goals as goal

pub returns : goal.returns
returns c = λ w model s there.
    let found : slice_get c.args.self.now.harts.items c.args.hart ≡ Some c.index-it.result.now =
    get_is c.args.self.now.harts.items c.args.hart c.index-it.result.now (search rules) ∙ ap Some (sym c.index-it.ensures) in
    let it = s.standing.each c.args.hart c.index-it.result.now model found there in
    state_is c.index-it.result.now model (record { registers = model.registers; pc = model.pc }) it.registers it.pc
