use Rattle.std.proofs.Common.{◌≡◌, slice_get, Some, sym, ap, ◌∙◌, rules}
use Rattle.ido_machine.proofs.Lists.{get_is}
use Rattle.ido_machine.proofs.LocalStates.{same_pc, other_pc}
use Rattle.ido_machine.proofs.machine.Machine.is_at.Goals as goal

pub returns-then-it-state : goal.returns-then-it-state
returns-then-it-state c = λ w model s there.
    let found : slice_get c.args.self.now.harts.items c.args.hart ≡ Some c.index-it.result.now =
    get_is c.args.self.now.harts.items c.args.hart c.index-it.result.now (search rules) ∙ ap Some (sym c.index-it.ensures) in
    let it = s.standing.each c.args.hart c.index-it.result.now model found there in
    same_pc c.index-it.result.now model c.args.state.now it.registers it.pc c.eq.result c.eq.ensures c.if-it-state.true

pub returns-else-it-state : goal.returns-else-it-state
returns-else-it-state c = λ w model s there.
    let found : slice_get c.args.self.now.harts.items c.args.hart ≡ Some c.index-it.result.now =
    get_is c.args.self.now.harts.items c.args.hart c.index-it.result.now (search rules) ∙ ap Some (sym c.index-it.ensures) in
    let it = s.standing.each c.args.hart c.index-it.result.now model found there in
    other_pc c.index-it.result.now model c.args.state.now it.registers it.pc c.if-it-state.false
