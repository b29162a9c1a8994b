use Rattle.std.proofs.Common.{◌≡◌, ◌<◌, length, slice_get, Some, not, sym, ap, ◌∙◌, arith, rules}
use Rattle.ido_machine.proofs.Lists.{get_is, get_some}
use Rattle.ido_machine.proofs.machine.Machine.is_enabled.Goals as goal

pub returns : goal.returns
returns c = λ w s.
    let machine = c.args.self.now in
    let within : c.args.hart < length machine.harts.items = search rules in
    let some = get_some w.harts c.args.hart (omega (arith, within, s.standing.count)) in
    let found : slice_get machine.harts.items c.args.hart ≡ Some c.index.result.now =
    get_is machine.harts.items c.args.hart c.index.result.now within ∙ ap Some (sym c.index.ensures) in
    let it = s.standing.each c.args.hart c.index.result.now some.0 found some.1 in
    ap not (c.is_idle.ensures w some.0 s.words s.log s.holders (s.phases ∙ sym c.deref.ensures.value) some.1 it.registers it.pc)
