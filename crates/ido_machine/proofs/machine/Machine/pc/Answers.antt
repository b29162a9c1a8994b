use Rattle.std.proofs.Common.{◌≡◌, slice_get, Some, sym, ap, ◌∙◌, rules}
use Rattle.ido_machine.proofs.Lists.{get_is}
use Rattle.ido_machine.proofs.machine.Machine.pc.Goals as goal

pub returns : goal.returns
returns c =
    λ w model s there. let found : slice_get c.args.self.now.harts.items c.args.hart ≡ Some c.index.result.now =
    get_is c.args.self.now.harts.items c.args.hart c.index.result.now (search rules) ∙ ap Some (sym c.index.ensures) in
    sym (s.standing.each c.args.hart c.index.result.now model found there).pc
