use Rattle.std.proofs.Common.{◌≡◌, slice_get, Some, sym, ap, ◌∙◌, rules}
use Rattle.rv64_isa.specs.Programs.{fetched}
use Rattle.ido_machine.proofs.Lists.{get_is}
use Rattle.ido_machine.proofs.machine.Machine.step.Goals as goal

pub returns-clause-world : goal.returns-clause-world
returns-clause-world c = λ w s. c.execute.ensures.world w s (λ model there.
    let machine = c.args.self.now in
    let found : slice_get machine.harts.items c.args.hart ≡ Some c.index.result.now =
    get_is machine.harts.items c.args.hart c.index.result.now (search rules) ∙ ap Some (sym c.index.ensures) in
    let it = s.standing.each c.args.hart c.index.result.now model found there in
    c.fetch-next.ensures ∙ ap (fetched machine.program c.args.hart) (sym it.pc))
