use Rattle.std.proofs.Common.{List, get_or, sym, ap, ◌∙◌}
use Rattle.machine_model.specs.declared.phase.Phase.{Phase}
use Rattle.machine_model.specs.Machine.{Hart}
use Rattle.ido_machine.proofs.Lists.{get_map}
use Rattle.ido_machine.proofs.machine.Machine.phase.Goals as goal

pub returns : goal.returns
returns c =
    λ w model s there. c.index.ensures ∙ ap (λ (phases : List Phase). get_or phases c.args.hart c.index.result.now) (sym s.phases)
    ∙ get_map (λ (hart : Hart). hart.phase) w.harts c.args.hart model c.index.result.now there
