use Rattle.std.proofs.Common.{◌≡◌, ◌+◌, sym, subst, map, List, Some}
use Rattle.hart_board.specs.BoardRule.{numbers_from}
use Rattle.hart_driver.specs.declared.stop.Stop.{Stop}
use Rattle.hart_driver.specs.Legs.{stop_of}
use Rattle.hart_driver.specs.links.UnderWay.{leg_from, since}
use Rattle.hart_driver.proofs.Stops.{stops_more}
use Rattle.hart_driver.proofs.finishing.stop_or_make.Goals as goal

pub returns-in-Some-clause-stops : goal.returns-in-Some-clause-stops
returns-in-Some-clause-stops g c size are =
    let leg = leg_from g.C.Core.behaviour g.C.Core.opening g.C.Core.history g.C.Core.hart_count g.V.Evictions.coming c.args.start.now in
    let events = since g.C.Core.history c.args.start.now c.args.core.now in
    subst (λ (z : List Stop). map Some z ≡ map (λ w. stop_of leg w events) (numbers_from 0 (c.args.worker + 1))) (sym c.push_reserved.ensures.items)
    (stops_more leg events c.args.worker c.args.stops.now.items c.in-Some.stop are c.in-Some.ensures)
