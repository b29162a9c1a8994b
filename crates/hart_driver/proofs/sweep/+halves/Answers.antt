use Rattle.std.proofs.Common.{arith}
use Rattle.hart_driver.specs.Outcomes.{AreOutcomes}
use Rattle.hart_driver.proofs.PointsInOrder.{both}
use Rattle.std.proofs.lemmas.Result.{IfOk-at_ok}
use Rattle.hart_driver.proofs.sweep.+halves.Goals as goal

pub returns : goal.returns
returns g t c =
    let P = g.P.Replay.is_outcome c.args.replay.now in
    both P c.args.first _ _ _ c.args.count _ _ c.append.new.outcomes.items c.in_ok-append.ensures (omega arith) (omega arith)
    (IfOk-at_ok (λ v. AreOutcomes P c.args.first _ v.items) c.in_ok-outcomes.was c.join-a.ensures.first)
    (IfOk-at_ok (λ v. AreOutcomes P _ _ v.items) c.in_ok-b.was c.join-a.ensures.second)
