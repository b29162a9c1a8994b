use Rattle.std.proofs.Common.{◌≡◌, ℕ, ◌+◌, ◌-◌, arith, subst, sym}
use Rattle.hart_driver.specs.declared.sweep.Outcome.{Outcome}
use Rattle.hart_driver.specs.Outcomes.{AreOutcomes}
use Rattle.hart_driver.proofs.PointsInOrder.{one_more}
use Rattle.hart_driver.proofs.sweep.outcomes_in_turn.Goals as goal

pub loop-k-preserved : goal.loop-k-preserved
loop-k-preserved g c =
    let P = g.P.Replay.is_outcome c.args.replay.now in
    let first = c.args.first in
    let k = c.loop-k.k in
    let inv = c.loop-k.invariant in
    let at : k ≡ first + (k - first) = omega (arith, inv.0) in
    let next : k - first + 1 ≡ k + 1 - first = omega (arith, inv.0) in (
      omega (arith, inv.0),
      subst (λ (n : ℕ). AreOutcomes P first n c.push.new.outcomes.items) next
          (one_more P first (k - first) c.loop-k.outcomes.items c.push.new.outcomes.items c.in_ok-one.one c.in_ok-push.ensures inv.1
          (subst (λ (n : ℕ). P n c.in_ok-one.one) at (subst (λ (o : Outcome). P k o) (sym c.in_ok-one.ensures) c.in_ok-outcome.ensures))),
    )
