-- What is needed to keep the steps of a hart, and what is so after it.
use Rattle.std.proofs.Common.{◌≡◌, ℕ, ◌+◌, ◌<◌, ◌≤◌, length, ap, subst, arith}
use Rattle.std.specs.Vec.{vec_capacity}
use Rattle.machine_model.specs.Schedule.{with_kept}
use Rattle.ido_machine.specs.declared.machine.Machine.{Machine}
use Rattle.run_tracker.specs.declared.account.Account.{Account}
use Rattle.run_tracker.specs.links.AccountRepresentation.{AccountInv, AreInOrder, IsAscending, all_kept, bound_at, open_at, steps_of, total, weight}
use Rattle.run_tracker.specs.links.LifeParts.{HasSteps}
use Rattle.run_tracker.proofs.OwnSteps.{each_total, fewer, of_hart}
use Rattle.run_tracker.proofs.StepOrder.{ascending_order, order-kept}
use Rattle.run_tracker.proofs.StepTotals.{weight-kept}

module _ (machine : Machine) (account : Account) (h : ℕ) (has : HasSteps machine account) (within : h < length account.harts.items) where
  -- the stores to which its steps are bound are in order
  pub in_order : IsAscending (bound_at account h)
  in_order = ascending_order h (bound_at account h) _ (has.stands.some h within) (subst AreInOrder (has.stands.each h within) (has.in_order h))

  -- there are no more bound steps than there are pending ones
  pub bound_few : length (all_kept has.steps) + total (bound_at account h) ≤ weight has.steps
  bound_few =
      omega (
        arith,
        ap length (has.stands.each h within),
        each_total h (steps_of account.stores.items h (open_at account h)),
        fewer (of_hart h) has.steps.pending,
      )

  pub has_later : (after : Account) → AccountInv after (with_kept has.world.log has.world.words h has.steps) →
      vec_capacity after.kept ≡ vec_capacity account.kept →
      HasSteps machine after
  has_later after stands capacity = record {
    world = has.world;
    at = has.at;
    steps = with_kept has.world.log has.world.words h has.steps;
    stands = stands;
    in_order = order-kept has.world.log has.world.words h has.steps has.in_order;
    room = omega (arith, capacity, same, has.room);
    few = omega (arith, same, has.few);
  }
    where
      same : weight (with_kept has.world.log has.world.words h has.steps) ≡ weight has.steps
      same = weight-kept has.world.log has.world.words h has.steps
