use Rattle.std.proofs.Common.{◌≡◌, ◌+◌, drop}
use Rattle.run_tracker.specs.links.AccountRepresentation.{IsAscending, bound_in, durable_steps}
use Rattle.run_tracker.proofs.BoundSteps.{later}
use Rattle.run_tracker.proofs.account.kept_of.Given as goal

abbrev pub invariant-loop-at : goal.invariant-loop-at
invariant-loop-at l = record {
  steps : l.steps + durable_steps l.durable (bound_in (drop l.at l.stores) l.hart) ≡ durable_steps l.durable (bound_in (drop l.first l.stores) l.hart);
  rest : later l.durable (bound_in (drop l.at l.stores) l.hart) ≡ later l.durable (bound_in (drop l.first l.stores) l.hart);
  ascending : IsAscending (bound_in (drop l.at l.stores) l.hart);
}
