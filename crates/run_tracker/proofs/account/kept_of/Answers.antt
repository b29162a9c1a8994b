use Rattle.std.proofs.Common.{drop, sym, ◌∙◌, arith}
use Rattle.run_tracker.specs.links.AccountRepresentation.{bound_in}
use Rattle.run_tracker.proofs.StoreScans.{stops_steps, stops_later, counts, durable_few}
use Rattle.run_tracker.proofs.account.kept_of.Goals as goal

pub returns-then-store-durable-clause-steps : goal.returns-then-store-durable-clause-steps
returns-then-store-durable-clause-steps c =
    let none = stops_steps c.args.stores.now c.args.hart c.args.durable c.loop-at.at c.loop-at-test.true c.if-store-hart.true c.loop-at.invariant.ascending
    c.if-store-durable.true in
    omega (arith, none, c.loop-at.invariant.steps)

pub returns-then-store-durable-clause-rest : goal.returns-then-store-durable-clause-rest
returns-then-store-durable-clause-rest c =
    sym (stops_later c.args.stores.now c.args.hart c.args.durable c.loop-at.at c.loop-at-test.true c.if-store-hart.true c.loop-at.invariant.ascending
    c.if-store-durable.true) ∙ c.loop-at.invariant.rest

pub overflow_add-steps : goal.overflow_add-steps
overflow_add-steps c =
    let these = counts c.args.stores.now c.args.hart c.args.durable c.loop-at.at c.loop-at-test.true c.if-store-hart.true c.if-store-durable.false in
    let all = durable_few c.args.durable (bound_in (drop c.args.first c.args.stores.now) c.args.hart) in
    omega (arith, these, all, c.loop-at.invariant.steps, c.requires.few)
