use Rattle.hart_core.proofs.step.apply.Goals as goal

pub returns-in-Writes-clause-step : goal.returns-in-Writes-clause-step
returns-in-Writes-clause-step c = rw c.in-Writes.is (c.write_and_go.ensures c.args.number c.args.phase.now c.args.memory.now c.args.locks.now)

pub returns-in-Goes-clause-step : goal.returns-in-Goes-clause-step
returns-in-Goes-clause-step c = rw c.in-Goes.is (c.go.ensures c.args.number c.args.phase.now c.args.memory.now c.args.locks.now)

pub returns-in-Loads-clause-step : goal.returns-in-Loads-clause-step
returns-in-Loads-clause-step c = rw c.in-Loads.is (c.load.ensures c.args.number c.args.phase.now c.args.locks.now)

pub returns-in-Stores-clause-step : goal.returns-in-Stores-clause-step
returns-in-Stores-clause-step c = rw c.in-Stores.is (c.store.ensures.step c.args.number c.args.phase.now c.args.locks.now)

pub returns-in-Cleans-clause-step : goal.returns-in-Cleans-clause-step
returns-in-Cleans-clause-step c = rw c.in-Cleans.is (c.clean.ensures.step c.args.number c.args.phase.now c.args.locks.now)

pub returns-in-Fences-clause-step : goal.returns-in-Fences-clause-step
returns-in-Fences-clause-step c = rw c.in-Fences.is (c.fence.ensures.step c.args.number c.args.phase.now c.args.locks.now)

pub returns-in-Calls-clause-step : goal.returns-in-Calls-clause-step
returns-in-Calls-clause-step c = rw c.in-Calls.is (c.call.ensures.step c.args.memory.now)
