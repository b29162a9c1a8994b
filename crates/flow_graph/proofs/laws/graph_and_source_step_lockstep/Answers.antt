use Rattle.flow_graph.proofs.Lockstep.{begins_lockstep, steps_lockstep, runs_lockstep}
use Rattle.flow_graph.proofs.laws.graph_and_source_step_lockstep.Goals as goal

pub returns-clause-begins : goal.returns-clause-begins
returns-clause-begins c = begins_lockstep

pub returns-clause-steps : goal.returns-clause-steps
returns-clause-steps c = steps_lockstep

pub returns-clause-runs : goal.returns-clause-runs
returns-clause-runs c = runs_lockstep
