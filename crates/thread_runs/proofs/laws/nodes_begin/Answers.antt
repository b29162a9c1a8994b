use Rattle.thread_runs.proofs.NodeSteps.{assignments_begin, nodes_begin}
use Rattle.thread_runs.proofs.laws.nodes_begin.Goals as goal

pub returns-clause-begins : goal.returns-clause-begins
returns-clause-begins c = nodes_begin

pub returns-clause-assigns : goal.returns-clause-assigns
returns-clause-assigns c = assignments_begin
