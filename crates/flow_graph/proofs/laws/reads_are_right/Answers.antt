use Rattle.flow_graph.proofs.Paths.{plain_paths, reads_are_right}
use Rattle.flow_graph.proofs.laws.reads_are_right.Goals as goal

pub returns-clause-right : goal.returns-clause-right
returns-clause-right c = reads_are_right

pub returns-clause-plain : goal.returns-clause-plain
returns-clause-plain c = plain_paths
