use Rattle.flow_graph.proofs.GraphStateInvariants.{reads_lie, writes_lie}
use Rattle.flow_graph.proofs.laws.elements_lie_in_locations.Goals as goal

pub returns-clause-reads : goal.returns-clause-reads
returns-clause-reads c = reads_lie

pub returns-clause-writes : goal.returns-clause-writes
returns-clause-writes c = writes_lie
