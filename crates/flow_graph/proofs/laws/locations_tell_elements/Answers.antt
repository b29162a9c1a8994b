use Rattle.flow_graph.proofs.Locations.{common_overlaps, same_element}
use Rattle.flow_graph.proofs.laws.locations_tell_elements.Goals as goal

pub returns-clause-overlap : goal.returns-clause-overlap
returns-clause-overlap c = common_overlaps

pub returns-clause-same : goal.returns-clause-same
returns-clause-same c = same_element
