use Rattle.region_attempts.proofs.GraphFollowsSource.{graph_stands, graph_follows, graph_settles}
use Rattle.region_attempts.proofs.laws.graph_stands.Goals as goal

pub returns-clause-stands : goal.returns-clause-stands
returns-clause-stands c = graph_stands

pub returns-clause-follows : goal.returns-clause-follows
returns-clause-follows c = graph_follows

pub returns-clause-settles : goal.returns-clause-settles
returns-clause-settles c = graph_settles
