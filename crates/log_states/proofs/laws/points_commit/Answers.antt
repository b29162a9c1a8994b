use Rattle.log_states.proofs.BoundaryCommits.{begins_uncommitted, point_is, stays_committed, ends_committed, point_store_is_last, position_stays}
use Rattle.log_states.proofs.BoundaryCommits.{committed_where_durable}
use Rattle.log_states.proofs.LivePoints.{live_is}
use Rattle.log_states.proofs.laws.points_commit.Goals as goal

pub returns-clause-begins : goal.returns-clause-begins
returns-clause-begins c = begins_uncommitted

pub returns-clause-point : goal.returns-clause-point
returns-clause-point c = point_is

pub returns-clause-live : goal.returns-clause-live
returns-clause-live c = live_is

pub returns-clause-stays : goal.returns-clause-stays
returns-clause-stays c = stays_committed

pub returns-clause-ends : goal.returns-clause-ends
returns-clause-ends c = ends_committed

pub returns-clause-store : goal.returns-clause-store
returns-clause-store c = point_store_is_last

pub returns-clause-position : goal.returns-clause-position
returns-clause-position c = position_stays

pub returns-clause-durable : goal.returns-clause-durable
returns-clause-durable c = committed_where_durable
