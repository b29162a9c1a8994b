use Rattle.region_attempts.proofs.ExecutionsStayInRegion.{executions_stay}
use Rattle.region_attempts.proofs.laws.executions_stay.Goals as goal

pub returns : goal.returns
returns c = executions_stay
