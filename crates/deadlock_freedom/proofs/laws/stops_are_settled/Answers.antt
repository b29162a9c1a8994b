use Rattle.deadlock_freedom.proofs.Compilations.{stops_are_settled}
use Rattle.deadlock_freedom.proofs.laws.stops_are_settled.Goals as goal

pub returns : goal.returns
returns c = stops_are_settled c.locks_ascend.ensures
