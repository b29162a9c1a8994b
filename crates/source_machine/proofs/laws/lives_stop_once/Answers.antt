use Rattle.source_machine.proofs.LifeStops.{life_sizes_stay, lives_not_whole, one_life_stop}
use Rattle.source_machine.proofs.laws.lives_stop_once.Goals as goal

pub returns-clause-stop : goal.returns-clause-stop
returns-clause-stop c = one_life_stop

pub returns-clause-not_whole : goal.returns-clause-not_whole
returns-clause-not_whole c = lives_not_whole

pub returns-clause-sizes : goal.returns-clause-sizes
returns-clause-sizes c = life_sizes_stay
