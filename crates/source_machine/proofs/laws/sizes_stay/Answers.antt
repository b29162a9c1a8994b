use Rattle.source_machine.proofs.StepsKeepOthers.{sizes_stay}
use Rattle.source_machine.proofs.laws.sizes_stay.Goals as goal

pub returns : goal.returns
returns c = sizes_stay
