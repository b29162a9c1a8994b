use Rattle.source_machine.proofs.StepsKeepOthers.{others, resting}
use Rattle.source_machine.proofs.laws.others_stay.Goals as goal

pub returns-clause-step : goal.returns-clause-step
returns-clause-step c = others

pub returns-clause-run : goal.returns-clause-run
returns-clause-run c = resting
