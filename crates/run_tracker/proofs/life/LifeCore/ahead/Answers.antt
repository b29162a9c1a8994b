use Rattle.run_tracker.proofs.Beginnings.{same_beginning}
use Rattle.run_tracker.proofs.life.LifeCore.ahead.Goals as goal

pub returns-clause-beginning : goal.returns-clause-beginning
returns-clause-beginning c core hart =
    same_beginning core hart c.args.local.now c.ahead.new.self c.ahead.result c.ahead.ensures.value
