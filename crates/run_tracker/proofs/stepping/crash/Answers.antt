use Rattle.machine_model.specs.Schedule.{steps_after}
use Rattle.run_tracker.proofs.stepping.crash.Goals as goal

pub returns-clause-steps : goal.returns-clause-steps
unfolding steps_after
returns-clause-steps c = λ marks w s stands. c.lose.ensures.stands s stands
