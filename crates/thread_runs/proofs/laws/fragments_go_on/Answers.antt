use Rattle.thread_runs.proofs.FragmentSteps.{fragments_go_on}
use Rattle.thread_runs.proofs.laws.fragments_go_on.Goals as goal

pub returns : goal.returns
returns c = fragments_go_on c.steps_are_counted.ensures.forward c.steps_are_counted.ensures.drained
