use Rattle.thread_runs.proofs.MarkSteps.{marks_pass}
use Rattle.thread_runs.proofs.laws.marks_pass.Goals as goal

pub returns : goal.returns
returns c = marks_pass c.steps_are_counted.ensures.forward c.steps_are_counted.ensures.drained
