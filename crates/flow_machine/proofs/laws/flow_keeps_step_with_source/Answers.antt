use Rattle.flow_machine.proofs.Lockstep.{answers_agree, keeps_step}
use Rattle.flow_machine.proofs.laws.flow_keeps_step_with_source.Goals as goal

pub returns-clause-answers : goal.returns-clause-answers
returns-clause-answers c = answers_agree

pub returns-clause-runs : goal.returns-clause-runs
returns-clause-runs c = keeps_step
