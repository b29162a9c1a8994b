use Rattle.source_machine.proofs.Discipline.{start_keeps, step_keeps, run_keeps, reached_keeps}
use Rattle.source_machine.proofs.HeldBeforeContinuations.{held_is_given, plain_is_given, set_is_one}
use Rattle.source_machine.proofs.KeptNames.{leaves_names}
use Rattle.source_machine.proofs.laws.discipline_is_kept.Goals as goal

pub returns-clause-start : goal.returns-clause-start
returns-clause-start c = start_keeps

pub returns-clause-step : goal.returns-clause-step
returns-clause-step c = step_keeps

pub returns-clause-run : goal.returns-clause-run
returns-clause-run c = run_keeps

pub returns-clause-reached : goal.returns-clause-reached
returns-clause-reached c = reached_keeps

pub returns-clause-held : goal.returns-clause-held
returns-clause-held c = held_is_given

pub returns-clause-one : goal.returns-clause-one
returns-clause-one c = set_is_one

pub returns-clause-plain : goal.returns-clause-plain
returns-clause-plain c = plain_is_given

pub returns-clause-names : goal.returns-clause-names
returns-clause-names c = leaves_names
