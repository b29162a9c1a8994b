use Rattle.source_machine.proofs.GuardedAccesses.{writes_guarded, leaves_others, leaves_held, reads_guarded}
use Rattle.source_machine.proofs.laws.steps_are_guarded.Goals as goal

pub returns-clause-writes : goal.returns-clause-writes
returns-clause-writes c = writes_guarded

pub returns-clause-of_others : goal.returns-clause-of_others
returns-clause-of_others c = leaves_others

pub returns-clause-held : goal.returns-clause-held
returns-clause-held c = leaves_held

pub returns-clause-reads : goal.returns-clause-reads
returns-clause-reads c = reads_guarded
