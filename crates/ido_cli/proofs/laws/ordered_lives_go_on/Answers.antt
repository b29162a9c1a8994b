use Rattle.ido_cli.proofs.OrderedLives.{ordered_files, ordered_lives}
use Rattle.ido_cli.proofs.laws.ordered_lives_go_on.Goals as goal

pub returns-clause-starts : goal.returns-clause-starts
returns-clause-starts c = ordered_lives c.lives_are_compiled.ensures.starts c.none_deadlocks.ensures.run

pub returns-clause-files : goal.returns-clause-files
returns-clause-files c = ordered_files c.lives_are_compiled.ensures.files c.none_deadlocks.ensures.resumed
