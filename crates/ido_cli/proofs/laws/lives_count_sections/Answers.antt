use Rattle.ido_cli.proofs.CountedLives.{files_counted, starts_counted}
use Rattle.ido_cli.proofs.laws.lives_count_sections.Goals as goal

pub returns-clause-starts : goal.returns-clause-starts
returns-clause-starts c = starts_counted

pub returns-clause-files : goal.returns-clause-files
returns-clause-files c = files_counted c.files_begin.ensures c.images_are_crashes.ensures c.lives_are_compiled.ensures.files
