use Rattle.crash_bounds.proofs.Entries.{images_are_entered, recovery_is_entered}
use Rattle.crash_bounds.proofs.laws.recovery_is_entered.Goals as goal

pub returns-clause-run : goal.returns-clause-run
returns-clause-run c = recovery_is_entered

pub returns-clause-image : goal.returns-clause-image
returns-clause-image c = images_are_entered
