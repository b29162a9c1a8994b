use Rattle.ido_cli.proofs.RecoveredImages.{run_images_are_recovered, runs_are_recovered}
use Rattle.ido_cli.proofs.laws.runs_are_recovered.Goals as goal

pub returns-clause-written : goal.returns-clause-written
returns-clause-written c = runs_are_recovered c.run_images_are_read.ensures

pub returns-clause-files : goal.returns-clause-files
returns-clause-files c = run_images_are_recovered c.run_images_are_read.ensures
