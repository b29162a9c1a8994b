use Rattle.crash_bounds.proofs.Losses.{crashes_undo_one_stretch}
use Rattle.crash_bounds.proofs.laws.crashes_undo_one_stretch.Goals as goal

pub returns : goal.returns
returns c = crashes_undo_one_stretch c.machines_resume.ensures
