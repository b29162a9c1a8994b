use Rattle.image_runs.proofs.AcceptedShapes.{accepted_have_shape}
use Rattle.image_runs.proofs.LeftShapes.{crashes_leave_shape}
use Rattle.image_runs.proofs.laws.images_have_shape.Goals as goal

pub returns-clause-accepted : goal.returns-clause-accepted
returns-clause-accepted c = accepted_have_shape

pub returns-clause-left : goal.returns-clause-left
returns-clause-left c = crashes_leave_shape c.machines_resume.ensures
