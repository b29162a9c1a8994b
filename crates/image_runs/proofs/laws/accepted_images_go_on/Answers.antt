use Rattle.image_runs.proofs.ShapedRuns.{accepted_go_on}
use Rattle.image_runs.proofs.laws.accepted_images_go_on.Goals as goal

pub returns : goal.returns
returns c = accepted_go_on c.images_have_shape.ensures.accepted c.shapes_are_states.ensures c.settled_images_go_on.ensures
