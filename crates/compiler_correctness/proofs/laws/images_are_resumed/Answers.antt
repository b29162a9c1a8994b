use Rattle.compiler_correctness.proofs.ImagesAsCrashes.{images_are_resumed}
use Rattle.compiler_correctness.proofs.laws.images_are_resumed.Goals as goal

pub returns : goal.returns
returns c = images_are_resumed c.kept_steps_grow.ensures c.settled_machines_are_kept.ensures
