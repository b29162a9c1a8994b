use Rattle.compiler_correctness.proofs.ImagesAsCrashes.{images_are_crashes}
use Rattle.compiler_correctness.proofs.laws.images_are_crashes.Goals as goal

pub returns : goal.returns
returns c = images_are_crashes
