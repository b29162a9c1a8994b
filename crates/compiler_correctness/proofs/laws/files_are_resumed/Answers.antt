use Rattle.compiler_correctness.proofs.ImageWords.{files_are_resumed}
use Rattle.compiler_correctness.proofs.laws.files_are_resumed.Goals as goal

pub returns : goal.returns
returns c = files_are_resumed c.files_are_images.ensures c.images_are_resumed.ensures
