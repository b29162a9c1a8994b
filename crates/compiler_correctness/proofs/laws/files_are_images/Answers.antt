use Rattle.compiler_correctness.proofs.ImageWords.{files_are_images}
use Rattle.compiler_correctness.proofs.laws.files_are_images.Goals as goal

pub returns : goal.returns
returns c = files_are_images c.events_stand.ensures c.words_between_stay.ensures
