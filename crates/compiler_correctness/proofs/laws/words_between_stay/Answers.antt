use Rattle.compiler_correctness.proofs.ImageWords.{words_between_stay}
use Rattle.compiler_correctness.proofs.laws.words_between_stay.Goals as goal

pub returns : goal.returns
returns c = words_between_stay c.events_stand.ensures c.fragments_step.ensures c.cores_step.ensures c.local_stores_step.ensures
