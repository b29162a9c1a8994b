use Rattle.compiler_correctness.proofs.SettledImages.{settled_images_go_on}
use Rattle.compiler_correctness.proofs.laws.settled_images_go_on.Goals as goal

pub returns : goal.returns
returns c =
    settled_images_go_on c.recovered_are_counted.ensures c.marks_pass.ensures c.fragments_step.ensures c.cores_step.ensures c.local_stores_step.ensures
    c.fragments_go_on.ensures
