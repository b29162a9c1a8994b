use Rattle.compiler_correctness.proofs.BoundedDelay.{delays_are_bounded}
use Rattle.compiler_correctness.proofs.laws.delays_are_bounded.Goals as goal

pub returns : goal.returns
returns c = delays_are_bounded c.events_stand.ensures c.fragments_step.ensures c.cores_step.ensures c.local_stores_step.ensures c.fragments_go_on.ensures
