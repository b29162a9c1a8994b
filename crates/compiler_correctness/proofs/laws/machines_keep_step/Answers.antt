use Rattle.compiler_correctness.proofs.MachineLockstep.{machines_keep_step}
use Rattle.compiler_correctness.proofs.laws.machines_keep_step.Goals as goal

pub returns : goal.returns
returns c = machines_keep_step c.marks_pass.ensures c.fragments_step.ensures c.cores_step.ensures c.local_stores_step.ensures c.fragments_go_on.ensures
