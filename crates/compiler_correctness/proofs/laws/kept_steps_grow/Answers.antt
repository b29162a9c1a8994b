use Rattle.compiler_correctness.proofs.KeptSchedulePrefix.{kept_steps_grow}
use Rattle.compiler_correctness.proofs.laws.kept_steps_grow.Goals as goal

pub returns : goal.returns
returns c = kept_steps_grow
