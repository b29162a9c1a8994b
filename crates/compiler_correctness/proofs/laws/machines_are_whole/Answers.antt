use Rattle.compiler_correctness.proofs.Records.{machines_are_whole}
use Rattle.compiler_correctness.proofs.laws.machines_are_whole.Goals as goal

pub returns : goal.returns
returns c = machines_are_whole c.machines_resume.ensures
