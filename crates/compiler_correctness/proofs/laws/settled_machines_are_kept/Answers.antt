use Rattle.compiler_correctness.proofs.AbstractRunAccount.{settled_machines_are_kept}
use Rattle.compiler_correctness.proofs.laws.settled_machines_are_kept.Goals as goal

pub returns : goal.returns
returns c = settled_machines_are_kept c.machines_resume.ensures
