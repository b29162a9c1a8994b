use Rattle.generated_programs.proofs.Accepted.{generated_are_ordered}
use Rattle.generated_programs.proofs.laws.generated_are_ordered.Goals as goal

pub returns : goal.returns
returns c = generated_are_ordered
