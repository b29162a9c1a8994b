use Rattle.thread_code.proofs.KeptRegistersAtNodes.{ready_whatever}
use Rattle.thread_code.proofs.laws.cores_see_no_variable.Goals as goal

pub returns : goal.returns
returns c = ready_whatever
