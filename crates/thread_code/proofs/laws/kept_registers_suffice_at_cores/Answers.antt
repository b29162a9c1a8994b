use Rattle.thread_code.proofs.KeptRegistersAtNodes.{ready_again}
use Rattle.thread_code.proofs.laws.kept_registers_suffice_at_cores.Goals as goal

pub returns : goal.returns
returns c = ready_again
