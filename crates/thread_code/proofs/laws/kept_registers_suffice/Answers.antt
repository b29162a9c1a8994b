use Rattle.thread_code.proofs.KeptRegistersAtNodes.{enters_again}
use Rattle.thread_code.proofs.laws.kept_registers_suffice.Goals as goal

pub returns : goal.returns
returns c = enters_again
