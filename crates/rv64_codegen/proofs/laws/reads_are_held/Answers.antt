use Rattle.rv64_codegen.proofs.ReadLocals.{reads_are_held}
use Rattle.rv64_codegen.proofs.laws.reads_are_held.Goals as goal

pub returns : goal.returns
returns c = reads_are_held
