use Rattle.rv64_codegen.proofs.ReadLocals.{target_is_at_home}
use Rattle.rv64_codegen.proofs.laws.target_is_at_home.Goals as goal

pub returns : goal.returns
returns c = target_is_at_home
