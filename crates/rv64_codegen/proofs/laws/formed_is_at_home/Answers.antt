use Rattle.rv64_codegen.proofs.ReadLocals.{formed_is_at_home}
use Rattle.rv64_codegen.proofs.laws.formed_is_at_home.Goals as goal

pub returns : goal.returns
returns c = formed_is_at_home
