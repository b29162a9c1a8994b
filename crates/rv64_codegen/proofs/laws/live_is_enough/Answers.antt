use Rattle.rv64_codegen.proofs.ReadLocals.{live_is_enough}
use Rattle.rv64_codegen.proofs.laws.live_is_enough.Goals as goal

pub returns : goal.returns
returns c = live_is_enough
