use Rattle.rv64_codegen.proofs.EmittedThreads.{emitted_is_code}
use Rattle.rv64_codegen.proofs.laws.emitted_is_code.Goals as goal

pub returns : goal.returns
returns c = emitted_is_code
