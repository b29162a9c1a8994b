use Rattle.std.proofs.lemmas.Result.{on_ok_weaker}
use Rattle.rv64_codegen.proofs.AppendedParts.{end_done}
use Rattle.rv64_codegen.proofs.actions.push_ending.Goals as goal

pub returns : goal.returns
returns c = on_ok_weaker c.push_end.result (λ is. end_done c.args.thread.now c.args.node _ _ c.requires is) c.push_end.ensures
