use Rattle.std.proofs.lemmas.Result.{on_ok_weaker}
use Rattle.node_code.proofs.WritePieces.{is_plain_write}
use Rattle.node_code.proofs.evaluation.push_plain_write.Goals as goal

pub returns : goal.returns
returns c = on_ok_weaker c.append_write.result (λ e. record { piece = _; appended = e; is = is_plain_write c.args.code.now }) c.append_write.ensures
