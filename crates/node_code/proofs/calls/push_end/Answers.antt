use Rattle.std.proofs.lemmas.Result.{on_ok_weaker}
use Rattle.node_code.proofs.CallPieces.{is_end}
use Rattle.node_code.proofs.calls.push_end.Goals as goal

pub returns : goal.returns
returns c = on_ok_weaker c.append_end.result (λ e. record { piece = _; appended = e; is = is_end }) c.append_end.ensures
