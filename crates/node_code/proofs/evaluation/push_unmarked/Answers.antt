use Rattle.std.proofs.lemmas.Result.{on_ok_weaker}
use Rattle.node_code.proofs.WritePieces.{is_unmarked}
use Rattle.node_code.proofs.evaluation.push_unmarked.Goals as goal

pub returns : goal.returns
returns c = on_ok_weaker c.push_plain.result (λ e. record { piece = _; appended = e; is = is_unmarked c.args.code.now }) c.push_plain.ensures
