use Rattle.std.proofs.lemmas.Result.{on_ok_weaker}
use Rattle.node_code.proofs.ComputingPieces.{is_computing}
use Rattle.node_code.proofs.evaluation.push_computing.Goals as goal

pub returns : goal.returns
returns c = on_ok_weaker c.append_computing.result (λ e. record { piece = _; appended = e; is = is_computing c.args.code.now }) c.append_computing.ensures
