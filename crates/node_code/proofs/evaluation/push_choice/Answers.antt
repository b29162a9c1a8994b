use Rattle.std.proofs.lemmas.Result.{on_ok_weaker}
use Rattle.node_code.proofs.ComputingPieces.{is_choice}
use Rattle.node_code.proofs.evaluation.push_choice.Goals as goal

pub returns : goal.returns
returns c = on_ok_weaker c.append_choice.result (λ e. record { piece = _; appended = e; is = is_choice c.args.test c.args.to c.args.code.now })
    c.append_choice.ensures
