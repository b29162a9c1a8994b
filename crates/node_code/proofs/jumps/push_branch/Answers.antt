use Rattle.std.proofs.lemmas.Result.{on_ok_weaker}
use Rattle.node_code.proofs.JumpPieces.{is_branch}
use Rattle.node_code.proofs.jumps.push_branch.Goals as goal

pub returns : goal.returns
returns c = on_ok_weaker c.push_item.result (λ e. record { piece = _; appended = e; is = is_branch c.args.test c.args.to }) c.push_item.ensures
