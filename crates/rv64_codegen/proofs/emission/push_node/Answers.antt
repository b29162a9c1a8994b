use Rattle.std.proofs.lemmas.Result.{on_ok_weaker}
use Rattle.rv64_codegen.proofs.NodePieces.{node_is}
use Rattle.rv64_codegen.proofs.emission.push_node.Goals as goal

pub returns : goal.returns
returns c =
    on_ok_weaker c.push_action.result
    (λ done. node_is c.args.thread.now c.requires.open_is c.args.node _ _ _ c.requires.own c.in_ok-push_guard.ensures done) c.push_action.ensures
