use Rattle.std.proofs.Common.{refl}
use Rattle.std.proofs.lemmas.Result.{on_ok_weaker}
use Rattle.flow_graph.specs.Nodes.{Store}
use Rattle.rv64_codegen.proofs.AppendedParts.{store_done}
use Rattle.rv64_codegen.proofs.NodePieces.{formed_at}
use Rattle.rv64_codegen.proofs.actions.push_making.Goals as goal

pub push_fragment-requires : goal.push_fragment-requires
push_fragment-requires c = formed_at c.args.thread.now c.args.node (Store c.args.variable c.args.kind c.args.next) c.requires

pub returns : goal.returns
returns c =
    on_ok_weaker c.push_fragment.result
    (λ fragment. store_done c.args.thread.now c.args.node c.args.variable c.args.kind c.args.next _ _ _ _ c.requires refl c.in_ok-push_store.ensures fragment)
    c.push_fragment.ensures
