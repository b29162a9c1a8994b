use Rattle.std.proofs.Common.{◌∙◌, ap, refl, arith}
use Rattle.std.specs.Option.{option_map}
use Rattle.std.proofs.lemmas.Option.{slice_get-map}
use Rattle.std.proofs.lemmas.List.{length-map}
use Rattle.std.proofs.lemmas.Result.{on_ok_weaker}
use Rattle.flow_graph.specs.Nodes.{node_of, graph_of}
use Rattle.flow_graph.specs.Liveness.{NodeAt}
use Rattle.rv64_codegen.proofs.ChosenBoundaries.{read_get}
use Rattle.rv64_codegen.proofs.JoinedPieces.{at_node}
use Rattle.rv64_codegen.proofs.NodePieces.{exists_at}
use Rattle.rv64_codegen.proofs.actions.push_action.Goals as goal
use Rattle.rv64_codegen.proofs.actions.push_action.Goals.{After-index}

pub index-requires : goal.index-requires
index-requires c =
    let nodes = c.args.thread.now.plan.now.graph.now.nodes in
    omega (arith, exists_at c.args.thread.now c.args.node c.requires, length-map nodes.items node_of, nodes.ok.0)

found : (c : After-index) → NodeAt (graph_of c.args.thread.now.plan.now.graph.now) c.args.node (node_of c.index.result.now)
found c =
    let nodes = c.args.thread.now.plan.now.graph.now.nodes.items in
    slice_get-map node_of nodes c.args.node
    ∙ ap (option_map node_of) (read_get nodes c.args.node c.index.result.now
    (omega (arith, exists_at c.args.thread.now c.args.node c.requires, length-map nodes node_of)) c.index.ensures)

pub push_doing-requires : goal.push_doing-requires
push_doing-requires c = record {
  own = c.requires;
  is = node_of c.index.result.now;
  at = found (goal.at.push_doing-requires c).After-index;
  action_is = refl;
}

pub returns : goal.returns
returns c =
    on_ok_weaker c.push_doing.result
    (λ done. at_node c.args.thread.now c.args.node (node_of c.index.result.now) _ _ (found (goal.at.returns c).After-index) done) c.push_doing.ensures
