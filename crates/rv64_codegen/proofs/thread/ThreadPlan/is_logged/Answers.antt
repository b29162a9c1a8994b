use Rattle.std.proofs.Common.{◌∙◌, ap, arith, refl, sym, Bool, not, ◌&&◌}
use Rattle.std.specs.Option.{option_map}
use Rattle.std.proofs.lemmas.Option.{slice_get-map}
use Rattle.std.proofs.lemmas.List.{length-map}
use Rattle.flow_graph.specs.Nodes.{node_of, graph_of}
use Rattle.flow_graph.specs.Liveness.{NodeAt}
use Rattle.rv64_codegen.specs.links.Threads.{opens_at}
use Rattle.rv64_codegen.proofs.ChosenBoundaries.{read_get}
use Rattle.rv64_codegen.proofs.LoggedNodes.{logged_by}
use Rattle.rv64_codegen.proofs.NodePieces.{exists_at, target_at}
use Rattle.rv64_codegen.proofs.thread.ThreadPlan.is_logged.Goals as goal
use Rattle.rv64_codegen.proofs.thread.ThreadPlan.is_logged.Goals.{After-index}

pub index-requires : goal.index-requires
index-requires c =
    let nodes = c.args.self.now.plan.now.graph.now.nodes in
    omega (arith, exists_at c.args.self.now c.args.node c.requires, length-map nodes.items node_of, nodes.ok.0)

found : (c : After-index) → NodeAt (graph_of c.args.self.now.plan.now.graph.now) c.args.node (node_of c.index.result.now)
found c =
    let nodes = c.args.self.now.plan.now.graph.now.nodes.items in
    slice_get-map node_of nodes c.args.node
    ∙ ap (option_map node_of) (read_get nodes c.args.node c.index.result.now
    (omega (arith, exists_at c.args.self.now c.args.node c.requires, length-map nodes node_of)) c.index.ensures)

pub sets_framed-requires : goal.sets_framed-requires
sets_framed-requires c =
    target_at c.args.self.now c.args.node _
    (record { own = c.requires; is = node_of c.index.result.now; at = found (goal.at.sets_framed-requires c).After-index; action_is = refl })

pub returns-then-sets_framed : goal.returns-then-sets_framed
returns-then-sets_framed c =
    let x = c.args.self.now in
    let opens : Bool = opens_at x c.args.node in
    c.holds_some.ensures
    ∙ (sym (ap (λ (b : Bool). b && not opens) c.if-sets_framed.true)
    ∙ logged_by x c.requires.open_is c.args.node c.requires.own (node_of c.index.result.now) (found (goal.at.returns-then-sets_framed c).After-index)
    c.sets_framed.result c.sets_framed.ensures)

pub returns-else-sets_framed : goal.returns-else-sets_framed
returns-else-sets_framed c =
    let x = c.args.self.now in
    let opens : Bool = opens_at x c.args.node in
    c.if-sets_framed.false
    ∙ (sym (ap (λ (b : Bool). b && not opens) c.if-sets_framed.false)
    ∙ logged_by x c.requires.open_is c.args.node c.requires.own (node_of c.index.result.now) (found (goal.at.returns-else-sets_framed c).After-index)
    c.sets_framed.result c.sets_framed.ensures)
