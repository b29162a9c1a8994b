use Rattle.std.proofs.Common.{◌∙◌, ap, Some, arith}
use Rattle.std.specs.Option.{option_map}
use Rattle.std.proofs.lemmas.Option.{slice_get-map}
use Rattle.flow_graph.specs.Nodes.{graph_of, node_of}
use Rattle.flow_graph.specs.IdempotentCuts.{boundaries_of}
use Rattle.rv64_codegen.proofs.Public.{read_get, chosen_then, chosen_else}
use Rattle.flat_compile.proofs.resumes.is_chosen.Goals as goal

pub returns-then-index : goal.returns-then-index
returns-then-index c =
    let q = c.args.plan.now in
    let nodes = q.graph.now.nodes.items in
    let before = q.cuts.now.before.items in
    chosen_then (graph_of q.graph.now) (boundaries_of q.cuts.now) c.args.node (node_of c.index-then-index.result.now) c.gives.result
    (read_get before c.args.node c.index.result.now (omega (arith, c.requires.node, c.requires.cuts)) c.index.ensures ∙ ap (λ b. Some b) c.if-index.true)
    (slice_get-map node_of nodes c.args.node
    ∙ ap (option_map node_of) (read_get nodes c.args.node c.index-then-index.result.now c.requires.node c.index-then-index.ensures))
    c.gives.ensures

pub returns-else-index : goal.returns-else-index
returns-else-index c =
    let q = c.args.plan.now in
    let before = q.cuts.now.before.items in
    chosen_else (graph_of q.graph.now) (boundaries_of q.cuts.now) c.args.node c.index.result.now
    (read_get before c.args.node c.index.result.now (omega (arith, c.requires.node, c.requires.cuts)) c.index.ensures) c.if-index.false
