use Rattle.std.proofs.Common.{◌∙◌, ap, refl, subst, Bool}
use Rattle.std.specs.Option.{option_map}
use Rattle.std.proofs.lemmas.Option.{slice_get-map}
use Rattle.flow_graph.specs.Nodes.{graph_of, node_of}
use Rattle.rv64_codegen.specs.links.LiveRegisters.{AreWithPending}
use Rattle.rv64_codegen.proofs.ChosenBoundaries.{read_get}
use Rattle.rv64_codegen.proofs.LiveRegisterLists.{ok_weaker, with_pending_live}
use Rattle.rv64_codegen.proofs.registers.live_registers.Goals as goal

pub returns : goal.returns
returns c =
    let q = c.args.plan.now in
    let nodes = q.graph.now.nodes.items in
    let is = node_of c.index.result.now in
    ok_weaker c.with_pending.result _ _
    (λ r all. with_pending_live (graph_of q.graph.now) c.args.homes.now q.live.now c.args.node is
    (slice_get-map node_of nodes c.args.node ∙ ap (option_map node_of) (read_get nodes c.args.node c.index.result.now c.requires c.index.ensures))
    c.in_ok-found.found.items c.in_ok-found.ensures r.items is.action refl
    (subst (λ (b : Bool). AreWithPending c.in_ok-found.found.items b r.items) c.is_store.ensures all)) c.with_pending.ensures
