use Rattle.std.proofs.Common.{List, ℕ, ◌+◌, Vec, sym, subst}
use Rattle.std.specs.Global.{Global}
use Rattle.flow_graph.specs.Nodes.{graph_of}
use Rattle.rv64_codegen.specs.links.LiveRegisters.{AreLists}
use Rattle.rv64_codegen.proofs.LiveRegisterLists.{lists_more}
use Rattle.rv64_codegen.proofs.registers.live_lists.Goals as goal

pub loop-node-preserved : goal.loop-node-preserved
loop-node-preserved c =
    let q = c.args.plan.now in
    let g = graph_of q.graph.now in
    let Is : List (Vec ℕ Global) → Type 0 = λ xs. AreLists g c.args.homes.now q.live.now c.args.part.first (c.loop-node.node + 1) xs in
    subst Is (sym c.in_ok-push.ensures.items)
    (lists_more g c.args.homes.now q.live.now c.args.part.first c.loop-node.node c.loop-node.lists.items c.in_ok-live_registers.field-0
    c.loop-node.auto.node c.loop-node.invariant c.in_ok-live_registers.ensures)
