use Rattle.std.proofs.Common.{◌≡◌, ℕ, arith, subst}
use Rattle.rv64_codegen.specs.links.Threads.{plan_in, thread_of}
use Rattle.rv64_codegen.proofs.JoinedPieces.{Begun, begun_more, thread_emitted}
use Rattle.rv64_codegen.proofs.PlannedNodes.{first_below}
use Rattle.rv64_codegen.proofs.emission.thread_items.Goals as goal

pub loop-node-preserved : goal.loop-node-preserved
loop-node-preserved c =
    begun_more c.args.thread.now c.loop-node.node c.loop-node.items.items c.push_label.new.items.items c.push_node.new.items.items c.label.result
    c.loop-node.auto.node c.label.ensures c.loop-node.invariant c.in_ok-push_label.ensures c.in_ok-push_node.ensures

pub returns : goal.returns
returns c =
    let x = c.args.thread.now in
    let o = c.requires in
    let less = first_below (plan_in x) o.plan (thread_of x) o.thread in
    let e : c.loop-node.node ≡ x.part.end = omega (arith, c.loop-node-test.false, less, c.loop-node.auto.node-end (omega (arith, less))) in
    thread_emitted x c.loop-node.items.items o (subst (λ (n : ℕ). Begun x n c.loop-node.items.items) e c.loop-node.invariant)
